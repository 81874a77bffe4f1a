-- That a number that is out lies on a page of the table, and that after the return its value is
-- free there, with each other number as before.
use Rattle.std.proofs.Common.{◌≡◌, ◌<◌, ℕ, List, Option, Some, min, arith, length, refl, rules, slice_set}
use Rattle.std.specs.Prelude.{slice_get}
use Rattle.std.specs.Vec.{vec_len}
use Rattle.std.proofs.lemmas.Option.{slice_get_read}
use Rattle.object_pool_cores.specs.Laws.NumberedPlaces.{IsPool-sound}
use Rattle.object_pool_cores.proofs.Cores.NumberedSteps.{items_of, out-at, out-within, Puts, Puts-at}
use Rattle.object_pool_cores.proofs.sequential.numbered_items.NumberedItems.give.Given.{Over}
use Rattle.object_pool_cores.proofs.sequential.numbered_items.NumberedItems.give.Goals.{After-index_mut}
use Rattle.object_pool_cores.proofs.sequential.numbered_items.NumberedItems.give.Goals as goal

pub unreachable-requires : goal.unreachable-requires
unreachable-requires g c =
    let pages = c.self.inside.pages in
    let count : vec_len pages ≡ length pages.items = search rules in
    let out = rw (← c.self.view_is) at c.requires.out in
    let below = out-within pages.items c.self.inside.limit c.self.inside.start c.self.inside.looked c.args.number
    c.self.invariant.0 out in
    omega (arith, below, c.in_default.ensures, c.len.ensures, count)

-- the page that was found lies in the table
here : (g : Over) (c : After-index_mut g)
    → slice_get c.self.inside.pages.items c.in-Some.page ≡ Some c.index_mut.result.now
here g c =
    let pages = c.self.inside.pages in
    let count : vec_len pages ≡ length pages.items = search rules in
    let within : c.in-Some.page < length pages.items = omega (arith, c.in-Some.ensures.2, c.len.ensures, count) in
    slice_get_read pages.items (length pages.items) c.in-Some.page _ refl within c.index_mut.ensures.value

-- with its value at its id, the items have it at its number
puts : (g : Over) (c : After-index_mut g) (left : List (Option g.row.T.Denot)) (start : ℕ)
    → left ≡ slice_set c.index_mut.result.now c.in-Some.id (Some c.args.value)
    → start ≡ min c.self.inside.start c.in-Some.page
    → Puts g.K.Clean.meets
    (items_of c.self.inside.pages.items c.self.inside.limit c.self.inside.start c.self.inside.looked) c.args.number
    c.args.value (slice_set c.self.inside.pages.items c.in-Some.page left) start
puts g c left start freed lower =
    Puts-at g.K.Clean.meets _ _ _ _ c.in-Some.page c.in-Some.id c.args.number c.args.value _ left start
    c.self.invariant.0 c.self.invariant.1 (here g c) c.in-Some.ensures.1 c.in-Some.ensures.0 freed c.requires.meets
    lower

pub free-requires-clause-out : goal.free-requires-clause-out
free-requires-clause-out g c =
    let inside = c.self.inside in
    let same = out-at inside.pages.items inside.limit inside.start inside.looked c.in-Some.page c.in-Some.id
    c.args.number _ c.self.invariant.0 (here g c) c.in-Some.ensures.1 c.in-Some.ensures.0 in
    same.1 (rw (← c.self.view_is) at c.requires.out)

pub invariant_of-self : goal.invariant_of-self
invariant_of-self g c =
    let found = (goal.at.invariant_of-self g c).After-index_mut in
    let puts = puts g found _ _ c.free.ensures c.min-self-inside.ensures in
    (puts.whole, puts.sound)

pub returns-clause-returned : goal.returns-clause-returned
returns-clause-returned g c =
    let found = (goal.at.returns-clause-returned g c).After-index_mut in
    rw (← c.self.view_is) (puts g found _ _ c.free.ensures c.min-self-inside.ensures).returned

pub returns-clause-before : goal.returns-clause-before
returns-clause-before g c = rw (← c.self.view_is) (IsPool-sound g.K.Clean.meets _ c.self.invariant.1)

pub returns-clause-after : goal.returns-clause-after
returns-clause-after g c =
    let found = (goal.at.returns-clause-after g c).After-index_mut in
    IsPool-sound g.K.Clean.meets _ (puts g found _ _ c.free.ensures c.min-self-inside.ensures).sound
