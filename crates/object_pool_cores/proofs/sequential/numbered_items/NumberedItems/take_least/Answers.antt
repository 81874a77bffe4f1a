-- That the item taken is the least free one of all pages, and that none is free if no page has one.
use Rattle.std.proofs.Common.{◌≡◌, ◌<◌, ◌+◌, ◌*◌, ◌∙◌, arith, length, refl, rules, ap, Some, slice_set}
use Rattle.std.specs.Prelude.{slice_get}
use Rattle.std.specs.Vec.{vec_len}
use Rattle.std.proofs.lemmas.Option.{slice_get_read}
use Rattle.object_pool_cores.specs.Inside.Numbered.{HasNoneBelow, IsWellNumbered, laid_out}
use Rattle.object_pool_cores.specs.Laws.NumberedPlaces.{IsPool-sound}
use Rattle.object_pool_cores.proofs.Cores.NumberedSteps.{items_of, pages_of, IsSound-passed, FindsNone-passed}
use Rattle.object_pool_cores.proofs.Cores.NumberedSteps.{TakesAt, TakesAt-page}
use Rattle.object_pool_cores.proofs.sequential.numbered_items.NumberedItems.take_least.Given.{Over}
use Rattle.object_pool_cores.proofs.sequential.numbered_items.NumberedItems.take_least.Goals.{After-first_open, After-index_mut, In-Some}
use Rattle.object_pool_cores.proofs.sequential.numbered_items.NumberedItems.take_least.Goals as goal

pub first_open-requires-clause-start : goal.first_open-requires-clause-start
first_open-requires-clause-start g c =
    let count = pages_of c.self.inside.pages.items c.self.invariant.0 in
    rw c.deref.ensures.value (omega (arith, c.self.invariant.1.starts, count))

-- no page before the first open one has a free item
passed : (g : Over) (c : After-first_open g)
    → HasNoneBelow (laid_out c.self.inside.pages.items) (32 * c.first_open.result.0)
passed g c = let first = c.first_open.ensures in rw c.deref.ensures.value at first.passed

-- so the items may begin there
sound : (g : Over) (c : After-first_open g)
    → IsWellNumbered g.K.Clean.meets
    (items_of c.self.inside.pages.items c.self.inside.limit c.first_open.result.0 c.first_open.result.1)
sound g c =
    let inside = c.self.inside in
    let first = c.first_open.ensures in
    IsSound-passed g.K.Clean.meets inside.pages.items inside.limit inside.start inside.looked c.first_open.result.0
    c.first_open.result.1 c.self.invariant.0 c.self.invariant.1 (rw c.deref.ensures.value at first.pages.1) (passed g c)

-- that page lies in the table
here : (g : Over) (c : After-index_mut g)
    → slice_get c.self.inside.pages.items c.first_open.result.0 ≡ Some c.index_mut.result.now
here g c =
    let pages = c.self.inside.pages in
    let count : vec_len pages ≡ length pages.items = search rules in
    let within : c.first_open.result.0 < length pages.items = let bound = c.first_open.ensures.pages.1 in
    omega (arith, rw c.deref.ensures.value at bound, c.len.ensures, count, c.if-self-len.false) in
    slice_get_read pages.items (length pages.items) c.first_open.result.0 _ refl within c.index_mut.ensures.value

-- its least free item is the least of all
takes : (g : Over) (c : In-Some g)
    → slice_get c.self.inside.pages.items c.first_open.result.0 ≡ Some c.index_mut.result.now
    → HasNoneBelow (laid_out c.self.inside.pages.items) (32 * c.first_open.result.0)
    → TakesAt g.K.Clean.meets
    (items_of c.self.inside.pages.items c.self.inside.limit c.self.inside.start c.self.inside.looked)
    (32 * c.first_open.result.0 + c.in-Some.id) c.in-Some.value
    (slice_set c.self.inside.pages.items c.first_open.result.0 c.alloc.new.self) c.first_open.result.0
    c.first_open.result.1
takes g c here passed =
    TakesAt-page g.K.Clean.meets _ _ _ _ c.first_open.result.0 c.in-Some.id _ c.in-Some.value _ _ c.first_open.result.1
    c.self.invariant.0 c.self.invariant.1 here refl c.in-Some.ensures.least passed

pub invariant_of-self : goal.invariant_of-self
invariant_of-self g c = (c.self.invariant.0, sound g (goal.at.invariant_of-self g c).After-first_open)

pub returns-then-self-len-clause-before : goal.returns-then-self-len-clause-before
returns-then-self-len-clause-before g c = rw (← c.self.view_is) (IsPool-sound g.K.Clean.meets _ c.self.invariant.1)

pub returns-then-self-len-clause-after : goal.returns-then-self-len-clause-after
returns-then-self-len-clause-after g c =
    IsPool-sound g.K.Clean.meets _ (sound g (goal.at.returns-then-self-len-clause-after g c).After-first_open)

pub returns-then-self-len-clause-none : goal.returns-then-self-len-clause-none
returns-then-self-len-clause-none g c =
    let inside = c.self.inside in
    let pages = inside.pages.items in
    let count : vec_len inside.pages ≡ length pages = search rules in
    let at : c.first_open.result.0 ≡ length pages = c.if-self-len.true ∙ c.len.ensures ∙ count in
    let passed = passed g (goal.at.returns-then-self-len-clause-none g c).After-first_open in
    rw (← c.self.view_is)
    (FindsNone-passed pages inside.limit inside.start inside.looked _ c.self.invariant.0 (rw at at passed) refl at)

pub unreachable-requires : goal.unreachable-requires
unreachable-requires g c =
    c.first_open.ensures.open _
    (rw c.deref.ensures.value (here g (goal.at.unreachable-requires g c).After-index_mut)) c.in-None.ensures.least

pub invariant_of-self-2 : goal.invariant_of-self-2
invariant_of-self-2 g c =
    let at = goal.at.invariant_of-self-2 g c in
    let takes = takes g at.In-Some (here g at.After-index_mut) (passed g at.After-first_open) in
    (takes.whole, takes.sound)

pub returns-clause-before : goal.returns-clause-before
returns-clause-before g c = rw (← c.self.view_is) (IsPool-sound g.K.Clean.meets _ c.self.invariant.1)

pub returns-clause-after : goal.returns-clause-after
returns-clause-after g c =
    let at = goal.at.returns-clause-after g c in
    let takes = takes g at.In-Some (here g at.After-index_mut) (passed g at.After-first_open) in
    IsPool-sound g.K.Clean.meets _ takes.sound

pub returns-clause-least : goal.returns-clause-least
returns-clause-least g c =
    let at = goal.at.returns-clause-least g c in
    let takes = takes g at.In-Some (here g at.After-index_mut) (passed g at.After-first_open) in (
      32 * c.first_open.result.0 + c.in-Some.id,
      rw c.numbered.ensures.number (ap Some c.number.ensures),
      rw (← c.self.view_is, c.numbered.ensures.value) takes.least,
    )
