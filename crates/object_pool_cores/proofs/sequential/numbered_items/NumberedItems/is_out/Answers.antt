use Rattle.std.proofs.Common.{◌≡◌, ◌<◌, arith, length, refl, rules}
use Rattle.std.specs.Vec.{vec_len}
use Rattle.std.proofs.lemmas.Bool.{false≢true}
use Rattle.std.proofs.lemmas.Option.{slice_get_read}
use Rattle.object_pool_cores.proofs.Cores.NumberedSteps.{out-at, out-within}
use Rattle.object_pool_cores.proofs.sequential.numbered_items.NumberedItems.is_out.Goals as goal

pub returns-in-Some : goal.returns-in-Some
returns-in-Some g c =
    let pages = c.self.inside.pages in
    let count : vec_len pages ≡ length pages.items = search rules in
    let within : c.in-Some.page < length pages.items = omega (arith, c.in-Some.ensures.2, c.len.ensures, count) in
    let here = slice_get_read pages.items (length pages.items) c.in-Some.page _ refl within c.index.ensures in
    let same = out-at pages.items c.self.inside.limit c.self.inside.start c.self.inside.looked c.in-Some.page
    c.in-Some.id
    c.args.number _ c.self.invariant.0 here c.in-Some.ensures.1 c.in-Some.ensures.0 in
    rw (← c.self.view_is) (λ out. same.0 (c.is_out.ensures.0 out), λ out. c.is_out.ensures.1 (same.1 out))

pub returns-in-None : goal.returns-in-None
returns-in-None g c =
    let pages = c.self.inside.pages in
    let count : vec_len pages ≡ length pages.items = search rules in
    rw (← c.self.view_is) (
      λ never. absurd (false≢true never),
      λ out.
          let below = out-within pages.items c.self.inside.limit c.self.inside.start c.self.inside.looked
          c.args.number c.self.invariant.0 out in
          absurd (omega (arith, below, c.in-None.ensures, c.len.ensures, count)),
    )
