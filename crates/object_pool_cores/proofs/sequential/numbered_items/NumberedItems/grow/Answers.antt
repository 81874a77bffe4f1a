use Rattle.std.proofs.Common.{◌≡◌, ◌∙◌, ap, length, rules, Some}
use Rattle.std.proofs.lemmas.List.{length-map}
use Rattle.std.proofs.lemmas.List.Elements.{All-push}
use Rattle.object_pool_cores.proofs.Cores.PagedPlaces.{laid_out-push}
use Rattle.object_pool_cores.specs.Laws.NumberedPlaces.{IsWellNumbered-grown, Grows-page}
use Rattle.object_pool_cores.proofs.sequential.numbered_items.NumberedItems.grow.Goals as goal

pub invariant_of-self-2 : goal.invariant_of-self-2
invariant_of-self-2 g c =
    let page = c.in_ok-page.ensures.ok in
    let items = rw c.if-is_err.ensures.negation at c.push.ensures.items in
    rw (items, c.in_ok-reserve.ensures.items) (
      All-push (λ p. length p ≡ 32) _ _ c.self.invariant.0
          (ap length page.free ∙ length-map page.values Some ∙ page.answered.count),
      rw (laid_out-push, page.free)
          (IsWellNumbered-grown g.K.Clean.meets _ page.values c.self.invariant.1 (search rules) page.answered.count
          page.clean),
    )

pub returns-clause-ok : goal.returns-clause-ok
returns-clause-ok g c =
    let page = c.in_ok-page.ensures.ok in
    let items = rw c.if-is_err.ensures.negation at c.push.ensures.items in
    rw (← c.self.view_is, items, c.in_ok-reserve.ensures.items, laid_out-push, page.free)
    (Grows-page g.K.Clean.meets _ _ page.values c.self.invariant.1 (search rules) page.answered.count
    page.answered.each)
