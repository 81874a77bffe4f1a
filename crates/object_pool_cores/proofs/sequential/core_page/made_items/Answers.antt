use Rattle.std.proofs.Common.{◌+◌, ◌∷◌, ◌++◌, [], ap, ◌∙◌, sym, arith, length-append, Some}
use Rattle.std.proofs.lemmas.List.{map-append}
use Rattle.std.proofs.lemmas.List.Elements.{All-push}
use Rattle.object_pool_cores.proofs.sequential.core_page.made_items.Goals as goal

pub loop-id-preserved : goal.loop-id-preserved
loop-id-preserved g c =
    let so_far = c.loop-id.invariant.1 in
    let items = rw c.if-is_err.ensures.negation at c.push.ensures.items in (
      omega (arith, c.loop-id.invariant.0, c.push.ensures.capacity),
      (
        so_far.0 ++ c.in-Some.value ∷ [],
        items ∙ ap (λ page. page ++ Some c.in-Some.value ∷ []) so_far.1
            ∙ sym (map-append Some so_far.0 (c.in-Some.value ∷ [])),
        length-append so_far.0 (c.in-Some.value ∷ []) ∙ ap (λ n. n + 1) so_far.2,
        All-push (λ v. g.I.Fn.post c.args.init.now tt (Some v)) so_far.0 c.in-Some.value so_far.3 c.in-Some.ensures,
        All-push g.K.Clean.meets so_far.0 c.in-Some.value so_far.4 (c.requires.each_meets _ c.in-Some.ensures),
      ),
    )
