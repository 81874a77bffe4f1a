use Rattle.std.proofs.Common.{◌≡◌, Some, [], ◌∷◌, ◌++◌, All, rules, length-append, arith}
use Rattle.std.proofs.lemmas.List.Elements.{All-append}
use Rattle.pool_world.specs.World.Inside.Prepared.{values_of}
use Rattle.pool_world.proofs.World.Prepared.{values_of-push, full-push}
use Rattle.pool_world.proofs.interleave.prepared.Prepared.make.Goals as goal

-- what holds of a value holds of each in a list of it alone
All-one : {X : Type 0} (P : X → Type 0) (x : X) → P x → All P (x ∷ [])
All-one P x holds = search (rules, holds)

pub loop-index-preserved : goal.loop-index-preserved
loop-index-preserved g c =
    let kept = c.loop-index.invariant in
    let pushed : c.push.new.self.items ≡ c.loop-index.places.items ++ Some c.in-Some.value ∷ [] =
    c.in_ok-push-in-Some.ensures.items in
    let values = values_of-push c.loop-index.places.items c.in-Some.value in
    rw pushed
    (record {
      all = full-push _ _ kept.all;
      count =
          rw values
          (omega (arith, kept.count, length-append (values_of c.loop-index.places.items) (c.in-Some.value ∷ [])));
      given = rw values (All-append (λ value. g.I.Fn.post c.args.init.now tt (Some value)) _ _ kept.given
          (All-one (λ value. g.I.Fn.post c.args.init.now tt (Some value)) c.in-Some.value c.in-Some.ensures));
    })
