use Rattle.std.proofs.Common.{◌∙◌, subst}
use Rattle.fixed_pool_c.specs.Answers.{OpensOf}
use Rattle.fixed_pool_c.specs.Shows.{PlacePool}
use Rattle.fixed_pool_c.proofs.open_handle.OpenHandle.share.Goals as goal

pub returns-in-Some-open-clause-shares : goal.returns-in-Some-open-clause-shares
returns-in-Some-open-clause-shares c =
    let owner = c.in-Some.ensures in
    record {
      state = owner.0;
      has = owner.1;
      opens = subst (λ (pool : PlacePool). OpensOf pool c.args.self.now.tag c.in-Some-open.other.value) (c.in-Ok.ensures
          ∙ owner.2) c.in-Some-open.ensures;
    }
