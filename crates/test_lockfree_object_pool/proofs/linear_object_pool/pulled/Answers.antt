use Rattle.std.proofs.Common.{◌≡◌, ℕ, Some, inl, inr}
use Rattle.pool_parts.proofs.FilledItems.{filled_at}
use Rattle.lockfree_object_pool.specs.Ledger.{pulled_from}
use Rattle.test_lockfree_object_pool.proofs.linear_object_pool.pulled.Goals as goal

is_zero : (value : ℕ) → Some value ≡ Some 0 → value ≡ 0
is_zero value same = cc

pub returns-in-Ok : goal.returns-in-Ok
returns-in-Ok g c =
    let is = c.in-Ok.ensures.pulled in
    elim (pulled_from _ _ _ _ _ _ is.pulled.legal is.pulled.last) [
      | inl was ↦ inr (_, is.pulled.last, was)
      | inr first ↦ inl (is_zero _ (filled_at _ _ _ _ _ is.opened first.1).1)
    ]
