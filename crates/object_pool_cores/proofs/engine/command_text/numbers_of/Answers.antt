use Rattle.object_pool_cores.proofs.CommandWords.{AreNumbers-space, AreNumbers-parts}
use Rattle.object_pool_cores.proofs.engine.command_text.numbers_of.Goals as goal

pub returns-in_err-first : goal.returns-in_err-first
returns-in_err-first c =
    rw c.from_residual.ensures (λ first second numbers. AreNumbers-space _ first second c.in_err-first.ensures numbers)

pub returns-in_err-number_of : goal.returns-in_err-number_of
returns-in_err-number_of c =
    let parts = c.in_ok-first.ensures in
    rw c.from_residual-in_err-number_of.ensures (λ first second numbers.
    c.in_err-number_of.ensures first (AreNumbers-parts _ _ _ first second parts.0 parts.1 numbers).0)

pub returns-in_err-number_of-2 : goal.returns-in_err-number_of-2
returns-in_err-number_of-2 c =
    let parts = c.in_ok-first.ensures in
    rw c.from_residual-in_err-number_of-2.ensures (λ first second numbers.
    c.in_err-number_of-2.ensures second (AreNumbers-parts _ _ _ first second parts.0 parts.1 numbers).1)
