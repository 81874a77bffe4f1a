use Rattle.std.proofs.Common.{inl}
use Rattle.std.proofs.lemmas.Result.{IfOk-weaker}
use Rattle.object_pool_cores.proofs.engine.session.answer.Goals as goal

pub returns-clause-ok : goal.returns-clause-ok
returns-clause-ok g c = IfOk-weaker c.answer_of.result _ _
    (λ text answered bytes buffered.
    inl (c.in-Some.command, c.in-Some.ensures bytes buffered, answered))
    c.answer_of.ensures.ok
