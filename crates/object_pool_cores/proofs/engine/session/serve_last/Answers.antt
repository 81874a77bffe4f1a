use Rattle.std.proofs.Common.{◌≢◌, [], sym, ◌∙◌}
use Rattle.std.proofs.lemmas.Bool.{false≢true}
use Rattle.object_pool_cores.proofs.ReplyRuns.{OnOk-map}
use Rattle.std.proofs.KnownBytes.{Appends-trans}
use Rattle.std.specs.Io.KnownBytes.{Appends}
use Rattle.object_pool_cores.specs.Served.{AppendsPart}
use Rattle.object_pool_cores.proofs.TranscriptRuns.{AnswersLast-none, AnswersLast-line, AppendsPart-behind}
use Rattle.object_pool_cores.proofs.engine.session.serve_last.Goals as goal

pub returns-then-is_empty-clause-ok : goal.returns-then-is_empty-clause-ok
returns-then-is_empty-clause-ok g c = λ rest buffered.
    AnswersLast-none _ _ _ _ _ rest ((c.is_empty.ensures rest buffered).0 c.if-is_empty.true)

pub returns-clause-ok : goal.returns-clause-ok
returns-clause-ok g c = OnOk-map c.serve_line.result (λ served rest buffered.
    let some : rest ≢ [] = λ none. false≢true (sym c.if-is_empty.false ∙ (c.is_empty.ensures rest buffered).1 none) in
    let answer = served rest buffered in
    AnswersLast-line _ _ _ _ _ Appends Appends-trans rest answer.0 _ _ some answer.1 answer.2) c.serve_line.ensures.ok

pub returns-clause-write : goal.returns-clause-write
returns-clause-write g c = λ e rest buffered.
    let some : rest ≢ [] = λ none. false≢true (sym c.if-is_empty.false ∙ (c.is_empty.ensures rest buffered).1 none) in
    let answer = c.serve_line.ensures.write e rest buffered in
    AnswersLast-line _ _ _ _ _ AppendsPart AppendsPart-behind rest answer.0 answer.1 _ some answer.2 answer.3
