use Rattle.std.proofs.Common.{List, ℕ}
use Rattle.std.specs.Io.KnownBytes.{Appends, Consumes}
use Rattle.object_pool_cores.specs.Inside.Buffered.{IsOpenLine}
use Rattle.object_pool_cores.specs.Served.{ServesLines}
use Rattle.object_pool_cores.proofs.engine.session.serve.Given as goal

-- what was read so far was served, and the buffer stands for what is behind its last line feed
abbrev pub invariant-reads : goal.invariant-reads
invariant-reads g l =
    let pool = g.P.SequentialPool in
    let remaining = g.R.Read.remaining in
    let contents = g.W.Write.contents in
    (bytes rest : List ℕ) × Consumes (remaining l.fn.input) (remaining l.input) bytes × IsOpenLine rest l.line
    × ServesLines pool.pulls pool.gives pool.attaches Appends l.fn.player (contents l.fn.output) bytes rest l.player
    (contents l.output)
