use Rattle.std.proofs.Common.{ℕ, List, [], Some, ◌++◌, ◌≤◌, ◌*◌, length, take}
use Rattle.std.specs.Io.KnownBytes.{Appends}
use Rattle.object_pool_cores.specs.Inside.Buffered.{IsOpenLine}
use Rattle.object_pool_cores.specs.Served.{ServesLines}
use Rattle.object_pool_cores.proofs.engine.session.feed.Given as goal

-- the replies so far answer the bytes so far, and the buffer stands for what is behind their last
-- line feed
abbrev pub invariant-loop-byte : goal.invariant-loop-byte
invariant-loop-byte g l =
    let pool = g.P.SequentialPool in
    (length l.replies.bytes ≤ 92 * l.byte-index)
    × ((rest : List ℕ) → IsOpenLine rest l.fn.line
    → (more : List ℕ) × IsOpenLine more l.line
    × ServesLines pool.pulls pool.gives pool.attaches Appends l.fn.player (Some [])
    (rest ++ take l.byte-index l.bytes) more
    l.player (Some l.replies.bytes))
