use Rattle.std.proofs.Common.{◌≡◌, ◌≤◌, ◌++◌, List}
use Rattle.std.specs.Prelude.{vec_capacity}
use Rattle.object_pool_cores.specs.declared.sequential.reply.Reply.{Reply}
use Rattle.object_pool_cores.specs.Replies.{Replies}
use Rattle.object_pool_cores.proofs.sequential.player.Player.run.Given as goal

-- the commands so far have these replies, behind those that were there, and the room is no less
abbrev pub invariant-loop-command : goal.invariant-loop-command
invariant-loop-command g l =
    let pool = g.P.SequentialPool in
    (replies : List (Reply g.row.T.Denot)) × (l.replies.items ≡ l.fn.replies.items ++ replies)
    × Replies pool.pulls pool.gives pool.attaches l.fn.self l.yielded replies l.self
    × (vec_capacity l.fn.replies ≤ vec_capacity l.replies)
