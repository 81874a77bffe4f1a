use Rattle.std.proofs.Common.{◌≡◌}
use Rattle.history_lock.proofs.lock.HistoryLock.lock_after.Given as goal

-- nothing more is known as long as the lock is taken
abbrev pub invariant-loop : goal.invariant-loop
invariant-loop g l = (goal.iterator-loop g).can_next l.iterator' × (l.seen ≡ l.initial.seen)
