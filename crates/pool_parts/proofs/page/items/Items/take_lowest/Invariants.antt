use Rattle.std.proofs.Common.{◌≡◌, ℕ, ◌+◌, ◌<◌, ◌≤◌, [], None, ◌*◌}
use Rattle.std.specs.Int.{bit_at}
use Rattle.pool_parts.specs.Ledger.{WasOutBetween}
use Rattle.pool_parts.specs.PageRule.{GoesOn}
use Rattle.pool_parts.proofs.page.items.Items.take_lowest.Given as goal

abbrev pub invariant-loop-rest : goal.invariant-loop-rest
invariant-loop-rest g l = record {
  same_items : l.seat.table_id ≡ l.fn.seat.table_id;
  carries_none : l.seat.me.1 ≡ [];
  holds_none : l.seat.me.0.held ≡ None;
  out_or_untried : (bit : ℕ) → bit < 32 → bit_at l.untried bit ≡ 0
      → WasOutBetween l.seat.me.0.opening l.fn.seat.me.0.operations l.seat.me.0.operations (32 * l.page + bit);
  loads_same : l.seat.me.0.loads ≡ l.fn.seat.me.0.loads;
  all_tries : l.seat.me.0.tries ≤ l.fn.seat.me.0.tries + 32;
  tries_below : (bit : ℕ) → bit < 32 → bit_at l.untried bit ≡ 1 → l.seat.me.0.tries ≤ l.fn.seat.me.0.tries + bit;
  follows : GoesOn [] l.fn.seat.me.0 l.seat.me.0;
}

abbrev pub decreases-loop-rest : goal.decreases-loop-rest
decreases-loop-rest g l = l.untried
