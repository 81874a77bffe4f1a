-- That a user who tries the bits of a word takes an item, or has seen each item of the page in use
-- since it read the word.
use Rattle.std.proofs.Common.{◌≡◌, ℕ, ◌<◌, ap, ◌∙◌, ◌∷◌, sym, None, arith, ◌*◌, ◌+◌}
use Rattle.std.specs.Int.{bit_at}
use Rattle.std.proofs.lemmas.Nat.Bits.{bit_at-zero}
use Rattle.pool_parts.specs.Ledger.{WasOutBetween}
use Rattle.pool_parts.proofs.Ledger.{goes_on_further}
use Rattle.pool_parts.proofs.Taking.{more_tried, out_or_untried, word_missed}
use Rattle.pool_parts.proofs.page.items.Items.take_lowest.Goals as goal

pub returns-in-Some-clear-clause-outcome : goal.returns-in-Some-clear-clause-outcome
returns-in-Some-clear-clause-outcome g c =
    let took = c.in-Some-clear.ensures.outcome in
    let before = c.loop-rest.invariant in
    record {
      in_pool = took.0.in_pool;
      meets_condition = took.0.meets_condition;
      holds = took.0.holds;
      carries = took.0.carries ∙ ap (λ l.
          (32 * c.args.page + c.in-Some.bit, None) ∷ l) (before.carries_none ∙ sym c.requires.ready.carries_none);
      goes_on = goes_on_further _ _ _ _ before.follows
          took.0.goes_on;
      each_returned = took.0.each_returned;
    }

pub loop-rest-preserved : goal.loop-rest-preserved
loop-rest-preserved g c =
    let missed = c.in_default-clear.ensures.outcome in
    let before = c.loop-rest.invariant in
    let follows = goes_on_further _ _ _ _ before.follows missed.goes_on in
    record {
      same_items = c.clear.ensures.items ∙ before.same_items;
      carries_none = missed.carries_same ∙ before.carries_none;
      holds_none = missed.holds_same ∙ before.holds_none;
      out_or_untried = out_or_untried _ _ _ _ _ _ _ c.in-Some.ensures.rest missed follows.operations
          before.out_or_untried;
      follows = follows;
      loads_same = missed.loads_same ∙ before.loads_same;
      all_tries = let least = c.in-Some.ensures.least in
          omega (arith, before.tries_below c.in-Some.bit least.in_page least.set, missed.one_more);
      tries_below = more_tried _ _ _ _ _ _ c.in-Some.ensures.least c.in-Some.ensures.rest missed.one_more
          before.tries_below;
    }

pub returns-clause-outcome : goal.returns-clause-outcome
returns-clause-outcome g c =
    let at_end = c.loop-rest.invariant in
    let none_left : c.loop-rest.untried ≡ 0 = c.in_default.ensures.none.0 (search) in
    let all : (bit : ℕ) → bit < 32
    → WasOutBetween c.loop-rest.seat.me.0.opening c.args.seat.now.me.0.operations c.loop-rest.seat.me.0.operations
    (32 * c.args.page + bit) =
    λ bit within. at_end.out_or_untried bit within (ap (λ w. bit_at w bit) none_left ∙ bit_at-zero bit) in
    word_missed c.args.page c.args.seat.now.me c.loop-rest.seat.me (at_end.holds_none ∙ sym c.requires.ready.holds_none)
    (at_end.carries_none ∙ sym c.requires.ready.carries_none) at_end.follows all
