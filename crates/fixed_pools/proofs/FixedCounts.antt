-- What the counts of a pool's words tell that were read twice.
use Rattle.std.proofs.Common.{◌≡◌, ℕ, ◌+◌, ◌*◌, ◌/◌, ◌%◌, ◌^◌, ◌≤◌, Bool, true, false, ◌==◌, []}
use Rattle.std.proofs.Common.{◌∷◌, ◌++◌, None, refl, sym, ap, ◌∙◌, subst, arith, inl, inr}
use Rattle.std.proofs.Common.{true≢false, le_trans}
use Rattle.std.proofs.lemmas.Bool.{cases_lt, eqb-true}
use native.Mathlib.Decide.{ℕ_discrete}
use mathlib.Core.Logic.{dite}
use Rattle.pool_parts.specs.declared.page.history.Operation.TheVariants.{Pull, Return}
use Rattle.pool_parts.specs.declared.page.user_view.UserView.{UserView}
use Rattle.pool_parts.specs.Ledger.{History, value_at, returns_among, WasOutBetween}
use Rattle.pool_parts.specs.PageRule.{User, GoesOn, IsOutNow, Counts, IsSound, MissesAll, TakesOne}
use Rattle.pool_parts.proofs.Ledger.{goes_on_further, still_out, out_longer}
use Rattle.pool_parts.proofs.Returns.{one_more, grows, grows_within, stays_out}
use Rattle.atomic_table.specs.Seated.{TableId}
use Rattle.fixed_pools.specs.FixedCount.{is_beside, ReadsOn, Tallies, PassesOver, PassesAll}
use Rattle.fixed_pools.proofs.PoolWords.{Splits, inside, before, behind, same_beside}

module _ {T : Type 0} where
  -- what a user knows later has no fewer returns, whatever it did
  pub grown_by : (passes : ℕ → Bool) (made : History T) (old new : UserView T) → GoesOn made old new
      → returns_among passes old.operations ≤ returns_among passes new.operations
  grown_by passes made old new goes =
      let others : History T = goes.operations.0 in
      subst (λ operations. returns_among passes old.operations ≤ returns_among passes operations)
      (sym goes.operations.1)
      (le_trans (grows passes others old.operations) (grows passes made (others ++ old.operations)))

  pub grown : (passes : ℕ → Bool) (old new : UserView T) → GoesOn [] old new
      → returns_among passes old.operations ≤ returns_among passes new.operations
  grown passes old new goes = grown_by passes [] old new goes

  pub grown_within : (passes : ℕ → Bool) (made : History T) (old new : UserView T) → GoesOn made old new
      → returns_among passes new.operations + returns_among (λ id. true) old.operations
      ≤ returns_among (λ id. true) new.operations + returns_among passes old.operations
  grown_within passes made old new goes =
      let others : History T = goes.operations.0 in
      let first = grows_within passes others old.operations in
      let second = grows_within passes made (others ++ old.operations) in
      subst (λ operations. returns_among passes operations + returns_among (λ id. true) old.operations
      ≤ returns_among (λ id. true) operations + returns_among passes old.operations)
      (sym goes.operations.1) (omega arith)

  pub out_still : (passes : ℕ → Bool) (id : ℕ) (old new : UserView T) → GoesOn [] old new → passes id ≡ true
      → returns_among passes new.operations ≤ returns_among passes old.operations → IsOutNow old id → IsOutNow new id
  out_still passes id old new goes own none out =
      let later = goes.operations.0 in
      let opened : value_at new.opening old.operations id ≡ None =
      ap (λ opening. value_at opening old.operations id) goes.same_opening ∙ out in
      subst (λ operations. value_at new.opening operations id ≡ None) (sym goes.operations.1)
      (stays_out new.opening passes id later old.operations own
      (subst (λ operations. returns_among passes operations ≤ returns_among passes old.operations)
      goes.operations.1 none) opened)

  counts : (passes : ℕ → Bool) (user id : ℕ) (value : T) (before : History T) → passes id ≡ true
      → returns_among passes (Return user id value ∷ before) ≡ returns_among passes before + 1
  counts passes user id value before is = elim (one_more passes user id value before) [
    | inl counted ↦ counted.1
    | inr other ↦ absurd (true≢false (sym is ∙ other.0))
  ]

  counts_not : (passes : ℕ → Bool) (user id : ℕ) (value : T) (before : History T) → passes id ≡ false
      → returns_among passes (Return user id value ∷ before) ≡ returns_among passes before
  counts_not passes user id value before is = elim (one_more passes user id value before) [
    | inl counted ↦ absurd (true≢false (sym counted.0 ∙ is))
    | inr other ↦ other.1
  ]

  -- the returns of the one test are those of the two others together
  pub adds_up : (whole one other : ℕ → Bool) → ((id : ℕ) → Splits whole one other id) → (history : History T)
      → returns_among whole history ≡ returns_among one history + returns_among other history
  adds_up whole one other split [] = omega arith
  adds_up whole one other split (Pull user id value ∷ before) = adds_up whole one other split before
  adds_up whole one other split (Return user id value ∷ before) =
      let rest = adds_up whole one other split before in
      elim (split id) [
        | inl first ↦
            let all = counts whole user id value before first.0 in
            let here = counts one user id value before first.1 in
            let there = counts_not other user id value before first.2 in
            omega arith
        | inr (inl second) ↦
            let all = counts whole user id value before second.0 in
            let here = counts_not one user id value before second.1 in
            let there = counts other user id value before second.2 in
            omega arith
        | inr (inr none) ↦
            let all = counts_not whole user id value before none.0 in
            let here = counts_not one user id value before none.1 in
            let there = counts_not other user id value before none.2 in
            omega arith
      ]

  -- of no numbers there are no returns
  none_among : (passes : ℕ → Bool) → ((id : ℕ) → passes id ≡ false) → (history : History T)
      → returns_among passes history ≡ 0
  none_among passes none [] = refl
  none_among passes none (Pull user id value ∷ before) = none_among passes none before
  none_among passes none (Return user id value ∷ before) =
      counts_not passes user id value before (none id) ∙ none_among passes none before

  same_among : (one other : ℕ → Bool) → ((id : ℕ) → one id ≡ other id) → (history : History T)
      → returns_among one history ≡ returns_among other history
  same_among one other same [] = refl
  same_among one other same (Pull user id value ∷ before) = same_among one other same before
  same_among one other same (Return user id value ∷ before) =
      let rest = same_among one other same before in
      elim (one_more one user id value before) [
        | inl counted ↦
            let too = counts other user id value before (sym (same id) ∙ counted.0) in
            let more = counted.1 in omega arith
        | inr not_counted ↦
            let neither = counts_not other user id value before (sym (same id) ∙ not_counted.0) in
            let no_more = not_counted.1 in omega arith
      ]

  -- what was out at some place is out now, where nothing came back since that passes a test which it passes
  pub out_kept : (passes : ℕ → Bool) (id : ℕ) (from : History T) (now : UserView T) → passes id ≡ true
      → returns_among passes now.operations ≤ returns_among passes from
      → WasOutBetween now.opening from now.operations id → IsOutNow now id
  out_kept passes id from now own none was =
      let place : History T = was.0 in
      let later : History T = was.2.0 in
      let begun : returns_among passes from ≤ returns_among passes place =
      subst (λ operations. returns_among passes from ≤ returns_among passes operations) (sym was.1.1)
      (grows passes was.1.0 from) in
      subst (λ operations. value_at now.opening operations id ≡ None) (sym was.2.1)
      (stays_out now.opening passes id later place own
      (le_trans (subst (λ operations. returns_among passes operations ≤ returns_among passes from) was.2.1 none) begun)
      was.3)

  pub reads_further : (one two three : User T) → ReadsOn one two → ReadsOn two three → ReadsOn one three
  reads_further one two three first second = record {
    holds_same = second.holds_same ∙ first.holds_same;
    carries_same = second.carries_same ∙ first.carries_same;
    goes_on = goes_on_further [] one.0 two.0 three.0 first.goes_on second.goes_on;
  }

  -- who has taken nothing has read on
  pub missed_reads : (from to : ℕ) (old new : User T) → MissesAll from to old new → ReadsOn old new
  missed_reads from to old new missed = record {
    holds_same = missed.holds_same;
    carries_same = missed.carries_same;
    goes_on = missed.goes_on;
  }

  pub loaded_reads : (places place word count : ℕ) (old new : User T) → Counts places place old word count new
      → ReadsOn old new
  loaded_reads places place word count old new loaded = record {
    holds_same = loaded.holds_same;
    carries_same = loaded.carries_same;
    goes_on = loaded.goes_on;
  }

  -- before it had read anything
  pub reads_none : (known : User T) → known.0.retired ≡ false → IsSound known.0 → ReadsOn known known
  reads_none known here sound = record {
    holds_same = refl;
    carries_same = refl;
    goes_on = record {
      here = here;
      same_user = refl;
      same_opening = refl;
      same_since = refl;
      operations = ([], refl);
      own_before = sound.own_operations;
      own = refl;
      sound = sound;
    };
  }

  -- two passes over words that differ
  tallies_join : (whole one other : ℕ → Bool) → ((id : ℕ) → Splits whole one other id) → (sum more : ℕ)
      (old mid new : UserView T) → Tallies one sum old mid → GoesOn [] old mid → Tallies other more mid new
      → GoesOn [] mid new → Tallies whole ((sum + more) % 2 ^ 32) old new
  tallies_join whole one other split sum more old mid new tally before further goes =
      let first = adds_up whole one other split old.operations in
      let last = adds_up whole one other split new.operations in
      let one_grown = grown one mid new goes in
      let other_grown = grown other old mid before in
      let total_one = tally.is_total in
      let from_one = tally.from_first in
      let to_one = tally.to_last in
      let total_two = further.is_total in
      let from_two = further.from_first in
      let to_two = further.to_last in
      record {
        total = tally.total + further.total;
        is_total = omega arith;
        from_first = omega arith;
        to_last = omega arith;
        full = λ all id own. elim (split id) [
          | inl first_one ↦ out_still one id mid new goes first_one.1 (omega arith)
              (tally.full (omega arith) id first_one.1)
          | inr (inl second) ↦ further.full (omega arith) id second.2
          | inr (inr none) ↦ absurd (true≢false (sym own ∙ none.0))
        ];
      }

  -- what was counted since a place was counted since an earlier one
  pub tallies_since : (is_read : ℕ → Bool) (sum : ℕ) (old mid new : UserView T) → GoesOn [] old mid
      → Tallies is_read sum mid new → Tallies is_read sum old new
  tallies_since is_read sum old mid new goes tally =
      let before = grown is_read old mid goes in
      let from = tally.from_first in
      record {
        total = tally.total;
        is_total = tally.is_total;
        from_first = omega arith;
        to_last = tally.to_last;
        full = tally.full;
      }

  pub passes_join : (whole one other : ℕ → Bool) → ((id : ℕ) → Splits whole one other id) → (sum more : ℕ)
      (old mid new : User T) → PassesOver one sum old mid → PassesOver other more mid new
      → PassesOver whole ((sum + more) % 2 ^ 32) old new
  passes_join whole one other split sum more old mid new first second =
      let before = first.reads_on.goes_on in
      let goes = second.reads_on.goes_on in
      record {
        reads_on = reads_further old mid new first.reads_on second.reads_on;
        each_was_out = λ id own. elim (split id) [
          | inl first_one ↦ still_out old.0.operations mid.0 new.0 id goes (first.each_was_out id first_one.1)
          | inr (inl second_one) ↦ out_longer new.0.opening old.0.operations mid.0.operations new.0.operations id
              before.operations (second.each_was_out id second_one.2)
          | inr (inr none) ↦ absurd (true≢false (sym own ∙ none.0))
        ];
        tallies = tallies_join whole one other split sum more old.0 mid.0 new.0 first.tallies before second.tallies
            goes;
      }

  -- no word was read yet
  pub passes_none : (from skipped : ℕ) (known : User T) → ReadsOn known known
      → PassesOver (is_beside from from skipped) 0 known known
  passes_none from skipped known reads =
      let none : (id : ℕ) → is_beside from from skipped id ≡ false = λ id. elim (cases_lt (id / 32) from) [
        | inl low ↦ before from from skipped id low
        | inr high ↦ behind from from skipped id high
      ] in
      let no_returns = none_among (is_beside from from skipped) none known.0.operations in
      record {
        reads_on = reads;
        each_was_out = λ id own. absurd (true≢false (sym own ∙ none id));
        tallies = record {
          total = 0;
          is_total = omega arith;
          from_first = omega arith;
          to_last = omega arith;
          full = λ _ id own. absurd (true≢false (sym own ∙ none id));
        };
      }

  -- a word was skipped
  pub passes_skip : (from skipped sum : ℕ) (old new : User T) → PassesOver (is_beside from skipped skipped) sum old new
      → PassesOver (is_beside from (skipped + 1) skipped) sum old new
  passes_skip from skipped sum old new passed =
      let same = same_beside from skipped in
      let tally = passed.tallies in
      let first = same_among _ _ same old.0.operations in
      let last = same_among _ _ same new.0.operations in
      let from_old = tally.from_first in
      let to_new = tally.to_last in
      record {
        reads_on = passed.reads_on;
        each_was_out = λ id own. passed.each_was_out id (same id ∙ own);
        tallies = record {
          total = tally.total;
          is_total = tally.is_total;
          from_first = omega arith;
          to_last = omega arith;
          full = λ all id own. tally.full (omega arith) id (same id ∙ own);
        };
      }

  -- one word was read, and nothing was taken of it
  pub passes_word : (places page word count : ℕ) (old mid new : User T) → Counts places page old word count mid
      → MissesAll (32 * page) (32 * page + 32) mid new → PassesOver (λ id. id / 32 == page) count old new
  passes_word places page word count old mid new counted missed =
      let loaded = counted.goes_on in
      let on_page : ℕ → Bool = λ id. id / 32 == page in
      let mid_grown = grown on_page old.0 mid.0 loaded in
      let new_grown = grown on_page mid.0 new.0 missed.goes_on in
      let out : (id : ℕ) → on_page id ≡ true
      → WasOutBetween new.0.opening mid.0.operations new.0.operations id = λ id own.
      let here : id / 32 ≡ page = eqb-true (id / 32) page own in
      missed.each_was_out id (omega arith) (omega arith) in
      record {
        reads_on = reads_further old mid new (loaded_reads places page word count old mid counted)
            (missed_reads (32 * page) (32 * page + 32) mid new missed);
        each_was_out = λ id own. out_longer new.0.opening old.0.operations mid.0.operations new.0.operations id
            loaded.operations (out id own);
        tallies = record {
          total = returns_among (λ id. id / 32 == page) mid.0.operations;
          is_total = counted.counts;
          from_first = omega arith;
          to_last = omega arith;
          full = λ same id own. out_kept on_page id mid.0.operations new.0 own (omega arith) (out id own);
        };
      }

  -- the first word, and then the others
  pub missed_pass : (start words slots sum : ℕ) (old one last : User T) → slots ≤ 32 * words
      → MissesAll (32 * start) (32 * start + 32) old one → PassesOver (is_beside 0 words start) sum one last
      → MissesAll 0 slots old last
  missed_pass start words slots sum old one last covered own others =
      let goes = others.reads_on.goes_on in
      record {
        holds_same = others.reads_on.holds_same ∙ own.holds_same;
        carries_same = others.reads_on.carries_same ∙ own.carries_same;
        each_was_out = λ id _ within. dite (ℕ_discrete (id / 32) start)
            (λ same. still_out old.0.operations one.0 last.0 id goes (own.each_was_out id (omega arith) (omega arith)))
            (λ differ. out_longer last.0.opening old.0.operations one.0.operations last.0.operations id
            own.goes_on.operations
            (others.each_was_out id (inside 0 words start id (omega arith) (omega arith) differ)));
        goes_on = goes_on_further [] old.0 one.0 last.0 own.goes_on goes;
      }

  -- and then an item was taken
  pub takes_later : (meets : T → Type 0) (items id : ℕ) (value : T) (one two three : User T) → ReadsOn one two
      → TakesOne meets items id value None two three → TakesOne meets items id value None one three
  takes_later meets items id value one two three read taken = record {
    in_pool = taken.in_pool;
    meets_condition = taken.meets_condition;
    holds = taken.holds;
    carries = taken.carries ∙ ap (λ l. (id, None) ∷ l) read.carries_same;
    goes_on = goes_on_further (Pull three.0.user id value ∷ []) one.0 two.0 three.0 read.goes_on taken.goes_on;
    each_returned = taken.each_returned;
  }

  -- the first word was tried, and then the others were passed over
  pub passes_all : (pool : TableId) (start sum : ℕ) (old one last : User T) → pool.slots ≤ 32 * pool.words
      → MissesAll (32 * start) (32 * start + 32) old one → PassesOver (is_beside 0 pool.words start) sum one last
      → PassesAll pool start sum old last
  passes_all pool start sum old one last covered own others = record {
    missed = missed_pass start pool.words pool.slots sum old one last covered own others;
    counted = tallies_since (is_beside 0 pool.words start) sum old.0 one.0 last.0 own.goes_on others.tallies;
  }
