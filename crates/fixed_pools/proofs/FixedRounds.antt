-- What a call knows that passes over a pool's words again and again.
use Rattle.std.proofs.Common.{◌≡◌, ℕ, ◌+◌, ◌-◌, ◌*◌, ◌/◌, ◌%◌, ◌^◌, ◌<◌, ◌≤◌, Bool, true, nat_lt, ◌==◌, []}
use Rattle.std.proofs.Common.{◌∷◌, ◌++◌, Option, Some, None, sym, ap, ◌∙◌, subst, arith, inl, inr, lt-ltb, eq-eqb}
use Rattle.std.proofs.Common.{le_trans, mul-add, mul-le-mul_left}
use Rattle.atomic_table.specs.declared.shared.Seat.{Seat}
use Rattle.std.proofs.lemmas.Bool.{cases_lt}
use native.Mathlib.Decide.{ℕ_discrete}
use mathlib.Core.Logic.{dite}
use Rattle.std.specs.Int.{w32, bit_at, trailing_zeros}
use Rattle.std.proofs.lemmas.Nat.Bits.{bit_at-zero, bit_at-trailing_zeros}
use Rattle.pool_parts.specs.declared.page.history.Operation.TheVariants.{Pull}
use Rattle.pool_parts.specs.declared.page.user_view.UserView.{UserView}
use Rattle.pool_parts.specs.Ledger.{History, IsLegal, value_at, returns_among, WasOutBetween}
use Rattle.pool_parts.specs.PageRule.{User, GoesOn, IsOutNow, Counts, MissesAll, TakesOne}
use Rattle.pool_parts.proofs.Ledger.{goes_on_further, still_out}
use Rattle.pool_parts.proofs.Returns.{stays_out}
use Rattle.fixed_pools.specs.FixedPool.{returns_between, IsFullSince}
use Rattle.fixed_pools.specs.FixedCount.{is_beside, GoesOver, ReadsOn, Tallies}
use Rattle.fixed_pools.proofs.PoolWords.{inside, with_first}
use Rattle.fixed_pools.proofs.FixedCounts.{grown, grown_by, grown_within, out_still, adds_up, out_kept}
use Rattle.fixed_pools.proofs.FixedCounts.{reads_further, missed_reads, loaded_reads, takes_later}

-- a word that isn't 0 has a bit that is set
pub some_bit : (word : ℕ) → (word ≡ 0 → ⊥) → word < 2 ^ 32 → (bit : ℕ) × (bit < 32) × (bit_at word bit ≡ 1)
some_bit word some fits =
    let least = bit_at-trailing_zeros w32 word (omega arith) fits in
    (trailing_zeros w32 word, least.0, least.1)

-- the words that a call has read which makes one more pass
pub one_pass_more : (words passes : ℕ) → words * (passes + 1) ≡ words * passes + words
one_pass_more words passes =
    let one : words * 1 ≡ words = omega arith in
    mul-add words passes 1 ∙ ap (λ n. words * passes + n) one

-- and no more than another call that makes no fewer passes
pub no_more_words : (words fewer more : ℕ) → fewer ≤ more → words * fewer ≤ words * more
no_more_words words fewer more within = mul-le-mul_left words within

module _ {T : Type 0} where
  -- where a call stands that has made some passes and taken nothing: its last pass, and that each pass but the first
  -- one counted more returns than the one before
  pub record HasPassed (start words slots sum round : ℕ) (first now : User T) : Type 0 where
    pub last : User T
    pub begun : ReadsOn first last
    pub missed : MissesAll 0 slots last now
    pub tallies : Tallies (is_beside 0 words start) sum last.0 now.0
    pub counted : returns_among (λ id. nat_lt (id / 32) words) first.0.operations + round
        ≤ tallies.total + returns_among (λ id. id / 32 == start) last.0.operations

  -- after the first pass
  pub passed_once : (start words slots sum : ℕ) (first now : User T) → start < words → ReadsOn first first
      → MissesAll 0 slots first now → Tallies (is_beside 0 words start) sum first.0 now.0
      → HasPassed start words slots sum 0 first now
  passed_once start words slots sum first now in_pool none missed tally =
      let all = adds_up _ _ _ (with_first words start in_pool) first.0.operations in
      let from = tally.from_first in
      record { last = first; begun = none; missed = missed; tallies = tally; counted = omega arith }

  -- what the last pass counted came by now
  counted_by : (start words slots sum round : ℕ) (first now : User T) → start < words
      → (passed : HasPassed start words slots sum round first now)
      → passed.tallies.total + returns_among (λ id. id / 32 == start) passed.last.0.operations
      ≤ returns_among (λ id. nat_lt (id / 32) words) now.0.operations
  counted_by start words slots sum round first now in_pool passed =
      let all = adds_up _ _ _ (with_first words start in_pool) now.0.operations in
      let grew = grown (λ id. id / 32 == start) passed.last.0 now.0 passed.missed.goes_on in
      let to = passed.tallies.to_last in
      omega arith

  pub passed_reads : (start words slots sum round : ℕ) (first now : User T) → HasPassed start words slots sum round
      first now
      → ReadsOn first now
  passed_reads start words slots sum round first now passed =
      reads_further first passed.last now passed.begun (missed_reads 0 slots passed.last now passed.missed)

  -- how many returns there were by now
  pub passed_by : (start words slots sum round : ℕ) (first now : User T) → start < words
      → HasPassed start words slots sum round first now
      → returns_among (λ id. nat_lt (id / 32) words) first.0.operations + round
      ≤ returns_among (λ id. nat_lt (id / 32) words) now.0.operations
  passed_by start words slots sum round first now in_pool passed =
      le_trans passed.counted (counted_by start words slots sum round first now in_pool passed)

  -- where nothing came back since the last pass counted, no item is free
  all_out : (start words slots sum round : ℕ) (first now : User T) → start < words → slots ≤ 32 * words
      → (passed : HasPassed start words slots sum round first now)
      → returns_among (λ id. nat_lt (id / 32) words) now.0.operations
      ≤ passed.tallies.total + returns_among (λ id. id / 32 == start) passed.last.0.operations
      → (id : ℕ) → id < slots → IsOutNow now.0 id
  all_out start words slots sum round first now in_pool covered passed none id within =
      let all = adds_up _ _ _ (with_first words start in_pool) now.0.operations in
      let grew = grown (λ id. id / 32 == start) passed.last.0 now.0 passed.missed.goes_on in
      let to = passed.tallies.to_last in
      dite (ℕ_discrete (id / 32) start)
      (λ same. out_kept (λ id. id / 32 == start) id passed.last.0.operations now.0 (eq-eqb (id / 32) start same)
      (omega arith) (passed.missed.each_was_out id (omega arith) within))
      (λ differ. passed.tallies.full (omega arith) id (inside 0 words start id (omega arith) (omega arith) differ))

  -- an item is taken only where it is free: none that was out, and didn't come back
  taken_free : (passes : ℕ → Bool) (meets : T → Type 0) (slots id : ℕ) (value : T) (old new : User T) → passes id ≡ true
      → TakesOne meets slots id value None old new
      → returns_among passes new.0.operations ≤ returns_among passes old.0.operations → IsOutNow old.0 id → ⊥
  taken_free passes meets slots id value old new own taken none out =
      let goes = taken.goes_on in
      let others : History T = goes.operations.0 in
      let made : new.0.operations ≡ Pull new.0.user id value ∷ (others ++ old.0.operations) = goes.operations.1 in
      let legal = subst (λ operations. IsLegal new.0.opening operations) made goes.sound.legal in
      let opened : value_at new.0.opening old.0.operations id ≡ None =
      ap (λ opening. value_at opening old.0.operations id) goes.same_opening ∙ out in
      let still = stays_out new.0.opening passes id others old.0.operations own
      (subst (λ operations. returns_among passes operations ≤ returns_among passes old.0.operations) made none)
      opened in
      let free : value_at new.0.opening (others ++ old.0.operations) id ≡ Some value = legal.0.0 in
      cc

  -- who takes an item after a pass that found each taken knows of one return more
  pub taken_later : (meets : T → Type 0) (start words slots sum round id : ℕ) (value : T) (first now two three : User T)
      → start < words → slots ≤ 32 * words → HasPassed start words slots sum round first now → GoesOn [] now.0 two.0
      → TakesOne meets slots id value None two three
      → returns_among (λ id. nat_lt (id / 32) words) first.0.operations + round + 1
      ≤ returns_among (λ id. nat_lt (id / 32) words) three.0.operations
  taken_later meets start words slots sum round id value first now two three in_pool covered passed goes taken =
      let in_words : ℕ → Bool = λ id. nat_lt (id / 32) words in
      let own : in_words id ≡ true = let inside_pool = taken.in_pool in lt-ltb (id / 32) words (omega arith) in
      let counted = passed.counted in
      let by_now = counted_by start words slots sum round first now in_pool passed in
      let grew = grown in_words now.0 two.0 goes in
      let grew_on = grown_by in_words _ two.0 three.0 taken.goes_on in
      elim (cases_lt (passed.tallies.total + returns_among (λ id. id / 32 == start) passed.last.0.operations)
      (returns_among in_words three.0.operations)) [
        | inl more ↦ omega arith
        | inr none ↦
            let out = out_still in_words id now.0 two.0 goes own (omega arith)
            (all_out start words slots sum round first now in_pool covered passed (omega arith) id taken.in_pool) in
            absurd (taken_free in_words meets slots id value two three own taken (omega arith) out)
      ]

  -- an item that was out and is free came back
  came_back_to : (passes : ℕ → Bool) (id : ℕ) (old now : UserView T) → passes id ≡ true
      → WasOutBetween now.opening old.operations now.operations id → (value : T)
      × (value_at now.opening now.operations id ≡ Some value)
      → returns_among passes old.operations < returns_among passes now.operations
  came_back_to passes id old now own was free =
      elim (cases_lt (returns_among passes old.operations) (returns_among passes now.operations)) [
        | inl more ↦ more
        | inr none ↦
            let out = out_kept passes id old.operations now own none was in
            let here = free.1 in
            absurd (cc)
      ]

  -- a further pass that doesn't find the pool full: it counts more than the one before
  pub passed_again : (start words slots sum more word count round : ℕ) (first now two three : User T) → start < words
      → HasPassed start words slots sum round first now → Counts slots start now word count two → word < 2 ^ 32
      → MissesAll 0 slots two three → Tallies (is_beside 0 words start) more two.0 three.0
      → ((word ≡ 0) × (more ≡ sum) → ⊥) → HasPassed start words slots more (round + 1) first three
  passed_again start words slots sum more word count round first now two three in_pool passed read fits missed tally
      changed =
      let on_start : ℕ → Bool = λ id. id / 32 == start in
      let loaded = read.goes_on in
      let since = goes_on_further [] passed.last.0 now.0 two.0 passed.missed.goes_on loaded in
      let counted = passed.counted in
      let total_one = passed.tallies.is_total in
      let to_one = passed.tallies.to_last in
      let total_two = tally.is_total in
      let from_two = tally.from_first in
      let grew = grown (is_beside 0 words start) now.0 two.0 loaded in
      let start_grew = grown on_start passed.last.0 two.0 since in
      let reads = reads_further first now two (passed_reads start words slots sum round first now passed)
      (loaded_reads slots start word count now two read) in
      record {
        last = two;
        begun = reads;
        missed = missed;
        tallies = tally;
        counted = dite (ℕ_discrete word 0)
            (λ empty. elim (cases_lt passed.tallies.total tally.total) [
              | inl less ↦ omega arith
              | inr no_less ↦
                  let same : passed.tallies.total ≡ tally.total = omega arith in
                  absurd (changed (empty, total_two ∙ ap (λ total. total % 2 ^ 32) (sym same) ∙ sym total_one))
            ])
            (λ some.
            let set = some_bit word some fits in
            let free = read.set_are_free set.0 set.1 set.2 in
            let was = still_out passed.last.0.operations now.0 two.0 (32 * start + set.0) loaded
            (passed.missed.each_was_out (32 * start + set.0) (omega arith) free.0) in
            let bit_in_word = set.1 in
            let back = came_back_to on_start (32 * start + set.0) passed.last.0 two.0
            (eq-eqb ((32 * start + set.0) / 32) start (omega arith)) was free.1 in
            omega arith);
      }

  -- the first word was empty when it was read again, and the others count what they counted before: no item was free
  -- then; or the counts came round
  pub found_full_again : (start words slots sum word count round : ℕ) (first now two three : User T) → start < words
      → slots ≤ 32 * words → HasPassed start words slots sum round first now → Counts slots start now word count two
      → word ≡ 0 → MissesAll 0 slots two three → Tallies (is_beside 0 words start) sum two.0 three.0
      → ReadsOn first three × IsFullSince slots first.0.operations three.0
  found_full_again start words slots sum word count round first now two three in_pool covered passed read empty missed
      tally =
      let in_words : ℕ → Bool = λ id. nat_lt (id / 32) words in
      let others : ℕ → Bool = is_beside 0 words start in
      let loaded = read.goes_on in
      let total_one = passed.tallies.is_total in
      let to_one = passed.tallies.to_last in
      let total_two = tally.is_total in
      let from_two = tally.from_first in
      let to_two = tally.to_last in
      let grew = grown others now.0 two.0 loaded in
      let reads_two = reads_further first now two (passed_reads start words slots sum round first now passed)
      (loaded_reads slots start word count now two read) in
      let reads = reads_further first two three reads_two (missed_reads 0 slots two three missed) in (
        reads,
        elim (cases_lt passed.tallies.total tally.total) [
          | inl more ↦
              let last_all = adds_up _ _ _ (with_first words start in_pool) three.0.operations in
              let first_all = adds_up _ _ _ (with_first words start in_pool) first.0.operations in
              let begun = grown others first.0 passed.last.0 passed.begun.goes_on in
              let from_one = passed.tallies.from_first in
              let own = grown (λ id. id / 32 == start) first.0 three.0 reads.goes_on in
              let within = grown_within in_words [] first.0 three.0 reads.goes_on in
              inr (omega arith)
          | inr no_more ↦ inl (
            two.0.operations,
            reads_two.goes_on.operations,
            missed.goes_on.operations,
            λ id inside_pool. ap (λ opening. value_at opening two.0.operations id) missed.goes_on.same_opening
                ∙ dite (ℕ_discrete (id / 32) start)
                (λ same.
                let whole : 32 * start + (id - 32 * start) ≡ id = omega arith in
                subst (IsOutNow two.0) whole (read.clear_are_out (id - 32 * start) (omega arith)
                (ap (λ w. bit_at w (id - 32 * start)) empty ∙ bit_at-zero (id - 32 * start))))
                (λ differ.
                let own = inside 0 words start id (omega arith) (omega arith) differ in
                out_still others id now.0 two.0 loaded own (omega arith)
                (passed.tallies.full (omega arith) id own)),
          )
        ],
      )

  -- so many rounds, each with a return
  pub counts_came_round : (start words slots sum round : ℕ) (first now : User T) → start < words
      → HasPassed start words slots sum round first now → 2 ^ 32 ≤ round → ReadsOn first now
      × IsFullSince slots first.0.operations now.0
  counts_came_round start words slots sum round first now in_pool passed many =
      let by_now = passed_by start words slots sum round first now in_pool passed in
      let reads = passed_reads start words slots sum round first now passed in
      let within = grown_within (λ id. nat_lt (id / 32) words) [] first.0 now.0 reads.goes_on in
      (reads, inr (omega arith))

  -- how many returns came since the call's first load
  pub returned_between : (words more : ℕ) (made : History T) (old new : UserView T) → GoesOn made old new
      → returns_among (λ id. nat_lt (id / 32) words) old.operations + more
      ≤ returns_among (λ id. nat_lt (id / 32) words) new.operations
      → more ≤ returns_between old.operations new.operations
  returned_between words more made old new goes counted =
      let within = grown_within (λ id. nat_lt (id / 32) words) made old new goes in
      omega arith

  -- so many words are read by who takes an item, by the returns since its first load
  pub taken_within : (meets : T → Type 0) (start words slots sum round id : ℕ) (value : T)
      (first now two three : User T) → start < words → slots ≤ 32 * words
      → HasPassed start words slots sum round first now → ReadsOn now two
      → TakesOne meets slots id value None two three
      → words * (round + 1) + words ≤ words * (returns_between first.0.operations three.0.operations + 1)
  taken_within meets start words slots sum round id value first now two three in_pool covered passed read taken =
      let later = taken_later meets start words slots sum round id value first now two three in_pool covered passed
      read.goes_on taken in
      let reads = reads_further first now two (passed_reads start words slots sum round first now passed)
      read in
      let goes = (takes_later meets slots id value first two three reads taken).goes_on in
      let returns = returned_between words (round + 1) _ first.0 three.0 goes (omega (arith, later)) in
      let pass = one_pass_more words (round + 1) in
      let within = no_more_words words (round + 1 + 1) (returns_between first.0.operations three.0.operations + 1)
      (omega (arith, returns)) in
      omega (arith, pass, within)

  -- and by who is refused
  pub refused_within : (start words slots sum round : ℕ) (first now two three : User T) → start < words
      → HasPassed start words slots sum round first now → ReadsOn now two → MissesAll 0 slots two three
      → words * (round + 1) + words ≤ words * (returns_between first.0.operations three.0.operations + 2)
  refused_within start words slots sum round first now two three in_pool passed read missed =
      let by_now = passed_by start words slots sum round first now in_pool passed in
      let further = goes_on_further [] now.0 two.0 three.0 read.goes_on missed.goes_on in
      let grew = grown (λ id. nat_lt (id / 32) words) now.0 three.0 further in
      let goes = goes_on_further [] first.0 now.0 three.0 (passed_reads start words slots sum round first now
      passed).goes_on
      further in
      let returns = returned_between words round [] first.0 three.0 goes (omega (arith, by_now, grew)) in
      let pass = one_pass_more words (round + 1) in
      let within = no_more_words words (round + 1 + 1) (returns_between first.0.operations three.0.operations + 2)
      (omega (arith, returns)) in
      omega (arith, pass, within)

  pub rounds_within : (start words slots sum round : ℕ) (first now : User T) → start < words
      → HasPassed start words slots sum round first now
      → words * (round + 1) ≤ words * (returns_between first.0.operations now.0.operations + 2)
  rounds_within start words slots sum round first now in_pool passed =
      let by_now = passed_by start words slots sum round first now in_pool passed in
      let goes = (passed_reads start words slots sum round first now passed).goes_on in
      let returns = returned_between words round [] first.0 now.0 goes by_now in
      no_more_words words (round + 1) (returns_between first.0.operations now.0.operations + 2) (omega (arith, returns))

  -- a user that has read the first word again goes over all words once more
  pub goes_again : (words so_far most : ℕ) (first now two three : Seat (Option T) (UserView T))
      → GoesOver so_far 1 first now → two.table_id ≡ now.table_id → two.me.0.loads ≡ now.me.0.loads + 1
      → two.me.0.tries ≡ now.me.0.tries → GoesOver words 1 two three → so_far + words ≤ most
      → GoesOver most 1 first three
  goes_again words so_far most first now two three before same loads tries pass within =
      let loads_before = before.loads in
      let tries_before = before.tries in
      let more_loads = pass.loads in
      let more_tries = pass.tries in
      record {
        same_pool = pass.same_pool ∙ same ∙ before.same_pool;
        loads = omega arith;
        tries = omega arith;
      }
