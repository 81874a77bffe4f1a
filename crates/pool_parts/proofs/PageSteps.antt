-- Each kind of step on a page keeps its rule.
use Rattle.std.proofs.Common.{◌≡◌, ℕ, ◌^◌, false, true≢false, ◌+◌, ◌*◌, ◌/◌, ◌%◌, ◌<◌, List, [], ◌∷◌, ◌++◌, length, set, ◌-◌, ◌==◌}
use Rattle.std.proofs.Common.{get_or, Option, Some, None, bit_and, refl, sym, ◌∙◌, ap, subst, arith, append-nil}
use Rattle.std.proofs.Common.{get_or-set_same, eq-eqb, ne_eqb, mul-add, mul-one}
use Rattle.std.proofs.Common.{inl, inr, ◌≤◌}
use mathlib.Core.Option.{some, none, some-injective}
use lib.ListN.{get_elem?}
use Rattle.std.proofs.lemmas.Bool.{cases_lt}
use Rattle.std.proofs.lemmas.List.{set-get_or, get_or-set_other}
use native.Mathlib.Decide.{ℕ_discrete}
use mathlib.Core.Logic.{dite}
use Rattle.std.proofs.lemmas.Nat.Bits.{bit_at-lt}
use Rattle.std.specs.Int.{bit_at}
use Rattle.atomic_table.specs.Table.{keeps, takes, gives, rest, Allows, Enters, Joins, Splits, State}
use Rattle.atomic_table.proofs.Lists.{at_set, set_again, set_here}
use Rattle.pool_parts.specs.declared.page.user_view.UserView.{UserView}
use Rattle.pool_parts.specs.declared.page.history.Operation.{Operation}
use Rattle.pool_parts.specs.declared.page.history.Operation.TheVariants.{Pull, Return}
use Rattle.pool_parts.specs.Ledger.{History, operations_of, value_at, MayFollow, IsLegal, IsPrefixOf, returns_among}
use Rattle.pool_parts.specs.Item.{new_user}
use Rattle.pool_parts.specs.PageRule.{item_bit, User, HasHistory, IsKept, IsSound, IsInformed, Knows, GoesOn, TakesOne, Misses, Loads, Counts, Meets}
use Rattle.pool_parts.specs.Word.{SetsBit, ClearsBit}
use Rattle.pool_parts.proofs.Ledger.{prefix_same, at_below}
use Rattle.pool_parts.proofs.Meetings.{met_set, met_same, met_snoc, met_nobody}
use Rattle.pool_parts.proofs.WordBits.{lacks_one, and_clears, Raises, raises, item_bit_of, Turns, turns, same_count}
use Rattle.pool_parts.proofs.WordBits.{same_counts}
use Rattle.pool_parts.proofs.PageItems.{state, joins_page, takes_item, keeps_item}
use Rattle.pool_parts.proofs.PageItems.{gives_item}
use Rattle.pool_parts.proofs.PageHistories.{newcomer, told_page, acted, has_seen, joins_history, clear_out}
use Rattle.pool_parts.proofs.PageHistories.{saw_history, after_load, acts_history, held_now}
use Rattle.pool_parts.proofs.Views.{Clears, GivesBack, AllHaveMet, told_of, gone_view, witness_of, introduction_of}

module _ {T : Type 0} (meets : T → Type 0) (raise : ℕ) (opening : List (Option T)) where
  pub loads : (slots place : ℕ)
      → Enters (IsKept meets raise opening) slots place (λ word known.
      Loads place (new_user opening known.user, []) word (known, []))
  loads slots place page kept places fits =
      let has = kept.history in
      let known : UserView T = newcomer meets raise opening has.operations (length page.views) in
      let own : operations_of (length page.views) has.operations ≡ [] =
      has.no_stranger (length page.views) (omega arith) in
      let sound : IsSound known =
      record { legal = has.legal; since_load = prefix_same has.operations; own_operations = own; holds = refl } in (
        known,
        record {
          is_page = joins_page meets page known kept.is_page refl;
          history = joins_history meets raise opening page known has record {
            seen = prefix_same has.operations;
            merged = (has.operations, sym (append-nil has.operations));
            acting = λ _. record { sound = sound; number = refl; same_opening = refl; own_so_far = own };
          };
          have_met = met_snoc page.views known (met_nobody page.views known refl) kept.have_met;
        },
        record {
          holds_same = refl;
          carries_same = refl;
          here = refl;
          same_user = refl;
          same_opening = refl;
          own_before = refl;
          own_same = refl;
          from_now = refl;
          after_known = (has.operations, sym (append-nil has.operations));
          after_told = (has.operations, sym (append-nil has.operations));
          loads = refl;
          tries = refl;
          sound = sound;
          clear_are_out = clear_out meets raise opening page has opening refl place;
        },
      )

  -- one user knows something else, and holds what it held, or nothing
  sees : (page : State (Option T) (UserView T)) (user : ℕ) (old known : UserView T)
      → (kept : IsKept meets raise opening page)
      → get_elem? page.views user ≡ some old → ((i : ℕ) → known.held ≡ Some i → old.held ≡ Some i)
      → AllHaveMet (set page.views user known) → Knows opening kept.history.operations user known
      → IsKept meets raise opening (told_page page user known)
  sees page user old known kept at held met knows = record {
    is_page = keeps_item meets page page.words user old known kept.is_page refl (λ i. refl) at held;
    history = saw_history meets raise opening page page.words user known kept.history (λ i. refl) (λ i. refl) knows;
    have_met = met;
  }

  -- so it is where a user reads a word
  reads : (page : State (Option T) (UserView T)) (place user : ℕ) (old known : UserView T)
      → (kept : IsKept meets raise opening page)
      → get_elem? page.views user ≡ some old → known.held ≡ old.held → AllHaveMet (set page.views user known)
      → Knows opening kept.history.operations user known
      → IsKept meets raise opening
      (state (set page.words place (get_or page.words place 0)) page.homes (set page.views user known))
  reads page place user old known kept at same met knows =
      subst (λ words. IsKept meets raise opening (state words page.homes (set page.views user known)))
      (sym (set-get_or page.words place 0)) (sees page user old known kept at (λ i holds. sym same ∙ holds) met knows)

  -- what a user knows, beside what it was told, whom it met and where its last call began
  told_since : (known : UserView T) (at_load merged : History T) (met : Option (ℕ × ℕ)) (meetings : ℕ)
      (operations : History T) (user : ℕ) → IsPrefixOf at_load known.operations
      → IsInformed opening operations user known
      → IsInformed opening operations user record known { at_load = at_load; merged = merged; met = met; meetings = meetings }
  told_since known at_load merged met meetings operations user began is = record {
    sound = record {
      legal = is.sound.legal;
      since_load = began;
      own_operations = is.sound.own_operations;
      holds = is.sound.holds;
    };
    number = is.number;
    same_opening = is.same_opening;
    own_so_far = is.own_so_far;
  }

  pub loads_again : (slots place user : ℕ) (me : User T) → me.0.retired ≡ false
      → Allows (IsKept meets raise opening) slots user me place (λ word. word) (Loads place me)
  loads_again slots place user me here page kept places at fits =
      let has = kept.history in
      let knew = has.informed user me.0 at in
      let step = after_load meets raise opening page has user me.0 at here (me.0.loads + 1) me.0.tries in
      let known : UserView T =
      record me.0 { operations = has.operations; at_load = has.operations; loads = me.0.loads + 1 } in
      let is : IsInformed opening has.operations user known = told_since
      (has_seen me.0 has.operations (me.0.loads + 1) me.0.tries) has.operations me.0.merged me.0.met me.0.meetings
      has.operations user (prefix_same has.operations) (step.0.acting here) in (
        known,
        keeps,
        tt,
        reads page place user me.0 known kept at refl
            (met_same page.views user me.0 known at refl refl refl kept.have_met)
            record { seen = step.0.seen; merged = knew.merged; acting = λ _. is },
        record {
          holds_same = refl;
          carries_same = refl;
          here = here;
          same_user = refl;
          same_opening = refl;
          own_before = step.1.own_before;
          own_same = refl;
          from_now = refl;
          after_known = knew.seen;
          after_told = knew.merged;
          loads = refl;
          tries = refl;
          sound = is.sound;
          clear_are_out = clear_out meets raise opening page has me.0.opening is.same_opening place;
        },
      )

  -- a witness of what a user knows
  pub witnesses : (user : ℕ) (me : UserView T) → Splits (IsKept meets raise opening) user me me (witness_of me)
  witnesses user me page kept at =
      let has = kept.history in
      subst (λ views. IsKept meets raise opening record
      { words = page.words; homes = page.homes; views = views ++ witness_of me ∷ [] })
      (sym (set_again page.views user me at)) record {
        is_page = joins_page meets page (witness_of me) kept.is_page refl;
        history = joins_history meets raise opening page (witness_of me) has record {
          seen = (has.informed user me at).seen;
          merged = (has.operations, sym (append-nil has.operations));
          acting = λ retired. absurd (true≢false retired);
        };
        have_met = met_snoc page.views (witness_of me) (met_nobody page.views (witness_of me) refl) kept.have_met;
      }

  -- a user that introduces itself
  pub introduces : (user : ℕ) (me : UserView T) → me.retired ≡ false
      → Splits (IsKept meets raise opening) user me me (introduction_of me)
  introduces user me here page kept at =
      let has = kept.history in
      let knew = has.informed user me at in
      subst (λ views. IsKept meets raise opening record
      { words = page.words; homes = page.homes; views = views ++ introduction_of me ∷ [] })
      (sym (set_again page.views user me at)) record {
        is_page = joins_page meets page (introduction_of me) kept.is_page refl;
        history = joins_history meets raise opening page (introduction_of me) has record {
          seen = knew.merged;
          merged = (has.operations, sym (append-nil has.operations));
          acting = λ retired. absurd (true≢false retired);
        };
        have_met = met_snoc page.views (introduction_of me) (λ other count met.
            let said : (me.user, me.meetings) ≡ (other, count) = cc in
            let often = ap (λ (said : ℕ × ℕ). said.1) said in (
              me,
              subst (λ i. get_elem? page.views i ≡ some me)
                  (sym (knew.acting here).number ∙ ap (λ (said : ℕ × ℕ). said.0) said) at,
              λ _. omega arith,
            )) kept.have_met;
      }

  -- a user to whom another was introduced is told the history so far
  pub meets_other : (slots place user : ℕ) (me : User T) → me.0.retired ≡ false
      → Allows (IsKept meets raise opening) slots user me place (λ word. word) (λ _. Meets me)
  meets_other slots place user me here page kept places at fits =
      let has = kept.history in
      let knew = has.informed user me.0 at in
      let is = knew.acting here in
      let known : UserView T = record me.0 { merged = has.operations; meetings = me.0.meetings + 1 } in (
        known,
        keeps,
        tt,
        reads page place user me.0 known kept at refl
            (met_set page.views user me.0 known at (λ _. (here, omega arith)) (kept.have_met user me.0 at)
            kept.have_met) record {
              seen = knew.seen;
              merged = prefix_same has.operations;
              acting = λ _. told_since me.0 me.0.at_load has.operations me.0.met (me.0.meetings + 1) has.operations
                  user is.sound.since_load is;
            },
        record {
          knows = refl;
          carries_same = refl;
          once_more = refl;
          legal = subst (λ o. IsLegal o has.operations) (sym is.same_opening) has.legal;
          after_told = knew.merged;
          own = ap (λ u. operations_of u has.operations) is.number ∙ is.own_so_far;
          holds = is.sound.holds;
          apart = λ count met.
              let there = kept.have_met user me.0 at me.0.user count met in
              let same : there.0 ≡ me.0 =
              some-injective there.0 me.0 (sym there.1 ∙ ap (get_elem? page.views) is.number ∙ at) in
              let said = there.2 (ap (λ (known : UserView T). known.retired) same ∙ here) in
              let had = ap (λ (known : UserView T). known.meetings) same in
              omega arith;
        },
      )

  pub tells : (user other : ℕ) (me them : UserView T) → me.retired ≡ false
      → Joins (IsKept meets raise opening) user me other them (told_of me them) gone_view
  tells user other me them here page kept at apart at_other =
      let known = told_of me them in
      let theirs : get_elem? page.views other ≡ some them = elim (at_set page.views user other known them at_other) [
        | inl same ↦ absurd (apart same.0)
        | inr found ↦ found.1
      ] in
      let knew = kept.history.informed user me at in
      let has_told : IsKept meets raise opening (told_page page user known) =
      sees page user me known kept at (λ i holds. holds)
      (met_set page.views user me known at (λ _. (here, omega arith)) (kept.have_met other them theirs) kept.have_met)
      record {
        seen = knew.seen;
        merged = (kept.history.informed other them theirs).seen;
        acting = λ _. let is = knew.acting here in
            told_since me me.at_load them.operations them.met me.meetings kept.history.operations user is.sound.since_load
            is;
      } in
      let none : IsPrefixOf [] has_told.history.operations =
      (has_told.history.operations, sym (append-nil has_told.history.operations)) in
      let views : List (UserView T) = set page.views user known in
      sees (told_page page user known) other them gone_view has_told at_other (λ i holds. cc)
      (met_set views other them gone_view at_other (λ retired. absurd (true≢false retired))
      (met_nobody views gone_view refl) has_told.have_met)
      record { seen = none; merged = none; acting = λ retired. absurd (true≢false retired) }

  -- an item whose bit is set in its word is free now
  set_free : (page : State (Option T) (UserView T)) (kept : IsKept meets raise opening page) (own : List (Option T))
      → own ≡ opening
      → (slots : ℕ) → length page.homes ≡ slots → (place bit : ℕ) → bit < 32
      → bit_at (get_or page.words place 0) bit ≡ 1
      → (32 * place + bit < slots)
      × ((value : T) × (value_at own kept.history.operations (32 * place + bit) ≡ Some value))
  set_free page kept own same slots places place bit within one =
      let id : ℕ = 32 * place + bit in
      let free : item_bit page.words id ≡ 1 = item_bit_of page.words place bit within ∙ one in
      let item = kept.is_page.free_is_home id free in
      let inside = at_below page.homes id (some (Some item.0)) item.1 in (
        omega arith,
        (
          item.0,
          ap (λ o. value_at o kept.history.operations id) same ∙ kept.history.free_lies id free item.0 item.1,
        ),
      )

  pub counts : (slots place user : ℕ) (me : User T) → raise ≡ 1 → me.0.retired ≡ false
      → Allows (IsKept meets raise opening) slots user me place (λ word. word) (λ word.
      Counts slots place me word (word / 2 ^ 32))
  counts slots place user me once here page kept places at fits =
      let has = kept.history in
      let known : UserView T = has_seen me.0 has.operations (me.0.loads + 1) me.0.tries in
      let step = after_load meets raise opening page has user me.0 at here (me.0.loads + 1) me.0.tries in
      let is = step.0.acting here in
      let opened = (has.informed user me.0 at).acting here in (
        known,
        keeps,
        tt,
        reads page place user me.0 known kept at refl
            (met_same page.views user me.0 known at refl refl refl kept.have_met) step.0,
        record {
          holds_same = refl;
          carries_same = refl;
          loads = refl;
          tries = refl;
          goes_on = step.1;
          clear_are_out = clear_out meets raise opening page has me.0.opening is.same_opening place;
          set_are_free = set_free page kept me.0.opening opened.same_opening slots places place;
          counts = has.counted place ∙ ap (λ r. (r * returns_among (λ id. id / 32 == place) has.operations) % 2 ^ 32)
              once
              ∙ ap (λ n. n % 2 ^ 32) (let one : 1 * returns_among (λ id. id / 32 == place) has.operations
              ≡ returns_among (λ id. id / 32 == place) has.operations = omega arith in one);
        },
      )

  pub clears : (slots place user operand bit : ℕ) (me : User T) → bit < 32 → 32 * place < slots
      → ClearsBit (2 ^ 64 - 1) bit operand → me.0.held ≡ None → me.0.retired ≡ false
      → Allows (IsKept meets raise opening) slots user me place (λ word.
      bit_and word operand) (Clears meets slots place operand me)
  clears slots place user operand bit me within inside lacks holds_none here page kept places at fits =
      let is = kept.is_page in
      let has = kept.history in
      let word : ℕ = get_or page.words place 0 in
      let words : List ℕ = set page.words place (bit_and word operand) in
      let id : ℕ = 32 * place + bit in
      let below : place < length page.words = let all = is.all_places in omega arith in
      let bits = and_clears word operand bit fits lacks in
      let counts_same = same_counts page.words place (bit_and word operand) below
      (same_count word bit (bit_and word operand) within bits.others) in
      let turned : Turns page.words id 0 words =
      turns page.words place bit 0 (bit_and word operand) within below bits.clear (λ b _. bits.others b) in
      let own_bit : item_bit page.words id ≡ bit_at word bit = item_bit_of page.words place bit within in
      elim (cases_lt 0 (bit_at word bit)) [
        | inl some_bit ↦
            let low = bit_at-lt word bit in
            let one : bit_at word bit ≡ 1 = omega arith in
            let free : item_bit page.words id ≡ 1 = own_bit ∙ one in
            let item = is.free_is_home id free in
            let inside_places : id < length page.homes = at_below page.homes id (some (Some item.0)) item.1 in
            let operation : Operation T = Pull me.0.user id item.0 in
            let known : UserView T = acted me.0 has.operations operation (me.0.tries + 1) in
            let may : MayFollow opening has.operations operation =
            (has.free_lies id free item.0 item.1, held_now meets raise opening page has user me.0 at here ∙ holds_none) in
            let history = acts_history meets raise opening page has user me.0 at here words 0 none operation (me.0.tries + 1)
            refl may has.each_returned turned (λ one. absurd (omega arith)) (λ _. refl) (λ p. counts_same p ∙ has.counted p) in (
              known,
              takes id (Some item.0),
              item.1,
              record {
                is_page = takes_item meets page words user id known is inside_places turned free refl;
                history = history.0;
                have_met = met_same page.views user me.0 known at refl refl refl kept.have_met;
              },
              (
                λ i inside lacks_i _. subst (λ i. (value : T)
                    × TakesOne meets slots (32 * place + i) value (Some value) me (known, (id, Some item.0) ∷ me.1)
                    × (known.loads ≡ me.0.loads) × (known.tries ≡ me.0.tries + 1))
                    (lacks_one operand bit i inside lacks lacks_i) (
                      item.0,
                      record {
                        in_pool = omega arith;
                        meets_condition = item.2;
                        holds = refl;
                        carries = refl;
                        goes_on = history.1;
                        each_returned = has.each_returned;
                      },
                      refl,
                      refl,
                    ),
                λ i inside lacks_i zero. let here =
                    ap (bit_at word) (lacks_one operand bit i inside lacks lacks_i) in absurd (omega arith),
              ),
            )
        | inr no_bit ↦
            let zero_bit : bit_at word bit ≡ 0 = omega arith in
            let out : item_bit page.words id ≡ 0 = own_bit ∙ zero_bit in
            let known : UserView T = has_seen me.0 has.operations me.0.loads (me.0.tries + 1) in
            let same_bits : (i : ℕ)
            → item_bit words i ≡ item_bit page.words i =
            λ i. dite (ℕ_discrete i id) (λ same. rw same (turned.here ∙ sym out)) (turned.others i) in
            let step = after_load meets raise opening page has user me.0 at here me.0.loads (me.0.tries + 1) in
            let is_now = step.0.acting here in (
              known,
              keeps,
              tt,
              record {
                is_page = keeps_item meets page words user me.0 known is turned.same_count same_bits at
                    (λ i holds. holds);
                history = saw_history meets raise opening page words user known has same_bits counts_same step.0;
                have_met = met_same page.views user me.0 known at refl refl refl kept.have_met;
              },
              (
                λ i inside lacks_i one. let here =
                    ap (bit_at word) (lacks_one operand bit i inside lacks lacks_i) in absurd (omega arith),
                λ i inside lacks_i _. subst (λ i.
                    Misses (32 * place + i) me (known, me.1)) (lacks_one operand bit i inside lacks lacks_i) record {
                      holds_same = refl;
                      carries_same = refl;
                      was_out = clear_out meets raise opening page has me.0.opening is_now.same_opening place bit within
                          zero_bit;
                      loads_same = refl;
                      one_more = refl;
                      goes_on = step.1;
                    },
              ),
            )
      ]

  -- what each word counts after a return
  counted_after : (page : State (Option T) (UserView T)) (has : HasHistory meets raise opening page) (user id new : ℕ)
      (value : T)
      → id / 32 < length page.words → Raises (get_or page.words (id / 32) 0) (id % 32) raise new → (p : ℕ)
      → ((get_or (set page.words (id / 32) new) p 0) / 2 ^ 32)
      ≡ (raise * returns_among (λ id. id / 32 == p) (Return user id value ∷ has.operations)) % 2 ^ 32
  counted_after page has user id new value below raised p = dite (ℕ_discrete (id / 32) p)
      (λ here.
      let before : ℕ = returns_among (λ id. id / 32 == p) has.operations in
      let had = has.counted p in
      let more = mul-add raise before 1 in
      let own = mul-one raise in
      let word : get_or (set page.words (id / 32) new) p 0 ≡ new =
      ap (get_or (set page.words (id / 32) new) p) refl ∙ subst (λ q. get_or (set page.words (id / 32) new) q 0 ≡ new)
      here (get_or-set_same page.words (id / 32) new 0 below) in
      let was = raised.count ∙ ap (λ q. (((get_or page.words q 0) / 2 ^ 32) + raise) % 2 ^ 32) here in
      rw (eq-eqb (id / 32) p here) (ap (λ (word : ℕ). word / 2 ^ 32) word ∙ was ∙ omega arith))
      (λ other. rw (ne_eqb (id / 32) p other) (ap (λ (word : ℕ). word / 2 ^ 32) (get_or-set_other page.words (id / 32) p
      new 0 (λ same. other (sym same))) ∙ has.counted p))

  pub gives_back : (slots user bit operand id : ℕ) (out me : User T) (value : T) → id < slots → bit < 2 ^ 32
      → raise ≤ 1 → operand ≡ raise * 2 ^ 32 + bit
      → SetsBit 0 (id % 32) bit → out.0.held ≡ Some id → out.0.retired ≡ false → out.1 ≡ (id, None) ∷ []
      → me ≡ (out.0, (id, Some value) ∷ rest out.1) → meets value
      → Allows (IsKept meets raise opening) slots user me (id / 32) (λ word. (word + operand) % 2 ^ 64)
      (λ _. GivesBack meets me)
  gives_back slots user added operand id out me value within small once is_sum sets holds here carries moved met =
      let is_me : me ≡ (out.0, (id, Some value) ∷ []) =
      moved ∙ ap (λ (carried : List (ℕ × Option T)). (out.0, (id, Some value) ∷ rest carried)) carries in
      subst (λ me. Allows (IsKept meets raise opening) slots user me (id / 32) (λ word.
      (word + operand) % 2 ^ 64) (λ _. GivesBack meets me)) (sym is_me) (λ page kept places at fits.
      let is = kept.is_page in
      let has = kept.history in
      let place : ℕ = id / 32 in
      let bit : ℕ = id % 32 in
      let word : ℕ = get_or page.words place 0 in
      let new : ℕ = (word + operand) % 2 ^ 64 in
      let words : List ℕ = set page.words place new in
      let below : place < length page.words = let all = is.all_places in omega arith in
      let whole : 32 * place + bit ≡ id = omega arith in
      let clear : bit_at word bit ≡ 0 = (is.held_is_out user id (out.0, at, holds)).1 in
      let operation : Operation T = Return out.0.user id value in
      let may : MayFollow opening has.operations operation =
      (has.out_lies id clear, held_now meets raise opening page has user out.0 at here ∙ holds) in
      let raised : Raises word bit raise new = subst (λ o. Raises word bit raise ((word + o) % 2 ^ 64)) (sym is_sum)
      (raises word added bit raise (omega arith) small once fits sets clear) in
      let turned : Turns page.words id 1 words =
      subst (λ i. Turns page.words i 1 words) whole
      (turns page.words place bit 1 new (omega arith) below raised.set raised.others) in
      let known : UserView T = acted out.0 has.operations operation out.0.tries in
      let inside : id < length page.homes = omega arith in
      let history = acts_history meets raise opening page has user out.0 at here words 1 (some (Some value)) operation
      out.0.tries
      refl may (met, has.each_returned) turned (λ _ found home. some-injective (Some value) (Some found)
      (some-injective (some (Some value)) (some (Some found))
      (sym (set_here page.homes id (some (Some value)) inside) ∙ home))) (λ one. absurd (omega arith))
      (counted_after page has out.0.user id new value below raised) in (
        known,
        gives,
        tt,
        record {
          is_page = gives_item meets page words user id out.0 value known is inside turned at holds met refl;
          history = history.0;
          have_met = met_same page.views user out.0 known at refl refl refl kept.have_met;
        },
        (
          refl,
          refl,
          (met, has.each_returned),
          λ i found holds_i carries_i.
              let same_id : id ≡ i = cc in
              let same : Some value ≡ Some found =
              ap (λ (carried : List (ℕ × Option T)). (get_or carried 0 (id, None)).1) carries_i in
              let same_value : value ≡ found = cc in
              subst (λ (operation : Operation T). GoesOn (operation ∷ []) out.0 known) (λ k.
              Return out.0.user (same_id k) (same_value k)) history.1,
        ),
      ))
