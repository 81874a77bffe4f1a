-- Facts of runs: a run's pulls, returns and growths are a legal history of one pool, its ledger is
-- legal, its pool is what the ledger says, and each number that is out has one holder.
use Rattle.std.proofs.Common.{◌≡◌, ◌≢◌, inl, inr, ℕ, ◌+◌, ◌-◌, ◌*◌, ◌<◌, ◌≤◌, ◌==◌, nat_lt, Bool, true, false}
use Rattle.std.proofs.Common.{if◌then◌else◌, Option, Some, None, List, [], ◌∷◌, ◌++◌, map, length, get_or, slice_get}
use Rattle.std.proofs.Common.{zero, suc, refl, ap, sym, ◌∙◌, arith, length-append}
use Rattle.std.proofs.lemmas.Bool.{eq-eqb, ne_eqb, cases_lt, cases_Bool, lt-ltb, le-ltb, ltb-true}
use Rattle.std.proofs.lemmas.List.{length-map, map-append}
use Rattle.std.proofs.lemmas.Option.{slice_get_past}
use Rattle.pool_parts.specs.declared.page.history.Operation.{Operation}
use Rattle.pool_parts.specs.declared.page.history.Operation.TheVariants.{Pull, Return}
use Rattle.pool_parts.specs.Ledger.{user_of, id_of, operations_of, held_id, left_by, value_at, IsLegal, NoOperationOn, value_at-here, value_at-elsewhere}
use Rattle.pool_parts.proofs.Ledger.{operations_of_own}
use Rattle.pool_parts.proofs.LedgerHolders.{held}
use Rattle.pool_world.specs.Pool.{Place, Pool, Absent, Free, Out, IsPool, AllowsPages, place_of, free_with}
use Rattle.pool_world.specs.Run.{Act, Opens, Writes, Operates, Grows, agent_of, acts_of, ledger_of}
use Rattle.pool_world.specs.Run.{pages_of, made, opened, pool_of, Looks, last_value, Holds, Since, MayCome, Run, AreLegalActs}
use Rattle.pool_world.specs.Run.{HasHolders, AtEachPlace}
use Rattle.pool_world.proofs.Places.{place_of-free, place_of-out, place_of-there}
use Rattle.pool_world.proofs.Places.{slice_get-append_back}
use Rattle.pool_world.proofs.LegalLedgers.{untouched-value}
use Rattle.pool_world.proofs.LegalLedgers.{untouched-past, held-inside, value_at-more, legal-more, has-holder}

module _ {T : Type 0} where
  -- an agent that looks has begun, so what is true of the pool now was true since then
  pub since-now : (first : List T) (acts : List (Act T)) (a : ℕ) (P : Pool T → Type 0) → Looks (acts_of a acts)
      → P (pool_of first acts) → Since first a P acts
  since-now first [] a P looks holds = absurd looks
  since-now first (act ∷ acts) a P looks holds = inl holds

  -- and it stays so after an act that doesn't open the agent
  pub since-later : (first : List T) (act : Act T) (acts : List (Act T)) (a : ℕ) (P : Pool T → Type 0) → act ≢ Opens a
      → Since first a P acts → Since first a P (act ∷ acts)
  since-later first act acts a P other since = inr (other, since)

  -- an act of another agent doesn't open this one
  pub other-opens : (act : Act T) (a : ℕ) → agent_of act ≢ a → act ≢ Opens a
  other-opens act a other opens = other (ap agent_of opens)

  -- an act is one of its own agent's, and of no other's
  pub acts_of-own : (act : Act T) (acts : List (Act T)) (a : ℕ) → agent_of act ≡ a
      → acts_of a (act ∷ acts) ≡ act ∷ acts_of a acts
  acts_of-own act acts a own = rw (eq-eqb (agent_of act) a own) refl

  pub acts_of-other : (act : Act T) (acts : List (Act T)) (a : ℕ) → agent_of act ≢ a
      → acts_of a (act ∷ acts) ≡ acts_of a acts
  acts_of-other act acts a other = rw (ne_eqb (agent_of act) a other) refl

  -- an agent's operations are the ledger of its own acts
  ledger-own : (acts : List (Act T)) (a : ℕ) → operations_of a (ledger_of acts) ≡ ledger_of (acts_of a acts)
  ledger-own [] a = refl
  ledger-own (Operates (Pull who id value) ∷ acts) a = elim (cases_Bool (who == a)) [
    | inl own ↦ rw own (ap (λ before. Pull who id value ∷ before) (ledger-own acts a))
    | inr other ↦ rw other (ledger-own acts a)
  ]
  ledger-own (Operates (Return who id value) ∷ acts) a = elim (cases_Bool (who == a)) [
    | inl own ↦ rw own (ap (λ before. Return who id value ∷ before) (ledger-own acts a))
    | inr other ↦ rw other (ledger-own acts a)
  ]
  ledger-own (act ∷ acts) a = elim (cases_Bool (agent_of act == a)) [
    | inl own ↦ rw own (ledger-own acts a)
    | inr other ↦ rw other (ledger-own acts a)
  ]

  -- what an agent holds stays while others act
  pub holds-same : (acts more : List (Act T)) (a n : ℕ) (value : T) → acts_of a more ≡ acts_of a acts
      → Holds acts a n value → Holds more a n value
  holds-same acts more a n value same holds = record {
    number = ap held_id (ledger-own more a ∙ ap ledger_of same ∙ sym (ledger-own acts a)) ∙ holds.number;
    has = ap last_value same ∙ holds.has;
  }

  -- who pulls a number holds it, and who writes holds it with what it wrote
  pub holds-pulled : (acts : List (Act T)) (a n : ℕ) (value : T) → Holds (Operates (Pull a n value) ∷ acts) a n value
  holds-pulled acts a n value = record {
    number = ap held_id (operations_of_own a (Pull a n value) (ledger_of acts) refl);
    has = ap last_value (acts_of-own (Operates (Pull a n value)) acts a refl);
  }

  pub holds-written : (acts : List (Act T)) (a n : ℕ) (old value : T) → Holds acts a n old
      → Holds (Writes a value ∷ acts) a n value
  holds-written acts a n old value holds = record {
    number = holds.number;
    has = ap last_value (acts_of-own (Writes a value) acts a refl);
  }

  -- an agent that looks has neither pulled nor returned, and a holder has a value
  looks-none : (own : List (Act T)) → Looks own → ledger_of own ≡ []
  looks-none (Opens a ∷ []) looks = refl
  looks-none (Grows a values ∷ own) looks = looks-none own looks
  looks-none _ looks = absurd looks

  has-value : (own : List (Act T)) (n : ℕ) → held_id (ledger_of own) ≡ Some n
      → (value : T) × (last_value own ≡ Some value)
  has-value [] n holds = absurd (cc)
  has-value (Operates (Pull a m value) ∷ own) n holds = (value, refl)
  has-value (Operates (Return a m value) ∷ own) n holds = absurd (cc)
  has-value (Writes a value ∷ own) n holds = (value, refl)
  has-value (act ∷ own) n holds = has-value own n holds

  -- values with which a page comes are free
  pub free-values : (values : List T) (n : ℕ) → n < length values
      → place_of (Some (get_or (map Some values) n None)) ≡ free_with (slice_get values n)
  free-values [] n below = absurd (omega arith)
  free-values (value ∷ values) zero below = refl
  free-values (value ∷ values) (suc n) below = free-values values n (omega arith)

  pub some-values : (values : List T) (n : ℕ) → n < length values → get_or (map Some values) n None ≢ None
  some-values [] n below none = absurd (omega arith)
  some-values (value ∷ values) zero below none = cc
  some-values (value ∷ values) (suc n) below none = some-values values n (omega arith) none

  -- a pool has another place at one number
  pub record IsPlaced (old : Pool T) (n : ℕ) (place : Place T) (new : Pool T) : Type 0 where
    pub pages : new.pages ≡ old.pages
    pub here : new.at n ≡ place
    pub there : (m : ℕ) → m ≢ n → new.at m ≡ old.at m

  -- a pool has a page more, whose numbers are free with these values
  pub record IsGrown (old : Pool T) (values : List T) (new : Pool T) : Type 0 where
    pub pages : new.pages ≡ old.pages + 1
    pub before : (n : ℕ) → n < 32 * old.pages → new.at n ≡ old.at n
    pub page : (n : ℕ) → 32 * old.pages ≤ n → new.at n ≡ free_with (slice_get values (n - 32 * old.pages))

if-some : {X : Type 0} (test : Bool) (x y : X) → (if test then Some x else None) ≡ Some y → (test ≡ true) × (x ≡ y)
if-some true x y is = let same : x ≡ y = cc in (refl, same)
if-some false x y is = absurd (cc)

module _ {T : Type 0} (first : List T) where
  -- what there is at a number: what the ledger says at those of the pages, and nothing past them
  pub pool-inside : (acts : List (Act T)) (n : ℕ) → n < 32 * pages_of acts
      → (pool_of first acts).at n ≡ place_of (Some (value_at (opened first acts) (ledger_of acts) n))
  pool-inside acts n below = rw (lt-ltb n (32 * pages_of acts) below) refl

  pub pool-there : (acts : List (Act T)) (n : ℕ) → n < 32 * pages_of acts → (pool_of first acts).at n ≢ Absent
  pool-there acts n below absent = place_of-there _ (sym (pool-inside acts n below) ∙ absent)

  pool-past : (acts : List (Act T)) (n : ℕ) → 32 * pages_of acts ≤ n → (pool_of first acts).at n ≡ Absent
  pool-past acts n past = rw (le-ltb n (32 * pages_of acts) past) refl

  pub free-lies : (acts : List (Act T)) (n : ℕ) (value : T) → (pool_of first acts).at n ≡ Free value
      → value_at (opened first acts) (ledger_of acts) n ≡ Some value
  free-lies acts n value free = (if-some _ _ _ (place_of-free _ value free)).1

  pub out-lies : (acts : List (Act T)) (n : ℕ) → (pool_of first acts).at n ≡ Out
      → (n < 32 * pages_of acts) × (value_at (opened first acts) (ledger_of acts) n ≡ None)
  out-lies acts n out =
      let is = if-some (nat_lt n (32 * pages_of acts)) _ _ (place_of-out _ out) in
      (ltb-true n (32 * pages_of acts) is.0, is.1)

  -- a pull or a return changes the place of its number
  pub pool-operated : (acts : List (Act T)) (operation : Operation T) → id_of operation < 32 * pages_of acts
      → IsPlaced (pool_of first acts) (id_of operation) (place_of (Some (left_by operation)))
      (pool_of first (Operates operation ∷ acts))
  pool-operated acts operation inside =
      let opening = opened first acts in
      let before = ledger_of acts in
      record {
        pages = refl;
        here = pool-inside (Operates operation ∷ acts) (id_of operation) inside
            ∙ ap (λ lies. place_of (Some lies)) (value_at-here opening operation before (id_of operation) refl);
        there = λ n other. ap (λ lies. place_of (if nat_lt n (32 * pages_of acts) then Some lies else None))
            (value_at-elsewhere opening operation before n (λ same. other (sym same)));
      }

  -- a number on which no operation was is free with the value with which its page came
  pub pool-untouched : (acts : List (Act T)) → length (made first acts) ≡ 32 * pages_of acts → (n : ℕ)
      → NoOperationOn n (ledger_of acts) → (pool_of first acts).at n ≡ free_with (slice_get (made first acts) n)
  pool-untouched acts count n none = elim (cases_lt n (32 * pages_of acts)) [
    | inl below ↦
        pool-inside acts n below
        ∙ ap (λ lies. place_of (Some lies)) (untouched-value (opened first acts) (ledger_of acts) n none)
        ∙ free-values (made first acts) n (omega arith)
    | inr past ↦ pool-past acts n past ∙ ap free_with (sym (slice_get_past (made first acts) n (omega arith)))
  ]

  -- the first page comes to a pool that has none
  pub pool-opening : length first ≡ 32 → IsGrown (record { pages = 0; at = λ n. Absent }) first (pool_of first [])
  pool-opening full = record {
    pages = refl;
    before = λ n below. absurd (omega arith);
    page = λ n past. let same : n ≡ n - 0 = omega arith in
        pool-untouched [] full n tt ∙ ap (λ m. free_with (slice_get first m)) same;
  }

module _ {T : Type 0} (first : List T) where
  -- the ledger of a legal history of one pool is legal, from all the values that came
  pub legal-acts : (acts : List (Act T)) → AreLegalActs first acts → IsLegal (opened first acts) (ledger_of acts)
  legal-acts [] legal = tt
  legal-acts (Operates operation ∷ acts) legal = (legal.0, legal-acts acts legal.1)
  legal-acts (Grows a values ∷ acts) legal =
      rw (map-append Some (made first acts) values)
      (legal-more (opened first acts) (map Some values) (ledger_of acts) (legal-acts acts legal.1))
  legal-acts (act ∷ acts) legal = legal-acts acts legal

module _ {T : Type 0} (first : List T) (full : length first ≡ 32) where
  -- pages come with a value for each of their numbers
  pub made-count : (acts : List (Act T)) → AreLegalActs first acts → length (made first acts) ≡ 32 * pages_of acts
  made-count [] legal = omega arith
  made-count (Grows a values ∷ acts) legal =
      let before = made-count acts legal.1 in
      let more = length-append (made first acts) values in
      let page = legal.0 in
      omega arith
  made-count (Operates operation ∷ acts) legal = made-count acts legal.1
  made-count (act ∷ acts) legal = made-count acts legal

  -- a growth brings a page
  pub pool-grown : (acts : List (Act T)) → AreLegalActs first acts → (a : ℕ) (values : List T)
      → length values ≡ 32 → IsGrown (pool_of first acts) values (pool_of first (Grows a values ∷ acts))
  pool-grown acts legal a values page =
      let longer = Grows a values ∷ acts in
      let opening = opened first acts in
      let history = ledger_of acts in
      let count = made-count acts legal in
      let numbers = length-map (made first acts) (λ value. Some value) in
      let more = length-append (made first acts) values in
      let split = map-append Some (made first acts) values in
      record {
        pages = refl;
        before = λ n below.
            pool-inside first longer n (omega arith)
            ∙ ap (λ lies. place_of (Some lies)) (ap (λ opens. value_at opens history n) split
            ∙ value_at-more opening (map Some values) history n (omega arith))
            ∙ sym (pool-inside first acts n below);
        page = λ n past.
            let none = untouched-past opening history (legal-acts first acts legal) n (omega arith) in
            let same : n ≡ n - 32 * pages_of acts + length (made first acts) = omega arith in
            pool-untouched first longer (omega arith) n none
            ∙ ap free_with (ap (slice_get (made first acts ++ values)) same
            ∙ slice_get-append_back (made first acts) values (n - 32 * pages_of acts));
      }

module _ {T : Type 0} (Leaves : T → T → Type 0) (limit : Option ℕ) (first : List T) where
  -- the pulls, returns and growths of a run are a legal history of one pool that grows
  pub run-acts : (acts : List (Act T)) → Run Leaves limit first acts → AreLegalActs first acts
  run-acts [] run = tt
  run-acts (Operates (Pull a n value) ∷ acts) run = (run.0.0, run-acts acts run.1)
  run-acts (Operates (Return a n kept) ∷ acts) run = (run.0.0, run-acts acts run.1)
  run-acts (Grows a values ∷ acts) run = (run.0.1.0, run-acts acts run.1)
  run-acts (act ∷ acts) run = run-acts acts run.1

  -- so the ledger of a run is legal
  pub legal-run : (acts : List (Act T)) → Run Leaves limit first acts → IsLegal (opened first acts) (ledger_of acts)
  legal-run acts run = legal-acts first acts (run-acts acts run)

  -- no more pages came than there may be
  allowed-run : AllowsPages limit 1 → (acts : List (Act T)) → Run Leaves limit first acts
      → AllowsPages limit (pages_of acts)
  allowed-run allowed [] run = allowed
  allowed-run allowed (Grows a values ∷ acts) run = run.0.1.1
  allowed-run allowed (act ∷ acts) run = allowed-run allowed acts run.1

  -- the numbers are those of the pages
  pub whole-run : AllowsPages limit 1 → (acts : List (Act T)) → Run Leaves limit first acts
      → IsPool limit (pool_of first acts)
  whole-run allowed acts run = record {
    inside = pool-there first acts;
    past = pool-past first acts;
    allowed = allowed-run allowed acts run;
  }

  -- what each run has holds at each place of a run
  pub each-place : (P : List (Act T) → Type 0) → ((acts : List (Act T)) → Run Leaves limit first acts → P acts)
      → (acts : List (Act T)) → Run Leaves limit first acts → AtEachPlace P acts
  each-place P has [] run = has [] run
  each-place P has (act ∷ acts) run = (has (act ∷ acts) run, each-place P has acts run.1)

  -- an agent that looks may pull what is free, and a holder may return what it holds
  pub may-pull : (acts : List (Act T)) → (a n : ℕ) (value : T) → Looks (acts_of a acts)
      → (pool_of first acts).at n ≡ Free value → MayCome Leaves limit first acts (Operates (Pull a n value))
  may-pull acts a n value looks free =
      let none = ap held_id (ledger-own acts a ∙ looks-none (acts_of a acts) looks) in
      ((free-lies first acts n value free, none), looks)

  pub may-return : (acts : List (Act T)) → Run Leaves limit first acts → (a n : ℕ) (value kept : T)
      → Holds acts a n value → Leaves value kept → MayCome Leaves limit first acts (Operates (Return a n kept))
  may-return acts run a n value kept holds leaves =
      let out = (held (opened first acts) (ledger_of acts) (legal-run acts run)).out a n holds.number in
      ((out, holds.number), (value, holds.has, leaves))

  module _ (full : length first ≡ 32) where
    -- each number that is out has one holder, and each other number none
    pub holders-run : (acts : List (Act T)) → Run Leaves limit first acts → HasHolders first acts
    holders-run acts run =
        let opening = opened first acts in
        let history = ledger_of acts in
        let legal = legal-run acts run in
        let has = held opening history legal in
        let count = made-count first full acts (run-acts acts run) in
        let numbers = length-map (made first acts) (λ value. Some value) in
        record {
          some = λ n out.
              let (below, none) = out-lies first acts n out in
              let opens = some-values (made first acts) n (omega arith) in
              let (a, number) = has-holder opening history legal n opens none in
              let (value, is) = has-value (acts_of a acts) n (ap held_id (sym (ledger-own acts a)) ∙ number) in
              (a, value, record { number = number; has = is });
          out = λ n a holds.
              let below = held-inside opening history legal a n holds in
              pool-inside first acts n (omega arith) ∙ ap (λ lies. place_of (Some lies)) (has.out a n holds);
          one = λ n a b p q. has.one a b n p q;
        }
