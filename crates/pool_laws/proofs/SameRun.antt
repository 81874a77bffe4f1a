-- Each legal history of one pool has a run of the main theorem (`has-run`). There an agent pulls
-- once, so each pull and each growth has an agent of its own, which is named by how many acts stand
-- before it; a return is done by the agent of the pull (`puller`), which writes before it what
-- reset needs.
use Rattle.std.proofs.Common.{◌≡◌, ◌≢◌, inl, inr, ℕ, ◌+◌, ◌≤◌, ◌==◌, if◌then◌else◌, Option, Some, None}
use Rattle.std.proofs.Common.{List, [], ◌∷◌, ◌++◌, map, length, refl, ap, sym, ◌∙◌, subst, arith}
use Rattle.std.specs.Prelude.{⊤}
use Rattle.std.proofs.lemmas.Bool.{eq-eqb, ne_eqb, cases_eq}
use Rattle.pool_parts.specs.declared.page.history.Operation.TheVariants.{Pull, Return}
use Rattle.pool_parts.specs.Ledger.{operations_of, held_id, value_at}
use Rattle.pool_parts.proofs.Ledger.{operations_of_own, operations_of_other}
use Rattle.pool_parts.proofs.LedgerHolders.{held}
use Rattle.pool_world.specs.Pool.{AllowsPages}
use Rattle.pool_world.specs.Run.{Act, Opens, Writes, Operates, Grows, Refused, agent_of, acts_of, ledger_of, pages_of}
use Rattle.pool_world.specs.Run.{made, opened, last_value, Looks, AreLegalActs, Run}
use Rattle.pool_world.proofs.Runs.{acts_of-own, acts_of-other, legal-acts}
use Rattle.pool_laws.specs.SameRun.{unnamed, AreLeft, HasRun}

module _ {T : Type 0} where
  -- who pulled a number last: the agent is named by how many acts stand before the pull
  abbrev puller : ℕ → List (Act T) → ℕ
  puller n [] = 0
  puller n (Operates (Pull user m value) ∷ acts) = if m == n then length acts else puller n acts
  puller n (_ ∷ acts) = puller n acts

  puller-here : (user m n : ℕ) (value : T) (acts : List (Act T)) → m ≡ n
      → puller n (Operates (Pull user m value) ∷ acts) ≡ length acts
  puller-here user m n value acts same = rw (eq-eqb m n same) refl

  puller-past : (user m n : ℕ) (value : T) (acts : List (Act T)) → m ≢ n
      → puller n (Operates (Pull user m value) ∷ acts) ≡ puller n acts
  puller-past user m n value acts other = rw (ne_eqb m n other) refl

  module _ (Leaves : T → T → Type 0) where
    -- the acts of the run
    abbrev run_of : (acts : List (Act T)) → AreLeft Leaves acts → List (Act T)
    run_of [] left = []
    run_of (Operates (Pull user n value) ∷ acts) left =
        Operates (Pull (length acts) n value) ∷ Opens (length acts) ∷ run_of acts left
    run_of (Operates (Return user n kept) ∷ acts) left =
        Operates (Return (puller n acts) n kept) ∷ Writes (puller n acts) left.0.0 ∷ run_of acts left.1
    run_of (Grows agent values ∷ acts) left = Grows (length acts) values ∷ Opens (length acts) ∷ run_of acts left
    run_of (Opens agent ∷ acts) left = run_of acts left
    run_of (Writes agent value ∷ acts) left = run_of acts left
    run_of (Refused agent cause ∷ acts) left = run_of acts left

    run_made : (first : List T) (acts : List (Act T)) (left : AreLeft Leaves acts)
        → made first (run_of acts left) ≡ made first acts
    run_made first [] left = refl
    run_made first (Operates (Pull user n value) ∷ acts) left = run_made first acts left
    run_made first (Operates (Return user n kept) ∷ acts) left = run_made first acts left.1
    run_made first (Grows agent values ∷ acts) left = ap (λ made. made ++ values) (run_made first acts left)
    run_made first (Opens agent ∷ acts) left = run_made first acts left
    run_made first (Writes agent value ∷ acts) left = run_made first acts left
    run_made first (Refused agent cause ∷ acts) left = run_made first acts left

    run_pages : (acts : List (Act T)) (left : AreLeft Leaves acts) → pages_of (run_of acts left) ≡ pages_of acts
    run_pages [] left = refl
    run_pages (Operates (Pull user n value) ∷ acts) left = run_pages acts left
    run_pages (Operates (Return user n kept) ∷ acts) left = run_pages acts left.1
    run_pages (Grows agent values ∷ acts) left = ap (λ pages. pages + 1) (run_pages acts left)
    run_pages (Opens agent ∷ acts) left = run_pages acts left
    run_pages (Writes agent value ∷ acts) left = run_pages acts left
    run_pages (Refused agent cause ∷ acts) left = run_pages acts left

    run_operations : (acts : List (Act T)) (left : AreLeft Leaves acts)
        → map unnamed (ledger_of (run_of acts left)) ≡ map unnamed (ledger_of acts)
    run_operations [] left = refl
    run_operations (Operates (Pull user n value) ∷ acts) left = ap (λ l. Pull 0 n value ∷ l) (run_operations acts left)
    run_operations (Operates (Return user n kept) ∷ acts) left =
        ap (λ l. Return 0 n kept ∷ l) (run_operations acts left.1)
    run_operations (Grows agent values ∷ acts) left = run_operations acts left
    run_operations (Opens agent ∷ acts) left = run_operations acts left
    run_operations (Writes agent value ∷ acts) left = run_operations acts left
    run_operations (Refused agent cause ∷ acts) left = run_operations acts left

    -- what lies at a number doesn't ask who
    run_value : (opening : List (Option T)) (acts : List (Act T)) (left : AreLeft Leaves acts) (n : ℕ)
        → value_at opening (ledger_of (run_of acts left)) n ≡ value_at opening (ledger_of acts) n
    run_value opening [] left n = refl
    run_value opening (Operates (Pull user m value) ∷ acts) left n =
        ap (λ lies. if m == n then None else lies) (run_value opening acts left n)
    run_value opening (Operates (Return user m kept) ∷ acts) left n =
        ap (λ lies. if m == n then Some kept else lies) (run_value opening acts left.1 n)
    run_value opening (Grows agent values ∷ acts) left n = run_value opening acts left n
    run_value opening (Opens agent ∷ acts) left n = run_value opening acts left n
    run_value opening (Writes agent value ∷ acts) left n = run_value opening acts left n
    run_value opening (Refused agent cause ∷ acts) left n = run_value opening acts left n

    puller-below : (n : ℕ) (acts : List (Act T)) → puller n acts ≤ length acts
    puller-below n [] = omega arith
    puller-below n (Operates (Pull user m value) ∷ acts) = elim (cases_eq m n) [
      | inl same ↦ rw (eq-eqb m n same) (omega arith)
      | inr other ↦ let before = puller-below n acts in rw (ne_eqb m n other) (omega (arith, before))
    ]
    puller-below n (Operates (Return user m kept) ∷ acts) = let before = puller-below n acts in omega (arith, before)
    puller-below n (Grows agent values ∷ acts) = let before = puller-below n acts in omega (arith, before)
    puller-below n (Opens agent ∷ acts) = let before = puller-below n acts in omega (arith, before)
    puller-below n (Writes agent value ∷ acts) = let before = puller-below n acts in omega (arith, before)
    puller-below n (Refused agent cause ∷ acts) = let before = puller-below n acts in omega (arith, before)

    -- an act of another agent, before which stands one of the same
    two-others : (act act' : Act T) (acts : List (Act T)) (a : ℕ) → agent_of act ≢ a → agent_of act' ≢ a
        → acts_of a acts ≡ [] → acts_of a (act ∷ act' ∷ acts) ≡ []
    two-others act act' acts a other other' none =
        acts_of-other act (act' ∷ acts) a other ∙ acts_of-other act' acts a other' ∙ none

    -- an agent of a later number has done nothing yet
    fresh : (acts : List (Act T)) (left : AreLeft Leaves acts) (a : ℕ) → length acts ≤ a
        → acts_of a (run_of acts left) ≡ []
    fresh [] left a past = refl
    fresh (Operates (Pull user m value) ∷ acts) left a past =
        two-others (Operates (Pull (length acts) m value)) (Opens (length acts)) (run_of acts left) a
        (λ same. omega (arith, same, past)) (λ same. omega (arith, same, past)) (fresh acts left a (omega (arith, past)))
    fresh (Operates (Return user m kept) ∷ acts) left a past =
        let below = puller-below m acts in
        two-others (Operates (Return (puller m acts) m kept)) (Writes (puller m acts) left.0.0) (run_of acts left.1) a
        (λ same. omega (arith, same, past, below)) (λ same. omega (arith, same, past, below))
        (fresh acts left.1 a (omega (arith, past)))
    fresh (Grows agent values ∷ acts) left a past =
        two-others (Grows (length acts) values) (Opens (length acts)) (run_of acts left) a
        (λ same. omega (arith, same, past)) (λ same. omega (arith, same, past)) (fresh acts left a (omega (arith, past)))
    fresh (Opens agent ∷ acts) left a past = fresh acts left a (omega (arith, past))
    fresh (Writes agent value ∷ acts) left a past = fresh acts left a (omega (arith, past))
    fresh (Refused agent cause ∷ acts) left a past = fresh acts left a (omega (arith, past))

    fresh-ledger : (acts : List (Act T)) (left : AreLeft Leaves acts) (a : ℕ) → length acts ≤ a
        → operations_of a (ledger_of (run_of acts left)) ≡ []
    fresh-ledger [] left a past = refl
    fresh-ledger (Operates (Pull user m value) ∷ acts) left a past =
        operations_of_other a (Pull (length acts) m value) (ledger_of (run_of acts left)) (λ same.
        omega (arith, same, past))
        ∙ fresh-ledger acts left a (omega (arith, past))
    fresh-ledger (Operates (Return user m kept) ∷ acts) left a past =
        let below = puller-below m acts in
        operations_of_other a (Return (puller m acts) m kept) (ledger_of (run_of acts left.1)) (λ same.
        omega (arith, same, past, below))
        ∙ fresh-ledger acts left.1 a (omega (arith, past))
    fresh-ledger (Grows agent values ∷ acts) left a past = fresh-ledger acts left a (omega (arith, past))
    fresh-ledger (Opens agent ∷ acts) left a past = fresh-ledger acts left a (omega (arith, past))
    fresh-ledger (Writes agent value ∷ acts) left a past = fresh-ledger acts left a (omega (arith, past))
    fresh-ledger (Refused agent cause ∷ acts) left a past = fresh-ledger acts left a (omega (arith, past))

    module _ (first : List T) where
      -- the number that somebody holds is held by the agent that pulled it last
      holder : (acts : List (Act T)) (left : AreLeft Leaves acts) → AreLegalActs first acts → (user n : ℕ)
          → held_id (operations_of user (ledger_of acts)) ≡ Some n
          → held_id (operations_of (puller n acts) (ledger_of (run_of acts left))) ≡ Some n
      holder [] left one user n holds = absurd (cc)
      holder (Operates (Pull who m value) ∷ acts) left one user n holds =
          let ledger = ledger_of acts in
          let ran = ledger_of (run_of acts left) in
          let new = length acts in
          let there = held (opened first acts) ledger (legal-acts first acts one.1) in
          elim (cases_eq who user) [
            | inl own ↦
                let is : Some m ≡ Some n = ap held_id (sym (operations_of_own user (Pull who m value) ledger own)) ∙ holds in
                let same : m ≡ n = cc in
                ap (λ a. held_id (operations_of a (Pull new m value ∷ ran))) (puller-here who m n value acts same)
                ∙ ap held_id (operations_of_own new (Pull new m value) ran refl) ∙ ap Some same
            | inr other ↦
                let before = ap held_id (sym (operations_of_other user (Pull who m value) ledger other)) ∙ holds in
                let out = there.out user n before in
                let free = one.0.0 in
                let differ : m ≢ n = λ same.
                let is : Some value ≡ None = sym free ∙ ap (value_at (opened first acts) ledger) same ∙ out in
                absurd (cc) in
                let now = holder acts left one.1 user n before in
                let apart : new ≢ puller n acts = λ same.
                let is : None ≡ Some n = sym (ap held_id (fresh-ledger acts left new (omega arith)))
                ∙ ap (λ a. held_id (operations_of a ran)) same ∙ now in absurd (cc) in
                ap (λ a. held_id (operations_of a (Pull new m value ∷ ran))) (puller-past who m n value acts differ)
                ∙ ap held_id (operations_of_other (puller n acts) (Pull new m value) ran apart) ∙ now
          ]
      holder (Operates (Return who m kept) ∷ acts) left one user n holds =
          let ledger = ledger_of acts in
          let ran = ledger_of (run_of acts left.1) in
          let there = held (opened first acts) ledger (legal-acts first acts one.1) in
          elim (cases_eq who user) [
            | inl own ↦
                let is : None ≡ Some n = ap held_id (sym (operations_of_own user (Return who m kept) ledger own)) ∙ holds in
                absurd (cc)
            | inr other ↦
                let before = ap held_id (sym (operations_of_other user (Return who m kept) ledger other)) ∙ holds in
                let differ : m ≢ n = λ same. other (there.one who user n (one.0.1 ∙ ap Some same) before) in
                let now = holder acts left.1 one.1 user n before in
                let theirs = holder acts left.1 one.1 who m one.0.1 in
                let apart : puller m acts ≢ puller n acts = λ same.
                let is : Some m ≡ Some n = sym theirs ∙ ap (λ a. held_id (operations_of a ran)) same ∙ now in
                differ (cc) in
                ap held_id (operations_of_other (puller n acts) (Return (puller m acts) m kept) ran apart) ∙ now
          ]
      holder (Grows agent values ∷ acts) left one user n holds = holder acts left one.1 user n holds
      holder (Opens agent ∷ acts) left one user n holds = holder acts left one user n holds
      holder (Writes agent value ∷ acts) left one user n holds = holder acts left one user n holds
      holder (Refused agent cause ∷ acts) left one user n holds = holder acts left one user n holds

      run_may : (acts : List (Act T)) (left : AreLeft Leaves acts) (n : ℕ) (place : Option T)
          → value_at (opened first acts) (ledger_of acts) n ≡ place
          → value_at (opened first (run_of acts left)) (ledger_of (run_of acts left)) n ≡ place
      run_may acts left n place lies =
          ap (λ made. value_at (map Some made) (ledger_of (run_of acts left)) n) (run_made first acts left)
          ∙ run_value (opened first acts) acts left n ∙ lies

      allowed-before : (limit : Option ℕ) (pages : ℕ) → AllowsPages limit (pages + 1) → AllowsPages limit pages
      allowed-before None pages allowed = tt
      allowed-before (Some most) pages allowed = omega (arith, allowed)

      run-is : (limit : Option ℕ) (acts : List (Act T)) (left : AreLeft Leaves acts) → AllowsPages limit (pages_of acts)
          → AreLegalActs first acts → Run Leaves limit first (run_of acts left)
      run-is limit [] left allowed one = tt
      run-is limit (Operates (Pull user n value) ∷ acts) left allowed one =
          let new = length acts in
          let before = run_of acts left in
          let none = fresh acts left new (omega arith) in
          let opens = acts_of-own (Opens new) before new refl ∙ ap (λ l. Opens new ∷ l) none in (
            (
              (run_may acts left n (Some value) one.0.0, ap held_id (fresh-ledger acts left new (omega arith))),
              subst Looks (sym opens) tt,
            ),
            (none, run-is limit acts left allowed one.1),
          )
      run-is limit (Operates (Return user n kept) ∷ acts) left allowed one =
          let agent = puller n acts in
          let before = run_of acts left.1 in
          let holds = holder acts left.1 one.1 user n one.0.1 in (
            (
              (run_may acts left.1 n None one.0.0, holds),
              (left.0.0, ap last_value (acts_of-own (Writes agent left.0.0) before agent refl), left.0.1),
            ),
            ((n, holds), run-is limit acts left.1 allowed one.1),
          )
      run-is limit (Grows agent values ∷ acts) left allowed one =
          let new = length acts in
          let before = run_of acts left in
          let none = fresh acts left new (omega arith) in
          let opens = acts_of-own (Opens new) before new refl ∙ ap (λ l. Opens new ∷ l) none in
          let pages = run_pages acts left in (
            (
              subst Looks (sym opens) tt,
              (one.0, subst (λ p. AllowsPages limit (p + 1)) (sym pages) allowed),
            ),
            (none, run-is limit acts left (allowed-before limit (pages_of acts) allowed) one.1),
          )
      run-is limit (Opens agent ∷ acts) left allowed one = run-is limit acts left allowed one
      run-is limit (Writes agent value ∷ acts) left allowed one = run-is limit acts left allowed one
      run-is limit (Refused agent cause ∷ acts) left allowed one = run-is limit acts left allowed one

      -- each legal history of one pool has a run of the main theorem
      pub has-run : (limit : Option ℕ) (acts : List (Act T)) → AreLeft Leaves acts → AllowsPages limit (pages_of acts)
          → AreLegalActs first acts → HasRun Leaves limit first acts
      has-run limit acts left allowed one = record {
        run_acts = run_of acts left;
        run = run-is limit acts left allowed one;
        same_values = run_made first acts left;
        same_operations = run_operations acts left;
      }
