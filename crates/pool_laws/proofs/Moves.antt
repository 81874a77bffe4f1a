-- A legal history of one pool that grows, as moves of the sequential pool: its acts lead to the
-- pool that its ledger tells (`lead`), and moves, each by who holds the number, are such a history
-- (`led`).
use Rattle.std.proofs.Common.{if◌then◌else◌, ◌==◌, nat_lt, ◌≡◌, inl, inr, ℕ, ◌-◌, ◌*◌, ◌<◌, Some, List, [], ◌∷◌}
use Rattle.std.proofs.Common.{Option, None, length, slice_get, refl, ap, sym, ◌∙◌, arith, ◌+◌}
use Rattle.std.proofs.lemmas.Bool.{eq-eqb, ne_eqb, cases_eq, cases_lt, lt-ltb, le-ltb}
use Rattle.std.proofs.lemmas.List.{length-map}
use Rattle.pool_parts.specs.declared.page.history.Operation.{Operation}
use Rattle.pool_parts.specs.declared.page.history.Operation.TheVariants.{Pull, Return}
use Rattle.pool_parts.specs.Ledger.{id_of, value_at, MayFollow}
use Rattle.pool_world.specs.Pool.{opening, Pool, Place, Free, Out, IsSame, place_of, free_with, with_place, after_growth}
use Rattle.pool_world.specs.Run.{Act, Opens, Writes, Operates, Grows, Refused, ledger_of, pages_of, made, opened}
use Rattle.pool_world.specs.Run.{pool_of, AreLegalActs}
use Rattle.pool_world.proofs.LegalLedgers.{may-inside}
use Rattle.pool_world.proofs.Runs.{IsPlaced, IsGrown, pool-operated, pool-inside, pool-untouched, pool-grown}
use Rattle.pool_world.proofs.Runs.{legal-acts, made-count, free-lies, out-lies}
use Rattle.pool_laws.specs.Moves.{LeadTo, AreByHolders}

module _ {T : Type 0} where
  placed : (old new : Pool T) (n : ℕ) (place : Place T) → IsPlaced old n place new → IsSame new (with_place old n place)
  placed old new n place is = record {
    pages = is.pages;
    places = λ m. elim (cases_eq m n) [
      | inl same ↦ rw (eq-eqb m n same) (ap new.at same ∙ is.here)
      | inr other ↦ rw (ne_eqb m n other) (is.there m other)
    ];
  }

  grown-same : (old new : Pool T) (values : List T) → IsGrown old values new → IsSame new (after_growth old values)
  grown-same old new values is = record {
    pages = is.pages;
    places = λ n. elim (cases_lt n (32 * old.pages)) [
      | inl below ↦ rw (lt-ltb n (32 * old.pages) below) (is.before n below)
      | inr past ↦ rw (le-ltb n (32 * old.pages) past) (is.page n past)
    ];
  }

  same-back : (a b : Pool T) → IsSame a b → IsSame b a
  same-back a b same = record { pages = sym same.pages; places = λ n. sym (same.places n) }

  same-further : (a b c : Pool T) → IsSame a b → IsSame b c → IsSame a c
  same-further a b c same also = record {
    pages = same.pages ∙ also.pages;
    places = λ n. same.places n ∙ also.places n;
  }

  same-placed : (a b : Pool T) (n : ℕ) (place : Place T) → IsSame a b → IsSame (with_place a n place) (with_place b n place)
  same-placed a b n place same = record {
    pages = same.pages;
    places = λ m. ap (λ at. if m == n then place else at) (same.places m);
  }

  same-grown : (a b : Pool T) (values : List T) → IsSame a b → IsSame (after_growth a values) (after_growth b values)
  same-grown a b values same = record {
    pages = ap (λ pages. pages + 1) same.pages;
    places = λ n.
        ap (λ pages. if nat_lt n (32 * pages) then a.at n else free_with (slice_get values (n - 32 * pages))) same.pages
        ∙ ap (λ at. if nat_lt n (32 * b.pages) then at else free_with (slice_get values (n - 32 * b.pages))) (same.places n);
  }

module _ {T : Type 0} (first : List T) (full : length first ≡ 32) where
  inside : (acts : List (Act T)) → AreLegalActs first acts → (operation : Operation T)
      → MayFollow (opened first acts) (ledger_of acts) operation → id_of operation < 32 * pages_of acts
  inside acts one operation may =
      let below = may-inside (opened first acts) (ledger_of acts) (legal-acts first acts one) operation may in
      let numbers = length-map (made first acts) Some in
      let count = made-count first full acts one in
      omega (arith, below, numbers, count)

  lies-there : (acts : List (Act T)) → AreLegalActs first acts → (operation : Operation T)
      → MayFollow (opened first acts) (ledger_of acts) operation → (lies : Option T)
      → value_at (opened first acts) (ledger_of acts) (id_of operation) ≡ lies
      → (pool_of first acts).at (id_of operation) ≡ place_of (Some lies)
  lies-there acts one operation may lies is =
      pool-inside first acts (id_of operation) (inside acts one operation may) ∙ ap (λ l. place_of (Some l)) is

  grown : (acts : List (Act T)) → AreLegalActs first acts → (agent : ℕ) (values : List T) → length values ≡ 32
      → IsSame (pool_of first (Grows agent values ∷ acts)) (after_growth (pool_of first acts) values)
  grown acts one agent values page =
      grown-same (pool_of first acts) (pool_of first (Grows agent values ∷ acts)) values
      (pool-grown first full acts one agent values page)

  -- the acts of a legal history of one pool are moves of the sequential pool, which lead to the
  -- pool of its ledger
  pub lead : (acts : List (Act T)) → AreLegalActs first acts → LeadTo first acts (pool_of first acts)
  lead [] one = record { pages = refl; places = λ n. pool-untouched first [] full n tt }
  lead (Operates (Pull user n value) ∷ acts) one =
      let operation : Operation T = Pull user n value in (
        pool_of first acts,
        lead acts one.1,
        (
          lies-there acts one.1 operation one.0 (Some value) one.0.0,
          placed (pool_of first acts) (pool_of first (Operates operation ∷ acts)) n Out
              (pool-operated first acts operation (inside acts one.1 operation one.0)),
        ),
      )
  lead (Operates (Return user n kept) ∷ acts) one =
      let operation : Operation T = Return user n kept in (
        pool_of first acts,
        lead acts one.1,
        (
          lies-there acts one.1 operation one.0 None one.0.0,
          placed (pool_of first acts) (pool_of first (Operates operation ∷ acts)) n (Free kept)
              (pool-operated first acts operation (inside acts one.1 operation one.0)),
        ),
      )
  lead (Grows agent values ∷ acts) one = (
    pool_of first acts,
    lead acts one.1,
    (one.0, grown acts one.1 agent values one.0),
  )
  lead (Opens agent ∷ acts) one = (pool_of first acts, lead acts one, record { pages = refl; places = λ n. refl })
  lead (Writes agent value ∷ acts) one =
      (pool_of first acts, lead acts one, record { pages = refl; places = λ n. refl })
  lead (Refused agent cause ∷ acts) one =
      (pool_of first acts, lead acts one, record { pages = refl; places = λ n. refl })

  -- moves of the sequential pool, each operation by a holder, are a legal history of one pool
  pub led : (acts : List (Act T)) (pool : Pool T) → AreByHolders acts → LeadTo first acts pool
      → AreLegalActs first acts × IsSame pool (pool_of first acts)
  led [] pool holders leads = (
    tt,
    same-further pool (opening first) (pool_of first []) leads
        (same-back (pool_of first []) (opening first) (lead [] tt)),
  )
  led (Operates (Pull user n value) ∷ acts) pool holders (before, was, (free, new)) =
      let operation : Operation T = Pull user n value in
      let (one, same) = led acts before holders.1 was in
      let may : MayFollow (opened first acts) (ledger_of acts) operation = (free-lies first acts n value (sym (same.places n) ∙ free), holders.0) in
      let now = placed (pool_of first acts) (pool_of first (Operates operation ∷ acts)) n Out
      (pool-operated first acts operation (inside acts one operation may)) in (
        (may, one),
        same-further pool (with_place before n Out) (pool_of first (Operates operation ∷ acts)) new
            (same-further (with_place before n Out) (with_place (pool_of first acts) n Out)
            (pool_of first (Operates operation ∷ acts)) (same-placed before (pool_of first acts) n Out same)
            (same-back (pool_of first (Operates operation ∷ acts)) (with_place (pool_of first acts) n Out) now)),
      )
  led (Operates (Return user n kept) ∷ acts) pool holders (before, was, (out, new)) =
      let operation : Operation T = Return user n kept in
      let (one, same) = led acts before holders.1 was in
      let may : MayFollow (opened first acts) (ledger_of acts) operation = ((out-lies first acts n (sym (same.places n) ∙ out)).1, holders.0) in
      let now = placed (pool_of first acts) (pool_of first (Operates operation ∷ acts)) n (Free kept)
      (pool-operated first acts operation (inside acts one operation may)) in (
        (may, one),
        same-further pool (with_place before n (Free kept)) (pool_of first (Operates operation ∷ acts)) new
            (same-further (with_place before n (Free kept)) (with_place (pool_of first acts) n (Free kept))
            (pool_of first (Operates operation ∷ acts)) (same-placed before (pool_of first acts) n (Free kept) same)
            (same-back (pool_of first (Operates operation ∷ acts)) (with_place (pool_of first acts) n (Free kept)) now)),
      )
  led (Grows agent values ∷ acts) pool holders (before, was, (page, new)) =
      let (one, same) = led acts before holders was in
      let longer = pool_of first (Grows agent values ∷ acts) in (
        (page, one),
        same-further pool (after_growth before values) longer new
            (same-further (after_growth before values) (after_growth (pool_of first acts) values) longer
            (same-grown before (pool_of first acts) values same)
            (same-back longer (after_growth (pool_of first acts) values) (grown acts one agent values page))),
      )
  led (Opens agent ∷ acts) pool holders (before, was, new) =
      let (one, same) = led acts before holders was in
      (one, same-further pool before (pool_of first acts) new same)
  led (Writes agent value ∷ acts) pool holders (before, was, new) =
      let (one, same) = led acts before holders was in
      (one, same-further pool before (pool_of first acts) new same)
  led (Refused agent cause ∷ acts) pool holders (before, was, new) =
      let (one, same) = led acts before holders was in
      (one, same-further pool before (pool_of first acts) new same)

  -- in a legal history each operation is by who holds the number
  pub by-holders : (acts : List (Act T)) → AreLegalActs first acts → AreByHolders acts
  by-holders [] one = tt
  by-holders (Operates (Pull user n value) ∷ acts) one = (one.0.1, by-holders acts one.1)
  by-holders (Operates (Return user n kept) ∷ acts) one = (one.0.1, by-holders acts one.1)
  by-holders (Grows agent values ∷ acts) one = by-holders acts one.1
  by-holders (act ∷ acts) one = by-holders acts one
