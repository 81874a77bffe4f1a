-- Each step on a lock's table keeps its rule.
use Rattle.std.proofs.Common.{◌≡◌, ◌⊎◌, ℕ, zero, suc, ◌<◌, List, [], ◌∷◌, ◌++◌, length, length-set, refl, sym, ◌∙◌, ap}
use Rattle.std.proofs.Common.{subst, inl, inr, arith, Option, Some, None, true, false}
use Rattle.std.specs.Prelude.{slice_index, slice_set}
use Rattle.std.proofs.lemmas.Bool.{cases_lt}
use Rattle.std.proofs.lemmas.List.{get_or-set_same, append-nil}
use mathlib.Core.Option as maybe
use mathlib.Core.Option.{some, some-injective, some-ne-none}
use lib.ListN.{get_elem?}
use Rattle.atomic_table.specs.Table.{State, keeps, takes, gives, opening, rest, Arrives, Allows, Enters, Joins}
use Rattle.atomic_table.proofs.Lists.{at_set, set_here}
use Rattle.history_lock.specs.declared.rule.Visitor.{Visitor}
use Rattle.history_lock.specs.History.{IsPrefixOf}
use Rattle.history_lock.specs.LockRule.{IsLocked, Takes, Frees, Looks, Guest, newcomer}

only_one : {A : Type 0} (one there : A) (place : ℕ) → get_elem? (one ∷ []) place ≡ some there
    → (0 ≡ place) × (one ≡ there)
only_one one there zero at = (refl, some-injective one there at)
only_one one there (suc place) at = absurd (some-ne-none there (sym at))

at_snoc_last : {A : Type 0} (list : List A) (last there : A) (place : ℕ)
    → get_elem? (list ++ last ∷ []) place ≡ some there
    → (get_elem? list place ≡ some there) ⊎ ((length list ≡ place) × (last ≡ there))
at_snoc_last [] last there place at = inr (only_one last there place at)
at_snoc_last (first ∷ list) last there zero at = inl at
at_snoc_last (first ∷ list) last there (suc place) at = elim (at_snoc_last list last there place at) [
  | inl before ↦ inl before
  | inr is ↦ inr (ap suc is.0, is.1)
]

-- what is carried, if anything is
abbrev some_or : {A : Type 0} → A → Option A → A
some_or a None = a
some_or a (Some b) = b

abbrev carried_by : {A : Type 0} → A → List (ℕ × Option A) → A
carried_by a [] = a
carried_by a (x ∷ xs) = some_or a x.1

set_same : (words : List ℕ) (i : ℕ) → slice_set words i (slice_index words i) ≡ words
set_same [] i = refl
set_same (n ∷ ns) zero = refl
set_same (n ∷ ns) (suc i) = ap (λ l. n ∷ l) (set_same ns i)

-- nothing is a prefix of each history
none_begins : {E : Type 0} (history known : List E) → known ≡ [] → IsPrefixOf known history
none_begins history known none = subst (λ l. IsPrefixOf l history) (sym none) (history, sym (append-nil history))

-- one operation more
longer : {E : Type 0} (operation : E) (known history : List E) → IsPrefixOf known history
    → IsPrefixOf known (operation ∷ history)
longer operation known history begins = (operation ∷ begins.0, ap (λ l. operation ∷ l) begins.1)

module _ {T E : Type 0} (leaves : List E → T → Type 0) where
  abbrev Lock : Type 0
  Lock = State (Option T) (Visitor E)

  -- a view that one visitor got, beside those that were there
  abbrev OldOrNew : List (Visitor E) → List (Visitor E) → ℕ → Visitor E → Type 0
  OldOrNew before after id new = (j : ℕ) (v : Visitor E) → get_elem? after j ≡ some v
      → (get_elem? before j ≡ some v) ⊎ ((j ≡ id) × (v ≡ new))

  -- a new lock is free, with its value at home
  pub opens : (value : T) (places : List (Option T)) → places ≡ Some value ∷ [] → leaves [] value
      → IsLocked leaves (opening (0 ∷ []) places newcomer)
  opens value places is left =
      let alone : (j : ℕ) (v : Visitor E) → get_elem? (newcomer ∷ []) j ≡ some v → newcomer ≡ v =
      λ j v at. (only_one newcomer v j at).1 in
      let none : (j : ℕ) (v : Visitor E) → get_elem? (newcomer ∷ []) j ≡ some v → v.holds ≡ true → ⊥ =
      λ j v at held. let unlike : false ≡ true = ap (λ (v : Visitor E). v.holds) (alone j v at) ∙ held in cc in
      subst (λ row. IsLocked leaves (opening (0 ∷ []) row newcomer)) (sym is) record {
        one_word = refl;
        one_place = refl;
        free_or_taken = omega arith;
        history = [];
        left = (value, left);
        home_if_free = λ _. (value, refl, left);
        taken_if_held = λ j v at held. absurd (none j v at held);
        one_holder = λ j k v w at held _ _. absurd (none j v at held);
        knows = λ j v at. (
          ([], ap (λ (v : Visitor E). v.history) (alone j v at)),
          ([], ap (λ (v : Visitor E). v.merged) (alone j v at)),
        );
        holder_knows = λ j v at held. absurd (none j v at held);
      }

  module _ (s : Lock) (lock : IsLocked leaves s) where
    stored : (n : ℕ) → slice_index (slice_set s.words 0 n) 0 ≡ n
    stored n = get_or-set_same s.words 0 n 0 (omega (arith, lock.one_word))

    nobody : slice_index s.words 0 ≡ 0 → (j : ℕ) (v : Visitor E) → get_elem? s.views j ≡ some v → v.holds ≡ true → ⊥
    nobody free j v at held = let taken = lock.taken_if_held j v at held in omega arith

    -- somebody finds the lock free, and takes it
    takes_lock : (views : List (Visitor E)) (id : ℕ) → slice_index s.words 0 ≡ 0
        → OldOrNew s.views views id (record { holds = true; history = lock.history; merged = [] })
        → IsLocked leaves record { words = slice_set s.words 0 1; homes = slice_set s.homes 0 maybe.none; views = views }
    takes_lock views id free each = record {
      one_word = length-set s.words 0 1 ∙ lock.one_word;
      one_place = length-set s.homes 0 maybe.none ∙ lock.one_place;
      free_or_taken = omega (arith, stored 1);
      history = lock.history;
      left = lock.left;
      home_if_free = λ is_free. absurd (omega (arith, stored 1));
      taken_if_held = λ j v _ _. stored 1;
      one_holder = λ j k v w at held also holds. elim (each j v at) [
        | inl old ↦ absurd (nobody free j v old held)
        | inr one ↦ elim (each k w also) [
          | inl old ↦ absurd (nobody free k w old holds)
          | inr two ↦ one.0 ∙ sym two.0
        ]
      ];
      knows = λ j v at. elim (each j v at) [
        | inl old ↦ lock.knows j v old
        | inr one ↦ (
          ([], sym (ap (λ (v : Visitor E). v.history) one.1)),
          none_begins lock.history v.merged (ap (λ (v : Visitor E). v.merged) one.1),
        )
      ];
      holder_knows = λ j v at held. elim (each j v at) [
        | inl old ↦ absurd (nobody free j v old held)
        | inr one ↦ ap (λ (v : Visitor E). v.history) one.1
      ];
    }

    -- somebody finds the lock taken, and knows no more than it did
    finds_taken : (views : List (Visitor E)) (id : ℕ) (new : Visitor E) → slice_index s.words 0 ≡ 1
        → new.holds ≡ false → IsPrefixOf new.history lock.history → IsPrefixOf new.merged lock.history
        → OldOrNew s.views views id new
        → IsLocked leaves record { words = slice_set s.words 0 1; homes = s.homes; views = views }
    finds_taken views id new taken passing begins merged each =
        let old_holder : (j : ℕ) (v : Visitor E) → get_elem? views j ≡ some v → v.holds ≡ true
        → get_elem? s.views j ≡ some v = λ j v at held. elim (each j v at) [
          | inl old ↦ old
          | inr one ↦
              let unlike : false ≡ true = sym passing ∙ sym (ap (λ (v : Visitor E). v.holds) one.1) ∙ held in
              absurd (cc)
        ] in
        record {
          one_word = length-set s.words 0 1 ∙ lock.one_word;
          one_place = lock.one_place;
          free_or_taken = omega (arith, stored 1);
          history = lock.history;
          left = lock.left;
          home_if_free = λ is_free. absurd (omega (arith, stored 1));
          taken_if_held = λ j v _ _. stored 1;
          one_holder = λ j k v w at held also holds.
              lock.one_holder j k v w (old_holder j v at held) held (old_holder k w also holds) holds;
          knows = λ j v at. elim (each j v at) [
            | inl old ↦ lock.knows j v old
            | inr one ↦ (
              subst (λ l. IsPrefixOf l lock.history) (sym (ap (λ (v : Visitor E). v.history) one.1)) begins,
              subst (λ l. IsPrefixOf l lock.history) (sym (ap (λ (v : Visitor E). v.merged) one.1)) merged,
            )
          ];
          holder_knows = λ j v at held. lock.holder_knows j v (old_holder j v at held) held;
        }

    -- the holder brings the value home, by one operation more
    brings_home : (id : ℕ) (holder new : Visitor E) (value : T) (operation : E)
        → get_elem? s.views id ≡ some holder → holder.holds ≡ true → leaves (operation ∷ lock.history) value
        → new.holds ≡ false → new.history ≡ operation ∷ lock.history → new.merged ≡ []
        → IsLocked leaves record {
          words = slice_set s.words 0 0;
          homes = slice_set s.homes 0 (some (Some value));
          views = slice_set s.views id new;
        }
    brings_home id holder new value operation here holds left passing all unmerged =
        let none_left : (j : ℕ) (v : Visitor E) → get_elem? (slice_set s.views id new) j ≡ some v → v.holds ≡ true → ⊥ =
        λ j v at held. elim (at_set s.views id j new v at) [
          | inl one ↦
              let unlike : false ≡ true = sym passing ∙ ap (λ (v : Visitor E). v.holds) one.1 ∙ held in
              cc
          | inr other ↦ other.0 (lock.one_holder j id v holder other.1 held here holds)
        ] in
        record {
          one_word = length-set s.words 0 0 ∙ lock.one_word;
          one_place = length-set s.homes 0 (some (Some value)) ∙ lock.one_place;
          free_or_taken = omega (arith, stored 0);
          history = operation ∷ lock.history;
          left = (value, left);
          home_if_free = λ _. (value, set_here s.homes 0 (some (Some value)) (omega (arith, lock.one_place)), left);
          taken_if_held = λ j v at held. absurd (none_left j v at held);
          one_holder = λ j k v w at held _ _. absurd (none_left j v at held);
          knows = λ j v at. elim (at_set s.views id j new v at) [
            | inl one ↦ (
              ([], sym all ∙ ap (λ (v : Visitor E). v.history) one.1),
              none_begins (operation ∷ lock.history) v.merged (sym (ap (λ (v : Visitor E). v.merged) one.1) ∙ unmerged),
            )
            | inr other ↦
                let old = lock.knows j v other.1 in
                (longer operation v.history lock.history old.0, longer operation v.merged lock.history old.1)
          ];
          holder_knows = λ j v at held. absurd (none_left j v at held);
        }

    -- the views change, and nobody comes to hold the value
    know_more : (views : List (Visitor E))
        → ((j : ℕ) (v : Visitor E) → get_elem? views j ≡ some v
        → ((v.holds ≡ true → (was : Visitor E) × (get_elem? s.views j ≡ some was) × (was.holds ≡ true) × (v.history ≡ was.history))
        × IsPrefixOf v.history lock.history × IsPrefixOf v.merged lock.history))
        → IsLocked leaves record { words = s.words; homes = s.homes; views = views }
    know_more views each = record {
      one_word = lock.one_word;
      one_place = lock.one_place;
      free_or_taken = lock.free_or_taken;
      history = lock.history;
      left = lock.left;
      home_if_free = lock.home_if_free;
      taken_if_held = λ j v at held. let was = (each j v at).0 held in lock.taken_if_held j was.0 was.1 was.2;
      one_holder = λ j k v w at held also holds.
          let one = (each j v at).0 held in
          let two = (each k w also).0 holds in
          lock.one_holder j k one.0 two.0 one.1 one.2 two.1 two.2;
      knows = λ j v at. let is = each j v at in (is.1, is.2);
      holder_knows = λ j v at held. let was = (each j v at).0 held in was.3 ∙ lock.holder_knows j was.0 was.1 was.2;
    }

  -- a new visitor tries to take the lock
  pub tries : (words slots : ℕ) → words ≡ 1
      → (0 < words) × Arrives (IsLocked leaves) slots 0 (λ _. 1) (Takes leaves (newcomer, []))
  tries words slots one = (
    omega arith,
    λ s lock _ _.
        let each : (new : Visitor E) → OldOrNew s.views (s.views ++ new ∷ []) (length s.views) new =
        λ new j v at.
        elim (at_snoc_last s.views new v j at) [ inl old ↦ inl old | inr end ↦ inr (sym end.0, sym end.1) ] in
        let nothing = none_begins lock.history [] refl in
        elim (cases_lt 0 (slice_index s.words 0)) [
          | inl is_taken ↦
              let taken : slice_index s.words 0 ≡ 1 = omega (arith, lock.free_or_taken) in (
                newcomer,
                keeps,
                tt,
                finds_taken s lock (s.views ++ newcomer ∷ []) (length s.views) newcomer taken refl nothing nothing
                    (each newcomer),
                ((λ free. absurd (omega arith)), λ _. refl),
              )
          | inr le ↦
              let free : slice_index s.words 0 ≡ 0 = omega arith in
              let home = lock.home_if_free free in
              let holder : Visitor E = record { holds = true; history = lock.history; merged = [] } in (
                holder,
                takes 0 (Some home.0),
                home.1,
                takes_lock s lock (s.views ++ holder ∷ []) (length s.views) free (each holder),
                (
                  (λ _. (home.0, record { carries = refl; holds = refl; goes_on = nothing; leaves_value = home.2 })),
                  λ other. absurd (other free),
                ),
              )
        ],
  )

  -- somebody who has known something of the lock tries to take it
  pub tries_again : (words slots id : ℕ) (me : Guest T E) → words ≡ 1 → me.0.holds ≡ false → me.1 ≡ []
      → (0 < words) × Allows (IsLocked leaves) slots id me 0 (λ _. 1) (Takes leaves me)
  tries_again words slots id me one passing carries = (
    omega arith,
    subst (λ c. Allows (IsLocked leaves) slots id (me.0, c) 0 (λ _. 1) (Takes leaves (me.0, c))) (sym carries) (λ s lock _ here _.
        let mine = lock.knows id me.0 here in
        let each : (new : Visitor E) → OldOrNew s.views (slice_set s.views id new) id new =
        λ new j v at.
        elim (at_set s.views id j new v at) [ inl one ↦ inr (one.0, sym one.1) | inr other ↦ inl other.1 ] in
        elim (cases_lt 0 (slice_index s.words 0)) [
          | inl is_taken ↦
              let taken : slice_index s.words 0 ≡ 1 = omega (arith, lock.free_or_taken) in (
                me.0,
                keeps,
                tt,
                finds_taken s lock (slice_set s.views id me.0) id me.0 taken passing mine.0 mine.1 (each me.0),
                ((λ free. absurd (omega arith)), λ _. refl),
              )
          | inr le ↦
              let free : slice_index s.words 0 ≡ 0 = omega arith in
              let home = lock.home_if_free free in
              let holder : Visitor E = record { holds = true; history = lock.history; merged = [] } in (
                holder,
                takes 0 (Some home.0),
                home.1,
                takes_lock s lock (slice_set s.views id holder) id free (each holder),
                (
                  (λ _. (home.0, record { carries = refl; holds = refl; goes_on = mine.0; leaves_value = home.2 })),
                  λ other. absurd (other free),
                ),
              )
        ]),
  )

  -- the holder frees the lock, with a value that one operation more leaves
  pub frees : (adds : List E → T → E) (words slots id : ℕ) (me : Guest T E) (value : T) → words ≡ 1
      → me.0.holds ≡ true → me.1 ≡ (0, Some value) ∷ [] → leaves (adds me.0.history value ∷ me.0.history) value
      → (0 < words) × Allows (IsLocked leaves) slots id me 0 (λ _. 0) (λ _. Frees adds me)
  frees adds words slots id me value one held carries left = (
    omega arith,
    subst (λ c. Allows (IsLocked leaves) slots id (me.0, c) 0 (λ _. 0) (λ _. Frees adds (me.0, c))) (sym carries) (λ s lock _ here _.
        let all : me.0.history ≡ lock.history = lock.holder_knows id me.0 here held in
        let operation = adds me.0.history value in
        let new : Visitor E = record { holds = false; history = operation ∷ me.0.history; merged = [] } in (
          new,
          gives,
          tt,
          brings_home s lock id me.0 new value operation here held
              (subst (λ l. leaves (operation ∷ l) value) all left) refl (ap (λ l. operation ∷ l) all) refl,
          λ other is.
              let same : value ≡ other = ap (carried_by value) is in
              ap (λ v. (record { holds = false; history = adds me.0.history v ∷ me.0.history; merged = [] }, [])) same,
        )),
  )

  -- a visitor shares what it knows with another
  pub merges : (id other : ℕ) (known merged : Visitor E) → merged.holds ≡ false
      → Joins (IsLocked leaves) id known other merged (record known { merged = merged.history }) newcomer
  merges id other known merged passing s lock here differ there =
      let both : Visitor E = record known { merged = merged.history } in
      let mine = lock.knows id known here in
      let theirs : IsPrefixOf merged.history lock.history = elim (at_set s.views id other both merged there) [
        | inl same ↦ absurd (differ same.0)
        | inr was ↦ (lock.knows other merged was.1).0
      ] in
      know_more s lock (slice_set (slice_set s.views id both) other newcomer) (λ j v at.
      elim (at_set (slice_set s.views id both) other j newcomer v at) [
        | inl gone ↦ (
          (λ held. let unlike : false ≡ true = ap (λ (v : Visitor E). v.holds) gone.1 ∙ held in absurd (cc)),
          none_begins lock.history v.history (sym (ap (λ (v : Visitor E). v.history) gone.1)),
          none_begins lock.history v.merged (sym (ap (λ (v : Visitor E). v.merged) gone.1)),
        )
        | inr left ↦ elim (at_set s.views id j both v left.1) [
          | inl one ↦ (
            (λ held. (
              known,
              ap (get_elem? s.views) one.0 ∙ here,
              ap (λ (v : Visitor E). v.holds) one.1 ∙ held,
              sym (ap (λ (v : Visitor E). v.history) one.1),
            )),
            subst (λ l. IsPrefixOf l lock.history) (ap (λ (v : Visitor E). v.history) one.1) mine.0,
            subst (λ l. IsPrefixOf l lock.history) (ap (λ (v : Visitor E). v.merged) one.1) theirs,
          )
          | inr was ↦ let old = lock.knows j v was.1 in ((λ held. (v, was.1, held, refl)), old.0, old.1)
        ]
      ])

  -- a visitor that holds nothing looks, and knows all operations so far
  pub looks : (words slots id : ℕ) (me : Guest T E) → words ≡ 1 → me.0.holds ≡ false
      → (0 < words) × Allows (IsLocked leaves) slots id me 0 (λ n. n) (λ _. Looks leaves me)
  looks words slots id me one passing = (
    omega arith,
    λ s lock _ here _.
        let mine = lock.knows id me.0 here in
        let new : Visitor E = record { holds = false; history = lock.history; merged = [] } in
        let same_words : slice_set s.words 0 (slice_index s.words 0) ≡ s.words = set_same s.words 0 in (
          new,
          keeps,
          tt,
          subst (λ ws. IsLocked leaves record { words = ws; homes = s.homes; views = slice_set s.views id new }) (sym same_words)
              (know_more s lock (slice_set s.views id new) (λ j v at. elim (at_set s.views id j new v at) [
                | inl one ↦ (
                  (λ held. let unlike : false ≡ true = ap (λ (v : Visitor E). v.holds) one.1 ∙ held in absurd (cc)),
                  ([], ap (λ (v : Visitor E). v.history) one.1),
                  none_begins lock.history v.merged (sym (ap (λ (v : Visitor E). v.merged) one.1)),
                )
                | inr was ↦ let old = lock.knows j v was.1 in ((λ held. (v, was.1, held, refl)), old.0, old.1)
              ])),
          record {
            carries_same = refl;
            holds_same = sym passing;
            goes_on = mine.0;
            after_merged = mine.1;
            left = lock.left;
          },
        ),
  )

  -- a newcomer looks, and knows all operations so far
  pub looks_first : (words slots : ℕ) → words ≡ 1
      → (0 < words) × Enters (IsLocked leaves) slots 0 (λ _ new. Looks leaves (newcomer, []) (new, []))
  looks_first words slots one = (
    omega arith,
    λ s lock _ _.
        let new : Visitor E = record { holds = false; history = lock.history; merged = [] } in
        let nothing = none_begins lock.history [] refl in (
          new,
          know_more s lock (s.views ++ new ∷ []) (λ j v at. elim (at_snoc_last s.views new v j at) [
            | inl was ↦ let old = lock.knows j v was in ((λ held. (v, was, held, refl)), old.0, old.1)
            | inr end ↦ (
              (λ held.
                  let unlike : false ≡ true = ap (λ (v : Visitor E). v.holds) end.1 ∙ held in
                  absurd (cc)),
              ([], ap (λ (v : Visitor E). v.history) end.1),
              none_begins lock.history v.merged (sym (ap (λ (v : Visitor E). v.merged) end.1)),
            )
          ]),
          record { carries_same = refl; holds_same = refl; goes_on = nothing; after_merged = nothing; left = lock.left },
        ),
  )

-- what somebody carries that took the value out
pub has_place : {T : Type 0} (carried : List (ℕ × Option T)) (value : T) → carried ≡ (0, Some value) ∷ []
    → (old : Option T) × (carried ≡ (0, old) ∷ rest carried)
has_place carried value is = (Some value, is ∙ ap (λ l. (0, Some value) ∷ rest l) (sym is))
