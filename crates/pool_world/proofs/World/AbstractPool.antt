-- What a world reads as, as its pages change.
use Rattle.std.proofs.Common.{◌≡◌, ◌≢◌, ◌⊎◌, inl, inr, ℕ, suc, zero, ◌+◌, ◌-◌, ◌*◌, ◌/◌, ◌%◌, ◌<◌, Bool, false}
use Rattle.std.proofs.Common.{Option, if◌then◌else◌}
use Rattle.std.proofs.Common.{Some, map, option_map, option_and_then, List, [], ◌∷◌, ◌++◌, length, slice_get, slice_set}
use Rattle.std.proofs.Common.{refl, ap, sym, ◌∙◌, subst, arith, length-append}
use Rattle.std.proofs.lemmas.Bool.{cases_eq, cases_lt}
use Rattle.std.proofs.lemmas.List.{length-set}
use Rattle.std.proofs.lemmas.Option.{slice_get_past, slice_get_within}
use Rattle.std.specs.Option.{option_flatten, option_map_or}
use Rattle.pool_world.specs.Pool.{Place, Pool, Free, Out, IsSame, free_with, number}
use Rattle.pool_world.specs.World.State.{WorldPageState, WorldState}
use Rattle.pool_world.specs.World.Machine.{has_bit, with_bit, without_bit, word_of, page_value, with_page}
use Rattle.pool_world.specs.World.Machine.{with_word, with_page_value, linked_page}
use Rattle.pool_world.specs.World.AbstractPool.{place_on, abstract_pool}
use Rattle.pool_world.proofs.World.Bits.{has_bit-all, has_bit-set_same, has_bit-set_other, has_bit-clear_same}
use Rattle.pool_world.proofs.World.Bits.{has_bit-clear_other}
use Rattle.pool_world.proofs.Runs.{IsPlaced, IsGrown}
use Rattle.pool_world.proofs.Places.{slice_get-set_same, slice_get-set_other}
use Rattle.pool_world.proofs.Places.{slice_get-append_front, slice_get-append_last}

-- ---- a page's word, and the value at a place of a page, if there is such a page
module _ {T : Type 0} where
  pub word-at : (pages : List (WorldPageState T)) (k : ℕ) (page : WorldPageState T) → slice_get pages k ≡ Some page
      → word_of pages k ≡ page.word
  word-at pages k page at = ap (λ lookup. option_map_or (λ p. p.word) lookup 0) at

  abbrev pub value-at : ℕ → Option (WorldPageState T) → Option T
  value-at id lookup = option_flatten (option_and_then (λ page. slice_get page.places id) lookup)

-- ---- one page changes
module _ {T : Type 0} (f : WorldPageState T → WorldPageState T) where
  abbrev pub changed : List (WorldPageState T) → ℕ → List (WorldPageState T)
  changed pages k = with_page pages k (option_map f (slice_get pages k))

  changed-is : (pages : List (WorldPageState T)) (k : ℕ) (page : WorldPageState T) → slice_get pages k ≡ Some page
      → changed pages k ≡ slice_set pages k (f page)
  changed-is pages k page at = ap (λ lookup. with_page pages k (option_map f lookup)) at

  get-changed_same : (pages : List (WorldPageState T)) (k : ℕ) (page : WorldPageState T)
      → slice_get pages k ≡ Some page → slice_get (changed pages k) k ≡ Some (f page)
  get-changed_same pages k page at = ap (λ all. slice_get all k) (changed-is pages k page at)
      ∙ slice_get-set_same pages k (f page) (slice_get_within pages k page at)

  get-changed_other : (pages : List (WorldPageState T)) (k j : ℕ) (page : WorldPageState T)
      → slice_get pages k ≡ Some page → j ≢ k
      → slice_get (changed pages k) j ≡ slice_get pages j
  get-changed_other pages k j page at other = ap (λ all. slice_get all j) (changed-is pages k page at)
      ∙ slice_get-set_other pages k j (f page) other

  pub length-changed : (pages : List (WorldPageState T)) (k : ℕ) (page : WorldPageState T)
      → slice_get pages k ≡ Some page → length (changed pages k) ≡ length pages
  length-changed pages k page at = ap length (changed-is pages k page at) ∙ length-set pages k (f page)

-- ---- the number at a place
pub number-page : (n k id : ℕ) → id < 32 → n ≡ number k id → n / 32 ≡ k
number-page n k id within is = omega arith

pub number-id : (n k id : ℕ) → id < 32 → n ≡ number k id → n % 32 ≡ id
number-id n k id within is = omega arith

module _ {T : Type 0} where
  -- what a number reads as, by its page and id
  reads-place : (world : WorldState T) (k id : ℕ) (page : WorldPageState T) → id < 32
      → slice_get world.pages k ≡ Some page → (abstract_pool world).at (number k id) ≡ place_on (Some page) id
  reads-place world k id page within at =
      ap (λ j. place_on (slice_get world.pages j) (number k id % 32)) (number-page (number k id) k id within refl)
      ∙ ap (λ i. place_on (slice_get world.pages k) i) (number-id (number k id) k id within refl)
      ∙ ap (λ lookup. place_on lookup id) at

  pub reads-number : (world : WorldState T) (k id : ℕ) (page : WorldPageState T) → id < 32
      → slice_get world.pages k ≡ Some page
      → (abstract_pool world).at (number k id)
      ≡ (if has_bit page.word id then free_with (page_value world.pages k id) else Out)
  reads-number world k id page within at = reads-place world k id page within at
      ∙ ap (λ lookup. if has_bit page.word id then free_with (value-at id lookup) else Out) (sym at)

-- ---- what holds of each page
module _ {T : Type 0} (P : WorldPageState T → Type 0) where
  pub changed-all : (f : WorldPageState T → WorldPageState T) (pages : List (WorldPageState T)) (k : ℕ)
      (page : WorldPageState T)
      → slice_get pages k ≡ Some page → P (f page) → ((j : ℕ) (p : WorldPageState T) → slice_get pages j ≡ Some p → P p)
      → (j : ℕ) (p : WorldPageState T) → slice_get (changed f pages k) j ≡ Some p → P p
  changed-all f pages k page at here there j p lookup =
      elim (cases_eq j k) [
        | inl same ↦
            let now = get-changed_same f pages k page at in
            let is : f page ≡ p = cc in
            subst P is here
        | inr other ↦ there j p (sym (get-changed_other f pages k j page at other) ∙ lookup)
      ]

  pub pushed-all : (pages : List (WorldPageState T)) (last : WorldPageState T) → P last
      → ((j : ℕ) (p : WorldPageState T) → slice_get pages j ≡ Some p → P p) → (j : ℕ) (p : WorldPageState T)
      → slice_get (pages ++ last ∷ []) j ≡ Some p → P p
  pushed-all pages last here there j p lookup =
      elim (cases_lt j (length pages)) [
        | inl below ↦ there j p (sym (slice_get-append_front pages (last ∷ []) j below) ∙ lookup)
        | inr past ↦ elim (cases_eq j (length pages)) [
          | inl same ↦
              let now = slice_get-append_last pages last in
              let is : last ≡ p = cc in
              subst P is here
          | inr other ↦ let none =
              slice_get_past (pages ++ last ∷ []) j (omega (arith, length-append pages (last ∷ []))) in absurd (cc)
        ]
      ]

-- ---- what is read after a change
module _ {T X : Type 0} (g : Option (WorldPageState T) → X) (f : WorldPageState T → WorldPageState T) where
  -- what is read of a page stays, where it does so of the one that changed
  reads-changed : (pages : List (WorldPageState T)) (k j : ℕ) (page : WorldPageState T)
      → slice_get pages k ≡ Some page → (j ≡ k → g (Some (f page)) ≡ g (Some page))
      → g (slice_get (changed f pages k) j) ≡ g (slice_get pages j)
  reads-changed pages k j page at stays = elim (cases_eq j k) [
    | inl same ↦
        ap g (ap (slice_get (changed f pages k)) same ∙ get-changed_same f pages k page at) ∙ stays same
        ∙ ap g (sym (ap (slice_get pages) same ∙ at))
    | inr other ↦ ap g (get-changed_other f pages k j page at other)
  ]

-- ---- the values at places
module _ {T : Type 0} where
  -- a page with another word, and one with another value at a place
  abbrev worded : ℕ → WorldPageState T → WorldPageState T
  worded word page = record { word = word; places = page.places }

  abbrev valued : ℕ → Option T → WorldPageState T → WorldPageState T
  valued id value page = record { word = page.word; places = slice_set page.places id value }

  pub value-word : (pages : List (WorldPageState T)) (k word : ℕ) (page : WorldPageState T)
      → slice_get pages k ≡ Some page → (j i : ℕ)
      → page_value (with_word pages k word) j i ≡ page_value pages j i
  value-word pages k word page at j i =
      reads-changed (value-at i) (worded word) pages k j page at (λ same. refl)

  pub value-put_same : (pages : List (WorldPageState T)) (k id : ℕ) (value : Option T) (page : WorldPageState T)
      → slice_get pages k ≡ Some page → id < length page.places
      → page_value (with_page_value pages k id value) k id ≡ value
  value-put_same pages k id value page at within =
      ap (value-at id) (get-changed_same (valued id value) pages k page at)
      ∙ ap option_flatten (slice_get-set_same page.places id value within)

  pub value-put_other : (pages : List (WorldPageState T)) (k id : ℕ) (value : Option T) (page : WorldPageState T)
      → slice_get pages k ≡ Some page → (j i : ℕ) → ((j ≢ k) ⊎ (i ≢ id))
      → page_value (with_page_value pages k id value) j i ≡ page_value pages j i
  value-put_other pages k id value page at j i apart =
      reads-changed (value-at i) (valued id value) pages k j page at (λ same. elim apart [
        | inl other ↦ absurd (other same)
        | inr other ↦ ap option_flatten (slice_get-set_other page.places id i value other)
      ])

-- ---- the pool after a change
module _ {T : Type 0} where
  -- a page changes at one id
  same-changed : (f : WorldPageState T → WorldPageState T) (pool after : Pool T) (world new : WorldState T) (k id : ℕ)
      (page : WorldPageState T) (place : Place T) → id < 32
      → slice_get world.pages k ≡ Some page → IsPlaced pool (number k id) place after
      → IsSame pool (abstract_pool world) → new.pages ≡ changed f world.pages k → place_on (Some (f page)) id ≡ place
      → ((i : ℕ) → i < 32 → i ≢ id → place_on (Some (f page)) i ≡ place_on (Some page) i)
      → IsSame after (abstract_pool new)
  same-changed f pool after world new k id page place within at placed same is here there = record {
    pages = placed.pages ∙ same.pages ∙ sym (ap length is ∙ length-changed f world.pages k page at);
    places = λ n. elim (cases_eq n (number k id)) [
      | inl own ↦
          let now : slice_get new.pages k ≡ Some (f page) =
          ap (λ pages. slice_get pages k) is ∙ get-changed_same f world.pages k page at in
          ap after.at own ∙ placed.here
          ∙ sym (ap (abstract_pool new).at own ∙ reads-place new k id (f page) within now ∙ here)
      | inr other ↦
          placed.there n other ∙ same.places n
          ∙ sym (ap (λ pages. place_on (slice_get pages (n / 32)) (n % 32)) is
          ∙ reads-changed (λ lookup. place_on lookup (n % 32)) f world.pages k (n / 32) page at
          (λ page_is. there (n % 32) (omega arith) (λ id_is. other (omega arith))))
    ];
  }

  -- the bit of an id is cleared
  pub same-cleared : (pool after : Pool T) (world new : WorldState T) (k id : ℕ) (page : WorldPageState T) → id < 32
      → slice_get world.pages k ≡ Some page → IsPlaced pool (number k id) Out after → IsSame pool (abstract_pool world)
      → new.pages ≡ with_word world.pages k (without_bit page.word id)
      → IsSame after (abstract_pool new)
  same-cleared pool after world new k id page within at placed same is =
      let read : (i : ℕ) → Bool → Place T = λ i bit.
      if bit then free_with (option_flatten (slice_get page.places i)) else Out in
      same-changed (worded (without_bit page.word id)) pool after world new k id page Out within at placed same is
      (ap (read id) (has_bit-clear_same page.word id within))
      (λ i inside other. ap (read i) (has_bit-clear_other page.word id i within inside other))

  -- the bit of an id is set, where this value lies
  pub same-set : (pool after : Pool T) (world new : WorldState T) (k id : ℕ) (page : WorldPageState T) (value : T)
      → id < 32
      → slice_get world.pages k ≡ Some page → page_value world.pages k id ≡ Some value
      → IsPlaced pool (number k id) (Free value) after → IsSame pool (abstract_pool world)
      → new.pages ≡ with_word world.pages k (with_bit page.word id)
      → IsSame after (abstract_pool new)
  same-set pool after world new k id page value within at lies placed same is =
      let read : (i : ℕ) → Bool → Place T = λ i bit.
      if bit then free_with (option_flatten (slice_get page.places i)) else Out in
      same-changed (worded (with_bit page.word id)) pool after world new k id page (Free value) within at placed same is
      (ap (read id) (has_bit-set_same page.word id within)
      ∙ ap free_with (ap (value-at id) (sym at) ∙ lies))
      (λ i inside other. ap (read i) (has_bit-set_other page.word id i within other))

  -- a value comes or goes where the bit is clear
  pub same-moved : (pool : Pool T) (world new : WorldState T) (k id : ℕ) (value : Option T)
      (page : WorldPageState T) → id < 32
      → slice_get world.pages k ≡ Some page → has_bit page.word id ≡ false → IsSame pool (abstract_pool world)
      → new.pages ≡ with_page_value world.pages k id value → IsSame pool (abstract_pool new)
  same-moved pool world new k id value page within at clear same is =
      let out : (lies : Option T) → (if has_bit page.word id then free_with lies else Out) ≡ Out = λ lies.
      ap (λ bit. if bit then free_with lies else Out) clear in
      let here = same.places (number k id) ∙ reads-place world k id page within at
      ∙ out (option_flatten (slice_get page.places id)) in
      same-changed (valued id value) pool pool world new k id page Out within at
      (record { pages = refl; here = here; there = λ m other. refl }) same is
      (out (option_flatten (slice_get (slice_set page.places id value) id)))
      (λ i inside other. ap (λ lookup. if has_bit page.word i then free_with (option_flatten lookup) else Out)
      (slice_get-set_other page.places id i value other))

  -- a page is linked, with a value at each of its places
  linked-value : (values : List T) (id : ℕ) → option_flatten (slice_get (map Some values) id) ≡ slice_get values id
  linked-value [] id = refl
  linked-value (value ∷ values) zero = refl
  linked-value (value ∷ values) (suc id) = linked-value values id

  pub same-grown : (pool after : Pool T) (world new : WorldState T) (values : List T) → length values ≡ 32
      → IsGrown pool values after → IsSame pool (abstract_pool world)
      → new.pages ≡ world.pages ++ linked_page values ∷ [] → IsSame after (abstract_pool new)
  same-grown pool after world new values full grown same is =
      let count : length new.pages ≡ length world.pages + 1 = ap length is
      ∙ length-append world.pages (linked_page values ∷ []) in
      let pages : pool.pages ≡ length world.pages = same.pages in
      record {
        pages = let all = grown.pages in omega arith;
        places = λ n. elim (cases_lt n (32 * pool.pages)) [
          | inl old ↦
              grown.before n old ∙ same.places n
              ∙ sym (ap (λ all. place_on (slice_get all (n / 32)) (n % 32)) is
              ∙ ap (λ lookup. place_on lookup (n % 32))
              (slice_get-append_front world.pages (linked_page values ∷ []) (n / 32) (omega arith)))
          | inr past ↦
              grown.page n past
              ∙ elim (cases_lt n (32 * pool.pages + 32)) [
                | inl within ↦
                    let id = n - 32 * pool.pages in
                    let own : n ≡ number (length world.pages) id = omega arith in
                    let now : slice_get new.pages (length world.pages) ≡ Some (linked_page values) =
                    ap (λ all. slice_get all (length world.pages)) is
                    ∙ slice_get-append_last world.pages (linked_page values) in
                    sym (ap (abstract_pool new).at own
                    ∙ reads-place new (length world.pages) id (linked_page values) (omega arith) now
                    ∙ ap (λ bit. if bit then free_with (option_flatten (slice_get (map Some values) id)) else Out)
                    (has_bit-all id (omega arith))
                    ∙ ap free_with (linked-value values id))
                | inr beyond ↦
                    ap free_with (slice_get_past values (n - 32 * pool.pages) (omega arith))
                    ∙ sym (ap (λ lookup. place_on lookup (n % 32)) (slice_get_past new.pages (n / 32) (omega arith)))
              ]
        ];
      }
