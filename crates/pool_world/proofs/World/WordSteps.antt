-- The steps on a page's word keep the invariant: a read, a clearing, and the bit that is set again.
use Rattle.std.proofs.Common.{◌≡◌, inl, inr, ℕ, ◌-◌, ◌*◌, ◌^◌, ◌<◌, true, false, if◌then◌else◌, bit_and}
use Rattle.std.proofs.Common.{Option, Some, None, List, ◌∷◌, length, slice_get, refl, ap, sym, ◌∙◌, arith}
use Rattle.std.proofs.lemmas.Bool.{eq-eqb, ne_eqb, cases_eq, cases_lt}
use Rattle.std.specs.Int.{w32, trailing_zeros}
use Rattle.pool_parts.specs.declared.page.history.Operation.TheVariants.{Pull, Return}
use Rattle.pool_world.specs.declared.interleave.event.Event.{Event}
use Rattle.pool_world.specs.declared.interleave.event.Event.TheVariants as event
use Rattle.pool_world.specs.declared.interleave.event.Seen.TheVariants as seen
use Rattle.pool_world.specs.declared.interleave.point.Point.{Point}
use Rattle.pool_world.specs.declared.interleave.point.Point.TheVariants.{Reading, Clearing, AtLink}
use Rattle.pool_world.specs.declared.interleave.point.Point.TheVariants.{ClearingHinted, Taken, Home, Ended}
use Rattle.pool_world.specs.Pool.{IsSame, Free, Out, number, free_with}
use Rattle.pool_world.specs.Run.{Act, Operates, acts_of, pages_of, pool_of, Looks, SawTaken}
use Rattle.pool_world.specs.World.State.{WorldPageState, WorldState}
use Rattle.pool_world.specs.World.Machine.{has_bit, with_bit, without_bit}
use Rattle.pool_world.specs.World.Machine.{word_of, page_value, with_word}
use Rattle.pool_world.specs.World.Machine.{tries, tries_hinted}
use Rattle.pool_world.specs.World.AbstractPool.{abstract_pool}
use Rattle.pool_world.specs.World.Trace.{Log}
use Rattle.pool_world.specs.World.Inside.Invariant.{LooksOn, IsPast, TriesBits, AgentKnows}
use Rattle.pool_world.specs.World.Inside.Invariant.{Agrees}
use Rattle.pool_world.proofs.Places.{slice_get-some}
use Rattle.pool_world.proofs.Runs.{since-now, holds-pulled, may-pull, may-return, pool-there, pool-operated}
use Rattle.pool_world.proofs.World.Bits.{has_bit-none, has_bit-without_lowest, lowest-lt, with_bit-lt}
use Rattle.pool_world.proofs.World.Bits.{without_bit-lt, without_lowest-lt}
use Rattle.pool_world.proofs.World.AbstractPool.{word-at, length-changed, changed-all, reads-number, value-word}
use Rattle.pool_world.proofs.World.AbstractPool.{same-cleared, same-set}
use Rattle.pool_world.proofs.World.Invariant.{GoesOn, StepsPages, visible-step, stays, allows-fewer}
use Rattle.pool_world.proofs.World.Moves.{moved, known}

module _ {T : Type 0} (Leaves : T → T → Type 0) (first : List T) where
  -- an agent that has some bits to try, or none
  tries-known : (later : Log T) (acts : List (Act T)) (world : WorldState T) (a k mask : ℕ) (asked : Option ℕ)
      → LooksOn first acts (length world.pages) a k asked
      → mask < 2 ^ 32 → ((id : ℕ) → id < 32 → has_bit mask id ≡ false → SawTaken first acts a (number k id))
      → AgentKnows Leaves first later acts world a (tries k mask asked)
  tries-known later acts world a k mask asked looks fits others = elim (cases_eq mask 0) [
    | inl none ↦ rw (eq-eqb mask 0 none) (record {
      looking = looks.looking;
      linked = looks.linked;
      saw_taken = λ n below. elim (cases_lt n (32 * k)) [
        | inl before ↦ looks.saw_taken n before
        | inr here ↦
            let same : number k (n - 32 * k) ≡ n = omega arith in
            rw same at (others (n - 32 * k) (omega arith)
            (ap (λ m. has_bit m (n - 32 * k)) none ∙ has_bit-none (n - 32 * k)))
      ];
      asked_full = looks.asked_full;
    })
    | inr some ↦ rw (ne_eqb mask 0 some) (looks, record { some = omega arith; in_word = fits; others = others })
  ]

  -- so it is of an agent on a page that a hint named
  tries_hinted-known : (later : Log T) (acts : List (Act T)) (world : WorldState T) (a hint mask : ℕ)
      → IsPast first acts (length world.pages) a 0 None
      → 0 < hint → hint < length world.pages → mask < 2 ^ 32
      → ((id : ℕ) → id < 32 → has_bit mask id ≡ false → SawTaken first acts a (number hint id))
      → AgentKnows Leaves first later acts world a (tries_hinted hint mask)
  tries_hinted-known later acts world a hint mask past further linked fits others = elim (cases_eq mask 0) [
    | inl none ↦ rw (eq-eqb mask 0 none) (record {
      looking = past.looking;
      linked = past.linked;
      saw_taken = past.saw_taken;
      asked_full = record {
        linked = linked;
        saw_taken = λ id within. others id within (ap (λ m. has_bit m id) none ∙ has_bit-none id);
      };
    })
    | inr some ↦ rw (ne_eqb mask 0 some) (record {
      past = past;
      further = further;
      linked = linked;
      bits = record { some = omega arith; in_word = fits; others = others };
    })
  ]

module _ {T : Type 0} {Leaves : T → T → Type 0} {first : List T} {log : Log T} {acts : List (Act T)}
    {old : WorldState T} (agrees : Agrees Leaves first log acts old) where
  abbrev knows : (a : ℕ) (point : Point T) → slice_get old.agents a ≡ Some point
      → AgentKnows Leaves first log acts old a point
  knows = known agrees

  -- what lies at a number, by its bit and its place
  pub lies-at : (k id : ℕ) (page : WorldPageState T) → id < 32 → slice_get old.pages k ≡ Some page
      → (pool_of first acts).at (number k id)
      ≡ (if has_bit page.word id then free_with (page_value old.pages k id) else Out)
  lies-at k id page within at = agrees.same.places (number k id) ∙ reads-number old k id page within at

  -- a number whose bit is clear is out
  out-at : (k id : ℕ) (page : WorldPageState T) → id < 32 → slice_get old.pages k ≡ Some page
      → has_bit page.word id ≡ false
      → (pool_of first acts).at (number k id) ≡ Out
  out-at k id page within at clear = lies-at k id page within at
      ∙ ap (λ bit. if bit then free_with (page_value old.pages k id) else Out) clear

  -- a number whose bit is set is free with the value at its place
  free-at : (k id : ℕ) (page : WorldPageState T) → id < 32 → slice_get old.pages k ≡ Some page
      → k < length old.pages → has_bit page.word id ≡ true
      → (value : T) × (page_value old.pages k id ≡ Some value) × ((pool_of first acts).at (number k id) ≡ Free value)
  free-at k id page within at linked set =
      let pages = agrees.same.pages in
      let here = lies-at k id page within at
      ∙ ap (λ bit. if bit then free_with (page_value old.pages k id) else Out) set in
      let inside = pool-there first acts (number k id) (omega arith) in
      let by : (lookup : Option T) → page_value old.pages k id ≡ lookup
      → (value : T) × (page_value old.pages k id ≡ Some value)
      × ((pool_of first acts).at (number k id) ≡ Free value) = elim [
        | None ↦ λ is. absurd (inside (here ∙ ap free_with is))
        | Some value ↦ λ is. (value, is, here ∙ ap free_with is)
      ] in
      by (page_value old.pages k id) refl

  -- an agent reads the word of its page
  pub reads : (a k : ℕ) (asked : Option ℕ) → slice_get old.agents a ≡ Some (Reading k asked)
      → GoesOn Leaves first log (event.ReadMask a) (seen.Word a (word_of old.pages k))
      (moved old old.pages a (tries k (word_of old.pages k) asked))
  reads a k asked at =
      let looks = knows a (Reading k asked) at in
      let (page, here) = slice_get-some old.pages k looks.linked in
      let word_is : word_of old.pages k ≡ page.word = word-at old.pages k page here in
      let fits = agrees.words k page here in
      stays agrees _ at tt (λ b other. refl)
      (tries-known Leaves first ((event.ReadMask a, seen.Word a (word_of old.pages k)) ∷ log) acts
      (moved old old.pages a (tries k (word_of old.pages k) asked)) a k (word_of old.pages k) asked looks
      (omega arith)
      (λ id within clear. since-now first acts a (λ pool. pool.at (number k id) ≡ Out) looks.looking
      (out-at k id page within here (ap (λ w. has_bit w id) (sym word_is) ∙ clear))))

  -- an agent at the first link reads the word of a page that a hint names
  pub reads-by-hint : (a hint : ℕ) → slice_get old.agents a ≡ Some (AtLink 0 None) → 0 < hint → hint < length old.pages
      → GoesOn Leaves first log (event.ReadHinted a hint) (seen.Word a (word_of old.pages hint))
      (moved old old.pages a (tries_hinted hint (word_of old.pages hint)))
  reads-by-hint a hint at further linked =
      let past = knows a (AtLink 0 None) at in
      let (page, here) = slice_get-some old.pages hint linked in
      let word_is : word_of old.pages hint ≡ page.word = word-at old.pages hint page here in
      let fits = agrees.words hint page here in
      stays agrees _ at tt (λ b other. refl)
      (tries_hinted-known Leaves first ((event.ReadHinted a hint, seen.Word a (word_of old.pages hint)) ∷ log) acts
      (moved old old.pages a (tries_hinted hint (word_of old.pages hint))) a hint (word_of old.pages hint)
      past further linked (omega arith)
      (λ id within clear. since-now first acts a (λ pool. pool.at (number hint id) ≡ Out) past.looking
      (out-at hint id page within here (ap (λ w. has_bit w id) (sym word_is) ∙ clear))))

  -- the pages after another word was put on one of them
  worded : (more : List (Act T)) (a k word : ℕ) (page : WorldPageState T) → slice_get old.pages k ≡ Some page
      → word < 2 ^ 32
      → IsSame (pool_of first more)
      (abstract_pool (record { pages = with_word old.pages k word; agents = old.agents; limit = old.limit }))
      → StepsPages Leaves first acts more old (with_word old.pages k word) a
  worded more a k word page at fits same =
      let f : WorldPageState T → WorldPageState T = λ p. record { word = word; places = p.places } in
      let count : length (with_word old.pages k word) ≡ length old.pages = length-changed f old.pages k page at in
      record {
        count = omega arith;
        same = same;
        words = changed-all (λ p. p.word < 2 ^ 32) f old.pages k page at fits agrees.words;
        places = changed-all (λ p. length p.places ≡ 32) f old.pages k page at (agrees.places k page at) agrees.places;
        allowed = allows-fewer old.limit (length (with_word old.pages k word)) (length old.pages)
            (omega arith) agrees.allowed;
        values = λ b j i value other linked within holds. value-word old.pages k word page at j i;
      }

  -- the bit is set in the word: the agent pulls its number
  pub won : (a k mask : ℕ) (from : Point T) → slice_get old.agents a ≡ Some from
      → Looks (acts_of a acts)
      → k < length old.pages → TriesBits first acts a k mask
      → has_bit (word_of old.pages k) (trailing_zeros w32 mask) ≡ true
      → GoesOn Leaves first log (event.ClearBit a) (seen.Pulled a (number k (trailing_zeros w32 mask)))
      (moved old (with_word old.pages k (without_bit (word_of old.pages k) (trailing_zeros w32 mask))) a
      (Taken k (trailing_zeros w32 mask)))
  won a k mask from at looking linked bits set =
      let id = trailing_zeros w32 mask in
      let within : id < 32 = lowest-lt mask bits.some bits.in_word in
      let (page, here) = slice_get-some old.pages k linked in
      let word_is : word_of old.pages k ≡ page.word = word-at old.pages k page here in
      let fits = agrees.words k page here in
      let word = without_bit (word_of old.pages k) id in
      let pages = with_word old.pages k word in
      let (value, lies, free) =
      free-at k id page within here linked (ap (λ w. has_bit w id) (sym word_is) ∙ set) in
      let act : Act T = Operates (Pull a (number k id) value) in
      let count : pages_of acts ≡ length old.pages = agrees.same.pages in
      let left = worded (act ∷ acts) a k word page here (without_bit-lt (word_of old.pages k) id (omega arith))
      (same-cleared (pool_of first acts) (pool_of first (act ∷ acts)) old
      (record { pages = pages; agents = old.agents; limit = old.limit }) k id page within here
      (pool-operated first acts (Pull a (number k id) value) (omega arith)) agrees.same
      (ap (λ w. with_word old.pages k (without_bit w id)) word_is)) in
      visible-step agrees act _ at (value, refl)
      (may-pull Leaves old.limit first acts a (number k id) value looking free) tt refl
      (λ b other. refl) left (
        value,
        record {
          linked = let more = left.count in omega arith;
          in_page = within;
          holds = holds-pulled acts a (number k id) value;
        },
        value-word old.pages k word page here k id ∙ lies,
      )

  -- the numbers that it has seen taken then
  lost-others : (a k mask : ℕ) → Looks (acts_of a acts) → k < length old.pages → TriesBits first acts a k mask
      → has_bit (word_of old.pages k) (trailing_zeros w32 mask) ≡ false → (id : ℕ) → id < 32
      → has_bit (bit_and mask (mask - 1)) id ≡ false
      → SawTaken first acts a (number k id)
  lost-others a k mask looking linked bits clear id within gone =
      let (page, here) = slice_get-some old.pages k linked in
      let word_is : word_of old.pages k ≡ page.word = word-at old.pages k page here in
      elim (cases_eq id (trailing_zeros w32 mask)) [
        | inl tried ↦
            since-now first acts a (λ pool. pool.at (number k id) ≡ Out) looking
            (out-at k id page within here (ap (λ i. has_bit page.word i) tried
            ∙ ap (λ w. has_bit w (trailing_zeros w32 mask))
            (sym word_is) ∙ clear))
        | inr other ↦ bits.others id within (sym (has_bit-without_lowest mask id bits.some bits.in_word other) ∙ gone)
      ]

  -- the bit is clear in the word: the agent goes on with the other bits that it saw
  pub lost : (a k mask : ℕ) (asked : Option ℕ) → slice_get old.agents a ≡ Some (Clearing k mask asked)
      → has_bit (word_of old.pages k) (trailing_zeros w32 mask) ≡ false
      → GoesOn Leaves first log (event.ClearBit a) (seen.Found a (word_of old.pages k))
      (moved old old.pages a (tries k (bit_and mask (mask - 1)) asked))
  lost a k mask asked at clear =
      let (looks, bits) = knows a (Clearing k mask asked) at in
      let next : Point T = tries k (bit_and mask (mask - 1)) asked in
      let e : Event T = event.ClearBit a in
      let answer = seen.Found a (word_of old.pages k) in
      stays agrees _ at tt (λ b other. refl)
      (tries-known Leaves first ((e, answer) ∷ log) acts (moved old old.pages a next) a k (bit_and mask (mask - 1)) asked
      looks (without_lowest-lt mask bits.in_word) (lost-others a k mask looks.looking looks.linked bits clear))

  -- so it is on a page that a hint named
  pub lost-by-hint : (a hint mask : ℕ) → slice_get old.agents a ≡ Some (ClearingHinted hint mask)
      → has_bit (word_of old.pages hint) (trailing_zeros w32 mask) ≡ false
      → GoesOn Leaves first log (event.ClearBit a) (seen.Found a (word_of old.pages hint))
      (moved old old.pages a (tries_hinted hint (bit_and mask (mask - 1))))
  lost-by-hint a hint mask at clear =
      let tried = knows a (ClearingHinted hint mask) at in
      let past = tried.past in
      let bits = tried.bits in
      let next : Point T = tries_hinted hint (bit_and mask (mask - 1)) in
      let e : Event T = event.ClearBit a in
      let answer = seen.Found a (word_of old.pages hint) in
      stays agrees _ at tt (λ b other. refl)
      (tries_hinted-known Leaves first ((e, answer) ∷ log) acts (moved old old.pages a next) a hint
      (bit_and mask (mask - 1)) past tried.further tried.linked (without_lowest-lt mask bits.in_word)
      (lost-others a hint mask past.looking tried.linked bits clear))

  -- the bit is set again: the agent returns its number
  pub returned : (a k id : ℕ) → slice_get old.agents a ≡ Some (Home k id)
      → GoesOn Leaves first log (event.OrMask a) (seen.Returned a (number k id))
      (moved old (with_word old.pages k (with_bit (word_of old.pages k) id)) a Ended)
  returned a k id at =
      let (value, kept, holds, leaves, lies) = knows a (Home k id) at in
      let (page, here) = slice_get-some old.pages k holds.linked in
      let word_is : word_of old.pages k ≡ page.word = word-at old.pages k page here in
      let fits = agrees.words k page here in
      let word = with_bit (word_of old.pages k) id in
      let pages = with_word old.pages k word in
      let act : Act T = Operates (Return a (number k id) kept) in
      let count : pages_of acts ≡ length old.pages = agrees.same.pages in
      let within = holds.in_page in
      let there = holds.linked in
      visible-step agrees act _ at (kept, refl)
      (may-return Leaves old.limit first acts agrees.run a (number k id) value kept holds.holds leaves) tt
      refl (λ b other. refl)
      (worded (act ∷ acts) a k word page here (with_bit-lt (word_of old.pages k) id holds.in_page (omega arith))
      (same-set (pool_of first acts) (pool_of first (act ∷ acts)) old
      (record { pages = pages; agents = old.agents; limit = old.limit }) k id page kept holds.in_page here
      lies (pool-operated first acts (Return a (number k id) kept) (omega arith)) agrees.same
      (ap (λ w. with_word old.pages k (with_bit w id)) word_is)))
      tt
