-- The steps at a page's link keep the invariant: the read, the page that is made, and the exchange.
use Rattle.std.proofs.Common.{◌≡◌, ◌≢◌, inl, inr, ℕ, ◌+◌, ◌-◌, ◌*◌, ◌^◌, ◌<◌, ◌≤◌, true, false, nat_eq}
use Rattle.std.proofs.Common.{Option, Some, None, List, [], ◌∷◌, ◌++◌, length, slice_get, Ok}
use Rattle.std.proofs.Common.{Err, refl, ap, sym, ◌∙◌, arith, length-append, lit<}
use Rattle.std.proofs.lemmas.Bool.{eq-eqb, ne_eqb, eqb-true, eqb-false, cases_lt, cases_Bool}
use Rattle.std.proofs.lemmas.List.{length-map}
use Rattle.std.specs.Option.{option_eq}
use Rattle.pool_parts.specs.declared.pull_error.PullError.{PullError}
use Rattle.pool_parts.specs.declared.pull_error.PullError.TheVariants.{Memory, Init, Limit}
use Rattle.pool_world.specs.declared.interleave.event.Event.{Event}
use Rattle.pool_world.specs.declared.interleave.event.Event.TheVariants as event
use Rattle.pool_world.specs.declared.interleave.event.Seen.{Seen}
use Rattle.pool_world.specs.declared.interleave.event.Seen.TheVariants as seen
use Rattle.pool_world.specs.declared.interleave.point.Point.{Point}
use Rattle.pool_world.specs.declared.interleave.point.Point.TheVariants.{Reading, AtLink, Making, Linking, Ended}
use Rattle.pool_world.specs.Pool.{Out, AllowsPages, number}
use Rattle.pool_world.specs.Run.{Act, Opens, Grows, Refused, acts_of, pages_of, pool_of, Looks}
use Rattle.pool_world.specs.Run.{SawPagesTaken, Since, MayCome}
use Rattle.pool_world.specs.World.State.{WorldPageState, WorldState}
use Rattle.pool_world.specs.World.Machine.{comes_to}
use Rattle.pool_world.specs.World.Machine.{linked_page}
use Rattle.pool_world.specs.World.Trace.{Log, IsHidden, last_made}
use Rattle.pool_world.specs.World.Inside.Invariant.{SawFull, IsPast, Agrees}
use Rattle.pool_world.proofs.Places.{slice_get-append_front}
use Rattle.pool_world.proofs.Runs.{since-now, since-later, acts_of-own, pool-grown, run-acts}
use Rattle.pool_world.proofs.World.AbstractPool.{value-at, pushed-all, same-grown}
use Rattle.pool_world.proofs.World.Invariant.{GoesOn, pages-stay, visible-step, stays, allows-fewer}
use Rattle.pool_world.proofs.World.Moves.{moved, known}

-- there is this limit
pub is-limit : (limit : Option ℕ) (count : ℕ) → limit ≡ Some count → option_eq nat_eq limit (Some count) ≡ true
is-limit None count is = cc
is-limit (Some limit) count is = let same : limit ≡ count = cc in eq-eqb limit count same

pub limit-is : (limit : Option ℕ) (count : ℕ) → option_eq nat_eq limit (Some count) ≡ true → limit ≡ Some count
limit-is None count is = cc
limit-is (Some limit) count is = ap Some (eqb-true limit count is)

-- a hint led to this page in vain
pub asked-is : (asked : Option ℕ) (k : ℕ) → option_eq nat_eq asked (Some k) ≡ true → asked ≡ Some k
asked-is None k is = cc
asked-is (Some hint) k is = ap Some (eqb-true hint k is)

-- below the limit one page more is allowed
allows-next : (limit : Option ℕ) (count : ℕ) → option_eq nat_eq limit (Some count) ≡ false → AllowsPages limit count
    → AllowsPages limit (count + 1)
allows-next None count not allowed = tt
allows-next (Some limit) count not allowed = let other = eqb-false limit count not in omega arith

module _ {T : Type 0} {Leaves : T → T → Type 0} {first : List T} {log : Log T} {acts : List (Act T)}
    {old : WorldState T} (agrees : Agrees Leaves first log acts old) where
  -- there are so many pages now
  had-now : (a count : ℕ) → Looks (acts_of a acts) → length old.pages ≡ count
      → Since first a (λ pool. pool.pages ≡ count) acts
  had-now a count looking pages = since-now first acts a (λ pool. pool.pages ≡ count) looking
      (agrees.same.pages ∙ pages)

  -- the agent is refused
  refused : (e : Event T) (a k count : ℕ) (from : Point T) (cause : PullError) → slice_get old.agents a ≡ Some from
      → ((b : ℕ) → last_made ((e, seen.Refused a cause) ∷ log) b ≡ last_made log b)
      → MayCome Leaves old.limit first acts (Refused a cause)
      → SawPagesTaken first acts a (k + 1) → Since first a (λ pool. pool.pages ≡ (k + 1)) acts
      → GoesOn Leaves first log e (seen.Refused a cause) (moved old old.pages a Ended)
  refused e a k count from cause at made may saw_taken had =
      visible-step agrees (Refused a cause) _ at refl may (k + 1, omega arith, saw_taken, had) refl (λ b other. made b)
      (pages-stay agrees refl) tt

  pub at-limit : (a k : ℕ) (asked : Option ℕ) → slice_get old.agents a ≡ Some (AtLink k asked)
      → option_eq nat_eq old.limit (Some (k + 1)) ≡ true
      → GoesOn Leaves first log (event.ReadNext a) (seen.Refused a Limit) (moved old old.pages a Ended)
  at-limit a k asked at is =
      let past = known agrees a (AtLink k asked) at in
      let limit = limit-is old.limit (k + 1) is in
      let most : length old.pages ≤ k + 1 = rw limit at agrees.allowed in
      let linked = past.linked in
      let count : length old.pages ≡ k + 1 = omega arith in
      let pages : pages_of acts ≡ k + 1 = agrees.same.pages ∙ count in
      refused (event.ReadNext a) a k (k + 1) (AtLink k asked) Limit at (λ b. refl)
      (past.looking, (limit ∙ ap Some (sym pages), rw pages past.saw_taken)) past.saw_taken
      (had-now a (k + 1) past.looking count)

  pub at-end : (a k : ℕ) (asked : Option ℕ) → slice_get old.agents a ≡ Some (AtLink k asked)
      → option_eq nat_eq old.limit (Some (k + 1)) ≡ false → length old.pages ≡ k + 1
      → GoesOn Leaves first log (event.ReadNext a) (seen.Next a false) (moved old old.pages a (Making k))
  at-end a k asked at not count =
      let past = known agrees a (AtLink k asked) at in
      stays agrees _ at tt (λ b other. refl)
      (record {
        past = record {
          looking = past.looking;
          linked = past.linked;
          saw_taken = past.saw_taken;
          asked_full = tt;
        };
        last = had-now a (k + 1) past.looking count;
        allowed = allows-next old.limit (k + 1) not (rw count at agrees.allowed);
      })

  -- the agent goes to the next page, which is linked
  goes-next : (e : Event T) (answer : Seen) (a k : ℕ) (asked : Option ℕ) (from : Point T)
      → slice_get old.agents a ≡ Some from
      → IsHidden answer × ((b : ℕ) → last_made ((e, answer) ∷ log) b ≡ last_made log b)
      → IsPast first acts (length old.pages) a k asked
      → (length old.pages ≡ k + 1 → ⊥)
      → GoesOn Leaves first log e answer (moved old old.pages a (Reading (k + 1) asked))
  goes-next e answer a k asked from at hidden past more =
      let linked = past.linked in
      stays agrees _ at hidden.0 (λ b other. hidden.1 b)
      (record {
        looking = past.looking;
        linked = omega arith;
        saw_taken = past.saw_taken;
        asked_full = past.asked_full;
      })

  -- the agent goes past the next page, where a hint led it in vain
  goes-past : (a k : ℕ) (asked : Option ℕ) → slice_get old.agents a ≡ Some (AtLink k asked)
      → IsPast first acts (length old.pages) a k asked
      → asked ≡ Some (k + 1)
      → GoesOn Leaves first log (event.ReadNext a) (seen.Next a true)
      (moved old old.pages a (AtLink (k + 1) asked))
  goes-past a k asked at past is =
      let full : SawFull first acts (length old.pages) a (k + 1) = rw is at past.asked_full in
      stays agrees _ at tt (λ b other. refl)
      (record {
        looking = past.looking;
        linked = full.linked;
        saw_taken = λ n below. elim (cases_lt n (32 * (k + 1))) [
          | inl before ↦ past.saw_taken n before
          | inr here ↦
              let same : number (k + 1) (n - 32 * (k + 1)) ≡ n = omega arith in
              rw same at (full.saw_taken (n - 32 * (k + 1)) (omega arith))
        ];
        asked_full = past.asked_full;
      })

  -- the agent comes to the next page, which is linked
  pub comes-next : (a k : ℕ) (asked : Option ℕ) → slice_get old.agents a ≡ Some (AtLink k asked)
      → length old.pages ≢ k + 1
      → GoesOn Leaves first log (event.ReadNext a) (seen.Next a true)
      (moved old old.pages a (comes_to (k + 1) asked))
  comes-next a k asked at more =
      let past = known agrees a (AtLink k asked) at in
      let e : Event T = event.ReadNext a in
      elim (cases_Bool (option_eq nat_eq asked (Some (k + 1)))) [
        | inl is ↦ rw is (goes-past a k asked at past (asked-is asked (k + 1) is))
        | inr not ↦ rw not (goes-next e (seen.Next a true) a k asked (AtLink k asked) at (tt, λ b. refl) past more)
      ]

  -- the values of a page are made
  pub made : (a k : ℕ) (values : List T) → slice_get old.agents a ≡ Some (Making k)
      → GoesOn Leaves first log (event.MakePage a (Ok values)) (seen.Made a)
      (moved old old.pages a (Linking k values))
  made a k values at =
      let end = known agrees a (Making k) at in
      let e : Event T = event.MakePage a (Ok values) in
      stays agrees _ at tt (λ b other. rw (ne_eqb a b other) refl)
      (end, rw (eq-eqb a a refl) refl)

  -- the agent is refused the page's memory, or its values
  pub lacks-memory : (a k : ℕ) → slice_get old.agents a ≡ Some (Making k)
      → GoesOn Leaves first log (event.MakePage a (Err Memory)) (seen.Refused a Memory) (moved old old.pages a Ended)
  lacks-memory a k at =
      let end = known agrees a (Making k) at in
      refused (event.MakePage a (Err Memory)) a k 0 (Making k) Memory at (λ b. refl)
      (end.past.looking, tt) end.past.saw_taken end.last

  pub lacks-values : (a k : ℕ) → slice_get old.agents a ≡ Some (Making k)
      → GoesOn Leaves first log (event.MakePage a (Err Init)) (seen.Refused a Init) (moved old old.pages a Ended)
  lacks-values a k at =
      let end = known agrees a (Making k) at in
      refused (event.MakePage a (Err Init)) a k 0 (Making k) Init at (λ b. refl)
      (end.past.looking, tt) end.past.saw_taken end.last

  -- the agent's own page is linked
  pub linked : length first ≡ 32 → (a k : ℕ) (values : List T) → slice_get old.agents a ≡ Some (Linking k values)
      → length values ≡ 32
      → length old.pages ≡ k + 1 → GoesOn Leaves first log (event.ExchangeNext a) (seen.Linked a)
      (moved old (old.pages ++ linked_page values ∷ []) a (Reading (k + 1) None))
  linked begun a k values at full count =
      let (end, last) = known agrees a (Linking k values) at in
      let act : Act T = Grows a values in
      let pages : List (WorldPageState T) = old.pages ++ linked_page values ∷ [] in
      let more : length pages ≡ length old.pages + 1 = length-append old.pages (linked_page values ∷ []) in
      let pool_pages : pages_of acts ≡ k + 1 = agrees.same.pages ∙ count in
      let looking = end.past.looking in
      let not_opens : act ≢ Opens a = λ is. cc in
      visible-step agrees act _ at (values, last, refl) (
        looking,
        (full, allows-fewer old.limit (pages_of acts + 1) (k + 1 + 1) (omega arith) end.allowed),
      )
      (rw pool_pages end.past.saw_taken) refl (λ b other. refl)
      (record {
        count = omega arith;
        same =
            same-grown (pool_of first acts) (pool_of first (act ∷ acts)) old
            (record { pages = pages; agents = old.agents; limit = old.limit }) values full
            (pool-grown first begun acts (run-acts Leaves old.limit first acts agrees.run) a values full) agrees.same refl;
        words = pushed-all (λ p. p.word < 2 ^ 32) old.pages (linked_page values) (lit< tt) agrees.words;
        places = pushed-all (λ p. length p.places ≡ 32) old.pages (linked_page values)
            (length-map values Some ∙ full) agrees.places;
        allowed = allows-fewer old.limit (length pages) (k + 1 + 1) (omega arith) end.allowed;
        values = λ b j i value other below within holds. ap (value-at i)
            (slice_get-append_front old.pages (linked_page values ∷ []) j below);
      })
      (record {
        looking = rw (acts_of-own act acts a refl) looking;
        linked = omega arith;
        saw_taken = λ n below. since-later first act acts a (λ pool. pool.at n ≡ Out) not_opens
            (end.past.saw_taken n below);
        asked_full = tt;
      })

  -- another page is linked there, and the agent goes on to it
  pub lost-link : (a k : ℕ) (values : List T) → slice_get old.agents a ≡ Some (Linking k values)
      → length old.pages ≢ k + 1
      → GoesOn Leaves first log (event.ExchangeNext a) (seen.Lost a) (moved old old.pages a (Reading (k + 1) None))
  lost-link a k values at more =
      let (end, last) = known agrees a (Linking k values) at in
      goes-next (event.ExchangeNext a) (seen.Lost a) a k None (Linking k values) at (tt, λ b. refl) end.past more
