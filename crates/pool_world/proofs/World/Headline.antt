-- The steps of a world, one after another, are a run of one pool.
use Rattle.std.proofs.Common.{◌≡◌, ℕ, ◌^◌, ◌<◌, Option, Some, List, [], ◌∷◌, length, slice_get, Ok}
use Rattle.std.proofs.Common.{Err, true, refl, ap, ◌∙◌, arith, lit<}
use Rattle.std.proofs.lemmas.List.{length-map}
use Rattle.pool_world.specs.declared.interleave.event.Event.{Event}
use Rattle.pool_world.specs.declared.interleave.event.Event.TheVariants as event
use Rattle.pool_world.specs.declared.interleave.event.Seen.{Seen}
use Rattle.pool_world.specs.declared.interleave.event.Seen.TheVariants as seen
use Rattle.pool_world.specs.declared.interleave.point.Point.{Point}
use Rattle.pool_world.specs.declared.interleave.point.Point.TheVariants.{Clearing, ClearingHinted, Taken}
use Rattle.pool_world.specs.declared.interleave.point.Point.TheVariants.{Holding, Home}
use Rattle.pool_world.specs.Pool.{Pool, Absent, IsPool, IsSame, AllowsPages, number}
use Rattle.pool_world.specs.Run.{Act, pool_of, Holds, HasHolders}
use Rattle.pool_world.specs.World.State.{WorldPageState, WorldState}
use Rattle.pool_world.specs.World.Machine.{number_out, linked_page, opening_world, point_of}
use Rattle.pool_world.specs.World.AbstractPool.{abstract_pool}
use Rattle.pool_world.specs.World.OwnSteps.{is_idle}
use Rattle.pool_world.specs.World.Trace.{Log, IsHidden, last_made}
use Rattle.pool_world.specs.World.Headline.{IsRun, Executes, IsNew}
use Rattle.pool_world.specs.World.Inside.Invariant.{Agrees}
use Rattle.pool_world.proofs.Runs.{legal-run, pool-opening, holders-run, whole-run, each-place}
use Rattle.pool_world.proofs.World.AbstractPool.{same-grown, pushed-all}
use Rattle.pool_world.proofs.World.Invariant.{Agreement, GoesOn, idle, pages-some, allows-fewer}
use Rattle.pool_world.proofs.World.Moves.{moved, Moves, Happens, known, happens}
use Rattle.pool_world.proofs.World.Moves.{Reads, ReadsByHint, Clears, LosesBit, ClearsByHint}
use Rattle.pool_world.proofs.World.Moves.{LosesBitByHint, MeetsLimit, FindsNoNext, GoesNext, MakesPage}
use Rattle.pool_world.proofs.World.Moves.{LacksMemory, LacksValues, LinksPage, LosesLink, TakesValue}
use Rattle.pool_world.proofs.World.Moves.{WritesValue, PutsValue, SetsBit}
use Rattle.pool_world.proofs.World.Moves.{NotEnabled, NoMemory, Begins, Goes}
use Rattle.pool_world.proofs.World.WordSteps.{reads, reads-by-hint, won, lost, lost-by-hint, returned}
use Rattle.pool_world.proofs.World.ValueSteps.{taken, written, put, begun}
use Rattle.pool_world.proofs.World.LinkSteps.{at-limit, at-end, comes-next, made, lacks-memory, lacks-values}
use Rattle.pool_world.proofs.World.LinkSteps.{linked, lost-link}

-- an answer with which nothing happens shows nothing
idle-hidden : (answer : Seen) → is_idle answer ≡ true → IsHidden answer
idle-hidden seen.NotEnabled idle = tt
idle-hidden seen.NoMemory idle = tt
idle-hidden _ idle = absurd (cc)

module _ {T : Type 0} where
  -- nothing is made where nothing happens
  nothing-made : (e : Event T) (answer : Seen) → is_idle answer ≡ true → (log : Log T) (b : ℕ)
      → last_made ((e, answer) ∷ log) b ≡ last_made log b
  nothing-made (event.MakePage a (Ok values)) (seen.Made c) idle log b = absurd (cc)
  nothing-made (event.MakePage a (Ok values)) _ idle log b = refl
  nothing-made (event.MakePage a (Err cause)) answer idle log b = refl
  nothing-made _ answer idle log b = refl

module _ {T : Type 0} (Leaves : T → T → Type 0) (first : List T) (full : length first ≡ 32) where
  idles : {log : Log T} {acts : List (Act T)} {old : WorldState T} → Agrees Leaves first log acts old
      → (e : Event T) (answer : Seen) (new : WorldState T) → is_idle answer ≡ true → new ≡ old
      → GoesOn Leaves first log e answer new
  idles agrees e answer new is same = rw same (idle agrees e answer (idle-hidden answer is) (nothing-made e answer is _))

  -- where an agent moves the invariant is kept
  move-goes : {log : Log T} {acts : List (Act T)} {old : WorldState T} → Agrees Leaves first log acts old
      → (a : ℕ) {from to : Point T} {e : Event T} {answer : Seen} {pages : List (WorldPageState T)}
      → slice_get old.agents a ≡ Some from → Moves Leaves old a from e answer pages to
      → GoesOn Leaves first log e answer (moved old pages a to)
  move-goes agrees a at (Reads k asked) = reads agrees a k asked at
  move-goes agrees a at (ReadsByHint hint further linked) = reads-by-hint agrees a hint at further linked
  move-goes agrees a at (Clears k mask asked set) =
      let (looks, bits) = known agrees a (Clearing k mask asked) at in
      won agrees a k mask (Clearing k mask asked) at looks.looking looks.linked bits set
  move-goes agrees a at (LosesBit k mask asked clear) = lost agrees a k mask asked at clear
  move-goes agrees a at (ClearsByHint hint mask set) =
      let tried = known agrees a (ClearingHinted hint mask) at in
      won agrees a hint mask (ClearingHinted hint mask) at tried.past.looking tried.linked tried.bits set
  move-goes agrees a at (LosesBitByHint hint mask clear) = lost-by-hint agrees a hint mask at clear
  move-goes agrees a at (MeetsLimit k asked limit) = at-limit agrees a k asked at limit
  move-goes agrees a at (FindsNoNext k asked below last) = at-end agrees a k asked at below last
  move-goes agrees a at (GoesNext k asked more) = comes-next agrees a k asked at more
  move-goes agrees a at (MakesPage k values) = made agrees a k values at
  move-goes agrees a at (LacksMemory k) = lacks-memory agrees a k at
  move-goes agrees a at (LacksValues k) = lacks-values agrees a k at
  move-goes agrees a at (LinksPage k values whole last) = linked agrees full a k values at whole last
  move-goes agrees a at (LosesLink k values more) = lost-link agrees a k values at more
  move-goes agrees a at (TakesValue k id value lies) = taken agrees full a k id value at lies
  move-goes agrees a at (WritesValue k id before value) = written agrees a k id before value at
  move-goes agrees a at (PutsValue k id value kept leaves) = put agrees full a k id value kept at leaves
  move-goes agrees a at (SetsBit k id) = returned agrees a k id at

  -- a step keeps the invariant
  step-goes : {log : Log T} {acts : List (Act T)} {old : WorldState T} → Agrees Leaves first log acts old
      → (e : Event T) (answer : Seen) (new : WorldState T) → Happens Leaves old e (point_of old e) answer new
      → GoesOn Leaves first log e answer new
  step-goes agrees e answer new (NotEnabled none is same) = idles agrees e answer new (ap is_idle is) same
  step-goes agrees e answer new (NoMemory may is same) = idles agrees e answer new (ap is_idle is) same
  step-goes agrees e answer new (Begins is row) = rw (is, row.0, row.1) (begun agrees)
  step-goes agrees e answer new (Goes a from to pages at moves same) = rw same (move-goes agrees a at moves)

  -- the world of one page reads as the pool of no act
  opening-reads : (limit : Option ℕ) → IsSame (pool_of first []) (abstract_pool (opening_world first limit))
  opening-reads limit =
      let none : Pool T = record { pages = 0; at = λ n. Absent } in
      let empty : WorldState T = record { pages = []; agents = []; limit = limit } in
      same-grown none (pool_of first []) empty (opening_world first limit) first full (pool-opening first full)
      (record { pages = refl; places = λ n. refl }) refl

  opening-agrees : (limit : Option ℕ) → AllowsPages limit 1 → Agrees Leaves first [] [] (opening_world first limit)
  opening-agrees limit allowed = record {
    reads = refl;
    run = tt;
    saw_taken = tt;
    same = opening-reads limit;
    words = pushed-all (λ page. page.word < 2 ^ 32) [] (linked_page first) (lit< tt) (λ j page lookup. cc);
    places = pushed-all (λ page. length page.places ≡ 32) [] (linked_page first) (length-map first Some ∙ full)
        (λ j page lookup. cc);
    allowed = allowed;
    agents = λ a. refl;
  }

  pub ran-agrees : (limit : Option ℕ) → AllowsPages limit 1 → (log : Log T) (new : WorldState T)
      → Executes Leaves (opening_world first limit) log new → Agreement Leaves first log new
  ran-agrees limit allowed [] new same =
      rw same (record { acts = []; agrees = opening-agrees limit allowed })
  ran-agrees limit allowed ((e, answer) ∷ log) new (between, ran, step, exact) =
      let before = ran-agrees limit allowed log between ran in
      step-goes before.agrees e answer new (happens before.agrees answer new e step)

  -- an agent that has an item in the world holds it in the run
  held-is : (log : Log T) (acts : List (Act T)) (world : WorldState T) → Agrees Leaves first log acts world
      → (a k id : ℕ) (value : T) → slice_get world.agents a ≡ Some (Holding k id value)
      → Holds acts a (number k id) value
  held-is log acts world agrees a k id value at = (known agrees a (Holding k id value) at).holds

  -- an agent that has a number out in the world holds it in the run
  out-is : (log : Log T) (acts : List (Act T)) (world : WorldState T) → Agrees Leaves first log acts world
      → (a n : ℕ) (lookup : Option (Point T)) → slice_get world.agents a ≡ lookup → number_out lookup ≡ Some n
      → (value : T) × Holds acts a n value
  out-is log acts world agrees a n (Some (Taken k id)) at out =
      let (value, holds, lies) = known agrees a (Taken k id) at in
      let is : number k id ≡ n = cc in
      (value, rw is at holds.holds)
  out-is log acts world agrees a n (Some (Holding k id value)) at out =
      let holds = known agrees a (Holding k id value) at in
      let is : number k id ≡ n = cc in
      (value, rw is at holds.holds)
  out-is log acts world agrees a n (Some (Home k id)) at out =
      let (value, kept, holds, leaves, lies) = known agrees a (Home k id) at in
      let is : number k id ≡ n = cc in
      (value, rw is at holds.holds)
  out-is log acts world agrees a n _ at out = absurd (cc)

  agrees-run : (log : Log T) (acts : List (Act T)) (world : WorldState T) → Agrees Leaves first log acts world
      → IsRun Leaves first log world
  agrees-run log acts world agrees =
      let some = pages-some acts in
      let pages = agrees.same.pages in
      let allowed = allows-fewer world.limit 1 (length world.pages) (omega arith) agrees.allowed in
      record {
        acts = acts;
        visible = agrees.reads;
        run = agrees.run;
        legal = legal-run Leaves world.limit first acts agrees.run;
        ends = agrees.same;
        allowed = agrees.allowed;
        whole = each-place Leaves world.limit first (λ place. IsPool world.limit (pool_of first place))
            (whole-run Leaves world.limit first allowed) acts agrees.run;
        holders = each-place Leaves world.limit first (HasHolders first)
            (holders-run Leaves world.limit first full) acts agrees.run;
        held = held-is log acts world agrees;
        out = λ a n has. out-is log acts world agrees a n (slice_get world.agents a) refl has;
        saw_taken = agrees.saw_taken;
      }

-- from a world in which no agent has begun the steps are a run
pub ran-is_run : {T : Type 0} (Leaves : T → T → Type 0) (old : WorldState T) (start : IsNew old) (log : Log T)
    (new : WorldState T)
    → Executes Leaves old log new → IsRun Leaves start.first log new
ran-is_run {T} Leaves old start log new ran =
    let agreed = ran-agrees Leaves start.first start.full old.limit start.allowed log new (rw start.same at ran) in
    agrees-run Leaves start.first start.full log agreed.acts new agreed.agrees
