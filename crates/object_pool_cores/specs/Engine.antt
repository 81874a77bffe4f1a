-- What an engine read and wrote: the replies of its commands on a new pool of numbers. Begin with
-- `Ends`, at the end.
use Rattle.std.specs.Prelude.{◌≡◌, ◌≤◌, ℕ, Option, Some, None, List, [], Result, Err, OnOk, replicate, ⊤}
use Rattle.std.specs.Io.KnownBytes.{Appends, Consumes, IsAtEnd}
use Rattle.pool_parts.specs.declared.pull_error.PullError.{PullError}
use Rattle.pool_parts.specs.declared.page.word.TheConstants.{PAGE_ITEMS}
use Rattle.object_pool_cores.specs.declared.engine.engine_error.EngineError.{EngineError}
use Rattle.object_pool_cores.specs.declared.engine.engine_error.EngineError.TheVariants.{Read, Write, Memory}
use Rattle.object_pool_cores.specs.declared.engine.kind.Kind.{Kind}
use Rattle.object_pool_cores.specs.declared.engine.kind.Kind.TheVariants as kind
use Rattle.object_pool_cores.specs.declared.engine.kind.Reset.{Reset}
use Rattle.object_pool_cores.specs.declared.engine.kind.Reset.TheVariants.{Zero, Keep}
use Rattle.object_pool_cores.specs.declared.sequential.item.Item.{Item}
use Rattle.object_pool_cores.specs.declared.sequential.attach_error.AttachError.{AttachError}
use Rattle.object_pool_cores.specs.Attach.{RefusesAttach}
use Rattle.object_pool_cores.specs.Fresh.{PullsFresh}
use Rattle.object_pool_cores.specs.Held.{Playing}
use Rattle.object_pool_cores.specs.LastIn.{PullsLast, ReturnsLast, AttachesLast}
use Rattle.object_pool_cores.specs.LeastChoice.{PullsItem, ReturnsItem}
use Rattle.pool_world.specs.Pool.{Pool, IsSame, opening}
use Rattle.object_pool_cores.specs.Served.{ServesLines, ServesAllLines, ServesFrontLines, StopsWriting}

-- a limit is of 1 page or more
abbrev pub IsPlayable : Kind → Type 0
IsPlayable kind.Linear = ⊤
IsPlayable (kind.Bounded pages) = 1 ≤ pages
IsPlayable kind.Stack = ⊤
IsPlayable kind.None = ⊤

-- a linear pool, within a limit where there is one
abbrev pub linear_kind : Option ℕ → Kind
linear_kind None = kind.Linear
linear_kind (Some pages) = kind.Bounded pages

-- what a return leaves of a value
abbrev pub leaves_of : Reset → ℕ → ℕ → Type 0
leaves_of Zero old new = new ≡ 0
leaves_of Keep old new = new ≡ old

-- each item is made as 0
abbrev pub makes_zero : Option ℕ → Type 0
makes_zero answer = answer ≡ Some 0

-- a statement about the three steps of a pool, and about the pool and the table with which a play
-- begins
abbrev pub Telling : Type 1
Telling = (P : Type 0) → (P → Result (Item ℕ) PullError → P → Type 0) → (P → Item ℕ → P → Type 0)
    → (P → ℕ → Result (Item ℕ) (AttachError ℕ) → P → Type 0) → Playing P ℕ → Type 0

module _ (leaves : ℕ → ℕ → Type 0) where
  -- the statement holds of a linear pool within a limit, which begins with a page of zeros: its
  -- pulls are by least choice
  abbrev pub OnLinear : Option ℕ → Telling → Type 0
  OnLinear limit tells = (pool : Pool ℕ) × IsSame pool (opening (replicate PAGE_ITEMS 0))
      × tells (Pool ℕ) (PullsItem limit makes_zero) (ReturnsItem leaves) RefusesAttach
      (record { pool = pool; held = [] })

  -- the statement holds of the pool of a kind: the stack begins with nothing kept, and without a
  -- pool each item is fresh
  abbrev pub OnKind : Kind → Telling → Type 0
  OnKind kind.Linear tells = OnLinear None tells
  OnKind (kind.Bounded pages) tells = OnLinear (Some pages) tells
  OnKind kind.Stack tells = tells (List ℕ) (PullsLast makes_zero) (ReturnsLast leaves) AttachesLast
      (record { pool = []; held = [] })
  OnKind kind.None tells = tells (Unit {0}) (λ old answer new. PullsFresh makes_zero answer)
      (λ old item new. ⊤) RefusesAttach (record { pool = tt; held = [] })

module _ (before : Option (List ℕ)) (bytes : List ℕ) (after : Option (List ℕ)) where
  -- the replies to all lines of the bytes were written, a last one without a line feed too
  abbrev pub tells_all : Telling
  tells_all P pulls gives attaches first = ServesAllLines pulls gives attaches Appends first before bytes after

  -- the replies to the lines whose line feed is in the bytes were written
  abbrev pub tells_lines : Telling
  tells_lines P pulls gives attaches first =
      (rest : List ℕ) × (last : Playing P ℕ)
      × ServesLines pulls gives attaches Appends first before bytes rest last after

  -- the replies to the lines of a prefix of the bytes were written
  abbrev pub tells_front : Telling
  tells_front P pulls gives attaches first = ServesFrontLines pulls gives attaches Appends first before bytes after

  -- a prefix of the replies to the lines whose line feed is in a prefix of the bytes was written, or,
  -- only where all was read, to all lines
  abbrev pub tells_part : Type 0 → Telling
  tells_part all_read P pulls gives attaches first =
      StopsWriting pulls gives attaches all_read first before bytes after

-- what an engine read and wrote, by how it ended
pub record Ends (kind : Kind) (leaves : ℕ → ℕ → Type 0) (result : Result (Unit {0}) EngineError)
    (unread rest before after : Option (List ℕ)) : Type 0 where
  pub ok : OnOk result ((bytes : List ℕ) × Consumes unread rest bytes × IsAtEnd rest
      × OnKind leaves kind (tells_all before bytes after))
  pub read : result ≡ Err Read → (bytes : List ℕ) × Consumes unread rest bytes
      × OnKind leaves kind (tells_lines before bytes after)
  pub write : result ≡ Err Write → (bytes : List ℕ) × Consumes unread rest bytes
      × OnKind leaves kind (tells_part before bytes after (IsAtEnd rest))
  pub memory : result ≡ Err Memory → (bytes : List ℕ) × Consumes unread rest bytes
      × OnKind leaves kind (tells_front before bytes after)
