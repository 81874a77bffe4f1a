-- Runs: what agents do with a pool, one act after another. A run is a ledger whose users are the
-- agents, with openings, writes, growths and refusals beside it. As in a ledger, the last act
-- stands first.
use Rattle.std.specs.Prelude.{◌≡◌, ◌≢◌, ◌⊎◌, ℕ, ◌+◌, ◌*◌, ◌<◌, ◌≤◌, ◌==◌, nat_lt, if◌then◌else◌, Option, Some, None}
use Rattle.std.specs.Prelude.{List, [], ◌∷◌, ◌++◌, map, length, ⊤}
use Rattle.pool_parts.specs.declared.page.history.Operation.{Operation}
use Rattle.pool_parts.specs.declared.page.history.Operation.TheVariants.{Pull, Return}
use Rattle.pool_parts.specs.declared.page.word.TheConstants.{PAGE_ITEMS}
use Rattle.pool_parts.specs.declared.pull_error.PullError.{PullError}
use Rattle.pool_parts.specs.declared.pull_error.PullError.TheVariants.{Memory, Init, Limit, Closed}
use Rattle.pool_parts.specs.Ledger.{History, user_of, operations_of, held_id, value_at, MayFollow}
use Rattle.pool_world.specs.Pool.{Pool, Out, place_of, IsGrowth}

-- an agent opens, writes the value that it holds, does an operation of the ledger, grows the pool
-- by a page of values, or is refused
pub data Act (T : Type 0) : Type 0 where
  Opens : (agent : ℕ) → Act T
  Writes : (agent : ℕ) (value : T) → Act T
  Operates : (operation : Operation T) → Act T
  Grows : (agent : ℕ) (values : List T) → Act T
  Refused : (agent : ℕ) (cause : PullError) → Act T

module _ {T : Type 0} where
  -- the agent of an act
  abbrev pub agent_of : Act T → ℕ
  agent_of (Opens a) = a
  agent_of (Writes a value) = a
  agent_of (Operates operation) = user_of operation
  agent_of (Grows a values) = a
  agent_of (Refused a cause) = a

  -- the acts of one agent
  abbrev pub acts_of : ℕ → List (Act T) → List (Act T)
  acts_of a [] = []
  acts_of a (act ∷ acts) = if agent_of act == a then act ∷ acts_of a acts else acts_of a acts

  -- the ledger of a run: its pulls and returns
  abbrev pub ledger_of : List (Act T) → History T
  ledger_of [] = []
  ledger_of (Operates operation ∷ acts) = operation ∷ ledger_of acts
  ledger_of (_ ∷ acts) = ledger_of acts

  -- how many pages there are: the first, and one for each growth
  abbrev pub pages_of : List (Act T) → ℕ
  pages_of [] = 1
  pages_of (Grows a values ∷ acts) = pages_of acts + 1
  pages_of (_ ∷ acts) = pages_of acts

  -- the values with which these pages came, by their numbers
  abbrev pub made : List T → List (Act T) → List T
  made first [] = first
  made first (Grows a values ∷ acts) = made first acts ++ values
  made first (_ ∷ acts) = made first acts

  -- from these the ledger opens
  abbrev pub opened : List T → List (Act T) → List (Option T)
  opened first acts = map Some (made first acts)

  -- the pulls, returns and growths are a legal history of one pool that grows: each operation may
  -- follow those before it, from the values that have come by then, and each growth brings 32 values
  abbrev pub AreLegalActs : List T → List (Act T) → Type 0
  AreLegalActs first [] = ⊤
  AreLegalActs first (Operates operation ∷ acts) =
      MayFollow (opened first acts) (ledger_of acts) operation × AreLegalActs first acts
  AreLegalActs first (Grows a values ∷ acts) = (length values ≡ PAGE_ITEMS) × AreLegalActs first acts
  AreLegalActs first (_ ∷ acts) = AreLegalActs first acts

  -- the pool to which a run has led: a number of its pages is free with the value that the ledger
  -- says lies there, and out where nothing does
  abbrev pub pool_of : List T → List (Act T) → Pool T
  pool_of first acts = record {
    pages = pages_of acts;
    at = λ n. place_of
        (if nat_lt n (PAGE_ITEMS * pages_of acts) then Some (value_at (opened first acts) (ledger_of acts) n) else None);
  }

  -- an agent looks for a number while all that it did is to open and to grow the pool
  abbrev pub Looks : List (Act T) → Type 0
  Looks (Opens a ∷ []) = ⊤
  Looks (Grows a values ∷ before) = Looks before
  Looks _ = ⊥

  -- an agent holds a number from its pull to its return
  abbrev pub IsHolder : List (Act T) → ℕ → ℕ → Type 0
  IsHolder acts a n = held_id (operations_of a (ledger_of acts)) ≡ Some n

  -- of an agent's acts the value that it pulled or wrote last
  abbrev pub last_value : List (Act T) → Option T
  last_value [] = None
  last_value (Operates (Pull a n value) ∷ before) = Some value
  last_value (Writes a value ∷ before) = Some value
  last_value (_ ∷ before) = last_value before

  -- an agent holds a number with this value
  pub record Holds (acts : List (Act T)) (a n : ℕ) (value : T) : Type 0 where
    pub number : IsHolder acts a n
    pub has : last_value (acts_of a acts) ≡ Some value

  -- P was true of the pool at some place from the agent's opening to the last
  abbrev pub Since : List T → ℕ → (Pool T → Type 0) → List (Act T) → Type 0
  Since first a P [] = ⊥
  Since first a P (act ∷ acts) = P (pool_of first (act ∷ acts)) ⊎ ((act ≢ Opens a) × Since first a P acts)

  -- the agent saw the number taken: it was out at some place since the agent began
  abbrev pub SawTaken : List T → List (Act T) → ℕ → ℕ → Type 0
  SawTaken first acts a n = Since first a (λ pool. pool.at n ≡ Out) acts

  -- the agent saw each number of so many pages taken since it began
  abbrev pub SawPagesTaken : List T → List (Act T) → ℕ → ℕ → Type 0
  SawPagesTaken first acts a count = (n : ℕ) → n < PAGE_ITEMS * count → SawTaken first acts a n

module _ {T : Type 0} (Leaves : T → T → Type 0) (limit : Option ℕ) (first : List T) where
  -- an agent is refused for the limit where there are as many pages, and it saw each of their
  -- numbers taken
  abbrev pub MayRefuse : List (Act T) → ℕ → PullError → Type 0
  MayRefuse acts a Limit = (limit ≡ Some (pages_of acts)) × SawPagesTaken first acts a (pages_of acts)
  MayRefuse acts a Memory = ⊤
  MayRefuse acts a Init = ⊤
  MayRefuse acts a Closed = ⊥

  -- the act may come after these: an agent opens once and before all else, and writes where it holds
  -- a number. It pulls while it looks, and returns what reset leaves of its value, both as the ledger
  -- allows. It grows the pool or is refused while it looks
  abbrev pub MayCome : List (Act T) → Act T → Type 0
  MayCome acts (Opens a) = acts_of a acts ≡ []
  MayCome acts (Writes a value) = (n : ℕ) × IsHolder acts a n
  MayCome acts (Operates (Pull a n value)) =
      MayFollow (opened first acts) (ledger_of acts) (Pull a n value) × Looks (acts_of a acts)
  MayCome acts (Operates (Return a n kept)) =
      MayFollow (opened first acts) (ledger_of acts) (Return a n kept)
      × ((value : T) × (last_value (acts_of a acts) ≡ Some value) × Leaves value kept)
  MayCome acts (Grows a values) = Looks (acts_of a acts) × IsGrowth limit (pages_of acts) values
  MayCome acts (Refused a cause) = Looks (acts_of a acts) × MayRefuse acts a cause

  -- the acts are a run: each may come after those before it
  abbrev pub Run : List (Act T) → Type 0
  Run [] = ⊤
  Run (act ∷ acts) = MayCome acts act × Run acts

module _ {T : Type 0} (first : List T) where
  -- what an agent had seen taken before it grew the pool; and before it was refused, of as many pages
  -- as there were at some place since it began
  abbrev pub SawTakenBefore : List (Act T) → Act T → Type 0
  SawTakenBefore acts (Grows a values) = SawPagesTaken first acts a (pages_of acts)
  SawTakenBefore acts (Refused a cause) =
      (count : ℕ) × (1 ≤ count) × SawPagesTaken first acts a count × Since first a (λ pool. pool.pages ≡ count) acts
  SawTakenBefore acts _ = ⊤

  -- so it was at each growth and each refusal
  abbrev pub SawTakenBeforeEach : List (Act T) → Type 0
  SawTakenBeforeEach [] = ⊤
  SawTakenBeforeEach (act ∷ acts) = SawTakenBefore acts act × SawTakenBeforeEach acts

  -- each number that is out has one holder, and each other number none
  pub record HasHolders (acts : List (Act T)) : Type 0 where
    pub some : (n : ℕ) → (pool_of first acts).at n ≡ Out → (a : ℕ) × (value : T) × Holds acts a n value
    pub out : (n a : ℕ) → IsHolder acts a n → (pool_of first acts).at n ≡ Out
    pub one : (n a b : ℕ) → IsHolder acts a n → IsHolder acts b n → a ≡ b

-- P is true after each beginning of these acts
abbrev pub AtEachPlace : {T : Type 0} → (List (Act T) → Type 0) → List (Act T) → Type 0
AtEachPlace P [] = P []
AtEachPlace P (act ∷ acts) = P (act ∷ acts) × AtEachPlace P acts
