-- The replies of commands: the fold of a pool's steps over
-- a list of commands, with the table of what is held.
use Rattle.std.specs.Prelude.{◌≡◌, ◌≢◌, ℕ, Option, Some, None, List, [], ◌∷◌, ◌++◌, length, slice_set, Result, Ok, Err}
use Rattle.std.specs.Prelude.{OnOk, OnErr, ⊤}
use Rattle.pool_parts.specs.declared.pull_error.PullError.{PullError}
use Rattle.object_pool_cores.specs.declared.sequential.item.Item.{Item}
use Rattle.object_pool_cores.specs.declared.sequential.attach_error.AttachError.{AttachError}
use Rattle.object_pool_cores.specs.declared.sequential.command.Command.{Command}
use Rattle.object_pool_cores.specs.declared.sequential.command.Command.TheVariants.{Pull, Write, Return, Forget, Attach}
use Rattle.object_pool_cores.specs.declared.sequential.reply.Reply.{Reply}
use Rattle.object_pool_cores.specs.declared.sequential.reply.Reply.TheVariants.{Pulled, Refused, Written, Returned}
use Rattle.object_pool_cores.specs.declared.sequential.reply.Reply.TheVariants.{Forgotten, Attached, AttachRefused}
use Rattle.object_pool_cores.specs.declared.sequential.reply.Reply.TheVariants.{NoSuchHolder}
use Rattle.pool_world.specs.declared.run_error.RunError.{RunError}
use Rattle.object_pool_cores.specs.Item.{item_number, with_value}
use Rattle.object_pool_cores.specs.Held.{Playing, held_at}

module _ {T : Type 0} where
  -- a pulled item is held at the next index; a refusal leaves the table
  abbrev AfterPull :
      List (Option (Item T)) → Result (Item T) PullError → Reply T → List (Option (Item T)) → Type 0
  AfterPull old (Ok item) reply new =
      (reply ≡ Pulled (length old) (item_number item)) × (new ≡ old ++ Some item ∷ [])
  AfterPull old (Err cause) reply new = (reply ≡ Refused cause) × (new ≡ old)

  -- an attached item is held at the next index; a refusal leaves the table
  abbrev AfterAttach :
      List (Option (Item T)) → Result (Item T) (AttachError T) → Reply T → List (Option (Item T)) → Type 0
  AfterAttach old (Ok item) reply new = (reply ≡ Attached (length old)) × (new ≡ old ++ Some item ∷ [])
  AfterAttach old (Err error) reply new = (reply ≡ AttachRefused error) × (new ≡ old)

  -- only a pull and an attach may take memory, for the table
  abbrev pub MayTakeMemory : Command T → Type 0
  MayTakeMemory Pull = ⊤
  MayTakeMemory (Attach value) = ⊤
  MayTakeMemory (Write index value) = ⊥
  MayTakeMemory (Return index) = ⊥
  MayTakeMemory (Forget index) = ⊥

module _ {P T : Type 0} (pulls : P → Result (Item T) PullError → P → Type 0) (gives : P → Item T → P → Type 0)
    (attaches : P → T → Result (Item T) (AttachError T) → P → Type 0) where
  -- the held value is replaced
  abbrev pub AfterWrite : Playing P T → ℕ → T → Option (Item T) → Reply T → Playing P T → Type 0
  AfterWrite old index value None reply new = (reply ≡ NoSuchHolder) × (new ≡ old)
  AfterWrite old index value (Some item) reply new =
      (reply ≡ Written)
      × (new ≡ record old { held = slice_set old.held index (Some (with_value item value)) })

  -- the held item goes back to the pool
  abbrev pub AfterReturn : Playing P T → ℕ → Option (Item T) → Reply T → Playing P T → Type 0
  AfterReturn old index None reply new = (reply ≡ NoSuchHolder) × (new ≡ old)
  AfterReturn old index (Some item) reply new =
      (reply ≡ Returned) × gives old.pool item new.pool × (new.held ≡ slice_set old.held index None)

  -- the held item leaves the table and is leaked: it doesn't go back
  abbrev pub AfterForget : Playing P T → ℕ → Option (Item T) → Reply T → Playing P T → Type 0
  AfterForget old index None reply new = (reply ≡ NoSuchHolder) × (new ≡ old)
  AfterForget old index (Some item) reply new =
      (reply ≡ Forgotten) × (new ≡ record old { held = slice_set old.held index None })

  -- one command, its reply, and what it makes of the pool and of the table
  abbrev pub Plays : Playing P T → Command T → Reply T → Playing P T → Type 0
  Plays old Pull reply new =
      (outcome : Result (Item T) PullError) × pulls old.pool outcome new.pool
      × AfterPull old.held outcome reply new.held
  Plays old (Write index value) reply new = AfterWrite old index value (held_at old.held index) reply new
  Plays old (Return index) reply new = AfterReturn old index (held_at old.held index) reply new
  Plays old (Forget index) reply new = AfterForget old index (held_at old.held index) reply new
  Plays old (Attach value) reply new =
      (outcome : Result (Item T) (AttachError T)) × attaches old.pool value outcome new.pool
      × AfterAttach old.held outcome reply new.held

  -- these commands have these replies, one after another
  abbrev pub Replies : Playing P T → List (Command T) → List (Reply T) → Playing P T → Type 0
  Replies old [] [] new = new ≡ old
  Replies old (command ∷ commands) (reply ∷ replies) new =
      (middle : Playing P T) × Plays old command reply middle × Replies middle commands replies new
  Replies old [] (reply ∷ replies) new = ⊥
  Replies old (command ∷ commands) [] new = ⊥

  -- the commands that were done are a prefix of all, and their replies come
  -- after those before; after Ok all are done, and after an error not all
  pub record Ran (old : Playing P T) (commands : List (Command T)) (before : List (Reply T))
      (result : Result (Unit {0}) RunError) (after : List (Reply T)) (new : Playing P T) : Type 0 where
    pub done : List (Command T)
    pub rest : List (Command T)
    pub replies : List (Reply T)
    pub begins : commands ≡ done ++ rest
    pub answers : after ≡ before ++ replies
    pub replied : Replies old done replies new
    pub whole : OnOk result (rest ≡ [])
    pub stopped : OnErr result (rest ≢ [])
