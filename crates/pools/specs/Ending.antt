-- How the program ends, and what it says then.
use Rattle.std.specs.Prelude.{◌≡◌, ℕ, Option, List, [], Result, Ok, Err, codes}
use Rattle.object_pool_cores.specs.declared.engine.engine_error.EngineError.{EngineError}
use Rattle.object_pool_cores.specs.declared.engine.engine_error.EngineError.TheVariants.{Read, Write, Memory}
use Rattle.object_pool_cores.specs.declared.engine.kind.Kind.{Kind}
use Rattle.object_pool_cores.specs.declared.engine.kind.Reset.{Reset}
use Rattle.object_pool_cores.specs.Engine.{Ends, leaves_of}
use Rattle.pools.specs.Arguments.{AreArguments, AreOther}
use Rattle.pools.specs.declared.ending.Ending.{Ending}
use Rattle.pools.specs.declared.ending.Ending.TheVariants.{EndOfInput, OtherArguments, Stopped}

-- what stands on standard error
abbrev pub message_of : Ending → List ℕ
message_of EndOfInput = []
message_of OtherArguments = codes "usage: pools linear|stack|none zero|keep [PAGES]\n"
message_of (Stopped Read) = codes "pools: read failed\n"
message_of (Stopped Write) = codes "pools: write failed\n"
message_of (Stopped Memory) = codes "pools: out of memory\n"

-- the exit status
abbrev pub status_of : Ending → ℕ
status_of EndOfInput = 0
status_of OtherArguments = 2
status_of (Stopped error) = 1

module _ (words : List (List ℕ)) (unread rest before after : Option (List ℕ)) where
  -- the engine ended so, on the pool that the words ask for
  abbrev pub EngineEnds : Result (Unit {0}) EngineError → Type 0
  EngineEnds result = (kind : Kind) × (reset : Reset) × AreArguments words kind reset
      × Ends kind (leaves_of reset) result unread rest before after

  -- what the program read and wrote, by its ending
  abbrev pub Plays : Ending → Type 0
  Plays EndOfInput = EngineEnds (Ok tt)
  Plays OtherArguments = AreOther words × (rest ≡ unread) × (after ≡ before)
  Plays (Stopped error) = EngineEnds (Err error)
