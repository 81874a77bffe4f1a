use Rattle.std.specs.Int.{w32}
use Rattle.std.proofs.Common.{arith}
use Rattle.std.proofs.lemmas.Nat.Bits.{bit_at-trailing_zeros}
use Rattle.pool_parts.proofs.WordBits.{clears_least}
use Rattle.pool_parts.proofs.page.word.take_least.Goals as goal

pub returns-clause-least : goal.returns-clause-least
returns-clause-least c =
    let least = bit_at-trailing_zeros w32 c.args.word (omega arith) (omega arith) in
    record { in_page = least.0; set = least.1; lowest = least.2 }

pub returns-clause-rest : goal.returns-clause-rest
returns-clause-rest c =
    let least = bit_at-trailing_zeros w32 c.args.word (omega arith) (omega arith) in
    clears_least _ _ least.1 least.2
