use Rattle.std.specs.Int.{w32}
use Rattle.std.proofs.lemmas.Nat.Bits.{bit_at_set_same, bit_at_set_other}
use Rattle.pool_parts.proofs.page.word.with_bit.Goals as goal

pub returns-clause-bits : goal.returns-clause-bits
returns-clause-bits c =
    record { set = bit_at_set_same w32 _ _ c.requires; others = bit_at_set_other w32 _ _ c.requires }
