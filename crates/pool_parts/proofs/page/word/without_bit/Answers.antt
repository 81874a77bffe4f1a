use Rattle.std.proofs.Common.{arith, ◌*◌, ◌^◌, ◌%◌}
use Rattle.std.specs.Int.{w32, bit_not}
use Rattle.std.proofs.lemmas.Nat.Bits.{bit_at_above, bit_at_and, bit_at_clear_same, bit_at_clear_other}
use Rattle.pool_parts.proofs.page.word.without_bit.Goals as goal

pub returns-clause-bits : goal.returns-clause-bits
returns-clause-bits c = record {
  clear = bit_at_clear_same w32 _ _ c.requires;
  others = λ i other. grind (
    arith,
    bit_at_clear_other w32 c.args.word c.args.id c.requires i,
    bit_at_above c.args.word 32 i,
    bit_at_and c.args.word (bit_not w32 (1 * 2 ^ c.args.id % 2 ^ 32)) i,
  );
}
