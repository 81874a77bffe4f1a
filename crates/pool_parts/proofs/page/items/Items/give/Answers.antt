use Rattle.std.proofs.Common.{arith, ◌∙◌}
use Rattle.pool_parts.proofs.PageSteps.{gives_back}
use Rattle.pool_parts.proofs.page.items.Items.give.Goals as goal

pub fetch_add-word-requires : goal.fetch_add-word-requires
fetch_add-word-requires g c = (
  c.exchange.ensures.0 ∙ c.requires.items,
  omega (arith, c.args.self.now.covered, c.requires.in_items),
  gives_back _ _ _ _ _ c.with_bit-bit.result _ c.args.holding.number _ _ c.args.value c.requires.in_items
      (omega arith) (omega (arith, c.requires.raise.0, c.requires.raise.1))
      (omega (arith, c.requires.raise.0, c.requires.raise.1)) c.with_bit-bit.ensures.bits c.args.holding.holds
      c.args.holding.here c.args.holding.carries
      c.exchange.ensures.3 c.requires.meets,
)
