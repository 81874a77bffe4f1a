use Rattle.std.proofs.Common.{Some}
use Rattle.pool_parts.specs.Item.{IsFilled}
use Rattle.pool_parts.proofs.page.items.Items.make_items.Given as goal

abbrev pub invariant-loop : goal.invariant-loop
invariant-loop g l = record {
  meet : IsFilled l.counter g.K.Clean.meets l.items.items;
  answers : IsFilled l.counter (λ made. g.I.Fn.post l.fn.init tt (Some made)) l.items.items;
}
