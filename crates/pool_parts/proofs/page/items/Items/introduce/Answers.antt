use Rattle.std.proofs.Common.{arith, ◌∙◌, ap}
use Rattle.pool_parts.proofs.PageSteps.{introduces, tells}
use Rattle.pool_parts.specs.PageRule.{User}
use Rattle.pool_parts.proofs.page.items.Items.introduce.Goals as goal

pub split_seat-introduction-requires : goal.split_seat-introduction-requires
split_seat-introduction-requires g c = (
  c.requires.one,
  omega (arith, c.args.self.now.covered, c.args.self.now.some_item),
  introduces _ _ _ _ _ c.requires.one_here,
)

pub join_seat-requires : goal.join_seat-requires
join_seat-requires g c =
    let split = c.split_seat-introduction.ensures in (
      c.requires.other,
      split.3 ∙ c.requires.one,
      ap (λ (me : User g.row.T.Denot). me.1) split.4,
      omega (arith, c.args.self.now.covered, c.args.self.now.some_item),
      tells _ _ _ _ _ _ _ c.requires.other_here,
    )
