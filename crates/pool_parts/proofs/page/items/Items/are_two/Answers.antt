use Rattle.std.proofs.Common.{◌∙◌, ap, sym, subst, Some}
use Rattle.pool_parts.specs.PageRule.{User, Meets}
use Rattle.pool_parts.proofs.Meetings.{two_items}
use Rattle.pool_parts.proofs.page.items.Items.are_two.Goals as goal
use Rattle.pool_parts.proofs.Views.{introduced_to}

pub returns-clause-differ : goal.returns-clause-differ
returns-clause-differ g c same =
    let one = c.args.one.now in
    let other = c.args.other.now in
    let back = subst (λ (me : User g.row.T.Denot). Meets
    (introduced_to c.introduce.new.other.me.0 me.0, me.1) c.introduce-2.new.other.me) c.introduce.ensures.one.1
    c.introduce-2.ensures.met in
    two_items one.seat.me other.seat.me c.meet.new.seat.me c.introduce.new.other.me c.introduce-2.new.other.me
    c.meet.ensures.met c.introduce.ensures.met back one.number one.holds (other.holds ∙ ap Some (sym same))
