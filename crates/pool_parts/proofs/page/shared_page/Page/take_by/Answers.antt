use Rattle.std.proofs.Common.{◌∙◌, ap, arith}
use Rattle.atomic_table.specs.Seated.{TableId}
use Rattle.pool_parts.proofs.PageAnswers.{found_out, knows_out}
use Rattle.pool_parts.proofs.page.shared_page.Page.take_by.Goals as goal

pub returns-in-None-clause-answer : goal.returns-in-None-clause-answer
returns-in-None-clause-answer g c =
    let missed = c.in-None.ensures.outcome in
    found_out _ _ _ _ (c.take_lowest.ensures.items ∙ c.requires.page) c.requires.from_now missed.goes_on
    (λ id within. missed.each_was_out id (omega arith) (omega arith))

pub invariant_of-result : goal.invariant_of-result
invariant_of-result g c =
    let missed = c.in-None.ensures.outcome in
    let sized = c.args.self.now.sized in
    let same = ap (λ (page : TableId). page.slots) (c.take_lowest.ensures.items ∙ c.requires.page) in
    ∣ (λ id within. knows_out c.args.seat.me.0 c.take_lowest.new.seat.me.0 id missed.goes_on
    c.requires.ready.sound.since_load (missed.each_was_out id (omega arith) (omega arith))) ∣₁
