use Rattle.pool_parts.proofs.Views.{starts_new}
use Rattle.pool_parts.proofs.PageAnswers.{answered_since}
use Rattle.pool_parts.proofs.page.shared_page.Page.take.Goals as goal

pub returns-clause-answer : goal.returns-clause-answer
returns-clause-answer g c =
    let looked = c.look-word.ensures.found in
    answered_since _ _ _ _ _ (starts_new _ _ _ _ _ c.take_by.ensures.same_user looked) looked.sound
    c.take_by.ensures.answer
