use Rattle.pool_parts.proofs.Views.{starts_from}
use Rattle.pool_parts.proofs.PageAnswers.{answered_since}
use Rattle.pool_parts.proofs.page.shared_page.Page.take_from.Goals as goal

pub returns-clause-answer : goal.returns-clause-answer
returns-clause-answer g c =
    answered_since _ _ _ _ _ (starts_from _ _ _ _ c.look_again-word.ensures.found) c.look_again-word.ensures.found.sound
    c.take_by.ensures.answer
