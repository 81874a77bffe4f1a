use Rattle.std.proofs.Common.{Some, sym, ap, ◌∙◌, subst}
use Rattle.fixed_pool_c.specs.Places.{IsPlaceReturnAnswer}
use Rattle.fixed_pool_c.proofs.places.kdr_place_return.Goals as goal

pub returns-clause-answer : goal.returns-clause-answer
returns-clause-answer c =
    subst (λ held. IsPlaceReturnAnswer c.return_place-answer.result held c.args.place.now
    c.return_place-answer.new.place)
    (ap Some c.deref.ensures ∙ sym c.in-Some.ensures.taken) c.return_place-answer.ensures
