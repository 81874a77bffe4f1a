use Rattle.std.proofs.Common.{◌≡◌, Some, sym, ap, ◌∙◌, subst}
use Rattle.std.specs.Prelude.{IfSome}
use Rattle.fixed_pool_c.specs.declared.place.Place.{Place}
use Rattle.fixed_pool_c.proofs.Numbers.{permit_number, less_one, one_holding}
use Rattle.fixed_pool_c.proofs.place.Place.take.Goals as goal

pub into_seat-requires : goal.into_seat-requires
into_seat-requires c =
    let had = c.requires c.if-self-tag.false c.if-self-eq0.false c.if-self-items.false in
    (had.0, ap (λ (place : Place). place.permit.held) c.replace-after.ensures.value ∙ had.1)

pub returns-clause-taken : goal.returns-clause-taken
returns-clause-taken c =
    let before = c.args.self.now in
    let same = c.replace-after.ensures.value in
    let had = c.requires c.if-self-tag.false c.if-self-eq0.false c.if-self-items.false in
    had.1 ∙ ap Some (sym (one_holding _ had.0
    (subst (λ held. IfSome held (λ holding. c.into_seat.result ≡ holding.seat))
    (ap (λ (place : Place). place.permit.held) same ∙ had.1) c.into_seat.ensures)
    (less_one _ _ (ap (λ (place : Place). place.after) same
    ∙ permit_number before.permit.held before.after had.0 before.numbered had.1))))
