use Rattle.std.proofs.Common.{Some, refl, sym, ap, ◌∙◌, subst, inl}
use Rattle.fixed_pool_c.specs.Answers.{LeavesNone}
use Rattle.fixed_pool_c.specs.declared.open_handle.OpenHandle.{OpenHandle}
use Rattle.fixed_pool_c.proofs.exports.kdr_pool_drop.Goals as goal

pub returns-in-Some-Full : goal.returns-in-Some-Full
returns-in-Some-Full c =
    let had = ap (λ (held : OpenHandle). held.state) c.into_inner-tag.ensures in
    inl (
      refl,
      c.close.ensures.empty,
      (
        c.in-Some.held.value,
        c.in-Some.ensures.taken,
        subst (λ state. LeavesNone state c.close.new.self.final_note)
            (sym (c.in-Some-Full.is ∙ ap Some c.in-Some-Full.field-0-is) ∙ had)
            (c.give_back-note.result, c.close.ensures.final_note, c.give_back-note.ensures),
      ),
    )
