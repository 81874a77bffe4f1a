-- That a handle which holds no place stays as it was, and that one which holds a place holds none
-- after the return, which is the last operation that it knows.
use Rattle.std.proofs.Common.{Some, refl, sym, ap, ◌∙◌, inl, inr}
use Rattle.std.specs.Arc.{arc_value}
use Rattle.fixed_pool_c.specs.declared.open_handle.OpenHandle.{OpenHandle}
use Rattle.fixed_pool_c.proofs.exports.kdr_pool_return.Goals as goal

pub returns-in-Some-Empty : goal.returns-in-Some-Empty
returns-in-Some-Empty c =
    let had = ap (λ (held : OpenHandle). held.state) (sym c.deref_mut.ensures.value) ∙ sym c.take-2.ensures.value
    ∙ c.in-Some-Empty.is ∙ ap Some c.in-Some-Empty.field-0-is in
    let kept = c.hold.ensures in
    inr (inl (
      refl,
      (
        c.in-Some.held.value,
        kept.0,
        c.in-Some.ensures.taken,
        kept.1,
        kept.2 ∙ ap (λ (held : OpenHandle). held.tag) c.deref_mut.ensures.value,
        record {
          idle =
              c.in-Some-Empty.idle;
          held_none = had;
          holds_none = kept.3;
        },
      ),
    ))

pub returns-in-Some-Full : goal.returns-in-Some-Full
returns-in-Some-Full c =
    let had = ap (λ (held : OpenHandle). held.state) (sym c.deref_mut.ensures.value) ∙ sym c.take-2.ensures.value
    ∙ c.in-Some-Full.is ∙ ap Some c.in-Some-Full.field-0-is in
    let kept = c.hold-in-Some-Full.ensures in
    let given = c.give_back_with_owner-pool.ensures in
    inl (
      refl,
      (
        c.in-Some.held.value,
        kept.0,
        c.in-Some.ensures.taken,
        kept.1,
        kept.2 ∙ ap (λ (held : OpenHandle). held.tag) c.deref_mut.ensures.value,
        record {
          out = c.in-Some-Full.out;
          held_one = had;
          idle = _;
          holds_none = kept.3;
          same_pool = ap arc_value given.owner;
          given_back = given.given_back;
        },
      ),
    )
