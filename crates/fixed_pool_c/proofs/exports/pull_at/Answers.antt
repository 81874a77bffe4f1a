-- That a pull by a handle without a place takes one of its pool, or finds the pool full and keeps
-- the note of that. A handle that holds a place keeps it.
use Rattle.std.proofs.Common.{Some, refl, sym, ap, ◌∙◌, inl, inr}
use Rattle.fixed_pool_c.specs.declared.open_handle.OpenHandle.{OpenHandle}
use Rattle.fixed_pool_c.proofs.exports.pull_at.Goals as goal

pub returns-in-Some-Full : goal.returns-in-Some-Full
returns-in-Some-Full c =
    let had = ap (λ (held : OpenHandle). held.state) (sym c.deref_mut.ensures.value) ∙ sym c.take.ensures.value
    ∙ c.in-Some-Full.is ∙ ap Some c.in-Some-Full.field-0-is in
    let kept = c.hold.ensures in
    inr (inr (inl (
      refl,
      refl,
      (
        c.args.held.value,
        kept.0,
        refl,
        kept.1,
        kept.2 ∙ ap (λ (held : OpenHandle). held.tag) c.deref_mut.ensures.value,
        record {
          out = c.in-Some-Full.out;
          held_one =
              had;
          holds_same = kept.3;
        },
      ),
    )))

pub returns-in-Ok : goal.returns-in-Ok
returns-in-Ok c =
    let had = ap (λ (held : OpenHandle). held.state) (sym c.deref_mut.ensures.value) ∙ sym c.take.ensures.value
    ∙ c.in-Some-Empty.is ∙ ap Some c.in-Some-Empty.field-0-is in
    let kept = c.hold-in-Ok.ensures in
    let pulled = c.in-Ok.ensures in
    inl (
      refl,
      (
        c.args.held.value,
        kept.0,
        refl,
        kept.1,
        kept.2 ∙ ap (λ (held : OpenHandle). held.tag) c.deref_mut-in-Ok.ensures.value
            ∙ ap (λ (held : OpenHandle). held.tag) c.deref_mut.ensures.value,
        record {
          idle = c.in-Some-Empty.field-0-0;
          held_none = had;
          out = c.in-Ok.out;
          holds = kept.3;
          same_pool = pulled.pool;
          pulled = pulled.pulled.pulled;
          number = c.number.ensures.value;
          steps = record { loads = pulled.pulled.loads; tries = pulled.pulled.tries };
        },
      ),
    )

pub returns-in-Err : goal.returns-in-Err
returns-in-Err c =
    let had = ap (λ (held : OpenHandle). held.state) (sym c.deref_mut.ensures.value) ∙ sym c.take.ensures.value
    ∙ c.in-Some-Empty.is ∙ ap Some c.in-Some-Empty.field-0-is in
    let kept = c.hold-in-Err.ensures in
    let refused = c.in-Err.ensures in
    inr (inl (
      refl,
      refl,
      (
        c.args.held.value,
        kept.0,
        refl,
        kept.1,
        kept.2 ∙ ap (λ (held : OpenHandle). held.tag) c.deref_mut.ensures.value,
        record {
          idle = c.in-Some-Empty.field-0-0;
          held_none = had;
          later = _;
          holds_none = kept.3;
          same_pool = refused.same_owner;
          full = refused.full;
        },
      ),
    ))
