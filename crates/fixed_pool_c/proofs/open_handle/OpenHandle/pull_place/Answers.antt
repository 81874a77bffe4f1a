-- That a pull fills an empty place with a number of the handle's pool and its tag, or leaves it the
-- note of a full pool. A place that isn't empty is refused.
use Rattle.std.proofs.Common.{refl, sym, ◌∙◌, subst, inl, inr}
use Rattle.fixed_pool_c.specs.Places.{PullsPlace, FindsNoPlace}
use Rattle.fixed_pool_c.proofs.Numbers.{no_permit}
use Rattle.fixed_pool_c.proofs.open_handle.OpenHandle.pull_place.Goals as goal

pub returns-then-place-ne0 : goal.returns-then-place-ne0
returns-then-place-ne0 c =
    inr (inr (inl (refl, refl, c.if-place-ne0.true)))

pub returns-in-Ok : goal.returns-in-Ok
returns-in-Ok c =
    let place = c.args.place.now in let owner = c.in-Some.ensures in
    inl (
      refl,
      (c.if-place-ne0.false, no_permit place.permit.held place.after place.numbered c.if-place-ne0.false),
      (c.args.self.now, refl, sym c.hold.ensures.tag),
      (
        c.args.self.now,
        owner.0,
        refl,
        owner.1,
        subst (PullsPlace c.hold.new.self) (c.deref.ensures ∙ owner.2) record {
          holding = c.in-Ok.item.holding;
          holds = c.hold.ensures.held;
          pulled = c.in-Ok.ensures.pulled.pulled;
          number = c.hold.ensures.number;
          steps = record { loads = c.in-Ok.ensures.pulled.loads; tries = c.in-Ok.ensures.pulled.tries };
        },
      ),
    )

pub returns-in-Err : goal.returns-in-Err
returns-in-Err c =
    let place = c.args.place.now in let owner = c.in-Some.ensures in
    inr (inl (
      refl,
      (c.if-place-ne0.false, no_permit place.permit.held place.after place.numbered c.if-place-ne0.false),
      (
        c.args.self.now,
        owner.0,
        refl,
        owner.1,
        subst (FindsNoPlace c.keep.new.self) (c.deref.ensures ∙ owner.2) record {
          note = c.in-Err.note;
          left = ((c.keep.ensures.number, c.keep.ensures.held), c.keep.ensures.final_note);
          full = c.in-Err.ensures.full;
        },
      ),
    ))
