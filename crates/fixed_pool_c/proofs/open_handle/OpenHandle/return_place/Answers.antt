-- That a place with the tag of the handle's pool, and with one of its numbers, has its permit, and
-- is returned and left empty. Any other place is refused, and stays as it was.
use Rattle.std.proofs.Common.{◌≡◌, ◌≤◌, refl, sym, ap, ◌∙◌, subst, inl, inr}
use Rattle.std.specs.Prelude.{IfSome}
use Rattle.fixed_pools.specs.FixedPool.{fixed_view}
use Rattle.fixed_pool_c.specs.Places.{ReturnsPlace}
use Rattle.fixed_pool_c.specs.Refusals.{IsRefusal}
use Rattle.fixed_pool_c.specs.Shows.{PlacePool, state_pool}
use Rattle.fixed_pool_c.proofs.Numbers.{owed_at, not_empty}
use Rattle.fixed_pool_c.proofs.open_handle.OpenHandle.return_place.Goals as goal

pub take-requires : goal.take-requires
take-requires c tags some within =
    let place = c.args.place.now in let owner = c.in-Some.ensures in
    let items = c.items.ensures ∙ ap (λ (pool : PlacePool). (fixed_view pool).items) (c.deref.ensures ∙ owner.2) in
    let owed = owed_at place c.args.self.now owner.0 c.requires owner.1 tags some
    (subst (λ count. place.after ≤ count) items within) in
    (owed.0, owed.1)

pub returns-in-Ok : goal.returns-in-Ok
returns-in-Ok c =
    let place = c.args.place.now in let owner = c.in-Some.ensures in let had = c.in-Ok in
    let same = c.deref-in-Ok.ensures ∙ owner.2 in
    let items = c.items.ensures ∙ ap (λ (pool : PlacePool). (fixed_view pool).items) (c.deref.ensures ∙ owner.2) in
    let owed = owed_at place c.args.self.now owner.0 c.requires owner.1 had.ensures.tag
    (not_empty _ _ had.ensures.number) (subst (λ count. place.after ≤ count) items had.ensures.in_pool) in
    inl (
      refl,
      (
        c.args.self.now,
        owner.0,
        refl,
        owner.1,
        subst (ReturnsPlace place c.keep.new.self) same record {
          holding = had.holding;
          held_one = had.ensures.taken;
          of_pool = subst (λ permit. IfSome permit (λ holding.
              holding.seat.table_id ≡ (fixed_view (state_pool owner.0)).identity)) (sym owed.1 ∙ had.ensures.taken) owed.2
              ∙ ap (λ (pool : PlacePool). (fixed_view pool).identity) (sym same);
          note = c.give.result;
          left = ((c.keep.ensures.number, c.keep.ensures.held), c.keep.ensures.final_note);
          given_back = c.give.ensures;
        },
      ),
    )

pub returns-in-Err : goal.returns-in-Err
returns-in-Err c =
    let place = c.args.place.now in let owner = c.in-Some.ensures in
    let items = c.items.ensures ∙ ap (λ (pool : PlacePool). (fixed_view pool).items) (c.deref.ensures ∙ owner.2) in
    inr (inr (
      c.in-Err.ensures.same,
      (
        c.args.self.now,
        owner.0,
        refl,
        owner.1,
        subst (λ count. IsRefusal c.in-Err.answer c.args.self.now.tag count place) items c.in-Err.ensures.refused,
      ),
    ))
