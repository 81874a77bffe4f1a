use Rattle.std.proofs.Common.{refl, subst, inl, inr}
use Rattle.fixed_pool_c.specs.Places.{PullsPlace, FindsNoPlace}
use Rattle.fixed_pool_c.proofs.open_cache.OpenCache.pull_further.Goals as goal

pub returns-in-Ok : goal.returns-in-Ok
returns-in-Ok c = record {
  same = record { same_pool = refl; same_tag = refl; same_room = refl };
  keeps_same = refl;
  answer = inl (
    refl,
    c.hold.ensures.tag,
    subst (PullsPlace c.hold.new.self) c.deref.ensures record {
      holding = c.in-Ok.item.holding;
      holds = c.hold.ensures.held;
      pulled = c.in-Ok.ensures.pulled.pulled;
      number = c.hold.ensures.number;
      steps = record { loads = c.in-Ok.ensures.pulled.loads; tries = c.in-Ok.ensures.pulled.tries };
    },
  );
}

pub returns-in-Err : goal.returns-in-Err
returns-in-Err c = record {
  same = record { same_pool = refl; same_tag = refl; same_room = refl };
  keeps_same = refl;
  answer = inr (
    refl,
    subst (FindsNoPlace c.keep.new.self) c.deref.ensures record {
      note = c.in-Err.note;
      left = ((c.keep.ensures.number, c.keep.ensures.held), c.keep.ensures.final_note);
      full = c.in-Err.ensures.full;
    },
  );
}
