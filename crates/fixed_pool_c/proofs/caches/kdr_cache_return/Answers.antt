-- That a place which the cache has no room for is returned to its pool.
use Rattle.std.proofs.Common.{Some, sym, ap, ◌∙◌, subst, inl, inr}
use Rattle.std.specs.Prelude.{IfSome}
use Rattle.fixed_pool_c.specs.Caches.{IsOwedTo}
use Rattle.fixed_pool_c.proofs.caches.kdr_cache_return.Goals as goal

pub keep-requires : goal.keep-requires
keep-requires c =
    subst (λ held. IsOwedTo c.args.place.now held) (sym c.deref_mut.ensures.value)
    (subst (λ held. IfSome held (IsOwedTo c.args.place.now)) c.in-Some.ensures.taken c.requires)

pub returns-in-Ok : goal.returns-in-Ok
returns-in-Ok c =
    inl (
      c.deref_mut.result.now,
      c.keep.new.self,
      c.in-Some.ensures.taken ∙ ap Some (sym c.deref_mut.ensures.value),
      c.put.ensures,
      c.in-Ok.ensures.same,
      inl c.in-Ok.ensures.answer,
    )

pub returns-in-Err : goal.returns-in-Err
returns-in-Err c =
    let beyond = c.in-Err.ensures.no_room in let back = c.give_back.ensures in
    inl (
      c.deref_mut.result.now,
      c.keep.new.self,
      c.in-Some.ensures.taken ∙ ap Some (sym c.deref_mut.ensures.value),
      back.same,
      c.in-Err.ensures.same,
      inr (
        back.done,
        record {
          has_none = beyond.has_none;
          keeps_same = beyond.keeps_same;
          returned = record {
            holding = c.in-Err.holding;
            held_one = beyond.held_one;
            of_pool = beyond.of_pool.0;
            note = back.returned.0;
            left = back.returned.1;
            given_back = back.returned.2;
          };
        },
      ),
    )
