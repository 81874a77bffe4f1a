-- That each round tells the note of one more return.
use Rattle.std.proofs.Common.{[], ◌∷◌, ◌++◌, sym, ap, ◌∙◌, subst, append_assoc}
use Rattle.std.specs.Prelude.{All}
use Rattle.std.proofs.lemmas.List.{nil_from_length}
use Rattle.std.proofs.lemmas.List.Elements.{All-cons}
use Rattle.pool_parts.specs.Ledger.{IsPrefixOf}
use Rattle.pool_parts.specs.Page.{view_of}
use Rattle.fixed_pool_c.specs.Caches.{IsReturnedIn}
use Rattle.fixed_pool_c.proofs.KeptPlaces.{still_returned}
use Rattle.fixed_pool_c.proofs.open_cache.OpenCache.flush.Goals as goal

pub loop-holding-preserved : goal.loop-holding-preserved
loop-holding-preserved c =
    let before = c.loop-holding.invariant in let told = c.tell.ensures in let holding = c.in-Some.holding in (
      record {
        same_pool = before.0.same_pool;
        same_tag = before.0.same_tag;
        same_room = c.in-Some.ensures.capacity ∙ before.0.same_room;
      },
      (
        holding ∷ before.1.0,
        before.1.1 ∙ ap (λ items. items ++ before.1.0) c.in-Some.ensures.items ∙ append_assoc _ (holding ∷ []) before.1.0,
        All-cons (IsReturnedIn c.tell.new.note) holding before.1.0 record {
          return = c.give-given.result;
          given_back = c.give-given.ensures;
          known = subst (λ history. IsPrefixOf history (view_of c.tell.new.note.seat).operations)
              c.into_witness.ensures.history told.from_told;
        } (still_returned c.loop-holding.self.note c.tell.new.note before.1.0 told.from_own before.1.2),
      ),
    )

pub returns-clause-returned : goal.returns-clause-returned
returns-clause-returned c =
    let before = c.loop-holding.invariant in
    let none = nil_from_length c.loop-holding.self.kept.items (sym c.loop-holding.self.kept.ok.0 ∙ c.in_default.ensures.cases.0) in
    subst (All (IsReturnedIn c.loop-holding.self.note))
    (sym (before.1.1 ∙ ap (λ items. items ++ before.1.0) none)) before.1.2
