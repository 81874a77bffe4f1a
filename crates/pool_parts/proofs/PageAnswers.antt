-- What a page answers, told by what the answer shows and no longer by its user's view.
use Rattle.std.proofs.Common.{◌≡◌, List, [], ◌∷◌, ◌++◌, ℕ, ◌<◌, Option, refl, ap, sym, ◌∙◌, subst, append-nil}
use Rattle.atomic_table.specs.Seated.{TableId}
use Rattle.pool_parts.specs.declared.page.history.Operation.TheVariants.{Pull, Return}
use Rattle.pool_parts.specs.declared.page.user_view.UserView.{UserView}
use Rattle.pool_parts.specs.declared.page.note.PageNote.{PageNote}
use Rattle.pool_parts.specs.declared.page.full_seen.Allocated.{Allocated}
use Rattle.pool_parts.specs.declared.page.full_seen.Allocated.TheVariants.{Slot, Full}
use Rattle.pool_parts.specs.Item.{Item, SeenView, IsPulled}
use Rattle.pool_parts.specs.Page.{PageView, IsReturned, view_of}
use Rattle.pool_parts.specs.Ledger.{History, operations_of, IsLegal, IsPrefixOf, WasOutBetween}
use Rattle.pool_parts.specs.PageRule.{GoesOn, IsSound}
use Rattle.pool_parts.proofs.Views.{StartsFrom}
use Rattle.pool_parts.specs.Slot.{IsAllOut, IsFullPage, IsAnswerOf}
use Rattle.pool_parts.specs.declared.page.word.TheConstants.{PAGE_ITEMS}
use Rattle.pool_parts.proofs.Ledger.{legal_of, prefix_further, out_longer}
use Rattle.pool_parts.proofs.LedgerHolders.{spared_return}

module _ {T : Type 0} where
  -- an item as a user knows it that took it
  abbrev pub item_known : TableId → UserView T → ℕ → T → Item T
  item_known page known id value = record {
    page = page;
    opening = known.opening;
    id = id;
    value = value;
    holder = known.user;
    history = known.operations;
  }

  -- what was observed taken since a load, told of the user as it is now
  pub knows_out : (start known : UserView T) (id : ℕ) → GoesOn [] start known → IsPrefixOf start.at_load start.operations
      → WasOutBetween known.opening start.operations known.operations id → WasOutBetween known.opening known.at_load
      known.operations id
  knows_out start known id goes began was =
      subst (λ at_load. WasOutBetween known.opening at_load known.operations id) (sym goes.same_since)
      (out_longer known.opening start.at_load start.operations known.operations id began was)

  -- the user of a pull has acted since its load: the pull is the one operation more
  pub pulled : (page : TableId) (start known : UserView T) (seated : TableId) (id : ℕ) (value : T) → IsSound start
      → GoesOn (Pull known.user id value ∷ []) start known → seated ≡ page → id < page.slots
      → IsPulled page start (item_known seated known id value)
  pulled page start known seated id value sound goes of_page within = record {
    of_page = of_page;
    in_page = within;
    same_user = goes.same_user;
    same_opening = goes.same_opening;
    legal = goes.sound.legal;
    others = goes.operations.0;
    last = goes.operations.1;
    only = goes.sound.own_operations ∙ goes.own ∙ ap (λ own. Pull known.user id value ∷ own)
        (sym sound.own_operations ∙ ap (λ user. operations_of user start.operations) (sym goes.same_user));
  }

  -- and so it is of the user as it was before that load
  pub pulled_since : (page : TableId) (before start : UserView T) (item : Item T) → StartsFrom before start
      → IsSound start → IsPulled page start item → IsPulled page before item
  pulled_since page before start item starts sound is =
      let same_user = is.same_user ∙ starts.same_user in
      let further = prefix_further before.operations start.operations (is.others ++ start.operations)
      starts.after_known (is.others, refl) in
      let last : item.history ≡ Pull item.holder item.id item.value ∷ (further.0 ++ before.operations) =
      is.last ∙ ap (λ operations. Pull item.holder item.id item.value ∷ operations) further.1 in
      let own : operations_of item.holder start.operations ≡ operations_of item.holder before.operations =
      ap (λ user. operations_of user start.operations) is.same_user ∙ sound.own_operations ∙ starts.own_same
      ∙ sym starts.own_before ∙ ap (λ user. operations_of user before.operations) (sym same_user) in
      record {
        of_page = is.of_page;
        in_page = is.in_page;
        same_user = same_user;
        same_opening = is.same_opening ∙ starts.same_opening;
        legal = is.legal;
        others = further.0;
        last = last;
        only = is.only ∙ ap (λ operations. Pull item.holder item.id item.value ∷ operations) own;
      }

  -- what a call found that observed each of so many items taken, since its user stood here at its load
  pub found_out : (count : ℕ) (page : TableId) (start : UserView T) (seen : SeenView T) → seen.page ≡ page
      → start.at_load ≡ start.operations → GoesOn [] start seen.known
      → ((id : ℕ) → id < count → WasOutBetween seen.known.opening start.operations seen.known.operations id)
      → IsAllOut count page start seen
  found_out count page start seen of_page from_now goes each =
      let known = seen.known in
      let at_load = goes.same_since ∙ from_now in
      record {
        of_page = of_page;
        knows = record {
          same_user = goes.same_user;
          same_opening = goes.same_opening;
          legal = legal_of start.opening known goes.same_opening goes.sound;
          after_known = subst (IsPrefixOf start.operations) (sym at_load) ([], refl);
          goes_on = goes.sound.since_load;
        };
        each_was_out = λ id within.
            subst (λ (p : List (Option T) × History T). WasOutBetween p.0 p.1 known.operations id) (λ i.
            (goes.same_opening i, sym at_load i)) (each id within);
      }

  -- and so it is of the user as it was before that load
  pub out_since : (count : ℕ) (page : TableId) (before start : UserView T) (seen : SeenView T)
      → StartsFrom before start → IsAllOut count page start seen → IsAllOut count page before seen
  out_since count page before start seen starts is =
      let known = seen.known in
      let knew = is.knows in
      record {
        of_page = is.of_page;
        knows = record {
          same_user = knew.same_user ∙ starts.same_user;
          same_opening = knew.same_opening ∙ starts.same_opening;
          legal = subst (λ opening. IsLegal opening known.operations) starts.same_opening knew.legal;
          after_known = prefix_further before.operations start.operations known.at_load starts.after_known
              knew.after_known;
          goes_on = knew.goes_on;
        };
        each_was_out = λ id within.
            subst (λ opening. WasOutBetween opening known.at_load known.operations id) starts.same_opening
            (is.each_was_out id within);
      }

  -- whatever the user had known before, each item of the page was seen in use
  pub full_page : (page : TableId) (before : UserView T) (seen : SeenView T)
      → IsAllOut PAGE_ITEMS page before seen → IsFullPage page seen
  full_page page before seen is =
      let known = seen.known in
      let opened = sym is.knows.same_opening in
      record {
        of_page = is.of_page;
        knows = record {
          same_user = refl;
          same_opening = refl;
          legal = subst (λ opening. IsLegal opening known.operations) opened is.knows.legal;
          after_known = (known.at_load, sym (append-nil known.at_load));
          goes_on = is.knows.goes_on;
        };
        each_was_out = λ id within.
            subst (λ opening. WasOutBetween opening known.at_load known.operations id) opened
            (is.each_was_out id within);
      }

  -- a return: nobody was at the item since its pull
  pub returned : (page : TableId) (old new : UserView T) (note : PageNote T) (id : ℕ) (value : T) → view_of note.seat
      ≡ new
      → note.seat.table_id ≡ page → GoesOn (Return new.user id value ∷ []) old new
      → IsReturned (item_known page old id value) note
  returned page old new note id value is of_page went =
      let same : GoesOn (Return old.user id value ∷ []) old (view_of note.seat) =
      subst (λ (p : ℕ × UserView T). GoesOn (Return p.0 id value ∷ []) old p.1) (λ i.
      (went.same_user i, sym is i)) went in
      let spared = spared_return old (view_of note.seat) old.user id value refl same in
      record {
        of_page = of_page;
        same_opening = same.same_opening;
        same_user = same.same_user;
        legal = legal_of old.opening (view_of note.seat) same.same_opening same.sound;
        others = spared.0;
        last = spared.1;
        untouched = spared.2;
        only = ap (λ user. operations_of user (view_of note.seat).operations) (sym same.same_user)
            ∙ same.sound.own_operations
            ∙ same.own ∙ ap (λ own. Return old.user id value ∷ own) (sym same.own_before);
      }

module _ {T K : Type 0} where
  -- what a page answered to a user, told of the user as it was before its load
  pub answered_since : (meets : T → Type 0) (page : PageView T) (before start : UserView T) (answer : Allocated T K)
      → StartsFrom before start → IsSound start → IsAnswerOf meets page start answer
      → IsAnswerOf meets page before answer
  answered_since meets page before start (Slot slot) starts sound is =
      (is.0, pulled_since page.identity before start slot.item starts sound is.1, is.2)
  answered_since meets page before start (Full seen) starts sound is =
      out_since _ page.identity before start seen starts is
