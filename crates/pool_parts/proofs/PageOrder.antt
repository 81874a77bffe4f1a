-- What stands before what in a page's history, for callers.
use Rattle.std.proofs.Common.{◌∷◌}
use Rattle.pool_parts.specs.declared.page.history.Operation.TheVariants.{Pull, Return}
use Rattle.atomic_table.specs.Seated.{TableId}
use Rattle.pool_parts.specs.declared.page.note.PageNote.{PageNote}
use Rattle.pool_parts.specs.declared.page.user_view.UserView.{UserView}
use Rattle.pool_parts.specs.Item.{Item, IsPulled}
use Rattle.pool_parts.specs.Page.{IsReturned, view_of}
use Rattle.pool_parts.specs.Ledger.{IsPrefixOf}

module _ {T : Type 0} where
  -- a pull stands after all that its user knew before
  pub pull_is_later : (page : TableId) (before : UserView T) (item : Item T) → IsPulled page before item
      → IsPrefixOf before.operations item.history
  pull_is_later page before item is = (Pull item.holder item.id item.value ∷ is.others, is.last)

  -- a return stands after all that the item's holder knew
  pub return_is_later : (item : Item T) (note : PageNote T) → IsReturned item note
      → IsPrefixOf item.history (view_of note.seat).operations
  return_is_later item note is = (Return item.holder item.id item.value ∷ is.others, is.last)
