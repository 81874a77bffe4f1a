-- What callers conclude from a pool's history.
use Rattle.std.proofs.Common.{◌≡◌, ◌⊎◌, ℕ, [], ◌∷◌, ◌++◌, sym, refl, ap, ◌∙◌, subst, inl, inr}
use Rattle.pool_parts.specs.declared.page.history.Operation.TheVariants.{Return}
use Rattle.pool_parts.specs.declared.page.user_view.UserView.{UserView}
use Rattle.lockfree_object_pool.specs.Item.{Item, IsPulled}
use Rattle.lockfree_object_pool.specs.Ledger.{pulled_from, History, id_of, NoOperationOn}
use Rattle.pool_parts.proofs.Ledger.{behind}
use Rattle.test_lockfree_object_pool.specs.Returned.{EndsWithReturnOf, HasOperationOn, WasReturnedBefore, WasUsedSince}

-- where no operation of a whole history is on an item, none of a prefix is
none_before : (id : ℕ) (later before : History ℕ) → NoOperationOn id (later ++ before) → NoOperationOn id before
none_before id [] before none = none
none_before id (operation ∷ later) before none = none_before id later before none.1

-- the number of a history's last operation
abbrev last_number : History ℕ → ℕ
last_number [] = 0
last_number (operation ∷ before) = id_of operation

-- the last return of a number stands in the later part of a history, or it is the one with which
-- the earlier part ends
last_return : (id : ℕ) (between later rest before : History ℕ) (user other number last : ℕ)
    → between ++ (Return user id number ∷ rest) ≡ later ++ (Return other id last ∷ before) → NoOperationOn id later
    → (last ≡ number) ⊎ HasOperationOn id between
last_return id [] [] rest before user other number last same none = let here : last ≡ number = cc in inl here
last_return id [] (operation ∷ later) rest before user other number last same none =
    absurd (none.0 (ap last_number (sym same)))
last_return id (operation ∷ between) [] rest before user other number last same none = inr (inl (ap last_number same))
last_return id (operation ∷ between) (one ∷ later) rest before user other number last same none =
    elim (last_return id between later rest before user other number last (ap behind same) none.1) [
      | inl here ↦ inl here
      | inr used ↦ inr (inr used)
    ]

module _ (number : ℕ) (page : _) (known : UserView ℕ) (item : Item ℕ) (first : item.id ≡ 0)
    (is : IsPulled page known item) (ends : EndsWithReturnOf 0 number known.operations) where
  returned : EndsWithReturnOf item.id number known.operations
  returned = subst (λ id. EndsWithReturnOf id number known.operations) (sym first) ends

  -- a pull of item 0, by a user that knows of a return of it, takes what a return left
  pub pulled_what_returned : WasReturnedBefore item
  pulled_what_returned = (
    is.others ++ known.operations,
    is.last,
    elim (pulled_from _ _ _ _ _ _ is.legal is.last) [
      | inl was ↦ was
      | inr opened ↦
          let none = none_before item.id is.others known.operations opened.0 in
          let here = subst (NoOperationOn item.id) returned.2 none in
          absurd (here.0 refl)
    ],
  )

  -- it takes what that return left, unless somebody had the item in between
  pub pulled_same_or_used : (item.value ≡ number) ⊎ WasUsedSince known.operations item
  unfolding pulled_what_returned
  pulled_same_or_used =
      let was = pulled_what_returned.2 in
      let same = ap (λ l. is.others ++ l) (sym returned.2) ∙ was.here in
      elim (last_return item.id is.others was.later returned.1 was.before returned.0 was.user number item.value same
      was.untouched) [
        | inl same ↦ inl same
        | inr used ↦ inr (is.others, is.last, used)
      ]
