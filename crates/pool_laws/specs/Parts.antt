-- Acts on a pool that grows, as steps on its pages.
use Rattle.std.specs.Prelude.{◌≡◌, ◌/◌, ◌%◌, List, [], ◌∷◌}
use Rattle.pool_parts.specs.declared.page.history.Operation.{Operation}
use Rattle.pool_parts.specs.declared.page.history.Operation.TheVariants.{Pull, Return}
use Rattle.pool_parts.specs.declared.page.word.TheConstants.{PAGE_ITEMS}
use Rattle.pool_world.specs.Run.{Act, Operates, Grows, ledger_of, made}
use Rattle.pool_laws.specs.Steps.{Step, Links, OnPage, merged}

module _ {T : Type 0} where
  -- an operation on the pool, as one on the page of its number, by the same user
  abbrev pub on_page : Operation T → Step T
  on_page (Pull user n value) = OnPage (n / PAGE_ITEMS) (Pull user (n % PAGE_ITEMS) value)
  on_page (Return user n value) = OnPage (n / PAGE_ITEMS) (Return user (n % PAGE_ITEMS) value)

  -- the growths and operations of acts on the pool, as steps on its pages
  abbrev pub parted : List (Act T) → List (Step T)
  parted [] = []
  parted (Operates operation ∷ acts) = on_page operation ∷ parted acts
  parted (Grows agent values ∷ acts) = Links agent values ∷ parted acts
  parted (_ ∷ acts) = parted acts

  -- the parts, merged again with each user under its own number, are the same values and the same operations
  pub record MergeAgain (first : List T) (acts : List (Act T)) : Type 0 where
    pub values : made first (merged (λ page user. user) (parted acts)) ≡ made first acts
    pub operations : ledger_of (merged (λ page user. user) (parted acts)) ≡ ledger_of acts
