-- What a row of links shows, and which link leads to a page.
use Rattle.std.specs.Prelude.{◌≡◌, ℕ, ◌+◌, ◌^◌, ◌<◌, List, Option, None, Some, slice_get}
use Rattle.std.specs.Option.{option_map}
use Rattle.std.specs.declared.alloc.Global.{Global}
use Rattle.once_cell.specs.Once.{cell_name}
use Rattle.page_chain.specs.declared.linear_page.directory.Row.{Row}

-- which cell a row that is known has at a place
abbrev pub cell_in_row : {T K O : Type 0} → Option (Row T K O) → ℕ → Option ℕ
cell_in_row None offset = None
cell_in_row (Some row) offset = option_map cell_name (slice_get row.links.items offset)

-- the link to a page, by its row's cell and its place there: row `b` begins with the link to page
-- `2 ^ b` and has as many links
pub record IsLinkTo (rows : List (Global × ℕ)) (number : ℕ) (link : ℕ × ℕ) : Type 0 where
  pub row_number : ℕ
  pub row : Global × ℕ
  pub is_row : slice_get rows row_number ≡ Some row
  pub of_row : link.0 ≡ cell_name row
  pub offset : 2 ^ row_number + link.1 ≡ number
  pub in_row : link.1 < 2 ^ row_number
