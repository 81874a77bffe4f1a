-- Names for the users of all pages.
use Rattle.std.specs.Prelude.{ℕ, ◌+◌, zero, suc}

-- how many pairs of numbers stand on the diagonals before this one
abbrev pub diagonal : ℕ → ℕ
diagonal zero = 0
diagonal (suc n) = diagonal n + n + 1

-- a name for each user of each page: pairs are counted, diagonal after diagonal
abbrev pub pool_user : ℕ → ℕ → ℕ
pool_user page user = diagonal (page + user) + page
