-- How many pages a pull probes: it reads the word of each, once.
use Rattle.std.specs.Prelude.{◌≡◌, ℕ, ◌+◌, ◌-◌, ◌*◌, ◌/◌, ◌^◌, ◌≤◌, min, zero, suc}
use Rattle.pool_world.specs.Pool.{Pool, Place, Absent, Free, Out}
use Rattle.pool_parts.specs.declared.page.word.TheConstants.{PAGE_ITEMS}

-- one probe of each of so many pages; the count of probes stays at the greatest number of 64 bits
abbrev pub ProbesEach : ℕ → ℕ → ℕ → Type 0
ProbesEach pages before after = after ≡ min (before + pages) (2 ^ 64 - 1)

module _ {T : Type 0} where
  -- 1 for a number that is out, and 0 for each other
  abbrev pub one_if_out : Place T → ℕ
  one_if_out Absent = 0
  one_if_out (Free v) = 0
  one_if_out Out = 1

  -- how many of the numbers below n are out
  abbrev pub out_below : Pool T → ℕ → ℕ
  out_below pool zero = 0
  out_below pool (suc n) = out_below pool n + one_if_out (pool.at n)

  -- how many numbers are out, leaked ones too
  abbrev pub out_count : Pool T → ℕ
  out_count pool = out_below pool (PAGE_ITEMS * pool.pages)

  -- no more probes than pages that the numbers out fill, and one
  abbrev pub ProbesFew : Pool T → ℕ → ℕ → Type 0
  ProbesFew pool before after = (before ≤ after) × (after ≤ before + out_count pool / PAGE_ITEMS + 1)
