-- How far an agent is that looks: each of its steps counts, and its page.
use Rattle.std.specs.Prelude.{◌≡◌, ℕ, ◌+◌, ◌*◌, ◌≤◌, nat_lt, if◌then◌else◌, Option, Some, None}
use Rattle.std.specs.Int.{w32, trailing_zeros}
use Rattle.pool_world.specs.declared.interleave.point.Point.{Point}
use Rattle.pool_world.specs.declared.interleave.point.Point.TheVariants.{Reading, Clearing, AtLink}
use Rattle.pool_world.specs.declared.interleave.point.Point.TheVariants.{ClearingHinted, Making, Linking}

-- the steps on a page further on to which a hint led, as far as they came beforehand
abbrev pub taken_early : Option ℕ → ℕ → ℕ
taken_early None k = 0
taken_early (Some hint) k = if nat_lt k hint then 33 else 0

-- how far an agent is at the link of page k by its page, before a hint and after
abbrev pub link_position : ℕ → Option ℕ → ℕ
link_position k None = 69 * k + 33
link_position k (Some hint) = 69 * k + 66

module _ {T : Type 0} where
  -- how far an agent is that looks: 36 for each page before this one, and
  -- what it did on this one and on the one further on that a hint named
  abbrev pub progress : Point T → Option ℕ
  progress (Reading k asked) = Some (36 * k + taken_early asked k)
  progress (Clearing k mask asked) = Some (36 * k + 1 + trailing_zeros w32 mask + taken_early asked k)
  progress (AtLink k asked) = Some (36 * k + 33 + taken_early asked k)
  progress (ClearingHinted hint mask) = Some (34 + trailing_zeros w32 mask)
  progress (Making k) = Some (36 * k + 34)
  progress (Linking k values) = Some (36 * k + 35)
  progress _ = None

  -- how far it is by its page: room for a page that a hint names is left at each
  abbrev pub position : Point T → Option ℕ
  position (Reading k asked) = Some (69 * k)
  position (Clearing k mask asked) = Some (69 * k + 1 + trailing_zeros w32 mask)
  position (AtLink k asked) = Some (link_position k asked)
  position (ClearingHinted hint mask) = Some (34 + trailing_zeros w32 mask)
  position (Making k) = Some (69 * k + 67)
  position (Linking k values) = Some (69 * k + 68)
  position _ = None

  -- one step further, as this counts
  abbrev pub Rises : (Point T → Option ℕ) → Point T → Point T → Type 0
  Rises measure from point = (later : ℕ) → measure point ≡ Some later → (sooner : ℕ) × (measure from ≡ Some sooner)
      × (sooner + 1 ≤ later)

  -- one step further
  pub record MovesOn (from point : Point T) : Type 0 where
    pub steps : Rises progress from point
    pub pages : Rises position from point
