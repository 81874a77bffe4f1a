use Rattle.std.proofs.Common.{◌≡◌, ◌≤◌, List, Some, map, length, vec_capacity}
use Rattle.std.specs.Prelude.{All}
use Rattle.object_pool_cores.proofs.sequential.core_page.made_items.Given as goal

-- the values so far, one a turn, and room for a whole page
abbrev pub invariant-loop-id : goal.invariant-loop-id
invariant-loop-id g l =
    (32 ≤ vec_capacity l.page)
    × ((values : List g.row.T.Denot) × (l.page.items ≡ map Some values) × (length values ≡ l._id)
    × All (λ v. g.I.Fn.post l.init tt (Some v)) values × All g.K.Clean.meets values)
