-- No two users of any pages have the same name.
use Rattle.std.proofs.Common.{◌≡◌, inl, inr, ℕ, ◌+◌, ◌<◌, ◌≤◌, zero, suc, arith, ap}
use Rattle.std.proofs.lemmas.Bool.{cases_lt}
use Rattle.pool_laws.specs.Steps.{AreNames}
use Rattle.pool_laws.specs.Names.{diagonal, pool_user}

later : (a b : ℕ) → a < b → diagonal a + a + 1 ≤ diagonal b
later a zero below = absurd (omega (arith, below))
later a (suc b) below = elim (cases_lt a b) [
  | inl lower ↦ let before = later a b lower in omega (arith, before)
  | inr past ↦
      let same : a ≡ b = omega (arith, below, past) in let is = ap diagonal same in omega (arith, is, same)
]

pub pool_users : AreNames pool_user
pool_users page user other who same = elim (cases_lt (page + user) (other + who)) [
  | inl below ↦ let far = later (page + user) (other + who) below in absurd (omega (arith, far, same))
  | inr past ↦ elim (cases_lt (other + who) (page + user)) [
    | inl below ↦ let far = later (other + who) (page + user) below in absurd (omega (arith, far, same))
    | inr back ↦
        let sums : page + user ≡ other + who = omega (arith, past, back) in
        let is = ap diagonal sums in
        (omega (arith, is, same), omega (arith, is, same, sums))
  ]
]
