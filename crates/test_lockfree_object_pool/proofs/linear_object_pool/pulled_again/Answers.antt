use Rattle.std.proofs.Common.{◌≡◌, rules}
use Rattle.test_lockfree_object_pool.proofs.Later.{pulled_what_returned, pulled_same_or_used}
use Rattle.test_lockfree_object_pool.proofs.linear_object_pool.pulled_again.Goals as goal

pub returns-clause-returned : goal.returns-clause-returned
returns-clause-returned c =
    let of_first : c.in-Ok.item.number.number ≡ 0 = search rules in
    let first : c.in-Ok.item.item.id ≡ 0 = search rules in
    pulled_what_returned _ _ _ _ first (c.in-Ok.ensures.first of_first).1 c.requires.returned

pub returns-clause-unless_used : goal.returns-clause-unless_used
returns-clause-unless_used c =
    let of_first : c.in-Ok.item.number.number ≡ 0 = search rules in
    let first : c.in-Ok.item.item.id ≡ 0 = search rules in
    pulled_same_or_used _ _ _ _ first (c.in-Ok.ensures.first of_first).1 c.requires.returned
