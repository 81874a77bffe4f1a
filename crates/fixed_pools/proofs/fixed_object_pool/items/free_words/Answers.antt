use Rattle.std.proofs.Common.{◌≡◌, ℕ, ◌+◌, ◌-◌, ◌*◌, ◌/◌, ◌^◌, replicate, set, subst, arith}
use Rattle.pool_parts.proofs.WordBits.{all_bits}
use Rattle.pool_parts.specs.PageRule.{IsAllFree}
use Rattle.pool_parts.proofs.WordBits.{all_free}
use Rattle.fixed_pools.proofs.fixed_object_pool.items.free_words.Goals as goal

pub returns-clause-all_free : goal.returns-clause-all_free
returns-clause-all_free c =
    let full : ℕ = (c.args.count - 1) / 32 in
    let low : ℕ = c.args.count - 32 * full in
    let some_item = c.requires in
    let count : 32 * full + low ≡ c.args.count = omega arith in
    let words : c.in_ok-words.words.items ≡ replicate (full + 1) all_bits =
    c.in_ok-words.ensures.items_if_clones_equal (λ y e. e) in
    let last : c.low_bits.result ≡ 2 ^ low - 1 = c.low_bits.ensures in
    rw (last, words) (subst (λ count. IsAllFree count (set (replicate (full + 1) all_bits) full (2 ^ low - 1))) count
    (all_free full low (omega arith) (omega arith)))
