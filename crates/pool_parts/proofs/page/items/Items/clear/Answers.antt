-- That the step which clears a bit keeps the page's rule, and that the user takes the item's value
-- if the bit was set, or has found it in use.
use Rattle.std.proofs.Common.{◌∷◌, arith, rules, sym, ap, ◌∙◌, Some, ◌+◌, ◌*◌}
use Rattle.std.proofs.lemmas.Nat.Bits.{shr_and_one}
use Rattle.atomic_table.specs.Table.{rest}
use Rattle.pool_parts.proofs.PageSteps.{clears}
use Rattle.pool_parts.proofs.WordBits.{all_but, bit_set}
use Rattle.pool_parts.proofs.page.items.Items.clear.Goals as goal

pub fetch_and-found-requires : goal.fetch_and-found-requires
fetch_and-found-requires g c =
    let items = c.args.self.now in (
      c.requires.items,
      c.requires.in_items,
      clears _ _ _ items.table.shared.table_id.slots c.args.page _ _ c.args.bit _ c.requires.in_word
          (omega (arith, items.covered, c.requires.in_items)) (all_but c.args.bit c.requires.in_word)
          c.requires.holds_none c.requires.here,
    )

pub returns-then-found-bit-eq0-clause-outcome : goal.returns-then-found-bit-eq0-clause-outcome
returns-then-found-bit-eq0-clause-outcome g c =
    c.fetch_and-found.ensures.2.1 c.args.bit c.requires.in_word (all_but c.args.bit c.requires.in_word)
    (sym (shr_and_one _ _) ∙ c.if-found-bit-eq0.true)

pub exchange-requires : goal.exchange-requires
exchange-requires g c =
    let took = c.fetch_and-found.ensures.2.0 c.args.bit c.requires.in_word (all_but c.args.bit c.requires.in_word)
    (bit_set _ _ c.if-found-bit-eq0.false) in (
      c.fetch_and-found.ensures.0 ∙ c.requires.items,
      (
        Some took.0,
        took.1.carries
            ∙ ap (λ carried. (32 * c.args.page + c.args.bit, Some took.0) ∷ rest carried) (sym took.1.carries),
      ),
    )

pub unreachable-requires : goal.unreachable-requires
unreachable-requires g c =
    let took = c.fetch_and-found.ensures.2.0 c.args.bit c.requires.in_word (all_but c.args.bit c.requires.in_word)
    (bit_set _ _ c.if-found-bit-eq0.false) in
    search rules

pub returns-clause-outcome : goal.returns-clause-outcome
returns-clause-outcome g c =
    let took = c.fetch_and-found.ensures.2.0 c.args.bit c.requires.in_word (all_but c.args.bit c.requires.in_word)
    (bit_set _ _ c.if-found-bit-eq0.false) in
    search rules
