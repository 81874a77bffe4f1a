use Rattle.std.proofs.Common.{inl, inr, sym, ◌∙◌}
use Rattle.std.proofs.Math.Logic.{∥∥₁_elim, ∥∥₁_map}
use Rattle.pool_parts.specs.Page.{same_opened}
use Rattle.page_chain.specs.Walk.{no_link_to_first}
use Rattle.page_chain.proofs.linear_page.chain.Chain.are_of_one_page.Goals as goal

pub returns-then-get-eq0-clause-page : goal.returns-then-get-eq0-clause-page
returns-then-get-eq0-clause-page g c =
    let zeroth = sym c.get.ensures ∙ c.if-get-eq0.true in
    let same = same_opened g.row.T.coded _ _ in
    ∥∥₁_elim c.requires.one same (λ one. ∥∥₁_elim c.requires.other same (λ other. elim one [
      | inl first ↦ elim other [
        | inl too ↦ too.1 ∙ sym first.1
        | inr linked ↦ absurd (no_link_to_first _ _ _ linked (c.requires.same_number ∙ zeroth))
      ]
      | inr linked ↦ absurd (no_link_to_first _ _ _ linked zeroth)
    ]))

pub are_of_one_page-requires-clause-one : goal.are_of_one_page-requires-clause-one
are_of_one_page-requires-clause-one g c = rw c.again-one.ensures.again (∥∥₁_map c.requires.one (λ reached.
    elim reached [
      | inl first ↦ absurd (c.if-get-eq0.false (c.get.ensures ∙ first.0))
      | inr linked ↦ linked
    ]))

pub are_of_one_page-requires-clause-other : goal.are_of_one_page-requires-clause-other
are_of_one_page-requires-clause-other g c = rw c.again-other.ensures.again (∥∥₁_map c.requires.other (λ reached.
    elim reached [
      | inl first ↦ absurd (c.if-get-eq0.false (c.get.ensures ∙ sym c.requires.same_number ∙ first.0))
      | inr linked ↦ linked
    ]))
