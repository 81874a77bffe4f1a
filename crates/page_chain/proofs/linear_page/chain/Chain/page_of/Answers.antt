use Rattle.std.proofs.Common.{ap, inl, inr, sym, ◌∙◌}
use Rattle.std.specs.Arc.{arc_value}
use Rattle.std.proofs.Math.Logic.{∥∥₁_elim, ∥∥₁_map}
use Rattle.pool_parts.specs.Page.{page_view, same_opened}
use Rattle.page_chain.specs.Walk.{no_link_to_first}
use Rattle.page_chain.proofs.linear_page.chain.Chain.page_of.Goals as goal

pub returns-then-get-eq0 : goal.returns-then-get-eq0
returns-then-get-eq0 g c = ∥∥₁_elim c.requires (same_opened g.row.T.coded _ _) (λ reached. elim reached [
  | inl first ↦ ap page_view (c.deref.ensures ∙ ap arc_value c.owner.ensures.page) ∙ sym first.1
  | inr linked ↦ absurd (no_link_to_first _ _ _ linked (sym c.get.ensures ∙ c.if-get-eq0.true))
])

pub linked_page-requires : goal.linked_page-requires
linked_page-requires g c = ∥∥₁_map c.requires (λ reached. elim reached [
  | inl first ↦ absurd (c.if-get-eq0.false (c.get.ensures ∙ first.0))
  | inr linked ↦ linked
])
