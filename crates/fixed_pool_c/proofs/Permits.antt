-- The machine value of a `Permit`, which is none, and the rows of what it owns. Assumes `Logic`.
use Rattle.std.proofs.Common.{List, [], ◌∷◌, refl}
use seplogic.Ra.Ura.{Ura}
use mir.Syntax.{impl, tnil, dnil}
use mir.Val.{Val, vstruct, vnil}
use base.Fml.{ftrue}
use types.Logic.{Logic}
use types.Kit.{Item, Goal, Step, step, ‵, ◌$◌, fjoin, fpack, feq_i}
use denote.Builtin.{unit}
use denote.RattleType.{RattleType, Valss}
use denote.Param.Laws as param_laws
use denote.Param.Shared as shared
use denote.Steps.{nothing}
use denote.Struct.Field as field
use denote.Struct.Laws as struct_laws
use denote.Struct.Struct.{within}
use denote.Struct.Owning.{shape}
use Rattle.std.proofs.alloc.Calls.{Al}
use Rattle.std.specs.contracts.mem.ManuallyDrop as manually
use Rattle.std.proofs.mem.ManuallyDrop.TheLaws as manually_laws
use Rattle.pool_parts.specs.contracts.page.holding.Holding as holding
use Rattle.pool_parts.proofs.page.holding.Holding.TheLaws as holding_laws
use Rattle.fixed_pool_c.specs.contracts.place.Permit as permit
use Rattle.fixed_pool_c.specs.PermitOwns.{permit_owns}

-- the machine value of a permit
abbrev pub no_bytes : Val
no_bytes = vstruct vnil

-- what a holder of a place has
abbrev pub KR : RattleType
KR = holding.the_row unit

abbrev pub unit_laws : param_laws.Laws unit
unit_laws = param_laws.of_field field.unit-field struct_laws.unit-laws refl
    (shared.copy_shared field.unit-field struct_laws.unit-copy)

abbrev pub KL : param_laws.Laws KR
KL = holding_laws.the_row_laws unit unit_laws

-- the same, whose drop does nothing
abbrev pub MR : RattleType
MR = manually.the_row KR

abbrev pub mal : Al
mal = record {
  row = MR;
  laws = manually_laws.the_row_laws KR KL;
  g = record { dealloc_token = λ _ _ _. ftrue };
  d = impl [] tnil dnil;
  drops = impl [] tnil dnil;
}

module _ {M : Type 1} {𝓤 : Ura M} {𝓛 : Logic 𝓤} {K : Type 0} {Γ : List (Item 𝓤)} {G : Goal 𝓤 𝓛.H} where
  -- what a permit owns is the permit
  pub permit_in : K → (d : permit.the_row.Denot)
      → Step K 𝓛 (‵ (permit.the_row.own_val d (no_bytes ∷ [])) ∷ Γ) G (‵ (permit_owns d.held d.final_note) ∷ Γ) G
  permit_in t d = step (λ s. nothing t $ feq_i t (List Val) (no_bytes ∷ []) (no_bytes ∷ []) refl $ fjoin t $
      fpack t (Valss []) (within (shape permit.the_type) tt (no_bytes ∷ [])) tt $ fjoin t $ s)
