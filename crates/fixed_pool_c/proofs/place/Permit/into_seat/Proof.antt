-- A seat's view is a badge's, so the seat is made of a badge; the slot that it holds is put back beside.
use Rattle.std.proofs.Common.{◌≡◌, ℕ, List, [], ◌∷◌, refl, sym, ap, subst}
use mir.Raw.{raw as bare}
use mir.Val.{Val}
use base.Fraction.{full_share}
use base.Share.{three_quarters}
use base.Logic.{SProp, emp, id⊢}
use base.Fml.{ftrue, flft}
use types.Kit.{Item, ‵, raw, ◌⊛◌, some, later, ◌$◌, ◌∵◌, !, qed, by, move, keep, drop, split, join, fsplit, fjoin, fpick}
use types.Kit.{pick, use0, use1, await, rewrite}
use types.Run.{of_opd, no_more, and_then, returns, enter}
use types.ByLocal.{alloc_all, pass_all, free_all, look_at, get, sets, lands_as}
use contract.BorrowLft.{◌⊑◌, ⊑_static}
use contract.Monad.{fact, fact_i}
use contract.Running.{tables}
use denote.Builtin.{unit}
use denote.Exit.{yes, no}
use denote.Laws.{Is, shows}
use denote.Param.{arg, layout}
use denote.Param.Laws.{Laws, arg_laws}
use denote.RattleType.{RattleType, owns}
use denote.Signature.{types_at, plain}
use denote.Steps.{nothing, heard, peeks, only}
use denote.Triple.Call.{calls_at}
use denote.Triple.Clauses.{Lasts, lasts}
use denote.Triple.Spec.{triple_of}
use denote.Triple.Walked.{Stays, stay_dropped, walk_of}
use Rattle.std.proofs.alloc.Calls.{Goes-blank}
use Rattle.std.proofs.raw_atomic.Walks.{proved, leaves}
use Rattle.std.specs.Prelude.{⊤, Option, Some, IfSome}
use Rattle.std.specs.contracts.option.Option as option
use Rattle.std.proofs.option.Option.TheLaws as option_laws
use Rattle.atomic_table.proofs.Calls.{fm}
use Rattle.atomic_table.proofs.Fields.{token_val, Token, token_made, token_told, pin_told}
use Rattle.atomic_table.specs.Seated.{TableId, seen, seat_owns}
use Rattle.atomic_table.specs.contracts.badge.Badge as badge
use Rattle.atomic_table.specs.contracts.shared.Seat as seat
use Rattle.atomic_table.specs.contracts.badge.Badge.into_seat as callee
use Rattle.atomic_table.proofs.badge.Badge.into_seat.Met.{met}
use Rattle.pool_parts.specs.contracts.page.user_view.UserView as view
use Rattle.pool_parts.proofs.page.user_view.UserView.TheLaws as view_laws
use Rattle.pool_parts.specs.declared.page.holding.Holding.{Holding}
use Rattle.fixed_pool_c.specs.PermitOwns.{permit_owns}
use Rattle.fixed_pool_c.specs.contracts.place.Permit as permit
use Rattle.fixed_pool_c.proofs.Permits.{no_bytes, unit_laws}
use Rattle.fixed_pool_c.specs.contracts.place.Permit.into_seat.{ended, clauses}
use Rattle.fixed_pool_c.specs.contracts.place.Permit.into_seat.Key.{name as #self}
use Rattle.fixed_pool_c.proofs.place.Permit.into_seat.Statement.{statement}
use Rattle.fixed_pool_c.proofs.place.Permit.into_seat.Code as code

abbrev VR : RattleType
VR = view.the_row unit

abbrev OR : RattleType
OR = option.the_row unit

-- the two as a call passes them
abbrev AV : RattleType
AV = arg (bare (layout VR)) no VR

abbrev AO : RattleType
AO = arg (bare (layout OR)) no OR

AV_laws : Laws AV
AV_laws = arg_laws (bare (layout VR)) no VR (view_laws.the_row_laws unit unit_laws) refl

AO_laws : Laws AO
AO_laws = arg_laws (bare (layout OR)) no OR (option_laws.the_row_laws unit unit_laws) refl

abbrev BR : RattleType
BR = badge.the_row VR

abbrev SR : RattleType
SR = seat.the_row OR VR

abbrev first_or : {A : Type 0} → A → List A → A
first_or a [] = a
first_or a (x ∷ xs) = x

pub into_seat_spec : {M : Type 1} → statement M
into_seat_spec 𝓤 𝓛 𝓜 𝓡 wired =
    let H = 𝓛.H in let 𝓣 = tables 𝓤 H 𝓜 𝓡 𝓡.env in let c = clauses 𝓛 𝓜.mem 𝓡.returns in let fn = code.function in
    let hs : Stays ended.signature.params ended.kept = (
      stay_dropped (plain (λ _. permit.the_row)) yes,
      (stay_dropped (plain (λ _. BR)) yes, tt),
    ) in
    proved 𝓛 ended hs c 𝓜 𝓡 (
      Goes-blank 𝓛 0 (plain (λ _. permit.the_row)) yes (λ κs x f. tt),
      (Goes-blank 𝓛 0 (plain (λ _. BR)) yes (λ κs x f. tt), tt),
    ) #self fn (code.unfolded 𝓤 H 𝓜 𝓡 wired)
    (λ κs. ((λ _. no_bytes ∷ []), ((λ _. token_val ∷ []), tt)))
    (λ κs. ((λ x vs so. so.0.1.0), ((λ x vs so. pin_told VR vs so.0), tt)))
    (λ κs qs bounds a gh are.
    let me = a.0 in
    let y : (walk_of 𝓛 ended hs c).Ghost = ((κs, qs, bounds, a, (no_bytes ∷ [], (token_val ∷ [], tt))), gh) in
    let Post : Val → SProp 𝓤 = (walk_of 𝓛 ended hs c).post y in
    let Asked : Type 0 = (holding : Holding ⊤) × (me.held ≡ Some holding) in
    qed 𝓛 ((‵ ftrue ⊛ ‵ (owns (types_at ended.signature.params κs) a y.0.4)) ∷ raw (fact 𝓤 Asked) ∷ []) ∵
    move ! (1 ∷ []) $ heard ! Asked (λ asked.
    let h : Holding ⊤ = asked.0 in let s : SR.Denot = h.seat in
    let b : BR.Denot = record { marker = record {}; table_id = s.table_id; id = s.id; views = s.me.0 ∷ [] } in
    split ! $ move ! (1 ∷ []) $ fsplit ! $ fsplit ! $ drop ! $
    rewrite ! 0 (λ (m : Option (Holding ⊤)). ‵ (permit_owns m me.final_note)) asked.1 refl $
    fpick ! (λ values. fpick ! (λ vss. fsplit ! $ drop ! $ fsplit ! $ fsplit ! $ drop ! $ fsplit ! $
    move ! (3 ∷ []) $ fsplit ! $ fsplit ! $ move ! (1 ∷ []) $ drop ! $
    move ! (0 ∷ 2 ∷ []) $ fjoin ! $ fjoin ! $
    let k = triple_of 𝓛 (callee.signature AV AO) (callee.spec AV AO 𝓛 𝓜.mem 𝓡.returns) in
    let g : k.Ghost = (
      (([], ([], tt)), (full_share, (full_share, tt)), tt, (b, tt), (token_val ∷ [], tt)),
      tt,
    ) in
    let toks : Item 𝓤 = ‵ (flft [] full_share) ⊛ ‵ (flft [] full_share) ⊛ ‵ ftrue in
    let F₁ : Type 0 = [] ⊑ VR.lives in let F₂ : Type 0 = [] ⊑ OR.lives in
    let F₃ : Type 0 = (v : VR.Denot) × (b.views ≡ v ∷ []) in
    nothing ! $ use0 𝓛 (‵ (flft [] full_share)) (𝓛.lfts.lft-nil full_share) $ join ! $
    use0 𝓛 (‵ (flft [] full_share)) (𝓛.lfts.lft-nil full_share) $ join ! $ join ! $
    use0 𝓛 (raw (fact 𝓤 F₃)) (fact_i 𝓤 F₃ (emp 𝓤) (s.me.0, refl)) $
    use0 𝓛 (raw (fact 𝓤 F₂)) (fact_i 𝓤 F₂ (emp 𝓤) (option_laws.the_within unit [] (⊑_static []))) $ join ! $
    use0 𝓛 (raw (fact 𝓤 F₁)) (fact_i 𝓤 F₁ (emp 𝓤) (view_laws.the_within unit [] (⊑_static []))) $ join ! $
    move ! (1 ∷ 0 ∷ []) $ join ! $ use1 𝓛 (raw (k.pre g)) (id⊢ 𝓤 _) $
    enter ! 𝓣.C 𝓣.Λ fn (no_bytes ∷ token_val ∷ []) Post $ alloc_all ! (λ l.
    pass_all ! refl ((tt, tt), ((tt, (tt, tt)), tt)) $
    sets ! (of_opd ! (get ! refl)) refl (tt, (tt, tt)) $
    calls_at ! (fm 𝓛 𝓜 𝓡) k (met 𝓤 𝓛 𝓜 𝓡 (code.calls-atomic_table::badge::Badge::into_seat 𝓡.env wired) AV AO
    AV_laws AO_laws) g
    (and_then ! (get ! refl) (no_more !)) (λ u.
    let Told : SR.Denot → Type 0 = λ r. (r.table_id ≡ b.table_id) × (r.id ≡ b.id) × (b.views ≡ r.me.0 ∷ []) × (r.me.1 ≡ []) in
    let End : Type 0 = IfSome me.held (λ holding. s ≡ holding.seat) in
    use1 𝓛 (later (some (λ (r : SR.Denot). (toks ⊛ ‵ (SR.own_val r (u ∷ []))) ⊛
    some (λ (ls : Lasts (callee.ended AV AO) g.0.0 g.0.3). ‵ (lasts (callee.ended AV AO) g.0.0 g.0.3 ls) ⊛
    raw (fact 𝓤 (Told r)))))) (id⊢ 𝓤 (k.post g u)) $
    await ! tt $ pick ! (λ r. split ! $ move ! (1 ∷ []) $ pick ! (λ _. split ! $ drop ! $ heard ! (Told r) (λ told.
    split ! $ drop ! $ fsplit ! $
    peeks ! (Token OR VR) (Is (Token OR VR)) (shows 𝓛 (Token OR VR)) (tt, tt) (u ∷ []) (λ is. drop ! $
    lands_as ! (ap only (token_told OR VR (u ∷ []) is)) refl (tt, (tt, tt)) $
    rewrite ! 0 (λ (z : TableId). ‵ (seat_owns OR VR.coded.code z r.id r.me)) told.0 refl $
    rewrite ! 0 (λ (i : ℕ). ‵ (seat_owns OR VR.coded.code s.table_id i r.me)) told.1 refl $
    fsplit ! $ move ! (1 ∷ []) $ drop ! $
    rewrite ! 0 (λ (v : VR.Denot). ‵ (seen VR.coded.code s.table_id.views_name s.id three_quarters v))
    (sym (ap (first_or s.me.0) told.2)) refl $ fjoin ! $ move ! (1 ∷ []) $ drop ! $
    use0 𝓛 (‵ ((Token OR VR).own_val (tt, tt) (token_val ∷ []))) (token_made OR VR 𝓛) $ fjoin ! $
    use0 𝓛 (raw (fact 𝓤 End)) (fact_i 𝓤 End (emp 𝓤)
    (subst (λ (m : Option (Holding ⊤)). IfSome m (λ holding. s ≡ holding.seat)) (sym asked.1) refl)) $
    nothing ! $ nothing ! $ fjoin ! $ nothing ! $ fjoin ! $
    returns ! (look_at ! 0 refl) $ free_all ! refl $ keep ! (3 ∷ 0 ∷ 2 ∷ 1 ∷ []) $ by ! (leaves 𝓛 ended hs c y token_val s
    (tt, (tt, tt)) (tt, (tt, tt)))))))))))))
