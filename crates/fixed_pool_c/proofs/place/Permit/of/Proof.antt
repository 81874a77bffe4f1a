-- A permit owns what the holder has, but for its bytes.
use Rattle.std.proofs.Common.{◌≡◌, List, [], ◌∷◌, ◌++◌, refl, sym, subst}
use mir.Val.{Val}
use base.Logic.{SProp, ent, emp, id⊢}
use base.Fml.{ftrue}
use prog.Wp.{WpFn}
use types.Kit.{‵, raw, ◌⊛◌, ◌$◌, ◌∵◌, !, qed, by, move, keep, drop, split, fsplit, fjoin, fpick, fpack, suffices, use0}
use types.Run.{of_opd, no_more, returns, enter}
use types.ByLocal.{alloc_all, pass_all, free_all, look_at, get, sets}
use types.Part.{agg}
use contract.Monad.{fact, fact_i}
use contract.Running.{tables}
use denote.Exit.{yes}
use denote.RattleType.{owns}
use denote.Signature.{types_at, plain}
use denote.Steps.{nothing}
use denote.Triple.Walked.{Stays, stay_dropped, walk_of}
use Rattle.std.proofs.alloc.Calls.{Goes-blank, handle_tells}
use Rattle.std.proofs.raw_atomic.Walks.{proved_at, leaves}
use Rattle.std.specs.Prelude.{None, Some}
use Rattle.fixed_pool_c.specs.contracts.place.Permit as permit
use Rattle.fixed_pool_c.proofs.Permits.{no_bytes, KR, MR, mal, permit_in}
use Rattle.fixed_pool_c.specs.contracts.place.Permit.of.{ended, clauses}
use Rattle.fixed_pool_c.specs.contracts.place.Permit.of.Key.{name as #self}
use Rattle.fixed_pool_c.proofs.place.Permit.of.Statement.{statement}
use Rattle.fixed_pool_c.proofs.place.Permit.of.Code as code

pub of_spec : {M : Type 1} → statement M
of_spec 𝓤 𝓛 𝓜 𝓡 wired =
    let H = 𝓛.H in let 𝓣 = tables 𝓤 H 𝓜 𝓡 𝓡.env in let c = clauses 𝓛 𝓜.mem 𝓡.returns in let fn = code.function in
    let hs : Stays ended.signature.params ended.kept = (stay_dropped (plain (λ _. MR)) yes, tt) in
    proved_at 𝓛 ended hs c 𝓜 𝓡 (
      Goes-blank 𝓛 0 (plain (λ _. MR)) yes (λ κs x f. tt),
      tt,
    ) #self fn (code.unfolded 𝓤 H 𝓜 𝓡 wired) (λ z are.
    let kept = z.0.3.0 in let Post : Val → SProp 𝓤 = (walk_of 𝓛 ended hs c).post z in let Run : List Val → SProp 𝓤 =
    λ ws. WpFn 𝓤 H 𝓣.C 𝓣.Λ fn ws Post in
    qed 𝓛 ((‵ ftrue ⊛ ‵ (owns (types_at ended.signature.params z.0.0) z.0.3 z.0.4)) ∷ raw ((c z.0.0 z.0.3).requires z.1)
    ∷ []) ∵ split ! $ move ! (1 ∷ []) $ fsplit ! $ handle_tells mal ! kept z.0.4.0 (λ n ns good.
    let v : permit.the_row.Denot = record { held = Some kept.value; final_note = None } in
    let Told : Type 0 = v.held ≡ Some kept.value in
    suffices ! (Run (n ∷ [])) (subst (λ (us : List Val). ent 𝓤 (Run (n ∷ [])) (Run us)) (sym
    (λ i. ns i ++ [])) (id⊢ 𝓤 (Run (n ∷ [])))) $
    fpick ! (λ vss. fsplit ! $ drop ! $ fsplit ! $ move ! (1 ∷ []) $ drop ! $
    fpack ! (List Val) (λ (values : List Val). KR.own_val kept.value values) vss.0 $ permit_in ! v $
    enter ! 𝓣.C 𝓣.Λ fn (n ∷ []) Post $ alloc_all ! (λ l. pass_all ! refl (good, tt) $
    sets ! (of_opd ! (get ! refl)) refl good $ sets ! (agg ! (no_more !)) refl (tt, tt) $
    use0 𝓛 (raw (fact 𝓤 Told)) (fact_i 𝓤 Told (emp 𝓤) refl) $ nothing ! $ nothing ! $ fjoin ! $
    returns ! (look_at ! 0 refl) $ free_all ! refl $ keep ! (3 ∷ 0 ∷ 2 ∷ 1 ∷ []) $ by ! (leaves 𝓛 ended hs c z no_bytes v
    (((tt, tt), tt), tt) (tt, tt))))))
