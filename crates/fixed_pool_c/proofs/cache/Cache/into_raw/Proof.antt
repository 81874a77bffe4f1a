-- `into_raw` compares the pointer with null, and hands on what lies there.
use Rattle.std.proofs.Common.{◌≡◌, List, [], ◌∷◌, ◌++◌, refl, sym, subst, lit<}
use mir.Val.{Val, vptr, vcons, vnil}
use base.Logic.{SProp, ent, emp, id⊢}
use base.Fml.{ftrue}
use prog.Wp.{WpFn}
use types.Kit.{‵, raw, ◌⊛◌, at_ret, ◌$◌, ◌∵◌, !, qed, by, move, keep, drop, split, fsplit, fjoin, suffices, use0, use1}
use types.Run.{stop, fld, lit, of_opd, bin, no_more, and_then, first, branches, exec, returns, enter}
use types.ByLocal.{alloc_all, pass_all, free_all, look_at, get, get_in, sets, sets_last, env}
use types.Part.{agg, sub, whole}
use types.Match.{live}
use contract.Monad.{fact, fact_i}
use contract.Running.{tables}
use denote.Exit.{yes}
use denote.RattleType.{RattleType, owns}
use denote.Signature.{types_at, type_at, plain}
use denote.Param.{layout}
use denote.RawPtr.{block_ptr, null_ptr, ptr_val, tests_null}
use denote.Steps.{nothing}
use denote.Triple.Walked.{Stays, stay_dropped, walk_of}
use Rattle.std.proofs.alloc.Calls.{Goes-blank}
use Rattle.std.proofs.alloc.Shapes.{after}
use Rattle.std.proofs.cell.Inside.{Good}
use Rattle.std.proofs.option.Made.{Some-of, none_of}
use Rattle.std.proofs.raw_atomic.Walks.{proved_at, leaves}
use Rattle.std_alloc.proofs.ResultValues.{and_tt}
use Rattle.fixed_pool_c.specs.contracts.cache.Cache as cache
use Rattle.std_heap.proofs.Global.TheLaws as heap_laws
use Rattle.std_heap.specs.contracts.GlobalAllocator.TheImpl as heap_impl
use Rattle.std.specs.Prelude.{None, Some}
use Rattle.fixed_pool_c.proofs.Values.{both, HZ, raw_good, loose_in, none_good}
use Rattle.fixed_pool_c.proofs.CacheValues.{CR, CRaw, cache_cases}
use Rattle.fixed_pool_c.specs.contracts.cache.Cache.into_raw.{ended, clauses}
use Rattle.fixed_pool_c.specs.contracts.cache.Cache.into_raw.Key.{name as #self}
use Rattle.fixed_pool_c.proofs.cache.Cache.into_raw.Statement.{statement}
use Rattle.fixed_pool_c.proofs.cache.Cache.into_raw.Code as code

pub into_raw_spec : {M : Type 1} → statement M
into_raw_spec 𝓤 𝓛 𝓜 𝓡 wired =
    let H = 𝓛.H in let 𝓣 = tables 𝓤 H 𝓜 𝓡 𝓡.env in let LZ = heap_laws.the_row_laws in let c =
    clauses 𝓛 𝓜.mem 𝓡.returns in let fn = code.function in
    let hs : Stays ended.signature.params ended.kept = (stay_dropped (plain (λ _. cache.the_row)) yes, tt) in
    proved_at 𝓛 ended hs c 𝓜 𝓡 (
      Goes-blank 𝓛 0 (plain (λ _. cache.the_row)) yes
          (λ κs x f. tt),
      tt,
    ) #self fn (code.unfolded 𝓤 H 𝓜 𝓡 wired) (λ z are.
    let v = z.0.3.0 in let a = v.alloc in let Post : Val → SProp 𝓤 = (walk_of 𝓛 ended hs c).post z in let Run : List Val
    → SProp 𝓤 = λ ws. WpFn 𝓤 H 𝓣.C 𝓣.Λ fn ws Post in
    let Out : RattleType = type_at ended.signature.result z.0.0 in
    qed 𝓛 ((‵ ftrue ⊛ ‵ (owns (types_at ended.signature.params z.0.0) z.0.3 z.0.4)) ∷ raw ((c z.0.0 z.0.3).requires z.1)
    ∷ []) ∵ split ! $ move ! (1 ∷ []) $ fsplit ! $ cache_cases ! v z.0.4.0
    (λ h is ws fits.
    let w : Val = both (ptr_val null_ptr) h in let v₀ : Val = live 0 vnil in
    drop ! $ suffices ! (Run (w ∷ [])) (subst (λ (us : List Val). ent 𝓤 (Run (w ∷ [])) (Run us)) (sym
    (λ i. ws i ++ [])) (id⊢ 𝓤 (Run (w ∷ [])))) $
    enter ! 𝓣.C 𝓣.Λ fn (w ∷ []) Post $ alloc_all ! (λ l. pass_all ! refl (none_good h fits, tt) $ let Ev =
    env fn.locals l in
    sets ! (of_opd ! (get_in ! (fld ! refl (stop !)) (sub ! 0 refl (whole !)))) refl (
      tt,
      record {
        fits =
            lit< tt;
      },
    ) $ sets ! (of_opd ! (get_in ! (fld ! refl (stop !)) (sub ! 1 refl (whole !)))) refl fits $
    sets ! (bin ! (get ! refl) (lit ! tt) tt) refl (tt, tt) $ first ! $ branches ! (get ! refl)
    (λ _. sets_last ! (agg ! (and_then ! (lit ! tt) (no_more !))) refl (
      tt,
      (
        record {
          fits =
              lit< tt;
        },
        tt,
      ),
    ) $ exec ! 𝓣.C 𝓣.Λ Ev (after 4 fn.body) (at_ret Ev Post) $
    sets ! (of_opd ! (get ! refl)) refl (tt, (record { fits = lit< tt }, tt)) $
    use0 𝓛 (‵ (Out.own_val None (v₀ ∷ []))) (none_of 𝓛 CRaw) $ use0 𝓛 (raw (fact 𝓤 (v.held ≡ None))) (fact_i 𝓤 (v.held
    ≡ None) (emp 𝓤) is) $ nothing ! $ nothing ! $ fjoin ! $
    returns ! (look_at ! 0 refl) $ free_all ! refl $ keep ! (3 ∷ 0 ∷ 2 ∷ 1 ∷ []) $ by ! (leaves 𝓛 ended hs c z v₀ None
    (tt, tt) (tt, tt))) (λ wrong. absurd wrong)))
    (λ b o h x is ws fits testable.
    let w : Val = both (vptr b o) h in let typed = raw_good CR HZ LZ heap_impl.ghosts b o h fits in let v₁ : Val =
    live 1 (vcons w vnil) in let d : CRaw.Denot = record { at = block_ptr b o; alloc = a; value = x } in
    let good : Good (layout Out) v₁ = (and_tt _ typed.0, (record { fits = lit< tt }, (typed.1, tt))) in
    suffices ! (Run (w ∷ [])) (subst (λ (us : List Val). ent 𝓤 (Run (w ∷ [])) (Run us)) (sym
    (λ i. ws i ++ [])) (id⊢ 𝓤 (Run (w ∷ [])))) $
    enter ! 𝓣.C 𝓣.Λ fn (w ∷ []) Post $ alloc_all ! (λ l. pass_all ! refl (typed, tt) $ let Ev = env fn.locals l in
    sets ! (of_opd ! (get_in ! (fld ! refl (stop !)) (sub ! 0 refl (whole !)))) refl (tt, tt) $ sets ! (of_opd ! (get_in
    ! (fld ! refl (stop !)) (sub ! 1 refl (whole !)))) refl fits $
    sets ! (bin ! (get ! refl) (lit ! tt) (tests_null (block_ptr b o) testable)) refl (tt, tt) $ first ! $ branches !
    (get ! refl) (λ wrong. absurd wrong)
    (λ _. sets ! (of_opd ! (get ! refl)) refl (tt, tt) $ sets ! (agg ! (and_then ! (get ! refl) (and_then ! (get ! refl)
    (no_more !)))) refl typed $
    sets_last ! (agg ! (and_then ! (lit ! tt) (and_then ! (get ! refl) (no_more !)))) refl good $ exec ! 𝓣.C 𝓣.Λ Ev
    (after 4 fn.body) (at_ret Ev Post) $
    sets ! (of_opd ! (get ! refl)) refl good $ loose_in CR HZ LZ heap_impl.ghosts ! b o h a x $
    use1 𝓛 (‵ (Out.own_val (Some d) (v₁ ∷ []))) (Some-of 𝓛 CRaw d w) $ use0 𝓛 (raw (fact 𝓤 (v.held ≡ Some x))) (fact_i
    𝓤 (v.held ≡ Some x) (emp 𝓤) is) $ nothing ! $ nothing ! $ fjoin ! $
    returns ! (look_at ! 0 refl) $ free_all ! refl $ keep ! (3 ∷ 0 ∷ 2 ∷ 1 ∷ []) $ by ! (leaves 𝓛 ended hs c z v₁ (Some
    d) (tt, tt) (tt, tt))))))
