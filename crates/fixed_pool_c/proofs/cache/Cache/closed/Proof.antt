-- That a closed cache is null, has no pool, and keeps the note of its last operation.
use Rattle.std.proofs.Common.{◌≡◌, List, [], ◌∷◌, ◌++◌, refl, sym, subst}
use mir.Val.{Val}
use base.Logic.{SProp, ent, emp, id⊢}
use base.Fml.{ftrue}
use prog.Wp.{WpFn}
use types.Kit.{‵, raw, ◌⊛◌, ◌$◌, ◌∵◌, !, qed, by, move, keep, split, fsplit, fjoin, suffices, use0}
use types.Run.{lit, no_more, and_then, returns, enter}
use types.ByLocal.{alloc_all, pass_all, free_all, look_at, get, sets}
use types.Part.{agg}
use contract.Monad.{fact, fact_i}
use contract.Running.{tables}
use denote.Exit.{yes}
use denote.RattleType.{owns}
use denote.Signature.{types_at, plain}
use denote.RawPtr.{null_ptr, ptr_val}
use denote.Steps.{nothing}
use denote.Triple.Walked.{Stays, stay_dropped, walk_of}
use Rattle.std.proofs.alloc.Calls.{Goes-blank, handle_tells}
use Rattle.std.proofs.raw_atomic.Walks.{proved_at, leaves}
use Rattle.fixed_pool_c.specs.contracts.cache.Cache as cache
use Rattle.std.specs.Prelude.{None, Some}
use Rattle.fixed_pool_c.proofs.Values.{both, HZ, LR, none_good, lal}
use Rattle.fixed_pool_c.proofs.CacheValues.{cache_closed, cal}
use Rattle.fixed_pool_c.specs.contracts.cache.Cache.closed.{ended, clauses}
use Rattle.fixed_pool_c.specs.contracts.cache.Cache.closed.Key.{name as #self}
use Rattle.fixed_pool_c.proofs.cache.Cache.closed.Statement.{statement}
use Rattle.fixed_pool_c.proofs.cache.Cache.closed.Code as code

pub closed_spec : {M : Type 1} → statement M
closed_spec 𝓤 𝓛 𝓜 𝓡 wired =
    let H = 𝓛.H in let 𝓣 = tables 𝓤 H 𝓜 𝓡 𝓡.env in let c = clauses 𝓛 𝓜.mem 𝓡.returns in let fn = code.function in
    let hs : Stays ended.signature.params ended.kept = (
      stay_dropped (plain (λ _. HZ)) yes,
      (stay_dropped (plain (λ _. LR)) yes, tt),
    ) in
    proved_at 𝓛 ended hs c 𝓜 𝓡 (
      Goes-blank 𝓛 0 (plain (λ _. HZ)) yes (λ κs x f. tt),
      (Goes-blank 𝓛 0 (plain (λ _. LR)) yes (λ κs x f. tt), tt),
    ) #self fn (code.unfolded 𝓤 H 𝓜 𝓡 wired) (λ z are.
    let a = z.0.3.0 in let kept = z.0.3.1.0 in let Post : Val → SProp 𝓤 = (walk_of 𝓛 ended hs c).post z in let Run : List Val → SProp 𝓤 =
    λ ws. WpFn 𝓤 H 𝓣.C 𝓣.Λ fn ws Post in
    qed 𝓛 ((‵ ftrue ⊛ ‵ (owns (types_at ended.signature.params z.0.0) z.0.3 z.0.4)) ∷ raw ((c z.0.0 z.0.3).requires z.1)
    ∷ []) ∵ split ! $ move ! (1 ∷ []) $ fsplit ! $ handle_tells cal ! a z.0.4.0 (λ h ws fits.
    move ! (1 ∷ []) $ fsplit ! $ handle_tells lal ! kept z.0.4.1.0 (λ n ns good. move ! (2 ∷ 0 ∷ []) $
    let w : Val = both (ptr_val null_ptr) h in let v : cache.the_row.Denot = record {
      at = null_ptr;
      alloc = a;
      held =
          None;
      final_note = Some kept;
    } in let Told : Type 0 = (v.held ≡ None) × (v.final_note ≡ Some kept) in
    suffices ! (Run (h ∷ n ∷ [])) (subst (λ (us : List Val). ent 𝓤 (Run (h ∷ n ∷ [])) (Run us)) (sym
    (λ i. ws i ++ (ns i ++ []))) (id⊢ 𝓤 (Run (h ∷ n ∷ [])))) $
    enter ! 𝓣.C 𝓣.Λ fn (h ∷ n ∷ []) Post $ alloc_all ! (λ l. pass_all ! refl (fits, (good, tt)) $
    sets ! (agg ! (and_then ! (lit ! tt) (and_then ! (get ! refl) (no_more !)))) refl (none_good h fits) $
    cache_closed ! h a kept (n ∷ []) $ use0 𝓛 (raw (fact 𝓤 Told)) (fact_i 𝓤 Told (emp 𝓤) (refl, refl)) $ nothing ! $
    nothing ! $ fjoin ! $ nothing ! $ fjoin ! $
    returns ! (look_at ! 0 refl) $ free_all ! refl $ keep ! (3 ∷ 0 ∷ 2 ∷ 1 ∷ []) $ by ! (leaves 𝓛 ended hs c z w v (
      tt,
      ((((tt, tt), tt), tt), tt),
    ) (tt, (tt, tt)))))))
