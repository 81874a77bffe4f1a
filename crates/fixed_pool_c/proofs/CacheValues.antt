-- The machine values of a `Cache`. Assumes `Logic`.
use Rattle.std.proofs.Common.{◌≡◌, ℕ, List, [], ◌∷◌, ◌++◌, refl, subst}
use seplogic.Ra.Ura.{Ura}
use mir.Syntax.{impl, tnil, dnil}
use mir.Raw.{raw as bare}
use mir.Val.{Val, vptr, vstruct, of_list}
use base.Logic.{SProp, ent, guard, never, fst∗, snd∗, via, guard_i}
use base.Fml.{ftrue}
use base.Fraction.{full_share}
use types.Logic.{Logic, sem}
use types.Kit.{Item, Goal, Seq, Step, step, ‵, given, ◌$◌, move, drop, learn, use1, fsplit, fjoin, fpick, fpack}
use types.Kit.{rewrite, feq_i, feq_l}
use contract.Monad.{fact_use}
use denote.RattleType.{RattleType, Valss}
use denote.Builtin.{RawPtr}
use denote.Memory.{lone}
use denote.RawPtr.{Ptr, block_ptr, null_ptr, ptr_val, in_a_block, lies_at, Testable}
use denote.Steps.{nothing}
use denote.Param.{layout}
use denote.Struct.Struct.{within}
use denote.Struct.Owning.{shape}
use Rattle.std.proofs.alloc.Calls.{Al, handle_tells}
use Rattle.std.proofs.cell.Inside.{Good}
use Rattle.std_alloc.specs.Box.Ownership.{box_owns}
use Rattle.std_heap.proofs.GlobalToken.{dealloc_token-Testable}
use Rattle.fixed_pool_c.specs.contracts.cache.Cache as cache
use Rattle.fixed_pool_c.specs.contracts.open_cache.OpenCache as held
use Rattle.std_heap.proofs.Global.TheLaws as heap_laws
use Rattle.std_heap.specs.contracts.GlobalAllocator.TheImpl as heap_impl
use Rattle.std_heap.specs.declared.Global.{Global}
use Rattle.fixed_pool_c.specs.declared.open_cache.OpenCache.{OpenCache}
use Rattle.fixed_pool_c.specs.declared.open_handle.FinalNote.{FinalNote}
use Rattle.fixed_pool_c.specs.HandleOwns.{final_note_owns}
use Rattle.fixed_pool_c.specs.CacheOwns.{cache_owns}
use Rattle.std.specs.Prelude.{Option, Some, None}
use Rattle.fixed_pool_c.proofs.Values.{both, RawBox, HZ, LR}

abbrev pub CR : RattleType
CR = held.the_row

abbrev pub CRaw : RattleType
CRaw = RawBox CR HZ heap_laws.the_row_laws heap_impl.ghosts

abbrev pub cal : Al
cal = record {
  row = HZ;
  laws = heap_laws.the_row_laws;
  g = heap_impl.ghosts;
  d = impl [] tnil dnil;
  drops = impl [] tnil dnil;
}

-- what lies at a cache's pointer may be freed, so the pointer may be compared with null
tested : {M : Type 1} {𝓤 : Ura M} (𝓛 : Logic 𝓤) (a : Global) (p : Ptr) (x : OpenCache)
    → ent 𝓤 (sem 𝓛 (box_owns (heap_impl.ghosts.dealloc_token a) CR p x)) (guard 𝓤 (Testable p) (sem 𝓛 (box_owns
    (heap_impl.ghosts.dealloc_token a) CR p x)))
tested {𝓤 = 𝓤} 𝓛 a p x = let B : SProp 𝓤 = sem 𝓛 (box_owns (heap_impl.ghosts.dealloc_token a) CR p x) in
    fact_use 𝓤 (Testable p) (via 𝓤 _ (snd∗ 𝓤 (sem 𝓛 (lies_at CR full_share p x)) (sem 𝓛 (heap_impl.ghosts.dealloc_token
    a (bare (lone CR.mir)) p))) (dealloc_token-Testable 𝓛 a (bare (lone CR.mir)) p)) (guard_i 𝓤 (Testable p) B)

module _ {M : Type 1} {𝓤 : Ura M} {𝓛 : Logic 𝓤} {K : Type 0} {Γ : List (Item 𝓤)} {G : Goal 𝓤 𝓛.H} where
  pub cache_out : K → (d : cache.the_row.Denot) (vs : List Val) (x : OpenCache) → d.held ≡ Some x
      → ((b o : ℕ) (h : Val) → d.at ≡ block_ptr b o → vs ≡ both (vptr b o) h ∷ [] → Good (layout HZ) h
      → Seq K 𝓛 (‵ (box_owns (heap_impl.ghosts.dealloc_token d.alloc) CR (block_ptr b o) x) ∷ ‵ (HZ.own_val d.alloc
      (h ∷ [])) ∷ Γ) G)
      → Seq K 𝓛 (‵ (cache.the_row.own_val d vs) ∷ Γ) G
  cache_out t d vs x is k =
      fsplit t $ fpick t (λ vss. fsplit t $ feq_l t (λ ev. fsplit t $ feq_l t
      (λ ep. fsplit t $ handle_tells cal t d.alloc vss.1.0
      (λ h ea fits. move t (1 ∷ []) $ drop t $ move t (1 ∷ []) $
      rewrite t 0 (λ (m : Option OpenCache). ‵ (cache_owns d.alloc d.at m d.final_note)) is refl $
      in_a_block t d.at (λ p. box_owns (heap_impl.ghosts.dealloc_token d.alloc) CR p x) (fst∗ 𝓤 (never 𝓤) (sem 𝓛
      (heap_impl.ghosts.dealloc_token d.alloc (bare (lone CR.mir)) null_ptr))) (λ b o e. k b o h e
      (subst (λ (p : Ptr). vs ≡ vstruct (of_list (ptr_val p ∷ h ∷ [])) ∷ []) e
      (subst (λ (ws : List Val). vs ≡ vstruct (of_list (ptr_val d.at ∷ (ws ++ []))) ∷ []) ea (subst
      (λ (ps : List Val). vs ≡ vstruct (of_list (ps ++ (vss.1.0 ++ []))) ∷ []) ep ev))) fits)))))

  -- an empty cache is null
  pub cache_null : K → (d : cache.the_row.Denot) (vs : List Val) → d.held ≡ None
      → ((h : Val) → vs ≡ both (ptr_val null_ptr) h ∷ [] → Good (layout HZ) h
      → Seq K 𝓛 (‵ (HZ.own_val d.alloc (h ∷ [])) ∷ Γ) G)
      → Seq K 𝓛 (‵ (cache.the_row.own_val d vs) ∷ Γ) G
  cache_null t d vs is k =
      fsplit t $ fpick t (λ vss. fsplit t $ feq_l t (λ ev. fsplit t $ feq_l t
      (λ ep. fsplit t $ handle_tells cal t d.alloc vss.1.0
      (λ h ea fits. move t (1 ∷ []) $ drop t $ move t (1 ∷ []) $
      rewrite t 0 (λ (m : Option OpenCache). ‵ (cache_owns d.alloc d.at m d.final_note)) is refl $ fpick t (λ null. drop t $ k h
      (subst (λ (p : Ptr). vs ≡ vstruct (of_list (ptr_val p ∷ h ∷ [])) ∷ []) null
      (subst (λ (ws : List Val). vs ≡ vstruct (of_list (ptr_val d.at ∷ (ws ++ []))) ∷ []) ea (subst
      (λ (ps : List Val). vs ≡ vstruct (of_list (ps ++ (vss.1.0 ++ []))) ∷ []) ep ev))) fits)))))

  cache_as : K → (d : cache.the_row.Denot) (vs : List Val) (m : Option OpenCache) → d.held ≡ m
      → ((h : Val) → d.held ≡ None → vs ≡ both (ptr_val null_ptr) h ∷ [] → Good (layout HZ) h
      → Seq K 𝓛 (‵ (HZ.own_val d.alloc (h ∷ [])) ∷ Γ) G)
      → ((b o : ℕ) (h : Val) (x : OpenCache) → d.held ≡ Some x → vs ≡ both (vptr b o) h ∷ [] → Good (layout HZ) h
      → Testable (block_ptr b o)
      → Seq K 𝓛 (‵ (box_owns (heap_impl.ghosts.dealloc_token d.alloc) CR (block_ptr b o) x) ∷ ‵ (HZ.own_val d.alloc (h ∷
      [])) ∷ Γ) G)
      → Seq K 𝓛 (‵ (cache.the_row.own_val d vs) ∷ Γ) G
  cache_as t d vs None is none one = cache_null t d vs is (λ h. none h is)
  cache_as t d vs (Some x) is none one = cache_out t d vs x is (λ b o h e ws fits.
      let B : Item 𝓤 = ‵ (box_owns (heap_impl.ghosts.dealloc_token d.alloc) CR (block_ptr b o) x) in
      use1 𝓛 (given (Testable (block_ptr b o)) B) (tested 𝓛 d.alloc (block_ptr b o) x) $ learn t
      (λ testable. one b o h x is ws fits testable))

  -- a cache is empty or open
  pub cache_cases : K → (d : cache.the_row.Denot) (vs : List Val)
      → ((h : Val) → d.held ≡ None → vs ≡ both (ptr_val null_ptr) h ∷ [] → Good (layout HZ) h
      → Seq K 𝓛 (‵ (HZ.own_val d.alloc (h ∷ [])) ∷ Γ) G)
      → ((b o : ℕ) (h : Val) (x : OpenCache) → d.held ≡ Some x → vs ≡ both (vptr b o) h ∷ [] → Good (layout HZ) h
      → Testable (block_ptr b o)
      → Seq K 𝓛 (‵ (box_owns (heap_impl.ghosts.dealloc_token d.alloc) CR (block_ptr b o) x) ∷ ‵ (HZ.own_val d.alloc (h ∷
      [])) ∷ Γ) G)
      → Seq K 𝓛 (‵ (cache.the_row.own_val d vs) ∷ Γ) G
  cache_cases t d vs none one = cache_as t d vs d.held refl none one

  pub cache_in : K → (b o : ℕ) (h : Val) (a : Global) (x : OpenCache)
      → Step K 𝓛 (‵ (cache.the_row.own_val (record {
        at = block_ptr b o;
        alloc = a;
        held =
            Some x;
        final_note = None;
      }) (both (vptr b o) h ∷ [])) ∷ Γ) G (‵ (box_owns (heap_impl.ghosts.dealloc_token a) CR (block_ptr b o)
      x) ∷ ‵ (HZ.own_val a (h ∷ [])) ∷ Γ) G
  cache_in t b o h a x = step (λ s. let v : Val = both (vptr b o) h in
      nothing t $ move t (2 ∷ 0 ∷ []) $ fjoin t $ feq_i t (List Val) (vptr b o ∷ []) (vptr b o ∷ []) refl $ fjoin t $
      feq_i t (List Val) (v ∷ []) (v ∷ []) refl $ fjoin t $
      fpack t (Valss (RawPtr ∷ HZ ∷ [])) (within (shape cache.the_type) (block_ptr b o, (((tt, tt), tt), tt)) (v ∷ []))
      (vptr b o ∷ [], (h ∷ [], tt)) $ fjoin t $ s)

  pub cache_none : K → (h : Val) (a : Global)
      → Step K 𝓛 (‵ (cache.the_row.own_val (record {
        at = null_ptr;
        alloc = a;
        held =
            None;
        final_note = None;
      }) (both (ptr_val null_ptr) h ∷ [])) ∷ Γ) G (‵ (HZ.own_val a (h ∷ [])) ∷ Γ) G
  cache_none t h a = step (λ s. let v : Val = both (ptr_val null_ptr) h in
      nothing t $ fpack t (null_ptr ≡ null_ptr) (λ _. ftrue) refl $ nothing t $ move t (2 ∷ 0 ∷ []) $ fjoin t $ feq_i t
      (List Val) (ptr_val null_ptr ∷ []) (ptr_val null_ptr ∷ []) refl $ fjoin t $ feq_i t (List Val) (v ∷ []) (v ∷
      []) refl $ fjoin t $
      fpack t (Valss (RawPtr ∷ HZ ∷ [])) (within (shape cache.the_type) (null_ptr, (((tt, tt), tt), tt)) (v ∷ []))
      (ptr_val null_ptr ∷ [], (h ∷ [], tt)) $ fjoin t $ s)

  -- a closed cache is null too, and keeps a note
  pub cache_closed : K → (h : Val) (a : Global) (l : FinalNote) (vs : List Val)
      → Step K 𝓛 (‵ (cache.the_row.own_val (record {
        at = null_ptr;
        alloc = a;
        held =
            None;
        final_note = Some l;
      }) (both (ptr_val null_ptr) h ∷ [])) ∷ Γ) G (‵ (HZ.own_val a (h ∷ [])) ∷ ‵ (LR.own_val l vs) ∷ Γ) G
  cache_closed t h a l vs = step (λ s. let v : Val = both (ptr_val null_ptr) h in
      move t (1 ∷ []) $ fpack t (List Val) (λ (values : List Val). LR.own_val l values) vs $
      fpack t (null_ptr ≡ null_ptr) (λ _. final_note_owns (Some l)) refl $ nothing t $ move t (2 ∷ 0 ∷ []) $ fjoin t $ feq_i t
      (List Val) (ptr_val null_ptr ∷ []) (ptr_val null_ptr ∷ []) refl $ fjoin t $ feq_i t (List Val) (v ∷ []) (v ∷
      []) refl $ fjoin t $
      fpack t (Valss (RawPtr ∷ HZ ∷ [])) (within (shape cache.the_type) (null_ptr, (((tt, tt), tt), tt)) (v ∷ []))
      (ptr_val null_ptr ∷ [], (h ∷ [], tt)) $ fjoin t $ s)
