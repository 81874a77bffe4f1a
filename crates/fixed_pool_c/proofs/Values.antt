-- The machine values of a `RawBox` and of a `Handle`. Assumes `Logic`.
use Rattle.std.proofs.Common.{◌≡◌, ℕ, List, [], ◌∷◌, ◌++◌, refl, subst, lit<}
use mathlib.Core.Bool.{true, ◌&&◌}
use lib.Dec.{T}
use seplogic.Ra.Ura.{Ura}
use mir.Syntax.{Dict, impl, tnil, dnil}
use mir.Raw.{raw as bare}
use mir.Val.{Val, vptr, vstruct, vcons, vnil, of_list, has_ty, WT}
use base.Logic.{SProp, ent, guard, never, fst∗, snd∗, via, guard_i}
use base.Fml.{ftrue}
use base.Fraction.{full_share}
use types.Logic.{Logic, sem}
use types.Kit.{Item, Goal, Seq, Step, step, ‵, given, ◌$◌, move, drop, learn, use1, fsplit, fjoin, fpick, fpack}
use types.Kit.{rewrite, feq_i, feq_l}
use contract.Monad.{fact_use}
use denote.RattleType.{RattleType, Valss}
use denote.Builtin.{RawPtr}
use denote.Memory.{lone}
use denote.RawPtr.{Ptr, block_ptr, null_ptr, ptr_val, in_a_block, lies_at, Testable}
use denote.Steps.{nothing}
use denote.Param.{layout}
use denote.Param.Laws.{Laws}
use denote.Struct.Struct.{within}
use denote.Struct.Owning.{shape}
use Rattle.std.specs.declared.alloc.Allocator.{Ghosts}
use Rattle.std.proofs.alloc.Calls.{Al, handle_tells}
use Rattle.std.proofs.cell.Inside.{Good}
use Rattle.std_alloc.specs.Box.Ownership.{box_owns}
use Rattle.std_alloc.proofs.BoxSteps.Form.{Bx}
use Rattle.std_alloc.proofs.ResultValues.{and_tt}
use Rattle.std_heap.proofs.GlobalToken.{dealloc_token-Testable}
use Rattle.fixed_pool_c.specs.contracts.raw_box.RawBox as raw
use Rattle.fixed_pool_c.specs.contracts.handle.Handle as handle
use Rattle.fixed_pool_c.specs.contracts.open_handle.OpenHandle as held
use Rattle.std_heap.specs.contracts.Global as heap
use Rattle.std_heap.proofs.Global.TheLaws as heap_laws
use Rattle.std_heap.specs.contracts.GlobalAllocator.TheImpl as heap_impl
use Rattle.std_heap.specs.declared.Global.{Global}
use Rattle.fixed_pool_c.specs.contracts.open_handle.FinalNote as last
use Rattle.fixed_pool_c.proofs.open_handle.FinalNote.TheLaws as last_laws
use Rattle.fixed_pool_c.specs.declared.open_handle.OpenHandle.{OpenHandle}
use Rattle.fixed_pool_c.specs.declared.open_handle.FinalNote.{FinalNote}
use Rattle.fixed_pool_c.specs.HandleOwns.{handle_owns, final_note_owns}
use Rattle.std.specs.Prelude.{Option, Some, None}

abbrev pub both : Val → Val → Val
both v w = vstruct (vcons v (vcons w vnil))

-- a box with its allocator, as the steps on boxes take it
abbrev pub boxed : (R : RattleType) → Laws R → (Z : RattleType) → Laws Z → Ghosts Z.Denot → Dict → Dict → Bx
boxed R L Z LZ g d drops =
    record { row = R; laws = L; al = record { row = Z; laws = LZ; g = g; d = d; drops = drops } }

module _ (R Z : RattleType) (L : Laws Z) (g : Ghosts Z.Denot) where
  abbrev pub RawBox : RattleType
  RawBox = raw.the_row R Z g

  abbrev al : Al
  al = record { row = Z; laws = L; g = g; d = impl [] tnil dnil; drops = impl [] tnil dnil }

  pub raw_good : (b o : ℕ) (h : Val) → Good (layout Z) h → T (has_ty (layout Z) h && true) × WT (both (vptr b o) h)
  raw_good b o h fits = (and_tt (has_ty (layout Z) h) fits.0, (tt, (fits.1, tt)))

  module _ {M : Type 1} {𝓤 : Ura M} {𝓛 : Logic 𝓤} {K : Type 0} {Γ : List (Item 𝓤)} {G : Goal 𝓤 𝓛.H} where
    pub raw_out : K → (d : RawBox.Denot) (vs : List Val)
        → ((b o : ℕ) (h : Val) → d.at ≡ block_ptr b o → vs ≡ both (vptr b o) h ∷ [] → Good (layout Z) h
        → Seq K 𝓛 (‵ (box_owns (g.dealloc_token d.alloc) R (block_ptr b o) d.value) ∷ ‵ (Z.own_val d.alloc (h ∷ []))
        ∷ Γ) G)
        → Seq K 𝓛 (‵ (RawBox.own_val d vs) ∷ Γ) G
    raw_out t d vs k =
        fsplit t $ fpick t (λ vss. fsplit t $ feq_l t (λ ev. fsplit t $ feq_l t
        (λ ep. fsplit t $ handle_tells al t d.alloc vss.1.0
        (λ h ea fits. move t (1 ∷ []) $ drop t $ move t (1 ∷ []) $
        in_a_block t d.at (λ p. box_owns (g.dealloc_token d.alloc) R p d.value) (fst∗ 𝓤 (never 𝓤) (sem 𝓛
        (g.dealloc_token d.alloc (bare (lone R.mir)) null_ptr))) (λ b o e. k b o h e
        (subst (λ (p : Ptr). vs ≡ vstruct (of_list (ptr_val p ∷ h ∷ [])) ∷ []) e
        (subst (λ (ws : List Val). vs ≡ vstruct (of_list (ptr_val d.at ∷ (ws ++ []))) ∷ []) ea (subst
        (λ (ps : List Val). vs ≡ vstruct (of_list (ps ++ (vss.1.0 ++ []))) ∷ []) ep ev))) fits)))))

    pub loose_in : K → (b o : ℕ) (h : Val) (a : Z.Denot) (x : R.Denot)
        → Step K 𝓛 (‵ (RawBox.own_val (record {
          at = block_ptr b o;
          alloc = a;
          value =
              x;
        }) (both (vptr b o) h ∷ [])) ∷ Γ) G (‵ (box_owns (g.dealloc_token a) R (block_ptr b o) x) ∷ ‵ (Z.own_val a
        (h ∷ [])) ∷ Γ) G
    loose_in t b o h a x = step (λ s. let v : Val = both (vptr b o) h in
        nothing t $ move t (2 ∷ 0 ∷ []) $ fjoin t $ feq_i t (List Val) (vptr b o ∷ []) (vptr b o ∷ []) refl $ fjoin t $
        feq_i t (List Val) (v ∷ []) (v ∷ []) refl $ fjoin t $
        fpack t (Valss (RawPtr ∷ Z ∷ [])) (within (shape (raw.the_type R Z g)) (block_ptr b o, (a, tt)) (v ∷ []))
        (vptr b o ∷ [], (h ∷ [], tt)) $ fjoin t $ s)

-- the handle, in place of a generic box
abbrev pub HZ : RattleType
HZ = heap.the_row

abbrev pub HR : RattleType
HR = held.the_row

abbrev pub HRaw : RattleType
HRaw = RawBox HR HZ heap_laws.the_row_laws heap_impl.ghosts

abbrev pub hal : Al
hal = al HR HZ heap_laws.the_row_laws heap_impl.ghosts

-- what a closed handle keeps
abbrev pub LR : RattleType
LR = last.the_row

abbrev pub lal : Al
lal = record {
  row = LR;
  laws = last_laws.the_row_laws;
  g = record { dealloc_token = λ _ _ _. ftrue };
  d = impl [] tnil dnil;
  drops = impl [] tnil dnil;
}

-- what lies at a handle's pointer may be freed, so the pointer may be compared with null
tested : {M : Type 1} {𝓤 : Ura M} (𝓛 : Logic 𝓤) (a : Global) (p : Ptr) (x : OpenHandle)
    → ent 𝓤 (sem 𝓛 (box_owns (heap_impl.ghosts.dealloc_token a) HR p x)) (guard 𝓤 (Testable p) (sem 𝓛 (box_owns
    (heap_impl.ghosts.dealloc_token a) HR p x)))
tested {𝓤 = 𝓤} 𝓛 a p x = let B : SProp 𝓤 = sem 𝓛 (box_owns (heap_impl.ghosts.dealloc_token a) HR p x) in
    fact_use 𝓤 (Testable p) (via 𝓤 _ (snd∗ 𝓤 (sem 𝓛 (lies_at HR full_share p x)) (sem 𝓛 (heap_impl.ghosts.dealloc_token
    a (bare (lone HR.mir)) p))) (dealloc_token-Testable 𝓛 a (bare (lone HR.mir)) p)) (guard_i 𝓤 (Testable p) B)

module _ {M : Type 1} {𝓤 : Ura M} {𝓛 : Logic 𝓤} {K : Type 0} {Γ : List (Item 𝓤)} {G : Goal 𝓤 𝓛.H} where
  pub handle_out : K → (d : handle.the_row.Denot) (vs : List Val) (x : OpenHandle) → d.held ≡ Some x
      → ((b o : ℕ) (h : Val) → d.at ≡ block_ptr b o → vs ≡ both (vptr b o) h ∷ [] → Good (layout HZ) h
      → Seq K 𝓛 (‵ (box_owns (heap_impl.ghosts.dealloc_token d.alloc) HR (block_ptr b o) x) ∷ ‵ (HZ.own_val d.alloc
      (h ∷ [])) ∷ Γ) G)
      → Seq K 𝓛 (‵ (handle.the_row.own_val d vs) ∷ Γ) G
  handle_out t d vs x is k =
      fsplit t $ fpick t (λ vss. fsplit t $ feq_l t (λ ev. fsplit t $ feq_l t
      (λ ep. fsplit t $ handle_tells hal t d.alloc vss.1.0
      (λ h ea fits. move t (1 ∷ []) $ drop t $ move t (1 ∷ []) $
      rewrite t 0 (λ (m : Option OpenHandle). ‵ (handle_owns d.alloc d.at m d.final_note)) is refl $
      in_a_block t d.at (λ p. box_owns (heap_impl.ghosts.dealloc_token d.alloc) HR p x) (fst∗ 𝓤 (never 𝓤) (sem 𝓛
      (heap_impl.ghosts.dealloc_token d.alloc (bare (lone HR.mir)) null_ptr))) (λ b o e. k b o h e
      (subst (λ (p : Ptr). vs ≡ vstruct (of_list (ptr_val p ∷ h ∷ [])) ∷ []) e
      (subst (λ (ws : List Val). vs ≡ vstruct (of_list (ptr_val d.at ∷ (ws ++ []))) ∷ []) ea (subst
      (λ (ps : List Val). vs ≡ vstruct (of_list (ps ++ (vss.1.0 ++ []))) ∷ []) ep ev))) fits)))))

  -- an empty handle is null
  pub handle_null : K → (d : handle.the_row.Denot) (vs : List Val) → d.held ≡ None
      → ((h : Val) → vs ≡ both (ptr_val null_ptr) h ∷ [] → Good (layout HZ) h
      → Seq K 𝓛 (‵ (HZ.own_val d.alloc (h ∷ [])) ∷ Γ) G)
      → Seq K 𝓛 (‵ (handle.the_row.own_val d vs) ∷ Γ) G
  handle_null t d vs is k =
      fsplit t $ fpick t (λ vss. fsplit t $ feq_l t (λ ev. fsplit t $ feq_l t
      (λ ep. fsplit t $ handle_tells hal t d.alloc vss.1.0
      (λ h ea fits. move t (1 ∷ []) $ drop t $ move t (1 ∷ []) $
      rewrite t 0 (λ (m : Option OpenHandle). ‵ (handle_owns d.alloc d.at m d.final_note)) is refl $ fpick t (λ null. drop t $ k h
      (subst (λ (p : Ptr). vs ≡ vstruct (of_list (ptr_val p ∷ h ∷ [])) ∷ []) null
      (subst (λ (ws : List Val). vs ≡ vstruct (of_list (ptr_val d.at ∷ (ws ++ []))) ∷ []) ea (subst
      (λ (ps : List Val). vs ≡ vstruct (of_list (ps ++ (vss.1.0 ++ []))) ∷ []) ep ev))) fits)))))

  handle_as : K → (d : handle.the_row.Denot) (vs : List Val) (m : Option OpenHandle) → d.held ≡ m
      → ((h : Val) → d.held ≡ None → vs ≡ both (ptr_val null_ptr) h ∷ [] → Good (layout HZ) h
      → Seq K 𝓛 (‵ (HZ.own_val d.alloc (h ∷ [])) ∷ Γ) G)
      → ((b o : ℕ) (h : Val) (x : OpenHandle) → d.held ≡ Some x → vs ≡ both (vptr b o) h ∷ [] → Good (layout HZ) h
      → Testable (block_ptr b o)
      → Seq K 𝓛 (‵ (box_owns (heap_impl.ghosts.dealloc_token d.alloc) HR (block_ptr b o) x) ∷ ‵ (HZ.own_val d.alloc (h ∷
      [])) ∷ Γ) G)
      → Seq K 𝓛 (‵ (handle.the_row.own_val d vs) ∷ Γ) G
  handle_as t d vs None is none one = handle_null t d vs is (λ h. none h is)
  handle_as t d vs (Some x) is none one = handle_out t d vs x is (λ b o h e ws fits.
      let B : Item 𝓤 = ‵ (box_owns (heap_impl.ghosts.dealloc_token d.alloc) HR (block_ptr b o) x) in
      use1 𝓛 (given (Testable (block_ptr b o)) B) (tested 𝓛 d.alloc (block_ptr b o) x) $ learn t
      (λ testable. one b o h x is ws fits testable))

  -- a handle is empty or open
  pub handle_cases : K → (d : handle.the_row.Denot) (vs : List Val)
      → ((h : Val) → d.held ≡ None → vs ≡ both (ptr_val null_ptr) h ∷ [] → Good (layout HZ) h
      → Seq K 𝓛 (‵ (HZ.own_val d.alloc (h ∷ [])) ∷ Γ) G)
      → ((b o : ℕ) (h : Val) (x : OpenHandle) → d.held ≡ Some x → vs ≡ both (vptr b o) h ∷ [] → Good (layout HZ) h
      → Testable (block_ptr b o)
      → Seq K 𝓛 (‵ (box_owns (heap_impl.ghosts.dealloc_token d.alloc) HR (block_ptr b o) x) ∷ ‵ (HZ.own_val d.alloc (h ∷
      [])) ∷ Γ) G)
      → Seq K 𝓛 (‵ (handle.the_row.own_val d vs) ∷ Γ) G
  handle_cases t d vs none one = handle_as t d vs d.held refl none one

  pub handle_in : K → (b o : ℕ) (h : Val) (a : Global) (x : OpenHandle)
      → Step K 𝓛 (‵ (handle.the_row.own_val (record {
        at = block_ptr b o;
        alloc = a;
        held =
            Some x;
        final_note = None;
      }) (both (vptr b o) h ∷ [])) ∷ Γ) G (‵ (box_owns (heap_impl.ghosts.dealloc_token a) HR (block_ptr b o)
      x) ∷ ‵ (HZ.own_val a (h ∷ [])) ∷ Γ) G
  handle_in t b o h a x = step (λ s. let v : Val = both (vptr b o) h in
      nothing t $ move t (2 ∷ 0 ∷ []) $ fjoin t $ feq_i t (List Val) (vptr b o ∷ []) (vptr b o ∷ []) refl $ fjoin t $
      feq_i t (List Val) (v ∷ []) (v ∷ []) refl $ fjoin t $
      fpack t (Valss (RawPtr ∷ HZ ∷ [])) (within (shape handle.the_type) (block_ptr b o, (((tt, tt), tt), tt)) (v ∷ []))
      (vptr b o ∷ [], (h ∷ [], tt)) $ fjoin t $ s)

  pub handle_none : K → (h : Val) (a : Global)
      → Step K 𝓛 (‵ (handle.the_row.own_val (record {
        at = null_ptr;
        alloc = a;
        held =
            None;
        final_note = None;
      }) (both (ptr_val null_ptr) h ∷ [])) ∷ Γ) G (‵ (HZ.own_val a (h ∷ [])) ∷ Γ) G
  handle_none t h a = step (λ s. let v : Val = both (ptr_val null_ptr) h in
      nothing t $ fpack t (null_ptr ≡ null_ptr) (λ _. ftrue) refl $ nothing t $ move t (2 ∷ 0 ∷ []) $ fjoin t $ feq_i t
      (List Val) (ptr_val null_ptr ∷ []) (ptr_val null_ptr ∷ []) refl $ fjoin t $ feq_i t (List Val) (v ∷ []) (v ∷
      []) refl $ fjoin t $
      fpack t (Valss (RawPtr ∷ HZ ∷ [])) (within (shape handle.the_type) (null_ptr, (((tt, tt), tt), tt)) (v ∷ []))
      (ptr_val null_ptr ∷ [], (h ∷ [], tt)) $ fjoin t $ s)

  -- a closed handle is null too, and keeps a note
  pub handle_closed : K → (h : Val) (a : Global) (l : FinalNote) (vs : List Val)
      → Step K 𝓛 (‵ (handle.the_row.own_val (record {
        at = null_ptr;
        alloc = a;
        held =
            None;
        final_note = Some l;
      }) (both (ptr_val null_ptr) h ∷ [])) ∷ Γ) G (‵ (HZ.own_val a (h ∷ [])) ∷ ‵ (LR.own_val l vs) ∷ Γ) G
  handle_closed t h a l vs = step (λ s. let v : Val = both (ptr_val null_ptr) h in
      move t (1 ∷ []) $ fpack t (List Val) (λ (values : List Val). LR.own_val l values) vs $
      fpack t (null_ptr ≡ null_ptr) (λ _. final_note_owns (Some l)) refl $ nothing t $ move t (2 ∷ 0 ∷ []) $ fjoin t $ feq_i t
      (List Val) (ptr_val null_ptr ∷ []) (ptr_val null_ptr ∷ []) refl $ fjoin t $ feq_i t (List Val) (v ∷ []) (v ∷
      []) refl $ fjoin t $
      fpack t (Valss (RawPtr ∷ HZ ∷ [])) (within (shape handle.the_type) (null_ptr, (((tt, tt), tt), tt)) (v ∷ []))
      (ptr_val null_ptr ∷ [], (h ∷ [], tt)) $ fjoin t $ s)

pub none_good : (h : Val) → Good (layout HZ) h → T (has_ty (layout HZ) h && true) × WT (both (ptr_val null_ptr) h)
none_good h fits = (and_tt (has_ty (layout HZ) h) fits.0, (record { fits = lit< tt }, (fits.1, tt)))
