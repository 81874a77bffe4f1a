-- Items that are held together of a linear core stay together.
use Rattle.std.proofs.Common.{◌≡◌, ◌≢◌, ℕ, ◌*◌, Option, Some, None, List, [], ◌∷◌, ◌++◌, Ok, Err, slice_set, refl, sym}
use Rattle.std.proofs.Common.{ap, ◌∙◌, inl, inr}
use Rattle.std.specs.List.{slice_get}
use Rattle.std.proofs.lemmas.Bool.{cases_lt}
use Rattle.pool_parts.specs.declared.pull_error.PullError.{PullError}
use Rattle.object_pool_cores.specs.declared.sequential.item.Item.{Item}
use Rattle.object_pool_cores.specs.declared.sequential.linear_core.LinearCore.{LinearCore}
use Rattle.object_pool_cores.specs.Attach.{RefusesAttach}
use Rattle.object_pool_cores.specs.Item.{item_value, item_number, with_value}
use Rattle.pool_world.specs.Pool.{Pool, Absent, Free, Out, IsPool, IsSame, with_place, after_growth}
use Rattle.object_pool_cores.specs.LeastChoice.{PullsLeast}
use Rattle.object_pool_cores.specs.Linear.{core_pool, limit_of, LinearPulls, LinearGives, HeldTogether, IsOutOf}
use Rattle.object_pool_cores.specs.Laws.PoolSteps.{with_place-same, with_place-other, grown-old}
use Rattle.object_pool_cores.specs.Laws.HeldItems.{slice_get-from_set, slice_get-from_push}

module _ {T : Type 0} where
  -- a pull leaves what was out, and its own number comes to it
  pub record LeavesOut (old : Pool T) (n : ℕ) (new : Pool T) : Type 0 where
    pub was_in : old.at n ≡ Out → ⊥
    pub is_out : new.at n ≡ Out
    pub others : (m : ℕ) → old.at m ≡ Out → new.at m ≡ Out

  LeavesOut-taken : (old : Pool T) (n : ℕ) (v : T) (new : Pool T) → old.at n ≡ Free v
      → IsSame new (with_place old n Out) → LeavesOut old n new
  LeavesOut-taken old n v new free taken = record {
    was_in = λ out. let both : Out ≡ Free v = sym out ∙ free in absurd cc;
    is_out = taken.places n ∙ with_place-same old n Out;
    others = λ m out.
        let differ : m ≢ n = λ same. let both : Out ≡ Free v = sym out ∙ ap old.at same ∙ free in absurd cc in
        taken.places m ∙ with_place-other old n m Out differ ∙ out;
  }

  LeavesOut-pulled : (limit : Option ℕ) (answers : Option T → Type 0) (old : Pool T) (n : ℕ) (v : T)
      (new : Pool T) → IsPool limit old → PullsLeast limit answers old (Ok (n, v)) new → LeavesOut old n new
  LeavesOut-pulled limit answers old n v new pool (inl takes) =
      LeavesOut-taken old n v new takes.free takes.taken
  LeavesOut-pulled limit answers old n v new pool (inr grows) =
      let taken = LeavesOut-taken (after_growth old grows.values) n v new grows.takes.free grows.takes.taken in
      let still : (m : ℕ) → old.at m ≡ Out
      → (after_growth old grows.values).at m ≡ Out = λ m out. elim (cases_lt m (32 * old.pages)) [
        | inl inside ↦ grown-old old grows.values m inside ∙ out
        | inr past ↦ let both : Out ≡ Absent = sym out ∙ pool.past m past in absurd cc
      ] in
      record {
        was_in = λ out. taken.was_in (still n out);
        is_out = taken.is_out;
        others = λ m out. taken.others m (still m out);
      }

module _ {T I R K : Type 0} where
  pub HeldTogether-none : (core : LinearCore T I R K) → HeldTogether core []
  HeldTogether-none core =
      record { out = λ index item e. absurd cc; different = λ index other item same e f number. absurd cc }

  -- an item that is out of one core is out of another that leaves its number out
  IsOutOf-kept : (old new : LinearCore T I R K) (item : Item T)
      → ((n : ℕ) → item_number item ≡ Some n → (core_pool old).at n ≡ Out → (core_pool new).at n ≡ Out)
      → IsOutOf old item → IsOutOf new item
  IsOutOf-kept old new item keeps out = (out.0, out.1, keeps out.0 out.1 out.2)

  -- one item more, whose number wasn't out
  HeldTogether-push : (old new : LinearCore T I R K) (held : List (Option (Item T))) (item : Item T) (n : ℕ)
      → HeldTogether old held → item_number item ≡ Some n → LeavesOut (core_pool old) n (core_pool new)
      → HeldTogether new (held ++ Some item ∷ [])
  HeldTogether-push old new held item n together number leaves = record {
    out = λ index other e. elim (slice_get-from_push held index (Some item) (Some other) e) [
      | inl before ↦
          IsOutOf-kept old new other (λ m _ out. leaves.others m out) (together.out index other before)
      | inr last ↦
          let same : item ≡ other = let s = last.1 in cc in
          (n, sym (ap item_number same) ∙ number, leaves.is_out)
    ];
    different = λ index second one two e f numbers.
        elim (slice_get-from_push held index (Some item) (Some one) e) [
          | inl before ↦ elim (slice_get-from_push held second (Some item) (Some two) f) [
            | inl also ↦ together.different index second one two before also numbers
            | inr last ↦
                absurd (apart index one before (numbers ∙ ap item_number (let s = last.1 in
                let back : two ≡ item = cc in back)))
          ]
          | inr last ↦ elim (slice_get-from_push held second (Some item) (Some two) f) [
            | inl before ↦
                absurd (apart second two before (sym numbers
                ∙ ap item_number (let s = last.1 in let back : one ≡ item = cc in back)))
            | inr also ↦ last.0 ∙ sym also.0
          ]
        ];
  }
    where
      apart : (index : ℕ) (other : Item T) → slice_get held index ≡ Some (Some other)
          → item_number other ≡ item_number item → ⊥
      apart index other e same =
          let out = together.out index other e in
          let numbers : Some out.0 ≡ Some n = sym out.1 ∙ same ∙ number in
          let one : out.0 ≡ n = cc in
          leaves.was_in (rw one at out.2)

  -- no more items of the table, or the same numbers
  HeldTogether-fewer :
      (old new : LinearCore T I R K) (held kept : List (Option (Item T))) → HeldTogether old held
      → ((index : ℕ) (item : Item T) → slice_get kept index ≡ Some (Some item)
      → (before : Item T) × (slice_get held index ≡ Some (Some before))
      × (item_number before ≡ item_number item))
      → ((index : ℕ) (item : Item T) → slice_get kept index ≡ Some (Some item) → IsOutOf old item
      → IsOutOf new item)
      → HeldTogether new kept
  HeldTogether-fewer old new held kept together was keeps = record {
    out = λ index item e.
        let before = was index item e in
        let out = together.out index before.0 before.1 in
        keeps index item e (out.0, sym before.2 ∙ out.1, out.2);
    different = λ index other item same e f numbers.
        let one = was index item e in
        let two = was other same f in
        together.different index other one.0 two.0 one.1 two.1 (one.2 ∙ numbers ∙ sym two.2);
  }

  pub HeldTogether-pulled : (answers : Option T → Type 0) (old new : LinearCore T I R K)
      (held : List (Option (Item T))) (item : Item T) → HeldTogether old held
      → LinearPulls answers old (Ok item) new → HeldTogether new (held ++ Some item ∷ [])
  HeldTogether-pulled answers old new held item together pulls =
      let pulled = pulls.pulled in
      HeldTogether-push old new held item pulled.0 together pulled.1
      (LeavesOut-pulled (limit_of old) answers (core_pool old) pulled.0 (item_value item)
      (core_pool new) pulls.step.before pulled.2)

  pub HeldTogether-refused : (answers : Option T → Type 0) (old new : LinearCore T I R K)
      (held : List (Option (Item T))) (cause : PullError) → HeldTogether old held
      → LinearPulls answers old (Err cause) new → HeldTogether new held
  HeldTogether-refused answers old new held cause together pulls =
      HeldTogether-fewer old new held held together (λ index item e. (item, e, refl))
      (λ index item e out. IsOutOf-kept old new item (λ n _ was. pulls.pulled.same.places n ∙ was) out)

  pub HeldTogether-attached : (old new : LinearCore T I R K) (held : List (Option (Item T))) (value : T)
      (item : Item T) → RefusesAttach old value (Ok item) new → HeldTogether new (held ++ Some item ∷ [])
  HeldTogether-attached old new held value item refused = let never = refused.0 in absurd cc

  pub HeldTogether-given : (leaves : T → T → Type 0) (old new : LinearCore T I R K)
      (held : List (Option (Item T))) (index : ℕ) (item : Item T) → HeldTogether old held
      → slice_get held index ≡ Some (Some item) → LinearGives leaves old item new
      → HeldTogether new (slice_set held index None)
  HeldTogether-given leaves old new held index item together here gives =
      HeldTogether-fewer old new held (slice_set held index None) together
      (λ other one e. (one, (left other one e).1, refl))
      (λ other one e out. IsOutOf-kept old new one (λ n number was.
      let differ : n ≢ gives.returned.n = λ same. (left other one e).0
      (together.different other index one item (left other one e).1 here
      (number ∙ ap Some same ∙ sym gives.returned.number)) in
      gives.returned.returned.places n
      ∙ with_place-other (core_pool old) gives.returned.n n (Free gives.returned.kept) differ ∙ was) out)
    where
      left : (other : ℕ) (one : Item T) → slice_get (slice_set held index None) other ≡ Some (Some one)
          → (other ≢ index) × (slice_get held other ≡ Some (Some one))
      left other one e = elim (slice_get-from_set held index other None (Some one) e) [
        | inl same ↦ let never = same.1 in absurd cc
        | inr apart ↦ apart
      ]

  pub HeldTogether-forgotten : (core : LinearCore T I R K) (held : List (Option (Item T))) (index : ℕ)
      → HeldTogether core held → HeldTogether core (slice_set held index None)
  HeldTogether-forgotten core held index together =
      HeldTogether-fewer core core held (slice_set held index None) together
      (λ other one e. elim (slice_get-from_set held index other None (Some one) e) [
        | inl same ↦ let never = same.1 in absurd cc
        | inr apart ↦ (one, apart.1, refl)
      ])
      (λ other one e out. out)

  pub HeldTogether-written : (core : LinearCore T I R K) (held : List (Option (Item T))) (index : ℕ)
      (item : Item T) (value : T) → HeldTogether core held → slice_get held index ≡ Some (Some item)
      → HeldTogether core (slice_set held index (Some (with_value item value)))
  HeldTogether-written core held index item value together here =
      HeldTogether-fewer core core held (slice_set held index (Some (with_value item value))) together
      (λ other one e. elim (slice_get-from_set held index other (Some (with_value item value)) (Some one) e) [
        | inl same ↦
            let written : with_value item value ≡ one = let s = same.1 in cc in
            (item, ap (slice_get held) same.0 ∙ here, ap item_number written)
        | inr apart ↦ (one, apart.1, refl)
      ])
      (λ other one e out. out)
