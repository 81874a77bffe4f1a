-- What the words of a line say of its numbers.
use Rattle.std.proofs.Common.{◌≡◌, ◌≢◌, ℕ, List, [], ◌∷◌, ◌++◌, refl, sym, ap, ◌∙◌, arith}
use Rattle.std.specs.Prelude.{All, codes, slice_index}
use Rattle.std.specs.Char.{IsAsciiDigit}
use Rattle.std.proofs.lemmas.List.Elements.{All-head, All-tail, All-weaker}
use Rattle.object_pool_cores.specs.declared.sequential.command.Command.TheVariants.{Pull, Write, Return, Forget, Attach}
use Rattle.object_pool_cores.specs.CommandText.{IsNumber, AreNumbers, IsBadLine}

-- no byte is a space
abbrev pub HasNoSpace : List ℕ → Type 0
HasNoSpace text = All (λ byte. byte ≢ 32) text

-- a number has no space
HasNoSpace-number : (text : List ℕ) (n : ℕ) → IsNumber text n → HasNoSpace text
HasNoSpace-number text n number =
    All-weaker IsAsciiDigit (λ byte. byte ≢ 32) (λ byte digit. omega arith) text number.digits

-- two numbers have a space between them
pub AreNumbers-space : (text : List ℕ) (first second : ℕ) → HasNoSpace text → AreNumbers text first second → ⊥
AreNumbers-space text first second none numbers = with_space numbers.0 numbers.1 (rw numbers.2 at none)
  where
    with_space : (a b : List ℕ) → HasNoSpace (a ++ 32 ∷ b) → ⊥
    with_space [] b clear = All-head (λ byte. byte ≢ 32) 32 b clear refl
    with_space (x ∷ a) b clear = with_space a b (All-tail (λ byte. byte ≢ 32) x (a ++ 32 ∷ b) clear)

-- the first space cuts a text in one way
same_parts : (a b c d : List ℕ) → HasNoSpace a → HasNoSpace c → a ++ 32 ∷ b ≡ c ++ 32 ∷ d → (a ≡ c) × (b ≡ d)
same_parts [] b [] d front other e = (refl, cc)
same_parts [] b (y ∷ c) d front other e = let space : 32 ≡ y = cc in
    absurd (All-head (λ byte. byte ≢ 32) y c other (sym space))
same_parts (x ∷ a) b [] d front other e = let space : x ≡ 32 = cc in
    absurd (All-head (λ byte. byte ≢ 32) x a front space)
same_parts (x ∷ a) b (y ∷ c) d front other e =
    let tails : a ++ 32 ∷ b ≡ c ++ 32 ∷ d = cc in
    let rest = same_parts a b c d (All-tail (λ byte. byte ≢ 32) x a front)
    (All-tail (λ byte. byte ≢ 32) y c other) tails in
    (let head : x ≡ y = cc in let tail = rest.0 in cc, rest.1)

-- two numbers are what stands before the first space and behind it
pub AreNumbers-parts : (text front back : List ℕ) (first second : ℕ) → HasNoSpace front → text ≡ front ++ 32 ∷ back
    → AreNumbers text first second → IsNumber front first × IsNumber back second
AreNumbers-parts text front back first second clear cut numbers =
    let same = same_parts numbers.0 numbers.1 front back (HasNoSpace-number numbers.0 first numbers.3) clear
    (sym numbers.2 ∙ cut) in (rw same.0 at numbers.3, rw same.1 at numbers.4)

-- a line that begins as a write is a write
pub IsBadLine-write : (line rest : List ℕ) → line ≡ codes "write " ++ rest
    → ((first second : ℕ) → AreNumbers rest first second → ⊥) → IsBadLine line
IsBadLine-write line rest begins none Pull is = let letters : 112 ≡ 119 =
    ap (λ bytes. slice_index bytes 0) (sym is ∙ begins) in omega (arith, letters)
IsBadLine-write line rest begins none (Write index value) is =
    let same : is.0 ≡ rest = let e = sym is.1 ∙ begins in cc in
    none index value (rw same at is.2)
IsBadLine-write line rest begins none (Return index) is =
    let letters : 114 ≡ 119 = ap (λ bytes. slice_index bytes 0) (sym is.1 ∙ begins) in omega (arith, letters)
IsBadLine-write line rest begins none (Forget index) is =
    let letters : 102 ≡ 119 = ap (λ bytes. slice_index bytes 0) (sym is.1 ∙ begins) in omega (arith, letters)
IsBadLine-write line rest begins none (Attach value) is =
    let letters : 97 ≡ 119 = ap (λ bytes. slice_index bytes 0) (sym is.1 ∙ begins) in omega (arith, letters)
