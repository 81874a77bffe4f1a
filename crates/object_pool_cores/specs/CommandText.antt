-- How a command is written on a line.
use Rattle.std.specs.Prelude.{◌≡◌, ℕ, ◌≤◌, ◌<◌, ◌^◌, List, ◌∷◌, ◌++◌, All, length, codes}
use Rattle.std.specs.Char.{IsAsciiDigit}
use Rattle.std.specs.Str.Parse.{digits_value}
use Rattle.object_pool_cores.specs.declared.sequential.command.Command.{Command}
use Rattle.object_pool_cores.specs.declared.sequential.command.Command.TheVariants.{Pull, Write, Return, Forget, Attach}

-- the digits write the number: 1 to 10 of them, with a value below 2 ^ 32
pub record IsNumber (text : List ℕ) (n : ℕ) : Type 0 where
  pub some : 1 ≤ length text
  pub most : length text ≤ 10
  pub digits : All IsAsciiDigit text
  pub value : digits_value 10 text ≡ n
  pub small : n < 2 ^ 32

-- the text writes two numbers, with one space between them
abbrev pub AreNumbers : List ℕ → ℕ → ℕ → Type 0
AreNumbers text first second = (a b : List ℕ) × (text ≡ a ++ 32 ∷ b) × IsNumber a first × IsNumber b second

-- the line is the command's word, with its numbers after it
abbrev pub IsCommand : List ℕ → Command ℕ → Type 0
IsCommand line Pull = line ≡ codes "pull"
IsCommand line (Write index value) =
    (rest : List ℕ) × (line ≡ codes "write " ++ rest) × AreNumbers rest index value
IsCommand line (Return index) = (rest : List ℕ) × (line ≡ codes "return " ++ rest) × IsNumber rest index
IsCommand line (Forget index) = (rest : List ℕ) × (line ≡ codes "forget " ++ rest) × IsNumber rest index
IsCommand line (Attach value) = (rest : List ℕ) × (line ≡ codes "attach " ++ rest) × IsNumber rest value

-- the line is no command
abbrev pub IsBadLine : List ℕ → Type 0
IsBadLine line = (command : Command ℕ) → IsCommand line command → ⊥
