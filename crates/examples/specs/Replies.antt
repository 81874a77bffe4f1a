-- What a reply says.
use Rattle.std.specs.Prelude.{ℕ, List, ◌++◌, codes}

-- a greeting by name
abbrev pub greeting_of : List ℕ → List ℕ
greeting_of name = codes "hello, " ++ name ++ codes "\n"
