-- What a letter shows.
use Rattle.std.specs.Prelude.{ℕ, List}
use Rattle.examples.specs.declared.letters.Letter.{Letter}

-- the text on the letter's sheet
abbrev pub text_of : Letter → List ℕ
text_of letter = letter.sheet.item.value.items

-- how long the writer said that it is
abbrev pub len_of : Letter → ℕ
len_of letter = letter.len
