-- The text that a program file is to have, and the first line in which bytes differ from it.
use Rattle.std.specs.Prelude.{ℕ, ◌≡◌, ◌+◌, ◌<◌, ◌==◌, Bool, List, [], ◌∷◌, ◌++◌, get_or, slice_get}
use Rattle.std.specs.List.{slice_split}
use Rattle.psg_grammar.specs.declared.types.Definition.{Definition}
use Rattle.psg_grammar.specs.Fragments.{Fragment}
use Rattle.psg_unparse.specs.Layout.{text_of}

-- the printed text of the tree, and a line feed
abbrev pub formatted : Definition → Fragment → List ℕ
formatted def f = text_of def f ++ 10 ∷ []

-- the byte is a line feed
abbrev pub is_feed : ℕ → Bool
is_feed b = b == 10

-- the pieces between the line feeds, and those before the first and after the last one
abbrev pub pieces : List ℕ → List (List ℕ)
pieces bytes = slice_split is_feed bytes

-- The line, from 1, is the first that is not as it is to be, and the text is what it is to be: nothing, where the bytes
-- are to end before it.
pub record IsFirstDifference (bytes wanted : List ℕ) (line : ℕ) (text : List ℕ) : Type 0 where
  pub before : ℕ
  pub line_is : line ≡ before + 1
  pub same : (k : ℕ) → k < before → slice_get (pieces bytes) k ≡ slice_get (pieces wanted) k
  pub differs : slice_get (pieces bytes) before ≡ slice_get (pieces wanted) before → ⊥
  pub text_is : text ≡ get_or (pieces wanted) before []
