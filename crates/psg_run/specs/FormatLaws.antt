-- What `format` writes reads back as the program that it read.
use Rattle.std.specs.Prelude.{ℕ, ◌≡◌, List}
use Rattle.psg_grammar.specs.declared.types.Definition.{Definition}
use Rattle.psg_grammar.specs.declared.types.Kind.{Kind}
use Rattle.psg_grammar.specs.Fragments.{Fragment}
use Rattle.psg_program.specs.Formatted.{formatted}
use Rattle.psg_program.specs.Programs.{IsProgram}

-- What is written of a program file is that program again; and it is the text that it is to be itself, so to format
-- twice is to format once.
pub record FormatsOnce (def : Definition) : Type 0 where
  pub back : (kind : Kind) (bytes : List ℕ) (f : Fragment) → IsProgram def kind bytes f
      → IsProgram def kind (formatted def f) f
  pub once : (kind : Kind) (bytes : List ℕ) (f g : Fragment) → IsProgram def kind bytes f
      → IsProgram def kind (formatted def f) g → formatted def g ≡ formatted def f
