-- That bytes are one program of a kind at most, or are none for one reason at one place, and not both.
use Rattle.std.specs.Prelude.{ℕ, ◌≡◌, List}
use Rattle.psg_grammar.specs.declared.types.Definition.{Definition}
use Rattle.psg_grammar.specs.declared.types.Kind.{Kind}
use Rattle.psg_grammar.specs.Fragments.{Fragment}
use Rattle.psg_program.specs.Programs.{IsFaulty, IsProgram}

pub record HasOneAnswer (def : Definition) : Type 0 where
  pub one_program : (kind : Kind) (bytes : List ℕ) (f g : Fragment) → IsProgram def kind bytes f
      → IsProgram def kind bytes g → f ≡ g
  pub not_both : (kind : Kind) (bytes : List ℕ) (f : Fragment) (line column : ℕ) (message : List ℕ)
      → IsProgram def kind bytes f → IsFaulty def kind bytes line column message → ⊥
  pub one_fault : (kind : Kind) (bytes : List ℕ) (line column line' column' : ℕ) (message message' : List ℕ)
      → IsFaulty def kind bytes line column message → IsFaulty def kind bytes line' column' message'
      → (line' ≡ line) × (column' ≡ column) × (message' ≡ message)
