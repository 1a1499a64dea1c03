-- What a note says of its tree, and what is said where there is none.
use Rattle.std.specs.Prelude.{◌≡◌, List, [], ◌∷◌, ◌↔◌}
use Rattle.psg_grammar.specs.declared.types.Kind.{Kind}
use Rattle.psg_grammar.specs.declared.types.Definition.{Definition}
use Rattle.psg_grammar.specs.Fragments.{Fragment}
use Rattle.psg_grammar.specs.Open.{IsOpen}
use Rattle.psg_grammar.specs.Marks.{Mark, good, wrong}
use Rattle.psg_grammar.specs.Paths.{Path}
use Rattle.psg_grammar.specs.Sizes.{IsBig, IsDeep}
use Rattle.psg_grammar.specs.Steps.{IsFirstWide, IsHeavy, IsWide}
use Rattle.psg_grammar.specs.WellFormed.{WellFormed}
pub use Rattle.psg_eval.specs.Starts.{AreTables}
use Rattle.psg_cache.specs.Annotated.{Annotated, tree_in, whole_in}
use Rattle.psg_cache.specs.Noted.{IsNoted}
use Rattle.psg_cache.specs.declared.note.NoteFault.{NoteFault}
use Rattle.psg_cache.specs.declared.note.NoteFault.TheVariants as faults

-- a well-formed tree of some kind
abbrev pub IsFormed : Definition → Fragment → Type 0
IsFormed def f = (kind : Kind) × WellFormed def f kind

-- a tree that goes wrong has a node at which it does
abbrev pub mark_by : List Path → Mark
mark_by [] = good
mark_by (p ∷ ps) = wrong (p ∷ ps)

module _ (def : Definition) (f : Fragment) where
  -- no limit is passed
  pub record IsWithin : Type 0 where
    pub shallow : IsDeep f → ⊥
    pub small : IsBig f → ⊥
    pub narrow : IsWide def f → ⊥
    pub light : IsHeavy def f → ⊥

  -- the note is that of the tree, which passes no limit
  pub record IsNoteOf (n : Annotated) : Type 0 where
    pub tree : tree_in n ≡ f
    pub formed : IsFormed def f
    pub noted : IsNoted def n
    pub within : IsWithin

  -- the tree is open just where its relation has a row
  abbrev pub TellsOpen : Annotated → Type 0
  TellsOpen n = IsOpen def f ↔ ((whole_in n).rel ≡ [] → ⊥)

  -- each fault by its cause, where none before it holds
  abbrev pub IsNoteFault : NoteFault → Type 0
  IsNoteFault faults.Deep = IsDeep f
  IsNoteFault faults.Big = (IsDeep f → ⊥) × IsBig f
  IsNoteFault (faults.Wide path step) = (IsDeep f → ⊥) × (IsBig f → ⊥) × (part : Fragment)
      × IsFirstWide def f (record { path = path; part = part; step = step })
  IsNoteFault faults.Heavy = (IsDeep f → ⊥) × (IsBig f → ⊥) × (IsWide def f → ⊥) × IsHeavy def f
  IsNoteFault faults.Memory = Unit {0}
