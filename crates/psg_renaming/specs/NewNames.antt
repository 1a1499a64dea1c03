-- Which new names an operator is put into a fragment with does not matter, nor do its literals.
use Rattle.std.specs.Prelude.{ℕ, List, Option}
use Rattle.psg_grammar.specs.declared.types.Definition.{Definition}
use Rattle.psg_grammar.specs.Fragments.{Fragment}
use Rattle.psg_grammar.specs.Insertion.{Leaf, AreLeaves, with_operator}
use Rattle.psg_grammar.specs.Lookups.{operator_at, items_of}
use Rattle.psg_grammar.specs.Open.{IsOpen}
use Rattle.psg_grammar.specs.Paths.{Path}
use Rattle.psg_grammar.specs.Steps.{IsWide}
use Rattle.psg_renaming.specs.Occurring.{occurring, leaf_names, AreFresh}

module _ (def : Definition) where
  -- What is said of the fragment with an operator put into it holds for all leaves whose names are new, or for none.
  abbrev pub HoldsForNewNames : (Fragment → Type 0) → Type 0
  HoldsForNewNames P = (f : Fragment) (path : Path) (k : Option ℕ) (o : ℕ) (one two : List Leaf)
      → AreLeaves def (items_of (operator_at def o)) one → AreLeaves def (items_of (operator_at def o)) two
      → AreFresh (occurring f) (leaf_names one) → AreFresh (occurring f) (leaf_names two)
      → P (with_operator def f path k o one) → P (with_operator def f path k o two)

  -- Whether it is open does not depend on them.
  abbrev pub OpenForNewNames : Type 0
  OpenForNewNames = HoldsForNewNames (IsOpen def)

  -- Whether a relation of it is too large does not depend on them.
  abbrev pub WideForNewNames : Type 0
  WideForNewNames = HoldsForNewNames (IsWide def)
