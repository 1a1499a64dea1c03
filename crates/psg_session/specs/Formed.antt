-- States whose fragments are trees of their kinds, and can be printed so that they read back.
use Rattle.std.specs.Prelude.{◌≡◌, Some, IsUtf8}
use Rattle.std.specs.List.{AllByRecursion}
use Rattle.psg_grammar.specs.declared.types.Definition.{Definition}
use Rattle.psg_grammar.specs.Fragments.{Fragment}
use Rattle.psg_grammar.specs.Paths.{node_at}
use Rattle.psg_grammar.specs.Printable.{IsPrintable}
use Rattle.psg_grammar.specs.WellFormed.{WellFormed}
use Rattle.psg_script.specs.declared.command.Command.{Command}
use Rattle.psg_script.specs.declared.command.Command.TheVariants.{Over, Range}
use Rattle.psg_session.specs.PlainState.{State, Opened}
use Rattle.psg_library.specs.declared.fragment.SavedFragment.{SavedFragment as Saved}

-- the opened fragment, its earlier and its later trees and the saved ones are printable
pub record IsPrintableState (s : State) : Type 0 where
  pub opened : (old : Opened) → s.opened ≡ Some old → IsPrintable old.tree
  pub earlier : AllByRecursion IsPrintable s.earlier
  pub later : AllByRecursion IsPrintable s.later
  pub saved : AllByRecursion (λ (x : Saved). IsPrintable x.tree) s.saved

module _ (def : Definition) where
  -- a saved fragment is a tree of its kind
  abbrev pub IsFormedSaved : Saved → Type 0
  IsFormedSaved x = WellFormed def x.tree x.kind

  -- The opened fragment, its earlier and its later trees are of its kind, the saved ones of theirs, all are printable,
  -- and the cursor leads to a node.
  pub record IsFormedState (s : State) : Type 0 where
    pub opened : (old : Opened) → s.opened ≡ Some old → WellFormed def old.tree old.kind
    pub cursor : (old : Opened) → s.opened ≡ Some old → (node : Fragment) × (node_at old.tree s.cursor ≡ Some node)
    pub earlier : (old : Opened) → s.opened ≡ Some old → AllByRecursion (λ f. WellFormed def f old.kind) s.earlier
    pub later : (old : Opened) → s.opened ≡ Some old → AllByRecursion (λ f. WellFormed def f old.kind) s.later
    pub saved : AllByRecursion IsFormedSaved s.saved
    pub printable : IsPrintableState s

-- the texts that are typed with a command are UTF-8
abbrev pub HasText : Command → Type 0
HasText (Over place text) = IsUtf8 text
HasText (Range start end text) = IsUtf8 text
HasText _ = Unit {0}
