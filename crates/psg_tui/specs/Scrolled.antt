-- What a picture leaves.
use Rattle.std.specs.Prelude.{◌≡◌}
use Rattle.psg_grammar.specs.Fragments.{Fragment}
use Rattle.psg_tui.specs.declared.editing.Editing.{Editing}
use Rattle.psg_tui.specs.Editing.{IsAt, IsOfProgram}
use Rattle.psg_tui.specs.Showing.{unscrolled}
use Rattle.psg_tui.specs.Views.{shown_face}

-- all is as before, except what is known of the program, and where the window is
pub record IsScrolled (old new : Editing) : Type 0 where
  pub program : IsOfProgram old new
  pub file : new.file ≡ old.file
  pub written : new.written ≡ old.written
  pub face : (tree : Fragment) → IsAt old tree
      → unscrolled (shown_face tree new.aim new.face) ≡ unscrolled (shown_face tree old.aim old.face)
