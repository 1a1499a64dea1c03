-- Runs that go on with a layout, and what is written at their end.
use Rattle.std.proofs.Common.{◌≡◌, ℕ, List, Option, Some, None, sym, ◌∙◌, ap}
use Rattle.std.specs.Prelude.{codes}
use Rattle.psg_grammar.specs.declared.types.Definition.{Definition}
use Rattle.psg_grammar.specs.Fragments.{Fragment}
use Rattle.psg_layout.specs.declared.layout.Layout.{Layout}
use Rattle.psg_layout.specs.Arranged.{arranged_in}
use Rattle.psg_session.specs.declared.editor.OpenedTree.{OpenedTree}
use Rattle.psg_session.specs.PlainState.{Opened}
use Rattle.psg_session.specs.Replies.{feed}
use Rattle.psg_session.specs.Sessions.{opened_of}
use Rattle.psg_run.specs.declared.status.Status.{Status}
use Rattle.psg_run.specs.Arranging.{ReadsLayout, arranged_text, is_bad_line, is_layout, no_room_for_layout}
use Rattle.psg_run.specs.Reading.{Nowhere}
use Rattle.psg_run.specs.Worlds.{Act, World}

-- a run that ends at its layout ends there whatever it would go on with
pub lays_on : (def : Definition) (bytes : List ℕ) (Next : Layout → Act) (old new : World) (status : Status)
    → ReadsLayout def bytes (λ _. Nowhere) old new status → ReadsLayout def bytes Next old new status
lays_on def bytes Next old new status (is_layout layout read never) = absurd never
lays_on def bytes Next old new status (is_bad_line line code refusal puts) = is_bad_line line code refusal puts
lays_on def bytes Next old new status (no_room_for_layout same) = no_room_for_layout same

-- what is written of what is opened
module _ (def : Definition) (by : Layout) (columns : ℕ) where
  pub nothing_arranged : (o : Option OpenedTree) → o ≡ None → feed (codes "none") ≡ feed (arranged_text def by columns (opened_of o))
  nothing_arranged o none = ap (λ (x : Option OpenedTree). feed (arranged_text def by columns (opened_of x))) (sym none)

  pub opened_arranged : (o : Option Opened) (old : Opened) (f : Fragment) → o ≡ Some old → f ≡ old.tree
      → feed (arranged_in def by columns f).text ≡ feed (arranged_text def by columns o)
  opened_arranged o old f is same =
      ap (λ (x : Fragment). feed (arranged_in def by columns x).text) same
      ∙ ap (λ (x : Option Opened). feed (arranged_text def by columns x)) (sym is)
