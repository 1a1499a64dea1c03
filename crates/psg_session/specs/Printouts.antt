-- The printed text of the opened fragment, which is kept from one command to the next.
use Rattle.std.specs.Prelude.{◌≡◌, ◌⊎◌, Option, None, Some, option_map, Result, Ok}
use Rattle.psg_grammar.specs.declared.types.Definition.{Definition}
use Rattle.psg_unparse.specs.Spans.{printed_of}
use Rattle.psg_unparse.specs.declared.spans.Printed.{Printed}
use Rattle.psg_cache.specs.Annotated.{tree_in}
use Rattle.psg_session.specs.declared.changes.Proposal.{Proposal}
use Rattle.psg_session.specs.declared.editor.Editor.{Editor}
use Rattle.psg_session.specs.declared.editor.OpenedTree.{OpenedTree}
use Rattle.psg_session.specs.declared.editor.Outcome.{Outcome}
use Rattle.psg_session.specs.declared.session.Parts.{Parts}
use Rattle.psg_session.specs.declared.stop.Stop.{Stop}
use Rattle.psg_session.specs.Edits.{edited}
use Rattle.psg_session.specs.Outcomes.{after}
use Rattle.psg_session.specs.PlainState.{Opened}
use Rattle.psg_session.specs.Sessions.{IsSession, opened_of}

module _ (def : Definition) where
  -- this is the text of the opened fragment; if nothing is opened, there is no text
  abbrev pub IsPrinted : Option Opened → Option Printed → Type 0
  IsPrinted opened printed = printed ≡ option_map (λ old. printed_of def old.tree) opened

  -- no text is kept, or that of the opened fragment
  abbrev pub IsKeptText : Option Opened → Option Printed → Type 0
  IsKeptText opened printed = (printed ≡ None) ⊎ IsPrinted opened printed

  -- no text is known after the outcome, or it is that of the fragment that is opened then
  abbrev pub IsNextText : Editor → Outcome → Option Printed → Type 0
  IsNextText editor outcome printed = IsKeptText (after editor outcome).opened printed

  -- no text is known of the planned tree, or it is that tree's
  pub data IsPlannedText (e : Editor) (plan : Result Proposal Stop) : Option Printed → Type 0 where
    unknown : IsPlannedText e plan None
    known : (held : OpenedTree) (made : Proposal) → e.opened ≡ Some held → plan ≡ Ok made
        → IsPlannedText e plan (Some (printed_of def (edited made.edit (tree_in held.note))))

-- a session that keeps no text, or that of its opened fragment
pub record IsKeeping (p : Parts) (printed : Option Printed) : Type 0 where
  pub session : IsSession p
  pub text : IsKeptText p.language (opened_of p.editor.opened) printed
