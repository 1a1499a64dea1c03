-- A command that was done or refused, and what the editor keeps after it.
use Rattle.std.proofs.Common.{◌≡◌, ℕ, Bool, true, false, cond, Option, Some, None, List, refl, sym, ap, ◌∙◌, subst}
use Rattle.std.specs.Prelude.{◌&&◌, ◌==◌}
use Rattle.psg_grammar.specs.declared.types.Definition.{Definition}
use Rattle.psg_grammar.specs.declared.types.Kind.{Kind}
use Rattle.psg_grammar.specs.Fragments.{Fragment}
use Rattle.psg_grammar.specs.Legal.{IsCompletable}
use Rattle.psg_keys.specs.Reading.{Spelled}
use Rattle.psg_keymap.specs.declared.face.Face.{Face as Kept}
use Rattle.psg_keymap.specs.declared.table.Due.{Due}
use Rattle.psg_keymap.specs.OfKeys.{is_of_keys}
use Rattle.psg_keymap.specs.Table.{is_undo}
use Rattle.psg_script.specs.declared.command.Command.{Command}
use Rattle.psg_session.specs.declared.session.Parts.{Parts}
use Rattle.psg_session.specs.Applied.{HasApplied, IsRefusal}
use Rattle.psg_session.specs.Exchanges.{Outside}
use Rattle.psg_session.specs.PlainState.{State}
use Rattle.psg_session.specs.Replies.{Reply, refused, answered}
use Rattle.psg_session.specs.Sessions.{state_of}
use Rattle.psg_tui.specs.declared.editing.Aim.TheVariants as aims
use Rattle.psg_tui.specs.declared.editing.Editing.{Editing}
use Rattle.psg_tui.specs.declared.shown.Shown.{Shown}
use Rattle.psg_tui.specs.Editing.{IsAt, IsHeard, IsOfSame, IsShown}
use Rattle.psg_tui.specs.Pressing.{Desk, Does, IsOpened, with_face}
use Rattle.psg_tui.specs.Views.{desk, desk_of, face_of}
use Rattle.psg_tui.proofs.PressLaws.{desk_settled}
use Rattle.psg_tui.proofs.TurnLaws.{program_left}
use Rattle.psg_keymap.specs.Faces as faces
use Rattle.psg_modes.specs.Pages.{key_lines}
use Rattle.psg_modes.specs.Turning.{saying}
use Rattle.psg_session.specs.declared.refusal.Refusal.TheVariants as refusals
use Rattle.psg_session.specs.Refusals.{number_of}
use Rattle.psg_tui.specs.Replied.{heard, number_in}
use Rattle.psg_tui.proofs.ReplyLaws.{heard_reply, kept_opened}

cond_false : (b : Bool) (X Y : Type 0) → b ≡ false → Y → cond b X Y
cond_false b X Y e y = subst (λ (c : Bool). cond c X Y) (sym e) y

cond_true : (b : Bool) (X Y : Type 0) → b ≡ true → X → cond b X Y
cond_true b X Y e x = subst (λ (c : Bool). cond c X Y) (sym e) x

pub does_so : (def : Definition) (kind : Kind) (page : List (List ℕ)) (d e : Desk) (s t : State) (old new : Fragment)
    (stroke : Spelled) (before after : Outside) (from to : ℕ) (due : Due) (reply : Reply)
    → (is_undo due.command && (d.versions == 0)) ≡ false → HasApplied def s t due.command before after from to reply
    → e ≡ heard new (number_in reply) due d
    → Does def kind page d e s t old new stroke before after (Some due)
does_so def kind page d e s t old new stroke before after from to due reply other applied is =
    cond_false (is_undo due.command && (d.versions == 0)) _ _ other
    (from, to, reply, applied, is ∙ heard_reply new reply due d)

abbrev pub due_of : Command → Option (List ℕ) → Due
due_of command grown = record { command = command; grown = grown }

-- undo at the program with which the editor began
pub first_so : (a b : Editing) → b ≡ record a { face = b.face } → a.aim ≡ aims.Settled → (tree : Fragment) (due : Due)
    → (is_undo due.command && (a.versions == 0)) ≡ true
    → desk b ≡ with_face (desk a) (saying (faces.refused (number_of refusals.NothingEarlier)) (face_of a.face))
    → (stroke : Spelled) (before : Outside)
    → Does a.session.language a.kind key_lines (desk a) (desk_of tree b) (state_of a.session.editor)
    (state_of b.session.editor) tree tree stroke before before (Some due)
first_so a b left settled tree due so said stroke before =
    cond_true (is_undo due.command && (a.versions == 0)) _ _ so (
      ap (λ (x : Editing). state_of x.session.editor) left,
      desk_settled b tree (ap (λ (x : Editing). x.aim) left ∙ settled) ∙ said,
      refl,
    )

pub first_at : (a b : Editing) → b ≡ record a { face = b.face } → (tree : Fragment) → IsAt a tree → IsAt b tree
first_at a b left tree at = (program_left a b left).at tree at

pub does_heard : (a b : Editing) (p : Parts) → IsHeard (record a { session = p }) b → (tree new : Fragment)
    (stroke : Spelled) (before after : Outside) (from to : ℕ) (due : Due) (reply : Reply)
    → (is_undo due.command && (a.versions == 0)) ≡ false
    → HasApplied a.session.language (state_of a.session.editor) (state_of p.editor) due.command before after from to reply
    → desk_of new b ≡ heard new (number_in reply) due (desk a)
    → Does a.session.language a.kind key_lines (desk a) (desk_of new b) (state_of a.session.editor)
    (state_of b.session.editor) tree new stroke before after (Some due)
does_heard a b p left tree new stroke before after from to due reply other applied is =
    does_so a.session.language a.kind key_lines (desk a) (desk_of new b) (state_of a.session.editor)
    (state_of b.session.editor) tree new stroke before after from to due reply other
    (subst (λ (x : Parts). HasApplied a.session.language (state_of a.session.editor) (state_of x.editor) due.command before
    after from to reply) (sym left.session) applied) is

-- ---- the program after it

module _ (old new : Editing) (p : Parts) (same : IsHeard (record old { session = p }) new) (language : p.language ≡ old.session.language) where
  opened_in : (tree : Fragment) → IsOpened (state_of p.editor) old.kind tree
      → IsOpened (state_of new.session.editor) new.kind tree
  opened_in tree at =
      subst (λ (k : Kind). IsOpened (state_of new.session.editor) k tree) (sym same.kind)
      (subst (λ (q : Parts). IsOpened (state_of q.editor) old.kind tree) (sym same.session) at)

  pub same_heard : IsOfSame old new
  same_heard = record {
    language = ap (λ (q : Parts). q.language) same.session ∙ language;
    kind = same.kind;
    title = same.title;
    writes = same.writes;
  }

  -- refused: the session is as before, and so is what is known
  pub at_refused : (tree : Fragment) → IsAt old tree → p ≡ old.session → old.aim ≡ aims.Settled → IsAt new tree
  at_refused tree at stays aim = record {
    opened = opened_in tree (subst (λ (q : Parts). IsOpened (state_of q.editor) old.kind tree) (sym stays) at.opened);
    shown = λ _. subst (λ (s : Shown). IsShown new.session.language tree s) (sym same.shown)
        (subst (λ (q : Parts). IsShown q.language tree old.shown) (sym (same.session ∙ stays)) (at.shown aim));
  }

  -- done: what is known is not read before it is made anew
  pub at_done : (tree : Fragment) → IsOpened (state_of p.editor) old.kind tree → (new.aim ≡ aims.Settled → ⊥)
      → IsAt new tree
  at_done tree at other = record { opened = opened_in tree at; shown = λ aim. absurd (other aim) }

  pub at_after : (tree : Fragment) → IsAt old tree → old.aim ≡ aims.Settled → (command : Command)
      → is_of_keys command ≡ true → (before after : Outside) (from to : ℕ) (reply : Reply)
      → HasApplied old.session.language (state_of old.session.editor) (state_of p.editor) command before after from to reply
      → (IsRefusal reply → p ≡ old.session) → (number_in reply ≡ None → new.aim ≡ aims.Settled → ⊥)
      → (grown : Fragment) × IsAt new grown
  at_after tree at aim command keys before after from to (refused refusal) applied stays other =
      (tree, at_refused tree at (stays tt) aim)
  at_after tree at aim command keys before after from to (answered lines) applied stays other =
      let kept = kept_opened old.session.language (IsCompletable old.session.language) (state_of old.session.editor)
      applied.answer old.kind tree at.opened applied.steps keys in
      (kept.0, at_done kept.0 kept.1 (other refl))
