-- A key, from what is settled before it to what it leaves.
use Rattle.std.proofs.Common.{◌≡◌, ℕ, Bool, true, List, Option, Some, None, refl, ap, ap₂, sym, ◌∙◌, subst}
use Rattle.std.specs.Prelude.{Err, IfSome, Ok, OnErr, Result}
use Rattle.psg_grammar.specs.declared.types.Definition.{Definition}
use Rattle.psg_grammar.specs.declared.types.Kind.{Kind}
use Rattle.psg_grammar.specs.Fragments.{Fragment}
use Rattle.psg_grammar.specs.WellFormed.{WellFormed}
use Rattle.psg_keys.specs.declared.key.Key.{Key}
use Rattle.psg_keys.specs.Reading.{Spelled}
use Rattle.psg_keymap.specs.declared.face.Face.{Face as Kept}
use Rattle.psg_keymap.specs.declared.table.Due.{Due}
use Rattle.psg_keymap.specs.Faces.{Face}
use Rattle.psg_keymap.specs.OfKeys.{is_of_keys}
use Rattle.psg_modes.specs.Pages.{key_lines}
use Rattle.psg_session.specs.declared.session.Parts.{Parts}
use Rattle.psg_session.specs.Exchanges.{Outside}
use Rattle.psg_session.specs.Formed.{IsFormedState}
use Rattle.psg_session.specs.PlainState.{Opened, State}
use Rattle.psg_session.specs.Sessions.{state_of}
use Rattle.psg_tui.specs.declared.editing.Aim.{Aim}
use Rattle.psg_tui.specs.declared.editing.Aim.TheVariants as aims
use Rattle.psg_tui.specs.declared.editing.Editing.{Editing}
use Rattle.psg_tui.specs.Editing.{IsAsBefore, IsAt, IsEditing, IsKnownMore, IsOfProgram, IsOfSame, IsUntouched}
use Rattle.psg_tui.specs.Pressing.{Desk, Does, IsDue, IsOpened, Presses, Turns}
use Rattle.psg_tui.specs.Views.{desk, desk_of, face_of, settled, shown_face}
use Rattle.psg_tui.proofs.EditingLaws.{as_before}
use Rattle.psg_tui.proofs.FacedLaws.{faced_so}
use Rattle.psg_tui.proofs.LeadingLaws.{proper_by}
use Rattle.psg_tui.proofs.PagingLaws.{all_lead}
use Rattle.psg_tui.proofs.TurnLaws.{desk_known}
use Rattle.psg_unparse.proofs.Listed.{IsProper}

-- it holds of an error, where it holds
pub told_err : {T E P : Type 0} (r : Result T E) → P → OnErr r P
told_err (Ok x) p = tt
told_err (Err e) p = p

-- ---- what stays

pub same_of : (a b : Editing) → IsOfProgram a b → IsOfSame a b
same_of a b p = record {
  language = ap (λ (x : Parts). x.language) p.session;
  kind = p.kind;
  title = p.title;
  writes = p.writes;
}

pub same_then : (a b c : Editing) → IsOfSame a b → IsOfSame b c → IsOfSame a c
same_then a b c x y = record {
  language = y.language ∙ x.language;
  kind = y.kind ∙ x.kind;
  title = y.title ∙ x.title;
  writes = y.writes ∙ x.writes;
}

pub editing_by : (a b : Editing) → IsOfProgram a b → IsEditing a → IsEditing b
editing_by a b p h = (h.0, p.at h.0 h.1)

pub untouched_before : (a b : Editing) → IsOfProgram a b → b.aim ≡ a.aim → IsUntouched a b → IsAsBefore a b
untouched_before a b p aim u = record {
  program = p;
  file = u.file;
  written = u.written;
  face = λ t at. ap₂ (λ (x : Aim) (f : Face). settled t x f) aim u.face;
}

pub before_same : (a b : Editing) → b ≡ a → IsAsBefore a b
before_same a b e = subst (λ (x : Editing). IsAsBefore a x) (sym e) (as_before a)

-- ---- the desk

pub desk_settled : (e : Editing) (t : Fragment) → e.aim ≡ aims.Settled → desk_of t e ≡ desk e
desk_settled e t aim =
    ap (λ (x : Aim). record {
      face = shown_face t x e.face;
      file = e.file;
      saved = e.written;
      versions = e.versions;
      writes = e.writes;
    }) aim

pub desk_before : (a b : Editing) → IsAsBefore a b → (t : Fragment) → IsAt a t → desk_of t b ≡ desk_of t a
desk_before a b x t at =
    ap (λ (f : Face). record { face = f; file = b.file; saved = b.written; versions = b.versions; writes = b.writes })
    (x.face t at)
    ∙ ap (λ o. record { face = shown_face t a.aim a.face; file = o; saved = b.written; versions = b.versions; writes = b.writes })
    x.file
    ∙ ap (λ o. record { face = shown_face t a.aim a.face; file = a.file; saved = o; versions = b.versions; writes = b.writes })
    x.written
    ∙ ap (λ (n : ℕ). record { face = shown_face t a.aim a.face; file = a.file; saved = a.written; versions = n; writes = b.writes })
    x.program.versions
    ∙ ap (λ (w : Bool). record { face = shown_face t a.aim a.face; file = a.file; saved = a.written; versions = a.versions; writes = w })
    x.program.writes

-- ---- what a key does that is no command

pub turned_so : (a b : Editing) → IsOfProgram a b → b.aim ≡ a.aim → a.aim ≡ aims.Settled → (tree : Fragment)
    (stroke : Spelled) (before after : Outside)
    → Turns a.session.language a.kind tree key_lines (desk a) before after stroke stroke.key (desk b)
    → Does a.session.language a.kind key_lines (desk a) (desk_of tree b) (state_of a.session.editor)
    (state_of b.session.editor) tree tree stroke before after None
turned_so a b p aim settled tree stroke before after turned = (
  ap (λ (x : Parts). state_of x.editor) p.session,
  subst (λ (e : Desk). Turns a.session.language a.kind tree key_lines (desk a) before after stroke stroke.key e)
      (sym (desk_settled b tree (aim ∙ settled))) turned,
)

-- ---- a command, or none

pub keys_at : (o : Option Due) (due : Due) → o ≡ Some due → IfSome o (λ (d : Due). is_of_keys d.command ≡ true)
    → is_of_keys due.command ≡ true
keys_at o due e h = subst (λ (x : Option Due). IfSome x (λ (d : Due). is_of_keys d.command ≡ true)) e h

module _ (a b : Editing) (old : Fragment) (stroke : Spelled) (before after : Outside) (o : Option Due) where
  abbrev pub Acts : Option Due → Type 0
  Acts due =
      (new : Fragment) × IsAt b new
      × Does a.session.language a.kind key_lines (desk a) (desk_of new b) (state_of a.session.editor)
      (state_of b.session.editor) old new stroke before after due

  pub act_some : (due : Due) → o ≡ Some due → Acts (Some due) → Acts o
  act_some due e h = subst Acts (sym e) h

  pub act_none : o ≡ None → IsOfProgram a b → b.aim ≡ a.aim → a.aim ≡ aims.Settled → IsAt a old
      → Turns a.session.language a.kind old key_lines (desk a) before after stroke stroke.key (desk b) → Acts o
  act_none e p aim is_settled at turned =
      subst Acts (sym e) (old, p.at old at, turned_so a b p aim is_settled old stroke before after turned)

does_as : (def : Definition) (kind : Kind) (page : List (List ℕ)) (d e : Desk) (s t : State) (old new : Fragment)
    (stroke : Spelled) (before start after : Outside) (due : Option Due) → start ≡ before
    → Does def kind page d e s t old new stroke start after due
    → Does def kind page d e s t old new stroke before after due
does_as def kind page d e s t old new stroke before start after None same h =
    subst (λ (b : Outside). Does def kind page d e s t old new stroke b after None) same h
does_as def kind page d e s t old new stroke before start after (Some due) same h =
    subst (λ (b : Outside). Does def kind page d e s t old new stroke b after (Some due)) same h

due_key : (def : Definition) (kind : Kind) (tree : Fragment) (page : List (List ℕ)) (f : Face) (k key : Key)
    (due : Option Due) → k ≡ key → IsDue def kind tree page f k due → IsDue def kind tree page f key due
due_key def kind tree page f k key due e h = subst (λ (x : Key). IsDue def kind tree page f x due) e h

-- ---- the whole key

formed_tree : (def : Definition) (s : State) (kind : Kind) (tree : Fragment) → IsFormedState def s → IsOpened s kind tree
    → IsProper tree
formed_tree def s kind tree formed at =
    proper_by def tree kind (formed.opened (record { kind = kind; tree = tree }) at)

module _ (e0 e1 e2 e3 : Editing) (first_step : IsAsBefore e0 e1) (settled_so : e1.aim ≡ aims.Settled) (known : IsKnownMore e1 e2) (same : IsOfSame e0 e3) where
  session_is : e2.session ≡ e0.session
  session_is = ap (λ (x : Editing). x.session) known.left ∙ first_step.program.session

  kind_is : e2.kind ≡ e0.kind
  kind_is = ap (λ (x : Editing). x.kind) known.left ∙ first_step.program.kind

  module _ (old new : Fragment) (at : IsAt e0 old) (ends : IsAt e3 new) (stroke : Spelled) (before after : Outside) (due : Option Due) where
    desk_is : desk e2 ≡ desk_of old e0
    desk_is =
        desk_known e1 e2 known ∙ sym (desk_settled e1 old settled_so) ∙ desk_before e0 e1 first_step old at

    face_is : face_of e1.face ≡ shown_face old e0.aim e0.face
    face_is = sym (ap (λ (x : Aim). shown_face old x e1.face) settled_so) ∙ first_step.face old at

    does_from : Does e2.session.language e2.kind key_lines (desk e2) (desk_of new e3) (state_of e2.session.editor)
        (state_of e3.session.editor) old new stroke before after due
        → Does e0.session.language e0.kind key_lines (desk_of old e0) (desk_of new e3) (state_of e0.session.editor)
        (state_of e3.session.editor) old new stroke before after due
    does_from h =
        subst (λ (d : Desk). Does e0.session.language e0.kind key_lines d (desk_of new e3) (state_of e0.session.editor)
        (state_of e3.session.editor) old new stroke before after due) desk_is
        (subst (λ (k : Kind). Does e0.session.language k key_lines (desk e2) (desk_of new e3) (state_of e0.session.editor)
        (state_of e3.session.editor) old new stroke before after due) kind_is
        (subst (λ (p : Parts). Does p.language e2.kind key_lines (desk e2) (desk_of new e3) (state_of p.editor)
        (state_of e3.session.editor) old new stroke before after due) session_is h))

    due_from : IsDue e1.session.language e1.kind old key_lines (face_of e1.face) stroke.key due
        → IsDue e0.session.language e0.kind old key_lines (shown_face old e0.aim e0.face) stroke.key due
    due_from h =
        subst (λ (f : Face). IsDue e0.session.language e0.kind old key_lines f stroke.key due) face_is
        (subst (λ (k : Kind). IsDue e0.session.language k old key_lines (face_of e1.face) stroke.key due)
        first_step.program.kind
        (subst (λ (p : Parts). IsDue p.language e1.kind old key_lines (face_of e1.face) stroke.key due)
        first_step.program.session h))

    opens_as : IsOpened (state_of e3.session.editor) e0.kind new
    opens_as = subst (λ (k : Kind). IsOpened (state_of e3.session.editor) k new) same.kind ends.opened

    press_so : IsFormedState e0.session.language (state_of e0.session.editor)
        → IsFormedState e3.session.language (state_of e3.session.editor)
        → IsDue e1.session.language e1.kind old key_lines (face_of e1.face) stroke.key due
        → Does e2.session.language e2.kind key_lines (desk e2) (desk_of new e3) (state_of e2.session.editor)
        (state_of e3.session.editor) old new stroke before after due
        → Presses e0.session.language e0.kind key_lines (desk_of old e0) (desk_of new e3) (state_of e0.session.editor)
        (state_of e3.session.editor) old new stroke before after
    press_so formed formed_after is h = record {
      opened = at.opened;
      opens = opens_as;
      due = due;
      is_due = due_from is;
      pressed = does_from h;
      faced = λ led.
          faced_so e0.session.language e0.kind key_lines (desk_of old e0) (desk_of new e3) (state_of e0.session.editor)
          (state_of e3.session.editor) old new stroke before after at.opened opens_as
          (formed_tree e0.session.language (state_of e0.session.editor) e0.kind old formed at.opened)
          (formed_tree e3.session.language (state_of e3.session.editor) e3.kind new formed_after ends.opened)
          (all_lead e0.session.language (state_of e0.session.editor) e0.kind old formed at.opened)
          led due (does_from h);
    }

    pub press_from : IsFormedState e0.session.language (state_of e0.session.editor)
        → IsFormedState e3.session.language (state_of e3.session.editor) → (k : Key) → k ≡ stroke.key
        → IsDue e1.session.language e1.kind old key_lines (face_of e1.face) k due → (start : Outside) → start ≡ before
        → Does e2.session.language e2.kind key_lines (desk e2) (desk_of new e3) (state_of e2.session.editor)
        (state_of e3.session.editor) old new stroke start after due
        → Presses e0.session.language e0.kind key_lines (desk_of old e0) (desk_of new e3) (state_of e0.session.editor)
        (state_of e3.session.editor) old new stroke before after
    press_from formed formed_after k same_key is start same_start h =
        press_so formed formed_after
        (due_key e1.session.language e1.kind old key_lines (face_of e1.face) k stroke.key due same_key is)
        (does_as e2.session.language e2.kind key_lines (desk e2) (desk_of new e3) (state_of e2.session.editor)
        (state_of e3.session.editor) old new stroke before start after due same_start h)
