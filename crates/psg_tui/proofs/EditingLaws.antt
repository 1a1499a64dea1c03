-- What holds of an editor that changes only what is known of its program, or its face.
use Rattle.std.proofs.Common.{◌≡◌, ℕ, Option, Some, None, refl, sym, ap, ◌∙◌, subst, Bor}
use Rattle.std.proofs.lemmas.Option.{none-some}
use Rattle.std.specs.Prelude.{MatchOption}
use Rattle.psg_asking.specs.Programs.{IsProgram}
use Rattle.psg_cache.specs.Annotated.{Annotated, tree_in}
use Rattle.psg_cache.specs.Notes.{IsNoteOf}
use Rattle.psg_grammar.specs.Printable.{IsPrintable}
use Rattle.psg_grammar.specs.WellFormed.{WellFormed}
use Rattle.psg_grammar.specs.Fragments.{Fragment}
use Rattle.psg_grammar.specs.declared.types.Definition.{Definition}
use Rattle.psg_grammar.specs.declared.types.Kind.{Kind}
use Rattle.psg_keymap.specs.declared.face.Face.{Face as Kept}
use Rattle.psg_session.specs.PlainState.{Opened, State}
use Rattle.psg_session.specs.declared.editor.OpenedTree.{OpenedTree}
use Rattle.psg_session.specs.Formed.{IsFormedState}
use Rattle.psg_session.specs.Sessions.{opened_of, state_of}
use Rattle.psg_session.specs.declared.session.Parts.{Parts}
use Rattle.psg_tui.specs.declared.editing.Aim.{Aim}
use Rattle.psg_tui.specs.declared.editing.Aim.TheVariants as aims
use Rattle.psg_tui.specs.declared.editing.Editing.{Editing}
use Rattle.psg_tui.specs.declared.shown.Asked.{Asked}
use Rattle.psg_tui.specs.declared.shown.Shown.{Shown}
use Rattle.psg_tui.specs.Editing.{IsAsBefore, IsAt, IsEditing, IsKnownMore, IsOfProgram, IsShown}
use Rattle.psg_tui.specs.Pressing.{IsOpened}
use Rattle.psg_tui.specs.Views.{face_of, settled}

same_some : (x y : Opened) → Some x ≡ Some y → x ≡ y
same_some x y e = cc

-- one program is opened
pub same_tree : (e : Editing) (t u : Fragment) → IsAt e t → IsAt e u → t ≡ u
same_tree e t u a b = ap (λ (o : Opened). o.tree) (same_some _ _ (sym a.opened ∙ b.opened))

-- what a note tells of the session's program
abbrev pub Tells : Parts → Annotated → Type 0
Tells p note =
    (kind : Kind) (tree : Fragment) → IsOpened (state_of p.editor) kind tree
    → (tree_in note ≡ tree) × IsProgram p.language kind note

module _ (e : Editing) (note : Annotated) (tells : Tells e.session note) where
  pub at_note : IsEditing e → IsAt e (tree_in note)
  at_note h = subst (λ (t : Fragment). IsAt e t) (sym (tells e.kind h.0 h.1.opened).0) h.1

  pub program_is : IsEditing e → IsProgram e.session.language e.kind note
  program_is h = (tells e.kind h.0 h.1.opened).1

  pub tree_is : (t : Fragment) → IsAt e t → tree_in note ≡ t
  tree_is t a = (tells e.kind t a.opened).0

-- nothing is changed
pub as_before : (e : Editing) → IsAsBefore e e
as_before e = record {
  program = record { session = refl; kind = refl; title = refl; writes = refl; versions = refl; at = λ t a. a };
  file = refl;
  written = refl;
  face = λ t a. refl;
}

-- the face is another value that is seen as the same
pub with_same_face : (e : Editing) (f : Kept) → face_of f ≡ face_of e.face → IsAsBefore e (record e { face = f })
with_same_face e f same = record {
  program = record {
    session = refl;
    kind = refl;
    title = refl;
    writes = refl;
    versions = refl;
    at = λ t a. record { opened = a.opened; shown = a.shown };
  };
  file = refl;
  written = refl;
  face = λ t a. ap (settled t e.aim) same;
}

-- the program is printed, and a place of it is chosen
pub settled_so : (e : Editing) (note : Annotated) → Tells e.session note → (tree : Fragment) → tree ≡ tree_in note
    → (f : Kept) → face_of f ≡ settled tree e.aim (face_of e.face) → (def : Definition) → def ≡ e.session.language
    → (s : Shown) → IsShown def (tree_in note) s → IsAsBefore e (record e { face = f; shown = s; aim = aims.Settled })
settled_so e note tells tree same f chosen def language s known = record {
  program = record {
    session = refl;
    kind = refl;
    title = refl;
    writes = refl;
    versions = refl;
    at = λ t a. record {
      opened = a.opened;
      shown = λ _. subst (λ (d : Definition). IsShown d t s) language
          (subst (λ (u : Fragment). IsShown def u s) (tree_is e note tells t a) known);
    };
  };
  file = refl;
  written = refl;
  face = λ t a. chosen ∙ ap (λ (u : Fragment). settled u e.aim (face_of e.face)) (same ∙ tree_is e note tells t a);
}

-- two steps, of which neither changes what is seen
pub then_before : (a b c : Editing) → IsAsBefore a b → IsAsBefore b c → IsAsBefore a c
then_before a b c x y = record {
  program = record {
    session = y.program.session ∙ x.program.session;
    kind = y.program.kind ∙ x.program.kind;
    title = y.program.title ∙ x.program.title;
    writes = y.program.writes ∙ x.program.writes;
    versions = y.program.versions ∙ x.program.versions;
    at = λ t at. y.program.at t (x.program.at t at);
  };
  file = y.file ∙ x.file;
  written = y.written ∙ x.written;
  face = λ t at. y.face t (x.program.at t at) ∙ x.face t at;
}

-- another answer to what is asked, other marks
pub with_shown : (e : Editing) (s : Shown)
    → ((t : Fragment) → IsShown e.session.language t e.shown → IsShown e.session.language t s)
    → IsKnownMore e (record e { shown = s })
with_shown e s known = record {
  left = refl;
  at = λ t a. record { opened = a.opened; shown = λ aim. known t (a.shown aim) };
}

-- what is known more is not seen
pub known_before : (e new : Editing) → IsKnownMore e new → IsAsBefore e new
known_before e new k =
    subst (λ (x : Editing). ((t : Fragment) → IsAt e t → IsAt x t) → IsAsBefore e x) (sym k.left)
    (λ at. record {
      program = record { session = refl; kind = refl; title = refl; writes = refl; versions = refl; at = at };
      file = refl;
      written = refl;
      face = λ t a. refl;
    }) k.at

-- ---- the note of a session

note_tells : (p : Parts) (note : Annotated) → IsFormedState p.language (state_of p.editor) → (old : Opened)
    → (state_of p.editor).opened ≡ Some old → IsNoteOf p.language old.tree note → Tells p note
note_tells p note formed old is noted kind tree opened =
    let e : old ≡ record { kind = kind; tree = tree } = same_some _ _ (sym is ∙ opened) in (
      noted.tree ∙ ap (λ (o : Opened). o.tree) e,
      record {
        formed = subst (λ (k : Kind). WellFormed p.language (tree_in note) k) (ap (λ (o : Opened). o.kind) e)
            (subst (λ (t : Fragment). WellFormed p.language t old.kind) (sym noted.tree) (formed.opened old is));
        noted = subst (λ (t : Fragment). IsNoteOf p.language t note) (sym noted.tree) noted;
        printable = subst IsPrintable (sym noted.tree) (formed.printable.opened old is);
      },
    )

abbrev pub IsNoteIn : Parts → Bor Annotated → Type 0
IsNoteIn p note = (old : Opened) × ((state_of p.editor).opened ≡ Some old) × IsNoteOf p.language old.tree note.now

pub some_note : (p : Parts) (o : Option (Bor Annotated)) (note : Bor Annotated) → o ≡ Some note
    → MatchOption o (p.editor.opened ≡ None) (IsNoteIn p) → IsFormedState p.language (state_of p.editor)
    → Tells p note.now
some_note p o note e is formed =
    let at : IsNoteIn p note =
    subst (λ (x : Option (Bor Annotated)). MatchOption x (p.editor.opened ≡ None) (IsNoteIn p)) e is in
    note_tells p note.now formed at.0 at.1 at.2

none_opened : (o : Option OpenedTree) (x : Opened) → o ≡ None → opened_of o ≡ Some x → ⊥
none_opened None x e h = none-some _ h
none_opened (Some held) x e h = none-some _ (sym e)

pub no_note : (p : Parts) (o : Option (Bor Annotated)) → o ≡ None
    → MatchOption o (p.editor.opened ≡ None) (IsNoteIn p)
    → (kind : Kind) (tree : Fragment) → IsOpened (state_of p.editor) kind tree → ⊥
no_note p o e is kind tree opened =
    let closed : p.editor.opened ≡ None =
    subst (λ (x : Option (Bor Annotated)). MatchOption x (p.editor.opened ≡ None) (IsNoteIn p)) e is in
    none_opened p.editor.opened (record { kind = kind; tree = tree }) closed opened

-- what is known of the program that is opened
pub with_known : (e : Editing) (note : Annotated) → Tells e.session note → (def : Definition)
    → def ≡ e.session.language → (s : Shown) → IsShown def (tree_in note) s → IsKnownMore e (record e { shown = s })
with_known e note tells def language s known = record {
  left = refl;
  at = λ t a. record {
    opened = a.opened;
    shown = λ _. subst (λ (d : Definition). IsShown d t s) language
        (subst (λ (u : Fragment). IsShown def u s) (tree_is e note tells t a) known);
  };
}

pub known_same : (e : Editing) → IsKnownMore e e
known_same e = record { left = refl; at = λ t a. a }

pub known_then : (a b c : Editing) → IsKnownMore a b → IsKnownMore b c → IsKnownMore a c
known_then a b c x y = record {
  left = y.left ∙ ap (λ (e : Editing). record e { shown = c.shown }) x.left;
  at = λ t at. y.at t (x.at t at);
}

-- another answer to what is asked
pub with_asked : (e : Editing) (asked : Option Asked) → IsKnownMore e (record e { shown = record e.shown { asked = asked } })
with_asked e asked =
    with_shown e (record e.shown { asked = asked })
    (λ t k. record { printed = k.printed; marked = k.marked; found = k.found })

pub editing_before : (a b : Editing) → IsAsBefore a b → IsEditing a → IsEditing b
editing_before a b x h = (h.0, x.program.at h.0 h.1)

pub editing_known : (a b : Editing) → IsKnownMore a b → IsEditing a → IsEditing b
editing_known a b k h = (h.0, k.at h.0 h.1)
