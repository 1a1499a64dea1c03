-- What a picture shows.
use Rattle.std.proofs.Common.{◌≡◌, ℕ, Bool, true, false, List, [], Option, refl, sym, ap, ◌∙◌, subst}
use Rattle.std.proofs.lemmas.Bool.{true≢false}
use Rattle.std.specs.Prelude.{◌-◌, option_map, unwrap_or}
use Rattle.psg_canvas.specs.Cells.{Picture}
use Rattle.psg_cache.specs.Annotated.{Annotated, tree_in}
use Rattle.psg_grammar.specs.declared.types.Definition.{Definition}
use Rattle.psg_grammar.specs.Fragments.{Fragment}
use Rattle.psg_grammar.specs.Legal.{IsCompletable}
use Rattle.psg_grammar.specs.Paths.{Path}
use Rattle.psg_keys.specs.Lines.{Typed}
use Rattle.psg_screen.specs.declared.View.{View}
use Rattle.psg_unparse.specs.declared.spans.Span.{Span}
use Rattle.psg_unparse.specs.Layout.{text_of}
use Rattle.psg_keymap.specs.declared.face.Face.{Face as Kept}
use Rattle.psg_keymap.specs.declared.face.Mode.{Mode}
use Rattle.psg_keymap.specs.declared.face.Mode.TheVariants as modes
use Rattle.psg_keymap.specs.Faces.{Face}
use Rattle.psg_keymap.specs.Ranges.{both, bytes_at}
use Rattle.psg_picture.specs.declared.around.Around.{Around}
use Rattle.psg_picture.specs.declared.marks.Marks.{Marks}
use Rattle.psg_picture.specs.Marked.{page_rows, program_rows}
use Rattle.psg_picture.specs.Pictures.{picture_of}
use Rattle.psg_picture.specs.Scrolling.{scrolled_of}
use Rattle.psg_tui.specs.declared.editing.Aim.TheVariants as aims
use Rattle.psg_tui.specs.declared.editing.Editing.{Editing}
use Rattle.psg_tui.specs.declared.shown.Shown.{Shown}
use Rattle.psg_tui.specs.Editing.{IsAsBefore, IsAt, IsKnownMore, is_wrong}
use Rattle.psg_tui.specs.Scrolled.{IsScrolled}
use Rattle.psg_session.specs.declared.session.Parts.{Parts}
use Rattle.psg_tui.specs.Showing.{Shows, chosen_bytes, open_line, paged_of, programmed_of, unscrolled, view_of}
use Rattle.psg_tui.specs.Views.{face_of, settled, shown_face}
use Rattle.psg_tui.proofs.EditingLaws.{known_before, with_shown}
use Rattle.psg_tui.proofs.ShownLaws.{wrong_by}

-- ---- marks

-- other marks say nothing of the program
pub with_marks : (e : Editing) (m : Marks) → IsKnownMore e (record e { shown = record e.shown { marks = m } })
with_marks e m =
    with_shown e (record e.shown { marks = m })
    (λ t k. record { printed = k.printed; marked = k.marked; found = k.found })

pub chosen_so : (e : Editing) (tree noted : Fragment) (bytes : ℕ × ℕ) → IsAt e tree → e.aim ≡ aims.Settled → noted ≡ tree
    → bytes ≡ unwrap_or (option_map both (bytes_at noted e.shown.printed.spans e.face.chosen)) (0, 0)
    → bytes ≡ chosen_bytes e.session.language tree e.face.chosen
chosen_so e tree noted bytes at aim same is =
    is
    ∙ ap (λ t. unwrap_or (option_map both (bytes_at t e.shown.printed.spans e.face.chosen)) (0, 0)) same
    ∙ ap (λ s. unwrap_or (option_map both (bytes_at tree s e.face.chosen)) (0, 0)) (ap (λ p. p.spans) (at.shown aim).printed)

-- ---- the program's rows

pub view_so : (f : Kept) (u v : View) (text : List ℕ) (bytes : ℕ × ℕ) → u ≡ view_of (face_of f)
    → v ≡ scrolled_of u text bytes → v ≡ view_of (face_of (record f { top = v.top; left = v.left }))
view_so f u v text bytes first is =
    let whole : v ≡ scrolled_of (view_of (face_of f)) text bytes = is ∙ ap (λ (x : View). scrolled_of x text bytes) first in
    whole ∙ sym (ap (λ (x : View). record { top = x.top; left = x.left; rows = f.rows; cols = f.cols }) whole)

pub scrolled_so : (f : Kept) (u v : View) (text : List ℕ) (bytes : ℕ × ℕ) → u ≡ view_of (face_of f)
    → v ≡ scrolled_of u text bytes
    → view_of (face_of (record f { top = v.top; left = v.left })) ≡ scrolled_of (view_of (face_of f)) text bytes
scrolled_so f u v text bytes first is =
    sym (view_so f u v text bytes first is) ∙ is ∙ ap (λ (x : View). scrolled_of x text bytes) first

pub programmed_so : (f : Kept) (u v : View) (text : List ℕ) (marks : Marks) (around : Around) (line : Option Typed)
    (p : Picture) → u ≡ view_of (face_of f) → v ≡ scrolled_of u text marks.chosen → line ≡ open_line (face_of f)
    → p ≡ picture_of v around (program_rows v (v.rows - 5) text marks) line
    → p ≡ programmed_of (face_of (record f { top = v.top; left = v.left })) around text marks
programmed_so f u v text marks around line p first is typed p_is =
    p_is
    ∙ ap (λ (x : View). picture_of x around (program_rows x (x.rows - 5) text marks) line)
    (view_so f u v text marks.chosen first is)
    ∙ ap (picture_of (view_of (face_of (record f { top = v.top; left = v.left }))) around
    (program_rows (view_of (face_of (record f { top = v.top; left = v.left }))) (f.rows - 5) text marks)) typed

pub paged_so : (f : Kept) (u : View) (around : Around) (line : Option Typed) (p : Picture) → u ≡ view_of (face_of f)
    → line ≡ open_line (face_of f)
    → p ≡ picture_of u around (page_rows u.cols (face_of f).page f.page_top (u.rows - 5)) line
    → p ≡ paged_of (face_of f) around
paged_so f u around line p first typed p_is =
    p_is
    ∙ ap (λ (x : View). picture_of x around (page_rows x.cols (face_of f).page f.page_top (x.rows - 5)) line) first
    ∙ ap (picture_of (view_of (face_of f)) around (page_rows f.cols (face_of f).page f.page_top (f.rows - 5))) typed

-- ---- a picture of an editor

-- what is marked in the program
pub record IsMarked (e : Editing) (tree : Fragment) (marks : Marks) : Type 0 where
  pub chosen : marks.chosen ≡ chosen_bytes e.session.language tree e.face.chosen
  pub right : is_wrong e.shown.culprits.items ≡ false → marks.wrong.items ≡ []

module _ (e : Editing) (tree : Fragment) (at : IsAt e tree) (aim : e.aim ≡ aims.Settled) (marks : Marks)
    (marked : IsMarked e tree marks) (f : Face) (same : f.chosen ≡ e.face.chosen) (p : Picture) (around : Around) where
  right_by : (b : Bool) → is_wrong e.shown.culprits.items ≡ b → IsCompletable e.session.language tree
      → marks.wrong.items ≡ []
  right_by true is completable =
      absurd (wrong_by e.session.language tree e.shown.culprits.items (at.shown aim).marked is completable)
  right_by false is completable = marked.right is

  chosen_is : marks.chosen ≡ chosen_bytes e.session.language tree f.chosen
  chosen_is = marked.chosen ∙ ap (chosen_bytes e.session.language tree) (sym same)

  text_is : e.shown.printed.text ≡ text_of e.session.language tree
  text_is = ap (λ x. x.text) (at.shown aim).printed

  pub shows_page : f.mode ≡ modes.Paging → p ≡ paged_of f around
      → Shows e.session.language tree (face_of e.face) f p
  shows_page is p_is = record {
    around = around;
    marks = marks;
    chosen = chosen_is;
    right = right_by (is_wrong e.shown.culprits.items) refl;
    page = λ m. p_is;
    program = λ other. absurd (other is);
    scrolled = λ other. absurd (other is);
  }

  pub shows_program : (f.mode ≡ modes.Paging → ⊥) → (text : List ℕ) → text ≡ e.shown.printed.text
      → p ≡ programmed_of f around text marks
      → view_of f ≡ scrolled_of (view_of (face_of e.face)) text marks.chosen
      → Shows e.session.language tree (face_of e.face) f p
  shows_program other text own p_is view = record {
    around = around;
    marks = marks;
    chosen = chosen_is;
    right = right_by (is_wrong e.shown.culprits.items) refl;
    page = λ m. absurd (other m);
    program = λ _. p_is ∙ ap (λ t. programmed_of f around t marks) (own ∙ text_is);
    scrolled = λ _. view
        ∙ ap (λ t. scrolled_of (view_of (face_of e.face)) t marks.chosen) (own ∙ text_is)
        ∙ ap (scrolled_of (view_of (face_of e.face)) (text_of e.session.language tree)) chosen_is;
  }

-- the marks of an editor of which they alone were made anew
pub marked_so : (e n : Editing) (tree : Fragment) → IsAt e tree
    → (IsAt e tree → n.shown.marks.chosen ≡ chosen_bytes e.session.language tree e.face.chosen)
    → (is_wrong e.shown.culprits.items ≡ false → n.shown.marks.wrong.items ≡ []) → IsMarked e tree n.shown.marks
marked_so e n tree at chosen right = record { chosen = chosen at; right = right }

-- ---- what a picture leaves

scrolled_by : (e m : Editing) → IsAsBefore e m → IsScrolled e m
scrolled_by e m before = record {
  program = before.program;
  file = before.file;
  written = before.written;
  face = λ t a. ap unscrolled (before.face t a);
}

module _ (e n : Editing) (known : IsKnownMore e n) where
  pub face_is : n.face ≡ e.face
  face_is = ap (λ (x : Editing). x.face) known.left

  pub aim_is : n.aim ≡ e.aim
  aim_is = ap (λ (x : Editing). x.aim) known.left

  pub scrolled_known : IsScrolled e n
  scrolled_known = scrolled_by e n (known_before e n known)

  -- the window is elsewhere
  pub scrolled_face : e.aim ≡ aims.Settled → (f : Kept) → unscrolled (face_of f) ≡ unscrolled (face_of n.face)
      → IsScrolled e (record n { face = f })
  scrolled_face aim f same = record {
    program = record {
      session = ap (λ (x : Editing). x.session) known.left;
      kind = ap (λ (x : Editing). x.kind) known.left;
      title = ap (λ (x : Editing). x.title) known.left;
      writes = ap (λ (x : Editing). x.writes) known.left;
      versions = ap (λ (x : Editing). x.versions) known.left;
      at = λ t a. let b = known.at t a in record { opened = b.opened; shown = b.shown };
    };
    file = ap (λ (x : Editing). x.file) known.left;
    written = ap (λ (x : Editing). x.written) known.left;
    face = λ t a. ap (λ x. unscrolled (settled t x (face_of f))) (aim_is ∙ aim)
        ∙ same ∙ ap (λ (x : Kept). unscrolled (face_of x)) face_is
        ∙ sym (ap (λ x. unscrolled (settled t x (face_of e.face))) aim);
  }

module _ (e m : Editing) (before : IsAsBefore e m) where
  pub scrolled_before : IsScrolled e m
  scrolled_before = scrolled_by e m before

  pub then_scrolled : (n : Editing) → IsScrolled m n → IsScrolled e n
  then_scrolled n x = record {
    program = record {
      session = x.program.session ∙ before.program.session;
      kind = x.program.kind ∙ before.program.kind;
      title = x.program.title ∙ before.program.title;
      writes = x.program.writes ∙ before.program.writes;
      versions = x.program.versions ∙ before.program.versions;
      at = λ t a. x.program.at t (before.program.at t a);
    };
    file = x.file ∙ before.file;
    written = x.written ∙ before.written;
    face = λ t a. x.face t (before.program.at t a) ∙ ap unscrolled (before.face t a);
  }

  -- the picture after the program was printed is one of the editor before
  pub shows_after : (n : Editing) (tree : Fragment) (p : Picture) → m.aim ≡ aims.Settled → n.aim ≡ m.aim → IsAt e tree
      → (IsAt m tree → Shows m.session.language tree (face_of m.face) (face_of n.face) p)
      → Shows e.session.language tree (shown_face tree e.aim e.face) (shown_face tree n.aim n.face) p
  shows_after n tree p aim same at shows =
      subst (λ (x : Parts). Shows x.language tree (shown_face tree e.aim e.face) (shown_face tree n.aim n.face) p)
      before.program.session
      (subst (λ (x : Face). Shows m.session.language tree x (shown_face tree n.aim n.face) p)
      (sym (ap (λ x. settled tree x (face_of m.face)) aim) ∙ before.face tree at)
      (subst (λ (x : Face). Shows m.session.language tree (face_of m.face) x p)
      (sym (ap (λ x. settled tree x (face_of n.face)) (same ∙ aim))) (shows (before.program.at tree at))))
