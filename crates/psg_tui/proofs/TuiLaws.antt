-- What the public calls of the editor promise, by what it keeps.
use Rattle.std.proofs.Common.{◌≡◌, ℕ, Bool, List, [], Option, refl, sym, ap, ◌∙◌, subst}
use Rattle.std.specs.Prelude.{Err, Ok, OnErr, Result}
use Rattle.psg_terms.specs.Names.{Name}
use Rattle.psg_grammar.specs.declared.types.Definition.{Definition}
use Rattle.psg_grammar.specs.Fragments.{Fragment}
use Rattle.psg_face.specs.Moves.{as_far}
use Rattle.psg_face.specs.Opens.{open_below}
use Rattle.psg_keymap.specs.declared.face.Face.{Face as Kept}
use Rattle.psg_keymap.specs.Faces.{Face, at_first}
use Rattle.psg_unparse.specs.Layout.{text_of}
use Rattle.psg_tui.specs.declared.editing.Editing.{Editing}
use Rattle.psg_tui.specs.declared.shown.Shown.{Shown}
use Rattle.psg_canvas.specs.Cells.{Picture}
use Rattle.psg_keys.specs.Reading.{Spelled}
use Rattle.psg_session.specs.Exchanges.{Outside}
use Rattle.psg_session.specs.Sessions.{state_of}
use Rattle.psg_tui.specs.declared.editing.Aim.TheVariants as aims
use Rattle.psg_tui.specs.Editing.{IsAsBefore, IsAt, IsEditing, IsOfSame, IsShown}
use Rattle.psg_tui.specs.Scrolled.{IsScrolled}
use Rattle.psg_tui.specs.Showing.{Shows}
use Rattle.psg_tui.specs.Pressing.{Presses}
use Rattle.psg_tui.specs.Views.{begun, desk_of, face_of, said_no_memory, shown_face}
use Rattle.psg_tui.proofs.PictureLaws.{shows_after}

pub begun_so : (def d : Definition) (tree noted : Fragment) (f : Kept) (file : Option Name) (text : List ℕ) (writes : Bool)
    (rows cols : ℕ) (s : Shown) → face_of f ≡ at_first rows cols → text ≡ s.printed.text → IsShown d noted s → d ≡ def
    → noted ≡ tree → record {
      face = record (face_of f) { chosen = open_below tree (as_far tree f.chosen) };
      file = file;
      saved = text;
      versions = 0;
      writes = writes;
    } ≡ begun def tree file writes rows cols
begun_so def d tree noted f file text writes rows cols s first own known same here =
    ap (λ (x : Face). record {
      face = record x { chosen = open_below tree (as_far tree x.chosen) };
      file = file;
      saved = text;
      versions = 0;
      writes = writes;
    }) first
    ∙ ap (λ (t : List ℕ). record {
      face = record (at_first rows cols) { chosen = open_below tree [] };
      file = file;
      saved = t;
      versions = 0;
      writes = writes;
    }) (own ∙ ap (λ p. p.text) known.printed ∙ ap (λ x. text_of x noted) same ∙ ap (text_of def) here)

-- a program is opened still
pub editing_before : (e n : Editing) → IsEditing e → IsAsBefore e n → IsEditing n
editing_before e n is before = (is.0, before.program.at is.0 is.1)

pub editing_scrolled : (e n : Editing) → IsEditing e → IsScrolled e n → IsEditing n
editing_scrolled e n is left = (is.0, left.program.at is.0 is.1)

pub editing_said : (e : Editing) → IsEditing e → IsEditing (said_no_memory e)
editing_said e is = (is.0, record { opened = is.1.opened; shown = is.1.shown })

pub not_settled : aims.Below ≡ aims.Settled → ⊥
not_settled e = cc

-- ---- what is kept is what is seen

pub same_in : (p q n : Editing) → p ≡ q → IsOfSame p n → IsOfSame q n
same_in p q n same is = subst (λ x. IsOfSame x n) same is

pub before_in : (p q n : Editing) → p ≡ q → IsAsBefore p n → IsAsBefore q n
before_in p q n same is = subst (λ x. IsAsBefore x n) same is

err_by : {T E : Type 0} (r : Result T E) (P : Type 0) → P → OnErr r P
err_by (Ok x) P p = tt
err_by (Err e) P p = p

pub memory_in : {T E : Type 0} (r : Result T E) (p q n : Editing) (H : Type 0) → p ≡ q → IsAsBefore p n × H
    → OnErr r (IsAsBefore q n × H)
memory_in r p q n H same is = err_by r (IsAsBefore q n × H) (before_in p q n same is.0, is.1)

pub scrolled_in : (p q n : Editing) → p ≡ q → IsScrolled p n → IsScrolled q n
scrolled_in p q n same is = subst (λ x. IsScrolled x n) same is

module _ (page : List (List ℕ)) (stroke : Spelled) (before after : Outside) (n : Editing) where
  -- what a key makes of an editor whose program is `old`
  abbrev pub IsPressed : Editing → Fragment → Fragment → Type 0
  IsPressed e old new =
      Presses e.session.language e.kind page (desk_of old e) (desk_of new n) (state_of e.session.editor)
      (state_of n.session.editor) old new stroke before after

  pub pressed_in : (p q : Editing) → p ≡ q → IsEditing p
      → ((old : Fragment) → IsAt p old → (new : Fragment) × IsAt n new × IsPressed p old new)
      → (old new : Fragment) × IsAt q old × IsAt n new × IsPressed q old new
  pressed_in p q same is made =
      let m = made is.0 is.1 in
      subst (λ (x : Editing). (old new : Fragment) × IsAt x old × IsAt n new × IsPressed x old new) same
      (is.0, m.0, is.1, m.1, m.2)

-- a picture after the program was printed
pub shows_in : (p q m n : Editing) (pic : Picture) → p ≡ q → IsAsBefore p m → m.aim ≡ aims.Settled → n.aim ≡ m.aim
    → ((tree : Fragment) → IsAt m tree → Shows m.session.language tree (face_of m.face) (face_of n.face) pic)
    → (tree : Fragment) → IsAt q tree
    → Shows q.session.language tree (shown_face tree q.aim q.face) (shown_face tree n.aim n.face) pic
shows_in p q m n pic same before aim stays shows =
    subst (λ (x : Editing). (tree : Fragment) → IsAt x tree
    → Shows x.session.language tree (shown_face tree x.aim x.face) (shown_face tree n.aim n.face) pic) same
    (λ tree at. shows_after p m before n tree pic aim stays at (shows tree))
