-- Which command a key is.
use Rattle.std.proofs.Common.{◌≡◌, ℕ, ◌+◌, ◌==◌, Bool, true, false, cond, Option, Some, None, List, [], length, refl, sym, ap, ap₂, ◌∙◌, subst}
use Rattle.std.specs.Prelude.{◌&&◌, Err, IfOk, IfSome, MatchResult, Ok, Result, option_map, unwrap_or}
use Rattle.std.specs.declared.alloc.AllocError.{AllocError}
use Rattle.std.proofs.lemmas.Result.{IfOk-weaker}
use Rattle.std.proofs.lemmas.Bool.{false≢true}
use Rattle.std.proofs.lemmas.Bool.Decides.{Decides-eqb}
use Rattle.std.proofs.lemmas.Option.{none-some, same_Some}
use Rattle.psg_asking.specs.Putting.{IsTextOf, nowhere, there}
use Rattle.psg_grammar.specs.declared.types.Definition.{Definition}
use Rattle.psg_grammar.specs.declared.types.Kind.{Kind}
use Rattle.psg_grammar.specs.Fragments.{Fragment}
use Rattle.psg_grammar.specs.Legal.{IsCompletable}
use Rattle.psg_keys.specs.declared.key.Key.{Key}
use Rattle.psg_keymap.specs.declared.face.Mode.{Mode}
use Rattle.psg_keymap.specs.declared.face.Mode.TheVariants as modes
use Rattle.psg_keymap.specs.declared.leaves.Leaf.{Leaf}
use Rattle.psg_keymap.specs.declared.ranges.Range.{Range}
use Rattle.psg_keymap.specs.declared.spots.Spot.{Spot}
use Rattle.psg_keymap.specs.declared.table.Due.{Due}
use Rattle.psg_keymap.specs.Faces.{Face, picked_offer}
use Rattle.psg_keymap.specs.Leaves.{args_with, leaves_of}
use Rattle.psg_keymap.specs.OfKeys.{IsOfKeys, is_of_keys}
use Rattle.psg_keymap.specs.Ranges.{range_of, separator_of}
use Rattle.psg_keymap.specs.Table.{alone, by_range, command_of, in_mode, is_enter, last_leaf, named, picked, putting, text_at}
use Rattle.psg_keymap.proofs.KeyLaws.{of_keys}
use Rattle.psg_modes.specs.Pages.{key_lines}
use Rattle.psg_terms.specs.Names.{Name}
use Rattle.psg_unparse.specs.Spans.{printed_of}
use Rattle.psg_unparse.specs.declared.spans.Printed.{Printed}
use Rattle.psg_unparse.specs.declared.spans.Span.{Span}
use Rattle.psg_tui.specs.declared.editing.Aim.TheVariants as aims
use Rattle.psg_tui.specs.declared.editing.Editing.{Editing}
use Rattle.psg_tui.specs.Editing.{IsAt, IsKnownMore, is_wrong}
use Rattle.psg_tui.specs.Pressing.{IsDue, IsOfTable, completable, is_putting, no_operator, no_text, of_table, of_text}
use Rattle.psg_tui.specs.Pressing as keyed
use Rattle.psg_tui.specs.Replied.{parts_of}
use Rattle.psg_tui.specs.Views.{face_of}
use Rattle.psg_tui.proofs.ShownLaws.{wrong_by}

-- the same of equal programs and spots
pub text_by : (def d : Definition) (kind k : Kind) (tree t : Fragment) (spans ss : List Span) (spot sp : Spot) (op : Name)
    (args : List ℕ) (text : Option Due) → d ≡ def → k ≡ kind → t ≡ tree → ss ≡ spans → sp ≡ spot
    → IsTextOf d k t ss sp op args text → IsTextOf def kind tree spans spot op args text
text_by def d kind k tree t spans ss spot sp op args text a b c e f is =
    subst (λ (x : Definition). IsTextOf x kind tree spans spot op args text) a
    (subst (λ (x : Kind). IsTextOf d x tree spans spot op args text) b
    (subst (λ (x : Fragment). IsTextOf d k x spans spot op args text) c
    (subst (λ (x : List Span). IsTextOf d k t x spot op args text) e
    (subst (λ (x : Spot). IsTextOf d k t ss x op args text) f is))))

module _ (def : Definition) (kind : Kind) (tree : Fragment) (page : List (List ℕ)) (f : Face) (key : Key) where
  pub of_table_by : (due : Option Due) → due ≡ command_of def tree f key → IsOfTable def kind tree page f key
      → IsDue def kind tree page f key due
  of_table_by due e is = subst (λ (x : Option Due). IsDue def kind tree page f key x) (sym e) (of_table is)

  by_mode : (b : Bool) → is_putting f.mode ≡ b → (wrong : Bool) → (b && wrong) ≡ false
      → (wrong ≡ false → IsCompletable def tree) → IsOfTable def kind tree page f key
  by_mode false e wrong other fine = no_operator e
  by_mode true e wrong other fine = completable (fine other)

  -- no operator is put into a wrong program
  pub no_need : (wrong : Bool) → (is_putting f.mode && wrong) ≡ false → (wrong ≡ false → IsCompletable def tree)
      → IsOfTable def kind tree page f key
  no_need wrong other fine = by_mode (is_putting f.mode) refl wrong other fine

  -- it is no command
  pub no_command : command_of def tree f key ≡ None → IsDue def kind tree page f key None
  no_command e = of_table_by None (sym e) (keyed.none e)

-- ---- an operator that is put

record IsPut (f : Face) (due : Due) : Type 0 where
  op : Name
  args : List ℕ
  is : due ≡ putting f.target f.place op args

module _ (def : Definition) (tree : Fragment) (f : Face) (key : Key) (due : Due) where
  alone_put : (op : Name) (b : Bool) → cond b (Some (putting f.target f.place op [])) None ≡ Some due → IsPut f due
  alone_put op true e = record { op = op; args = []; is = sym (same_Some (putting f.target f.place op []) due e) }
  alone_put op false e = absurd (none-some due e)

  picked_put : (o : Option Name) → picked def f o ≡ Some due → IsPut f due
  picked_put None e = absurd (none-some due e)
  picked_put (Some op) e = alone_put op (length (leaves_of def op) == 0) e

  leaf_put : (op : Name) (l : Option Leaf) → option_map (λ x. putting f.target f.place op (args_with f x)) l ≡ Some due
      → IsPut f due
  leaf_put op None e = absurd (none-some due e)
  leaf_put op (Some x) e = record {
    op = op;
    args = args_with f x;
    is = sym (same_Some (putting f.target f.place op (args_with f x)) due e);
  }

  named_put : (o : Option Name) → named def f o ≡ Some due → IsPut f due
  named_put None e = absurd (none-some due e)
  named_put (Some op) e = leaf_put op (last_leaf (leaves_of def op) f.leaf) e

  enter_put : (b : Bool) (o : Option Due) → (o ≡ Some due → IsPut f due) → cond b o None ≡ Some due → IsPut f due
  enter_put true o put e = put e
  enter_put false o put e = absurd (none-some due e)

  mode_put : (mode : Mode) → is_putting mode ≡ true → in_mode def tree f key mode ≡ Some due → IsPut f due
  mode_put modes.Choosing p e = enter_put (is_enter key) (picked def f (picked_offer f)) (picked_put (picked_offer f)) e
  mode_put modes.Naming p e = enter_put (is_enter key) (named def f f.operator) (named_put f.operator) e
  mode_put modes.Browsing p e = absurd (false≢true p)
  mode_put modes.Typing p e = absurd (false≢true p)
  mode_put modes.Saving p e = absurd (false≢true p)
  mode_put modes.Replacing p e = absurd (false≢true p)
  mode_put modes.Paging p e = absurd (false≢true p)
  mode_put modes.Leaving p e = absurd (false≢true p)

parts_put : (f : Face) (place : Option ℕ) (op : Name) (args : List ℕ)
    → parts_of (putting f.target place op args).command ≡ Some (op, args)
parts_put f None op args = refl
parts_put f (Some place) op args = refl

parts_is : (f : Face) (due : Due) → IsPut f due → (p : Option (Name × List ℕ)) → p ≡ parts_of due.command
    → p ≡ None → ⊥
parts_is f due h p e none =
    none-some (h.op, h.args)
    (sym none ∙ e ∙ ap (λ (d : Due). parts_of d.command) h.is ∙ parts_put f f.place h.op h.args)

put_is : (f : Face) (due : Due) → IsPut f due → (op : Name) (args : List ℕ) → Some (op, args) ≡ parts_of due.command
    → due ≡ putting f.target f.place op args
put_is f due h op args e =
    let same = same_Some (h.op, h.args) (op, args)
    (sym (parts_put f f.place h.op h.args) ∙ sym (ap (λ (d : Due). parts_of d.command) h.is) ∙ sym e) in
    h.is ∙ ap₂ (putting f.target f.place) (ap (λ (p : Name × List ℕ). p.0) same) (ap (λ (p : Name × List ℕ). p.1) same)

module _ (e0 e1 : Editing) (known : IsKnownMore e0 e1) (settled : e0.aim ≡ aims.Settled) (mode : is_putting e0.face.mode ≡ true) (bad : is_wrong e0.shown.culprits.items ≡ true) (due : Due) (tree : Fragment) (key : Key) (at : IsAt e0 tree) (is : Some due ≡ command_of e0.session.language tree (face_of e0.face) key) where
  put : IsPut (face_of e0.face) due
  put = mode_put e0.session.language tree (face_of e0.face) key due e0.face.mode mode (sym is)

  wrong : IsCompletable e0.session.language tree → ⊥
  wrong = wrong_by e0.session.language tree e0.shown.culprits.items (at.shown settled).marked bad

  text_as : (op : Name) (args : List ℕ) (text : Option Due)
      → IsTextOf e1.session.language e1.kind tree (printed_of e1.session.language tree).spans
      (record { target = e1.face.target; place = e1.face.place }) op args text
      → IsTextOf e0.session.language e0.kind tree (printed_of e0.session.language tree).spans
      (record { target = e0.face.target; place = e0.face.place }) op args text
  text_as op args text h =
      subst (λ (x : Editing). IsTextOf x.session.language x.kind tree (printed_of x.session.language tree).spans
      (record { target = x.face.target; place = x.face.place }) op args text) known.left h

  module _ (op : Name) (args : List ℕ) (parts : Some (op, args) ≡ parts_of due.command) where
    command_is : command_of e0.session.language tree (face_of e0.face) key
        ≡ Some (putting e0.face.target e0.face.place op args)
    command_is = sym is ∙ ap Some (put_is (face_of e0.face) due put op args parts)

    pub text_due_so : (text : Due)
        → IsTextOf e1.session.language e1.kind tree (printed_of e1.session.language tree).spans
        (record { target = e1.face.target; place = e1.face.place }) op args (Some text)
        → IsDue e0.session.language e0.kind tree key_lines (face_of e0.face) key (Some text)
    text_due_so text h = of_text text op args command_is wrong (text_as op args (Some text) h)

    pub no_text_so : IsTextOf e1.session.language e1.kind tree (printed_of e1.session.language tree).spans
        (record { target = e1.face.target; place = e1.face.place }) op args None
        → IsDue e0.session.language e0.kind tree key_lines (face_of e0.face) key (Some due)
    no_text_so h =
        of_table_by e0.session.language e0.kind tree key_lines (face_of e0.face) key (Some due) is
        (no_text op args command_is wrong (text_as op args None h))

    pub due_or : (text : Option Due)
        → IsTextOf e1.session.language e1.kind tree (printed_of e1.session.language tree).spans
        (record { target = e1.face.target; place = e1.face.place }) op args text
        → IsDue e0.session.language e0.kind tree key_lines (face_of e0.face) key (Some (unwrap_or text due))
    due_or None h = no_text_so h
    due_or (Some text) h = text_due_so text h

  pub no_parts_so : (p : Option (Name × List ℕ)) → p ≡ parts_of due.command → p ≡ None
      → IsDue e0.session.language e0.kind tree key_lines (face_of e0.face) key (Some due)
  no_parts_so p e none = absurd (parts_is (face_of e0.face) due put p e none)

-- ---- commands of keys

same_number : (n : ℕ) → (n == n) ≡ true
same_number n = (Decides-eqb n n).1 refl

abbrev AreOf : Option Due → Type 0
AreOf o = IfSome o (λ (d : Due). is_of_keys d.command ≡ true)

range_keys : (target : List ℕ) (words : List ℕ) (r : Option Range) → is_of_keys (by_range target words r) ≡ true
range_keys target words None = refl
range_keys target words (Some r) = same_number r.byte

module _ (def : Definition) (tree : Fragment) (spans : List Span) (target : List ℕ) where
  at_keys : (place : Option ℕ) (words : List ℕ) → is_of_keys (text_at def tree spans target place words).command ≡ true
  at_keys None words = refl
  at_keys (Some place) words = range_keys target words (range_of tree spans target place (separator_of def tree target) words)

  words_keys : (place : Option ℕ) (text : Option (List ℕ))
      → AreOf (option_map (λ words. text_at def tree spans target place words) text)
  words_keys place None = tt
  words_keys place (Some words) = at_keys place words

pub text_keys : (def : Definition) (kind : Kind) (tree : Fragment) (spans : List Span) (spot : Spot) (op : Name)
    (args : List ℕ) (o : Option Due) → IsTextOf def kind tree spans spot op args o
    → IfSome o (λ (d : Due). is_of_keys d.command ≡ true)
text_keys def kind tree spans spot op args o (nowhere asked) = tt
text_keys def kind tree spans spot op args o (there t text asked is) =
    words_keys def tree spans spot.target spot.place text

if_keys : (o : Option Due) → IfSome o IsOfKeys → IfSome o (λ (d : Due). is_of_keys d.command ≡ true)
if_keys None h = tt
if_keys (Some d) h = h.command

pub table_keys : (def : Definition) (tree : Fragment) (f : Face) (key : Key) (due : Due)
    → Some due ≡ command_of def tree f key → is_of_keys due.command ≡ true
table_keys def tree f key due e =
    subst (λ (o : Option Due). IfSome o (λ (d : Due). is_of_keys d.command ≡ true)) (sym e)
    (if_keys (command_of def tree f key) (of_keys def tree f key))

-- ---- the text, or else the command

pub either_so : (Q : Option Due → Type 0) (text r : Result (Option Due) AllocError) (due : Due)
    → MatchResult text (λ t. IfOk r (λ found. found ≡ Some (unwrap_or t due))) (λ _. IfOk r (λ found. ⊥))
    → IfOk text (λ t. Q (Some (unwrap_or t due))) → IfOk r Q
either_so Q (Ok t) r due m h = IfOk-weaker r (λ found. found ≡ Some (unwrap_or t due)) Q (λ x e. subst Q (sym e) h) m
either_so Q (Err e) r due m h = IfOk-weaker r (λ found. ⊥) Q (λ x b. absurd b) m

keys_or : (text : Option Due) (due : Due) → is_of_keys due.command ≡ true
    → IfSome text (λ (d : Due). is_of_keys d.command ≡ true)
    → IfSome (Some (unwrap_or text due)) (λ (d : Due). is_of_keys d.command ≡ true)
keys_or None due k h = k
keys_or (Some d) due k h = h

pub either_keys : (text : Result (Option Due) AllocError) (due : Due) → is_of_keys due.command ≡ true
    → IfOk text (λ t. IfSome t (λ (d : Due). is_of_keys d.command ≡ true))
    → IfOk text (λ t. IfSome (Some (unwrap_or t due)) (λ (d : Due). is_of_keys d.command ≡ true))
either_keys text due k h =
    IfOk-weaker text (λ t. IfSome t (λ (d : Due). is_of_keys d.command ≡ true))
    (λ t. IfSome (Some (unwrap_or t due)) (λ (d : Due). is_of_keys d.command ≡ true)) (λ t i. keys_or t due k i) h

pub needs_so : (a b c d : Bool) → a ≡ (b && c) → a ≡ true → c ≡ d → (b ≡ true) × (d ≡ true)
needs_so a true c d e t same = (refl, sym same ∙ sym e ∙ t)
needs_so a false c d e t same = absurd (false≢true (sym e ∙ t))

-- ---- the table is read with what is printed

module _ (e : Editing) (tree : Fragment) (at : IsAt e tree) (settled : e.aim ≡ aims.Settled) (d : Definition) (t : Fragment) (language : d ≡ e.session.language) (same : t ≡ tree) where
  pub printed_seen : e.shown.printed ≡ printed_of d t
  printed_seen =
      (at.shown settled).printed ∙ ap (λ (x : Definition). printed_of x tree) (sym language) ∙ ap (printed_of d) (sym same)

  pub table_is : (o : Option Due) (key : Key) → o ≡ command_of d t (face_of e.face) key
      → o ≡ command_of e.session.language tree (face_of e.face) key
  table_is o key is =
      is ∙ ap (λ (x : Definition). command_of x t (face_of e.face) key) language
      ∙ ap (λ (x : Fragment). command_of e.session.language x (face_of e.face) key) same

pub text_op : (e : Editing) (tree : Fragment) (other op : Name) (args : List ℕ) (text : Option Due) → other ≡ op
    → IsTextOf e.session.language e.kind tree (printed_of e.session.language tree).spans
    (record { target = e.face.target; place = e.face.place }) other args text
    → IsTextOf e.session.language e.kind tree (printed_of e.session.language tree).spans
    (record { target = e.face.target; place = e.face.place }) op args text
text_op e tree other op args text same h =
    subst (λ (x : Name). IsTextOf e.session.language e.kind tree (printed_of e.session.language tree).spans
    (record { target = e.face.target; place = e.face.place }) x args text) same h
