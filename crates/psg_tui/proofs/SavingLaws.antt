-- What is known of a file before it is written, and what is kept after it.
use Rattle.std.proofs.Common.{◌≡◌, ℕ, Bool, true, false, List, [], ◌∷◌, ◌++◌, Option, Some, None, refl, sym, ap, ◌∙◌, subst}
use Rattle.std.proofs.lemmas.Bool.{eqb-true, false≢true, true≢false}
use Rattle.std.proofs.lemmas.Result.{on_err_weaker, on_ok_weaker}
use Rattle.std.specs.Prelude.{◌==◌, ◌||◌, IfSome, OnErr, OnOk, Result, Err, option_map, take}
use Rattle.std.specs.FinMap as map
use Rattle.psg_terms.specs.Names.{Name}
use Rattle.psg_grammar.specs.declared.types.Definition.{Definition}
use Rattle.psg_grammar.specs.declared.types.Kind.{Kind}
use Rattle.psg_grammar.specs.Fragments.{Fragment}
use Rattle.psg_keymap.specs.declared.face.Face.{Face as Kept}
use Rattle.psg_keymap.specs.declared.face.Mode.TheVariants as modes
use Rattle.psg_keymap.specs.Faces.{Face, in_mode, not_written, typed_text, unproved}
use Rattle.psg_keys.specs.declared.key.Key.{Key}
use Rattle.psg_keys.specs.declared.key.Key.TheVariants as keys
use Rattle.psg_modes.specs.Turning.{line_key, saying}
use Rattle.psg_program.specs.Formatted.{formatted}
use Rattle.psg_session.specs.Exchanges.{Outside}
use Rattle.psg_world.specs.declared.world.ReadStop.{ReadStop}
use Rattle.psg_world.specs.declared.world.ReadStop.TheVariants as read_stops
use Rattle.psg_world.specs.declared.world.WriteStop.{WriteStop}
use Rattle.psg_world.specs.declared.world.WriteStop.TheVariants as write_stops
use Rattle.psg_world.specs.Files.{Entry, Held, bytes_of, entries_after_read, entries_after_write, front_of, writing}
use Rattle.psg_tui.specs.declared.editing.Aim.TheVariants as aims
use Rattle.psg_tui.specs.declared.editing.Editing.{Editing}
use Rattle.psg_tui.specs.Editing.{IsAt, IsOfProgram, IsUntouched}
use Rattle.psg_tui.specs.Pressing.{Desk, IsNotThere, IsWritten, Leaves, Replaces, Saves, Writes, WritesIf, WritesTo, with_face}
use Rattle.psg_tui.specs.Pressing as pressing
use Rattle.psg_tui.specs.Saving.{IsThere, ends_at, is_char, is_control, taken}
use Rattle.psg_tui.specs.Views.{desk, face_of, outside}

-- ---- keys

pub char_is : (letter : ℕ) (key : Key) → is_char letter key ≡ true → key ≡ keys.Char letter
char_is letter (keys.Char c) e = ap keys.Char (eqb-true c letter e)
char_is letter _ e = absurd (false≢true e)

control_is : (letter : ℕ) (key : Key) → is_control letter key ≡ true → key ≡ keys.Control letter
control_is letter (keys.Control c) e = ap keys.Control (eqb-true c letter e)
control_is letter _ e = absurd (false≢true e)

pub no_w : (key : Key) → is_char 119 key ≡ false → key ≡ keys.Char 119 → ⊥
no_w key other e = true≢false (sym (ap (is_char 119) e) ∙ other)

no_end : (key : Key) → ends_at key ≡ false → (k : Key) → ends_at k ≡ true → key ≡ k → ⊥
no_end key other k is e = true≢false (sym is ∙ sym (ap ends_at e) ∙ other)

-- ---- what is promised where there is memory, and where there is none

pub on_ok : {T E : Type 0} (r : Result T E) (P Q : Type 0) → OnOk r P → (P → Q) → OnOk r Q
on_ok r P Q is next = on_ok_weaker r next is

pub on_err : {T E : Type 0} (r : Result T E) (P Q : Type 0) → OnErr r P → (P → Q) → OnErr r Q
on_err r P Q is next = on_err_weaker r next is

-- ---- what is not changed

pub of_same : (e : Editing) → IsOfProgram e e
of_same e = record { session = refl; kind = refl; title = refl; writes = refl; versions = refl; at = λ t a. a }

pub same_outside : (a b : Option Held) (x y : List Entry) → a ≡ b → x ≡ y → outside a x ≡ outside b y
same_outside a b x y p q = ap (λ h. outside h x) p ∙ ap (outside b) q

pub untouched : (e : Editing) → IsUntouched e e
untouched e = record { face = refl; file = refl; written = refl }

-- the face is another one
pub of_face : (e : Editing) (f : Kept) → IsOfProgram e (record e { face = f })
of_face e f = record {
  session = refl;
  kind = refl;
  title = refl;
  writes = refl;
  versions = refl;
  at = λ t a. record { opened = a.opened; shown = a.shown };
}

-- what the file has is another text
pub of_file : (e : Editing) (f : Kept) (file : Option Name) (text : List ℕ)
    → IsOfProgram e (record e { face = f; file = file; written = text })
of_file e f file text = record {
  session = refl;
  kind = refl;
  title = refl;
  writes = refl;
  versions = refl;
  at = λ t a. record { opened = a.opened; shown = a.shown };
}

-- ---- a file that is there

none_of : (xs : List ℕ) → take 1 xs ≡ [] → xs ≡ []
none_of [] e = refl
none_of (x ∷ xs) e = cc

pub is_there : (held : Option Held) (name bytes : List ℕ) → IfSome held (λ h. bytes ≡ front_of 0 (bytes_of h name))
    → (bytes ≡ [] → ⊥) → IfSome held (λ h. bytes_of h name ≡ [] → ⊥)
is_there None name bytes front has = tt
is_there (Some h) name bytes front has = λ e. has (front ∙ ap (front_of 0) e)

pub is_empty : (held : Option Held) (name bytes : List ℕ) → IfSome held (λ h. bytes ≡ front_of 0 (bytes_of h name))
    → bytes ≡ [] → IfSome held (λ h. bytes_of h name ≡ [])
is_empty None name bytes front none = tt
is_empty (Some h) name bytes front none = none_of (bytes_of h name) (sym front ∙ none)

pub not_there : (before after : Outside) (name : List ℕ) (stop : ReadStop) → after.held ≡ before.held
    → after.entries ≡ entries_after_read before.entries name (Err stop) → stop ≡ read_stops.Failed
    → IsThere before after name false
not_there before after name stop held entries failed =
    pressing.is_unread held (entries ∙ ap (λ (s : ReadStop). entries_after_read before.entries name (Err s)) failed)

pub there_by : (b : Bool) (before after : Outside) (name bytes : List ℕ) → after ≡ before
    → IfSome before.held (λ h. bytes ≡ front_of 0 (bytes_of h name))
    → (b ≡ true → bytes ≡ [] → ⊥) → (b ≡ false → bytes ≡ []) → IsThere before after name b
there_by true before after name bytes same front has none = (same, is_there before.held name bytes front (has refl))
there_by false before after name bytes same front has none =
    pressing.is_empty same (is_empty before.held name bytes front (none refl))

-- ---- a file that is written

module _ (def : Definition) (kind : Kind) (tree : Fragment) (page : List (List ℕ)) where
  pub same_written : (d e f : Desk) (n m : Name) (before after : Outside) → e ≡ f → n ≡ m
      → IsWritten def kind tree page d n before after e → IsWritten def kind tree page d m before after f
  same_written d e f n m before after p q is =
      subst (λ x. IsWritten def kind tree page d m before after x) p
      (subst (λ x. IsWritten def kind tree page d x before after e) q is)

  -- the program writes no files
  pub writes_none : (d e : Desk) (before after : Outside) → d.writes ≡ false
      → e ≡ with_face d (saying unproved (in_mode modes.Browsing d.face)) → after ≡ before
      → Writes def kind tree page d before after e
  writes_none d e before after other is same =
      subst (λ b. WritesIf def kind tree page b d before after e) (sym other) (is, same)

  -- the name of a file is asked for
  pub writes_asks : (d e : Desk) (before after : Outside) → d.writes ≡ true → d.file ≡ None
      → e ≡ with_face d (in_mode modes.Saving d.face) → after ≡ before → Writes def kind tree page d before after e
  writes_asks d e before after so none is same =
      subst (λ b. WritesIf def kind tree page b d before after e) (sym so)
      (subst (λ o. WritesTo def kind tree page d o before after e) (sym none) (is, same))

  pub writes_to : (d e : Desk) (name : Name) (before after : Outside) → d.writes ≡ true → d.file ≡ Some name
      → IsWritten def kind tree page d name before after e → Writes def kind tree page d before after e
  writes_to d e name before after so some is =
      subst (λ b. WritesIf def kind tree page b d before after e) (sym so)
      (subst (λ o. WritesTo def kind tree page d o before after e) (sym some) is)

  pub written_not : (d e : Desk) (name place : Name) (before after : Outside) (stop : WriteStop) → place ≡ name
      → after.held ≡ before.held → after.entries ≡ entries_after_write before.entries place (Err stop)
      → stop ≡ write_stops.Failed → e ≡ with_face d (saying not_written (in_mode modes.Browsing d.face))
      → IsWritten def kind tree page d name before after e
  written_not d e name place before after stop same held entries failed is =
      subst (λ x. IsWritten def kind tree page d name before after x) (sym is)
      (pressing.failed held
      (entries ∙ ap (λ (s : WriteStop). entries_after_write before.entries place (Err s)) failed
      ∙ ap (λ (n : Name). before.entries ++ writing n ∷ []) same))

  -- ---- keys that are answered

  pub saves_types : (d e : Desk) (before after : Outside) (key : Key) → (key ≡ keys.Enter → ⊥) → after ≡ before
      → e ≡ with_face d (line_key d.face key) → Saves def kind tree page d before after key e
  saves_types d e before after key other same is =
      subst (λ x. Saves def kind tree page d before after key x) (sym is) (pressing.types other same)

  pub saves_enter : (d e : Desk) (before after : Outside) (key : Key) → key ≡ keys.Enter
      → Saves def kind tree page d before after keys.Enter e → Saves def kind tree page d before after key e
  saves_enter d e before after key is saved = subst (λ k. Saves def kind tree page d before after k e) (sym is) saved

  pub saves_leaves : (d e : Desk) (before after : Outside) → typed_text d.face ≡ [] → after ≡ before
      → e ≡ with_face d (in_mode modes.Browsing d.face) → Saves def kind tree page d before after keys.Enter e
  saves_leaves d e before after none same is =
      subst (λ x. Saves def kind tree page d before after keys.Enter x) (sym is) (pressing.leaves none same)

  pub saves_asks : (d e : Desk) (name : Name) (before after : Outside) (b : Bool) → name ≡ typed_text d.face → b ≡ true
      → IsThere before after name b → e ≡ with_face d (record d.face { mode = modes.Replacing })
      → Saves def kind tree page d before after keys.Enter e
  saves_asks d e name before after b typed so there is =
      let at : IsThere before after (typed_text d.face) true =
      subst (λ x. IsThere before after x true) typed (subst (λ x. IsThere before after name x) so there) in
      subst (λ x. Saves def kind tree page d before after keys.Enter x) (sym is) (pressing.asks at.0 at.1)

  pub saves_so : (d e : Desk) (name text : Name) (before middle after : Outside) (b : Bool) → name ≡ typed_text d.face
      → text ≡ name → b ≡ false → IsThere before middle text b → IsWritten def kind tree page d name middle after e
      → Saves def kind tree page d before after keys.Enter e
  saves_so d e name text before middle after b typed same other there is =
      pressing.saves
      (subst (λ x. IsNotThere before middle x) (same ∙ typed) (subst (λ x. IsThere before middle text x) other there))
      (subst (λ x. IsWritten def kind tree page d x middle after e) typed is)

  pub replaces_so : (d e : Desk) (name : Name) (before after : Outside) (key : Key) → is_char 119 key ≡ true
      → name ≡ typed_text d.face → IsWritten def kind tree page d name before after e
      → Replaces def kind tree page d before after key e
  replaces_so d e name before after key is typed made =
      subst (λ k. Replaces def kind tree page d before after k e) (sym (char_is 119 key is))
      (pressing.writes_over (subst (λ x. IsWritten def kind tree page d x before after e) typed made))

  pub replaces_not : (d e : Desk) (before after : Outside) (key : Key) → is_char 119 key ≡ false → after ≡ before
      → e ≡ with_face d (in_mode modes.Browsing d.face) → Replaces def kind tree page d before after key e
  replaces_not d e before after key other same is =
      subst (λ x. Replaces def kind tree page d before after key x) (sym is) (pressing.goes_back (no_w key other) same)

  ends_by : (d : Desk) (before after : Outside) (key : Key) (b : Bool) → is_char 113 key ≡ b
      → (b || is_control 99 key) ≡ true → after ≡ before
      → Leaves def kind tree page d before after key (with_face d (record d.face { ended = true }))
  ends_by d before after key true is e same =
      subst (λ k. Leaves def kind tree page d before after k (with_face d (record d.face { ended = true })))
      (sym (char_is 113 key is)) (pressing.ends same)
  ends_by d before after key false is e same =
      subst (λ k. Leaves def kind tree page d before after k (with_face d (record d.face { ended = true })))
      (sym (control_is 99 key e)) (pressing.breaks same)

  pub leaves_ends : (d e : Desk) (before after : Outside) (key : Key) → ends_at key ≡ true → after ≡ before
      → e ≡ with_face d (record d.face { ended = true }) → Leaves def kind tree page d before after key e
  leaves_ends d e before after key ends same is =
      subst (λ x. Leaves def kind tree page d before after key x) (sym is)
      (ends_by d before after key (is_char 113 key) refl ends same)

  pub leaves_writes : (d e : Desk) (before after : Outside) (key : Key) → is_char 119 key ≡ true
      → Writes def kind tree page d before after e → Leaves def kind tree page d before after key e
  leaves_writes d e before after key is made =
      subst (λ k. Leaves def kind tree page d before after k e) (sym (char_is 119 key is)) (pressing.writes_first made)

  pub leaves_not : (d e : Desk) (before after : Outside) (key : Key) → ends_at key ≡ false → is_char 119 key ≡ false
      → after ≡ before → e ≡ with_face d (in_mode modes.Browsing d.face)
      → Leaves def kind tree page d before after key e
  leaves_not d e before after key other not_w same is =
      subst (λ x. Leaves def kind tree page d before after key x) (sym is)
      (pressing.stays (no_end key other (keys.Char 113) refl) (no_end key other (keys.Control 99) refl) (no_w key not_w) same)

-- the file has the program's text
pub written_so : (e : Editing) (tree noted : Fragment) (page : List (List ℕ)) (def : Definition) (name text bytes : List ℕ)
    (before after : Outside) (d : Desk) (place : Name) → IsAt e tree → e.aim ≡ aims.Settled → noted ≡ tree
    → def ≡ e.session.language → text ≡ e.shown.printed.text → bytes ≡ formatted def noted → d ≡ taken e name text
    → place ≡ name → after.held ≡ option_map (λ h. map.insert h place bytes) before.held
    → after.entries ≡ before.entries → IsWritten e.session.language e.kind tree page (desk e) name before after d
written_so e tree noted page def name text bytes before after d place at aim same language own formed is there held entries =
    subst (λ x. IsWritten e.session.language e.kind tree page (desk e) name before after x)
    (sym (is ∙ ap (taken e name) (own ∙ ap (λ p. p.text) (at.shown aim).printed)))
    (pressing.done
    (held ∙ ap (λ n. option_map (λ h. map.insert h n bytes) before.held) there
    ∙ ap (λ b. option_map (λ h. map.insert h name b) before.held)
    (formed ∙ ap (λ t. formatted def t) same ∙ ap (λ x. formatted x tree) language))
    entries)
