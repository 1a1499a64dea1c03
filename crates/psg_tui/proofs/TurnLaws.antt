-- What a key that is no command leaves, and what it makes of the face.
use Rattle.std.proofs.Common.{◌≡◌, ℕ, ◌==◌, ◌||◌, not, Bool, true, false, List, Option, Some, None, refl, ap, sym, ◌∙◌, subst}
use Rattle.std.specs.Prelude.{bytes_eq, option_map}
use Rattle.std.proofs.lemmas.Bool.{false≢true, true≢false}
use Rattle.std.proofs.lemmas.Bool.Decides.{Decides-eqb}
use Rattle.std.proofs.lemmas.Option.{none-some, same_Some}
use Rattle.psg_terms.specs.Names.{Name}
use Rattle.psg_cache.specs.Annotated.{Annotated, tree_in}
use Rattle.psg_grammar.specs.declared.types.Definition.{Definition}
use Rattle.psg_grammar.specs.declared.types.Kind.{Kind}
use Rattle.psg_grammar.specs.Fragments.{Fragment}
use Rattle.psg_grammar.specs.Legal.{IsCompletable}
use Rattle.psg_grammar.specs.Paths.{Path}
use Rattle.psg_keys.specs.declared.key.Key.{Key}
use Rattle.psg_keys.specs.declared.key.Key.TheVariants as keys
use Rattle.psg_keys.specs.Reading.{Spelled}
use Rattle.psg_keymap.specs.declared.face.Face.{Face as Kept}
use Rattle.psg_keymap.specs.declared.face.Mode.{Mode}
use Rattle.psg_keymap.specs.declared.spots.Spot.{Spot}
use Rattle.psg_keymap.specs.declared.face.Why.{Why as KeptWhy}
use Rattle.psg_keymap.specs.Faces.{Face, Why, nothing_wrong, picked_offer, wrong}
use Rattle.psg_keymap.specs.Views.{why_of}
use Rattle.psg_keymap.specs.Repairs.{IsRepairOf}
use Rattle.psg_keymap.specs.declared.repair.Repair.{Repair}
use Rattle.psg_keymap.specs.Spots.{spot_for}
use Rattle.psg_modes.specs.Pages.{key_lines}
use Rattle.psg_modes.specs.Turning.{browsed, choosing, chosen_key, is_own_key, is_page_key, is_wrong_key, led, naming, page_path, saying}
use Rattle.psg_modes.specs.Wrong.{is_forward}
use Rattle.psg_asking.specs.Asked.{IsToldOf, Read, menu_of, names_of, relation_of}
use Rattle.psg_asking.specs.Told.{lines_told, names_told, words_told}
use Rattle.psg_script.specs.declared.command.Command.{Command}
use Rattle.psg_session.specs.Exchanges.{Outside}
use Rattle.psg_session.specs.Replies.{Reply}
use Rattle.psg_unparse.specs.Spans.{printed_of}
use Rattle.psg_unparse.specs.declared.spans.Printed.{Printed}
use Rattle.psg_world.specs.Files.{Entry, Held}
use Rattle.psg_tui.specs.declared.editing.Aim.TheVariants as aims
use Rattle.psg_tui.specs.declared.editing.Editing.{Editing}
use Rattle.psg_tui.specs.Editing.{IsAt, IsKnownMore, IsOfProgram, IsUntouched, is_wrong}
use Rattle.psg_tui.specs.Found.{GoesWrong, IsBlamedFound, IsLed, IsLedBy, IsWrongFound, goes, is_letter, next, nothing, right, seen_of, went}
use Rattle.psg_tui.specs.Found as seen
use Rattle.psg_tui.specs.Pressing.{Browses, Chooses, Desk, Leaves, Replaces, Saves, Turns, TurnsIn, Writes, is_changed, is_down, with_face}
use Rattle.psg_tui.specs.Pressing as keyed
use Rattle.psg_tui.specs.Views.{desk, face_of, outside}
use Rattle.psg_tui.proofs.EditingLaws.{known_before}
use Rattle.psg_tui.proofs.ShownLaws.{right_by, wrong_by}

-- ---- what is left

pub program_same : (e : Editing) → IsOfProgram e e
program_same e = record { session = refl; kind = refl; title = refl; writes = refl; versions = refl; at = λ t a. a }

pub program_face : (e : Editing) (f : Kept) → IsOfProgram e (record e { face = f })
program_face e f = record {
  session = refl;
  kind = refl;
  title = refl;
  writes = refl;
  versions = refl;
  at = λ t a. record { opened = a.opened; shown = a.shown };
}

pub program_left : (a b : Editing) → b ≡ record a { face = b.face } → IsOfProgram a b
program_left a b left = subst (IsOfProgram a) (sym left) (program_face a b.face)

pub untouched_left : (a b : Editing) → b ≡ record a { face = b.face } → face_of b.face ≡ face_of a.face → IsUntouched a b
untouched_left a b left same = record {
  face = same;
  file = ap (λ (x : Editing). x.file) left;
  written = ap (λ (x : Editing). x.written) left;
}

pub desk_left : (a b : Editing) (x : Face) → b ≡ record a { face = b.face } → face_of b.face ≡ x
    → desk b ≡ with_face (desk a) x
desk_left a b x left same = ap desk left ∙ ap (with_face (desk a)) same

pub program_then : (a b c : Editing) → IsOfProgram a b → IsOfProgram b c → IsOfProgram a c
program_then a b c x y = record {
  session = y.session ∙ x.session;
  kind = y.kind ∙ x.kind;
  title = y.title ∙ x.title;
  writes = y.writes ∙ x.writes;
  versions = y.versions ∙ x.versions;
  at = λ t at. y.at t (x.at t at);
}

pub program_known : (a b : Editing) → IsKnownMore a b → IsOfProgram a b
program_known a b k = (known_before a b k).program

pub program_after : (a b : Editing) (f : Kept) → IsKnownMore a b → IsOfProgram a (record b { face = f })
program_after a b f k = program_then a b (record b { face = f }) (program_known a b k) (program_face b f)

pub aim_known : (a b : Editing) → IsKnownMore a b → b.aim ≡ a.aim
aim_known a b k = ap (λ (x : Editing). x.aim) k.left

pub aim_settled : (a b : Editing) → IsKnownMore a b → a.aim ≡ aims.Settled → b.aim ≡ aims.Settled
aim_settled a b k settled = aim_known a b k ∙ settled

pub face_known : (a b : Editing) → IsKnownMore a b → face_of b.face ≡ face_of a.face
face_known a b k = ap (λ (x : Editing). face_of x.face) k.left

pub desk_known : (a b : Editing) → IsKnownMore a b → desk b ≡ desk a
desk_known a b k = ap desk k.left

pub untouched_known : (a b : Editing) → IsKnownMore a b → IsUntouched a b
untouched_known a b k = record {
  face = face_known a b k;
  file = ap (λ (x : Editing). x.file) k.left;
  written = ap (λ (x : Editing). x.written) k.left;
}

pub untouched_by : (a b : Editing) → (b.file ≡ a.file) × (b.written ≡ a.written) → face_of b.face ≡ face_of a.face
    → IsUntouched a b
untouched_by a b left same = record { face = same; file = left.0; written = left.1 }

pub untouched_same : (a : Editing) → IsUntouched a a
untouched_same a = record { face = refl; file = refl; written = refl }

pub untouched_face : (e : Editing) (f : Kept) → face_of f ≡ face_of e.face → IsUntouched e (record e { face = f })
untouched_face e f same = record { face = same; file = refl; written = refl }

pub untouched_after : (a b : Editing) (f : Kept) → IsKnownMore a b → face_of f ≡ face_of b.face
    → IsUntouched a (record b { face = f })
untouched_after a b f k same = record {
  face = same ∙ face_known a b k;
  file = ap (λ (x : Editing). x.file) k.left;
  written = ap (λ (x : Editing). x.written) k.left;
}

pub desk_face : (e : Editing) (f : Kept) (x : Face) → face_of f ≡ x → desk (record e { face = f }) ≡ with_face (desk e) x
desk_face e f x same = ap (with_face (desk e)) same

pub desk_after : (a b : Editing) (f : Kept) (x : Face) → IsKnownMore a b → face_of f ≡ x
    → desk (record b { face = f }) ≡ with_face (desk a) x
desk_after a b f x k same =
    ap (λ (d : Desk). with_face d (face_of f)) (desk_known a b k) ∙ ap (with_face (desk a)) same

-- the rest is as it was
pub desk_by : (a b : Editing) (x : Face) → IsOfProgram a b → b.file ≡ a.file → b.written ≡ a.written → face_of b.face ≡ x
    → desk b ≡ with_face (desk a) x
desk_by a b x p file written face =
    ap (λ (f : Face). record { face = f; file = b.file; saved = b.written; versions = b.versions; writes = b.writes }) face
    ∙ ap (λ o. record { face = x; file = o; saved = b.written; versions = b.versions; writes = b.writes }) file
    ∙ ap (λ o. record { face = x; file = a.file; saved = o; versions = b.versions; writes = b.writes }) written
    ∙ ap (λ (n : ℕ). record { face = x; file = a.file; saved = a.written; versions = n; writes = b.writes }) p.versions
    ∙ ap (λ (w : Bool). record { face = x; file = a.file; saved = a.written; versions = a.versions; writes = w }) p.writes

pub same_outside : (h k : Option Held) (f g : List Entry) → (h ≡ k) × (f ≡ g) → outside h f ≡ outside k g
same_outside h k f g p = ap (λ (x : Option Held). outside x f) p.0 ∙ ap (λ (y : List Entry). outside k y) p.1

-- a key that is said of the face alone
pub browse_other_so : (a : Editing) (tree : Fragment) → IsAt a tree → a.aim ≡ aims.Settled → (t : Fragment) → t ≡ tree
    → (changed : Bool) → changed ≡ not (bytes_eq a.written a.shown.printed.text) → (f : Kept) (key : Key) (bytes : List ℕ)
    → ((def : Definition) → a.shown.printed ≡ printed_of def t
    → face_of f ≡ browsed def t changed key_lines (face_of a.face) key bytes)
    → face_of f ≡ browsed a.session.language tree (is_changed a.session.language tree (desk a)) key_lines (face_of a.face)
    key bytes
browse_other_so a tree at settled t same changed is f key bytes made =
    let printed = (at.shown settled).printed in
    made a.session.language (printed ∙ ap (printed_of a.session.language) (sym same))
    ∙ ap (λ (x : Fragment). browsed a.session.language x changed key_lines (face_of a.face) key bytes) same
    ∙ ap (λ (b : Bool). browsed a.session.language tree b key_lines (face_of a.face) key bytes)
    (is ∙ ap (λ (p : Printed). not (bytes_eq a.written p.text)) printed)

-- ---- answers to questions

module _ (a b : Editing) (k : IsKnownMore a b) (d : Definition) (kind : Kind) (note : Annotated) (language : d ≡ b.session.language) (same_kind : kind ≡ b.kind) (tells : (t : Fragment) → IsAt b t → tree_in note ≡ t) (spot : Spot) (ask : Spot → Command) where
  pub told_so : (read : Reply → Read) (told : Option Read) → IsToldOf d kind (tree_in note) spot ask read told
      → (tree : Fragment) → IsAt a tree → IsToldOf a.session.language a.kind tree spot ask read told
  told_so read told is tree at =
      subst (λ (x : Definition). IsToldOf x a.kind tree spot ask read told)
      (language ∙ ap (λ (x : Editing). x.session.language) k.left)
      (subst (λ (x : Kind). IsToldOf d x tree spot ask read told)
      (same_kind ∙ ap (λ (x : Editing). x.kind) k.left)
      (subst (λ (x : Fragment). IsToldOf d kind x spot ask read told) (tells tree (k.at tree at)) is))

  pub names_so : (told : Option Read) → IsToldOf d kind (tree_in note) spot ask (names_told (tree_in note)) told
      → (tree : Fragment) → IsAt a tree → IsToldOf a.session.language a.kind tree spot ask (names_told tree) told
  names_so told is tree at =
      subst (λ (x : Definition). IsToldOf x a.kind tree spot ask (names_told tree) told)
      (language ∙ ap (λ (x : Editing). x.session.language) k.left)
      (subst (λ (x : Kind). IsToldOf d x tree spot ask (names_told tree) told)
      (same_kind ∙ ap (λ (x : Editing). x.kind) k.left)
      (subst (λ (x : Fragment). IsToldOf d kind x spot ask (names_told x) told) (tells tree (k.at tree at)) is))

pub at_spot : (def : Definition) (kind : Kind) (tree : Fragment) (spot other : Spot) (ask : Spot → Command)
    (read : Reply → Read) (told : Option Read) → spot ≡ other → IsToldOf def kind tree spot ask read told
    → IsToldOf def kind tree other ask read told
at_spot def kind tree spot other ask read told e is =
    subst (λ (x : Spot). IsToldOf def kind tree x ask read told) e is

-- the same of equal names
pub name_at : (def : Definition) (kind : Kind) (tree : Fragment) (spot : Spot) (n m : Name) (told : Option Read) → n ≡ m
    → IsToldOf def kind tree spot (names_of n) (names_told tree) told
    → IsToldOf def kind tree spot (names_of m) (names_told tree) told
name_at def kind tree spot n m told e is =
    subst (λ (x : Name). IsToldOf def kind tree spot (names_of x) (names_told tree) told) e is

-- ---- keys

is_page : (b : Bool) (key : Key) (def : Definition) (tree : Fragment) (f : Face) → is_page_key key ≡ b
    → IsLedBy def tree f key b None → (is_page_key key ≡ false) × (led tree f.chosen key ≡ None)
is_page true key def tree f e h = absurd (none-some (page_path (printed_of def tree) f (is_down key)) h)
is_page false key def tree f e h = (e, sym h)

pub led_other : (def : Definition) (tree : Fragment) (f : Face) (key : Key) (path : Option Path)
    → (key ≡ keys.PageDown → ⊥) → (key ≡ keys.PageUp → ⊥) → path ≡ led tree f.chosen key → IsLed def tree f key path
led_other def tree f keys.PageDown path d u h = absurd (d refl)
led_other def tree f keys.PageUp path d u h = absurd (u refl)
led_other def tree f _ path d u h = h

pub led_at : (def : Definition) (tree : Fragment) (face : Face) (k key : Key) (o p : Option Path) → k ≡ key → o ≡ p
    → IsLed def tree face k o → IsLed def tree face key p
led_at def tree face k key o p e f h =
    subst (λ (x : Option Path). IsLed def tree face key x) f (subst (λ (x : Key). IsLed def tree face x o) e h)

pub spot_is : (t tree : Fragment) (chosen : Path) (k key : Key) (o p : Option Spot) → t ≡ tree → k ≡ key
    → o ≡ spot_for t chosen k → o ≡ p → spot_for tree chosen key ≡ p
spot_is t tree chosen k key o p e f h g =
    sym (ap (λ (x : Fragment). spot_for x chosen key) e) ∙ sym (ap (λ (x : Key). spot_for t chosen x) f) ∙ sym h ∙ g

pub letter_so : (letter : ℕ) (key : Key) → is_letter letter key ≡ true → key ≡ keys.Char letter
letter_so letter (keys.Char c) e = ap keys.Char ((Decides-eqb c letter).0 e)
letter_so letter _ e = absurd (false≢true e)

four : (a b c d : Bool) → (a || b) ≡ false → c ≡ false → d ≡ false → (a || (b || (c || d))) ≡ false
four false false false false w r x = refl
four true b c d w r x = absurd (true≢false w)
four false true c d w r x = absurd (true≢false w)
four false false true d w r x = absurd (true≢false r)
four false false false true w r x = absurd (true≢false x)

pub own_so : (key : Key) → is_wrong_key key ≡ false → is_letter 114 key ≡ false → is_letter 119 key ≡ false
    → is_page_key key ≡ false → is_own_key key ≡ false
own_so (keys.Char c) w r x p = four (c == 110) (c == 78) (c == 114) (c == 119) w r x
own_so _ w r x p = p

module _ (def : Definition) (kind : Kind) (tree : Fragment) (page : List (List ℕ)) (d : Desk) (before after : Outside) (stroke : Spelled) where
  by_led : (b : Bool) (path : Path) → is_page_key stroke.key ≡ b → IsLedBy def tree d.face stroke.key b (Some path)
      → after ≡ before → Browses def kind tree page d before after stroke (with_face d (choosing path d.face))
  by_led true path e h same =
      subst (λ (x : Path). Browses def kind tree page d before after stroke (with_face d (choosing x d.face)))
      (sym (same_Some _ _ h)) (keyed.pages e same)
  by_led false path e h same = keyed.moves (sym h) same

  pub led_so : (path : Path) (e : Desk) → IsLed def tree d.face stroke.key (Some path) → after ≡ before
      → e ≡ with_face d (choosing path d.face) → Browses def kind tree page d before after stroke e
  led_so path e h same is =
      subst (λ (x : Desk). Browses def kind tree page d before after stroke x) (sym is)
      (by_led (is_page_key stroke.key) path refl h same)

  pub offered_so : (spot : Spot) (told : Option Read) (e : Desk) → spot_for tree d.face.chosen stroke.key ≡ Some spot
      → IsToldOf def kind tree spot menu_of words_told told → after ≡ before
      → e ≡ with_face d (keyed.offered d.face spot told) → Browses def kind tree page d before after stroke e
  offered_so spot told e at asked same is =
      subst (λ (x : Desk). Browses def kind tree page d before after stroke x) (sym is) (keyed.offers told at asked same)

  pub related_so : (k : Key) → k ≡ stroke.key → (front : List (List ℕ)) (told : Option Read) (e : Desk)
      → is_letter 114 k ≡ true
      → IsToldOf def kind tree (record { target = d.face.chosen; place = None }) relation_of lines_told told
      → after ≡ before → e ≡ with_face d (keyed.related front d.face told)
      → Browses def kind tree page d before after stroke e
  related_so k at front told e key asked same is =
      subst (λ (x : Desk). Browses def kind tree page d before after stroke x) (sym is)
      (keyed.relates front told (sym at ∙ letter_so 114 k key) asked same)

  pub writes_so : (k : Key) → k ≡ stroke.key → (e : Desk) → is_letter 119 k ≡ true → Writes def kind tree page d before after e
      → Browses def kind tree page d before after stroke e
  writes_so k at e key w = keyed.writes (sym at ∙ letter_so 119 k key) w

  by_blamed : (r : Repair) → is_wrong_key stroke.key ≡ true → (IsCompletable def tree → ⊥) → IsRepairOf def tree r
      → after ≡ before → (found : Option (Path × Why))
      → IsBlamedFound tree r.places.items d.face.chosen (is_forward stroke.key) found
      → Browses def kind tree page d before after stroke (went d found)
  by_blamed r key bad repair same found (next place i e) =
      keyed.goes_wrong key bad (keyed.blamed r repair place i e) same
  by_blamed r key bad repair same found (nothing empty) = keyed.stays r key bad repair empty same

  by_found : is_wrong_key stroke.key ≡ true → (IsCompletable def tree → ⊥) → after ≡ before
      → (found : Option (Path × Why)) → IsWrongFound def tree d.face.chosen (is_forward stroke.key) found
      → Browses def kind tree page d before after stroke (went d found)
  by_found key bad same found (seen.blamed r repair b) = by_blamed r key bad repair same found b
  by_found key bad same found (seen.culprit paths q m u e) =
      keyed.goes_wrong key bad (keyed.culprit paths q m u e) same

  by_wrong : (e : Desk) → is_wrong_key stroke.key ≡ true → after ≡ before
      → GoesWrong def tree (is_forward stroke.key) d e → Browses def kind tree page d before after stroke e
  by_wrong e key same (right good) = keyed.is_right key good same
  by_wrong e key same (goes found bad is) = by_found key bad same found is

  pub wrong_so : (k : Key) → k ≡ stroke.key → (e : Desk) → is_wrong_key k ≡ true → after ≡ before
      → GoesWrong def tree (is_forward k) d e → Browses def kind tree page d before after stroke e
  wrong_so k at e key same is =
      by_wrong e (sym (ap is_wrong_key at) ∙ key) same
      (subst (λ (x : Key). GoesWrong def tree (is_forward x) d e) at is)

  pub others_so : (k : Key) → k ≡ stroke.key → (e : Desk) → is_wrong_key k ≡ false → is_letter 114 k ≡ false
      → is_letter 119 k ≡ false → IsLed def tree d.face stroke.key None
      → spot_for tree d.face.chosen stroke.key ≡ None → after ≡ before
      → e ≡ with_face d (browsed def tree (is_changed def tree d) page d.face stroke.key stroke.bytes)
      → Browses def kind tree page d before after stroke e
  others_so k at e w r x no_led no_spot same is =
      let p = is_page (is_page_key stroke.key) stroke.key def tree d.face refl no_led in
      subst (λ (y : Desk). Browses def kind tree page d before after stroke y) (sym is)
      (keyed.others (own_so stroke.key (sym (ap is_wrong_key at) ∙ w) (sym (ap (is_letter 114) at) ∙ r) (sym (ap (is_letter 119) at) ∙ x) p.0) p.1 no_spot same)

  pub in_mode_so : (e : Desk) (mode m : Mode) → mode ≡ m → TurnsIn def kind tree page m d before after stroke e
      → TurnsIn def kind tree page mode d before after stroke e
  in_mode_so e mode m is t = subst (λ (x : Mode). TurnsIn def kind tree page x d before after stroke e) (sym is) t

  pub turns_by : (e : Desk) (key k : Key) → key ≡ k → Turns def kind tree page d before after stroke k e
      → Turns def kind tree page d before after stroke key e
  turns_by e key k is t = subst (λ (x : Key). Turns def kind tree page d before after stroke x e) (sym is) t

  pub turns_so : (e : Desk) (key : Key) → ((rows cols : ℕ) → key ≡ keys.Size rows cols → ⊥) → (key ≡ keys.Unknown → ⊥)
      → TurnsIn def kind tree page d.face.mode d before after stroke e
      → Turns def kind tree page d before after stroke key e
  turns_so e (keys.Size rows cols) s u t = absurd (s rows cols refl)
  turns_so e keys.Unknown s u t = absurd (u refl)
  turns_so e _ s u t = t

pub wrong_at : (b c : Bool) (key : Key) → b ≡ is_wrong_key key → b ≡ c → is_wrong_key key ≡ c
wrong_at b c key e f = sym e ∙ f

pub letter_at : (b c : Bool) (letter : ℕ) (key : Key) → b ≡ is_letter letter key → b ≡ c → is_letter letter key ≡ c
letter_at b c letter key e f = sym e ∙ f

module _ (def : Definition) (kind : Kind) (tree : Fragment) (page : List (List ℕ)) where
  pub chooses_at : (f g : Face) (k key : Key) → k ≡ key → Chooses def kind tree page f k g
      → Chooses def kind tree page f key g
  chooses_at f g k key e h = subst (λ (x : Key). Chooses def kind tree page f x g) e h

  pub saves_at : (d : Desk) (before after : Outside) (e : Desk) (k key : Key) → k ≡ key
      → Saves def kind tree page d before after k e → Saves def kind tree page d before after key e
  saves_at d before after e k key same h = subst (λ (x : Key). Saves def kind tree page d before after x e) same h

  pub replaces_at : (d : Desk) (before after : Outside) (e : Desk) (k key : Key) → k ≡ key
      → Replaces def kind tree page d before after k e → Replaces def kind tree page d before after key e
  replaces_at d before after e k key same h = subst (λ (x : Key). Replaces def kind tree page d before after x e) same h

  pub leaves_at : (d : Desk) (before after : Outside) (e : Desk) (k key : Key) → k ≡ key
      → Leaves def kind tree page d before after k e → Leaves def kind tree page d before after key e
  leaves_at d before after e k key same h = subst (λ (x : Key). Leaves def kind tree page d before after x e) same h

-- ---- spots

pub place_spot : (a b : Editing) → IsKnownMore a b → (target : Path) → target ≡ b.face.chosen
    → ◌≡◌ {A = Spot} (record { target = target; place = None }) (record { target = a.face.chosen; place = None })
place_spot a b k target e =
    ap (λ (p : Path). record { target = p; place = None }) (e ∙ ap (λ (x : Editing). x.face.chosen) k.left)

pub target_spot : (a b : Editing) → IsKnownMore a b → (target : Path) → target ≡ b.face.target
    → ◌≡◌ {A = Spot} (record { target = target; place = b.face.place })
    (record { target = a.face.target; place = a.face.place })
target_spot a b k target e =
    ap (λ (p : Path). record { target = p; place = b.face.place }) e
    ∙ ap (λ (x : Editing). record { target = x.face.target; place = x.face.place }) k.left

-- ---- the next wrong place

module _ (a : Editing) (tree : Fragment) (at : IsAt a tree) (settled : a.aim ≡ aims.Settled) (forward : Bool) where
  pub gone_right : (f : Kept) → is_wrong a.shown.culprits.items ≡ false
      → face_of f ≡ saying nothing_wrong (face_of a.face)
      → GoesWrong a.session.language tree forward (desk a) (desk (record a { face = f }))
  gone_right f fine said =
      subst (GoesWrong a.session.language tree forward (desk a)) (sym (desk_face a f _ said))
      (right (right_by a.session.language tree a.shown.culprits.items (at.shown settled).marked fine))

  pub gone_so : (b : Editing) → IsKnownMore a b → is_wrong a.shown.culprits.items ≡ true
      → (found : Option (Path × Why)) → IsWrongFound b.session.language tree b.face.chosen forward found
      → (e : Desk) → e ≡ went (desk a) found → GoesWrong a.session.language tree forward (desk a) e
  gone_so b k bad found is e same =
      subst (GoesWrong a.session.language tree forward (desk a)) (sym same)
      (goes found (wrong_by a.session.language tree a.shown.culprits.items (at.shown settled).marked bad)
      (subst (λ (x : Editing). IsWrongFound x.session.language tree x.face.chosen forward found) k.left is))

module _ (a b : Editing) (k : IsKnownMore a b) (tree : Fragment) (at : IsAt a tree) (settled : a.aim ≡ aims.Settled) (bad : is_wrong a.shown.culprits.items ≡ true) where
  wrong_still : (x : Bool) → is_wrong b.shown.culprits.items ≡ x → is_wrong b.shown.culprits.items ≡ true
  wrong_still true e = e
  wrong_still false e =
      absurd (wrong_by a.session.language tree a.shown.culprits.items (at.shown settled).marked bad
      (subst (λ (x : Editing). IsCompletable x.session.language tree) k.left
      (right_by b.session.language tree b.shown.culprits.items
      ((k.at tree at).shown (aim_settled a b k settled)).marked e)))

  pub still_wrong : is_wrong b.shown.culprits.items ≡ true
  still_wrong = wrong_still (is_wrong b.shown.culprits.items) refl

  pub gone_by : (forward given : Bool) → given ≡ forward → (found : Option (Path × KeptWhy))
      → IsWrongFound b.session.language tree b.face.chosen given (option_map seen_of found) → (e : Desk)
      → e ≡ went (desk a) (option_map seen_of found) → GoesWrong a.session.language tree forward (desk a) e
  gone_by forward given same found is e went_so =
      gone_so a tree at settled forward b k bad (option_map seen_of found)
      (subst (λ (x : Bool). IsWrongFound b.session.language tree b.face.chosen x (option_map seen_of found)) same is) e
      went_so

-- where the key leads, and what is said there
pub went_some : (a b : Editing) → IsKnownMore a b → (f g : Kept) (path : Path) (why : KeptWhy)
    (found : Option (Path × KeptWhy)) → found ≡ Some (path, why) → face_of f ≡ choosing path (face_of b.face)
    → face_of g ≡ saying (wrong (why_of why)) (face_of f)
    → desk (record b { face = g }) ≡ went (desk a) (option_map seen_of found)
went_some a b k f g path why found is chose said =
    desk_after a b g (saying (wrong (why_of why)) (choosing path (face_of a.face))) k
    (said ∙ ap (saying (wrong (why_of why))) (chose ∙ ap (choosing path) (face_known a b k)))
    ∙ ap (λ (o : Option (Path × KeptWhy)). went (desk a) (option_map seen_of o)) (sym is)

pub went_none : (a b : Editing) → IsKnownMore a b → (found : Option (Path × KeptWhy)) → found ≡ None
    → desk b ≡ went (desk a) (option_map seen_of found)
went_none a b k found is =
    desk_known a b k ∙ ap (λ (o : Option (Path × KeptWhy)). went (desk a) (option_map seen_of o)) (sym is)

-- ---- operators that are picked

module _ (def : Definition) (kind : Kind) (tree : Fragment) (page : List (List ℕ)) (f : Face) (key : Key) (g : Face) where
  pub takes_so : (op : List ℕ) (told : Option Read) → key ≡ keys.Enter → picked_offer f ≡ Some op
      → IsToldOf def kind tree (record { target = f.target; place = f.place }) (names_of op) (names_told tree) told
      → g ≡ naming op (keyed.named_by told) f → Chooses def kind tree page f key g
  takes_so op told enter picked asked is =
      subst (λ (k : Key). Chooses def kind tree page f k g) (sym enter)
      (subst (λ (x : Face). Chooses def kind tree page f keys.Enter x) (sym is) (keyed.takes told picked asked))

  pub takes_none_so : key ≡ keys.Enter → picked_offer f ≡ None → g ≡ f → Chooses def kind tree page f key g
  takes_none_so enter picked is =
      subst (λ (k : Key). Chooses def kind tree page f k g) (sym enter)
      (subst (λ (x : Face). Chooses def kind tree page f keys.Enter x) (sym is) (keyed.takes_none picked))

  pub picks_so : (key ≡ keys.Enter → ⊥) → g ≡ chosen_key f key → Chooses def kind tree page f key g
  picks_so other is =
      subst (λ (x : Face). Chooses def kind tree page f key x) (sym is) (keyed.picks other)
