-- What a run of the editor writes.
use Rattle.std.proofs.Common.{◌≡◌, ℕ, ◌+◌, ◌-◌, ◌^◌, cond, false, List, [], ◌++◌, Option, Some, None, refl, sym, ap, ◌∙◌, append-nil, append_assoc, subst}
use Rattle.std.proofs.Common.{◌<◌, ◌≤◌, ◌∷◌, Bool, true, length, drop, take, get_or}
use Rattle.std.specs.Prelude.{Result, Ok, Err, IfOk, IfErr}
use Rattle.std.proofs.lemmas.List.{drop_all, drop_more}
use Rattle.std.specs.Io.KnownBytes.{append_known}
use Rattle.psg_canvas.specs.Cells.{Picture}
use Rattle.psg_canvas.specs.Drawing.{Draws}
use Rattle.psg_grammar.specs.Fragments.{Fragment}
use Rattle.psg_keys.specs.Reading.{HasRead, Spelled, Waiting, at_first}
use Rattle.psg_modes.specs.Pages.{key_lines}
use Rattle.psg_session.specs.Exchanges.{Outside}
use Rattle.psg_session.specs.Sessions.{state_of}
use Rattle.psg_world.specs.Pieces.{IsPieceOf}
use Rattle.psg_world.specs.Sinks.{TakesFront}
use Rattle.psg_tui.specs.declared.editing.Editing.{Editing}
use Rattle.psg_tui.specs.declared.running.Ending.{Ending}
use Rattle.psg_tui.specs.declared.running.Ending.TheVariants as endings
use Rattle.psg_tui.specs.Editing.{IsAsBefore, IsAt, IsOfSame}
use Rattle.psg_tui.specs.Pressing.{Presses}
use Rattle.psg_tui.specs.Running.{AreCut, AreDrawn, HasRun, IsCut, IsDrawn, IsLeft, IsOfReading, IsOfWriting, IsPictureOf, IsTurn, Runs, Scene, Takes, TakesAll, Writes, by_count, by_input, by_key}
use Rattle.psg_tui.specs.Running.{by_read, by_writing, draws, entered, is_over, is_pressed, is_run, left, no_memory, not_entered, not_left, once, redraws, scene, turn}
use Rattle.psg_tui.specs.Running.{twice as drawn_twice, first as first_cut, second as second_cut, is_lost}
use Rattle.psg_tui.specs.Scrolled.{IsScrolled}
use Rattle.psg_tui.specs.Views.{desk_of, said_no_memory}

-- ---- what no key changes

pub same_of : (e : Editing) → IsOfSame e e
same_of e = record { language = refl; kind = refl; title = refl; writes = refl }

pub then_same : (a b c : Editing) → IsOfSame a b → IsOfSame b c → IsOfSame a c
then_same a b c p q = record {
  language = q.language ∙ p.language;
  kind = q.kind ∙ p.kind;
  title = q.title ∙ p.title;
  writes = q.writes ∙ p.writes;
}

-- ---- what is written

twice : (a : Option (List ℕ)) (x y : List ℕ) → append_known (append_known a x) y ≡ append_known a (x ++ y)
twice None x y = refl
twice (Some w) x y = ap Some (append_assoc w x y)

nothing_more : (a : Option (List ℕ)) → append_known a [] ≡ a
nothing_more None = refl
nothing_more (Some w) = ap Some (append-nil w)

pub then_writes : (a b c : Option (List ℕ)) (x y : List ℕ) → b ≡ append_known a x → c ≡ append_known b y
    → c ≡ append_known a (x ++ y)
then_writes a b c x y e f = f ∙ ap (λ o. append_known o y) e ∙ twice a x y

-- ---- the turns so far

-- whatever comes after them, with them it is a run from the beginning
pub record SoFar (s : Scene) (before now : Option (List ℕ)) (turns : ℕ) (t : Scene) : Type 0 where
  pub bytes : List ℕ
  pub written : now ≡ append_known before bytes
  pub goes : (ending : Ending) (end : Editing) (after : Outside) (more : List ℕ) → Runs turns t ending end after more
      → Runs 0 s ending end after (bytes ++ more)

pub so_far_none : (s : Scene) (a : Option (List ℕ)) (t : Scene) → s ≡ t → SoFar s a a 0 t
so_far_none s a t same = record {
  bytes = [];
  written = sym (nothing_more a);
  goes = λ ending end after more r. subst (λ (x : Scene). Runs 0 x ending end after more) (sym same) r;
}

module _ (s t : Scene) (before now next : Option (List ℕ)) (turns : ℕ) (far : SoFar s before now turns t) (bytes : List ℕ) (added : next ≡ append_known now bytes) where
  pub so_ends : (ending : Ending) (end : Editing) (after : Outside) → Runs turns t ending end after bytes
      → Writes before next (Runs 0 s ending end after)
  so_ends ending end after r = (
    far.bytes ++ bytes,
    far.goes ending end after bytes r,
    then_writes before now next far.bytes bytes far.written added,
  )

  pub so_next : (u : Scene) → IsTurn t bytes u → u.tui.face.ended ≡ false → SoFar s before next (turns + 1) u
  so_next u is goes_on = record {
    bytes = far.bytes ++ bytes;
    written = then_writes before now next far.bytes bytes far.written added;
    goes = λ ending end after more r.
        subst (λ x. Runs 0 s ending end after x) (sym (append_assoc far.bytes bytes more))
        (far.goes ending end after (bytes ++ more) (turn is goes_on r));
  }

pub so_counted : (s t : Scene) (before now : Option (List ℕ)) (turns : ℕ) → SoFar s before now turns t
    → 2 ^ 64 - 1 ≤ turns → (end : Editing) (after : Outside) → end ≡ t.tui → after ≡ t.files
    → Writes before now (Runs 0 s endings.Done end after)
so_counted s t before now turns far all end after e f =
    so_ends s t before now now turns far [] (sym (nothing_more now)) endings.Done end after
    (subst (λ x. Runs turns t endings.Done end x []) (sym f)
    (subst (λ x. Runs turns t endings.Done x t.files []) (sym e) (by_count all)))

-- ---- pictures

pub shown_so : (old new : Editing) (was seen : Option Picture) (p : Picture) (bytes text : List ℕ) (a b : Option (List ℕ))
    → IsScrolled old new → IsPictureOf old new p → Draws seen p bytes → seen ≡ was → text ≡ bytes
    → b ≡ append_known a text → Writes a b (IsDrawn old new was (Some p))
shown_so old new was seen p bytes text a b window is drawn same spelled added = (
  bytes,
  draws window is (subst (λ (x : Option Picture). Draws x p bytes) same drawn),
  added ∙ ap (append_known a) spelled,
)

pub shown_none : (old new : Editing) (was : Option Picture) (a : Option (List ℕ)) → IsScrolled old new
    → Writes a a (IsDrawn old new was was)
shown_none old new was a window = ([], no_memory window, sym (nothing_more a))

pub shown_cut : (old new : Editing) (was seen : Option Picture) (p : Picture) (bytes text : List ℕ) (a b : Option (List ℕ))
    → IsScrolled old new → IsPictureOf old new p → Draws seen p bytes → seen ≡ was → text ≡ bytes → TakesFront a text b
    → Writes a b (IsCut old new was)
shown_cut old new was seen p bytes text a b window is drawn same spelled front = (
  take front.0 bytes,
  record {
    now = Some p;
    bytes = bytes;
    drawn = draws window is (subst (λ (x : Option Picture). Draws x p bytes) same drawn);
    count = front.0;
    within = subst (λ (x : List ℕ). front.0 < length x) spelled front.1;
    front = refl;
  },
  front.2 ∙ ap (λ (x : List ℕ). append_known a (take front.0 x)) spelled,
)

pub drawn_once : (old middle new : Editing) (was now : Option Picture) (a b : Option (List ℕ))
    → Writes a b (IsDrawn old middle was now) → IsAsBefore middle new → Writes a b (AreDrawn old new was now)
drawn_once old middle new was now a b w asked = (w.0, once w.1 asked, w.2)

module _ (old middle asked new : Editing) (was first : Option Picture) (a b c : Option (List ℕ)) (w : Writes a b (IsDrawn old middle was first)) (same : IsAsBefore middle asked) where
  pub twice_all : (r : Result (Option Picture) Ending) → IfOk r (λ x. Writes b c (IsDrawn asked new first x))
      → IfOk r (λ x. Writes a c (AreDrawn old new was x))
  twice_all (Ok x) v = (w.0 ++ v.0, drawn_twice w.1 same v.1, then_writes a b c w.0 v.0 w.2 v.2)
  twice_all (Err e) v = tt

  pub cut_second : (r : Result (Option Picture) Ending)
      → IfErr r (λ e. IsOfWriting e × Writes b c (IsCut asked new first))
      → IfErr r (λ e. IsOfWriting e × Writes a c (AreCut old new was))
  cut_second (Ok x) v = tt
  cut_second (Err e) v =
      (v.0, (w.0 ++ v.1.0, second_cut w.1 same v.1.1, then_writes a b c w.0 v.1.0 w.2 v.1.2))

pub cut_first : (r : Result (Option Picture) Ending) (e : Ending) (old new : Editing) (was : Option Picture)
    (a b : Option (List ℕ)) → r ≡ Err e → IsOfWriting e × Writes a b (IsCut old new was)
    → IfErr r (λ x. IsOfWriting x × Writes a b (AreCut old new was))
cut_first r e old new was a b is v =
    subst (λ (x : Result (Option Picture) Ending). IfErr x (λ y. IsOfWriting y × Writes a b (AreCut old new was))) (sym is)
    (v.0, (v.1.0, first_cut v.1.1, v.1.2))

pub cut_by : (r : Result (Option Picture) Ending) (e : Ending) (old new : Editing) (was : Option Picture)
    (a b : Option (List ℕ)) → r ≡ Err e → IsOfWriting e → Writes a b (IsCut old new was)
    → IfErr r (λ x. IsOfWriting x × Writes a b (IsCut old new was))
cut_by r e old new was a b is fault v =
    subst (λ (x : Result (Option Picture) Ending). IfErr x (λ y. IsOfWriting y × Writes a b (IsCut old new was))) (sym is)
    (fault, v)

-- ---- keys

pub over_so : (stroke : Spelled) (e : Editing) (before : Outside) (ended : Bool) → ended ≡ e.face.ended → ended ≡ true
    → Takes stroke e before e before
over_so stroke e before ended is so = is_over (sym is ∙ so)

pub pressed_so : (stroke : Spelled) (old new : Editing) (before after : Outside) (ended : Bool) → ended ≡ old.face.ended
    → ended ≡ false → IsOfSame old new
    → (tree grown : Fragment) × IsAt old tree × IsAt new grown
    × Presses old.session.language old.kind key_lines (desk_of tree old) (desk_of grown new)
    (state_of old.session.editor) (state_of new.session.editor) tree grown stroke before after
    → Takes stroke old before new after
pressed_so stroke old new before after ended is goes same p =
    is_pressed (sym is ∙ goes) same p.0 p.1 p.2 p.3 p.4

pub said_so : (stroke : Spelled) (e mid end : Editing) (before after : Outside) (ended : Bool) → ended ≡ e.face.ended
    → ended ≡ false → IsAsBefore e mid → after.held ≡ before.held → end ≡ said_no_memory mid
    → Takes stroke e before end after
said_so stroke e mid end before after ended is goes same held said =
    subst (λ (x : Editing). Takes stroke e before x after) (sym said) (is_lost (sym is ∙ goes) same held)

next_stroke : (xs : List Spelled) (i : ℕ) (s : Spelled) → i < length xs → s ≡ get_or xs i s
    → drop i xs ≡ s ∷ drop (i + 1) xs
next_stroke xs i s lt e = drop_more xs i s lt ∙ ap (λ (x : Spelled). x ∷ drop (i + 1) xs) (sym e)

pub taken_next : (xs : List Spelled) (i : ℕ) (s : Spelled) → i < length xs → s ≡ get_or xs i s
    → (old middle end : Editing) (before between after : Outside) → Takes s old before middle between
    → TakesAll (drop (i + 1) xs) middle between end after → TakesAll (drop i xs) old before end after
taken_next xs i s lt e old middle end before between after takes more =
    subst (λ (x : List Spelled). TakesAll x old before end after) (sym (next_stroke xs i s lt e))
    (middle, between, takes, more)

pub taken_end : (xs : List Spelled) (i : ℕ) → length xs ≤ i → (end : Editing) (after : Outside)
    → TakesAll (drop i xs) end after end after
taken_end xs i le end after =
    subst (λ (x : List Spelled). TakesAll x end after end after) (sym (drop_all i xs le)) (refl, refl)

-- a turn from its parts
pub turn_so : (tui drawn end : Editing) (files between after : Outside) (shown now known : Option Picture)
    (reader kept : Waiting) (input rest : Option (List ℕ)) (bytes given piece : List ℕ) (made strokes : List Spelled)
    → AreDrawn tui drawn shown now bytes → IsPieceOf input rest given → piece ≡ given → (piece ≡ [] → ⊥)
    → HasRead reader piece made kept → strokes ≡ made → between ≡ files → TakesAll strokes drawn between end after
    → known ≡ cond (redraws strokes) None now
    → IsTurn (scene tui files shown reader input) bytes (scene end after known kept rest)
turn_so tui drawn end files between after shown now known reader kept input rest bytes given piece made strokes pictures gives looked more reads pressed same taken seen = record {
  drawn = drawn;
  shown = now;
  draws = pictures;
  piece = piece;
  given = subst (λ (x : List ℕ). IsPieceOf input rest x) (sym looked) gives;
  more = more;
  strokes = strokes;
  reads = subst (λ (x : List Spelled). HasRead reader piece x kept) (sym pressed) reads;
  taken = subst (λ (x : Outside). TakesAll strokes drawn x end after) same taken;
  left = seen;
}

pub as_none : (tui : Editing) (files : Outside) (input : Option (List ℕ)) (r : Waiting) → r ≡ at_first
    → scene tui files None at_first input ≡ scene tui files None r input
as_none tui files input r e = ap (λ (x : Waiting). scene tui files None x input) (sym e)

-- ---- the ends of a run, and its next turn, after the turns so far

module _ (s t : Scene) (a b : Option (List ℕ)) (turns : ℕ) (far : SoFar s a b turns t) (c : Option (List ℕ)) (end : Editing) (after : Outside) where
  pub by_cut : (ending : Ending) → IsOfWriting ending × Writes b c (AreCut t.tui end t.shown) → after ≡ t.files
      → Writes a c (Runs 0 s ending end after)
  by_cut ending cut same =
      so_ends s t a b c turns far cut.1.0 cut.1.2 ending end after
      (subst (λ (x : Outside). Runs turns t ending end x cut.1.0) (sym same) (by_writing cut.1.1 cut.0))

  pub by_stop : (ending : Ending) (now : Option Picture) → Writes b c (AreDrawn t.tui end t.shown now)
      → IsOfReading ending → after ≡ t.files → Writes a c (Runs 0 s ending end after)
  by_stop ending now w reading same =
      so_ends s t a b c turns far w.0 w.2 ending end after
      (subst (λ (x : Outside). Runs turns t ending end x w.0) (sym same) (by_read w.1 reading))

  pub by_end : (now : Option Picture) (rest : Option (List ℕ)) (piece : List ℕ)
      → Writes b c (AreDrawn t.tui end t.shown now) → IsPieceOf t.input rest piece → piece ≡ [] → after ≡ t.files
      → Writes a c (Runs 0 s endings.Done end after)
  by_end now rest piece w given none same =
      so_ends s t a b c turns far w.0 w.2 endings.Done end after
      (subst (λ (x : Outside). Runs turns t endings.Done end x w.0) (sym same)
      (by_input rest w.1 (subst (λ (x : List ℕ). IsPieceOf t.input rest x) none given)))

-- with a turn more
module _ (s t : Scene) (a b c : Option (List ℕ)) (turns : ℕ) (far : SoFar s a b turns t) (bytes : List ℕ) (added : c ≡ append_known b bytes) (u : Scene) (is : IsTurn t bytes u) where
  pub by_keys : u.tui.face.ended ≡ true → Writes a c (Runs 0 s endings.Done u.tui u.files)
  by_keys ended = so_ends s t a b c turns far bytes added endings.Done u.tui u.files (by_key is ended)

  pub goes_on : u.tui.face.ended ≡ false → SoFar s a c (turns + 1) u
  goes_on still = so_next s t a b c turns far bytes added u is still

by_ending : (ending : Ending) (a b : Option (List ℕ)) (bytes : List ℕ)
    → b ≡ append_known a (entered ++ bytes ++ left) → IsLeft ending a b
by_ending endings.Done a b bytes e = (bytes, e)
by_ending endings.ReadFault a b bytes e = (bytes, e)
by_ending endings.WriteFault a b bytes e = tt
by_ending endings.Memory a b bytes e = tt

-- what is written at first, some bytes more, and what is written at the end
pub whole_so : (a b c d : Option (List ℕ)) (x y bytes : List ℕ) → b ≡ append_known a x → x ≡ entered
    → c ≡ append_known b bytes → d ≡ append_known c y → y ≡ left → d ≡ append_known a (entered ++ bytes ++ left)
whole_so a b c d x y bytes first enters grows last leaves =
    last ∙ ap (append_known c) leaves ∙ ap (λ o. append_known o left) grows
    ∙ ap (λ o. append_known (append_known o bytes) left) (first ∙ ap (append_known a) enters)
    ∙ ap (λ o. append_known o left) (twice a entered bytes) ∙ twice a (entered ++ bytes) left

pub left_so : (ending : Ending) (a b c d : Option (List ℕ)) (x y : List ℕ) → b ≡ append_known a x → x ≡ entered
    → (bytes : List ℕ) → c ≡ append_known b bytes → d ≡ append_known c y → y ≡ left → IsLeft ending a d
left_so ending a b c d x y first enters bytes grows last leaves =
    by_ending ending a d bytes
    (whole_so a b c d x y bytes first enters grows last leaves)

module _ (s : Scene) (a b c d : Option (List ℕ)) (x y : List ℕ) (inner : Ending) (end : Editing) (after : Outside) (first : b ≡ append_known a x) (enters : x ≡ entered) (ran : Writes b c (Runs 0 s inner end after)) where
  pub run_so : d ≡ append_known c y → y ≡ left → HasRun s a inner end after d
  run_so last leaves = is_run ran.1 (whole_so a b c d x y ran.0 first enters ran.2 last leaves)

  pub run_not_left : (ending : Ending) → IsOfWriting ending → TakesFront c y d → y ≡ left
      → HasRun s a ending end after d
  run_not_left ending fault front leaves =
      not_left ran.1 fault
      (subst (λ (o : Option (List ℕ)). TakesFront o left d)
      (then_writes a b c entered ran.0 (first ∙ ap (append_known a) enters) ran.2)
      (subst (λ (t : List ℕ). TakesFront c t d) leaves front))

pub run_not_entered : (s : Scene) (a d : Option (List ℕ)) (x : List ℕ) (ending : Ending) → IsOfWriting ending
    → TakesFront a x d → x ≡ entered → HasRun s a ending s.tui s.files d
run_not_entered s a d x ending fault front enters =
    not_entered fault (subst (λ (t : List ℕ). TakesFront a t d) enters front)
