-- Laws of the texts of paths.
use Rattle.std.proofs.Common.{◌≡◌, ◌≢◌, ℕ, suc, ◌+◌, ◌<◌, List, [], ◌∷◌, ◌++◌, length, get_or, drop, Bool, false, refl, sym, ap, ◌∙◌, arith, append_assoc, add-one}
use Rattle.std.proofs.lemmas.Bool.{both_ways}
use Rattle.std.specs.Bool.{◌==◌}
use Rattle.std.proofs.lemmas.Str.{IsUtf8-drop, IsCharBoundary-after_ascii}
use Rattle.std.specs.Str.{IsUtf8}
use Rattle.std.specs.Fmt.{decimal}
use Rattle.std.specs.List.{AllByRecursion}
use Rattle.psg_script.specs.Forms.{Text, IsNumber, IsPlace, steps_text, place_text}
use Rattle.psg_script.specs.Reading.{IsNumeral, IsStepsText, IsPlaceWord}
use Rattle.psg_script.specs.declared.command.Where.{Where}
use Rattle.psg_script.specs.declared.command.Where.TheVariants.{Cursor, At}
use Rattle.psg_script.proofs.NumberLemmas.{IsStep, decimal_step, decimal_word, same_decimal}

-- what may stand behind a step: nothing, or a text that begins with `/`
abbrev BeginsStep : Text → Type 0
BeginsStep [] = Unit {0}
BeginsStep (b ∷ bs) = b ≡ 47

no_step : (x : Text) (c : ℕ) (y : Text) → BeginsStep x → IsStep c → x ≡ c ∷ y → ⊥
no_step [] c y h k e = cc
no_step (b ∷ bs) c y h k e = k (let p : c ≡ 47 = cc in p)

-- a text has one way to be a step and then what stands behind it
steps_apart : (w v x y : Text) → AllByRecursion IsStep w → AllByRecursion IsStep v → BeginsStep x → BeginsStep y → w ++ x ≡ v ++ y → (w ≡ v) × (x ≡ y)
steps_apart [] [] x y hw hv hx hy e = (refl, e)
steps_apart [] (c ∷ v) x y hw hv hx hy e = absurd (no_step x c _ hx hv.0 e)
steps_apart (c ∷ w) [] x y hw hv hx hy e = absurd (no_step y c _ hy hw.0 (sym e))
steps_apart (c ∷ w) (d ∷ v) x y hw hv hx hy e =
    let head : c ≡ d = cc in
    let rest : w ++ x ≡ v ++ y = cc in
    let r = steps_apart w v x y hw.1 hv.1 hx hy rest in
    let same : w ≡ v = r.0 in
    (let p : (c ∷ w) ≡ d ∷ v = cc in p, r.1)

begins_steps : (ks : List ℕ) → BeginsStep (steps_text ks)
begins_steps [] = tt
begins_steps (k ∷ ks) = refl

begins_more : (ks : List ℕ) (x : Text) → BeginsStep (steps_text ks ++ (47 ∷ x))
begins_more [] x = refl
begins_more (k ∷ ks) x = refl

pub step_from_places : (w : Text) → ((i : ℕ) → i < length w → get_or w i 0 ≢ 47) → AllByRecursion IsStep w
step_from_places [] h = tt
step_from_places (b ∷ bs) h = (h 0 (omega arith), step_from_places bs (λ i l. h (suc i) (omega arith)))

-- Reading from the left.

read_at_seam : (w : Text) (b : ℕ) (x : Text) → get_or (w ++ (b ∷ x)) (length w) 0 ≡ b
read_at_seam [] b x = refl
read_at_seam (c ∷ w) b x = read_at_seam w b x

drop_past_seam : (w : Text) (b : ℕ) (x : Text) → drop (suc (length w)) (w ++ (b ∷ x)) ≡ x
drop_past_seam [] b x = refl
drop_past_seam (c ∷ w) b x = drop_past_seam w b x

seam_within : (w : Text) (b : ℕ) (x : Text) → length w < length (w ++ (b ∷ x))
seam_within [] b x = omega arith
seam_within (c ∷ w) b x = omega (arith, seam_within w b x)

-- what stands behind a `/` in a text is a text
pub utf8_behind : (rest w behind : Text) → IsUtf8 rest → rest ≡ w ++ (47 ∷ behind) → IsUtf8 behind
utf8_behind rest w behind u e =
    let at_seam : get_or rest (length w) 0 ≡ 47 = rw e (read_at_seam w 47 behind) in
    let within : length w < length rest = rw e (seam_within w 47 behind) in
    let cut = IsUtf8-drop rest (length w + 1) u (IsCharBoundary-after_ascii rest (length w) u within (omega arith)) in
    let is : drop (length w + 1) rest ≡ behind = rw (add-one, e) (drop_past_seam w 47 behind) in
    rw is at cut

-- the steps so far, and then a `/` and what is left
pub record IsReadTo (text : Text) (steps : List ℕ) (rest : Text) : Type 0 where
  pub numbers : AllByRecursion IsNumber steps
  pub written : 47 ∷ text ≡ steps_text steps ++ (47 ∷ rest)

pub read_none : (text : Text) → IsReadTo text [] text
read_none text = record { numbers = tt; written = refl }

pub steps_text_push : (ks : List ℕ) (k : ℕ) → steps_text (ks ++ k ∷ []) ≡ steps_text ks ++ (47 ∷ decimal k)
steps_text_push [] k = ap (λ t. 47 ∷ t) (nil (decimal k)) where
  nil : (x : Text) → x ++ [] ≡ x
  nil [] = refl
  nil (b ∷ bs) = ap (λ t. b ∷ t) (nil bs)
steps_text_push (j ∷ ks) k = ap (λ t. 47 ∷ t) (ap (λ t. decimal j ++ t) (steps_text_push ks k) ∙ sym (append_assoc (decimal j) (steps_text ks) (47 ∷ decimal k)))

numbers_push : (ks : List ℕ) (k : ℕ) → AllByRecursion IsNumber ks → IsNumber k → AllByRecursion IsNumber (ks ++ k ∷ [])
numbers_push [] k h l = (l, tt)
numbers_push (j ∷ ks) k h l = (h.0, numbers_push ks k h.1 l)

pub read_more : (text : Text) (steps : List ℕ) (rest word behind : Text) (k : ℕ) → IsReadTo text steps rest → rest ≡ word ++ (47 ∷ behind) → IsNumeral k word → IsReadTo text (steps ++ k ∷ []) behind
read_more text steps rest word behind k so_far e n = record {
  numbers = numbers_push steps k so_far.numbers n.0;
  written = so_far.written ∙ (ap (λ t. steps_text steps ++ (47 ∷ t)) (e ∙ ap (λ t. t ++ (47 ∷ behind)) n.1) ∙ (sym (append_assoc (steps_text steps) (47 ∷ decimal k) (47 ∷ behind)) ∙ ap (λ t. t ++ (47 ∷ behind)) (sym (steps_text_push steps k))));
}

pub read_last : (text : Text) (steps : List ℕ) (rest : Text) (k : ℕ) → IsReadTo text steps rest → IsNumeral k rest → IsStepsText (steps ++ k ∷ []) text
read_last text [] rest k so_far n = ((n.0, tt), so_far.written ∙ (ap (λ t. 47 ∷ t) n.1 ∙ sym (steps_text_push [] k)))
read_last text (j ∷ ks) rest k so_far n = (
  numbers_push (j ∷ ks) k so_far.numbers n.0,
  so_far.written ∙ (ap (λ t. steps_text (j ∷ ks) ++ (47 ∷ t)) n.1 ∙ sym (steps_text_push (j ∷ ks) k)),
)

-- what is left is the text of what is left of any path that the whole text is written for
left_of : (steps path : List ℕ) (rest : Text) → AllByRecursion IsNumber steps → AllByRecursion IsNumber path → steps_text path ≡ steps_text steps ++ (47 ∷ rest) → (k : ℕ) × (ks : List ℕ) × AllByRecursion IsNumber (k ∷ ks) × (rest ≡ decimal k ++ steps_text ks)
left_of [] [] rest hs hp e = absurd (let p : ⊥ = cc in p)
left_of [] (k ∷ ks) rest hs hp e = (k, ks, hp, let p : rest ≡ decimal k ++ steps_text ks = cc in p)
left_of (s ∷ ss) [] rest hs hp e = absurd (let p : ⊥ = cc in p)
left_of (s ∷ ss) (p ∷ ps) rest hs hp e =
    let behind : decimal p ++ steps_text ps ≡ (decimal s ++ steps_text ss) ++ (47 ∷ rest) = cc in
    let r = steps_apart (decimal p) (decimal s) (steps_text ps) (steps_text ss ++ (47 ∷ rest)) (decimal_step p hp.0) (decimal_step s hs.0) (begins_steps ps) (begins_more ss rest) (behind ∙ append_assoc (decimal s) (steps_text ss) (47 ∷ rest)) in
    left_of ss ps rest hs.1 hp.1 r.1

path_left : (text : Text) (steps : List ℕ) (rest : Text) (path : List ℕ) → IsReadTo text steps rest → IsStepsText path text → (k : ℕ) × (ks : List ℕ) × AllByRecursion IsNumber (k ∷ ks) × (rest ≡ decimal k ++ steps_text ks)
path_left text steps rest [] so_far h = absurd h
path_left text steps rest (k ∷ ks) so_far h = left_of steps (k ∷ ks) rest so_far.numbers h.0 (sym h.1 ∙ so_far.written)

-- the word before the next `/` is no number
pub no_more : (text : Text) (steps : List ℕ) (rest word behind : Text) → IsReadTo text steps rest → rest ≡ word ++ (47 ∷ behind) → AllByRecursion IsStep word → ((k : ℕ) → IsNumeral k word → ⊥) → (path : List ℕ) → IsStepsText path text → ⊥
no_more text steps rest word behind so_far e w none path h =
    let (k, ks, numbers, f) = path_left text steps rest path so_far h in
    let r = steps_apart word (decimal k) (47 ∷ behind) (steps_text ks) w (decimal_step k numbers.0) refl (begins_steps ks) (sym e ∙ f) in
    none k (numbers.0, r.0)

-- what is left is one word, and no number
pub no_last : (text : Text) (steps : List ℕ) (rest : Text) → IsReadTo text steps rest → AllByRecursion IsStep rest → ((k : ℕ) → IsNumeral k rest → ⊥) → (path : List ℕ) → IsStepsText path text → ⊥
no_last text steps rest so_far w none path h =
    let (k, ks, numbers, f) = path_left text steps rest path so_far h in
    let r = steps_apart rest (decimal k) [] (steps_text ks) w (decimal_step k numbers.0) tt (begins_steps ks) (nil rest ∙ f) in
    none k (numbers.0, r.0) where
      nil : (x : Text) → x ++ [] ≡ x
      nil [] = refl
      nil (b ∷ bs) = ap (λ t. b ∷ t) (nil bs)

-- Places.

pub not_empty : (text : Text) (b : Bool) → b ≡ false → b ≡ (length text == 0) → text ≡ [] → ⊥
not_empty text b f t e = both_ways b f (t ∙ ap (λ x. length x == 0) e)

pub place_at_steps : (word text : Text) (steps : List ℕ) → word ≡ 47 ∷ text → IsStepsText steps text → IsPlaceWord (At steps) word
place_at_steps word text [] e h = absurd h
place_at_steps word text (k ∷ ks) e h = (h.0, e ∙ h.1)

-- neither `.` nor a `/` first
pub no_place : (word : Text) → (word ≡ 46 ∷ [] → ⊥) → ((rest : Text) → word ≢ 47 ∷ rest) → (place : Where) → IsPlaceWord place word → ⊥
no_place word dot slash Cursor h = dot h.1
no_place word dot slash (At []) h = slash [] h.1
no_place word dot slash (At (k ∷ ks)) h = slash _ h.1

-- a `/` first, and behind it bytes that no steps are written as
pub no_steps : (word text : Text) → word ≡ 47 ∷ text → (text ≡ [] → ⊥) → ((path : List ℕ) → IsStepsText path text → ⊥) → (place : Where) → IsPlaceWord place word → ⊥
no_steps word text e some none Cursor h = let p : ◌≡◌ {A = ℕ} 46 47 = ap (λ t. get_or t 0 0) (sym h.1 ∙ e) in omega arith
no_steps word text e some none (At []) h = some (let p : (47 ∷ []) ≡ 47 ∷ text = sym h.1 ∙ e in let q : text ≡ [] = cc in q)
no_steps word text e some none (At (k ∷ ks)) h = none (k ∷ ks) (h.0, sym e ∙ h.1)

-- A place is told by its text.

same_steps : (ks js : List ℕ) → AllByRecursion IsNumber ks → AllByRecursion IsNumber js → steps_text ks ≡ steps_text js → ks ≡ js
same_steps [] [] h g e = refl
same_steps [] (j ∷ js) h g e = absurd (let p : ⊥ = cc in p)
same_steps (k ∷ ks) [] h g e = absurd (let p : ⊥ = cc in p)
same_steps (k ∷ ks) (j ∷ js) h g e =
    let behind : decimal k ++ steps_text ks ≡ decimal j ++ steps_text js = cc in
    let r = steps_apart (decimal k) (decimal j) (steps_text ks) (steps_text js) (decimal_step k h.0) (decimal_step j g.0) (begins_steps ks) (begins_steps js) behind in
    let first : k ≡ j = same_decimal k j h.0 g.0 r.0 in
    let rest : ks ≡ js = same_steps ks js h.1 g.1 r.1 in
    ap (λ x. x ∷ ks) first ∙ ap (λ xs. j ∷ xs) rest

-- behind the `/` of a first step there is a digit
top_has_no_step : (k : ℕ) (ks : List ℕ) → IsNumber k → (47 ∷ []) ≡ steps_text (k ∷ ks) → ⊥
top_has_no_step k ks h e = some_digit (decimal k) (decimal_word k h).0 (let p : [] ≡ decimal k ++ steps_text ks = cc in p) where
  some_digit : (ds : Text) → 0 < length ds → [] ≡ ds ++ steps_text ks → ⊥
  some_digit [] l q = omega arith
  some_digit (d ∷ ds) l q = cc

dot_is_no_slash : (x : Text) → (46 ∷ []) ≡ 47 ∷ x → ⊥
dot_is_no_slash x e = let p : ◌≡◌ {A = ℕ} 46 47 = ap (λ t. get_or t 0 0) e in omega arith

pub same_place : (w v : Where) → IsPlace w → IsPlace v → place_text w ≡ place_text v → w ≡ v
same_place Cursor Cursor h g e = refl
same_place Cursor (At []) h g e = absurd (dot_is_no_slash _ e)
same_place Cursor (At (k ∷ ks)) h g e = absurd (dot_is_no_slash _ e)
same_place (At []) Cursor h g e = absurd (dot_is_no_slash _ (sym e))
same_place (At []) (At []) h g e = refl
same_place (At []) (At (k ∷ ks)) h g e = absurd (top_has_no_step k ks g.0 e)
same_place (At (k ∷ ks)) Cursor h g e = absurd (dot_is_no_slash _ (sym e))
same_place (At (k ∷ ks)) (At []) h g e = absurd (top_has_no_step k ks h.0 (sym e))
same_place (At (k ∷ ks)) (At (j ∷ js)) h g e = ap At (same_steps (k ∷ ks) (j ∷ js) h g e)
