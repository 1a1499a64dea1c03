-- Steps of a cursor in a list of characters.
use Rattle.std.proofs.Common.{◌≡◌, ℕ, ◌+◌, ◌-◌, ◌<◌, ◌≤◌, min, Bool, true, false, cond, List, [], ◌∷◌, ◌++◌, length, take, drop, get_or, refl, inl, inr, sym, ap, ◌∙◌, arith, append-nil, length-append, length-take, length-drop, take_all, append_assoc}
use Rattle.std.proofs.Math.ListN.{set}
use Rattle.std.specs.List.{prefix_len, suffix_len, insert}
use Rattle.std.specs.Prelude.{reverse}
use Rattle.std.proofs.lemmas.Bool.{cases_lt}
use Rattle.std.proofs.lemmas.List.{take-append-drop, take-append-le, drop-append-le, drop_all, drop_more, reverse-append, take_more, take_more_set, drop-set-lt, drop-drop, get_or-drop, length-set}
use Rattle.std.proofs.Math.Seq.{take-append_seam, drop-append_seam, take-append-add, drop-append-add}
use Rattle.psg_keys.specs.Lines.{Typed, is_mark, left_of, right_of, to_left, to_right, without_left, without_right, with_char}

-- a line by its characters and the place of its cursor
abbrev pub typed : List ℕ → ℕ → Typed
typed text place = record { before = take place text; after = drop place text }

same_typed : (a b c d : List ℕ) → a ≡ c → b ≡ d → let one : Typed = record { before = a; after = b } in let two : Typed = record { before = c; after = d } in one ≡ two
same_typed a b c d before after =
    let f : List ℕ → List ℕ → Typed = λ x y. record { before = x; after = y } in
    ap (λ x. f x b) before ∙ ap (f c) after

module _ (text : List ℕ) (p : ℕ) (within : p ≤ length text) where
  before : List ℕ
  before = take p text

  after : List ℕ
  after = drop p text

  whole : take p text ++ drop p text ≡ text
  whole = take-append-drop p text

  count : length (take p text) ≡ p
  count = omega (arith, length-take p text, within)

  take_front : (q : ℕ) → q ≤ p → take q text ≡ take q (take p text)
  take_front q le =
      let h : q ≤ length (take p text) = omega (arith, count, le) in
      ap (take q) (sym whole) ∙ take-append-le q (take p text) (drop p text) h

  drop_front : (q : ℕ) → q ≤ p → drop q text ≡ drop q (take p text) ++ drop p text
  drop_front q le =
      let h : q ≤ length (take p text) = omega (arith, count, le) in
      ap (drop q) (sym whole) ∙ drop-append-le q (take p text) (drop p text) h

  take_back : (r : ℕ) → take (p + r) text ≡ take p text ++ take r (drop p text)
  take_back r =
      ap (take (p + r)) (sym whole) ∙ ap (λ n. take (n + r) (take p text ++ drop p text)) (sym count)
      ∙ take-append-add (take p text) (drop p text) r

  drop_back : (r : ℕ) → drop (p + r) text ≡ drop r (drop p text)
  drop_back r =
      ap (drop (p + r)) (sym whole) ∙ ap (λ n. drop (n + r) (take p text ++ drop p text)) (sym count)
      ∙ drop-append-add (take p text) (drop p text) r

  left_le : left_of (take p text) ≤ p
  left_le = omega (arith, count)

  pub typed_left : (q : ℕ) → q ≡ left_of (take p text) → typed text q ≡ to_left (typed text p)
  typed_left q is =
      ap (typed text) is
      ∙ same_typed _ _ _ _ (take_front (left_of (take p text)) left_le) (drop_front (left_of (take p text)) left_le)

  pub typed_right : (q : ℕ) → q ≡ p + min (right_of (drop p text)) (length (drop p text)) → typed text q ≡ to_right (typed text p)
  typed_right q is =
      let r : ℕ = min (right_of (drop p text)) (length (drop p text)) in
      ap (typed text) is
      ∙ same_typed _ _ _ _ (take_back r ∙ ap (λ x. take p text ++ x) (take_min (right_of (drop p text)) (drop p text)))
      (drop_back r ∙ drop_min (right_of (drop p text)) (drop p text))
    where
      take_min : (r : ℕ) (xs : List ℕ) → take (min r (length xs)) xs ≡ take r xs
      take_min r xs =
          elim (cases_lt r (length xs)) [
            | inl below ↦ let e : min r (length xs) ≡ r = omega (arith, below) in ap (λ n. take n xs) e
            | inr past ↦
                let e : min r (length xs) ≡ length xs = omega (arith, past) in
                ap (λ n. take n xs) e ∙ take_all (length xs) xs (omega arith) ∙ sym (take_all r xs past)
          ]

      drop_min : (r : ℕ) (xs : List ℕ) → drop (min r (length xs)) xs ≡ drop r xs
      drop_min r xs =
          elim (cases_lt r (length xs)) [
            | inl below ↦ let e : min r (length xs) ≡ r = omega (arith, below) in ap (λ n. drop n xs) e
            | inr past ↦
                let e : min r (length xs) ≡ length xs = omega (arith, past) in
                ap (λ n. drop n xs) e ∙ drop_all (length xs) xs (omega arith) ∙ sym (drop_all r xs past)
          ]

  pub typed_right_from : (q : ℕ) → q ≡ length (take p text) + min (right_of (drop p text)) (length (drop p text))
      → typed text q ≡ to_right (typed text p)
  typed_right_from q is =
      typed_right q (is ∙ ap (λ n. n + min (right_of (drop p text)) (length (drop p text))) count)

  pub typed_insert : (c : ℕ) (longer : List ℕ) → longer ≡ insert text p c → typed longer (p + 1) ≡ with_char c (typed text p)
  typed_insert c longer is =
      ap (λ xs. typed xs (p + 1)) is ∙ ap (λ n. typed (take p text ++ c ∷ drop p text) (n + 1)) (sym count)
      ∙ same_typed _ _ _ _ (take-append-add (take p text) (c ∷ drop p text) 1) (drop-append-add (take p text) (c ∷ drop p text) 1)

  pub typed_without_left : (q : ℕ) (shorter : List ℕ) → q ≡ left_of (take p text) → shorter ≡ take q text ++ drop p text
      → typed shorter q ≡ without_left (typed text p)
  typed_without_left q shorter is cut =
      let le : q ≤ p = omega (arith, is, left_le) in
      let len : length (take q text) ≡ q = omega (arith, length-take q text, le, within) in
      ap (λ xs. typed xs q) cut ∙ ap (λ n. typed (take q text ++ drop p text) n) (sym len)
      ∙ same_typed _ _ _ _
      (take-append_seam (take q text) (drop p text) ∙ take_front q le ∙ ap (λ n. take n (take p text)) is)
      (drop-append_seam (take q text) (drop p text))

  pub typed_without_right : (q : ℕ) (shorter : List ℕ) → q ≡ length (take p text) + min (right_of (drop p text)) (length (drop p text))
      → shorter ≡ take p text ++ drop q text → typed shorter p ≡ without_right (typed text p)
  typed_without_right q shorter is cut =
      let back : drop q text ≡ drop (right_of (drop p text)) (drop p text) = ap (λ t. t.after) (typed_right_from q is) in
      ap (λ xs. typed xs p) (cut ∙ ap (λ x. take p text ++ x) back)
      ∙ ap (λ n. typed (take p text ++ drop (right_of (drop p text)) (drop p text)) n) (sym count)
      ∙ same_typed _ _ _ _ (take-append_seam (take p text) (drop (right_of (drop p text)) (drop p text)))
      (drop-append_seam (take p text) (drop (right_of (drop p text)) (drop p text)))

  pub typed_without_before : (shorter : List ℕ) → shorter ≡ take 0 text ++ drop p text → drop 0 shorter ≡ drop p text
  typed_without_before shorter cut = cut

-- the steps of the walk to the left
pub left_of_push : (front : List ℕ) (c : ℕ) → left_of (front ++ c ∷ []) ≡ cond (is_mark c) (left_of front) (length front)
left_of_push front c =
    let turned : reverse (front ++ c ∷ []) ≡ c ∷ reverse front = reverse-append front (c ∷ []) in
    let len : length (front ++ c ∷ []) ≡ length front + 1 = length-append front (c ∷ []) in
    ap (λ xs. length (front ++ c ∷ []) - (prefix_len is_mark xs + 1)) turned ∙ at (is_mark c) len
  where
    at : (b : Bool) → length (front ++ c ∷ []) ≡ length front + 1
        → length (front ++ c ∷ []) - (cond b (1 + suffix_len is_mark front) 0 + 1) ≡ cond b (left_of front) (length front)
    at true len = omega (arith, len)
    at false len = omega (arith, len)

-- and of a walk over marks
pub marks_step : (xs : List ℕ) (i : ℕ) → i < length xs
    → prefix_len is_mark (drop i xs) ≡ cond (is_mark (get_or xs i 0)) (1 + prefix_len is_mark (drop (i + 1) xs)) 0
marks_step xs i below = ap (prefix_len is_mark) (drop_more xs i 0 below)

-- what is left after some of the characters from `to` on were moved to those from `from` on
pub record IsMoved (text : List ℕ) (from to : ℕ) (now : List ℕ) (place source : ℕ) : Type 0 where
  pub count : place + to ≡ from + source
  pub long : length now ≡ length text
  pub front : take place now ≡ take from text ++ take (source - to) (drop to text)
  pub back : drop place now ≡ drop place text

pub moved_start : (text : List ℕ) (from to : ℕ) → from ≤ to → IsMoved text from to text from to
moved_start text from to order = record {
  count = refl;
  long = refl;
  front = let none : to - to ≡ 0 = omega arith in sym (append-nil (take from text)) ∙ ap (λ n. take from text ++ take n (drop to text)) (sym none);
  back = refl;
}

pub moved_step : (text : List ℕ) (from to : ℕ) (now next : List ℕ) (place source : ℕ) → from ≤ to → to ≤ source → source < length text
    → IsMoved text from to now place source → (c : ℕ) → c ≡ get_or now source c → next ≡ set now place c
    → IsMoved text from to next (place + 1) (source + 1)
moved_step text from to now next place source order after below moved c read put =
    let inside : place < length now = omega (arith, moved.count, moved.long, order, after, below) in
    let le : place ≤ source = omega (arith, moved.count, order) in
    let here : c ≡ get_or text source c =
    read ∙ ap (λ n. get_or now n c) (let e : source ≡ place + (source - place) = omega (arith, le) in e)
    ∙ sym (get_or-drop place now (source - place) c) ∙ ap (λ xs. get_or xs (source - place) c) moved.back
    ∙ get_or-drop place text (source - place) c
    ∙ ap (λ n. get_or text n c) (let e : place + (source - place) ≡ source = omega (arith, le) in e) in
    let there : get_or (drop to text) (source - to) c ≡ c =
    get_or-drop to text (source - to) c
    ∙ ap (λ n. get_or text n c) (let e : to + (source - to) ≡ source = omega (arith, after) in e) ∙ sym here in
    let taken : take (source - to + 1) (drop to text) ≡ take (source - to) (drop to text) ++ c ∷ [] =
    take_more (drop to text) (source - to) c (omega (arith, length-drop to text, after, below))
    ∙ ap (λ x. take (source - to) (drop to text) ++ x ∷ []) there in
    let count : source + 1 - to ≡ source - to + 1 = omega (arith, after) in
    record {
      count = omega (arith, moved.count);
      long = ap length put ∙ length-set now place c ∙ moved.long;
      front = ap (take (place + 1)) put ∙ take_more_set now place c inside ∙ ap (λ x. x ++ c ∷ []) moved.front
          ∙ append_assoc (take from text) (take (source - to) (drop to text)) (c ∷ [])
          ∙ ap (λ x. take from text ++ x) (sym taken) ∙ ap (λ n. take from text ++ take n (drop to text)) (sym count);
      back = ap (drop (place + 1)) put ∙ drop-set-lt (place + 1) now place c (omega arith)
          ∙ sym (drop-drop 1 place now) ∙ ap (drop 1) moved.back ∙ drop-drop 1 place text;
    }

pub moved_end : (text : List ℕ) (from to : ℕ) (now : List ℕ) (place source : ℕ) → to ≤ length text → source ≡ length text
    → IsMoved text from to now place source → take place now ≡ take from text ++ drop to text
moved_end text from to now place source within end moved =
    let all : take (source - to) (drop to text) ≡ drop to text =
    take_all (source - to) (drop to text) (omega (arith, length-drop to text, within, end)) in
    moved.front ∙ ap (λ x. take from text ++ x) all
