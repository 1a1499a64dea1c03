-- The steps of the walk over a line, and of the walk over the lines of a text.
use Rattle.std.proofs.Common.{◌≡◌, ℕ, zero, suc, ◌+◌, ◌-◌, ◌<◌, min, Bool, true, false, cond, eqb, leb, ◌&&◌, List, [], ◌∷◌, ◌++◌, map, length, take, drop, get_or, refl, inl, inr, lit<, sym, ap, ◌∙◌, arith, append_assoc, append-nil, replicate, encode_utf8_all}
use Rattle.std.specs.List.{range_with_len}
use Rattle.std.proofs.lemmas.Bool.Decides.{nat_tests}
use Rattle.std.proofs.lemmas.Bool.{cases_lt}
use Rattle.std.proofs.lemmas.List.{drop_all, drop_more, get_or_past, replicate-append-replicate}
use Rattle.std.proofs.lemmas.List.Sums.{sum_by-cons}
use Rattle.std.proofs.lemmas.Str.{encodes-append, encode_ascii, chars-nil}
use Rattle.psg_screen.specs.declared.View.{View}
use Rattle.psg_screen.specs.Window.{width_of, column_after, columns_inside, is_written, ends_written, shown_for, shown_behind, shown_line}

-- ---- a line

-- the characters of a line behind others, the nearest first
abbrev pub behind : List ℕ → List ℕ → List ℕ
behind [] before = before
behind (c ∷ line) before = behind line (c ∷ before)

pub behind-push : (line before : List ℕ) (c : ℕ) → behind (line ++ c ∷ []) before ≡ c ∷ behind line before
behind-push [] before c = refl
behind-push (x ∷ line) before c = behind-push line (x ∷ before) c

pub shown_behind-push : (view : View) (before line : List ℕ) (c : ℕ)
    → shown_behind view before (line ++ c ∷ [])
    ≡ shown_behind view before line ++ shown_for view (column_after (behind line before)) c (ends_written view (behind line before))
shown_behind-push view before [] c = append-nil (shown_for view (column_after before) c (ends_written view before))
shown_behind-push view before (x ∷ line) c =
    ap (λ r. shown_for view (column_after before) x (ends_written view before) ++ r) (shown_behind-push view (x ∷ before) line c)
    ∙ sym (append_assoc (shown_for view (column_after before) x (ends_written view before)) (shown_behind view (x ∷ before) line) (shown_for view (column_after (behind line (x ∷ before))) c (ends_written view (behind line (x ∷ before)))))

-- columns from the window's end on are alike
inside-capped : (left cols column width : ℕ) → eqb width 0 ≡ false
    → (leb left (min column (left + cols)) && leb (min column (left + cols) + width) (left + cols))
    ≡ (leb left column && leb (column + width) (left + cols))
inside-capped left cols column width some = grind (arith, nat_tests)

inside_or : (b : Bool) (follows p q : Bool) → (b ≡ false → p ≡ q) → cond b follows p ≡ cond b follows q
inside_or true follows p q same = refl
inside_or false follows p q same = same refl

pub is_written-capped : (view : View) (column width : ℕ) (follows : Bool)
    → is_written view (min column (view.left + view.cols)) width follows ≡ is_written view column width follows
unfolding is_written
is_written-capped view column width follows = inside_or (eqb width 0) follows _ _ (inside-capped view.left view.cols column width)

pub columns_inside-capped : (view : View) (column width : ℕ)
    → columns_inside view (min column (view.left + view.cols)) width ≡ columns_inside view column width
unfolding columns_inside
columns_inside-capped view column width = omega arith

pub shown_for-capped : (view : View) (column c : ℕ) (follows : Bool)
    → shown_for view (min column (view.left + view.cols)) c follows ≡ shown_for view column c follows
unfolding shown_for
shown_for-capped view column c follows = rw (is_written-capped view column (width_of c) follows, columns_inside-capped view column (width_of c)) refl

-- what the walk over a line has behind these characters of it
pub record IsWalked (view : View) (line bytes : List ℕ) (column : ℕ) (written : Bool) : Type 0 where
  pub text : bytes ≡ encode_utf8_all (shown_behind view [] line)
  pub start : column ≡ min (column_after (behind line [])) (view.left + view.cols)
  pub last : written ≡ ends_written view (behind line [])

pub IsWalked-step : (view : View) (line bytes : List ℕ) (column : ℕ) (written : Bool) (c : ℕ) → IsWalked view line bytes column written
    → (more : List ℕ) (next : ℕ) (now : Bool)
    → more ≡ bytes ++ encode_utf8_all (shown_for view column c written)
    → next ≡ min (column + width_of c) (view.left + view.cols)
    → now ≡ is_written view column (width_of c) written
    → IsWalked view (line ++ c ∷ []) more next now
IsWalked-step view line bytes column written c walked more next now text start last =
    let before : List ℕ = behind line [] in
    let same_text = shown_for-capped view (column_after before) c (ends_written view before) in
    let same_last = is_written-capped view (column_after before) (width_of c) (ends_written view before) in
    let pushed = behind-push line [] c in
    let shown = shown_behind-push view [] line c in
    let joined = encodes-append (shown_behind view [] line) (shown_for view (column_after before) c (ends_written view before)) in
    record {
      text = cc;
      start = let e : column_after (behind (line ++ c ∷ []) []) ≡ width_of c + column_after before = ap column_after pushed ∙ sum_by-cons width_of c before in
          rw e (omega (arith, walked.start, start));
      last = cc;
    }

-- one more space at the end of a text
pub spaces-step : (start before after : List ℕ) (n : ℕ)
    → before ≡ start ++ encode_utf8_all (replicate n 32) → after ≡ before ++ 32 ∷ []
    → after ≡ start ++ encode_utf8_all (replicate (n + 1) 32)
spaces-step start before after n held pushed =
    let space : encode_utf8_all (32 ∷ []) ≡ 32 ∷ [] = ap (λ r. r ++ []) (encode_ascii 32 (lit< tt)) in
    let joined : encode_utf8_all (replicate (n + 1) 32) ≡ encode_utf8_all (replicate n 32) ++ 32 ∷ [] =
    sym (ap encode_utf8_all (replicate-append-replicate n 1 32)) ∙ encodes-append (replicate n 32) (32 ∷ [])
    ∙ ap (λ r. encode_utf8_all (replicate n 32) ++ r) space in
    pushed ∙ ap (λ r. r ++ 32 ∷ []) held ∙ append_assoc start (encode_utf8_all (replicate n 32)) (32 ∷ []) ∙ ap (λ r. start ++ r) (sym joined)

-- ---- the lines

-- one more empty line, where some are left to fill in
pub filling-step : (before after : List (List ℕ)) (line : List ℕ) (rows len longer : ℕ)
    → after ≡ before ++ line ∷ [] → line ≡ [] → longer ≡ len + 1 → len < rows
    → after ++ replicate (rows - longer) [] ≡ before ++ replicate (rows - len) []
filling-step before after line rows len longer pushed empty grown below =
    let e : rows - len ≡ suc (rows - longer) = omega arith in
    rw (pushed, empty, e) (append_assoc before ([] ∷ []) (replicate (rows - longer) []))

-- n lines from the first of these on, each by f, and empty ones behind the last
abbrev pub padded : (List ℕ → List ℕ) → ℕ → List (List ℕ) → List (List ℕ)
padded f zero lines = []
padded f (suc n) [] = [] ∷ padded f n []
padded f (suc n) (line ∷ lines) = f line ∷ padded f n lines

replicate-padded : (f : List ℕ → List ℕ) (n : ℕ) → replicate n [] ≡ padded f n []
replicate-padded f zero = refl
replicate-padded f (suc n) = ap (λ r. [] ∷ r) (replicate-padded f n)

taken-padded : (f : List ℕ → List ℕ) (n : ℕ) (lines : List (List ℕ))
    → map f (take n lines) ++ replicate (n - length (take n lines)) [] ≡ padded f n lines
taken-padded f zero lines = refl
taken-padded f (suc n) [] = let e : suc n - 0 ≡ suc n = omega arith in rw e (replicate-padded f (suc n))
taken-padded f (suc n) (line ∷ lines) =
    let e : suc n - suc (length (take n lines)) ≡ n - length (take n lines) = omega arith in
    rw e (ap (λ r. f line ∷ r) (taken-padded f n lines))

-- the same by the numbers of the lines
padded-numbered : (f : List ℕ → List ℕ) → f [] ≡ [] → (n top : ℕ) (lines : List (List ℕ))
    → padded f n (drop top lines) ≡ map (λ place. f (get_or lines place [])) (range_with_len top n)
padded-numbered f empty zero top lines = refl
padded-numbered f empty (suc n) top lines =
    elim (cases_lt top (length lines)) [
      | inl below ↦
          let here : drop top lines ≡ get_or lines top [] ∷ drop (top + 1) lines = drop_more lines top [] below in
          rw here (ap (λ r. f (get_or lines top []) ∷ r) (padded-numbered f empty n (top + 1) lines))
      | inr past ↦
          let here : drop top lines ≡ [] = drop_all top lines past in
          let after : drop (top + 1) lines ≡ [] = drop_all (top + 1) lines (omega arith) in
          let none : get_or lines top [] ≡ [] = get_or_past lines top [] past in
          let rest : padded f n [] ≡ map (λ place. f (get_or lines place [])) (range_with_len (top + 1) n) =
          ap (padded f n) (sym after) ∙ padded-numbered f empty n (top + 1) lines in
          rw (here, none, empty) (ap (λ r. [] ∷ r) rest)
    ]

pub filled-numbered : (f : List ℕ → List ℕ) → f [] ≡ [] → (lines parts shown filled : List (List ℕ)) (top rows len : ℕ)
    → parts ≡ take rows (drop top lines) → shown ≡ map f parts → len ≡ length parts → filled ≡ shown ++ replicate (rows - len) []
    → filled ≡ map (λ place. f (get_or lines place [])) (range_with_len top rows)
filled-numbered f empty lines parts shown filled top rows len taken mapped counted padding =
    let all : map f parts ++ replicate (rows - length parts) [] ≡ padded f rows (drop top lines) =
    rw taken (taken-padded f rows (drop top lines)) in
    let same : shown ++ replicate (rows - len) [] ≡ map f parts ++ replicate (rows - length parts) [] = rw (mapped, counted) refl in
    padding ∙ same ∙ all ∙ padded-numbered f empty rows top lines

-- an empty line shows nothing
pub shown_line-nil : (view : View) → shown_line view [] ≡ []
unfolding shown_line
shown_line-nil view = ap (λ line. encode_utf8_all (shown_behind view [] line)) chars-nil
