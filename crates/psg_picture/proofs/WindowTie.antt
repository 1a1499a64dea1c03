-- The characters of a program's rows are the window of its text.
use Rattle.std.proofs.Common.{◌≡◌, ℕ, zero, suc, ◌-◌, Bool, eqb, List, [], ◌∷◌, ◌++◌, length, map, take, drop, replicate, refl, sym, ap, ◌∙◌, encode_utf8_all}
use Rattle.std.specs.Prelude.{◌+◌, chars, encode_utf8}
use Rattle.std.specs.List.{slice_split}
use Rattle.std.proofs.lemmas.List.{map-append}
use Rattle.psg_canvas.specs.declared.style.Style.{Style}
use Rattle.psg_screen.specs.declared.View.{View}
use Rattle.psg_screen.specs.Window.{column_after, ends_written, is_written, columns_inside, shown_behind, shown_for, shown_line, width_of, window_of}
use Rattle.psg_screen.proofs.WindowLaws.{filled-numbered, shown_line-nil}
use Rattle.psg_picture.specs.declared.marks.Marks.{Marks}
use Rattle.psg_picture.specs.declared.row.Styled.{Styled}
use Rattle.psg_picture.specs.Marked.{filled, marked_from, program_rows, row_text, rows_from}
use Rattle.psg_picture.specs.Rows.{Row, empty_row, in_style, plain_row, shown}
use Rattle.psg_picture.proofs.MarkedLaws.{filled-front, map-long}

abbrev letters : List Styled → List ℕ
letters row = map (λ (s : Styled). s.c) row

abbrev of_rows : View → ℕ → View
of_rows view n = record view { rows = n }

style-letters : (style : Style) (cs : List ℕ) → letters (in_style style cs) ≡ cs
style-letters style [] = refl
style-letters style (c ∷ cs) = ap (λ r. c ∷ r) (style-letters style cs)

same-written : (view : View) (n column width : ℕ) (follows : Bool)
    → is_written view column width follows ≡ is_written (of_rows view n) column width follows
unfolding is_written
same-written view n column width follows = refl

same-shown : (view : View) (n column c : ℕ) (follows : Bool)
    → shown_for view column c follows ≡ shown_for (of_rows view n) column c follows
unfolding shown_for is_written columns_inside
same-shown view n column c follows = refl

same-ends : (view : View) (n : ℕ) (before : List ℕ) → ends_written view before ≡ ends_written (of_rows view n) before
same-ends view n [] = refl
same-ends view n (c ∷ before) =
    same-written view n (column_after before) (width_of c) (ends_written view before)
    ∙ ap (λ b. is_written (of_rows view n) (column_after before) (width_of c) b) (same-ends view n before)

shown-letters : (view : View) (n : ℕ) (before : List ℕ) (line : List Styled)
    → letters (shown view before line) ≡ shown_behind (of_rows view n) before (letters line)
shown-letters view n before [] = refl
shown-letters view n before (c ∷ line) =
    let own : List ℕ = shown_for view (column_after before) c.c (ends_written view before) in
    let same : own ≡ shown_for (of_rows view n) (column_after before) c.c (ends_written (of_rows view n) before) =
    same-shown view n (column_after before) c.c (ends_written view before)
    ∙ ap (λ b. shown_for (of_rows view n) (column_after before) c.c b) (same-ends view n before) in
    map-append (λ (s : Styled). s.c) (in_style c.style own) (shown view (c.c ∷ before) line)
    ∙ ap (λ r. r ++ letters (shown view (c.c ∷ before) line)) (style-letters c.style own ∙ same)
    ∙ ap (λ r. shown_for (of_rows view n) (column_after before) c.c (ends_written (of_rows view n) before) ++ r) (shown-letters view n (c.c ∷ before) line)

marked-letters : (m : Marks) (byte : ℕ) (cs : List ℕ) → letters (marked_from m byte cs) ≡ cs
marked-letters m byte [] = refl
marked-letters m byte (c ∷ cs) = ap (λ r. c ∷ r) (marked-letters m (byte + length (encode_utf8 c)) cs)

line-text : (view : View) (n : ℕ) (m : Marks) (byte : ℕ) (line : List ℕ)
    → row_text (plain_row (shown view [] (marked_from m byte (chars line)))) ≡ shown_line (of_rows view n) line
unfolding shown_line
line-text view n m byte line =
    ap encode_utf8_all (shown-letters view n [] (marked_from m byte (chars line)) ∙ ap (shown_behind (of_rows view n) []) (marked-letters m byte (chars line)))

rows-text : (view : View) (n : ℕ) (m : Marks) (byte : ℕ) (lines : List (List ℕ))
    → map row_text (rows_from view m byte lines) ≡ map (shown_line (of_rows view n)) lines
rows-text view n m byte [] = refl
rows-text view n m byte (line ∷ lines) =
    ap (λ r. r ∷ map row_text (rows_from view m (byte + length line + 1) lines)) (line-text view n m byte line)
    ∙ ap (λ r. shown_line (of_rows view n) line ∷ r) (rows-text view n m (byte + length line + 1) lines)

map-taken : {A B : Type 0} (f : A → B) (n : ℕ) (xs : List A) → map f (take n xs) ≡ take n (map f xs)
map-taken f zero xs = refl
map-taken f (suc n) [] = refl
map-taken f (suc n) (x ∷ xs) = ap (λ r. f x ∷ r) (map-taken f n xs)

map-dropped : {A B : Type 0} (f : A → B) (n : ℕ) (xs : List A) → map f (drop n xs) ≡ drop n (map f xs)
map-dropped f zero xs = refl
map-dropped f (suc n) [] = refl
map-dropped f (suc n) (x ∷ xs) = map-dropped f n xs

map-same : {A B : Type 0} (f : A → B) (n : ℕ) (x : A) → map f (replicate n x) ≡ replicate n (f x)
map-same f zero x = refl
map-same f (suc n) x = ap (λ r. f x ∷ r) (map-same f n x)

pub program-window : (view : View) (n : ℕ) (text : List ℕ) (m : Marks)
    → map row_text (program_rows view n text m) ≡ window_of text (of_rows view n)
program-window view n text m =
    let f : List ℕ → List ℕ = shown_line (of_rows view n) in
    let lines : List (List ℕ) = slice_split (λ b. eqb b 10) text in
    let rows : List Row = rows_from view m 0 lines in
    let parts : List (List ℕ) = take n (drop view.top lines) in
    let taken : map row_text (take n (drop view.top rows)) ≡ map f parts =
    map-taken row_text n (drop view.top rows) ∙ ap (take n) (map-dropped row_text view.top rows ∙ ap (drop view.top) (rows-text view n m 0 lines)
    ∙ sym (map-dropped f view.top lines)) ∙ sym (map-taken f n (drop view.top lines)) in
    let count : length (take n (drop view.top rows)) ≡ length parts =
    sym (map-long row_text (take n (drop view.top rows))) ∙ ap length taken ∙ map-long f parts in
    let padded : map row_text (filled n (drop view.top rows)) ≡ map f parts ++ replicate (n - length parts) [] =
    ap (map row_text) (filled-front n (drop view.top rows))
    ∙ map-append row_text (take n (drop view.top rows)) (replicate (n - length (take n (drop view.top rows))) empty_row)
    ∙ ap (λ r. r ++ map row_text (replicate (n - length (take n (drop view.top rows))) empty_row)) taken
    ∙ ap (λ k. map f parts ++ map row_text (replicate (n - k) empty_row)) count
    ∙ ap (λ r. map f parts ++ r) (map-same row_text (n - length parts) empty_row) in
    filled-numbered f (shown_line-nil (of_rows view n)) lines parts (map f parts) (map row_text (filled n (drop view.top rows))) view.top n (length parts) refl refl refl padded
