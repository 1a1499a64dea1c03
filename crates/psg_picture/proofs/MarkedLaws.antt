-- The walks over the lines of a text and over the characters of a line.
use Rattle.std.proofs.Common.{◌≡◌, ℕ, zero, suc, ◌+◌, ◌-◌, ◌<◌, ◌≤◌, max, Bool, true, false, cond, eqb, List, [], ◌∷◌, ◌++◌, length, map, take, drop, get_or, refl, sym, ap, ◌∙◌, arith, append-nil, replicate, encode_utf8_all}
use Rattle.std.specs.Prelude.{chars, encode_utf8, nat_le, IsUtf8}
use Rattle.std.specs.Char.{len_utf8}
use Rattle.std.specs.List.{onto_first, range_with_len, slice_split}
use Rattle.std.proofs.lemmas.Bool.{leb-true, leb-false}
use Rattle.std.proofs.lemmas.List.{drop_all, drop-append-le, length-append, map-append, take_more, take-append-drop}
use Rattle.std.proofs.lemmas.Str.{encodes-append, encodes-chars, length-encode}
use Rattle.psg_canvas.specs.Sketching.{Sketched}
use Rattle.psg_screen.specs.declared.View.{View}
use Rattle.psg_picture.specs.declared.marks.Marks.{Marks}
use Rattle.psg_picture.specs.declared.row.Styled.{Styled}
use Rattle.psg_picture.specs.Marked.{filled, marked_from, page_row, page_rows, program_rows, rows_from, style_at}
use Rattle.psg_picture.specs.Rows.{Row, empty_row, plain_row, shown, styled, with_row, with_rows}
use Rattle.psg_picture.proofs.SketchSteps.{rows-push, with_rows-append}

-- ---- characters and their bytes

pub encoded-push : (cs : List ℕ) (c : ℕ) → length (encode_utf8_all (cs ++ c ∷ [])) ≡ length (encode_utf8_all cs) + len_utf8 c
encoded-push cs c =
    let one : length (encode_utf8_all (c ∷ [])) ≡ len_utf8 c = ap length (append-nil (encode_utf8 c)) ∙ length-encode c in
    ap length (encodes-append cs (c ∷ [])) ∙ length-append (encode_utf8_all cs) (encode_utf8_all (c ∷ []))
    ∙ ap (λ n. length (encode_utf8_all cs) + n) one

encoded-room : (cs : List ℕ) (n : ℕ) → length (encode_utf8_all (take n cs)) ≤ length (encode_utf8_all cs)
encoded-room cs n =
    let split : encode_utf8_all cs ≡ encode_utf8_all (take n cs) ++ encode_utf8_all (drop n cs) =
    ap encode_utf8_all (sym (take-append-drop n cs)) ∙ encodes-append (take n cs) (drop n cs) in
    let long : length (encode_utf8_all cs) ≡ length (encode_utf8_all (take n cs)) + length (encode_utf8_all (drop n cs)) =
    ap length split ∙ length-append (encode_utf8_all (take n cs)) (encode_utf8_all (drop n cs)) in
    omega (arith, long)

-- the next of the characters of a text is within it
pub encoded-within : (bytes cs : List ℕ) (c : ℕ) → IsUtf8 bytes → cs ≡ take (length cs) (chars bytes) → length cs < length (chars bytes)
    → c ≡ get_or (chars bytes) (length cs) c → length (encode_utf8_all cs) + len_utf8 c ≤ length bytes
encoded-within bytes cs c utf so_far below here =
    let more : take (length cs + 1) (chars bytes) ≡ take (length cs) (chars bytes) ++ get_or (chars bytes) (length cs) c ∷ [] =
    take_more (chars bytes) (length cs) c below in
    let same : take (length cs + 1) (chars bytes) ≡ cs ++ c ∷ [] =
    more ∙ ap (λ xs. xs ++ get_or (chars bytes) (length cs) c ∷ []) (sym so_far) ∙ ap (λ x. cs ++ x ∷ []) (sym here) in
    let room : length (encode_utf8_all (take (length cs + 1) (chars bytes))) ≤ length (encode_utf8_all (chars bytes)) =
    encoded-room (chars bytes) (length cs + 1) in
    let all : length (encode_utf8_all (chars bytes)) ≡ length bytes = ap length (encodes-chars bytes utf) in
    let now : length (encode_utf8_all (take (length cs + 1) (chars bytes))) ≡ length (encode_utf8_all cs) + len_utf8 c =
    ap (λ xs. length (encode_utf8_all xs)) same ∙ encoded-push cs c in
    omega (arith, room, all, now)

-- ---- the characters of a line

marked-push : (m : Marks) (byte : ℕ) (cs : List ℕ) (c : ℕ)
    → marked_from m byte (cs ++ c ∷ []) ≡ marked_from m byte cs ++ styled c (style_at m (byte + length (encode_utf8_all cs))) ∷ []
marked-push m byte [] c =
    let e : byte ≡ byte + length (encode_utf8_all []) = (let f : byte ≡ byte + 0 = omega arith in f) in
    ap (λ n. styled c (style_at m n) ∷ []) e
marked-push m byte (x ∷ cs) c =
    let next : ℕ = byte + length (encode_utf8 x) in
    let e : next + length (encode_utf8_all cs) ≡ byte + length (encode_utf8_all (x ∷ cs)) =
    (let long : length (encode_utf8_all (x ∷ cs)) ≡ length (encode_utf8 x) + length (encode_utf8_all cs) =
    length-append (encode_utf8 x) (encode_utf8_all cs) in omega (arith, long)) in
    ap (λ r. styled x (style_at m byte) ∷ r) (marked-push m next cs c)
    ∙ ap (λ n. styled x (style_at m byte) ∷ (marked_from m next cs ++ styled c (style_at m n) ∷ [])) e

-- what the walk over a line has behind these characters of it, where the line begins at the byte `start`
pub record IsMarked (m : Marks) (start : ℕ) (cs : List ℕ) (row : List Styled) (byte : ℕ) : Type 0 where
  pub items : row ≡ marked_from m start cs
  pub place : byte ≡ start + length (encode_utf8_all cs)

pub IsMarked-init : (m : Marks) (start : ℕ) (row : List Styled) → row ≡ [] → IsMarked m start [] row start
IsMarked-init m start row none = record { items = none; place = (let f : start ≡ start + 0 = omega arith in f) }

pub IsMarked-step : (m : Marks) (start : ℕ) (cs : List ℕ) (row more : List Styled) (byte next c : ℕ) → IsMarked m start cs row byte
    → more ≡ row ++ styled c (style_at m byte) ∷ [] → next ≡ byte + len_utf8 c → IsMarked m start (cs ++ c ∷ []) more next
IsMarked-step m start cs row more byte next c is pushed now = record {
  items =
      pushed ∙ ap (λ r. r ++ styled c (style_at m byte) ∷ []) is.items
      ∙ ap (λ n. marked_from m start cs ++ styled c (style_at m n) ∷ []) is.place ∙ sym (marked-push m start cs c);
  place = omega (arith, is.place, now, encoded-push cs c);
}

-- ---- the lines of a text

-- the bytes of lines with a line feed after each
abbrev pub bytes_of : List (List ℕ) → ℕ
bytes_of [] = 0
bytes_of (line ∷ lines) = length line + 1 + bytes_of lines

bytes_of-push : (lines : List (List ℕ)) (line : List ℕ) → bytes_of (lines ++ line ∷ []) ≡ bytes_of lines + (length line + 1)
bytes_of-push [] line = let e : length line + 1 + 0 ≡ 0 + (length line + 1) = omega arith in e
bytes_of-push (x ∷ lines) line =
    let e : length x + 1 + bytes_of (lines ++ line ∷ []) ≡ length x + 1 + bytes_of lines + (length line + 1) =
    omega (arith, bytes_of-push lines line) in e

bytes_of-take : (n : ℕ) (lines : List (List ℕ)) → bytes_of (take n lines) ≤ bytes_of lines
bytes_of-take zero lines = omega arith
bytes_of-take (suc n) [] = omega arith
bytes_of-take (suc n) (line ∷ lines) =
    let e : length line + 1 + bytes_of (take n lines) ≤ length line + 1 + bytes_of lines = omega (arith, bytes_of-take n lines) in e

bytes_of-onto : (x n : ℕ) (parts : List (List ℕ)) → bytes_of parts ≡ n + 1 → bytes_of (onto_first x parts) ≡ n + 2
bytes_of-onto x n [] e = absurd (let f : 0 ≡ n + 1 = e in omega (arith, f))
bytes_of-onto x n (part ∷ parts) e =
    let f : length part + 1 + bytes_of parts ≡ n + 1 = e in
    let g : suc (length part) + 1 + bytes_of parts ≡ n + 2 = omega (arith, f) in g

bytes_of-split : (text : List ℕ) → bytes_of (slice_split (λ b. eqb b 10) text) ≡ length text + 1
bytes_of-split [] = let e : 0 + 1 + 0 ≡ 0 + 1 = omega arith in e
bytes_of-split (x ∷ text) = by_test (bytes_of-split text) (eqb x 10)
  where
    by_test : bytes_of (slice_split (λ b. eqb b 10) text) ≡ length text + 1 → (b : Bool)
        → bytes_of (cond b ([] ∷ slice_split (λ b. eqb b 10) text) (onto_first x (slice_split (λ b. eqb b 10) text))) ≡ suc (length text) + 1
    by_test rest true =
        let e : 0 + 1 + bytes_of (slice_split (λ b. eqb b 10) text) ≡ suc (length text) + 1 = omega (arith, rest) in e
    by_test rest false =
        bytes_of-onto x (length text) (slice_split (λ b. eqb b 10) text) rest
        ∙ (let f : length text + 2 ≡ suc (length text) + 1 = omega arith in f)

-- the next of the first lines of a text is within it
pub lines-within : (text : List ℕ) (last n : ℕ) (lines : List (List ℕ)) (line : List ℕ)
    → lines ≡ take n (take last (slice_split (λ b. eqb b 10) text))
    → n < length (take last (slice_split (λ b. eqb b 10) text))
    → line ≡ get_or (take last (slice_split (λ b. eqb b 10) text)) n line
    → bytes_of lines + (length line + 1) ≤ length text + 1
lines-within text last n lines line so_far below here =
    let all : List (List ℕ) = slice_split (λ b. eqb b 10) text in
    let more : take (n + 1) (take last all) ≡ take n (take last all) ++ get_or (take last all) n line ∷ [] =
    take_more (take last all) n line below in
    let same : take (n + 1) (take last all) ≡ lines ++ line ∷ [] =
    more ∙ ap (λ xs. xs ++ get_or (take last all) n line ∷ []) (sym so_far) ∙ ap (λ x. lines ++ x ∷ []) (sym here) in
    let room : bytes_of (take (n + 1) (take last all)) ≤ bytes_of (take last all) = bytes_of-take (n + 1) (take last all) in
    let now : bytes_of (take (n + 1) (take last all)) ≡ bytes_of lines + (length line + 1) = ap bytes_of same ∙ bytes_of-push lines line in
    omega (arith, room, now, bytes_of-take last all, bytes_of-split text)

rows_from-push : (view : View) (m : Marks) (byte : ℕ) (lines : List (List ℕ)) (line : List ℕ)
    → rows_from view m byte (lines ++ line ∷ [])
    ≡ rows_from view m byte lines ++ plain_row (shown view [] (marked_from m (byte + bytes_of lines) (chars line))) ∷ []
rows_from-push view m byte [] line =
    ap (λ n. plain_row (shown view [] (marked_from m n (chars line))) ∷ []) (let f : byte ≡ byte + 0 = omega arith in f)
rows_from-push view m byte (x ∷ lines) line =
    let next : ℕ = byte + length x + 1 in
    let e : next + bytes_of lines ≡ byte + (length x + 1 + bytes_of lines) = omega arith in
    ap (λ r. plain_row (shown view [] (marked_from m byte (chars x))) ∷ r) (rows_from-push view m next lines line)
    ∙ ap (λ n. plain_row (shown view [] (marked_from m byte (chars x))) ∷ (rows_from view m next lines ++ plain_row (shown view [] (marked_from m n (chars line))) ∷ [])) e

rows_from-length : (view : View) (m : Marks) (byte : ℕ) (lines : List (List ℕ)) → length (rows_from view m byte lines) ≡ length lines
rows_from-length view m byte [] = refl
rows_from-length view m byte (line ∷ lines) = ap suc (rows_from-length view m (byte + length line + 1) lines)

rows_from-take : (view : View) (m : Marks) (n byte : ℕ) (lines : List (List ℕ))
    → rows_from view m byte (take n lines) ≡ take n (rows_from view m byte lines)
rows_from-take view m zero byte lines = refl
rows_from-take view m (suc n) byte [] = refl
rows_from-take view m (suc n) byte (line ∷ lines) =
    ap (λ r. plain_row (shown view [] (marked_from m byte (chars line))) ∷ r) (rows_from-take view m n (byte + length line + 1) lines)

-- what the walk over the lines has behind these of them
pub record HasWalked (view : View) (m : Marks) (start now : Sketched) (lines : List (List ℕ)) (number byte : ℕ) : Type 0 where
  pub sketch : now ≡ with_rows (drop view.top (rows_from view m 0 lines)) start
  pub lines_are : number ≡ length lines
  pub place : byte ≡ bytes_of lines

pub HasWalked-init : (view : View) (m : Marks) (start : Sketched) → HasWalked view m start start [] 0 0
HasWalked-init view m start = record { sketch = ap (λ rows. with_rows rows start) (sym (drop_all view.top [] (omega arith))); lines_are = refl; place = refl }

row-step : (rows : List Row) (row : Row) (top : ℕ) (start before after : Sketched) (b : Bool) → nat_le top (length rows) ≡ b
    → before ≡ with_rows (drop top rows) start → after ≡ cond b (with_row row before) before
    → after ≡ with_rows (drop top (rows ++ row ∷ [])) start
row-step rows row top start before after true test held now =
    let le : top ≤ length rows = leb-true top (length rows) test in
    rows-push (drop top rows) row start before after held now
    ∙ ap (λ xs. with_rows xs start) (sym (drop-append-le top rows (row ∷ []) le))
row-step rows row top start before after false test held now =
    let above : length rows < top = leb-false top (length rows) test in
    let long : length (rows ++ row ∷ []) ≡ length rows + 1 = length-append rows (row ∷ []) in
    let none : drop top rows ≡ [] = drop_all top rows (omega (arith, above)) in
    let still : drop top (rows ++ row ∷ []) ≡ [] = drop_all top (rows ++ row ∷ []) (omega (arith, above, long)) in
    now ∙ held ∙ ap (λ xs. with_rows xs start) (none ∙ sym still)

pub HasWalked-step : (view : View) (m : Marks) (start now after : Sketched) (lines longer : List (List ℕ)) (line : List ℕ) (number byte more next : ℕ) (is_shown : Bool)
    → HasWalked view m start now lines number byte
    → is_shown ≡ nat_le view.top number
    → after ≡ cond is_shown (with_row (plain_row (shown view [] (marked_from m byte (chars line)))) now) now
    → more ≡ number + 1 → next ≡ byte + (length line + 1) → longer ≡ lines ++ line ∷ []
    → HasWalked view m start after longer more next
HasWalked-step view m start now after lines longer line number byte more next is_shown walked test drawn counted moved grown =
    let rows : List Row = rows_from view m 0 lines in
    let row : Row = plain_row (shown view [] (marked_from m byte (chars line))) in
    let count : number ≡ length rows = walked.lines_are ∙ sym (rows_from-length view m 0 lines) in
    let tested : nat_le view.top (length rows) ≡ is_shown = ap (nat_le view.top) (sym count) ∙ sym test in
    let all : after ≡ with_rows (drop view.top (rows ++ row ∷ [])) start =
    row-step rows row view.top start now after is_shown tested walked.sketch drawn in
    let place : byte ≡ 0 + bytes_of lines = walked.place ∙ (let f : bytes_of lines ≡ 0 + bytes_of lines = omega arith in f) in
    record {
      sketch =
          all
          ∙ ap (λ n. with_rows (drop view.top (rows ++ plain_row (shown view [] (marked_from m n (chars line))) ∷ [])) start) place
          ∙ ap (λ xs. with_rows (drop view.top xs) start) (sym (rows_from-push view m 0 lines line))
          ∙ ap (λ ls. with_rows (drop view.top (rows_from view m 0 ls)) start) (sym grown);
      lines_are = omega (arith, counted, walked.lines_are, ap length grown, length-append lines (line ∷ []));
      place = omega (arith, moved, walked.place, ap bytes_of grown, bytes_of-push lines line);
    }

-- ---- rows up to a number

filled-nil : (n : ℕ) → filled n [] ≡ replicate n empty_row
filled-nil zero = refl
filled-nil (suc n) = ap (λ r. empty_row ∷ r) (filled-nil n)

pub filled-long : (n : ℕ) (rows : List Row) → length (filled n rows) ≡ n
filled-long zero rows = refl
filled-long (suc n) [] = ap suc (filled-long n [])
filled-long (suc n) (row ∷ rows) = ap suc (filled-long n rows)

pub filled-front : (n : ℕ) (rows : List Row) → filled n rows ≡ take n rows ++ replicate (n - length (take n rows)) empty_row
filled-front zero rows = refl
filled-front (suc n) [] = let e : suc n - 0 ≡ suc n = omega arith in rw e (filled-nil (suc n))
filled-front (suc n) (row ∷ rows) =
    let e : suc n - suc (length (take n rows)) ≡ n - length (take n rows) = omega arith in
    rw e (ap (λ r. row ∷ r) (filled-front n rows))

filled-drop : (top count last : ℕ) (rows : List Row) → last ≡ top + count
    → filled count (drop top rows) ≡ drop top (take last rows) ++ replicate (last - max (length (take last rows)) top) empty_row
filled-drop zero count last rows e =
    let same : count ≡ last = omega (arith, e) in
    let left : last - length (take last rows) ≡ last - max (length (take last rows)) 0 = omega arith in
    filled-front count rows
    ∙ ap (λ n. take n rows ++ replicate (n - length (take n rows)) empty_row) same
    ∙ ap (λ n. take last rows ++ replicate n empty_row) left
filled-drop (suc top) count zero rows e = absurd (let f : 0 ≡ suc top + count = e in omega (arith, f))
filled-drop (suc top) count (suc last) [] e =
    let left : count ≡ suc last - max 0 (suc top) = omega (arith, e) in
    filled-nil count ∙ ap (λ n. replicate n empty_row) left
filled-drop (suc top) count (suc last) (row ∷ rows) e =
    let f : last ≡ top + count = (let g : suc last ≡ suc top + count = e in omega (arith, g)) in
    let left : last - max (length (take last rows)) top ≡ suc last - max (suc (length (take last rows))) (suc top) = omega arith in
    filled-drop top count last rows f ∙ ap (λ n. drop top (take last rows) ++ replicate n empty_row) left

pub program-end : (view : View) (m : Marks) (count last : ℕ) (lines parts : List (List ℕ)) (start now after : Sketched) (number byte left : ℕ)
    → last ≡ view.top + count → parts ≡ take last lines → HasWalked view m start now parts number byte
    → left ≡ last - max number view.top → after ≡ with_rows (replicate left empty_row) now
    → after ≡ with_rows (filled count (drop view.top (rows_from view m 0 lines))) start
program-end view m count last lines parts start now after number byte left up taken walked missing filling =
    let rows : List Row = rows_from view m 0 lines in
    let same : rows_from view m 0 parts ≡ take last rows = ap (rows_from view m 0) taken ∙ rows_from-take view m last 0 lines in
    let counted : number ≡ length (take last rows) =
    walked.lines_are ∙ sym (rows_from-length view m 0 parts) ∙ ap length same in
    filling
    ∙ ap (λ n. with_rows (replicate n empty_row) now) missing
    ∙ ap (with_rows (replicate (last - max number view.top) empty_row)) walked.sketch
    ∙ sym (with_rows-append (drop view.top (rows_from view m 0 parts)) (replicate (last - max number view.top) empty_row) start)
    ∙ ap (λ xs. with_rows (drop view.top xs ++ replicate (last - max number view.top) empty_row) start) same
    ∙ ap (λ n. with_rows (drop view.top (take last rows) ++ replicate (last - max n view.top) empty_row) start) counted
    ∙ ap (λ xs. with_rows xs start) (sym (filled-drop view.top count last rows up))

-- ---- a page

range-push : (a n : ℕ) → range_with_len a (n + 1) ≡ range_with_len a n ++ (a + n) ∷ []
range-push a n = ap (range_with_len a) (let e : n + 1 ≡ suc n = omega arith in e) ∙ by_length a n
  where
    by_length : (a n : ℕ) → range_with_len a (suc n) ≡ range_with_len a n ++ (a + n) ∷ []
    by_length a zero = ap (λ x. x ∷ []) (let e : a ≡ a + 0 = omega arith in e)
    by_length a (suc n) =
        ap (λ r. a ∷ r) (by_length (a + 1) n)
        ∙ ap (λ x. a ∷ (range_with_len (a + 1) n ++ x ∷ [])) (let e : a + 1 + n ≡ a + suc n = omega arith in e)

pub page-step : (cols top n place : ℕ) (lines : List (List ℕ)) (start before after : Sketched)
    → before ≡ with_rows (page_rows cols lines top n) start → place ≡ top + n → after ≡ with_row (page_row cols lines place) before
    → after ≡ with_rows (page_rows cols lines top (n + 1)) start
page-step cols top n place lines start before after held at now =
    rows-push (page_rows cols lines top n) (page_row cols lines place) start before after held now
    ∙ ap (λ p. with_rows (page_rows cols lines top n ++ page_row cols lines p ∷ []) start) at
    ∙ ap (λ rows. with_rows rows start)
    (sym (ap (map (page_row cols lines)) (range-push top n) ∙ map-append (page_row cols lines) (range_with_len top n) ((top + n) ∷ [])))

pub program-long : (view : View) (count : ℕ) (text : List ℕ) (m : Marks) → length (program_rows view count text m) ≡ count
program-long view count text m = filled-long count (drop view.top (rows_from view m 0 (slice_split (λ b. eqb b 10) text)))

pub map-long : {A B : Type 0} (f : A → B) (xs : List A) → length (map f xs) ≡ length xs
map-long f [] = refl
map-long f (x ∷ xs) = ap suc (map-long f xs)
