-- A header is read by its lines.
use Rattle.std.proofs.Common.{◌≡◌, ◌≢◌, ℕ, zero, suc, ◌+◌, ◌-◌, ◌<◌, ◌≤◌, Bool, true, false, cond, not, List, [], ◌∷◌, ◌++◌, length, take, drop, get_or, refl, inl, inr, sym, ap, ◌∙◌, arith, Option, Some, None, append_assoc, length-append}
use Rattle.std.specs.Prelude.{◌==◌, codes, position, slice_index}
use Rattle.std.specs.List.{AllByRecursion, prefix_len}
use Rattle.std.proofs.lemmas.Bool.{cases_Bool, cond-false, cond-true, eqb-true, false≢true, ne_eqb}
use Rattle.std.proofs.lemmas.List.Quantifiers.{position-Some}
use Rattle.std.proofs.Math.Seq.{drop-append-add, take-append-add}
use Rattle.psg_protocol.specs.Headers.{ended, feed_of, head_after, is_length_name, length_after, length_at, number_of, trimmed, without_return}
use Rattle.psg_protocol.specs.HeaderLines.{HasLength, IsEnd, IsField, IsHeader}
use Rattle.psg_protocol.proofs.HeadLaws.{test_of_lt}
use Rattle.psg_protocol.proofs.LineLaws.{head_end, head_line}
use Rattle.psg_protocol.proofs.TextLaws.{return_last}

-- ---- a text and its two parts

pub drop_front : (front back : List ℕ) → drop (length front) (front ++ back) ≡ back
drop_front [] back = refl
drop_front (x ∷ front) back = drop_front front back

pub take_front : (front back : List ℕ) → take (length front) (front ++ back) ≡ front
take_front [] back = refl
take_front (x ∷ front) back = ap (λ ys. x ∷ ys) (take_front front back)

-- ---- the first byte that passes a test

abbrev pub PassNone : (ℕ → Bool) → List ℕ → Type 0
PassNone p [] = Unit {0}
PassNone p (x ∷ xs) = (p x ≡ false) × PassNone p xs

pub none_join : (p : ℕ → Bool) (xs ys : List ℕ) → PassNone p xs → PassNone p ys → PassNone p (xs ++ ys)
none_join p [] ys h k = k
none_join p (x ∷ xs) ys (a, h) k = (a, none_join p xs ys h k)

none_of : (b : ℕ) (xs : List ℕ) → AllByRecursion (λ x. x ≢ b) xs → PassNone (λ x. x == b) xs
none_of b [] all = tt
none_of b (x ∷ xs) all = (ne_eqb x b all.0, none_of b xs all.1)

before : (p : ℕ → Bool) (xs : List ℕ) (y : ℕ) (ys : List ℕ) → PassNone p xs → p y ≡ true
    → prefix_len (λ x. not (p x)) (xs ++ y ∷ ys) ≡ length xs
before p [] y ys h here = ap (λ b. cond (not b) (1 + prefix_len (λ x. not (p x)) ys) 0) here
before p (x ∷ xs) y ys (a, h) here =
    ap (λ b. cond (not b) (1 + prefix_len (λ x. not (p x)) (xs ++ y ∷ ys)) 0) a
    ∙ ap (λ n. 1 + n) (before p xs y ys h here) ∙ (omega arith)

pub position_here : (p : ℕ → Bool) (xs : List ℕ) (y : ℕ) (ys : List ℕ) → PassNone p xs → p y ≡ true
    → position p (xs ++ y ∷ ys) ≡ Some (length xs)
position_here p xs y ys h here =
    let n : prefix_len (λ x. not (p x)) (xs ++ y ∷ ys) ≡ length xs = before p xs y ys h here in
    let long : length (xs ++ y ∷ ys) ≡ length xs + suc (length ys) = length-append xs (y ∷ ys) in
    let within : prefix_len (λ x. not (p x)) (xs ++ y ∷ ys) < length (xs ++ y ∷ ys) = omega (arith, n, long) in
    ap (λ b. cond b (Some (prefix_len (λ x. not (p x)) (xs ++ y ∷ ys))) None) (test_of_lt _ _ within) ∙ ap Some n

-- a line feed is found within the first bytes
feed_here : (raw back : List ℕ) → PassNone (λ b. b == 10) raw → length raw < 4096 → feed_of (raw ++ 10 ∷ back) ≡ Some (length raw)
feed_here raw back none short =
    let split : 4096 ≡ length raw + suc (4095 - length raw) = omega (arith, short) in
    let cut : take 4096 (raw ++ 10 ∷ back) ≡ raw ++ 10 ∷ take (4095 - length raw) back =
    ap (λ n. take n (raw ++ 10 ∷ back)) split ∙ take-append-add raw (10 ∷ back) (suc (4095 - length raw)) in
    ap (position (λ b. b == 10)) cut ∙ position_here (λ b. b == 10) raw 10 (take (4095 - length raw) back) none refl

-- ---- one line, up to its line feed

line_read : (lines : ℕ) (found : Option ℕ) (size : ℕ) (raw text back : List ℕ) → 0 < lines → PassNone (λ b. b == 10) raw → length raw < 4096
    → without_return raw ≡ text → (length text == 0) ≡ false
    → head_after lines found size (raw ++ 10 ∷ back) ≡ head_after (lines - 1) (length_after found text) (size + length raw + 1) back
line_read lines found size raw text back some none short is other =
    let cut : without_return (take (length raw) (raw ++ 10 ∷ back)) ≡ text = ap without_return (take_front raw (10 ∷ back)) ∙ is in
    let rest : drop (length raw + 1) (raw ++ 10 ∷ back) ≡ back = drop-append-add raw (10 ∷ back) 1 in
    head_line lines found size (raw ++ 10 ∷ back) (length raw) some (feed_here raw back none short) (ap (λ l. length l == 0) cut ∙ other)
    ∙ ap (λ l. head_after (lines - 1) (length_after found l) (size + length raw + 1) (drop (length raw + 1) (raw ++ 10 ∷ back))) cut
    ∙ ap (λ r. head_after (lines - 1) (length_after found text) (size + length raw + 1) r) rest

end_read : (lines : ℕ) (found : Option ℕ) (size : ℕ) (raw back : List ℕ) → 0 < lines → PassNone (λ b. b == 10) raw → length raw < 4096
    → without_return raw ≡ [] → head_after lines found size (raw ++ 10 ∷ back) ≡ ended found (size + length raw + 1)
end_read lines found size raw back some none short is =
    let cut : without_return (take (length raw) (raw ++ 10 ∷ back)) ≡ [] = ap without_return (take_front raw (10 ∷ back)) ∙ is in
    head_end lines found size (raw ++ 10 ∷ back) (length raw) some (feed_here raw back none short) (ap (λ l. length l == 0) cut)

-- ---- all lines

-- what the lines say of the length
abbrev pub said_after : Option ℕ → List (List ℕ) → Option ℕ
said_after found [] = found
said_after found (text ∷ texts) = said_after (length_after found text) texts

-- the bytes before a line feed
record IsCut (text ending bytes : List ℕ) : Type 0 where
  raw : List ℕ
  whole : text ++ (ending ++ bytes) ≡ raw ++ 10 ∷ bytes
  size : length raw + 1 ≡ length text + length ending
  reads : without_return raw ≡ text
  no_feed : PassNone (λ b. b == 10) raw

pub last_index : (front : List ℕ) (b : ℕ) → slice_index (front ++ b ∷ []) (length front) ≡ b
last_index [] b = refl
last_index (x ∷ front) b = last_index front b

without_same : (text : List ℕ) → slice_index text (length text - 1) ≢ 13 → without_return text ≡ text
without_same text other = cond-false _ (take (length text - 1) text) text (ne_eqb _ 13 other)

cut_line : (text ending bytes : List ℕ) → PassNone (λ b. b == 10) text → without_return text ≡ text → IsEnd ending → IsCut text ending bytes
cut_line text ending bytes none same (inl is) = record {
  raw = text;
  whole = ap (λ e. text ++ (e ++ bytes)) is;
  size = (let n : length ending ≡ 1 = ap length is in omega (arith, n));
  reads = same;
  no_feed = none;
}
cut_line text ending bytes none same (inr is) = record {
  raw = text ++ 13 ∷ [];
  whole = ap (λ e. text ++ (e ++ bytes)) is ∙ sym (append_assoc text (13 ∷ []) (10 ∷ bytes));
  size = (let n : length ending ≡ 2 = ap length is in let m : length (text ++ 13 ∷ []) ≡ length text + 1 = length-append text (13 ∷ []) in omega (arith, n, m));
  reads = return_last (text ++ 13 ∷ []) 13 text refl refl;
  no_feed = none_join (λ b. b == 10) text (13 ∷ []) none (refl, tt);
}

pub lines_read : (lines : ℕ) (found : Option ℕ) (size : ℕ) (texts : List (List ℕ)) (bytes more : List ℕ) → IsHeader texts bytes
    → length texts < lines → head_after lines found size (bytes ++ more) ≡ ended (said_after found texts) (size + length bytes)
lines_read lines found size [] bytes more is few =
    let cut : IsCut [] bytes more = cut_line [] bytes more tt refl is in
    let n : length cut.raw + 1 ≡ 0 + length bytes = cut.size in
    let size_is : size + length cut.raw + 1 ≡ size + length bytes = omega (arith, n) in
    ap (head_after lines found size) cut.whole
    ∙ end_read lines found size cut.raw more (omega (arith, few)) cut.no_feed (end_short bytes is cut.raw n) cut.reads
    ∙ ap (ended found) size_is
  where
    end_short : (ending : List ℕ) → IsEnd ending → (raw : List ℕ) → length raw + 1 ≡ 0 + length ending → length raw < 4096
    end_short ending (inl is) raw n = let k : length ending ≡ 1 = ap length is in omega (arith, n, k)
    end_short ending (inr is) raw n = let k : length ending ≡ 2 = ap length is in omega (arith, n, k)
lines_read lines found size (text ∷ texts) bytes more (ending, rest, line, whole, header) few =
    let cut : IsCut text ending (rest ++ more) =
    cut_line text ending (rest ++ more) (none_of 10 text line.no_feed) (without_same text line.no_return) line.ends in
    let n : length cut.raw + 1 ≡ length text + length ending = cut.size in
    let short : length text + length ending ≤ 4096 = line.short in
    let one : length (text ++ (ending ++ rest)) ≡ length text + length (ending ++ rest) = length-append text (ending ++ rest) in
    let two : length (ending ++ rest) ≡ length ending + length rest = length-append ending rest in
    let all : length bytes ≡ length (text ++ (ending ++ rest)) = ap length whole in
    let size_is : size + length cut.raw + 1 + length rest ≡ size + length bytes = omega (arith, n, one, two, all) in
    let some : 0 < length text = line.some in
    let other : (length text == 0) ≡ false = ne_eqb (length text) 0 (λ e. absurd (omega (arith, e, some))) in
    let fewer : length texts < lines - 1 = omega (arith, few) in
    ap (λ b. head_after lines found size (b ++ more)) whole
    ∙ ap (head_after lines found size)
    (append_assoc text (ending ++ rest) more ∙ ap (λ x. text ++ x) (append_assoc ending rest more) ∙ cut.whole)
    ∙ line_read lines found size cut.raw text (rest ++ more) (omega (arith, few)) cut.no_feed (omega (arith, n, short)) cut.reads other
    ∙ lines_read (lines - 1) (length_after found text) (size + length cut.raw + 1) texts rest more header fewer
    ∙ ap (ended (said_after (length_after found text) texts)) size_is

-- ---- the length

pub field_length : (found : Option ℕ) (text value : List ℕ) → IsField (codes "Content-Length") text value
    → length_after found text ≡ number_of (trimmed value)
field_length found text value field =
    let colon : position (λ b. b == 58) (field.given ++ 58 ∷ value) ≡ Some (length field.given) =
    position_here (λ b. b == 58) field.given 58 value (none_of 58 field.given field.no_colon) refl in
    let name : take (length field.given) (field.given ++ 58 ∷ value) ≡ field.given = take_front field.given (58 ∷ value) in
    let rest : drop (length field.given + 1) (field.given ++ 58 ∷ value) ≡ value = drop-append-add field.given (58 ∷ value) 1 in
    ap (length_after found) field.whole ∙ ap (length_at found (field.given ++ 58 ∷ value)) colon
    ∙ cond-true (is_length_name (take (length field.given) (field.given ++ 58 ∷ value))) _ found (ap is_length_name name ∙ field.same)
    ∙ ap (λ v. number_of (trimmed v)) rest

-- what is before and after the first byte that passes a test
all_before : (xs : List ℕ) (k : ℕ) → ((i : ℕ) → i < k → (get_or xs i 0 == 58) ≡ false) → k ≤ length xs → AllByRecursion (λ b. b ≢ 58) (take k xs)
all_before xs zero none within = tt
all_before [] (suc k) none within = tt
all_before (x ∷ xs) (suc k) none within =
    let first : (x == 58) ≡ false = none 0 (omega arith) in (
      λ e. false≢true (sym first ∙ ap (λ b. b == 58) e),
      all_before xs k (λ i h. none (suc i) (omega (arith, h))) (omega (arith, within)),
    )

split_at : (xs : List ℕ) (k : ℕ) → k < length xs → (get_or xs k 0 == 58) ≡ true → xs ≡ take k xs ++ 58 ∷ drop (k + 1) xs
split_at [] k within is = absurd (omega (arith, within))
split_at (x ∷ xs) zero within is = ap (λ b. b ∷ xs) (eqb-true x 58 is)
split_at (x ∷ xs) (suc k) within is =
    let next : suc (k + 1) ≡ suc k + 1 = omega arith in
    ap (λ ys. x ∷ ys) (split_at xs k (omega (arith, within)) is) ∙ ap (λ n. x ∷ (take k xs ++ 58 ∷ drop n (x ∷ xs))) next

other_at : (found : Option ℕ) (text : List ℕ) (colon : Option ℕ) → position (λ b. b == 58) text ≡ colon
    → ((v : List ℕ) → IsField (codes "Content-Length") text v → ⊥) → length_at found text colon ≡ found
other_at found text None at other = refl
other_at found text (Some k) at other =
    let parts = position-Some (λ b. b == 58) text k 0 at in
    elim (cases_Bool (is_length_name (take k text))) [
      | inl named ↦ absurd (other (drop (k + 1) text) (record {
        given = take k text;
        no_colon = all_before text k parts.2 (let within : k < length text = parts.0 in omega (arith, within));
        same = named;
        whole = split_at text k parts.0 parts.1;
      }))
      | inr named ↦ cond-false (is_length_name (take k text)) _ found named
    ]

others_say : (found : Option ℕ) (texts : List (List ℕ)) → AllByRecursion (λ other. (v : List ℕ) → IsField (codes "Content-Length") other v → ⊥) texts
    → said_after found texts ≡ found
others_say found [] all = refl
others_say found (text ∷ texts) all =
    ap (λ f. said_after f texts) (other_at found text (position (λ b. b == 58) text) refl all.0) ∙ others_say found texts all.1

said_join : (found : Option ℕ) (front : List (List ℕ)) (text : List ℕ) (back : List (List ℕ))
    → said_after found (front ++ text ∷ back) ≡ said_after (length_after (said_after found front) text) back
said_join found [] text back = refl
said_join found (t ∷ front) text back = said_join (length_after found t) front text back

pub length_said : (texts : List (List ℕ)) (value : List ℕ) → HasLength texts value → said_after None texts ≡ number_of (trimmed value)
length_said texts value has =
    ap (said_after None) has.whole ∙ said_join None has.before has.text has.after
    ∙ others_say (length_after (said_after None has.before) has.text) has.after has.last
    ∙ field_length (said_after None has.before) has.text value has.field
