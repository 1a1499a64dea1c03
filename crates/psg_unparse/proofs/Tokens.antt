-- The first and the last character of a token's text.
use Rattle.std.proofs.Common.{◌≡◌, ℕ, ◌+◌, ◌<◌, List, [], ◌∷◌, ◌++◌, length, drop, get_or, Some, None, slice_get, refl, ap, ap₂, sym, subst, ◌∙◌, append-nil, arith, encode_utf8, IsUtf8, length-append, lit<}
use Rattle.std.specs.Str.{chars}
use Rattle.std.proofs.Math.Seq.{take-append_seam, drop-append_seam}
use Rattle.std.proofs.lemmas.Str.{encodes-append, encodes-chars, encodes_same, chars-append, chars_past_char, IsUtf8-drop, IsUtf8-take, IsCharBoundary-before_ascii}
use Rattle.psg_unparse.specs.Layout.{last_char}
use Rattle.psg_unparse.proofs.Rows.{last_char-snoc}

-- the last character comes off the text
pub last_off : (text front : List ℕ) (c : ℕ) → IsUtf8 text → IsUtf8 front → text ≡ front ++ encode_utf8 c → chars text ≡ chars front ++ c ∷ []
last_off text front c u v e =
    encodes_same (chars text) (chars front ++ c ∷ [])
    (encodes-chars text u ∙ e ∙ ap₂ (λ x y. x ++ y) (sym (encodes-chars front v)) (sym (append-nil (encode_utf8 c))) ∙ sym (encodes-append (chars front) (c ∷ [])))

pub last_is : (otherwise : ℕ) (cs front : List ℕ) (c : ℕ) → cs ≡ front ++ c ∷ [] → c ≡ last_char otherwise cs
last_is otherwise cs front c e = sym (ap (last_char otherwise) e ∙ last_char-snoc otherwise front c)

pub none_last : (otherwise : ℕ) (cs : List ℕ) → cs ≡ [] → otherwise ≡ last_char otherwise cs
none_last otherwise cs e = sym (ap (last_char otherwise) e)

pub first_is : (text rest : List ℕ) (c : ℕ) → IsUtf8 text → text ≡ encode_utf8 c ++ rest → Some c ≡ slice_get (chars text) 0
first_is text rest c u e = sym (ap (λ cs. slice_get cs 0) (chars_past_char text rest c u e))

pub none_first : (cs : List ℕ) → cs ≡ [] → None ≡ slice_get cs 0
none_first cs e = sym (ap (λ xs. slice_get xs 0) e)

-- ---- a quote and a question mark

-- what was written behind a text begins with a character of ASCII, so it is a text by itself
at_seam : (front : List ℕ) (b : ℕ) (behind : List ℕ) → get_or (front ++ b ∷ behind) (length front) 0 ≡ b
at_seam [] b behind = refl
at_seam (x ∷ front) b behind = at_seam front b behind

pub written_utf8 : (whole front : List ℕ) (b : ℕ) (behind : List ℕ) → IsUtf8 whole → whole ≡ front ++ b ∷ behind → b < 128 → IsUtf8 (b ∷ behind)
written_utf8 whole front b behind u e l =
    let at : get_or whole (length front) 0 ≡ b = ap (λ x. get_or x (length front) 0) e ∙ at_seam front b behind in
    let long : length whole ≡ length front + length (b ∷ behind) = ap length e ∙ length-append front (b ∷ behind) in
    let within : length front < length whole = omega (arith, long) in
    let low : get_or whole (length front) 0 < 128 = omega (arith, at, l) in
    subst IsUtf8 (ap (drop (length front)) e ∙ drop-append_seam front (b ∷ behind))
    (IsUtf8-drop whole (length front) u (IsCharBoundary-before_ascii whole (length front) within low))

-- what is in front of a last character of ASCII is a text
front_utf8 : (front : List ℕ) (b : ℕ) → IsUtf8 (front ++ b ∷ []) → b < 128 → IsUtf8 front
front_utf8 front b u l =
    let whole : List ℕ = front ++ b ∷ [] in
    let within : length front < length (front ++ b ∷ []) = omega (arith, length-append front (b ∷ [])) in
    let low : get_or (front ++ b ∷ []) (length front) 0 < 128 = omega (arith, at_seam front b [], l) in
    subst IsUtf8 (take-append_seam front (b ∷ []))
    (IsUtf8-take (front ++ b ∷ []) (length front) u (IsCharBoundary-before_ascii (front ++ b ∷ []) (length front) within low))

one_quote : chars (34 ∷ []) ≡ 34 ∷ []
unfolding chars
one_quote = refl

one_mark : chars (63 ∷ []) ≡ 63 ∷ []
unfolding chars
one_mark = refl

utf8-mark : IsUtf8 (63 ∷ [])
unfolding lib.Utf8.encode
utf8-mark = (63 ∷ [], (refl, refl))

pub quote_first : (xs : List ℕ) → Some 34 ≡ slice_get (chars (34 ∷ xs)) 0
unfolding chars
quote_first [] = refl
quote_first (x ∷ xs) = refl

-- the last character of what is written in quotes
pub quote_last : (whole before xs : List ℕ) → IsUtf8 whole → whole ≡ before ++ 34 ∷ (xs ++ 34 ∷ []) → 34 ≡ last_char 0 (chars (34 ∷ (xs ++ 34 ∷ [])))
quote_last whole before xs u e =
    let own : IsUtf8 (34 ∷ (xs ++ 34 ∷ [])) = written_utf8 whole before 34 (xs ++ 34 ∷ []) u e (lit< tt) in
    let front : IsUtf8 (34 ∷ xs) = front_utf8 (34 ∷ xs) 34 own (lit< tt) in
    sym (ap (last_char 0) (chars-append (34 ∷ xs) (34 ∷ []) front ∙ ap (λ x. chars (34 ∷ xs) ++ x) one_quote) ∙ last_char-snoc 0 (chars (34 ∷ xs)) 34)

chars-mark : (xs : List ℕ) → chars (63 ∷ xs) ≡ 63 ∷ chars xs
chars-mark xs = chars-append (63 ∷ []) xs utf8-mark ∙ ap (λ x. x ++ chars xs) one_mark

pub mark_first : (xs : List ℕ) → Some 63 ≡ slice_get (chars (63 ∷ xs)) 0
mark_first xs = sym (ap (λ x. slice_get x 0) (chars-mark xs))

pub mark_last : (xs : List ℕ) (c : ℕ) → c ≡ last_char 63 (chars xs) → c ≡ last_char 0 (chars (63 ∷ xs))
mark_last xs c e = e ∙ sym (ap (last_char 0) (chars-mark xs))
