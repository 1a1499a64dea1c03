-- The first part of a text that begins with a quote.
use Rattle.std.proofs.Common.{◌≡◌, ◌==◌, ℕ, ◌+◌, ◌<◌, ◌≤◌, ◌&&◌, Bool, true, false, cond, suc, List, [], ◌∷◌, ◌++◌, take, drop, get_or, length, refl, ap, sym, ◌∙◌, subst, arith, drop-cons}
use Rattle.std.specs.Prelude.{chars, encode_utf8_all, not, Option, Some, None, option_map}
use Rattle.std.specs.List.{list_all}
use Rattle.std.proofs.Math.Seq.{take-append_seam}
use Rattle.std.proofs.lemmas.Bool.{and_parts, false≢true}
use Rattle.psg_lexis.specs.Tokens.{quoted}
use Rattle.psg_deflines.specs.Written.{goes_on_word, ends_word, begins_word}
use Rattle.psg_deflines.specs.WrittenTrees.{quoted_part}
use Rattle.psg_deflines.specs.Parts.{IsPart, a_word, a_mark, a_sigil, a_quoted, IsApart, IsFirst, HasNoFirst, is_mark, is_sigil}
use Rattle.psg_deflines.specs.Quotes.{closing, IsQuoteOf, HasNoQuote}
use Rattle.psg_deflines.proofs.QuoteLaws.{quoted-whole, quoted-closes}

-- ---- the walk to the closing quote

at-next : (xs : List ℕ) (i : ℕ) → i < length xs → drop i xs ≡ get_or xs i 0 ∷ drop (i + 1) xs
at-next xs i h = drop-cons xs i 0 h ∙ ap (λ n. get_or xs i 0 ∷ drop n xs) (plus-one i)
  where
    plus-one : (n : ℕ) → suc n ≡ n + 1
    plus-one n = omega arith

pub closing-here : (text : List ℕ) (i : ℕ) (escaped : Bool) → i < length text → (not escaped && (get_or text i 0 == 34)) ≡ true → closing escaped (drop i text) ≡ Some 0
closing-here text i escaped h e =
    ap (closing escaped) (at-next text i h) ∙ ap (λ b. cond b (Some 0) (option_map (λ n. 1 + n) (closing (not escaped && (get_or text i 0 == 92)) (drop (i + 1) text)))) e

pub closing-later : (text : List ℕ) (i : ℕ) (escaped : Bool) → i < length text → (not escaped && (get_or text i 0 == 34)) ≡ false
    → closing escaped (drop i text) ≡ option_map (λ n. 1 + n) (closing (not escaped && (get_or text i 0 == 92)) (drop (i + 1) text))
closing-later text i escaped h e =
    ap (closing escaped) (at-next text i h) ∙ ap (λ b. cond b (Some 0) (option_map (λ n. 1 + n) (closing (not escaped && (get_or text i 0 == 92)) (drop (i + 1) text)))) e

pub map-more : (i : ℕ) (o : Option ℕ) → option_map (λ n. i + n) (option_map (λ n. 1 + n) o) ≡ option_map (λ n. i + 1 + n) o
map-more i None = refl
map-more i (Some n) = ap Some (omega arith)

map-none : (o : Option ℕ) → option_map (λ n. 0 + n) o ≡ o
map-none None = refl
map-none (Some n) = ap Some (omega arith)

pub closing-start : (text : List ℕ) → closing false text ≡ option_map (λ n. 0 + n) (closing false (drop 0 text))
closing-start text = sym (map-none (closing false text))

-- ---- the first part of a text that begins with a quote

take-whole : (xs part behind : List ℕ) → xs ≡ part ++ behind → part ≡ take (length part) xs
take-whole xs part behind e = sym (ap (take (length part)) e ∙ take-append_seam part behind)

-- a part that begins with a quote is a quoted text
quote-part : (body part behind : List ℕ) → IsPart part → 34 ∷ body ≡ part ++ behind → (w : List ℕ) × IsQuoteOf part w
quote-part body [] behind (a_word w) e = absurd (omega (arith, w.0))
quote-part body (c ∷ part) behind (a_word w) e =
    let same : c ≡ 34 = cc in
    absurd (false≢true (subst (λ x. goes_on_word x ≡ true) same (and_parts (goes_on_word c) (list_all goes_on_word part) w.1).0))
quote-part body part behind (a_mark m) e =
    let whole : 34 ∷ body ≡ m.mark ∷ behind = e ∙ ap (λ p. p ++ behind) m.whole in
    let same : m.mark ≡ 34 = cc in
    absurd (false≢true (subst (λ x. is_mark x ≡ true) same m.is))
quote-part body part behind (a_sigil g) e =
    let whole : 34 ∷ body ≡ g.sigil ∷ (g.name ++ behind) = e ∙ ap (λ p. p ++ behind) g.whole in
    let same : g.sigil ≡ 34 = cc in
    absurd (false≢true (subst (λ x. is_sigil x ≡ true) same g.is))
quote-part body part behind (a_quoted q) e = (q.contents, record { quotable = q.is; written = sym q.whole })

quote-length : (body part behind : List ℕ) → IsPart part → 34 ∷ body ≡ part ++ behind → (k : ℕ) × (closing false body ≡ Some k) × (length part ≡ k + 2)
quote-length body part behind p e =
    let q = quote-part body part behind p e in
    let at = quoted-closes body q.0 behind (e ∙ ap (λ x. x ++ behind) (sym q.1.written)) in
    (at.0, at.1, ap length (sym q.1.written) ∙ at.2)

-- a quoted text ends in a quote, which is no character of a word
ends_word-last : (xs : List ℕ) → ends_word (xs ++ 34 ∷ []) ≡ false
ends_word-last [] = refl
ends_word-last (x ∷ []) = refl
ends_word-last (x ∷ y ∷ xs) = ends_word-last (y ∷ xs)

quoted-apart : (w behind : List ℕ) → IsApart (quoted_part w) behind
quoted-apart w behind = ap (λ b. b && begins_word behind) (ap ends_word (quoted-whole w) ∙ ends_word-last (34 ∷ encode_utf8_all (quoted (chars w))))

-- not closed
pub quote-open : (text body : List ℕ) → 0 < length text → get_or text 0 0 ≡ 34 → body ≡ drop 1 text → closing false body ≡ None → HasNoFirst text
quote-open [] body long first e none part behind p whole apart = absurd (omega arith)
quote-open (c ∷ cs) body long first e none part behind p whole apart =
    let at = quote-length body part behind p (ap (λ xs. 34 ∷ xs) e ∙ ap (λ x. x ∷ cs) (sym first) ∙ whole) in
    let both : Some at.0 ≡ None = sym at.1 ∙ none in
    absurd (cc)

-- closed, but no quoted text
pub quote-bad : (text body : List ℕ) (k : ℕ) → 0 < length text → get_or text 0 0 ≡ 34 → body ≡ drop 1 text → closing false body ≡ Some k → HasNoQuote (take (k + 2) text) → HasNoFirst text
quote-bad [] body k long first e found none part behind p whole apart = absurd (omega arith)
quote-bad (c ∷ cs) body k long first e found none part behind p whole apart =
    let start : 34 ∷ body ≡ part ++ behind = ap (λ xs. 34 ∷ xs) e ∙ ap (λ x. x ∷ cs) (sym first) ∙ whole in
    let at = quote-length body part behind p start in
    let q = quote-part body part behind p start in
    let same : Some at.0 ≡ Some k = sym at.1 ∙ found in
    let n : at.0 ≡ k = cc in
    none q.0 (subst (λ x. IsQuoteOf x q.0) (take-whole (c ∷ cs) part behind whole ∙ ap (λ m. take m (c ∷ cs)) (at.2 ∙ ap (λ m. m + 2) n)) q.1)

-- closed
pub quote-first : (text body : List ℕ) (k : ℕ) (w : List ℕ) → 0 < length text → get_or text 0 0 ≡ 34 → body ≡ drop 1 text → closing false body ≡ Some k → k + 2 ≤ length text
    → IsQuoteOf (take (k + 2) text) w → IsFirst text (k + 2)
quote-first [] body k w long first e found fits q = absurd (omega arith)
quote-first (c ∷ cs) body k w long first e found fits q = record {
  fits = fits;
  part = a_quoted (record { contents = w; whole = sym q.written; is = q.quotable });
  apart = subst (λ p. IsApart p (drop (k + 2) (c ∷ cs))) q.written (quoted-apart w (drop (k + 2) (c ∷ cs)));
  only = λ part behind p whole apart.
      let at = quote-length body part behind p (ap (λ xs. 34 ∷ xs) e ∙ ap (λ x. x ∷ cs) (sym first) ∙ whole) in
      let same : Some at.0 ≡ Some k = sym at.1 ∙ found in
      let n : at.0 ≡ k = cc in
      take-whole (c ∷ cs) part behind whole ∙ ap (λ m. take m (c ∷ cs)) (at.2 ∙ ap (λ m. m + 2) n);
}

-- a closing quote is inside
inside-by : (c : ℕ) (cs : List ℕ) (b : Bool) (o : Option ℕ) (k : ℕ) → ((n : ℕ) → o ≡ Some n → n < length cs) → cond b (Some 0) (option_map (λ n. 1 + n) o) ≡ Some k → k < length (c ∷ cs)
inside-by c cs true o k h g = let none : 0 ≡ k = cc in omega arith
inside-by c cs false None k h g = absurd (cc)
inside-by c cs false (Some n) k h g = let more : 1 + n ≡ k = cc in omega (arith, h n refl)

pub closing-inside : (escaped : Bool) (text : List ℕ) (k : ℕ) → closing escaped text ≡ Some k → k < length text
closing-inside escaped [] k e = absurd (cc)
closing-inside escaped (c ∷ cs) k e =
    inside-by c cs (not escaped && (c == 34)) (closing (not escaped && (c == 92)) cs) k (λ n f. closing-inside (not escaped && (c == 92)) cs n f) e
