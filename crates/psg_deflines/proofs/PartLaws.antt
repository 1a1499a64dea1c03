-- Which part a text begins with.
use Rattle.std.proofs.Common.{◌≡◌, ◌≢◌, ℕ, ◌+◌, ◌<◌, ◌≤◌, ◌&&◌, ◌||◌, Bool, true, false, cond, zero, suc, List, [], ◌∷◌, ◌++◌, take, drop, get_or, length, eqb, inl, inr, refl, ap, sym, ◌∙◌, subst, arith}
use Rattle.std.specs.Prelude.{encode_utf8_all, chars, codes, not}
use Rattle.std.specs.List.{list_all, list_any, prefix_len}
use Rattle.std.proofs.Math.Seq.{take-append_seam}
use Rattle.std.proofs.lemmas.List.{length-take, drop_all}
use Rattle.std.proofs.lemmas.List.Sums.{prefix_len-le-length}
use Rattle.std.proofs.lemmas.Str.{encode_ascii}
use Rattle.std.proofs.lemmas.Bool.{and_cases, and_left, and_parts, cases_Bool, eqb-true, false≢true, or_cases, or_left, or_right}
use Rattle.psg_grammar.specs.Sound.{is_upper, is_lower, is_digit}
use Rattle.psg_lexis.specs.Tokens.{quoted}
use Rattle.psg_deflines.specs.WrittenTerms.{is_plain}
use Rattle.psg_deflines.specs.WrittenTrees.{quoted_part}
use Rattle.psg_deflines.specs.Written.{goes_on_word, ends_word, begins_word}
use Rattle.psg_deflines.specs.Parts.{is_mark, is_sigil, goes_behind, IsPart, a_word, a_mark, a_sigil, a_quoted, IsWordPart, IsApart, IsFirst, HasNoFirst}
use Rattle.psg_deflines.proofs.Lists.{begins_by, prefix_len-run, list_all-run, run-ends}

-- a character of a word begins no other part
sigil-no_word : (c : ℕ) → is_sigil c ≡ true → goes_on_word c ≡ true → ⊥
sigil-no_word c h k = elim (or_cases (eqb c 63) (eqb c 36) h) [
  | inl e ↦ false≢true (subst (λ d. goes_on_word d ≡ true) (eqb-true c 63 e) k)
  | inr e ↦ false≢true (subst (λ d. goes_on_word d ≡ true) (eqb-true c 36 e) k)
]

sigil-no_mark : (c : ℕ) → is_sigil c ≡ true → is_mark c ≡ true → ⊥
sigil-no_mark c h k = elim (or_cases (eqb c 63) (eqb c 36) h) [
  | inl e ↦ false≢true (subst (λ d. is_mark d ≡ true) (eqb-true c 63 e) k)
  | inr e ↦ false≢true (subst (λ d. is_mark d ≡ true) (eqb-true c 36 e) k)
]

-- a quoted part begins with a quote
pub quote-begins : (w : List ℕ) → (rest : List ℕ) × (quoted_part w ≡ 34 ∷ rest)
quote-begins w = (encode_utf8_all (quoted (chars w) ++ 34 ∷ []), ap (λ xs. xs ++ encode_utf8_all (quoted (chars w) ++ 34 ∷ [])) (encode_ascii 34 (omega arith)))

-- what goes on a name goes on a word
plain-word : (c : ℕ) → is_plain c ≡ true → goes_on_word c ≡ true
plain-word c h = or_left (is_upper c || is_lower c || is_digit c || (eqb c 95)) (eqb c 64) (or_left (is_upper c || is_lower c || is_digit c) (eqb c 95) h)

behind-word : (s c : ℕ) → goes_behind s c ≡ true → goes_on_word c ≡ true
behind-word s c h = by_sigil (eqb s 63) h
  where
    by_sigil : (b : Bool) → cond b (is_plain c) (is_lower c || is_digit c) ≡ true → goes_on_word c ≡ true
    by_sigil true k = plain-word c k
    by_sigil false k = elim (or_cases (is_lower c) (is_digit c) k) [
      | inl e ↦ plain-word c (or_left (is_upper c || is_lower c) (is_digit c) (or_right (is_upper c) (is_lower c) e))
      | inr e ↦ plain-word c (or_right (is_upper c || is_lower c) (is_digit c) e)
    ]

-- a run behind a sigil ends as a word does
ends_word-behind : (s d : ℕ) (run : List ℕ) → 0 < length run → list_all (goes_behind s) run ≡ true → ends_word (d ∷ run) ≡ true
ends_word-behind s d [] h k = absurd (omega arith)
ends_word-behind s d (c ∷ []) h k = behind-word s c (and_parts (goes_behind s c) true k).0
ends_word-behind s d (c ∷ e ∷ run) h k = ends_word-behind s c (e ∷ run) (omega arith) (and_parts (goes_behind s c) (list_all (goes_behind s) (e ∷ run)) k).1

begins-same : (cs : List ℕ) → begins_word cs ≡ begins_by goes_on_word cs
begins-same [] = refl
begins-same (c ∷ cs) = refl

-- where no word goes on, no name does
stops-behind : (s : ℕ) (cs : List ℕ) → begins_word cs ≡ false → begins_by (goes_behind s) cs ≡ false
stops-behind s [] h = refl
stops-behind s (c ∷ cs) h = elim (cases_Bool (goes_behind s c)) [
  | inl e ↦ absurd (false≢true (sym h ∙ behind-word s c e))
  | inr e ↦ e
]

-- What a text that begins with a sigil begins with: the sigil and the longest run behind it, with which no word goes on.
pub record IsNamed (s : ℕ) (cs : List ℕ) (n : ℕ) : Type 0 where
  pub inside : ℕ
  pub longest : inside ≡ prefix_len (goes_behind s) cs
  pub positive : 0 < inside
  pub ends : begins_word (drop inside cs) ≡ false
  pub size : n ≡ inside + 1

take-whole : (xs part behind : List ℕ) → xs ≡ part ++ behind → part ≡ take (length part) xs
take-whole xs part behind e = sym (ap (take (length part)) e ∙ take-append_seam part behind)

drop-length : (xs ys : List ℕ) → drop (length xs) (xs ++ ys) ≡ ys
drop-length [] ys = refl
drop-length (x ∷ xs) ys = drop-length xs ys

pub named-length : (s : ℕ) (cs part behind : List ℕ) → is_sigil s ≡ true → IsPart part → s ∷ cs ≡ part ++ behind → IsApart part behind → IsNamed s cs (length part)
named-length s cs [] behind h (a_word w) e apart = absurd (omega (arith, w.0))
named-length s cs (c ∷ part) behind h (a_word w) e apart =
    let same : s ≡ c = cc in
    absurd (sigil-no_word s h (subst (λ x. goes_on_word x ≡ true) (sym same) (and_parts (goes_on_word c) (list_all goes_on_word part) w.1).0))
named-length s cs part behind h (a_mark m) e apart =
    let whole : s ∷ cs ≡ m.mark ∷ behind = e ∙ ap (λ p. p ++ behind) m.whole in
    let same : s ≡ m.mark = cc in
    absurd (sigil-no_mark s h (subst (λ x. is_mark x ≡ true) (sym same) m.is))
named-length s cs part behind h (a_quoted q) e apart =
    let begins = quote-begins q.contents in
    let whole : s ∷ cs ≡ 34 ∷ (begins.0 ++ behind) = e ∙ ap (λ p. p ++ behind) (q.whole ∙ begins.1) in
    let same : s ≡ 34 = cc in
    absurd (false≢true (subst (λ x. is_sigil x ≡ true) same h))
named-length s cs part behind h (a_sigil g) e apart =
    let whole : s ∷ cs ≡ g.sigil ∷ (g.name ++ behind) = e ∙ ap (λ p. p ++ behind) g.whole in
    let same : g.sigil ≡ s = cc in
    let tail : cs ≡ g.name ++ behind = cc in
    let run : list_all (goes_behind s) g.name ≡ true = subst (λ x. list_all (goes_behind x) g.name ≡ true) same g.run in
    let stops : begins_word behind ≡ false = elim (and_cases (ends_word part) (begins_word behind) apart) [
      | inl k ↦ absurd (false≢true (sym k ∙ ap ends_word g.whole ∙ ends_word-behind s g.sigil g.name g.long run))
      | inr k ↦ k
    ] in
    record {
      inside = length g.name;
      longest = sym (ap (prefix_len (goes_behind s)) tail ∙ prefix_len-run (goes_behind s) g.name behind run (stops-behind s behind stops));
      positive = g.long;
      ends = ap begins_word (ap (drop (length g.name)) tail ∙ drop-length g.name behind) ∙ stops;
      size = omega (arith, ap length g.whole);
    }

pub named_is_first : (s : ℕ) (cs : List ℕ) (n : ℕ) → is_sigil s ≡ true → n ≡ prefix_len (goes_behind s) cs → 0 < n → begins_word (drop n cs) ≡ false → IsFirst (s ∷ cs) (suc n)
named_is_first s cs n h e positive ends =
    let fits : n ≤ length cs = omega (arith, prefix_len-le-length (goes_behind s) cs) in
    let size : length (take n cs) ≡ n = omega (arith, length-take n cs) in
    record {
      fits = omega arith;
      part = a_sigil (record {
        sigil = s;
        name = take n cs;
        whole = refl;
        is = h;
        long = omega arith;
        run = subst (λ m. list_all (goes_behind s) (take m cs) ≡ true) (sym e) (list_all-run (goes_behind s) cs);
      });
      apart = subst (λ b. (ends_word (s ∷ take n cs) && b) ≡ false) (sym ends) (and-false (ends_word (s ∷ take n cs)));
      only = λ part behind p w apart.
          let named = named-length s cs part behind h p w apart in
          let same : length part ≡ suc n = omega (arith, named.size, named.longest) in
          take-whole (s ∷ cs) part behind w ∙ ap (λ m. take m (s ∷ cs)) same;
    }
  where
    and-false : (b : Bool) → (b && false) ≡ false
    and-false true = refl
    and-false false = refl

-- no name behind the sigil, or a word goes on with it
pub named_not_first : (s : ℕ) (cs : List ℕ) → is_sigil s ≡ true → ((n : ℕ) → n ≡ prefix_len (goes_behind s) cs → 0 < n → begins_word (drop n cs) ≡ false → ⊥) → HasNoFirst (s ∷ cs)
named_not_first s cs h none part behind p e apart =
    let named = named-length s cs part behind h p e apart in
    none named.inside named.longest named.positive named.ends

-- what stands at a place of a text
pub begins-drop : (xs : List ℕ) (n : ℕ) → n < length xs → begins_word (drop n xs) ≡ goes_on_word (get_or xs n 0)
begins-drop [] n h = absurd (omega arith)
begins-drop (x ∷ xs) zero h = refl
begins-drop (x ∷ xs) (suc n) h = begins-drop xs n (omega arith)

pub begins-end : (xs : List ℕ) (n : ℕ) → length xs ≤ n → begins_word (drop n xs) ≡ false
begins-end xs n h = ap begins_word (drop_all n xs h)

-- The same for a text and what a slice behind its first character holds.
pub named_first-text : (text name : List ℕ) (n : ℕ) → 0 < length text → is_sigil (get_or text 0 0) ≡ true → name ≡ drop 1 text
    → n ≡ prefix_len (goes_behind (get_or text 0 0)) name → 0 < n → begins_word (drop n name) ≡ false → IsFirst text (n + 1)
named_first-text [] name n long s is e positive ends = absurd (omega arith)
named_first-text (c ∷ cs) name n long s is e positive ends =
    subst (λ m. IsFirst (c ∷ cs) m) (next n)
    (named_is_first c cs n s (e ∙ ap (prefix_len (goes_behind c)) is) positive (ap (λ xs. begins_word (drop n xs)) (sym is) ∙ ends))
  where
    next : (m : ℕ) → suc m ≡ m + 1
    next m = omega arith

pub named_not_first-text : (text name : List ℕ) (n : ℕ) → 0 < length text → is_sigil (get_or text 0 0) ≡ true → name ≡ drop 1 text
    → n ≡ prefix_len (goes_behind (get_or text 0 0)) name → (0 < n → begins_word (drop n name) ≡ false → ⊥) → HasNoFirst text
named_not_first-text [] name n long s is e none = absurd (omega arith)
named_not_first-text (c ∷ cs) name n long s is e none =
    named_not_first c cs s (λ m longest positive ends. refused m (longest ∙ ap (prefix_len (goes_behind c)) (sym is) ∙ sym e) positive ends)
  where
    refused : (m : ℕ) → m ≡ n → 0 < m → begins_word (drop m cs) ≡ false → ⊥
    refused m same positive ends = none (omega arith) (ap (λ xs. begins_word (drop n xs)) is ∙ ap (λ k. begins_word (drop k cs)) (sym same) ∙ ends)

-- what is true of each of some characters is true of one that is among them
any-of : (P : ℕ → Bool) (c : ℕ) (xs : List ℕ) → list_any (λ d. eqb c d) xs ≡ true → list_all P xs ≡ true → P c ≡ true
any-of P c [] h k = absurd (false≢true h)
any-of P c (x ∷ xs) h k =
    let both = and_parts (P x) (list_all P xs) k in
    elim (or_cases (eqb c x) (list_any (λ d. eqb c d) xs) h) [
      | inl e ↦ ap P (eqb-true c x e) ∙ both.0
      | inr e ↦ any-of P c xs e both.1
    ]

no-mark-word : (c : ℕ) → is_mark c ≡ true → not (goes_on_word c) ≡ true
no-mark-word c h = any-of (λ d. not (goes_on_word d)) c (codes ":=(),[]|") h refl

mark-no_word : (c : ℕ) → is_mark c ≡ true → goes_on_word c ≡ true → ⊥
mark-no_word c h k = false≢true (sym (ap not k) ∙ no-mark-word c h)

-- what a part that begins with the character can be
pub data Head (c : ℕ) (part : List ℕ) : Type 0 where
  word_head : goes_on_word c ≡ true → IsWordPart part → Head c part
  mark_head : is_mark c ≡ true → length part ≡ 1 → Head c part
  sigil_head : is_sigil c ≡ true → Head c part
  quote_head : c ≡ 34 → Head c part

pub head-of : (c : ℕ) (cs part behind : List ℕ) → IsPart part → c ∷ cs ≡ part ++ behind → Head c part
head-of c cs [] behind (a_word w) e = absurd (omega (arith, w.0))
head-of c cs (d ∷ part) behind (a_word w) e =
    let same : c ≡ d = cc in
    word_head (subst (λ x. goes_on_word x ≡ true) (sym same) (and_parts (goes_on_word d) (list_all goes_on_word part) w.1).0) w
head-of c cs part behind (a_mark m) e =
    let whole : c ∷ cs ≡ m.mark ∷ behind = e ∙ ap (λ p. p ++ behind) m.whole in
    let same : c ≡ m.mark = cc in
    mark_head (subst (λ x. is_mark x ≡ true) (sym same) m.is) (ap length m.whole)
head-of c cs part behind (a_sigil g) e =
    let whole : c ∷ cs ≡ g.sigil ∷ (g.name ++ behind) = e ∙ ap (λ p. p ++ behind) g.whole in
    let same : c ≡ g.sigil = cc in
    sigil_head (subst (λ x. is_sigil x ≡ true) (sym same) g.is)
head-of c cs part behind (a_quoted q) e =
    let begins = quote-begins q.contents in
    let whole : c ∷ cs ≡ 34 ∷ (begins.0 ++ behind) = e ∙ ap (λ p. p ++ behind) (q.whole ∙ begins.1) in
    let same : c ≡ 34 = cc in
    quote_head same

pub ends_word-run : (run : List ℕ) → 0 < length run → list_all goes_on_word run ≡ true → ends_word run ≡ true
ends_word-run [] h k = absurd (omega arith)
ends_word-run (c ∷ []) h k = (and_parts (goes_on_word c) true k).0
ends_word-run (c ∷ d ∷ cs) h k = ends_word-run (d ∷ cs) (omega arith) (and_parts (goes_on_word c) (list_all goes_on_word (d ∷ cs)) k).1

word-length : (c : ℕ) (cs part behind : List ℕ) → goes_on_word c ≡ true → IsPart part → c ∷ cs ≡ part ++ behind → IsApart part behind → length part ≡ prefix_len goes_on_word (c ∷ cs)
word-length c cs part behind h p e apart = by_head (head-of c cs part behind p e)
  where
    by_head : Head c part → length part ≡ prefix_len goes_on_word (c ∷ cs)
    by_head (mark_head m k) = absurd (mark-no_word c m h)
    by_head (sigil_head s) = absurd (sigil-no_word c s h)
    by_head (quote_head q) = absurd (false≢true (subst (λ x. goes_on_word x ≡ true) q h))
    by_head (word_head g w) =
        let stops : begins_word behind ≡ false = elim (and_cases (ends_word part) (begins_word behind) apart) [
          | inl k ↦ absurd (false≢true (sym k ∙ ends_word-run part w.0 w.1))
          | inr k ↦ k
        ] in
        sym (ap (prefix_len goes_on_word) e ∙ prefix_len-run goes_on_word part behind w.1 (sym (begins-same behind) ∙ stops))

mark-length : (c : ℕ) (cs part behind : List ℕ) → is_mark c ≡ true → IsPart part → c ∷ cs ≡ part ++ behind → length part ≡ 1
mark-length c cs part behind h p e = by_head (head-of c cs part behind p e)
  where
    by_head : Head c part → length part ≡ 1
    by_head (mark_head m k) = k
    by_head (sigil_head s) = absurd (sigil-no_mark c s h)
    by_head (quote_head q) = absurd (false≢true (subst (λ x. is_mark x ≡ true) q h))
    by_head (word_head g w) = absurd (mark-no_word c h g)

-- the longest run of the class is a part
pub word_is_first : (c : ℕ) (cs : List ℕ) (n : ℕ) → goes_on_word c ≡ true → n ≡ prefix_len goes_on_word (c ∷ cs) → IsFirst (c ∷ cs) n
word_is_first c cs n h e =
    let xs : List ℕ = c ∷ cs in
    let more : prefix_len goes_on_word xs ≡ 1 + prefix_len goes_on_word cs = ap (λ b. cond b (1 + prefix_len goes_on_word cs) 0) h in
    let fits : n ≤ length xs = omega (arith, prefix_len-le-length goes_on_word xs) in
    let size : length (take n xs) ≡ n = omega (arith, length-take n xs) in
    record {
      fits = fits;
      part = a_word (omega arith, subst (λ m. list_all goes_on_word (take m xs) ≡ true) (sym e) (list_all-run goes_on_word xs));
      apart = subst (λ b. (ends_word (take n xs) && b) ≡ false) (sym (begins-same (drop n xs) ∙ ap (λ m. begins_by goes_on_word (drop m xs)) e ∙ run-ends goes_on_word xs)) (and-false (ends_word (take n xs)));
      only = λ part behind p w apart. take-whole xs part behind w ∙ ap (λ m. take m xs) (word-length c cs part behind h p w apart ∙ sym e);
    }
  where
    and-false : (b : Bool) → (b && false) ≡ false
    and-false true = refl
    and-false false = refl

pub mark_is_first : (c : ℕ) (cs : List ℕ) → is_mark c ≡ true → IsFirst (c ∷ cs) 1
mark_is_first c cs h = record {
  fits = omega arith;
  part = a_mark (record { mark = c; whole = refl; is = h });
  apart = and_left (goes_on_word c) (begins_word cs) (elim (cases_Bool (goes_on_word c)) [ inl g ↦ absurd (mark-no_word c h g) | inr g ↦ g ]);
  only = λ part behind p w apart. take-whole (c ∷ cs) part behind w ∙ ap (λ m. take m (c ∷ cs)) (mark-length c cs part behind h p w);
}

pub word_first-text : (text : List ℕ) (n : ℕ) → n ≡ prefix_len goes_on_word text → 0 < n → IsFirst text n
word_first-text [] n e positive = absurd (omega arith)
word_first-text (c ∷ cs) n e positive = elim (cases_Bool (goes_on_word c)) [
  | inl g ↦ word_is_first c cs n g e
  | inr g ↦ absurd (let none : prefix_len goes_on_word (c ∷ cs) ≡ 0 = ap (λ b. cond b (1 + prefix_len goes_on_word cs) 0) g in omega arith)
]

pub mark_first-text : (text : List ℕ) → 0 < length text → is_mark (get_or text 0 0) ≡ true → IsFirst text 1
mark_first-text [] h m = absurd (omega arith)
mark_first-text (c ∷ cs) h m = mark_is_first c cs m

pub no_word-text : (text : List ℕ) (n : ℕ) → 0 < length text → n ≡ prefix_len goes_on_word text → n ≡ 0 → is_mark (get_or text 0 0) ≡ false → is_sigil (get_or text 0 0) ≡ false → get_or text 0 0 ≢ 34 → HasNoFirst text
no_word-text [] n long e z m s q part behind p w apart = absurd (omega arith)
no_word-text (c ∷ cs) n long e z m s q part behind p w apart = by_head (head-of c cs part behind p w)
  where
    by_head : Head c part → ⊥
    by_head (mark_head k l) = false≢true (sym m ∙ k)
    by_head (sigil_head k) = false≢true (sym s ∙ k)
    by_head (quote_head k) = q k
    by_head (word_head g k) =
        let more : prefix_len goes_on_word (c ∷ cs) ≡ 1 + prefix_len goes_on_word cs = ap (λ b. cond b (1 + prefix_len goes_on_word cs) 0) g in
        omega arith
