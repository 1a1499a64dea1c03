-- A text cut where no token stands across: both sides have their tokens by themselves, and don't run together.
use Rattle.std.proofs.Common.{◌≡◌, inl, inr, ℕ, ◌+◌, ◌≤◌, Bool, true, false, ◌||◌, ◌==◌, not, List, [], ◌∷◌, ◌++◌, length, sym, ap, ◌∙◌, subst, refl, append-nil, length-append, arith, codes}
use Rattle.std.specs.Prelude.{encode_utf8, encode_utf8_all}
use Rattle.std.specs.List.{AllByRecursion, list_any, list_all}
use Rattle.std.proofs.lemmas.Bool.{false≢true, or_cases, eqb-true, not-true}
use Rattle.std.proofs.lemmas.Str.{encodes-append, encode_ascii, length-le-encodes}
use Rattle.std.specs.Cmp.{first_so, second_so}
use Rattle.unicode_ident.proofs.Computing.{unicode_ident}
use Rattle.psg_terms.specs.Names.{Name}
use Rattle.psg_terms.specs.Words.{goes_on_word, IsWord}
use Rattle.psg_lexis.specs.Classes.{Chars, is_blank, is_digit, is_solo, is_symbol, EndsBy, All, IsLongest, Glue}
use Rattle.psg_lexis.specs.Tokens.{bytes_of, quoted, IsToken, word, number, text, solo, symbol, hole, more, HasTokens, nothing, blank, next, IsBeside}
use Rattle.psg_lexis.specs.declared.token.Token.{Token}
use Rattle.psg_lexis.specs.declared.token.Spanned.{Spanned}
use Rattle.psg_lexis.proofs.Joining.{IsApart}
use Rattle.psg_lexis.proofs.Starts.{start_goes_on}
use Rattle.psg_lexis.proofs.Walk.{blank-small}

-- ---- sizes

char_some : (c : ℕ) → 1 ≤ length (encode_utf8 c)
char_some c = omega (arith, length-le-encodes (c ∷ []), ap length (append-nil (encode_utf8 c)))

bytes_of-cons : (c : ℕ) (cs : Chars) → bytes_of (c ∷ cs) ≡ length (encode_utf8 c) + bytes_of cs
bytes_of-cons c cs = length-append (encode_utf8 c) (encode_utf8_all cs)

bytes_of-append : (xs ys : Chars) → bytes_of (xs ++ ys) ≡ bytes_of xs + bytes_of ys
bytes_of-append xs ys = ap length (encodes-append xs ys) ∙ length-append (encode_utf8_all xs) (encode_utf8_all ys)

-- ---- classes

among : (p : ℕ → Bool) (c : ℕ) (cs : List ℕ) → list_any (λ d. c == d) cs ≡ true → list_all p cs ≡ true → p c ≡ true
among p c [] h a = absurd (false≢true h)
among p c (d ∷ cs) h a = elim (or_cases (c == d) (list_any (λ x. c == x) cs) h) [
  | inl e ↦ ap p (eqb-true c d e) ∙ first_so (p d) (list_all p cs) a
  | inr e ↦ among p c cs e (second_so (p d) (list_all p cs) a)
]

symbol_no_word : (c : ℕ) → is_symbol c ≡ true → goes_on_word c ≡ false
unfolding unicode_ident
symbol_no_word c h = not-true (goes_on_word c) (among (λ d. not (goes_on_word d)) c (codes "+-*/%<>=!&|^~:.@#$") h refl)

digit_no_symbol : (c : ℕ) → is_symbol c ≡ true → is_digit c ≡ false
digit_no_symbol c h = not-true (is_digit c) (among (λ d. not (is_digit d)) c (codes "+-*/%<>=!&|^~:.@#$") h refl)

solo_no_word : (c : ℕ) → is_solo c ≡ true → goes_on_word c ≡ false
unfolding unicode_ident
solo_no_word c h = not-true (goes_on_word c) (among (λ d. not (goes_on_word d)) c (codes "()[]{},;") h refl)

solo_no_symbol : (c : ℕ) → is_solo c ≡ true → is_symbol c ≡ false
solo_no_symbol c h = not-true (is_symbol c) (among (λ d. not (is_symbol d)) c (codes "()[]{},;") h refl)

quote_no_word : goes_on_word 34 ≡ false
unfolding unicode_ident
quote_no_word = refl

-- neither a word nor a run of symbols goes on from the character
neither : (c d : ℕ) → goes_on_word c ≡ false → is_symbol c ≡ false → Glue c d → ⊥
neither c d h k (inl (p, q)) = false≢true (sym h ∙ p)
neither c d h k (inr (p, q)) = false≢true (sym k ∙ p)

blank_no_word : (c : ℕ) → is_blank c ≡ true → (goes_on_word c ≡ false) × (is_symbol c ≡ false)
unfolding unicode_ident
blank_no_word c h = elim (or_cases ((c == 32) || (c == 9) || (c == 10)) (c == 13) h) [
  | inl a ↦ elim (or_cases ((c == 32) || (c == 9)) (c == 10) a) [
    | inl b ↦ elim (or_cases (c == 32) (c == 9) b) [
      | inl e ↦ (ap goes_on_word (eqb-true c 32 e), ap is_symbol (eqb-true c 32 e))
      | inr e ↦ (ap goes_on_word (eqb-true c 9 e), ap is_symbol (eqb-true c 9 e))
    ]
    | inr e ↦ (ap goes_on_word (eqb-true c 10 e), ap is_symbol (eqb-true c 10 e))
  ]
  | inr e ↦ (ap goes_on_word (eqb-true c 13 e), ap is_symbol (eqb-true c 13 e))
]

-- ---- ends

nil_snoc : (front : Chars) (c : ℕ) → [] ≡ front ++ c ∷ [] → ⊥
nil_snoc [] c h = absurd (cc)
nil_snoc (d ∷ front) c h = absurd (cc)

all_last : (test : ℕ → Bool) (front : Chars) (c : ℕ) → All test (front ++ c ∷ []) → test c ≡ true
all_last test [] c a = a.0
all_last test (d ∷ front) c a = all_last test front c a.1

-- the last of what stands behind is the last of all
last_behind : (front : Chars) (m : ℕ) (ms fr : Chars) (c : ℕ) → front ++ m ∷ ms ≡ fr ++ c ∷ [] → (fr' : Chars) × (m ∷ ms ≡ fr' ++ c ∷ [])
last_behind [] m ms fr c h = (fr, h)
last_behind (f ∷ []) m ms [] c h = absurd (cc)
last_behind (f ∷ g ∷ front) m ms [] c h = absurd (cc)
last_behind (f ∷ front) m ms (g ∷ fr) c h = let k : front ++ m ∷ ms ≡ fr ++ c ∷ [] = cc in last_behind front m ms fr c k

quote_last : (cs fr : Chars) (c : ℕ) → cs ++ 34 ∷ [] ≡ fr ++ c ∷ [] → c ≡ 34
quote_last cs fr c h = of (last_behind cs 34 [] fr c h).0 (last_behind cs 34 [] fr c h).1 where
  of : (g : Chars) → 34 ∷ [] ≡ g ++ c ∷ [] → c ≡ 34
  of [] e = let k : 34 ≡ c = cc in sym k
  of (x ∷ []) e = absurd (cc)
  of (x ∷ y ∷ g) e = absurd (cc)

word_all : (cs : Chars) → IsWord cs → All goes_on_word cs
word_all [] w = absurd w
word_all (c ∷ cs) w = (start_goes_on c w.0, w.1)

ends_at : (test : ℕ → Bool) (rest : Chars) (d : ℕ) (behind : Chars) → EndsBy test rest → rest ≡ d ∷ behind → test d ≡ false
ends_at test rest d behind e h = subst (EndsBy test) h e

ends_less : (test : ℕ → Bool) (xs ys : Chars) → EndsBy test (xs ++ ys) → EndsBy test xs
ends_less test [] ys e = refl
ends_less test (x ∷ xs) ys e = e

longest_less : (test : ℕ → Bool) (run xs ys : Chars) → IsLongest test run (xs ++ ys) → IsLongest test run xs
longest_less test run xs ys r = record { begins = r.begins; all = r.all; ends = ends_less test xs ys r.ends }

word_end : (c d : ℕ) → goes_on_word c ≡ true → goes_on_word d ≡ false → Glue c d → ⊥
word_end c d h k (inl (p, q)) = false≢true (sym k ∙ q)
word_end c d h k (inr (p, q)) = false≢true (sym (symbol_no_word c p) ∙ h)

symbol_end : (c d : ℕ) → is_symbol c ≡ true → is_symbol d ≡ false → Glue c d → ⊥
symbol_end c d h k (inl (p, q)) = false≢true (sym (symbol_no_word c h) ∙ p)
symbol_end c d h k (inr (p, q)) = false≢true (sym k ∙ q)

digit_end : (c d : ℕ) → is_digit c ≡ true → goes_on_word d ≡ false → Glue c d → ⊥
digit_end c d h k (inl (p, q)) = false≢true (sym k ∙ q)
digit_end c d h k (inr (p, q)) = false≢true (sym (digit_no_symbol c p) ∙ h)

module _ (fixed : List Name) where
  token_shortened : {front : Chars} {t : Token} (xs ys rest : Chars) → rest ≡ xs ++ ys → IsToken fixed front rest t → IsToken fixed front xs t
  token_shortened xs ys _ z (word cs rest w e l) = word cs xs w (ends_less goes_on_word xs ys (subst (EndsBy goes_on_word) z e)) l
  token_shortened xs ys _ z (number cs rest r e l) = number cs xs (longest_less is_digit cs xs ys (subst (IsLongest is_digit cs) z r)) (ends_less goes_on_word xs ys (subst (EndsBy goes_on_word) z e)) l
  token_shortened xs ys _ z (text cs written rest e a l) = text cs written xs e a l
  token_shortened xs ys _ z (solo c rest s) = solo c xs s
  token_shortened xs ys _ z (symbol cs rest r i d) = symbol cs xs (longest_less is_symbol cs xs ys (subst (IsLongest is_symbol cs) z r)) i d
  token_shortened xs ys _ z (hole cs rest w e l) = hole cs xs w (ends_less goes_on_word xs ys (subst (EndsBy goes_on_word) z e)) l
  token_shortened xs ys _ z (more rest e) = more xs (ends_less is_symbol xs ys (subst (EndsBy is_symbol) z e))

  -- a token's last character doesn't glue to the one behind it
  token_apart : {front rest : Chars} {t : Token} → IsToken fixed front rest t → (fr behind : Chars) (c d : ℕ) → front ≡ fr ++ c ∷ [] → rest ≡ d ∷ behind → Glue c d → ⊥
  token_apart (word cs rest w e l) fr behind c d h k = word_end c d (all_last goes_on_word fr c (subst (All goes_on_word) h (word_all cs w))) (ends_at goes_on_word rest d behind e k)
  token_apart (number cs rest r e l) fr behind c d h k = digit_end c d (all_last is_digit fr c (subst (All is_digit) h r.all)) (ends_at goes_on_word rest d behind e k)
  token_apart (text cs written rest e a l) fr behind c d h k =
      let at : c ≡ 34 = quote_last (34 ∷ quoted cs) fr c (ap (λ xs. 34 ∷ xs) (sym e) ∙ h) in
      neither c d (ap goes_on_word at ∙ quote_no_word) (ap is_symbol at)
  token_apart (solo b rest s) fr behind c d h k =
      let single : is_solo c ≡ true = all_last is_solo fr c (subst (All is_solo) h (s, tt)) in
      neither c d (solo_no_word c single) (solo_no_symbol c single)
  token_apart (symbol cs rest r i n) fr behind c d h k = symbol_end c d (all_last is_symbol fr c (subst (All is_symbol) h r.all)) (ends_at is_symbol rest d behind r.ends k)
  token_apart (hole [] rest w e l) fr behind c d h k = absurd w
  token_apart (hole (x ∷ cs) rest w e l) fr behind c d h k =
      let (g, z) = last_behind (63 ∷ []) x cs fr c h in
      word_end c d (all_last goes_on_word g c (subst (All goes_on_word) z (word_all (x ∷ cs) w))) (ends_at goes_on_word rest d behind e k)
  token_apart (more rest e) fr behind c d h k = symbol_end c d (all_last is_symbol fr c (subst (All is_symbol) h (refl, (refl, (refl, tt))))) (ends_at is_symbol rest d behind e k)

  cut_front : (front rest ws xs : Chars) → front ++ rest ≡ ws ++ xs → bytes_of front ≤ bytes_of ws → (left : Chars) × (ws ≡ front ++ left) × (rest ≡ left ++ xs)
  cut_front [] rest ws xs h l = (ws, refl, h)
  cut_front (c ∷ front) rest [] xs h l = absurd (omega (arith, char_some c, bytes_of-cons c front, l))
  cut_front (c ∷ front) rest (a ∷ ws) xs h l =
      let same : c ≡ a = cc in
      let tail : front ++ rest ≡ ws ++ xs = cc in
      let (left, p, q) = cut_front front rest ws xs tail (omega (arith, bytes_of-cons c front, bytes_of-cons a ws, ap (λ x. length (encode_utf8 x)) same, l)) in
      (left, ap (λ ys. a ∷ ys) p ∙ ap (λ x. x ∷ (front ++ left)) (sym same), q)

  apart_more : (front left xs : Chars) → (left ≡ [] → IsApart front xs) → IsApart left xs → IsApart (front ++ left) xs
  apart_more front [] xs a b = subst (λ ys. IsApart ys xs) (sym (append-nil front)) (a refl)
  apart_more front (m ∷ ms) xs a b = record {
    apart = λ fr behind c d h k g. let (fr', z) = last_behind front m ms fr c h in b.apart fr' behind c d z k g;
  }

  pub record IsCut (ws xs : Chars) (at : ℕ) (ts : List Spanned) : Type 0 where
    pub front : List Spanned
    pub back : List Spanned
    pub whole : ts ≡ front ++ back
    pub left : HasTokens fixed ws at front
    pub right : HasTokens fixed xs (at + bytes_of ws) back
    pub apart : IsApart ws xs

  at_start : (cs xs : Chars) (at : ℕ) (ts : List Spanned) → cs ≡ xs → HasTokens fixed cs at ts → IsCut [] xs at ts
  at_start cs xs at ts e h = record {
    front = [];
    back = ts;
    whole = refl;
    left = nothing at;
    right = subst (λ n. HasTokens fixed xs n ts) (omega arith) (subst (λ ys. HasTokens fixed ys at ts) e h);
    apart = record { apart = λ fr behind c d k j g. nil_snoc fr c k };
  }

  pub cut : (ws cs xs : Chars) (at : ℕ) (ts : List Spanned) → HasTokens fixed cs at ts → cs ≡ ws ++ xs → AllByRecursion (IsBeside (at + bytes_of ws)) ts → IsCut ws xs at ts
  cut [] cs xs at ts h e b = at_start cs xs at ts e h
  cut (a ∷ ws) _ xs _ _ (nothing at) e b = absurd (cc)
  cut (a ∷ ws) _ xs _ _ (blank c cs at ts h k) e b =
      let same : c ≡ a = cc in
      let tail : cs ≡ ws ++ xs = cc in
      let one : bytes_of (a ∷ ws) ≡ 1 + bytes_of ws = omega (arith, bytes_of-cons a ws, ap length (encode_ascii c (blank-small c h)), ap (λ x. length (encode_utf8 x)) same) in
      let moved : at + bytes_of (a ∷ ws) ≡ at + 1 + bytes_of ws = omega (arith, one) in
      let i : IsCut ws xs (at + 1) ts = cut ws cs xs (at + 1) ts k tail (subst (λ n. AllByRecursion (IsBeside n) ts) moved b) in
      record {
        front = i.front;
        back = i.back;
        whole = i.whole;
        left = subst (λ x. HasTokens fixed (x ∷ ws) at i.front) same (blank c ws at i.front h i.left);
        right = subst (λ n. HasTokens fixed xs n i.back) (sym moved) i.right;
        apart = apart_more (a ∷ []) ws xs (λ z. record { apart = λ fr behind d f p q g. neither d f (ap goes_on_word (only fr d p) ∙ (blank_no_word a (subst (λ x. is_blank x ≡ true) same h)).0) (ap is_symbol (only fr d p) ∙ (blank_no_word a (subst (λ x. is_blank x ≡ true) same h)).1) g }) i.apart;
      } where
        only : (fr : Chars) (d : ℕ) → a ∷ [] ≡ fr ++ d ∷ [] → d ≡ a
        only [] d p = let z : a ≡ d = cc in sym z
        only (x ∷ []) d p = absurd (cc)
        only (x ∷ y ∷ fr) d p = absurd (cc)
  cut (a ∷ ws) _ xs _ _ (next all at s ts b k) e beside =
      let ends : bytes_of b.front ≤ bytes_of (a ∷ ws) = elim beside.0 [
        | inl l ↦ omega (arith, l, b.ends)
        | inr l ↦ absurd (omega (arith, l, b.starts, bytes_of-cons a ws, char_some a))
      ] in
      let (left, p, q) = cut_front b.front b.rest (a ∷ ws) xs (sym b.whole ∙ e) ends in
      let moved : at + bytes_of (a ∷ ws) ≡ s.end + bytes_of left = omega (arith, ap bytes_of p, bytes_of-append b.front left, b.ends) in
      let i : IsCut left xs s.end ts = cut left b.rest xs s.end ts k q (subst (λ n. AllByRecursion (IsBeside n) ts) moved beside.1) in
      record {
        front = s ∷ i.front;
        back = i.back;
        whole = ap (λ us. s ∷ us) i.whole;
        left = next (a ∷ ws) at s i.front (record { front = b.front; rest = left; whole = p; token = token_shortened left xs b.rest q b.token; starts = b.starts; ends = b.ends }) i.left;
        right = subst (λ n. HasTokens fixed xs n i.back) (sym moved) i.right;
        apart = subst (λ ys. IsApart ys xs) (sym p) (apart_more b.front left xs (λ z. record { apart = λ fr behind c d h j g. token_apart b.token fr behind c d h (q ∙ ap (λ ys. ys ++ xs) z ∙ j) g }) i.apart);
      }
