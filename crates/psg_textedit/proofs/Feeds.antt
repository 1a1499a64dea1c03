-- No token has a line feed, so a text's tokens are those in front of a line feed and those behind it. The same tokens from
-- another byte on.
use Rattle.std.proofs.Common.{◌≡◌, ◌⊎◌, inl, inr, ℕ, ◌+◌, ◌<◌, ◌≤◌, Bool, true, false, cond, ◌==◌, List, [], ◌∷◌, ◌++◌, length, length-append, refl, ap, sym, ◌∙◌, subst, append-nil, arith}
use Rattle.std.specs.Prelude.{encode_utf8, encode_utf8_all}
use Rattle.std.specs.List.{AllByRecursion}
use Rattle.std.proofs.lemmas.Bool.{false≢true}
use Rattle.std.proofs.lemmas.Bool.Decides.{eqb_tells}
use Rattle.std.proofs.lemmas.Str.{encode_ascii, encodes-append, length-le-encodes}
use Rattle.psg_terms.specs.Names.{Name}
use Rattle.psg_terms.specs.Words.{goes_on_word, IsWord}
use Rattle.psg_lexis.specs.Classes.{Chars, is_digit, is_solo, is_symbol, All, Glue}
use Rattle.psg_lexis.specs.Tokens.{bytes_of, dots, escaped, quoted, IsToken, word, number, text, solo, symbol, hole, more, Begins, HasTokens, nothing, blank, next, IsBeside}
use Rattle.psg_lexis.specs.declared.token.Token.{Token}
use Rattle.psg_lexis.specs.declared.token.Spanned.{Spanned}
use Rattle.psg_lexis.proofs.Cutting.{IsCut, cut}
use Rattle.psg_lexis.proofs.Joining.{IsApart}
use Rattle.psg_lexis.proofs.Starts.{start_goes_on}
use Rattle.psg_lexis.proofs.Walk.{blank-small}
use Rattle.psg_unparse.proofs.Borders.{starts_within}
use Rattle.psg_unparse.proofs.Lexing.{gap_apart}

-- ---- sizes

char_some : (c : ℕ) → 1 ≤ length (encode_utf8 c)
char_some c = omega (arith, length-le-encodes (c ∷ []), ap length (append-nil (encode_utf8 c)))

bytes_of-cons : (c : ℕ) (cs : Chars) → bytes_of (c ∷ cs) ≡ length (encode_utf8 c) + bytes_of cs
bytes_of-cons c cs = length-append (encode_utf8 c) (encode_utf8_all cs)

pub bytes_of-append : (xs ys : Chars) → bytes_of (xs ++ ys) ≡ bytes_of xs + bytes_of ys
bytes_of-append xs ys = ap length (encodes-append xs ys) ∙ length-append (encode_utf8_all xs) (encode_utf8_all ys)

-- ---- tokens and a border

pub all_both : (P : Spanned → Type 0) (xs ys : List Spanned) → AllByRecursion P xs → AllByRecursion P ys
    → AllByRecursion P (xs ++ ys)
all_both P [] ys a b = b
all_both P (x ∷ xs) ys a b = (a.0, all_both P xs ys a.1 b)

pub all_first : (P : Spanned → Type 0) (xs ys : List Spanned) → AllByRecursion P (xs ++ ys) → AllByRecursion P xs
all_first P [] ys h = tt
all_first P (x ∷ xs) ys h = (h.0, all_first P xs ys h.1)

weaker : (m n : ℕ) → m ≤ n → (ts : List Spanned) → AllByRecursion (λ (t : Spanned). t.end ≤ m) ts
    → AllByRecursion (λ (t : Spanned). t.end ≤ n) ts
weaker m n h [] a = tt
weaker m n h (t ∷ ts) a = (omega (arith, h, a.0), weaker m n h ts a.1)

pub beside_end : (n m : ℕ) → m ≤ n → (ts : List Spanned) → AllByRecursion (λ (t : Spanned). t.end ≤ m) ts
    → AllByRecursion (IsBeside n) ts
beside_end n m h [] a = tt
beside_end n m h (t ∷ ts) a = (inl (omega (arith, h, a.0)), beside_end n m h ts a.1)

pub beside_start : (n m : ℕ) → n ≤ m → (ts : List Spanned) → AllByRecursion (λ (t : Spanned). m ≤ t.start) ts
    → AllByRecursion (IsBeside n) ts
beside_start n m h [] a = tt
beside_start n m h (t ∷ ts) a = (inr (omega (arith, h, a.0)), beside_start n m h ts a.1)

module _ (fixed : List Name) where
  pub ends_within : (cs : Chars) (at : ℕ) (ts : List Spanned) → HasTokens fixed cs at ts
      → AllByRecursion (λ (t : Spanned). t.end ≤ at + bytes_of cs) ts
  ends_within _ _ _ (nothing at) = tt
  ends_within _ _ _ (blank c cs at ts h k) =
      weaker (at + 1 + bytes_of cs) (at + bytes_of (c ∷ cs)) (omega (arith, bytes_of-cons c cs, char_some c)) ts
      (ends_within cs (at + 1) ts k)
  ends_within _ _ _ (next all at s ts b k) =
      let size : bytes_of all ≡ bytes_of b.front + bytes_of b.rest =
      ap bytes_of b.whole ∙ bytes_of-append b.front b.rest in (
        omega (arith, size, b.ends),
        weaker (s.end + bytes_of b.rest) (at + bytes_of all) (omega (arith, size, b.ends)) ts
            (ends_within b.rest s.end ts k),
      )

-- ---- characters without a line feed

abbrev NoFeed : Chars → Type 0
NoFeed cs = AllByRecursion (λ (c : ℕ). c ≡ 10 → ⊥) cs

above_ten : (c : ℕ) → 10 < c → c ≡ 10 → ⊥
above_ten c h e = omega (arith, h, e)

no_feed-append : (xs ys : Chars) → NoFeed xs → NoFeed ys → NoFeed (xs ++ ys)
no_feed-append [] ys a b = b
no_feed-append (x ∷ xs) ys a b = (a.0, no_feed-append xs ys a.1 b)

passing : (test : ℕ → Bool) → test 10 ≡ false → (cs : Chars) → All test cs → NoFeed cs
passing test h [] a = tt
passing test h (c ∷ cs) a = (λ e. false≢true (sym h ∙ subst (λ x. test x ≡ true) e a.0), passing test h cs a.1)

word_feed : goes_on_word 10 ≡ false
word_feed = by (goes_on_word 10) refl where
  by : (b : Bool) → goes_on_word 10 ≡ b → goes_on_word 10 ≡ false
  by true h = absurd (gap_apart 10 10 (inr refl) (inl (h, h)))
  by false h = h

word_all : (cs : Chars) → IsWord cs → All goes_on_word cs
word_all [] w = absurd w
word_all (c ∷ cs) w = (start_goes_on c w.0, w.1)

escaped_feedless : (c : ℕ) → NoFeed (escaped c)
escaped_feedless c = elim (eqb_tells c 34) [
  | inl q ↦ subst (λ b. NoFeed (cond b (92 ∷ 34 ∷ []) (cond (c == 92) (92 ∷ 92 ∷ []) (cond (c == 10) (92 ∷ 110 ∷ []) (c ∷ [])))))
      (sym q.0) (above_ten 92 (omega arith), (above_ten 34 (omega arith), tt))
  | inr q ↦ subst (λ b. NoFeed (cond b (92 ∷ 34 ∷ []) (cond (c == 92) (92 ∷ 92 ∷ []) (cond (c == 10) (92 ∷ 110 ∷ []) (c ∷ [])))))
      (sym q.0) (elim (eqb_tells c 92) [
        | inl r ↦ subst (λ b. NoFeed (cond b (92 ∷ 92 ∷ []) (cond (c == 10) (92 ∷ 110 ∷ []) (c ∷ [])))) (sym r.0)
            (above_ten 92 (omega arith), (above_ten 92 (omega arith), tt))
        | inr r ↦ subst (λ b. NoFeed (cond b (92 ∷ 92 ∷ []) (cond (c == 10) (92 ∷ 110 ∷ []) (c ∷ [])))) (sym r.0)
            (elim (eqb_tells c 10) [
              | inl n ↦ subst (λ b. NoFeed (cond b (92 ∷ 110 ∷ []) (c ∷ []))) (sym n.0)
                  (above_ten 92 (omega arith), (above_ten 110 (omega arith), tt))
              | inr n ↦ subst (λ b. NoFeed (cond b (92 ∷ 110 ∷ []) (c ∷ []))) (sym n.0) (n.1, tt)
            ])
      ])
]

quoted_feedless : (cs : Chars) → NoFeed (quoted cs)
quoted_feedless [] = tt
quoted_feedless (c ∷ cs) = no_feed-append (escaped c) (quoted cs) (escaped_feedless c) (quoted_feedless cs)

module _ (fixed : List Name) where
  token_feedless : {front rest : Chars} {t : Token} → IsToken fixed front rest t → NoFeed front
  token_feedless (word cs rest w e l) = passing goes_on_word word_feed cs (word_all cs w)
  token_feedless (number cs rest r e l) = passing is_digit refl cs r.all
  token_feedless (text cs written rest e a l) = (
    above_ten 34 (omega arith),
    subst NoFeed (sym e) (no_feed-append (quoted cs) (34 ∷ []) (quoted_feedless cs) (above_ten 34 (omega arith), tt)),
  )
  token_feedless (solo c rest s) = passing is_solo refl (c ∷ []) (s, tt)
  token_feedless (symbol cs rest r i d) = passing is_symbol refl cs r.all
  token_feedless (hole cs rest w e l) = (above_ten 63 (omega arith), passing goes_on_word word_feed cs (word_all cs w))
  token_feedless (more rest e) = passing is_symbol refl dots (refl, (refl, (refl, tt)))

-- what has no line feed, and is in front of one, is in front of the first part's end
inside : (front rest a r : Chars) → NoFeed front → front ++ rest ≡ a ++ 10 ∷ r
    → (left : Chars) × (a ≡ front ++ left) × (rest ≡ left ++ 10 ∷ r)
inside [] rest a r n e = (a, refl, e)
inside (c ∷ front) rest [] r n e = let same : c ≡ 10 = cc in absurd (n.0 same)
inside (c ∷ front) rest (b ∷ a) r n e =
    let same : c ≡ b = cc in
    let tail : front ++ rest ≡ a ++ 10 ∷ r = cc in
    let (left, p, q) = inside front rest a r n.1 tail in
    (left, ap (λ y. b ∷ y) p ∙ ap (λ x. x ∷ (front ++ left)) (sym same), q)

no_last : (front : Chars) (c : ℕ) → [] ≡ front ++ c ∷ [] → ⊥
no_last [] c h = absurd (cc)
no_last (d ∷ front) c h = absurd (cc)

-- one side has nothing, or the second begins with a line feed
abbrev pub IsFeedBorder : Chars → Chars → Type 0
IsFeedBorder a r = (a ≡ []) ⊎ ((r ≡ []) ⊎ ((x : Chars) × (r ≡ 10 ∷ x)))

pub border_apart : (a r : Chars) → IsFeedBorder a r → IsApart a r
border_apart a r (inl e) = record { apart = λ front behind c d h k g. no_last front c (sym e ∙ h) }
border_apart a r (inr (inl e)) = record {
  apart = λ front behind c d h k g. let none : [] ≡ d ∷ behind = sym e ∙ k in absurd (cc);
}
border_apart a r (inr (inr (x, e))) = record {
  apart = λ front behind c d h k g.
      let both : 10 ∷ x ≡ d ∷ behind = sym e ∙ k in
      let same : 10 ≡ d = cc in
      gap_apart c 10 (inr refl) (subst (Glue c) (sym same) g);
}

module _ (fixed : List Name) where
  feed_beside : (a r cs : Chars) (at : ℕ) (ts : List Spanned) → HasTokens fixed cs at ts → cs ≡ a ++ 10 ∷ r
      → AllByRecursion (IsBeside (at + bytes_of a)) ts
  feed_beside [] r cs at ts h e =
      beside_start (at + bytes_of []) at (omega arith) ts (starts_within fixed cs at ts h)
  feed_beside (x ∷ a) r _ _ _ (nothing at) e = absurd (cc)
  feed_beside (x ∷ a) r _ _ _ (blank c cs at ts h k) e =
      let same : c ≡ x = cc in
      let tail : cs ≡ a ++ 10 ∷ r = cc in
      let one : at + 1 + bytes_of a ≡ at + bytes_of (x ∷ a) =
      omega (arith, bytes_of-cons x a, ap length (encode_ascii c (blank-small c h)), ap (λ y. length (encode_utf8 y)) same) in
      subst (λ n. AllByRecursion (IsBeside n) ts) one (feed_beside a r cs (at + 1) ts k tail)
  feed_beside (x ∷ a) r _ _ _ (next all at s ts b k) e =
      let (left, p, q) = inside b.front b.rest (x ∷ a) r (token_feedless fixed b.token) (sym b.whole ∙ e) in
      let size : bytes_of (x ∷ a) ≡ bytes_of b.front + bytes_of left = ap bytes_of p ∙ bytes_of-append b.front left in
      let moved : s.end + bytes_of left ≡ at + bytes_of (x ∷ a) = omega (arith, size, b.ends) in (
        inl (omega (arith, size, b.ends)),
        subst (λ n. AllByRecursion (IsBeside n) ts) moved (feed_beside left r b.rest s.end ts k q),
      )

  -- the tokens of both sides of such a border
  pub border_cut : (a r : Chars) (at : ℕ) (ts : List Spanned) → HasTokens fixed (a ++ r) at ts → IsFeedBorder a r
      → IsCut fixed a r at ts
  border_cut a r at ts h border = cut fixed a (a ++ r) r at ts h refl (beside border) where
    beside : IsFeedBorder a r → AllByRecursion (IsBeside (at + bytes_of a)) ts
    beside (inl e) =
        beside_start (at + bytes_of a) at (omega (arith, ap bytes_of e)) ts (starts_within fixed (a ++ r) at ts h)
    beside (inr (inl e)) =
        beside_end (at + bytes_of a) (at + bytes_of (a ++ r)) (omega (arith, bytes_of-append a r, ap bytes_of e)) ts
        (ends_within fixed (a ++ r) at ts h)
    beside (inr (inr (x, e))) = feed_beside a x (a ++ r) at ts h (ap (λ y. a ++ y) e)

  -- the same tokens from another byte on, beside borders that are moved as far
  pub record MovedBy (cs : Chars) (a b : ℕ) (ts : List Spanned) : Type 0 where
    pub spans : List Spanned
    pub are : HasTokens fixed cs b spans
    pub to : (m n : ℕ) → m + b ≡ n + a → AllByRecursion (IsBeside m) ts → AllByRecursion (IsBeside n) spans
    pub from : (m n : ℕ) → m + b ≡ n + a → AllByRecursion (IsBeside n) spans → AllByRecursion (IsBeside m) ts

  pub moved_by : (cs : Chars) (a b : ℕ) (ts : List Spanned) → HasTokens fixed cs a ts → MovedBy cs a b ts
  moved_by _ _ b _ (nothing at) =
      record { spans = []; are = nothing b; to = λ m n e h. tt; from = λ m n e h. tt }
  moved_by _ _ b _ (blank c cs at ts h k) =
      let i = moved_by cs (at + 1) (b + 1) ts k in
      record {
        spans = i.spans;
        are = blank c cs b i.spans h i.are;
        to = λ m n e x. i.to m n (omega (arith, e)) x;
        from = λ m n e x. i.from m n (omega (arith, e)) x;
      }
  moved_by _ _ b _ (next all at s ts begins k) =
      let i = moved_by begins.rest s.end (b + bytes_of begins.front) ts k in
      let t : Spanned = record { token = s.token; start = b; end = b + bytes_of begins.front } in
      let there : Begins fixed all b t = record {
        front = begins.front;
        rest = begins.rest;
        whole = begins.whole;
        token = begins.token;
        starts = refl;
        ends = refl;
      } in
      record {
        spans = t ∷ i.spans;
        are = next all b t i.spans there i.are;
        to = λ m n e x. (
          elim x.0 [
            | inl l ↦ inl (omega (arith, l, e, begins.ends))
            | inr l ↦ inr (omega (arith, l, e, begins.starts))
          ],
          i.to m n (omega (arith, e, begins.ends)) x.1,
        );
        from = λ m n e x. (
          elim x.0 [
            | inl l ↦ inl (omega (arith, l, e, begins.ends))
            | inr l ↦ inr (omega (arith, l, e, begins.starts))
          ],
          i.from m n (omega (arith, e, begins.ends)) x.1,
        );
      }
