-- The walk over a text: the tokens so far, and what those of the rest add to them.
use Rattle.std.proofs.Common.{◌≡◌, ◌⊎◌, inl, inr, ℕ, ◌+◌, ◌-◌, ◌<◌, Bool, true, false, List, [], ◌∷◌, ◌++◌, length, drop, sym, ap, ◌∙◌, subst, refl, append_assoc, append-nil, arith, length-append}
use Rattle.std.specs.Prelude.{encode_utf8, encode_utf8_all, ◌||◌, ◌==◌, ◌&&◌}
use Rattle.std.specs.Str.{IsUtf8, IsCharBoundary, chars, all_scalars}
use Rattle.std.proofs.Math.Seq.{drop-append_seam}
use Rattle.std.proofs.lemmas.Bool.{and_parts, eqb-true, false≢true}
use Rattle.std.proofs.lemmas.Str.{encodes-append, encode_ascii, encodes-chars, scalars-chars, chars-encodes, IsCharBoundary-at_seam, length-le-encodes}
use lib.Utf8.{scalar}
use Rattle.psg_terms.specs.Names.{Name}
use Rattle.psg_terms.specs.Words.{IsWord}
use Rattle.psg_lexis.specs.Classes.{Chars, is_blank, is_digit, is_symbol, BeginsBy}
use Rattle.psg_lexis.specs.Splits.{IsFirst}
use Rattle.psg_lexis.specs.Tokens.{bytes_of, IsToken, word, number, text, solo, symbol, hole, more, Begins, HasTokens, nothing, blank, next}
use Rattle.psg_lexis.specs.Faults as fault
use Rattle.psg_lexis.specs.declared.token.Token.{Token}
use Rattle.psg_lexis.specs.declared.token.Spanned.{Spanned}
use Rattle.psg_lexis.specs.declared.token.LexFault.{LexFault}

-- ---- blanks

blank_is : (a b c d : Bool) → (a || b || c || d) ≡ true → (a ≡ true) ⊎ ((b ≡ true) ⊎ ((c ≡ true) ⊎ (d ≡ true)))
blank_is true b c d h = inl refl
blank_is false true c d h = inr (inl refl)
blank_is false false true d h = inr (inr (inl refl))
blank_is false false false d h = inr (inr (inr h))

pub blank-small : (c : ℕ) → is_blank c ≡ true → c < 128
blank-small c h =
    elim (blank_is (c == 32) (c == 9) (c == 10) (c == 13) h) [
      | inl e ↦ let k = eqb-true c 32 e in omega arith
      | inr r ↦ elim r [
        | inl e ↦ let k = eqb-true c 9 e in omega arith
        | inr q ↦ elim q [
          | inl e ↦ let k = eqb-true c 10 e in omega arith
          | inr e ↦ let k = eqb-true c 13 e in
              omega arith
        ]
      ]
    ]

pub past_blank : (rest after : List ℕ) (c : ℕ) → IsFirst rest c after → is_blank c ≡ true
    → length rest ≡ 1 + length after
past_blank rest after c f b =
    let small = blank-small c b in
    omega (arith, ap length f.bytes, length-append (encode_utf8 c) after, ap length (encode_ascii c small))

-- ---- tokens

word_some : (cs : Chars) → IsWord cs → 0 < length cs
word_some [] w = absurd w
word_some (c ∷ cs) w = omega arith

begun_some : (test : ℕ → Bool) (cs : Chars) → BeginsBy test cs → 0 < length cs
begun_some test [] b = absurd (false≢true b)
begun_some test (c ∷ cs) b = omega arith

module _ (fixed : List Name) where
  token_some : {front rest : Chars} {t : Token} → IsToken fixed front rest t → 0 < length front
  token_some (word cs rest w e l) = word_some cs w
  token_some (number cs rest r e l) = begun_some is_digit cs r.begins
  token_some (text cs written rest e a l) = omega arith
  token_some (solo c rest s) = omega arith
  token_some (symbol cs rest r i d) = begun_some is_symbol cs r.begins
  token_some (hole cs rest w e l) = omega arith
  token_some (more rest e) = omega arith

  some_begin : (cs : Chars) (at : ℕ) (s : Spanned) (b : Begins fixed cs at s) → 0 < bytes_of b.front
  some_begin cs at s b = omega (arith, token_some b.token, length-le-encodes b.front)

  scalars_behind : (xs ys : Chars) → all_scalars (xs ++ ys) ≡ true → all_scalars ys ≡ true
  scalars_behind [] ys h = h
  scalars_behind (x ∷ xs) ys h = scalars_behind xs ys (and_parts (scalar x) (all_scalars (xs ++ ys)) h).1

  module _ (rest : List ℕ) (utf8 : IsUtf8 rest) (at : ℕ) (s : Spanned) (b : Begins fixed (chars rest) at s) where
    cut : rest ≡ encode_utf8_all b.front ++ encode_utf8_all b.rest
    cut = sym (encodes-chars rest utf8) ∙ ap encode_utf8_all b.whole ∙ encodes-append b.front b.rest

    behind : all_scalars b.rest ≡ true
    behind = scalars_behind b.front b.rest (ap all_scalars (sym b.whole) ∙ scalars-chars rest utf8)

    token_size : s.end - at ≡ bytes_of b.front
    token_size = omega (arith, b.ends)

    pub token_boundary : IsCharBoundary rest (s.end - at)
    token_boundary =
        subst (IsCharBoundary rest) (sym token_size) (IsCharBoundary-at_seam rest (encode_utf8_all b.front) (encode_utf8_all b.rest) cut (b.rest, (behind, refl)))

    -- what the cut leaves are the characters behind the token
    pub left_is : (left : List ℕ) → left ≡ drop (s.end - at) rest → left ≡ encode_utf8_all b.rest
    left_is left e = e ∙ ap (λ n. drop n rest) token_size ∙ ap (drop (bytes_of b.front)) cut
        ∙ drop-append_seam (encode_utf8_all b.front) (encode_utf8_all b.rest)

    pub left_chars : (left : List ℕ) → left ≡ drop (s.end - at) rest → chars left ≡ b.rest
    left_chars left e = ap chars (left_is left e) ∙ chars-encodes b.rest behind

    pub left_utf8 : (left : List ℕ) → left ≡ drop (s.end - at) rest → IsUtf8 left
    left_utf8 left e = subst IsUtf8 (sym (left_is left e)) (b.rest, (behind, refl))

    pub left_length : (left : List ℕ) → left ≡ drop (s.end - at) rest → (length rest ≡ (s.end - at) + length left)
        × (0 < s.end - at)
    left_length left e = (
      omega (
        arith,
        ap length cut,
        length-append (encode_utf8_all b.front) (encode_utf8_all b.rest),
        ap length (left_is left e),
        token_size,
      ),
      omega (arith, token_size, some_begin (chars rest) at s b),
    )

-- the tokens found before the rest, which begins at the byte `at`, go on with those of the rest, and so do faults
pub record HasWalked (fixed : List Name) (whole : List ℕ) (found : List Spanned) (at : ℕ) (rest : List ℕ) : Type 0 where
  pub tokens : (ts : List Spanned) → HasTokens fixed (chars rest) at ts
      → HasTokens fixed (chars whole) 0 (found ++ ts)
  pub faults : (f : LexFault) → fault.HasFault fixed (chars rest) at f → fault.HasFault fixed (chars whole) 0 f

pub not_walked : (fixed : List Name) (whole : List ℕ) → HasWalked fixed whole [] 0 whole
not_walked fixed whole = record { tokens = λ ts h. h; faults = λ f h. h }

pub walk_blank : (fixed : List Name) (whole rest after : List ℕ) (found : List Spanned) (at c : ℕ)
    → HasWalked fixed whole found at rest
    → IsFirst rest c after → is_blank c ≡ true → HasWalked fixed whole found (at + 1) after
walk_blank fixed whole rest after found at c w f b = record {
  tokens = λ ts h. w.tokens ts (subst (λ cs. HasTokens fixed cs at ts) (sym f.characters) (blank c (chars after) at ts b h));
  faults = λ g h. w.faults g (subst (λ cs. fault.HasFault fixed cs at g) (sym f.characters) (fault.blank c (chars after) at g b h));
}

pub walk_token : (fixed : List Name) (whole rest left : List ℕ) (found : List Spanned) (at : ℕ) (s : Spanned) (utf8 : IsUtf8 rest) → HasWalked fixed whole found at rest
    → (b : Begins fixed (chars rest) at s) → left ≡ drop (s.end - at) rest
    → HasWalked fixed whole (found ++ s ∷ []) s.end left
walk_token fixed whole rest left found at s utf8 w b e =
    let same : chars left ≡ b.rest = left_chars fixed rest utf8 at s b left e in
    record {
      tokens = λ ts h. subst (HasTokens fixed (chars whole) 0) (sym (append_assoc found (s ∷ []) ts))
          (w.tokens (s ∷ ts) (next (chars rest) at s ts b (subst (λ cs. HasTokens fixed cs s.end ts) same h)));
      faults = λ g h. w.faults g (fault.later (chars rest) at s g b (subst (λ cs. fault.HasFault fixed cs s.end g) same h));
    }

pub all_walked : (fixed : List Name) (whole rest : List ℕ) (found : List Spanned) (at : ℕ)
    → HasWalked fixed whole found at rest → chars rest ≡ [] → HasTokens fixed (chars whole) 0 found
all_walked fixed whole rest found at w e =
    subst (HasTokens fixed (chars whole) 0) (append-nil found) (w.tokens [] (subst (λ cs. HasTokens fixed cs at []) (sym e) (nothing at)))

pub walk_fault : (fixed : List Name) (whole rest : List ℕ) (found : List Spanned) (at : ℕ) (f : LexFault)
    → HasWalked fixed whole found at rest
    → fault.OrMemory (fault.IsFault fixed (chars rest) at) f → fault.OrMemory (fault.HasFault fixed (chars whole) 0) f
walk_fault fixed whole rest found at f w (inl e) = inl e
walk_fault fixed whole rest found at f w (inr h) = inr (w.faults f (fault.here (chars rest) at f h))
