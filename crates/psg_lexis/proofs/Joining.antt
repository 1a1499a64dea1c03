-- Two texts put together have the tokens of both, where the characters at the border don't run together.
use Rattle.std.proofs.Common.{◌≡◌, inl, inr, ℕ, ◌+◌, ◌<◌, Bool, true, false, List, [], ◌∷◌, ◌++◌, length, sym, ap, ◌∙◌, subst, refl, append_assoc, append-nil, arith, length-append}
use Rattle.std.specs.Prelude.{encode_utf8, encode_utf8_all, ◌||◌, ◌==◌}
use Rattle.std.specs.Char.{is_ascii_alphanumeric}
use Rattle.std.proofs.lemmas.Bool.{false≢true, or_left}
use Rattle.std.proofs.lemmas.Bool.Decides.{nat_tests}
use Rattle.std.proofs.lemmas.Str.{encodes-append, encode_ascii}
use Rattle.unicode_ident.specs.Ident.{is_xid_continue}
use Rattle.unicode_ident.proofs.IdentLemmas.{is_xid_continue-ascii}
use Rattle.psg_terms.specs.Names.{Name}
use Rattle.psg_terms.specs.Words.{goes_on_word, IsWord}
use Rattle.psg_lexis.specs.Classes.{Chars, is_digit, is_symbol, EndsBy, All, IsLongest, Glue}
use Rattle.psg_lexis.specs.Tokens.{bytes_of, dots, IsToken, word, number, text, solo, symbol, hole, more, Begins, HasTokens, nothing, blank, next}
use Rattle.psg_lexis.specs.declared.token.Token.{Token}
use Rattle.psg_lexis.specs.declared.token.Spanned.{Spanned}
use Rattle.psg_lexis.proofs.Starts.{start_goes_on}
use Rattle.psg_lexis.proofs.Walk.{blank-small}

-- the last of the characters does not run together with the first of the others
pub record IsApart (xs ys : Chars) : Type 0 where
  pub apart : (front behind : Chars) (c d : ℕ) → xs ≡ front ++ c ∷ [] → ys ≡ d ∷ behind → Glue c d → ⊥

behind_apart : (front rest ys : Chars) → IsApart (front ++ rest) ys → IsApart rest ys
behind_apart front rest ys a = record {
  apart = λ f g c d e k. a.apart (front ++ f) g c d (ap (λ cs. front ++ cs) e
      ∙ sym (append_assoc front f (c ∷ []))) k;
}

-- the last of some characters
record HasLast (test : ℕ → Bool) (cs : Chars) : Type 0 where
  front : Chars
  last : ℕ
  whole : cs ≡ front ++ last ∷ []
  passes : test last ≡ true

last_of : (test : ℕ → Bool) (c : ℕ) (cs : Chars) → All test (c ∷ cs) → HasLast test (c ∷ cs)
last_of test c [] a = record { front = []; last = c; whole = refl; passes = a.0 }
last_of test c (d ∷ cs) a =
    let h = last_of test d cs a.1 in
    record { front = c ∷ h.front; last = h.last; whole = ap (λ ds. c ∷ ds) h.whole; passes = h.passes }

-- a run goes no further behind the border
ends_more : (test : ℕ → Bool) (by : ℕ → Bool) (run rest ys : Chars) → HasLast by run → IsApart (run ++ rest) ys
    → EndsBy test rest
    → ((c d : ℕ) → by c ≡ true → test d ≡ true → Glue c d) → EndsBy test (rest ++ ys)
ends_more test by run (c ∷ cs) ys l a e g = e
ends_more test by run [] [] l a e g = refl
ends_more test by run [] (d ∷ ds) l a e g = decide (test d) refl
  where
    decide : (b : Bool) → test d ≡ b → test d ≡ false
    decide true k = absurd (a.apart l.front ds l.last d (append-nil run ∙ l.whole) refl (g l.last d l.passes k))
    decide false k = k

word_glue : (c d : ℕ) → goes_on_word c ≡ true → goes_on_word d ≡ true → Glue c d
word_glue c d h k = inl (h, k)

symbol_glue : (c d : ℕ) → is_symbol c ≡ true → is_symbol d ≡ true → Glue c d
symbol_glue c d h k = inr (h, k)

digit_small : (c : ℕ) → is_digit c ≡ true → c < 128
digit_small c h = grind (arith, nat_tests)

digit_alphanumeric : (c : ℕ) → is_digit c ≡ true → (is_ascii_alphanumeric c || (c == 95)) ≡ true
digit_alphanumeric c h = grind (arith, nat_tests)

digit_goes_on : (c : ℕ) → is_digit c ≡ true → goes_on_word c ≡ true
digit_goes_on c h = or_left (is_xid_continue c) (c == 95) (is_xid_continue-ascii c (digit_small c h)
    ∙ digit_alphanumeric c h)

word_last : (cs : Chars) → IsWord cs → HasLast goes_on_word cs
word_last [] w = absurd w
word_last (c ∷ cs) w = last_of goes_on_word c cs (start_goes_on c w.0, w.1)

run_last : (test : ℕ → Bool) (cs follow : Chars) → IsLongest test cs follow → HasLast test cs
run_last test [] follow r = absurd (false≢true r.begins)
run_last test (c ∷ cs) follow r = last_of test c cs r.all

cons_apart : (c : ℕ) (cs ys : Chars) → IsApart (c ∷ cs) ys → IsApart cs ys
cons_apart c cs ys a = behind_apart (c ∷ []) cs ys a

module _ (fixed : List Name) where
  token_joined : {front rest : Chars} {t : Token} (ys : Chars) → IsApart (front ++ rest) ys
      → IsToken fixed front rest t → IsToken fixed front (rest ++ ys) t
  token_joined ys a (word cs rest w e l) =
      word cs (rest ++ ys) w (ends_more goes_on_word goes_on_word cs rest ys (word_last cs w) a e word_glue) l
  token_joined ys a (number cs rest r e l) =
      let last = run_last is_digit cs rest r in
      number cs (rest ++ ys)
      (record {
        begins = r.begins;
        all = r.all;
        ends =
            ends_more is_digit is_digit cs rest ys last a r.ends (λ c d h k. word_glue c d (digit_goes_on c h) (digit_goes_on d k));
      })
      (ends_more goes_on_word is_digit cs rest ys last a e (λ c d h k. word_glue c d (digit_goes_on c h) k)) l
  token_joined ys a (text cs written rest e c l) = text cs written (rest ++ ys) e c l
  token_joined ys a (solo c rest s) = solo c (rest ++ ys) s
  token_joined ys a (symbol cs rest r i d) =
      symbol cs (rest ++ ys) (record {
        begins = r.begins;
        all = r.all;
        ends =
            ends_more is_symbol is_symbol cs rest ys (run_last is_symbol cs rest r) a r.ends symbol_glue;
      }) i d
  token_joined ys a (hole cs rest w e l) =
      hole cs (rest ++ ys) w (ends_more goes_on_word goes_on_word cs rest ys (word_last cs w) (cons_apart 63 (cs ++ rest) ys a) e word_glue) l
  token_joined ys a (more rest e) =
      more (rest ++ ys) (ends_more is_symbol is_symbol dots rest ys (last_of is_symbol 46 (46 ∷ 46 ∷ []) (
        refl,
        (refl, (refl, tt)),
      )) a e symbol_glue)

  begins_joined : (all : Chars) (at : ℕ) (s : Spanned) (ys : Chars) → IsApart all ys → (b : Begins fixed all at s)
      → Begins fixed (all ++ ys) at s
  begins_joined all at s ys a b = record {
    front = b.front;
    rest = b.rest ++ ys;
    whole = ap (λ cs. cs ++ ys) b.whole ∙ append_assoc b.front b.rest ys;
    token = token_joined ys (subst (λ cs. IsApart cs ys) b.whole a) b.token;
    starts = b.starts;
    ends = b.ends;
  }

  pub joined_tokens : (xs : Chars) (at : ℕ) (ts : List Spanned) (ys : Chars) (us : List Spanned) → IsApart xs ys
      → HasTokens fixed xs at ts
      → HasTokens fixed ys (at + bytes_of xs) us → HasTokens fixed (xs ++ ys) at (ts ++ us)
  unfolding begins_joined
  joined_tokens _ _ _ ys us a (nothing at) k = subst (λ n. HasTokens fixed ys n us) (omega arith) k
  joined_tokens _ _ _ ys us a (blank c cs at ts h t) k =
      let one : bytes_of (c ∷ cs) ≡ 1 + bytes_of cs =
      omega (
        arith,
        length-append (encode_utf8 c) (encode_utf8_all cs),
        ap length (encode_ascii c (blank-small c h)),
      ) in
      let same : at + bytes_of (c ∷ cs) ≡ at + 1 + bytes_of cs = omega (arith, one) in
      blank c (cs ++ ys) at (ts ++ us) h
      (joined_tokens cs (at + 1) ts ys us (cons_apart c cs ys a) t (subst (λ n. HasTokens fixed ys n us) same k))
  joined_tokens _ _ _ ys us a (next all at s ts b t) k =
      let size : bytes_of all ≡ bytes_of b.front + bytes_of b.rest =
      ap bytes_of b.whole ∙ ap length (encodes-append b.front b.rest)
      ∙ length-append (encode_utf8_all b.front) (encode_utf8_all b.rest) in
      let same : at + bytes_of all ≡ s.end + bytes_of b.rest = omega (arith, size, b.ends) in
      next (all ++ ys) at s (ts ++ us) (begins_joined all at s ys a b)
      (joined_tokens b.rest s.end ts ys us (behind_apart b.front b.rest ys (subst (λ cs. IsApart cs ys) b.whole a)) t (subst (λ n. HasTokens fixed ys n us) same k))
