-- The bytes of a token are between characters of its text.
use Rattle.std.proofs.Common.{◌≡◌, ℕ, zero, suc, ◌+◌, ◌≤◌, true, List, [], ◌∷◌, ◌++◌, length, slice_get, Some, refl, sym, ap, ◌∙◌, subst, append_assoc, arith, length-append}
use Rattle.std.specs.Prelude.{chars, encode_utf8, encode_utf8_all}
use Rattle.std.specs.Str.{IsCharBoundary, IsUtf8, all_scalars}
use Rattle.std.proofs.lemmas.Bool.{and_parts}
use Rattle.std.proofs.lemmas.Option.{none-some}
use Rattle.std.proofs.lemmas.Str.{IsCharBoundary-at_seam, encode_ascii, encodes-append, encodes-chars, scalars-chars}
use lib.Utf8.{scalar}
use Rattle.psg_terms.specs.Names.{Name}
use Rattle.psg_lexis.specs.Classes.{Chars}
use Rattle.psg_lexis.specs.Tokens.{HasTokens, blank, bytes_of, next, nothing}
use Rattle.psg_lexis.specs.declared.token.Spanned.{Spanned}
use Rattle.psg_lexis.proofs.Walk.{blank-small}

-- the token is of these characters, which are after those
record IsCut (cs : Chars) (from : ℕ) (s : Spanned) : Type 0 where
  before : Chars
  own : Chars
  after : Chars
  whole : cs ≡ before ++ (own ++ after)
  starts : s.start ≡ from + bytes_of before
  ends : s.end ≡ s.start + bytes_of own

more_bytes : (a b : Chars) → bytes_of (a ++ b) ≡ bytes_of a + bytes_of b
more_bytes a b = ap length (encodes-append a b) ∙ length-append (encode_utf8_all a) (encode_utf8_all b)

one_byte : (c : ℕ) (cs : Chars) → encode_utf8 c ≡ c ∷ [] → bytes_of (c ∷ cs) ≡ 1 + bytes_of cs
one_byte c cs e = length-append (encode_utf8 c) (encode_utf8_all cs) ∙ ap (λ l. length l + bytes_of cs) e

cut_of : (fixed : List Name) (cs : Chars) (from : ℕ) (ts : List Spanned) → HasTokens fixed cs from ts → (k : ℕ)
    (s : Spanned) → slice_get ts k ≡ Some s → IsCut cs from s
cut_of fixed [] from [] (nothing at) k s e = absurd (none-some s e)
cut_of fixed (c ∷ cs) from ts (blank d ds at us is more) k s e =
    let cut = cut_of fixed cs (from + 1) ts more k s e in
    record {
      before = c ∷ cut.before;
      own = cut.own;
      after = cut.after;
      whole = ap (λ l. c ∷ l) cut.whole;
      starts = omega (arith, cut.starts, one_byte c cut.before (encode_ascii c (blank-small c is)));
      ends = cut.ends;
    }
cut_of fixed cs from (t ∷ ts) (next all at u us begins more) zero s e =
    let same : t ≡ s = (let o : Some t ≡ Some s = e in cc) in
    subst (IsCut cs from) same (record {
      before = [];
      own = begins.front;
      after = begins.rest;
      whole = begins.whole;
      starts = omega (arith, begins.starts);
      ends = omega (arith, begins.starts, begins.ends);
    })
cut_of fixed cs from (t ∷ ts) (next all at u us begins more) (suc k) s e =
    let cut = cut_of fixed begins.rest t.end ts more k s e in
    record {
      before = begins.front ++ cut.before;
      own = cut.own;
      after = cut.after;
      whole = begins.whole ∙ ap (λ l. begins.front ++ l) cut.whole
          ∙ sym (append_assoc begins.front cut.before (cut.own ++ cut.after));
      starts = omega (arith, cut.starts, begins.ends, more_bytes begins.front cut.before);
      ends = cut.ends;
    }

scalars_behind : (xs ys : Chars) → all_scalars (xs ++ ys) ≡ true → all_scalars ys ≡ true
scalars_behind [] ys h = h
scalars_behind (x ∷ xs) ys h = scalars_behind xs ys (and_parts (scalar x) (all_scalars (xs ++ ys)) h).1

-- the place after some of a text's characters is between two of them
seam : (text : List ℕ) (a b : Chars) → IsUtf8 text → chars text ≡ a ++ b → IsCharBoundary text (bytes_of a)
seam text a b utf8 e =
    IsCharBoundary-at_seam text (encode_utf8_all a) (encode_utf8_all b)
    (sym (encodes-chars text utf8) ∙ ap encode_utf8_all e ∙ encodes-append a b)
    (b, (scalars_behind a b (ap all_scalars (sym e) ∙ scalars-chars text utf8), refl))

module _ (text : List ℕ) (utf8 : IsUtf8 text) (fixed : List Name) (ts : List Spanned)
    (are : HasTokens fixed (chars text) 0 ts) (k : ℕ) (s : Spanned) (there : slice_get ts k ≡ Some s) where
  cut : IsCut (chars text) 0 s
  cut = cut_of fixed (chars text) 0 ts are k s there

  pub in_order : s.start ≤ s.end
  in_order = omega (arith, cut.ends)

  pub start_between : IsCharBoundary text s.start
  start_between =
      subst (IsCharBoundary text) (let e = cut.starts in omega (arith, e))
      (seam text cut.before (cut.own ++ cut.after) utf8 cut.whole)

  pub end_between : IsCharBoundary text s.end
  end_between =
      subst (IsCharBoundary text)
      (let a = cut.starts in let b = cut.ends in omega (arith, a, b, more_bytes cut.before cut.own))
      (seam text (cut.before ++ cut.own) cut.after utf8 (cut.whole ∙ sym (append_assoc cut.before cut.own cut.after)))
