-- The token or the fault at the beginning of a text, from the run that the walk finds there.
use Rattle.std.proofs.Common.{◌≡◌, ◌≢◌, ℕ, ◌+◌, ◌<◌, ◌≤◌, ◌^◌, Bool, true, false, List, [], ◌∷◌, ◌++◌, length, sym, ap, ◌∙◌, subst, refl, arith}
use Rattle.std.specs.Prelude.{bytes_eq, encode_utf8_all, not, ◌||◌, ◌==◌}
use Rattle.std.specs.Str.{chars}
use Rattle.std.proofs.lemmas.Bool.{false≢true, not-true}
use Rattle.std.proofs.lemmas.Str.{encode_ascii}
use Rattle.std.proofs.Common.{lit<}
use Rattle.std.proofs.lemmas.Slice.Eq.{bytes_eq-Decides}
use Rattle.unicode_ident.specs.Ident.{is_xid_start, is_xid_continue}
use Rattle.unicode_ident.proofs.IdentLemmas.{is_xid_start-is_xid_continue}
use Rattle.psg_terms.specs.Names.{Name, is_among}
use Rattle.psg_terms.specs.Words.{starts_word, goes_on_word, IsWord}
use Rattle.psg_lexis.specs.Classes.{Chars, is_blank, is_digit, is_solo, is_symbol, All, EndsBy, BeginsBy, IsLongest}
use Rattle.psg_lexis.specs.Splits.{IsFirst, IsRun}
use Rattle.psg_lexis.specs.Tokens.{bytes_of, dots, value_of, IsToken, word, number, solo, symbol, hole, more, Begins}
use Rattle.psg_lexis.specs.Faults.{IsFault, no_token, no_symbol, no_number, large_word, large_hole, large_number}
use Rattle.psg_lexis.specs.declared.token.Token.TheVariants as tokens
use Rattle.psg_lexis.specs.declared.token.LexFault.TheVariants as faults

-- a start of a word also goes on one
or_goes_on : (s g u : Bool) → (s ≡ true → g ≡ true) → (s || u) ≡ true → (g || u) ≡ true
or_goes_on true g u f h = ap (λ b. b || u) (f refl)
or_goes_on false true u f h = refl
or_goes_on false false u f h = h

pub start_goes_on : (c : ℕ) → starts_word c ≡ true → goes_on_word c ≡ true
start_goes_on c h = or_goes_on (is_xid_start c) (is_xid_continue c) (c == 95) (is_xid_start-is_xid_continue c) h

at_least : (n m : ℕ) → (n < m → ⊥) → m ≤ n
at_least n m h = omega arith

encodes-dots : encode_utf8_all dots ≡ dots
encodes-dots = rw (encode_ascii 46 (lit< tt)) refl

chars-dots : chars dots ≡ dots
unfolding chars
chars-dots = refl

-- a run that the characters begin with is not empty
longest_at : (test : ℕ → Bool) (run follow : Chars) → BeginsBy test (run ++ follow) → All test run
    → EndsBy test follow → IsLongest test run follow
longest_at test [] [] b a e = absurd (false≢true b)
longest_at test [] (c ∷ cs) b a e = absurd (false≢true (sym e ∙ b))
longest_at test (d ∷ run) follow b a e = record { begins = b; all = a; ends = e }

word_at : (run follow : Chars) → BeginsBy starts_word (run ++ follow) → All goes_on_word run
    → EndsBy goes_on_word follow → IsWord run
word_at [] [] b a e = absurd (false≢true b)
word_at [] (c ∷ cs) b a e = absurd (false≢true (sym e ∙ start_goes_on c b))
word_at (d ∷ run) follow b a e = (b, a.1)

pub same_dots : (run : List ℕ) → bytes_eq run dots ≡ true → run ≡ dots
same_dots run h = (bytes_eq-Decides run dots).0 h

pub apart_dots : (run : List ℕ) → bytes_eq run dots ≡ false → run ≡ dots → ⊥
apart_dots run h e = false≢true (sym h ∙ (bytes_eq-Decides run dots).1 e)

-- a `?` takes one byte
hole_end : (at : ℕ) (front : List ℕ) (cs : Chars) → encode_utf8_all cs ≡ front
    → at + 1 + length front ≡ at + bytes_of (63 ∷ cs)
hole_end at front cs e =
    let one : bytes_of (63 ∷ cs) ≡ 1 + length front = rw (encode_ascii 63 (lit< tt)) (omega (arith, ap length e)) in
    omega (arith, one)

pub longest_run : (test : ℕ → Bool) (text front rest : List ℕ) → IsRun test text front rest
    → BeginsBy test (chars text) → IsLongest test (chars front) (chars rest)
longest_run test text front rest r b =
    longest_at test (chars front) (chars rest) (subst (BeginsBy test) r.characters b) r.run r.ends

pub run_is_word : (text front rest : List ℕ) → IsRun goes_on_word text front rest
    → BeginsBy starts_word (chars text) → IsWord (chars front)
run_is_word text front rest r b =
    word_at (chars front) (chars rest) (subst (BeginsBy starts_word) r.characters b) r.run r.ends

module _ (fixed : List Name) (text front rest : List ℕ) (at : ℕ) where
  pub begins_word : (bytes : List ℕ) → IsRun goes_on_word text front rest → BeginsBy starts_word (chars text)
      → length front ≤ 255 → bytes ≡ front
      → Begins fixed (chars text) at (record { token = tokens.Word bytes; start = at; end = at + length front })
  begins_word bytes r b small e = record {
    front = chars front;
    rest = chars rest;
    whole = r.characters;
    token = subst (λ w. IsToken fixed (chars front) (chars rest) (tokens.Word w)) (r.encoded ∙ sym e)
        (word (chars front) (chars rest) (run_is_word text front rest r b) r.ends (subst (λ w. length w ≤ 255) (sym r.encoded) small));
    starts = refl;
    ends = ap (λ w. at + length w) (sym r.encoded);
  }

  pub too_large_word : IsRun goes_on_word text front rest → BeginsBy starts_word (chars text) → 255 < length front
      → IsFault fixed (chars text) at (faults.TooLarge at)
  too_large_word r b large =
      large_word (chars front) (chars text) (chars rest) at r.characters (run_is_word text front rest r b) r.ends (subst (λ w. 255 < length w) (sym r.encoded) large)

  pub begins_hole : (bytes : List ℕ) → IsRun goes_on_word text front rest → BeginsBy starts_word (chars text)
      → length front ≤ 255 → bytes ≡ front
      → Begins fixed (63 ∷ chars text) at (record {
        token = tokens.Hole bytes;
        start = at;
        end =
            at + 1 + length front;
      })
  begins_hole bytes r b small e = record {
    front = 63 ∷ chars front;
    rest = chars rest;
    whole = ap (λ cs. 63 ∷ cs) r.characters;
    token = subst (λ w. IsToken fixed (63 ∷ chars front) (chars rest) (tokens.Hole w)) (r.encoded ∙ sym e)
        (hole (chars front) (chars rest) (run_is_word text front rest r b) r.ends (subst (λ w. length w ≤ 255) (sym r.encoded) small));
    starts = refl;
    ends = hole_end at front (chars front) r.encoded;
  }

  pub too_large_hole : IsRun goes_on_word text front rest → BeginsBy starts_word (chars text) → 255 < length front
      → IsFault fixed (63 ∷ chars text) at (faults.TooLarge (at + 1))
  too_large_hole r b large =
      large_hole (chars front) (chars text) (chars rest) at r.characters (run_is_word text front rest r b) r.ends (subst (λ w. 255 < length w) (sym r.encoded) large)

  pub begins_number : IsRun is_digit text front rest → BeginsBy is_digit (chars text)
      → EndsBy goes_on_word (chars rest) → value_of (chars front) < 2 ^ 128
      → (value : ℕ) → value ≡ value_of (chars front)
      → Begins fixed (chars text) at (record { token = tokens.Number value; start = at; end = at + length front })
  begins_number r b e small value same = record {
    front = chars front;
    rest = chars rest;
    whole = r.characters;
    token = subst (λ n. IsToken fixed (chars front) (chars rest) (tokens.Number n)) (sym same)
        (number (chars front) (chars rest) (longest_run is_digit text front rest r b) e small);
    starts = refl;
    ends = ap (λ w. at + length w) (sym r.encoded);
  }

  pub joined_number : IsRun is_digit text front rest → BeginsBy is_digit (chars text)
      → BeginsBy goes_on_word (chars rest) → IsFault fixed (chars text) at (faults.BadRun at)
  joined_number r b g =
      no_number (chars front) (chars text) (chars rest) at r.characters (longest_run is_digit text front rest r b) g

  pub too_large_number : IsRun is_digit text front rest → BeginsBy is_digit (chars text)
      → EndsBy goes_on_word (chars rest) → (value_of (chars front) < 2 ^ 128 → ⊥)
      → IsFault fixed (chars text) at (faults.TooLarge at)
  too_large_number r b e large =
      large_number (chars front) (chars text) (chars rest) at r.characters (longest_run is_digit text front rest r b) e (at_least (value_of (chars front)) (2 ^ 128) large)

  pub begins_symbol : (bytes : List ℕ) → IsRun is_symbol text front rest → BeginsBy is_symbol (chars text)
      → (front ≡ dots → ⊥) → is_among fixed front ≡ true → bytes ≡ front
      → Begins fixed (chars text) at (record { token = tokens.Symbol bytes; start = at; end = at + length front })
  begins_symbol bytes r b apart among e = record {
    front = chars front;
    rest = chars rest;
    whole = r.characters;
    token = subst (λ w. IsToken fixed (chars front) (chars rest) (tokens.Symbol w)) (r.encoded ∙ sym e)
        (symbol (chars front) (chars rest) (longest_run is_symbol text front rest r b) (subst (λ w. is_among fixed w ≡ true) (sym r.encoded) among) (not_dots r apart));
    starts = refl;
    ends = ap (λ w. at + length w) (sym r.encoded);
  }
    where
      not_dots : IsRun is_symbol text front rest → (front ≡ dots → ⊥) → chars front ≢ dots
      not_dots r apart same = apart (sym r.encoded ∙ ap encode_utf8_all same ∙ encodes-dots)

  pub no_fixed_symbol : IsRun is_symbol text front rest → BeginsBy is_symbol (chars text) → (front ≡ dots → ⊥)
      → is_among fixed front ≡ false → IsFault fixed (chars text) at (faults.BadRun at)
  no_fixed_symbol r b apart among =
      no_symbol (chars front) (chars text) (chars rest) at r.characters (longest_run is_symbol text front rest r b) (subst (λ w. is_among fixed w ≡ false) (sym r.encoded) among)
      (λ same. apart (sym r.encoded ∙ ap encode_utf8_all same ∙ encodes-dots))

  pub begins_more : IsRun is_symbol text front rest → front ≡ dots
      → Begins fixed (chars text) at (record { token = tokens.More; start = at; end = at + length front })
  begins_more r e = record {
    front = dots;
    rest = chars rest;
    whole = r.characters ∙ ap (λ w. chars w ++ chars rest) e ∙ ap (λ w. w ++ chars rest) chars-dots;
    token = more (chars rest) r.ends;
    starts = refl;
    ends = ap (λ w. at + length w) (e ∙ sym encodes-dots);
  }

pub begins_solo : (fixed : List Name) (text after : List ℕ) (c at : ℕ) → IsFirst text c after → is_solo c ≡ true
    → c < 128
    → Begins fixed (chars text) at (record { token = tokens.Solo c; start = at; end = at + 1 })
begins_solo fixed text after c at f s small = record {
  front = c ∷ [];
  rest = chars after;
  whole = f.characters;
  token = solo c (chars after) s;
  starts = refl;
  ends = let one : bytes_of (c ∷ []) ≡ 1 = rw (encode_ascii c small) refl in omega (arith, one);
}

pub begins_nothing : (fixed : List Name) (text after : List ℕ) (c at : ℕ) → IsFirst text c after
    → BeginsBy (λ d. not (is_blank d)) (chars text)
    → starts_word c ≡ false → is_digit c ≡ false → is_solo c ≡ false → is_symbol c ≡ false → c ≢ 34 → c ≢ 63
    → IsFault fixed (chars text) at (faults.BadChar at)
begins_nothing fixed text after c at f b w d s y q h =
    let blank = not-true (is_blank c) (subst (BeginsBy (λ d. not (is_blank d))) f.characters b) in
    subst (λ cs. IsFault fixed cs at (faults.BadChar at)) (sym f.characters)
    (no_token c (chars after) at (record {
      blank = blank;
      word = w;
      digit = d;
      solo = s;
      symbol = y;
      quote = q;
      question = h;
    }))
