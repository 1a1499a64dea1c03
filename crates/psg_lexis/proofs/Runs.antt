-- A run of characters at the beginning of a text.
use Rattle.std.proofs.Common.{◌≡◌, ℕ, ◌-◌, ◌<◌, Bool, true, false, List, [], ◌∷◌, ◌++◌, length, take, drop, sym, ap, ◌∙◌, subst, refl, append_assoc, append-nil, arith, length-append}
use Rattle.std.specs.Prelude.{encode_utf8, encode_utf8_all}
use Rattle.std.specs.Str.{IsUtf8, IsCharBoundary, chars}
use Rattle.std.proofs.lemmas.Str.{chars_past_char, IsUtf8-past_char, chars-nil, encodes-append, IsCharBoundary-at_seam, IsUtf8-take, chars_from_encodes, length-encode, len_utf8_bounds}
use Rattle.std.proofs.Math.Seq.{take-append_seam, drop-append_seam}
use Rattle.psg_lexis.specs.Classes.{Chars, All, EndsBy}
use Rattle.psg_lexis.specs.Splits.{IsFirst, IsRun}

pub first_off : (text rest : List ℕ) (c : ℕ) → IsUtf8 text → text ≡ encode_utf8 c ++ rest → IsFirst text c rest
first_off text rest c utf8 e =
    record { bytes = e; characters = chars_past_char text rest c utf8 e; utf8 = IsUtf8-past_char text rest c utf8 e }

pub no_chars : (text : List ℕ) → length text ≡ 0 → chars text ≡ []
no_chars [] e = chars-nil
no_chars (b ∷ bs) e = absurd (omega arith)

-- a character takes one byte at least
pub past_first : (text rest : List ℕ) (c : ℕ) → IsFirst text c rest → length rest < length text
past_first text rest c f =
    omega (arith, ap length f.bytes, length-append (encode_utf8 c) rest, length-encode c, len_utf8_bounds c)

-- the text is characters that pass the test, and then the rest
pub record HasRun (test : ℕ → Bool) (text rest : List ℕ) : Type 0 where
  pub front : Chars
  pub bytes : text ≡ encode_utf8_all front ++ rest
  pub characters : chars text ≡ front ++ chars rest
  pub run : All test front

pub no_run : (test : ℕ → Bool) (text : List ℕ) → HasRun test text text
no_run test text = record { front = []; bytes = refl; characters = refl; run = tt }

pub All-push : (test : ℕ → Bool) (cs : Chars) (c : ℕ) → All test cs → test c ≡ true → All test (cs ++ c ∷ [])
All-push test [] c a h = (h, tt)
All-push test (d ∷ cs) c a h = (a.0, All-push test cs c a.1 h)

encodes-push : (cs : Chars) (c : ℕ) → encode_utf8_all (cs ++ c ∷ []) ≡ encode_utf8_all cs ++ encode_utf8 c
encodes-push cs c = encodes-append cs (c ∷ []) ∙ ap (λ bs. encode_utf8_all cs ++ bs) (append-nil (encode_utf8 c))

pub more_run : (test : ℕ → Bool) (text rest after : List ℕ) (c : ℕ) → HasRun test text rest → IsFirst rest c after
    → test c ≡ true → HasRun test text after
more_run test text rest after c h f p = record {
  front = h.front ++ c ∷ [];
  bytes = h.bytes ∙ ap (λ bs. encode_utf8_all h.front ++ bs) f.bytes
      ∙ sym (append_assoc (encode_utf8_all h.front) (encode_utf8 c) after)
      ∙ ap (λ bs. bs ++ after) (sym (encodes-push h.front c));
  characters = h.characters ∙ ap (λ cs. h.front ++ cs) f.characters
      ∙ sym (append_assoc h.front (c ∷ []) (chars after));
  run = All-push test h.front c h.run p;
}

front_len : (test : ℕ → Bool) (text rest : List ℕ) (h : HasRun test text rest)
    → length (encode_utf8_all h.front) ≡ length text - length rest
front_len test text rest h =
    omega (arith, ap length h.bytes, length-append (encode_utf8_all h.front) rest)

pub run_boundary : (test : ℕ → Bool) (text rest : List ℕ) → HasRun test text rest → IsUtf8 rest
    → IsCharBoundary text (length text - length rest)
run_boundary test text rest h utf8 =
    subst (IsCharBoundary text) (front_len test text rest h) (IsCharBoundary-at_seam text (encode_utf8_all h.front) rest h.bytes utf8)

pub run_split : (test : ℕ → Bool) (text rest front back : List ℕ) → IsUtf8 text → IsUtf8 rest → HasRun test text rest
    → EndsBy test (chars rest) → front ≡ take (length text - length rest) text
    → back ≡ drop (length text - length rest) text → IsRun test text front back
run_split test text rest front back whole utf8 h ends f b =
    let n : ℕ = length text - length rest in
    let size : length (encode_utf8_all h.front) ≡ n = front_len test text rest h in
    let f' : front ≡ encode_utf8_all h.front = f ∙ ap (λ m. take m text) (sym size)
    ∙ ap (take (length (encode_utf8_all h.front))) h.bytes ∙ take-append_seam (encode_utf8_all h.front) rest in
    let b' : back ≡ rest = b ∙ ap (λ m. drop m text) (sym size)
    ∙ ap (drop (length (encode_utf8_all h.front))) h.bytes ∙ drop-append_seam (encode_utf8_all h.front) rest in
    let text_front : IsUtf8 front =
    subst IsUtf8 (sym f) (IsUtf8-take text n whole (run_boundary test text rest h utf8)) in
    let same : h.front ≡ chars front = chars_from_encodes h.front front text_front (sym f') in
    record {
      bytes = h.bytes ∙ ap (λ bs. bs ++ rest) (sym f') ∙ ap (λ bs. front ++ bs) (sym b');
      encoded = ap encode_utf8_all (sym same) ∙ sym f';
      characters = h.characters ∙ ap (λ cs. cs ++ chars rest) same ∙ ap (λ bs. chars front ++ chars bs) (sym b');
      run = subst (All test) same h.run;
      ends = subst (λ bs. EndsBy test (chars bs)) (sym b') ends;
      utf8 = subst IsUtf8 (sym b') utf8;
    }

pub stops_at : (test : ℕ → Bool) (rest after : List ℕ) (c : ℕ) → IsFirst rest c after → test c ≡ false
    → EndsBy test (chars rest)
stops_at test rest after c f h = subst (EndsBy test) (sym f.characters) h

pub stops_at_end : (test : ℕ → Bool) (rest : List ℕ) → chars rest ≡ [] → EndsBy test (chars rest)
stops_at_end test rest e = subst (EndsBy test) (sym e) refl
