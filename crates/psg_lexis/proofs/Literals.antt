-- The token or the fault of a quoted text, from what the walk finds behind the contents that it has read.
use Rattle.std.proofs.Common.{◌≡◌, ◌≢◌, ◌⊎◌, inl, inr, ℕ, ◌+◌, ◌-◌, ◌<◌, ◌≤◌, Bool, true, false, List, [], ◌∷◌, ◌++◌, length, sym, ap, ◌∙◌, subst, refl, append_assoc, append-nil, arith, length-append, lit<, ne_eqb}
use Rattle.std.proofs.lemmas.Bool.{or_right}
use Rattle.std.specs.Prelude.{encode_utf8, encode_utf8_all, is_some, ◌||◌, ◌==◌, if◌then◌else◌}
use Rattle.std.specs.Str.{chars}
use Rattle.std.proofs.lemmas.Str.{encodes-append, encode_ascii, len_utf8_ascii, length-encode, chars-nil}
use Rattle.unicode_width.specs.Width.{char_width}
use Rattle.psg_terms.specs.Names.{Name}
use Rattle.psg_lexis.specs.Classes.{Chars, is_escape, EndsBy}
use Rattle.psg_lexis.specs.Splits.{IsFirst}
use Rattle.psg_lexis.specs.Tokens.{bytes_of, is_content, escaped, quoted, IsToken, text, Begins}
use Rattle.psg_lexis.specs.Faults.{is_closed, IsInside, IsFault, no_width, no_escape, unended, large_text}
use Rattle.psg_lexis.specs.Pieces.{IsContent, HasNoWidth}
use Rattle.psg_lexis.specs.declared.token.Token.TheVariants as tokens
use Rattle.psg_lexis.specs.declared.token.LexFault.{LexFault}
use Rattle.psg_lexis.specs.declared.token.LexFault.TheVariants as faults
use Rattle.psg_lexis.proofs.Closing.{closed_contents}
use Rattle.psg_lexis.proofs.Contents.{HasContents}

-- ---- pieces

size-ascii : (c : ℕ) → c < 128 → length (encode_utf8 c) ≡ 1
size-ascii c h = length-encode c ∙ len_utf8_ascii c h

pub an_escape : (whole behind after : List ℕ) (written meant : ℕ) → IsFirst whole 92 behind
    → IsFirst behind written after
    → escaped meant ≡ 92 ∷ written ∷ [] → is_content meant ≡ true → meant < 128 → IsContent whole meant after
an_escape whole behind after written meant f g e content small = record {
  content = content;
  bytes = f.bytes ∙ ap (λ bs. encode_utf8 92 ++ bs) g.bytes
      ∙ sym (append_assoc (encode_utf8 92) (encode_utf8 written) after)
      ∙ ap (λ bs. (encode_utf8 92 ++ bs) ++ after) (sym (append-nil (encode_utf8 written)))
      ∙ ap (λ cs. encode_utf8_all cs ++ after) (sym e);
  characters = f.characters ∙ ap (λ cs. 92 ∷ cs) g.characters ∙ ap (λ cs. cs ++ chars after) (sym e);
  size = omega (
    arith,
    size-ascii meant small,
    ap length f.bytes,
    size-ascii 92 (lit< tt),
    length-append (encode_utf8 92) behind,
    ap length g.bytes,
    length-append (encode_utf8 written) after,
  );
  utf8 = g.utf8;
}

plain_escaped : (c : ℕ) → (c == 34) ≡ false → (c == 92) ≡ false → (c == 10) ≡ false → escaped c ≡ c ∷ []
plain_escaped c p q r = rw (p, q, r) refl

pub a_plain : (whole after : List ℕ) (c : ℕ) → IsFirst whole c after → c ≢ 34 → c ≢ 92 → c ≢ 10
    → is_some (char_width false c) ≡ true → IsContent whole c after
a_plain whole after c f p q r w =
    let e : escaped c ≡ c ∷ [] = plain_escaped c (ne_eqb c 34 p) (ne_eqb c 92 q) (ne_eqb c 10 r) in
    record {
      content = or_right (c == 10) (is_some (char_width false c)) w;
      bytes = f.bytes ∙ ap (λ bs. bs ++ after) (sym (append-nil (encode_utf8 c)))
          ∙ ap (λ cs. encode_utf8_all cs ++ after) (sym e);
      characters = f.characters ∙ ap (λ cs. cs ++ chars after) (sym e);
      size = omega (arith, ap length f.bytes, length-append (encode_utf8 c) after);
      utf8 = f.utf8;
    }

pub content-quote : is_content 34 ≡ true
unfolding char_width
content-quote = refl

pub content-backslash : is_content 92 ≡ true
unfolding char_width
content-backslash = refl

-- ---- the whole

pub some_left : (rest : List ℕ) (c : ℕ) (cs : Chars) → chars rest ≡ c ∷ cs → 0 < length rest
some_left [] c cs e = absurd (nothing (sym chars-nil ∙ e))
  where
    nothing : [] ≡ c ∷ cs → ⊥
    nothing e = cc
some_left (b ∷ bs) c cs e = omega arith

quote-size : (cs : Chars) → bytes_of (34 ∷ cs) ≡ 1 + bytes_of cs
quote-size cs = rw (encode_ascii 34 (lit< tt)) (omega arith)

module _ (fixed : List Name) (whole rest : List ℕ) (size : ℕ) (kept : List ℕ) (h : HasContents whole rest size kept) (at : ℕ) where
  read : length whole - length rest ≡ bytes_of (quoted h.before)
  read = omega (arith, ap length h.bytes, length-append (encode_utf8_all (quoted h.before)) rest)

  at_rest : (cs : Chars) → chars rest ≡ cs → chars whole ≡ quoted h.before ++ cs
  at_rest cs e = h.characters ∙ ap (λ ds. quoted h.before ++ ds) e

  pub too_large_text : (cs : Chars) → chars rest ≡ 34 ∷ cs → 4096 < size
      → IsFault fixed (34 ∷ chars whole) at (faults.TooLarge at)
  too_large_text cs e large =
      large_text h.before (chars whole) cs at (at_rest (34 ∷ cs) e) h.contents (subst (λ n. 4096 < n) h.counted large)

  written-size : bytes_of (34 ∷ (quoted h.before ++ 34 ∷ [])) ≡ bytes_of (quoted h.before) + 2
  written-size =
      quote-size (quoted h.before ++ 34 ∷ [])
      ∙ omega (
        arith,
        ap length (encodes-append (quoted h.before) (34 ∷ [])),
        length-append (encode_utf8_all (quoted h.before)) (encode_utf8_all (34 ∷ [])),
        quote-size [],
      )

  pub begins_text : (cs : Chars) (bytes : List ℕ) → chars rest ≡ 34 ∷ cs → size ≤ 4096 → bytes ≡ kept
      → Begins fixed (34 ∷ chars whole) at (record {
        token = tokens.Text bytes;
        start = at;
        end =
            at + 1 + (length whole - length rest) + 1;
      })
  begins_text cs bytes e small same = record {
    front = 34 ∷ (quoted h.before ++ 34 ∷ []);
    rest = cs;
    whole = ap (λ ds. 34 ∷ ds) (at_rest (34 ∷ cs) e ∙ sym (append_assoc (quoted h.before) (34 ∷ []) cs));
    token = subst (λ bs. IsToken fixed (34 ∷ (quoted h.before ++ 34 ∷ [])) cs (tokens.Text bs)) (sym (same
        ∙ h.small small))
        (text h.before (quoted h.before ++ 34 ∷ []) cs refl h.contents (subst (λ n. n ≤ 4096) h.counted small));
    starts = refl;
    ends = omega (arith, read, written-size);
  }

  pub open_text : (chars rest ≡ []) ⊎ ((cs : Chars) × (chars rest ≡ 10 ∷ cs))
      → IsFault fixed (34 ∷ chars whole) at (faults.Unended at)
  open_text (inl e) = unended (chars whole) at (ap (is_closed false) (at_rest [] e) ∙ closed_contents h.before [])
  open_text (inr (cs, e)) = unended (chars whole) at (ap (is_closed false) (at_rest (10 ∷ cs) e)
      ∙ closed_contents h.before (10 ∷ cs))

  inside : (cs : Chars) → chars rest ≡ cs → is_closed false (chars rest) ≡ true → IsInside h.before cs
  inside cs e closed = record {
    contents = h.contents;
    closed = closed_contents h.before cs
        ∙ ap (is_closed false) (sym e) ∙ closed;
  }

  open_rest : is_closed false (chars rest) ≡ false → IsFault fixed (34 ∷ chars whole) at (faults.Unended at)
  open_rest o = unended (chars whole) at (ap (is_closed false) h.characters ∙ closed_contents h.before (chars rest)
      ∙ o)

  place : at + 1 + (length whole - length rest) ≡ at + bytes_of (34 ∷ quoted h.before)
  place = omega (arith, read, quote-size (quoted h.before))

  bad_width_by : (b : Bool) → is_closed false (chars rest) ≡ b → HasNoWidth (chars rest)
      → IsFault fixed (34 ∷ chars whole) at (if b then faults.BadChar (at + 1 + (length whole - length rest)) else faults.Unended at)
  bad_width_by true e n =
      subst (λ p. IsFault fixed (34 ∷ chars whole) at (faults.BadChar p)) (sym place)
      (no_width h.before (chars whole) n.first n.rest at (at_rest _ n.whole) (inside _ n.whole e) n.width)
  bad_width_by false e n = open_rest e

  pub bad_width : (fault : LexFault) → HasNoWidth (chars rest)
      → fault ≡ (if is_closed false (chars rest) then faults.BadChar (at + 1 + (length whole - length rest)) else faults.Unended at)
      → IsFault fixed (34 ∷ chars whole) at fault
  bad_width fault n e = subst (IsFault fixed (34 ∷ chars whole) at) (sym e) (bad_width_by (is_closed false (chars rest)) refl n)

  bad_escape_by : (b : Bool) → is_closed false (chars rest) ≡ b → (cs : Chars) → chars rest ≡ 92 ∷ cs
      → EndsBy is_escape cs
      → IsFault fixed (34 ∷ chars whole) at (if b then faults.BadRun (at + 1 + (length whole - length rest)) else faults.Unended at)
  bad_escape_by true e cs w n =
      subst (λ p. IsFault fixed (34 ∷ chars whole) at (faults.BadRun p)) (sym place)
      (no_escape h.before (chars whole) cs at (at_rest _ w) (inside _ w e) n)
  bad_escape_by false e cs w n = open_rest e

  pub bad_escape : (fault : LexFault) (cs : Chars) → chars rest ≡ 92 ∷ cs → EndsBy is_escape cs
      → fault ≡ (if is_closed false (chars rest) then faults.BadRun (at + 1 + (length whole - length rest)) else faults.Unended at)
      → IsFault fixed (34 ∷ chars whole) at fault
  bad_escape fault cs w n e = subst (IsFault fixed (34 ∷ chars whole) at) (sym e) (bad_escape_by (is_closed false (chars rest)) refl cs w n)
