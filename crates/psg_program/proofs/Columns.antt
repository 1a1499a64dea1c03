-- Lines and columns, character by character.
use Rattle.std.proofs.Common.{◌≡◌, inl, inr, ℕ, ◌+◌, ◌-◌, ◌≤◌, ◌==◌, Bool, true, false, cond, List, [], ◌∷◌, length, refl, sym, ◌∙◌, ap, append-nil, arith, length-append}
use Rattle.std.specs.Prelude.{chars, encode_utf8}
use Rattle.std.proofs.lemmas.Bool.Decides.{eqb_tells}
use Rattle.psg_lexis.specs.Splits.{IsFirst}
use Rattle.psg_lexis.specs.Tokens.{bytes_of}
use Rattle.psg_program.specs.Places.{begun, column_after, line_after, IsAt}

-- before the byte 0 no character begins
pub none_begun : (byte : ℕ) (cs : List ℕ) → (byte == 0) ≡ true → begun byte cs ≡ []
none_begun byte [] e = refl
none_begun byte (c ∷ cs) e = ap (λ b. cond b [] (c ∷ begun (byte - bytes_of (c ∷ [])) cs)) e

one_begun : (byte c : ℕ) (cs : List ℕ) → (byte == 0) ≡ false
    → begun byte (c ∷ cs) ≡ c ∷ begun (byte - bytes_of (c ∷ [])) cs
one_begun byte c cs e = ap (λ b. cond b [] (c ∷ begun (byte - bytes_of (c ∷ [])) cs)) e

size_is : (rest after : List ℕ) (c : ℕ) → IsFirst rest c after → length rest ≡ bytes_of (c ∷ []) + length after
size_is rest after c first =
    ap length first.bytes ∙ length-append (encode_utf8 c) after
    ∙ ap (λ n. n + length after) (ap length (sym (append-nil (encode_utf8 c))))

not_zero : (n : ℕ) → (n ≡ 0 → ⊥) → (n == 0) ≡ false
not_zero n other = elim (eqb_tells n 0) [ inl e ↦ absurd (other e.1) | inr e ↦ e.0 ]

module _ (left next : ℕ) (rest after : List ℕ) (c : ℕ) (first : IsFirst rest c after) (more : left ≡ 0 → ⊥)
    (is : next ≡ left - (length rest - length after)) where
  next_is : next ≡ left - bytes_of (c ∷ [])
  next_is = omega (arith, is, size_is rest after c first)

  begun_is : begun left (chars rest) ≡ c ∷ begun next (chars after)
  begun_is =
      ap (begun left) first.characters ∙ one_begun left c (chars after) (not_zero left more)
      ∙ ap (λ n. c ∷ begun n (chars after)) (sym next_is)

  pub line_step : (line line' : ℕ) → line' ≡ cond (c == 10) (line + 1) line
      → line_after line' (begun next (chars after)) ≡ line_after line (begun left (chars rest))
  line_step line line' e =
      ap (λ n. line_after n (begun next (chars after))) e ∙ ap (line_after line) (sym begun_is)

  pub column_step : (column column' : ℕ) → column' ≡ cond (c == 10) 1 (column + 1)
      → column_after column' (begun next (chars after)) ≡ column_after column (begun left (chars rest))
  column_step column column' e =
      ap (λ n. column_after n (begun next (chars after))) e ∙ ap (column_after column) (sym begun_is)

-- at the end of the walk
module _ (text : List ℕ) (byte left line column : ℕ) (rest : List ℕ)
    (lines : line_after line (begun left (chars rest)) ≡ line_after 1 (begun byte (chars text)))
    (columns : column_after column (begun left (chars rest)) ≡ column_after 1 (begun byte (chars text))) where
  there : begun left (chars rest) ≡ [] → IsAt text byte line column
  there none = record {
    line_is = ap (line_after line) (sym none) ∙ lines;
    column_is = ap (column_after column) (sym none) ∙ columns;
  }

  pub at_byte : (left == 0) ≡ true → IsAt text byte line column
  at_byte e = there (none_begun left (chars rest) e)

  pub at_end : chars rest ≡ [] → IsAt text byte line column
  at_end e = there (ap (begun left) e)

-- ---- bounds

pub line_grows : (b : Bool) (line line' : ℕ) → line' ≡ cond b (line + 1) line → line' ≤ line + 1
line_grows true line line' e = omega (arith, e)
line_grows false line line' e = omega (arith, e)

pub column_grows : (b : Bool) (column column' : ℕ) → column' ≡ cond b 1 (column + 1) → column' ≤ column + 1
column_grows true column column' e = omega (arith, e)
column_grows false column column' e = omega (arith, e)
