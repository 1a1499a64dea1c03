-- No token of a written row is across the end of one of its parts, nor across the gap behind it.
use Rattle.std.proofs.Common.{◌≡◌, ℕ, ◌+◌, ◌≤◌, List, [], ◌∷◌, ◌++◌, length, length-append, ap, sym, ◌∙◌, subst, append_assoc, append-nil, arith}
use Rattle.std.specs.Str.{chars}
use Rattle.std.specs.List.{AllByRecursion}
use Rattle.std.specs.Prelude.{None}
use Rattle.std.proofs.lemmas.Str.{encodes-chars}
use Rattle.psg_terms.specs.Names.{Name}
use Rattle.psg_lexis.specs.Classes.{Chars}
use Rattle.psg_lexis.specs.Tokens.{bytes_of, HasTokens, nothing, blank, next}
use Rattle.psg_lexis.specs.declared.token.Token.{Token}
use Rattle.psg_lexis.specs.declared.token.Spanned.{Spanned}
use Rattle.psg_unparse.specs.Rows.{Piece, token, mark}
use Rattle.psg_unparse.specs.Layout.{gap, laid, lead, last_in}
use Rattle.psg_unparse.proofs.Lexing.{RowTokens, a_mark, a_token, Blanks, bare, bare_tokens, blanks_after, lead_and_bare, skip_gap, word_joined, word_span}

-- the lead of a row is no longer where more is behind it
pub lead_longer : (before r more : List Piece) → length (lead before r) ≤ length (lead before (r ++ more))
lead_longer before [] more = omega arith
lead_longer before (token t ∷ r) more = omega arith
lead_longer before (mark i ∷ r) more = lead_longer (before ++ mark i ∷ []) r more

lead_gap : (before r : List Piece) → Blanks (lead before r)
lead_gap before [] = tt
lead_gap before (token t ∷ r) = blanks_after (last_in None before) before (chars t)
lead_gap before (mark i ∷ r) = lead_gap (before ++ mark i ∷ []) r

later : (m n : ℕ) → m ≤ n → (ts : List Spanned) → AllByRecursion (λ (t : Spanned). n ≤ t.start) ts
    → AllByRecursion (λ (t : Spanned). m ≤ t.start) ts
later m n h [] a = tt
later m n h (t ∷ ts) a = (omega (arith, h, a.0), later m n h ts a.1)

module _ (fixed : List Name) where
  -- no token of a text begins in front of it
  pub starts_within : (cs : Chars) (at : ℕ) (ts : List Spanned) → HasTokens fixed cs at ts
      → AllByRecursion (λ (t : Spanned). at ≤ t.start) ts
  starts_within _ _ _ (nothing at) = tt
  starts_within _ _ _ (blank c cs at ts h k) = later at (at + 1) (omega arith) ts (starts_within cs (at + 1) ts k)
  starts_within _ _ _ (next all at s ts b k) =
      (omega (arith, b.starts), later at s.end (omega (arith, b.ends)) ts (starts_within b.rest s.end ts k))

  -- tokens up to a border, and tokens from a place on
  pub record Sides (bs : List ℕ) (at border start : ℕ) : Type 0 where
    pub front : List Spanned
    pub back : List Spanned
    pub are : HasTokens fixed (chars bs) at (front ++ back)
    pub ends : AllByRecursion (λ (t : Spanned). t.end ≤ border) front
    pub starts : AllByRecursion (λ (t : Spanned). start ≤ t.start) back

  pub row_sides : (before r more : List Piece) (ts : List Token) → RowTokens fixed (r ++ more) ts → (at : ℕ)
      → Sides (laid before (r ++ more)) at (at + length (laid before r))
      (at + length (laid before r) + length (lead (before ++ r) more))
  row_sides before [] more ts h at =
      let l = bare_tokens fixed before more ts h (at + length (lead before more)) in
      record {
        front = [];
        back = l.spans;
        are = subst (λ bs. HasTokens fixed (chars bs) at l.spans) (sym (lead_and_bare before more))
            (skip_gap fixed (lead before more) (bare before more) at l.spans (lead_gap before more) l.are);
        ends = tt;
        starts = later (at + 0 + length (lead (before ++ []) more)) (at + length (lead before more))
            (omega (arith, ap (λ x. length (lead x more)) (append-nil before))) l.spans
            (starts_within (chars (bare before more)) (at + length (lead before more)) l.spans l.are);
      }
  row_sides before (mark i ∷ r) more _ (a_mark {ts = ts} h) at =
      let s = row_sides (before ++ mark i ∷ []) r more ts h at in
      record {
        front = s.front;
        back = s.back;
        are = s.are;
        ends = s.ends;
        starts = subst (λ x. AllByRecursion (λ (t : Spanned). at + length (laid (before ++ mark i ∷ []) r) + length (lead x more) ≤ t.start) s.back)
            (append_assoc before (mark i ∷ []) r) s.starts;
      }
  row_sides before (token w ∷ r) more _ (a_token {t = t} {ts = ts} x h) at =
      let g : List ℕ = gap before w in
      let start : ℕ = at + length g in
      let rest : List ℕ = laid (before ++ token w ∷ []) (r ++ more) in
      let s = row_sides (before ++ token w ∷ []) r more ts h (start + bytes_of (chars w)) in
      let size : bytes_of (chars w) ≡ length w = ap length (encodes-chars w x.utf8) in
      let all : length (laid before (token w ∷ r)) ≡ length g + (length w + length (laid (before ++ token w ∷ []) r)) =
      length-append g (w ++ laid (before ++ token w ∷ []) r) ∙ ap (λ n. length g + n) (length-append w (laid (before ++ token w ∷ []) r)) in
      let border : start + bytes_of (chars w) + length (laid (before ++ token w ∷ []) r) ≡ at + length (laid before (token w ∷ r)) =
      omega (arith, size, all) in
      record {
        front = word_span fixed t w start ∷ s.front;
        back = s.back;
        are = skip_gap fixed g (w ++ rest) at (word_span fixed t w start ∷ (s.front ++ s.back))
            (blanks_after (last_in None before) before (chars w))
            (word_joined fixed before (r ++ more) w t ts x h start (s.front ++ s.back) s.are);
        ends = (
          omega (arith, border),
          subst (λ n. AllByRecursion (λ (u : Spanned). u.end ≤ n) s.front) border s.ends,
        );
        starts = subst (λ n. AllByRecursion (λ (u : Spanned). n + length (lead (before ++ token w ∷ r) more) ≤ u.start) s.back) border
            (subst (λ y. AllByRecursion (λ (u : Spanned). start + bytes_of (chars w) + length (laid (before ++ token w ∷ []) r) + length (lead y more) ≤ u.start) s.back)
            (append_assoc before (token w ∷ []) r) s.starts);
      }
