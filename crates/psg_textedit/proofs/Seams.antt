-- A text with bytes replaced is what is in front of a node, the node's new region and what is after it.
use Rattle.std.proofs.Common.{◌≡◌, inl, inr, ℕ, zero, suc, ◌-◌, ◌≤◌, List, [], ◌∷◌, ◌++◌, length, take, drop, refl, ap, sym, ◌∙◌, subst, append_assoc, arith}
use Rattle.std.specs.Str.{IsUtf8}
use Rattle.std.proofs.lemmas.Str.{IsUtf8-append, IsUtf8-nil}
use Rattle.std.proofs.lemmas.List.{drop-append-le}
use lib.Utf8.{encode}
use Rattle.std.specs.Prelude.{chars, None}
use Rattle.psg_terms.specs.Names.{Name}
use Rattle.psg_lexis.specs.declared.token.Token.{Token}
use Rattle.psg_unparse.specs.Rows.{Piece, token, mark}
use Rattle.psg_unparse.specs.Layout.{gap, laid, lead, last_in}
use Rattle.psg_unparse.specs.Nodes.{part_of}
use Rattle.psg_unparse.specs.Spaced.{IsGapByte}
use Rattle.psg_unparse.proofs.Lexing.{Blanks, blanks_after, RowTokens, no_pieces, a_mark, a_token}
use Rattle.psg_unparse.proofs.NodesBack.{take_front, drop_front}
use Rattle.psg_textedit.specs.Regions.{Typing, edited, region, Encloses}
use Rattle.psg_unparse.specs.declared.spans.Span.{Span}

-- ---- what is in front, and what is after

take_past : (a x : List ℕ) (n : ℕ) → length a ≤ n → take n (a ++ x) ≡ a ++ take (n - length a) x
take_past [] x n h = ap (λ k. take k x) (let e : n ≡ n - 0 = omega arith in e)
take_past (b ∷ a) x zero h = absurd (omega (arith, h))
take_past (b ∷ a) x (suc n) h =
    let e : n - length a ≡ suc n - length (b ∷ a) = omega arith in
    ap (λ ys. b ∷ ys) (take_past a x n (omega (arith, h)) ∙ ap (λ k. a ++ take k x) e)

drop_size : (w : List ℕ) (n : ℕ) → n ≤ length w → length (drop n w) ≡ length w - n
drop_size [] zero h = refl
drop_size [] (suc n) h = absurd (omega (arith, h))
drop_size (x ∷ w) zero h = let e : length (x ∷ w) ≡ length (x ∷ w) - 0 = omega arith in e
drop_size (x ∷ w) (suc n) h =
    let e : length w - n ≡ length (x ∷ w) - suc n = omega arith in drop_size w n (omega (arith, h)) ∙ e

joined : (a p m q b : List ℕ) → (a ++ p) ++ (m ++ (q ++ b)) ≡ a ++ ((p ++ (m ++ q)) ++ b)
joined a p m q b =
    append_assoc a p (m ++ (q ++ b))
    ∙ ap (λ x. a ++ x) (ap (λ x. p ++ x) (sym (append_assoc m q b)) ∙ sym (append_assoc p (m ++ q) b))

module _ (e : Typing) (s : Span) (text a own b : List ℕ) (is : text ≡ a ++ (own ++ b)) (start : s.start ≡ length a) (end : s.end ≡ length (a ++ own)) (around : Encloses e s) where
  up_to : text ≡ (a ++ own) ++ b
  up_to = is ∙ sym (append_assoc a own b)

  front_part : take e.start text ≡ a ++ part_of s.start e.start text
  front_part =
      let low : length a ≤ e.start = omega (arith, start, around.0) in
      let rest : drop s.start text ≡ own ++ b =
      ap (λ n. drop n text) start ∙ ap (drop (length a)) is ∙ drop_front a (own ++ b) in
      ap (take e.start) is ∙ take_past a (own ++ b) e.start low
      ∙ ap (λ n. a ++ take (e.start - n) (own ++ b)) (sym start)
      ∙ ap (λ x. a ++ take (e.start - s.start) x) (sym rest)

  back_part : drop e.end text ≡ part_of e.end s.end text ++ b
  back_part =
      let high : e.end ≤ length (a ++ own) = omega (arith, end, around.1) in
      let rest : drop e.end text ≡ drop e.end (a ++ own) ++ b = ap (drop e.end) up_to ∙ drop-append-le e.end (a ++ own) b high
      in
      let size : s.end - e.end ≡ length (drop e.end (a ++ own)) =
      ap (λ n. n - e.end) end ∙ sym (drop_size (a ++ own) e.end high) in
      let part : part_of e.end s.end text ≡ drop e.end (a ++ own) =
      ap (λ n. take n (drop e.end text)) size ∙ ap (take (length (drop e.end (a ++ own)))) rest
      ∙ take_front (drop e.end (a ++ own)) b in
      rest ∙ ap (λ x. x ++ b) (sym part)

  pub seam : edited e text ≡ a ++ (region e s text ++ b)
  seam =
      ap (λ x. x ++ (e.new ++ drop e.end text)) front_part
      ∙ ap (λ x. (a ++ part_of s.start e.start text) ++ (e.new ++ x)) back_part
      ∙ joined a (part_of s.start e.start text) e.new (part_of e.end s.end text) b

-- ---- UTF-8

gap_utf8 : (b : ℕ) → IsGapByte b → IsUtf8 (b ∷ [])
unfolding encode
gap_utf8 b (inl e) = subst (λ x. IsUtf8 (x ∷ [])) (sym e) (32 ∷ [], (refl, refl))
gap_utf8 b (inr e) = subst (λ x. IsUtf8 (x ∷ [])) (sym e) (10 ∷ [], (refl, refl))

pub blanks_utf8 : (g : List ℕ) → Blanks g → IsUtf8 g
blanks_utf8 [] h = IsUtf8-nil
blanks_utf8 (b ∷ g) h = IsUtf8-append (b ∷ []) g (gap_utf8 b h.0) (blanks_utf8 g h.1)

pub lead_blanks : (before r : List Piece) → Blanks (lead before r)
lead_blanks before [] = tt
lead_blanks before (token t ∷ r) = blanks_after (last_in None before) before (chars t)
lead_blanks before (mark i ∷ r) = lead_blanks (before ++ mark i ∷ []) r

pub laid_utf8 : (fixed : List Name) (before r : List Piece) (ts : List Token) → RowTokens fixed r ts → IsUtf8 (laid before r)
laid_utf8 fixed before _ _ no_pieces = IsUtf8-nil
laid_utf8 fixed before _ _ (a_mark {i = i} {r = r} {ts = ts} h) = laid_utf8 fixed (before ++ mark i ∷ []) r ts h
laid_utf8 fixed before _ _ (a_token {w = w} {r = r} {ts = ts} x h) =
    IsUtf8-append (gap before w) (w ++ laid (before ++ token w ∷ []) r)
    (blanks_utf8 (gap before w) (blanks_after (last_in None before) before (chars w)))
    (IsUtf8-append w (laid (before ++ token w ∷ []) r) x.utf8 (laid_utf8 fixed (before ++ token w ∷ []) r ts h))
