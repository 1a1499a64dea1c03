-- Spaced tokens are read as they are.
use Rattle.std.proofs.Common.{◌≡◌, ℕ, ◌+◌, false, List, [], ◌∷◌, ◌++◌, length, Option, Some, sym, ap, ◌∙◌, subst, refl, append-nil}
use Rattle.std.specs.Str.{chars}
use Rattle.std.specs.List.{AllByRecursion}
use Rattle.std.proofs.lemmas.Str.{chars-append, chars-nil}
use Rattle.psg_terms.specs.Names.{Name}
use Rattle.psg_lexis.specs.Classes.{Chars, Glue}
use Rattle.psg_lexis.specs.Tokens.{bytes_of, Begins, HasTokens, nothing, next}
use Rattle.psg_lexis.specs.declared.token.Token.{Token}
use Rattle.psg_lexis.specs.declared.token.Spanned.{Spanned}
use Rattle.psg_lexis.proofs.Joining.{IsApart as IsApartFrom, joined_tokens}
use Rattle.psg_unparse.specs.Rows.{Piece}
use Rattle.psg_unparse.specs.Layout.{glues_first, last_char}
use Rattle.psg_unparse.proofs.Rows.{last_char-snoc}
use Rattle.psg_unparse.proofs.Lexing.{not_glued, some_chars, no_tokens, gap_apart, chars_gap, skip_gap, IsTextOf, RowTokens, no_pieces, a_mark, a_token, Lexed, word_span}
use Rattle.psg_unparse.specs.Spaced.{Put, text_in, IsGapByte, AreSpaced}

module _ (fixed : List Name) where
  -- a token after a gap that keeps it apart does not begin with a character that glues to the last one
  token_apart : (c : ℕ) (w rest : List ℕ) (t : Token) → IsTextOf fixed w t → (bs : List ℕ)
      → AllByRecursion IsGapByte bs → (bs ≡ [] → glues_first c (chars w) ≡ false)
      → (d : ℕ) (behind : Chars) → chars (bs ++ (w ++ rest)) ≡ d ∷ behind → Glue c d → ⊥
  token_apart c w rest t x [] a e d behind j g = by_word (chars w) refl (e refl) j
    where
      by_word : (cs : Chars) → chars w ≡ cs → glues_first c cs ≡ false → chars (w ++ rest) ≡ d ∷ behind → ⊥
      by_word [] k n j = some_chars fixed x.alone k
      by_word (b ∷ cs) k n j =
          let s : b ∷ (cs ++ chars rest) ≡ d ∷ behind =
          sym (ap (λ z. z ++ chars rest) k) ∙ sym (chars-append w rest x.utf8) ∙ j in
          let same : b ≡ d = cc in
          not_glued c b n (subst (Glue c) (sym same) g)
  token_apart c w rest t x (b ∷ bs) a e d behind j g =
      let s : b ∷ chars (bs ++ (w ++ rest)) ≡ d ∷ behind = sym (chars_gap b (bs ++ (w ++ rest)) a.0) ∙ j in
      let same : b ≡ d = cc in
      gap_apart c b a.0 (subst (Glue c) (sym same) g)

  nothing_begins : (puts : List Put) (d : ℕ) (behind : Chars) → puts ≡ [] → chars (text_in puts) ≡ d ∷ behind → ⊥
  nothing_begins puts d behind e h =
      let k : [] ≡ d ∷ behind = sym chars-nil ∙ sym (ap (λ z. chars (text_in z)) e) ∙ h in absurd (cc)

  starts_apart : (c : ℕ) (r : List Piece) (puts : List Put) (ts : List Token) → RowTokens fixed r ts
      → AreSpaced (Some c) r puts → (d : ℕ) (behind : Chars) → chars (text_in puts) ≡ d ∷ behind → Glue c d → ⊥
  starts_apart c _ puts _ no_pieces a d behind h g = nothing_begins puts d behind a h
  starts_apart c _ puts _ (a_mark {r = r} {ts = ts} y) a d behind h g = starts_apart c r puts ts y a d behind h g
  starts_apart c _ [] _ (a_token x y) a d behind h g = absurd a
  starts_apart c _ (p ∷ puts) _ (a_token {w = w} {t = t} x y) a d behind h g =
      token_apart c w (text_in puts) t x p.gap a.1.blanks (λ e. a.1.apart c refl e) d behind
      (subst (λ v. chars (p.gap ++ (v ++ text_in puts)) ≡ d ∷ behind) a.0 h) g

  -- a token in front of more spaced tokens
  word_joined : (w : List ℕ) (r : List Piece) (puts : List Put) (t : Token) (ts : List Token) → IsTextOf fixed w t
      → RowTokens fixed r ts → AreSpaced (Some (last_char 0 (chars w))) r puts → (start : ℕ) (ss : List Spanned)
      → HasTokens fixed (chars (text_in puts)) (start + bytes_of (chars w)) ss
      → HasTokens fixed (chars (w ++ text_in puts)) start (word_span fixed t w start ∷ ss)
  word_joined w r puts t ts x y a start ss are =
      let all : Begins fixed (chars w) start (word_span fixed t w start) =
      record {
        front = chars w;
        rest = [];
        whole = sym (append-nil (chars w));
        token = x.alone;
        starts = refl;
        ends = refl;
      } in
      let one : HasTokens fixed (chars w) start (word_span fixed t w start ∷ []) =
      next (chars w) start (word_span fixed t w start) [] all (nothing (start + bytes_of (chars w))) in
      let apart : IsApartFrom (chars w) (chars (text_in puts)) = record {
        apart = λ front behind c d e k h.
            starts_apart (last_char 0 (chars w)) r puts ts y a d behind k
            (subst (λ z. Glue z d) (sym (ap (last_char 0) e ∙ last_char-snoc 0 front c)) h);
      } in
      let joined : HasTokens fixed (chars w ++ chars (text_in puts)) start (word_span fixed t w start ∷ ss) =
      joined_tokens fixed (chars w) start (word_span fixed t w start ∷ []) (chars (text_in puts)) ss apart one are in
      subst (λ cs. HasTokens fixed cs start (word_span fixed t w start ∷ ss))
      (sym (chars-append w (text_in puts) x.utf8)) joined

  -- the text of spaced tokens has the tokens of the row
  pub spaced_tokens : (c : Option ℕ) (r : List Piece) (puts : List Put) (ts : List Token) → RowTokens fixed r ts
      → AreSpaced c r puts → (at : ℕ) → Lexed fixed (text_in puts) at ts
  spaced_tokens c _ puts _ no_pieces a at = subst (λ z. Lexed fixed (text_in z) at []) (sym a) (no_tokens fixed at)
  spaced_tokens c _ puts _ (a_mark {r = r} {ts = ts} y) a at = spaced_tokens c r puts ts y a at
  spaced_tokens c _ [] _ (a_token x y) a at = absurd a
  spaced_tokens c _ (p ∷ puts) _ (a_token {w = w} {t = t} {r = r} {ts = ts} x y) a at =
      let start : ℕ = at + length p.gap in
      let l : Lexed fixed (text_in puts) (start + bytes_of (chars w)) ts =
      spaced_tokens (Some (last_char 0 (chars w))) r puts ts y a.2 (start + bytes_of (chars w)) in
      let one : HasTokens fixed (chars (w ++ text_in puts)) start (word_span fixed t w start ∷ l.spans) =
      word_joined w r puts t ts x y a.2 start l.spans l.are in
      let whole : Lexed fixed (p.gap ++ (w ++ text_in puts)) at (t ∷ ts) =
      record {
        spans = word_span fixed t w start ∷ l.spans;
        are = skip_gap fixed p.gap (w ++ text_in puts) at (word_span fixed t w start ∷ l.spans) a.1.blanks one;
        tokens = ap (λ us. t ∷ us) l.tokens;
      } in
      subst (λ v. Lexed fixed (p.gap ++ (v ++ text_in puts)) at (t ∷ ts)) (sym a.0) whole
