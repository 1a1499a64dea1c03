-- A written row has its tokens.
use Rattle.std.proofs.Common.{◌≡◌, inl, inr, ℕ, zero, suc, ◌+◌, ◌*◌, Bool, true, false, cond, ◌&&◌, List, [], ◌∷◌, ◌++◌, length, Option, Some, None, sym, ap, ◌∙◌, subst, refl, append-nil, arith, replicate}
use Rattle.std.specs.Prelude.{map, not}
use Rattle.std.specs.Str.{chars, IsUtf8}
use Rattle.std.specs.List.{AllByRecursion, list_any}
use Rattle.std.proofs.lemmas.Bool.{false≢true, and_from, or_left, or_right}
use Rattle.std.proofs.lemmas.Str.{chars-append, chars-nil}
use lib.Utf8.{encode}
use Rattle.unicode_ident.proofs.Computing.{unicode_ident}
use Rattle.psg_terms.specs.Names.{Name}
use Rattle.psg_terms.specs.Words.{goes_on_word}
use Rattle.psg_lexis.specs.Classes.{Chars, is_blank, is_symbol, Glue}
use Rattle.psg_lexis.specs.Tokens.{bytes_of, IsToken, word, number, text, solo, symbol, hole, more, Begins, HasTokens, nothing, blank, next}
use Rattle.psg_lexis.specs.declared.token.Token.{Token}
use Rattle.psg_lexis.specs.declared.token.Spanned.{Spanned}
use Rattle.psg_lexis.proofs.Joining.{IsApart, joined_tokens}
use Rattle.psg_grammar.specs.declared.types.Item.{Item}
use Rattle.psg_unparse.specs.Rows.{Piece, token, mark}
use Rattle.psg_unparse.specs.Layout.{is_line, is_tight, is_space, gap, gap_after, glues, glues_first, laid, lead, last_in, last_char, marks_behind, open_behind}
use Rattle.psg_unparse.specs.Spaced.{IsGapByte}
use Rattle.psg_unparse.proofs.Rows.{last_in-append, last_char-snoc}

-- ---- what does not glue

pub not_glued : (c d : ℕ) → glues c d ≡ false → Glue c d → ⊥
not_glued c d h (inl (p, q)) =
    false≢true (sym h ∙ or_left (goes_on_word c && goes_on_word d) (is_symbol c && is_symbol d)
    (and_from (goes_on_word c) (goes_on_word d) p q))
not_glued c d h (inr (p, q)) =
    false≢true (sym h ∙ or_right (goes_on_word c && goes_on_word d) (is_symbol c && is_symbol d)
    (and_from (is_symbol c) (is_symbol d) p q))

space_apart : (c : ℕ) → Glue c 32 → ⊥
unfolding unicode_ident
space_apart c (inl (p, q)) = false≢true q
space_apart c (inr (p, q)) = false≢true q

feed_apart : (c : ℕ) → Glue c 10 → ⊥
unfolding unicode_ident
feed_apart c (inl (p, q)) = false≢true q
feed_apart c (inr (p, q)) = false≢true q

pub gap_apart : (c b : ℕ) → IsGapByte b → Glue c b → ⊥
gap_apart c b (inl e) g = space_apart c (subst (Glue c) e g)
gap_apart c b (inr e) g = feed_apart c (subst (Glue c) e g)

-- ---- gaps

abbrev pub Blanks : List ℕ → Type 0
Blanks bs = AllByRecursion IsGapByte bs

spaces : (n : ℕ) → Blanks (replicate n 32)
spaces zero = tt
spaces (suc n) = (inl refl, spaces n)

-- a gap is empty and its characters do not glue, or it is blank
record IsGap (glued : Bool) (bs : List ℕ) : Type 0 where
  blanks : Blanks bs
  empty : bs ≡ [] → glued ≡ false

gap_by : (line tight glued : Bool) (n : ℕ)
    → IsGap glued (cond line (10 ∷ replicate n 32) (cond tight (cond glued (32 ∷ []) []) (32 ∷ [])))
gap_by true tight glued n = record { blanks = (inr refl, spaces n); empty = λ e. absurd (cc) }
gap_by false true true n = record { blanks = (inl refl, tt); empty = λ e. absurd (cc) }
gap_by false true false n = record { blanks = tt; empty = λ e. refl }
gap_by false false glued n = record { blanks = (inl refl, tt); empty = λ e. absurd (cc) }

after_some : (c : ℕ) (before : List Piece) (cs : List ℕ) → IsGap (glues_first c cs) (gap_after (Some c) before cs)
after_some c before cs = gap_by (list_any is_line (marks_behind [] before))
    (list_any is_tight (marks_behind [] before) && not (list_any is_space (marks_behind [] before))) (glues_first c cs)
    (2 * open_behind 0 before)

pub blanks_after : (c : Option ℕ) (before : List Piece) (cs : List ℕ) → Blanks (gap_after c before cs)
blanks_after None before cs = tt
blanks_after (Some c) before cs = (after_some c before cs).blanks

pub chars_gap : (b : ℕ) (bs : List ℕ) → IsGapByte b → chars (b ∷ bs) ≡ b ∷ chars bs
unfolding chars encode
chars_gap b bs (inl e) = subst (λ x. chars (x ∷ bs) ≡ x ∷ chars bs) (sym e)
    (chars-append (32 ∷ []) bs (32 ∷ [], (refl, refl)))
chars_gap b bs (inr e) = subst (λ x. chars (x ∷ bs) ≡ x ∷ chars bs) (sym e)
    (chars-append (10 ∷ []) bs (10 ∷ [], (refl, refl)))

is_blank_gap : (b : ℕ) → IsGapByte b → is_blank b ≡ true
is_blank_gap b (inl e) = ap is_blank e
is_blank_gap b (inr e) = ap is_blank e

-- what a row adds to the text of the row before it, without the gap in front of its first token
abbrev pub bare : List Piece → List Piece → List ℕ
bare before [] = []
bare before (token t ∷ rest) = t ++ laid (before ++ token t ∷ []) rest
bare before (mark i ∷ rest) = bare (before ++ mark i ∷ []) rest

pub lead_and_bare : (before r : List Piece) → laid before r ≡ lead before r ++ bare before r
lead_and_bare before [] = refl
lead_and_bare before (token t ∷ rest) = refl
lead_and_bare before (mark i ∷ rest) = lead_and_bare (before ++ mark i ∷ []) rest

module _ (fixed : List Name) where
  pub skip_gap : (g bs : List ℕ) (at : ℕ) (ss : List Spanned) → Blanks g → HasTokens fixed (chars bs) (at + length g) ss
      → HasTokens fixed (chars (g ++ bs)) at ss
  skip_gap [] bs at ss a h = subst (λ n. HasTokens fixed (chars bs) n ss) (omega arith) h
  skip_gap (b ∷ g) bs at ss a h =
      subst (λ cs. HasTokens fixed cs at ss) (sym (chars_gap b (g ++ bs) a.0))
      (blank b (chars (g ++ bs)) at ss (is_blank_gap b a.0)
      (skip_gap g bs (at + 1) ss a.1 (subst (λ n. HasTokens fixed (chars bs) n ss) (omega arith) h)))

  -- the bytes are those of the token, alone
  pub record IsTextOf (w : List ℕ) (t : Token) : Type 0 where
    pub utf8 : IsUtf8 w
    pub alone : IsToken fixed (chars w) [] t

  -- the tokens of a row
  pub data RowTokens : List Piece → List Token → Type 0 where
    no_pieces : RowTokens [] []
    a_mark : {i : Item} {r : List Piece} {ts : List Token} → RowTokens r ts → RowTokens (mark i ∷ r) ts
    a_token : {w : List ℕ} {t : Token} {r : List Piece} {ts : List Token} → IsTextOf w t → RowTokens r ts
        → RowTokens (token w ∷ r) (t ∷ ts)

  pub some_chars : {cs rest : Chars} {t : Token} → IsToken fixed cs rest t → cs ≡ [] → ⊥
  some_chars (word [] rest w e l) h = w
  some_chars (word (c ∷ cs) rest w e l) h = absurd (cc)
  some_chars (number [] rest r e l) h = false≢true r.begins
  some_chars (number (c ∷ cs) rest r e l) h = absurd (cc)
  some_chars (text cs written rest e a l) h = absurd (cc)
  some_chars (solo c rest s) h = absurd (cc)
  some_chars (symbol [] rest r i d) h = false≢true r.begins
  some_chars (symbol (c ∷ cs) rest r i d) h = absurd (cc)
  some_chars (hole cs rest w e l) h = absurd (cc)
  some_chars (more rest e) h = absurd (cc)

  -- what a row adds does not begin with a character that glues to the last one
  starts_apart : (before : List Piece) (c : ℕ) → last_in None before ≡ Some c → (r : List Piece) (ts : List Token)
      → RowTokens r ts
      → (d : ℕ) (behind : Chars) → chars (laid before r) ≡ d ∷ behind → Glue c d → ⊥
  starts_apart before c e _ _ no_pieces d behind h g = let k : [] ≡ d ∷ behind = sym chars-nil ∙ h in absurd (cc)
  starts_apart before c e _ _ (a_mark {i = i} {r = r} {ts = ts} y) d behind h g =
      starts_apart (before ++ mark i ∷ []) c (last_in-append None before (mark i ∷ []) ∙ e) r ts y d behind h g
  starts_apart before c e _ _ (a_token {w = w} {t = t} {r = r} {ts = ts} x y) d behind h g =
      by_gap (gap_after (Some c) before (chars w)) (after_some c before (chars w))
      (subst (λ l. chars (gap_after l before (chars w) ++ (w ++ laid (before ++ token w ∷ []) r)) ≡ d ∷ behind) e h)
    where
      by_word : (cs : Chars) → chars w ≡ cs → glues_first c cs ≡ false
          → chars (w ++ laid (before ++ token w ∷ []) r) ≡ d ∷ behind → ⊥
      by_word [] k n j = some_chars x.alone k
      by_word (b ∷ cs) k n j =
          let s : b ∷ (cs ++ chars (laid (before ++ token w ∷ []) r)) ≡ d ∷ behind =
          sym (ap (λ z. z ++ chars (laid (before ++ token w ∷ []) r)) k)
          ∙ sym (chars-append w (laid (before ++ token w ∷ []) r) x.utf8) ∙ j in
          let same : b ≡ d = cc in
          not_glued c b n (subst (Glue c) (sym same) g)

      by_gap : (bs : List ℕ) → IsGap (glues_first c (chars w)) bs
          → chars (bs ++ (w ++ laid (before ++ token w ∷ []) r)) ≡ d ∷ behind → ⊥
      by_gap [] a j = by_word (chars w) refl (a.empty refl) j
      by_gap (b ∷ bs) a j =
          let s : b ∷ chars (bs ++ (w ++ laid (before ++ token w ∷ []) r)) ≡ d ∷ behind =
          sym (chars_gap b (bs ++ (w ++ laid (before ++ token w ∷ []) r)) a.blanks.0) ∙ j in
          let same : b ≡ d = cc in
          gap_apart c b a.blanks.0 (subst (Glue c) (sym same) g)

  pub record Lexed (bs : List ℕ) (at : ℕ) (ts : List Token) : Type 0 where
    pub spans : List Spanned
    pub are : HasTokens fixed (chars bs) at spans
    pub tokens : map (λ (s : Spanned). s.token) spans ≡ ts

  -- a token alone, from the byte on
  abbrev pub word_span : Token → List ℕ → ℕ → Spanned
  word_span t w start = record { token = t; start = start; end = start + bytes_of (chars w) }

  -- a token in front of what else a row adds
  pub word_joined : (before r : List Piece) (w : List ℕ) (t : Token) (ts : List Token) → IsTextOf w t → RowTokens r ts
      → (start : ℕ) (ss : List Spanned)
      → HasTokens fixed (chars (laid (before ++ token w ∷ []) r)) (start + bytes_of (chars w)) ss
      → HasTokens fixed (chars (w ++ laid (before ++ token w ∷ []) r)) start (word_span t w start ∷ ss)
  word_joined before r w t ts x y start ss are =
      let all : Begins fixed (chars w) start (word_span t w start) =
      record {
        front = chars w;
        rest = [];
        whole = sym (append-nil (chars w));
        token = x.alone;
        starts = refl;
        ends = refl;
      } in
      let one : HasTokens fixed (chars w) start (word_span t w start ∷ []) =
      next (chars w) start (word_span t w start) [] all (nothing (start + bytes_of (chars w))) in
      let apart : IsApart (chars w) (chars (laid (before ++ token w ∷ []) r)) = record {
        apart = λ front behind c d e k h.
            starts_apart (before ++ token w ∷ []) (last_char 0 (chars w)) (last_in-append None before (token w ∷ [])) r
            ts y d behind k
            (subst (λ z. Glue z d) (sym (ap (last_char 0) e ∙ last_char-snoc 0 front c)) h);
      } in
      let joined : HasTokens fixed (chars w ++ chars (laid (before ++ token w ∷ []) r)) start (word_span t w start ∷ ss) =
      joined_tokens fixed (chars w) start (word_span t w start ∷ []) (chars (laid (before ++ token w ∷ []) r)) ss apart one are
      in
      subst (λ cs. HasTokens fixed cs start (word_span t w start ∷ ss))
      (sym (chars-append w (laid (before ++ token w ∷ []) r) x.utf8)) joined

  word_tokens : (before r : List Piece) (w : List ℕ) (t : Token) (ts : List Token) → IsTextOf w t → RowTokens r ts
      → (start : ℕ) → Lexed (laid (before ++ token w ∷ []) r) (start + bytes_of (chars w)) ts
      → Lexed (w ++ laid (before ++ token w ∷ []) r) start (t ∷ ts)
  word_tokens before r w t ts x y start l = record {
    spans = word_span t w start ∷ l.spans;
    are = word_joined before r w t ts x y start l.spans l.are;
    tokens = ap (λ us. t ∷ us) l.tokens;
  }

  pub no_tokens : (at : ℕ) → Lexed [] at []
  no_tokens at =
      record { spans = []; are = subst (λ cs. HasTokens fixed cs at []) (sym chars-nil) (nothing at); tokens = refl }

  pub laid_tokens : (before r : List Piece) (ts : List Token) → RowTokens r ts → (at : ℕ) → Lexed (laid before r) at ts
  laid_tokens before _ _ no_pieces at = no_tokens at
  laid_tokens before _ _ (a_mark {i = i} {r = r} {ts = ts} y) at = laid_tokens (before ++ mark i ∷ []) r ts y at
  laid_tokens before _ _ (a_token {w = w} {t = t} {r = r} {ts = ts} x y) at =
      let g : List ℕ = gap before w in
      let start : ℕ = at + length g in
      let l : Lexed (w ++ laid (before ++ token w ∷ []) r) start (t ∷ ts) =
      word_tokens before r w t ts x y start
      (laid_tokens (before ++ token w ∷ []) r ts y (start + bytes_of (chars w))) in
      record {
        spans = l.spans;
        are = skip_gap g (w ++ laid (before ++ token w ∷ []) r) at l.spans
            (blanks_after (last_in None before) before (chars w)) l.are;
        tokens = l.tokens;
      }

  -- what a row adds, without the gap in front of its first token, has the same tokens
  pub bare_tokens : (before r : List Piece) (ts : List Token) → RowTokens r ts → (at : ℕ) → Lexed (bare before r) at ts
  bare_tokens before _ _ no_pieces at = no_tokens at
  bare_tokens before _ _ (a_mark {i = i} {r = r} {ts = ts} y) at = bare_tokens (before ++ mark i ∷ []) r ts y at
  bare_tokens before _ _ (a_token {w = w} {t = t} {r = r} {ts = ts} x y) at =
      word_tokens before r w t ts x y at (laid_tokens (before ++ token w ∷ []) r ts y (at + bytes_of (chars w)))
