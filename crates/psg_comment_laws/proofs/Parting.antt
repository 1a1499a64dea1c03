-- A text with tokens is gaps and tokens, and blanks at its end.
use Rattle.std.proofs.Common.{◌≡◌, ℕ, ◌+◌, true, cond, List, [], ◌∷◌, ◌++◌, length, sym, ap, ◌∙◌, subst, refl, append_assoc, append-nil, arith, length-append}
use Rattle.std.specs.Prelude.{encode_utf8_all, count_by, IsTrue}
use Rattle.std.specs.Str.{all_scalars}
use Rattle.std.specs.List.{AllByRecursion}
use Rattle.std.proofs.lemmas.Bool.{and_parts}
use Rattle.std.proofs.lemmas.List.Sums.{sum_by-cons}
use Rattle.std.proofs.lemmas.Str.{encodes-append, encode_ascii}
use lib.Utf8.{scalar}
use Rattle.psg_terms.specs.Names.{Name}
use Rattle.psg_lexis.specs.Classes.{Chars, is_blank}
use Rattle.psg_lexis.specs.Tokens.{bytes_of, IsToken, HasTokens, nothing, blank, next}
use Rattle.psg_lexis.specs.declared.token.Token.{Token}
use Rattle.psg_lexis.specs.declared.token.Spanned.{Spanned}
use Rattle.psg_lexis.proofs.Walk.{blank-small}
use Rattle.psg_commented.specs.Noting.{counts, is_counted}
use Rattle.psg_comment_laws.proofs.Saying.{scalars_front, scalars_rest}

-- a token, and the blanks before it
pub record Part : Type 0 where
  pub gap : List ℕ
  pub front : Chars
  pub token : Token

abbrev pub part_chars : List Part → Chars → Chars
part_chars [] tail = tail
part_chars (p ∷ ps) tail = p.gap ++ (p.front ++ part_chars ps tail)

abbrev pub part_bytes : List Part → List ℕ → List ℕ
part_bytes [] tail = tail
part_bytes (p ∷ ps) tail = p.gap ++ (encode_utf8_all p.front ++ part_bytes ps tail)

abbrev pub part_span : ℕ → Part → Spanned
part_span from p =
    record { token = p.token; start = from + length p.gap; end = from + length p.gap + bytes_of p.front }

abbrev pub spans_of : ℕ → List Part → List Spanned
spans_of from [] = []
spans_of from (p ∷ ps) = part_span from p ∷ spans_of (from + length p.gap + bytes_of p.front) ps

abbrev pub counted : List Part → ℕ
counted [] = 0
counted (p ∷ ps) = cond (is_counted p.token) 1 0 + counted ps

pub counted_is : (ps : List Part) (from : ℕ) → count_by counts (spans_of from ps) ≡ counted ps
counted_is [] from = refl
counted_is (p ∷ ps) from =
    sum_by-cons (λ t. cond (counts t) 1 0) (part_span from p) (spans_of (from + length p.gap + bytes_of p.front) ps)
    ∙ ap (λ n. cond (is_counted p.token) 1 0 + n) (counted_is ps (from + length p.gap + bytes_of p.front))

abbrev pub AreBlank : List ℕ → Type 0
AreBlank bs = AllByRecursion (λ c. IsTrue (is_blank c)) bs

blanks_push : (bs : List ℕ) (c : ℕ) → AreBlank bs → IsTrue (is_blank c) → AreBlank (bs ++ c ∷ [])
blanks_push [] c a h = (h, tt)
blanks_push (b ∷ bs) c a h = (a.0, blanks_push bs c a.1 h)

blank_encoded : (bs : List ℕ) → AreBlank bs → encode_utf8_all bs ≡ bs
blank_encoded [] a = refl
blank_encoded (b ∷ bs) a =
    ap (λ l. l ++ encode_utf8_all bs) (encode_ascii b (blank-small b a.0)) ∙ ap (λ l. b ∷ l) (blank_encoded bs a.1)

module _ (fixed : List Name) where
  pub record IsPart (p : Part) (rest : Chars) : Type 0 where
    pub blanks : AreBlank p.gap
    pub scalars : all_scalars p.front ≡ true
    pub is : IsToken fixed p.front rest p.token

  abbrev pub AreParts : List Part → Chars → Type 0
  AreParts [] tail = AreBlank tail
  AreParts (p ∷ ps) tail = IsPart p (part_chars ps tail) × AreParts ps tail

  -- the blanks and the characters are such parts, from the byte `from` on
  pub record IsParted (gap cs : Chars) (from : ℕ) (us : List Spanned) : Type 0 where
    pub parts : List Part
    pub tail : Chars
    pub chars : gap ++ cs ≡ part_chars parts tail
    pub spans : us ≡ spans_of from parts
    pub good : AreParts parts tail

  pub parted : (cs : Chars) (at : ℕ) (us : List Spanned) → HasTokens fixed cs at us → all_scalars cs ≡ true
      → (gap : List ℕ) (from : ℕ) → AreBlank gap → at ≡ from + length gap → IsParted gap cs from us
  parted _ _ _ (nothing at) s gap from a e = record {
    parts = [];
    tail = gap;
    chars = append-nil gap;
    spans = refl;
    good = a;
  }
  parted _ _ _ (blank c cs at us h k) s gap from a e =
      let r : IsParted (gap ++ c ∷ []) cs from us =
      parted cs (at + 1) us k (and_parts (scalar c) (all_scalars cs) s).1 (gap ++ c ∷ []) from (blanks_push gap c a h)
      (omega (arith, e, length-append gap (c ∷ []))) in
      record {
        parts = r.parts;
        tail = r.tail;
        chars = sym (append_assoc gap (c ∷ []) cs) ∙ r.chars;
        spans = r.spans;
        good = r.good;
      }
  parted _ _ _ (next all at t us b k) s gap from a e =
      let known : all_scalars (b.front ++ b.rest) ≡ true = subst (λ cs. all_scalars cs ≡ true) b.whole s in
      let zero : t.end ≡ t.end + 0 = omega arith in
      let r : IsParted [] b.rest t.end us =
      parted b.rest t.end us k (scalars_rest b.front b.rest known) [] t.end tt zero in
      let starts : t.start ≡ from + length gap = b.starts ∙ e in
      let ends : t.end ≡ from + length gap + bytes_of b.front = b.ends ∙ ap (λ n. n + bytes_of b.front) e in
      record {
        parts = record { gap = gap; front = b.front; token = t.token } ∷ r.parts;
        tail = r.tail;
        chars = ap (λ l. gap ++ l) (b.whole ∙ ap (λ l. b.front ++ l) r.chars);
        spans = λ i. record { token = t.token; start = starts i; end = ends i } ∷ (r.spans ∙ ap (λ n. spans_of n r.parts) ends) i;
        good = (
          record {
            blanks = a;
            scalars = scalars_front b.front b.rest known;
            is = subst (λ rest. IsToken fixed b.front rest t.token) r.chars b.token;
          },
          r.good,
        );
      }

  pub parts_encoded : (ps : List Part) (tail : Chars) → AreParts ps tail
      → encode_utf8_all (part_chars ps tail) ≡ part_bytes ps tail
  parts_encoded [] tail g = blank_encoded tail g
  parts_encoded (p ∷ ps) tail g =
      encodes-append p.gap (p.front ++ part_chars ps tail)
      ∙ ap (λ l. l ++ encode_utf8_all (p.front ++ part_chars ps tail)) (blank_encoded p.gap g.0.blanks)
      ∙ ap (λ l. p.gap ++ l) (encodes-append p.front (part_chars ps tail) ∙ ap (λ l. encode_utf8_all p.front ++ l) (parts_encoded ps tail g.1))
