-- Quoted texts as parts of a line.
use Rattle.std.proofs.Common.{◌≡◌, ◌≢◌, ℕ, ◌+◌, ◌<◌, true, false, suc, List, [], ◌∷◌, ◌++◌, get_or, length, length-append, append_assoc, append-nil, inl, inr, refl, ap, sym, ◌∙◌, subst, arith}
use Rattle.std.specs.Prelude.{chars, encode_utf8, encode_utf8_all, Some, option_map, IsUtf8}
use Rattle.std.proofs.lemmas.Bool.{and_parts, and_from}
use Rattle.std.proofs.lemmas.Bool.Decides.{eqb_tells}
use Rattle.std.proofs.lemmas.Str.{encodes-chars, encodes-append, encode_ascii, chars_from_encodes, scalars-chars, inside_one}
use Rattle.std.specs.Str.{all_scalars}
use lib.Utf8.{scalar}
use Rattle.psg_terms.specs.Names.{Name}
use Rattle.psg_lexis.specs.Classes.{Chars, All}
use Rattle.psg_lexis.specs.Tokens.{bytes_of, is_content, escaped, quoted, IsToken, word, number, text, solo, symbol, hole, more, HasTokens, nothing, next}
use Rattle.psg_lexis.specs.declared.token.Token.{Token}
use Rattle.psg_lexis.specs.declared.token.Token.TheVariants as tokens
use Rattle.psg_lexis.specs.declared.token.Spanned.{Spanned}
use Rattle.psg_deflines.specs.WrittenTrees.{IsQuotable, quoted_part}
use Rattle.psg_deflines.specs.Quotes.{closing, IsTextAlone, IsQuoteOf, HasNoQuote}
use Rattle.psg_deflines.proofs.FixedLaws.{whole-token}
use Rattle.psg_deflines.specs.Only.{IsOnly}

abbrev Chosen : ℕ → Type 0
Chosen b = (b ≢ 34) × (b ≢ 92)

-- bytes that neither close nor escape are passed over
pub closing-passes : (bs rest : List ℕ) (k : ℕ) → ((i : ℕ) → i < length bs → Chosen (get_or bs i 0)) → closing false rest ≡ Some k → closing false (bs ++ rest) ≡ Some (length bs + k)
closing-passes [] rest k h e = e ∙ ap Some (omega arith)
closing-passes (b ∷ bs) rest k h e =
    let here = h 0 (omega arith) in
    elim (eqb_tells b 34) [
      | inl p ↦ absurd (here.0 p.1)
      | inr p ↦ elim (eqb_tells b 92) [
        | inl q ↦ absurd (here.1 q.1)
        | inr q ↦ rw (p.0, q.0) (ap (option_map (λ n. 1 + n)) (closing-passes bs rest k (λ i l. h (suc i) (omega (arith, l))) e) ∙ ap Some (omega arith))
      ]
    ]

encode_plain : (c : ℕ) → c ≢ 34 → c ≢ 92 → (i : ℕ) → i < length (encode_utf8 c) → Chosen (get_or (encode_utf8 c) i 0)
encode_plain c q s i l = (λ e. q (same 34 e (omega arith)), λ e. s (same 92 e (omega arith)))
  where
    same : (d : ℕ) → get_or (encode_utf8 c) i 0 ≡ d → d < 128 → c ≡ d
    same d e small = inside_one c [] (encode_utf8 c) i (sym (append-nil (encode_utf8 c))) l (omega arith) ∙ e

-- one more character, as it is written
closing-character : (c : ℕ) (rest : List ℕ) (k : ℕ) → closing false rest ≡ Some k → closing false (encode_utf8_all (escaped c) ++ rest) ≡ Some (length (encode_utf8_all (escaped c)) + k)
closing-character c rest k e =
    elim (eqb_tells c 34) [
      | inl p ↦ rw p.0 (two 34 (written 34 (omega arith)) refl)
      | inr p ↦ elim (eqb_tells c 92) [
        | inl q ↦ rw (p.0, q.0) (two 92 (written 92 (omega arith)) refl)
        | inr q ↦ elim (eqb_tells c 10) [
          | inl r ↦ rw (p.0, q.0, r.0) (two 110 (written 110 (omega arith)) refl)
          | inr r ↦ rw (p.0, q.0, r.0) (plain p.1 q.1)
        ]
      ]
    ]
  where
    written : (d : ℕ) → d < 128 → encode_utf8_all (92 ∷ d ∷ []) ≡ 92 ∷ d ∷ []
    written d h = ap (λ bs. bs ++ encode_utf8_all (d ∷ [])) (encode_ascii 92 (omega arith)) ∙ ap (λ bs. 92 ∷ bs ++ []) (encode_ascii d h)

    plain : c ≢ 34 → c ≢ 92 → closing false (encode_utf8_all (c ∷ []) ++ rest) ≡ Some (length (encode_utf8_all (c ∷ [])) + k)
    plain p q = subst (λ bs. closing false (bs ++ rest) ≡ Some (length bs + k)) (sym (append-nil (encode_utf8 c))) (closing-passes (encode_utf8 c) rest k (encode_plain c p q) e)

    two : (d : ℕ) → encode_utf8_all (92 ∷ d ∷ []) ≡ 92 ∷ d ∷ [] → closing false (92 ∷ d ∷ rest) ≡ option_map (λ n. 1 + n) (option_map (λ n. 1 + n) (closing false rest)) → closing false (encode_utf8_all (92 ∷ d ∷ []) ++ rest) ≡ Some (length (encode_utf8_all (92 ∷ d ∷ [])) + k)
    two d b s = subst (λ bs. closing false (bs ++ rest) ≡ Some (length bs + k)) (sym b) (s ∙ ap (λ o. option_map (λ n. 1 + n) (option_map (λ n. 1 + n) o)) e ∙ ap Some (omega arith))

pub closing-contents : (cs : Chars) (rest : List ℕ) (k : ℕ) → closing false rest ≡ Some k → closing false (encode_utf8_all (quoted cs) ++ rest) ≡ Some (length (encode_utf8_all (quoted cs)) + k)
closing-contents [] rest k e = e ∙ ap Some (omega arith)
closing-contents (c ∷ cs) rest k e =
    let split : encode_utf8_all (escaped c ++ quoted cs) ≡ encode_utf8_all (escaped c) ++ encode_utf8_all (quoted cs) = encodes-append (escaped c) (quoted cs) in
    let behind = closing-contents cs rest k e in
    subst (λ bs. closing false (bs ++ rest) ≡ Some (length bs + k)) (sym split)
    (ap (closing false) (append_assoc (encode_utf8_all (escaped c)) (encode_utf8_all (quoted cs)) rest)
    ∙ closing-character c (encode_utf8_all (quoted cs) ++ rest) (length (encode_utf8_all (quoted cs)) + k) behind
    ∙ ap Some (omega (arith, length-append (encode_utf8_all (escaped c)) (encode_utf8_all (quoted cs)))))

-- a quoted part is a quote, its contents and a quote
pub quoted-whole : (w : List ℕ) → quoted_part w ≡ 34 ∷ encode_utf8_all (quoted (chars w)) ++ 34 ∷ []
quoted-whole w =
    ap (λ bs. bs ++ encode_utf8_all (quoted (chars w) ++ 34 ∷ [])) (encode_ascii 34 (omega arith))
    ∙ ap (λ bs. 34 ∷ bs) (encodes-append (quoted (chars w)) (34 ∷ []) ∙ ap (λ bs. encode_utf8_all (quoted (chars w)) ++ bs) (ap (λ bs. bs ++ []) (encode_ascii 34 (omega arith))))

-- where a quoted part ends
pub quoted-closes : (body w behind : List ℕ) → 34 ∷ body ≡ quoted_part w ++ behind → (k : ℕ) × (closing false body ≡ Some k) × (length (quoted_part w) ≡ k + 2)
quoted-closes body w behind e =
    let inner = encode_utf8_all (quoted (chars w)) in
    let whole : 34 ∷ body ≡ 34 ∷ ((inner ++ 34 ∷ []) ++ behind) = e ∙ ap (λ p. p ++ behind) (quoted-whole w) in
    let same : body ≡ (inner ++ 34 ∷ []) ++ behind = cc in
    let at : closing false (inner ++ 34 ∷ behind) ≡ Some (length inner + 0) = closing-contents (chars w) (34 ∷ behind) 0 refl in
    (length inner + 0, ap (closing false) (same ∙ append_assoc inner (34 ∷ []) behind) ∙ at, ap length (quoted-whole w) ∙ omega (arith, length-append inner (34 ∷ [])))

-- ---- UTF-8

scalars-quoted : (cs : Chars) → all_scalars cs ≡ true → all_scalars (quoted cs ++ 34 ∷ []) ≡ true
scalars-quoted [] h = refl
scalars-quoted (c ∷ cs) h =
    let both = and_parts (scalar c) (all_scalars cs) h in
    let behind = scalars-quoted cs both.1 in
    elim (eqb_tells c 34) [
      | inl p ↦ rw p.0 behind
      | inr p ↦ elim (eqb_tells c 92) [
        | inl q ↦ rw (p.0, q.0) behind
        | inr q ↦ elim (eqb_tells c 10) [
          | inl r ↦ rw (p.0, q.0, r.0) behind
          | inr r ↦ rw (p.0, q.0, r.0) (and_from (scalar c) _ both.0 behind)
        ]
      ]
    ]

pub quoted-utf8 : (w : List ℕ) → IsUtf8 w → IsUtf8 (quoted_part w)
quoted-utf8 w u = (34 ∷ quoted (chars w) ++ 34 ∷ [], (scalars-quoted (chars w) (scalars-chars w u), refl))

-- ---- the part as a token

-- the token of quoted contents
pub text-token : (w : List ℕ) → IsQuotable w → (part : List ℕ) → quoted_part w ≡ part → IsUtf8 part
    → (found : List Spanned) × HasTokens [] (chars part) 0 found × IsTextAlone found (length part) w
text-token w q part e u =
    let cs = quoted (chars w) ++ 34 ∷ [] in
    let same : 34 ∷ cs ≡ chars part = chars_from_encodes (34 ∷ cs) part u e in
    let t : Token = tokens.Text w in
    let s : Spanned = record { token = t; start = 0; end = 0 + bytes_of (chars part) } in
    let back : encode_utf8_all (chars w) ≡ w = encodes-chars w q.utf8 in
    let token : IsToken [] (34 ∷ cs) [] (tokens.Text (encode_utf8_all (chars w))) = text (chars w) cs [] refl q.contents (omega (arith, ap length back, q.short)) in
    let token2 : IsToken [] (chars part) [] t = subst (λ ds. IsToken [] ds [] t) same (subst (λ v. IsToken [] (34 ∷ cs) [] (tokens.Text v)) back token) in (
      s ∷ [],
      next (chars part) 0 s [] (record { front = chars part; rest = []; whole = sym (append-nil (chars part)); token = token2; starts = refl; ends = refl }) (nothing (0 + bytes_of (chars part))),
      record { token = s; only = refl; starts = refl; ends = omega (arith, ap length (encodes-chars part u)); kind = refl },
    )

-- such a token is a quoted part
contents-of : (cs rest : Chars) (t : Token) → IsToken [] cs rest t → (part w : List ℕ) → IsUtf8 part → IsUtf8 w → cs ≡ chars part → t ≡ tokens.Text w → IsQuoteOf part w
contents-of cs rest t (word ds r k ends size) part w u v e kind = absurd (cc)
contents-of cs rest t (number ds r run ends size) part w u v e kind = absurd (cc)
contents-of cs rest t (text ds written r spelled contents size) part w u v e kind =
    let same : encode_utf8_all ds ≡ w = cc in
    let chars-same : ds ≡ chars w = chars_from_encodes ds w v same in
    record {
      quotable = record { utf8 = v; contents = subst (All is_content) chars-same contents; short = omega (arith, size, ap length same) };
      written = ap (λ xs. encode_utf8_all (34 ∷ quoted xs ++ 34 ∷ [])) (sym chars-same) ∙ ap (λ xs. encode_utf8_all (34 ∷ xs)) (sym spelled) ∙ ap encode_utf8_all e ∙ encodes-chars part u;
    }
contents-of cs rest t (solo c r s) part w u v e kind = absurd (cc)
contents-of cs rest t (symbol ds r run among apart) part w u v e kind = absurd (cc)
contents-of cs rest t (hole ds r k ends size) part w u v e kind = absurd (cc)
contents-of cs rest t (more r ends) part w u v e kind = absurd (cc)

pub quote-from-token : (part w : List ℕ) (found : List Spanned) → IsUtf8 part → IsUtf8 w → HasTokens [] (chars part) 0 found → IsTextAlone found (length part) w → IsQuoteOf part w
quote-from-token part w found u v h one =
    contents-of (chars part) [] one.token.token (whole-token [] (chars part) 0 found h part u refl refl one.token one.only one.starts one.ends) part w u v refl one.kind

-- contents of one token alone are the only ones
pub text-only : (found : List Spanned) (len : ℕ) (v w : List ℕ) → IsTextAlone found len v → IsTextAlone found len w → w ≡ v
text-only found len v w a b = let same : a.token ≡ b.token = cc (a.only, b.only) in let e : tokens.Text w ≡ tokens.Text v = sym b.kind ∙ ap (λ s. s.token) (sym same) ∙ a.kind in cc

-- ---- what the tokens of the part tell

module _ (part text : List ℕ) (fixed : List Name) (same : text ≡ part) (none : fixed ≡ []) (u : IsUtf8 part) where
  to-lexis : (ts : List Spanned) → HasTokens [] (chars part) 0 ts → HasTokens fixed (chars text) 0 ts
  to-lexis ts h = subst (λ f. HasTokens f (chars text) 0 ts) (sym none) (subst (λ t. HasTokens [] (chars t) 0 ts) (sym same) h)

  from-lexis : (ts : List Spanned) → HasTokens fixed (chars text) 0 ts → HasTokens [] (chars part) 0 ts
  from-lexis ts h = subst (λ t. HasTokens [] (chars t) 0 ts) same (subst (λ f. HasTokens f (chars text) 0 ts) none h)

  pub quote-read : (found : List Spanned) (w v : List ℕ) → HasTokens fixed (chars text) 0 found → ((ts : List Spanned) → HasTokens fixed (chars text) 0 ts → found ≡ ts)
      → IsTextAlone found (length part) v → IsUtf8 v → w ≡ v → IsOnly (IsQuoteOf part) w
  quote-read found w v h whole one utf8 e = record {
    is = subst (IsQuoteOf part) (sym e) (quote-from-token part v found u utf8 (from-lexis found h) one);
    only = λ z q.
        let other = text-token z q.quotable part q.written u in
        text-only found (length part) v z one (subst (λ ts. IsTextAlone ts (length part) z) (sym (whole other.0 (to-lexis other.0 other.1))) other.2) ∙ sym e;
  }

  pub quote-none : (found : List Spanned) → ((ts : List Spanned) → HasTokens fixed (chars text) 0 ts → found ≡ ts) → ((v : List ℕ) → IsTextAlone found (length part) v → ⊥) → HasNoQuote part
  quote-none found whole none_alone w q =
      let other = text-token w q.quotable part q.written u in
      none_alone w (subst (λ ts. IsTextAlone ts (length part) w) (sym (whole other.0 (to-lexis other.0 other.1))) other.2)

  pub quote-fault : (P : Type 0) → P → ((ts : List Spanned) → HasTokens fixed (chars text) 0 ts → P → ⊥) → HasNoQuote part
  quote-fault P p whole w q =
      let other = text-token w q.quotable part q.written u in
      whole other.0 (to-lexis other.0 other.1) p

-- no part is one where it is not UTF-8
pub quote-bytes : (part : List ℕ) → (IsUtf8 part → ⊥) → HasNoQuote part
quote-bytes part h w q = h (subst IsUtf8 q.written (quoted-utf8 w q.quotable.utf8))
