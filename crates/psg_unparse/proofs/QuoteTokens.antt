-- A text between quotes, as it is written, is one token of its contents.
use Rattle.std.proofs.Common.{◌≡◌, ℕ, ◌≤◌, ◌==◌, true, false, List, [], ◌∷◌, ◌++◌, length, inl, inr, refl, ap, ap₂, sym, ◌∙◌, subst, lit<, eq-eqb}
use Rattle.std.specs.Prelude.{encode_utf8, encode_utf8_all, is_some}
use Rattle.std.specs.Str.{chars, IsUtf8}
use Rattle.std.specs.List.{AllByRecursion, flat_map}
use Rattle.std.proofs.lemmas.Bool.{and_parts, and_from, or_left, or_right}
use Rattle.std.proofs.lemmas.Bool.Decides.{eqb_tells}
use Rattle.std.proofs.lemmas.Grind.{flat_map-append}
use Rattle.std.proofs.lemmas.Str.{encodes-chars, encodes-append, encode_ascii, scalars-chars, chars-encodes}
use lib.Utf8.{scalar, scalars}
use Rattle.unicode_width.specs.Width.{char_width}
use Rattle.psg_terms.specs.Names.{Name}
use Rattle.psg_lexis.specs.Classes.{Chars, All}
use Rattle.psg_lexis.specs.Tokens.{escaped, quoted as quoted_chars, is_content, IsToken, text as a_text}
use Rattle.psg_lexis.proofs.Escapes.{escaped_char}
use Rattle.psg_grammar.specs.Printable.{IsShown}
use Rattle.psg_tree.specs.AbstractText.{quoted as quoted_bytes}
use Rattle.psg_class.specs.Terminals.{quoted}
use Rattle.psg_unparse.proofs.Lexing.{IsTextOf}

-- ---- the bytes of escaped characters

escaped_chars : (cs : Chars) → flat_map escaped (encode_utf8_all cs) ≡ encode_utf8_all (quoted_chars cs)
escaped_chars [] = refl
escaped_chars (c ∷ cs) =
    flat_map-append escaped (encode_utf8 c) (encode_utf8_all cs)
    ∙ ap₂ (λ x y. x ++ y) (escaped_char c) (escaped_chars cs)
    ∙ sym (encodes-append (escaped c) (quoted_chars cs))

-- a quote, the contents and a quote
quoted_whole : (cs : Chars) → encode_utf8_all (34 ∷ (quoted_chars cs ++ 34 ∷ [])) ≡ quoted_bytes (encode_utf8_all cs)
quoted_whole cs =
    ap (λ bs. bs ++ encode_utf8_all (quoted_chars cs ++ 34 ∷ [])) (encode_ascii 34 (lit< tt))
    ∙ ap (λ bs. 34 ∷ bs) (
    encodes-append (quoted_chars cs) (34 ∷ [])
    ∙ ap₂ (λ x y. x ++ y) (sym (escaped_chars cs)) (ap (λ bs. bs ++ []) (encode_ascii 34 (lit< tt)))
    )

-- ---- UTF-8

scalars_quoted : (cs : Chars) → scalars cs ≡ true → scalars (quoted_chars cs ++ 34 ∷ []) ≡ true
scalars_quoted [] h = refl
scalars_quoted (c ∷ cs) h =
    let both = and_parts (scalar c) (scalars cs) h in
    let behind = scalars_quoted cs both.1 in
    elim (eqb_tells c 34) [
      | inl p ↦ rw p.0 behind
      | inr p ↦ elim (eqb_tells c 92) [
        | inl q ↦ rw (p.0, q.0) behind
        | inr q ↦ elim (eqb_tells c 10) [
          | inl r ↦ rw (p.0, q.0, r.0) behind
          | inr r ↦ rw (p.0, q.0, r.0) (and_from (scalar c) _ both.0 behind)
        ]
      ]
    ]

-- ---- the token

shown : (c : ℕ) → IsShown c → is_content c ≡ true
shown c (inl e) = or_left (c == 10) (is_some (char_width false c)) (eq-eqb c 10 e)
shown c (inr w) = or_right (c == 10) (is_some (char_width false c)) w

all_shown : (cs : Chars) → AllByRecursion IsShown cs → All is_content cs
all_shown [] h = tt
all_shown (c ∷ cs) h = (shown c h.0, all_shown cs h.1)

pub quote_text : (known : List Name) (t : List ℕ) → IsUtf8 t → length t ≤ 4096 → AllByRecursion IsShown (chars t)
    → IsTextOf known (quoted_bytes t) (quoted t)
quote_text known t u short printable =
    let cs : Chars = chars t in
    let whole : Chars = 34 ∷ (quoted_chars cs ++ 34 ∷ []) in
    let back : encode_utf8_all cs ≡ t = encodes-chars t u in
    let written : encode_utf8_all whole ≡ quoted_bytes t = quoted_whole cs ∙ ap quoted_bytes back in
    let all : scalars whole ≡ true = scalars_quoted cs (scalars-chars t u) in
    let token : IsToken known whole [] (quoted t) =
    subst (λ v. IsToken known whole [] (quoted v)) back
    (a_text cs (quoted_chars cs ++ 34 ∷ []) [] refl (all_shown cs printable)
    (subst (λ v. length v ≤ 4096) (sym back) short)) in
    record {
      utf8 = (whole, (all, written));
      alone = subst (λ ds. IsToken known ds [] (quoted t)) (sym (chars-encodes whole all) ∙ ap chars written) token;
    }
