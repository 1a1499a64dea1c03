-- A quoted part is written character by character.
use Rattle.std.proofs.Common.{◌≡◌, ℕ, List, [], ◌∷◌, ◌++◌, ap, sym, ◌∙◌, arith, append_assoc, append-nil, encode_utf8_all}
use Rattle.std.proofs.lemmas.Str.{encodes-append, encode_ascii}
use Rattle.psg_lexis.specs.Tokens.{escaped, quoted}

quoted-snoc : (ys : List ℕ) (c : ℕ) → quoted (ys ++ c ∷ []) ≡ quoted ys ++ escaped c
quoted-snoc [] c = append-nil (escaped c)
quoted-snoc (y ∷ ys) c = ap (λ t. escaped y ++ t) (quoted-snoc ys c) ∙ sym (append_assoc (escaped y) (quoted ys) (escaped c))

pub quoted-more : (start before after ys : List ℕ) (c : ℕ) → before ≡ start ++ encode_utf8_all (quoted ys)
    → after ≡ before ++ encode_utf8_all (escaped c) → after ≡ start ++ encode_utf8_all (quoted (ys ++ c ∷ []))
quoted-more start before after ys c b a =
    a ∙ ap (λ x. x ++ encode_utf8_all (escaped c)) b ∙ append_assoc start (encode_utf8_all (quoted ys)) (encode_utf8_all (escaped c))
    ∙ ap (λ x. start ++ x) (sym (encodes-append (quoted ys) (escaped c)) ∙ ap encode_utf8_all (sym (quoted-snoc ys c)))

quote-one : encode_utf8_all (34 ∷ []) ≡ 34 ∷ []
quote-one = ap (λ t. t ++ []) (encode_ascii 34 (omega arith))

quote-first : (cs : List ℕ) → encode_utf8_all (34 ∷ cs) ≡ 34 ∷ encode_utf8_all cs
quote-first cs = ap (λ t. t ++ encode_utf8_all cs) (encode_ascii 34 (omega arith))

pub quoted-closed : (cs : List ℕ) → encode_utf8_all (34 ∷ (quoted cs ++ 34 ∷ [])) ≡ 34 ∷ (encode_utf8_all (quoted cs) ++ 34 ∷ [])
quoted-closed cs =
    quote-first (quoted cs ++ 34 ∷ [])
    ∙ ap (λ t. 34 ∷ t) (encodes-append (quoted cs) (34 ∷ []) ∙ ap (λ t. encode_utf8_all (quoted cs) ++ t) quote-one)

pub quoted-end : (old start before after cs : List ℕ) → start ≡ old ++ 34 ∷ [] → before ≡ start ++ encode_utf8_all (quoted cs)
    → after ≡ before ++ 34 ∷ [] → after ≡ old ++ encode_utf8_all (34 ∷ (quoted cs ++ 34 ∷ []))
quoted-end old start before after cs s b a =
    let text : List ℕ = encode_utf8_all (quoted cs) in
    a ∙ ap (λ t. t ++ 34 ∷ []) (b ∙ ap (λ t. t ++ text) s) ∙ append_assoc (old ++ 34 ∷ []) text (34 ∷ [])
    ∙ append_assoc old (34 ∷ []) (text ++ 34 ∷ []) ∙ ap (λ t. old ++ t) (sym (quoted-closed cs))
