-- A quoted text is written character by character.
use Rattle.std.proofs.Common.{◌≡◌, ℕ, List, [], ◌∷◌, ◌++◌, ap, sym, ◌∙◌, append_assoc, encode_utf8, encode_utf8_all}
use Rattle.std.specs.List.{flat_map}
use Rattle.std.proofs.lemmas.Grind.{flat_map-append}
use Rattle.std.proofs.lemmas.List.{append-nil}
use Rattle.std.proofs.lemmas.Str.{encodes-append}
use Rattle.psg_lexis.specs.Tokens.{escaped}
use Rattle.psg_lexis.proofs.Escapes.{escaped_char}

-- one more character of a quoted text
pub quoted_more : (start before after ys : List ℕ) (c : ℕ) → before ≡ start ++ flat_map escaped (encode_utf8_all ys)
    → after ≡ before ++ encode_utf8_all (escaped c) → after ≡ start ++ flat_map escaped (encode_utf8_all (ys ++ c ∷ []))
quoted_more start before after ys c b a =
    a ∙ ap (λ x. before ++ x) (sym (escaped_char c)) ∙ ap (λ x. x ++ flat_map escaped (encode_utf8 c)) b ∙ append_assoc start (flat_map escaped (encode_utf8_all ys)) (flat_map escaped (encode_utf8 c))
    ∙ ap (λ x. start ++ x) (sym (flat_map-append escaped (encode_utf8_all ys) (encode_utf8 c)) ∙ ap (flat_map escaped) (ap (λ x. encode_utf8_all ys ++ x) (sym (append-nil (encode_utf8 c))) ∙ sym (encodes-append ys (c ∷ []))))
