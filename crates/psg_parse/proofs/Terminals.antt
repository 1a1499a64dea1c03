-- Words and names by the tests of the code.
use Rattle.std.proofs.Common.{◌≡◌, ℕ, IsTrue, Bool, true, false, ◌&&◌, List, ◌∷◌, refl, sym, ap, ◌∙◌, subst}
use Rattle.std.specs.Prelude.{chars, encode_utf8_all, bytes_eq, IsUtf8}
use Rattle.std.specs.List.{list_all}
use Rattle.std.proofs.lemmas.Bool.{false≢true}
use Rattle.std.proofs.lemmas.Str.{encodes-chars}
use Rattle.psg_terms.proofs.DeclareLaws.{bytes_eq-refl}
use Rattle.psg_terms.specs.Words.{starts_word, goes_on_word, IsWord}
use Rattle.psg_class.specs.Terminals.{a_name, are_word, is_word, word_terminal}
use Rattle.psg_class.proofs.WordForms.{is_word_says}

tested : (a b d : Bool) → a ≡ true → d ≡ true → b ≡ (a && b) && d
tested true true true e f = refl
tested true false true e f = refl
tested false b d e f = absurd (false≢true e)
tested true b false e f = absurd (false≢true f)

pub word_by : (text : List ℕ) (c : ℕ) (rest : List ℕ) → IsUtf8 text → chars text ≡ c ∷ chars rest → starts_word c ≡ true → list_all goes_on_word (chars rest) ≡ is_word text
word_by text c rest u e s =
    tested (starts_word c) (list_all goes_on_word (chars rest)) (bytes_eq (encode_utf8_all (chars text)) text) s (subst (λ x. bytes_eq (encode_utf8_all (chars text)) x ≡ true) (encodes-chars text u) (bytes_eq-refl (encode_utf8_all (chars text))))
    ∙ ap (λ cs. are_word cs && bytes_eq (encode_utf8_all (chars text)) text) (sym e)

named : (text : List ℕ) (word among reserved : Bool) → (IsTrue among → IsTrue reserved) → reserved ≡ false → word ≡ true → a_name ≡ word_terminal text word among
named text true false reserved h r e = refl
named text true true reserved h r e = absurd (false≢true (sym r ∙ h refl))
named text false among reserved h r e = absurd (false≢true e)

pub name_by : (text : List ℕ) (among reserved : Bool) → (IsTrue among × IsWord (chars text) → IsTrue reserved) → reserved ≡ false → is_word text ≡ true → a_name ≡ word_terminal text (is_word text) among
name_by text among reserved h r e = named text (is_word text) among reserved (λ a. h (a, is_word_says text e)) r e
