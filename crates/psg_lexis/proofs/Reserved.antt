-- Which texts are words, and which are among the fixed words.
use Rattle.std.proofs.Common.{◌≡◌, ℕ, Bool, true, false, cond, List, [], ◌∷◌, ◌++◌, length, sym, ap, ◌∙◌, subst, refl, append-nil}
use Rattle.std.specs.Prelude.{bytes_eq, encode_utf8_all, ◌||◌}
use Rattle.std.specs.Str.{chars}
use Rattle.std.proofs.lemmas.Bool.{false≢true}
use Rattle.std.proofs.lemmas.Str.{encodes-chars}
use Rattle.psg_terms.specs.Names.{Name, is_among}
use Rattle.psg_terms.specs.Words.{starts_word, goes_on_word, IsWord}
use Rattle.psg_lexis.specs.Classes.{Chars, All, EndsBy}
use Rattle.psg_lexis.specs.Splits.{IsFirst, IsRun}
use Rattle.psg_lexis.proofs.Runs.{no_chars}

pub among_more : (words : List Name) (m w : Name)
    → is_among (words ++ m ∷ []) w ≡ cond (bytes_eq m w) true (is_among words w)
among_more [] m w = elim (bytes_eq m w) as (λ b. (b || false) ≡ cond b true false) [ true ↦ refl | false ↦ refl ]
among_more (n ∷ words) m w =
    elim (bytes_eq n w) as (λ b. (b || is_among (words ++ m ∷ []) w) ≡ cond (bytes_eq m w) true (b || is_among words w)) [
      | true ↦ elim (bytes_eq m w) as (λ b. true ≡ cond b true true) [ true ↦ refl | false ↦ refl ]
      | false ↦ among_more words m w
    ]

-- a run that takes in all that passes leaves nothing
nothing_left : (test : ℕ → Bool) (front rest : Chars) → All test (front ++ rest) → EndsBy test rest → rest ≡ []
nothing_left test [] [] a e = refl
nothing_left test [] (c ∷ cs) a e = absurd (false≢true (sym e ∙ a.0))
nothing_left test (d ∷ front) rest a e = nothing_left test front rest a.1 e

pub word_if_all : (text after front rest : List ℕ) (c : ℕ) → IsFirst text c after → starts_word c ≡ true
    → IsRun goes_on_word after front rest
    → length rest ≡ 0 → IsWord (chars text)
word_if_all text after front rest c f s r e =
    let same : chars after ≡ chars front = r.characters ∙ ap (λ cs. chars front ++ cs) (no_chars rest e)
    ∙ append-nil (chars front) in
    subst IsWord (sym f.characters) (s, subst (All goes_on_word) (sym same) r.run)

pub all_if_word : (text after front rest : List ℕ) (c : ℕ) → IsFirst text c after
    → IsRun goes_on_word after front rest
    → IsWord (chars text) → length rest ≡ 0
all_if_word text after front rest c f r w =
    let word : IsWord (c ∷ chars after) = subst IsWord f.characters w in
    let none : chars rest ≡ [] = nothing_left goes_on_word (chars front) (chars rest) (subst (All goes_on_word) r.characters word.1) r.ends in
    ap length (sym (encodes-chars rest r.utf8) ∙ ap encode_utf8_all none)
