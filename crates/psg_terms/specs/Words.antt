-- What a word is: a start character or `_`, and then continue characters or `_`, by Unicode's identifier profile.
use Rattle.std.specs.Prelude.{ℕ, ◌≡◌, ◌||◌, ◌==◌, Bool, false, List, [], ◌∷◌, encode_utf8_all, IsTrue}
use Rattle.std.specs.List.{AllByRecursion}
use Rattle.unicode_ident.specs.Ident.{is_xid_start, is_xid_continue}
use Rattle.psg_terms.specs.Names.{Name, is_among}

-- whether a word may begin with the character
abbrev pub starts_word : ℕ → Bool
starts_word c = is_xid_start c || (c == 95)

-- whether a word may have the character after its first
abbrev pub goes_on_word : ℕ → Bool
goes_on_word c = is_xid_continue c || (c == 95)

-- these characters are a word
abbrev pub IsWord : List ℕ → Type 0
IsWord [] = ⊥
IsWord (c ∷ cs) = IsTrue (starts_word c) × AllByRecursion (λ d. IsTrue (goes_on_word d)) cs

-- these bytes are the text of a word that is none of the fixed ones
abbrev pub IsFreeWord : List Name → Name → Type 0
IsFreeWord fixed n = (cs : List ℕ) × (n ≡ encode_utf8_all cs) × IsWord cs × (is_among fixed n ≡ false)
