-- The numbers of terminals: names, numbers, texts, the placeholders of the phyla, `...`, and then the fixed words in
-- the order in which they were met.
use Rattle.std.specs.Prelude.{ℕ, suc, ◌≡◌, ◌+◌, ◌-◌, ◌==◌, nat_lt, Bool, true, false, cond, List, [], ◌∷◌}
use Rattle.std.specs.Prelude.{length, map, Option, Some, None, option_map, bytes_eq, codes, slice_get}
use Rattle.std.specs.Cmp.Lexicographic.{slice_cmp}
use Rattle.std.specs.Ordering.{nat_cmp, is_lt}
use Rattle.std.specs.HashMap.{get_by_text}
use Rattle.psg_terms.specs.Names.{Name, is_among}
use Rattle.psg_grammar.specs.declared.types.Phylum.{Phylum}
use Rattle.psg_grammar.specs.declared.types.Definition.{Definition}
use Rattle.psg_grammar.specs.WellFormed.{fixed_words}
use Rattle.psg_class.specs.Terminals.{Terminal, fixed, a_name, a_number, a_text, a_hole, a_more, stray}
use Rattle.psg_class.specs.declared.vocabulary.Vocabulary.{Vocabulary}

-- the first place at which the word is
abbrev pub place_in : List Name → Name → Option ℕ
place_in [] w = None
place_in (v ∷ vs) w = cond (bytes_eq v w) (Some 0) (option_map (λ k. suc k) (place_in vs w))

abbrev pub phylum_names : Definition → List Name
phylum_names def = map (λ (p : Phylum). p.name) def.phyla

-- the number of a fixed word, where those of words begin at the base
abbrev pub word_number : ℕ → List Name → Name → Option ℕ
word_number base words w = option_map (λ k. base + k) (place_in words w)

-- the map has the number of each word
abbrev pub IsConsistent : Vocabulary → Type 0
IsConsistent v = (w : Name) → get_by_text v.numbers w ≡ word_number v.base v.words.items w

-- The number of a terminal. A placeholder of no phylum, a word that is not among the words and a stray token have none.
abbrev pub number_of : Definition → List Name → Terminal → Option ℕ
number_of def words a_name = Some 0
number_of def words a_number = Some 1
number_of def words a_text = Some 2
number_of def words (a_hole n) = option_map (λ p. 3 + p) (place_in (phylum_names def) n)
number_of def words a_more = Some (length def.phyla + 3)
number_of def words (fixed w) = word_number (length def.phyla + 4) words w
number_of def words stray = None

-- no word is lost
abbrev pub KeepsWords : Vocabulary → Vocabulary → Type 0
KeepsWords old new = (w : Name) → is_among old.words.items w ≡ true → is_among new.words.items w ≡ true

pub record Grown (old new : Vocabulary) : Type 0 where
  pub base : new.base ≡ old.base
  pub consistent : IsConsistent new
  pub keeps : KeepsWords old new

-- each of the words is there
abbrev pub HasWords : Vocabulary → List Name → Type 0
HasWords v ws = (w : Name) → is_among ws w ≡ true → is_among v.words.items w ≡ true

pub record IsVocabulary (def : Definition) (v : Vocabulary) : Type 0 where
  pub base : v.base ≡ length def.phyla + 4
  pub consistent : IsConsistent v
  pub words : HasWords v (fixed_words def)
  pub opening : is_among v.words.items (codes "(") ≡ true
  pub closing : is_among v.words.items (codes ")") ≡ true

-- the word of a number, if it is that of a word
abbrev pub word_at : ℕ → List Name → ℕ → Option Name
word_at base words k = cond (nat_lt k base) None (slice_get words (k - base))

-- two words by their bytes, and a word before what is no word; else as the last argument says
abbrev pub words_before : Option Name → Option Name → Bool → Bool
words_before (Some v) (Some w) below = is_lt (slice_cmp nat_cmp v w)
words_before (Some v) None below = true
words_before None (Some w) below = false
words_before None None below = below

-- words are first, by their bytes, and then all others by number
abbrev pub is_number_before : ℕ → List Name → ℕ → ℕ → Bool
is_number_before base words k m = words_before (word_at base words k) (word_at base words m) (nat_lt k m)

-- ---- how a number's terminal is written

abbrev pub hole_text : Option Phylum → List ℕ
hole_text None = codes "..."
hole_text (Some p) = 63 ∷ p.name

abbrev pub other_text : List Phylum → ℕ → List ℕ
other_text phyla k = cond (k == 0) (codes "name")
    (cond (k == 1) (codes "number") (cond (k == 2) (codes "text") (hole_text (slice_get phyla (k - 3)))))

abbrev pub text_or : Option Name → List ℕ → List ℕ
text_or None other = other
text_or (Some w) other = w

-- a fixed word as it is, and else `name`, `number`, `text`, a placeholder as `?P`, or `...`
abbrev pub number_text : ℕ → List Name → List Phylum → ℕ → List ℕ
number_text base words phyla k = text_or (word_at base words k) (other_text phyla k)
