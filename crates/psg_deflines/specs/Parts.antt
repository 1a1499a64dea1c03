-- What a part of a line is, and what a text begins with.
use Rattle.std.specs.Prelude.{ℕ, ◌≡◌, ◌<◌, ◌≤◌, ◌&&◌, ◌||◌, ◌==◌, Bool, true, false, cond, List, [], ◌∷◌, ◌++◌, length}
use Rattle.std.specs.Prelude.{take, drop, codes}
use Rattle.std.specs.List.{AllByRecursion, list_all, list_any}
use Rattle.std.specs.Borrow.{Bor}
use Rattle.psg_grammar.specs.Sound.{is_lower, is_digit}
use Rattle.psg_deflines.specs.WrittenTerms.{is_plain}
use Rattle.psg_deflines.specs.WrittenTrees.{IsQuotable, quoted_part}
use Rattle.psg_deflines.specs.Written.{IsWritten, goes_on_word, ends_word, begins_word}

-- a character that is a part by itself
abbrev pub is_mark : ℕ → Bool
is_mark c = list_any (λ d. c == d) (codes ":=(),[]|")

-- a question mark is before a variable, a dollar sign before a specimen's name
abbrev pub is_sigil : ℕ → Bool
is_sigil c = (c == 63) || (c == 36)

-- what goes on after a sigil
abbrev pub goes_behind : ℕ → ℕ → Bool
goes_behind sigil c = cond (sigil == 63) (is_plain c) (is_lower c || is_digit c)

-- a run of letters, digits, `_` and `@`
abbrev pub IsWordPart : List ℕ → Type 0
IsWordPart part = (0 < length part) × (list_all goes_on_word part ≡ true)

-- a mark
pub record IsMarkPart (part : List ℕ) : Type 0 where
  pub mark : ℕ
  pub whole : part ≡ mark ∷ []
  pub is : is_mark mark ≡ true

-- a sigil and a name of one character or more
pub record IsSigilPart (part : List ℕ) : Type 0 where
  pub sigil : ℕ
  pub name : List ℕ
  pub whole : part ≡ sigil ∷ name
  pub is : is_sigil sigil ≡ true
  pub long : 0 < length name
  pub run : list_all (goes_behind sigil) name ≡ true

-- a quoted text
pub record IsQuotedPart (part : List ℕ) : Type 0 where
  pub contents : List ℕ
  pub whole : part ≡ quoted_part contents
  pub is : IsQuotable contents

-- a run of letters, digits, `_` and `@`; a mark; a name after its sigil; or a quoted text
pub data IsPart (part : List ℕ) : Type 0 where
  a_word : IsWordPart part → IsPart part
  a_mark : IsMarkPart part → IsPart part
  a_sigil : IsSigilPart part → IsPart part
  a_quoted : IsQuotedPart part → IsPart part

-- what follows the part does not go on with it
abbrev pub IsApart : List ℕ → List ℕ → Type 0
IsApart part behind = (ends_word part && begins_word behind) ≡ false

-- the first n bytes of the text are its first part, and can be nothing else
pub record IsFirst (text : List ℕ) (n : ℕ) : Type 0 where
  pub fits : n ≤ length text
  pub part : IsPart (take n text)
  pub apart : IsApart (take n text) (drop n text)
  pub only : (part behind : List ℕ) → IsPart part → text ≡ part ++ behind → IsApart part behind → part ≡ take n text

-- the text begins with no part
abbrev pub HasNoFirst : List ℕ → Type 0
HasNoFirst text = (part behind : List ℕ) → IsPart part → text ≡ part ++ behind → IsApart part behind → ⊥

-- the line has these parts
pub record HasParts (line : List ℕ) (parts : List (List ℕ)) : Type 0 where
  pub each : AllByRecursion IsPart parts
  pub written : IsWritten parts line

-- the line has no parts
abbrev pub HasNoParts : List ℕ → Type 0
HasNoParts line = (parts : List (List ℕ)) → HasParts line parts → ⊥

-- The parts of the text are the part and those of the rest.
pub record IsSplit (text part rest : List ℕ) : Type 0 where
  pub shorter : length rest < length text
  pub sound : (parts : List (List ℕ)) → HasParts rest parts → HasParts text (part ∷ parts)
  pub complete : (whole : List (List ℕ)) → HasParts text whole → (parts : List (List ℕ)) × (whole ≡ part ∷ parts)
      × HasParts rest parts

-- what slices hold
abbrev pub texts : List (Bor (List ℕ)) → List (List ℕ)
texts [] = []
texts (t ∷ rest) = t.now ∷ texts rest
