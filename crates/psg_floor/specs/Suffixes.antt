-- What is known of the suffixes of a list.
use Rattle.std.specs.Prelude.{ℕ, ◌≡◌, false, List, [], ◌∷◌, ◌++◌, length}
use Rattle.psg_grammar.specs.Keys.{in_order}
use Rattle.psg_scope.specs.declared.header.NameCol.{NameCol}
use Rattle.psg_scope.specs.declared.header.Header.{Header}
use Rattle.psg_scope.specs.Headers.{declared_keys, IsHeader, keys}
use Rattle.psg_floor.specs.declared.suffixes.Suffix.{Suffix}

-- the header of a finished region with these positions alone
abbrev pub IsHeaderOf : List NameCol → Header → Type 0
IsHeaderOf positions h = IsHeader (keys positions) (declared_keys positions) (λ _. false) h

-- the positions of all elements, in order
abbrev pub all_positions : List (List NameCol) → List NameCol
all_positions [] = []
all_positions (e ∷ es) = e ++ all_positions es

-- how many keys the elements have, each counted once
abbrev pub key_count : List (List NameCol) → ℕ
key_count elements = length (in_order (keys (all_positions elements)))

-- the header of these elements, and a row with a term for each of their keys
pub record IsSuffix (elements : List (List NameCol)) (suffix : Suffix) : Type 0 where
  pub header : IsHeaderOf (all_positions elements) suffix.header
  pub row : length suffix.row ≡ key_count elements

-- it is known of the elements from some place on
pub record IsSomeSuffix (elements : List (List NameCol)) (suffix : Suffix) : Type 0 where
  pub before : List (List NameCol)
  pub behind : List (List NameCol)
  pub split : before ++ behind ≡ elements
  pub is : IsSuffix behind suffix

-- the name is used once, in the only space
abbrev pub one_use : List ℕ → List NameCol
one_use name = record { space = 0; name = name; declared = false } ∷ []
