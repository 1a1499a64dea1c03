-- Specimens as they are written in a line, with names in place of numbers.
use Rattle.std.specs.Prelude.{ℕ, ◌≡◌, ◌<◌, ◌^◌, ◌+◌, ◌≤◌, Bool, true, false, max, length, List, [], ◌∷◌, ◌++◌, codes}
use Rattle.std.specs.Prelude.{chars, encode_utf8_all, IsUtf8}
use Rattle.std.specs.List.{AllByRecursion, list_all}
use Rattle.psg_grammar.specs.Sound.{is_digit, IsKindName, IsOwnName, is_specimen_name}
use Rattle.psg_lexis.specs.Classes.{All}
use Rattle.psg_lexis.specs.Tokens.{is_content, quoted, value_of}
use Rattle.psg_deflines.specs.WrittenTerms.{WrittenTerm, term_parts, HasTermForm, IsShallowTerm, most_nested}

-- An operator with its parts from left to right, a list from its first element on, or a hole place. A number part is
-- kept by its digits, a text part by its contents.
pub data WrittenTree : Type 0 where
  operator : (name : List ℕ) → WrittenTree
  with_tree : (front tree : WrittenTree) → WrittenTree
  with_name : (front : WrittenTree) (name : List ℕ) → WrittenTree
  with_number : (front : WrittenTree) (digits : List ℕ) → WrittenTree
  with_text : (front : WrittenTree) (text : List ℕ) → WrittenTree
  list_end : WrittenTree
  list_rest : (list : List ℕ) (term : WrittenTerm) → WrittenTree
  element : (first rest : WrittenTree) → WrittenTree
  place : (kind : List ℕ) (term : WrittenTerm) → WrittenTree

-- a text between quotes, with a backslash before each quote and backslash, and a line feed as `\n`
abbrev pub quoted_part : List ℕ → List ℕ
quoted_part w = encode_utf8_all (34 ∷ quoted (chars w) ++ 34 ∷ [])

-- what can be written between quotes: characters with a width and line feeds, in at most 4,096 bytes
pub record IsQuotable (w : List ℕ) : Type 0 where
  pub utf8 : IsUtf8 w
  pub contents : All is_content (chars w)
  pub short : length w ≤ 4096

-- a number below 2^128, perhaps with leading zeros
abbrev pub is_digits : List ℕ → Bool
is_digits [] = false
is_digits (c ∷ cs) = list_all is_digit (c ∷ cs)

-- `hole(K,term)`
abbrev pub place_parts : List ℕ → WrittenTerm → List (List ℕ)
place_parts kind term = codes "hole" ∷ codes "(" ∷ kind ∷ codes "," ∷ term_parts term ++ codes ")" ∷ []

-- Parts in brackets, a comma between two; what is before the last part is opened. Elements are in square brackets;
-- after them is the rest, if there is one, after a bar. What follows an element is its follow.
abbrev mutual
  pub tree_parts : WrittenTree → List (List ℕ)
  tree_parts (operator o) = o ∷ []
  tree_parts (with_tree f t) = opened f ++ tree_parts t ++ codes ")" ∷ []
  tree_parts (with_name f n) = opened f ++ (36 ∷ n) ∷ codes ")" ∷ []
  tree_parts (with_number f d) = opened f ++ d ∷ codes ")" ∷ []
  tree_parts (with_text f w) = opened f ++ quoted_part w ∷ codes ")" ∷ []
  tree_parts list_end = codes "[" ∷ codes "]" ∷ []
  tree_parts (list_rest l t) = codes "[" ∷ codes "|" ∷ place_parts l t ++ codes "]" ∷ []
  tree_parts (element e r) = codes "[" ∷ tree_parts e ++ follow r
  tree_parts (place k t) = place_parts k t

  pub opened : WrittenTree → List (List ℕ)
  opened (operator o) = o ∷ codes "(" ∷ []
  opened (with_tree f t) = opened f ++ tree_parts t ++ codes "," ∷ []
  opened (with_name f n) = opened f ++ (36 ∷ n) ∷ codes "," ∷ []
  opened (with_number f d) = opened f ++ d ∷ codes "," ∷ []
  opened (with_text f w) = opened f ++ quoted_part w ∷ codes "," ∷ []
  opened list_end = []
  opened (list_rest l t) = []
  opened (element e r) = []
  opened (place k t) = []

  pub follow : WrittenTree → List (List ℕ)
  follow (operator o) = []
  follow (with_tree f t) = []
  follow (with_name f n) = []
  follow (with_number f d) = []
  follow (with_text f w) = []
  follow list_end = codes "]" ∷ []
  follow (list_rest l t) = codes "|" ∷ place_parts l t ++ codes "]" ∷ []
  follow (element e r) = codes "," ∷ tree_parts e ++ follow r
  follow (place k t) = []

-- parts may follow it
abbrev pub is_front : WrittenTree → Bool
is_front (operator o) = true
is_front (with_tree f t) = true
is_front (with_name f n) = true
is_front (with_number f d) = true
is_front (with_text f w) = true
is_front _ = false

-- it is a list, so an element may be put in front of it
abbrev pub is_list : WrittenTree → Bool
is_list list_end = true
is_list (list_rest l t) = true
is_list (element e r) = true
is_list _ = false

-- names, numbers and texts have their forms; parts follow operators, elements are in front of lists
abbrev pub HasTreeForm : WrittenTree → Type 0
HasTreeForm (operator o) = IsOwnName o
HasTreeForm (with_tree f t) = (is_front f ≡ true) × HasTreeForm f × HasTreeForm t
HasTreeForm (with_name f n) = (is_front f ≡ true) × HasTreeForm f × (is_specimen_name n ≡ true)
HasTreeForm (with_number f d) = (is_front f ≡ true) × HasTreeForm f × (is_digits d ≡ true) × (value_of d < 2 ^ 128)
HasTreeForm (with_text f w) = (is_front f ≡ true) × HasTreeForm f × IsQuotable w
HasTreeForm list_end = Unit {0}
HasTreeForm (list_rest l t) = IsKindName l × HasTermForm t
HasTreeForm (element e r) = (is_list r ≡ true) × HasTreeForm e × HasTreeForm r
HasTreeForm (place k t) = IsKindName k × HasTermForm t

-- An operator and a list count one, a hole place too; names, numbers and texts count nothing. The term of a hole place
-- is measured by itself.
abbrev pub tree_depth : WrittenTree → ℕ
tree_depth (operator o) = 1
tree_depth (with_tree f t) = max (tree_depth f) (tree_depth t + 1)
tree_depth (with_name f n) = tree_depth f
tree_depth (with_number f d) = tree_depth f
tree_depth (with_text f w) = tree_depth f
tree_depth list_end = 1
tree_depth (list_rest l t) = 1
tree_depth (element e r) = max (tree_depth e + 1) (tree_depth r)
tree_depth (place k t) = 1

-- the terms of the hole places, from left to right
abbrev pub place_terms : WrittenTree → List WrittenTerm
place_terms (operator o) = []
place_terms (with_tree f t) = place_terms f ++ place_terms t
place_terms (with_name f n) = place_terms f
place_terms (with_number f d) = place_terms f
place_terms (with_text f w) = place_terms f
place_terms list_end = []
place_terms (list_rest l t) = t ∷ []
place_terms (element e r) = place_terms e ++ place_terms r
place_terms (place k t) = t ∷ []

-- neither the specimen nor a term in it is nested too deep
pub record IsShallowTree (w : WrittenTree) : Type 0 where
  pub tree : tree_depth w ≤ most_nested
  pub terms : AllByRecursion IsShallowTerm (place_terms w)
