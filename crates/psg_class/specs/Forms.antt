-- What the parts of an operator say of its form.
use Rattle.std.specs.Prelude.{ℕ, ◌≡◌, ◌+◌, ◌*◌, ◌-◌, ◌<◌, ◌≤◌, ◌==◌, ◌&&◌, ◌||◌, not, nat_le, max, Bool, true}
use Rattle.std.specs.Prelude.{false, cond, List, length, map, Option, Some, slice_get, MatchOption}
use Rattle.std.specs.List.{AllByRecursion}
use Rattle.psg_grammar.specs.declared.types.Kind.TheVariants as kinds
use Rattle.psg_grammar.specs.declared.types.Level.{Level}
use Rattle.psg_grammar.specs.declared.types.Level.TheVariants as levels
use Rattle.psg_grammar.specs.declared.types.Phylum.{Phylum}
use Rattle.psg_grammar.specs.Levels.{first_level, last_level, level_number}
use Rattle.psg_grammar.specs.Sound.{IsLevel}
use Rattle.psg_class.specs.Class.{Never}
use Rattle.psg_class.specs.Refusal.{IsFirst}
use Rattle.psg_class.specs.Grids.{once}
use Rattle.psg_class.specs.declared.grid.Cell.{Cell}
use Rattle.psg_class.specs.declared.shape.Part.{Part}
use Rattle.psg_class.specs.declared.shape.Part.TheVariants as parts
use Rattle.psg_class.specs.declared.shape.Shape.{Shape}

-- the part is a token
abbrev pub is_token : Option Part → Bool
is_token (Some (parts.Token n)) = true
is_token _ = false

-- the part is a slot of the phylum p
abbrev pub is_own : ℕ → Option Part → Bool
is_own p (Some (parts.Slot (kinds.Phylum q))) = q == p
is_own p _ = false

abbrev pub first_part : Shape → Option Part
first_part s = slice_get s.parts 0

abbrev pub last_part : Shape → Option Part
last_part s = slice_get s.parts (length s.parts - 1)

-- a token first, or a slot of the own phylum and then a token
abbrev pub starts : Shape → Bool
starts s = is_token (first_part s) || (is_own s.phylum (first_part s) && is_token (slice_get s.parts 1))

abbrev pub own_first : Shape → Bool
own_first s = is_own s.phylum (first_part s)

abbrev pub own_last : Shape → Bool
own_last s = is_own s.phylum (last_part s)

abbrev pub is_infix : Shape → Bool
is_infix s = own_first s && own_last s && nat_le 3 (length s.parts)

abbrev pub fits_level : Level → Shape → Bool
fits_level levels.Plain s = is_token (first_part s) && not (own_last s)
fits_level (levels.Prefix n) s = is_token (first_part s) && own_last s
fits_level (levels.Postfix n) s = own_first s && is_token (last_part s)
fits_level (levels.InfixLeft n) s = is_infix s
fits_level (levels.InfixRight n) s = is_infix s
fits_level (levels.InfixNone n) s = is_infix s

-- the parts are of the form of the shape's level
abbrev pub fits : Shape → Bool
fits s = fits_level s.level s

-- the greatest of the least levels of the slots
abbrev pub asks : Shape → ℕ
asks s = max (cond (own_first s) (first_level s.level) 0) (cond (own_last s) (last_level s.level) 0)

-- ---- by phylum and level

abbrev pub cell_of : ℕ → ℕ → Cell
cell_of row column = record { row = row; column = column }

-- a level is at most 10, and so is what is asked for
abbrev pub levels_width : ℕ
levels_width = 11

-- the phylum and the level of the operator
abbrev pub bound_cell : Shape → Cell
bound_cell s = cell_of s.phylum (level_number s.level)

-- the phylum and the level that its own slots in the operator ask for
abbrev pub asked_cell : Shape → Cell
asked_cell s = cell_of s.phylum (asks s)

-- the N and the form in one number, 5 N and the place of the form; 0 without a form
abbrev pub form_code : Level → ℕ
form_code levels.Plain = 0
form_code (levels.Prefix n) = 5 * n
form_code (levels.Postfix n) = 5 * n + 1
form_code (levels.InfixLeft n) = 5 * n + 2
form_code (levels.InfixRight n) = 5 * n + 3
form_code (levels.InfixNone n) = 5 * n + 4

-- one more than the greatest code, since each N is at most 9
abbrev pub codes_width : ℕ
codes_width = 50

-- the phylum and the code of the operator's form
abbrev pub form_cell : Shape → Cell
form_cell s = cell_of s.phylum (form_code s.level)

-- the shapes are of the first phyla, as many as `phyla` says
abbrev pub AreInPhyla : ℕ → List Shape → Type 0
AreInPhyla phyla shapes = AllByRecursion (λ (s : Shape). s.phylum < phyla) shapes

-- the N of each is from 1 to 9
abbrev pub HaveLevels : List Shape → Type 0
HaveLevels shapes = AllByRecursion (λ (s : Shape). IsLevel s.level) shapes

-- the table of one cell for each shape
abbrev pub cells_by : (Shape → Cell) → List Shape → ℕ → ℕ → Bool
cells_by cell shapes row column = once row column (map cell shapes)

-- a level is asked for, and one below it is that of an operator
pub record IsBelow (bound asked : ℕ → ℕ → Bool) (row : ℕ) : Type 0 where
  pub high : ℕ
  pub inside : high < levels_width
  pub low : ℕ
  pub below : low < high
  pub is_asked : asked row high ≡ true
  pub is_bound : bound row low ≡ true

-- a phylum without brackets for which that is so
pub record LacksBracket (phyla : List Phylum) (bound asked : ℕ → ℕ → Bool) (p : ℕ) : Type 0 where
  pub phylum : Phylum
  pub found : slice_get phyla p ≡ Some phylum
  pub bare : phylum.bracketed ≡ false
  pub apart : IsBelow bound asked p

-- two forms with this N
pub record Mixes (uses : ℕ → ℕ → Bool) (row level : ℕ) : Type 0 where
  pub positive : 1 ≤ level
  pub small : level < 10
  pub one : ℕ
  pub other : ℕ
  pub differ : one < other
  pub inside : other < 5
  pub has_one : uses row (5 * level + one) ≡ true
  pub has_other : uses row (5 * level + other) ≡ true

-- the phylum of the row has two forms at some level
abbrev pub MixesAny : (ℕ → ℕ → Bool) → ℕ → Type 0
MixesAny uses row = (level : ℕ) × Mixes uses row level

-- the first number for which something holds, if there is one
abbrev pub IsFirstIf : (ℕ → Type 0) → Option ℕ → Type 0
IsFirstIf P o = MatchOption o (Never P) (IsFirst P)

-- the first pair for which something holds, by its first number and then its second, if there is one
abbrev pub IsFirstPair : (ℕ → ℕ → Type 0) → Option (ℕ × ℕ) → Type 0
IsFirstPair P o = MatchOption o ((p : ℕ) → Never (P p)) (λ r. IsFirst (λ p. (n : ℕ) × P p n) r.0 × IsFirst (P r.0) r.1)

-- the shape of the number fails the test
pub record FailsTest (test : Shape → Bool) (shapes : List Shape) (n : ℕ) : Type 0 where
  pub shape : Shape
  pub at : slice_get shapes n ≡ Some shape
  pub fails : test shape ≡ false
