-- What the parts of the check hand on.
use Rattle.std.specs.Prelude.{ℕ, ◌≡◌, ◌⊎◌, ◌+◌, ◌<◌, Bool, true, List, length, map, Option}
use Rattle.std.specs.Prelude.{Some, None, MatchOption, Vec, slice_get, ◌==◌}
use Rattle.std.specs.declared.alloc.Global.{Global}
use Rattle.psg_terms.specs.Names.{Name, is_among}
use Rattle.psg_grammar.specs.declared.types.Kind.TheVariants as kinds
use Rattle.psg_grammar.specs.declared.types.Kind.{Kind}
use Rattle.psg_grammar.specs.declared.types.ListKind.{ListKind}
use Rattle.psg_grammar.specs.declared.types.Definition.{Definition}
use Rattle.psg_grammar.specs.Sound.{IsSound}
use Rattle.psg_grammar.specs.WellFormed.{fixed_words}
use Rattle.psg_grammar.specs.Declaring.{HasHoles}
use Rattle.psg_class.specs.Terminals.{Terminal}
use Rattle.psg_class.specs.Class.{NeverAny}
use Rattle.psg_class.specs.Follow.{FirstOfList, Follow}
use Rattle.psg_class.specs.Refusal.{IsFirstToken, IsRefusal, IsOf}
use Rattle.psg_class.specs.Numbers.{number_of, number_text, word_number}
use Rattle.psg_class.specs.Shapes.{shape_of}
use Rattle.psg_class.specs.Grids.{is_set, IsTable}
use Rattle.psg_class.specs.Sources.{IsRows, AreRows, IsKind, follow_row}
use Rattle.psg_class.specs.declared.fault.ClassFault.{ClassFault}
use Rattle.psg_class.specs.declared.fault.ClassFault.TheVariants as faults
use Rattle.psg_class.specs.declared.shape.Shape.{Shape}
use Rattle.psg_class.specs.declared.behind.Sets.{Sets}

-- the shapes of the operators of a sound definition, by words among which are all its own
pub record IsRead (def : Definition) (words : List Name) (shapes : List Shape) : Type 0 where
  pub sound : IsSound def
  pub among : (w : Name) → is_among (fixed_words def) w ≡ true → is_among words w ≡ true
  pub shapes_are : shapes ≡ map (shape_of (length def.phyla + 4) words) def.operators

-- the shapes are those of the operators, by some list of words that has all fixed words
abbrev pub HasShapes : Definition → List Shape → Type 0
HasShapes def shapes = (words : List Name) × IsRead def words shapes

-- memory ran out, or the fault is that of the definition
abbrev pub Refuses : Definition → ClassFault → Type 0
Refuses def f = (f ≡ faults.Memory) ⊎ (IsRefusal def f × IsOf def f)

-- the first of as many things as `height` that fails, with the number of its first token
abbrev pub IsFirstOf : Definition → List Name → (ℕ → Terminal → Type 0) → ℕ → Option (ℕ × ℕ) → Type 0
IsFirstOf def words Fails height o =
    MatchOption o (NeverAny Fails)
    (λ x. (x.0 < height) × IsFirstToken def Fails x.0 (number_text (length def.phyla + 4) words def.phyla x.1))

-- the numbers that are set are those of the terminals
pub record IsSetOf (def : Definition) (words : List Name) (width : ℕ) (set : ℕ → Bool)
    (F : Terminal → Type 0) : Type 0 where
  pub sound : (c : ℕ) → c < width → set c ≡ true → (t : Terminal) × (number_of def words t ≡ Some c) × F t
  pub complete : (t : Terminal) → F t → (c : ℕ) × (number_of def words t ≡ Some c) × (c < width) × (set c ≡ true)

abbrev pub number_or : Option ℕ → ℕ
number_or None = 0
number_or (Some n) = n

-- the number of the list's separator; 0 where it is none of the words
abbrev pub separator_number : ℕ → List Name → ListKind → ℕ
separator_number base words l = number_or (word_number base words l.separator)

pub record AreSets (def : Definition) (words : List Name) (width : ℕ) (s : Sets) : Type 0 where
  pub rows : IsRows s.rows
  pub sizes : AreRows (length def.phyla) (length def.lists) s.rows
  pub table : IsTable s.rows.height width s.grid
  pub separators : s.separators.items ≡ map (separator_number (length def.phyla + 4) words) def.lists
  pub lists : (l : ℕ) → l < length def.lists
      → IsSetOf def words width (is_set s.grid (s.rows.phyla + l)) (FirstOfList def l)
  pub follows : (k : Kind) → IsKind s.rows k
      → IsSetOf def words width (is_set s.grid (follow_row s.rows k)) (Follow def k)

-- whether each phylum has placeholders
pub record AreHoles (def : Definition) (holes : List Bool) : Type 0 where
  pub one_each : length holes ≡ length def.phyla
  pub exact : (p : ℕ) (b : Bool) → slice_get holes p ≡ Some b
      → ((b ≡ true) → HasHoles def (kinds.Phylum p)) × (HasHoles def (kinds.Phylum p) → b ≡ true)

-- the list has no element
abbrev pub has_none : Vec ℕ Global → Bool
has_none v = length v.items == 0
