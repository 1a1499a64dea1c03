-- The file of a layout: which operators are groups, and before which of their items they may break.
use Rattle.std.specs.Prelude.{ℕ, ◌≡◌, ◌<◌, ◌≤◌, ◌+◌, ◌⊎◌, ◌^◌, List, [], ◌∷◌, ◌++◌, length, take, replicate, codes}
use Rattle.std.specs.Prelude.{decimal, IsUtf8, Some, slice_get, count_by}
use Rattle.std.specs.List.{AllByRecursion}
use Rattle.std.specs.Str.Lines.{lines}
use Rattle.psg_terms.specs.Names.{Name}
use Rattle.psg_grammar.specs.declared.types.Operator.{Operator}
use Rattle.psg_grammar.specs.declared.types.Definition.{Definition}
use Rattle.psg_grammar.specs.Kinds.{op_name_of}
use Rattle.psg_grammar.specs.Sound.{IsOwnName}
use Rattle.psg_deflines.specs.Entries.{IsSkipped}
use Rattle.psg_deflines.specs.Refusals.{IsFirstBad, line_feeds}
use Rattle.psg_layout.specs.Arranged.{is_counted}
use Rattle.psg_layout.specs.declared.layout.Layout.{Layout}
use Rattle.psg_layout.specs.declared.layout.LayoutFault.{LayoutFault}
use Rattle.psg_layout.specs.declared.layout.LayoutFault.TheVariants as faults

-- A line of the file: the operator is a group; it may break before the item of the number.
pub data Rule : Type 0 where
  group : (op : Name) → Rule
  break : (op : Name) (place : ℕ) → Rule

abbrev pub op_of : Rule → Name
op_of (group o) = o
op_of (break o k) = o

-- the word, and then one space or more and this
abbrev pub IsBefore : List ℕ → List ℕ → List ℕ → Type 0
IsBefore word rest text = (n : ℕ) × ((1 ≤ n) × (text ≡ word ++ (replicate n 32 ++ rest)))

-- the words of the line, with spaces between them
abbrev pub IsWrittenAs : Rule → List ℕ → Type 0
IsWrittenAs (group o) text = IsBefore (codes "group") o text
IsWrittenAs (break o k) text =
    (words : List ℕ) × (IsBefore (codes "break") words text × IsBefore o (decimal k) words)

-- a number of a line is one of 32 bits
abbrev pub HasNumber : Rule → Type 0
HasNumber (group o) = Unit {0}
HasNumber (break o k) = k < 2 ^ 32

-- the text is the line
pub record SpellsRule (text : List ℕ) (rule : Rule) : Type 0 where
  pub name : IsOwnName (op_of rule)
  pub number : HasNumber rule
  pub written : IsWrittenAs rule text

-- What a line is tested for, in this order, with the codes: that it has a form, names an operator, names an item of it
-- and is there for the first time.
pub data Test : Type 0 where
  a_form : Test
  an_operator : Test
  an_item : Test
  a_new_line : Test

abbrev pub tests : List Test
tests = a_form ∷ an_operator ∷ an_item ∷ a_new_line ∷ []

abbrev pub code_of : Test → ℕ
code_of a_form = 2
code_of an_operator = 5
code_of an_item = 7
code_of a_new_line = 4

-- the first of the tests that fails
abbrev pub IsFirstFailing : (Test → Type 0) → List Test → Test → Type 0
IsFirstFailing Holds [] test = ⊥
IsFirstFailing Holds (c ∷ rest) test =
    ((Holds c → ⊥) × (test ≡ c)) ⊎ (Holds c × IsFirstFailing Holds rest test)

module _ (def : Definition) where
  abbrev pub IsKnown : Name → Type 0
  IsKnown name = (o : ℕ) × (op_name_of def o ≡ Some name)

  -- the operator has an item of this number, which is not the first one; marks are not counted
  abbrev pub HasItem : Rule → Type 0
  HasItem (group name) = Unit {0}
  HasItem (break name k) =
      (o : ℕ) (op : Operator) → slice_get def.operators o ≡ Some op → op.name ≡ name
      → (1 ≤ k) × (k < count_by is_counted op.items)

  -- the line passes the test after these rules
  abbrev pub Passes : List Rule → List ℕ → Test → Type 0
  Passes above text a_form = IsSkipped text ⊎ ((rule : Rule) × SpellsRule text rule)
  Passes above text an_operator = (rule : Rule) → SpellsRule text rule → IsKnown (op_of rule)
  Passes above text an_item = (rule : Rule) → SpellsRule text rule → HasItem rule
  Passes above text a_new_line = (rule : Rule) → SpellsRule text rule → AllByRecursion (λ other. other ≡ rule → ⊥) above

  -- the texts are skipped, or are rules that pass all tests, after these rules
  abbrev pub AreRules : List Rule → List (List ℕ) → List Rule → Type 0
  AreRules above [] rules = rules ≡ []
  AreRules above (text ∷ rest) rules =
      (IsSkipped text × AreRules above rest rules)
      ⊎ ((rule : Rule) × (more : List Rule) × (rules ≡ rule ∷ more) × SpellsRule text rule
      × AllByRecursion (Passes above text) tests × AreRules (above ++ rule ∷ []) rest more)

  -- ---- refusals

  -- The line is the first one that fails a test, and the code is that of the first test that it fails.
  pub record IsBadLine (texts : List (List ℕ)) (line code : ℕ) : Type 0 where
    pub front : List (List ℕ)
    pub text : List ℕ
    pub behind : List (List ℕ)
    pub split : texts ≡ front ++ text ∷ behind
    pub rules : List Rule
    pub are : AreRules [] front rules
    pub test : Test
    pub fails : IsFirstFailing (Passes rules text) tests test
    pub line_is : line ≡ length front + 1
    pub code_is : code ≡ code_of test

  -- the first fault: of the bytes as a text, else of a line
  pub data LayoutRefusal (bytes : List ℕ) (line code : ℕ) : Type 0 where
    no_text : (n : ℕ) → IsFirstBad bytes n → line ≡ line_feeds (take n bytes) + 1 → code ≡ 1
        → LayoutRefusal bytes line code
    no_rule : IsUtf8 bytes → IsBadLine (lines bytes) line code → LayoutRefusal bytes line code

  -- memory may run out at any time
  abbrev pub IsLayoutFault : List ℕ → LayoutFault → Type 0
  IsLayoutFault bytes (faults.Line line code) = LayoutRefusal bytes line code
  IsLayoutFault bytes faults.Memory = Unit {0}

  -- ---- what is read

  abbrev pub AreGroups : List Rule → List ℕ → Type 0
  AreGroups [] groups = groups ≡ []
  AreGroups (group name ∷ rest) groups =
      (o : ℕ) × (more : List ℕ) × (groups ≡ o ∷ more) × (op_name_of def o ≡ Some name) × AreGroups rest more
  AreGroups (break name k ∷ rest) groups = AreGroups rest groups

  abbrev pub AreBreaks : List Rule → List (ℕ × ℕ) → Type 0
  AreBreaks [] breaks = breaks ≡ []
  AreBreaks (group name ∷ rest) breaks = AreBreaks rest breaks
  AreBreaks (break name k ∷ rest) breaks =
      (o : ℕ) × (more : List (ℕ × ℕ)) × (breaks ≡ (o, k) ∷ more) × (op_name_of def o ≡ Some name) × AreBreaks rest more

  -- the layout of these lines
  pub record AreLayout (texts : List (List ℕ)) (layout : Layout) : Type 0 where
    pub rules : List Rule
    pub are : AreRules [] texts rules
    pub groups : AreGroups rules layout.groups
    pub breaks : AreBreaks rules layout.breaks

  -- the bytes spell the layout, and no line of them is refused
  pub record IsLayoutOf (bytes : List ℕ) (layout : Layout) : Type 0 where
    pub utf8 : IsUtf8 bytes
    pub spelled : AreLayout (lines bytes) layout

-- the line that names a refusal
abbrev pub refusal_line : ℕ → ℕ → List ℕ
refusal_line line code = codes "layout line " ++ (decimal line ++ (codes " code " ++ decimal code))
