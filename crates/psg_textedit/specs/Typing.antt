-- What is typed into a printed tree, and what is answered.
use Rattle.std.specs.Prelude.{ℕ, ◌≡◌, ◌⊎◌, ◌<◌, ◌≤◌, ◌+◌, List, length, Some, slice_get}
use Rattle.std.specs.List.{AllByRecursion}
use Rattle.psg_grammar.specs.declared.types.Kind.{Kind}
use Rattle.psg_grammar.specs.declared.types.Definition.{Definition}
use Rattle.psg_grammar.specs.Fragments.{Fragment}
use Rattle.psg_grammar.specs.Kinds.{IsOfKind}
use Rattle.psg_grammar.specs.Paths.{Path, node_at}
use Rattle.psg_grammar.specs.Sizes.{depth_of}
use Rattle.psg_grammar.specs.Sound.{IsSound}
use Rattle.psg_grammar.specs.WellFormed.{WellFormed, fixed_words}
use Rattle.psg_lexis.specs.Tokens.{IsFixedWord, IsBeside}
use Rattle.psg_lexis.specs.declared.token.Spanned.{Spanned}
use Rattle.psg_class.specs.Class.{IsClass}
use Rattle.psg_class.specs.Texts.{HasNoTokens, HasNoTree, ReadsAs}
use Rattle.psg_parse.specs.Answers.{IsFault, IsParsed}
use Rattle.psg_parse.specs.Tables.{IsParseTable}
use Rattle.psg_parse.specs.declared.fault.Goal.{Goal}
use Rattle.psg_parse.specs.declared.fault.ParseFault.TheVariants as parse_faults
use Rattle.psg_parse.specs.declared.fault.ParseFault.{ParseFault}
use Rattle.psg_unparse.specs.Layout.{text_of}
use Rattle.psg_unparse.specs.declared.spans.Span.{Span}
use Rattle.psg_textedit.specs.Regions.{Typing, CountsText, Encloses, HasDeepTree, IsOutside, new_text}
use Rattle.psg_textedit.specs.declared.change.Reader.{Reader}
use Rattle.psg_textedit.specs.declared.change.TextFault.{TextFault}
use Rattle.psg_textedit.specs.declared.change.TextFault.TheVariants as faults
use Rattle.psg_textedit.specs.declared.change.Typed.{Typed}
use Rattle.psg_textedit.specs.declared.reading.Reading.{Reading}
use Rattle.psg_textedit.specs.declared.reading.Reading.TheVariants.{Clean, Deep, Unclean}

abbrev pub typing_of : Typed → Typing
typing_of t = record { start = t.start; end = t.end; new = t.new.now }

abbrev pub definition_of : Reader → Definition
definition_of r = r.definition.now

-- a sound definition of the class, each of whose fixed words is one token, with what is made of it
pub record IsReader (r : Reader) : Type 0 where
  pub sound : IsSound (definition_of r)
  pub class : IsClass (definition_of r)
  pub tokens : AllByRecursion IsFixedWord (fixed_words (definition_of r))
  pub words : r.lexis.now ≡ fixed_words (definition_of r)
  pub table : IsParseTable (definition_of r) r.table.now

-- the path leads to a node of the tree's kind
pub record IsForNode (def : Definition) (f : Fragment) (path : Path) (tree : Fragment) : Type 0 where
  pub node : Fragment
  pub there : node_at f path ≡ Some node
  pub kind : Kind
  pub of_kind : IsOfKind def node kind
  pub formed : WellFormed def tree kind

-- why typed text makes no tree of the kind
abbrev pub IsTextFault : Definition → Fragment → Typing → Kind → TextFault → Type 0
IsTextFault def f e kind faults.NoPlace = IsOutside e (text_of def f)
IsTextFault def f e kind faults.NoTokens = (IsOutside e (text_of def f) → ⊥) × HasNoTokens def (new_text def f e)
IsTextFault def f e kind faults.NoTree = (IsOutside e (text_of def f) → ⊥) × HasNoTree def kind (new_text def f e)
IsTextFault def f e kind faults.Deep = (IsOutside e (text_of def f) → ⊥) × HasDeepTree def f e kind
IsTextFault def f e kind faults.Memory = Unit {0}

-- ---- spans

-- The first of the deepest among the spans before the limit that have the bytes.
pub record IsBest (spans : List Span) (e : Typing) (limit best : ℕ) : Type 0 where
  pub span : Span
  pub found : slice_get spans best ≡ Some span
  pub encloses : Encloses e span
  pub deepest : (k : ℕ) (other : Span) → k < limit → slice_get spans k ≡ Some other → Encloses e other
      → length other.path ≤ length span.path
  pub first : (k : ℕ) (other : Span) → k < best → slice_get spans k ≡ Some other → Encloses e other
      → length other.path < length span.path

-- the span is listed, and it is of the path
abbrev pub IsSpanAt : List Span → Path → Span → Type 0
IsSpanAt spans path span = (k : ℕ) × (slice_get spans k ≡ Some span) × (span.path ≡ path)

-- ---- what a region is read as

module _ (def : Definition) (goal : Goal) where
  -- a tree of the goal's kind and level, within the limits with the brackets around it
  pub record IsReadWithin (text : List ℕ) (tree : Fragment) : Type 0 where
    pub nesting : ℕ
    pub reads : ReadsAs def goal.kind goal.least text tree nesting
    pub formed : WellFormed def tree goal.kind
    pub depth : depth_of tree ≤ 200
    pub brackets : nesting + goal.around ≤ 400

  pub record IsReadBeyond (text : List ℕ) : Type 0 where
    pub tree : Fragment
    pub nesting : ℕ
    pub reads : ReadsAs def goal.kind goal.least text tree nesting
    pub deep : (200 < depth_of tree) ⊎ (400 < nesting + goal.around)

  abbrev pub IsNotRead : List ℕ → Type 0
  IsNotRead text = (tree : Fragment) (nesting : ℕ) → ReadsAs def goal.kind goal.least text tree nesting → ⊥

  -- what the parser answers for the tokens
  abbrev pub IsParsedAs : List Spanned → Reading → Type 0
  IsParsedAs ts (Clean tree) = IsParsed def goal ts tree × WellFormed def tree goal.kind
  IsParsedAs ts Deep = IsFault def goal ts parse_faults.Deep
  IsParsedAs ts Unclean = IsFault def goal ts parse_faults.NoTree

  -- No token is across a border, from the first byte of a node's new region to its end.
  pub record AreApart (all : List Spanned) (start end : ℕ) : Type 0 where
    pub begins : AllByRecursion (IsBeside start) all
    pub ends : AllByRecursion (IsBeside end) all

  -- what a node's new region is read as, where these are the tokens of the whole
  abbrev pub IsNodeAnswer : List Spanned → ℕ → ℕ → List ℕ → Reading → Type 0
  IsNodeAnswer all start end text (Clean tree) = AreApart all start end × IsReadWithin text tree
  IsNodeAnswer all start end text Deep = AreApart all start end × IsReadBeyond text
  IsNodeAnswer all start end text Unclean = AreApart all start end → IsNotRead text

-- what is read where the parser answers with the fault
abbrev pub IsFaultReading : ParseFault → Reading → Type 0
IsFaultReading parse_faults.NoTree r = r ≡ Unclean
IsFaultReading parse_faults.Deep r = r ≡ Deep
IsFaultReading parse_faults.Memory r = ⊥

-- the steps are at most the tokens of the text
abbrev pub MayRead : Definition → List ℕ → ℕ → ℕ → Type 0
MayRead def text from to = (n : ℕ) → CountsText def text n → to ≤ from + n

-- how many tokens the text has, at least as many as were read
abbrev pub HasRead : Definition → List ℕ → ℕ → ℕ → Type 0
HasRead def text from to = (n : ℕ) × CountsText def text n × (to ≤ from + n)
