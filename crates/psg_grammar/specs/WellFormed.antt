-- Well-formed and complete trees.
use Rattle.std.specs.Prelude.{ℕ, ◌≡◌, ◌<◌, ◌^◌, ◌⊎◌, Bool, true, false, List, [], ◌∷◌, ◌++◌, length, slice_get}
use Rattle.std.specs.Prelude.{Some, IsUtf8}
use Rattle.psg_terms.specs.Names.{Name}
use Rattle.psg_terms.specs.Words.{IsFreeWord}
use Rattle.psg_grammar.specs.declared.types.Kind.{Kind}
use Rattle.psg_grammar.specs.declared.types.Kind.TheVariants as kinds
use Rattle.psg_grammar.specs.declared.types.Item.{Item}
use Rattle.psg_grammar.specs.declared.types.Item.TheVariants as items
use Rattle.psg_grammar.specs.declared.types.Operator.{Operator}
use Rattle.psg_grammar.specs.declared.types.ListKind.{ListKind}
use Rattle.psg_grammar.specs.declared.types.Definition.{Definition}
use Rattle.psg_grammar.specs.Fragments.{Fragment, hole, ending, cell, operator, with_child, with_name, with_number}
use Rattle.psg_grammar.specs.Fragments.{with_text, anything, observed}
use Rattle.psg_grammar.specs.Lookups.{part_items}
use Rattle.psg_grammar.specs.Declaring.{HasHoles}

-- the fixed words among the items, in order
abbrev pub words_in : List Item → List Name
words_in [] = []
words_in (items.Word w ∷ rest) = w ∷ words_in rest
words_in (_ ∷ rest) = words_in rest

-- the fixed words of all operators, in order
abbrev pub operator_words : List Operator → List Name
operator_words [] = []
operator_words (o ∷ rest) = words_in o.items ++ operator_words rest

-- the separators of all lists, in order
abbrev pub separators : List ListKind → List Name
separators [] = []
separators (l ∷ rest) = l.separator ∷ separators rest

-- the words of the operators and the separators of the lists
abbrev pub fixed_words : Definition → List Name
fixed_words def = operator_words def.operators ++ separators def.lists

-- what a name position takes: a word that is no fixed one, of any length
abbrev pub IsName : Definition → Name → Type 0
IsName def n = IsFreeWord (fixed_words def) n

-- the end of a list is unfinished only if the kind of the list allows it
abbrev pub IsListEnd : Definition → ℕ → Bool → Type 0
IsListEnd def l u = (k : ListKind) × (slice_get def.lists l ≡ Some k) × (u ≡ true → k.unfinished ≡ true)

-- a list goes on with a list, whose value is not observed
abbrev pub IsUnobserved : Fragment → Type 0
IsUnobserved (observed f) = ⊥
IsUnobserved _ = Unit {0}

-- Fits f more kind: the tree is of the kind, and parts of the items in more still follow.
module _ (def : Definition) where
  abbrev pub Fits : Fragment → List Item → Kind → Type 0
  Fits (hole p) more kind = (more ≡ []) × (kind ≡ kinds.Phylum p) × (p < length def.phyla)
      × HasHoles def kind
  Fits (ending l u) more kind = (more ≡ []) × (kind ≡ kinds.List l) × IsListEnd def l u
  Fits (cell l e r) more kind =
      (more ≡ []) × (kind ≡ kinds.List l) × (k : ListKind) × (slice_get def.lists l ≡ Some k)
      × Fits e [] (kinds.Phylum k.element) × Fits r [] (kinds.List l) × IsUnobserved r
  Fits (operator o) more kind = (op : Operator) × (slice_get def.operators o ≡ Some op) × (more ≡ part_items op.items)
      × (kind ≡ kinds.Phylum op.phylum)
  Fits (with_child f t) more kind = (k : Kind) × Fits f (items.Slot k ∷ more) kind × Fits t [] k
  Fits (with_name f n) more kind =
      (((s : ℕ) × Fits f (items.Refers s ∷ more) kind) ⊎ ((s : ℕ) × Fits f (items.Declares s ∷ more) kind))
      × IsName def n
  Fits (with_number f n) more kind = Fits f (items.Number ∷ more) kind × (n < 2 ^ 128)
  Fits (with_text f t) more kind = Fits f (items.Text ∷ more) kind × IsUtf8 t
  Fits anything more kind = ⊥
  Fits (observed f) more kind = (more ≡ []) × Fits f [] kind

-- no node is observed
abbrev pub IsPlain : Fragment → Type 0
IsPlain (hole p) = Unit {0}
IsPlain (ending l u) = Unit {0}
IsPlain (cell l e r) = IsPlain e × IsPlain r
IsPlain (operator o) = Unit {0}
IsPlain (with_child f t) = IsPlain f × IsPlain t
IsPlain (with_name f n) = IsPlain f
IsPlain (with_number f n) = IsPlain f
IsPlain (with_text f t) = IsPlain f
IsPlain anything = Unit {0}
IsPlain (observed f) = ⊥

-- a tree of the kind
abbrev pub WellFormed : Definition → Fragment → Kind → Type 0
WellFormed def f kind = Fits def f [] kind × IsPlain f

-- no placeholder and no unfinished list
abbrev pub IsComplete : Fragment → Type 0
IsComplete (hole p) = ⊥
IsComplete (ending l u) = u ≡ false
IsComplete (cell l e r) = IsComplete e × IsComplete r
IsComplete (operator o) = Unit {0}
IsComplete (with_child f t) = IsComplete f × IsComplete t
IsComplete (with_name f n) = IsComplete f
IsComplete (with_number f n) = IsComplete f
IsComplete (with_text f t) = IsComplete f
IsComplete anything = ⊥
IsComplete (observed f) = IsComplete f
