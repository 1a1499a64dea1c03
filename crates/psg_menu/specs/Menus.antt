-- Which operators and names may be put at a place of a fragment.
use Rattle.std.specs.Prelude.{ℕ, ◌≡◌, ◌+◌, ◌==◌, true, cond, List, [], ◌∷◌, Option, Some, slice_get}
use Rattle.std.specs.Cmp.Lexicographic.{slice_cmp}
use Rattle.std.specs.List.{AllByRecursion}
use Rattle.std.specs.Ordering.{nat_cmp}
use Rattle.psg_terms.specs.Names.{Name, is_among}
use Rattle.psg_terms.specs.Relations.{IsIn}
use Rattle.psg_grammar.specs.declared.types.Kind.{Kind}
use Rattle.psg_grammar.specs.declared.types.Kind.TheVariants as kinds
use Rattle.psg_grammar.specs.declared.types.Operator.{Operator}
use Rattle.psg_grammar.specs.declared.types.Definition.{Definition}
use Rattle.psg_grammar.specs.Declaring.{HasHoles}
use Rattle.psg_grammar.specs.Fragments.{Fragment}
use Rattle.psg_grammar.specs.Insertion.{Leaf, AreLeaves, with_operator}
use Rattle.psg_grammar.specs.Keys.{placed}
use Rattle.psg_grammar.specs.Lookups.{operator_at, items_of}
use Rattle.psg_grammar.specs.Marks.{Chosen}
use Rattle.psg_grammar.specs.Paths.{Path}
use Rattle.psg_grammar.specs.Steps.{IsWide}
use Rattle.psg_eval.specs.Summaries.{slot_kinds}
use Rattle.psg_renaming.specs.Occurring.{occurring, leaf_names, AreFresh}

-- the name at its place in the order of bytes, if it isn't there
abbrev pub insert_name : Name → List Name → List Name
insert_name n [] = n ∷ []
insert_name n (m ∷ rest) = placed (slice_cmp nat_cmp n m) n m rest (insert_name n rest)

-- in the order of bytes, each once
abbrev pub in_byte_order : List Name → List Name
in_byte_order [] = []
in_byte_order (n ∷ ns) = insert_name n (in_byte_order ns)

-- the numbers of the operators of the phylum, the first of which has the number n, in the definition's order
abbrev pub operators_from : ℕ → ℕ → List Operator → List ℕ
operators_from n p [] = []
operators_from n p (o ∷ rest) = cond (o.phylum == p) (n ∷ operators_from (n + 1) p rest) (operators_from (n + 1) p rest)

abbrev pub operators_of : Definition → ℕ → List ℕ
operators_of def p = operators_from 0 p def.operators

-- a list may declare; a phylum declares in no space
abbrev pub IsQuiet : Definition → Kind → Type 0
IsQuiet def (kinds.Phylum p) = HasHoles def (kinds.Phylum p)
IsQuiet def (kinds.List l) = Unit {0}

-- no slot is for a phylum that declares names, so that each slot may have a placeholder
abbrev pub HasQuietSlots : Definition → Type 0
HasQuietSlots def = (o : ℕ) (op : Operator) → slice_get def.operators o ≡ Some op
    → AllByRecursion (IsQuiet def) (slot_kinds def op.items)

-- all names of the fragment are among these
abbrev pub AreUsed : List Name → Fragment → Type 0
AreUsed used f = AllByRecursion (λ n. is_among used n ≡ true) (occurring f)

-- The place is that of the node at the path, or, if k is given, that of a new element before the element k of the list.
module _ (def : Definition) (f : Fragment) (path : Path) (k : Option ℕ) where
  -- the operator may be put there with these leaves, whose names are new
  pub record IsFreshTrial (o : ℕ) (leaves : List Leaf) : Type 0 where
    pub are_leaves : AreLeaves def (items_of (operator_at def o)) leaves
    pub fresh : AreFresh (occurring f) (leaf_names leaves)

  -- the operator may be put there with this name at its one position, and these literals
  pub record IsNamedTrial (o : ℕ) (n : Name) (leaves : List Leaf) : Type 0 where
    pub are_leaves : AreLeaves def (items_of (operator_at def o)) leaves
    pub named : leaf_names leaves ≡ n ∷ []

  -- For what counts as good.
  module _ (IsGood : Fragment → Type 0) where
    -- some trial leaves a good tree; which new names and literals it has does not matter
    abbrev pub IsChoosable : ℕ → Type 0
    IsChoosable o = (leaves : List Leaf) × IsFreshTrial o leaves × IsGood (with_operator def f path k o leaves)

    abbrev pub IsNameable : ℕ → Name → Type 0
    IsNameable o n = (leaves : List Leaf) × IsNamedTrial o n leaves × IsGood (with_operator def f path k o leaves)

    -- the operators of the phylum that may be chosen
    abbrev pub IsMenu : ℕ → List ℕ → Type 0
    IsMenu p ops = Chosen IsChoosable (operators_of def p) ops

    -- the candidates with which the operator may be put there, in their order
    abbrev pub AreNameable : ℕ → List Name → List Name → Type 0
    AreNameable o candidates names = Chosen (IsNameable o) candidates names

    -- those of the names of the tree, in the order of bytes
    abbrev pub IsNameMenu : ℕ → List Name → Type 0
    IsNameMenu o names = AreNameable o (in_byte_order (occurring f)) names

  -- the tree of a trial of one of the phylum's operators is too wide
  pub record HasWideTrial (p : ℕ) : Type 0 where
    pub op : ℕ
    pub there : IsIn op (operators_of def p)
    pub leaves : List Leaf
    pub trial : IsFreshTrial op leaves
    pub wide : IsWide def (with_operator def f path k op leaves)

  -- the tree of a trial of the operator with one of the candidates is too wide
  pub record HasWideNaming (o : ℕ) (candidates : List Name) : Type 0 where
    pub name : Name
    pub there : IsIn name candidates
    pub leaves : List Leaf
    pub trial : IsNamedTrial o name leaves
    pub wide : IsWide def (with_operator def f path k o leaves)
