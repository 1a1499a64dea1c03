-- Patterns: trees some of whose children may be places with any value.
use Rattle.std.specs.Prelude.{ℕ, ◌≡◌, List, [], ◌∷◌, length, slice_get, Option, Some, None, Result, Ok, Err}
use Rattle.psg_terms.specs.Names.{Name}
use Rattle.psg_grammar.specs.declared.types.Kind.{Kind}
use Rattle.psg_grammar.specs.declared.types.Kind.TheVariants as kinds
use Rattle.psg_grammar.specs.declared.types.ListKind.{ListKind}
use Rattle.psg_grammar.specs.declared.types.Operator.{Operator}
use Rattle.psg_grammar.specs.declared.types.Definition.{Definition}
use Rattle.psg_grammar.specs.Fragments.{Fragment, anything}
use Rattle.psg_grammar.specs.Sound.{HasKindSort}
use Rattle.psg_eval.specs.Summaries.{are_names, IsSummary, IsSummaryOf, slot_kinds}
use Rattle.psg_relation.specs.declared.relation.RelFault.{RelFault}
use Rattle.psg_relation.specs.declared.relation.RelFault.TheVariants.{Wide, Memory}
use Rattle.psg_eval.specs.Partials.{IsAdded, MatchStep}
use Rattle.psg_eval.specs.declared.partial.Partial.{Partial}
use Rattle.psg_eval.specs.declared.summary.SummaryParts.{SummaryParts}

-- how many values are seen in the child: a place is one of them
abbrev pub seen_of : Option SummaryParts → ℕ
seen_of (Some s) = s.seen
seen_of None = 1

module _ (def : Definition) where
  -- the child is the tree of this pattern, or a place with any value
  abbrev pub IsChildOf : Fragment → Option SummaryParts → Type 0
  IsChildOf f (Some s) = IsSummaryOf def f s
  IsChildOf f None = f ≡ anything

  -- the children, in order
  abbrev pub AreChildrenOf : List Fragment → List (Option SummaryParts) → Type 0
  AreChildrenOf [] [] = Unit {0}
  AreChildrenOf [] (c ∷ cs) = ⊥
  AreChildrenOf (f ∷ fs) [] = ⊥
  AreChildrenOf (f ∷ fs) (c ∷ cs) = IsChildOf f c × AreChildrenOf fs cs

  -- the child may be where a tree of the kind is wanted
  abbrev pub SuitsKind : Option SummaryParts → Kind → Type 0
  SuitsKind (Some s) k = (s.kind ≡ k) × IsSummary def s
  SuitsKind None k = (sort : ℕ) × HasKindSort def k sort

  abbrev pub SuitKinds : List (Option SummaryParts) → List Kind → Type 0
  SuitKinds [] [] = Unit {0}
  SuitKinds [] (k ∷ ks) = ⊥
  SuitKinds (c ∷ cs) [] = ⊥
  SuitKinds (c ∷ cs) (k ∷ ks) = SuitsKind c k × SuitKinds cs ks

  -- an operator takes these names and children: one of each position and slot, of the slots' kinds
  pub record TakesChildren (op : Operator) (names : List Name) (children : List (Option SummaryParts)) : Type 0 where
    pub names_fit : length (are_names def op.items) ≡ length names
    pub kinds_fit : SuitKinds children (slot_kinds def op.items)

  abbrev pub TakesChildrenAt : ℕ → List Name → List (Option SummaryParts) → Type 0
  TakesChildrenAt o names children =
      (op : Operator) × (slice_get def.operators o ≡ Some op) × TakesChildren op names children

  -- a cell of the list takes these
  pub record TakesCellOf (l : ℕ) (element rest : Option SummaryParts) : Type 0 where
    pub list : ListKind
    pub found : slice_get def.lists l ≡ Some list
    pub element_fits : SuitsKind element (kinds.Phylum list.element)
    pub rest_fits : SuitsKind rest (kinds.List l)

-- The step's answer for a child. With a pattern it is that of a child; a place keeps header and rows, and passes no
-- limit.
abbrev pub MatchPart : Definition → Partial → Option SummaryParts → Result Partial RelFault → Type 0
MatchPart def before (Some s) result = MatchStep (IsAdded def before s) result
MatchPart def before None (Ok p) = (p.header ≡ before.header) × (p.rel ≡ before.rel)
MatchPart def before None (Err Wide) = ⊥
MatchPart def before None (Err Memory) = Unit {0}
