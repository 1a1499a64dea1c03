-- What the summary of a tree says, and what is said where there is none.
use Rattle.std.specs.Prelude.{ℕ, ◌≡◌, ◌<◌, ◌≤◌, ◌&&◌, not, List, [], ◌∷◌, ◌++◌}
use Rattle.std.specs.Prelude.{length, map, Result, Ok, Err, Some, slice_get}
use Rattle.std.specs.List.{AllByRecursion}
use Rattle.psg_terms.specs.Names.{Name}
use Rattle.psg_grammar.specs.declared.types.Kind.{Kind}
use Rattle.psg_grammar.specs.declared.types.Kind.TheVariants as kinds
use Rattle.psg_grammar.specs.declared.types.Item.{Item}
use Rattle.psg_grammar.specs.declared.types.Item.TheVariants as items
use Rattle.psg_grammar.specs.declared.types.ListKind.{ListKind}
use Rattle.psg_grammar.specs.declared.types.Operator.{Operator}
use Rattle.psg_grammar.specs.declared.types.Definition.{Definition}
use Rattle.psg_grammar.specs.Declaring.{is_declaring}
use Rattle.psg_grammar.specs.Fragments.{Fragment, children_of}
use Rattle.psg_grammar.specs.Lookups.{is_scope}
use Rattle.psg_grammar.specs.Regions.{names_inside, declared_inside, declared_in, unfinished_inside, passing}
use Rattle.psg_grammar.specs.Relations.{IsRelationOf}
use Rattle.psg_grammar.specs.Sound.{HasKindSort, HasSpaceSort}
use Rattle.psg_grammar.specs.Steps.{PassesAt, last_step}
use Rattle.psg_relation.specs.Choices.{AllHaveSorts}
use Rattle.psg_scope.specs.declared.header.NameCol.{NameCol}
use Rattle.psg_scope.specs.declared.header.Header.{Header}
use Rattle.psg_scope.specs.Headers.{AreAscending, has_space, IsHeader, IsOrdered}
use Rattle.psg_eval.specs.declared.summary.SummaryParts.{SummaryParts}
use Rattle.psg_eval.specs.declared.summary.EvalFault.{EvalFault}
use Rattle.psg_eval.specs.declared.summary.EvalFault.TheVariants as faults
use Rattle.psg_eval.specs.Trees.{seen_in}
use Rattle.psg_grammar.specs.Kinds.{IsOfKind}

module _ (def : Definition) where
  -- the keys of the tree's region, or those that pass outward where it is a scope operator
  abbrev pub IsHeaderOf : Fragment → Header → Type 0
  IsHeaderOf f h =
      IsHeader (passing (is_scope def f) (λ s. unfinished_inside def s f) (declared_inside def f) (names_inside def f))
      (declared_in def f) (λ s. not (is_scope def f) && unfinished_inside def s f) h

  -- the summary is that of the tree
  pub record IsSummaryOf (f : Fragment) (s : SummaryParts) : Type 0 where
    pub kind : IsOfKind def f s.kind
    pub header : IsHeaderOf f s.header
    pub seen : s.seen ≡ seen_in f
    pub rows : IsRelationOf def f s.rel

  abbrev pub AllSummaries : List Fragment → List SummaryParts → Type 0
  AllSummaries [] [] = Unit {0}
  AllSummaries [] (s ∷ rest) = ⊥
  AllSummaries (f ∷ fs) [] = ⊥
  AllSummaries (f ∷ fs) (s ∷ rest) = IsSummaryOf f s × AllSummaries fs rest

  -- the summaries of the children, in order
  abbrev pub AreSummariesOf : Fragment → List SummaryParts → Type 0
  AreSummariesOf f summaries = AllSummaries (children_of f) summaries

  -- the sort of each key is that of its space
  abbrev pub AreKeySorts : List NameCol → List ℕ → Type 0
  AreKeySorts [] sorts = sorts ≡ []
  AreKeySorts (c ∷ cols) sorts =
      (s : ℕ) × (rest : List ℕ) × (sorts ≡ s ∷ rest) × HasSpaceSort def c.space s × AreKeySorts cols rest

  -- what every summary is, whatever its tree: an ordered header, and rows of the sorts of the kind, of the seen values
  -- and of the spaces
  pub record IsSummary (s : SummaryParts) : Type 0 where
    pub header : IsOrdered s.header
    pub sort : ℕ
    pub kind_sort : HasKindSort def s.kind sort
    pub seen : List ℕ
    pub reported : length seen ≡ s.seen
    pub key_sorts : List ℕ
    pub keys_sorted : AreKeySorts s.header.names key_sorts
    pub sorted : AllHaveSorts def.signature s.rel ((sort ∷ seen) ++ key_sorts)

  -- the kinds of the slots among the items
  abbrev pub slot_kinds : List Item → List Kind
  slot_kinds [] = []
  slot_kinds (items.Slot k ∷ rest) = k ∷ slot_kinds rest
  slot_kinds (_ ∷ rest) = slot_kinds rest

  -- the name positions among the items
  abbrev pub are_names : List Item → List Item
  are_names [] = []
  are_names (items.Refers s ∷ rest) = items.Refers s ∷ are_names rest
  are_names (items.Declares s ∷ rest) = items.Declares s ∷ are_names rest
  are_names (_ ∷ rest) = are_names rest

  -- an operator takes these names and children: one of each position and slot, of the slots' kinds
  pub record Takes (op : Operator) (names : List Name) (children : List SummaryParts) : Type 0 where
    pub names_fit : length (are_names op.items) ≡ length names
    pub kinds_fit : map (λ (s : SummaryParts). s.kind) children ≡ slot_kinds op.items
    pub summaries : AllByRecursion IsSummary children

  abbrev pub TakesAt : ℕ → List Name → List SummaryParts → Type 0
  TakesAt o names children = (op : Operator) × (slice_get def.operators o ≡ Some op) × Takes op names children

  -- a cell of the list takes these
  pub record TakesCell (l : ℕ) (element rest : SummaryParts) : Type 0 where
    pub list : ListKind
    pub found : slice_get def.lists l ≡ Some list
    pub element_kind : element.kind ≡ kinds.Phylum list.element
    pub rest_kind : rest.kind ≡ kinds.List l
    pub summaries : AllByRecursion IsSummary (element ∷ rest ∷ [])

  -- the spaces in which the list's elements declare, ascending
  pub record AreSpacesOfList (l : ℕ) (spaces : List ℕ) : Type 0 where
    pub ascending : AreAscending spaces
    pub exact : (s : ℕ) → has_space spaces s ≡ is_declaring def s (kinds.List l)

  -- the step is the first whose relation passes the limit
  pub record IsFirstPassing (f : Fragment) (step : ℕ) : Type 0 where
    pub there : step ≤ last_step def f
    pub passes : PassesAt def f step
    pub first : (k : ℕ) → k < step → PassesAt def f k → ⊥

  abbrev pub StaysWithin : Fragment → Type 0
  StaysWithin f = (k : ℕ) → k ≤ last_step def f → PassesAt def f k → ⊥

  -- the tree's summary, where no step passes the limit; the first step that does; or that memory ran out
  abbrev pub Answers : Fragment → Result SummaryParts EvalFault → Type 0
  Answers f (Ok s) = IsSummaryOf f s × StaysWithin f
  Answers f (Err (faults.Wide step)) = IsFirstPassing f step
  Answers f (Err faults.Memory) = Unit {0}
