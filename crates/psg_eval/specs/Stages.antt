-- A node with its first children: what its header and its rows have to be.
use Rattle.std.specs.Prelude.{ℕ, ◌≡◌, ◌≤◌, false, List, [], map, Result, Ok, Err}
use Rattle.psg_terms.specs.Terms.{Term}
use Rattle.psg_terms.specs.Relations.{IsRelation}
use Rattle.psg_grammar.specs.declared.types.Definition.{Definition}
use Rattle.psg_grammar.specs.declared.types.Kind.{Kind}
use Rattle.psg_grammar.specs.declared.types.Kind.TheVariants as kinds
use Rattle.psg_grammar.specs.declared.types.Operator.{Operator}
use Rattle.psg_grammar.specs.Fragments.{Fragment, cell, anything}
use Rattle.psg_grammar.specs.Lookups.{is_scope}
use Rattle.psg_grammar.specs.Regions.{declared_inside, names_inside, unfinished_inside}
use Rattle.psg_grammar.specs.Relations.{IsPossibleInside}
use Rattle.psg_grammar.specs.Steps.{children_count, first_children, PassesAt}
use Rattle.psg_relation.specs.declared.relation.RelFault.{RelFault}
use Rattle.psg_scope.specs.Headers.{IsHeader}
use Rattle.psg_scope.specs.declared.header.Header.{Header}
use Rattle.psg_eval.specs.declared.partial.Partial.{Partial}
use Rattle.psg_eval.specs.declared.summary.SummaryParts.{SummaryParts}
use Rattle.psg_eval.specs.declared.summary.EvalFault.{EvalFault}
use Rattle.psg_eval.specs.declared.summary.EvalFault.TheVariants as faults
use Rattle.psg_eval.specs.Leaves.{IsFaultAt}
use Rattle.psg_eval.specs.Summaries.{IsFirstPassing, IsSummaryOf, StaysWithin}
use Rattle.psg_eval.specs.Trees.{HasParts, seen_in}
use Rattle.psg_grammar.specs.Kinds.{IsOfKind}

module _ (def : Definition) where
  -- the header of what is inside the tree
  abbrev pub IsInsideHeader : Fragment → Header → Type 0
  IsInsideHeader f h = IsHeader (names_inside def f) (declared_inside def f) (λ s. unfinished_inside def s f) h

  -- the header and the rows are those of what is inside the tree
  pub record IsInside (f : Fragment) (h : Header) (rows : List (List Term)) : Type 0 where
    pub header : IsInsideHeader f h
    pub sorts : List ℕ
    pub relation : IsRelation def.signature sorts (IsPossibleInside def f) rows

  -- those of the step n
  abbrev pub IsStep : Fragment → ℕ → Header → List (List Term) → Type 0
  IsStep f n h rows = IsInside (first_children n f) h rows

  -- the step is made, and neither it nor an earlier one passes the limit
  pub record IsMade (f : Fragment) (n : ℕ) (p : Partial) : Type 0 where
    pub step : IsStep f n p.header p.rel
    pub light : (k : ℕ) → k ≤ n → PassesAt def f k → ⊥

  -- the node with its first n children; the first of these steps that passes the limit; or that memory ran out
  abbrev pub MatchMade : Fragment → ℕ → Result Partial EvalFault → Type 0
  MatchMade f n (Ok p) = IsMade f n p
  MatchMade f n (Err (faults.Wide step)) = IsFirstPassing def f step
  MatchMade f n (Err faults.Memory) = Unit {0}

  -- the node as it is seen from outside; or the first of the steps that passes the limit; or that memory ran out
  abbrev pub MatchOuter : Fragment → Kind → Result Partial EvalFault → Type 0
  MatchOuter f kind (Ok q) =
      IsSummaryOf def f (record { kind = kind; header = q.header; seen = q.seen; rel = q.rel }) × StaysWithin def f
  MatchOuter f kind (Err (faults.Wide step)) = IsFirstPassing def f step
  MatchOuter f kind (Err faults.Memory) = Unit {0}

  -- of every node of the operator with `count` children, which is as far as this
  abbrev pub MatchWhole : Operator → Partial → ℕ → Result Partial EvalFault → Type 0
  MatchWhole op whole count result = (f : Fragment) → HasParts def f [] → IsOfKind def f (kinds.Phylum op.phylum)
      → is_scope def f ≡ op.scope → children_count f ≡ count
      → whole.seen ≡ seen_in f → IsMade f count whole → MatchOuter f (kinds.Phylum op.phylum) result

  -- header and rows of a cell of the list without its two children
  pub record IsCellStart (l : ℕ) (h : Header) (rows : List (List Term)) : Type 0 where
    pub region : IsHeader [] [] (λ _. false) h
    pub sorts : List ℕ
    pub made : IsRelation def.signature sorts (IsPossibleInside def (cell l anything anything)) rows

abbrev pub kinds_of : List SummaryParts → List Kind
kinds_of children = map (λ (s : SummaryParts). s.kind) children

-- the same partial node, or the fault as one of the step
abbrev pub IsNumbered : Result Partial RelFault → ℕ → Result Partial EvalFault → Type 0
IsNumbered (Ok p) n (Ok q) = q ≡ p
IsNumbered (Ok p) n (Err e) = ⊥
IsNumbered (Err fault) n (Ok q) = ⊥
IsNumbered (Err fault) n (Err e) = IsFaultAt fault n e
