-- The work of patterns, where a comparison of two symbols counts 1. What is more than 64 bits hold counts as the
-- greatest number of 64 bits.
use Rattle.std.specs.Prelude.{ℕ, ◌≡◌, ◌+◌, ◌*◌, ◌-◌, ◌^◌, min, List, [], ◌∷◌, length, Option, Some, None, Ok}
use Rattle.std.specs.Prelude.{slice_get}
use Rattle.psg_terms.specs.Names.{Name}
use Rattle.psg_terms.specs.Terms.{Term}
use Rattle.psg_terms.specs.Weight.{weight_of}
use Rattle.psg_grammar.specs.declared.types.Definition.{Definition}
use Rattle.psg_grammar.specs.declared.types.ListKind.{ListKind}
use Rattle.psg_grammar.specs.declared.types.Operator.{Operator}
use Rattle.psg_eval.specs.declared.partial.Partial.{Partial}
use Rattle.psg_eval.specs.declared.summary.SummaryParts.{SummaryParts}
use Rattle.psg_eval.specs.Own.{IsOwnStep}
use Rattle.psg_eval.specs.Patterns.{MatchPart, seen_of}
use Rattle.psg_eval.specs.Stages.{IsCellStart}

-- In a join each row of one side meets each row of the other: the symbols of each side are read once for each row of
-- the other.
abbrev pub join_work : List (List Term) → List (List Term) → ℕ
join_work left right = weight_of left * length right + weight_of right * length left

-- each of that many terms in each of that many rows counts 8
abbrev pub rows_work : ℕ → ℕ → ℕ
rows_work rows terms = 8 * rows * terms

-- to add the child to these rows: a place keeps them and takes no work
abbrev pub part_work : List (List Term) → Option SummaryParts → ℕ
part_work rows (Some s) = min (join_work rows s.rel) (2 ^ 64 - 1)
part_work rows None = 0

module _ (def : Definition) where
  -- `last` is the node `first` with these children, one after the other, and to add them takes this work together.
  -- How many values are seen is said too, since where a row is cut, and so which rows are joined, depends on it.
  abbrev pub AreJoined : Partial → List (Option SummaryParts) → Partial → ℕ → Type 0
  AreJoined first [] last work = (last ≡ first) × (work ≡ 0)
  AreJoined first (child ∷ more) last work = (next : Partial) × (others : ℕ) × MatchPart def first child (Ok next)
      × (next.seen ≡ first.seen + seen_of child) × AreJoined next more last others
      × (work ≡ part_work first.rel child + others)

  -- the operator's own rows are made, each with a head and a term for each item, and the children are added
  pub record IsWholeWork (op : Operator) (names : List Name) (children : List (Option SummaryParts)) (whole : Partial)
      (work : ℕ) : Type 0 where
    pub first : Partial
    pub own : IsOwnStep def op names first.header first.rel
    pub none_seen : first.seen ≡ 0
    pub joins : ℕ
    pub joined : AreJoined first children whole joins
    pub all : work ≡ min (rows_work (length op.rows) (length op.items + 1)) (2 ^ 64 - 1) + joins

  -- at last the rows are read once more, for what passes outward
  abbrev pub IsNodeWork : Operator → List Name → List (Option SummaryParts) → ℕ → Type 0
  IsNodeWork op names children work = (whole : Partial) × (before : ℕ) × IsWholeWork op names children whole before
      × (work ≡ before + weight_of whole.rel)

  -- the list's cell rows are made, each with three terms, and the element and the list after it are added
  pub record IsCellWork (l : ℕ) (element rest : Option SummaryParts) (work : ℕ) : Type 0 where
    pub list : ListKind
    pub found : slice_get def.lists l ≡ Some list
    pub first : Partial
    pub begun : IsCellStart def l first.header first.rel
    pub none_seen : first.seen ≡ 0
    pub whole : Partial
    pub joins : ℕ
    pub joined : AreJoined first (element ∷ rest ∷ []) whole joins
    pub all : work ≡ min (rows_work (length list.cell_rows) 3) (2 ^ 64 - 1) + joins
