-- The cell rows of a list, and the answer for a cell.
use Rattle.std.proofs.Common.{◌≡◌, ℕ, ◌+◌, false, List, [], ◌∷◌, ◌++◌, map, refl, ap, ap₂, sym, ◌∙◌, subst, Some, slice_get, append-nil, arith}
use Rattle.psg_terms.proofs.Lists.{each_in}
use Rattle.std.specs.Prelude.{Result, Ok, IfOk}
use Rattle.std.specs.List.{AllByRecursion}
use Rattle.psg_terms.specs.Terms.{Term}
use Rattle.psg_terms.specs.Signature.{HaveSorts}
use Rattle.psg_terms.specs.Weight.{PassesLimit}
use Rattle.psg_grammar.specs.declared.types.Definition.{Definition}
use Rattle.psg_grammar.specs.declared.types.Kind.{Kind}
use Rattle.psg_grammar.specs.declared.types.Kind.TheVariants as kinds
use Rattle.psg_grammar.specs.declared.types.ListKind.{ListKind}
use Rattle.psg_grammar.specs.declared.types.Row.{Row}
use Rattle.psg_grammar.specs.Fragments.{Fragment, cell}
use Rattle.psg_grammar.specs.Sound.{IsListKind, IsRow, IsSound}
use Rattle.psg_grammar.proofs.SoundParts.{list_sound}
use Rattle.psg_relation.specs.Choices.{AllHaveSorts}
use Rattle.psg_relation.proofs.Members.{map-in}
use Rattle.psg_relation.specs.declared.relation.RelFault.{RelFault}
use Rattle.psg_scope.specs.declared.header.Header.{Header}
use Rattle.psg_scope.proofs.HeaderLaws.{ordered-of}
use Rattle.psg_eval.specs.declared.partial.Partial.{Partial}
use Rattle.psg_eval.specs.declared.summary.SummaryParts.{SummaryParts}
use Rattle.psg_eval.specs.OwnRows.{whole_row}
use Rattle.psg_eval.specs.Partials.{IsAdded, IsPartial, MatchStep}
use Rattle.psg_eval.specs.Starts.{IsCellBegun}
use Rattle.psg_eval.specs.Stages.{IsCellStart, IsMade, IsNumbered}
use Rattle.psg_eval.specs.Summaries.{AreKeySorts, IsFirstPassing, IsSummary, IsSummaryOf, StaysWithin, TakesCell}
use Rattle.psg_eval.proofs.Assembling.{made_first, made_more, wide_first, wide_more}
use Rattle.psg_eval.proofs.CellSteps.{cell_one, cell_start, cell_two}
use Rattle.psg_eval.proofs.Cells.{list_no_scope}
use Rattle.psg_eval.proofs.LeafAnswers.{no_header}
use Rattle.psg_eval.proofs.Numbers.{numbered_if, numbered_step}
use Rattle.psg_eval.proofs.Stepping.{open_ok}

-- rows of the definition have the sorts of their heads and columns
pub rows_sorted : (def : Definition) (head : ℕ) (columns : List ℕ) (rows : List Row) → AllByRecursion (IsRow def head columns) rows
    → AllHaveSorts def.signature (map whole_row rows) (head ∷ columns)
rows_sorted def head columns rows each row i =
    let (source, j, d) = map-in whole_row row rows i in
    let is = each_in (IsRow def head columns) source rows each j in
    subst (λ z. HaveSorts def.signature z (head ∷ columns)) (sym d) (is.of_head.0, is.of_columns)

-- a node all of whose children are added has a summary
pub whole_summary : (def : Definition) (kind : Kind) (p : Partial) → IsPartial def kind [] p → IsSummary def (record { kind = kind; header = p.header; seen = p.seen; rel = p.rel })
whole_summary def kind p part = record {
  header = part.header;
  sort = part.sort;
  kind_sort = part.kind_sort;
  seen = part.seen;
  reported = part.reported;
  key_sorts = part.key_sorts;
  keys_sorted = part.keys_sorted;
  sorted = subst (AllHaveSorts def.signature p.rel)
      (ap (λ w. ((part.sort ∷ part.seen) ++ w) ++ part.key_sorts) part.wanted_sorts ∙ ap (λ l. l ++ part.key_sorts) (append-nil (part.sort ∷ part.seen))) part.sorted;
}

module _ (def : Definition) (sound : IsSound def) (l : ℕ) (list : ListKind) (found : slice_get def.lists l ≡ Some list) where
  abbrev shape : IsListKind def list
  shape = list_sound def sound l list found

  abbrev pub cell_sorts : List ℕ
  cell_sorts = list.sort.0 ∷ shape.element ∷ list.sort.0 ∷ []

  pub cell_sorted : AllHaveSorts def.signature (map whole_row list.cell_rows) cell_sorts
  cell_sorted = rows_sorted def list.sort.0 (shape.element ∷ list.sort.0 ∷ []) list.cell_rows shape.cells

  pub cell_partial : (h : Header) (made : List (List Term)) → h ≡ record { names = []; unfinished = []; twice = false } → AllHaveSorts def.signature made cell_sorts
      → IsPartial def (kinds.List l) (kinds.Phylum list.element ∷ kinds.List l ∷ []) (record { header = h; seen = 0; wanted = 2; rel = made })
  cell_partial h made none sorted = record {
    header = ordered-of (no_header (λ n. false) [] tt (λ n. refl) h none);
    sort = list.sort.0;
    kind_sort = (list, found, refl);
    seen = [];
    reported = refl;
    wanted = shape.element ∷ list.sort.0 ∷ [];
    wanted_sorts = (shape.element, list.sort.0 ∷ [], refl, shape.element_sort, (list.sort.0, [], refl, (list, found, refl), refl));
    many = refl;
    few = omega arith;
    key_sorts = [];
    keys_sorted = subst (λ (x : Header). AreKeySorts def x.names []) (sym none) refl;
    sorted = sorted;
  }

-- what the steps keep, by the kinds that a cell takes
module _ (def : Definition) (l : ℕ) (element rest : SummaryParts) (t : TakesCell def l element rest) where
  pub start_partial : (made : Result Partial RelFault) (begin : Partial) → IsNumbered made 0 (Ok begin)
      → IfOk made (λ (p : Partial). (kind : ListKind) → slice_get def.lists l ≡ Some kind → IsPartial def (kinds.List l) (kinds.Phylum kind.element ∷ kinds.List l ∷ []) p)
      → IsPartial def (kinds.List l) (element.kind ∷ rest.kind ∷ []) begin
  start_partial made begin e h =
      let part = numbered_if (λ (p : Partial). (kind : ListKind) → slice_get def.lists l ≡ Some kind → IsPartial def (kinds.List l) (kinds.Phylum kind.element ∷ kinds.List l ∷ []) p) made 0 begin e h in
      subst (λ (k : Kind). IsPartial def (kinds.List l) (k ∷ rest.kind ∷ []) begin) (sym t.element_kind)
      (subst (λ (k : Kind). IsPartial def (kinds.List l) (kinds.Phylum t.list.element ∷ k ∷ []) begin) (sym t.rest_kind) (part t.list t.found))

  pub begun_kinds : (begin : Partial) → IsCellBegun def l begin → IsPartial def (kinds.List l) (element.kind ∷ rest.kind ∷ []) begin
  begun_kinds begin begun =
      subst (λ (k : Kind). IsPartial def (kinds.List l) (k ∷ rest.kind ∷ []) begin) (sym t.element_kind)
      (subst (λ (k : Kind). IsPartial def (kinds.List l) (kinds.Phylum t.list.element ∷ k ∷ []) begin) (sym t.rest_kind) (begun.partial t.list t.found))

-- the first step of a cell
pub cell_begun : (def : Definition) (l : ℕ) (made : Result Partial RelFault) (begin : Partial) → IsNumbered made 0 (Ok begin) → MatchStep (IsCellStart def l) made
    → IfOk made (λ (p : Partial). (kind : ListKind) → slice_get def.lists l ≡ Some kind → IsPartial def (kinds.List l) (kinds.Phylum kind.element ∷ kinds.List l ∷ []) p)
    → IfOk made (λ (p : Partial). p.seen ≡ 0) → IsCellBegun def l begin
cell_begun def l made begin e step part seen = record {
  step = numbered_step (IsCellStart def l) made 0 begin e step;
  partial = numbered_if (λ (p : Partial). (kind : ListKind) → slice_get def.lists l ≡ Some kind → IsPartial def (kinds.List l) (kinds.Phylum kind.element ∷ kinds.List l ∷ []) p) made 0 begin e part;
  seen = numbered_if (λ (p : Partial). p.seen ≡ 0) made 0 begin e seen;
}

-- a step keeps what is known of the node
pub next_step : (def : Definition) (kind child : Kind) (others : List Kind) (before : Partial) (made : Result Partial RelFault) (n : ℕ) (after : Partial) → IsNumbered made n (Ok after)
    → IfOk made (λ (p : Partial). (k : Kind) (ks : List Kind) → IsPartial def k (child ∷ ks) before → IsPartial def k ks p) → IsPartial def kind (child ∷ others) before → IsPartial def kind others after
next_step def kind child others before made n after e h part =
    numbered_if (λ (p : Partial). (k : Kind) (ks : List Kind) → IsPartial def k (child ∷ ks) before → IsPartial def k ks p) made n after e h kind others part

pub next_seen : (b c : ℕ) (made : Result Partial RelFault) (n : ℕ) (after : Partial) → IsNumbered made n (Ok after) → IfOk made (λ (p : Partial). p.seen ≡ b + c) → b ≡ 0 → after.seen ≡ c
next_seen b c made n after e h silent = numbered_if (λ (p : Partial). p.seen ≡ b + c) made n after e h ∙ (let z : b + c ≡ c = omega arith in z)

module _ (def : Definition) (sound : IsSound def) (l : ℕ) (e r : Fragment) (element rest : SummaryParts) (one : IsSummaryOf def e element) (two : IsSummaryOf def r rest) where
  -- ---- the steps

  pub start_made : (p : Partial) → IsCellStart def l p.header p.rel → (PassesLimit p.rel → ⊥) → IsMade def (cell l e r) 0 p
  start_made p is light = made_first def (cell l e r) sound.signature p (cell_start def l e r p.header is.sorts p.rel is.region is.made) light

  pub start_wide : (h : Header) (rows : List (List Term)) → IsCellStart def l h rows → PassesLimit rows → IsFirstPassing def (cell l e r) 0
  start_wide h rows is passes = wide_first def (cell l e r) sound.signature h rows (cell_start def l e r h is.sorts rows is.region is.made) passes

  module _ (kind other : Kind) (p : Partial) (part : IsPartial def kind (element.kind ∷ other ∷ []) p) (made : IsMade def (cell l e r) 0 p) where
    pub element_made : (q : Partial) → IsAdded def p element q.header q.rel → (PassesLimit q.rel → ⊥) → IsMade def (cell l e r) 1 q
    element_made q is light = made_more def (cell l e r) sound.signature 0 p q (omega arith) made (cell_one def l e r kind p element other part one made.step q.header q.rel is) light

    pub element_wide : (h : Header) (rows : List (List Term)) → IsAdded def p element h rows → PassesLimit rows → IsFirstPassing def (cell l e r) 1
    element_wide h rows is passes = wide_more def (cell l e r) sound.signature 0 p h rows (omega arith) made (cell_one def l e r kind p element other part one made.step h rows is) passes

  module _ (kind : Kind) (of_list : rest.kind ≡ kinds.List l) (p : Partial) (part : IsPartial def kind (rest.kind ∷ []) p) (made : IsMade def (cell l e r) 1 p) where
    no_scope : Rattle.psg_grammar.specs.Lookups.is_scope def r ≡ false
    no_scope = list_no_scope def l r (subst (Rattle.psg_grammar.specs.Kinds.IsOfKind def r) of_list two.kind)

    pub rest_made : (q : Partial) → IsAdded def p rest q.header q.rel → (PassesLimit q.rel → ⊥) → IsMade def (cell l e r) 2 q
    rest_made q is light = made_more def (cell l e r) sound.signature 1 p q (omega arith) made (cell_two def l e r kind p rest no_scope part two made.step q.header q.rel is) light

    pub rest_wide : (h : Header) (rows : List (List Term)) → IsAdded def p rest h rows → PassesLimit rows → IsFirstPassing def (cell l e r) 2
    rest_wide h rows is passes = wide_more def (cell l e r) sound.signature 1 p h rows (omega arith) made (cell_two def l e r kind p rest no_scope part two made.step h rows is) passes

  -- ---- the whole

  pub cell_answer : (p : Partial) → p.seen ≡ element.seen + rest.seen → IsMade def (cell l e r) 2 p
      → IsSummaryOf def (cell l e r) (record { kind = kinds.List l; header = p.header; seen = p.seen; rel = p.rel }) × StaysWithin def (cell l e r)
  cell_answer p seen made =
      let whole = open_ok def (cell l e r) p.header p.rel refl made.step in (
        record { kind = refl; header = whole.0; seen = seen ∙ ap₂ (λ a b. a + b) one.seen two.seen; rows = whole.1 },
        λ k le. made.light k le,
      )
