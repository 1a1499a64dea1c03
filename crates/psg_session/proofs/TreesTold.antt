-- The summary of a tree from those of its parts, whether or not its steps are within the limit.
use Rattle.std.proofs.Common.{◌≡◌, ◌⊎◌, inl, inr, ℕ, zero, suc, ◌+◌, ◌-◌, ◌<◌, Bool, true, false, List, [], ◌∷◌, ◌++◌, map, length, Some, slice_get, refl, sym, ◌∙◌, ap, subst, length-append, arith}
use Rattle.std.specs.List.{AllByRecursion, sum_by}
use Rattle.std.proofs.lemmas.Bool.Decides.{eqb_tells}
use Rattle.std.proofs.lemmas.List.{length-map}
use Rattle.std.proofs.lemmas.List.Sums.{sum_by-cons}
use Rattle.psg_terms.specs.Names.{Name}
use Rattle.psg_terms.specs.Terms.{Term}
use Rattle.psg_terms.specs.Relations.{first, IsIn, IsRelation, later}
use Rattle.psg_grammar.specs.declared.types.Kind.{Kind}
use Rattle.psg_grammar.specs.declared.types.Kind.TheVariants as kinds
use Rattle.psg_grammar.specs.declared.types.HoleRow.{HoleRow}
use Rattle.psg_grammar.specs.declared.types.ListKind.{ListKind}
use Rattle.psg_grammar.specs.declared.types.Operator.{Operator}
use Rattle.psg_grammar.specs.declared.types.Definition.{Definition}
use Rattle.psg_grammar.specs.Declaring.{is_declaring}
use Rattle.psg_grammar.specs.Fragments.{cell, children_of, ending, Fragment, hole}
use Rattle.psg_grammar.specs.Kinds.{IsOfKind}
use Rattle.psg_grammar.specs.Lookups.{is_scope}
use Rattle.psg_grammar.specs.Relations.{IsPossible}
use Rattle.psg_grammar.specs.Sound.{HasKindSort, IsSound}
use Rattle.psg_grammar.proofs.SoundParts.{operator_sound}
use Rattle.psg_relation.specs.Choices.{AllHaveSorts, IsOfRow}
use Rattle.psg_relation.proofs.Existing.{relation_exists}
use Rattle.psg_scope.specs.declared.header.Header.{Header}
use Rattle.psg_scope.specs.Headers.{IsHeader, keys}
use Rattle.psg_scope.proofs.HeaderLaws.{ordered-of}
use Rattle.psg_eval.specs.declared.summary.SummaryParts.{SummaryParts}
use Rattle.psg_eval.specs.OwnRows.{AreHoleRows, whole_row}
use Rattle.psg_eval.specs.Partials.{IsAdded, IsPartial}
use Rattle.psg_eval.specs.Stages.{IsInside, IsStep, kinds_of}
use Rattle.psg_eval.specs.Summaries.{AllSummaries, are_names, IsHeaderOf, IsSummary, IsSummaryOf, slot_kinds}
use Rattle.psg_eval.specs.Trees.{HasParts, IsNode, seen_in}
use Rattle.psg_eval.proofs.CellRows.{cell_partial, cell_sorted, cell_sorts, whole_summary}
use Rattle.psg_eval.proofs.CellSteps.{cell_one, cell_start, cell_two}
use Rattle.psg_eval.proofs.Cells.{cell_first, list_no_scope}
use Rattle.psg_eval.proofs.Ends.{end_relation, hole_relation, open_end_relation}
use Rattle.psg_eval.proofs.LeafAnswers.{hole_sorts, nil_sorts, no_header, phylum_sort}
use Rattle.psg_eval.proofs.LeafRows.{AreOfKind, of_all, of_none}
use Rattle.psg_eval.proofs.Nodes.{as_many, child_at, node_kind, node_seen}
use Rattle.psg_eval.proofs.PartialSorts.{key_sorts_many, kind_sorts_many}
use Rattle.psg_eval.proofs.RegionSteps.{count_is}
use Rattle.psg_eval.proofs.Stepping.{close_ok, closed_whole, first_ok, first_twice, next_ok, next_twice, open_ok, whole_inside}
use Rattle.psg_session.proofs.Parts.{Partial}
use Rattle.psg_session.proofs.Spaces.{some_spaces}
use Rattle.psg_session.proofs.StepsMade.{Begun, some_added, some_begun, some_closed}

kind_or : (a b : Kind) → (a ≡ b) ⊎ (a ≡ b → ⊥)
kind_or (kinds.Phylum p) (kinds.Phylum q) = elim (eqb_tells p q) [
  | inl e ↦ inl (ap kinds.Phylum e.1)
  | inr e ↦ inr (λ d. e.1 cc)
]
kind_or (kinds.List l) (kinds.List m) = elim (eqb_tells l m) [
  | inl e ↦ inl (ap kinds.List e.1)
  | inr e ↦ inr (λ d. e.1 cc)
]
kind_or (kinds.Phylum p) (kinds.List m) = inr (λ d. cc)
kind_or (kinds.List l) (kinds.Phylum q) = inr (λ d. cc)

-- ---- hole rows of a kind

module _ (kind : Kind) (h : HoleRow) (hs : List HoleRow) (rows : List (List Term)) (are : AreOfKind hs kind rows) where
  abbrev Source : List HoleRow → List Term → Type 0
  Source all row = (r : ℕ) × (x : HoleRow) × (slice_get all r ≡ Some x) × (x.kind ≡ kind) × (row ≡ x.term ∷ [])

  source_later : (row : List Term) → Source hs row → Source (h ∷ hs) row
  source_later row (r, x, at, of, is) = (suc r, x, at, of, is)

  taken_from : h.kind ≡ kind → (row : List Term) → IsIn row ((h.term ∷ []) ∷ rows) → Source (h ∷ hs) row
  taken_from same row first = (0, h, refl, same, refl)
  taken_from same row (later i) = source_later row (are.from row i)

  taken_to : (r : ℕ) (x : HoleRow) → slice_get (h ∷ hs) r ≡ Some x → x.kind ≡ kind
      → IsIn (x.term ∷ []) ((h.term ∷ []) ∷ rows)
  taken_to zero x at of = let same : h ≡ x = cc in subst (λ (z : HoleRow). IsIn (z.term ∷ [])
      ((h.term ∷ []) ∷ rows)) same first
  taken_to (suc r) x at of = later (are.to r x at of)

  left_to : (h.kind ≡ kind → ⊥) → (r : ℕ) (x : HoleRow) → slice_get (h ∷ hs) r ≡ Some x → x.kind ≡ kind
      → IsIn (x.term ∷ []) rows
  left_to other zero x at of = let same : h ≡ x = cc in absurd (other (ap (λ (z : HoleRow). z.kind) same ∙ of))
  left_to other (suc r) x at of = are.to r x at of

rows_of_kind : (hs : List HoleRow) (kind : Kind) → (rows : List (List Term)) × AreOfKind hs kind rows
rows_of_kind [] kind = ([], of_none kind)
rows_of_kind (h ∷ hs) kind =
    let (rows, are) = rows_of_kind hs kind in
    elim (kind_or h.kind kind) [
      | inl same ↦ (
        (h.term ∷ []) ∷ rows,
        record {
          from = taken_from kind h hs rows are same;
          to = taken_to kind h hs
              rows are;
        },
      )
      | inr other ↦ (
        rows,
        record {
          from = λ row i. source_later kind h hs rows are row (are.from row i);
          to = left_to
              kind h hs rows are other;
        },
      )
    ]

module _ (def : Definition) (sound : IsSound def) where
  some_hole_rows : (kind : Kind) → (rows : List (List Term)) × AreHoleRows def kind rows
  some_hole_rows kind =
      let (rows, are) = rows_of_kind def.hole_rows kind in (rows, of_all def def.hole_rows kind rows refl are)

  -- the tree of the kind has a summary
  pub record Told (f : Fragment) (kind : Kind) : Type 0 where
    pub known : SummaryParts
    pub kind_is : known.kind ≡ kind
    pub of : IsSummaryOf def f known
    pub usual : IsSummary def known

  -- ---- trees without children

  module _ (f : Fragment) (kind : Kind) (spaces : List ℕ) (unfinished : ℕ
      → Bool) (rows : List (List Term)) (sort : ℕ) where
    abbrev leaf_header : Header
    leaf_header = record { names = []; unfinished = spaces; twice = false }

    leaf : IsOfKind def f kind → IsHeaderOf def f leaf_header → seen_in f ≡ 0 → IsHeader [] [] unfinished leaf_header
        → HasKindSort def kind sort → AllHaveSorts def.signature rows (sort ∷ [])
        → ((made : List (List Term)) → IsRelation def.signature (sort ∷ []) (IsOfRow def.signature rows) made
        → IsRelation def.signature (sort ∷ []) (IsPossible def f) made) → Told f kind
    leaf of_kind header bare is has sorted family =
        let (rel, r) = relation_exists def.signature sound.signature rows (sort ∷ []) sorted in
        record {
          known = record { kind = kind; header = leaf_header; seen = 0; rel = rel };
          kind_is = refl;
          of = record { kind = of_kind; header = header; seen = sym bare; rows = (sort ∷ [], family rel r) };
          usual = record {
            header = ordered-of is;
            sort = sort;
            kind_sort = has;
            seen = [];
            reported = refl;
            key_sorts = [];
            keys_sorted = refl;
            sorted = λ row i. (r.shapes row i).sorted;
          };
        }

  pub hole_told : (p : ℕ) → p < length def.phyla → Told (hole p) (kinds.Phylum p)
  hole_told p there =
      let (s, has) = phylum_sort def p there in
      let (rows, are) = some_hole_rows (kinds.Phylum p) in
      let is = no_header (λ n. false) [] tt (λ n. refl) (record { names = []; unfinished = []; twice = false }) refl in
      leaf (hole p) (kinds.Phylum p) [] (λ n. false) rows s refl is refl is has (hole_sorts def sound (kinds.Phylum p) s
      rows has are)
      (λ made rel. hole_relation def sound (s ∷ []) p rows made are rel)

  pub end_told : (l : ℕ) (u : Bool) (list : ListKind) → slice_get def.lists l ≡ Some list
      → Told (ending l u) (kinds.List l)
  end_told l true list found =
      let (rows, are) = some_hole_rows (kinds.List l) in
      let (spaces, known) = some_spaces def sound l in
      let has : HasKindSort def (kinds.List l) list.sort.0 = (list, found, refl) in
      let is = no_header (λ n. is_declaring def n (kinds.List l)) spaces known.ascending known.exact
      (record { names = []; unfinished = spaces; twice = false }) refl in
      leaf (ending l true) (kinds.List l) spaces (λ n. is_declaring def n (kinds.List l)) rows list.sort.0 refl is refl
      is has
      (hole_sorts def sound (kinds.List l) list.sort.0 rows has are)
      (λ made rel. open_end_relation def sound (list.sort.0 ∷ []) l rows made are rel)
  end_told l false list found =
      let is = no_header (λ n. false) [] tt (λ n. refl) (record { names = []; unfinished = []; twice = false }) refl in
      leaf (ending l false) (kinds.List l) [] (λ n. false) (map (λ t. t ∷ []) list.nil_rows) list.sort.0 refl is refl is
      (list, found, refl)
      (nil_sorts def sound l list found) (λ made rel. end_relation def sound (list.sort.0 ∷ []) l list made found rel)

  -- ---- cells

  pub cell_told : (l : ℕ) (e r : Fragment) (list : ListKind) → slice_get def.lists l ≡ Some list
      → Told e (kinds.Phylum list.element) → Told r (kinds.List l) → Told (cell l e r) (kinds.List l)
  cell_told l e r list found one two =
      let ss = cell_sorts def sound l list found in
      let (rel, made) = relation_exists def.signature sound.signature (map whole_row list.cell_rows) ss (cell_sorted def
      sound l list found) in
      let h : Header = record { names = []; unfinished = []; twice = false } in
      let begin : Partial def = record { header = h; seen = 0; wanted = 2; rel = rel } in
      let part : IsPartial def (kinds.List l) (kinds.Phylum list.element ∷ kinds.List l ∷ []) begin =
      cell_partial def sound l list found h rel refl (λ row i. (made.shapes row i).sorted) in
      let step = cell_start def l e r h ss rel (no_header (λ n. false) [] tt (λ n. refl) h refl)
      (cell_first def l e r ss list rel sound found made) in
      let part1 = subst (λ k. IsPartial def (kinds.List l) (k ∷ kinds.List l ∷ []) begin) (sym one.kind_is) part in
      let a = some_added def sound (kinds.List l) (kinds.List l ∷ []) begin one.known part1 one.usual in
      let step1 = cell_one def l e r (kinds.List l) begin one.known (kinds.List l) part1 one.of step a.next.header
      a.next.rel a.added in
      let part2 = subst (λ k. IsPartial def (kinds.List l) (k ∷ []) a.next) (sym two.kind_is) a.partial in
      let b = some_added def sound (kinds.List l) [] a.next two.known part2 two.usual in
      let flat = list_no_scope def l r (subst (IsOfKind def r) two.kind_is two.of.kind) in
      let step2 = cell_two def l e r (kinds.List l) a.next two.known flat part2 two.of step1 b.next.header b.next.rel
      b.added in
      let whole = open_ok def (cell l e r) b.next.header b.next.rel refl step2 in
      let seen_a = a.seen in
      let seen_b = b.seen in
      let seen_e = one.of.seen in
      let seen_r = two.of.seen in
      record {
        known = record { kind = kinds.List l; header = b.next.header; seen = b.next.seen; rel = b.next.rel };
        kind_is = refl;
        of = record {
          kind = refl;
          header = whole.0;
          seen = omega (arith, seen_a, seen_b, seen_e, seen_r);
          rows =
              whole.1;
        };
        usual = whole_summary def (kinds.List l) b.next b.partial;
      }

  -- ---- operators

  abbrev pub seen_by : List SummaryParts → ℕ
  seen_by ss = sum_by (λ (s : SummaryParts). s.seen) ss

  module _ (f : Fragment) (parts : HasParts def f []) (kind : Kind) where
    -- one child more
    added_step : (n : ℕ) (t : Fragment) → slice_get (children_of f) n ≡ Some t
        → (more : List Kind) (p : Partial def) (s : SummaryParts)
        → length (s.kind ∷ more) ≡ length (children_of f) - n → IsPartial def kind (s.kind ∷ more) p
        → IsSummaryOf def t s
        → IsStep def f n p.header p.rel → (h : Header) (rows : List (List Term)) → IsAdded def p s h rows
        → IsStep def f (n + 1) h rows
    added_step n t at more p s many part summary step h rows is = by (h.twice) refl where
      by : (b : Bool) → h.twice ≡ b → IsStep def f (n + 1) h rows
      by true e = subst (IsStep def f (n + 1) h) (sym (is.none e)) (next_twice def f parts t s n at summary p.header h
          p.rel step is.region e)
      by false e =
          let (ss, rel) = is.made e in
          let sorts : List ℕ = ((part.sort ∷ part.seen) ++ part.wanted) ++ part.key_sorts in
          let ks = key_sorts_many def p.header.names part.key_sorts part.keys_sorted in
          let ws = kind_sorts_many def (s.kind ∷ more) part.wanted part.wanted_sorts in
          let seen = part.reported in
          let all = length-append ((part.sort ∷ part.seen) ++ part.wanted) part.key_sorts in
          let front = length-append (part.sort ∷ part.seen) part.wanted in
          let width : length sorts ≡ 1 + p.seen + (length (children_of f) - n) + length (keys p.header.names) =
          omega (arith, ks, ws, many, seen, all, front) in
          next_ok def f parts t s n at summary p.header h p.rel step is.region p.seen sorts ss rows part.sorted width e
          rel

    pub record Filled (begun : ℕ) (rest : List SummaryParts) : Type 0 where
      pub next : Partial def
      pub step : IsStep def f (length (children_of f)) next.header next.rel
      pub partial : IsPartial def kind [] next
      pub seen : next.seen ≡ begun + seen_by rest

    fill : (rest : List SummaryParts) (n : ℕ) (p : Partial def) → n + length rest ≡ length (children_of f)
        → ((j : ℕ) (s : SummaryParts) → slice_get rest j ≡ Some s
        → (t : Fragment) × (slice_get (children_of f) (n + j) ≡ Some t) × IsSummaryOf def t s)
        → AllByRecursion (IsSummary def) rest → IsPartial def kind (kinds_of rest) p → IsStep def f n p.header p.rel
        → Filled p.seen rest
    fill [] n p total at usual part step =
        let whole : n ≡ length (children_of f) = omega (arith, total) in
        record {
          next = p;
          step = subst (λ k. IsStep def f k p.header p.rel) whole step;
          partial = part;
          seen = let z : p.seen ≡ p.seen + 0 = omega arith in z;
        }
    fill (s ∷ rest) n p total at usual part step =
        let (t, there, summary) = at 0 s refl in
        let here : slice_get (children_of f) n ≡ Some t = let e : n ≡ n + 0 = omega arith in ap (slice_get (children_of
        f)) e ∙ there in
        let k = length-map rest (λ (x : SummaryParts). x.kind) in
        let many : length (s.kind ∷ kinds_of rest) ≡ length (children_of f) - n = omega (arith, total, k) in
        let a = some_added def sound kind (kinds_of rest) p s part usual.0 in
        let next_step = added_step n t here (kinds_of rest) p s many part summary step a.next.header a.next.rel a.added
        in
        let whole = fill rest (n + 1) a.next (omega (arith, total))
        (λ j x e. let (u, d, is) = at (suc j) x e in
        let q : n + 1 + j ≡ n + suc j = omega arith in
        (u, ap (slice_get (children_of f)) q ∙ d, is)) usual.1 a.partial next_step in
        let seen_a = a.seen in
        let seen_b = whole.seen in
        let cons = sum_by-cons (λ (x : SummaryParts). x.seen) s rest in
        record {
          next = whole.next;
          step = whole.step;
          partial = whole.partial;
          seen = added_up whole.next.seen a.next.seen p.seen s.seen (seen_by rest)
              (seen_by (s ∷ rest)) seen_b seen_a cons;
        }
      where
        added_up : (w a p s r rs : ℕ) → w ≡ a + r → a ≡ p + s → rs ≡ s + r → w ≡ p + rs
        added_up w a p s r rs e d c = omega (arith, e, d, c)

  -- an operator with these names and children
  pub operator_told : (o : ℕ) (op : Operator) → slice_get def.operators o ≡ Some op → (names : List Name) (f : Fragment)
      → IsNode def o names f → length (are_names def op.items) ≡ length names → (ss : List SummaryParts)
      → AllSummaries def (children_of f) ss → AllByRecursion (IsSummary def) ss → kinds_of ss ≡ slot_kinds def op.items
      → Told f (kinds.Phylum op.phylum)
  operator_told o op found names f node fits ss sums usual slots =
      whole (is_scope def f) refl
    where
      kind : Kind
      kind = kinds.Phylum op.phylum

      begun : Begun def sound op names
      begun = some_begun def sound op names (operator_sound def sound o op found) fits

      first_step : IsStep def f 0 begun.next.header begun.next.rel
      first_step = by (begun.next.header.twice) refl where
        by : (b : Bool) → begun.next.header.twice ≡ b → IsStep def f 0 begun.next.header begun.next.rel
        by true e = subst (IsStep def f 0 begun.next.header) (sym (begun.own.none e))
            (first_twice def f o op found names node begun.next.header begun.own.region e)
        by false e = let (rs, rel) = begun.own.made e in first_ok def f o op found names node begun.next.header
            begun.own.region rs begun.next.rel sound e rel

      filled : Filled f node.parts (kinds.Phylum op.phylum) begun.next.seen ss
      filled = fill f node.parts (kinds.Phylum op.phylum) ss 0 begun.next (let z = as_many def (children_of f) ss sums
          in omega (arith, z))
          (λ j s e. let (t, at, is) = child_at def (children_of f) ss sums j s e in
          let q : 0 + j ≡ j = omega arith in (t, ap (slice_get (children_of f)) q ∙ at, is))
          usual (subst (λ ks. IsPartial def (kinds.Phylum op.phylum) ks begun.next)
          (sym slots) begun.partial) first_step

      inside : IsInside def f filled.next.header filled.next.rel
      inside = whole_inside def f filled.next.header filled.next.rel node.parts
          (subst (λ n. IsStep def f n filled.next.header filled.next.rel)
          (sym (count_is def f [] node.parts)) filled.step)

      seen : filled.next.seen ≡ seen_in f
      seen = filled.seen ∙ ap (λ n. n + seen_by ss) begun.seen ∙ (let z : 0 + seen_by ss ≡ seen_by ss = omega arith in
          z)
          ∙ node_seen def f ss node.parts sums

      whole : (b : Bool) → is_scope def f ≡ b → Told f (kinds.Phylum op.phylum)
      whole false flat =
          let all = open_ok def f filled.next.header filled.next.rel flat inside in
          record {
            known = record {
              kind = kinds.Phylum op.phylum;
              header = filled.next.header;
              seen = filled.next.seen;
              rel =
                  filled.next.rel;
            };
            kind_is = refl;
            of = record { kind = node_kind def o op found names f node; header = all.0; seen = seen; rows = all.1 };
            usual = whole_summary def (kinds.Phylum op.phylum) filled.next filled.partial;
          }
      whole true scope =
          let c = some_closed def sound (kinds.Phylum op.phylum) filled.next filled.partial in
          let rel = close_ok def f scope filled.next.header c.next.header filled.next.rel inside c.closed.region
          c.closed.sorts c.next.rel c.closed.made in
          record {
            known = record {
              kind = kinds.Phylum op.phylum;
              header = c.next.header;
              seen = c.next.seen;
              rel =
                  c.next.rel;
            };
            kind_is = refl;
            of = record {
              kind = node_kind def o op found names f node;
              header = closed_whole def f scope filled.next.header c.next.header filled.next.rel inside c.closed.region;
              seen = c.seen ∙ seen;
              rows = (c.closed.sorts, rel);
            };
            usual = whole_summary def (kinds.Phylum op.phylum) c.next c.partial;
          }
