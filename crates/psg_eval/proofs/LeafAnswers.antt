-- From the relation of its rows to the answer for a tree without children.
use Rattle.std.proofs.Common.{◌≡◌, ℕ, ◌<◌, ◌≤◌, zero, suc, Bool, true, false, List, [], ◌∷◌, map, length, refl, ap, sym, ◌∙◌, subst, Some, slice_get, arith}
use Rattle.psg_terms.proofs.Lists.{each_at}
use Rattle.std.specs.Prelude.{Result, Ok, Err, IfOk}
use Rattle.std.specs.List.{AllByRecursion}
use Rattle.psg_terms.specs.Terms.{Term}
use Rattle.psg_terms.specs.Signature.{HaveSorts, HasSort}
use Rattle.psg_terms.specs.Relations.{IsIn, first, later, IsRelation}
use Rattle.psg_terms.specs.Weight.{PassesLimit}
use Rattle.psg_grammar.specs.declared.types.Definition.{Definition}
use Rattle.psg_grammar.specs.declared.types.Kind.{Kind}
use Rattle.psg_grammar.specs.declared.types.Kind.TheVariants as kinds
use Rattle.psg_grammar.specs.declared.types.ListKind.{ListKind}
use Rattle.psg_grammar.specs.declared.types.Phylum.{Phylum}
use Rattle.psg_grammar.specs.Declaring.{is_declaring}
use Rattle.psg_grammar.specs.Fragments.{Fragment, hole, ending}
use Rattle.psg_grammar.specs.Relations.{IsPossible, IsPossibleInside}
use Rattle.psg_grammar.specs.Sound.{HasKindSort, IsSound}
use Rattle.psg_grammar.specs.Steps.{children_count, first_children, last_step, PassesAt}
use Rattle.psg_relation.specs.Choices.{AllHaveSorts, IsOfRow}
use Rattle.psg_relation.proofs.Members.{map-in}
use Rattle.psg_scope.specs.declared.header.Header.{Header}
use Rattle.psg_scope.proofs.HeaderLaws.{ordered-of}
use Rattle.psg_scope.specs.Headers.{AreAscending, IsHeader, has_space}
use Rattle.psg_eval.specs.declared.summary.EvalFault.{EvalFault}
use Rattle.psg_eval.specs.declared.summary.EvalFault.TheVariants as faults
use Rattle.psg_eval.specs.declared.summary.SummaryParts.{SummaryParts}
use Rattle.psg_eval.specs.Leaves.{IsLeafOf}
use Rattle.psg_eval.specs.OwnRows.{AreHoleRows}
use Rattle.psg_eval.specs.Summaries.{Answers, AreSpacesOfList, IsHeaderOf, IsSummary}
use Rattle.psg_eval.specs.Trees.{seen_in}
use Rattle.psg_grammar.specs.Kinds.{IsOfKind}
use Rattle.psg_eval.proofs.Closing.{inside_relation}
use Rattle.psg_eval.proofs.Ends.{hole_relation, open_end_relation, end_relation}
use Rattle.psg_eval.proofs.Passing.{step_passes, step_stays}
use Rattle.psg_eval.proofs.PartialSorts.{kind_sort_same}

below_one : (k : ℕ) → k < 0 → ⊥
below_one k h = omega arith

only_zero : (k n : ℕ) → k ≤ n → n ≡ 0 → k ≡ 0
only_zero k n h e = omega arith

module _ (def : Definition) (sound : IsSound def) (f : Fragment) (kind : Kind) (h : Header) (rows : List (List Term)) (sort : ℕ)
    (of_kind : IsOfKind def f kind) (header : IsHeaderOf def f h) (bare : seen_in f ≡ 0) (last : last_step def f ≡ 0) (count : children_count f ≡ 0)
    (family : (made : List (List Term)) → IsRelation def.signature (sort ∷ []) (IsOfRow def.signature rows) made → IsRelation def.signature (sort ∷ []) (IsPossible def f) made)
    (inside : (made : List (List Term)) → IsRelation def.signature (sort ∷ []) (IsPossible def f) made → IsRelation def.signature (sort ∷ []) (IsPossibleInside def (first_children 0 f)) made) where
  light : (made : List (List Term)) → IsRelation def.signature (sort ∷ []) (IsOfRow def.signature rows) made → (PassesLimit made → ⊥) → (k : ℕ) → k ≤ last_step def f → PassesAt def f k → ⊥
  light made rel none k le passes =
      step_stays def f sound.signature 0 (sort ∷ []) made (omega arith) (inside made (family made rel)) none (subst (PassesAt def f) (only_zero k (last_step def f) le last) passes)

  pub leaf_answers : (result : Result SummaryParts EvalFault) → IsLeafOf def.signature kind h rows (sort ∷ []) result → Answers def f result
  leaf_answers (Ok s) (ek, eh, er, rel, none) = (
    record {
      kind = subst (IsOfKind def f) (sym ek) of_kind;
      header = subst (IsHeaderOf def f) (sym eh) header;
      seen = er ∙ sym bare;
      rows = (sort ∷ [], family s.rel rel);
    },
    light s.rel rel none,
  )
  leaf_answers (Err (faults.Wide step)) (e, (made, rel, passes)) = record {
    there = omega arith;
    passes = step_passes def f step (sort ∷ []) made (omega arith) (subst (λ n. IsRelation def.signature (sort ∷ []) (IsPossibleInside def (first_children n f)) made) (sym e) (inside made (family made rel))) passes;
    first = λ k l p. below_one k (subst (λ n. k < n) e l);
  }
  leaf_answers (Err faults.Memory) r = tt

-- whatever the tree is
pub leaf_summary : (def : Definition) (kind : Kind) (h : Header) (unfinished : ℕ → Bool) (rows : List (List Term)) (sort : ℕ) → HasKindSort def kind sort → h.names ≡ [] → IsHeader [] [] unfinished h
    → (result : Result SummaryParts EvalFault) → IsLeafOf def.signature kind h rows (sort ∷ []) result → IfOk result (IsSummary def)
leaf_summary def kind h unfinished rows sort has none is (Ok s) (ek, eh, er, rel, light) = record {
  header = ordered-of (subst (IsHeader [] [] unfinished) (sym eh) is);
  sort = sort;
  kind_sort = subst (λ k. HasKindSort def k sort) (sym ek) has;
  seen = [];
  reported = sym er;
  key_sorts = [];
  keys_sorted = subst (λ (k : Header). Rattle.psg_eval.specs.Summaries.AreKeySorts def k.names []) (sym eh) (subst (λ cols. Rattle.psg_eval.specs.Summaries.AreKeySorts def cols []) (sym none) refl);
  sorted = λ row i. (rel.shapes row i).sorted;
}
leaf_summary def kind h unfinished rows sort has none is (Err e) r = tt

pub no_header : (unfinished : ℕ → Bool) (spaces : List ℕ) → AreAscending spaces → ((s : ℕ) → has_space spaces s ≡ unfinished s) → (h : Header) → h ≡ record { names = []; unfinished = spaces; twice = false } → IsHeader [] [] unfinished h
no_header unfinished spaces up exact h e = subst (IsHeader [] [] unfinished) (sym e) (record {
  whole = tt;
  keys_are = refl;
  declares = λ k. refl;
  spaces = exact;
  ascending = up;
  repeats = refl;
})

-- ---- sorts

pub phylum_sort : (def : Definition) (p : ℕ) → p < length def.phyla → (s : ℕ) × HasKindSort def (kinds.Phylum p) s
phylum_sort def p h = let (k, e) = there def.phyla p h in (k.sort.0, (k, e, refl)) where
  there : (xs : List Phylum) (i : ℕ) → i < length xs → (x : Phylum) × (slice_get xs i ≡ Some x)
  there [] i h = absurd (omega arith)
  there (x ∷ xs) zero h = (x, refl)
  there (x ∷ xs) (suc i) h = there xs i (omega arith)

pub list_there : (def : Definition) (l : ℕ) → l < length def.lists → (k : ListKind) × (slice_get def.lists l ≡ Some k)
list_there def l h = there def.lists l h where
  there : (xs : List ListKind) (i : ℕ) → i < length xs → (x : ListKind) × (slice_get xs i ≡ Some x)
  there [] i h = absurd (omega arith)
  there (x ∷ xs) zero h = (x, refl)
  there (x ∷ xs) (suc i) h = there xs i (omega arith)

pub hole_sorts : (def : Definition) → IsSound def → (kind : Kind) (s : ℕ) (rows : List (List Term)) → HasKindSort def kind s → AreHoleRows def kind rows → AllHaveSorts def.signature rows (s ∷ [])
hole_sorts def sound kind s rows has are row i =
    let (r, h, e, k, t) = are.from row i in
    let is = each_at (Rattle.psg_grammar.specs.Sound.IsHoleRow def) def.hole_rows sound.hole_rows r h e in
    let same : is.sort ≡ s = kind_sort_same def kind is.sort s (subst (λ z. HasKindSort def z is.sort) k is.kind_sort) has in
    subst (λ z. HaveSorts def.signature z (s ∷ [])) (sym t) (subst (HasSort def.signature h.term) same is.term.0, tt)

pub nil_sorts : (def : Definition) → IsSound def → (l : ℕ) (k : ListKind) → slice_get def.lists l ≡ Some k → AllHaveSorts def.signature (map (λ t. t ∷ []) k.nil_rows) (k.sort.0 ∷ [])
nil_sorts def sound l k e row i =
    let is = each_at (Rattle.psg_grammar.specs.Sound.IsListKind def) def.lists sound.lists l k e in
    let (t, j, d) = map-in (λ t. t ∷ []) row k.nil_rows i in
    subst (λ z. HaveSorts def.signature z (k.sort.0 ∷ [])) (sym d) ((each_in t k.nil_rows is.nils j).0, tt)
  where
    each_in : (t : Term) (ts : List Term) → AllByRecursion (λ u. Rattle.psg_grammar.specs.Sound.IsTermOf def u k.sort.0) ts → IsIn t ts → Rattle.psg_grammar.specs.Sound.IsTermOf def t k.sort.0
    each_in t [] all j = elim j [ ]
    each_in t (u ∷ ts) all first = all.0
    each_in t (u ∷ ts) all (later j) = each_in t ts all.1 j

-- ---- the three kinds of leaves

module _ (def : Definition) (sound : IsSound def) (p : ℕ) (h : Header) (rows : List (List Term)) (are : AreHoleRows def (kinds.Phylum p) rows) (none : h ≡ record { names = []; unfinished = []; twice = false })
    (result : Result SummaryParts EvalFault) (s : ℕ) (told : IsLeafOf def.signature (kinds.Phylum p) h rows (s ∷ []) result) where
  pub hole_answers : Answers def (hole p) result
  hole_answers = leaf_answers def sound (hole p) (kinds.Phylum p) h rows s refl (no_header (λ n. false) [] tt (λ n. refl) h none) refl refl refl
      (λ made rel. hole_relation def sound (s ∷ []) p rows made are rel) (λ made rel. inside_relation def (hole p) (s ∷ []) made refl rel) result told

  pub hole_summary : HasKindSort def (kinds.Phylum p) s → IfOk result (IsSummary def)
  hole_summary has = leaf_summary def (kinds.Phylum p) h (λ n. false) rows s has (ap (λ (x : Header). x.names) none) (no_header (λ n. false) [] tt (λ n. refl) h none) result told

module _ (def : Definition) (sound : IsSound def) (l : ℕ) (h : Header) (rows : List (List Term)) (spaces : List ℕ) (known : AreSpacesOfList def l spaces)
    (are : AreHoleRows def (kinds.List l) rows) (none : h ≡ record { names = []; unfinished = spaces; twice = false })
    (result : Result SummaryParts EvalFault) (s : ℕ) (told : IsLeafOf def.signature (kinds.List l) h rows (s ∷ []) result) where
  pub open_answers : Answers def (ending l true) result
  open_answers = leaf_answers def sound (ending l true) (kinds.List l) h rows s refl (no_header (λ n. is_declaring def n (kinds.List l)) spaces known.ascending known.exact h none) refl refl refl
      (λ made rel. open_end_relation def sound (s ∷ []) l rows made are rel) (λ made rel. inside_relation def (ending l true) (s ∷ []) made refl rel) result told

  pub open_summary : HasKindSort def (kinds.List l) s → IfOk result (IsSummary def)
  open_summary has = leaf_summary def (kinds.List l) h (λ n. is_declaring def n (kinds.List l)) rows s has (ap (λ (x : Header). x.names) none)
      (no_header (λ n. is_declaring def n (kinds.List l)) spaces known.ascending known.exact h none) result told

module _ (def : Definition) (sound : IsSound def) (l : ℕ) (list : ListKind) (at : slice_get def.lists l ≡ Some list) (h : Header) (none : h ≡ record { names = []; unfinished = []; twice = false })
    (result : Result SummaryParts EvalFault) (told : IsLeafOf def.signature (kinds.List l) h (map (λ t. t ∷ []) list.nil_rows) (list.sort.0 ∷ []) result) where
  pub closed_answers : Answers def (ending l false) result
  closed_answers = leaf_answers def sound (ending l false) (kinds.List l) h (map (λ t. t ∷ []) list.nil_rows) list.sort.0 refl (no_header (λ n. false) [] tt (λ n. refl) h none) refl refl refl
      (λ made rel. end_relation def sound (list.sort.0 ∷ []) l list made at rel) (λ made rel. inside_relation def (ending l false) (list.sort.0 ∷ []) made refl rel) result told

  pub closed_summary : IfOk result (IsSummary def)
  closed_summary = leaf_summary def (kinds.List l) h (λ n. false) (map (λ t. t ∷ []) list.nil_rows) list.sort.0 (list, at, refl) (ap (λ (x : Header). x.names) none) (no_header (λ n. false) [] tt (λ n. refl) h none) result told
