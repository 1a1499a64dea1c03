-- What is reported and shown at a place: the value of the node there, as one more column and as the only one.
use Rattle.std.proofs.Common.{◌≡◌, ◌∙◌, ◌++◌, List, [], ◌∷◌, map, refl, ap, ap₂, sym, subst}
use Rattle.psg_terms.specs.Terms.{Term}
use Rattle.psg_terms.specs.Instances.{substitute, IsGroundInstance}
use Rattle.psg_grammar.specs.declared.types.Row.{Row}
use Rattle.psg_grammar.specs.Fragments.{Fragment, hole, observed}
use Rattle.psg_grammar.specs.Paths.{observe}
use Rattle.psg_grammar.specs.Legal.{Entities}
use Rattle.psg_grammar.specs.Open.{Choice, Holds}
use Rattle.psg_grammar.specs.Relations.{IsPossible, IsSeen, IsReportedRelation, IsShownRelation}
use Rattle.psg_grammar.proofs.CaseLanguage.{constants, numbers, row_of, hole_by, op_zero, op_plus, zero_leaf, plus_of}
use Rattle.psg_grammar.proofs.CaseLegal.{int, int_sorted, all_int, entities}
use Rattle.psg_tests_languages.proofs.CaseNeeds.{only_row}
use Rattle.psg_tests_languages.proofs.CaseOneRow.{one_row}

-- `( zero + ?Exp )`, and the placeholder observed
abbrev tree : Fragment
tree = plus_of zero_leaf (hole 0)

abbrev watched : Fragment
watched = plus_of zero_leaf (observed (hole 0))

watched_is : observe (1 ∷ []) tree ≡ watched
watched_is = refl

abbrev all : Entities
all n = int

watched_holds : Holds constants all watched ((0, 0), 0) [] int (int ∷ []) []
watched_holds = (
  int,
  int ∷ [],
  all,
  (
    int,
    int ∷ [],
    all,
    (refl, record { op = op_plus; found = refl; row = row_of int (int ∷ int ∷ []); chosen = refl; value = record { terms = λ s n. int; grounding = all_int; head = refl; rest = refl } }),
    entities,
    refl,
    (refl, record { op = op_zero; found = refl; row = row_of int []; chosen = refl; value = record { terms = λ s n. int; grounding = all_int; head = refl; rest = refl } }),
  ),
  entities,
  refl,
  ([], refl, (refl, refl, record { row = hole_by int 0; chosen = refl; same = refl; value = (λ s n. int, all_int, refl) })),
)

-- the sum and the placeholder are ints, whatever rows are chosen
watched_only : (g : Entities) (c : Choice watched) (v : Term) (seen : List Term) → Holds constants g watched c [] v seen [] → (v ≡ int) × (seen ≡ int ∷ [])
watched_only g c v seen (u, mid, inner, (w, mid2, inner2, (s1, h), ent2, same2, (s2, h2)), ent, same, (mid3, s3, (none, s4, h3))) =
    let row : h.row ≡ row_of int (int ∷ int ∷ []) = only_row constants 2 op_plus h.op _ h.row c.0.0 refl refl h.found h.chosen in
    let columns : w ∷ u ∷ [] ≡ int ∷ int ∷ [] = h.value.rest ∙ ap (λ (r : Row). map (substitute h.value.terms) r.columns) row in
    let is_int : u ≡ int = cc in
    (h.value.head ∙ ap (λ (r : Row). substitute h.value.terms r.head) row, s1 ∙ s2 ∙ s3 ∙ ap₂ (λ x xs. x ∷ xs) is_int s4)

-- reported: the value, and then that of the placeholder
reported_possible : IsPossible constants watched ((0, 0), 0) (int ∷ int ∷ [])
reported_possible = record {
  distinct = (refl, ((tt, tt, (λ e. refl)), tt, (λ e. refl)));
  outside = all;
  entities = entities;
  value = int;
  seen = int ∷ [];
  judged = record { inner = all; entities = entities; agree = refl; holds = watched_holds };
  columns_are = refl;
}

reported_only : (c : Choice watched) (columns : List Term) → IsPossible constants watched c columns → IsGroundInstance numbers (int ∷ int ∷ []) columns
reported_only c columns p =
    let (value, seen) = watched_only p.judged.inner c p.value p.seen p.judged.holds in
    (λ s n. int, all_int, p.columns_are ∙ ap₂ (λ v s. (v ∷ s) ++ []) value seen)

reported : IsReportedRelation constants tree (1 ∷ []) ((int ∷ int ∷ []) ∷ [])
reported = (
  0 ∷ 0 ∷ [],
  one_row numbers (0 ∷ 0 ∷ []) (Choice watched) (IsPossible constants watched) (int ∷ int ∷ []) record { numbered = tt; written = (tt, (tt, tt)) } (int_sorted, (int_sorted, tt))
      ((0, 0), 0) (int ∷ int ∷ [], reported_possible) (λ columns (f, g, e). subst (IsPossible constants watched ((0, 0), 0)) (sym e) reported_possible) reported_only,
)

-- shown: that of the placeholder alone, which by itself may be a bool too
shown_possible : IsSeen constants watched ((0, 0), 0) (int ∷ [])
shown_possible = record {
  distinct = (refl, ((tt, tt, (λ e. refl)), tt, (λ e. refl)));
  outside = all;
  entities = entities;
  value = int;
  judged = record { inner = all; entities = entities; agree = refl; holds = watched_holds };
}

shown_only : (c : Choice watched) (columns : List Term) → IsSeen constants watched c columns → IsGroundInstance numbers (int ∷ []) columns
shown_only c columns p = let (value, seen) = watched_only p.judged.inner c p.value columns p.judged.holds in (λ s n. int, all_int, seen)

shown : IsShownRelation constants tree (1 ∷ []) ((int ∷ []) ∷ [])
shown = (
  0 ∷ [],
  one_row numbers (0 ∷ []) (Choice watched) (IsSeen constants watched) (int ∷ []) record { numbered = tt; written = (tt, tt) } (int_sorted, tt)
      ((0, 0), 0) (int ∷ [], shown_possible) (λ columns (f, g, e). subst (IsSeen constants watched ((0, 0), 0)) (sym e) shown_possible) shown_only,
)
