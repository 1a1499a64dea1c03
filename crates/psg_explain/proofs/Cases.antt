-- Worked cases: a variable that would stand inside itself, a covered pair, and a whole refutation.
use Rattle.std.proofs.Common.{◌≡◌, inl, inr, ℕ, ◌||◌, false, List, [], ◌∷◌, drop, Some, None, refl, ap, ap₂, sym, ◌∙◌, subst, codes, arith}
use Rattle.std.specs.List.{slice_get}
use Rattle.psg_terms.specs.Terms.{Term, variable, symbol, apply}
use Rattle.psg_terms.specs.Signature.{HaveSorts}
use Rattle.psg_terms.specs.Canonical.{IsCanonical, Variable}
use Rattle.psg_terms.proofs.Lists.{each_in}
use Rattle.psg_terms.proofs.Variables.{variable_cases, true_false}
use Rattle.psg_grammar.specs.declared.types.Kind.TheVariants as kinds
use Rattle.psg_grammar.specs.Fragments.{Fragment, cell, ending, operator}
use Rattle.psg_grammar.specs.Keys.{Key}
use Rattle.psg_grammar.specs.Regions.{declared_inside}
use Rattle.psg_grammar.proofs.CaseLanguage.{constants, numbers, plus_of, zero_leaf, op_plus, op_tru, op_zero, spaces, block, let_of, one, yes}
use Rattle.psg_explain.specs.declared.refutation.Rule.TheVariants as rules
use Rattle.psg_explain.specs.declared.refutation.Verdict.{Verdict}
use Rattle.psg_explain.specs.declared.refutation.Verdict.TheVariants as verdicts
use Rattle.psg_explain.specs.declared.refutation.Claim.{Claim}
use Rattle.psg_explain.specs.declared.refutation.Reason.TheVariants.{Circle}
use Rattle.psg_explain.specs.declared.refutation.Refutation.TheVariants as refutations
use Rattle.psg_explain.specs.Equations.{Equation, IsCircle, StandsInside, arguments_of, term_of}
use Rattle.psg_explain.specs.Reasons.{IsReason, parts, bound_left, circle_left}
use Rattle.psg_explain.specs.Verdicts.{IsRight}
use Rattle.psg_explain.specs.declared.given.Case.{Case}
use Rattle.psg_explain.specs.declared.refutation.Label.TheVariants as labels
use Rattle.psg_explain.specs.declared.refutation.Subject.TheVariants as subjects
use Rattle.psg_explain.specs.Given.{own_equations, pair_case, next_cases}
use Rattle.psg_explain.specs.Walks.{At, Child, Walks, went, ended, went_all}
use Rattle.psg_explain.specs.Refutations.{AreClaimed, ClaimTo, IsClaim, Refutes, adding, is_twice_among, rows_claimed}

-- ---- `x = x[1]`: the rows of the sum's step 1 and of its second child

-- types are terms of the sort 1, entities of the sort 3; bool 2, arr 3, var 6
abbrev arr : Term → Term
arr t = apply (symbol 3) t

abbrev var : Term → Term
var t = apply (symbol 6) t

abbrev v : ℕ → Term
v n = variable 1 n

abbrev x : List Key
x = (0 ∷ codes "x") ∷ []

abbrev pair : Case
pair = pair_case x x x 0 0 (symbol 2 ∷ v 1 ∷ var (v 1) ∷ []) (v 1 ∷ var (arr (v 1)) ∷ [])

given_is : pair.given ≡ (v 1, v 2) ∷ (var (v 1), var (arr (v 2))) ∷ []
given_is = refl

columns_are : pair.columns ≡ symbol 2 ∷ var (v 1) ∷ []
columns_are = refl

-- the reason that is written: circle ?2 = arr(?2)
reason_is : IsReason pair.given (Some (Circle (v 2) (arr (v 2))))
reason_is = bound_left (1, 1) refl (parts 6 (λ e. absurd (cc)) (refl, refl) (circle_left (1, 2) refl))

-- the parts are replaced: ?1 = ?2, ?1 = arr(?2), ?2 = arr(?2)
right : IsRight [] pair.given pair.columns (verdicts.Circle (rules.Given 0 ∷ rules.Given 1 ∷ rules.Part 1 0 ∷ rules.Replace 2 0 ∷ []) 3)
right = (
  (v 1, v 2) ∷ (var (v 1), var (arr (v 2))) ∷ (v 1, arr (v 2)) ∷ (v 2, arr (v 2)) ∷ [],
  (
    (v 1, v 2),
    refl,
    (
      (var (v 1), var (arr (v 2))),
      refl,
      (
        (v 1, arr (v 2)),
        ((var (v 1), var (arr (v 2))), refl, (6, (refl, refl), refl, refl)),
        (
          (v 2, arr (v 2)),
          ((v 1, arr (v 2)), (1, 1), v 2, refl, (λ e. absurd (cc)), refl, refl),
          refl,
        ),
      ),
    ),
  ),
  (v 2, arr (v 2)),
  refl,
  ((1, 2), inl (refl, refl)),
)

-- ---- `x := 1`: the row is covered

abbrev step : Case
step = pair_case x [] x 0 0 (symbol 0 ∷ v 1 ∷ var (v 1) ∷ []) (symbol 1 ∷ [])

covered : IsRight ((symbol 0 ∷ var (symbol 1) ∷ []) ∷ []) step.given step.columns (verdicts.Covered 0 (rules.Given 0 ∷ []) (0 ∷ []) [])
covered = (
  (v 1, symbol 1) ∷ [],
  ((v 1, symbol 1), refl, refl),
  symbol 0 ∷ var (symbol 1) ∷ [],
  ((1, 1), symbol 1, refl, refl),
  symbol 0 ∷ var (symbol 1) ∷ [],
  refl,
  record { enough = omega arith; same = refl },
)

-- ---- `(true + 0)`

abbrev tru : Fragment
tru = operator 1

abbrev tree : Fragment
tree = plus_of tru zero_leaf

abbrev claim : List ℕ → ℕ → List (List Term) → Verdict → Claim
claim path step rows verdict = record { path = path; cell = None; step = step; rows = rows; verdicts = verdict ∷ [] }

abbrev as_it_is : Verdict
as_it_is = verdicts.Covered 0 [] [] []

abbrev claims : List Claim
claims =
    claim (0 ∷ []) 0 ((symbol 1 ∷ []) ∷ []) as_it_is
    ∷ claim (1 ∷ []) 0 ((symbol 0 ∷ []) ∷ []) as_it_is
    ∷ claim [] 0 ((symbol 0 ∷ symbol 0 ∷ symbol 0 ∷ []) ∷ []) as_it_is
    ∷ claim [] 1 [] (verdicts.Clash (rules.Given 0 ∷ []) 0)
    ∷ []

claimed_tru : AreClaimed constants tru 0 ((symbol 1 ∷ []) ∷ [])
claimed_tru = record {
  sorts = 0 ∷ [];
  are_sorts = adding (omega arith) (record { kind = kinds.Phylum 0; of_kind = (op_tru, refl, refl); value = 0; kind_sort = (_, refl, refl); others = []; are_others = refl; entities = []; are_entities = refl; all = refl });
  canonical = λ row i. each_in (IsCanonical numbers) row ((symbol 1 ∷ []) ∷ []) (record { numbered = tt; written = (tt, tt) }, tt) i;
  sorted = λ row i. each_in (λ r. HaveSorts numbers r (0 ∷ [])) row ((symbol 1 ∷ []) ∷ []) (((_, refl, refl, refl), tt), tt) i;
}

claimed_zero : AreClaimed constants zero_leaf 0 ((symbol 0 ∷ []) ∷ [])
claimed_zero = record {
  sorts = 0 ∷ [];
  are_sorts = adding (omega arith) (record { kind = kinds.Phylum 0; of_kind = (op_zero, refl, refl); value = 0; kind_sort = (_, refl, refl); others = []; are_others = refl; entities = []; are_entities = refl; all = refl });
  canonical = λ row i. each_in (IsCanonical numbers) row ((symbol 0 ∷ []) ∷ []) (record { numbered = tt; written = (tt, tt) }, tt) i;
  sorted = λ row i. each_in (λ r. HaveSorts numbers r (0 ∷ [])) row ((symbol 0 ∷ []) ∷ []) (((_, refl, refl, refl), tt), tt) i;
}

claimed_plus : AreClaimed constants tree 0 ((symbol 0 ∷ symbol 0 ∷ symbol 0 ∷ []) ∷ [])
claimed_plus = record {
  sorts = 0 ∷ 0 ∷ 0 ∷ [];
  are_sorts = adding (omega arith) (record { kind = kinds.Phylum 0; of_kind = (op_plus, refl, refl); value = 0; kind_sort = (_, refl, refl); others = 0 ∷ 0 ∷ []; are_others = (0, 0 ∷ [], refl, (_, refl, refl), (0, [], refl, (_, refl, refl), refl)); entities = []; are_entities = refl; all = refl });
  canonical = λ row i. each_in (IsCanonical numbers) row ((symbol 0 ∷ symbol 0 ∷ symbol 0 ∷ []) ∷ []) (record { numbered = tt; written = (tt, (tt, (tt, tt))) }, tt) i;
  sorted = λ row i. each_in (λ r. HaveSorts numbers r (0 ∷ 0 ∷ 0 ∷ [])) row ((symbol 0 ∷ symbol 0 ∷ symbol 0 ∷ []) ∷ []) (((_, refl, refl, refl), ((_, refl, refl, refl), ((_, refl, refl, refl), tt))), tt) i;
}

claimed_none : AreClaimed constants tree 1 []
claimed_none = record {
  sorts = 0 ∷ 0 ∷ [];
  are_sorts = adding (omega arith) (record { kind = kinds.Phylum 0; of_kind = (op_plus, refl, refl); value = 0; kind_sort = (_, refl, refl); others = 0 ∷ []; are_others = (0, [], refl, (_, refl, refl), refl); entities = []; are_entities = refl; all = refl });
  canonical = λ row i. elim i [ ];
  sorted = λ row i. elim i [ ];
}

one_row : (t : ℕ) → IsRight ((symbol t ∷ []) ∷ []) [] (symbol t ∷ []) as_it_is
one_row t = ([], refl, symbol t ∷ [], refl, symbol t ∷ [], refl, record { enough = omega arith; same = refl })

three : IsRight ((symbol 0 ∷ symbol 0 ∷ symbol 0 ∷ []) ∷ []) [] (symbol 0 ∷ symbol 0 ∷ symbol 0 ∷ []) as_it_is
three = ([], refl, symbol 0 ∷ symbol 0 ∷ symbol 0 ∷ [], refl, symbol 0 ∷ symbol 0 ∷ symbol 0 ∷ [], refl, record { enough = omega arith; same = refl })

differ : IsRight [] ((symbol 0, symbol 1) ∷ []) (symbol 0 ∷ symbol 0 ∷ []) (verdicts.Clash (rules.Given 0 ∷ []) 0)
differ = ((symbol 0, symbol 1) ∷ [], ((symbol 0, symbol 1), refl, refl), (symbol 0, symbol 1), refl, (0, 1, refl, refl, λ e. absurd (cc)))

abbrev first_claim : Claim
first_claim = claim (0 ∷ []) 0 ((symbol 1 ∷ []) ∷ []) as_it_is

abbrev left_of : Fragment → List (List Term) → Child
left_of f rows = record { tree = f; rows = rows }

abbrev after_one : List Claim
after_one = drop 1 claims

abbrev after_two : List Claim
after_two = drop 2 claims

abbrev after_three : List Claim
after_three = drop 3 claims

abbrev tru_rows : List (List Term)
tru_rows = (symbol 1 ∷ []) ∷ []

abbrev zero_rows : List (List Term)
zero_rows = (symbol 0 ∷ []) ∷ []

abbrev plus_rows : List (List Term)
plus_rows = (symbol 0 ∷ symbol 0 ∷ symbol 0 ∷ []) ∷ []

abbrev last_at : At
last_at = record { path = []; cell = None; part = tree; step = 1; cases = next_cases constants tree 0 tru plus_rows tru_rows; pairs = 1 }

-- the equation of the last step is int = bool
last_cases_are : last_at.cases ≡ record { label = labels.Pair 0 0; subjects = subjects.Value ∷ []; given = (symbol 0, symbol 1) ∷ []; columns = symbol 0 ∷ symbol 0 ∷ [] } ∷ []
last_cases_are = refl

walk_tru : Walks constants rows_claimed (IsClaim constants) (0 ∷ []) tru claims (went tru_rows after_one)
walk_tru = (went tru_rows after_one, (record { path = refl; cell = refl; step = refl; rows = claimed_tru; verdicts = (one_row 1, tt) }, refl), refl)

walk_zero : Walks constants rows_claimed (IsClaim constants) (1 ∷ []) zero_leaf after_one (went zero_rows after_two)
walk_zero = (went zero_rows after_two, (record { path = refl; cell = refl; step = refl; rows = claimed_zero; verdicts = (one_row 0, tt) }, refl), refl)

walked : ClaimTo constants [] tree claims last_at
walked = (
  went_all (left_of tru tru_rows ∷ []) after_one,
  went_all (left_of tru tru_rows ∷ left_of zero_leaf zero_rows ∷ []) after_two,
  (went_all [] claims, refl, (went tru_rows after_one, walk_tru, refl)),
  (went zero_rows after_two, walk_zero, refl),
  (
    went plus_rows after_three,
    (record { path = refl; cell = refl; step = refl; rows = claimed_plus; verdicts = (three, tt) }, refl),
    (
      ended last_at,
      (record { path = refl; cell = refl; step = refl; rows = claimed_none; verdicts = (differ, tt) }, (refl, refl)),
      refl,
    ),
  ),
)

refuted : Refutes constants tree (refutations.Empty [] claims)
refuted = (tree, refl, last_at, walked)

-- ---- with one number changed the verdict of `x = x[1]` is wrong

some_is : {X : Type 0} {a b : X} → Some a ≡ Some b → a ≡ b
some_is e = cc

not_circle : (e : Equation) → e ≡ (v 1, arr (v 2)) → IsCircle e → ⊥
not_circle e d (z, inl (left, inside)) = no_one z (ap (λ (p : Equation). p.0) (sym d) ∙ left) (subst (StandsInside z) (ap (λ (p : Equation). p.1) d) inside)
  where
    no_one : (z : Variable) → v 1 ≡ term_of z → StandsInside z (arr (v 2)) → ⊥
    no_one z e i = elim (variable_cases z (1, 2)) [
      | inl two ↦ let h : v 1 ≡ v 2 = e ∙ ap term_of two in absurd (cc)
      | inr other ↦ true_false (sym i ∙ ap (λ b. b || false) other)
    ]
not_circle e d (z, inr (right, inside)) = let h : arr (v 2) ≡ term_of z = ap (λ (p : Equation). p.1) (sym d) ∙ right in absurd (cc)

changed : IsRight [] pair.given pair.columns (verdicts.Circle (rules.Given 0 ∷ rules.Given 1 ∷ rules.Part 1 0 ∷ rules.Replace 2 0 ∷ []) 2) → ⊥
changed (all, (e0, g0, (e1, g1, (e2, (whole, at, (c, head, one, two)), (e3, g3, all_is)))), e, number, circle) =
    let third : e2 ≡ e = some_is (ap (λ (l : List Equation). slice_get l 2) (sym all_is) ∙ number) in
    let of : e1 ≡ whole = some_is at in
    let w : (var (v 1), var (arr (v 2))) ≡ whole = some_is g1 ∙ of in
    let left : v 1 ≡ e2.0 = some_is (ap (λ (p : Equation). slice_get (arguments_of p.0) 0) w ∙ one) in
    let right : arr (v 2) ≡ e2.1 = some_is (ap (λ (p : Equation). slice_get (arguments_of p.1) 0) w ∙ two) in
    let is : e2 ≡ (v 1, arr (v 2)) = ap₂ (λ (a b : Term). (a, b)) (sym left) (sym right) in
    not_circle e (sym third ∙ is) circle

-- ---- `let x = one; let x = yes`, by itself and in a block

abbrev name : List ℕ
name = codes "x"

abbrev lets : Fragment
lets = cell 0 (let_of name one) (cell 0 (let_of name yes) (ending 0 false))

twice_in_list : Refutes spaces lets (refutations.Twice [] 0 name)
twice_in_list = (lets, refl, refl)

-- in the region of the list, and inside the block
twice_below : Refutes spaces (block lets) (refutations.Twice (0 ∷ []) 0 name)
twice_below = (lets, refl, refl)

twice_inside : Refutes spaces (block lets) (refutations.Twice [] 0 name)
twice_inside = (block lets, refl, refl)

-- but not in the region around the block, and not in another space
not_outside : is_twice_among (declared_inside spaces (cell 0 (block lets) (ending 0 false))) (0 ∷ name) ≡ false
not_outside = refl

not_label : is_twice_among (declared_inside spaces lets) (1 ∷ name) ≡ false
not_label = refl

-- ---- keys of both sides: y is the left row's alone, z the right row's

abbrev y_key : Key
y_key = 0 ∷ codes "y"

abbrev z_key : Key
z_key = 0 ∷ codes "z"

abbrev x_key : Key
x_key = 0 ∷ codes "x"

-- two children are wanted, so one value stays; the right row's two variables follow on the left row's two
abbrev mixed : Case
mixed = pair_case (x_key ∷ y_key ∷ []) (x_key ∷ z_key ∷ []) (x_key ∷ y_key ∷ z_key ∷ []) 3 4
    (symbol 0 ∷ v 1 ∷ v 2 ∷ var (v 1) ∷ var (v 2) ∷ []) (v 1 ∷ var (v 1) ∷ var (v 2) ∷ [])

mixed_is : mixed ≡ record {
  label = labels.Pair 3 4;
  subjects = subjects.Value ∷ subjects.Key 0 (codes "x") ∷ [];
  given = (v 1, v 3) ∷ (var (v 1), var (v 3)) ∷ [];
  columns = symbol 0 ∷ v 2 ∷ var (v 1) ∷ var (v 2) ∷ var (v 4) ∷ [];
}
mixed_is = refl

-- ---- an operator's row with one name at three positions: the first position's term is on the left of both equations

own_is : own_equations [] [] (x_key ∷ x_key ∷ y_key ∷ x_key ∷ []) (v 1 ∷ v 2 ∷ v 3 ∷ v 4 ∷ []) ≡ (v 1, v 2) ∷ (v 1, v 4) ∷ []
own_is = refl
