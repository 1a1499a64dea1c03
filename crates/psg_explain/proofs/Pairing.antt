-- A pair of rows: where ground instances of both make a row together, the given equations of the pair hold under one
-- substitution, and its columns are that row. So a right clash or circle says that they make none.
use Rattle.std.proofs.Common.{◌≡◌, ◌⊎◌, inl, inr, ℕ, ◌+◌, ◌-◌, ◌<◌, ◌≤◌, ◌||◌, Bool, true, false, cond, List, [], ◌∷◌, ◌++◌, map, Option, Some, None, length, take, drop, refl, ap, ap₂, sym, ◌∙◌, subst, arith, length-append}
use Rattle.std.specs.Prelude.{nat_lt, bytes_eq}
use Rattle.std.specs.List.{AllByRecursion}
use Rattle.std.specs.Option.{option_map, option_or}
use Rattle.std.proofs.lemmas.Bool.{lt-ltb, le-ltb, cases_Bool}
use Rattle.std.proofs.lemmas.List.{length-map, drop-map, take-map}
use Rattle.std.proofs.Math.Seq.{drop-append_seam, take-append_seam}
use Rattle.psg_terms.specs.Terms.{Term, variable, symbol, apply}
use Rattle.psg_terms.specs.Names.{is_among}
use Rattle.psg_terms.specs.Instances.{Substitution, substitute}
use Rattle.psg_terms.specs.Signature.{Signature}
use Rattle.psg_terms.specs.Canonical.{Variable, variables, variables_of, is_noted, first_occurrences, IsNumberedFrom, IsCanonical}
use Rattle.psg_terms.specs.Renaming.{raised}
use Rattle.psg_terms.proofs.Variables.{variable_cases, true_false}
use Rattle.psg_terms.proofs.Unique.{Each, each-front}
use Rattle.psg_terms.proofs.DeclareLaws.{bytes_eq-same}
use Rattle.psg_terms.proofs.Renumbering.{AgreeAt, agree_in}
use Rattle.psg_terms.proofs.RenamingLaws.{among-noted_all, IsAmong}
use Rattle.psg_grammar.specs.Keys.{Key}
use Rattle.psg_relation.specs.Choices.{pick}
use Rattle.psg_explain.specs.Equations.{Equation}
use Rattle.psg_explain.specs.declared.given.Case.{Case}
use Rattle.psg_explain.specs.Given.{beside, key_terms, key_equations, pair_case, pair_equations, pair_columns, wanted_of, entities_of, numbered_on, variable_count}
use Rattle.psg_explain.specs.Verdicts.{IsRight}
use Rattle.psg_explain.specs.declared.refutation.Rule.{Rule}
use Rattle.psg_explain.specs.declared.refutation.Verdict.{Verdict}
use Rattle.psg_explain.specs.declared.refutation.Verdict.TheVariants as verdicts
use Rattle.psg_explain.proofs.Rewriting.{SolvesAll, IsOfClaimed, right_verdict}

-- ---- one substitution for both rows

-- the first for the variables with numbers up to m, the second for those behind
abbrev pub joined : ℕ → Substitution → Substitution → Substitution
joined m f g s n = cond (nat_lt m n) (g s (n - m)) (f s n)

abbrev pub IsWithin : ℕ → Variable → Type 0
IsWithin m x = (1 ≤ x.1) × (x.1 ≤ m)

numbered_within : (n : ℕ) (xs : List Variable) (x : Variable) → IsNumberedFrom n xs → is_noted x xs ≡ true → (n ≤ x.1) × (x.1 < n + length xs)
numbered_within n [] x h e = absurd (true_false (sym e))
numbered_within n (y ∷ xs) x h e = elim (variable_cases x y) [
  | inl d ↦ let at : x.1 ≡ n = ap (λ (z : Variable). z.1) d ∙ h.0 in (omega (arith, at), omega (arith, at))
  | inr d ↦ let (one, two) = numbered_within (n + 1) xs x h.1 (sym (ap (λ b. b || is_noted x xs) d) ∙ e) in (omega (arith, one), omega (arith, two))
]

each_within : (known xs : List Variable) → IsNumberedFrom 1 known → Each (IsAmong known) xs → Each (IsWithin (length known)) xs
each_within known [] h e = tt
each_within known (x ∷ xs) h (e, es) =
    let (one, two) = numbered_within 1 known x h e in
    ((one, omega (arith, two)), each_within known xs h es)

-- the variables of a canonical row have numbers from 1 to their count
pub row_within : (sig : Signature) (row : List Term) → IsCanonical sig row → Each (IsWithin (variable_count row)) (variables_of row)
row_within sig row canonical = each_within (first_occurrences row) (variables_of row) canonical.numbered (among-noted_all [] (variables_of row))

agrees_left : (m : ℕ) (f g : Substitution) (xs : List Variable) → Each (IsWithin m) xs → Each (AgreeAt (joined m f g) f) xs
agrees_left m f g [] h = tt
agrees_left m f g (x ∷ xs) ((one, two), more) =
    (ap (λ b. cond b (g x.0 (x.1 - m)) (f x.0 x.1)) (le-ltb m x.1 two), agrees_left m f g xs more)

pub left_same : (m : ℕ) (f g : Substitution) (row : List Term) → Each (IsWithin m) (variables_of row) → map (substitute (joined m f g)) row ≡ map (substitute f) row
left_same m f g row h = agree_in (joined m f g) f row (agrees_left m f g (variables_of row) h)

moved-term : (m : ℕ) (f g : Substitution) (t : Term) → Each (λ x. 1 ≤ x.1) (variables t) → substitute (joined m f g) (substitute (raised m) t) ≡ substitute g t
moved-term m f g (variable s n) (one, none) =
    ap (λ b. cond b (g s (m + n - m)) (f s (m + n))) (lt-ltb m (m + n) (omega (arith, one))) ∙ ap (g s) (omega arith)
moved-term m f g (symbol c) h = refl
moved-term m f g (apply p a) h =
    let both = each-front (λ x. 1 ≤ x.1) (variables p) (variables a) h in
    ap₂ apply (moved-term m f g p both.0) (moved-term m f g a both.1)

pub right_same : (m : ℕ) (f g : Substitution) (row : List Term) → Each (λ x. 1 ≤ x.1) (variables_of row) → map (substitute (joined m f g)) (numbered_on m row) ≡ map (substitute g) row
right_same m f g [] h = refl
right_same m f g (t ∷ row) h =
    let both = each-front (λ x. 1 ≤ x.1) (variables t) (variables_of row) h in
    ap₂ (λ y ys. y ∷ ys) (moved-term m f g t both.0) (right_same m f g row both.1)

-- ---- terms by keys, where the terms are the entities under the substitution

module _ (f : Substitution) (entity : Key → Term) where
  -- the terms of the list are the entities of the keys
  abbrev pub AreEntitiesOf : List Key → List Term → Type 0
  AreEntitiesOf ks ts = map (substitute f) ts ≡ map entity ks

  pub head_tail : (t : Term) (ts : List Term) (k : Key) (ks : List Key) → AreEntitiesOf (k ∷ ks) (t ∷ ts) → (substitute f t ≡ entity k) × AreEntitiesOf ks ts
  head_tail t ts k ks e = (cc, cc)

  found_cases : (b : Bool) (t : Term) (o : Option Term) (u : Term) → cond b (Some t) o ≡ Some u → ((b ≡ true) × (t ≡ u)) ⊎ (o ≡ Some u)
  found_cases true t o u e = inl (refl, cc)
  found_cases false t o u e = inr e

  pub beside_is : (ks : List Key) (ts : List Term) (k : Key) (u : Term) → AreEntitiesOf ks ts → beside ks ts k ≡ Some u → substitute f u ≡ entity k
  beside_is [] ts k u h e = absurd (cc)
  beside_is (n ∷ ks) [] k u h e = absurd (cc)
  beside_is (n ∷ ks) (t ∷ ts) k u h e = elim (found_cases (bytes_eq n k) t (beside ks ts k) u e) [
    | inl (here, d) ↦ sym (ap (substitute f) d) ∙ (head_tail t ts n ks h).0 ∙ ap entity (bytes_eq-same n k here)
    | inr later ↦ beside_is ks ts k u (head_tail t ts n ks h).1 later
  ]

  pub beside_there : (ks : List Key) (ts : List Term) (k : Key) → AreEntitiesOf ks ts → is_among ks k ≡ true → (u : Term) × (beside ks ts k ≡ Some u)
  beside_there [] ts k h i = absurd (true_false (sym i))
  beside_there (n ∷ ks) [] k h i = absurd (cc)
  beside_there (n ∷ ks) (t ∷ ts) k h i = elim (cases_Bool (bytes_eq n k)) [
    | inl b ↦ (t, ap (λ c. cond c (Some t) (beside ks ts k)) b)
    | inr b ↦ let (u, d) = beside_there ks ts k (head_tail t ts n ks h).1 (sym (ap (λ c. c || is_among ks k) b) ∙ i) in
        (u, ap (λ c. cond c (Some t) (beside ks ts k)) b ∙ d)
  ]

  -- the equations of common keys hold
  one_equation : (o : Option Term) (t : Term) (k : Key) (es : List Equation) → ((u : Term) → o ≡ Some u → substitute f u ≡ entity k) → substitute f t ≡ entity k → SolvesAll f es
      → SolvesAll f (pick (option_map (λ u. (t, u)) o) es)
  one_equation None t k es h e more = more
  one_equation (Some u) t k es h e more = (e ∙ sym (h u refl), more)

  pub key_equations_hold : (L : List Key) (us : List Term) → AreEntitiesOf L us → (ks : List Key) (ts : List Term) → AreEntitiesOf ks ts → SolvesAll f (key_equations (beside L us) ks ts)
  key_equations_hold L us h [] ts e = tt
  key_equations_hold L us h (k ∷ ks) [] e = tt
  key_equations_hold L us h (k ∷ ks) (t ∷ ts) e =
      one_equation (beside L us k) t k (key_equations (beside L us) ks ts) (λ u d. beside_is L us k u h d) (head_tail t ts k ks e).0
      (key_equations_hold L us h ks ts (head_tail t ts k ks e).1)

  -- the terms of the keys are their entities, where each key has one
  one_term : (o : Option Term) (k : Key) (ts : List Term) (ks : List Key) → ((u : Term) × (o ≡ Some u) × (substitute f u ≡ entity k)) → map (substitute f) ts ≡ map entity ks → map (substitute f) (pick o ts) ≡ entity k ∷ map entity ks
  one_term o k ts ks (u, d, e) more = ap (λ x. map (substitute f) (pick x ts)) d ∙ ap₂ (λ y ys. y ∷ ys) e more

  pub key_terms_are : (term : Key → Option Term) (ks : List Key) → AllByRecursion (λ k. (u : Term) × (term k ≡ Some u) × (substitute f u ≡ entity k)) ks → map (substitute f) (key_terms term ks) ≡ map entity ks
  key_terms_are term [] h = refl
  key_terms_are term (k ∷ ks) (one, more) = one_term (term k) k (key_terms term ks) ks one (key_terms_are term ks more)

  either_there : (K : List Key) (ts : List Term) (L : List Key) (us : List Term) → AreEntitiesOf K ts → AreEntitiesOf L us → (k : Key) → (is_among K k || is_among L k) ≡ true
      → (u : Term) × (option_or (beside K ts k) (beside L us k) ≡ Some u) × (substitute f u ≡ entity k)
  either_there K ts L us h g k i = elim (beside K ts k) as (λ o. beside K ts k ≡ o → (u : Term) × (option_or (beside K ts k) (beside L us k) ≡ Some u) × (substitute f u ≡ entity k)) [
    | Some u ↦ λ e. (u, ap (λ o. option_or o (beside L us k)) e, beside_is K ts k u h e)
    | None ↦ λ e.
        let other : is_among L k ≡ true = elim (cases_Bool (is_among K k)) [
          | inl b ↦ let (u, d) = beside_there K ts k h b in let n : None ≡ Some u = sym e ∙ d in absurd (cc)
          | inr b ↦ sym (ap (λ c. c || is_among L k) b) ∙ i
        ] in
        let (u, d) = beside_there L us k g other in
        (u, ap (λ o. option_or o (beside L us k)) e ∙ d, beside_is L us k u g d)
  ] refl

  pub all_there : (K : List Key) (ts : List Term) (L : List Key) (us : List Term) → AreEntitiesOf K ts → AreEntitiesOf L us → (M : List Key)
      → AllByRecursion (λ k. (is_among K k || is_among L k) ≡ true) M
      → AllByRecursion (λ k. (u : Term) × (option_or (beside K ts k) (beside L us k) ≡ Some u) × (substitute f u ≡ entity k)) M
  all_there K ts L us h g [] i = tt
  all_there K ts L us h g (k ∷ M) (i, more) = (either_there K ts L us h g k i, all_there K ts L us h g M more)

-- ---- the pair

map-append : (g : Term → Term) (xs ys : List Term) → map g (xs ++ ys) ≡ map g xs ++ map g ys
map-append g [] ys = refl
map-append g (x ∷ xs) ys = ap (λ l. g x ∷ l) (map-append g xs ys)

module _ (K L M : List Key) (union : AllByRecursion (λ k. (is_among K k || is_among L k) ≡ true) M) (h : Substitution) where
  module _ (value wanted : Term) (more : List Term) (own : Term) (entities : List Term) (v w : Term) (others : List Term) (entity : Key → Term)
      (left : map (substitute h) (value ∷ wanted ∷ more) ≡ v ∷ w ∷ (others ++ map entity K)) (right : map (substitute h) (own ∷ entities) ≡ w ∷ map entity L) where
    rest : map (substitute h) more ≡ others ++ map entity K
    rest = cc

    sizes : length more - length K ≡ length others
    sizes =
        let one = sym (length-map more (substitute h)) ∙ ap length rest ∙ length-append others (map entity K) in
        let two = length-map K entity in
        omega (arith, one, two)

    keys_left : map (substitute h) (entities_of K more) ≡ map entity K
    keys_left = sym (drop-map (substitute h) (length more - length K) more) ∙ ap₂ (λ n l. drop n l) sizes rest ∙ drop-append_seam others (map entity K)

    others_left : map (substitute h) (wanted_of K more) ≡ others
    others_left = sym (take-map (substitute h) (length more - length K) more) ∙ ap₂ (λ n l. take n l) sizes rest ∙ take-append_seam others (map entity K)

    keys_right : map (substitute h) entities ≡ map entity L
    keys_right = cc

    pub shaped_solved : SolvesAll h (pair_equations K L M (value ∷ wanted ∷ more) (own ∷ entities))
    shaped_solved =
        let a : substitute h wanted ≡ w = cc in
        let b : substitute h own ≡ w = cc in
        (a ∙ sym b, key_equations_hold h entity L entities keys_right K (entities_of K more) keys_left)

    pub shaped_columns : map (substitute h) (pair_columns K L M (value ∷ wanted ∷ more) (own ∷ entities)) ≡ (v ∷ others) ++ map entity M
    shaped_columns =
        let a : substitute h value ≡ v = cc in
        map-append (substitute h) (value ∷ wanted_of K more) (key_terms (λ k. option_or (beside K (entities_of K more) k) (beside L entities k)) M)
        ∙ ap₂ (λ l r. l ++ r) (ap₂ (λ y ys. y ∷ ys) a others_left)
        (key_terms_are h entity (λ k. option_or (beside K (entities_of K more) k) (beside L entities k)) M (all_there h entity K (entities_of K more) L entities keys_left keys_right M union))

  -- the left row and the right one, whose variables are numbered on, under the same substitution
  pub glued_pair : (p q : List Term) (v w : Term) (others : List Term) (entity : Key → Term) → map (substitute h) p ≡ v ∷ w ∷ (others ++ map entity K) → map (substitute h) q ≡ w ∷ map entity L
      → SolvesAll h (pair_equations K L M p q) × (map (substitute h) (pair_columns K L M p q) ≡ (v ∷ others) ++ map entity M)
  glued_pair [] q v w others entity left right = absurd (cc)
  glued_pair (value ∷ []) q v w others entity left right = absurd (cc)
  glued_pair (value ∷ wanted ∷ more) [] v w others entity left right = absurd (cc)
  glued_pair (value ∷ wanted ∷ more) (own ∷ entities) v w others entity left right = (
    shaped_solved value wanted more own entities v w others entity left right,
    shaped_columns value wanted more own entities v w others entity left right,
  )

-- A ground instance of each of two canonical rows, which agree on the wanted value and on the entities of their common
-- keys. They make the row with the other values and all entities.
pub record ArePaired (sig : Signature) (K L M : List Key) (p q x : List Term) : Type 0 where
  pub left : Substitution
  pub right : Substitution
  pub value : Term
  pub wanted : Term
  pub others : List Term
  pub entity : Key → Term
  pub left_is : map (substitute left) p ≡ value ∷ wanted ∷ (others ++ map entity K)
  pub right_is : map (substitute right) q ≡ wanted ∷ map entity L
  pub made_is : x ≡ (value ∷ others) ++ map entity M

from_one : (m : ℕ) (xs : List Variable) → Each (IsWithin m) xs → Each (λ x. 1 ≤ x.1) xs
from_one m [] h = tt
from_one m (x ∷ xs) ((one, two), more) = (one, from_one m xs more)

module _ (sig : Signature) (K L M : List Key) (union : AllByRecursion (λ k. (is_among K k || is_among L k) ≡ true) M) (p q : List Term) (p_is : IsCanonical sig p) (q_is : IsCanonical sig q) (i j : ℕ) where
  abbrev case : Case
  case = pair_case K L M i j p q

  -- what they make is an instance of a claimed row
  pub paired_covered : (rows : List (List Term)) (verdict : Verdict) → IsRight rows case.given case.columns verdict
      → (x : List Term) → ArePaired sig K L M p q x → IsOfClaimed rows x
  paired_covered rows verdict right x pair =
      let m : ℕ = variable_count p in
      let h : Substitution = joined m pair.left pair.right in
      let one : map (substitute h) p ≡ map (substitute pair.left) p = left_same m pair.left pair.right p (row_within sig p p_is) in
      let two : map (substitute h) (numbered_on m q) ≡ map (substitute pair.right) q =
      right_same m pair.left pair.right q (from_one (variable_count q) (variables_of q) (row_within sig q q_is)) in
      let (solved, columns) = glued_pair K L M union h p (numbered_on m q) pair.value pair.wanted pair.others pair.entity (one ∙ pair.left_is) (two ∙ pair.right_is) in
      subst (IsOfClaimed rows) (columns ∙ sym pair.made_is) (right_verdict h rows case.given case.columns verdict right solved)

  -- so where the verdict is a clash or a circle, they make none
  pub clash_makes_none : (rs : List Rule) (number : ℕ) → IsRight [] case.given case.columns (verdicts.Clash rs number) → (x : List Term) → ArePaired sig K L M p q x → ⊥
  clash_makes_none rs number right x pair = let it = paired_covered [] (verdicts.Clash rs number) right x pair in elim it.there [ ]

  pub circle_makes_none : (rs : List Rule) (number : ℕ) → IsRight [] case.given case.columns (verdicts.Circle rs number) → (x : List Term) → ArePaired sig K L M p q x → ⊥
  circle_makes_none rs number right x pair = let it = paired_covered [] (verdicts.Circle rs number) right x pair in elim it.there [ ]
