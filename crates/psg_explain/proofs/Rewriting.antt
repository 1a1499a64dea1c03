-- What substitutions do to derived equations: what holds under one holds of all that rules derive, no clash and no circle
-- holds, and rewriting by what holds changes nothing.
use Rattle.std.proofs.Common.{◌≡◌, ◌⊎◌, inl, inr, ℕ, ◌<◌, ◌≤◌, ◌||◌, true, false, cond, List, [], ◌∷◌, ◌++◌, map, Some, refl, ap, ap₂, sym, ◌∙◌, subst, arith}
use Rattle.std.specs.List.{slice_get, AllByRecursion}
use Rattle.psg_terms.specs.Terms.{Term, variable, symbol, apply}
use Rattle.psg_terms.specs.Sizes.{size}
use Rattle.psg_terms.specs.Instances.{Substitution, substitute}
use Rattle.psg_terms.specs.Canonical.{Variable, variables, is_noted, same_variable}
use Rattle.psg_terms.specs.Relations.{IsIn}
use Rattle.psg_terms.proofs.InstanceLaws.{after, map-substitute-after}
use Rattle.psg_terms.proofs.Lists.{each_at, each_push, in_at, slice_get-map_some}
use Rattle.psg_terms.proofs.Variables.{same_variable-refl, variable_cases, true_false}
use Rattle.psg_relation.specs.Heads.{head_of}
use Rattle.psg_explain.specs.declared.refutation.Rule.{Rule}
use Rattle.psg_explain.specs.declared.refutation.Rule.TheVariants as rules
use Rattle.psg_explain.specs.declared.refutation.Verdict.{Verdict}
use Rattle.psg_explain.specs.declared.refutation.Verdict.TheVariants as verdicts
use Rattle.psg_explain.specs.Equations.{Equation, arguments_of, term_of, put_for, Gives, GiveAll, IsClash, IsCircle, StandsInside}
use Rattle.psg_explain.specs.Verdicts.{Rewrites, IsRight, valued}

-- the sides are equal under the substitution
abbrev pub Solves : Substitution → Equation → Type 0
Solves f e = substitute f e.0 ≡ substitute f e.1

abbrev pub SolvesAll : Substitution → List Equation → Type 0
SolvesAll f es = AllByRecursion (Solves f) es

-- ---- replacing a variable by an equal term

one_place : (f : Substitution) (x : Variable) (t : Term) (s n : ℕ) → f x.0 x.1 ≡ substitute f t → substitute f (put_for x t s n) ≡ f s n
one_place f x t s n e = elim (variable_cases x (s, n)) [
  | inl d ↦
      let same : same_variable x (s, n) ≡ true = ap (λ y. same_variable x y) (sym d) ∙ same_variable-refl x in
      ap (λ b. substitute f (cond b t (variable s n))) same ∙ sym e ∙ ap (λ (y : Variable). f y.0 y.1) d
  | inr d ↦ ap (λ b. substitute f (cond b t (variable s n))) d
]

pub put-same : (f : Substitution) (x : Variable) (t : Term) → f x.0 x.1 ≡ substitute f t → (u : Term) → substitute f (substitute (put_for x t) u) ≡ substitute f u
put-same f x t e (variable s n) = one_place f x t s n e
put-same f x t e (symbol c) = refl
put-same f x t e (apply g a) = ap₂ apply (put-same f x t e g) (put-same f x t e a)

pub put-same_all : (f : Substitution) (x : Variable) (t : Term) → f x.0 x.1 ≡ substitute f t → (us : List Term) → map (substitute f) (map (substitute (put_for x t)) us) ≡ map (substitute f) us
put-same_all f x t e [] = refl
put-same_all f x t e (u ∷ us) = ap₂ (λ y ys. y ∷ ys) (put-same f x t e u) (put-same_all f x t e us)

-- ---- arguments

append-map : (g : Term → Term) (xs : List Term) (a : Term) → map g (xs ++ a ∷ []) ≡ map g xs ++ g a ∷ []
append-map g [] a = refl
append-map g (x ∷ xs) a = ap (λ l. g x ∷ l) (append-map g xs a)

pub arguments-substitute : (f : Substitution) (t : Term) (c : ℕ) → head_of t ≡ Some c → arguments_of (substitute f t) ≡ map (substitute f) (arguments_of t)
arguments-substitute f (variable s n) c e = absurd (cc)
arguments-substitute f (symbol d) c e = refl
arguments-substitute f (apply g a) c e = ap (λ l. l ++ substitute f a ∷ []) (arguments-substitute f g c e) ∙ sym (append-map (substitute f) (arguments_of g) a)

-- ---- sizes

abbrev pub size_at : Substitution → Variable → ℕ
size_at f x = size (f x.0 x.1)

among-or : (x : Variable) (xs ys : List Variable) → is_noted x (xs ++ ys) ≡ true → (is_noted x xs ≡ true) ⊎ (is_noted x ys ≡ true)
among-or x [] ys e = inr e
among-or x (y ∷ xs) ys e = elim (variable_cases x y) [
  | inl d ↦ inl (ap (λ b. b || is_noted x xs) (ap (λ z. same_variable x z) (sym d) ∙ same_variable-refl x))
  | inr d ↦ elim (among-or x xs ys (sym (ap (λ b. b || is_noted x (xs ++ ys)) d) ∙ e)) [
    | inl h ↦ inl (ap (λ b. b || is_noted x xs) d ∙ h)
    | inr h ↦ inr h
  ]
]

-- a variable of a term is not larger than the term
pub size_within : (f : Substitution) (x : Variable) (t : Term) → is_noted x (variables t) ≡ true → size_at f x ≤ size (substitute f t)
size_within f x (variable s n) e = elim (variable_cases x (s, n)) [
  | inl d ↦ let h : size_at f x ≡ size (f s n) = ap (size_at f) d in omega (arith, h)
  | inr d ↦ absurd (true_false (sym e ∙ ap (λ b. b || false) d))
]
size_within f x (symbol c) e = absurd (true_false (sym e))
size_within f x (apply g a) e = elim (among-or x (variables g) (variables a) e) [
  | inl h ↦ let d = size_within f x g h in omega (arith, d)
  | inr h ↦ let d = size_within f x a h in omega (arith, d)
]

pub size_inside : (f : Substitution) (x : Variable) (t : Term) → StandsInside x t → size_at f x < size (substitute f t)
size_inside f x (variable s n) h = absurd h
size_inside f x (symbol c) h = absurd h
size_inside f x (apply g a) h = elim (among-or x (variables g) (variables a) h) [
  | inl i ↦ let d = size_within f x g i in omega (arith, d)
  | inr i ↦ let d = size_within f x a i in omega (arith, d)
]

-- ---- no clash and no circle holds

head-substitute : (f : Substitution) (t : Term) (c : ℕ) → head_of t ≡ Some c → head_of (substitute f t) ≡ Some c
head-substitute f (variable s n) c e = absurd (cc)
head-substitute f (symbol d) c e = e
head-substitute f (apply g a) c e = head-substitute f g c e

pub clash_fails : (f : Substitution) (e : Equation) → IsClash e → Solves f e → ⊥
clash_fails f e (c, d, left, right, differ) same =
    let one : head_of (substitute f e.0) ≡ Some c = head-substitute f e.0 c left in
    let two : head_of (substitute f e.1) ≡ Some d = head-substitute f e.1 d right in
    let both : Some c ≡ Some d = sym one ∙ ap head_of same ∙ two in
    differ (cc)

circle_one : (f : Substitution) (x : Variable) (a b : Term) → a ≡ term_of x → StandsInside x b → substitute f a ≡ substitute f b → ⊥
circle_one f x a b e inside same =
    let d : f x.0 x.1 ≡ substitute f b = sym (ap (substitute f) e) ∙ same in
    let h = size_inside f x b inside in
    let g : size_at f x ≡ size (substitute f b) = ap size d in
    omega (arith, h, g)

pub circle_fails : (f : Substitution) (e : Equation) → IsCircle e → Solves f e → ⊥
circle_fails f e (x, inl (left, inside)) same = circle_one f x e.0 e.1 left inside same
circle_fails f e (x, inr (right, inside)) same = circle_one f x e.1 e.0 right inside (sym same)

-- ---- what rules derive

pub gives_solved : (f : Substitution) (given before : List Equation) (rule : Rule) (e : Equation) → SolvesAll f given → SolvesAll f before → Gives given before rule e → Solves f e
gives_solved f given before (rules.Given i) e g b at = each_at (Solves f) given g i e at
gives_solved f given before (rules.Part n k) e g b (whole, at, (c, (left, right), one, two)) =
    let same : Solves f whole = each_at (Solves f) before b n whole at in
    let here : slice_get (arguments_of (substitute f whole.0)) k ≡ Some (substitute f e.0) =
    ap (λ l. slice_get l k) (arguments-substitute f whole.0 c left) ∙ slice_get-map_some (substitute f) (arguments_of whole.0) k e.0 one in
    let there : slice_get (arguments_of (substitute f whole.1)) k ≡ Some (substitute f e.1) =
    ap (λ l. slice_get l k) (arguments-substitute f whole.1 c right) ∙ slice_get-map_some (substitute f) (arguments_of whole.1) k e.1 two in
    let both : Some (substitute f e.0) ≡ Some (substitute f e.1) = sym here ∙ ap (λ t. slice_get (arguments_of t) k) same ∙ there in
    cc
gives_solved f given before (rules.Flip n) e g b at = sym (each_at (Solves f) before b n (e.1, e.0) at)
gives_solved f given before (rules.Replace n m) e g b (whole, x, t, at, other, binding, made) =
    let same : Solves f whole = each_at (Solves f) before b n whole at in
    let by : f x.0 x.1 ≡ substitute f t = each_at (Solves f) before b m (term_of x, t) binding in
    ap (λ (d : Equation). substitute f d.0) made ∙ put-same f x t by whole.0 ∙ same ∙ sym (put-same f x t by whole.1) ∙ sym (ap (λ (d : Equation). substitute f d.1) made)

pub derived_solved : (f : Substitution) (given before : List Equation) (rs : List Rule) (all : List Equation) → SolvesAll f given → SolvesAll f before → GiveAll given before rs all → SolvesAll f all
derived_solved f given before [] all g b e = subst (SolvesAll f) (sym e) b
derived_solved f given before (r ∷ rs) all g b (e, gives, more) =
    derived_solved f given (before ++ e ∷ []) rs all g (each_push (Solves f) before e b (gives_solved f given before r e g b gives)) more

-- ---- rewriting

pub rewrites_same : (f : Substitution) (all : List Equation) (bindings : List ℕ) (columns made : List Term) → SolvesAll f all → Rewrites all bindings columns made → map (substitute f) made ≡ map (substitute f) columns
rewrites_same f all [] columns made h e = ap (map (substitute f)) e
rewrites_same f all (n ∷ bindings) columns made h (x, t, binding, more) =
    let by : f x.0 x.1 ≡ substitute f t = each_at (Solves f) all h n (term_of x, t) binding in
    rewrites_same f all bindings (map (substitute (put_for x t)) columns) made h more ∙ put-same_all f x t by columns

-- A right verdict: where the given equations hold under a substitution, the columns are an instance of a claimed row.
pub record IsOfClaimed (rows : List (List Term)) (columns : List Term) : Type 0 where
  pub row : List Term
  pub there : IsIn row rows
  pub by : Substitution
  pub same : columns ≡ map (substitute by) row

pub right_verdict : (f : Substitution) (rows : List (List Term)) (given : List Equation) (columns : List Term) (v : Verdict)
    → IsRight rows given columns v → SolvesAll f given → IsOfClaimed rows (map (substitute f) columns)
right_verdict f rows given columns (verdicts.Covered to rs bindings values) (all, derives, made, rewrites, row, at, under) solved =
    let holds = derived_solved f given [] rs all solved tt derives in
    record {
      row = row;
      there = in_at rows to row at;
      by = after f (valued values);
      same = sym (rewrites_same f all bindings columns made holds rewrites) ∙ ap (map (substitute f)) under.same ∙ sym (map-substitute-after f (valued values) row);
    }
right_verdict f rows given columns (verdicts.Clash rs number) (all, derives, e, at, clash) solved =
    absurd (clash_fails f e clash (each_at (Solves f) all (derived_solved f given [] rs all solved tt derives) number e at))
right_verdict f rows given columns (verdicts.Circle rs number) (all, derives, e, at, circle) solved =
    absurd (circle_fails f e circle (each_at (Solves f) all (derived_solved f given [] rs all solved tt derives) number e at))
