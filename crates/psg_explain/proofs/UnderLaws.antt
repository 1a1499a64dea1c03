-- Terms that are general ones with values for their variables.
use Rattle.std.proofs.Common.{◌≡◌, ◌↔◌, ℕ, zero, suc, ◌+◌, ◌-◌, ◌<◌, ◌≤◌, Bool, true, false, IsTrue, List, [], ◌∷◌, ◌++◌, map, take, get_or, length, Option, Some, None, MatchOption, refl, ap, ap₂, sym, ◌∙◌, subst, slice_get, arith, append-nil}
use Rattle.std.specs.List.{AllByRecursion}
use Rattle.std.proofs.lemmas.List.{map-append, take_all}
use Rattle.psg_terms.specs.Terms.{Term, variable, symbol, applied}
use Rattle.psg_terms.specs.Instances.{substitute}
use Rattle.psg_terms.specs.Canonical.{Variable, variables, variables_of}
use Rattle.psg_terms.proofs.Applied.{applied-substitute}
use Rattle.psg_terms.proofs.Lists.{each_append, take_item}
use Rattle.psg_terms.proofs.RenamingLaws.{variables-applied, variables_of-append}
use Rattle.psg_explain.specs.declared.refutation.Rule.{Rule}
use Rattle.psg_explain.specs.Equations.{Derives, Equation, put_for, term_of}
use Rattle.psg_explain.specs.Verdicts.{AreMade, HasValue, IsDerived, IsMade, IsMadeBy, Rewrites, valued}
use Rattle.psg_explain.proofs.ApplyingLaws.{con_no_variable, give_once, same_number, some_is}
use Rattle.psg_explain.proofs.SolvingLaws.{arguments_con, head_con}

read_there : (xs : List Term) (i : ℕ) (x d : Term) → slice_get xs i ≡ Some x → get_or xs i d ≡ x
read_there [] i x d h = absurd (cc)
read_there (y ∷ xs) zero x d h = some_is h
read_there (y ∷ xs) (suc i) x d h = read_there xs i x d h

ends_there : (xs : List Term) (i : ℕ) (x : Term) → slice_get xs i ≡ Some x → i < length xs
ends_there [] i x h = absurd (cc)
ends_there (y ∷ xs) zero x h = omega arith
ends_there (y ∷ xs) (suc i) x h = let k = ends_there xs i x h in omega (arith, k)

past_end : (xs : List Term) (i : ℕ) → slice_get xs i ≡ None → length xs ≤ i
past_end [] i h = omega arith
past_end (y ∷ xs) zero h = absurd (cc)
past_end (y ∷ xs) (suc i) h = let k = past_end xs i h in omega (arith, k)

pub told : {b : Bool} → b ≡ false → b ≡ true → ⊥
told e h = let d : false ≡ true = sym e ∙ h in absurd (cc)

-- what is not so is told as false
pub unmade : {P : Type 0} → (P → ⊥) → IsTrue false ↔ P
unmade none = ((λ h. absurd (told refl h)), (λ p. absurd (none p)))

pub match_some : {A : Type 0} (o : Option A) (x : A) → o ≡ Some x → (N : Type 0) (S : A → Type 0) → MatchOption o N S → S x
match_some {A} o x e N S h = subst (λ (q : Option A). MatchOption q N S) e h

pub match_none : {A : Type 0} (o : Option A) → o ≡ None → (N : Type 0) (S : A → Type 0) → MatchOption o N S → N
match_none {A} o e N S h = subst (λ (q : Option A). MatchOption q N S) e h

module _ (values : List Term) where
  variable_value : (s n : ℕ) (special : Term) → IsMade values (variable s n) special → (1 ≤ n) × (n ≤ length values)
  variable_value s n special ((a, b), e) = a

  pub zero_unmade : (general special : Term) (s n : ℕ) → general ≡ variable s n → n ≡ 0 → IsMade values general special → ⊥
  zero_unmade general special s n e z h = let (a, b) = variable_value s n special (subst (λ t. IsMade values t special) e h) in omega (arith, z, a)

  pub past_unmade : (general special : Term) (s n : ℕ) → general ≡ variable s n → slice_get values (n - 1) ≡ None → IsMade values general special → ⊥
  past_unmade general special s n e none h =
      let (a, b) = variable_value s n special (subst (λ t. IsMade values t special) e h) in
      let k = past_end values (n - 1) none in
      omega (arith, a, b, k)

  pub variable_made : (general special value : Term) (s n : ℕ) → general ≡ variable s n → (n ≡ 0 → ⊥) → slice_get values (n - 1) ≡ Some value → (value ≡ special) ↔ IsMade values general special
  variable_made general special value s n e some at = subst (λ t. (value ≡ special) ↔ IsMade values t special) (sym e) (
    (λ d. (((one, within), tt), sym d ∙ sym (read_there values (n - 1) value (variable s n) at))),
    (λ h. sym (h.1 ∙ read_there values (n - 1) value (variable s n) at)),
  )
    where
      one : 1 ≤ n
      one = omega (arith, some)

      within : n ≤ length values
      within = let k = ends_there values (n - 1) value at in omega (arith, k, some)

  substituted : (c : ℕ) (args : List Term) (general : Term) → general ≡ applied (symbol c) args → substitute (valued values) general ≡ applied (symbol c) (map (substitute (valued values)) args)
  substituted c args general e = ap (substitute (valued values)) e ∙ applied-substitute (valued values) (symbol c) args

  variables_con : (c : ℕ) (args : List Term) (general : Term) → general ≡ applied (symbol c) args → variables general ≡ variables_of args
  variables_con c args general e = ap variables e ∙ variables-applied (symbol c) args

  pub con_made : (general special : Term) (c d : ℕ) (args parts : List Term) → general ≡ applied (symbol c) args → special ≡ applied (symbol d) parts → c ≡ d
      → AreMade values args parts ↔ IsMade values general special
  con_made general special c d args parts e f same = (
    (λ (h, is). (
      subst (AllByRecursion (HasValue values)) (sym (variables_con c args general e)) h,
      f ∙ ap₂ (λ k l. applied (symbol k) l) (sym same) is ∙ sym (substituted c args general e),
    )),
    (λ (h, is). (
      subst (AllByRecursion (HasValue values)) (variables_con c args general e) h,
      sym (arguments_con special d parts f) ∙ arguments_con special c (map (substitute (valued values)) args) (is ∙ substituted c args general e),
    )),
  )

  pub con_same : (general special : Term) (c d : ℕ) (args parts : List Term) → general ≡ applied (symbol c) args → special ≡ applied (symbol d) parts → IsMade values general special → c ≡ d
  con_same general special c d args parts e f (h, is) =
      some_is (sym (head_con special c (map (substitute (valued values)) args) (is ∙ substituted c args general e)) ∙ head_con special d parts f)

  pub con_unmade : (general special : Term) (c : ℕ) (args : List Term) (s n : ℕ) → general ≡ applied (symbol c) args → special ≡ variable s n → IsMade values general special → ⊥
  con_unmade general special c args s n e f (h, is) =
      con_no_variable special c (map (substitute (valued values)) args) (is ∙ substituted c args general e) s n f

  -- ---- rows

  length_map : (xs : List Term) → length (map (substitute (valued values)) xs) ≡ length xs
  length_map [] = refl
  length_map (x ∷ xs) = let k = length_map xs in omega (arith, k)

  pub made_lengths : (general special : List Term) → AreMade values general special → length general ≡ length special
  made_lengths general special (h, is) = sym (ap length is ∙ length_map general)

  pub none_made : AreMade values [] []
  none_made = (tt, refl)

  front_each : (xs ys : List Variable) → AllByRecursion (HasValue values) (xs ++ ys) → AllByRecursion (HasValue values) xs × AllByRecursion (HasValue values) ys
  front_each [] ys h = (tt, h)
  front_each (x ∷ xs) ys (p, h) = let (a, b) = front_each xs ys h in ((p, a), b)

  pub made_at : (general special : List Term) (i : ℕ) (a b : Term) → i < length general → i < length special → a ≡ get_or general i a → b ≡ get_or special i b → AreMade values general special → IsMade values a b
  made_at [] special i a b lt lu at there h = absurd (omega (arith, lt))
  made_at (x ∷ general) [] i a b lt lu at there h = absurd (omega (arith, lu))
  made_at (x ∷ general) (y ∷ special) zero a b lt lu at there (h, is) =
      let first : y ≡ substitute (valued values) x = head_same y (substitute (valued values) x) special (map (substitute (valued values)) general) is in
      let (p, q) = front_each (variables x) (variables_of general) h in
      subst (λ t. IsMade values t b) (sym at) (subst (IsMade values x) (sym there) (p, first))
    where
      head_same : (p q : Term) (ps qs : List Term) → p ∷ ps ≡ q ∷ qs → p ≡ q
      head_same p q ps qs e = cc
  made_at (x ∷ general) (y ∷ special) (suc i) a b lt lu at there (h, is) =
      let (p, q) = front_each (variables x) (variables_of general) h in
      made_at general special i a b (omega (arith, lt)) (omega (arith, lu)) at there (q, rest_same y (substitute (valued values) x) special (map (substitute (valued values)) general) is)
    where
      rest_same : (p q : Term) (ps qs : List Term) → p ∷ ps ≡ q ∷ qs → ps ≡ qs
      rest_same p q ps qs e = cc

  pub made_next : (general special : List Term) (i : ℕ) (a b : Term) → i < length general → i < length special → a ≡ get_or general i a → b ≡ get_or special i b
      → AreMade values (take i general) (take i special) → IsMade values a b → AreMade values (take (i + 1) general) (take (i + 1) special)
  made_next general special i a b lt lu at there (h, is) (k, one) = (
    subst (AllByRecursion (HasValue values)) (sym (ap variables_of (take_item general i a lt at) ∙ variables_of-append (take i general) (a ∷ []) ∙ ap (λ l. variables_of (take i general) ++ l) (append-nil (variables a))))
        (each_append (HasValue values) (variables_of (take i general)) (variables a) h k),
    take_item special i b lu there ∙ ap₂ (λ l t. l ++ t ∷ []) is one ∙ sym (ap (map (substitute (valued values))) (take_item general i a lt at) ∙ map-append (substitute (valued values)) (take i general) (a ∷ [])),
  )

  pub made_all : (general special : List Term) (i : ℕ) → length general ≤ i → length general ≡ length special → AreMade values (take i general) (take i special) → AreMade values general special
  made_all general special i le same h =
      subst (λ l. AreMade values l special) (take_all i general le) (subst (AreMade values (take i general)) (take_all i special (omega (arith, le, same))) h)

-- ---- rows that are rewritten

rewrites_once : (all : List Equation) (bindings : List ℕ) (columns a b : List Term) → Rewrites all bindings columns a → Rewrites all bindings columns b → a ≡ b
rewrites_once all [] columns a b p q = p ∙ sym q
rewrites_once all (n ∷ bindings) columns a b (x, t, at, h) (y, u, there, k) =
    let e : ◌≡◌ {A = Equation} (term_of x, t) (term_of y, u) = some_is (sym at ∙ there) in
    let same : x ≡ y = same_number x y (ap (λ (p : Equation). p.0) e) in
    let by : t ≡ u = ap (λ (p : Equation). p.1) e in
    rewrites_once all bindings (map (substitute (put_for x t)) columns) a b h
    (subst (λ l. Rewrites all bindings l b) (sym (ap₂ (λ (z : Variable) (w : Term). map (substitute (put_for z w)) columns) same by)) k)

module _ (given : List Equation) (rules : List Rule) where
  pub no_rules : (number : ℕ) → ((all : List Equation) → Derives given rules all → ⊥) → (e : Equation) → IsDerived given rules number e → ⊥
  no_rules number none e (all, d, at) = none all d

  pub no_number : (number : ℕ) (all : List Equation) → Derives given rules all → slice_get all number ≡ None → (e : Equation) → IsDerived given rules number e → ⊥
  no_number number all d none e (other, h, at) =
      let f : None ≡ Some e = sym none ∙ ap (λ l. slice_get l number) (give_once given [] rules all other d h) ∙ at in
      absurd (cc)

  module _ (columns row : List Term) (bindings : List ℕ) (values : List Term) where
    pub unrewritten : (all : List Equation) → Derives given rules all → ((made : List Term) → Rewrites all bindings columns made → ⊥) → IsMadeBy given columns row rules bindings values → ⊥
    unrewritten all d none (other, h, made, is, more) = none made (subst (λ l. Rewrites l bindings columns made) (give_once given [] rules other all h d) is)

    pub made_by : (all : List Equation) → Derives given rules all → (made : List Term) → Rewrites all bindings columns made
        → AreMade values row made ↔ IsMadeBy given columns row rules bindings values
    made_by all d made is = (
      (λ h. (all, d, made, is, h)),
      (λ (other, f, others, are, h).
          subst (AreMade values row) (rewrites_once all bindings columns others made (subst (λ l. Rewrites l bindings columns others) (give_once given [] rules other all f d) are) is) h),
    )
