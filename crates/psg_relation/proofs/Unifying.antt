-- Equations of terms have a most general solution, or none.
use Rattle.std.proofs.Common.{◌≡◌, ◌≢◌, ℕ, ◌+◌, ◌<◌, ◌≤◌, ◌⊎◌, ◌||◌, inl, inr, Bool, true, false, cond, List, [], ◌∷◌, ◌++◌, length, zero, suc, refl, ap, ap₂, sym, ◌∙◌, subst, arith}
use Rattle.std.proofs.lemmas.Bool.{cases_Bool, or_cases, or_parts, cases_eq}
use Rattle.psg_terms.proofs.OneRelation.{takes_once}
use Rattle.psg_terms.specs.Terms.{Term, variable, symbol, apply}
use Rattle.psg_terms.specs.Sizes.{size}
use Rattle.psg_terms.specs.Signature.{Signature, Takes, HasSort}
use Rattle.psg_terms.specs.Instances.{Substitution, substitute, IsSorted}
use Rattle.psg_terms.specs.Canonical.{Variable, same_variable, is_noted, variables}
use Rattle.psg_terms.proofs.Covers.{among-left, among-right}
use Rattle.psg_terms.proofs.InstanceLaws.{after, substitute-after, substitute-same, Takes-substitute}
use Rattle.psg_terms.proofs.Variables.{same_variable-refl, same_variable-true, same_variable-sym, true_false}
use Rattle.psg_relation.proofs.Existing.{term_cases}

abbrev pub Equation : Type 0
Equation = Term × Term

abbrev pub Unifies : Substitution → List Equation → Type 0
Unifies g [] = Unit {0}
Unifies g (e ∷ es) = (substitute g e.0 ≡ substitute g e.1) × Unifies g es

-- a term of some sort, with arguments or without
abbrev pub IsTyped : Signature → Term → Type 0
IsTyped sig t = (wanted : List ℕ) × (sort : ℕ) × Takes sig t wanted sort

abbrev pub AreTyped : Signature → List Equation → Type 0
AreTyped sig [] = Unit {0}
AreTyped sig (e ∷ es) = IsTyped sig e.0 × IsTyped sig e.1 × AreTyped sig es

-- the solution of which each one is a case
pub record Unifier (sig : Signature) (es : List Equation) : Type 0 where
  pub by : Substitution
  pub sorted : IsSorted sig by
  pub solves : Unifies by es
  pub general : (g : Substitution) → IsSorted sig g → Unifies g es → (s n : ℕ) → g s n ≡ substitute g (by s n)

abbrev pub Unsolved : Signature → List Equation → Type 0
Unsolved sig es = (g : Substitution) → IsSorted sig g → Unifies g es → ⊥

abbrev pub Result : Signature → List Equation → Type 0
Result sig es = Unifier sig es ⊎ Unsolved sig es

-- ---- variables

abbrev IsWithin : List Variable → Term → Type 0
IsWithin xs (variable s n) = is_noted (s, n) xs ≡ true
IsWithin xs (symbol c) = Unit {0}
IsWithin xs (apply f a) = IsWithin xs f × IsWithin xs a

abbrev AreWithin : List Variable → List Equation → Type 0
AreWithin xs [] = Unit {0}
AreWithin xs (e ∷ es) = IsWithin xs e.0 × IsWithin xs e.1 × AreWithin xs es

within_more : (xs ys : List Variable) → ((x : Variable) → is_noted x xs ≡ true → is_noted x ys ≡ true) → (t : Term) → IsWithin xs t → IsWithin ys t
within_more xs ys h (variable s n) w = h (s, n) w
within_more xs ys h (symbol c) w = tt
within_more xs ys h (apply f a) (v, w) = (within_more xs ys h f v, within_more xs ys h a w)

all_more : (xs ys : List Variable) → ((x : Variable) → is_noted x xs ≡ true → is_noted x ys ≡ true) → (es : List Equation) → AreWithin xs es → AreWithin ys es
all_more xs ys h [] w = tt
all_more xs ys h (e ∷ es) (u, v, w) = (within_more xs ys h e.0 u, within_more xs ys h e.1 v, all_more xs ys h es w)

own : (t : Term) → IsWithin (variables t) t
own (variable s n) = ap (λ b. b || false) (same_variable-refl (s, n))
own (symbol c) = tt
own (apply f a) = (
  within_more (variables f) (variables f ++ variables a) (λ x h. among-left x (variables f) (variables a) h) f (own f),
  within_more (variables a) (variables f ++ variables a) (λ x h. among-right x (variables f) (variables a) h) a (own a),
)

abbrev variables_in : List Equation → List Variable
variables_in [] = []
variables_in (e ∷ es) = variables e.0 ++ (variables e.1 ++ variables_in es)

all_own : (es : List Equation) → AreWithin (variables_in es) es
all_own [] = tt
all_own (e ∷ es) =
    let rest = variables e.1 ++ variables_in es in (
      within_more (variables e.0) (variables e.0 ++ rest) (λ x h. among-left x (variables e.0) rest h) e.0 (own e.0),
      within_more (variables e.1) (variables e.0 ++ rest) (λ x h. among-right x (variables e.0) rest (among-left x (variables e.1) (variables_in es) h)) e.1 (own e.1),
      all_more (variables_in es) (variables e.0 ++ rest) (λ x h. among-right x (variables e.0) rest (among-right x (variables e.1) (variables_in es) h)) es (all_own es),
    )

abbrev without : Variable → List Variable → List Variable
without x [] = []
without x (y ∷ ys) = cond (same_variable x y) (without x ys) (y ∷ without x ys)

noted_without : (x v : Variable) (xs : List Variable) → same_variable x v ≡ false → is_noted v xs ≡ true → is_noted v (without x xs) ≡ true
noted_without x v [] ne h = h
noted_without x v (y ∷ ys) ne h = elim (cases_Bool (same_variable x y)) [
  | inl e ↦ (let d : same_variable v y ≡ false = subst (λ z. same_variable v z ≡ false) (same_variable-true x y e) (same_variable-sym x v ne) in
      subst (λ b. is_noted v (cond b (without x ys) (y ∷ without x ys)) ≡ true) (sym e) (noted_without x v ys ne (ap (λ b. b || is_noted v ys) (sym d) ∙ h)))
  | inr e ↦ subst (λ b. is_noted v (cond b (without x ys) (y ∷ without x ys)) ≡ true) (sym e) (elim (cases_Bool (same_variable v y)) [
    | inl d ↦ ap (λ b. b || is_noted v (without x ys)) d
    | inr d ↦ ap (λ b. b || is_noted v (without x ys)) d ∙ noted_without x v ys ne (ap (λ b. b || is_noted v ys) (sym d) ∙ h)
  ])
]

at_most : (x : Variable) (xs : List Variable) → length (without x xs) ≤ length xs
at_most x [] = omega arith
at_most x (y ∷ ys) = let k = at_most x ys in elim (same_variable x y) as (λ b. length (cond b (without x ys) (y ∷ without x ys)) ≤ length (y ∷ ys)) [ true ↦ omega arith | false ↦ omega arith ]

shorter : (x : Variable) (xs : List Variable) → is_noted x xs ≡ true → length (without x xs) < length xs
shorter x [] h = absurd (true_false (sym h))
shorter x (y ∷ ys) h = elim (cases_Bool (same_variable x y)) [
  | inl e ↦ (let k = at_most x ys in subst (λ b. length (cond b (without x ys) (y ∷ without x ys)) < length (y ∷ ys)) (sym e) (omega arith))
  | inr e ↦ (let k = shorter x ys (ap (λ b. b || is_noted x ys) (sym e) ∙ h) in subst (λ b. length (cond b (without x ys) (y ∷ without x ys)) < length (y ∷ ys)) (sym e) (omega arith))
]

-- ---- one variable

occurs : Variable → Term → Bool
occurs x (variable s n) = same_variable x (s, n)
occurs x (symbol c) = false
occurs x (apply f a) = occurs x f || occurs x a

-- one variable gets a term of its own
abbrev single : Variable → Term → Substitution
single x t p q = cond (same_variable x (p, q)) t (variable p q)

single-here : (s n : ℕ) (t : Term) → single (s, n) t s n ≡ t
single-here s n t = ap (λ b. cond b t (variable s n)) (same_variable-refl (s, n))

single-absent : (x : Variable) (t u : Term) → occurs x u ≡ false → substitute (single x t) u ≡ u
unfolding occurs
single-absent x t (variable p q) h = ap (λ b. cond b t (variable p q)) h
single-absent x t (symbol c) h = refl
single-absent x t (apply f a) h = ap₂ apply (single-absent x t f ((or_parts (occurs x f) (occurs x a) h).0)) (single-absent x t a ((or_parts (occurs x f) (occurs x a) h).1))

-- a variable inside a term has a smaller value
inside : (g : Substitution) (x : Variable) (u : Term) → occurs x u ≡ true → (u ≡ variable x.0 x.1) ⊎ (size (g x.0 x.1) < size (substitute g u))
unfolding occurs
inside g x (variable s n) h = inl (ap (λ (y : Variable). variable y.0 y.1) (sym (same_variable-true x (s, n) h)))
inside g x (symbol c) h = absurd (true_false (sym h))
inside g x (apply f a) h = elim (or_cases (occurs x f) (occurs x a) h) [
  | inl e ↦ elim (inside g x f e) [ inl i ↦ (let k = ap (λ t. size (substitute g t)) i in inr (omega arith)) | inr l ↦ inr (omega arith) ]
  | inr e ↦ elim (inside g x a e) [ inl i ↦ (let k = ap (λ t. size (substitute g t)) i in inr (omega arith)) | inr l ↦ inr (omega arith) ]
]

absent_within : (x : Variable) (xs : List Variable) (t : Term) → occurs x t ≡ false → IsWithin xs t → IsWithin (without x xs) t
unfolding occurs
absent_within x xs (variable s n) h w = noted_without x (s, n) xs h w
absent_within x xs (symbol c) h w = tt
absent_within x xs (apply f a) h (v, w) = (absent_within x xs f ((or_parts (occurs x f) (occurs x a) h).0) v, absent_within x xs a ((or_parts (occurs x f) (occurs x a) h).1) w)

bound_within : (x : Variable) (xs : List Variable) (t u : Term) → IsWithin (without x xs) t → IsWithin xs u → IsWithin (without x xs) (substitute (single x t) u)
bound_within x xs t (variable s n) h w = elim (cases_Bool (same_variable x (s, n))) [
  | inl e ↦ subst (λ b. IsWithin (without x xs) (cond b t (variable s n))) (sym e) h
  | inr e ↦ subst (λ b. IsWithin (without x xs) (cond b t (variable s n))) (sym e) (noted_without x (s, n) xs e w)
]
bound_within x xs t (symbol c) h w = tt
bound_within x xs t (apply f a) h (v, w) = (bound_within x xs t f h v, bound_within x xs t a h w)

-- in all equations
abbrev in_all : Substitution → List Equation → List Equation
in_all f [] = []
in_all f (e ∷ es) = (substitute f e.0, substitute f e.1) ∷ in_all f es

all_bound : (x : Variable) (xs : List Variable) (t : Term) (es : List Equation) → IsWithin (without x xs) t → AreWithin xs es → AreWithin (without x xs) (in_all (single x t) es)
all_bound x xs t [] h w = tt
all_bound x xs t (e ∷ es) h (u, v, w) = (bound_within x xs t e.0 h u, bound_within x xs t e.1 h v, all_bound x xs t es h w)

all_typed : (sig : Signature) (f : Substitution) → IsSorted sig f → (es : List Equation) → AreTyped sig es → AreTyped sig (in_all f es)
all_typed sig f s [] h = tt
all_typed sig f s (e ∷ es) ((v, r, p), (w, q, k), h) = ((v, r, Takes-substitute sig f s e.0 v r p), (w, q, Takes-substitute sig f s e.1 w q k), all_typed sig f s es h)

unifies_after : (g f : Substitution) (es : List Equation) → Unifies g (in_all f es) → Unifies (after g f) es
unifies_after g f [] h = tt
unifies_after g f (e ∷ es) (d, h) = (substitute-after g f e.0 ∙ d ∙ sym (substitute-after g f e.1), unifies_after g f es h)

after_unifies : (g f : Substitution) (es : List Equation) → Unifies (after g f) es → Unifies g (in_all f es)
after_unifies g f [] h = tt
after_unifies g f (e ∷ es) (d, h) = (sym (substitute-after g f e.0) ∙ d ∙ substitute-after g f e.1, after_unifies g f es h)

unifies_same : (g h : Substitution) → ((s n : ℕ) → g s n ≡ h s n) → (es : List Equation) → Unifies g es → Unifies h es
unifies_same g h k [] u = tt
unifies_same g h k (e ∷ es) (d, u) = (sym (substitute-same g h e.0 k) ∙ d ∙ substitute-same g h e.1 k, unifies_same g h k es u)

-- a solved solution goes on solving
pub unifies_more : (g f : Substitution) (es : List Equation) → Unifies f es → Unifies (after g f) es
unifies_more g f [] h = tt
unifies_more g f (e ∷ es) (d, h) = (substitute-after g f e.0 ∙ ap (substitute g) d ∙ sym (substitute-after g f e.1), unifies_more g f es h)

-- ---- the solution

module _ (sig : Signature) where
  result_from : (es fs : List Equation) → ((g : Substitution) → Unifies g es → Unifies g fs) → ((g : Substitution) → Unifies g fs → Unifies g es) → Result sig fs → Result sig es
  result_from es fs to back (inl u) = inl (record { by = u.by; sorted = u.sorted; solves = back u.by u.solves; general = λ g s h. u.general g s (to g h) })
  result_from es fs to back (inr no_one) = inr (λ g s h. no_one g s (to g h))

  single-sorted : (s n : ℕ) (t : Term) → HasSort sig t s → IsSorted sig (single (s, n) t)
  single-sorted s n t h p q l = elim (cases_Bool (same_variable (s, n) (p, q))) [
    | inl e ↦ subst (λ b. HasSort sig (cond b t (variable p q)) p) (sym e) (subst (λ (y : Variable). HasSort sig t y.0) (same_variable-true (s, n) (p, q) e) h)
    | inr e ↦ subst (λ b. HasSort sig (cond b t (variable p q)) p) (sym e) (l, refl, refl)
  ]

  -- a solution does not change by what it makes equal
  absorbs : (g : Substitution) (s n : ℕ) (t : Term) → g s n ≡ substitute g t → (p q : ℕ) → g p q ≡ substitute g (single (s, n) t p q)
  absorbs g s n t e p q = elim (cases_Bool (same_variable (s, n) (p, q))) [
    | inl d ↦ subst (λ b. g p q ≡ substitute g (cond b t (variable p q))) (sym d) (subst (λ (y : Variable). g y.0 y.1 ≡ substitute g t) (same_variable-true (s, n) (p, q) d) e)
    | inr d ↦ subst (λ b. g p q ≡ substitute g (cond b t (variable p q))) (sym d) refl
  ]

  bound_result : (s n : ℕ) (t : Term) (es : List Equation) → HasSort sig t s → occurs (s, n) t ≡ false → Result sig (in_all (single (s, n) t) es) → Result sig ((variable s n, t) ∷ es)
  bound_result s n t es h o (inl u) =
      let one : Substitution = single (s, n) t in
      let by : Substitution = after u.by one in
      inl (record {
        by = by;
        sorted = λ p q l. Takes-substitute sig u.by u.sorted (one p q) [] p (single-sorted s n t h p q l);
        solves = (
          ap (substitute u.by) (single-here s n t) ∙ sym (substitute-after u.by one t ∙ ap (substitute u.by) (single-absent (s, n) t t o)),
          unifies_after u.by one es u.solves,
        );
        general = λ g sorted (e, k) p q.
            let same : (a b : ℕ) → g a b ≡ substitute g (one a b) = absorbs g s n t e in
            let deeper : (a b : ℕ) → g a b ≡ substitute g (u.by a b) = u.general g sorted (after_unifies g one es (unifies_same g (after g one) same es k)) in
            same p q ∙ substitute-same g (after g u.by) (one p q) deeper ∙ substitute-after g u.by (one p q);
      })
  bound_result s n t es h o (inr no_one) = inr (λ g sorted (e, k). no_one g sorted (after_unifies g (single (s, n) t) es (unifies_same g (after g (single (s, n) t)) (absorbs g s n t e) es k)))

  -- results for fewer variables
  abbrev Below : ℕ → Type 0
  Below n = (xs : List Variable) (es : List Equation) → length xs < n → AreWithin xs es → AreTyped sig es → Result sig es

  unsorted : (s n : ℕ) (b : Term) (es : List Equation) (w : List ℕ) (r : ℕ) → s < length sig.sorts → Takes sig b w r → (w ≡ [] → s ≡ r → ⊥) → Unsolved sig ((variable s n, b) ∷ es)
  unsorted s n b es w r l k ne g sorted (e, u) =
      let both = takes_once sig (g s n) [] w s r (sorted s n l) (subst (λ z. Takes sig z w r) (sym e) (Takes-substitute sig g sorted b w r k)) in
      ne (sym both.0) both.1

  circle : (s n : ℕ) (b : Term) (es : List Equation) → b ≢ variable s n → occurs (s, n) b ≡ true → Unsolved sig ((variable s n, b) ∷ es)
  circle s n b es ne o g sorted (e, u) = elim (inside g (s, n) b o) [ inl d ↦ ne d | inr l ↦ (let k = ap size e in absurd (omega arith)) ]

  type_cases : (w : List ℕ) (r s : ℕ) → ((w ≡ []) × (s ≡ r)) ⊎ (w ≡ [] → s ≡ r → ⊥)
  type_cases [] r s = elim (cases_eq s r) [ inl e ↦ inl (refl, e) | inr ne ↦ inr (λ d e. ne e) ]
  type_cases (x ∷ w) r s = inr (λ d e. cc)

  -- a variable and another term that has no place for it
  variable_bound : (xs : List Variable) (s n : ℕ) (b : Term) (es : List Equation) → Below (length xs) → IsWithin xs (variable s n) → IsWithin xs b → AreWithin xs es → s < length sig.sorts → IsTyped sig b → AreTyped sig es → occurs (s, n) b ≡ false → Result sig ((variable s n, b) ∷ es)
  variable_bound xs s n b es ih here there all l (w, r, k) typed o = elim (type_cases w r s) [
    | inr ne ↦ inr (unsorted s n b es w r l k ne)
    | inl (ew, er) ↦
        let h : HasSort sig b s = subst (λ z. Takes sig b [] z) (sym er) (subst (λ z. Takes sig b z r) ew k) in
        bound_result s n b es h o
        (ih (without (s, n) xs) (in_all (single (s, n) b) es) (shorter (s, n) xs here) (all_bound (s, n) xs b es (absent_within (s, n) xs b o there) all) (all_typed sig (single (s, n) b) (single-sorted s n b h) es typed))
  ]

  variable_step : (xs : List Variable) (s n : ℕ) (b : Term) (es : List Equation) → Below (length xs) → Result sig es → IsWithin xs (variable s n) → IsWithin xs b → AreWithin xs es → s < length sig.sorts → IsTyped sig b → AreTyped sig es → Result sig ((variable s n, b) ∷ es)
  variable_step xs s n b es ih rest here there all l k typed = elim (term_cases b (variable s n)) [
    | inl e ↦ result_from ((variable s n, b) ∷ es) es (λ g h. h.1) (λ g h. (ap (substitute g) (sym e), h)) rest
    | inr ne ↦ elim (cases_Bool (occurs (s, n) b)) [
      | inl o ↦ inr (circle s n b es ne o)
      | inr o ↦ variable_bound xs s n b es ih here there all l k typed o
    ]
  ]

  turned : (a b : Term) (es : List Equation) → Result sig ((b, a) ∷ es) → Result sig ((a, b) ∷ es)
  turned a b es = result_from ((a, b) ∷ es) ((b, a) ∷ es) (λ g (e, h). (sym e, h)) (λ g (e, h). (sym e, h))

  abbrev weight : List Equation → ℕ
  weight [] = 0
  weight (e ∷ es) = size e.0 + size e.1 + weight es

  size_pos : (t : Term) → 0 < size t
  size_pos (variable s n) = omega arith
  size_pos (symbol c) = omega arith
  size_pos (apply f a) = omega arith

  -- one equation, where lighter ones are solved
  step : (m : ℕ) (xs : List Variable) → Below (length xs) → ((fs : List Equation) → weight fs ≤ m → AreWithin xs fs → AreTyped sig fs → Result sig fs)
      → (a b : Term) (es : List Equation) → size a + size b + weight es ≤ suc m → IsWithin xs a → IsWithin xs b → AreWithin xs es → IsTyped sig a → IsTyped sig b → AreTyped sig es → Result sig ((a, b) ∷ es)
  step m xs ih next (variable s n) b es l wa wb w (v, r, k) tb typed =
      let p = size_pos b in variable_step xs s n b es ih (next es (omega arith) w typed) wa wb w k.0 tb typed
  step m xs ih next (symbol c) (variable s n) es l wa wb w ta (v, r, k) typed =
      turned (symbol c) (variable s n) es (variable_step xs s n (symbol c) es ih (next es (omega arith) w typed) wb wa w k.0 ta typed)
  step m xs ih next (symbol c) (symbol d) es l wa wb w ta tb typed = elim (cases_eq c d) [
    | inl e ↦ result_from ((symbol c, symbol d) ∷ es) es (λ g h. h.1) (λ g h. (ap symbol e, h)) (next es (omega arith) w typed)
    | inr ne ↦ inr (λ g s (e, h). ne (cc))
  ]
  step m xs ih next (symbol c) (apply f a) es l wa wb w ta tb typed = inr (λ g s (e, h). cc)
  step m xs ih next (apply f a) (variable s n) es l wa wb w ta (v, r, k) typed =
      let p = size_pos (apply f a) in turned (apply f a) (variable s n) es (variable_step xs s n (apply f a) es ih (next es (omega arith) w typed) wb wa w k.0 ta typed)
  step m xs ih next (apply f a) (symbol c) es l wa wb w ta tb typed = inr (λ g s (e, h). cc)
  step m xs ih next (apply f a) (apply h b) es l (wf, wa) (wh, wb) w (v, r, (x, kf, ka)) (u, q, (y, kh, kb)) typed =
      result_from ((apply f a, apply h b) ∷ es) ((f, h) ∷ (a, b) ∷ es) (λ g (e, k). ((cc), ((cc), k))) (λ g (d, (e, k)). (ap₂ apply d e, k))
      (next ((f, h) ∷ (a, b) ∷ es) (omega arith) (wf, wh, (wa, wb, w)) ((x ∷ v, r, kf), (y ∷ u, q, kh), (([], x, ka), ([], y, kb), typed)))

  nothing : Result sig []
  nothing = inl (record { by = variable; sorted = λ s n l. (l, refl, refl); solves = tt; general = λ g s h p q. refl })

  walk : (m : ℕ) (xs : List Variable) → Below (length xs) → (es : List Equation) → weight es ≤ m → AreWithin xs es → AreTyped sig es → Result sig es
  walk m xs ih [] l w t = nothing
  walk zero xs ih (e ∷ es) l w t = let p = size_pos e.0 in absurd (omega arith)
  walk (suc m) xs ih (e ∷ es) l (wa, wb, w) (ta, tb, t) = step m xs ih (walk m xs ih) e.0 e.1 es l wa wb w ta tb t

  below : (n : ℕ) → Below n
  below zero xs es l w t = absurd (omega arith)
  below (suc n) xs es l w t = walk (weight es) xs (λ ys fs k. below n ys fs (omega arith)) es (omega arith) w t

  pub unified : (es : List Equation) → AreTyped sig es → Result sig es
  unified es t = below (suc (length (variables_in es))) (variables_in es) es (omega arith) (all_own es) t
