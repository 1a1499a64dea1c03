-- How large equations are and how many variables they have: both fall as they are solved.
use Rattle.std.proofs.Common.{◌≡◌, ◌⊎◌, inl, inr, ℕ, ◌+◌, ◌<◌, ◌≤◌, ◌||◌, true, false, cond, if◌then◌else◌, List, [], ◌∷◌, ◌++◌, map, length, ap, sym, ◌∙◌, arith, length-append}
use Rattle.std.proofs.lemmas.Bool.{cases_Bool, or_cases, or_left, or_right}
use Rattle.psg_terms.specs.Terms.{Term, variable, symbol, apply, applied}
use Rattle.psg_terms.specs.Instances.{substitute}
use Rattle.psg_terms.specs.Sizes.{sizes}
use Rattle.psg_terms.specs.Canonical.{Variable, variables, variables_of, is_noted, noted, noted_all, same_variable}
use Rattle.psg_terms.proofs.Covers.{among-append}
use Rattle.psg_terms.proofs.Nodes.{size-con}
use Rattle.psg_terms.proofs.RenamingLaws.{among-noted_all, IsAmong, noted-new, noted_all-append, variables-applied}
use Rattle.psg_terms.proofs.Renumbering.{distinct-noted_all, IsDistinct}
use Rattle.psg_terms.proofs.Unique.{each-among}
use Rattle.psg_terms.proofs.Variables.{same_variable-refl, same_variable-true, true_false, variable_cases}
use Rattle.psg_explain.specs.Equations.{Equation, put_for, rewritten}
use Rattle.psg_explain.specs.Reasons.{paired}
use Rattle.psg_explain.specs.Solutions.{count_in, IsWithin, variables_in, weigh}

-- ---- sizes

weigh_paired : (xs ys : List Term) (es : List Equation) → weigh (paired xs ys ++ es) ≤ sizes xs + sizes ys + weigh es
weigh_paired [] ys es = omega arith
weigh_paired (x ∷ xs) [] es = omega arith
weigh_paired (x ∷ xs) (y ∷ ys) es = let h = weigh_paired xs ys es in omega (arith, h)

pub parts_smaller : (a b : Term) (c d : ℕ) (xs ys : List Term) (es : List Equation) → a ≡ applied (symbol c) xs → b ≡ applied (symbol d) ys → weigh (paired xs ys ++ es) < weigh ((a, b) ∷ es)
parts_smaller a b c d xs ys es e f =
    let one = size-con a c xs e in
    let two = size-con b d ys f in
    let h = weigh_paired xs ys es in
    omega (arith, one, two, h)

pub rest_smaller : (e : Equation) (es : List Equation) → weigh es < weigh (e ∷ es)
rest_smaller e es = omega arith

-- ---- variables

has_left : (x : Variable) (xs ys : List Variable) → is_noted x xs ≡ true → is_noted x (xs ++ ys) ≡ true
has_left x xs ys h = among-append x xs ys ∙ or_left (is_noted x xs) (is_noted x ys) h

has_right : (x : Variable) (xs ys : List Variable) → is_noted x ys ≡ true → is_noted x (xs ++ ys) ≡ true
has_right x xs ys h = among-append x xs ys ∙ or_right (is_noted x xs) (is_noted x ys) h

has_either : (x : Variable) (xs ys : List Variable) → is_noted x (xs ++ ys) ≡ true → (is_noted x xs ≡ true) ⊎ (is_noted x ys ≡ true)
has_either x xs ys h = or_cases (is_noted x xs) (is_noted x ys) (sym (among-append x xs ys) ∙ h)

paired_within : (xs ys : List Term) (es : List Equation) (x : Variable) → is_noted x (variables_in (paired xs ys ++ es)) ≡ true
    → (is_noted x (variables_of xs) ≡ true) ⊎ ((is_noted x (variables_of ys) ≡ true) ⊎ (is_noted x (variables_in es) ≡ true))
paired_within [] ys es x h = inr (inr h)
paired_within (a ∷ xs) [] es x h = inr (inr h)
paired_within (a ∷ xs) (b ∷ ys) es x h = elim (has_either x (variables a ++ variables b) (variables_in (paired xs ys ++ es)) h) [
  | inl i ↦ elim (has_either x (variables a) (variables b) i) [
    | inl j ↦ inl (has_left x (variables a) (variables_of xs) j)
    | inr j ↦ inr (inl (has_left x (variables b) (variables_of ys) j))
  ]
  | inr i ↦ elim (paired_within xs ys es x i) [
    | inl j ↦ inl (has_right x (variables a) (variables_of xs) j)
    | inr j ↦ elim j [
      | inl k ↦ inr (inl (has_right x (variables b) (variables_of ys) k))
      | inr k ↦ inr (inr k)
    ]
  ]
]

pub parts_within : (a b : Term) (c d : ℕ) (xs ys : List Term) (es : List Equation) → a ≡ applied (symbol c) xs → b ≡ applied (symbol d) ys → IsWithin ((a, b) ∷ es) (paired xs ys ++ es)
parts_within a b c d xs ys es e f x h =
    let left : is_noted x (variables_of xs) ≡ true → is_noted x (variables a) ≡ true = λ i. ap (λ t. is_noted x (variables t)) e ∙ ap (is_noted x) (variables-applied (symbol c) xs) ∙ i in
    let right : is_noted x (variables_of ys) ≡ true → is_noted x (variables b) ≡ true = λ i. ap (λ t. is_noted x (variables t)) f ∙ ap (is_noted x) (variables-applied (symbol d) ys) ∙ i in
    elim (paired_within xs ys es x h) [
      | inl i ↦ has_left x (variables a ++ variables b) (variables_in es) (has_left x (variables a) (variables b) (left i))
      | inr i ↦ elim i [
        | inl j ↦ has_left x (variables a ++ variables b) (variables_in es) (has_right x (variables a) (variables b) (right j))
        | inr j ↦ has_right x (variables a ++ variables b) (variables_in es) j
      ]
    ]

pub rest_within : (e : Equation) (es : List Equation) → IsWithin (e ∷ es) es
rest_within e es x h = has_right x (variables e.0 ++ variables e.1) (variables_in es) h

-- what is in the first equation alone
pub first_within : (e : Equation) (es : List Equation) → IsWithin (e ∷ es) (e ∷ [])
first_within e es x h = elim (has_either x (variables e.0 ++ variables e.1) [] h) [
  | inl i ↦ has_left x (variables e.0 ++ variables e.1) (variables_in es) i
  | inr i ↦ absurd (true_false (sym i))
]

pub left_there : (a b : Term) (x : Variable) → is_noted x (variables a) ≡ true → is_noted x (variables_in ((a, b) ∷ [])) ≡ true
left_there a b x h = has_left x (variables a ++ variables b) [] (has_left x (variables a) (variables b) h)

pub right_there : (a b : Term) (x : Variable) → is_noted x (variables b) ≡ true → is_noted x (variables_in ((a, b) ∷ [])) ≡ true
right_there a b x h = has_left x (variables a ++ variables b) [] (has_right x (variables a) (variables b) h)

-- ---- a variable that is replaced

put_at : (x : Variable) (t : Term) (s n : ℕ) (y : Variable) → is_noted y (variables (put_for x t s n)) ≡ true → ((is_noted y ((s, n) ∷ []) ≡ true) × (same_variable x y ≡ false)) ⊎ (is_noted y (variables t) ≡ true)
put_at x t s n y h = elim (cases_Bool (same_variable x (s, n))) [
  | inl e ↦ inr (sym (ap (λ b. is_noted y (variables (cond b t (variable s n)))) e) ∙ h)
  | inr e ↦
      let i : is_noted y ((s, n) ∷ []) ≡ true = sym (ap (λ b. is_noted y (variables (cond b t (variable s n)))) e) ∙ h in
      inl (
        i,
        elim (or_cases (same_variable y (s, n)) false i) [
          | inl j ↦ ap (same_variable x) (same_variable-true y (s, n) j) ∙ e
          | inr j ↦ absurd (true_false (sym j))
        ],
      )
]

put_within : (x : Variable) (t u : Term) (y : Variable) → is_noted y (variables (substitute (put_for x t) u)) ≡ true
    → ((is_noted y (variables u) ≡ true) × (same_variable x y ≡ false)) ⊎ (is_noted y (variables t) ≡ true)
put_within x t (variable s n) y h = put_at x t s n y h
put_within x t (symbol c) y h = absurd (true_false (sym h))
put_within x t (apply f a) y h = elim (has_either y (variables (substitute (put_for x t) f)) (variables (substitute (put_for x t) a)) h) [
  | inl i ↦ elim (put_within x t f y i) [ inl (j, d) ↦ inl (has_left y (variables f) (variables a) j, d) | inr j ↦ inr j ]
  | inr i ↦ elim (put_within x t a y i) [ inl (j, d) ↦ inl (has_right y (variables f) (variables a) j, d) | inr j ↦ inr j ]
]

all_within : (x : Variable) (t : Term) (es : List Equation) (y : Variable) → is_noted y (variables_in (map (rewritten x t) es)) ≡ true
    → ((is_noted y (variables_in es) ≡ true) × (same_variable x y ≡ false)) ⊎ (is_noted y (variables t) ≡ true)
all_within x t [] y h = absurd (true_false (sym h))
all_within x t (e ∷ es) y h =
    elim (has_either y (variables (substitute (put_for x t) e.0) ++ variables (substitute (put_for x t) e.1)) (variables_in (map (rewritten x t) es)) h) [
      | inl i ↦ elim (has_either y (variables (substitute (put_for x t) e.0)) (variables (substitute (put_for x t) e.1)) i) [
        | inl j ↦ elim (put_within x t e.0 y j) [
          | inl (k, d) ↦ inl (has_left y (variables e.0 ++ variables e.1) (variables_in es) (has_left y (variables e.0) (variables e.1) k), d)
          | inr k ↦ inr k
        ]
        | inr j ↦ elim (put_within x t e.1 y j) [
          | inl (k, d) ↦ inl (has_left y (variables e.0 ++ variables e.1) (variables_in es) (has_right y (variables e.0) (variables e.1) k), d)
          | inr k ↦ inr k
        ]
      ]
      | inr i ↦ elim (all_within x t es y i) [
        | inl (k, d) ↦ inl (has_right y (variables e.0 ++ variables e.1) (variables_in es) k, d)
        | inr k ↦ inr k
      ]
    ]

-- ---- counting

record Split (x : Variable) (xs : List Variable) : Type 0 where
  front : List Variable
  back : List Variable
  is : xs ≡ front ++ x ∷ back

split_at : (x : Variable) (xs : List Variable) → is_noted x xs ≡ true → Split x xs
split_at x [] h = absurd (true_false (sym h))
split_at x (y ∷ xs) h = elim (variable_cases x y) [
  | inl e ↦ record { front = []; back = xs; is = ap (λ z. z ∷ xs) (sym e) }
  | inr e ↦
      let s = split_at x xs (sym (ap (λ b. b || is_noted x xs) e) ∙ h) in
      record { front = y ∷ s.front; back = s.back; is = ap (λ l. y ∷ l) s.is }
]

-- another variable is in front or behind
elsewhere : (x y : Variable) (front back : List Variable) → same_variable y x ≡ false → is_noted y (front ++ x ∷ back) ≡ true → is_noted y (front ++ back) ≡ true
elsewhere x y front back differ h = elim (has_either y front (x ∷ back) h) [
  | inl i ↦ has_left y front back i
  | inr i ↦ has_right y front back (sym (ap (λ b. b || is_noted y back) differ) ∙ i)
]

-- distinct variables that are all in a list are no more than it has
no_more : (xs ys : List Variable) → IsDistinct xs → ((y : Variable) → is_noted y xs ≡ true → is_noted y ys ≡ true) → length xs ≤ length ys
no_more [] ys d h = omega arith
no_more (x ∷ xs) ys (once, d) h =
    let s = split_at x ys (h x (or_left (same_variable x x) (is_noted x xs) (same_variable-refl x))) in
    let rest : (y : Variable) → is_noted y xs ≡ true → is_noted y (s.front ++ s.back) ≡ true = λ y i.
    elsewhere x y s.front s.back (differ y i) (ap (is_noted y) (sym s.is) ∙ h y (or_right (same_variable y x) (is_noted y xs) i)) in
    let r = no_more xs (s.front ++ s.back) d rest in
    let l = ap length s.is in
    let m = length-append s.front (x ∷ s.back) in
    let n = length-append s.front s.back in
    omega (arith, r, l, m, n)
  where
    differ : (y : Variable) → is_noted y xs ≡ true → same_variable y x ≡ false
    differ y i = elim (variable_cases y x) [
      | inl e ↦ absurd (true_false (sym i ∙ ap (λ z. is_noted z xs) e ∙ once))
      | inr e ↦ e
    ]

noted_has : (xs : List Variable) (y : Variable) → is_noted y xs ≡ true → is_noted y (noted_all [] xs) ≡ true
noted_has xs y h = each-among (IsAmong (noted_all [] xs)) y xs (among-noted_all [] xs) h

has_noted : (seen xs : List Variable) (y : Variable) → is_noted y (noted_all seen xs) ≡ true → (is_noted y seen ≡ true) ⊎ (is_noted y xs ≡ true)
has_noted seen [] y h = inl h
has_noted seen (x ∷ xs) y h = elim (has_noted (noted seen x) xs y h) [
  | inl i ↦ elim (cases_Bool (is_noted x seen)) [
    | inl e ↦ inl (sym (ap (λ b. is_noted y (if b then seen else seen ++ x ∷ [])) e) ∙ i)
    | inr e ↦ elim (has_either y seen (x ∷ []) (sym (ap (λ b. is_noted y (if b then seen else seen ++ x ∷ [])) e) ∙ i)) [
      | inl j ↦ inl j
      | inr j ↦ elim (or_cases (same_variable y x) false j) [
        | inl k ↦ inr (or_left (same_variable y x) (is_noted y xs) k)
        | inr k ↦ absurd (true_false (sym k))
      ]
    ]
  ]
  | inr i ↦ inr (or_right (same_variable y x) (is_noted y xs) i)
]

-- fewer variables, where each is one of the others and one of those is missing
fewer : (x : Variable) (xs ys : List Variable) → is_noted x ys ≡ true → is_noted x xs ≡ false → ((y : Variable) → is_noted y xs ≡ true → is_noted y ys ≡ true)
    → length (noted_all [] xs) < length (noted_all [] ys)
fewer x xs ys there missing h =
    let new : is_noted x (noted_all [] xs) ≡ false = elim (cases_Bool (is_noted x (noted_all [] xs))) [
      | inl e ↦ elim (has_noted [] xs x e) [ inl i ↦ absurd (true_false (sym i)) | inr i ↦ absurd (true_false (sym i ∙ missing)) ]
      | inr e ↦ e
    ] in
    let whole : noted_all [] (xs ++ x ∷ []) ≡ noted_all [] xs ++ x ∷ [] = noted_all-append [] xs (x ∷ []) ∙ noted-new (noted_all [] xs) x new in
    let all : (y : Variable) → is_noted y (noted_all [] (xs ++ x ∷ [])) ≡ true → is_noted y (noted_all [] ys) ≡ true = λ y i.
    elim (has_noted [] (xs ++ x ∷ []) y i) [
      | inl j ↦ absurd (true_false (sym j))
      | inr j ↦ noted_has ys y (elim (has_either y xs (x ∷ []) j) [
        | inl k ↦ h y k
        | inr k ↦ elim (or_cases (same_variable y x) false k) [
          | inl m ↦ ap (λ z. is_noted z ys) (same_variable-true y x m) ∙ there
          | inr m ↦ absurd (true_false (sym m))
        ]
      ])
    ] in
    let r = no_more (noted_all [] (xs ++ x ∷ [])) (noted_all [] ys) (distinct-noted_all [] (xs ++ x ∷ []) tt) all in
    let l = ap length whole in
    let m = length-append (noted_all [] xs) (x ∷ []) in
    omega (arith, r, l, m)

pub count_falls : (x : Variable) (t : Term) (old mid : List Equation) → is_noted x (variables_in old) ≡ true → ((y : Variable) → is_noted y (variables t) ≡ true → is_noted y (variables_in old) ≡ true)
    → is_noted x (variables t) ≡ false → IsWithin old mid → count_in (map (rewritten x t) mid) < count_in old
count_falls x t old mid there within outside kept =
    fewer x (variables_in (map (rewritten x t) mid)) (variables_in old) there
    (elim (cases_Bool (is_noted x (variables_in (map (rewritten x t) mid)))) [
      | inl e ↦ elim (all_within x t mid x e) [
        | inl (i, d) ↦ absurd (true_false (sym (same_variable-refl x) ∙ d))
        | inr i ↦ absurd (true_false (sym i ∙ outside))
      ]
      | inr e ↦ e
    ])
    (λ y i. elim (all_within x t mid y i) [
      | inl (j, d) ↦ kept y j
      | inr j ↦ within y j
    ])
