-- As many steps as there are kinds are enough to find what is declaring.
use Rattle.std.proofs.Common.{◌≡◌, ◌⊎◌, inl, inr, ℕ, zero, suc, ◌+◌, ◌<◌, ◌≤◌, ◌==◌, Bool, true, false, ◌||◌, ◌&&◌, not, List, [], ◌∷◌, length, slice_get, Some, None, Option, refl, ap, ap₂, sym, ◌∙◌, subst, true≢false, arith, ltb, ltb-true, ltb-false, not-suc-le-zero}
use Rattle.std.proofs.lemmas.Bool.{cases_Bool}
use Rattle.std.proofs.lemmas.Bool.Decides.{eqb_tells}
use Rattle.std.specs.List.{AllByRecursion}
use Rattle.psg_grammar.specs.declared.types.Kind.{Kind}
use Rattle.psg_grammar.specs.declared.types.Kind.TheVariants as kinds
use Rattle.psg_grammar.specs.declared.types.Item.{Item}
use Rattle.psg_grammar.specs.declared.types.Item.TheVariants as items
use Rattle.psg_grammar.specs.declared.types.Operator.{Operator}
use Rattle.psg_grammar.specs.declared.types.ListKind.{ListKind}
use Rattle.psg_grammar.specs.declared.types.Definition.{Definition}
use Rattle.psg_grammar.specs.Declaring.{is_declaring, declares_within, declares_by, any_item, any_operator, element_declares}
use Rattle.psg_grammar.specs.Kinds.{HasKind, HasSlotKind}

abbrev one_if : Bool → ℕ
one_if true = 1
one_if false = 0

-- how many numbers below n pass the test
abbrev below : (ℕ → Bool) → ℕ → ℕ
below p zero = 0
below p (suc n) = one_if (p n) + below p n

one_le : (b : Bool) → one_if b ≤ 1
one_le true = omega arith
one_le false = omega arith

below_most : (p : ℕ → Bool) (n : ℕ) → below p n ≤ n
below_most p zero = omega arith
below_most p (suc n) = omega (arith, one_le (p n), below_most p n)

one_more : (a b : Bool) → (a ≡ true → b ≡ true) → one_if a ≤ one_if b
one_more true b h = let e : one_if b ≡ 1 = ap one_if (h refl) in omega (arith, e)
one_more false b h = omega arith

below_more : (p q : ℕ → Bool) (n : ℕ) → ((k : ℕ) → p k ≡ true → q k ≡ true) → below p n ≤ below q n
below_more p q zero h = omega arith
below_more p q (suc n) h = omega (arith, one_more (p n) (q n) (h n), below_more p q n h)

one_same : (a b : Bool) → one_if a ≡ one_if b → a ≡ b
one_same true true e = refl
one_same true false e = absurd (not-suc-le-zero (let k : 1 ≤ 0 = omega (arith, e) in k))
one_same false true e = absurd (not-suc-le-zero (let k : 1 ≤ 0 = omega (arith, e) in k))
one_same false false e = refl

below_same : (p q : ℕ → Bool) (n : ℕ) → ((k : ℕ) → p k ≡ true → q k ≡ true) → below p n ≡ below q n → (k : ℕ) → k < n → p k ≡ q k
below_same p q zero h e k lt = absurd (not-suc-le-zero lt)
below_same p q (suc n) h e k lt =
    let a : one_if (p n) ≤ one_if (q n) = one_more (p n) (q n) (h n) in
    let b : below p n ≤ below q n = below_more p q n h in
    let c : below p n ≡ below q n = omega (arith, a, b, e) in
    elim (eqb_tells k n) [
      | inl s ↦ subst (λ j. p j ≡ q j) (sym s.1) (one_same (p n) (q n) (let d : one_if (p n) ≡ one_if (q n) = omega (arith, c, e) in d))
      | inr s ↦ below_same p q n h c k (elim (cases_Bool (ltb k n)) [ inl t ↦ ltb-true k n t | inr t ↦ absurd (s.1 (let g : n ≤ k = ltb-false k n t in let z : k ≡ n = omega (arith, g, lt) in z)) ])
    ]

below_all : (p : ℕ → Bool) (n : ℕ) → n ≤ below p n → (k : ℕ) → k < n → p k ≡ true
below_all p zero h k lt = absurd (not-suc-le-zero lt)
below_all p (suc n) h k lt =
    let a : one_if (p n) ≤ 1 = one_le (p n) in
    let b : below p n ≤ n = below_most p n in
    elim (eqb_tells k n) [
      | inl s ↦ subst (λ j. p j ≡ true) (sym s.1) (one_same (p n) true (let d : one_if (p n) ≡ 1 = omega (arith, a, b, h) in d))
      | inr s ↦ below_all p n (let d : n ≤ below p n = omega (arith, a, b, h) in d) k (elim (cases_Bool (ltb k n)) [ inl t ↦ ltb-true k n t | inr t ↦ absurd (s.1 (let g : n ≤ k = ltb-false k n t in let z : k ≡ n = omega (arith, g, lt) in z)) ])
    ]

-- a test that passes more
Implies : (Kind → Bool) → (Kind → Bool) → Type 0
Implies a b = (k : Kind) → a k ≡ true → b k ≡ true

or_more : (a b c d : Bool) → (a ≡ true → c ≡ true) → (b ≡ true → d ≡ true) → a || b ≡ true → c || d ≡ true
or_more true b c d f g e = ap (λ x. x || d) (f refl)
or_more false b c true f g e = or_true c where
  or_true : (x : Bool) → x || true ≡ true
  or_true true = refl
  or_true false = refl
or_more false b c false f g e = absurd (true≢false (sym (g e)))

and_more : (a b c : Bool) → (b ≡ true → c ≡ true) → (a && b) ≡ true → (a && c) ≡ true
and_more true b c h e = h e
and_more false b c h e = e

item_more : (space : ℕ) (a b : Kind → Bool) → ((k : Kind) → a k ≡ true → b k ≡ true) → (xs : List Item) → any_item space a xs ≡ true → any_item space b xs ≡ true
item_more space a b h [] e = e
item_more space a b h (items.Declares r ∷ xs) e = or_more (r == space) (any_item space a xs) (r == space) (any_item space b xs) (λ x. x) (item_more space a b h xs) e
item_more space a b h (items.Slot k ∷ xs) e = or_more (a k) (any_item space a xs) (b k) (any_item space b xs) (h k) (item_more space a b h xs) e
item_more space a b h (items.Word w ∷ xs) e = item_more space a b h xs e
item_more space a b h (items.Refers r ∷ xs) e = item_more space a b h xs e
item_more space a b h (items.Number ∷ xs) e = item_more space a b h xs e
item_more space a b h (items.Text ∷ xs) e = item_more space a b h xs e
item_more space a b h (items.Space ∷ xs) e = item_more space a b h xs e
item_more space a b h (items.Tight ∷ xs) e = item_more space a b h xs e
item_more space a b h (items.Line ∷ xs) e = item_more space a b h xs e
item_more space a b h (items.In ∷ xs) e = item_more space a b h xs e
item_more space a b h (items.Out ∷ xs) e = item_more space a b h xs e

operator_more : (space : ℕ) (a b : Kind → Bool) → ((k : Kind) → a k ≡ true → b k ≡ true) → (p : ℕ) (ops : List Operator) → any_operator space a p ops ≡ true → any_operator space b p ops ≡ true
operator_more space a b h p [] e = e
operator_more space a b h p (o ∷ ops) e =
    or_more ((o.phylum == p) && (not o.scope) && any_item space a o.items) (any_operator space a p ops) ((o.phylum == p) && (not o.scope) && any_item space b o.items) (any_operator space b p ops)
    (and_three (o.phylum == p) (not o.scope) (any_item space a o.items) (any_item space b o.items) (item_more space a b h o.items)) (operator_more space a b h p ops) e where
      and_three : (x y c d : Bool) → (c ≡ true → d ≡ true) → (x && y && c) ≡ true → (x && y && d) ≡ true
      and_three true true c d f e = f e
      and_three true false c d f e = e
      and_three false y c d f e = e

list_more : (a b : Kind → Bool) → ((k : Kind) → a k ≡ true → b k ≡ true) → (l : Option ListKind) → element_declares a l ≡ true → element_declares b l ≡ true
list_more a b h None e = e
list_more a b h (Some l) e = h (kinds.Phylum l.element) e

by_more : (def : Definition) (space : ℕ) (a b : Kind → Bool) → ((k : Kind) → a k ≡ true → b k ≡ true) → (kind : Kind) → declares_by def space a kind ≡ true → declares_by def space b kind ≡ true
by_more def space a b h (kinds.Phylum p) e = operator_more space a b h p def.operators e
by_more def space a b h (kinds.List l) e = list_more a b h (slice_get def.lists l) e

module _ (def : Definition) (space : ℕ) (items_in : (o : ℕ) (op : Operator) → slice_get def.operators o ≡ Some op → AllByRecursion (HasSlotKind def) op.items) (elements_in : (l : ℕ) (kind : ListKind) → slice_get def.lists l ≡ Some kind → kind.element < length def.phyla) where
  abbrev Same : (Kind → Bool) → (Kind → Bool) → Type 0
  Same a b = (k : Kind) → HasKind def k → a k ≡ b k

  item_same : (a b : Kind → Bool) → Same a b → (xs : List Item) → AllByRecursion (HasSlotKind def) xs → any_item space a xs ≡ any_item space b xs
  item_same a b h [] r = refl
  item_same a b h (items.Declares d ∷ xs) r = ap (λ y. (d == space) || y) (item_same a b h xs r.1)
  item_same a b h (items.Slot k ∷ xs) r = ap₂ (λ x y. x || y) (h k r.0) (item_same a b h xs r.1)
  item_same a b h (items.Word w ∷ xs) r = item_same a b h xs r.1
  item_same a b h (items.Refers d ∷ xs) r = item_same a b h xs r.1
  item_same a b h (items.Number ∷ xs) r = item_same a b h xs r.1
  item_same a b h (items.Text ∷ xs) r = item_same a b h xs r.1
  item_same a b h (items.Space ∷ xs) r = item_same a b h xs r.1
  item_same a b h (items.Tight ∷ xs) r = item_same a b h xs r.1
  item_same a b h (items.Line ∷ xs) r = item_same a b h xs r.1
  item_same a b h (items.In ∷ xs) r = item_same a b h xs r.1
  item_same a b h (items.Out ∷ xs) r = item_same a b h xs r.1

  operator_same : (a b : Kind → Bool) → Same a b → (p : ℕ) (ops : List Operator) → ((o : ℕ) (op : Operator) → slice_get ops o ≡ Some op → AllByRecursion (HasSlotKind def) op.items) → any_operator space a p ops ≡ any_operator space b p ops
  operator_same a b h p [] r = refl
  operator_same a b h p (o ∷ ops) r =
      ap₂ (λ x y. ((o.phylum == p) && (not o.scope) && x) || y) (item_same a b h o.items (r 0 o refl)) (operator_same a b h p ops (λ k op e. r (suc k) op e))

  list_same : (a b : Kind → Bool) → Same a b → (l : ℕ) (k : Option ListKind) → slice_get def.lists l ≡ k → element_declares a k ≡ element_declares b k
  list_same a b h l None e = refl
  list_same a b h l (Some kind) e = h (kinds.Phylum kind.element) (elements_in l kind e)

  by_same : (a b : Kind → Bool) → Same a b → (kind : Kind) → declares_by def space a kind ≡ declares_by def space b kind
  by_same a b h (kinds.Phylum p) = operator_same a b h p def.operators items_in
  by_same a b h (kinds.List l) = list_same a b h l (slice_get def.lists l) refl

  step_more : (n : ℕ) (k : Kind) → declares_within def space n k ≡ true → declares_within def space (suc n) k ≡ true
  step_more zero k e = absurd (true≢false (sym e))
  step_more (suc n) k e = by_more def space (declares_within def space n) (declares_within def space (suc n)) (step_more n) k e

  abbrev total : (Kind → Bool) → ℕ
  total a = below (λ k. a (kinds.Phylum k)) (length def.phyla) + below (λ k. a (kinds.List k)) (length def.lists)

  step_total : (n : ℕ) → (below (λ k. declares_within def space n (kinds.Phylum k)) (length def.phyla) ≤ below (λ k. declares_within def space (suc n) (kinds.Phylum k)) (length def.phyla))
      × (below (λ k. declares_within def space n (kinds.List k)) (length def.lists) ≤ below (λ k. declares_within def space (suc n) (kinds.List k)) (length def.lists))
  step_total n = (
    below_more (λ k. declares_within def space n (kinds.Phylum k)) (λ k. declares_within def space (suc n) (kinds.Phylum k)) (length def.phyla) (λ k. step_more n (kinds.Phylum k)),
    below_more (λ k. declares_within def space n (kinds.List k)) (λ k. declares_within def space (suc n) (kinds.List k)) (length def.lists) (λ k. step_more n (kinds.List k)),
  )

  settled : (n : ℕ) → Same (declares_within def space n) (declares_within def space (suc n)) ⊎ (n ≤ total (declares_within def space n))
  settled zero = inr (omega arith)
  settled (suc n) = elim (settled n) [
    | inl h ↦ inl (λ k r. by_same (declares_within def space n) (declares_within def space (suc n)) h k)
    | inr h ↦ elim (cases_Bool (ltb (total (declares_within def space n)) (total (declares_within def space (suc n))))) [
      | inl t ↦ let g : total (declares_within def space n) < total (declares_within def space (suc n)) = ltb-true (total (declares_within def space n)) (total (declares_within def space (suc n))) t in inr (omega (arith, g, h))
      | inr t ↦
          let g : total (declares_within def space (suc n)) ≤ total (declares_within def space n) = ltb-false (total (declares_within def space n)) (total (declares_within def space (suc n))) t in
          let (x, y) = step_total n in
          let a : below (λ k. declares_within def space n (kinds.Phylum k)) (length def.phyla) ≡ below (λ k. declares_within def space (suc n) (kinds.Phylum k)) (length def.phyla) = omega (arith, g, x, y) in
          let b : below (λ k. declares_within def space n (kinds.List k)) (length def.lists) ≡ below (λ k. declares_within def space (suc n) (kinds.List k)) (length def.lists) = omega (arith, g, x, y) in
          inl (λ k r. by_same (declares_within def space n) (declares_within def space (suc n)) (alike n a b) k)
    ]
  ] where
    alike : (n : ℕ) → below (λ k. declares_within def space n (kinds.Phylum k)) (length def.phyla) ≡ below (λ k. declares_within def space (suc n) (kinds.Phylum k)) (length def.phyla)
        → below (λ k. declares_within def space n (kinds.List k)) (length def.lists) ≡ below (λ k. declares_within def space (suc n) (kinds.List k)) (length def.lists) → Same (declares_within def space n) (declares_within def space (suc n))
    alike n a b (kinds.Phylum p) r = below_same (λ k. declares_within def space n (kinds.Phylum k)) (λ k. declares_within def space (suc n) (kinds.Phylum k)) (length def.phyla) (λ k. step_more n (kinds.Phylum k)) a p r
    alike n a b (kinds.List l) r = below_same (λ k. declares_within def space n (kinds.List k)) (λ k. declares_within def space (suc n) (kinds.List k)) (length def.lists) (λ k. step_more n (kinds.List k)) b l r

  pub closed : (kind : Kind) → HasKind def kind → is_declaring def space kind ≡ false → declares_by def space (is_declaring def space) kind ≡ false
  closed kind r e = elim (settled (length def.phyla + length def.lists)) [
    | inl h ↦ sym (h kind r) ∙ e
    | inr h ↦ absurd (true≢false (sym (every kind r h) ∙ e))
  ] where
    every : (k : Kind) → HasKind def k → length def.phyla + length def.lists ≤ total (is_declaring def space) → is_declaring def space k ≡ true
    every (kinds.Phylum p) lt h =
        let a : below (λ k. is_declaring def space (kinds.List k)) (length def.lists) ≤ length def.lists = below_most (λ k. is_declaring def space (kinds.List k)) (length def.lists) in
        below_all (λ k. is_declaring def space (kinds.Phylum k)) (length def.phyla) (let d : length def.phyla ≤ below (λ k. is_declaring def space (kinds.Phylum k)) (length def.phyla) = omega (arith, a, h) in d) p lt
    every (kinds.List l) lt h =
        let a : below (λ k. is_declaring def space (kinds.Phylum k)) (length def.phyla) ≤ length def.phyla = below_most (λ k. is_declaring def space (kinds.Phylum k)) (length def.phyla) in
        below_all (λ k. is_declaring def space (kinds.List k)) (length def.lists) (let d : length def.lists ≤ below (λ k. is_declaring def space (kinds.List k)) (length def.lists) = omega (arith, a, h) in d) l lt
