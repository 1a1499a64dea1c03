-- Cells in order, and the number that is named first.
use Rattle.std.proofs.Common.{◌≡◌, ◌⊎◌, inl, inr, ℕ, suc, ◌+◌, ◌<◌, Bool, true, false, cond, List, [], ◌∷◌, ◌++◌, length, take, get_or, Option, Some, None, refl, ap, sym, ◌∙◌, subst, arith, append_assoc, append-nil, true≢false, nat_cmp, is_lt, Ordering, Less, Equal, Greater}
use Rattle.std.specs.Prelude.{nat_lt}
use Rattle.std.specs.Ordering.{ordering_reverse}
use Rattle.std.specs.Cmp.Lexicographic.{slice_cmp}
use Rattle.std.proofs.lemmas.Cmp.{nat_list_cmp_total}
use Rattle.std.proofs.lemmas.Bool.{cases_Bool, ltb-true, cases_eq}
use Rattle.std.proofs.lemmas.List.{take_more}
use Rattle.psg_terms.specs.Names.{Name}
use Rattle.psg_grammar.specs.declared.types.Phylum.{Phylum}
use Rattle.psg_class.specs.Shapes.{listed}
use Rattle.psg_class.specs.Numbers.{is_number_before, words_before, word_at}
use Rattle.psg_class.specs.Failing.{IsLeastIf, first_number, cells_from, bracket_cell, bracket_cells}
use Rattle.psg_class.specs.declared.grid.Cell.{Cell}
use Rattle.psg_class.specs.declared.shape.Shape.{Shape}

cells_front : (f : Shape → Option Cell) (xs : List Shape) (s : Shape) → cells_from f (xs ++ s ∷ []) ≡ cells_from f xs ++ listed (f s)
cells_front f [] s = append-nil (listed (f s))
cells_front f (x ∷ xs) s = ap (λ l. listed (f x) ++ l) (cells_front f xs s) ∙ sym (append_assoc (listed (f x)) (cells_from f xs) (listed (f s)))

pub cells_more : (f : Shape → Option Cell) (xs : List Shape) (n : ℕ) (s : Shape) → n < length xs → s ≡ get_or xs n s → cells_from f (take (n + 1) xs) ≡ cells_from f (take n xs) ++ listed (f s)
cells_more f xs n s h e = ap (cells_from f) (take_more xs n s h ∙ ap (λ x. take n xs ++ x ∷ []) (sym e)) ∙ cells_front f (take n xs) s

brackets_front : (o p : ℕ) (xs : List Phylum) (k : Phylum) → bracket_cells o p (xs ++ k ∷ []) ≡ bracket_cells o p xs ++ listed (bracket_cell (p + length xs) o k.bracketed)
brackets_front o p [] k = append-nil (listed (bracket_cell p o k.bracketed)) ∙ ap (λ q. listed (bracket_cell q o k.bracketed)) (plus_zero p) where
  plus_zero : (p : ℕ) → p ≡ p + 0
  plus_zero p = omega arith
brackets_front o p (x ∷ xs) k =
    ap (λ l. listed (bracket_cell p o x.bracketed) ++ l) (brackets_front o (p + 1) xs k) ∙ sym (append_assoc (listed (bracket_cell p o x.bracketed)) (bracket_cells o (p + 1) xs) (listed (bracket_cell (p + 1 + length xs) o k.bracketed)))
    ∙ ap (λ q. (listed (bracket_cell p o x.bracketed) ++ bracket_cells o (p + 1) xs) ++ listed (bracket_cell q o k.bracketed)) (shift p (length xs)) where
      shift : (p n : ℕ) → p + 1 + n ≡ p + suc n
      shift p n = omega arith

pub brackets_more : (o : ℕ) (xs : List Phylum) (n : ℕ) (k : Phylum) → n < length xs → k ≡ get_or xs n k → length (take n xs) ≡ n → bracket_cells o 0 (take (n + 1) xs) ≡ bracket_cells o 0 (take n xs) ++ listed (bracket_cell n o k.bracketed)
brackets_more o xs n k h e l =
    ap (bracket_cells o 0) (take_more xs n k h ∙ ap (λ x. take n xs ++ x ∷ []) (sym e)) ∙ brackets_front o 0 (take n xs) k ∙ ap (λ q. bracket_cells o 0 (take n xs) ++ listed (bracket_cell q o k.bracketed)) (zero_plus (length (take n xs)) ∙ l) where
      zero_plus : (m : ℕ) → 0 + m ≡ m
      zero_plus m = omega arith

-- ---- the order of numbers

less_is : (o : Ordering) → is_lt o ≡ true → o ≡ Less
less_is Less h = refl
less_is Equal h = absurd (true≢false (sym h))
less_is Greater h = absurd (true≢false (sym h))

nat_less : (a b : ℕ) → a < b → nat_lt a b ≡ true
nat_less a b h = elim (cases_Bool (nat_lt a b)) [ inl e ↦ e | inr e ↦ absurd (grind (arith, e, h)) ]

before_trans : (u v w : Option Name) (a b c : Bool) → (a ≡ true → b ≡ true → c ≡ true) → words_before u v a ≡ true → words_before v w b ≡ true → words_before u w c ≡ true
before_trans (Some u) (Some v) (Some w) a b c h x y = ap is_lt (nat_list_cmp_total.trans u v w (less_is (slice_cmp nat_cmp u v) x) (less_is (slice_cmp nat_cmp v w) y))
before_trans (Some u) (Some v) None a b c h x y = refl
before_trans (Some u) None (Some w) a b c h x y = absurd (true≢false (sym y))
before_trans (Some u) None None a b c h x y = refl
before_trans None (Some v) w a b c h x y = absurd (true≢false (sym x))
before_trans None None (Some w) a b c h x y = absurd (true≢false (sym y))
before_trans None None None a b c h x y = h x y

before_self : (u : Option Name) (a : Bool) → a ≡ false → words_before u u a ≡ false
before_self (Some u) a h = elim (cases_Bool (is_lt (slice_cmp nat_cmp u u))) [
  | inl e ↦ absurd (not_both (slice_cmp nat_cmp u u) (less_is (slice_cmp nat_cmp u u) e) (nat_list_cmp_total.antisymm u u))
  | inr e ↦ e
] where
  not_both : (o : Ordering) → o ≡ Less → o ≡ ordering_reverse o → ⊥
  not_both Less e f = cc
  not_both Equal e f = cc
  not_both Greater e f = cc
before_self None a h = h

pub number_trans : (base : ℕ) (words : List Name) (k m n : ℕ) → is_number_before base words k m ≡ true → is_number_before base words m n ≡ true → is_number_before base words k n ≡ true
number_trans base words k m n = before_trans (word_at base words k) (word_at base words m) (word_at base words n) (nat_lt k m) (nat_lt m n) (nat_lt k n) (λ x y. nat_less k n (let a = ltb-true k m x in let b = ltb-true m n y in omega (arith, a, b)))

pub number_self : (base : ℕ) (words : List Name) (k : ℕ) → is_number_before base words k k ≡ false
number_self base words k = before_self (word_at base words k) (nat_lt k k) (elim (cases_Bool (nat_lt k k)) [ inl e ↦ absurd (let a = ltb-true k k e in omega (arith, a)) | inr e ↦ e ])

-- ---- the number named first, up to a place

abbrev Good : ℕ → List Name → (ℕ → Bool) → ℕ → ℕ → Type 0
Good base words set n k = (k < n + 1) × (set k ≡ true) × ((m : ℕ) → m < n + 1 → set m ≡ true → is_number_before base words m k ≡ false)

pub least_more : (base : ℕ) (words : List Name) (set : ℕ → Bool) (n : ℕ) (o : Option ℕ) → IsLeastIf base words set n o → set n ≡ true → IsLeastIf base words set (n + 1) (Some (first_number base words o n))
least_more base words set n None h here = (
  omega arith,
  here,
  λ m lt e. elim (cases_eq m n) [
    | inl x ↦ subst (λ z. is_number_before base words z n ≡ false) (sym x) (number_self base words n)
    | inr x ↦ absurd (true≢false (sym e ∙ h m (omega arith)))
  ],
)
least_more base words set n (Some b) (lt, e, h) here = choose (cases_Bool (is_number_before base words n b)) where
  new : is_number_before base words n b ≡ true → Good base words set n n
  new t = (
    omega arith,
    here,
    λ m lt' x. elim (cases_eq m n) [
      | inl y ↦ subst (λ z. is_number_before base words z n ≡ false) (sym y) (number_self base words n)
      | inr y ↦ (elim (cases_Bool (is_number_before base words m n)) [
        | inl z ↦ absurd (true≢false (sym (number_trans base words m n b z t) ∙ h m (omega arith) x))
        | inr z ↦ z
      ])
    ],
  )

  old : is_number_before base words n b ≡ false → Good base words set n b
  old t = (
    omega arith,
    e,
    λ m lt' x. elim (cases_eq m n) [
      | inl y ↦ subst (λ z. is_number_before base words z b ≡ false) (sym y) t
      | inr y ↦ h m (omega arith) x
    ],
  )

  choose : (is_number_before base words n b ≡ true) ⊎ (is_number_before base words n b ≡ false) → Good base words set n (cond (is_number_before base words n b) n b)
  choose (inl t) = subst (Good base words set n) (sym (ap (λ c. cond c n b) t)) (new t)
  choose (inr t) = subst (Good base words set n) (sym (ap (λ c. cond c n b) t)) (old t)

pub least_same : (base : ℕ) (words : List Name) (set : ℕ → Bool) (n : ℕ) (o : Option ℕ) → IsLeastIf base words set n o → set n ≡ false → IsLeastIf base words set (n + 1) o
least_same base words set n None h here = λ m lt. elim (cases_eq m n) [ inl x ↦ subst (λ z. set z ≡ false) (sym x) here | inr x ↦ h m (omega arith) ]
least_same base words set n (Some b) (lt, e, h) here = (
  omega arith,
  e,
  λ m lt' x. elim (cases_eq m n) [
    | inl y ↦ absurd (true≢false (sym (subst (λ z. set z ≡ true) y x) ∙ here))
    | inr y ↦ h m (omega arith) x
  ],
)
