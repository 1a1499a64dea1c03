-- Cell rows that leave a list's value.
use Rattle.std.proofs.Common.{◌≡◌, inl, inr, ℕ, zero, suc, ◌<◌, not, Bool, true, List, [], ◌∷◌, length, get_or, Option, Some, None, slice_get, refl, sym, ap, ◌∙◌, subst, arith, true≢false}
use Rattle.std.specs.Prelude.{◌↔◌}
use Rattle.std.specs.List.{AllByRecursion}
use Rattle.std.proofs.lemmas.Bool.{cases_Bool}
use Rattle.psg_terms.proofs.Lists.{slice_get_item, slice_get_once}
use Rattle.psg_terms.specs.Terms.{Term, variable, symbol, apply, applied}
use Rattle.psg_terms.specs.Signature.{Signature, only_constructor}
use Rattle.psg_terms.specs.Instances.{IsInstance}
use Rattle.psg_terms.proofs.Nodes.{no_variable}
use Rattle.psg_grammar.specs.declared.types.ListKind.{ListKind}
use Rattle.psg_grammar.specs.declared.types.Row.{Row}
use Rattle.psg_grammar.specs.declared.types.DeclareRow.{DeclareRow}
use Rattle.psg_grammar.specs.declared.types.Definition.{Definition}
use Rattle.psg_completions.specs.Elements.{IsAbsent, IsClear}
use Rattle.psg_specimen.specs.Clear.{IsClearBy, IsClearDeclare, IsRest}
use Rattle.psg_covering.proofs.Firsts.{At}
use Rattle.psg_specimen.proofs.VariableLaws.{same_variable}

-- ---- variables that do not occur

absent_applied : (s n : ℕ) (t : Term) (args : List Term) → (IsAbsent s n t × AllByRecursion (IsAbsent s n) args) ↔ IsAbsent s n (applied t args)
absent_applied s n t [] = (λ h. h.0, λ h. (h, tt))
absent_applied s n t (a ∷ rest) =
    let later = absent_applied s n (apply t a) rest in
    (λ h. later.0 ((h.0, h.1.0), h.1.1), λ h. let k = later.1 h in (k.0.0, (k.0.1, k.1)))

pub absent_constructor : (s n c : ℕ) (term : Term) (args : List Term) → term ≡ applied (symbol c) args → AllByRecursion (IsAbsent s n) args ↔ IsAbsent s n term
absent_constructor s n c term args e =
    let both = absent_applied s n (symbol c) args in
    (λ h. subst (IsAbsent s n) (sym e) (both.0 (tt, h)), λ h. (both.1 (subst (IsAbsent s n) e h)).1)

pub absent_variable : (s n r k : ℕ) (term : Term) (b : Bool) → term ≡ variable r k → (b ≡ true) ↔ ((s ≡ r) × (n ≡ k)) → (not b ≡ true) ↔ IsAbsent s n term
absent_variable s n r k term b e both = (
  λ h. subst (IsAbsent s n) (sym e) (λ same. true≢false (sym h ∙ ap not (both.1 same))),
  λ h. elim (cases_Bool b) [
    | inl t ↦ absurd ((subst (IsAbsent s n) e h) (both.0 t))
    | inr f ↦ ap not f
  ],
)

pub all_in : {X : Type 0} (P : X → Type 0) (xs : List X) → ((m : ℕ) → At xs P m) → AllByRecursion P xs
all_in P [] h = tt
all_in P (x ∷ xs) h = (h zero x refl, all_in P xs (λ m. h (suc m)))

-- ---- the value of the rest

module _ (sig : Signature) (sort : ℕ) (element rest : Term) where
  pub rest_variable : (s n : ℕ) → rest ≡ variable s n → IsAbsent s n element ↔ IsRest sig sort element rest
  rest_variable s n e = (
    λ h. inl (s, n, e, h),
    λ h. elim h [
      | inl v ↦ (let (r, k, is, absent) = v in
          let both = same_variable r k s n (sym is ∙ e) in
          subst (λ m. IsAbsent s m element) both.1 (subst (λ m. IsAbsent m k element) both.0 absent))
      | inr v ↦ (let (c, is, only) = v in absurd (no_variable c s n [] (sym is ∙ e)))
    ],
  )

  pub rest_constant : (c d : ℕ) (args : List Term) → rest ≡ applied (symbol c) args → Some d ≡ only_constructor sig sort → (rest ≡ symbol d) ↔ IsRest sig sort element rest
  rest_constant c d args e only = (
    λ h. inr (d, h, sym only),
    λ h. elim h [
      | inl v ↦ (let (r, k, is, absent) = v in absurd (no_variable c r k args (sym e ∙ is)))
      | inr v ↦ (let (f, is, one) = v in is ∙ ap symbol (inside f d (sym one ∙ sym only)))
    ],
  ) where
    inside : (f d : ℕ) → Some f ≡ Some d → f ≡ d
    inside f d x = let y : ◌≡◌ {A = Option ℕ} (Some f) (Some d) = x in cc

  pub rest_none : (c : ℕ) (args : List Term) → rest ≡ applied (symbol c) args → None ≡ only_constructor sig sort → IsRest sig sort element rest → ⊥
  rest_none c args e none h = elim h [
    | inl v ↦ (let (r, k, is, absent) = v in no_variable c r k args (sym e ∙ is))
    | inr v ↦ (let (f, is, one) = v in let y : ◌≡◌ {A = Option ℕ} None (Some f) = none ∙ one in cc)
  ]

-- ---- one cell row

two : (xs : List Term) (a b : Term) → length xs ≡ 2 → a ≡ get_or xs 0 a → b ≡ get_or xs 1 b → xs ≡ a ∷ b ∷ []
two [] a b len x y = absurd (omega (arith, len))
two (p ∷ []) a b len x y = absurd (omega (arith, len))
two (p ∷ q ∷ []) a b len x y = pair p q a b x y where
  pair : (p q a b : Term) → a ≡ p → b ≡ q → p ∷ q ∷ [] ≡ a ∷ b ∷ []
  pair p q a b e g = ap (λ z. z ∷ q ∷ []) (sym e) ∙ ap (λ z. a ∷ z ∷ []) (sym g)
two (p ∷ q ∷ r ∷ xs) a b len x y = absurd (omega (arith, len))

module _ (sig : Signature) (sort : ℕ) (row : Row) (value : Term) (columns : List Term) (own : columns ≡ row.columns) where
  pub not_two : (length columns ≡ 2 → ⊥) → IsClearBy sig sort row value → ⊥
  not_two ne by = ne (ap length (own ∙ by.columns))

  module _ (len : length columns ≡ 2) (a b : Term) (first : a ≡ get_or columns 0 a) (second : b ≡ get_or columns 1 b) where
    parts : row.columns ≡ a ∷ b ∷ []
    parts = sym own ∙ two columns a b len first second

    pair_same : (a b c d : Term) → a ∷ b ∷ [] ≡ c ∷ d ∷ [] → (a ≡ c) × (b ≡ d)
    pair_same a b c d e = let y : ◌≡◌ {A = List Term} (a ∷ b ∷ []) (c ∷ d ∷ []) = e in (cc, cc)

    same_parts : (by : IsClearBy sig sort row value) → (by.element ≡ a) × (by.rest ≡ b)
    same_parts by = pair_same by.element by.rest a b (sym by.columns ∙ parts)

    pub by_head : IsClearBy sig sort row value → row.head ≡ b
    by_head by = by.head ∙ (same_parts by).1

    pub by_rest : IsClearBy sig sort row value → IsRest sig sort a b
    by_rest by = let same = same_parts by in subst (λ t. IsRest sig sort t b) same.0 (subst (IsRest sig sort by.element) same.1 by.rest_is)

    pub by_instance : IsClearBy sig sort row value → IsInstance (value ∷ []) (a ∷ [])
    by_instance by = subst (λ t. IsInstance (value ∷ []) (t ∷ [])) (same_parts by).0 by.is

    pub by_parts : row.head ≡ b → IsRest sig sort a b → IsInstance (value ∷ []) (a ∷ []) → IsClearBy sig sort row value
    by_parts head rest is = record { element = a; rest = b; columns = parts; head = head; rest_is = rest; is = is }

-- ---- the cell rows of a list

module _ (def : Definition) (list : ListKind) (value : Term) where
  abbrev By : Row → Type 0
  By row = IsClearBy def.signature list.sort.0 row value

  pub clear_at : (rows : List Row) → rows ≡ list.cell_rows → (i : ℕ) (row : Row) → i < length rows → row ≡ get_or rows i row → By row → IsClear def list value
  clear_at rows e i row lt is by = record {
    number = i;
    row = row;
    chosen = ap (λ l. slice_get l i) (sym e) ∙ slice_get_item rows i row lt is;
    element = by.element;
    rest = by.rest;
    columns = by.columns;
    head = by.head;
    rest_is = by.rest_is;
    is = by.is;
  }

  pub none_clear : (rows : List Row) → rows ≡ list.cell_rows → ((m : ℕ) → At rows (λ row. By row → ⊥) m) → IsClear def list value → ⊥
  none_clear rows e none c = none c.number c.row (ap (λ l. slice_get l c.number) e ∙ c.chosen) (record {
    element = c.element;
    rest = c.rest;
    columns = c.columns;
    head = c.head;
    rest_is = c.rest_is;
    is = c.is;
  })

pub of_list : (def : Definition) (d : DeclareRow) (list : ListKind) → slice_get def.lists d.list ≡ Some list → IsClear def list d.value ↔ IsClearDeclare def d
of_list def d list at = (
  λ h other there. subst (λ l. IsClear def l d.value) (slice_get_once def.lists d.list list other at there) h,
  λ h. h list at,
)

pub of_no_list : (def : Definition) (d : DeclareRow) → slice_get def.lists d.list ≡ None → IsClearDeclare def d
of_no_list def d none list at = absurd (let y : ◌≡◌ {A = Option ListKind} None (Some list) = sym none ∙ at in cc)
