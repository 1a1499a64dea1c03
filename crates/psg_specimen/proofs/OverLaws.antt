-- Laws of constructors over different variables, and of cases for constructors.
use Rattle.std.proofs.Common.{◌≡◌, ◌≢◌, inl, inr, ℕ, zero, suc, ◌+◌, ◌<◌, ◌==◌, true, false, cond, List, [], ◌∷◌, length, drop, get_or, Option, Some, slice_get, refl, sym, ap, ◌∙◌, subst, arith}
use Rattle.psg_terms.proofs.Lists.{drop_item_suc}
use Rattle.std.specs.List.{AllByRecursion}
use Rattle.psg_terms.specs.Terms.{Term, variable, symbol, apply, applied}
use Rattle.psg_terms.specs.Kept.{numbers_of}
use Rattle.psg_terms.specs.Marks.{con_numbers}
use Rattle.psg_terms.specs.Signature.{Signature, Symbol, HasSort, constructors_from, constructors_of}
use Rattle.psg_terms.specs.declared.sorts.SortId.{SortId}
use Rattle.psg_terms.specs.declared.sorts.ConId.{ConId}
use Rattle.psg_terms.proofs.Nodes.{no_variable, same_constructor, same_arguments}
use Rattle.psg_grammar.specs.declared.types.Case.{Case}
use Rattle.psg_grammar.specs.declared.types.HoleRow.{HoleRow}
use Rattle.psg_completions.specs.Cases.{AreCases, AreDifferent, CasesFor, IsOver}
use Rattle.psg_specimen.specs.Variables.{IsDifferent, IsWhole}

drop_number : (xs : List SortId) (i : ℕ) (x : SortId) → i < length xs → x ≡ get_or xs i x → drop i (numbers_of xs) ≡ x.0 ∷ drop (suc i) (numbers_of xs)
drop_number [] i x lt e = absurd (omega (arith, lt))
drop_number (y ∷ xs) zero x lt e = ap (λ (z : SortId). z.0 ∷ numbers_of xs) (sym e)
drop_number (y ∷ xs) (suc i) x lt e = drop_number xs i x (omega (arith, lt)) e

module _ (sig : Signature) where
  lengths : (args : List Term) (sorts : List ℕ) → AreDifferent sig args sorts → length args ≡ length sorts
  lengths [] [] h = refl
  lengths (a ∷ args) (s ∷ sorts) h = ap suc (lengths args sorts h.1)
  lengths [] (s ∷ sorts) h = absurd h
  lengths (a ∷ args) [] h = absurd h

  pub numbers_long : (xs : List SortId) → length (numbers_of xs) ≡ length xs
  numbers_long [] = refl
  numbers_long (x ∷ xs) = ap suc (numbers_long xs)

  pub unequal : (args : List Term) (sorts : List SortId) → length args ≢ length sorts → AreDifferent sig args (numbers_of sorts) → ⊥
  unequal args sorts ne h = ne (lengths args (numbers_of sorts) h ∙ numbers_long sorts)

  dropped : (args : List Term) (sorts : List ℕ) (i : ℕ) → AreDifferent sig args sorts → AreDifferent sig (drop i args) (drop i sorts)
  dropped args sorts zero h = h
  dropped [] [] (suc i) h = tt
  dropped (a ∷ args) (s ∷ sorts) (suc i) h = dropped args sorts i h.1
  dropped [] (s ∷ sorts) (suc i) h = absurd h
  dropped (a ∷ args) [] (suc i) h = absurd h

  module _ (args : List Term) (sorts : List SortId) (i : ℕ) (a : Term) (s : SortId) (lt : i < length args) (ltt : i < length sorts) (is : a ≡ get_or args i a) (iss : s ≡ get_or sorts i s) where
    pub front : drop i args ≡ a ∷ drop (suc i) args
    front = drop_item_suc args i a lt is

    pub one_more : IsDifferent sig a s.0 (drop (suc i) args) → AreDifferent sig (drop (suc i) args) (drop (suc i) (numbers_of sorts)) → AreDifferent sig (drop i args) (drop i (numbers_of sorts))
    one_more d h = subst (λ l. AreDifferent sig l (drop i (numbers_of sorts))) (sym front)
        (subst (λ l. AreDifferent sig (a ∷ drop (suc i) args) l) (sym (drop_number sorts i s ltt iss)) (d, h))

    pub one_fails : (IsDifferent sig a s.0 (drop (suc i) args) → ⊥) → AreDifferent sig args (numbers_of sorts) → ⊥
    one_fails refuted h =
        let k = subst (λ l. AreDifferent sig l (drop i (numbers_of sorts))) front (dropped args (numbers_of sorts) i h) in
        let m = subst (λ l. AreDifferent sig (a ∷ drop (suc i) args) l) (drop_number sorts i s ltt iss) k in
        refuted m.0

  pub nothing_left : (args : List Term) (sorts : List ℕ) (n : ℕ) → n ≡ length args → length args ≡ length sorts → AreDifferent sig (drop n args) (drop n sorts)
  nothing_left [] [] n e h = subst (λ k. AreDifferent sig (drop k []) (drop k [])) (sym e) tt
  nothing_left (a ∷ args) (s ∷ sorts) n e h = subst (λ k. AreDifferent sig (drop k (a ∷ args)) (drop k (s ∷ sorts))) (sym e) (nothing_left args sorts (length args) refl (let k : suc (length args) ≡ suc (length sorts) = h in omega (arith, k)))
  nothing_left [] (s ∷ sorts) n e h = absurd (let k : 0 ≡ suc (length sorts) = h in omega (arith, k))
  nothing_left (a ∷ args) [] n e h = absurd (let k : suc (length args) ≡ 0 = h in omega (arith, k))

  -- ---- one constructor

  pub over_other : (c made : ℕ) (term : Term) (args : List Term) → term ≡ applied (symbol made) args → made ≢ c → IsOver sig c term → ⊥
  over_other c made term args e ne o = ne (same_constructor made c args o.arguments (sym e ∙ o.term_is))

  pub over_variable : (c s n : ℕ) (term : Term) → term ≡ variable s n → IsOver sig c term → ⊥
  over_variable c s n term e o = no_variable c s n o.arguments (sym o.term_is ∙ e)

  pub over_by : (c made : ℕ) (term : Term) (args : List Term) (x : Symbol) → term ≡ applied (symbol made) args → made ≡ c → slice_get sig.symbols c ≡ Some x
      → (AreDifferent sig args x.arguments → IsOver sig c term) × (IsOver sig c term → AreDifferent sig args x.arguments)
  over_by c made term args x e same at = (
    λ d. record { made = x; found = at; arguments = args; term_is = e ∙ ap (λ k. applied (symbol k) args) same; different = d },
    λ o. let one : o.made ≡ x = inside o.made x (sym o.found ∙ at) in
        let args_same : o.arguments ≡ args = same_arguments c made o.arguments args (sym o.term_is ∙ e) in
        subst (λ l. AreDifferent sig l x.arguments) args_same (subst (λ (y : Symbol). AreDifferent sig o.arguments y.arguments) one o.different),
  ) where
    inside : (p q : Symbol) → ◌≡◌ {A = Option Symbol} (Some p) (Some q) → p ≡ q
    inside p q f = cc

  -- ---- one case for each constructor

  cases_long : (cases : List Case) (cs : List ℕ) → CasesFor sig cases cs → length cases ≡ length cs
  cases_long [] [] h = refl
  cases_long (one ∷ cases) (c ∷ cs) h = ap suc (cases_long cases cs h.1)
  cases_long [] (c ∷ cs) h = absurd h
  cases_long (one ∷ cases) [] h = absurd h

  cons_long : (xs : List ConId) → length (con_numbers xs) ≡ length xs
  cons_long [] = refl
  cons_long (x ∷ xs) = ap suc (cons_long xs)

  pub other_number : (cases : List Case) (cs : List ConId) → length cases ≢ length cs → CasesFor sig cases (con_numbers cs) → ⊥
  other_number cases cs ne h = ne (cases_long cases (con_numbers cs) h ∙ cons_long cs)

  over_at : (cases : List Case) (cs : List ConId) (i : ℕ) (one : Case) (c : ConId) → i < length cases → i < length cs → one ≡ get_or cases i one → c ≡ get_or cs i c
      → CasesFor sig cases (con_numbers cs) → IsOver sig c.0 one.term
  over_at [] cs i one c lt ltt e ee h = absurd (omega (arith, lt))
  over_at (x ∷ cases) [] i one c lt ltt e ee h = absurd (omega (arith, ltt))
  over_at (x ∷ cases) (d ∷ cs) zero one c lt ltt e ee h = subst (λ (y : Case). IsOver sig c.0 y.term) (sym e) (subst (λ (k : ConId). IsOver sig k.0 x.term) (sym ee) h.0)
  over_at (x ∷ cases) (d ∷ cs) (suc i) one c lt ltt e ee h = over_at cases cs i one c (omega (arith, lt)) (omega (arith, ltt)) e ee h.1

  pub case_fails : (cases : List Case) (cs : List ConId) (i : ℕ) (one : Case) (c : ConId) → i < length cases → i < length cs → one ≡ get_or cases i one → c ≡ get_or cs i c
      → (IsOver sig c.0 one.term → ⊥) → CasesFor sig cases (con_numbers cs) → ⊥
  case_fails cases cs i one c lt ltt e ee refuted h = refuted (over_at cases cs i one c lt ltt e ee h)

  -- what is tested for the cases before a place
  abbrev pub AllOver : List Case → List ConId → ℕ → Type 0
  AllOver cases cs n = (m : ℕ) (one : Case) (c : ConId) → m < n → slice_get cases m ≡ Some one → slice_get cs m ≡ Some c → IsOver sig c.0 one.term

  pub all_over : (cases : List Case) (cs : List ConId) → length cases ≡ length cs → AllOver cases cs (length cases) → CasesFor sig cases (con_numbers cs)
  all_over [] [] e h = tt
  all_over (x ∷ cases) (d ∷ cs) e h = (
    h zero x d (omega arith) refl refl,
    all_over cases cs (let k : suc (length cases) ≡ suc (length cs) = e in omega (arith, k)) (λ m one c lt at there. h (suc m) one c (omega (arith, lt)) at there),
  )
  all_over [] (d ∷ cs) e h = absurd (let k : 0 ≡ suc (length cs) = e in omega (arith, k))
  all_over (x ∷ cases) [] e h = absurd (let k : suc (length cases) ≡ 0 = e in omega (arith, k))

  -- constructors are there
  there_from : (n s : ℕ) (symbols : List Symbol) → AllByRecursion (λ c. c < n + length symbols) (constructors_from n s symbols)
  there_from n s [] = tt
  there_from n s (x ∷ symbols) =
      let rest = more n (length symbols) (constructors_from (n + 1) s symbols) (there_from (n + 1) s symbols) in
      elim (x.sort == s) as (λ b. AllByRecursion (λ c. c < n + length (x ∷ symbols)) (cond b (n ∷ constructors_from (n + 1) s symbols) (constructors_from (n + 1) s symbols))) [
        | true ↦ (omega arith, rest)
        | false ↦ rest
      ] where
        more : (a k : ℕ) (cs : List ℕ) → AllByRecursion (λ c. c < (a + 1) + k) cs → AllByRecursion (λ c. c < a + suc k) cs
        more a k [] h = tt
        more a k (c ∷ cs) h = (let lt = h.0 in omega (arith, lt), more a k cs h.1)

  pub constructors_there : (s : ℕ) → AllByRecursion (λ c. c < length sig.symbols) (constructors_of sig s)
  constructors_there s = subst (λ k. AllByRecursion (λ c. c < k) (constructors_of sig s)) (omega arith) (there_from 0 s sig.symbols)

  pub con_there : (cs : List ConId) (i : ℕ) (c : ConId) → AllByRecursion (λ k. k < length sig.symbols) (con_numbers cs) → i < length cs → c ≡ get_or cs i c → c.0 < length sig.symbols
  con_there [] i c h lt e = absurd (omega (arith, lt))
  con_there (d ∷ cs) zero c h lt e = subst (λ (k : ConId). k.0 < length sig.symbols) (sym e) h.0
  con_there (d ∷ cs) (suc i) c h lt e = con_there cs i c h.1 (omega (arith, lt)) e

  -- ---- a hole row

  pub of_constructor : (row : HoleRow) (c : ℕ) (args : List Term) → row.term ≡ applied (symbol c) args → (IsWhole row.cases row.term → ⊥) → AreCases sig row → ⊥
  of_constructor row c args e refuted h = elim h [ inl w ↦ refuted w | inr k ↦ (let (s, n, same, cases) = k in no_variable c s n args (sym e ∙ same)) ]

  abbrev sort_in : Term → ℕ
  sort_in (variable s n) = s
  sort_in (symbol c) = 0
  sort_in (apply f a) = 0

  pub of_variable : (row : HoleRow) (s n : ℕ) → row.term ≡ variable s n → (IsWhole row.cases row.term → ⊥)
      → (CasesFor sig row.cases (constructors_of sig s) → AreCases sig row) × (AreCases sig row → CasesFor sig row.cases (constructors_of sig s))
  of_variable row s n e refuted = (
    λ h. inr (s, n, e, h),
    λ h. elim h [
      | inl w ↦ absurd (refuted w)
      | inr k ↦ (let (r, m, same, cases) = k in subst (λ q. CasesFor sig row.cases (constructors_of sig q)) (sort_same r m s n (sym same ∙ e)) cases)
    ],
  ) where
    sort_same : (r m s n : ℕ) → variable r m ≡ variable s n → r ≡ s
    sort_same r m s n e = ap sort_in e

  pub variable_sort : (t : Term) (s n r : ℕ) → t ≡ variable s n → HasSort sig t r → s < length sig.sorts
  variable_sort t s n r e h = (subst (λ u. HasSort sig u r) e h).0
