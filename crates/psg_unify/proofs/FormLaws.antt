-- Forms of terms: equal terms have one number.
use Rattle.std.proofs.Common.{◌≡◌, ◌⊎◌, inl, inr, ℕ, zero, suc, ◌+◌, ◌&&◌, ◌||◌, ◌==◌, not, Bool, true, false, cond, if◌then◌else◌, Option, Some, None, List, [], ◌∷◌, ◌++◌, length, slice_get, refl, ap, ap₂, sym, ◌∙◌, subst, append-nil, arith}
use Rattle.std.proofs.Math.ListN.{set}
use Rattle.std.proofs.lemmas.Bool.{eqb-true, eqb-false, and_parts, cases_Bool}
use Rattle.psg_terms.proofs.Lists.{eqb-refl}
use Rattle.std.specs.List.{list_any, position_or_len}
use Rattle.psg_terms.specs.Terms.{Term, variable, symbol, apply, applied}
use Rattle.psg_pool.specs.declared.cells.CellId.{CellId}
use Rattle.psg_pool.proofs.Places.{slice_get-append, slice_get-append_last, slice_get-set_other}
use Rattle.psg_unify.specs.declared.forms.Form.{Form}
use Rattle.psg_unify.specs.Numbering.{open_form, symbol_form, apply_form, Makes, of_open, of_symbol, of_apply, AreOnce, IsFound}

-- whether the program's index sets take two forms for one
abbrev pub same_form : Form → Form → Bool
same_form a b = (a.kind == b.kind) && ((a.first == b.first) && (a.second == b.second))

same_form-true : (a b : Form) → same_form a b ≡ true → a ≡ b
same_form-true a b e =
    let one = and_parts (a.kind == b.kind) ((a.first == b.first) && (a.second == b.second)) e in
    let two = and_parts (a.first == b.first) (a.second == b.second) one.1 in
    let k = eqb-true a.kind b.kind one.0 in
    let f = eqb-true a.first b.first two.0 in
    let s = eqb-true a.second b.second two.1 in
    ap (λ (n : ℕ). record { kind = n; first = a.first; second = a.second }) k
    ∙ ap (λ (n : ℕ). record { kind = b.kind; first = n; second = a.second }) f
    ∙ ap (λ (n : ℕ). record { kind = b.kind; first = b.first; second = n }) s

same_form-refl : (a : Form) → same_form a a ≡ true
same_form-refl a =
    ap (λ b. b && ((a.first == a.first) && (a.second == a.second))) (eqb-refl a.kind)
    ∙ ap (λ b. b && (a.second == a.second)) (eqb-refl a.first)
    ∙ eqb-refl a.second

-- a form that is among others has its place there
at_place : (form : Form) (xs : List Form) → list_any (same_form form) xs ≡ true → slice_get xs (position_or_len (same_form form) xs) ≡ Some form
at_place form [] e = cc
at_place form (x ∷ xs) e = elim (cases_Bool (same_form form x)) [
  | inl t ↦
      (let here : position_or_len (same_form form) (x ∷ xs) ≡ 0 = ap (λ b. cond (not b) (1 + position_or_len (same_form form) xs) 0) t in
      ap (slice_get (x ∷ xs)) here ∙ ap (λ (y : Form). Some y) (sym (same_form-true form x t)))
  | inr f ↦
      (let later : position_or_len (same_form form) (x ∷ xs) ≡ suc (position_or_len (same_form form) xs) =
      ap (λ b. cond (not b) (1 + position_or_len (same_form form) xs) 0) f ∙ omega arith in
      ap (slice_get (x ∷ xs)) later ∙ at_place form xs (sym (ap (λ b. b || list_any (same_form form) xs) f) ∙ e))
]

-- else the place is after all
no_place : (form : Form) (xs : List Form) → list_any (same_form form) xs ≡ false → position_or_len (same_form form) xs ≡ length xs
no_place form [] e = refl
no_place form (x ∷ xs) e = elim (cases_Bool (same_form form x)) [
  | inl t ↦ (let b : true ≡ false = sym (ap (λ b. b || list_any (same_form form) xs) t) ∙ e in cc)
  | inr f ↦
      (let rest = no_place form xs (sym (ap (λ b. b || list_any (same_form form) xs) f) ∙ e) in
      ap (λ b. cond (not b) (1 + position_or_len (same_form form) xs) 0) f ∙ omega (arith, rest))
]

-- and it is at no place
not_there : (form : Form) (xs : List Form) (i : ℕ) → list_any (same_form form) xs ≡ false → slice_get xs i ≡ Some form → ⊥
not_there form [] i e g = let none : None ≡ Some form = g in cc
not_there form (x ∷ xs) zero e g =
    let one : x ≡ form = cc in
    let t : same_form form x ≡ true = ap (same_form form) one ∙ same_form-refl form in
    let b : true ≡ false = sym (ap (λ b. b || list_any (same_form form) xs) t) ∙ e in cc
not_there form (x ∷ xs) (suc i) e g = elim (cases_Bool (same_form form x)) [
  | inl t ↦ (let b : true ≡ false = sym (ap (λ b. b || list_any (same_form form) xs) t) ∙ e in cc)
  | inr f ↦ not_there form xs i (sym (ap (λ b. b || list_any (same_form form) xs) f) ∙ e) g
]

-- an element of a list with one more at the end
pub at_end : {X : Type 0} (xs : List X) (y : X) (i : ℕ) (p : X) → slice_get (xs ++ y ∷ []) i ≡ Some p → (slice_get xs i ≡ Some p) ⊎ ((i ≡ length xs) × (p ≡ y))
at_end [] y zero p e = let one : y ≡ p = cc in inr (refl, sym one)
at_end [] y (suc i) p e = let none : None ≡ Some p = e in cc
at_end (x ∷ xs) y zero p e = inl e
at_end (x ∷ xs) y (suc i) p e = elim (at_end xs y i p e) [
  | inl h ↦ inl h
  | inr (k, h) ↦ inr (omega (arith, k), h)
]

once_more : (xs : List Form) (form : Form) → list_any (same_form form) xs ≡ false → AreOnce xs → AreOnce (xs ++ form ∷ [])
once_more xs form e once i j p a b = elim (at_end xs form i p a) [
  | inl x ↦ elim (at_end xs form j p b) [
    | inl y ↦ once i j p x y
    | inr (k, h) ↦ absurd (not_there form xs i e (x ∙ ap (λ (z : Form). Some z) h))
  ]
  | inr (k, h) ↦ elim (at_end xs form j p b) [
    | inl y ↦ absurd (not_there form xs j e (y ∙ ap (λ (z : Form). Some z) h))
    | inr (l, g) ↦ k ∙ sym l
  ]
]

pub found : (old new : List Form) (form : Form) (number : ℕ) → new ≡ (if list_any (same_form form) old then old else old ++ form ∷ []) → number ≡ position_or_len (same_form form) old → IsFound old new form number
found old new form number e n = elim (cases_Bool (list_any (same_form form) old)) [
  | inl t ↦
      (let same : new ≡ old = e ∙ ap (λ b. if b then old else old ++ form ∷ []) t in
      record {
        more = [];
        grown = same ∙ sym (append-nil old);
        here = ap₂ slice_get same n ∙ at_place form old t;
        once = λ o. subst AreOnce (sym same) o;
      })
  | inr f ↦
      (let grown : new ≡ old ++ form ∷ [] = e ∙ ap (λ b. if b then old else old ++ form ∷ []) f in
      record {
        more = form ∷ [];
        grown = grown;
        here = ap (λ l. slice_get l number) grown ∙ slice_get-append_last old form number (n ∙ no_place form old f);
        once = λ o. subst AreOnce (sym grown) (once_more old form f o);
      })
]

-- what is made stays so where more forms come
pub makes_more : (forms more : List Form) (k : ℕ) (t : Term) → Makes forms k t → Makes (forms ++ more) k t
makes_more forms more _ _ (of_open k s n e) = of_open k s n (slice_get-append forms more k (open_form s n) e)
makes_more forms more _ _ (of_symbol k c e) = of_symbol k c (slice_get-append forms more k (symbol_form c) e)
makes_more forms more _ _ (of_apply k i j f a e p q) =
    of_apply k i j f a (slice_get-append forms more k (apply_form i j) e) (makes_more forms more i f p) (makes_more forms more j a q)

pub makes_grown : (old new : List Form) (form : Form) (number k : ℕ) (t : Term) → IsFound old new form number → Makes old k t → Makes new k t
makes_grown old new form number k t g m = subst (λ l. Makes l k t) (sym g.grown) (makes_more old g.more k t m)

-- one number makes one term
one_form : (forms : List Form) (k : ℕ) (p q : Form) → slice_get forms k ≡ Some p → slice_get forms k ≡ Some q → p ≡ q
one_form forms k p q a b = let e : Some p ≡ Some q = sym a ∙ b in cc

pub one_term : (forms : List Form) (k : ℕ) (t u : Term) → Makes forms k t → Makes forms k u → t ≡ u
one_term forms _ _ _ (of_open k s n e) (of_open _ p m d) =
    let q = one_form forms k (open_form s n) (open_form p m) e d in
    let a : s ≡ p = ap (λ (x : Form). x.first) q in
    let b : n ≡ m = ap (λ (x : Form). x.second) q in
    ap₂ (λ x y. variable x (y + 1)) a b
one_term forms _ _ _ (of_open k s n e) (of_symbol _ c d) =
    let q : 0 ≡ 1 = ap (λ (x : Form). x.kind) (one_form forms k (open_form s n) (symbol_form c) e d) in absurd (omega (arith, q))
one_term forms _ _ _ (of_open k s n e) (of_apply _ i j f a d x y) =
    let q : 0 ≡ 2 = ap (λ (x : Form). x.kind) (one_form forms k (open_form s n) (apply_form i j) e d) in absurd (omega (arith, q))
one_term forms _ _ _ (of_symbol k c e) (of_open _ p m d) =
    let q : 1 ≡ 0 = ap (λ (x : Form). x.kind) (one_form forms k (symbol_form c) (open_form p m) e d) in absurd (omega (arith, q))
one_term forms _ _ _ (of_symbol k c e) (of_symbol _ b d) =
    ap symbol (ap (λ (x : Form). x.first) (one_form forms k (symbol_form c) (symbol_form b) e d))
one_term forms _ _ _ (of_symbol k c e) (of_apply _ i j f a d x y) =
    let q : 1 ≡ 2 = ap (λ (x : Form). x.kind) (one_form forms k (symbol_form c) (apply_form i j) e d) in absurd (omega (arith, q))
one_term forms _ _ _ (of_apply k i j f a e x y) (of_open _ p m d) =
    let q : 2 ≡ 0 = ap (λ (x : Form). x.kind) (one_form forms k (apply_form i j) (open_form p m) e d) in absurd (omega (arith, q))
one_term forms _ _ _ (of_apply k i j f a e x y) (of_symbol _ c d) =
    let q : 2 ≡ 1 = ap (λ (x : Form). x.kind) (one_form forms k (apply_form i j) (symbol_form c) e d) in absurd (omega (arith, q))
one_term forms _ _ _ (of_apply k i j f a e x y) (of_apply _ p m g b d z w) =
    let q = one_form forms k (apply_form i j) (apply_form p m) e d in
    let l : i ≡ p = ap (λ (x : Form). x.first) q in
    let r : j ≡ m = ap (λ (x : Form). x.second) q in
    ap₂ apply (one_term forms p f g (subst (λ n. Makes forms n f) l x) z) (one_term forms m a b (subst (λ n. Makes forms n a) r y) w)

-- equal terms have one number
pub one_number : (forms : List Form) → AreOnce forms → (t u : Term) (i j : ℕ) → Makes forms i t → Makes forms j u → t ≡ u → i ≡ j
one_number forms once _ _ _ _ (of_open k s n e) (of_open l p m d) q =
    let a : s ≡ p = cc in
    let b : n + 1 ≡ m + 1 = cc in
    let c : n ≡ m = omega (arith, b) in
    once k l (open_form p m) (e ∙ ap₂ (λ x y. Some (open_form x y)) a c) d
one_number forms once _ _ _ _ (of_open k s n e) (of_symbol l c d) q = cc
one_number forms once _ _ _ _ (of_open k s n e) (of_apply l i j f a d x y) q = cc
one_number forms once _ _ _ _ (of_symbol k c e) (of_open l p m d) q = cc
one_number forms once _ _ _ _ (of_symbol k c e) (of_symbol l b d) q =
    let a : c ≡ b = cc in once k l (symbol_form b) (e ∙ ap (λ x. Some (symbol_form x)) a) d
one_number forms once _ _ _ _ (of_symbol k c e) (of_apply l i j f a d x y) q = cc
one_number forms once _ _ _ _ (of_apply k i j f a e x y) (of_open l p m d) q = cc
one_number forms once _ _ _ _ (of_apply k i j f a e x y) (of_symbol l c d) q = cc
one_number forms once _ _ _ _ (of_apply k i j f a e x y) (of_apply l p m g b d z w) q =
    let h : f ≡ g = cc in
    let r : a ≡ b = cc in
    let first = one_number forms once f g i p x z h in
    let second = one_number forms once a b j m y w r in
    once k l (apply_form p m) (e ∙ ap₂ (λ u v. Some (apply_form u v)) first second) d

-- at most the cell's number is new
abbrev pub IsOneMore : List (Option ℕ) → List (Option ℕ) → CellId → ℕ → Type 0
IsOneMore old new id number = (k n : ℕ) → slice_get new k ≡ Some (Some n)
    → (slice_get old k ≡ Some (Some n)) ⊎ ((k ≡ id.0) × (n ≡ number))

set_more : (old : List (Option ℕ)) (id : CellId) (number : ℕ) → IsOneMore old (set old id.0 (Some number)) id number
set_more old id number k n g = elim (cases_Bool (k == id.0)) [
  | inl e ↦ (let same : k ≡ id.0 = eqb-true k id.0 e in inr (same, here old k (ap (λ j. slice_get (set old j (Some number)) k) same ∙ g)))
  | inr f ↦ inl (sym (slice_get-set_other old k id.0 (Some number) (eqb-false k id.0 f)) ∙ g)
] where
  here : (xs : List (Option ℕ)) (k : ℕ) → slice_get (set xs k (Some number)) k ≡ Some (Some n) → n ≡ number
  here [] k g = cc
  here (x ∷ xs) zero g = cc
  here (x ∷ xs) (suc k) g = here xs k g

-- what was set is there, and the rest is as it was
pub one_more : (old new : List (Option ℕ)) (id : CellId) (number : ℕ) → new ≡ set old id.0 (Some number) → IsOneMore old new id number
one_more old new id number e = subst (λ w. IsOneMore old w id number) (sym e) (set_more old id number)

-- one argument more
pub applied-last : (t : Term) (xs : List Term) (x : Term) → applied t (xs ++ x ∷ []) ≡ apply (applied t xs) x
applied-last t [] x = refl
applied-last t (y ∷ xs) x = applied-last (apply t y) xs x

pub no_cells : (cells : List (Option ℕ)) → ((k n : ℕ) → slice_get cells k ≡ Some (Some n) → ⊥) → (id : CellId) (k : ℕ) → slice_get cells id.0 ≡ Some (Some k) → ⊥
no_cells cells h id k e = h id.0 k e
