-- A line's terms are one row, whatever list of names numbers their variables.
use Rattle.std.proofs.Common.{◌≡◌, ℕ, ◌+◌, ◌||◌, true, false, if◌then◌else◌, List, [], ◌∷◌, ◌++◌, refl, ap, ap₂, sym, ◌∙◌, subst, inl, inr, Some, slice_get, arith}
use Rattle.std.proofs.lemmas.Bool.{cases_Bool}
use Rattle.psg_terms.proofs.Lists.{slice_get_once}
use Rattle.psg_terms.specs.Names.{Name, has_twice}
use Rattle.psg_terms.specs.Terms.{Term}
use Rattle.psg_terms.specs.Terms as terms
use Rattle.psg_terms.specs.Signature.{Signature, Symbol}
use Rattle.psg_terms.specs.Canonical.{Variable, same_variable, variables, variables_of, is_noted, noted, noted_all, first_occurrences, IsNumberedFrom}
use Rattle.psg_terms.proofs.Variables.{same_variable-refl, same_variable-true, same_variable-false, true_false}
use Rattle.psg_terms.proofs.Unique.{Each, each-front}
use Rattle.psg_terms.proofs.RenamingLaws.{IsAmong, among-noted_all}
use Rattle.psg_deflines.specs.WrittenTerms.{WrittenTerm, variable, named, apply}
use Rattle.psg_defnumber.specs.Numbers.{IsTerm, AreTerms, IsNaming}
use Rattle.psg_terms.proofs.Spelled.{one_place}

-- the variables stand for one name and are of one sort
pub record Alike (a b : List Name) (x y : Variable) : Type 0 where
  pub sort : x.0 ≡ y.0
  pub name : Name
  pub left : ℕ
  pub right : ℕ
  pub left_number : x.1 ≡ left + 1
  pub right_number : y.1 ≡ right + 1
  pub left_at : slice_get a left ≡ Some name
  pub right_at : slice_get b right ≡ Some name

abbrev pub Pairs : List Name → List Name → List Variable → List Variable → Type 0
Pairs a b [] [] = Unit {0}
Pairs a b [] (y ∷ ys) = ⊥
Pairs a b (x ∷ xs) [] = ⊥
Pairs a b (x ∷ xs) (y ∷ ys) = Alike a b x y × Pairs a b xs ys

-- the terms differ in their variables' numbers alone
abbrev pub AreAlike : List Name → List Name → Term → Term → Type 0
AreAlike a b (terms.variable s n) (terms.variable t m) = Alike a b (s, n) (t, m)
AreAlike a b (terms.symbol c) (terms.symbol d) = c ≡ d
AreAlike a b (terms.apply f x) (terms.apply g y) = AreAlike a b f g × AreAlike a b x y
AreAlike a b t u = ⊥

abbrev pub RowsAlike : List Name → List Name → List Term → List Term → Type 0
RowsAlike a b [] [] = Unit {0}
RowsAlike a b [] (u ∷ us) = ⊥
RowsAlike a b (t ∷ ts) [] = ⊥
RowsAlike a b (t ∷ ts) (u ∷ us) = AreAlike a b t u × RowsAlike a b ts us

pairs-append : (a b : List Name) (xs ys more rest : List Variable) → Pairs a b xs ys → Pairs a b more rest
    → Pairs a b (xs ++ more) (ys ++ rest)
pairs-append a b [] [] more rest h k = k
pairs-append a b [] (y ∷ ys) more rest h k = absurd h
pairs-append a b (x ∷ xs) [] more rest h k = absurd h
pairs-append a b (x ∷ xs) (y ∷ ys) more rest (p, h) k = (p, pairs-append a b xs ys more rest h k)

alike-pairs : (a b : List Name) (t u : Term) → AreAlike a b t u → Pairs a b (variables t) (variables u)
alike-pairs a b (terms.variable s n) (terms.variable t m) h = (h, tt)
alike-pairs a b (terms.variable s n) (terms.symbol d) h = absurd h
alike-pairs a b (terms.variable s n) (terms.apply g y) h = absurd h
alike-pairs a b (terms.symbol c) (terms.variable t m) h = absurd h
alike-pairs a b (terms.symbol c) (terms.symbol d) h = tt
alike-pairs a b (terms.symbol c) (terms.apply g y) h = absurd h
alike-pairs a b (terms.apply f x) (terms.variable t m) h = absurd h
alike-pairs a b (terms.apply f x) (terms.symbol d) h = absurd h
alike-pairs a b (terms.apply f x) (terms.apply g y) (p, q) =
    pairs-append a b (variables f) (variables g) (variables x) (variables y) (alike-pairs a b f g p)
    (alike-pairs a b x y q)

rows-pairs : (a b : List Name) (ts us : List Term) → RowsAlike a b ts us
    → Pairs a b (variables_of ts) (variables_of us)
rows-pairs a b [] [] h = tt
rows-pairs a b [] (u ∷ us) h = absurd h
rows-pairs a b (t ∷ ts) [] h = absurd h
rows-pairs a b (t ∷ ts) (u ∷ us) (p, h) =
    pairs-append a b (variables t) (variables u) (variables_of ts) (variables_of us) (alike-pairs a b t u p)
    (rows-pairs a b ts us h)

-- each list has its names once
module _ (a b : List Name) (ha : has_twice a ≡ false) (hb : has_twice b ≡ false) where
  forth : (x y z w : Variable) → Alike a b x y → Alike a b z w → x ≡ z → y ≡ w
  forth x y z w p q e =
      let place : p.left ≡ q.left = same_place p.left q.left x.1 z.1 p.left_number q.left_number (ap (λ
      (v : Variable). v.1) e) in
      let name : p.name ≡ q.name = slice_get_once a q.left p.name q.name (subst
      (λ k. slice_get a k ≡ Some p.name) place p.left_at) q.left_at in
      let other : p.right ≡ q.right = one_place b p.right q.right q.name hb (p.right_at ∙ ap Some name) q.right_at in
      ap₂ (λ s n. (s, n)) (sym p.sort ∙ ap (λ (v : Variable). v.0) e ∙ q.sort) (p.right_number
      ∙ ap (λ k. k + 1) other ∙ sym q.right_number)
    where
      same_place : (k l n m : ℕ) → n ≡ k + 1 → m ≡ l + 1 → n ≡ m → k ≡ l
      same_place k l n m e f g = omega arith

  back : (x y z w : Variable) → Alike a b x y → Alike a b z w → y ≡ w → x ≡ z
  back x y z w p q e =
      let place : p.right ≡ q.right = same_place p.right q.right y.1 w.1 p.right_number q.right_number (ap (λ
      (v : Variable). v.1) e) in
      let name : p.name ≡ q.name = slice_get_once b q.right p.name q.name (subst
      (λ k. slice_get b k ≡ Some p.name) place p.right_at) q.right_at in
      let other : p.left ≡ q.left = one_place a p.left q.left q.name ha (p.left_at ∙ ap Some name) q.left_at in
      ap₂ (λ s n. (s, n)) (p.sort ∙ ap (λ (v : Variable). v.0) e ∙ sym q.sort) (p.left_number
      ∙ ap (λ k. k + 1) other ∙ sym q.left_number)
    where
      same_place : (k l n m : ℕ) → n ≡ k + 1 → m ≡ l + 1 → n ≡ m → k ≡ l
      same_place k l n m e f g = omega arith

  same-test : (x y z w : Variable) → Alike a b x y → Alike a b z w → same_variable x z ≡ same_variable y w
  same-test x y z w p q =
      elim (cases_Bool (same_variable x z)) [
        | inl e ↦ (let f = forth x y z w p q (same_variable-true x z e) in e
            ∙ sym (subst (λ v. same_variable y v ≡ true) f (same_variable-refl y)))
        | inr e ↦ e ∙ sym (same_variable-false y w (λ f. true_false (sym (subst (λ v. same_variable x v ≡ true)
            (back x y z w p q f) (same_variable-refl x)) ∙ e)))
      ]

  noted-test : (x y : Variable) (xs ys : List Variable) → Alike a b x y → Pairs a b xs ys
      → is_noted x xs ≡ is_noted y ys
  noted-test x y [] [] p h = refl
  noted-test x y [] (w ∷ ys) p h = absurd h
  noted-test x y (z ∷ xs) [] p h = absurd h
  noted-test x y (z ∷ xs) (w ∷ ys) p (q, h) = ap₂ (λ c d. c || d) (same-test x y z w p q) (noted-test x y xs ys p h)

  noted-pairs : (x y : Variable) (xs ys : List Variable) → Alike a b x y → Pairs a b xs ys
      → Pairs a b (noted xs x) (noted ys y)
  noted-pairs x y xs ys p h = step (is_noted x xs) (is_noted y ys) (noted-test x y xs ys p h)
    where
      step : (c d : _) → c ≡ d → Pairs a b (if c then xs else xs ++ x ∷ []) (if d then ys else ys ++ y ∷ [])
      step true true e = h
      step true false e = absurd (true_false e)
      step false true e = absurd (true_false (sym e))
      step false false e = pairs-append a b xs ys (x ∷ []) (y ∷ []) h (p, tt)

  noted_all-pairs : (seen known xs ys : List Variable) → Pairs a b seen known → Pairs a b xs ys
      → Pairs a b (noted_all seen xs) (noted_all known ys)
  noted_all-pairs seen known [] [] s h = s
  noted_all-pairs seen known [] (y ∷ ys) s h = absurd h
  noted_all-pairs seen known (x ∷ xs) [] s h = absurd h
  noted_all-pairs seen known (x ∷ xs) (y ∷ ys) s (p, h) = noted_all-pairs (noted seen x) (noted known y) xs ys
      (noted-pairs x y seen known p s) h

  -- variables that are numbered alike are the same
  numbered-same : (n : ℕ) (xs ys : List Variable) → Pairs a b xs ys → IsNumberedFrom n xs → IsNumberedFrom n ys
      → xs ≡ ys
  numbered-same n [] [] h k l = refl
  numbered-same n [] (y ∷ ys) h k l = absurd h
  numbered-same n (x ∷ xs) [] h k l = absurd h
  numbered-same n (x ∷ xs) (y ∷ ys) (p, h) (e, k) (f, l) =
      ap₂ (λ z zs. z ∷ zs) (ap₂ (λ s m. (s, m)) p.sort (e ∙ sym f)) (numbered-same (n + 1) xs ys h k l)

  among-same : (x y : Variable) (xs ys : List Variable) → Alike a b x y → Pairs a b xs ys → xs ≡ ys
      → is_noted x xs ≡ true → x ≡ y
  among-same x y [] [] p h e i = absurd (true_false (sym i))
  among-same x y [] (w ∷ ys) p h e i = absurd h
  among-same x y (z ∷ xs) [] p h e i = absurd h
  among-same x y (z ∷ xs) (w ∷ ys) p (q, h) e i =
      let head : z ≡ w = cc in
      let rest : xs ≡ ys = cc in
      elim (cases_Bool (same_variable x z)) [
        | inl t ↦ (let s = same_variable-true x z t in s ∙ head ∙ sym (forth x y z w p q s))
        | inr t ↦ among-same x y xs ys p h rest (ap (λ c. c || is_noted x xs) (sym t) ∙ i)
      ]

  module _ (known others : List Variable) (pairs : Pairs a b known others) (same : known ≡ others) where
    term-same : (t u : Term) → AreAlike a b t u → Each (IsAmong known) (variables t) → t ≡ u
    term-same (terms.variable s n) (terms.variable t m) h k =
        let e = among-same (s, n) (t, m) known others h pairs same k.0 in
        ap₂ terms.variable (ap (λ (v : Variable). v.0) e) (ap (λ (v : Variable). v.1) e)
    term-same (terms.variable s n) (terms.symbol d) h k = absurd h
    term-same (terms.variable s n) (terms.apply g y) h k = absurd h
    term-same (terms.symbol c) (terms.variable t m) h k = absurd h
    term-same (terms.symbol c) (terms.symbol d) h k = ap terms.symbol h
    term-same (terms.symbol c) (terms.apply g y) h k = absurd h
    term-same (terms.apply f x) (terms.variable t m) h k = absurd h
    term-same (terms.apply f x) (terms.symbol d) h k = absurd h
    term-same (terms.apply f x) (terms.apply g y) (p, q) k =
        let both = each-front (IsAmong known) (variables f) (variables x) k in
        ap₂ terms.apply (term-same f g p both.0) (term-same x y q both.1)

    row-same : (ts us : List Term) → RowsAlike a b ts us → Each (IsAmong known) (variables_of ts) → ts ≡ us
    row-same [] [] h k = refl
    row-same [] (u ∷ us) h k = absurd h
    row-same (t ∷ ts) [] h k = absurd h
    row-same (t ∷ ts) (u ∷ us) (p, h) k =
        let both = each-front (IsAmong known) (variables t) (variables_of ts) k in
        ap₂ (λ z zs. z ∷ zs) (term-same t u p both.0) (row-same ts us h both.1)

-- rows that differ in their numbers alone, each numbered by first occurrence, are the same
pub one_row : (a b : List Name) (ts us : List Term) → IsNaming a ts → IsNaming b us → RowsAlike a b ts us → ts ≡ us
one_row a b ts us na nb h =
    let pairs = noted_all-pairs a b na.once nb.once [] [] (variables_of ts) (variables_of us) tt
    (rows-pairs a b ts us h) in
    let same = numbered-same a b na.once nb.once 1 (first_occurrences ts)
    (first_occurrences us) pairs na.first nb.first in
    row-same a b na.once nb.once (first_occurrences ts) (first_occurrences us) pairs same ts us h
    (among-noted_all [] (variables_of ts))

-- so are terms whose variables the first of them has
pub row_fixes : (a b : List Name) (ts us : List Term) → IsNaming a ts → IsNaming b us → RowsAlike a b ts us
    → (t u : Term) → AreAlike a b t u → Each (IsAmong (first_occurrences ts)) (variables t) → t ≡ u
row_fixes a b ts us na nb h t u =
    let pairs = noted_all-pairs a b na.once nb.once [] [] (variables_of ts) (variables_of us) tt
    (rows-pairs a b ts us h) in
    let same = numbered-same a b na.once nb.once 1 (first_occurrences ts)
    (first_occurrences us) pairs na.first nb.first in
    term-same a b na.once nb.once (first_occurrences ts) (first_occurrences us) pairs same t u

-- no two constructors of the signature have one name
module _ (sig : Signature) (once : (c d : ℕ) (s z : Symbol) → slice_get sig.symbols c ≡ Some s
    → slice_get sig.symbols d ≡ Some z → s.name ≡ z.name → c ≡ d) where
  arguments-same : (a b : List Name) (w : WrittenTerm) (xs ys : List ℕ) (s r : ℕ) (t u : Term)
      → IsTerm sig a xs s w t → IsTerm sig b ys r w u → xs ≡ ys
  arguments-same a b (variable n) xs ys s r t u h k = h.0 ∙ sym k.0
  arguments-same a b (named n) xs ys s r t u (c, x, at, name, args, sort, e) (d, y, at', name', args', sort', e') =
      let same = once c d x y at at' (name ∙ sym name') in
      let symbol = slice_get_once sig.symbols d x y (subst (λ k. slice_get sig.symbols k ≡ Some x) same at) at' in
      sym args ∙ ap (λ (z : Symbol). z.arguments) symbol ∙ args'
  arguments-same a b (apply f w) xs ys s r t u (m, g, v, hf, hw, e) (n, g', v', hf', hw', e') =
      let longer = arguments-same a b f (m ∷ xs) (n ∷ ys) s r g g' hf hf' in
      cc

  pub terms-alike : (a b : List Name) (w : WrittenTerm) (xs : List ℕ) (s : ℕ) (t u : Term)
      → IsTerm sig a xs s w t → IsTerm sig b xs s w u → AreAlike a b t u
  terms-alike a b (variable n) xs s t u (none, inl (c, only, e)) (none', inl (d, only', e')) =
      let same : c ≡ d = cc in
      subst (λ z. AreAlike a b z u) (sym e) (subst (λ z. AreAlike a b (terms.symbol c) z) (sym e') same)
  terms-alike a b (variable n) xs s t u (none, inl (c, only, e)) (none', inr (l, only', at, e')) = absurd (cc)
  terms-alike a b (variable n) xs s t u (none, inr (k, only, at, e)) (none', inl (d, only', e')) = absurd (cc)
  terms-alike a b (variable n) xs s t u (none, inr (k, only, at, e)) (none', inr (l, only', at', e')) =
      let alike : Alike a b (s, k + 1) (s, l + 1) =
      record {
        sort = refl;
        name = n;
        left = k;
        right = l;
        left_number = refl;
        right_number = refl;
        left_at = at;
        right_at = at';
      } in
      subst (λ z. AreAlike a b z u) (sym e) (subst (λ z. AreAlike a b (terms.variable s (k + 1)) z) (sym e') alike)
  terms-alike a b (named n) xs s t u (c, x, at, name, args, sort, e) (d, y, at', name', args', sort', e') =
      subst (λ z. AreAlike a b z u) (sym e) (subst (λ z. AreAlike a b (terms.symbol c) z) (sym e')
      (once c d x y at at' (name ∙ sym name')))
  terms-alike a b (apply f w) xs s t u (m, g, v, hf, hw, e) (n, g', v', hf', hw', e') =
      let longer = arguments-same a b f (m ∷ xs) (n ∷ xs) s s g g' hf hf' in
      let first : m ≡ n = cc in
      let p = terms-alike a b f (n ∷ xs) s g g' (subst (λ k. IsTerm sig a (k ∷ xs) s f g) first hf) hf' in
      let q = terms-alike a b w [] n v v' (subst (λ k. IsTerm sig a [] k w v) first hw) hw' in
      subst (λ z. AreAlike a b z u) (sym e) (subst (λ z. AreAlike a b (terms.apply g v) z) (sym e') (p, q))

  pub rows-alike : (a b : List Name) (sorts : List ℕ) (ws : List WrittenTerm) (ts us : List Term)
      → AreTerms sig a sorts ws ts → AreTerms sig b sorts ws us → RowsAlike a b ts us
  rows-alike a b [] [] ts us h k = subst (λ z. RowsAlike a b z us) (sym h) (subst (λ z. RowsAlike a b [] z) (sym k) tt)
  rows-alike a b [] (w ∷ ws) ts us h k = absurd h
  rows-alike a b (s ∷ sorts) [] ts us h k = absurd h
  rows-alike a b (s ∷ sorts) (w ∷ ws) ts us (t, rest, ht, hr, e) (u, more, hu, hm, e') =
      subst (λ z. RowsAlike a b z us) (sym e) (subst (λ z. RowsAlike a b (t ∷ rest) z) (sym e')
      (terms-alike a b w [] s t u ht hu, rows-alike a b sorts ws rest more hr hm))
