-- Cells that stand once or twice in a list.
use Rattle.std.proofs.Common.{◌≡◌, ◌≢◌, ◌⊎◌, inl, inr, ℕ, zero, suc, ◌+◌, ◌==◌, ◌&&◌, ◌||◌, Bool, true, false, List, [], ◌∷◌, ◌++◌, Option, Some, None, slice_get, refl, ap, ap₂, sym, ◌∙◌, subst, arith, true≢false, eqb-true, eq-eqb}
use Rattle.std.proofs.lemmas.Bool.{and_from, and_parts, or_cases, or_left, or_right}
use Rattle.psg_grammar.specs.declared.types.Phylum.{Phylum}
use Rattle.psg_class.specs.Grids.{is_at, once, twice}
use Rattle.psg_class.specs.Forms.{cell_of}
use Rattle.psg_class.specs.Shapes.{listed}
use Rattle.psg_class.specs.Failing.{cells_from, bracket_cell, bracket_cells}
use Rattle.psg_class.specs.declared.grid.Cell.{Cell}
use Rattle.psg_class.specs.declared.shape.Shape.{Shape}

pub at_self : (r c : ℕ) → is_at r c (cell_of r c) ≡ true
at_self r c = and_from (r == r) (c == c) (eq-eqb r r refl) (eq-eqb c c refl)

pub at_is : (r c : ℕ) (x : Cell) → is_at r c x ≡ true → (x.row ≡ r) × (x.column ≡ c)
at_is r c x h = (eqb-true x.row r (and_parts _ _ h).0, eqb-true x.column c (and_parts (x.row == r) (x.column == c) h).1)

once_append : (r c : ℕ) (xs ys : List Cell) → once r c (xs ++ ys) ≡ true → (once r c xs ≡ true) ⊎ (once r c ys ≡ true)
once_append r c [] ys h = inr h
once_append r c (x ∷ xs) ys h = elim (or_cases (is_at r c x) (once r c (xs ++ ys)) h) [
  | inl a ↦ inl (or_left (is_at r c x) (once r c xs) a)
  | inr b ↦ (elim (once_append r c xs ys b) [ inl a ↦ inl (or_right (is_at r c x) (once r c xs) a) | inr a ↦ inr a ])
]

once_left : (r c : ℕ) (xs ys : List Cell) → once r c xs ≡ true → once r c (xs ++ ys) ≡ true
once_left r c [] ys h = absurd (true≢false (sym h))
once_left r c (x ∷ xs) ys h = elim (or_cases (is_at r c x) (once r c xs) h) [
  | inl a ↦ or_left (is_at r c x) (once r c (xs ++ ys)) a
  | inr b ↦ or_right (is_at r c x) (once r c (xs ++ ys)) (once_left r c xs ys b)
]

once_right : (r c : ℕ) (xs ys : List Cell) → once r c ys ≡ true → once r c (xs ++ ys) ≡ true
once_right r c [] ys h = h
once_right r c (x ∷ xs) ys h = or_right (is_at r c x) (once r c (xs ++ ys)) (once_right r c xs ys h)

-- twice in one of two lists, or once in each
pub twice_append : (r c : ℕ) (xs ys : List Cell) → twice r c (xs ++ ys) ≡ true → (twice r c xs ≡ true) ⊎ (((once r c xs ≡ true) × (once r c ys ≡ true)) ⊎ (twice r c ys ≡ true))
twice_append r c [] ys h = inr (inr h)
twice_append r c (x ∷ xs) ys h = elim (or_cases (is_at r c x && once r c (xs ++ ys)) (twice r c (xs ++ ys)) h) [
  | inl a ↦ (elim (once_append r c xs ys (and_parts (is_at r c x) _ a).1) [
    | inl b ↦ inl (or_left (is_at r c x && once r c xs) (twice r c xs) (and_from (is_at r c x) (once r c xs) (and_parts _ _ a).0 b))
    | inr b ↦ inr (inl (or_left (is_at r c x) (once r c xs) (and_parts _ _ a).0, b))
  ])
  | inr a ↦ (elim (twice_append r c xs ys a) [
    | inl b ↦ inl (or_right (is_at r c x && once r c xs) (twice r c xs) b)
    | inr b ↦ (elim b [ inl (d, e) ↦ inr (inl (or_right (is_at r c x) (once r c xs) d, e)) | inr d ↦ inr (inr d) ])
  ])
]

pub twice_left : (r c : ℕ) (xs ys : List Cell) → twice r c xs ≡ true → twice r c (xs ++ ys) ≡ true
twice_left r c [] ys h = absurd (true≢false (sym h))
twice_left r c (x ∷ xs) ys h = elim (or_cases (is_at r c x && once r c xs) (twice r c xs) h) [
  | inl a ↦ or_left (is_at r c x && once r c (xs ++ ys)) (twice r c (xs ++ ys)) (and_from (is_at r c x) (once r c (xs ++ ys)) (and_parts _ _ a).0 (once_left r c xs ys (and_parts (is_at r c x) _ a).1))
  | inr a ↦ or_right (is_at r c x && once r c (xs ++ ys)) (twice r c (xs ++ ys)) (twice_left r c xs ys a)
]

pub twice_each : (r c : ℕ) (xs ys : List Cell) → once r c xs ≡ true → once r c ys ≡ true → twice r c (xs ++ ys) ≡ true
twice_each r c [] ys h k = absurd (true≢false (sym h))
twice_each r c (x ∷ xs) ys h k = elim (or_cases (is_at r c x) (once r c xs) h) [
  | inl a ↦ or_left (is_at r c x && once r c (xs ++ ys)) (twice r c (xs ++ ys)) (and_from (is_at r c x) (once r c (xs ++ ys)) a (once_right r c xs ys k))
  | inr a ↦ or_right (is_at r c x && once r c (xs ++ ys)) (twice r c (xs ++ ys)) (twice_each r c xs ys a k)
]

-- the shape of the number has the cell
pub record Gives (f : Shape → Option Cell) (shapes : List Shape) (r c n : ℕ) : Type 0 where
  pub shape : Shape
  pub at : slice_get shapes n ≡ Some shape
  pub gives : f shape ≡ Some (cell_of r c)

cell_is : (x : Cell) (r c : ℕ) → x.row ≡ r → x.column ≡ c → Some x ≡ Some (cell_of r c)
cell_is x r c e f = ap₂ (λ a b. Some (cell_of a b)) e f

listed_once : (r c : ℕ) (o : Option Cell) → once r c (listed o) ≡ true → o ≡ Some (cell_of r c)
listed_once r c None h = absurd (true≢false (sym h))
listed_once r c (Some x) h = elim (or_cases (is_at r c x) false h) [
  | inl a ↦ (let (e, f) = at_is r c x a in cell_is x r c e f)
  | inr a ↦ absurd (true≢false (sym a))
]

once_listed : (r c : ℕ) (o : Option Cell) → o ≡ Some (cell_of r c) → once r c (listed o) ≡ true
once_listed r c o e = subst (λ x. once r c (listed x) ≡ true) (sym e) (or_left (is_at r c (cell_of r c)) false (at_self r c))

listed_twice : (r c : ℕ) (o : Option Cell) → twice r c (listed o) ≡ true → ⊥
listed_twice r c None h = true≢false (sym h)
listed_twice r c (Some x) h = elim (or_cases (is_at r c x && false) false h) [ inl a ↦ true≢false (sym (and_parts (is_at r c x) false a).1) | inr a ↦ true≢false (sym a) ]

module _ (f : Shape → Option Cell) (r c : ℕ) where
  pub once_there : (shapes : List Shape) → once r c (cells_from f shapes) ≡ true → (n : ℕ) × Gives f shapes r c n
  once_there [] h = absurd (true≢false (sym h))
  once_there (s ∷ rest) h = elim (once_append r c (listed (f s)) (cells_from f rest) h) [
    | inl a ↦ (0, record { shape = s; at = refl; gives = listed_once r c (f s) a })
    | inr a ↦ (let (n, g) = once_there rest a in (suc n, record { shape = g.shape; at = g.at; gives = g.gives }))
  ]

  pub once_back : (shapes : List Shape) (n : ℕ) → Gives f shapes r c n → once r c (cells_from f shapes) ≡ true
  once_back [] n g = absurd (let x : None ≡ Some g.shape = g.at in cc)
  once_back (s ∷ rest) zero g = let e : Some s ≡ Some g.shape = g.at in let k : s ≡ g.shape = cc in once_left r c (listed (f s)) (cells_from f rest) (once_listed r c (f s) (ap f k ∙ g.gives))
  once_back (s ∷ rest) (suc n) g = once_right r c (listed (f s)) (cells_from f rest) (once_back rest n (record { shape = g.shape; at = g.at; gives = g.gives }))

  pub twice_there : (shapes : List Shape) → twice r c (cells_from f shapes) ≡ true → (n : ℕ) × (m : ℕ) × (n ≢ m) × Gives f shapes r c n × Gives f shapes r c m
  twice_there [] h = absurd (true≢false (sym h))
  twice_there (s ∷ rest) h = elim (twice_append r c (listed (f s)) (cells_from f rest) h) [
    | inl a ↦ absurd (listed_twice r c (f s) a)
    | inr b ↦ (elim b [
      | inl (x, y) ↦ (let (m, g) = once_there rest y in (0, suc m, zero_not m, record { shape = s; at = refl; gives = listed_once r c (f s) x }, record { shape = g.shape; at = g.at; gives = g.gives }))
      | inr y ↦ (let (n, m, d, g, h') = twice_there rest y in (suc n, suc m, both n m d, record { shape = g.shape; at = g.at; gives = g.gives }, record { shape = h'.shape; at = h'.at; gives = h'.gives }))
    ])
  ] where
    zero_not : (m : ℕ) → 0 ≢ suc m
    zero_not m e = omega (arith, e)

    both : (n m : ℕ) → n ≢ m → suc n ≢ suc m
    both n m d e = d (omega (arith, e))

  pub twice_back : (shapes : List Shape) (n m : ℕ) → n ≢ m → Gives f shapes r c n → Gives f shapes r c m → twice r c (cells_from f shapes) ≡ true
  twice_back [] n m d g h = absurd (let x : None ≡ Some g.shape = g.at in cc)
  twice_back (s ∷ rest) zero zero d g h = absurd (d refl)
  twice_back (s ∷ rest) zero (suc m) d g h =
      let e : Some s ≡ Some g.shape = g.at in let k : s ≡ g.shape = cc in
      twice_each r c (listed (f s)) (cells_from f rest) (once_listed r c (f s) (ap f k ∙ g.gives)) (once_back rest m (record { shape = h.shape; at = h.at; gives = h.gives }))
  twice_back (s ∷ rest) (suc n) zero d g h =
      let e : Some s ≡ Some h.shape = h.at in let k : s ≡ h.shape = cc in
      twice_each r c (listed (f s)) (cells_from f rest) (once_listed r c (f s) (ap f k ∙ h.gives)) (once_back rest n (record { shape = g.shape; at = g.at; gives = g.gives }))
  twice_back (s ∷ rest) (suc n) (suc m) d g h =
      twice_right (listed (f s)) (cells_from f rest) (twice_back rest n m (λ e. d (ap (λ x. suc x) e)) (record { shape = g.shape; at = g.at; gives = g.gives }) (record { shape = h.shape; at = h.at; gives = h.gives })) where
        twice_right : (xs ys : List Cell) → twice r c ys ≡ true → twice r c (xs ++ ys) ≡ true
        twice_right [] ys k = k
        twice_right (x ∷ xs) ys k = or_right (is_at r c x && once r c (xs ++ ys)) (twice r c (xs ++ ys)) (twice_right xs ys k)

-- brackets of bracketed phyla, from a number on
pub record Opens (o p : ℕ) (phyla : List Phylum) (r c : ℕ) : Type 0 where
  pub place : ℕ
  pub phylum : Phylum
  pub at : slice_get phyla place ≡ Some phylum
  pub bracketed : phylum.bracketed ≡ true
  pub row : r ≡ p + place
  pub column : c ≡ o

bracket_is : (p o r c : ℕ) (b : Bool) → bracket_cell p o b ≡ Some (cell_of r c) → (b ≡ true) × (r ≡ p) × (c ≡ o)
bracket_is p o r c true e = (refl, ap (λ (x : Cell). x.row) (sym (inner e)), ap (λ (x : Cell). x.column) (sym (inner e))) where
  inner : Some (cell_of p o) ≡ Some (cell_of r c) → cell_of p o ≡ cell_of r c
  inner f = cc
bracket_is p o r c false e = absurd (let x : ◌≡◌ {A = Option Cell} None (Some (cell_of r c)) = e in cc)

pub opens_there : (o p : ℕ) (phyla : List Phylum) (r c : ℕ) → once r c (bracket_cells o p phyla) ≡ true → Opens o p phyla r c
opens_there o p [] r c h = absurd (true≢false (sym h))
opens_there o p (k ∷ rest) r c h = elim (once_append r c (listed (bracket_cell p o k.bracketed)) (bracket_cells o (p + 1) rest) h) [
  | inl a ↦ (let (b, x, y) = bracket_is p o r c k.bracketed (listed_once r c (bracket_cell p o k.bracketed) a) in record { place = 0; phylum = k; at = refl; bracketed = b; row = omega (arith, x); column = y })
  | inr a ↦ (let g = opens_there o (p + 1) rest r c a in let e = g.row in record { place = suc g.place; phylum = g.phylum; at = g.at; bracketed = g.bracketed; row = omega (arith, e); column = g.column })
]

pub opens_back : (o p : ℕ) (phyla : List Phylum) (n : ℕ) (k : Phylum) → slice_get phyla n ≡ Some k → k.bracketed ≡ true → once (p + n) o (bracket_cells o p phyla) ≡ true
opens_back o p [] n k at b = absurd (let x : ◌≡◌ {A = Option Phylum} None (Some k) = at in cc)
opens_back o p (j ∷ rest) zero k at b =
    let e : ◌≡◌ {A = Option Phylum} (Some j) (Some k) = at in let same : j ≡ k = cc in
    once_left (p + 0) o (listed (bracket_cell p o j.bracketed)) (bracket_cells o (p + 1) rest)
    (once_listed (p + 0) o (bracket_cell p o j.bracketed) (ap (bracket_cell p o) (ap (λ (x : Phylum). x.bracketed) same ∙ b) ∙ ap (λ r. Some (cell_of r o)) (plus p))) where
      plus : (p : ℕ) → p ≡ p + 0
      plus p = omega arith
opens_back o p (j ∷ rest) (suc n) k at b =
    once_right (p + suc n) o (listed (bracket_cell p o j.bracketed)) (bracket_cells o (p + 1) rest) (subst (λ r. once r o (bracket_cells o (p + 1) rest) ≡ true) (plus p n) (opens_back o (p + 1) rest n k at b)) where
      plus : (p n : ℕ) → p + 1 + n ≡ p + suc n
      plus p n = omega arith

pub opens_never_twice : (o p : ℕ) (phyla : List Phylum) (r c : ℕ) → twice r c (bracket_cells o p phyla) ≡ true → ⊥
opens_never_twice o p [] r c h = true≢false (sym h)
opens_never_twice o p (k ∷ rest) r c h = elim (twice_append r c (listed (bracket_cell p o k.bracketed)) (bracket_cells o (p + 1) rest) h) [
  | inl a ↦ listed_twice r c (bracket_cell p o k.bracketed) a
  | inr b ↦ (elim b [
    | inl (x, y) ↦ (let (q, e, f) = bracket_is p o r c k.bracketed (listed_once r c (bracket_cell p o k.bracketed) x) in let g = opens_there o (p + 1) rest r c y in let i = g.row in omega (arith, e, i))
    | inr y ↦ opens_never_twice o (p + 1) rest r c y
  ])
]
