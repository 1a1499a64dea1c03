-- The cells of a table that are set, row by row and column by column.
use Rattle.std.proofs.Common.{◌≡◌, ◌⊎◌, inl, inr, ℕ, ◌+◌, ◌<◌, ◌≤◌, ◌||◌, Bool, true, false, List, [], ◌∷◌, ◌++◌, refl, sym, ◌∙◌, ap, subst, arith, true≢false}
use Rattle.std.specs.Prelude.{◌↔◌}
use Rattle.std.proofs.lemmas.Bool.{cases_eq, or_cases, or_left, or_right}
use Rattle.psg_class.specs.Grids.{AreSetCells, HasSetBelow, is_at, is_set, once}
use Rattle.psg_class.specs.declared.grid.Cell.{Cell}
use Rattle.psg_class.specs.declared.grid.Grid.{Grid}
use Rattle.psg_class.proofs.Tables.{once_front}
use Rattle.psg_class.proofs.TwiceLaws.{at_is, at_self}

pub none_below : (g : Grid) (row : ℕ) (cells : List Cell) → HasSetBelow g row 0 cells cells
none_below g row cells = record { exact = λ r c. (λ e. inl e, λ x. elim x [ inl e ↦ e | inr (same, lt, e) ↦ absurd (omega (arith, lt)) ]) }

-- the cell of the next column is set, and added
one_cell : (g : Grid) (row n : ℕ) (old cells cells' : List Cell) (x : Cell) → is_set g row n ≡ true → x.row ≡ row → x.column ≡ n
    → cells' ≡ cells ++ x ∷ [] → HasSetBelow g row n old cells
    → (r c : ℕ) → (once r c cells' ≡ true) ↔ ((once r c old ≡ true) ⊎ ((r ≡ row) × (c < n + 1) × (is_set g r c ≡ true)))
one_cell g row n old cells cells' x set e f is below r c =
    (λ h. there (or_cases (once r c cells) (is_at r c x) (sym whole ∙ h)), λ y. whole ∙ back y) where
      whole : once r c cells' ≡ once r c cells || is_at r c x
      whole = ap (once r c) is ∙ once_front r c cells x

      there : (once r c cells ≡ true) ⊎ (is_at r c x ≡ true) → (once r c old ≡ true) ⊎ ((r ≡ row) × (c < n + 1) × (is_set g r c ≡ true))
      there (inl a) = elim ((below.exact r c).0 a) [ inl b ↦ inl b | inr (same, lt, s) ↦ inr (same, omega (arith, lt), s) ]
      there (inr a) =
          let (p, q) = at_is r c x a in
          let same : r ≡ row = sym p ∙ e in
          let other : c ≡ n = sym q ∙ f in
          inr (same, omega (arith, other), subst (λ z. is_set g z c ≡ true) (sym same) (subst (λ z. is_set g row z ≡ true) (sym other) set))

      back : (once r c old ≡ true) ⊎ ((r ≡ row) × (c < n + 1) × (is_set g r c ≡ true)) → once r c cells || is_at r c x ≡ true
      back (inl a) = or_left (once r c cells) (is_at r c x) ((below.exact r c).1 (inl a))
      back (inr (same, lt, s)) = elim (cases_eq c n) [
        | inl other ↦ or_right (once r c cells) (is_at r c x)
            (subst (λ z. is_at z c x ≡ true) (e ∙ sym same) (subst (λ z. is_at x.row z x ≡ true) (f ∙ sym other) (at_self x.row x.column)))
        | inr differ ↦ or_left (once r c cells) (is_at r c x) ((below.exact r c).1 (inr (same, omega (arith, lt, differ), s)))
      ]

-- the cell of the next column is not set
no_cell : (g : Grid) (row n : ℕ) (old cells : List Cell) → is_set g row n ≡ false → HasSetBelow g row n old cells
    → (r c : ℕ) → (once r c cells ≡ true) ↔ ((once r c old ≡ true) ⊎ ((r ≡ row) × (c < n + 1) × (is_set g r c ≡ true)))
no_cell g row n old cells unset below r c = (λ h. there ((below.exact r c).0 h), back) where
  there : (once r c old ≡ true) ⊎ ((r ≡ row) × (c < n) × (is_set g r c ≡ true)) → (once r c old ≡ true) ⊎ ((r ≡ row) × (c < n + 1) × (is_set g r c ≡ true))
  there (inl a) = inl a
  there (inr (same, lt, s)) = inr (same, omega (arith, lt), s)

  back : (once r c old ≡ true) ⊎ ((r ≡ row) × (c < n + 1) × (is_set g r c ≡ true)) → once r c cells ≡ true
  back (inl a) = (below.exact r c).1 (inl a)
  back (inr (same, lt, s)) = elim (cases_eq c n) [
    | inl other ↦ absurd (true≢false (sym s ∙ ap (λ z. is_set g z c) same ∙ ap (is_set g row) other ∙ unset))
    | inr differ ↦ (below.exact r c).1 (inr (same, omega (arith, lt, differ), s))
  ]

pub set_below : (g : Grid) (row n : ℕ) (old cells cells' : List Cell) (x : Cell) (b : Bool) → b ≡ is_set g row n → b ≡ true
    → x.row ≡ row → x.column ≡ n → cells' ≡ cells ++ x ∷ [] → HasSetBelow g row n old cells → HasSetBelow g row (n + 1) old cells'
set_below g row n old cells cells' x b told holds e f is below =
    record { exact = one_cell g row n old cells cells' x (sym told ∙ holds) e f is below }

pub unset_below : (g : Grid) (row n : ℕ) (old cells : List Cell) (b : Bool) → b ≡ is_set g row n → b ≡ false
    → HasSetBelow g row n old cells → HasSetBelow g row (n + 1) old cells
unset_below g row n old cells b told fails below = record { exact = no_cell g row n old cells (sym told ∙ fails) below }

-- the set cells of the rows below a bound
abbrev pub HasRows : Grid → ℕ → List Cell → Type 0
HasRows g n cells = (r c : ℕ) → (once r c cells ≡ true) ↔ ((r < n) × (c < g.width) × (is_set g r c ≡ true))

pub no_rows : (g : Grid) (cells : List Cell) → cells ≡ [] → HasRows g 0 cells
no_rows g cells is r c = (λ h. absurd (true≢false (sym (sym (ap (once r c) is) ∙ h))), λ x. absurd (omega (arith, x.0)))

pub row_more : (g : Grid) (n : ℕ) (cells cells' : List Cell) → HasSetBelow g n g.width cells cells' → HasRows g n cells → HasRows g (n + 1) cells'
row_more g n cells cells' below rows r c = (λ h. there ((below.exact r c).0 h), back) where
  there : (once r c cells ≡ true) ⊎ ((r ≡ n) × (c < g.width) × (is_set g r c ≡ true)) → (r < n + 1) × (c < g.width) × (is_set g r c ≡ true)
  there (inl a) = let (x, y, z) = (rows r c).0 a in (omega (arith, x), y, z)
  there (inr (same, lt, s)) = (omega (arith, same), lt, s)

  back : (r < n + 1) × (c < g.width) × (is_set g r c ≡ true) → once r c cells' ≡ true
  back (x, y, z) = elim (cases_eq r n) [
    | inl same ↦ (below.exact r c).1 (inr (same, y, z))
    | inr differ ↦ (below.exact r c).1 (inl ((rows r c).1 (omega (arith, x, differ), y, z)))
  ]

pub all_rows : (g : Grid) (n : ℕ) (cells : List Cell) → g.height ≤ n → n ≤ g.height → HasRows g n cells → AreSetCells g cells
all_rows g n cells lo hi rows r c =
    (λ h. let (x, y, z) = (rows r c).0 h in ((omega (arith, x, lo, hi), y), z), λ (cell, z). (rows r c).1 (omega (arith, cell.0, lo, hi), cell.1, z))
