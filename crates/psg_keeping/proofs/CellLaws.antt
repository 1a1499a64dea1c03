-- Laws of one cell, for the calls that fill the table.
use Rattle.std.proofs.Common.{◌≡◌, ℕ, ◌+◌, ◌-◌, ◌<◌, ◌≤◌, List, [], ◌∷◌, length, get_or, sym, ap, ◌∙◌, subst, ◌++◌, arith}
use Rattle.std.proofs.lemmas.List.{get_or_default}
use Rattle.psg_lexis.specs.declared.token.Token.{Token}
use Rattle.psg_keeping.specs.declared.pairing.Step.{Step}
use Rattle.psg_keeping.specs.Rows.{AreRows, IsBest, IsNext, IsRow, end_of, value_at}
use Rattle.psg_keeping.proofs.PairLaws.{best_both, best_within}
use Rattle.psg_keeping.proofs.RowLaws.{IsFrontRow, end_here, end_more, length-end, row_push, rows_push}

pub best_same : (t u : Token) (xs ys : List Token) (n : ℕ) → t ≡ u → IsBest xs ys n → IsBest (t ∷ xs) (u ∷ ys) (n + 1)
best_same t u xs ys n e b = subst (λ z. IsBest (t ∷ xs) (z ∷ ys) (n + 1)) e (best_both t xs ys n b)

-- a cell is no more than its place
pub cell_small : (old new : List Token) (row : List ℕ) (n : ℕ) → IsRow old new row → n < length new
    → get_or row n 0 + 1 ≤ length new
cell_small old new row n r l =
    omega (
      arith,
      l,
      best_within old (end_of n new) (get_or row n 0) (r.best n (omega (arith, l))),
      length-end new n (omega (arith, l)),
    )

-- the next cell of a row
pub cell_next : (t u : Token) (old new : List Token) (row next done : List ℕ) (n v : ℕ) → IsRow old new row
    → IsFrontRow (t ∷ old) new next n → done ≡ next → n < length new → u ≡ get_or new (length new - 1 - n) u
    → ((xs ys : List Token) → IsBest xs ys (get_or row n 0) → IsBest xs (u ∷ ys) (get_or row (n + 1) 0)
    → IsBest (t ∷ xs) ys (get_or done n 0) → IsBest (t ∷ xs) (u ∷ ys) v)
    → IsFrontRow (t ∷ old) new (next ++ v ∷ []) (n + 1)
cell_next t u old new row next done n v r f d l e cell =
    let more : end_of (n + 1) new ≡ u ∷ end_of n new = end_more new n u l ∙ ap (λ z. z ∷ end_of n new) (sym e) in
    row_push (t ∷ old) new next n v f
    (subst (λ ys. IsBest (t ∷ old) ys v) (sym more)
    (cell old (end_of n new) (r.best n (omega (arith, l)))
    (subst (λ ys. IsBest old ys (get_or row (n + 1) 0)) more (r.best (n + 1) (omega (arith, l))))
    (subst (λ z. IsBest (t ∷ old) (end_of n new) (get_or z n 0)) (sym d) (f.best n (omega arith)))))

-- the next row
pub row_at : (old new : List Token) (rows : List (List ℕ)) (n : ℕ) (below z : List ℕ) → AreRows old new n rows → below ≡ z
    → z ≡ get_or rows n z → IsRow (end_of n old) new below
row_at old new rows n below z r b e =
    subst (λ l. IsRow (end_of n old) new l)
    (sym (b ∙ e ∙ get_or_default rows n z [] (omega (arith, r.size)))) (r.row n (omega arith))

pub rows_next : (old new : List Token) (rows : List (List ℕ)) (n : ℕ) (below z row : List ℕ) (t : Token) → AreRows old new n rows
    → below ≡ z → z ≡ get_or rows n z → n < length old → t ≡ get_or old (length old - 1 - n) t
    → ((o : List Token) → IsRow o new below → IsRow (t ∷ o) new row) → AreRows old new (n + 1) (rows ++ row ∷ [])
rows_next old new rows n below z row t r b e l et next =
    let more : end_of (n + 1) old ≡ t ∷ end_of n old = end_more old n t l ∙ ap (λ z. z ∷ end_of n old) (sym et) in
    rows_push old new rows n row r
    (subst (λ o. IsRow o new row) (sym more) (next (end_of n old) (row_at old new rows n below z r b e)))

-- the next step of the walk
cell_at : (old new : List Token) (rows : List (List ℕ)) (i j v : ℕ) → AreRows old new (length old) rows → i ≤ length old
    → j ≤ length new → v ≡ value_at rows i j → IsBest (end_of i old) (end_of j new) v
cell_at old new rows i j v r li lj e =
    subst (λ n. IsBest (end_of i old) (end_of j new) n) (sym e) ((r.row i li).best j lj)

pub step_next : (old new : List Token) (rows : List (List ℕ)) (own theirs v w : ℕ) (t u : Token) (step : Step)
    → AreRows old new (length old) rows → 0 < own → own ≤ length old → 0 < theirs → theirs ≤ length new
    → t ≡ get_or old (length old - own) t → u ≡ get_or new (length new - theirs) u
    → v ≡ value_at rows (own - 1) theirs → w ≡ value_at rows own (theirs - 1)
    → ((xs ys : List Token) → IsBest xs (u ∷ ys) v → IsBest (t ∷ xs) ys w → IsNext t u xs ys step)
    → IsNext t u (end_of (own - 1) old) (end_of (theirs - 1) new) step
step_next old new rows own theirs v w t u step r po lo pn ln et eu ev ew next =
    let olds : end_of own old ≡ t ∷ end_of (own - 1) old =
    end_here old own t po lo ∙ ap (λ z. z ∷ end_of (own - 1) old) (sym et) in
    let news : end_of theirs new ≡ u ∷ end_of (theirs - 1) new =
    end_here new theirs u pn ln ∙ ap (λ z. z ∷ end_of (theirs - 1) new) (sym eu) in
    next (end_of (own - 1) old) (end_of (theirs - 1) new)
    (subst (λ ys. IsBest (end_of (own - 1) old) ys v) news
    (cell_at old new rows (own - 1) theirs v r (omega (arith, lo)) ln ev))
    (subst (λ xs. IsBest xs (end_of (theirs - 1) new) w) olds
    (cell_at old new rows own (theirs - 1) w r lo (omega (arith, ln)) ew))
