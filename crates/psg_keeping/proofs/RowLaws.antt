-- Laws of the table, and of a walk along it.
use Rattle.std.proofs.Common.{◌≡◌, ◌≢◌, inl, inr, ℕ, ◌+◌, ◌-◌, ◌<◌, ◌≤◌, ◌⊎◌, List, [], ◌∷◌, ◌++◌, length, drop, get_or, refl, sym, ap, ◌∙◌, subst, append_assoc, arith, length-append}
use Rattle.std.specs.Prelude.{replicate}
use Rattle.std.proofs.lemmas.Bool.{cases_lt}
use Rattle.std.proofs.lemmas.List.{drop_all, drop_more, get_or_append_left, get_or_push, length-drop}
use Rattle.psg_lexis.specs.declared.token.Token.{Token}
use Rattle.psg_keeping.specs.declared.pairing.Step.{Step}
use Rattle.psg_keeping.specs.declared.pairing.Step.TheVariants as steps
use Rattle.psg_keeping.specs.Pairing.{ArePairs, both, old_alone, new_alone, pairs, IsMost}
use Rattle.psg_keeping.specs.Rows.{AreRows, IsBest, IsNext, IsRow, end_of, new_in, old_in}
use Rattle.psg_keeping.proofs.PairLaws.{all_alone, best_both, best_left, best_new, best_old, best_right, most_of, one_best, pairs-append}

-- ---- ends of lists

pub end_none : {X : Type 0} (xs : List X) → end_of 0 xs ≡ []
end_none xs = drop_all (length xs - 0) xs (omega arith)

pub end_all : {X : Type 0} (xs : List X) → end_of (length xs) xs ≡ xs
end_all xs = let none : length xs - length xs ≡ 0 = omega arith in ap (λ n. drop n xs) none

pub end_more : {X : Type 0} (xs : List X) (n : ℕ) (d : X) → n < length xs
    → end_of (n + 1) xs ≡ get_or xs (length xs - 1 - n) d ∷ end_of n xs
end_more xs n d l =
    let at : length xs - (n + 1) ≡ length xs - 1 - n = omega arith in
    let next : length xs - 1 - n + 1 ≡ length xs - n = omega (arith, l) in
    ap (λ k. drop k xs) at ∙ drop_more xs (length xs - 1 - n) d (omega (arith, l))
    ∙ ap (λ k. get_or xs (length xs - 1 - n) d ∷ drop k xs) next

pub end_here : {X : Type 0} (xs : List X) (n : ℕ) (d : X) → 0 < n → n ≤ length xs
    → end_of n xs ≡ get_or xs (length xs - n) d ∷ end_of (n - 1) xs
end_here xs n d p l =
    let next : length xs - n + 1 ≡ length xs - (n - 1) = omega (arith, p, l) in
    drop_more xs (length xs - n) d (omega (arith, p, l))
    ∙ ap (λ k. get_or xs (length xs - n) d ∷ drop k xs) next

pub length-end : {X : Type 0} (xs : List X) (n : ℕ) → n ≤ length xs → length (end_of n xs) ≡ n
length-end xs n l = omega (arith, l, length-drop (length xs - n) xs)

-- ---- a row

pub cell_best : (t u : Token) (xs ys : List Token) (b m n : ℕ) → t ≡ u → IsBest xs ys b → IsBest (t ∷ xs) (u ∷ ys) (b + 1)
cell_best t u xs ys b m n e h = subst (λ z. IsBest (t ∷ xs) (z ∷ ys) (b + 1)) e (best_both t xs ys b h)

-- the cells of a row up to a place
pub record IsFrontRow (old new : List Token) (row : List ℕ) (n : ℕ) : Type 0 where
  pub size : length row ≡ n + 1
  pub best : (count : ℕ) → count ≤ n → IsBest old (end_of count new) (get_or row count 0)

pub row_none : (old new : List Token) → IsFrontRow old new (0 ∷ []) 0
row_none old new = record {
  size = refl;
  best = λ count l.
      let zero_count : 0 ≡ count = omega (arith, l) in
      subst (λ k. IsBest old (end_of k new) (get_or (0 ∷ []) k 0)) zero_count
      (subst (λ ys. IsBest old ys 0) (sym (end_none new)) (best_right old));
}

pub row_push : (old new : List Token) (row : List ℕ) (n v : ℕ) → IsFrontRow old new row n → IsBest old (end_of (n + 1) new) v
    → IsFrontRow old new (row ++ v ∷ []) (n + 1)
row_push old new row n v r b = record {
  size = omega (arith, r.size, length-append row (v ∷ []));
  best = λ count l. elim (cases_lt count (n + 1)) [
    | inl small ↦ subst (λ k. IsBest old (end_of count new) k)
        (sym (get_or_append_left row (v ∷ []) 0 count (omega (arith, small, r.size)))) (r.best count (omega (arith, small)))
    | inr large ↦
        let same : n + 1 ≡ count = omega (arith, l, large) in
        subst (λ k. IsBest old (end_of k new) (get_or (row ++ v ∷ []) k 0)) same
        (subst (λ k. IsBest old (end_of (n + 1) new) k) (sym (get_or_push row v 0 (n + 1) r.size)) b)
  ];
}

pub row_whole : (old new : List Token) (row : List ℕ) (n : ℕ) → n ≡ length new → IsFrontRow old new row n → IsRow old new row
row_whole old new row n e r = record {
  size = r.size ∙ ap (λ k. k + 1) e;
  best = λ count l. r.best count (omega (arith, l, e));
}

-- ---- the rows

pub rows_none : (old new : List Token) (row : List ℕ) → IsRow [] new row → AreRows old new 0 (row ∷ [])
rows_none old new row r = record {
  size = refl;
  row = λ count l.
      let zero_count : 0 ≡ count = omega (arith, l) in
      subst (λ k. IsRow (end_of k old) new (get_or (row ∷ []) k [])) zero_count
      (subst (λ xs. IsRow xs new row) (sym (end_none old)) r);
}

pub rows_push : (old new : List Token) (rows : List (List ℕ)) (n : ℕ) (row : List ℕ) → AreRows old new n rows
    → IsRow (end_of (n + 1) old) new row → AreRows old new (n + 1) (rows ++ row ∷ [])
rows_push old new rows n row r b = record {
  size = omega (arith, r.size, length-append rows (row ∷ []));
  row = λ count l. elim (cases_lt count (n + 1)) [
    | inl small ↦ subst (λ z. IsRow (end_of count old) new z)
        (sym (get_or_append_left rows (row ∷ []) [] count (omega (arith, small, r.size)))) (r.row count (omega (arith, small)))
    | inr large ↦
        let same : n + 1 ≡ count = omega (arith, l, large) in
        subst (λ k. IsRow (end_of k old) new (get_or (rows ++ row ∷ []) k [])) same
        (subst (λ z. IsRow (end_of (n + 1) old) new z) (sym (get_or_push rows row [] (n + 1) r.size)) b)
  ];
}

-- ---- the walk

pub next_both : (t u : Token) (xs ys : List Token) → t ≡ u → IsNext t u xs ys steps.Both
next_both t u xs ys e = (e, λ n b. subst (λ z. IsBest (t ∷ xs) (z ∷ ys) (n + 1)) e (best_both t xs ys n b))

pub next_old : (t u : Token) (xs ys : List Token) (m n : ℕ) → t ≢ u → IsBest xs (u ∷ ys) m → IsBest (t ∷ xs) ys n → n ≤ m
    → IsNext t u xs ys steps.Old
next_old t u xs ys m n other a b l k c =
    best_old t u xs ys k n other c b (omega (arith, l, one_best xs (u ∷ ys) m k a c))

pub next_new : (t u : Token) (xs ys : List Token) (m n : ℕ) → t ≢ u → IsBest xs (u ∷ ys) m → IsBest (t ∷ xs) ys n → m ≤ n
    → IsNext t u xs ys steps.New
next_new t u xs ys m n other a b l k c =
    best_new t u xs ys m k other a c (omega (arith, l, one_best (t ∷ xs) ys n k b c))

-- what completes the rest completes the whole
pub record GoesOn (old new xs ys : List Token) (done : List Step) : Type 0 where
  pub goes : (s : List Step) → ArePairs xs ys s → ArePairs old new (done ++ s)
  pub best : (n : ℕ) → IsBest xs ys n → IsBest old new (n + pairs done)

pub at_start : (old new xs ys : List Token) → xs ≡ old → ys ≡ new → GoesOn old new xs ys []
at_start old new xs ys e f = record {
  goes = λ s h. subst (λ zs. ArePairs old zs s) f (subst (λ zs. ArePairs zs ys s) e h);
  best = λ n b. let same : n ≡ n + 0 = omega arith in
      subst (λ k. IsBest old new k) same (subst (λ zs. IsBest old zs n) f (subst (λ zs. IsBest zs ys n) e b));
}

one_step : (old new xs ys : List Token) (done : List Step) (t u : Token) (step : Step) (xs' ys' : List Token) (k : ℕ)
    → GoesOn old new (t ∷ xs) (u ∷ ys) done → pairs (step ∷ []) ≡ k
    → ((s : List Step) → ArePairs xs' ys' s → ArePairs (t ∷ xs) (u ∷ ys) (step ∷ s))
    → ((n : ℕ) → IsBest xs' ys' n → IsBest (t ∷ xs) (u ∷ ys) (n + k)) → GoesOn old new xs' ys' (done ++ step ∷ [])
one_step old new xs ys done t u step xs' ys' k g one goes best = record {
  goes = λ s h. subst (λ z. ArePairs old new z) (sym (append_assoc done (step ∷ []) s)) (g.goes (step ∷ s) (goes s h));
  best = λ n b.
      let same : n + k + pairs done ≡ n + pairs (done ++ step ∷ []) = omega (arith, one, pairs-append done (step ∷ [])) in
      subst (λ z. IsBest old new z) same (g.best (n + k) (best n b));
}

step_on : (old new xs ys : List Token) (done : List Step) (t u : Token) (step : Step) (xs' ys' : List Token)
    → GoesOn old new (t ∷ xs) (u ∷ ys) done → IsNext t u xs ys step
    → (step ≡ steps.Both → (xs' ≡ xs) × (ys' ≡ ys)) → (step ≡ steps.Old → (xs' ≡ xs) × (ys' ≡ u ∷ ys))
    → (step ≡ steps.New → (xs' ≡ t ∷ xs) × (ys' ≡ ys)) → GoesOn old new xs' ys' (done ++ step ∷ [])
step_on old new xs ys done t u steps.Both xs' ys' g next b o n =
    one_step old new xs ys done t u steps.Both xs' ys' 1 g refl
    (λ s h. subst (λ z. ArePairs (t ∷ xs) (z ∷ ys) (steps.Both ∷ s)) next.0
    (both t xs ys s (subst (λ zs. ArePairs xs zs s) (b refl).1 (subst (λ zs. ArePairs zs ys' s) (b refl).0 h))))
    (λ k h. next.1 k (subst (λ zs. IsBest xs zs k) (b refl).1 (subst (λ zs. IsBest zs ys' k) (b refl).0 h)))
step_on old new xs ys done t u steps.Old xs' ys' g next b o n =
    one_step old new xs ys done t u steps.Old xs' ys' 0 g refl
    (λ s h. old_alone t xs (u ∷ ys) s (subst (λ zs. ArePairs xs zs s) (o refl).1 (subst (λ zs. ArePairs zs ys' s) (o refl).0 h)))
    (λ k h. let same : k ≡ k + 0 = omega arith in subst (λ z. IsBest (t ∷ xs) (u ∷ ys) z) same
    (next k (subst (λ zs. IsBest xs zs k) (o refl).1 (subst (λ zs. IsBest zs ys' k) (o refl).0 h))))
step_on old new xs ys done t u steps.New xs' ys' g next b o n =
    one_step old new xs ys done t u steps.New xs' ys' 0 g refl
    (λ s h. new_alone u (t ∷ xs) ys s (subst (λ zs. ArePairs (t ∷ xs) zs s) (n refl).1 (subst (λ zs. ArePairs zs ys' s) (n refl).0 h)))
    (λ k h. let same : k ≡ k + 0 = omega arith in subst (λ z. IsBest (t ∷ xs) (u ∷ ys) z) same
    (next k (subst (λ zs. IsBest (t ∷ xs) zs k) (n refl).1 (subst (λ zs. IsBest zs ys' k) (n refl).0 h))))

pub walk_on : (old new : List Token) (done : List Step) (own theirs own' theirs' : ℕ) (t u : Token) (step : Step)
    → 0 < own → own ≤ length old → 0 < theirs → theirs ≤ length new
    → t ≡ get_or old (length old - own) t → u ≡ get_or new (length new - theirs) u
    → GoesOn old new (end_of own old) (end_of theirs new) done
    → IsNext t u (end_of (own - 1) old) (end_of (theirs - 1) new) step
    → own' ≡ own - old_in step → theirs' ≡ theirs - new_in step
    → GoesOn old new (end_of own' old) (end_of theirs' new) (done ++ step ∷ [])
walk_on old new done own theirs own' theirs' t u step po lo pn ln et eu g next eo en =
    step_on old new (end_of (own - 1) old) (end_of (theirs - 1) new) done t u step (end_of own' old) (end_of theirs' new)
    (subst (λ zs. GoesOn old new (t ∷ end_of (own - 1) old) zs done) news_are
    (subst (λ zs. GoesOn old new zs (end_of theirs new) done) olds_are g)) next
    (λ e. (less_old 1 (eo ∙ ap (λ s. own - old_in s) e), less_new 1 (en ∙ ap (λ s. theirs - new_in s) e)))
    (λ e. (less_old 1 (eo ∙ ap (λ s. own - old_in s) e), same_new (en ∙ ap (λ s. theirs - new_in s) e)))
    (λ e. (same_old (eo ∙ ap (λ s. own - old_in s) e), less_new 1 (en ∙ ap (λ s. theirs - new_in s) e)))
  where
    olds_are : end_of own old ≡ t ∷ end_of (own - 1) old
    olds_are = end_here old own t po lo ∙ ap (λ z. z ∷ end_of (own - 1) old) (sym et)

    news_are : end_of theirs new ≡ u ∷ end_of (theirs - 1) new
    news_are = end_here new theirs u pn ln ∙ ap (λ z. z ∷ end_of (theirs - 1) new) (sym eu)

    less_old : (k : ℕ) → own' ≡ own - k → end_of own' old ≡ end_of (own - k) old
    less_old k e = ap (λ n. end_of n old) e

    less_new : (k : ℕ) → theirs' ≡ theirs - k → end_of theirs' new ≡ end_of (theirs - k) new
    less_new k e = ap (λ n. end_of n new) e

    same_old : own' ≡ own - 0 → end_of own' old ≡ t ∷ end_of (own - 1) old
    same_old e = let same : own' ≡ own = omega (arith, e) in ap (λ n. end_of n old) same ∙ olds_are

    same_new : theirs' ≡ theirs - 0 → end_of theirs' new ≡ u ∷ end_of (theirs - 1) new
    same_new e = let same : theirs' ≡ theirs = omega (arith, e) in ap (λ n. end_of n new) same ∙ news_are

-- the steps at the end of the walk, where one of the lists is at its end
module _ (old new : List Token) (done : List Step) (own theirs : ℕ) (lo : own ≤ length old) (ln : theirs ≤ length new)
    (g : GoesOn old new (end_of own old) (end_of theirs new) done) where
  abbrev alone : List Step
  alone = replicate own steps.Old ++ replicate theirs steps.New

  abbrev pub walked : List Step
  walked = done ++ replicate own steps.Old ++ replicate theirs steps.New

  pub walked_pairs : ArePairs old new walked
  walked_pairs =
      subst (λ z. ArePairs old new z) (sym (append_assoc done (replicate own steps.Old) (replicate theirs steps.New)))
      (g.goes alone (subst (λ n. ArePairs (end_of own old) (end_of theirs new) (replicate own steps.Old ++ replicate n steps.New))
      (length-end new theirs ln)
      (subst (λ n. ArePairs (end_of own old) (end_of theirs new) (replicate n steps.Old ++ replicate (length (end_of theirs new)) steps.New))
      (length-end old own lo) (all_alone (end_of own old) (end_of theirs new)))))

  pub walked_most : (own ≡ 0) ⊎ (theirs ≡ 0) → IsMost old new walked
  walked_most over =
      most_of old new walked (0 + pairs done) (g.best 0 (none over))
      (omega (arith, pairs-append (done ++ replicate own steps.Old) (replicate theirs steps.New), pairs-append done (replicate own steps.Old)))
    where
      none : (own ≡ 0) ⊎ (theirs ≡ 0) → IsBest (end_of own old) (end_of theirs new) 0
      none (inl e) =
          subst (λ zs. IsBest zs (end_of theirs new) 0) (sym (ap (λ n. end_of n old) e ∙ end_none old)) (best_left (end_of theirs new))
      none (inr e) =
          subst (λ zs. IsBest (end_of own old) zs 0) (sym (ap (λ n. end_of n new) e ∙ end_none new)) (best_right (end_of own old))
