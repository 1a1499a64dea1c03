-- Where a cursor goes on below a path, and what becomes of it.
use Rattle.std.proofs.Common.{◌≡◌, ◌≢◌, ◌⊎◌, inl, inr, ℕ, ◌+◌, ◌-◌, ◌<◌, ◌≤◌, ◌==◌, nat_le, nat_lt, Bool, true, false, cond, List, [], ◌∷◌, ◌++◌, length, IfOk, Result, refl, ap, sym, ◌∙◌, subst, arith, ltb-true, ltb-false, append-nil, length-append}
use Rattle.std.proofs.lemmas.Bool.Decides.{eqb_tells, leb_tells}
use Rattle.std.specs.List.{AllByRecursion}
use Rattle.psg_grammar.specs.Paths.{Path}
use Rattle.psg_grammar.specs.Ways.{ArePathsApart}
use Rattle.psg_windows.specs.Moving.{below, raised, lowered, lifted}

pub ltb_tells : (a b : ℕ) → ((nat_lt a b ≡ true) × (a < b)) ⊎ ((nat_lt a b ≡ false) × (b ≤ a))
ltb_tells a b = by (nat_lt a b) refl where
  by : (t : Bool) → nat_lt a b ≡ t → ((nat_lt a b ≡ true) × (a < b)) ⊎ ((nat_lt a b ≡ false) × (b ≤ a))
  by true e = inl (e, ltb-true a b e)
  by false e = inr (e, ltb-false a b e)

-- ---- where a path is, seen from another one

pub data Place (at c : Path) : Type 0 where
  above : (q : Path) → at ≡ c ++ q → Place at c
  under : (k : ℕ) (rest : Path) → c ≡ at ++ k ∷ rest → Place at c
  apart : ArePathsApart at c → Place at c

pub place : (at c : Path) → Place at c
place at [] = above at refl
place [] (k ∷ rest) = under k rest refl
place (q ∷ at) (k ∷ rest) =
    elim (eqb_tells q k) [ inl e ↦ go (place at rest) e.1 | inr e ↦ apart (inl e.1) ]
  where
    go : Place at rest → q ≡ k → Place (q ∷ at) (k ∷ rest)
    go (above p e) h = above p (ap (λ n. n ∷ at) h ∙ ap (λ z. k ∷ z) e)
    go (under j more e) h = under j more (ap (λ n. n ∷ rest) (sym h) ∙ ap (λ z. q ∷ z) e)
    go (apart a) h = apart (inr (h, a))

same_step : (k : ℕ) (x y : Path) → cond (k == k) x y ≡ x
same_step k x y = elim (eqb_tells k k) [ inl e ↦ ap (λ b. cond b x y) e.0 | inr e ↦ absurd (e.1 refl) ]

other_step : (q k : ℕ) (x y : Path) → q ≢ k → cond (q == k) x y ≡ y
other_step q k x y ne = elim (eqb_tells q k) [ inl e ↦ absurd (ne e.1) | inr e ↦ ap (λ b. cond b x y) e.0 ]

module _ (change : ℕ → List ℕ → Path) where
  pub stays_above : (c q : Path) → below change (c ++ q) c ≡ c
  stays_above [] [] = refl
  stays_above [] (k ∷ q) = refl
  stays_above (k ∷ c) q =
      same_step k (k ∷ below change (c ++ q) c) (k ∷ c) ∙ ap (λ z. k ∷ z) (stays_above c q)

  pub goes_under : (at : Path) (k : ℕ) (rest : Path) → below change at (at ++ k ∷ rest) ≡ at ++ change k rest
  goes_under [] k rest = refl
  goes_under (q ∷ at) k rest =
      same_step q (q ∷ below change at (at ++ k ∷ rest)) (q ∷ (at ++ k ∷ rest)) ∙ ap (λ z. q ∷ z) (goes_under at k rest)

  pub stays_apart : (at c : Path) → ArePathsApart at c → below change at c ≡ c
  stays_apart [] c h = absurd h
  stays_apart (q ∷ at) [] h = absurd h
  stays_apart (q ∷ at) (k ∷ c) (inl ne) = other_step q k (k ∷ below change at c) (k ∷ c) ne
  stays_apart (q ∷ at) (k ∷ c) (inr (e, h)) =
      subst (λ n. cond (q == n) (n ∷ below change at c) (n ∷ c) ≡ n ∷ c) e
      (same_step q (q ∷ below change at c) (q ∷ c) ∙ ap (λ z. q ∷ z) (stays_apart at c h))

-- the cursor goes on below the path
pub under_path : (change : ℕ → List ℕ → Path) (at : Path) (k : ℕ) (rest c : Path) → c ≡ at ++ k ∷ rest
    → below change at c ≡ at ++ change k rest
under_path change at k rest c e = ap (below change at) e ∙ goes_under change at k rest

-- the cursor does not
pub not_under : (change : ℕ → List ℕ → Path) (at c : Path) → ((k : ℕ) (rest : Path) → c ≡ at ++ k ∷ rest → ⊥)
    → below change at c ≡ c
not_under change at c none = by (place at c) where
  by : Place at c → below change at c ≡ c
  by (above q h) = ap (λ p. below change p c) h ∙ stays_above change c q
  by (under k rest h) = absurd (none k rest h)
  by (apart h) = stays_apart change at c h

-- ---- an element was put before the place

pub raised_up : (at : Path) (place k : ℕ) (rest c : Path) → c ≡ at ++ k ∷ rest → place ≤ k
    → raised at place c ≡ at ++ (k + 1) ∷ rest
raised_up at place k rest c e le = under_path _ at k rest c e ∙ by (leb_tells place k) where
  by : ((nat_le place k ≡ true) × (place ≤ k)) ⊎ ((nat_le place k ≡ false) × (k < place))
      → at ++ (cond (nat_le place k) (k + 1) k ∷ rest) ≡ at ++ (k + 1) ∷ rest
  by (inl h) = ap (λ b. at ++ (cond b (k + 1) k ∷ rest)) h.0
  by (inr h) = absurd (omega (arith, h.1, le))

pub raised_not : (at : Path) (place k : ℕ) (rest c : Path) → c ≡ at ++ k ∷ rest → k < place → raised at place c ≡ c
raised_not at place k rest c e lt = under_path _ at k rest c e ∙ by (leb_tells place k) where
  by : ((nat_le place k ≡ true) × (place ≤ k)) ⊎ ((nat_le place k ≡ false) × (k < place))
      → at ++ (cond (nat_le place k) (k + 1) k ∷ rest) ≡ c
  by (inl h) = absurd (omega (arith, h.1, lt))
  by (inr h) = ap (λ b. at ++ (cond b (k + 1) k ∷ rest)) h.0 ∙ sym e

-- ---- the element at the place went

pub lowered_here : (at : Path) (place k : ℕ) (rest c : Path) → c ≡ at ++ k ∷ rest → k ≡ place
    → lowered at place c ≡ at
lowered_here at place k rest c e same = under_path _ at k rest c e ∙ by (eqb_tells k place) where
  by : ((k == place ≡ true) × (k ≡ place)) ⊎ ((k == place ≡ false) × (k ≢ place))
      → at ++ cond (k == place) [] (cond (nat_lt place k) (k - 1) k ∷ rest) ≡ at
  by (inl h) = ap (λ b. at ++ cond b [] (cond (nat_lt place k) (k - 1) k ∷ rest)) h.0 ∙ append-nil at
  by (inr h) = absurd (h.1 same)

pub lowered_down : (at : Path) (place k : ℕ) (rest c : Path) → c ≡ at ++ k ∷ rest → place < k
    → lowered at place c ≡ at ++ (k - 1) ∷ rest
lowered_down at place k rest c e lt = under_path _ at k rest c e ∙ by (eqb_tells k place) (ltb_tells place k) where
  by : ((k == place ≡ true) × (k ≡ place)) ⊎ ((k == place ≡ false) × (k ≢ place))
      → ((nat_lt place k ≡ true) × (place < k)) ⊎ ((nat_lt place k ≡ false) × (k ≤ place))
      → at ++ cond (k == place) [] (cond (nat_lt place k) (k - 1) k ∷ rest) ≡ at ++ (k - 1) ∷ rest
  by (inl h) more = absurd (omega (arith, h.1, lt))
  by (inr h) (inl g) =
      ap (λ b. at ++ cond b [] (cond (nat_lt place k) (k - 1) k ∷ rest)) h.0
      ∙ ap (λ b. at ++ (cond b (k - 1) k ∷ rest)) g.0
  by (inr h) (inr g) = absurd (omega (arith, g.1, lt))

pub lowered_not : (at : Path) (place k : ℕ) (rest c : Path) → c ≡ at ++ k ∷ rest → k < place → lowered at place c ≡ c
lowered_not at place k rest c e lt = under_path _ at k rest c e ∙ by (eqb_tells k place) (ltb_tells place k) where
  by : ((k == place ≡ true) × (k ≡ place)) ⊎ ((k == place ≡ false) × (k ≢ place))
      → ((nat_lt place k ≡ true) × (place < k)) ⊎ ((nat_lt place k ≡ false) × (k ≤ place))
      → at ++ cond (k == place) [] (cond (nat_lt place k) (k - 1) k ∷ rest) ≡ c
  by (inl h) more = absurd (omega (arith, h.1, lt))
  by (inr h) (inl g) = absurd (omega (arith, g.1, lt))
  by (inr h) (inr g) =
      ap (λ b. at ++ cond b [] (cond (nat_lt place k) (k - 1) k ∷ rest)) h.0
      ∙ ap (λ b. at ++ (cond b (k - 1) k ∷ rest)) g.0 ∙ sym e

-- ---- the node was replaced

pub lifted_here : (at : Path) (k : ℕ) (rest c : Path) → c ≡ at ++ k ∷ rest → lifted at c ≡ at
lifted_here at k rest c e = under_path _ at k rest c e ∙ append-nil at

-- ---- for the calls

-- a call's answer, said otherwise
pub ok_by : {E : Type 0} (r : Result Path E) (a b : Path) → IfOk r (λ p. p ≡ a) → a ≡ b → IfOk r (λ p. p ≡ b)
ok_by r a b h e = subst (λ x. IfOk r (λ p. p ≡ x)) e h

pub step_in : (P : ℕ → Type 0) (at : Path) (k : ℕ) (rest c : Path) → c ≡ at ++ k ∷ rest → AllByRecursion P c → P k
step_in P at k rest c e h = inside at (subst (AllByRecursion P) e h) where
  inside : (at : Path) → AllByRecursion P (at ++ k ∷ rest) → P k
  inside [] h = h.0
  inside (q ∷ at) h = inside at h.1

-- Where nothing is left after the path, the cursor has no step there.
pub none_more : (at rest c : Path) → c ≡ at ++ rest → length rest ≡ 0 → (k : ℕ) (more : Path) → c ≡ at ++ k ∷ more → ⊥
none_more at rest c e none k more f =
    let long : length c ≡ length at + length rest = ap length e ∙ length-append at rest in
    let longer : length c ≡ length at + length (k ∷ more) = ap length f ∙ length-append at (k ∷ more) in
    omega arith
