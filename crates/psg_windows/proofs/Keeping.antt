-- Another window's cursor leads to a node after a change, if it did before.
use Rattle.std.proofs.Common.{◌≡◌, ◌≢◌, inl, inr, ℕ, zero, suc, ◌+◌, ◌-◌, ◌<◌, ◌≤◌, ◌==◌, nat_le, nat_lt, Bool, cond, List, [], ◌∷◌, ◌++◌, length, slice_get, option_and_then, Some, refl, ap, sym, ◌∙◌, subst, arith}
use Rattle.std.proofs.lemmas.Bool.Decides.{eqb_tells, leb_tells}
use Rattle.std.proofs.lemmas.Option.{same_Some}
use Rattle.psg_grammar.specs.Fragments.{Fragment, hole, ending, cell, operator, with_child, with_name, with_number, with_text, anything, observed, children_of}
use Rattle.psg_grammar.specs.Paths.{Path, node_at, change_at, replaced, inserted, removed, ended}
use Rattle.psg_grammar.proofs.PathLaws.{step, change-below, change-above, change-beside}
use Rattle.psg_windows.specs.Moving.{below, raised, lowered, lifted}
use Rattle.psg_windows.specs.Standing.{Leads, IsChain}
use Rattle.psg_windows.proofs.Walks.{Place, above, under, apart, place, stays_above, goes_under, stays_apart, ltb_tells}

reach : (at q : Path) (f old : Fragment) → node_at f at ≡ Some old → node_at f (at ++ q) ≡ node_at old q
reach [] q f old e = ap (λ t. node_at t q) (same_Some f old e)
reach (k ∷ at) q f old e =
    let c = step (slice_get (children_of f) k) at old e in
    ap (option_and_then (λ t. node_at t (at ++ q))) c.1 ∙ reach at q c.0 old c.2

-- Where the node at the path is changed, and the steps behind it with it, all other cursors lead to nodes still.
pub moved_there : (g : Fragment → Fragment) (change : ℕ → List ℕ → Path) (at c : Path) (f old : Fragment)
    → node_at f at ≡ Some old
    → ((k : ℕ) (rest : Path) → Leads old (k ∷ rest) → Leads (g old) (change k rest))
    → Leads f c → Leads (change_at g at f) (below change at c)
moved_there g change at c f old e good (t, l) = by (place at c)
  where
    by : Place at c → Leads (change_at g at f) (below change at c)
    by (above q h) =
        let there : Leads (change_at g (c ++ q) f) c = (change_at g q t, change-above g c q f t l) in
        subst (λ p. Leads (change_at g p f) (below change p c)) (sym h)
        (subst (Leads (change_at g (c ++ q) f)) (sym (stays_above change c q)) there)
    by (under k rest h) =
        let from : node_at f (at ++ k ∷ rest) ≡ Some t = ap (node_at f) (sym h) ∙ l in
        let n : Leads (g old) (change k rest) = good k rest (t, sym (reach at (k ∷ rest) f old e) ∙ from) in
        let there : Leads (change_at g at f) (at ++ change k rest) =
        (n.0, change-below g at (change k rest) f old e ∙ n.1) in
        subst (λ p. Leads (change_at g at f) (below change at p)) (sym h)
        (subst (Leads (change_at g at f)) (sym (goes_under change at k rest)) there)
    by (apart h) =
        subst (Leads (change_at g at f)) (sym (stays_apart change at c h)) (t, change-beside g at c f h ∙ l)

-- ---- a node is replaced

pub lifted_there : (new : Fragment) (at c : Path) (f old : Fragment) → node_at f at ≡ Some old → Leads f c
    → Leads (replaced at new f) (lifted at c)
lifted_there new at c f old e l =
    moved_there (λ x. new) (λ k rest. []) at c f old e (λ k rest h. (new, refl)) l

-- ---- elements of a list

put_behind : (new : Fragment) (k j : ℕ) (f : Fragment) → IsChain f → k ≤ j → k ≤ length (children_of f)
    → slice_get (children_of (inserted k new f)) (suc j) ≡ slice_get (children_of f) j
put_behind new zero j (ending l u) h le in_range = refl
put_behind new zero j (cell l e r) h le in_range = refl
put_behind new (suc k) j (ending l u) h le in_range = absurd (omega (arith, in_range))
put_behind new (suc k) zero (cell l e r) h le in_range = absurd (omega (arith, le))
put_behind new (suc k) (suc j) (cell l e r) h le in_range =
    put_behind new k j r h (omega (arith, le)) (omega (arith, in_range))
put_behind new k j (hole p) h le in_range = absurd h
put_behind new k j (operator o) h le in_range = absurd h
put_behind new k j (with_child f t) h le in_range = absurd h
put_behind new k j (with_name f n) h le in_range = absurd h
put_behind new k j (with_number f n) h le in_range = absurd h
put_behind new k j (with_text f n) h le in_range = absurd h
put_behind new k j anything h le in_range = absurd h
put_behind new k j (observed f) h le in_range = absurd h

put_before : (new : Fragment) (k j : ℕ) (f : Fragment) → IsChain f → j < k
    → slice_get (children_of (inserted k new f)) j ≡ slice_get (children_of f) j
put_before new zero j f h lt = absurd (omega (arith, lt))
put_before new (suc k) j (ending l u) h lt = refl
put_before new (suc k) zero (cell l e r) h lt = refl
put_before new (suc k) (suc j) (cell l e r) h lt = put_before new k j r h (omega (arith, lt))
put_before new (suc k) j (hole p) h lt = absurd h
put_before new (suc k) j (operator o) h lt = absurd h
put_before new (suc k) j (with_child f t) h lt = absurd h
put_before new (suc k) j (with_name f n) h lt = absurd h
put_before new (suc k) j (with_number f n) h lt = absurd h
put_before new (suc k) j (with_text f n) h lt = absurd h
put_before new (suc k) j anything h lt = absurd h
put_before new (suc k) j (observed f) h lt = absurd h

took_behind : (k j : ℕ) (f : Fragment) → IsChain f → k ≤ j
    → slice_get (children_of (removed k f)) j ≡ slice_get (children_of f) (suc j)
took_behind zero j (ending l u) h le = refl
took_behind (suc k) j (ending l u) h le = refl
took_behind zero j (cell l e r) h le = refl
took_behind (suc k) zero (cell l e r) h le = absurd (omega (arith, le))
took_behind (suc k) (suc j) (cell l e r) h le = took_behind k j r h (omega (arith, le))
took_behind k j (hole p) h le = absurd h
took_behind k j (operator o) h le = absurd h
took_behind k j (with_child f t) h le = absurd h
took_behind k j (with_name f n) h le = absurd h
took_behind k j (with_number f n) h le = absurd h
took_behind k j (with_text f n) h le = absurd h
took_behind k j anything h le = absurd h
took_behind k j (observed f) h le = absurd h

took_before : (k j : ℕ) (f : Fragment) → IsChain f → j < k
    → slice_get (children_of (removed k f)) j ≡ slice_get (children_of f) j
took_before zero j f h lt = absurd (omega (arith, lt))
took_before (suc k) j (ending l u) h lt = refl
took_before (suc k) zero (cell l e r) h lt = refl
took_before (suc k) (suc j) (cell l e r) h lt = took_before k j r h (omega (arith, lt))
took_before (suc k) j (hole p) h lt = absurd h
took_before (suc k) j (operator o) h lt = absurd h
took_before (suc k) j (with_child f t) h lt = absurd h
took_before (suc k) j (with_name f n) h lt = absurd h
took_before (suc k) j (with_number f n) h lt = absurd h
took_before (suc k) j (with_text f n) h lt = absurd h
took_before (suc k) j anything h lt = absurd h
took_before (suc k) j (observed f) h lt = absurd h

-- the same child, by another number
by_number : (f g : Fragment) (j i : ℕ) (rest : Path) → slice_get (children_of g) i ≡ slice_get (children_of f) j
    → Leads f (j ∷ rest) → Leads g (i ∷ rest)
by_number f g j i rest e (t, l) = (t, ap (option_and_then (λ u. node_at u rest)) e ∙ l)

pub raised_there : (new : Fragment) (k : ℕ) (at c : Path) (f old : Fragment) → node_at f at ≡ Some old → IsChain old
    → k ≤ length (children_of old) → Leads f c → Leads (change_at (inserted k new) at f) (raised at k c)
raised_there new k at c f old e chain in_range l =
    moved_there (inserted k new) (λ j rest. cond (nat_le k j) (j + 1) j ∷ rest) at c f old e good l
  where
    good : (j : ℕ) (rest : Path) → Leads old (j ∷ rest) → Leads (inserted k new old) (cond (nat_le k j) (j + 1) j ∷ rest)
    good j rest h =
        elim (leb_tells k j) [
          | inl q ↦
              subst (λ b. Leads (inserted k new old) (cond b (j + 1) j ∷ rest)) (sym q.0)
              (subst (λ n. Leads (inserted k new old) (n ∷ rest)) (omega arith)
              (by_number old (inserted k new old) j (suc j) rest (put_behind new k j old chain q.1 in_range) h))
          | inr q ↦
              subst (λ b. Leads (inserted k new old) (cond b (j + 1) j ∷ rest)) (sym q.0)
              (by_number old (inserted k new old) j j rest (put_before new k j old chain (omega (arith, q.1))) h)
        ]

pub lowered_there : (k : ℕ) (at c : Path) (f old : Fragment) → node_at f at ≡ Some old → IsChain old
    → Leads f c → Leads (change_at (removed k) at f) (lowered at k c)
lowered_there k at c f old e chain l =
    moved_there (removed k) (λ j rest. cond (j == k) [] (cond (nat_lt k j) (j - 1) j ∷ rest)) at c f old e good l
  where
    low : (j : ℕ) (rest : Path) → j ≢ k → Leads old (j ∷ rest) → Leads (removed k old) (cond (nat_lt k j) (j - 1) j ∷ rest)
    low zero rest ne h =
        elim (ltb_tells k zero) [
          | inl q ↦ absurd (omega (arith, q.1))
          | inr q ↦
              subst (λ b. Leads (removed k old) (cond b (0 - 1) 0 ∷ rest)) (sym q.0)
              (by_number old (removed k old) zero zero rest (took_before k zero old chain (pos k ne)) h)
        ]
      where
        pos : (k : ℕ) → zero ≢ k → zero < k
        pos zero ne = absurd (ne refl)
        pos (suc k) ne = omega arith
    low (suc j) rest ne h =
        elim (ltb_tells k (suc j)) [
          | inl q ↦
              subst (λ b. Leads (removed k old) (cond b (suc j - 1) (suc j) ∷ rest)) (sym q.0)
              (subst (λ n. Leads (removed k old) (n ∷ rest)) (omega arith)
              (by_number old (removed k old) (suc j) j rest (took_behind k j old chain (omega (arith, q.1))) h))
          | inr q ↦
              subst (λ b. Leads (removed k old) (cond b (suc j - 1) (suc j) ∷ rest)) (sym q.0)
              (by_number old (removed k old) (suc j) (suc j) rest
              (took_before k (suc j) old chain (less (suc j) k ne q.1)) h)
        ]
      where
        less : (j k : ℕ) → j ≢ k → j ≤ k → j < k
        less j k ne le = elim (ltb_tells j k) [
          | inl q ↦ q.1
          | inr q ↦ absurd (ne (omega (arith, le, q.1)))
        ]

    good : (j : ℕ) (rest : Path) → Leads old (j ∷ rest)
        → Leads (removed k old) (cond (j == k) [] (cond (nat_lt k j) (j - 1) j ∷ rest))
    good j rest h =
        elim (eqb_tells j k) [
          | inl q ↦
              subst (λ b. Leads (removed k old) (cond b [] (cond (nat_lt k j) (j - 1) j ∷ rest))) (sym q.0)
              (removed k old, refl)
          | inr q ↦
              subst (λ b. Leads (removed k old) (cond b [] (cond (nat_lt k j) (j - 1) j ∷ rest))) (sym q.0)
              (low j rest q.1 h)
        ]

-- ---- the end of a list

same_elements : (u : Bool) (f : Fragment) → children_of (ended u f) ≡ children_of f
same_elements u (hole p) = refl
same_elements u (ending l v) = refl
same_elements u (cell l e r) = ap (λ xs. e ∷ xs) (same_elements u r)
same_elements u (operator o) = refl
same_elements u (with_child f t) = refl
same_elements u (with_name f n) = refl
same_elements u (with_number f n) = refl
same_elements u (with_text f n) = refl
same_elements u anything = refl
same_elements u (observed f) = refl

pub ended_there : (u : Bool) (at c : Path) (f old : Fragment) → node_at f at ≡ Some old → Leads f c
    → Leads (change_at (ended u) at f) c
ended_there u at c f old e (t, l) = by (place at c)
  where
    by : Place at c → Leads (change_at (ended u) at f) c
    by (above q h) =
        subst (λ p. Leads (change_at (ended u) p f) c) (sym h) (change_at (ended u) q t, change-above (ended u) c q f t l)
    by (under k rest h) =
        let from : node_at old (k ∷ rest) ≡ Some t = sym (reach at (k ∷ rest) f old e) ∙ ap (node_at f) (sym h) ∙ l in
        let same : node_at (ended u old) (k ∷ rest) ≡ node_at old (k ∷ rest) =
        ap (λ xs. option_and_then (λ s. node_at s rest) (slice_get xs k)) (same_elements u old) in
        subst (Leads (change_at (ended u) at f)) (sym h)
        (t, change-below (ended u) at (k ∷ rest) f old e ∙ same ∙ from)
    by (apart h) = (t, change-beside (ended u) at c f h ∙ l)
