-- A tree with places opened takes no more work than the tree, and so many trials no more than so many times that.
use Rattle.std.proofs.Common.{◌≡◌, ℕ, zero, suc, ◌+◌, ◌≤◌, Bool, true, false, cond, ap, arith}
use Rattle.psg_terms.specs.Names.{Name}
use Rattle.psg_grammar.specs.declared.types.Definition.{Definition}
use Rattle.psg_grammar.specs.Fragments.{Fragment, hole, ending, cell, operator, with_child, with_name, with_number}
use Rattle.psg_grammar.specs.Fragments.{with_text, anything, observed}
use Rattle.psg_grammar.specs.Work.{work_of}
use Rattle.psg_places.specs.Answers.{trials_work}
use Rattle.psg_places.specs.Opened.{contents, opened, opened_child, opened_element}
use Rattle.psg_places.specs.Places.{content_count, declared_count, element_size, has_no_placeholder, is_hole, may_go_on, phylum_of}

some_work : (f : Fragment) → 1 ≤ work_of f
some_work (hole p) = omega arith
some_work (ending l u) = omega arith
some_work (cell l e r) = omega arith
some_work (operator o) = omega arith
some_work (with_child f t) = let h = some_work f in omega (arith, h)
some_work (with_name f x) = some_work f
some_work (with_number f x) = some_work f
some_work (with_text f x) = some_work f
some_work anything = omega arith
some_work (observed f) = some_work f

-- the test picks a tree of no more work
by_test : (b : Bool) (x y : Fragment) (most : ℕ) → work_of x ≤ most → work_of y ≤ most → work_of (cond b x y) ≤ most
by_test true x y most h k = h
by_test false x y most h k = k

module _ (def : Definition) (keep : ℕ → Bool) (fresh : ℕ → Name) where
  abbrev now : ℕ → ℕ → Fragment → Fragment
  now d n f = contents def keep fresh d n f

  child_work : (n : ℕ) (t x y : Fragment) → work_of x ≤ work_of t → work_of y ≤ work_of t
      → work_of (opened_child def keep fresh n t x y) ≤ work_of t
  child_work n t x y h k =
      by_test (has_no_placeholder def t) x _ (work_of t) h
      (by_test (is_hole t) t _ (work_of t) (omega arith)
      (by_test (keep n) y (hole (phylum_of def t)) (work_of t) k (some_work t)))

  works : (d n : ℕ) (f : Fragment) → work_of (now d n f) ≤ work_of f
  works d n (hole p) = omega arith
  works d n (ending l u) = omega arith
  works d n (cell l e r) =
      let m = n + element_size def l e (content_count def e) in
      let far = d + cond (has_no_placeholder def e) (declared_count def e) 0 in
      let E = works (n + 1) (n + 1 + declared_count def e) e in
      let R = works d m r in
      let A = now (n + 1) (n + 1 + declared_count def e) e in
      let N = now (n + 1 + 1) (n + 1 + 1 + declared_count def e) e in
      let C = opened_child def keep fresh (n + 1) e (now 0 (n + 1) e) N in
      let X = opened_element def keep fresh e A C in
      let element : work_of X ≤ work_of e =
      by_test (has_no_placeholder def e) A C (work_of e) E
      (child_work (n + 1) e (now 0 (n + 1) e) N (works 0 (n + 1) e) (works (n + 1 + 1) (n + 1 + 1 + declared_count def e) e)) in
      let fixed = opened_child def keep fresh n e (now d n e) A in
      let own : work_of fixed ≤ work_of e = child_work n e (now d n e) A (works d n e) E in
      let F = works far m r in
      by_test (may_go_on def l) _ _ (work_of e + work_of r + 1)
      (by_test (keep n) (cell l X (now d m r)) (now d m r) (work_of e + work_of r + 1) (omega (arith, element, R))
      (omega (arith, R)))
      (let whole : work_of (cell l fixed (now far m r)) ≤ work_of e + work_of r + 1 = omega (arith, own, F) in whole)
  works d n (operator o) = omega arith
  works d n (with_child f t) =
      let a = d + declared_count def f in
      let m = n + content_count def f in
      let F = works d n f in
      let T = child_work m t (now a m t) (now (m + 1) (m + 1 + declared_count def t) t) (works a m t)
      (works (m + 1) (m + 1 + declared_count def t) t) in
      omega (arith, F, T)
  works d n (with_name f x) = works d n f
  works d n (with_number f x) = works d n f
  works d n (with_text f x) = works d n f
  works d n anything = omega arith
  works d n (observed f) = omega arith

  pub opened_work : (f : Fragment) → work_of (opened def keep fresh f) ≤ work_of f
  opened_work f =
      child_work 0 f (now 0 (declared_count def f) f) (now 1 (1 + declared_count def f) f)
      (works 0 (declared_count def f) f) (works 1 (1 + declared_count def f) f)

-- ---- trials

pub one_trial : (n m w : ℕ) → m ≡ n + 1 → trials_work m w ≡ w + trials_work n w
one_trial n m w e = let s : m ≡ suc n = omega (arith, e) in ap (λ k. trials_work k w) s

pub more_trials : (n m w : ℕ) → n ≤ m → trials_work n w ≤ trials_work m w
more_trials zero m w le = omega arith
more_trials (suc n) zero w le = absurd (omega (arith, le))
more_trials (suc n) (suc m) w le = let h = more_trials n m w (omega (arith, le)) in omega (arith, h)
