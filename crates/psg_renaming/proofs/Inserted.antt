-- An operator put into a fragment, with one list of leaves and with another one.
use Rattle.std.proofs.Common.{◌≡◌, ℕ, zero, suc, ◌==◌, Bool, true, false, cond, List, [], ◌∷◌, ◌++◌, map, length, Option, Some, None, refl, ap, ap₂}
use Rattle.std.specs.List.{AllByRecursion}
use Rattle.psg_terms.specs.Names.{Name}
use Rattle.psg_grammar.specs.declared.types.Kind.{Kind}
use Rattle.psg_grammar.specs.declared.types.Kind.TheVariants as kinds
use Rattle.psg_grammar.specs.declared.types.Item.{Item}
use Rattle.psg_grammar.specs.declared.types.Item.TheVariants as items
use Rattle.psg_grammar.specs.declared.types.Definition.{Definition}
use Rattle.psg_grammar.specs.Fragments.{Fragment, hole, ending, cell, operator, with_child, with_name, with_number, with_text, anything, observed, children_of}
use Rattle.psg_grammar.specs.Insertion.{Leaf, a_name, a_number, a_text, AreLeaves, blank, filled, fresh_operator, with_operator}
use Rattle.psg_grammar.specs.Lookups.{operator_at, items_of}
use Rattle.psg_grammar.specs.Paths.{Path, change_child, change_at, inserted}
use Rattle.psg_renaming.specs.Occurring.{occurring, leaf_names}
use Rattle.psg_renaming.proofs.Permuting.{Permutation}
use Rattle.psg_renaming.proofs.Turned.{turned}

-- every name stays
abbrev pub unchanged : Permutation
unchanged = record { to = λ n. n; back = λ n. n; undo = λ n. refl; redo = λ n. refl }

heads : (xs ys : List Name) (x y : Name) → ◌≡◌ {A = List Name} (x ∷ xs) (y ∷ ys) → (x ≡ y) × (xs ≡ ys)
heads xs ys x y e = ((cc), (cc))

module _ (p : Permutation) where
  -- the first tree with the new names is the second one, but for literals
  abbrev pub IsTurned : Fragment → Fragment → Type 0
  IsTurned t u = turned p t ≡ turned unchanged u

  -- ---- the operator

  blank_turned : (def : Definition) (kind : Kind) → IsTurned (blank def kind) (blank def kind)
  blank_turned def (kinds.Phylum q) = refl
  blank_turned def (kinds.List l) = refl

  pub filled_turned : (def : Definition) (is : List Item) (f g : Fragment) (one two : List Leaf)
      → AreLeaves def is one → AreLeaves def is two
      → map p.to (leaf_names one) ≡ leaf_names two → IsTurned f g
      → IsTurned (filled def f is one) (filled def g is two)
  filled_turned def [] f g [] [] a b e same = same
  filled_turned def [] f g [] (y ∷ two) a b e same = absurd b
  filled_turned def [] f g (x ∷ one) two a b e same = absurd a
  filled_turned def (items.Slot k ∷ rest) f g one two a b e same =
      filled_turned def rest (with_child f (blank def k)) (with_child g (blank def k)) one two a b e
      (ap₂ with_child same (blank_turned def k))
  filled_turned def (items.Refers s ∷ rest) f g (a_name n ∷ one) (a_name m ∷ two) (_, a) (_, b) e same =
      let q = heads (map p.to (leaf_names one)) (leaf_names two) (p.to n) m e in
      filled_turned def rest (with_name f n) (with_name g m) one two a b q.1 (ap₂ with_name same q.0)
  filled_turned def (items.Declares s ∷ rest) f g (a_name n ∷ one) (a_name m ∷ two) (_, a) (_, b) e same =
      let q = heads (map p.to (leaf_names one)) (leaf_names two) (p.to n) m e in
      filled_turned def rest (with_name f n) (with_name g m) one two a b q.1 (ap₂ with_name same q.0)
  filled_turned def (items.Number ∷ rest) f g (a_number n ∷ one) (a_number m ∷ two) (_, a) (_, b) e same =
      filled_turned def rest (with_number f n) (with_number g m) one two a b e (ap (λ t. with_number t 0) same)
  filled_turned def (items.Text ∷ rest) f g (a_text n ∷ one) (a_text m ∷ two) (_, a) (_, b) e same =
      filled_turned def rest (with_text f n) (with_text g m) one two a b e (ap (λ t. with_text t []) same)
  filled_turned def (items.Refers s ∷ rest) f g (a_name n ∷ one) two a b e same = absurd b
  filled_turned def (items.Declares s ∷ rest) f g (a_name n ∷ one) two a b e same = absurd b
  filled_turned def (items.Number ∷ rest) f g (a_number n ∷ one) two a b e same = absurd b
  filled_turned def (items.Text ∷ rest) f g (a_text n ∷ one) two a b e same = absurd b
  filled_turned def _ f g one two a b e same = absurd a

  -- ---- the fragment around it, whose names stay

  abbrev pub Stays : Fragment → Type 0
  Stays f = AllByRecursion (λ n. p.to n ≡ n) (occurring f)

  all_left : (xs ys : List Name) → AllByRecursion (λ n. p.to n ≡ n) (xs ++ ys) → AllByRecursion (λ n. p.to n ≡ n) xs
  all_left [] ys h = tt
  all_left (x ∷ xs) ys (a, h) = (a, all_left xs ys h)

  all_right : (xs ys : List Name) → AllByRecursion (λ n. p.to n ≡ n) (xs ++ ys) → AllByRecursion (λ n. p.to n ≡ n) ys
  all_right [] ys h = h
  all_right (x ∷ xs) ys (a, h) = all_right xs ys h

  pub stays : (f : Fragment) → Stays f → IsTurned f f
  stays (hole q) h = refl
  stays (ending l u) h = refl
  stays (cell l e r) h =
      ap₂ (cell l) (stays e (all_left (occurring e) (occurring r) h))
      (stays r (all_right (occurring e) (occurring r) h))
  stays (operator o) h = refl
  stays (with_child f t) h =
      ap₂ with_child (stays f (all_left (occurring f) (occurring t) h))
      (stays t (all_right (occurring f) (occurring t) h))
  stays (with_name f n) h =
      ap₂ with_name (stays f (all_left (occurring f) (n ∷ []) h)) (all_right (occurring f) (n ∷ []) h).0
  stays (with_number f n) h = ap (λ t. with_number t 0) (stays f h)
  stays (with_text f t) h = ap (λ x. with_text x []) (stays f h)
  stays anything h = refl
  stays (observed f) h = ap observed (stays f h)

  -- changes that turn alike
  abbrev Alike : (Fragment → Fragment) → (Fragment → Fragment) → Type 0
  Alike g h = (t : Fragment) → Stays t → IsTurned (g t) (h t)

  chosen_turned : (b : Bool) (a c d e : Fragment) → IsTurned a d → IsTurned c e → IsTurned (cond b a c) (cond b d e)
  chosen_turned true a c d e x y = x
  chosen_turned false a c d e x y = y

  child_turned : (g h : Fragment → Fragment) → Alike g h → (k : ℕ) → Alike (change_child g k) (change_child h k)
  child_turned g h alike k (hole q) s = refl
  child_turned g h alike k (ending l u) s = refl
  child_turned g h alike zero (cell l e r) s =
      ap₂ (cell l) (alike e (all_left (occurring e) (occurring r) s))
      (stays r (all_right (occurring e) (occurring r) s))
  child_turned g h alike (suc k) (cell l e r) s =
      ap₂ (cell l) (stays e (all_left (occurring e) (occurring r) s))
      (child_turned g h alike k r (all_right (occurring e) (occurring r) s))
  child_turned g h alike k (operator o) s = refl
  child_turned g h alike k (with_child f t) s =
      let sf = all_left (occurring f) (occurring t) s in
      let st = all_right (occurring f) (occurring t) s in
      chosen_turned (length (children_of f) == k) (with_child f (g t)) (with_child (change_child g k f) t)
      (with_child f (h t)) (with_child (change_child h k f) t)
      (ap₂ with_child (stays f sf) (alike t st)) (ap₂ with_child (child_turned g h alike k f sf) (stays t st))
  child_turned g h alike k (with_name f n) s =
      ap₂ with_name (child_turned g h alike k f (all_left (occurring f) (n ∷ []) s))
      (all_right (occurring f) (n ∷ []) s).0
  child_turned g h alike k (with_number f n) s = ap (λ t. with_number t 0) (child_turned g h alike k f s)
  child_turned g h alike k (with_text f t) s = ap (λ x. with_text x []) (child_turned g h alike k f s)
  child_turned g h alike k anything s = refl
  child_turned g h alike k (observed f) s = ap observed (child_turned g h alike k f s)

  at_turned : (g h : Fragment → Fragment) → Alike g h → (path : Path) → Alike (change_at g path) (change_at h path)
  at_turned g h alike [] t s = alike t s
  at_turned g h alike (k ∷ path) t s =
      child_turned (change_at g path) (change_at h path) (at_turned g h alike path) k t s

  inserted_turned : (k : ℕ) (x y : Fragment) → IsTurned x y → Alike (inserted k x) (inserted k y)
  inserted_turned zero x y same (ending l u) s = ap (λ t. cell l t (ending l u)) same
  inserted_turned zero x y same (cell l e r) s = ap₂ (cell l) same (stays (cell l e r) s)
  inserted_turned (suc k) x y same (ending l u) s = refl
  inserted_turned (suc k) x y same (cell l e r) s =
      ap₂ (cell l) (stays e (all_left (occurring e) (occurring r) s))
      (inserted_turned k x y same r (all_right (occurring e) (occurring r) s))
  inserted_turned zero x y same t s = stays t s
  inserted_turned (suc k) x y same t s = stays t s

  pub with_turned : (def : Definition) (f : Fragment) (path : Path) (k : Option ℕ) (o : ℕ) (one two : List Leaf)
      → Stays f
      → AreLeaves def (items_of (operator_at def o)) one → AreLeaves def (items_of (operator_at def o)) two
      → map p.to (leaf_names one) ≡ leaf_names two
      → IsTurned (with_operator def f path k o one) (with_operator def f path k o two)
  with_turned def f path None o one two s a b e =
      at_turned (λ old. fresh_operator def o one) (λ old. fresh_operator def o two)
      (λ t st. filled_turned def (items_of (operator_at def o)) (operator o) (operator o) one two a b e refl) path f s
  with_turned def f path (Some k) o one two s a b e =
      at_turned (inserted k (fresh_operator def o one)) (inserted k (fresh_operator def o two))
      (inserted_turned k (fresh_operator def o one) (fresh_operator def o two)
      (filled_turned def (items_of (operator_at def o)) (operator o) (operator o) one two a b e refl)) path f s
