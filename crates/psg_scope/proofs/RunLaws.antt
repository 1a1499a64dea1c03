-- Runs of keys of one list that are below the first key of the other.
use Rattle.std.proofs.Common.{◌≡◌, ℕ, zero, suc, ◌+◌, ◌<◌, ◌≤◌, List, [], ◌∷◌, ◌++◌, length, take, drop, get_or, refl, ◌&&◌, ◌||◌, sym, ap, subst, ◌∙◌, arith, add-one, drop-cons}
use Rattle.std.specs.List.{AllByRecursion}
use Rattle.std.specs.declared.cmp.Ordering.TheVariants.{Less}
use Rattle.psg_grammar.specs.Keys.{Key, key_cmp}
use Rattle.psg_scope.specs.Headers.{key_of, keys, both, IsBelow, AreRising}
use Rattle.psg_scope.specs.Merging.{by_order, merge, clashes, AreBefore, GrowsBy, GoesOn, IsUpTo}
use Rattle.psg_scope.specs.declared.header.NameCol.{NameCol}
use Rattle.psg_scope.specs.declared.merging.Merging.{Merging}
use Rattle.psg_scope.proofs.KeyOrder.{key_turned_back}
use Rattle.psg_scope.proofs.KeyLists.{below-through}
use Rattle.psg_scope.proofs.MergeLaws.{clashes-nil, step_left, step_right}

-- ---- keys below a key

abbrev pub AreUnder : Key → List NameCol → Type 0
AreUnder k cols = AllByRecursion (λ (c : NameCol). key_cmp (key_of c) k ≡ Less) cols

below_at : (n : Key) (cols : List NameCol) (m : ℕ) (c : NameCol) → IsBelow n (keys cols) → m < length cols → c ≡ get_or cols m c
    → key_cmp n (key_of c) ≡ Less
below_at n [] m c h small at = absurd (omega (arith, small))
below_at n (x ∷ cols) zero c h small at = ap (λ (d : NameCol). key_cmp n (key_of d)) at ∙ h.0
below_at n (x ∷ cols) (suc m) c h small at = below_at n cols m c h.1 (omega (arith, small)) at

-- of keys in order those up to one that is below the key are below it
up_to : (k : Key) (cols : List NameCol) (m : ℕ) (c : NameCol) → AreRising (keys cols) → m < length cols → c ≡ get_or cols m c
    → key_cmp (key_of c) k ≡ Less → AreUnder k (take (suc m) cols)
up_to k [] m c h small at less = absurd (omega (arith, small))
up_to k (x ∷ cols) zero c h small at less = (ap (λ (d : NameCol). key_cmp (key_of d) k) (sym at) ∙ less, tt)
up_to k (x ∷ cols) (suc m) c h small at less = (
  (below-through (key_of x) (key_of c) (k ∷ []) (below_at (key_of x) cols m c h.0 (omega (arith, small)) at) (less, tt)).0,
  up_to k cols m c h.1 (omega (arith, small)) at less,
)

pub all_under : (k : Key) (cols : List NameCol) (m : ℕ) (c : NameCol) → AreRising (keys cols) → m < length cols → c ≡ get_or cols m c
    → Less ≡ key_cmp (key_of c) k → AreUnder k (take (m + 1) cols)
all_under k cols m c h small at less =
    subst (λ n. AreUnder k (take n cols)) (sym (add-one m)) (up_to k cols m c h small at (sym less))

pub none_before : (b : List NameCol) → AreBefore [] b
none_before [] = tt
none_before (y ∷ ys) = tt

pub before_first : (run b rest : List NameCol) (y : NameCol) → b ≡ y ∷ rest → AreUnder (key_of y) run → AreBefore run b
before_first run b rest y e h = subst (AreBefore run) (sym e) h

pub before_end : (run b : List NameCol) → b ≡ [] → AreBefore run b
before_end run b e = subst (AreBefore run) (sym e) tt

-- ---- one key of a run

under_at : (k : Key) (run : List NameCol) (i : ℕ) (x : NameCol) → i < length run → x ≡ get_or run i x → AreUnder k run
    → key_cmp (key_of x) k ≡ Less
under_at k [] i x small at h = absurd (omega (arith, small))
under_at k (y ∷ run) zero x small at h = ap (λ (d : NameCol). key_cmp (key_of d) k) at ∙ h.0
under_at k (y ∷ run) (suc i) x small at h = under_at k run i x (omega (arith, small)) at h.1

left_first : (x : NameCol) (rest b run : List NameCol) (i : ℕ) → i < length run → x ≡ get_or run i x → AreBefore run b
    → (merge (x ∷ rest) b ≡ x ∷ merge rest b) × (clashes (x ∷ rest) b ≡ clashes rest b)
left_first x rest [] run i small at h = (refl, sym (clashes-nil rest))
left_first x rest (y ∷ ys) run i small at h =
    let less : key_cmp (key_of x) (key_of y) ≡ Less = under_at (key_of y) run i x small at h in (
      ap (λ r. by_order r (x ∷ merge rest (y ∷ ys)) (both x y ∷ merge rest ys) (y ∷ merge (x ∷ rest) ys)) less,
      ap (λ r. by_order r (clashes rest (y ∷ ys)) ((x.declared && y.declared) || clashes rest ys) (clashes (x ∷ rest) ys)) less,
    )

right_first : (y : NameCol) (rest a run : List NameCol) (i : ℕ) → i < length run → y ≡ get_or run i y → AreBefore run a
    → (merge a (y ∷ rest) ≡ y ∷ merge a rest) × (clashes a (y ∷ rest) ≡ clashes a rest)
right_first y rest [] run i small at h = (refl, refl)
right_first y rest (x ∷ xs) run i small at h =
    let more = key_turned_back (key_of y) (key_of x) (under_at (key_of x) run i y small at h) in (
      ap (λ r. by_order r (x ∷ merge xs (y ∷ rest)) (both x y ∷ merge xs rest) (y ∷ merge (x ∷ xs) rest)) more,
      ap (λ r. by_order r (clashes xs (y ∷ rest)) ((x.declared && y.declared) || clashes xs rest) (clashes (x ∷ xs) rest)) more,
    )

-- the run from the key on
split_run : (run rest : List NameCol) (i : ℕ) (x : NameCol) → i < length run → x ≡ get_or run i x
    → drop i run ++ rest ≡ x ∷ (drop (i + 1) run ++ rest)
split_run run rest i x small at =
    ap (λ l. l ++ rest) (drop-cons run i x small ∙ ap (λ y. y ∷ drop (suc i) run) (sym at) ∙ ap (λ n. x ∷ drop n run) (sym (add-one i)))

pub run_left : (run : List NameCol) (i : ℕ) (x : NameCol) (before old new : Merging) → i < length run → x ≡ get_or run i x
    → GrowsBy old new x (length old.names.items ∷ []) []
    → ((whole others rest right : List NameCol) → AreBefore run right → IsUpTo whole others (run ++ rest) right before
    → IsUpTo whole others (drop i run ++ rest) right old)
    → (whole others rest right : List NameCol) → AreBefore run right → IsUpTo whole others (run ++ rest) right before
    → IsUpTo whole others (drop (i + 1) run ++ rest) right new
run_left run i x before old new small at grows h whole others rest right below up =
    let first = left_first x (drop (i + 1) run ++ rest) right run i small at below in
    let split = split_run run rest i x small at in
    let here : merge (drop i run ++ rest) right ≡ x ∷ merge (drop (i + 1) run ++ rest) right = ap (λ l. merge l right) split ∙ first.0 in
    let clash : clashes (drop i run ++ rest) right ≡ clashes (drop (i + 1) run ++ rest) right = ap (λ l. clashes l right) split ∙ first.1 in
    step_left (h whole others rest right below up) (split, here, clash) grows

pub run_right : (run : List NameCol) (i : ℕ) (y : NameCol) (before old new : Merging) → i < length run → y ≡ get_or run i y
    → GrowsBy old new y [] (length old.names.items ∷ [])
    → ((whole others left rest : List NameCol) → AreBefore run left → IsUpTo whole others left (run ++ rest) before
    → IsUpTo whole others left (drop i run ++ rest) old)
    → (whole others left rest : List NameCol) → AreBefore run left → IsUpTo whole others left (run ++ rest) before
    → IsUpTo whole others left (drop (i + 1) run ++ rest) new
run_right run i y before old new small at grows h whole others left rest below up =
    let first = right_first y (drop (i + 1) run ++ rest) left run i small at below in
    let split = split_run run rest i y small at in
    let here : merge left (drop i run ++ rest) ≡ y ∷ merge left (drop (i + 1) run ++ rest) = ap (merge left) split ∙ first.0 in
    let clash : clashes left (drop i run ++ rest) ≡ clashes left (drop (i + 1) run ++ rest) = ap (clashes left) split ∙ first.1 in
    step_right (h whole others left rest below up) (split, here, clash) grows

-- the run to its end
pub run_done : (run rest : List NameCol) (i : ℕ) → length run ≤ i → drop i run ++ rest ≡ rest
run_done [] rest zero h = refl
run_done [] rest (suc i) h = refl
run_done (x ∷ run) rest zero h = absurd (omega (arith, h))
run_done (x ∷ run) rest (suc i) h = run_done run rest i (omega (arith, h))

-- ---- both runs

rising-drop : (n : ℕ) (cols : List NameCol) → AreRising (keys cols) → AreRising (keys (drop n cols))
rising-drop zero cols h = h
rising-drop (suc n) [] h = h
rising-drop (suc n) (x ∷ cols) h = rising-drop n cols h.1

pub gone_on : (left right lefts rest rights rest' : List NameCol) (n m : ℕ) (old middle new : Merging)
    → lefts ≡ take n left → rest ≡ drop n left → left ≡ lefts ++ rest → AreBefore (take n left) right
    → rights ≡ take m right → rest' ≡ drop m right → right ≡ rights ++ rest' → AreBefore (take m right) rest
    → length rest + n ≡ length left → length rest' + m ≡ length right
    → ((whole others rest right : List NameCol) → AreBefore lefts right → IsUpTo whole others (lefts ++ rest) right old
    → IsUpTo whole others rest right middle)
    → ((whole others left rest : List NameCol) → AreBefore rights left → IsUpTo whole others left (rights ++ rest) middle
    → IsUpTo whole others left rest new)
    → GoesOn old new left right rest rest'
gone_on left right lefts rest rights rest' n m old middle new t d s b t' d' s' b' l l' f g = record {
  up_to = λ whole others up.
      g whole others rest rest' (subst (λ x. AreBefore x rest) (sym t') b')
      (subst (λ x. IsUpTo whole others rest x middle) s'
      (f whole others rest right (subst (λ x. AreBefore x right) (sym t) b)
      (subst (λ x. IsUpTo whole others x right old) s up)));
  left_rises = λ h. subst (λ x. AreRising (keys x)) (sym d) (rising-drop n left h);
  right_rises = λ h. subst (λ x. AreRising (keys x)) (sym d') (rising-drop m right h);
  shorter = omega (arith, l, l');
}

-- ---- what is left behind a key

pub rising_rest : (cols rest : List NameCol) (x : NameCol) → cols ≡ x ∷ rest → AreRising (keys cols) → AreRising (keys rest)
rising_rest cols rest x e h = (subst (λ l. AreRising (keys l)) e h).1

pub left_shorter : (left right lefts : List NameCol) (x : NameCol) (n : ℕ) → left ≡ x ∷ lefts → length left + length right ≤ n
    → length lefts + length right < n
left_shorter left right lefts x n e h = omega (arith, h, ap length e)

pub right_shorter : (left right rights : List NameCol) (y : NameCol) (n : ℕ) → right ≡ y ∷ rights → length left + length right ≤ n
    → length left + length rights < n
right_shorter left right rights y n e h = omega (arith, h, ap length e)

pub both_shorter : (left right lefts rights : List NameCol) (x y : NameCol) (n : ℕ) → left ≡ x ∷ lefts → right ≡ y ∷ rights
    → length left + length right ≤ n → length lefts + length rights < n
both_shorter left right lefts rights x y n e f h = omega (arith, h, ap length e, ap length f)
