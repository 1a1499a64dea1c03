-- Paths to where a node is in the tree of the kept places, and back, step by step.
use Rattle.std.proofs.Common.{◌≡◌, ℕ, ◌+◌, ◌-◌, ◌<◌, ◌≤◌, ◌&&◌, ◌||◌, Bool, true, false, cond, List, [], ◌∷◌, ◌++◌, length, take, get_or, refl, ap, ap₂, sym, ◌∙◌, subst, arith, true≢false, append_assoc, append-nil}
use Rattle.std.specs.Prelude.{nat_eq, nat_lt}
use Rattle.std.specs.Cmp.Lexicographic.{pointwise}
use Rattle.std.proofs.lemmas.Bool.{ltb-true, lt-ltb, eqb-true}
use Rattle.std.proofs.lemmas.List.{take_all}
use Rattle.psg_terms.proofs.Lists.{take_item}
use Rattle.psg_grammar.specs.Paths.{Path}
use Rattle.psg_places.specs.declared.place.Place.{Place}
use Rattle.psg_places.specs.declared.place.Place.TheVariants.{Node, Element, End, Name}
use Rattle.psg_places.specs.Places.{below}
use Rattle.psg_places.specs.Ways.{IsBack, IsElementBack, earlier, goes_before, goes_into, goes_through, is_earlier, is_left_out, moved, takes_along}

-- ---- Booleans

and_true : (b : Bool) → (b && true) ≡ b
and_true true = refl
and_true false = refl

and_false : (b : Bool) → (b && false) ≡ false
and_false true = refl
and_false false = refl

and_swap : (a b c : Bool) → (a && (b && c)) ≡ (b && (a && c))
and_swap true true c = refl
and_swap true false c = refl
and_swap false true c = refl
and_swap false false c = refl

-- ---- the last step of a path

pub before_last : (k : ℕ) (path list : Path) (j : ℕ)
    → goes_before k path (list ++ j ∷ []) ≡ (nat_lt j k && pointwise nat_eq list path)
before_last k [] [] j = sym (and_true (nat_lt j k))
before_last k [] (i ∷ []) j = sym (and_false (nat_lt j k))
before_last k [] (i ∷ (h ∷ list)) j = sym (and_false (nat_lt j k))
before_last k (s ∷ []) [] j = and_false (nat_eq j s) ∙ sym (and_false (nat_lt j k))
before_last k (s ∷ (t ∷ path)) [] j = and_false (nat_eq j s) ∙ sym (and_false (nat_lt j k))
before_last k (s ∷ path) (i ∷ list) j =
    ap (λ b. nat_eq i s && b) (before_last k path list j) ∙ and_swap (nat_eq i s) (nat_lt j k) (pointwise nat_eq list path)

pub before_split : (k : ℕ) (path list at : Path) (j : ℕ) (result : Bool) → at ≡ list ++ j ∷ []
    → result ≡ (nat_lt j k && pointwise nat_eq list path) → result ≡ goes_before k path at
before_split k path list at j result e r = r ∙ sym (before_last k path list j) ∙ ap (goes_before k path) (sym e)

pub before_none : (k : ℕ) (path at : Path) → length at ≡ 0 → false ≡ goes_before k path at
before_none k [] [] e = refl
before_none k (s ∷ path) [] e = refl
before_none k path (j ∷ at) e = absurd (omega arith)

pub into_none : (at path : Path) → length at ≡ 0 → false ≡ goes_into at path
into_none [] path e = refl
into_none (j ∷ at) path e = absurd (omega arith)

pub into_some : (at path : Path) (result : Bool) → (length at ≡ 0 → ⊥) → result ≡ goes_through at path → result ≡ goes_into at path
into_some [] path result e r = absurd (e refl)
into_some (j ∷ at) path result e r = r

nothing_out : (opened : List Place) → is_left_out opened [] ≡ false
nothing_out [] = refl
nothing_out (Node at ∷ ps) = nothing_out ps
nothing_out (Element [] ∷ ps) = nothing_out ps
nothing_out (Element (j ∷ at) ∷ ps) = nothing_out ps
nothing_out (End at ∷ ps) = nothing_out ps
nothing_out (Name at n ∷ ps) = nothing_out ps

-- ---- counts

module _ (path : Path) (k : ℕ) where
  earlier_push : (xs : List Place) (x : Place) → earlier (xs ++ x ∷ []) path k ≡ earlier xs path k + cond (is_earlier path k x) 1 0
  earlier_push [] x = omega arith
  earlier_push (y ∷ xs) x = let e = earlier_push xs x in omega (arith, e)

  pub counted_place : (all : List Place) (i : ℕ) (x : Place) (so : Bool) (total more : ℕ) → i < length all
      → x ≡ get_or all i x → total ≡ earlier (take i all) path k → so ≡ is_earlier path k x → more ≡ cond so 1 0
      → total + more ≡ earlier (take (i + 1) all) path k
  counted_place all i x so total more lt at h s m =
      ap₂ (λ a b. a + b) h (m ∙ ap (λ b. cond b 1 0) s)
      ∙ sym (earlier_push (take i all) x) ∙ ap (λ xs. earlier xs path k) (sym (take_item all i x lt at))

  pub counted_places : (all : List Place) (i total : ℕ) → length all ≤ i → total ≡ earlier (take i all) path k
      → total ≡ earlier all path k
  counted_places all i total le h = h ∙ ap (λ xs. earlier xs path k) (take_all i all le)

-- ---- the way back

abbrev pub through : Path → Path → Bool
through [] path = true
through (j ∷ at) [] = false
through (j ∷ at) (k ∷ path) = nat_eq j k && through at path

goes_is : (at path : Path) → goes_through at path ≡ through at path
goes_is [] path = refl
goes_is (j ∷ at) [] = refl
goes_is (j ∷ at) (k ∷ path) = ap (λ b. nat_eq j k && b) (goes_is at path)

-- what is among fewer first elements is among more
before_more : (m n : ℕ) (path at : Path) → m ≤ n → goes_before m path at ≡ true → goes_before n path at ≡ true
before_more m n [] [] le h = h
before_more m n [] (j ∷ []) le h = lt-ltb j n (let a = ltb-true j m h in omega (arith, a, le))
before_more m n [] (j ∷ (i ∷ at)) le h = h
before_more m n (s ∷ path) [] le h = h
before_more m n (s ∷ path) (j ∷ at) le h = by_test (nat_eq j s) h (before_more m n path at le)
  where
    by_test : (t : Bool) → (t && goes_before m path at) ≡ true → (goes_before m path at ≡ true → goes_before n path at ≡ true)
        → (t && goes_before n path at) ≡ true
    by_test true e f = f e
    by_test false e f = e

earlier_more : (m n : ℕ) (path : Path) (p : Place) → m ≤ n → cond (is_earlier path m p) 1 0 ≤ cond (is_earlier path n p) 1 0
earlier_more m n path (Node at) le = omega arith
earlier_more m n path (Element at) le = by_test (goes_before m path at) (goes_before n path at) (before_more m n path at le)
  where
    by_test : (a b : Bool) → (a ≡ true → b ≡ true) → cond a 1 0 ≤ cond b 1 0
    by_test true true f = omega arith
    by_test true false f = absurd (true≢false (sym (f refl)))
    by_test false true f = omega arith
    by_test false false f = omega arith
earlier_more m n path (End at) le = omega arith
earlier_more m n path (Name at x) le = omega arith

pub earlier_grows : (opened : List Place) (path : Path) (m n : ℕ) → m ≤ n → earlier opened path m ≤ earlier opened path n
earlier_grows [] path m n le = omega arith
earlier_grows (p ∷ ps) path m n le =
    let a = earlier_more m n path p le in let b = earlier_grows ps path m n le in omega (arith, a, b)

pub earlier_few : (opened : List Place) (path : Path) (k : ℕ) → earlier opened path k ≤ length opened
earlier_few [] path k = omega arith
earlier_few (p ∷ ps) path k = let a = earlier_few ps path k in let b = at_most (is_earlier path k p) in omega (arith, a, b)
  where
    at_most : (t : Bool) → cond t 1 0 ≤ 1
    at_most true = omega arith
    at_most false = omega arith

-- an element that is not the one of the number b does not take along what is below that
one_more : (at x : Path) (b : ℕ) → through x at ≡ false → goes_before (b + 1) at x ≡ goes_before b at x
    → through x (at ++ b ∷ []) ≡ false
one_more at [] b h e = h
one_more [] (j ∷ []) b h e = by_test (nat_eq j b) refl
  where
    by_test : (t : Bool) → nat_eq j b ≡ t → (t && true) ≡ false
    by_test false t = refl
    by_test true t =
        let same : j ≡ b = eqb-true j b t in
        let one : nat_lt j (b + 1) ≡ true = lt-ltb j (b + 1) (omega (arith, same)) in
        let less : j < b = ltb-true j b (sym e ∙ one) in
        absurd (omega (arith, same, less))
one_more [] (j ∷ (i ∷ x)) b h e = and_false (nat_eq j b)
one_more (k ∷ at) (j ∷ x) b h e = by_test (nat_eq j k) h e (one_more at x b)
  where
    by_test : (t : Bool) → (t && through x at) ≡ false → (t && goes_before (b + 1) at x) ≡ (t && goes_before b at x)
        → (through x at ≡ false → goes_before (b + 1) at x ≡ goes_before b at x → through x (at ++ b ∷ []) ≡ false)
        → (t && through x (at ++ b ∷ [])) ≡ false
    by_test true h e more = more h e
    by_test false h e more = refl

takes_more : (at : Path) (b : ℕ) (p : Place) → takes_along at p ≡ false
    → ◌≡◌ {A = ℕ} (cond (is_earlier at (b + 1) p) 1 0) (cond (is_earlier at b p) 1 0) → takes_along (at ++ b ∷ []) p ≡ false
takes_more at b (Node x) h e = refl
takes_more at b (Element []) h e = refl
takes_more at b (Element (j ∷ y)) h e =
    let x : Path = j ∷ y in
    goes_is x (at ++ b ∷ []) ∙ one_more at x b (sym (goes_is x at) ∙ h) (same (goes_before (b + 1) at x) (goes_before b at x) e)
  where
    same : (s t : Bool) → ◌≡◌ {A = ℕ} (cond s 1 0) (cond t 1 0) → s ≡ t
    same true true e = refl
    same true false e = absurd (omega arith)
    same false true e = absurd (omega arith)
    same false false e = refl
takes_more at b (End x) h e = refl
takes_more at b (Name x n) h e = refl

or_none : (s t : Bool) → (s || t) ≡ false → (s ≡ false) × (t ≡ false)
or_none true t e = absurd (true≢false e)
or_none false t e = (refl, e)

pub stays_there : (opened : List Place) (at : Path) (b : ℕ) → is_left_out opened at ≡ false
    → earlier opened at (b + 1) ≡ earlier opened at b → is_left_out opened (at ++ b ∷ []) ≡ false
stays_there [] at b h e = refl
stays_there (p ∷ ps) at b h e =
    let z : b ≤ b + 1 = omega arith in
    let s = earlier_more b (b + 1) at p z in
    let t = earlier_grows ps at b (b + 1) z in
    let own : ◌≡◌ {A = ℕ} (cond (is_earlier at (b + 1) p) 1 0) (cond (is_earlier at b p) 1 0) = omega (arith, e, s, t) in
    let more : earlier ps at (b + 1) ≡ earlier ps at b = omega (arith, e, s, t) in
    let (first, others) = or_none (takes_along at p) (is_left_out ps at) h in
    ap₂ (λ x y. x || y) (takes_more at b p first own) (stays_there ps at b others more)

moved_more : (opened : List Place) (front at : Path) (b : ℕ)
    → moved opened front (at ++ b ∷ []) ≡ moved opened front at ++ (b - earlier opened (front ++ at) b) ∷ []
moved_more opened front [] b = ap (λ path. (b - earlier opened path b) ∷ []) (sym (append-nil front))
moved_more opened front (k ∷ at) b =
    ap (λ xs. (k - earlier opened front k) ∷ xs)
    (moved_more opened (below front k) at b
    ∙ ap (λ path. moved opened (below front k) at ++ (b - earlier opened path b) ∷ []) (append_assoc front (k ∷ []) at))

-- the steps back so far
pub record IsBackTo (opened : List Place) (path at left : Path) : Type 0 where
  pub there : is_left_out opened at ≡ false
  pub moves : moved opened [] at ++ left ≡ path

pub back_first : (opened : List Place) (path at left : Path) → at ≡ [] → left ≡ path → IsBackTo opened path at left
back_first opened path at left e l = record {
  there = ap (is_left_out opened) e ∙ nothing_out opened;
  moves = ap₂ (λ xs ys. moved opened [] xs ++ ys) e l;
}

pub back_step : (opened : List Place) (path at next left rest : Path) (step back : ℕ) → IsBackTo opened path at left
    → left ≡ step ∷ rest → IsElementBack opened at step back → next ≡ at ++ back ∷ [] → IsBackTo opened path next rest
back_step opened path at next left rest step back h l s n = record {
  there = ap (is_left_out opened) n ∙ stays_there opened at back h.there s.same;
  moves =
      ap (λ xs. moved opened [] xs ++ rest) n ∙ ap (λ xs. xs ++ rest) (moved_more opened [] at back)
      ∙ append_assoc (moved opened [] at) ((back - earlier opened at back) ∷ []) rest
      ∙ ap (λ x. moved opened [] at ++ x ∷ rest) s.moves ∙ ap (λ xs. moved opened [] at ++ xs) (sym l) ∙ h.moves;
}

pub back_end : (opened : List Place) (path at left found : Path) → IsBackTo opened path at left → length left ≡ 0 → found ≡ at
    → IsBack opened path found
back_end opened path at [] found h e f = record {
  there = ap (is_left_out opened) f ∙ h.there;
  moves = ap (moved opened []) f ∙ sym (append-nil (moved opened [] at)) ∙ h.moves;
}
back_end opened path at (j ∷ left) found h e f = absurd (omega arith)

-- the number that is tried, and the one that its count gives
pub record IsTried (opened : List Place) (at : Path) (step back next : ℕ) : Type 0 where
  pub is : next ≡ step + earlier opened at (back + 1)
  pub least : back ≤ step + earlier opened at back

pub tried_first : (opened : List Place) (at : Path) (step after before next : ℕ) → after ≡ step + 1
    → before ≡ earlier opened at after → next ≡ step + before → IsTried opened at step step next
tried_first opened at step after before next a b n = record {
  is = n ∙ ap (λ c. step + c) (b ∙ ap (earlier opened at) a);
  least = omega arith;
}

pub tried_next : (opened : List Place) (at : Path) (step back next more count sum : ℕ) → IsTried opened at step back next
    → back < next → more ≡ next + 1 → count ≡ earlier opened at more → sum ≡ step + count → IsTried opened at step next sum
tried_next opened at step back next more count sum h lt m c s = record {
  is = s ∙ ap (λ x. step + x) (c ∙ ap (earlier opened at) m);
  least =
      let le : back + 1 ≤ next = omega (arith, lt) in
      let grows = earlier_grows opened at (back + 1) next le in
      omega (arith, h.is, grows);
}

pub tried_most : (opened : List Place) (at : Path) (step back next : ℕ) → IsTried opened at step back next
    → next ≤ step + length opened
tried_most opened at step back next h = let few = earlier_few opened at (back + 1) in omega (arith, h.is, few)

pub tried_last : (opened : List Place) (at : Path) (step back next found : ℕ) → IsTried opened at step back next
    → next ≤ back → found ≡ back → IsElementBack opened at step found
tried_last opened at step back next found h le f =
    let z : back ≤ back + 1 = omega arith in
    let grows = earlier_grows opened at back (back + 1) z in
    let least = h.least in
    let is = h.is in
    let same : earlier opened at (back + 1) ≡ earlier opened at back = omega (arith, is, least, grows, le) in
    let moves : back - earlier opened at back ≡ step = omega (arith, is, least, grows, le) in
    subst (IsElementBack opened at step) (sym f) (record { moves = moves; same = same })
