-- Which new names are taken does not matter.
use Rattle.std.proofs.Common.{◌≡◌, inl, inr, ℕ, zero, suc, ◌+◌, ◌<◌, ◌||◌, nat_lt, Bool, true, false, cond, List, [], ◌∷◌, ◌++◌, map, length, bytes_eq, refl, ap, ap₂, sym, ◌∙◌, subst, arith, true≢false}
use Rattle.std.specs.List.{AllByRecursion}
use Rattle.std.proofs.lemmas.Bool.{cases_lt, lt-ltb, le-ltb, false_from_ne_true, or_left, or_right}
use Rattle.psg_terms.specs.Names.{Name, has_twice, is_among}
use Rattle.psg_terms.proofs.DeclareLaws.{bytes_eq-same}
use Rattle.psg_scope.proofs.KeyLists.{key_refl}
use Rattle.psg_grammar.specs.declared.types.Kind.{Kind}
use Rattle.psg_grammar.specs.declared.types.Definition.{Definition}
use Rattle.psg_grammar.specs.Fragments.{Fragment, hole, ending, cell, operator, with_child, with_name, with_number}
use Rattle.psg_grammar.specs.Fragments.{with_text, anything, observed}
use Rattle.psg_grammar.specs.Legal.{IsCompletable}
use Rattle.psg_grammar.specs.Lookups.{is_declares, next_item}
use Rattle.psg_grammar.specs.Open.{IsOpen}
use Rattle.psg_grammar.specs.Sound.{IsSound}
use Rattle.psg_grammar.specs.WellFormed.{IsName, WellFormed}
use Rattle.psg_completions.specs.Conditions.{HasTrueRows}
use Rattle.psg_completions.proofs.Law.{open_or_completable}
use Rattle.psg_renaming.specs.Occurring.{occurring}
use Rattle.psg_renaming.proofs.Inserted.{unchanged}
use Rattle.psg_renaming.proofs.Judged.{open_to, open_from}
use Rattle.psg_renaming.proofs.Permuting.{Permutation, takes}
use Rattle.psg_renaming.proofs.Turned.{turned}
use Rattle.psg_places.specs.Blame.{AreAllAnswers, IsForAllNames, kept_in, none_kept, up_to}
use Rattle.psg_places.specs.NewNames.{AreNew}
use Rattle.psg_places.specs.Opened.{contents, name_or_fresh, opened, opened_child}
use Rattle.psg_places.specs.Places.{content_count, declared_count, element_size, has_no_placeholder, is_hole, may_go_on, phylum_of, place_count}
use Rattle.psg_places.proofs.FormedLaws.{formed}
use Rattle.psg_places.proofs.OfPlacesLaws.{of_places}
use Rattle.psg_places.proofs.Whole.{whole}

-- ---- the names of the first places

abbrev pub firsts : (ℕ → Name) → ℕ → List Name
firsts fresh zero = []
firsts fresh (suc n) = fresh n ∷ firsts fresh n

firsts_length : (fresh : ℕ → Name) (n : ℕ) → length (firsts fresh n) ≡ n
firsts_length fresh zero = refl
firsts_length fresh (suc n) = ap suc (firsts_length fresh n)

either_is : (a b : Bool) → (a || b) ≡ false → (a ≡ false) × (b ≡ false)
either_is true b e = absurd (true≢false e)
either_is false b e = (refl, e)

-- what is none of the first names
not_first : (fresh : ℕ → Name) (n : ℕ) (x : Name) → ((m : ℕ) → m < n → fresh m ≡ x → ⊥) → is_among (firsts fresh n) x ≡ false
not_first fresh zero x h = refl
not_first fresh (suc n) x h =
    let here : bytes_eq (fresh n) x ≡ false = false_from_ne_true (bytes_eq (fresh n) x) (λ t. h n (omega arith) (bytes_eq-same (fresh n) x t)) in
    ap (λ b. b || is_among (firsts fresh n) x) here ∙ not_first fresh n x (λ m lt. h m (omega (arith, lt)))

firsts_once : (fresh : ℕ → Name) (n : ℕ) → ((i j : ℕ) → i < n → j < n → fresh i ≡ fresh j → i ≡ j)
    → has_twice (firsts fresh n) ≡ false
firsts_once fresh zero h = refl
firsts_once fresh (suc n) h =
    let here = not_first fresh n (fresh n) (λ m lt e. let s : m ≡ n = h m n (omega (arith, lt)) (omega arith) e in absurd (omega (arith, lt, s))) in
    ap (λ b. b || has_twice (firsts fresh n)) here
    ∙ firsts_once fresh n (λ i j a b. h i j (omega (arith, a)) (omega (arith, b)))

heads : (xs ys : List Name) (x y : Name) → ◌≡◌ {A = List Name} (x ∷ xs) (y ∷ ys) → (x ≡ y) × (xs ≡ ys)
heads xs ys x y e = ((cc), (cc))

mapped : (g : Name → Name) (one two : ℕ → Name) (n m : ℕ) → map g (firsts one n) ≡ firsts two n → m < n → g (one m) ≡ two m
mapped g one two zero m e lt = absurd (omega (arith, lt))
mapped g one two (suc n) m e lt =
    let (x, xs) = heads (map g (firsts one n)) (firsts two n) (g (one n)) (two n) e in
    elim (cases_lt m n) [
      | inl below ↦ mapped g one two n m xs below
      | inr above ↦ let s : n ≡ m = omega (arith, lt, above) in subst (λ k. g (one k) ≡ two k) s x
    ]

-- ---- the names of the tree stay

each_among : (P : Name → Type 0) (ms : List Name) → ((n : Name) → is_among ms n ≡ true → P n) → AllByRecursion P ms
each_among P [] k = tt
each_among P (m ∷ ms) k =
    (k m (or_left (bytes_eq m m) (is_among ms m) (key_refl m)), each_among P ms (λ n e. k n (or_right (bytes_eq m n) (is_among ms n) e)))

front_each : (P : Name → Type 0) (xs ys : List Name) → AllByRecursion P (xs ++ ys) → AllByRecursion P xs
front_each P [] ys h = tt
front_each P (x ∷ xs) ys h = (h.0, front_each P xs ys h.1)

back_each : (P : Name → Type 0) (xs ys : List Name) → AllByRecursion P (xs ++ ys) → AllByRecursion P ys
back_each P [] ys h = h
back_each P (x ∷ xs) ys h = back_each P xs ys h.1

-- ---- trees

module _ (def : Definition) (p : Permutation) (keep : ℕ → Bool) (one two : ℕ → Name) (maps : (n : ℕ) → p.to (one n) ≡ two n) where
  abbrev IsTurned : Fragment → Fragment → Type 0
  IsTurned t u = turned p t ≡ turned unchanged u

  abbrev Stay : List Name → Type 0
  Stay names = AllByRecursion (λ n. p.to n ≡ n) names

  abbrev left : ℕ → ℕ → Fragment → Fragment
  left d n f = contents def keep one d n f

  abbrev right : ℕ → ℕ → Fragment → Fragment
  right d n f = contents def keep two d n f

  by_test : (b : Bool) (x y u v : Fragment) → IsTurned x u → IsTurned y v → IsTurned (cond b x y) (cond b u v)
  by_test true x y u v h k = h
  by_test false x y u v h k = k

  name_turned : (n : ℕ) (x : Name) → p.to x ≡ x → p.to (name_or_fresh def keep one n x) ≡ name_or_fresh def keep two n x
  name_turned n x h = pick (keep n) where
    pick : (b : Bool) → p.to (cond b x (one n)) ≡ cond b x (two n)
    pick true = h
    pick false = maps n

  either_turned : (b : Bool) (d n : ℕ) (x : Name) → p.to x ≡ x
      → p.to (cond b (name_or_fresh def keep one d x) (name_or_fresh def keep one n x))
      ≡ cond b (name_or_fresh def keep two d x) (name_or_fresh def keep two n x)
  either_turned true d n x h = name_turned d x h
  either_turned false d n x h = name_turned n x h

  -- the tree itself
  same_turned : (f : Fragment) → Stay (occurring f) → IsTurned f f
  same_turned (hole q) h = refl
  same_turned (ending l u) h = refl
  same_turned (cell l e r) h =
      ap₂ (cell l) (same_turned e (front_each (λ n. p.to n ≡ n) (occurring e) (occurring r) h))
      (same_turned r (back_each (λ n. p.to n ≡ n) (occurring e) (occurring r) h))
  same_turned (operator o) h = refl
  same_turned (with_child f t) h =
      ap₂ with_child (same_turned f (front_each (λ n. p.to n ≡ n) (occurring f) (occurring t) h))
      (same_turned t (back_each (λ n. p.to n ≡ n) (occurring f) (occurring t) h))
  same_turned (with_name f x) h =
      ap₂ with_name (same_turned f (front_each (λ n. p.to n ≡ n) (occurring f) (x ∷ []) h))
      (back_each (λ n. p.to n ≡ n) (occurring f) (x ∷ []) h).0
  same_turned (with_number f x) h = ap (λ g. with_number g 0) (same_turned f h)
  same_turned (with_text f x) h = ap (λ g. with_text g []) (same_turned f h)
  same_turned anything h = refl
  same_turned (observed f) h = ap observed (same_turned f h)

  child_turned : (n : ℕ) (t x y u v : Fragment) → Stay (occurring t) → IsTurned x u → IsTurned y v
      → IsTurned (opened_child def keep one n t x y) (opened_child def keep two n t u v)
  child_turned n t x y u v stay h k =
      let q = hole (phylum_of def t) in
      by_test (has_no_placeholder def t) x _ u _ h
      (by_test (is_hole t) t _ t _ (same_turned t stay) (by_test (keep n) y q v q k refl))

  turns : (d n : ℕ) (f : Fragment) → Stay (occurring f) → IsTurned (left d n f) (right d n f)
  turns d n (hole q) h = refl
  turns d n (ending l u) h = refl
  turns d n (cell l e r) h =
      let he = front_each (λ n. p.to n ≡ n) (occurring e) (occurring r) h in
      let hr = back_each (λ n. p.to n ≡ n) (occurring e) (occurring r) h in
      let m = n + element_size def l e (content_count def e) in
      let far = d + cond (has_no_placeholder def e) (declared_count def e) 0 in
      let E = turns (n + 1) (n + 1 + declared_count def e) e he in
      let R = turns d m r hr in
      let element = by_test (has_no_placeholder def e) _ _ _ _ E
      (child_turned (n + 1) e _ _ _ _ he (turns 0 (n + 1) e he) (turns (n + 1 + 1) (n + 1 + 1 + declared_count def e) e he)) in
      by_test (may_go_on def l) _ _ _ _
      (by_test (keep n) (cell l _ (left d m r)) (left d m r) (cell l _ (right d m r)) (right d m r) (ap₂ (cell l) element R) R)
      (ap₂ (cell l) (child_turned n e _ _ _ _ he (turns d n e he) E) (turns far m r hr))
  turns d n (operator o) h = refl
  turns d n (with_child f t) h =
      let hf = front_each (λ n. p.to n ≡ n) (occurring f) (occurring t) h in
      let ht = back_each (λ n. p.to n ≡ n) (occurring f) (occurring t) h in
      let a = d + declared_count def f in
      let m = n + content_count def f in
      ap₂ with_child (turns d n f hf)
      (child_turned m t _ _ _ _ ht (turns a m t ht) (turns (m + 1) (m + 1 + declared_count def t) t ht))
  turns d n (with_name f x) h =
      let hf = front_each (λ n. p.to n ≡ n) (occurring f) (x ∷ []) h in
      let hx = (back_each (λ n. p.to n ≡ n) (occurring f) (x ∷ []) h).0 in
      ap₂ with_name (turns d n f hf)
      (either_turned (is_declares (next_item def f)) (d + declared_count def f) (n + content_count def f) x hx)
  turns d n (with_number f x) h = ap (λ g. with_number g 0) (turns d n f h)
  turns d n (with_text f x) h = ap (λ g. with_text g []) (turns d n f h)
  turns d n anything h = refl
  turns d n (observed f) h = ap observed (same_turned f h)

  opened_turned : (f : Fragment) → Stay (occurring f) → IsTurned (opened def keep one f) (opened def keep two f)
  opened_turned f h =
      child_turned 0 f _ _ _ _ h (turns 0 (declared_count def f) f h) (turns 1 (1 + declared_count def f) f h)

-- the name where the number is one of a place, and else the other
abbrev pub within : ℕ → (ℕ → Name) → Name → ℕ → Name
within most fresh other n = cond (nat_lt n most) (fresh n) other

pub within_is : (most : ℕ) (fresh : ℕ → Name) (other : Name) (n : ℕ) → n < most → fresh n ≡ within most fresh other n
within_is most fresh other n lt = ap (λ b. cond b (fresh n) other) (sym (lt-ltb n most lt))

module _ (def : Definition) (f : Fragment) where
  pub open_for_all : IsForAllNames (IsOpen def) def f
  open_for_all one two new_one new_two keep good =
      let most = place_count def f in
      let t = takes (firsts one most) (firsts two most) (firsts_once one most new_one.apart)
      (firsts_once two most new_two.apart) (firsts_length one most ∙ sym (firsts_length two most)) in
      let p = t.names in
      let away = λ (fresh : ℕ → Name) (new : AreNew def f fresh) (x : Name) (e : is_among (occurring f) x ≡ true).
      not_first fresh most x (λ m lt s. true≢false (sym e ∙ ap (is_among (occurring f)) (sym s) ∙ new.new m lt)) in
      let stay = each_among (λ n. p.to n ≡ n) (occurring f) (λ x e. t.fixes x (away one new_one x e) (away two new_two x e)) in
      let maps = λ (n : ℕ). pick most one two p t.maps n in
      let left : opened def keep one f ≡ opened def keep (within most one []) f =
      of_places def f keep keep one (within most one []) (λ n lt. refl) (λ n lt. within_is most one [] n lt) in
      let right : opened def keep two f ≡ opened def keep (within most two (p.to [])) f =
      of_places def f keep keep two (within most two (p.to [])) (λ n lt. refl) (λ n lt. within_is most two (p.to []) n lt) in
      let same = opened_turned def p keep (within most one []) (within most two (p.to [])) maps f stay in
      subst (IsOpen def) (sym right)
      (open_from unchanged def (opened def keep (within most two (p.to [])) f)
      (subst (IsOpen def) same (open_to p def (opened def keep (within most one []) f) (subst (IsOpen def) left good)))) where
        pick : (most : ℕ) (one two : ℕ → Name) (p : Permutation) → map p.to (firsts one most) ≡ firsts two most
            → (n : ℕ) → p.to (within most one [] n) ≡ within most two (p.to []) n
        pick most one two p maps n = elim (cases_lt n most) [
          | inl below ↦
              subst (λ b. p.to (cond b (one n) []) ≡ cond b (two n) (p.to [])) (sym (lt-ltb n most below))
              (mapped p.to one two most n maps below)
          | inr above ↦ subst (λ b. p.to (cond b (one n) []) ≡ cond b (two n) (p.to [])) (sym (le-ltb n most above)) refl
        ]

  -- the tree with new names is well-formed
  pub formed_new : IsSound def → (kind : Kind) → WellFormed def f kind → (fresh : ℕ → Name) → AreNew def f fresh
      → (keep : ℕ → Bool) → WellFormed def (opened def keep fresh f) kind
  formed_new sound kind well fresh new keep = elim (cases_lt 0 (place_count def f)) [
    | inl some ↦
        let total = within (place_count def f) fresh (fresh 0) in
        let is : (n : ℕ) → IsName def (total n) = λ n. one_of n some in
        subst (λ t. WellFormed def t kind)
        (sym (of_places def f keep keep fresh total (λ n lt. refl) (λ n lt. within_is (place_count def f) fresh (fresh 0) n lt)))
        (formed def sound keep total is f kind well)
    | inr none ↦
        subst (λ t. WellFormed def t kind)
        (sym (of_places def f keep (λ n. true) fresh fresh (λ n lt. absurd (omega (arith, lt, none))) (λ n lt. refl) ∙ whole def fresh f))
        well
  ] where
    one_of : (n : ℕ) → 0 < place_count def f → IsName def (within (place_count def f) fresh (fresh 0) n)
    one_of n some = elim (cases_lt n (place_count def f)) [
      | inl below ↦ subst (λ b. IsName def (cond b (fresh n) (fresh 0))) (sym (lt-ltb n (place_count def f) below)) (new.names n below)
      | inr above ↦ subst (λ b. IsName def (cond b (fresh n) (fresh 0))) (sym (le-ltb n (place_count def f) above)) (new.names 0 some)
    ]

  pub completable_for_all : IsSound def → HasTrueRows def → (kind : Kind) → WellFormed def f kind
      → IsForAllNames (IsCompletable def) def f
  completable_for_all sound rows kind well one two new_one new_two keep good =
      let a = open_or_completable def sound rows (opened def keep one f) kind (formed_new sound kind well one new_one keep) in
      let b = open_or_completable def sound rows (opened def keep two f) kind (formed_new sound kind well two new_two keep) in
      b.0 (open_for_all one two new_one new_two keep (a.1 good))

-- ---- the answers for other new names

module _ (IsGood : Fragment → Type 0) (def : Definition) (f : Fragment) (all : IsForAllNames IsGood def f) where
  pub answers_for : (one two : ℕ → Name) → AreNew def f one → AreNew def f two → (kept : List Bool)
      → AreAllAnswers IsGood def one f kept → AreAllAnswers IsGood def two f kept
  answers_for one two a b kept h = record {
    answers = record {
      nothing = all one two a b none_kept h.answers.nothing;
      blame = λ n lt. (
        (λ e. all one two a b (up_to (kept_in kept) n) ((h.answers.blame n lt).0 e)),
        (λ g. (h.answers.blame n lt).1 (all two one b a (up_to (kept_in kept) n) g)),
      );
      inside = h.answers.inside;
      fewer = h.answers.fewer;
    };
    all = h.all;
  }
