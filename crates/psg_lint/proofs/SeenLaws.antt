-- A blamed node or end is there in the tree of the places that are kept before it.
use Rattle.std.proofs.Common.{◌≡◌, ◌⊎◌, inl, inr, ℕ, zero, suc, ◌+◌, ◌<◌, ◌&&◌, ◌||◌, ◌==◌, not, Bool, true, false, cond, List, [], ◌∷◌, ◌++◌, length, take, Some, None, slice_get, refl, ap, ap₂, sym, ◌∙◌, subst, arith, true≢false}
use Rattle.std.specs.Prelude.{nat_lt}
use Rattle.std.specs.List.{list_any}
use Rattle.std.proofs.lemmas.Bool.{cases_eq, cases_lt, le-ltb, lt-ltb, ne_eqb, or_parts}
use Rattle.psg_terms.specs.Names.{Name as Word}
use Rattle.psg_grammar.specs.declared.types.Definition.{Definition}
use Rattle.psg_grammar.specs.Fragments.{Fragment}
use Rattle.psg_grammar.specs.Paths.{Path}
use Rattle.psg_cache.specs.Notes.{IsFormed}
use Rattle.psg_places.specs.declared.place.Place.{Place}
use Rattle.psg_places.specs.declared.place.Place.TheVariants.{Node, Element, End, Name}
use Rattle.psg_places.specs.Blame.{AreAnswers, kept_in, kept_of_first, up_to}
use Rattle.psg_places.specs.Listings.{opened_among}
use Rattle.psg_places.specs.Opened.{opened}
use Rattle.psg_places.specs.Places.{places_of}
use Rattle.psg_places.specs.Ways.{covers, goes_through, is_covered, is_left_out, moved, takes_along, there_of}
use Rattle.psg_places.proofs.BlameLaws.{grown}
use Rattle.psg_uses.specs.Naming.{path_of_place}
use Rattle.psg_lint.proofs.HiddenLaws.{Tie, Ties, bool_cases, hides, same_tree}
use Rattle.psg_lint.proofs.OnceLaws.{IsLarge, all_once, once_at}
use Rattle.psg_lint.proofs.PlaceLaws.{placed}

pub same_at : {X : Type 0} (xs : List X) (i : ℕ) (a b : X) → slice_get xs i ≡ Some a → slice_get xs i ≡ Some b → a ≡ b
same_at xs i a b e f = cc

-- the first answers
pub kept_first : (xs : List Bool) (n m : ℕ) → m < n → kept_in (take n xs) m ≡ kept_in xs m
kept_first [] n m lt = by_number n where
  by_number : (n : ℕ) → kept_in (take n []) m ≡ kept_in [] m
  by_number zero = refl
  by_number (suc n) = refl
kept_first (x ∷ xs) zero m lt = absurd (omega (arith, lt))
kept_first (x ∷ xs) (suc n) zero lt = refl
kept_first (x ∷ xs) (suc n) (suc m) lt = kept_first xs n m (omega (arith, lt))

not_less : (n : ℕ) → nat_lt n n ≡ false
not_less n = le-ltb n n (omega arith)

-- none of the places that are not kept
pub none_opened : (test : Place → Bool) (ks : List Bool) (s : ℕ) (xs : List Place)
    → ((i : ℕ) (x : Place) → slice_get xs i ≡ Some x → kept_in ks (s + i) ≡ false → test x ≡ false)
    → list_any test (opened_among ks s xs) ≡ false
none_opened test ks s [] h = refl
none_opened test ks s (x ∷ xs) h =
    let rest : list_any test (opened_among ks (suc s) xs) ≡ false =
    none_opened test ks (suc s) xs (λ i z at lost.
    let e : s + suc i ≡ suc s + i = omega arith in
    h (suc i) z at (ap (kept_in ks) e ∙ lost)) in
    by_test (kept_in ks s) refl rest
  where
    by_test : (b : Bool) → kept_in ks s ≡ b → list_any test (opened_among ks (suc s) xs) ≡ false
        → list_any test (cond (not b) (x ∷ []) [] ++ opened_among ks (suc s) xs) ≡ false
    by_test true e rest = rest
    by_test false e rest =
        let z : s + 0 ≡ s = omega arith in
        ap₂ (λ a b. a || b) (h 0 x refl (ap (kept_in ks) z ∙ e)) rest

-- a place that hides is a node or an element
hides_large : (y : Place) (p : Path) → hides y p ≡ true → IsLarge y
hides_large (Node q) p e = λ apart. apart refl
hides_large (Element q) p e = λ apart. apart refl
hides_large (End q) p e = λ apart. true≢false (sym e)
hides_large (Name q k) p e = λ apart. true≢false (sym e)

module _ (def : Definition) (f : Fragment) (formed : IsFormed def f) (fresh : ℕ → Word) (IsGood : Fragment → Type 0) (kept : List Bool) (answers : AreAnswers IsGood def fresh f kept) (n : ℕ) (lt : n < length kept) (lost : kept_in kept n ≡ false) (x : Place) (here : slice_get (places_of def f) n ≡ Some x) where
  abbrev with_it : ℕ → Bool
  with_it = up_to (kept_in kept) n

  abbrev without_it : ℕ → Bool
  without_it = kept_of_first (kept_in kept) n

  same_but : (m : ℕ) → (m ≡ n → ⊥) → with_it m ≡ without_it m
  same_but m other = elim (cases_lt m n) [
    | inl less ↦ subst (λ b. cond b (kept_in kept m) (m == n) ≡ (b && kept_in kept m)) (sym (lt-ltb m n less)) refl
    | inr more ↦ subst (λ b. cond b (kept_in kept m) (m == n) ≡ (b && kept_in kept m)) (sym (le-ltb m n more)) (ne_eqb m n other)
  ]

  both_lost : (m : ℕ) → (m ≡ n → ⊥) → kept_in (take n kept) m ≡ false → (with_it m ≡ false) × (without_it m ≡ false)
  both_lost m other e =
      let own : without_it m ≡ false = elim (cases_lt m n) [
        | inl less ↦ ap (λ b. b && kept_in kept m) (lt-ltb m n less) ∙ sym (kept_first kept n m less) ∙ e
        | inr more ↦ ap (λ b. b && kept_in kept m) (le-ltb m n more)
      ] in
      (same_but m other ∙ own, own)

  module _ (m : ℕ) (y : Place) (there : slice_get (places_of def f) m ≡ Some y) (gone : kept_in (take n kept) m ≡ false) (other : m ≡ n → ⊥) (hidden : hides y (path_of_place x) ≡ true) where
    abbrev IsTie : ℕ → Place → Type 0
    IsTie i z = Tie def with_it without_it fresh f y (placed def f formed m y there) i z

    abbrev AreTies : ℕ → List Place → Type 0
    AreTies i zs = Ties def with_it without_it fresh f y (placed def f formed m y there) i zs

    one_tie : (i : ℕ) (z : Place) → slice_get (places_of def f) i ≡ Some z → IsTie i z
    one_tie i z at =
        let first : (with_it i ≡ without_it i) ⊎ (hides y (path_of_place z) ≡ true) = elim (cases_eq i n) [
          | inl e ↦ inr (ap (λ w. hides y (path_of_place w)) (same_at (places_of def f) n z x (subst (λ j. slice_get (places_of def f) j ≡ Some z) e at) here) ∙ hidden)
          | inr e ↦ inl (same_but i e)
        ] in (
          first,
          λ e.
              let same : m ≡ i = once_at y (places_of def f) m i (hides_large y (path_of_place x) hidden) (all_once def f formed) there (at ∙ ap Some (sym e)) in
              subst (λ j. (with_it j ≡ false) × (without_it j ≡ false)) same (both_lost m other gone),
        )

    ties_from : (s : ℕ) (xs : List Place) → ((i : ℕ) (z : Place) → slice_get xs i ≡ Some z → IsTie (s + i) z) → AreTies s xs
    ties_from s [] h = tt
    ties_from s (z ∷ xs) h =
        let e : s + 0 ≡ s = omega arith in (
          subst (λ j. IsTie j z) e (h 0 z refl),
          ties_from (s + 1) xs (λ i w at. let q : s + suc i ≡ s + 1 + i = omega arith in subst (λ j. IsTie j w) q (h (suc i) w at)),
        )

    never_hidden : ⊥
    never_hidden =
        let same : opened def with_it fresh f ≡ opened def without_it fresh f =
        same_tree def with_it without_it fresh f y (placed def f formed m y there) formed
        (ties_from 0 (places_of def f) (λ i z at. let e : i ≡ 0 + i = omega arith in subst (λ j. IsTie j z) e (one_tie i z at))) in
        let good : IsGood (opened def without_it fresh f) =
        grown def fresh f IsGood (length kept) (kept_in kept) answers.blame answers.nothing n (omega (arith, lt)) in
        true≢false (sym ((answers.blame n lt).1 (subst IsGood (sym same) good)) ∙ lost)

  not_hidden : hides x (path_of_place x) ≡ false → (i : ℕ) (y : Place) → slice_get (places_of def f) i ≡ Some y
      → kept_in (take n kept) i ≡ false → hides y (path_of_place x) ≡ false
  not_hidden self i y there gone = elim (bool_cases (hides y (path_of_place x))) [
    | inr e ↦ e
    | inl e ↦ elim (cases_eq i n) [
      | inl same ↦
          let z : y ≡ x = same_at (places_of def f) n y x (subst (λ j. slice_get (places_of def f) j ≡ Some y) same there) here in
          absurd (true≢false (sym e ∙ ap (λ w. hides w (path_of_place x)) z ∙ self))
      | inr other ↦ absurd (never_hidden i y there gone other e)
    ]
  ]

  abbrev pub gone_before : List Place
  gone_before = opened_among (take n kept) 0 (places_of def f)

  pub there_is : hides x (path_of_place x) ≡ false
      → there_of gone_before (path_of_place x) ≡ Some (moved gone_before [] (path_of_place x))
  there_is self =
      let p = path_of_place x in
      let at_number : (i : ℕ) (y : Place) → slice_get (places_of def f) i ≡ Some y → kept_in (take n kept) (0 + i) ≡ false → hides y p ≡ false =
      λ i y there gone. let e : 0 + i ≡ i = omega arith in not_hidden self i y there (ap (kept_in (take n kept)) (sym e) ∙ gone) in
      let a : is_covered gone_before p ≡ false =
      none_opened (covers p) (take n kept) 0 (places_of def f) (λ i y there gone. (or_parts (covers p y) (takes_along p y) (at_number i y there gone)).0) in
      let b : is_left_out gone_before p ≡ false =
      none_opened (takes_along p) (take n kept) 0 (places_of def f) (λ i y there gone. (or_parts (covers p y) (takes_along p y) (at_number i y there gone)).1) in
      ap₂ (λ u v. cond (u || v) None (Some (moved gone_before [] p))) a b

pub node_seen : (path : Path) → hides (Node path) path ≡ false
node_seen path = ap (λ b. (b && goes_through path path) || false) (not_less (length path))

pub end_seen : (path : Path) → hides (End path) path ≡ false
end_seen path = refl
