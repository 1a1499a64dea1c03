-- The order in which the nodes of a tree are listed.
use Rattle.std.proofs.Common.{◌≡◌, inl, inr, ℕ, ◌+◌, ◌<◌, ◌≤◌, ◌==◌, Bool, true, false, ◌&&◌, ◌||◌, List, [], ◌∷◌, ◌++◌, length, Some, slice_get, refl, ap, sym, subst, ◌∙◌, arith}
use lib.Dec.{ltb}
use Rattle.std.specs.Bool.{Decides}
use Rattle.std.proofs.lemmas.Bool.{cases_lt, false≢true}
use Rattle.std.proofs.lemmas.Bool.Decides.{Decides-and, Decides-eqb, Decides-ltb, Decides-or}
use Rattle.std.proofs.lemmas.Option.{same_Some, slice_get_within}
use Rattle.psg_grammar.specs.Paths.{Path}
use Rattle.psg_unparse.specs.declared.spans.Span.{Span}
use Rattle.psg_unparse.specs.Listing.{AreInOrder, IsEarlier}
use Rattle.psg_unparse.specs.Places.{Halves, IsBetween}
use Rattle.psg_unparse.specs.Splicing.{IsPlaceOf}

pub never_itself : (p : Path) → IsEarlier p p → ⊥
never_itself [] h = h
never_itself (k ∷ p) (inl l) = absurd (omega (arith, l))
never_itself (k ∷ p) (inr (e, r)) = never_itself p r

pub never_back : (p q : Path) → IsEarlier p q → IsEarlier q p → ⊥
never_back [] [] h g = h
never_back [] (m ∷ q) h g = g
never_back (k ∷ p) [] h g = h
never_back (k ∷ p) (m ∷ q) (inl l) (inl r) = absurd (omega (arith, l, r))
never_back (k ∷ p) (m ∷ q) (inl l) (inr (e, r)) = absurd (omega (arith, l, e))
never_back (k ∷ p) (m ∷ q) (inr (e, l)) (inl r) = absurd (omega (arith, r, e))
never_back (k ∷ p) (m ∷ q) (inr (e, l)) (inr (f, r)) = never_back p q l r

-- what goes on is later
pub earlier_on : (s : Path) (k : ℕ) (rest : Path) → IsEarlier s (s ++ k ∷ rest)
earlier_on [] k rest = tt
earlier_on (m ∷ s) k rest = inr (refl, earlier_on s k rest)

earlier_part : (s : Path) (k m : ℕ) (a b : Path) → k < m → IsEarlier (s ++ k ∷ a) (s ++ m ∷ b)
earlier_part [] k m a b lt = inl lt
earlier_part (n ∷ s) k m a b lt = inr (refl, earlier_part s k m a b lt)

-- the lower step, after the same ones, is earlier
pub parted : (s : Path) (k m : ℕ) (a b p q : Path) → p ≡ s ++ k ∷ a → q ≡ s ++ m ∷ b → k < m → IsEarlier p q
parted s k m a b p q e f lt =
    subst (λ x. IsEarlier x q) (sym e) (subst (IsEarlier (s ++ k ∷ a)) (sym f) (earlier_part s k m a b lt))

-- ---- the test

abbrev pub earlier : Path → Path → Bool
earlier [] [] = false
earlier [] (m ∷ q) = true
earlier (k ∷ p) [] = false
earlier (k ∷ p) (m ∷ q) = ltb k m || ((k == m) && earlier p q)

pub earlier_tells : (p q : Path) → Decides (earlier p q) (IsEarlier p q)
earlier_tells [] [] = (λ e. absurd (false≢true e), λ x. absurd x)
earlier_tells [] (m ∷ q) = (λ e. tt, λ x. refl)
earlier_tells (k ∷ p) [] = (λ e. absurd (false≢true e), λ x. absurd x)
earlier_tells (k ∷ p) (m ∷ q) =
    Decides-or (ltb k m) ((k == m) && earlier p q) (Decides-ltb k m)
    (Decides-and (k == m) (earlier p q) (Decides-eqb k m) (earlier_tells p q))

-- ---- the place among spans in order

module _ (spans : List Span) (order : AreInOrder spans) (path : Path) (middle : ℕ) (s : Span) (got : slice_get spans middle ≡ Some s) where
  -- what has the path is after what is earlier
  pub place_after : IsEarlier s.path path → (place : ℕ) → IsPlaceOf spans path place → middle + 1 ≤ place
  place_after before place there = elim (cases_lt middle place) [
    | inl lt ↦ omega (arith, lt)
    | inr le ↦ absurd (not_up place there le)
  ] where
    not_up : (place : ℕ) → (there : IsPlaceOf spans path place) → place ≤ middle → ⊥
    not_up place there le = elim (cases_lt place middle) [
      | inl lt ↦
          never_back s.path path before
          (subst (λ p. IsEarlier p s.path) there.path_is (order place middle there.span s lt there.found got))
      | inr ge ↦
          let at_it : place ≡ middle = omega (arith, le, ge) in
          let one : s ≡ there.span = same_Some s there.span (sym got ∙ ap (slice_get spans) (sym at_it) ∙ there.found) in
          never_itself path (subst (λ p. IsEarlier p path) (ap (λ (x : Span). x.path) one ∙ there.path_is) before)
    ]

  -- and not after what is not earlier
  pub place_before : (IsEarlier s.path path → ⊥) → (place : ℕ) → IsPlaceOf spans path place → place ≤ middle
  place_before never place there = elim (cases_lt middle place) [
    | inl lt ↦ absurd (never (subst (IsEarlier s.path) there.path_is (order middle place s there.span lt got there.found)))
    | inr le ↦ le
  ]

pub halved_up : (spans : List Span) → AreInOrder spans → (path : Path) (low high middle : ℕ) (s : Span) → slice_get spans middle ≡ Some s
    → low ≤ middle → middle < high → IsEarlier s.path path → Halves spans path low high (middle + 1) high
halved_up spans order path low high middle s got more less before = record {
  kept = λ h place there. (place_after spans order path middle s got before place there, (h place there).1);
  fewer = omega (arith, more, less);
  within = omega arith;
}

pub halved_down : (spans : List Span) → AreInOrder spans → (path : Path) (low high middle : ℕ) (s : Span) → slice_get spans middle ≡ Some s
    → low ≤ middle → middle < high → (IsEarlier s.path path → ⊥) → Halves spans path low high low middle
halved_down spans order path low high middle s got more less never = record {
  kept = λ h place there. ((h place there).0, place_before spans order path middle s got never place there);
  fewer = omega (arith, more, less);
  within = omega (arith, less);
}

pub all_between : (spans : List Span) (path : Path) → IsBetween spans path 0 (length spans)
all_between spans path place there =
    let lt : place < length spans = slice_get_within spans place there.span there.found in (omega arith, omega (arith, lt))

-- where one place is left
pub place_left : (spans : List Span) (path : Path) (low high : ℕ) → IsBetween spans path low high → high ≤ low
    → (place : ℕ) × IsPlaceOf spans path place → IsPlaceOf spans path low
place_left spans path low high h le (place, there) =
    let b = h place there in
    let at_it : place ≡ low = omega (arith, b.0, b.1, le) in
    subst (IsPlaceOf spans path) at_it there
