-- Two relations of one family have rows of the same texts, in the same order. Where texts tell rows, they are one list.
use Rattle.std.proofs.Common.{◌≡◌, ◌⊎◌, inl, inr, ℕ, false, List, [], ◌∷◌, map, IsTrue, refl, sym, ◌∙◌, ap, ap₂, subst, nat_cmp, ◌<◌, ◌^◌}
use Rattle.std.specs.Ordering.{is_le, is_gt, ordering_reverse}
use Rattle.std.specs.Cmp.Lexicographic.{slice_cmp, nat_list_cmp_total}
use Rattle.std.specs.FinMap as map_laws
use Rattle.std.specs.declared.cmp.Ordering.{Ordering}
use Rattle.std.specs.declared.cmp.Ordering.TheVariants.{Less, Equal, Greater}
use Rattle.std.proofs.lemmas.Bool.{true≢false}
use Rattle.std.proofs.lemmas.Cmp.{upto, tied_itself}
use Rattle.psg_terms.proofs.Lists.{in_cases}
use Rattle.psg_terms.specs.Terms.{Term}
use Rattle.psg_terms.specs.Signature.{Signature}
use Rattle.psg_terms.specs.Sound.{IsSound}
use Rattle.psg_terms.specs.Text.{row_text, IsInTextOrder}
use Rattle.psg_terms.specs.Relations.{IsIn, first, later, IsOnce, IsRelation}
use Rattle.psg_terms.specs.Weight.{weight_of}
use Rattle.psg_terms.specs.Clear.{HasClearNames}
use Rattle.psg_terms.proofs.OneRelation.{same_rows, same_sorts}
use Rattle.psg_terms.proofs.TextTells.{row_tells, member-narrow}

-- ---- the order of texts

-- no text is above itself or below one that it is above
abbrev IsUpto : List ℕ → List ℕ → Type 0
IsUpto a b = is_gt (slice_cmp nat_cmp a b) ≡ false

le_upto : (o : Ordering) → IsTrue (is_le o) → is_gt o ≡ false
le_upto Less h = refl
le_upto Equal h = refl
le_upto Greater h = absurd (true≢false (sym h))

both_equal : (o : Ordering) → is_gt o ≡ false → is_gt (ordering_reverse o) ≡ false → o ≡ Equal
both_equal Less h g = absurd (true≢false g)
both_equal Equal h g = refl
both_equal Greater h g = absurd (true≢false h)

upto_itself : (a : List ℕ) → IsUpto a a
upto_itself a = ap is_gt (tied_itself nat_list_cmp_total a)

upto_both : (a b : List ℕ) → IsUpto a b → IsUpto b a → a ≡ b
upto_both a b h g =
    map_laws.slice_cmp-IsAntisymmetric map_laws.nat_cmp-IsAntisymmetric a b
    (both_equal (slice_cmp nat_cmp a b) h (ap is_gt (sym (nat_list_cmp_total.antisymm b a)) ∙ g))

-- ---- a list without one of its members

abbrev without : {X : Type 0} (x : X) (xs : List X) → IsIn x xs → List X
without x [] h = elim h [ ]
without x (y ∷ xs) first = xs
without x (y ∷ xs) (later h) = y ∷ without x xs h

was_in : {X : Type 0} (x z : X) (xs : List X) (h : IsIn x xs) → IsIn z (without x xs h) → IsIn z xs
was_in x z [] h k = elim h [ ]
was_in x z (y ∷ xs) first k = later k
was_in x z (y ∷ xs) (later h) first = first
was_in x z (y ∷ xs) (later h) (later k) = later (was_in x z xs h k)

stays_in : {X : Type 0} (x z : X) (xs : List X) (h : IsIn x xs) → IsIn z xs → (z ≡ x) ⊎ IsIn z (without x xs h)
stays_in x z [] h k = elim h [ ]
stays_in x z (y ∷ xs) first first = inl refl
stays_in x z (y ∷ xs) first (later k) = inr k
stays_in x z (y ∷ xs) (later h) first = inr first
stays_in x z (y ∷ xs) (later h) (later k) = elim (stays_in x z xs h k) [ inl e ↦ inl e | inr m ↦ inr (later m) ]

rest_once : {X : Type 0} (x : X) (xs : List X) (h : IsIn x xs) → IsOnce xs → IsOnce (without x xs h)
rest_once x [] h once = elim h [ ]
rest_once x (y ∷ xs) first once = once.1
rest_once x (y ∷ xs) (later h) once = ((λ k. once.0 (was_in x y xs h k)), rest_once x xs h once.1)

gone : {X : Type 0} (x : X) (xs : List X) (h : IsIn x xs) → IsOnce xs → IsIn x (without x xs h) → ⊥
gone x [] h once k = elim h [ ]
gone x (y ∷ xs) first once k = once.0 k
gone x (y ∷ xs) (later h) once first = once.0 h
gone x (y ∷ xs) (later h) once (later k) = gone x xs h once.1 k

module _ {X : Type 0} (key : X → List ℕ) where
  -- each key is up to those behind it
  abbrev Rises : List X → Type 0
  Rises [] = Unit {0}
  Rises (x ∷ xs) = ((y : X) → IsIn y xs → IsUpto (key x) (key y)) × Rises xs

  rest_rises : (x : X) (xs : List X) (h : IsIn x xs) → Rises xs → Rises (without x xs h)
  rest_rises x [] h up = elim h [ ]
  rest_rises x (y ∷ xs) first up = up.1
  rest_rises x (y ∷ xs) (later h) up = ((λ z k. up.0 z (was_in x z xs h k)), rest_rises x xs h up.1)

  least_of : (x : X) (xs : List X) → Rises (x ∷ xs) → (y : X) → IsIn y (x ∷ xs) → IsUpto (key x) (key y)
  least_of x xs up y first = upto_itself (key y)
  least_of x xs up y (later k) = up.0 y k

  -- what stands before a member whose key is the least has the same key
  pulled : (x : X) (xs : List X) (h : IsIn x xs) → Rises xs → ((y : X) → IsIn y xs → IsUpto (key x) (key y))
      → map key xs ≡ key x ∷ map key (without x xs h)
  pulled x [] h up least = elim h [ ]
  pulled x (y ∷ xs) first up least = refl
  pulled x (y ∷ xs) (later h) up least =
      let same : key y ≡ key x = upto_both (key y) (key x) (up.0 x h) (least y first) in
      ap₂ (λ (k : List ℕ) (l : List (List ℕ)). k ∷ l) same (pulled x xs h up.1 (λ z k. least z (later k)))
      ∙ ap (λ (k : List ℕ). key x ∷ (k ∷ map key (without x xs h))) (sym same)

  -- lists in order with the same members, each once, have the same keys
  same_keys : (xs ys : List X) → IsOnce xs → IsOnce ys → Rises xs → Rises ys → ((z : X) → IsIn z xs → IsIn z ys)
      → ((z : X) → IsIn z ys → IsIn z xs) → map key xs ≡ map key ys
  same_keys [] [] once other up upper to back = refl
  same_keys [] (y ∷ ys) once other up upper to back = elim (back y first) [ ]
  same_keys (x ∷ xs) ys once other up upper to back =
      let h : IsIn x ys = to x first in
      let forth = λ (z : X) (k : IsIn z xs). elim (stays_in x z ys h (to z (later k))) as
      (λ _. IsIn z (without x ys h)) [
        | inl e ↦ absurd (once.0 (subst (λ w. IsIn w xs) e k))
        | inr m ↦ m
      ] in
      let again = λ (z : X) (k : IsIn z (without x ys h)). elim (in_cases z x xs (back z (was_in x z ys h k))) as
      (λ _. IsIn z xs) [
        | inl e ↦ absurd (gone x ys h other (subst (λ w. IsIn w (without x ys h)) e k))
        | inr m ↦ m
      ] in
      ap (λ (l : List (List ℕ)). key x ∷ l) (same_keys xs (without x ys h) once.1 (rest_once x ys h other) up.1
      (rest_rises x ys h upper) forth again)
      ∙ sym (pulled x ys h upper (λ y k. least_of x xs up y (back y k)))

-- two lists of the same keys, where keys tell members, are equal
same_members : {X : Type 0} (key : X → List ℕ) (xs ys : List X) → ((x y : X) → IsIn x xs → IsIn y ys → key x ≡ key y → x ≡ y)
    → map key xs ≡ map key ys → xs ≡ ys
same_members key [] [] tells e = refl
same_members key [] (y ∷ ys) tells e = absurd (cc)
same_members key (x ∷ xs) [] tells e = absurd (cc)
same_members {X} key (x ∷ xs) (y ∷ ys) tells e =
    let front : key x ≡ key y = cc in
    let rest : map key xs ≡ map key ys = cc in
    ap₂ (λ (z : X) (l : List X). z ∷ l) (tells x y first first front) (same_members key xs ys (λ a b h k. tells a b (later h) (later k)) rest)

-- ---- relations

-- a first row that is up to the next one is up to all behind it
rises_on : (sig : Signature) (r s : List Term) (rest : List (List Term))
    → IsTrue (is_le (slice_cmp nat_cmp (row_text sig r) (row_text sig s)))
    → Rises (row_text sig) (s ∷ rest) → Rises (row_text sig) (r ∷ s ∷ rest)
rises_on sig r s rest low up = (
  (λ y k. upto nat_list_cmp_total (row_text sig r) (row_text sig s) (row_text sig y)
      (le_upto (slice_cmp nat_cmp (row_text sig r) (row_text sig s)) low)
      (least_of (row_text sig) s rest up y k)),
  up,
)

rises : (sig : Signature) (rows : List (List Term)) → IsInTextOrder sig rows → Rises (row_text sig) rows
rises sig [] order = tt
rises sig (r ∷ []) order = ((λ y k. elim k [ ]), tt)
rises sig (r ∷ s ∷ rest) (low, order) = rises_on sig r s rest low (rises sig (s ∷ rest) order)

module _ (sig : Signature) (sound : IsSound sig) {C : Type 0} (Possible : C → List Term → Type 0) (ls rs : List ℕ) (rows others : List (List Term)) (l : IsRelation sig ls Possible rows) (r : IsRelation sig rs Possible others) where
  there : (z : List Term) → IsIn z rows → IsIn z others
  there = same_rows sig sound Possible ls rs rows others l r

  back : (z : List Term) → IsIn z others → IsIn z rows
  back = same_rows sig sound Possible rs ls others rows r l

  pub same_row_texts : map (row_text sig) rows ≡ map (row_text sig) others
  same_row_texts = same_keys (row_text sig) rows others l.once r.once (rises sig rows l.order) (rises sig others r.order) there back

  -- where constructors have clear names, two relations are one list, as long as its weight is written in 64 bits
  pub one_list : HasClearNames sig → weight_of rows < 2 ^ 64 → rows ≡ others
  one_list clear small =
      same_members (row_text sig) rows others
      (λ x y h k e.
      let here = back y k in
      row_tells sig clear sound.constructor_names x y ls (l.shapes x h).sorted (l.shapes y here).sorted
      (member-narrow sig rows x h (l.shapes x h).canonical small) (member-narrow sig rows y here (l.shapes y here).canonical small) e)
      same_row_texts
