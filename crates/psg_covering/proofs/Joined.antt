-- The join of a row with a hole row leaves the row without its first column.
use Rattle.std.proofs.Common.{◌≡◌, inl, inr, ◌≤◌, ◌+◌, ◌-◌, ℕ, zero, suc, List, [], ◌∷◌, ◌++◌, length, map, refl, ap, sym, ◌∙◌, subst, Option, Some, slice_get, arith}
use Rattle.psg_terms.proofs.OneRelation.{sorts_length}
use Rattle.std.specs.Prelude.{IfSome, MatchOption}
use Rattle.psg_terms.specs.Terms.{Term}
use Rattle.psg_terms.specs.Signature.{HasSort, HaveSorts}
use Rattle.psg_terms.specs.Instances.{substitute, IsGroundInstance}
use Rattle.psg_unify.specs.Pairs.{AreJoinable}
use Rattle.psg_relation.specs.Choices.{pick, picked}
use Rattle.psg_relation.specs.Joining.{Joins, IsJoinOf, IsMore}
use Rattle.psg_grammar.specs.declared.types.Kind.{Kind}
use Rattle.psg_grammar.specs.declared.types.HoleRow.{HoleRow}
use Rattle.psg_grammar.specs.declared.types.Definition.{Definition}
use Rattle.psg_grammar.specs.Sound.{IsSound, HasKindSort}
use Rattle.psg_completions.proofs.RowValues.{hole_sound, one_sort}
use Rattle.psg_covering.specs.Choices.{Fits, HaveKindSorts, IsRowOf}
use Rattle.psg_covering.specs.Fronts.{IsChosen, IsNone, run}

-- ---- all columns but one

picked_tail : {X : Type 0} (x : X) (xs : List X) (from count : ℕ)
    → picked (x ∷ xs) (run (suc from) count) ≡ picked xs (run from count)
picked_tail x xs from zero = refl
picked_tail x xs from (suc count) = ap (λ l. pick (slice_get xs from) l) (picked_tail x xs (suc from) count)

picked_front : {X : Type 0} (xs ys : List X) → picked (xs ++ ys) (run 0 (length xs)) ≡ xs
picked_front [] ys = refl
picked_front (x ∷ xs) ys = ap (λ l. x ∷ l) (picked_tail x (xs ++ ys) 0 (length xs) ∙ picked_front xs ys)

pub picked_kept : {X : Type 0} (a b : X) (us ys : List X) → picked (a ∷ b ∷ (us ++ ys)) (0 ∷ run 2 (length us)) ≡ a ∷ us
picked_kept a b us ys =
    ap (λ l. a ∷ l) (picked_tail a (b ∷ (us ++ ys)) 1 (length us) ∙ picked_tail b (us ++ ys) 0 (length us) ∙ picked_front us ys)

pub run_next : (from count : ℕ) → run from count ++ (from + count) ∷ [] ≡ run from (suc count)
run_next from zero = let e : from + 0 ≡ from = omega arith in ap (λ n. n ∷ []) e
run_next from (suc count) =
    let e : from + suc count ≡ suc from + count = omega arith in
    ap (λ l. from ∷ l) (ap (λ n. run (suc from) count ++ n ∷ []) e ∙ run_next (suc from) count)

-- the columns that are kept, up to a column
pub kept_next : (column : ℕ) → 2 ≤ column → (0 ∷ run 2 (column - 2)) ++ column ∷ [] ≡ 0 ∷ run 2 (column + 1 - 2)
kept_next column le =
    let e : 2 + (column - 2) ≡ column = omega (arith, le) in
    let d : suc (column - 2) ≡ column + 1 - 2 = omega (arith, le) in
    ap (λ l. 0 ∷ l) (ap (λ n. run 2 (column - 2) ++ n ∷ []) (sym e) ∙ run_next 2 (column - 2) ∙ ap (run 2) d)

-- ---- what a join on the first column leaves

long : {X : Type 0} (t u : X) (ts : List X) → length (t ∷ u ∷ ts) - 2 ≡ length ts
long t u ts = omega arith

same_length : (f : ℕ → ℕ → Term) (ts : List Term) → length (map (substitute f) ts) ≡ length ts
same_length f [] = refl
same_length f (t ∷ ts) = let h = same_length f ts in omega (arith, h)

heads : (a b : Term) (xs ys : List Term) → a ∷ xs ≡ b ∷ ys → a ≡ b
heads a b xs ys e = let d : ◌≡◌ {A = List Term} (a ∷ xs) (b ∷ ys) = e in cc

tails : (a b : Term) (xs ys : List Term) → a ∷ xs ≡ b ∷ ys → xs ≡ ys
tails a b xs ys e = let d : ◌≡◌ {A = List Term} (a ∷ xs) (b ∷ ys) = e in cc

module _ (def : Definition) (h : HoleRow) where
  abbrev pub Makes : List Term → List ℕ → List Term → Type 0
  Makes row keep x = Joins def.signature ((1, 0) ∷ []) keep row (h.term ∷ []) x

  -- the columns that are kept of what the join is of
  module _ (t u : Term) (ts : List Term) (keep : List ℕ) (kept : keep ≡ 0 ∷ run 2 (length ts)) where
    left_of : (v : Term) (us : List Term) → Makes (t ∷ u ∷ ts) keep (v ∷ us)
        → (w : Term) × IsGroundInstance def.signature (t ∷ u ∷ ts) (v ∷ w ∷ us) × IsGroundInstance def.signature (h.term ∷ []) (w ∷ [])
    left_of v us (full, (l, r, (f, gf, el), (g, gg, er), agree, whole), x) =
        let il : l ≡ substitute f t ∷ substitute f u ∷ map (substitute f) ts = el in
        let ir : r ≡ substitute g h.term ∷ [] = er in
        let same : ◌≡◌ {A = Option Term} (Some (substitute f u)) (Some (substitute g h.term)) =
        ap (λ z. slice_get z 1) (sym il) ∙ agree.0 ∙ ap (λ z. slice_get z 0) ir in
        let meet : substitute f u ≡ substitute g h.term = cc in
        let long : length ts ≡ length (map (substitute f) ts) = sym (same_length f ts) in
        let all : full ≡ substitute f t ∷ substitute f u ∷ (map (substitute f) ts ++ substitute g h.term ∷ []) =
        whole ∙ ap (λ z. z ++ r) il ∙ ap (λ z. (substitute f t ∷ substitute f u ∷ map (substitute f) ts) ++ z) ir in
        let is : v ∷ us ≡ substitute f t ∷ map (substitute f) ts =
        x ∙ ap (picked full) (kept ∙ ap (λ n. 0 ∷ run 2 n) long) ∙ ap (λ z. picked z (0 ∷ run 2 (length (map (substitute f) ts)))) all
        ∙ picked_kept (substitute f t) (substitute f u) (map (substitute f) ts) (substitute g h.term ∷ []) in (
          substitute f u,
          (
            f,
            gf,
            ap (λ z. z ∷ substitute f u ∷ us) (heads v (substitute f t) us (map (substitute f) ts) is)
                ∙ ap (λ z. substitute f t ∷ substitute f u ∷ z) (tails v (substitute f t) us (map (substitute f) ts) is),
          ),
          (g, gg, ap (λ z. z ∷ []) meet),
        )

    made_of : (v w : Term) (us : List Term) → IsGroundInstance def.signature (t ∷ u ∷ ts) (v ∷ w ∷ us)
        → IsGroundInstance def.signature (h.term ∷ []) (w ∷ []) → Makes (t ∷ u ∷ ts) keep (v ∷ us)
    made_of v w us (f, gf, el) (g, gg, er) =
        let il : v ∷ w ∷ us ≡ substitute f t ∷ substitute f u ∷ map (substitute f) ts = el in
        let rest : us ≡ map (substitute f) ts =
        tails w (substitute f u) us (map (substitute f) ts) (tails v (substitute f t) (w ∷ us) (substitute f u ∷ map (substitute f) ts) il) in
        let many : length ts ≡ length us = sym (same_length f ts) ∙ ap length (sym rest) in (
          v ∷ w ∷ (us ++ w ∷ []),
          (v ∷ w ∷ us, w ∷ [], (f, gf, el), (g, gg, er), (refl, tt), refl),
          sym (ap (picked (v ∷ w ∷ (us ++ w ∷ []))) (kept ∙ ap (λ n. 0 ∷ run 2 n) many) ∙ picked_kept v w us (w ∷ [])),
        )

    join_chosen : (made : List Term) → IsJoinOf def.signature ((1, 0) ∷ []) keep (t ∷ u ∷ ts) (h.term ∷ []) made
        → IsChosen def (t ∷ u ∷ ts) h made
    join_chosen made j v us = (
      λ g. left_of v us (j.to (v ∷ us) g),
      λ (w, g, k). j.back (v ∷ us) (made_of v w us g k),
    )

    join_none : ((x : List Term) → Makes (t ∷ u ∷ ts) keep x → ⊥) → IsNone def (t ∷ u ∷ ts) h
    join_none none v w us g k = none (v ∷ us) (made_of v w us g k)

  module _ (sound : IsSound def) where
    hole_of : (slot : Kind) (s r : ℕ) → HasKindSort def slot s → IsRowOf def slot r h → HasSort def.signature h.term s
    hole_of slot s r of_kind (at, same) =
        let whole = hole_sound def sound r h at in
        subst (HasSort def.signature h.term) (one_sort def slot whole.sort s (subst (λ k. HasKindSort def k whole.sort) same whole.kind_sort) of_kind) whole.term.0

    pub may_join : (kind slot : Kind) (ks : List Kind) (row : List Term) (r : ℕ) → Fits def kind (slot ∷ ks) row
        → IsRowOf def slot r h → AreJoinable def.signature row (h.term ∷ []) ((1, 0) ∷ [])
    may_join kind slot ks row r fits of = by fits.sorts fits.of_slots fits.sorted where
      by : (sorts : List ℕ) → HaveKindSorts def (slot ∷ ks) sorts → HaveSorts def.signature row (fits.head ∷ sorts)
          → AreJoinable def.signature row (h.term ∷ []) ((1, 0) ∷ [])
      by [] of_slots sorted = absurd of_slots
      by (s ∷ ss) of_slots sorted = record {
        left_sorts = fits.head ∷ s ∷ ss;
        right_sorts = s ∷ [];
        left_sorted = sorted;
        right_sorted = (hole_of slot s r of_slots.0 of, tt);
        equal = ((s, refl, refl), tt);
      }

    -- the row is a head, a column and further columns
    pub wide : (kind slot : Kind) (ks : List Kind) (row : List Term) → Fits def kind (slot ∷ ks) row
        → (t : Term) × (u : Term) × (ts : List Term) × (row ≡ t ∷ u ∷ ts)
    wide kind slot ks row fits = by fits.sorts row fits.of_slots fits.sorted where
      by : (sorts : List ℕ) (row : List Term) → HaveKindSorts def (slot ∷ ks) sorts → HaveSorts def.signature row (fits.head ∷ sorts)
          → (t : Term) × (u : Term) × (ts : List Term) × (row ≡ t ∷ u ∷ ts)
      by [] row of_slots sorted = absurd of_slots
      by (s ∷ ss) [] of_slots sorted = absurd sorted
      by (s ∷ ss) (t ∷ []) of_slots sorted = absurd sorted.1
      by (s ∷ ss) (t ∷ u ∷ ts) of_slots sorted = (t, u, ts, refl)

    pub chosen_some : (kind slot : Kind) (ks : List Kind) (row made : List Term) (keep : List ℕ) → Fits def kind (slot ∷ ks) row
        → keep ≡ 0 ∷ run 2 (length row - 2) → IsJoinOf def.signature ((1, 0) ∷ []) keep row (h.term ∷ []) made → IsChosen def row h made
    chosen_some kind slot ks row made keep fits kept j =
        let (t, u, ts, e) = wide kind slot ks row fits in
        subst (λ z. IsChosen def z h made) (sym e)
        (join_chosen t u ts keep (kept ∙ ap (λ z. 0 ∷ run 2 (length z - 2)) e ∙ ap (λ n. 0 ∷ run 2 n) (long t u ts)) made
        (subst (λ z. IsJoinOf def.signature ((1, 0) ∷ []) keep z (h.term ∷ []) made) e j))

    pub chosen_none : (kind slot : Kind) (ks : List Kind) (row : List Term) (keep : List ℕ) → Fits def kind (slot ∷ ks) row
        → keep ≡ 0 ∷ run 2 (length row - 2) → ((x : List Term) → Makes row keep x → ⊥) → IsNone def row h
    chosen_none kind slot ks row keep fits kept none =
        let (t, u, ts, e) = wide kind slot ks row fits in
        subst (λ z. IsNone def z h) (sym e)
        (join_none t u ts keep (kept ∙ ap (λ z. 0 ∷ run 2 (length z - 2)) e ∙ ap (λ n. 0 ∷ run 2 n) (long t u ts))
        (subst (λ z. (x : List Term) → Makes z keep x → ⊥) e none))

    pub chosen_fits : (kind slot : Kind) (ks : List Kind) (row made : List Term) (keep : List ℕ) (r : ℕ) → Fits def kind (slot ∷ ks) row
        → IsRowOf def slot r h → keep ≡ 0 ∷ run 2 (length row - 2)
        → IsJoinOf def.signature ((1, 0) ∷ []) keep row (h.term ∷ []) made → Fits def kind ks made
    chosen_fits kind slot ks row made keep r fits of kept j = by fits.sorts row fits.of_slots fits.sorted kept j.sorted where
      by : (sorts : List ℕ) (row : List Term) → HaveKindSorts def (slot ∷ ks) sorts → HaveSorts def.signature row (fits.head ∷ sorts)
          → keep ≡ 0 ∷ run 2 (length row - 2)
          → ((ls rs : List ℕ) → HaveSorts def.signature row ls → HaveSorts def.signature (h.term ∷ []) rs → HaveSorts def.signature made (picked (ls ++ rs) keep))
          → Fits def kind ks made
      by [] row of_slots sorted kept has = absurd of_slots
      by (s ∷ ss) [] of_slots sorted kept has = absurd sorted
      by (s ∷ ss) (t ∷ []) of_slots sorted kept has = absurd sorted.1
      by (s ∷ ss) (t ∷ u ∷ ts) of_slots sorted kept has =
          let many : length ts ≡ length ss = sorts_length def.signature ts ss sorted.1.1 in
          let columns : keep ≡ 0 ∷ run 2 (length ss) = kept ∙ ap (λ n. 0 ∷ run 2 n) (long t u ts ∙ many) in
          record {
            head = fits.head;
            of_head = fits.of_head;
            sorts = ss;
            of_slots = of_slots.1;
            sorted = subst (HaveSorts def.signature made)
                (ap (picked (fits.head ∷ s ∷ (ss ++ s ∷ []))) columns ∙ picked_kept fits.head s ss (s ∷ []))
                (has (fits.head ∷ s ∷ ss) (s ∷ []) sorted (hole_of slot s r of_slots.0 of, tt));
            written = j.ready.written;
          }

    -- ---- the first of the rows that are made

    module _ (kind slot : Kind) (ks : List Kind) (row right : List Term) (keep items : List ℕ) (none made rows : List (List Term)) (o : Option (List Term)) where
      abbrev IsMade : Type 0
      IsMade = IsMore def.signature ((1, 0) ∷ []) keep row right none made

      pub first_chosen : Fits def kind (slot ∷ ks) row → right ≡ h.term ∷ [] → keep ≡ items → items ≡ 0 ∷ run 2 (length row - 2) → none ≡ []
          → IsMade → rows ≡ made → o ≡ slice_get rows 0 → MatchOption o (IsNone def row h) (IsChosen def row h)
      first_chosen fits r k i n (inl (empty, e)) same at =
          subst (λ p. MatchOption p (IsNone def row h) (IsChosen def row h)) (sym (at ∙ ap (λ l. slice_get l 0) (same ∙ e ∙ n)))
          (chosen_none kind slot ks row keep fits (k ∙ i) (subst (λ l. (x : List Term) → Joins def.signature ((1, 0) ∷ []) keep row l x → ⊥) r empty))
      first_chosen fits r k i n (inr (m, j, e)) same at =
          subst (λ p. MatchOption p (IsNone def row h) (IsChosen def row h)) (sym (at ∙ ap (λ l. slice_get l 0) (same ∙ e ∙ ap (λ l. l ++ m ∷ []) n)))
          (chosen_some kind slot ks row m keep fits (k ∙ i) (subst (λ l. IsJoinOf def.signature ((1, 0) ∷ []) keep row l m) r j))

      pub first_fits : (number : ℕ) → Fits def kind (slot ∷ ks) row → IsRowOf def slot number h → right ≡ h.term ∷ [] → keep ≡ items → items ≡ 0 ∷ run 2 (length row - 2) → none ≡ []
          → IsMade → rows ≡ made → o ≡ slice_get rows 0 → IfSome o (Fits def kind ks)
      first_fits number fits of r k i n (inl (empty, e)) same at =
          subst (λ p. IfSome p (Fits def kind ks)) (sym (at ∙ ap (λ l. slice_get l 0) (same ∙ e ∙ n))) tt
      first_fits number fits of r k i n (inr (m, j, e)) same at =
          subst (λ p. IfSome p (Fits def kind ks)) (sym (at ∙ ap (λ l. slice_get l 0) (same ∙ e ∙ ap (λ l. l ++ m ∷ []) n)))
          (chosen_fits kind slot ks row m keep number fits of (k ∙ i) (subst (λ l. IsJoinOf def.signature ((1, 0) ∷ []) keep row l m) r j))
