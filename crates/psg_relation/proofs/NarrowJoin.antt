-- The join of two rows is that of the narrow rows, with the other columns shared.
use Rattle.std.proofs.Common.{◌≡◌, ℕ, ◌<◌, ◌+◌, ◌≤◌, ◌↔◌, inl, inr, List, [], ◌∷◌, ◌++◌, All, map, length, zero, suc, refl, ap, ap₂, sym, ◌∙◌, subst, Some, slice_get, arith, length-append, append-nil}
use Rattle.std.proofs.lemmas.List.{map-append, length-map}
use Rattle.std.proofs.lemmas.List.Elements.{All-head, All-tail}
use Rattle.std.proofs.lemmas.Option.{same_Some}
use Rattle.psg_terms.proofs.OneRelation.{sorts_length, sorts_once}
use Rattle.psg_terms.proofs.Lists.{slice_get_some, slice_get-front}
use Rattle.psg_terms.specs.Terms.{Term}
use Rattle.psg_terms.specs.Signature.{Signature, HaveSorts}
use Rattle.psg_terms.specs.Sound.{IsSound}
use Rattle.psg_terms.specs.Weight.{above_of}
use Rattle.psg_terms.specs.Canonical.{IsCanonical, IsNumberedFrom, noted_all, variables_of, AreWrittenOut}
use Rattle.psg_terms.specs.Instances.{Substitution, substitute, IsGroundInstance}
use Rattle.psg_terms.proofs.Recognising.{substitute-closed}
use Rattle.psg_terms.proofs.Renumbering.{HaveSorts-substitute}
use Rattle.psg_terms.proofs.Separate.{grounding}
use Rattle.psg_terms.proofs.SoundChoices.{choices}
use Rattle.psg_unify.specs.Pairs.{Pair, AgreeOn, AreOfEqualSort, AreJoinable, IsAgreeing}
use Rattle.psg_unify.specs.Columns.{pick, picked, Joins}
use Rattle.psg_unify.proofs.Theorem.{sorts-append}
use Rattle.psg_relation.specs.Joining.{IsJoinOf}
use Rattle.psg_relation.specs.Narrowing.{ArePaired, IsMoved, IsShared, IsNarrow, IsPlace, number_of, numbers, spots}
use Rattle.psg_relation.specs.Selecting.{diagonal}
use Rattle.psg_relation.specs.declared.narrowing.Narrow.{Narrow}
use Rattle.psg_relation.specs.declared.narrowing.Place.{Place}
use Rattle.psg_relation.proofs.Columns.{map-picked, picked-sorts}
use Rattle.psg_relation.proofs.Unsolved.{get-right}
use Rattle.psg_relation.proofs.NarrowPlans.{plans_picked, plans_written, sides_within}
use Rattle.psg_relation.proofs.Pairing.{value_at}
use Rattle.psg_relation.proofs.Selected.{diagonal-tail, get-left}

-- ---- pairs of columns with equal numbers

front_same : (a b us vs : List Term) → length a ≡ length b → AgreeOn (diagonal 0 (length a)) (a ++ us) (b ++ vs) → a ≡ b
front_same [] [] us vs e h = refl
front_same [] (y ∷ b) us vs e h = absurd (omega (arith, e))
front_same (x ∷ a) [] us vs e h = absurd (omega (arith, e))
front_same (x ∷ a) (y ∷ b) us vs e h =
    let d : x ≡ y = same_Some x y h.0 in
    ap₂ (λ z zs. z ∷ zs) d (front_same a b us vs (omega (arith, e)) (diagonal-tail (length a) 0 x y (a ++ us) (b ++ vs) h.1))

front_self : (k n : ℕ) (a us vs : List Term) → k + n ≤ length a → AgreeOn (diagonal k n) (a ++ us) (a ++ vs)
front_self k zero a us vs l = tt
front_self k (suc n) a us vs l = (get-left a us k (omega (arith, l)) ∙ sym (get-left a vs k (omega (arith, l))), front_self (suc k) n a us vs (omega (arith, l)))

front_sorts : (k n : ℕ) (ss us vs : List ℕ) → k + n ≤ length ss → AreOfEqualSort (ss ++ us) (ss ++ vs) (diagonal k n)
front_sorts k zero ss us vs l = tt
front_sorts k (suc n) ss us vs l =
    let (s, e) = slice_get_some ss k (omega (arith, l)) in
    ((s, get-left ss us k (omega (arith, l)) ∙ e, get-left ss vs k (omega (arith, l)) ∙ e), front_sorts (suc k) n ss us vs (omega (arith, l)))

-- ---- columns of rows

picked-get : {X : Type 0} (V : List X) (keep : List ℕ) (q j : ℕ) (v : X) → All (λ (k : ℕ). k < length V) keep → slice_get keep q ≡ Some j → slice_get V j ≡ Some v → slice_get (picked V keep) q ≡ Some v
picked-get V [] q j v h e d = absurd (cc)
picked-get V (a ∷ keep) zero j v h e d =
    let same : a ≡ j = same_Some a j e in
    ap (λ o. slice_get (pick o (picked V keep)) 0) (ap (slice_get V) same ∙ d)
picked-get V (a ∷ keep) (suc q) j v h e d =
    let (x, ex) = slice_get_some V a (All-head (λ (k : ℕ). k < length V) a keep h) in
    ap (λ o. slice_get (pick o (picked V keep)) (suc q)) ex ∙ picked-get V keep q j v (All-tail (λ (k : ℕ). k < length V) a keep h) e d

picked-many : {X : Type 0} (V : List X) (keep : List ℕ) → All (λ (k : ℕ). k < length V) keep → length (picked V keep) ≡ length keep
picked-many V [] h = refl
picked-many V (a ∷ keep) h =
    let (x, ex) = slice_get_some V a (All-head (λ (k : ℕ). k < length V) a keep h) in
    let rest = picked-many V keep (All-tail (λ (k : ℕ). k < length V) a keep h) in
    ap (λ o. length (pick o (picked V keep))) ex ∙ (let e : suc (length (picked V keep)) ≡ suc (length keep) = ap suc rest in e)

closed_both : (f g : Substitution) (left right : List Term) (k : ℕ) (t : Term) → slice_get (left ++ right) k ≡ Some t → above_of t ≡ 0 → slice_get (map (substitute f) left ++ map (substitute g) right) k ≡ Some t
closed_both f g [] right k t e c = value_at g right k t e ∙ ap (λ (x : Term). Some x) (substitute-closed g t c)
closed_both f g (x ∷ left) right zero t e c = let d : x ≡ t = same_Some x t e in ap (λ (y : Term). Some y) (ap (substitute f) d ∙ substitute-closed f t c)
closed_both f g (x ∷ left) right (suc k) t e c = closed_both f g left right k t e c

module _ (sig : Signature) (sound : IsSound sig) (left right : List Term) (pairs : List Pair) (keep : List ℕ) (j : AreJoinable sig left right pairs) (n : Narrow) (h : IsNarrow left right pairs keep n) where
  abbrev lefts : List Term
  lefts = n.lefts.items

  abbrev rights : List Term
  rights = n.rights.items

  abbrev keeps : List ℕ
  keeps = numbers (length n.lefts.items) n.keep.items

  abbrev places : List ℕ
  places = spots (length n.keep.items) n.places.items

  keep_count : length keeps ≡ length n.keep.items
  keep_count = length-map n.keep.items (number_of (length n.lefts.items))

  abbrev inner : List Pair
  inner = diagonal 0 n.front

  abbrev paired : ArePaired sig left right pairs h.lefts h.rights
  paired = h.paired sig j

  front_is : n.front ≡ length paired.sorts
  front_is = h.front ∙ sorts_length sig h.lefts paired.sorts paired.left_sorted

  same_count : length h.lefts ≡ length h.rights
  same_count = sorts_length sig h.lefts paired.sorts paired.left_sorted ∙ sym (sorts_length sig h.rights paired.sorts paired.right_sorted)

  abbrev left_more : (ss : List ℕ) × HaveSorts sig h.planned.more_left ss
  left_more = h.planned.left_typed sig j.left_sorts j.left_sorted

  abbrev right_more : (ss : List ℕ) × HaveSorts sig h.planned.more_right ss
  right_more = h.planned.right_typed sig j.right_sorts j.right_sorted

  pub narrow_joinable : AreJoinable sig lefts rights inner
  narrow_joinable = record {
    left_sorts = paired.sorts ++ left_more.0;
    right_sorts = paired.sorts ++ right_more.0;
    left_sorted = subst (λ r. HaveSorts sig r (paired.sorts ++ left_more.0)) (sym h.planned.lefts_are) (sorts-append sig h.lefts h.planned.more_left paired.sorts left_more.0 paired.left_sorted left_more.1);
    right_sorted = subst (λ r. HaveSorts sig r (paired.sorts ++ right_more.0)) (sym h.planned.rights_are) (sorts-append sig h.rights h.planned.more_right paired.sorts right_more.0 paired.right_sorted right_more.1);
    equal = front_sorts 0 n.front paired.sorts left_more.0 right_more.0 (omega (arith, front_is));
  }

  -- the front of the rows under substitutions
  left_under : (f : Substitution) → map (substitute f) lefts ≡ map (substitute f) h.lefts ++ map (substitute f) h.planned.more_left
  left_under f = ap (map (substitute f)) h.planned.lefts_are ∙ map-append (substitute f) h.lefts h.planned.more_left

  right_under : (g : Substitution) → map (substitute g) rights ≡ map (substitute g) h.rights ++ map (substitute g) h.planned.more_right
  right_under g = ap (map (substitute g)) h.planned.rights_are ∙ map-append (substitute g) h.rights h.planned.more_right

  front_count : (f : Substitution) → n.front ≡ length (map (substitute f) h.lefts)
  front_count f = h.front ∙ sym (length-map h.lefts (substitute f))

  to_pairs : (f g : Substitution) → AgreeOn inner (map (substitute f) lefts) (map (substitute g) rights) → AgreeOn pairs (map (substitute f) left) (map (substitute g) right)
  to_pairs f g a =
      let b = subst (λ r. AgreeOn inner (map (substitute f) h.lefts ++ map (substitute f) h.planned.more_left) r) (right_under g) (subst (λ l. AgreeOn inner l (map (substitute g) rights)) (left_under f) a) in
      let c = subst (λ m. AgreeOn (diagonal 0 m) (map (substitute f) h.lefts ++ map (substitute f) h.planned.more_left) (map (substitute g) h.rights ++ map (substitute g) h.planned.more_right)) (front_count f) b in
      paired.back f g (front_same (map (substitute f) h.lefts) (map (substitute g) h.rights) (map (substitute f) h.planned.more_left) (map (substitute g) h.planned.more_right)
      (length-map h.lefts (substitute f) ∙ same_count ∙ sym (length-map h.rights (substitute g))) c)

  from_pairs : (f g : Substitution) → AgreeOn pairs (map (substitute f) left) (map (substitute g) right) → AgreeOn inner (map (substitute f) lefts) (map (substitute g) rights)
  from_pairs f g a =
      let e = paired.to f g a in
      let fc = front_count f in
      let c = front_self 0 n.front (map (substitute f) h.lefts) (map (substitute f) h.planned.more_left) (map (substitute g) h.planned.more_right) (omega (arith, fc)) in
      let d = subst (λ x. AgreeOn inner (map (substitute f) h.lefts ++ map (substitute f) h.planned.more_left) (x ++ map (substitute g) h.planned.more_right)) e c in
      subst (λ r. AgreeOn inner (map (substitute f) lefts) r) (sym (right_under g)) (subst (λ l. AgreeOn inner l (map (substitute g) h.rights ++ map (substitute g) h.planned.more_right)) (sym (left_under f)) d)

  module _ (within : All (λ (k : ℕ). k < length lefts + length rights) keeps) where
    abbrev solved_under : Substitution → Substitution → List Term
    solved_under f g = map (substitute f) lefts ++ map (substitute g) rights

    abbrev whole_under : Substitution → Substitution → List Term
    whole_under f g = map (substitute f) left ++ map (substitute g) right

    within_under : (f g : Substitution) → All (λ (k : ℕ). k < length (solved_under f g)) keeps
    within_under f g =
        let a = length-append (map (substitute f) lefts) (map (substitute g) rights) in
        let b = length-map lefts (substitute f) in
        let c = length-map rights (substitute g) in
        let e : length lefts + length rights ≡ length (solved_under f g) = omega (arith, a, b, c) in
        subst (λ m. All (λ (k : ℕ). k < m) keeps) e within

    -- by the places the solved columns and the shared ones are the kept ones
    placed : (f g u : Substitution) → picked (picked (solved_under f g) keeps ++ map (substitute u) (left ++ right)) places ≡ picked (whole_under f g) keep
    placed f g u =
        plans_picked (IsMoved left right lefts rights (length lefts) keeps) (IsShared left right (length n.keep.items))
        ((picked (solved_under f g) keeps) ++ map (substitute u) (left ++ right)) (whole_under f g) moved shared 0 (length n.keep.items) keep places h.planned.plan
      where
        at_left : (l r : List Term) (i k : ℕ) (v : Term) → slice_get r i ≡ Some v → k ≡ length l + i → slice_get (l ++ r) k ≡ Some v
        at_left l r i k v e d = ap (slice_get (l ++ r)) d ∙ get-right l r i ∙ e

        moved : (k q : ℕ) → IsMoved left right lefts rights (length lefts) keeps k q → slice_get ((picked (solved_under f g) keeps) ++ map (substitute u) (left ++ right)) q ≡ slice_get (whole_under f g) k
        moved k q (inl (t, i, a, b, c)) =
            slice_get-front (picked (solved_under f g) keeps) (map (substitute u) (left ++ right)) q (substitute f t)
            (picked-get (solved_under f g) keeps q i (substitute f t) (within_under f g) c (slice_get-front (map (substitute f) lefts) (map (substitute g) rights) i (substitute f t) (value_at f lefts i t b)))
            ∙ sym (slice_get-front (map (substitute f) left) (map (substitute g) right) k (substitute f t) (value_at f left k t a))
        moved k q (inr (t, i, m, e, a, b, c)) =
            slice_get-front (picked (solved_under f g) keeps) (map (substitute u) (left ++ right)) q (substitute g t)
            (picked-get (solved_under f g) keeps q (length lefts + m) (substitute g t) (within_under f g) c
            (at_left (map (substitute f) lefts) (map (substitute g) rights) m (length lefts + m) (substitute g t) (value_at g rights m t b) (ap (λ (z : ℕ). z + m) (sym (length-map lefts (substitute f))))))
            ∙ sym (at_left (map (substitute f) left) (map (substitute g) right) i k (substitute g t) (value_at g right i t a) (e ∙ ap (λ (z : ℕ). z + i) (sym (length-map left (substitute f)))))

        shared : (k q : ℕ) → IsShared left right (length n.keep.items) k q → slice_get ((picked (solved_under f g) keeps) ++ map (substitute u) (left ++ right)) q ≡ slice_get (whole_under f g) k
        shared k q ((t, a, c), e) =
            at_left (picked (solved_under f g) keeps) (map (substitute u) (left ++ right)) k q t (value_at u (left ++ right) k t a ∙ ap (λ (x : Term). Some x) (substitute-closed u t c)) (e ∙ ap (λ (z : ℕ). z + k) (sym (picked-many (solved_under f g) keeps (within_under f g) ∙ keep_count)))
            ∙ sym (closed_both f g left right k t a c)

    module _ (solved row : List Term) (row_is : row ≡ picked (solved ++ (left ++ right)) places) (canonical : IsCanonical sig solved) (count : length solved ≡ length n.keep.items)
        (exact : (y : List Term) → IsGroundInstance sig solved y ↔ Joins sig inner keeps lefts rights y)
        (sorted : (ls rs : List ℕ) → HaveSorts sig lefts ls → HaveSorts sig rights rs → HaveSorts sig solved (picked (ls ++ rs) keeps)) where
      row_under : (u : Substitution) → map (substitute u) row ≡ picked (map (substitute u) solved ++ map (substitute u) (left ++ right)) places
      row_under u = ap (map (substitute u)) row_is ∙ map-picked u (solved ++ (left ++ right)) places ∙ ap (λ z. picked z places) (map-append (substitute u) solved (left ++ right))

      row_placed : (u f g : Substitution) → map (substitute u) solved ≡ picked (solved_under f g) keeps → map (substitute u) row ≡ picked (whole_under f g) keep
      row_placed u f g e = row_under u ∙ ap (λ z. picked (z ++ map (substitute u) (left ++ right)) places) e ∙ placed f g u

      to : (x : List Term) → IsGroundInstance sig row x → Joins sig pairs keep left right x
      to x (u, gu, e) =
          let (full, (l, r, (f, gf, el), (g, gg, er), agree, ef), ey) = (exact (map (substitute u) solved)).0 (u, gu, refl) in
          let a : AgreeOn inner (map (substitute f) lefts) (map (substitute g) rights) = subst (λ z. AgreeOn inner z (map (substitute g) rights)) el (subst (AgreeOn inner l) er agree) in
          let whole : full ≡ solved_under f g = ef ∙ ap₂ (λ y z. y ++ z) el er in (
            whole_under f g,
            (map (substitute f) left, map (substitute g) right, (f, gf, refl), (g, gg, refl), to_pairs f g a, refl),
            e ∙ row_placed u f g (ey ∙ ap (λ z. picked z keeps) whole),
          )

      back : (x : List Term) → Joins sig pairs keep left right x → IsGroundInstance sig row x
      back x (full, (l, r, (f, gf, el), (g, gg, er), agree, ef), ex) =
          let a : AgreeOn pairs (map (substitute f) left) (map (substitute g) right) = subst (λ z. AgreeOn pairs z (map (substitute g) right)) el (subst (AgreeOn pairs l) er agree) in
          let whole : full ≡ whole_under f g = ef ∙ ap₂ (λ y z. y ++ z) el er in
          let (u, gu, ey) = (exact (picked (solved_under f g) keeps)).1
          (solved_under f g, (map (substitute f) lefts, map (substitute g) rights, (f, gf, refl), (g, gg, refl), from_pairs f g a, refl), refl) in
          (u, gu, ex ∙ ap (λ z. picked z keep) whole ∙ sym (row_placed u f g (sym ey)))

      row_canonical : IsCanonical sig row
      row_canonical =
          let both = plans_written (IsMoved left right lefts rights (length lefts) keeps) (IsShared left right (length n.keep.items)) sig solved (left ++ right) canonical.written shared
          0 (length n.keep.items) keep places (sym count) h.planned.plan in
          record {
            numbered = subst (λ xs. IsNumberedFrom 1 (noted_all [] xs)) (sym both.0 ∙ sym (ap variables_of row_is)) canonical.numbered;
            written = subst (AreWrittenOut sig) (sym row_is) both.1;
          }
        where
          shared : (k q : ℕ) → IsShared left right (length n.keep.items) k q → (t : Term) × (slice_get (solved ++ (left ++ right)) q ≡ Some t) × (above_of t ≡ 0)
          shared k q ((t, a, c), e) = (t, ap (slice_get (solved ++ (left ++ right))) (e ∙ ap (λ (z : ℕ). z + k) (sym count)) ∙ get-right solved (left ++ right) k ∙ a, c)

      row_sorts : (ls rs : List ℕ) → HaveSorts sig left ls → HaveSorts sig right rs → HaveSorts sig row (picked (ls ++ rs) keep)
      row_sorts ls rs hl hr =
          let v = choices sig sound in
          let u : Substitution = λ p q. v.some p in
          let inside = narrow_joinable in
          let own = sorted inside.left_sorts inside.right_sorts inside.left_sorted inside.right_sorted in
          let os : List ℕ = picked (inside.left_sorts ++ inside.right_sorts) keeps in
          let ts : List ℕ = picked (os ++ (ls ++ rs)) places in
          let typed : HaveSorts sig row ts = subst (λ z. HaveSorts sig z ts) (sym row_is) (picked-sorts sig (solved ++ (left ++ right)) (os ++ (ls ++ rs)) places (sorts-append sig solved (left ++ right) os (ls ++ rs) own (sorts-append sig left right ls rs hl hr))) in
          let under : HaveSorts sig (map (substitute u) row) ts = HaveSorts-substitute sig u (grounding sig v).sorted row ts typed in
          let (full, (l, r, (f, gf, el), (g, gg, er), agree, ef), ex) = to (map (substitute u) row) (u, grounding sig v, refl) in
          let one : HaveSorts sig l ls = subst (λ z. HaveSorts sig z ls) (sym el) (HaveSorts-substitute sig f gf.sorted left ls hl) in
          let other : HaveSorts sig r rs = subst (λ z. HaveSorts sig z rs) (sym er) (HaveSorts-substitute sig g gg.sorted right rs hr) in
          let kept : HaveSorts sig (map (substitute u) row) (picked (ls ++ rs) keep) = subst (λ z. HaveSorts sig z (picked (ls ++ rs) keep)) (sym (ex ∙ ap (λ z. picked z keep) ef)) (picked-sorts sig (l ++ r) (ls ++ rs) keep (sorts-append sig l r ls rs one other)) in
          subst (HaveSorts sig row) (sorts_once sig (map (substitute u) row) ts (picked (ls ++ rs) keep) under kept) typed

      pub narrow_join : IsJoinOf sig pairs keep left right row
      narrow_join = record {
        ready = record { written = row_canonical.written; canonical = λ _. row_canonical };
        to = to;
        back = back;
        sorted = row_sorts;
      }

    -- where the narrow rows do not agree, neither do the rows
    pub narrow_none : ((values : List Term) → IsAgreeing sig lefts rights inner values → ⊥) → (x : List Term) → Joins sig pairs keep left right x → ⊥
    narrow_none none x (full, (l, r, (f, gf, el), (g, gg, er), agree, ef), ex) =
        let a : AgreeOn pairs (map (substitute f) left) (map (substitute g) right) = subst (λ z. AgreeOn pairs z (map (substitute g) right)) el (subst (AgreeOn pairs l) er agree) in
        none (solved_under f g) (map (substitute f) lefts, map (substitute g) rights, (f, gf, refl), (g, gg, refl), from_pairs f g a, refl)

-- the pairs of the program, which are the diagonal and nothing after it
pub diagonal_end : (n : ℕ) (pairs : List Pair) → pairs ≡ diagonal 0 n ++ [] → pairs ≡ diagonal 0 n
diagonal_end n pairs e = e ∙ append-nil (diagonal 0 n)

move : {A B C D : Type 0} (P : A → B → C → D → Type 0) (a s : A) (b t : B) (c u : C) (d v : D) → a ≡ s → b ≡ t → c ≡ u → d ≡ v → P a b c d → P s t u v
move P a s b t c u d v ea eb ec ed h = subst (λ x. P x t u v) ea (subst (λ x. P a x u v) eb (subst (λ x. P a b x v) ec (subst (λ x. P a b c x) ed h)))

-- the same of the program's slices of the narrow rows
module _ (sig : Signature) (sound : IsSound sig) (left right : List Term) (pairs : List Pair) (keep : List ℕ) (j : AreJoinable sig left right pairs) (n : Narrow) (h : IsNarrow left right pairs keep n)
    (ls rs : List Term) (ps : List Pair) (ks : List ℕ) (el : ls ≡ n.lefts.items) (er : rs ≡ n.rights.items) (ep : ps ≡ diagonal 0 n.front ++ []) (ek : ks ≡ (numbers (length n.lefts.items) n.keep.items)) where
  pairs_same : ps ≡ diagonal 0 n.front
  pairs_same = diagonal_end n.front ps ep

  pub slices_joinable : AreJoinable sig ls rs ps
  slices_joinable =
      move (λ l r p (k : List ℕ). AreJoinable sig l r p) n.lefts.items ls n.rights.items rs (diagonal 0 n.front) ps (numbers (length n.lefts.items) n.keep.items) ks (sym el) (sym er) (sym pairs_same) (sym ek)
      (narrow_joinable sig sound left right pairs keep j n h)

  pub slices_none : All (λ (k : ℕ). k < length ls + length rs) ks → ((values : List Term) → IsAgreeing sig ls rs ps values → ⊥) → (x : List Term) → Joins sig pairs keep left right x → ⊥
  slices_none within none =
      narrow_none sig sound left right pairs keep j n h
      (move (λ l r (p : List Pair) k. All (λ (m : ℕ). m < length l + length r) k) ls n.lefts.items rs n.rights.items ps (diagonal 0 n.front) ks (numbers (length n.lefts.items) n.keep.items) el er pairs_same ek within)
      (move (λ l r p (k : List ℕ). (values : List Term) → IsAgreeing sig l r p values → ⊥) ls n.lefts.items rs n.rights.items ps (diagonal 0 n.front) ks (numbers (length n.lefts.items) n.keep.items) el er pairs_same ek none)

  pub slices_join : All (λ (k : ℕ). k < length ls + length rs) ks → (solved row : List Term) → row ≡ picked (solved ++ (left ++ right)) (spots (length n.keep.items) n.places.items) → IsCanonical sig solved → length solved ≡ length ks
      → ((y : List Term) → IsGroundInstance sig solved y ↔ Joins sig ps ks ls rs y)
      → ((us vs : List ℕ) → HaveSorts sig ls us → HaveSorts sig rs vs → HaveSorts sig solved (picked (us ++ vs) ks))
      → IsJoinOf sig pairs keep left right row
  slices_join within solved row row_is can count exact sorted =
      narrow_join sig sound left right pairs keep j n h
      (move (λ l r (p : List Pair) k. All (λ (m : ℕ). m < length l + length r) k) ls n.lefts.items rs n.rights.items ps (diagonal 0 n.front) ks (numbers (length n.lefts.items) n.keep.items) el er pairs_same ek within)
      solved row row_is can (count ∙ ap (λ (k : List ℕ). length k) ek ∙ length-map n.keep.items (number_of (length n.lefts.items)))
      (move (λ l r p k. (y : List Term) → IsGroundInstance sig solved y ↔ Joins sig p k l r y) ls n.lefts.items rs n.rights.items ps (diagonal 0 n.front) ks (numbers (length n.lefts.items) n.keep.items) el er pairs_same ek exact)
      (move (λ l r (p : List Pair) k. (us vs : List ℕ) → HaveSorts sig l us → HaveSorts sig r vs → HaveSorts sig solved (picked (us ++ vs) k)) ls n.lefts.items rs n.rights.items ps (diagonal 0 n.front) ks (numbers (length n.lefts.items) n.keep.items) el er pairs_same ek sorted)

  -- the kept columns are there, and as many are solved
  pub slices_within : All (λ (k : ℕ). k < length ls + length rs) ks
  slices_within =
      move (λ l r (p : List Pair) k. All (λ (m : ℕ). m < length l + length r) k) n.lefts.items ls n.rights.items rs (diagonal 0 n.front) ps (numbers (length n.lefts.items) n.keep.items) ks (sym el) (sym er) (sym pairs_same) (sym ek)
      (sides_within n.lefts.items n.rights.items n.keep.items h.planned.sides)

  pub slices_count : (solved : List Term) → ((us vs : List ℕ) → HaveSorts sig ls us → HaveSorts sig rs vs → HaveSorts sig solved (picked (us ++ vs) ks)) → length solved ≡ length n.keep.items
  slices_count solved sorted =
      let inside = slices_joinable in
      let a = sorts_length sig ls inside.left_sorts inside.left_sorted in
      let b = sorts_length sig rs inside.right_sorts inside.right_sorted in
      let whole : length ls + length rs ≡ length (inside.left_sorts ++ inside.right_sorts) = (let c = length-append inside.left_sorts inside.right_sorts in omega (arith, a, b, c)) in
      sorts_length sig solved (picked (inside.left_sorts ++ inside.right_sorts) ks) (sorted inside.left_sorts inside.right_sorts inside.left_sorted inside.right_sorted)
      ∙ picked-many (inside.left_sorts ++ inside.right_sorts) ks (subst (λ (m : ℕ). All (λ (k : ℕ). k < m) ks) whole slices_within)
      ∙ ap (λ (k : List ℕ). length k) ek ∙ length-map n.keep.items (number_of (length n.lefts.items))

  -- the places of the kept columns are there
  pub slices_places : (solved : List Term) (at : List Place) → length solved ≡ length n.keep.items → at ≡ n.places.items → All (IsPlace (length solved) (length left + length right)) at
  slices_places solved at count e =
      subst (All (IsPlace (length solved) (length left + length right))) (sym e) (subst (λ (m : ℕ). All (IsPlace m (length left + length right)) n.places.items) (sym count) h.planned.within)
