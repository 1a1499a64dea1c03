-- Joins of two rows of which only some columns are solved.
use Rattle.std.proofs.Common.{◌≡◌, ℕ, ◌<◌, ◌+◌, ◌≤◌, ◌↔◌, inl, inr, true, List, [], ◌∷◌, ◌++◌, All, map, length, get_or, take, zero, suc, refl, ap, ap₂, sym, ◌∙◌, subst, Some, slice_get, arith, length-append, append_assoc, append-nil}
use Rattle.std.proofs.lemmas.List.{map-append, take_all, take_more, length-map, same_from_push}
use Rattle.std.proofs.lemmas.List.Elements.{All-weaker, All-push, All-cons, All-head, All-tail}
use Rattle.std.proofs.lemmas.Option.{slice_get_within, get_or_from_slice_get, same_Some}
use Rattle.psg_terms.proofs.Lists.{slice_get-front, slice_get-end}
use Rattle.psg_terms.specs.Terms.{Term}
use Rattle.psg_terms.specs.Signature.{Signature, HasSort, HaveSorts}
use Rattle.psg_terms.specs.Weight.{above_of}
use Rattle.psg_terms.specs.Canonical.{Variable, variables, variables_of, AreWrittenOut, IsWrittenOut}
use Rattle.psg_terms.specs.Instances.{Substitution, substitute}
use Rattle.psg_terms.proofs.Recognising.{variables-closed, written-closed}
use Rattle.psg_unify.specs.Pairs.{Pair, AgreeOn, AreJoinable}
use Rattle.psg_unify.specs.Columns.{pick, picked}
use Rattle.psg_unify.proofs.Theorem.{sorts-append}
use Rattle.psg_relation.specs.Narrowing.{ArePaired, ArePushed, IsMoved, IsShared, Plans, IsPlanned, IsNarrow, IsSide, IsPlace, number_of, numbers, spot_of, spots}
use Rattle.psg_relation.specs.Settling.{IsSettled}
use Rattle.psg_relation.specs.declared.narrowing.Narrow.{Narrow}
use Rattle.psg_relation.specs.declared.narrowing.Side.{Side}
use Rattle.psg_relation.specs.declared.narrowing.Side.TheVariants.{Left, Right}
use Rattle.psg_relation.specs.declared.narrowing.Place.{Place}
use Rattle.psg_relation.specs.declared.narrowing.Place.TheVariants.{Solved, Given}
use Rattle.psg_relation.proofs.Columns.{picked-push}
use Rattle.psg_relation.proofs.Pairing.{value_at, sort_at, equal_at, take_pair, agree_push, agree_split}

-- ---- lists

-- ---- the pairs that are solved

module _ (sig : Signature) (left right : List Term) where
  pub paired_none : ArePaired sig left right [] [] []
  paired_none = record { sorts = []; left_sorted = tt; right_sorted = tt; to = λ f g a. refl; back = λ f g e. tt }

  module _ (pairs : List Pair) (j : AreJoinable sig left right pairs) (i : ℕ) (p d : Pair) (x y : Term) (lt : i < length pairs) (ep : p ≡ get_or pairs i d) (ex : slice_get left p.0 ≡ Some x) (ey : slice_get right p.1 ≡ Some y) (lefts rights : List Term) (h : ArePaired sig left right (take i pairs) lefts rights) where
    next : take (i + 1) pairs ≡ take i pairs ++ p ∷ []
    next = take_pair left right pairs i p d x y lt ep ex ey

    columns_same : (f g : Substitution) → (slice_get (map (substitute f) left) p.0 ≡ slice_get (map (substitute g) right) p.1) ↔ (substitute f x ≡ substitute g y)
    columns_same f g = (
      λ e. same_Some (substitute f x) (substitute g y) (sym (value_at f left p.0 x ex) ∙ e ∙ value_at g right p.1 y ey),
      λ e. value_at f left p.0 x ex ∙ ap (λ (t : Term). Some t) e ∙ sym (value_at g right p.1 y ey),
    )

    split : (f g : Substitution) → AgreeOn (take (i + 1) pairs) (map (substitute f) left) (map (substitute g) right) → AgreeOn (take i pairs) (map (substitute f) left) (map (substitute g) right) × (substitute f x ≡ substitute g y)
    split f g a =
        let k = agree_split (take i pairs) p (map (substitute f) left) (map (substitute g) right) (subst (λ ps. AgreeOn ps (map (substitute f) left) (map (substitute g) right)) next a) in
        (k.0, (columns_same f g).0 k.1)

    both : (f g : Substitution) → AgreeOn (take i pairs) (map (substitute f) left) (map (substitute g) right) → substitute f x ≡ substitute g y → AgreeOn (take (i + 1) pairs) (map (substitute f) left) (map (substitute g) right)
    both f g a e = subst (λ ps. AgreeOn ps (map (substitute f) left) (map (substitute g) right)) (sym next) (agree_push (take i pairs) p (map (substitute f) left) (map (substitute g) right) a ((columns_same f g).1 e))

    pub paired_same : IsSettled x y true → ArePaired sig left right (take (i + 1) pairs) lefts rights
    paired_same s = record {
      sorts = h.sorts;
      left_sorted = h.left_sorted;
      right_sorted = h.right_sorted;
      to = λ f g a. h.to f g (split f g a).0;
      back = λ f g e. both f g (h.back f g e) (s f g);
    }

    pub paired_more : (more other : List Term) → more ≡ lefts ++ x ∷ [] → other ≡ rights ++ y ∷ [] → ArePaired sig left right (take (i + 1) pairs) more other
    paired_more more other em eo =
        let (s, es, er) = equal_at j.left_sorts j.right_sorts pairs i p d lt ep j.equal in
        subst (λ xs. ArePaired sig left right (take (i + 1) pairs) xs other) (sym em) (subst (ArePaired sig left right (take (i + 1) pairs) (lefts ++ x ∷ [])) (sym eo) (record {
          sorts = h.sorts ++ s ∷ [];
          left_sorted = sorts-append sig lefts (x ∷ []) h.sorts (s ∷ []) h.left_sorted (sort_at sig left j.left_sorts p.0 x s j.left_sorted ex es, tt);
          right_sorted = sorts-append sig rights (y ∷ []) h.sorts (s ∷ []) h.right_sorted (sort_at sig right j.right_sorts p.1 y s j.right_sorted ey er, tt);
          to = λ f g a.
              let k = split f g a in
              map-append (substitute f) lefts (x ∷ []) ∙ ap₂ (λ xs z. xs ++ z ∷ []) (h.to f g k.0) k.1 ∙ sym (map-append (substitute g) rights (y ∷ []));
          back = λ f g e.
              let k = same_from_push (map (substitute f) lefts) (map (substitute g) rights) (substitute f x) (substitute g y) (sym (map-append (substitute f) lefts (x ∷ [])) ∙ e ∙ map-append (substitute g) rights (y ∷ [])) in
              both f g (h.back f g k.0) k.1;
        }))

pub paired_step : (sig : Signature) (left right : List Term) (pairs : List Pair) (j : AreJoinable sig left right pairs) (i : ℕ) (p d : Pair) (x y : Term) → i < length pairs → p ≡ get_or pairs i d → slice_get left p.0 ≡ Some x → slice_get right p.1 ≡ Some y
    → (lefts rights more other : List Term) → ArePaired sig left right (take i pairs) lefts rights → ArePushed x y lefts rights more other → ArePaired sig left right (take (i + 1) pairs) more other
paired_step sig left right pairs j i p d x y lt ep ex ey lefts rights more other h (inl (s, em, eo)) =
    subst (λ xs. ArePaired sig left right (take (i + 1) pairs) xs other) (sym em) (subst (ArePaired sig left right (take (i + 1) pairs) lefts) (sym eo)
    (paired_same sig left right pairs j i p d x y lt ep ex ey lefts rights h s))
paired_step sig left right pairs j i p d x y lt ep ex ey lefts rights more other h (inr (em, eo)) = paired_more sig left right pairs j i p d x y lt ep ex ey lefts rights h more other em eo

pub paired_all : (sig : Signature) (left right : List Term) (pairs : List Pair) (i : ℕ) (lefts rights : List Term) → length pairs ≤ i → ArePaired sig left right (take i pairs) lefts rights → ArePaired sig left right pairs lefts rights
paired_all sig left right pairs i lefts rights l h = subst (λ ps. ArePaired sig left right ps lefts rights) (take_all i pairs l) h

-- the row without so many of its first columns
abbrev pub past : ℕ → List Term → List Term
past zero xs = xs
past (suc n) [] = []
past (suc n) (x ∷ xs) = past n xs

past-all : (n : ℕ) (xs : List Term) → n ≡ length xs → past n xs ≡ []
past-all zero [] e = refl
past-all zero (x ∷ xs) e = absurd (omega (arith, e))
past-all (suc n) [] e = refl
past-all (suc n) (x ∷ xs) e = past-all n xs (omega (arith, e))

past-next : (sig : Signature) (n : ℕ) (xs : List Term) → AreWrittenOut sig xs → n < length xs → (u : Term) × (slice_get xs n ≡ Some u) × (past n xs ≡ u ∷ past (suc n) xs) × IsWrittenOut sig u
past-next sig n [] w l = absurd (omega (arith, l))
past-next sig zero (x ∷ xs) w l = (x, refl, refl, w.0)
past-next sig (suc n) (x ∷ xs) w l = past-next sig n xs w.1 (omega (arith, l))

-- ---- the places of the kept columns

module _ (Moved Shared : ℕ → ℕ → Type 0) where
  pub plans_shared : (from to : ℕ) (keep places : List ℕ) (k q : ℕ) → Plans Moved Shared from to keep places → Shared k q → Plans Moved Shared from to (keep ++ k ∷ []) (places ++ q ∷ [])
  plans_shared from to [] [] k q h s = inl (s, h)
  plans_shared from to [] (b ∷ places) k q h s = absurd h
  plans_shared from to (a ∷ keep) [] k q h s = absurd h
  plans_shared from to (a ∷ keep) (b ∷ places) k q (inl (t, h)) s = inl (t, plans_shared from to keep places k q h s)
  plans_shared from to (a ∷ keep) (b ∷ places) k q (inr (e, m, h)) s = inr (e, m, plans_shared (suc from) to keep places k q h s)

  pub plans_moved : (from to : ℕ) (keep places : List ℕ) (k : ℕ) → Plans Moved Shared from to keep places → Moved k to → Plans Moved Shared from (suc to) (keep ++ k ∷ []) (places ++ to ∷ [])
  plans_moved from to [] [] k h m = inr (sym h, subst (Moved k) (sym h) m, ap suc h)
  plans_moved from to [] (b ∷ places) k h m = absurd h
  plans_moved from to (a ∷ keep) [] k h m = absurd h
  plans_moved from to (a ∷ keep) (b ∷ places) k (inl (t, h)) m = inl (t, plans_moved from to keep places k h m)
  plans_moved from to (a ∷ keep) (b ∷ places) k (inr (e, n, h)) m = inr (e, n, plans_moved (suc from) to keep places k h m)

  plans_up : (from to : ℕ) (keep places : List ℕ) → Plans Moved Shared from to keep places → from ≤ to
  plans_up from to [] [] h = omega (arith, h)
  plans_up from to [] (b ∷ places) h = absurd h
  plans_up from to (a ∷ keep) [] h = absurd h
  plans_up from to (a ∷ keep) (b ∷ places) (inl (t, h)) = plans_up from to keep places h
  plans_up from to (a ∷ keep) (b ∷ places) (inr (e, n, h)) = let k = plans_up (suc from) to keep places h in omega (arith, k)

  -- the columns at the places are the kept ones
  pub plans_picked : {X : Type 0} (Z W : List X) → ((k q : ℕ) → Moved k q → slice_get Z q ≡ slice_get W k) → ((k q : ℕ) → Shared k q → slice_get Z q ≡ slice_get W k)
      → (from to : ℕ) (keep places : List ℕ) → Plans Moved Shared from to keep places → picked Z places ≡ picked W keep
  plans_picked Z W m s from to [] [] h = refl
  plans_picked Z W m s from to [] (b ∷ places) h = absurd h
  plans_picked Z W m s from to (a ∷ keep) [] h = absurd h
  plans_picked Z W m s from to (a ∷ keep) (b ∷ places) (inl (t, h)) = ap₂ pick (s a b t) (plans_picked Z W m s from to keep places h)
  plans_picked Z W m s from to (a ∷ keep) (b ∷ places) (inr (e, n, h)) = ap₂ pick (m a b (subst (Moved a) (sym e) n)) (plans_picked Z W m s (suc from) to keep places h)

  -- the solved columns are those of the solved row, in order, and the others have no variables
  pub plans_written : (sig : Signature) (A both : List Term) → AreWrittenOut sig A → ((k q : ℕ) → Shared k q → (t : Term) × (slice_get (A ++ both) q ≡ Some t) × (above_of t ≡ 0))
      → (from to : ℕ) (keep places : List ℕ) → to ≡ length A → Plans Moved Shared from to keep places
      → (variables_of (picked (A ++ both) places) ≡ variables_of (past from A)) × AreWrittenOut sig (picked (A ++ both) places)
  plans_written sig A both w s from to [] [] l h = (sym (ap variables_of (past-all from A (let e = h in omega (arith, e, l)))), tt)
  plans_written sig A both w s from to [] (b ∷ places) l h = absurd h
  plans_written sig A both w s from to (a ∷ keep) [] l h = absurd h
  plans_written sig A both w s from to (a ∷ keep) (b ∷ places) l (inl (t, h)) =
      let (u, e, c) = s a b t in
      let rest = plans_written sig A both w s from to keep places l h in (
        ap (λ o. variables_of (pick o (picked (A ++ both) places))) e ∙ ap (λ (x : List Variable). x ++ variables_of (picked (A ++ both) places)) (variables-closed u c) ∙ rest.0,
        subst (λ o. AreWrittenOut sig (pick o (picked (A ++ both) places))) (sym e) (written-closed sig u c, rest.1),
      )
  plans_written sig A both w s from to (a ∷ keep) (b ∷ places) l (inr (q, n, h)) =
      let up = plans_up (suc from) to keep places h in
      let lt : from < length A = omega (arith, up, l) in
      let (u, e, d, x) = past-next sig from A w lt in
      let rest = plans_written sig A both w s (suc from) to keep places l h in
      let here : slice_get (A ++ both) b ≡ Some u = ap (slice_get (A ++ both)) q ∙ slice_get-front A both from u e in (
        ap (λ o. variables_of (pick o (picked (A ++ both) places))) here ∙ ap (λ (y : List Variable). variables u ++ y) rest.0 ∙ sym (ap variables_of d),
        subst (λ o. AreWrittenOut sig (pick o (picked (A ++ both) places))) (sym here) (x, rest.1),
      )

-- ---- steps of putting the kept columns

moved_more : (left right lefts rights more other : List Term) (width : ℕ) (keep more_keep : List ℕ) (k q : ℕ) → IsMoved left right lefts rights width keep k q → IsMoved left right (lefts ++ more) (rights ++ other) width (keep ++ more_keep) k q
moved_more left right lefts rights more other width keep more_keep k q (inl (t, j, a, b, c)) = inl (t, j, a, slice_get-front lefts more j t b, slice_get-front keep more_keep q j c)
moved_more left right lefts rights more other width keep more_keep k q (inr (t, i, j, e, a, b, c)) = inr (t, i, j, e, a, slice_get-front rights other j t b, slice_get-front keep more_keep q (width + j) c)

plans_wider : (M N S : ℕ → ℕ → Type 0) → ((k q : ℕ) → M k q → N k q) → (from to : ℕ) (keep places : List ℕ) → Plans M S from to keep places → Plans N S from to keep places
plans_wider M N S w from to [] [] h = h
plans_wider M N S w from to [] (b ∷ places) h = absurd h
plans_wider M N S w from to (a ∷ keep) [] h = absurd h
plans_wider M N S w from to (a ∷ keep) (b ∷ places) (inl (t, h)) = inl (t, plans_wider M N S w from to keep places h)
plans_wider M N S w from to (a ∷ keep) (b ∷ places) (inr (e, n, h)) = inr (e, w a from n, plans_wider M N S w (suc from) to keep places h)

column_typed : (sig : Signature) (row : List Term) (ss : List ℕ) (k : ℕ) (t : Term) → HaveSorts sig row ss → slice_get row k ≡ Some t → (s : ℕ) × HasSort sig t s
column_typed sig [] ss k t h e = absurd (cc)
column_typed sig (x ∷ row) [] k t h e = absurd h
column_typed sig (x ∷ row) (s ∷ ss) zero t h e = (s, subst (λ y. HasSort sig y s) (let d : x ≡ t = cc in d) h.0)
column_typed sig (x ∷ row) (s ∷ ss) (suc k) t h e = column_typed sig row ss k t h.1 e

pub planned_none : (left right : List Term) (width count : ℕ) (n : Narrow) → n.keep.items ≡ [] → n.places.items ≡ [] → IsPlanned left right n.lefts.items n.rights.items width count [] n
planned_none left right width count n k p = record {
  more_left = [];
  lefts_are = sym (append-nil n.lefts.items);
  left_typed = λ sig ls h. ([], tt);
  more_right = [];
  rights_are = sym (append-nil n.rights.items);
  right_typed = λ sig rs h. ([], tt);
  plan = subst (λ xs. Plans (IsMoved left right n.lefts.items n.rights.items width (numbers width n.keep.items)) (IsShared left right count) 0 (length n.keep.items) [] (spots count xs)) (sym p) (sym (ap (λ (x : List Side). length x) k));
  sides = subst (All (IsSide n.lefts.items n.rights.items)) (sym k) (λ i d l. absurd (omega (arith, l)));
  within = subst (All (IsPlace (length n.keep.items) (length left + length right))) (sym p) (λ i d l. absurd (omega (arith, l)));
}

side_more : (lefts rights more other : List Term) (s : Side) → IsSide lefts rights s → IsSide (lefts ++ more) (rights ++ other) s
side_more lefts rights more other (Left j) h = let e = length-append lefts more in omega (arith, h, e)
side_more lefts rights more other (Right j) h = let e = length-append rights other in omega (arith, h, e)

place_more : (count more width : ℕ) → count ≤ more → (p : Place) → IsPlace count width p → IsPlace more width p
place_more count more width l (Solved q) h = omega (arith, h, l)
place_more count more width l (Given k) h = h

module _ (left right lefts rights : List Term) (width count : ℕ) (keep : List ℕ) (k : ℕ) (old new : Narrow) (h : IsPlanned left right lefts rights width count keep old) where
  abbrev Old : ℕ → ℕ → Type 0
  Old = IsMoved left right old.lefts.items old.rights.items width (numbers width old.keep.items)

  abbrev New : ℕ → ℕ → Type 0
  New = IsMoved left right new.lefts.items new.rights.items width (numbers width new.keep.items)

  abbrev Same : ℕ → ℕ → Type 0
  Same = IsShared left right count

  -- what was moved stays where it is
  wider : (more other : List Term) (more_keep : List Side) → new.lefts.items ≡ old.lefts.items ++ more → new.rights.items ≡ old.rights.items ++ other → new.keep.items ≡ old.keep.items ++ more_keep
      → (c q : ℕ) → Old c q → New c q
  wider more other more_keep el er ek c q m =
      subst (λ x. IsMoved left right x new.rights.items width (numbers width new.keep.items) c q) (sym el)
      (subst (λ x. IsMoved left right (old.lefts.items ++ more) x width (numbers width new.keep.items) c q) (sym er)
      (subst (λ x. IsMoved left right (old.lefts.items ++ more) (old.rights.items ++ other) width x c q) (sym (ap (numbers width) ek ∙ map-append (number_of width) old.keep.items more_keep))
      (moved_more left right old.lefts.items old.rights.items more other width (numbers width old.keep.items) (numbers width more_keep) c q m)))

  -- the sides stay there
  sides_more : (more other : List Term) → new.lefts.items ≡ old.lefts.items ++ more → new.rights.items ≡ old.rights.items ++ other → All (IsSide new.lefts.items new.rights.items) old.keep.items
  sides_more more other el er =
      subst (λ x. All (IsSide x new.rights.items) old.keep.items) (sym el)
      (subst (λ x. All (IsSide (old.lefts.items ++ more) x) old.keep.items) (sym er)
      (All-weaker (IsSide old.lefts.items old.rights.items) (IsSide (old.lefts.items ++ more) (old.rights.items ++ other)) (side_more old.lefts.items old.rights.items more other) old.keep.items h.sides))

  pub planned_shared : (t : Term) → slice_get (left ++ right) k ≡ Some t → above_of t ≡ 0
      → new.lefts.items ≡ old.lefts.items → new.rights.items ≡ old.rights.items → new.keep.items ≡ old.keep.items → new.places.items ≡ old.places.items ++ Given k ∷ []
      → IsPlanned left right lefts rights width count (keep ++ k ∷ []) new
  planned_shared t at closed el er ek ep = record {
    more_left = h.more_left;
    lefts_are = el ∙ h.lefts_are;
    left_typed = h.left_typed;
    more_right = h.more_right;
    rights_are = er ∙ h.rights_are;
    right_typed = h.right_typed;
    plan =
        subst (λ ps. Plans New Same 0 (length new.keep.items) (keep ++ k ∷ []) ps) (sym (ap (spots count) ep ∙ map-append (spot_of count) old.places.items (Given k ∷ [])))
        (subst (λ (x : List Side). Plans New Same 0 (length x) (keep ++ k ∷ []) (spots count old.places.items ++ (count + k) ∷ [])) (sym ek)
        (plans_shared New Same 0 (length old.keep.items) keep (spots count old.places.items) k (count + k)
        (plans_wider Old New Same (wider [] [] [] (el ∙ sym (append-nil old.lefts.items)) (er ∙ sym (append-nil old.rights.items)) (ek ∙ sym (append-nil old.keep.items))) 0 (length old.keep.items) keep (spots count old.places.items) h.plan)
        ((t, at, closed), refl)));
    sides = subst (All (IsSide new.lefts.items new.rights.items)) (sym ek) (sides_more [] [] (el ∙ sym (append-nil old.lefts.items)) (er ∙ sym (append-nil old.rights.items)));
    within = subst (λ (x : List Side). All (IsPlace (length x) (length left + length right)) new.places.items) (sym ek)
        (subst (All (IsPlace (length old.keep.items) (length left + length right))) (sym ep)
        (All-push (IsPlace (length old.keep.items) (length left + length right)) old.places.items (Given k) h.within
        (let l = slice_get_within (left ++ right) k t at in let e = length-append left right in omega (arith, l, e))));
  }

  one_more : (s : Side) → new.keep.items ≡ old.keep.items ++ s ∷ [] → length new.keep.items ≡ suc (length old.keep.items)
  one_more s ek = (let a = ap (λ (x : List Side). length x) ek in let b = length-append old.keep.items (s ∷ []) in omega (arith, a, b))

  moved_plan : (s : Side) → New k (length old.keep.items) → (more other : List Term) → new.lefts.items ≡ old.lefts.items ++ more → new.rights.items ≡ old.rights.items ++ other
      → new.keep.items ≡ old.keep.items ++ s ∷ [] → new.places.items ≡ old.places.items ++ Solved (length old.keep.items) ∷ [] → Plans New Same 0 (length new.keep.items) (keep ++ k ∷ []) (spots count new.places.items)
  moved_plan s m more other el er ek ep =
      subst (λ ps. Plans New Same 0 (length new.keep.items) (keep ++ k ∷ []) ps) (sym (ap (spots count) ep ∙ map-append (spot_of count) old.places.items (Solved (length old.keep.items) ∷ [])))
      (subst (λ to. Plans New Same 0 to (keep ++ k ∷ []) (spots count old.places.items ++ length old.keep.items ∷ [])) (sym (one_more s ek))
      (plans_moved New Same 0 (length old.keep.items) keep (spots count old.places.items) k
      (plans_wider Old New Same (wider more other (s ∷ []) el er ek) 0 (length old.keep.items) keep (spots count old.places.items) h.plan) m))

  -- the number of the side that was put last
  last_number : (s : Side) → new.keep.items ≡ old.keep.items ++ s ∷ [] → slice_get (numbers width new.keep.items) (length old.keep.items) ≡ Some (number_of width s)
  last_number s ek =
      ap (λ (x : List ℕ). slice_get x (length old.keep.items)) (ap (numbers width) ek ∙ map-append (number_of width) old.keep.items (s ∷ []))
      ∙ ap (slice_get (numbers width old.keep.items ++ number_of width s ∷ [])) (sym (length-map old.keep.items (number_of width)))
      ∙ slice_get-end (numbers width old.keep.items) (number_of width s)

  moved_sides : (s : Side) → (more other : List Term) → new.lefts.items ≡ old.lefts.items ++ more → new.rights.items ≡ old.rights.items ++ other → new.keep.items ≡ old.keep.items ++ s ∷ []
      → IsSide new.lefts.items new.rights.items s → All (IsSide new.lefts.items new.rights.items) new.keep.items
  moved_sides s more other el er ek own =
      subst (All (IsSide new.lefts.items new.rights.items)) (sym ek) (All-push (IsSide new.lefts.items new.rights.items) old.keep.items s (sides_more more other el er) own)

  moved_within : (s : Side) → new.keep.items ≡ old.keep.items ++ s ∷ [] → new.places.items ≡ old.places.items ++ Solved (length old.keep.items) ∷ [] → All (IsPlace (length new.keep.items) (length left + length right)) new.places.items
  moved_within s ek ep =
      let one = one_more s ek in
      subst (All (IsPlace (length new.keep.items) (length left + length right))) (sym ep)
      (All-push (IsPlace (length new.keep.items) (length left + length right)) old.places.items (Solved (length old.keep.items))
      (All-weaker (IsPlace (length old.keep.items) (length left + length right)) (IsPlace (length new.keep.items) (length left + length right))
      (place_more (length old.keep.items) (length new.keep.items) (length left + length right) (omega (arith, one))) old.places.items h.within)
      (omega (arith, one)))

  pub planned_left : (t : Term) → slice_get left k ≡ Some t
      → new.lefts.items ≡ old.lefts.items ++ t ∷ [] → new.rights.items ≡ old.rights.items → new.keep.items ≡ old.keep.items ++ Left (length old.lefts.items) ∷ [] → new.places.items ≡ old.places.items ++ Solved (length old.keep.items) ∷ []
      → IsPlanned left right lefts rights width count (keep ++ k ∷ []) new
  planned_left t at el er ek ep = record {
    more_left = h.more_left ++ t ∷ [];
    lefts_are = el ∙ ap (λ (x : List Term). x ++ t ∷ []) h.lefts_are ∙ append_assoc lefts h.more_left (t ∷ []);
    left_typed = λ sig ls hl.
        let (ss, a) = h.left_typed sig ls hl in
        let (s, b) = column_typed sig left ls k t hl at in
        (ss ++ s ∷ [], sorts-append sig h.more_left (t ∷ []) ss (s ∷ []) a (b, tt));
    more_right = h.more_right;
    rights_are = er ∙ h.rights_are;
    right_typed = h.right_typed;
    plan = moved_plan (Left (length old.lefts.items))
        (inl (t, length old.lefts.items, at, ap (λ x. slice_get x (length old.lefts.items)) el ∙ slice_get-end old.lefts.items t, last_number (Left (length old.lefts.items)) ek))
        (t ∷ []) [] el (er ∙ sym (append-nil old.rights.items)) ek ep;
    sides = moved_sides (Left (length old.lefts.items)) (t ∷ []) [] el (er ∙ sym (append-nil old.rights.items)) ek
        (let a = ap (λ (x : List Term). length x) el in let b = length-append old.lefts.items (t ∷ []) in omega (arith, a, b));
    within = moved_within (Left (length old.lefts.items)) ek ep;
  }

  pub planned_right : (t : Term) (i : ℕ) → k ≡ length left + i → slice_get right i ≡ Some t
      → new.lefts.items ≡ old.lefts.items → new.rights.items ≡ old.rights.items ++ t ∷ [] → new.keep.items ≡ old.keep.items ++ Right (length old.rights.items) ∷ [] → new.places.items ≡ old.places.items ++ Solved (length old.keep.items) ∷ []
      → IsPlanned left right lefts rights width count (keep ++ k ∷ []) new
  planned_right t i e at el er ek ep = record {
    more_left = h.more_left;
    lefts_are = el ∙ h.lefts_are;
    left_typed = h.left_typed;
    more_right = h.more_right ++ t ∷ [];
    rights_are = er ∙ ap (λ (x : List Term). x ++ t ∷ []) h.rights_are ∙ append_assoc rights h.more_right (t ∷ []);
    right_typed = λ sig rs hr.
        let (ss, a) = h.right_typed sig rs hr in
        let (s, b) = column_typed sig right rs i t hr at in
        (ss ++ s ∷ [], sorts-append sig h.more_right (t ∷ []) ss (s ∷ []) a (b, tt));
    plan = moved_plan (Right (length old.rights.items))
        (inr (t, i, length old.rights.items, e, at, ap (λ x. slice_get x (length old.rights.items)) er ∙ slice_get-end old.rights.items t, last_number (Right (length old.rights.items)) ek))
        [] (t ∷ []) (el ∙ sym (append-nil old.lefts.items)) er ek ep;
    sides = moved_sides (Right (length old.rights.items)) [] (t ∷ []) (el ∙ sym (append-nil old.lefts.items)) er ek
        (let a = ap (λ (x : List Term). length x) er in let b = length-append old.rights.items (t ∷ []) in omega (arith, a, b));
    within = moved_within (Right (length old.rights.items)) ek ep;
  }

-- what was put is narrow
pub narrow_made : (left right : List Term) (pairs : List Pair) (keep : List ℕ) (before after : Narrow)
    → ((sig : Signature) → AreJoinable sig left right pairs → ArePaired sig left right pairs before.lefts.items before.rights.items) → before.front ≡ length before.lefts.items
    → before.keep.items ≡ [] → before.places.items ≡ [] → after.front ≡ before.front
    → ((lefts rights : List Term) (width count : ℕ) → IsPlanned left right lefts rights width count [] before → IsPlanned left right lefts rights width count keep after)
    → IsNarrow left right pairs keep after
narrow_made left right pairs keep before after paired front no_keep no_places same planned = record {
  lefts = before.lefts.items;
  rights = before.rights.items;
  paired = paired;
  front = same ∙ front;
  planned = planned before.lefts.items before.rights.items (length after.lefts.items) (length after.keep.items)
      (planned_none left right (length after.lefts.items) (length after.keep.items) before no_keep no_places);
}

-- the columns of the narrow rows are there
pub sides_within : (lefts rights : List Term) (sides : List Side) → All (IsSide lefts rights) sides → All (λ (k : ℕ). k < length lefts + length rights) (numbers (length lefts) sides)
sides_within lefts rights [] h = λ k d l. absurd (omega (arith, l))
sides_within lefts rights (s ∷ sides) h =
    All-cons (λ (k : ℕ). k < length lefts + length rights) (number_of (length lefts) s) (numbers (length lefts) sides) (one s (All-head (IsSide lefts rights) s sides h))
    (sides_within lefts rights sides (All-tail (IsSide lefts rights) s sides h)) where
      one : (s : Side) → IsSide lefts rights s → number_of (length lefts) s < length lefts + length rights
      one (Left j) l = omega (arith, l)
      one (Right j) l = omega (arith, l)

-- one number more, and one place more
pub more_mapped : {X : Type 0} (f : X → ℕ) (xs : List X) (i : ℕ) (x : X) (old new : List ℕ) (n : ℕ) → slice_get xs i ≡ Some x → n ≡ f x → old ≡ map f (take i xs) → new ≡ old ++ n ∷ [] → new ≡ map f (take (i + 1) xs)
more_mapped {X = X} f xs i x old new n at is h e =
    e ∙ ap₂ (λ (ys : List ℕ) (m : ℕ). ys ++ m ∷ []) h is ∙ sym (map-append f (take i xs) (x ∷ [])) ∙ sym (ap (map f) (one_taken xs i at)) where
      one_taken : (ys : List X) (j : ℕ) → slice_get ys j ≡ Some x → take (j + 1) ys ≡ take j ys ++ x ∷ []
      one_taken ys j g = take_more ys j x (slice_get_within ys j x g) ∙ ap (λ (y : X). take j ys ++ y ∷ []) (get_or_from_slice_get ys j x x g)

-- one column more
pub more_picked : {X : Type 0} (f : X → ℕ) (row : List Term) (xs : List X) (i : ℕ) (x : X) (old new : List Term) (t : Term) → slice_get xs i ≡ Some x → slice_get row (f x) ≡ Some t → old ≡ picked row (map f (take i xs)) → new ≡ old ++ t ∷ []
    → new ≡ picked row (map f (take (i + 1) xs))
more_picked f row xs i x old new t at is h e =
    e ∙ ap (λ (ys : List Term). ys ++ t ∷ []) h ∙ sym (picked-push row (map f (take i xs)) (f x) t is)
    ∙ sym (ap (picked row) (ap (map f) (take_more xs i x (slice_get_within xs i x at) ∙ ap (λ y. take i xs ++ y ∷ []) (get_or_from_slice_get xs i x x at)) ∙ map-append f (take i xs) (x ∷ [])))
