-- A judged node is judged with its first children alone: the values of the others are seen.
use Rattle.std.proofs.Common.{◌≡◌, ℕ, zero, suc, ◌+◌, Bool, true, false, cond, ◌||◌, List, [], ◌∷◌, ◌++◌, map, length, refl, ap, ap₂, sym, subst}
use Rattle.std.specs.Prelude.{nat_lt, bytes_eq}
use Rattle.psg_terms.specs.Terms.{Term}
use Rattle.psg_grammar.specs.declared.types.Definition.{Definition}
use Rattle.psg_grammar.specs.Fragments.{Fragment, hole, ending, cell, operator, with_child, with_name, with_number, with_text, anything, observed, children_of, top_operator, parts_count}
use Rattle.psg_grammar.specs.Legal.{Entities, AreEntities}
use Rattle.psg_grammar.specs.Lookups.{is_declares, is_scope, key_at, key_of, items_of, next_item, operator_at}
use Rattle.psg_terms.specs.Names.{is_among, has_twice}
use Rattle.psg_terms.proofs.Variables.{true_false}
use Rattle.psg_grammar.specs.Keys.{in_order}
use Rattle.psg_grammar.specs.Regions.{declared_inside, names_inside, AreDistinct, DistinctBelow}
use Rattle.psg_grammar.specs.Relations.{IsPossibleInside}
use Rattle.std.specs.Prelude.{option_and_then}
use Rattle.std.specs.List.{slice_get}
use Rattle.psg_grammar.specs.Open.{Agrees, Choice, Holds, IsOpen}
use Rattle.psg_grammar.specs.Steps.{first_children}
use Rattle.psg_cache.proofs.RealTrees.{IsReal}
use Rattle.psg_cache.proofs.OpenTrees.{holds_unseen}

-- the operator and the number of its parts stay
pub first_top : (n : ℕ) (f : Fragment) → top_operator (first_children n f) ≡ top_operator f
first_top n (with_child f t) = first_top n f
first_top n (with_name f m) = first_top n f
first_top n (with_number f m) = first_top n f
first_top n (with_text f m) = first_top n f
first_top n (observed f) = first_top n f
first_top zero (cell l e r) = refl
first_top (suc zero) (cell l e r) = refl
first_top (suc (suc n)) (cell l e r) = refl
first_top n (hole p) = refl
first_top n (ending l u) = refl
first_top n (operator o) = refl
first_top n anything = refl

pub first_parts : (n : ℕ) (f : Fragment) → parts_count (first_children n f) ≡ parts_count f
first_parts n (with_child f t) = ap (λ k. k + 1) (first_parts n f)
first_parts n (with_name f m) = ap (λ k. k + 1) (first_parts n f)
first_parts n (with_number f m) = ap (λ k. k + 1) (first_parts n f)
first_parts n (with_text f m) = ap (λ k. k + 1) (first_parts n f)
first_parts n (observed f) = first_parts n f
first_parts zero (cell l e r) = refl
first_parts (suc zero) (cell l e r) = refl
first_parts (suc (suc n)) (cell l e r) = refl
first_parts n (hole p) = refl
first_parts n (ending l u) = refl
first_parts n (operator o) = refl
first_parts n anything = refl

module _ (def : Definition) where
  pub same_key : (n : ℕ) (f : Fragment) (m : List ℕ) → key_at def (first_children n f) m ≡ key_at def f m
  same_key n f m = ap₂ (λ o k. key_of (slice_get (items_of (option_and_then (operator_at def) o)) k) m) (first_top n f) (first_parts n f)

  -- judged with the first n children, with any values seen behind
  abbrev pub HoldsFirst : Entities → ℕ → Fragment → List Term → Term → List Term → Type 0
  HoldsFirst g n f columns v after =
      (c : Choice (first_children n f)) × (before : List Term) × Holds def g (first_children n f) c columns v before after

  with_one : (g : Entities) → AreEntities def g → (n : ℕ) (f t : Fragment) (b : Bool) (columns : List Term) (v u : Term) (after : List Term) (inner : Entities) → AreEntities def inner
      → IsReal t → (ct : Choice t) (mid end : List Term) → Agrees def t g inner → Holds def inner t ct [] u mid end
      → ((a : List Term) → HoldsFirst g n f (u ∷ columns) v a)
      → (c : Choice (with_child (first_children n f) (cond b t anything))) × (before : List Term) × Holds def g (with_child (first_children n f) (cond b t anything)) c columns v before after
  with_one g eg n f t true columns v u after inner are real_t ct mid end agree ht rec =
      let (c, before, hf) = rec after in
      ((c, ct), before, (u, after, inner, hf, are, agree, holds_unseen def t real_t inner ct [] u mid end after ht))
  with_one g eg n f t false columns v u after inner are real_t ct mid end agree ht rec =
      let (c, before, hf) = rec (u ∷ after) in
      ((c, tt), before, (u, u ∷ after, g, hf, eg, refl, (refl, refl)))

  pub first_holds : (n : ℕ) (f : Fragment) → IsReal f → (g : Entities) → AreEntities def g → (c : Choice f) (columns : List Term) (v : Term) (before end : List Term)
      → Holds def g f c columns v before end → (after : List Term) → HoldsFirst g n f columns v after
  first_holds n (with_child f t) real g eg c columns v before end (u, mid, inner, hf, are, agree, ht) after =
      with_one g eg n f t (nat_lt (length (children_of f)) n) columns v u after inner are real.1 c.1 mid end agree ht
      (λ a. first_holds n f real.0 g eg c.0 (u ∷ columns) v before mid hf a)
  first_holds n (with_name f m) real g eg c columns v before end h after =
      let (d, b, held) = first_holds n f real.0 g eg c (g (key_at def f m) ∷ columns) v before end h after in
      (d, b, subst (λ k. Holds def g (first_children n f) d (g k ∷ columns) v b after) (sym (same_key n f m)) held)
  first_holds n (with_number f m) real g eg c columns v before end h after = first_holds n f real.0 g eg c columns v before end h after
  first_holds n (with_text f m) real g eg c columns v before end h after = first_holds n f real.0 g eg c columns v before end h after
  first_holds zero (cell l e r) real g eg c columns v before end (none, one, others, mid, inner, row, are, agree, he, hr) after =
      ((c.0, tt, tt), one ∷ others ∷ after, (none, one, others, others ∷ after, g, row, eg, refl, (refl, refl), (refl, refl)))
  first_holds (suc zero) (cell l e r) real g eg c columns v before end (none, one, others, mid, inner, row, are, agree, he, hr) after =
      ((c.0, c.1, tt), others ∷ after, (none, one, others, others ∷ after, inner, row, are, agree, holds_unseen def e real.0 inner c.1 [] one before mid (others ∷ after) he, (refl, refl)))
  first_holds (suc (suc n)) (cell l e r) real g eg c columns v before end h after = (c, after, holds_unseen def (cell l e r) real g c columns v before end after h)
  first_holds n (hole p) real g eg c columns v before end h after = (c, after, holds_unseen def (hole p) real g c columns v before end after h)
  first_holds n (ending l true) real g eg c columns v before end h after = (c, after, holds_unseen def (ending l true) real g c columns v before end after h)
  first_holds n (ending l false) real g eg c columns v before end h after = (c, after, holds_unseen def (ending l false) real g c columns v before end after h)
  first_holds n (operator o) real g eg c columns v before end h after = (c, after, (refl, h.1))
  first_holds n anything real g eg c columns v before end h after = absurd real
  first_holds n (observed f) real g eg c columns v before end h after = absurd real

-- ---- no key is declared twice by the first children

-- the list with some members left out
pub data Sub : List (List ℕ) → List (List ℕ) → Type 0 where
  none : Sub [] []
  keep : {k : List ℕ} {xs ys : List (List ℕ)} → Sub xs ys → Sub (k ∷ xs) (k ∷ ys)
  leave : {k : List ℕ} {xs ys : List (List ℕ)} → Sub xs ys → Sub xs (k ∷ ys)

sub_refl : (xs : List (List ℕ)) → Sub xs xs
sub_refl [] = none
sub_refl (k ∷ xs) = keep (sub_refl xs)

sub_nil : (xs : List (List ℕ)) → Sub [] xs
sub_nil [] = none
sub_nil (k ∷ xs) = leave (sub_nil xs)

sub_append : (xs ys as' bs : List (List ℕ)) → Sub xs ys → Sub as' bs → Sub (xs ++ as') (ys ++ bs)
sub_append [] [] as' bs none t = t
sub_append (k ∷ xs) [] as' bs s t = elim s [ ]
sub_append (k ∷ xs) (m ∷ ys) as' bs (keep s) t = keep (sub_append xs ys as' bs s t)
sub_append xs (k ∷ ys) as' bs (leave s) t = leave (sub_append xs ys as' bs s t)

neither_of : (a b : Bool) → (a || b) ≡ false → (a ≡ false) × (b ≡ false)
neither_of false b e = (refl, e)
neither_of true b e = absurd (true_false e)

sub_among : (xs ys : List (List ℕ)) (k : List ℕ) → Sub xs ys → is_among ys k ≡ false → is_among xs k ≡ false
sub_among [] [] k none e = refl
sub_among (m ∷ xs) [] k s e = elim s [ ]
sub_among (m ∷ xs) (n ∷ ys) k (keep s) e =
    let (one, more) = neither_of (bytes_eq n k) (is_among ys k) e in
    ap₂ (λ a b. a || b) one (sub_among xs ys k s more)
sub_among xs (n ∷ ys) k (leave s) e = sub_among xs ys k s (neither_of (bytes_eq n k) (is_among ys k) e).1

pub sub_once : (xs ys : List (List ℕ)) → Sub xs ys → has_twice ys ≡ false → has_twice xs ≡ false
sub_once [] [] none e = refl
sub_once (m ∷ xs) [] s e = elim s [ ]
sub_once (m ∷ xs) (n ∷ ys) (keep s) e =
    let (one, more) = neither_of (is_among ys n) (has_twice ys) e in
    ap₂ (λ a b. a || b) (sub_among xs ys n s one) (sub_once xs ys s more)
sub_once xs (n ∷ ys) (leave s) e = sub_once xs ys s (neither_of (is_among ys n) (has_twice ys) e).1

module _ (def : Definition) where
  sub_child : (b : Bool) (t : Fragment) → Sub (cond (is_scope def (cond b t anything)) [] (declared_inside def (cond b t anything))) (cond (is_scope def t) [] (declared_inside def t))
  sub_child true t = sub_refl (cond (is_scope def t) [] (declared_inside def t))
  sub_child false t = sub_nil (cond (is_scope def t) [] (declared_inside def t))

  pub same_item : (n : ℕ) (f : Fragment) → next_item def (first_children n f) ≡ next_item def f
  same_item n f = ap₂ (λ o k. slice_get (items_of (option_and_then (operator_at def) o)) k) (first_top n f) (first_parts n f)

  pub sub_declared : (n : ℕ) (f : Fragment) → Sub (declared_inside def (first_children n f)) (declared_inside def f)
  sub_declared n (with_child f t) =
      let b : Bool = nat_lt (length (children_of f)) n in
      sub_append (declared_inside def (first_children n f)) (declared_inside def f) (cond (is_scope def (cond b t anything)) [] (declared_inside def (cond b t anything))) (cond (is_scope def t) [] (declared_inside def t))
      (sub_declared n f) (sub_child b t)
  sub_declared n (with_name f m) =
      let own : List (List ℕ) = cond (is_declares (next_item def f)) (key_at def f m ∷ []) [] in
      subst (λ l. Sub (declared_inside def (first_children n f) ++ l) (declared_inside def f ++ own))
      (sym (ap₂ (λ i k. cond (is_declares i) (k ∷ []) []) (same_item n f) (same_key def n f m)))
      (sub_append (declared_inside def (first_children n f)) (declared_inside def f) own own (sub_declared n f) (sub_refl own))
  sub_declared n (with_number f m) = sub_declared n f
  sub_declared n (with_text f m) = sub_declared n f
  sub_declared n (observed f) = sub_declared n f
  sub_declared zero (cell l e r) = sub_nil (declared_inside def (cell l e r))
  sub_declared (suc zero) (cell l e r) =
      sub_append (cond (is_scope def e) [] (declared_inside def e)) (cond (is_scope def e) [] (declared_inside def e)) [] (declared_inside def r)
      (sub_refl (cond (is_scope def e) [] (declared_inside def e))) (sub_nil (declared_inside def r))
  sub_declared (suc (suc n)) (cell l e r) = sub_refl (declared_inside def (cell l e r))
  sub_declared n (hole p) = none
  sub_declared n (ending l u) = none
  sub_declared n (operator o) = none
  sub_declared n anything = none

  below_child : (b : Bool) (t : Fragment) → DistinctBelow def t → AreDistinct (is_scope def t) (declared_inside def t)
      → DistinctBelow def (cond b t anything) × AreDistinct (is_scope def (cond b t anything)) (declared_inside def (cond b t anything))
  below_child true t d a = (d, a)
  below_child false t d a = (tt, λ e. refl)

  first_below : (n : ℕ) (f : Fragment) → DistinctBelow def f → DistinctBelow def (first_children n f)
  first_below n (with_child f t) (df, dt, at) =
      let (one, two) = below_child (nat_lt (length (children_of f)) n) t dt at in
      (first_below n f df, one, two)
  first_below n (with_name f m) d = first_below n f d
  first_below n (with_number f m) d = first_below n f d
  first_below n (with_text f m) d = first_below n f d
  first_below n (observed f) d = first_below n f d
  first_below zero (cell l e r) d = (tt, (λ e. refl), tt)
  first_below (suc zero) (cell l e r) (de, ae, dr) = (de, ae, tt)
  first_below (suc (suc n)) (cell l e r) d = d
  first_below n (hole p) d = tt
  first_below n (ending l u) d = tt
  first_below n (operator o) d = tt
  first_below n anything d = tt

  -- an open node has possible columns at each step
  pub first_possible : (n : ℕ) (f : Fragment) → IsReal f → IsOpen def f → (c : Choice (first_children n f)) × (columns : List Term) × IsPossibleInside def (first_children n f) c columns
  first_possible n f real is_open =
      let j = is_open.judged in
      let (c, seen, holds) = first_holds def n f real j.inner j.entities is_open.choice [] is_open.value [] [] j.holds [] in (
        c,
        (is_open.value ∷ seen) ++ map j.inner (in_order (names_inside def (first_children n f))),
        record {
          distinct = (sub_once (declared_inside def (first_children n f)) (declared_inside def f) (sub_declared n f) is_open.distinct.0, first_below n f is_open.distinct.1);
          inside = j.inner;
          entities = j.entities;
          value = is_open.value;
          seen = seen;
          holds = holds;
          columns_are = refl;
        },
      )
