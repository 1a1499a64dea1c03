-- What is listed of a node agrees with the way down to it.
use Rattle.std.proofs.Common.{◌≡◌, inl, inr, ℕ, suc, ◌+◌, ◌<◌, cond, List, [], ◌∷◌, ◌++◌, length, Some, slice_get, refl, ap, sym, subst, ◌∙◌, append_assoc, append-nil, arith}
use Rattle.std.specs.Prelude.{decimal}
use Rattle.std.specs.List.{AllByRecursion}
use Rattle.std.proofs.lemmas.Bool.Decides.{eqb_tells}
use Rattle.std.proofs.lemmas.Option.{slice_get_within}
use Rattle.psg_terms.proofs.Lists.{slice_get-front, slice_get-end}
use Rattle.psg_grammar.specs.declared.types.Definition.{Definition}
use Rattle.psg_grammar.specs.declared.types.Kind.{Kind}
use Rattle.psg_grammar.specs.Fragments.{Fragment, hole, ending, cell, operator, with_child, with_name, with_number, with_text, anything, observed, children_of}
use Rattle.psg_grammar.specs.Paths.{Path, IsList}
use Rattle.psg_grammar.specs.WellFormed.{WellFormed}
use Rattle.psg_tree.specs.AbstractText.{quoted}
use Rattle.psg_unparse.specs.Rows.{wanted, operator_of}
use Rattle.psg_unparse.specs.Spots.{Spot, Placed, IsPlacedAt, top_spot, element_spot, rest_spot, child_spot, front_spot, leaf_spot, placed_from, placed_below, placed_in}
use Rattle.psg_unparse.proofs.SlotSteps.{below_zero}
use Rattle.psg_unparse.proofs.Listed.{IsProper, proper, placed-top, Counts, no-spine, each-append, each-as, each-at}
use Rattle.psg_textedit.specs.Surroundings.{wanted_in, inner_level, more_around, Surrounds, at_top, in_child}

module _ (def : Definition) where
  pub record IsAt (f : Fragment) (level around : ℕ) (path : Path) (p : Placed) : Type 0 where
    pub rest : Path
    pub path_is : p.spot.path ≡ path ++ rest
    pub there : Surrounds def f level around rest p.node p.spot.level p.spot.around

  -- the node is in one of the children, of which the first has the number n
  record IsBelow (n : ℕ) (f : Fragment) (s : Spot) (p : Placed) : Type 0 where
    number : ℕ
    child : ℕ
    sum : number ≡ n + child
    rest : Path
    tree : Fragment
    path_is : p.spot.path ≡ s.path ++ number ∷ rest
    got : slice_get (children_of f) child ≡ Some tree
    there : Surrounds def tree (inner_level def tree (wanted_in def f child)) (s.around + more_around def tree (wanted_in def f child)) rest p.node
        p.spot.level p.spot.around

  below-at : (f : Fragment) (s : Spot) (p : Placed) → IsBelow 0 f s p → IsAt f s.level s.around s.path p
  below-at f s p b =
      let e : b.child ≡ b.number = omega (arith, b.sum) in
      record {
        rest = b.number ∷ b.rest;
        path_is = b.path_is;
        there = subst (λ k. Surrounds def f s.level s.around (k ∷ b.rest) p.node p.spot.level p.spot.around) e
            (in_child b.child b.tree b.got b.there);
      }

  at-top : (s : Spot) (f : Fragment) → IsProper f → AllByRecursion (IsBelow 0 f s) (placed_below def s 0 f)
      → AllByRecursion (IsAt f s.level s.around s.path) (placed_from def s f)
  at-top s f h a =
      subst (AllByRecursion (IsAt f s.level s.around s.path)) (placed-top def s f h) (
        record { rest = []; path_is = sym (append-nil s.path); there = at_top },
        each-as (IsBelow 0 f s) (IsAt f s.level s.around s.path) (below-at f s) (placed_below def s 0 f) a,
      )

  list-wants : (r : Fragment) (k : ℕ) → IsList r → wanted_in def r k ≡ 0
  list-wants (ending l u) k h = refl
  list-wants (cell l e r) k h = refl
  list-wants _ k h = absurd h

  front-wants : (f t : Fragment) (k : ℕ) → k < length (children_of f) → wanted_in def f k ≡ wanted_in def (with_child f t) k
  front-wants f t k h = elim (eqb_tells (length (children_of f)) k) [
    | inl q ↦ absurd (omega (arith, q.1, h))
    | inr q ↦ sym (ap (λ b. cond b (wanted def f) (wanted_in def f k)) q.0)
  ]

  last-wants : (f t : Fragment) → wanted def f ≡ wanted_in def (with_child f t) (length (children_of f))
  last-wants f t = elim (eqb_tells (length (children_of f)) (length (children_of f))) [
    | inl q ↦ sym (ap (λ b. cond b (wanted def f) (wanted_in def f (length (children_of f)))) q.0)
    | inr q ↦ absurd (q.1 refl)
  ]

  -- a node of an element, and of the elements after it
  of-element : (s : Spot) (n l : ℕ) (e r : Fragment) (p : Placed) → IsAt e 0 s.around (s.path ++ n ∷ []) p
      → IsBelow n (cell l e r) s p
  of-element s n l e r p a =
      let sum : n ≡ n + 0 = omega arith in
      let level : 0 ≡ inner_level def e 0 = sym (ap (λ b. cond b 0 0) (below_zero (operator_of def e))) in
      let around : s.around ≡ s.around + more_around def e 0 = around_by (more_around def e 0)
      (ap (λ b. cond b 1 0) (below_zero (operator_of def e))) in
      record {
        number = n;
        child = 0;
        sum = sum;
        rest = a.rest;
        tree = e;
        path_is = a.path_is ∙ append_assoc s.path (n ∷ []) a.rest;
        got = refl;
        there = subst (λ x. Surrounds def e x (s.around + more_around def e 0) a.rest p.node p.spot.level p.spot.around) level
            (subst (λ x. Surrounds def e 0 x a.rest p.node p.spot.level p.spot.around) around a.there);
      }
    where
      around_by : (m : ℕ) → m ≡ 0 → s.around ≡ s.around + m
      around_by m e' = omega (arith, e')

  of-rest : (s : Spot) (n l : ℕ) (e r : Fragment) (p : Placed) → IsList r → IsBelow (n + 1) r (rest_spot def s l e r) p
      → IsBelow n (cell l e r) s p
  of-rest s n l e r p list b =
      let sum : b.number ≡ n + suc b.child = omega (arith, b.sum) in
      record {
        number = b.number;
        child = suc b.child;
        sum = sum;
        rest = b.rest;
        tree = b.tree;
        path_is = b.path_is;
        got = b.got;
        there = subst (λ w. Surrounds def b.tree (inner_level def b.tree w) (s.around + more_around def b.tree w) b.rest p.node
            p.spot.level p.spot.around) (list-wants r b.child list) b.there;
      }

  of-front : (s : Spot) (n : ℕ) (f t : Fragment) (p : Placed) → IsBelow n f (front_spot def s f t) p
      → IsBelow n (with_child f t) s p
  of-front s n f t p b = record {
    number = b.number;
    child = b.child;
    sum = b.sum;
    rest = b.rest;
    tree = b.tree;
    path_is = b.path_is;
    got = slice_get-front (children_of f) (t ∷ []) b.child b.tree b.got;
    there = subst (λ w. Surrounds def b.tree (inner_level def b.tree w) (s.around + more_around def b.tree w) b.rest p.node
        p.spot.level p.spot.around)
        (front-wants f t b.child (slice_get_within (children_of f) b.child b.tree b.got)) b.there;
  }

  of-child : (s : Spot) (n : ℕ) (f t : Fragment) (p : Placed) → n ≡ 0
      → IsAt t (inner_level def t (wanted def f)) (s.around + more_around def t (wanted def f))
      (s.path ++ length (children_of f) ∷ []) p → IsBelow n (with_child f t) s p
  of-child s n f t p none a =
      let k : ℕ = length (children_of f) in
      let sum : length (children_of f) ≡ n + length (children_of f) = omega (arith, none) in
      record {
        number = length (children_of f);
        child = length (children_of f);
        sum = sum;
        rest = a.rest;
        tree = t;
        path_is = a.path_is ∙ append_assoc s.path (length (children_of f) ∷ []) a.rest;
        got = slice_get-end (children_of f) t;
        there = subst (λ w. Surrounds def t (inner_level def t w) (s.around + more_around def t w) a.rest p.node p.spot.level
            p.spot.around) (last-wants f t) a.there;
      }

  -- a leaf changes nothing of this
  below_leaf : (s inner : Spot) (n : ℕ) (f g : Fragment) → inner.path ≡ s.path → inner.around ≡ s.around
      → children_of f ≡ children_of g → ((k : ℕ) → wanted_in def f k ≡ wanted_in def g k) → (ps : List Placed)
      → AllByRecursion (IsBelow n f inner) ps → AllByRecursion (IsBelow n g s) ps
  below_leaf s inner n f g path around children wants ps a =
      each-as (IsBelow n f inner) (IsBelow n g s)
      (λ p b. record {
        number = b.number;
        child = b.child;
        sum = b.sum;
        rest = b.rest;
        tree = b.tree;
        path_is = b.path_is ∙ ap (λ q. q ++ b.number ∷ b.rest) path;
        got = sym (ap (λ ts. slice_get ts b.child) children) ∙ b.got;
        there = subst (λ x. Surrounds def b.tree (inner_level def b.tree (wanted_in def g b.child))
            (x + more_around def b.tree (wanted_in def g b.child)) b.rest p.node p.spot.level p.spot.around) around
            (subst (λ w. Surrounds def b.tree (inner_level def b.tree w) (inner.around + more_around def b.tree w) b.rest
            p.node p.spot.level p.spot.around) (wants b.child) b.there);
      }) ps a

  below : (s : Spot) (n : ℕ) (f : Fragment) → IsProper f → Counts def n f
      → AllByRecursion (IsBelow n f s) (placed_below def s n f)
  below s n (hole p) h c = tt
  below s n (ending l u) h c = tt
  below s n (cell l e r) h c =
      each-append (IsBelow n (cell l e r) s) (placed_from def (element_spot def s n l r) e)
      (placed_below def (rest_spot def s l e r) (n + 1) r)
      (each-as (IsAt e 0 s.around (s.path ++ n ∷ [])) (IsBelow n (cell l e r) s) (of-element s n l e r)
      (placed_from def (element_spot def s n l r) e)
      (at-top (element_spot def s n l r) e h.0 (below (element_spot def s n l r) 0 e h.0 (λ spine. refl))))
      (each-as (IsBelow (n + 1) r (rest_spot def s l e r)) (IsBelow n (cell l e r) s) (λ p. of-rest s n l e r p h.1.1)
      (placed_below def (rest_spot def s l e r) (n + 1) r)
      (below (rest_spot def s l e r) (n + 1) r h.1.0 (no-spine def r (n + 1) h.1.1)))
  below s n (operator o) h c = tt
  below s n (with_child f t) h c =
      each-append (IsBelow n (with_child f t) s) (placed_below def (front_spot def s f t) n f)
      (placed_from def (child_spot def s f t) t)
      (each-as (IsBelow n f (front_spot def s f t)) (IsBelow n (with_child f t) s) (of-front s n f t)
      (placed_below def (front_spot def s f t) n f) (below (front_spot def s f t) n f h.0 (λ spine. c tt)))
      (each-as (IsAt t (inner_level def t (wanted def f)) (s.around + more_around def t (wanted def f))
      (s.path ++ length (children_of f) ∷ [])) (IsBelow n (with_child f t) s) (λ p. of-child s n f t p (c tt))
      (placed_from def (child_spot def s f t) t)
      (at-top (child_spot def s f t) t h.1.0 (below (child_spot def s f t) 0 t h.1.0 (λ spine. refl))))
  below s n (with_name f x) h c = below_leaf s (leaf_spot def s f x) n f (with_name f x) refl refl refl (λ k. refl)
      (placed_below def (leaf_spot def s f x) n f) (below (leaf_spot def s f x) n f h.0 (λ spine. c tt))
  below s n (with_number f x) h c = below_leaf s (leaf_spot def s f (decimal x)) n f (with_number f x) refl refl refl
      (λ k. refl) (placed_below def (leaf_spot def s f (decimal x)) n f)
      (below (leaf_spot def s f (decimal x)) n f h.0 (λ spine. c tt))
  below s n (with_text f x) h c = below_leaf s (leaf_spot def s f (quoted x)) n f (with_text f x) refl refl refl (λ k. refl)
      (placed_below def (leaf_spot def s f (quoted x)) n f)
      (below (leaf_spot def s f (quoted x)) n f h.0 (λ spine. c tt))
  below s n anything h c = absurd h
  below s n (observed f) h c = absurd h

  -- What is listed of a node is what the way down to it says.
  pub surrounded : (f : Fragment) (kind : Kind) → WellFormed def f kind → (path : Path) (p : Placed) → IsPlacedAt def f path p
      → Surrounds def f 0 0 path p.node p.spot.level p.spot.around
  surrounded f kind h path p at =
      let is : IsProper f = proper def f [] kind h.0 h.1 in
      let a : IsAt f 0 0 [] p = each-at (IsAt f 0 0 []) (placed_in def f) at.0 p
      (at-top top_spot f is (below top_spot 0 f is (λ spine. refl))) at.1 in
      subst (λ q. Surrounds def f 0 0 q p.node p.spot.level p.spot.around) (sym a.path_is ∙ at.2) a.there

  -- one way down says one thing
  pub record IsSame (n m : Fragment) (l k a b : ℕ) : Type 0 where
    pub node : n ≡ m
    pub level : l ≡ k
    pub around : a ≡ b

  pub surrounded_once : (f : Fragment) (level around : ℕ) (path : Path) (n m : Fragment) (l k a b : ℕ)
      → Surrounds def f level around path n l a → Surrounds def f level around path m k b → IsSame n m l k a b
  surrounded_once f level around _ _ _ _ _ _ _ at_top at_top = record { node = refl; level = refl; around = refl }
  surrounded_once f level around _ n m l k a b (in_child {path = path} i t got x) (in_child j u gotten y) =
      let both : Some t ≡ Some u = sym got ∙ gotten in
      let same : t ≡ u = cc in
      surrounded_once t (inner_level def t (wanted_in def f i)) (around + more_around def t (wanted_in def f i)) path n m l k a b x
      (subst (λ v. Surrounds def v (inner_level def v (wanted_in def f i)) (around + more_around def v (wanted_in def f i)) path m k b)
      (sym same) y)
