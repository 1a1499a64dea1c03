-- At each node of a tree: whatever tree of its kind and level is put there, the whole has its tokens.
-- One recursion goes down the parts of the tree; each step is a lemma of its own.
use Rattle.std.proofs.Common.{◌≡◌, inl, inr, ℕ, zero, suc, ◌+◌, ◌<◌, ◌≤◌, false, cond, List, [], ◌∷◌, ◌++◌, length, length-append, slice_get, refl, ap, sym, ◌∙◌, subst, arith}
use Rattle.std.specs.Prelude.{decimal}
use Rattle.std.specs.List.{AllByRecursion}
use Rattle.std.proofs.lemmas.Bool.Decides.{eqb_tells}
use Rattle.psg_grammar.specs.declared.types.Kind.{Kind}
use Rattle.psg_grammar.specs.declared.types.Kind.TheVariants as kinds
use Rattle.psg_grammar.specs.declared.types.Item.{Item}
use Rattle.psg_grammar.specs.declared.types.Item.TheVariants as items
use Rattle.psg_grammar.specs.declared.types.Definition.{Definition}
use Rattle.psg_grammar.specs.Fragments.{Fragment, hole, ending, cell, operator, with_child, with_name, with_number, with_text, anything, observed, children_of}
use Rattle.psg_grammar.specs.Kinds.{IsOfKind}
use Rattle.psg_grammar.specs.Paths.{Path, change_child, change_at, replaced}
use Rattle.psg_grammar.specs.Printable.{IsPrintable}
use Rattle.psg_grammar.specs.Sizes.{depth_of}
use Rattle.psg_grammar.specs.Sound.{IsSound}
use Rattle.psg_grammar.specs.WellFormed.{Fits, IsPlain, fixed_words}
use Rattle.psg_tree.specs.AbstractText.{quoted as quoted_bytes}
use Rattle.psg_class.specs.Terminals.{word, numeral, quoted}
use Rattle.psg_class.specs.Yields.{Yields, SomeYield, elements}
use Rattle.psg_class.proofs.ClassFacts.{ClassFacts}
use Rattle.psg_unparse.specs.Rows.{wanted, operator_of, is_below_level, is_bracketed, between, separating}
use Rattle.psg_unparse.specs.Spots.{Spot, Placed, top_spot, element_spot, rest_spot, child_spot, front_spot, leaf_spot, placed_from, placed_below, placed_in}
use Rattle.psg_unparse.proofs.WordTokens.{name_text, name_terminal}
use Rattle.psg_unparse.proofs.NumberTokens.{number_text}
use Rattle.psg_unparse.proofs.QuoteTokens.{quote_text}
use Rattle.psg_unparse.proofs.FixedTokens.{HasTokens}
use Rattle.psg_unparse.proofs.Building.{past_refers, past_declares, past_number, past_text}
use Rattle.psg_unparse.proofs.Claims.{IsSpine, IsCell, IsListOf, ListBack, WholeBack, PartBack, spine_of}
use Rattle.psg_unparse.proofs.SlotSteps.{below_zero}
use Rattle.psg_unparse.proofs.NodesBack.{bracket_level}
use Rattle.psg_unparse.proofs.Trees.{claim}
use Rattle.psg_textedit.proofs.Holes.{Hole, top_hole, mapped, put_so}
use Rattle.psg_textedit.proofs.Parts.{FrontAt, whole_front, no_more, old_in}
use Rattle.psg_textedit.proofs.Spots.{one_or_none, front_hole, child_hole, leaf_hole, element_hole, rest_hole}

-- ---- lists of nodes

all-append : (P : Placed → Type 0) (xs ys : List Placed) → AllByRecursion P xs → AllByRecursion P ys
    → AllByRecursion P (xs ++ ys)
all-append P [] ys a b = b
all-append P (x ∷ xs) ys a b = (a.0, all-append P xs ys a.1 b)

-- ---- paths

change_snoc : (g : Fragment → Fragment) (path : Path) (k : ℕ) (f : Fragment)
    → change_at g (path ++ k ∷ []) f ≡ change_at (change_child g k) path f
change_snoc g [] k f = refl
change_snoc g (j ∷ path) k f = λ i. change_child (λ x. change_snoc g path k x i) j f

no_spine_list : (l : ℕ) (f : Fragment) (def : Definition) → IsListOf def l f → IsSpine f → ⊥
no_spine_list l (operator o) def h s = h
no_spine_list l (with_child f t) def h s = h
no_spine_list l (with_name f n) def h s = h
no_spine_list l (with_number f n) def h s = h
no_spine_list l (with_text f t) def h s = h
no_spine_list l (hole p) def h s = s
no_spine_list l (ending m u) def h s = s
no_spine_list l (cell m e r) def h s = s
no_spine_list l anything def h s = s
no_spine_list l (observed f) def h s = s

one_list : (l m : ℕ) → kinds.List l ≡ kinds.List m → l ≡ m
one_list l m e = cc

between_cell : (def : Definition) (l : ℕ) (r : Fragment) → IsCell r
    → between def l r ≡ separating (slice_get def.lists l)
between_cell def l (cell m e r) is = refl
between_cell def l _ is = absurd is

-- what still has parts to take is no list
no_cell_part : (def : Definition) (f : Fragment) (i : Item) (more : List Item) (kind : Kind)
    → Fits def f (i ∷ more) kind → IsCell f → ⊥
no_cell_part def (cell l e r) i more kind h is = let e : i ∷ more ≡ [] = h.0 in absurd (cc)
no_cell_part def _ i more kind h is = is

module _ (def : Definition) where
  pub fits_kind : (f : Fragment) (more : List Item) (kind : Kind) → Fits def f more kind → IsPlain f → IsOfKind def f kind
  fits_kind (hole p) more kind h plain = h.1
  fits_kind (ending l u) more kind h plain = h.1
  fits_kind (cell l e r) more kind h plain = h.1
  fits_kind (operator o) more kind h plain = (h.0, h.1, h.3)
  fits_kind (with_child f t) more kind h plain = fits_kind f (items.Slot h.0 ∷ more) kind h.1 plain.0
  fits_kind (with_name f n) more kind (inl (s, h), name) plain = fits_kind f (items.Refers s ∷ more) kind h plain
  fits_kind (with_name f n) more kind (inr (s, h), name) plain = fits_kind f (items.Declares s ∷ more) kind h plain
  fits_kind (with_number f n) more kind h plain = fits_kind f (items.Number ∷ more) kind h.0 plain
  fits_kind (with_text f t) more kind h plain = fits_kind f (items.Text ∷ more) kind h.0 plain
  fits_kind anything more kind h plain = absurd h
  fits_kind (observed f) more kind h plain = absurd plain

module _ (def : Definition) (sound : IsSound def) (c : ClassFacts def) (known : HasTokens def) (whole : Fragment) (kind0 : Kind) where
  pub record Filled (p : Placed) : Type 0 where
    pub kind : Kind
    pub of_kind : IsOfKind def p.node kind
    pub hole : Hole def whole kind0 p.spot (λ t m us. Yields def t kind p.spot.level m us)
        (λ t. replaced p.spot.path t whole)

  -- what the parts and elements of a node need
  pub record Inner (s : Spot) (f : Fragment) (kind : Kind) (put : Fragment → Fragment) : Type 0 where
    pub front : IsSpine f → Hole def whole kind0 s (FrontAt def f kind) put
    pub list : (l : ℕ) → kind ≡ kinds.List l → IsCell f → Hole def whole kind0 s (λ u m us. SomeYield def u l m us) put

  -- changes at the spot, and of the children from the number n on
  abbrev pub Changes : Spot → Fragment → (Fragment → Fragment) → Type 0
  Changes s f put = (g : Fragment → Fragment) → change_at g s.path whole ≡ put (g f)

  abbrev pub ChangesBelow : Spot → ℕ → Fragment → (Fragment → Fragment) → Type 0
  ChangesBelow s n f put =
      (g : Fragment → Fragment) (k : ℕ) → k < length (children_of f)
      → change_at (change_child g (n + k)) s.path whole ≡ put (change_child g k f)

  changes_below : (s : Spot) (f : Fragment) (put : Fragment → Fragment) → Changes s f put → ChangesBelow s 0 f put
  changes_below s f put at g k h =
      let same : 0 + k ≡ k = omega arith in
      at (change_child g (0 + k)) ∙ ap (λ j. put (change_child g j f)) same

  node_inner : (s : Spot) (f : Fragment) (kind : Kind) (put : Fragment → Fragment) → Fits def f [] kind → IsPlain f
      → IsPrintable f → is_below_level (operator_of def f) s.level ≡ false
      → Hole def whole kind0 s (λ t m us. Yields def t kind s.level m us) put → Inner s f kind put
  node_inner s f kind put h plain printable low need = record {
    front = λ spine.
        let a = (claim def sound c known f [] kind h plain printable).part spine in
        mapped def whole kind0 (FrontAt def f kind) need
        (whole_front def f kind s.level (no_more def f kind a) low);
    list = λ l e is.
        mapped def whole kind0 (λ u m us. SomeYield def u l m us) need
        (λ t m us y. subst (λ k. Yields def t k s.level m us) (sym e) (elements y));
  }

  head : (s : Spot) (f : Fragment) (kind : Kind) (put : Fragment → Fragment) → Fits def f [] kind → IsPlain f
      → Hole def whole kind0 s (λ t m us. Yields def t kind s.level m us) put → Changes s f put
      → Filled (record { spot = s; node = f })
  head s f kind put h plain need at = record {
    kind = kind;
    of_kind = fits_kind def f [] kind h plain;
    hole = put_so def whole kind0 (λ t. replaced s.path t whole) need (λ t. sym (at (λ old. t)));
  }

  with_top : (s : Spot) (f : Fragment) → IsPlain f → Filled (record { spot = s; node = f })
      → AllByRecursion Filled (placed_below def s 0 f) → AllByRecursion Filled (placed_from def s f)
  with_top s (hole p) plain a b = (a, b)
  with_top s (ending l u) plain a b = (a, b)
  with_top s (cell l e r) plain a b = (a, b)
  with_top s (operator o) plain a b = (a, b)
  with_top s (with_child f t) plain a b = (a, b)
  with_top s (with_name f n) plain a b = (a, b)
  with_top s (with_number f n) plain a b = (a, b)
  with_top s (with_text f t) plain a b = (a, b)
  with_top s anything plain a b = (a, b)
  with_top s (observed f) plain a b = absurd plain

  -- a change of the last child, and of one before it
  last_change : (s : Spot) (n : ℕ) (f t : Fragment) (put : Fragment → Fragment) → n ≡ 0
      → ChangesBelow s n (with_child f t) put → Changes (child_spot def s f t) t (λ u. put (with_child f u))
  last_change s n f t put none at g =
      let k : ℕ = length (children_of f) in
      let size : length (children_of f ++ t ∷ []) ≡ k + 1 = length-append (children_of f) (t ∷ []) in
      let number : k ≡ n + k = omega (arith, none) in
      change_snoc g s.path k whole ∙ ap (λ j. change_at (change_child g j) s.path whole) number
      ∙ at g k (omega (arith, size))
      ∙ elim (eqb_tells k k) [
        | inl q ↦ ap (λ b. put (cond b (with_child f (g t)) (with_child (change_child g k f) t))) q.0
        | inr q ↦ absurd (q.1 refl)
      ]

  front_change : (s : Spot) (n : ℕ) (f t : Fragment) (put : Fragment → Fragment)
      → ChangesBelow s n (with_child f t) put → ChangesBelow s n f (λ g. put (with_child g t))
  front_change s n f t put at g k h =
      let size : length (children_of f ++ t ∷ []) ≡ length (children_of f) + 1 = length-append (children_of f) (t ∷ []) in
      at g k (omega (arith, size, h))
      ∙ elim (eqb_tells (length (children_of f)) k) [
        | inl q ↦ absurd (omega (arith, q.1, h))
        | inr q ↦ ap (λ b. put (cond b (with_child f (g t)) (with_child (change_child g k f) t))) q.0
      ]

  first_change : (s : Spot) (n l : ℕ) (e r : Fragment) (put : Fragment → Fragment) → ChangesBelow s n (cell l e r) put
      → Changes (element_spot def s n l r) e (λ u. put (cell l u r))
  first_change s n l e r put at g =
      let number : n ≡ n + 0 = omega arith in
      change_snoc g s.path n whole ∙ ap (λ j. change_at (change_child g j) s.path whole) number ∙ at g zero (omega arith)

  rest_change : (s : Spot) (n l : ℕ) (e r : Fragment) (put : Fragment → Fragment) → ChangesBelow s n (cell l e r) put
      → ChangesBelow (rest_spot def s l e r) (n + 1) r (λ u. put (cell l e u))
  rest_change s n l e r put at g k h =
      let number : n + 1 + k ≡ n + suc k = omega arith in
      ap (λ j. change_at (change_child g j) s.path whole) number ∙ at g (suc k) (omega (arith, h))

  -- the rest of a list is a list
  rest_inner : (s : Spot) (l : ℕ) (r : Fragment) (put : Fragment → Fragment) → ListBack def r l
      → (IsCell r → Hole def whole kind0 s (λ u m us. SomeYield def u l m us) put) → Inner s r (kinds.List l) put
  rest_inner s l r put b need = record {
    front = λ spine. absurd (no_spine_list l r def b.shape spine);
    list = λ m e is.
        subst (λ j. Hole def whole kind0 s (λ u d us. SomeYield def u j d us) put) (one_list l m e) (need is);
  }

  abbrev pub IsFirst : ℕ → Fragment → Type 0
  IsFirst n f = IsSpine f → n ≡ 0

  no_first : (l n : ℕ) (r : Fragment) → ListBack def r l → IsFirst n r
  no_first l n r b = λ spine. absurd (no_spine_list l r def b.shape spine)

  pub filled_below : (s : Spot) (n : ℕ) (f : Fragment) (more : List Item) (kind : Kind) (put : Fragment → Fragment)
      → Fits def f more kind → IsPlain f → IsPrintable f → s.around + depth_of f ≤ depth_of whole → IsFirst n f
      → Inner s f kind put → ChangesBelow s n f put → AllByRecursion Filled (placed_below def s n f)
  filled_below s n (hole p) more kind put h plain printable deep z inner at = tt
  filled_below s n (ending l u) more kind put h plain printable deep z inner at = tt
  filled_below s n (cell l e r) more kind put h plain printable deep z inner at =
      let k = h.2 in
      let some : Hole def whole kind0 s (λ u m us. SomeYield def u l m us) put = inner.list l h.1 tt in
      let a = (claim def sound c known e [] (kinds.Phylum h.2.element) h.4 plain.0 printable.0).whole refl in
      let b : ListBack def r l = (claim def sound c known r [] (kinds.List l) h.5 plain.1 printable.1).whole refl in
      let low = below_zero (operator_of def e) in
      let inside_e = element_hole def sound c known whole kind0 l h.2 h.3 s e r put deep n b some in
      let at_e = first_change s n l e r put at in
      all-append Filled (placed_from def (element_spot def s n l r) e) (placed_below def (rest_spot def s l e r) (n + 1) r)
      (with_top (element_spot def s n l r) e plain.0
      (head (element_spot def s n l r) e (kinds.Phylum h.2.element) (λ u. put (cell l u r)) h.4 plain.0 inside_e at_e)
      (filled_below (element_spot def s n l r) 0 e [] (kinds.Phylum h.2.element) (λ u. put (cell l u r)) h.4 plain.0
      printable.0 (omega (arith, deep)) (λ spine. refl)
      (node_inner (element_spot def s n l r) e (kinds.Phylum h.2.element) (λ u. put (cell l u r)) h.4 plain.0 printable.0
      low inside_e)
      (changes_below (element_spot def s n l r) e (λ u. put (cell l u r)) at_e)))
      (filled_below (rest_spot def s l e r) (n + 1) r [] (kinds.List l) (λ u. put (cell l e u)) h.5 plain.1 printable.1
      (omega (arith, deep)) (no_first l (n + 1) r b)
      (rest_inner (rest_spot def s l e r) l r (λ u. put (cell l e u)) b
      (λ is. rest_hole def sound c known whole kind0 l h.2 h.3 s e r put deep
      (old_in def e (kinds.Phylum h.2.element) 0 low a) (between_cell def l r is) some))
      (rest_change s n l e r put at))
  filled_below s n (operator o) more kind put h plain printable deep z inner at = tt
  filled_below s n (with_child f t) more kind put h plain printable deep z inner at =
      let a : PartBack def f (items.Slot h.0 ∷ more) kind =
      (claim def sound c known f (items.Slot h.0 ∷ more) kind h.1 plain.0 printable.0).part
      (spine_of def f (items.Slot h.0) more kind h.1) in
      let b : WholeBack def t h.0 = (claim def sound c known t [] h.0 h.2 plain.1 printable.1).whole refl in
      let low = bracket_level (operator_of def t) (wanted def f) in
      let inside_t = child_hole def sound c known whole kind0 s f t more kind h.0 a b put deep (inner.front tt) in
      let at_t = last_change s n f t put (z tt) at in
      all-append Filled (placed_below def (front_spot def s f t) n f) (placed_from def (child_spot def s f t) t)
      (filled_below (front_spot def s f t) n f (items.Slot h.0 ∷ more) kind (λ g. put (with_child g t)) h.1 plain.0
      printable.0 (omega (arith, deep)) (λ spine. z tt)
      (record {
        front = λ spine. front_hole def sound c known whole kind0 s f t more kind h.0 a b put deep (inner.front tt);
        list = λ l e is. absurd (no_cell_part def f (items.Slot h.0) more kind h.1 is);
      })
      (front_change s n f t put at))
      (with_top (child_spot def s f t) t plain.1
      (head (child_spot def s f t) t h.0 (λ u. put (with_child f u)) h.2 plain.1 inside_t at_t)
      (filled_below (child_spot def s f t) 0 t [] h.0 (λ u. put (with_child f u)) h.2 plain.1 printable.1
      (omega (arith, deep, one_or_none (is_bracketed def f t))) (λ spine. refl)
      (node_inner (child_spot def s f t) t h.0 (λ u. put (with_child f u)) h.2 plain.1 printable.1 low inside_t)
      (changes_below (child_spot def s f t) t (λ u. put (with_child f u)) at_t)))
  filled_below s n (with_name f x) more kind put (inl (y, h), name) plain printable deep z inner at =
      let a = (claim def sound c known f (items.Refers y ∷ more) kind h plain printable.0).part
      (spine_of def f (items.Refers y) more kind h) in
      let (cs, e, is, free) = name in
      filled_below (leaf_spot def s f x) n f (items.Refers y ∷ more) kind (λ g. put (with_name g x)) h plain printable.0
      deep (λ spine. z tt)
      (record {
        front = λ spine. leaf_hole def sound c known whole kind0 s f (with_name f x) (items.Refers y) more kind a x (word x)
            (λ g. with_name g x) put deep (name_text (fixed_words def) x cs e is printable.1) refl refl refl
            (λ m o g first d ts q. past_refers def m o x (name_terminal def x cs e is free) q) (inner.front tt);
        list = λ l e is. absurd (no_cell_part def f (items.Refers y) more kind h is);
      })
      (λ g k lt. at g k lt)
  filled_below s n (with_name f x) more kind put (inr (y, h), name) plain printable deep z inner at =
      let a = (claim def sound c known f (items.Declares y ∷ more) kind h plain printable.0).part
      (spine_of def f (items.Declares y) more kind h) in
      let (cs, e, is, free) = name in
      filled_below (leaf_spot def s f x) n f (items.Declares y ∷ more) kind (λ g. put (with_name g x)) h plain
      printable.0 deep (λ spine. z tt)
      (record {
        front = λ spine. leaf_hole def sound c known whole kind0 s f (with_name f x) (items.Declares y) more kind a x
            (word x) (λ g. with_name g x) put deep (name_text (fixed_words def) x cs e is printable.1) refl refl refl
            (λ m o g first d ts q. past_declares def m o x (name_terminal def x cs e is free) q) (inner.front tt);
        list = λ l e is. absurd (no_cell_part def f (items.Declares y) more kind h is);
      })
      (λ g k lt. at g k lt)
  filled_below s n (with_number f x) more kind put h plain printable deep z inner at =
      let a = (claim def sound c known f (items.Number ∷ more) kind h.0 plain printable).part
      (spine_of def f items.Number more kind h.0) in
      filled_below (leaf_spot def s f (decimal x)) n f (items.Number ∷ more) kind (λ g. put (with_number g x)) h.0 plain
      printable deep (λ spine. z tt)
      (record {
        front = λ spine. leaf_hole def sound c known whole kind0 s f (with_number f x) items.Number more kind a (decimal x)
            (numeral x) (λ g. with_number g x) put deep (number_text (fixed_words def) x h.1) refl refl refl
            (λ m o g first d ts q. past_number def m o x q) (inner.front tt);
        list = λ l e is. absurd (no_cell_part def f items.Number more kind h.0 is);
      })
      (λ g k lt. at g k lt)
  filled_below s n (with_text f x) more kind put h plain printable deep z inner at =
      let a = (claim def sound c known f (items.Text ∷ more) kind h.0 plain printable.0).part
      (spine_of def f items.Text more kind h.0) in
      filled_below (leaf_spot def s f (quoted_bytes x)) n f (items.Text ∷ more) kind (λ g. put (with_text g x)) h.0 plain
      printable.0 deep (λ spine. z tt)
      (record {
        front = λ spine. leaf_hole def sound c known whole kind0 s f (with_text f x) items.Text more kind a
            (quoted_bytes x) (quoted x) (λ g. with_text g x) put deep
            (quote_text (fixed_words def) x h.1 printable.1 printable.2) refl refl refl
            (λ m o g first d ts q. past_text def m o x q) (inner.front tt);
        list = λ l e is. absurd (no_cell_part def f items.Text more kind h.0 is);
      })
      (λ g k lt. at g k lt)
  filled_below s n anything more kind put h plain printable deep z inner at = tt
  filled_below s n (observed f) more kind put h plain printable deep z inner at = absurd plain

  pub filled : Fits def whole [] kind0 → IsPlain whole → IsPrintable whole → AllByRecursion Filled (placed_in def whole)
  filled h plain printable =
      let need = top_hole def whole kind0 in
      let low = below_zero (operator_of def whole) in
      let at : Changes top_spot whole (λ t. t) = λ g. refl in
      with_top top_spot whole plain (head top_spot whole kind0 (λ t. t) h plain need at)
      (filled_below top_spot 0 whole [] kind0 (λ t. t) h plain printable (omega arith) (λ spine. refl)
      (node_inner top_spot whole kind0 (λ t. t) h plain printable low need) (changes_below top_spot whole (λ t. t) at))
