-- Rows put together, and the row of a tree cut at each of its nodes.
use Rattle.std.proofs.Common.{◌≡◌, ℕ, ◌+◌, List, [], ◌∷◌, ◌++◌, Option, Some, sym, ap, ◌∙◌, refl, append_assoc, append-nil}
use Rattle.std.specs.Prelude.{chars, decimal}
use Rattle.std.specs.List.{AllByRecursion}
use Rattle.psg_grammar.specs.declared.types.Definition.{Definition}
use Rattle.psg_grammar.specs.Fragments.{Fragment, hole, ending, cell, operator, with_child, with_name, with_number, with_text, anything, observed}
use Rattle.psg_tree.specs.AbstractText.{quoted}
use Rattle.psg_unparse.specs.Rows.{Piece, token, mark, row, is_bracketed, opening, closing, words_behind, between}
use Rattle.psg_unparse.specs.Layout.{gap, laid, last_in, last_char}
use Rattle.psg_unparse.specs.Spots.{Spot, Placed, top_spot, element_spot, rest_spot, child_spot, front_spot, leaf_spot, placed_from, placed_below, placed_in}

pub laid-append : (before a b : List Piece) → laid before (a ++ b) ≡ laid before a ++ laid (before ++ a) b
laid-append before [] b = ap (λ x. laid x b) (sym (append-nil before))
laid-append before (token t ∷ a) b =
    ap (λ x. gap before t ++ (t ++ x)) (laid-append (before ++ token t ∷ []) a b)
    ∙ ap (λ x. gap before t ++ x) (sym (append_assoc t (laid (before ++ token t ∷ []) a) (laid ((before ++ token t ∷ []) ++ a) b)))
    ∙ sym (append_assoc (gap before t) (t ++ laid (before ++ token t ∷ []) a) (laid ((before ++ token t ∷ []) ++ a) b))
    ∙ ap (λ x. (gap before t ++ (t ++ laid (before ++ token t ∷ []) a)) ++ laid x b) (append_assoc before (token t ∷ []) a)
laid-append before (mark i ∷ a) b =
    laid-append (before ++ mark i ∷ []) a b
    ∙ ap (λ x. laid (before ++ mark i ∷ []) a ++ laid x b) (append_assoc before (mark i ∷ []) a)

pub last_in-append : (c : Option ℕ) (a b : List Piece) → last_in c (a ++ b) ≡ last_in (last_in c a) b
last_in-append c [] b = refl
last_in-append c (token t ∷ a) b = last_in-append (Some (last_char 0 (chars t))) a b
last_in-append c (mark i ∷ a) b = last_in-append c a b

pub last_char-snoc : (x : ℕ) (front : List ℕ) (c : ℕ) → last_char x (front ++ c ∷ []) ≡ c
last_char-snoc x [] c = refl
last_char-snoc x (d ∷ front) c = last_char-snoc d front c

all-append : (P : Placed → Type 0) (xs ys : List Placed) → AllByRecursion P xs → AllByRecursion P ys → AllByRecursion P (xs ++ ys)
all-append P [] ys a b = b
all-append P (x ∷ xs) ys a b = (a.0, all-append P xs ys a.1 b)

abbrev Pieces : Type 0
Pieces = List Piece

middle : (b e t x : Pieces) → (b ++ (e ++ t)) ++ x ≡ b ++ (e ++ (t ++ x))
middle b e t x = append_assoc b (e ++ t) x ∙ ap (λ y. b ++ y) (append_assoc e t x)

of_cell : (b e t r h : Pieces) → b ++ ((e ++ (t ++ r)) ++ h) ≡ b ++ (e ++ (t ++ (r ++ h)))
of_cell b e t r h = ap (λ y. b ++ y) (append_assoc e (t ++ r) h ∙ ap (λ y. e ++ y) (append_assoc t r h))

of_child : (b f o t c w h : Pieces) → b ++ ((f ++ (o ++ (t ++ (c ++ w)))) ++ h) ≡ b ++ (f ++ (o ++ (t ++ (c ++ (w ++ h)))))
of_child b f o t c w h =
    ap (λ y. b ++ y) (append_assoc f (o ++ (t ++ (c ++ w))) h ∙ ap (λ y. f ++ y) (append_assoc o (t ++ (c ++ w)) h ∙ ap (λ y. o ++ y) (append_assoc t (c ++ w) h ∙ ap (λ y. t ++ y) (append_assoc c w h))))

of_leaf : (b f w h : Pieces) (p : Piece) → b ++ ((f ++ p ∷ w) ++ h) ≡ b ++ (f ++ p ∷ (w ++ h))
of_leaf b f w h p = ap (λ y. b ++ y) (append_assoc f (p ∷ w) h)

module _ (def : Definition) (whole : Pieces) where
  -- the row is cut at the node
  abbrev pub IsCutAt : Placed → Type 0
  IsCutAt p = p.spot.before ++ (row def p.node ++ p.spot.behind) ≡ whole

  abbrev pub Stands : Spot → Fragment → Type 0
  Stands s f = s.before ++ (row def f ++ s.behind) ≡ whole

  stands_element : (s : Spot) (n l : ℕ) (e r : Fragment) → Stands s (cell l e r) → Stands (element_spot def s n l r) e
  stands_element s n l e r h = sym (of_cell s.before (row def e) (between def l r) (row def r) s.behind) ∙ h

  stands_rest : (s : Spot) (l : ℕ) (e r : Fragment) → Stands s (cell l e r) → Stands (rest_spot def s l e r) r
  stands_rest s l e r h = middle s.before (row def e) (between def l r) (row def r ++ s.behind) ∙ stands_element s 0 l e r h

  stands_front : (s : Spot) (f t : Fragment) → Stands s (with_child f t) → Stands (front_spot def s f t) f
  stands_front s f t h = sym (of_child s.before (row def f) (opening (is_bracketed def f t)) (row def t) (closing (is_bracketed def f t)) (words_behind def f) s.behind) ∙ h

  stands_child : (s : Spot) (f t : Fragment) → Stands s (with_child f t) → Stands (child_spot def s f t) t
  stands_child s f t h = middle s.before (row def f) (opening (is_bracketed def f t)) (row def t ++ (closing (is_bracketed def f t) ++ (words_behind def f ++ s.behind))) ∙ stands_front s f t h

  stands_leaf : (s : Spot) (f : Fragment) (t : List ℕ) → s.before ++ ((row def f ++ token t ∷ words_behind def f) ++ s.behind) ≡ whole → Stands (leaf_spot def s f t) f
  stands_leaf s f t h = sym (of_leaf s.before (row def f) (words_behind def f) s.behind (token t)) ∙ h

  mutual
    pub cut_from : (s : Spot) (f : Fragment) → Stands s f → AllByRecursion IsCutAt (placed_from def s f)
    cut_from s (hole p) h = (h, tt)
    cut_from s (ending l u) h = (h, tt)
    cut_from s (cell l e r) h = (
      h,
      all-append IsCutAt (placed_from def (element_spot def s 0 l r) e) (placed_below def (rest_spot def s l e r) 1 r)
          (cut_from (element_spot def s 0 l r) e (stands_element s 0 l e r h)) (cut_below (rest_spot def s l e r) 1 r (stands_rest s l e r h)),
    )
    cut_from s (operator o) h = (h, tt)
    cut_from s (with_child f t) h = (
      h,
      all-append IsCutAt (placed_below def (front_spot def s f t) 0 f) (placed_from def (child_spot def s f t) t)
          (cut_below (front_spot def s f t) 0 f (stands_front s f t h)) (cut_from (child_spot def s f t) t (stands_child s f t h)),
    )
    cut_from s (with_name f n) h = (h, cut_below (leaf_spot def s f n) 0 f (stands_leaf s f n h))
    cut_from s (with_number f n) h = (h, cut_below (leaf_spot def s f (decimal n)) 0 f (stands_leaf s f (decimal n) h))
    cut_from s (with_text f n) h = (h, cut_below (leaf_spot def s f (quoted n)) 0 f (stands_leaf s f (quoted n) h))
    cut_from s anything h = (h, tt)
    cut_from s (observed f) h = (h, cut_below s 0 f h)

    pub cut_below : (s : Spot) (n : ℕ) (f : Fragment) → Stands s f → AllByRecursion IsCutAt (placed_below def s n f)
    cut_below s n (hole p) h = tt
    cut_below s n (ending l u) h = tt
    cut_below s n (cell l e r) h = all-append IsCutAt (placed_from def (element_spot def s n l r) e) (placed_below def (rest_spot def s l e r) (n + 1) r)
        (cut_from (element_spot def s n l r) e (stands_element s n l e r h)) (cut_below (rest_spot def s l e r) (n + 1) r (stands_rest s l e r h))
    cut_below s n (operator o) h = tt
    cut_below s n (with_child f t) h = all-append IsCutAt (placed_below def (front_spot def s f t) n f) (placed_from def (child_spot def s f t) t)
        (cut_below (front_spot def s f t) n f (stands_front s f t h)) (cut_from (child_spot def s f t) t (stands_child s f t h))
    cut_below s n (with_name f x) h = cut_below (leaf_spot def s f x) n f (stands_leaf s f x h)
    cut_below s n (with_number f x) h = cut_below (leaf_spot def s f (decimal x)) n f (stands_leaf s f (decimal x) h)
    cut_below s n (with_text f x) h = cut_below (leaf_spot def s f (quoted x)) n f (stands_leaf s f (quoted x) h)
    cut_below s n anything h = tt
    cut_below s n (observed f) h = cut_below s n f h

-- the row of a tree is cut at each node
pub cut_in : (def : Definition) (f : Fragment) → AllByRecursion (IsCutAt def (row def f)) (placed_in def f)
cut_in def f = cut_from def (row def f) top_spot f (append-nil (row def f))
