-- The nodes of a tree with what is written around them.
use Rattle.std.specs.Prelude.{ℕ, ◌≡◌, ◌+◌, cond, List, [], ◌∷◌, ◌++◌, length, Some, slice_get, decimal}
use Rattle.psg_grammar.specs.declared.types.Definition.{Definition}
use Rattle.psg_grammar.specs.Fragments.{Fragment, hole, ending, cell, operator, with_child, with_name}
use Rattle.psg_grammar.specs.Fragments.{with_number, with_text, anything, observed, children_of}
use Rattle.psg_grammar.specs.Paths.{Path}
use Rattle.psg_tree.specs.AbstractText.{quoted}
use Rattle.psg_unparse.specs.Rows.{Piece, token, row, wanted, is_bracketed, opening, closing, words_behind, between}

-- A place in a written tree: the path, the least level of a tree there, which is 0 inside written brackets, the pairs
-- of written brackets around it, and the rows before and after it.
pub record Spot : Type 0 where
  pub path : Path
  pub level : ℕ
  pub around : ℕ
  pub before : List Piece
  pub behind : List Piece

pub record Placed : Type 0 where
  pub spot : Spot
  pub node : Fragment

abbrev pub top_spot : Spot
top_spot = record { path = []; level = 0; around = 0; before = []; behind = [] }

module _ (def : Definition) where
  -- the spot of the element with the number in a list that is at the spot
  abbrev pub element_spot : Spot → ℕ → ℕ → Fragment → Spot
  element_spot s n l r = record {
    path = s.path ++ n ∷ [];
    level = 0;
    around = s.around;
    before = s.before;
    behind = between def l r ++ (row def r ++ s.behind);
  }

  abbrev pub rest_spot : Spot → ℕ → Fragment → Fragment → Spot
  rest_spot s l e r = record s { before = s.before ++ (row def e ++ between def l r) }

  -- the spot of the child t after the parts of f, and that of these parts
  abbrev pub child_spot : Spot → Fragment → Fragment → Spot
  child_spot s f t = record {
    path = s.path ++ length (children_of f) ∷ [];
    level = cond (is_bracketed def f t) 0 (wanted def f);
    around = s.around + cond (is_bracketed def f t) 1 0;
    before = s.before ++ (row def f ++ opening (is_bracketed def f t));
    behind = closing (is_bracketed def f t) ++ (words_behind def f ++ s.behind);
  }

  abbrev pub front_spot : Spot → Fragment → Fragment → Spot
  front_spot s f t = record s {
    behind = opening (is_bracketed def f t)
        ++ (row def t ++ (closing (is_bracketed def f t) ++ (words_behind def f ++ s.behind)));
  }

  abbrev pub leaf_spot : Spot → Fragment → List ℕ → Spot
  leaf_spot s f t = record s { behind = token t ∷ (words_behind def f ++ s.behind) }

  -- All nodes, a node before its children, children in order. placed_below has those below; the first element of a list
  -- has the number n.
  abbrev mutual
    pub placed_from : Spot → Fragment → List Placed
    placed_from s (hole p) = record { spot = s; node = hole p } ∷ []
    placed_from s (ending l u) = record { spot = s; node = ending l u } ∷ []
    placed_from s (cell l e r) = record { spot = s; node = cell l e r }
        ∷ (placed_from (element_spot s 0 l r) e ++ placed_below (rest_spot s l e r) 1 r)
    placed_from s (operator o) = record { spot = s; node = operator o } ∷ []
    placed_from s (with_child f t) = record { spot = s; node = with_child f t }
        ∷ (placed_below (front_spot s f t) 0 f ++ placed_from (child_spot s f t) t)
    placed_from s (with_name f n) = record { spot = s; node = with_name f n } ∷ placed_below (leaf_spot s f n) 0 f
    placed_from s (with_number f n) =
        record { spot = s; node = with_number f n } ∷ placed_below (leaf_spot s f (decimal n)) 0 f
    placed_from s (with_text f n) =
        record { spot = s; node = with_text f n } ∷ placed_below (leaf_spot s f (quoted n)) 0 f
    placed_from s anything = record { spot = s; node = anything } ∷ []
    placed_from s (observed f) = record { spot = s; node = observed f } ∷ placed_below s 0 f

    pub placed_below : Spot → ℕ → Fragment → List Placed
    placed_below s n (hole p) = []
    placed_below s n (ending l u) = []
    placed_below s n (cell l e r) = placed_from (element_spot s n l r) e ++ placed_below (rest_spot s l e r) (n + 1) r
    placed_below s n (operator o) = []
    placed_below s n (with_child f t) = placed_below (front_spot s f t) n f ++ placed_from (child_spot s f t) t
    placed_below s n (with_name f x) = placed_below (leaf_spot s f x) n f
    placed_below s n (with_number f x) = placed_below (leaf_spot s f (decimal x)) n f
    placed_below s n (with_text f x) = placed_below (leaf_spot s f (quoted x)) n f
    placed_below s n anything = []
    placed_below s n (observed f) = placed_below s n f

  abbrev pub placed_in : Fragment → List Placed
  placed_in f = placed_from top_spot f

  -- the node at the path with what is around it
  abbrev pub IsPlacedAt : Fragment → Path → Placed → Type 0
  IsPlacedAt f path p = (k : ℕ) × (slice_get (placed_in f) k ≡ Some p) × (p.spot.path ≡ path)
