-- The level that is wanted at each node, and the brackets that are written around it, by the way down to it.
use Rattle.std.specs.Prelude.{ℕ, ◌≡◌, ◌+◌, ◌==◌, Bool, cond, [], ◌∷◌, length, Some, slice_get}
use Rattle.psg_grammar.specs.declared.types.Definition.{Definition}
use Rattle.psg_grammar.specs.Fragments.{Fragment, hole, ending, cell, operator, with_child, with_name}
use Rattle.psg_grammar.specs.Fragments.{with_number, with_text, anything, observed, children_of}
use Rattle.psg_grammar.specs.Paths.{Path}
use Rattle.psg_unparse.specs.Rows.{wanted, operator_of, is_below_level}

module _ (def : Definition) where
  -- the least level of the child of the number; 0 of an element of a list
  abbrev pub wanted_in : Fragment → ℕ → ℕ
  wanted_in (with_child f t) k = cond (length (children_of f) == k) (wanted def f) (wanted_in f k)
  wanted_in (with_name f n) k = wanted_in f k
  wanted_in (with_number f n) k = wanted_in f k
  wanted_in (with_text f n) k = wanted_in f k
  wanted_in (observed f) k = wanted_in f k
  wanted_in (hole p) k = 0
  wanted_in (ending l u) k = 0
  wanted_in (cell l e r) k = 0
  wanted_in (operator o) k = 0
  wanted_in anything k = 0

  -- a tree where this level is wanted is in brackets; inside them no level is wanted
  abbrev pub is_in_brackets : Fragment → ℕ → Bool
  is_in_brackets t least = is_below_level (operator_of def t) least

  abbrev pub inner_level : Fragment → ℕ → ℕ
  inner_level t least = cond (is_in_brackets t least) 0 least

  abbrev pub more_around : Fragment → ℕ → ℕ
  more_around t least = cond (is_in_brackets t least) 1 0

  -- Surrounds f level around path node l a: where the tree is wanted at the level and has `around` pairs of brackets
  -- around it, the node at the path is wanted at the level l, and has a pairs around it.
  pub data Surrounds : Fragment → ℕ → ℕ → Path → Fragment → ℕ → ℕ → Type 0 where
    at_top : {f : Fragment} {level around : ℕ} → Surrounds f level around [] f level around
    in_child : {f node : Fragment} {level around l a : ℕ} {path : Path} (k : ℕ) (t : Fragment)
        → slice_get (children_of f) k ≡ Some t
        → Surrounds t (inner_level t (wanted_in f k)) (around + more_around t (wanted_in f k)) path node l a
        → Surrounds f level around (k ∷ path) node l a
