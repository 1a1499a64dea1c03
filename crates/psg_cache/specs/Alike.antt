-- When two trees are alike besides their children.
use Rattle.std.specs.Prelude.{ℕ, zero, suc, ◌≡◌, ◌≤◌, ◌+◌, ◌-◌, ◌||◌, Bool, true, false, cond, List}
use Rattle.std.specs.Prelude.{[], ◌∷◌, drop, length, map, slice_get, take, Option, Some, None}
use Rattle.psg_grammar.specs.Fragments.{Fragment, hole, children_of, top_operator}
use Rattle.psg_grammar.specs.Same.{same_tree}
use Rattle.psg_tree.specs.Shapes.{list_of}
use Rattle.psg_tree.specs.declared.tree.Part.{Part}
use Rattle.psg_tree.specs.declared.tree.Part.TheVariants.{Sub, Name as Named, Number, Text}
use Rattle.psg_eval.specs.Trees.{own_names}
use Rattle.psg_cache.specs.Annotated.{Annotated, below_in, tree_in}
use Rattle.psg_cache.specs.Diff.{agree, diff_cells, list_number, same_some}

-- both are subtrees, or equal names, numbers or texts
abbrev pub IsPartAlike : Part → Part → Type 0
IsPartAlike (Sub t) (Sub u) = Unit {0}
IsPartAlike (Named n) (Named m) = n ≡ m
IsPartAlike (Number n) (Number m) = n ≡ m
IsPartAlike (Text t) (Text u) = t ≡ u
IsPartAlike _ _ = ⊥

-- there are as many parts, and those at the same places are alike
abbrev pub AreOwnAlike : List Part → List Part → Type 0
AreOwnAlike [] [] = Unit {0}
AreOwnAlike (p ∷ ps) (q ∷ qs) = IsPartAlike p q × AreOwnAlike ps qs
AreOwnAlike _ _ = ⊥

-- the phylum of the placeholder that the fragment is
abbrev pub hole_number : Fragment → Option ℕ
hole_number (hole p) = Some p
hole_number _ = None

-- whether both have the same operator, or are lists of the same kind
abbrev pub is_paired : Fragment → Fragment → Bool
is_paired f g = same_some (top_operator f) (top_operator g) || same_some (list_number f) (list_number g)

-- The trees are equal where their children are; lists of one kind with one end, which agree where they are equally
-- long, or one operator with the same names.
pub record AreAlike (old new : Fragment) : Type 0 where
  pub equal : children_of old ≡ children_of new → old ≡ new
  pub lists : (l : ℕ) (es : List Fragment) (u : Bool) → new ≡ list_of l es u → old ≡ list_of l (children_of old) u
  pub nodes : (o : ℕ) → top_operator new ≡ Some o → (top_operator old ≡ Some o) × (own_names new ≡ own_names old)
  pub agrees : same_some (list_number old) (list_number new) ≡ true
      → length (children_of old) ≡ length (children_of new)
      → agree old new ≡ true

-- the trees differ, and do not end alike where they are lists of one kind
pub record AreUnlike (old new : Fragment) : Type 0 where
  pub differ : old ≡ new → ⊥
  pub ends : same_some (list_number old) (list_number new) ≡ true → agree old new ≡ false

-- the answer whether they are alike
abbrev pub TellsAlike : Bool → Fragment → Fragment → Type 0
TellsAlike true old new = AreAlike old new
TellsAlike false old new = AreUnlike old new

-- the evaluations at the top of a tree in place of an old one, besides those of the children
abbrev pub diff_top : Fragment → Fragment → ℕ
diff_top old new =
    cond (same_tree old new) 0 (cond (same_some (top_operator old) (top_operator new)) 1 (diff_cells old new))

-- children of this number differ, where it is not 0
abbrev pub DifferBefore : ℕ → List Fragment → List Fragment → Type 0
DifferBefore zero cs ds = Unit {0}
DifferBefore (suc k) cs ds =
    (c : Fragment) × (d : Fragment) × (slice_get cs k ≡ Some c) × (slice_get ds k ≡ Some d) × (c ≡ d → ⊥)

-- that many of the last children are the same
pub record IsBack (old : Annotated) (new : Fragment) (back : ℕ) : Type 0 where
  pub old_within : back ≤ length (below_in old)
  pub new_within : back ≤ length (children_of new)
  pub same : drop (length (below_in old) - back) (map tree_in (below_in old))
      ≡ drop (length (children_of new) - back) (children_of new)

-- What a tree's notes have in common with those of an old one: the first ones, as many as `first` says, and the last
-- ones, as many as `back` says, are the old ones. Where there are as many as before, so are those from `last` on, and a
-- child before `last` differs.
pub record IsSpread (old : Annotated) (new : Fragment) (below : List Annotated) (first last back : ℕ) : Type 0 where
  pub within : last ≤ length below
  pub behind : length (below_in old) ≡ length below → drop last below ≡ drop last (below_in old)
  pub apart : DifferBefore last (children_of (tree_in old)) (children_of new)
  pub old_few : first + back ≤ length (below_in old)
  pub new_few : first + back ≤ length below
  pub front : take first below ≡ take first (below_in old)
  pub tail : drop (length below - back) below ≡ drop (length (below_in old) - back) (below_in old)
