-- The state of the program's walk over the parts of a specimen, and how deep the specimens are that it holds.
use Rattle.std.specs.Prelude.{ℕ, ◌≡◌, ◌+◌, ◌≤◌, ◌||◌, ◌⊎◌, nat_le, not, is_some, Bool, true, false, Option, Some, None}
use Rattle.std.specs.Prelude.{MatchOption, List, [], ◌∷◌, ◌++◌, length, map, drop}
use Rattle.std.specs.List.{AllByRecursion}
use Rattle.psg_deflines.specs.WrittenTerms.{most_nested}
use Rattle.psg_deflines.specs.WrittenTrees.{WrittenTree, with_tree, tree_depth}
use Rattle.psg_deflines.specs.TermWalks.{Parts}
use Rattle.psg_deflines.specs.TreeWalks.{TreeFrame, in_operator, in_list, TreeStage, expects, after, done, placed}
use Rattle.psg_deflines.specs.TreeWalks.{IsTreeStep}
use Rattle.psg_deflines.specs.TreePieces.{AreShallow, frame_of}
use Rattle.psg_deflines.specs.declared.tree_pieces.OpenTree.{OpenTree}
use Rattle.psg_deflines.specs.declared.tree_reading.OpenTrees.{OpenTrees}
use Rattle.psg_deflines.specs.declared.tree_reading.TreeWalk.{TreeWalk}
use Rattle.psg_deflines.specs.declared.tree_reading.TreeWalk.TheVariants as walks

-- ---- how deep

-- a specimen inside n operators and lists is not nested too deep
abbrev pub Fits : ℕ → WrittenTree → Type 0
Fits height t = (tree_depth t + height ≤ most_nested) × AreShallow t

-- nothing in the frame is nested too deep, where the frame is inside `height` others
abbrev pub FrameFits : ℕ → TreeFrame → Type 0
FrameFits height (in_operator f) = Fits height f
FrameFits height (in_list es) = (1 + height ≤ most_nested) × AllByRecursion (Fits (height + 1)) es

-- nothing in the frames is nested too deep
abbrev pub AreFit : List TreeFrame → Type 0
AreFit [] = Unit {0}
AreFit (f ∷ fs) = FrameFits (length fs) f × AreFit fs

-- nothing that the state holds is nested too deep
abbrev pub IsFit : TreeStage → Type 0
IsFit (expects fs) = AreFit fs
IsFit (after fs) = AreFit fs
IsFit (done t) = Fits 0 t

-- ---- the program's walk

-- the frame is an operator's
abbrev pub is_operator : TreeFrame → Bool
is_operator (in_operator f) = true
is_operator (in_list es) = false

-- frames from the innermost on
abbrev pub framed_behind : List TreeFrame → List OpenTree → List TreeFrame
framed_behind outer [] = outer
framed_behind outer (f ∷ fs) = framed_behind (frame_of f ∷ outer) fs

-- the frames are these, or only of their kinds where the specimen is nested too deep
pub record AreTreesOpen (open_trees : OpenTrees) (fs : List TreeFrame) : Type 0 where
  pub kinds : map is_operator (framed_behind [] open_trees.frames.items) ≡ map is_operator fs
  pub kept : open_trees.deep ≡ false → framed_behind [] open_trees.frames.items ≡ fs

-- the program's walk is in this state
abbrev pub IsTreeWalk : TreeWalk → TreeStage → Type 0
IsTreeWalk (walks.Expects o) (expects fs) = AreTreesOpen o fs
IsTreeWalk (walks.After o) (after fs) = AreTreesOpen o fs
IsTreeWalk (walks.Done kept) (done t) = MatchOption kept (Unit {0}) (λ x. x ≡ t)
IsTreeWalk w s = ⊥

-- the walk met a specimen that is nested too deep
abbrev pub is_deep : TreeWalk → Bool
is_deep (walks.Expects o) = o.deep
is_deep (walks.After o) = o.deep
is_deep (walks.Done kept) = not (is_some kept)

-- from a stage it went to the one where it is to be, and it is noted where what it holds is nested too deep
pub record IsLed (s : TreeStage) (to : Option TreeStage) (deep : Bool) (w : TreeWalk) : Type 0 where
  pub next : TreeStage
  pub leads : to ≡ Some next
  pub shown : IsTreeWalk w next
  pub on : is_deep w ≡ true → (deep ≡ true) ⊎ (IsFit next → ⊥)
  pub off : is_deep w ≡ false → (deep ≡ false) × (IsFit s → IsFit next)

-- a specimen is placed, and it is noted where it is not kept or begins too deep
pub record IsPlaced (deep : Bool) (kept : Option WrittenTree) (fs : List TreeFrame) (t : WrittenTree)
    (w : TreeWalk) : Type 0 where
  pub shown : IsTreeWalk w (placed fs t)
  pub noted : is_deep w ≡ (deep || (not (is_some kept) || nat_le most_nested (length fs)))

-- the walk went to this state, or there is none to go to
abbrev pub IsMoved : TreeStage → Option TreeStage → Bool → Option TreeWalk → Type 0
IsMoved s to deep moved = MatchOption moved (to ≡ None) (IsLed s to deep)

-- one more part or element
abbrev pub filled_with : TreeFrame → WrittenTree → TreeFrame
filled_with (in_operator f) t = in_operator (with_tree f t)
filled_with (in_list es) t = in_list (es ++ t ∷ [])

-- the frame with the specimen as its last part or element, if it is kept
pub record IsFilledBy (frame : OpenTree) (kept : Option WrittenTree) (f : OpenTree) : Type 0 where
  pub kind : is_operator (frame_of f) ≡ is_operator (frame_of frame)
  pub filled : MatchOption kept (Unit {0}) (λ t. frame_of f ≡ filled_with (frame_of frame) t)

-- no step is possible
abbrev pub HasNoTreeStep : TreeStage → Parts → Type 0
HasNoTreeStep s ps = (next : TreeStage) (rest : Parts) → IsTreeStep s ps next rest → ⊥

-- one step was made, and it is noted where what it holds is nested too deep
pub record IsTreeStepMade (s : TreeStage) (deep : Bool) (ps : Parts) (w : TreeWalk) (taken : ℕ) : Type 0 where
  pub next : TreeStage
  pub fits : taken ≤ length ps
  pub step : IsTreeStep s ps next (drop taken ps)
  pub shown : IsTreeWalk w next
  pub on : is_deep w ≡ true → (deep ≡ true) ⊎ (IsFit next → ⊥)
  pub off : is_deep w ≡ false → (deep ≡ false) × (IsFit s → IsFit next)

-- a step was made, or none is possible
abbrev pub IsTreeAdvanced : TreeStage → Bool → Parts → Option (TreeWalk × ℕ) → Type 0
IsTreeAdvanced s deep ps made = MatchOption made (HasNoTreeStep s ps) (λ r. IsTreeStepMade s deep ps r.0 r.1)

-- the walk is at its end
abbrev pub IsTreeDone : TreeWalk → Type 0
IsTreeDone (walks.Expects o) = ⊥
IsTreeDone (walks.After o) = ⊥
IsTreeDone (walks.Done kept) = Unit {0}

-- the specimen of a walk at its end, if it is kept
abbrev pub kept_tree : TreeWalk → Option WrittenTree
kept_tree (walks.Expects o) = None
kept_tree (walks.After o) = None
kept_tree (walks.Done kept) = kept
