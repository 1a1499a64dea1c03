-- What is at the beginning of a specimen's parts, as the program reads it.
use Rattle.std.specs.Prelude.{ℕ, ◌≡◌, ◌≤◌, ◌⊎◌, Option, MatchOption, MatchBool, List, [], ◌∷◌, ◌++◌, length, drop}
use Rattle.std.specs.Prelude.{codes}
use Rattle.std.specs.List.{AllByRecursion}
use Rattle.psg_terms.specs.Names.{Name}
use Rattle.psg_grammar.specs.Sound.{IsKindName}
use Rattle.psg_deflines.specs.WrittenTerms.{WrittenTerm, HasTermForm, IsShallowTerm}
use Rattle.psg_deflines.specs.WrittenTrees.{WrittenTree, operator, list_end, list_rest, place_parts, place_terms}
use Rattle.psg_deflines.specs.WrittenTrees.{tree_depth}
use Rattle.psg_deflines.specs.TreeShapes.{ending, with_parts}
use Rattle.psg_deflines.specs.TermWalks.{Parts}
use Rattle.psg_deflines.specs.TreeWalks.{TreeFrame, in_operator, in_list, literal_part, IsLiteral, Begin, a_part}
use Rattle.psg_deflines.specs.TreeWalks.{a_tree, a_frame, first_of, Begins, Finish, a_comma, a_close, an_end, Finishes}
use Rattle.psg_deflines.specs.declared.trees.LinePart.{LinePart}
use Rattle.psg_deflines.specs.declared.trees.LinePlace.{LinePlace}
use Rattle.psg_deflines.specs.declared.places.PlaceRead.{PlaceRead}
use Rattle.psg_deflines.specs.declared.places.ListEnd.{ListEnd}
use Rattle.psg_deflines.specs.declared.places.EndRead.{EndRead}
use Rattle.psg_deflines.specs.declared.tree_pieces.OpenTree.{OpenTree}
use Rattle.psg_deflines.specs.declared.tree_pieces.OpenTree.TheVariants as open_trees
use Rattle.psg_deflines.specs.declared.tree_pieces.TreeBegin.{TreeBegin}
use Rattle.psg_deflines.specs.declared.tree_pieces.TreeBegin.TheVariants as begins
use Rattle.psg_deflines.specs.declared.tree_pieces.BeginRead.{BeginRead}
use Rattle.psg_deflines.specs.declared.tree_pieces.TreeFinish.{TreeFinish}
use Rattle.psg_deflines.specs.declared.tree_pieces.TreeFinish.TheVariants as finishes
use Rattle.psg_deflines.specs.declared.tree_pieces.FinishRead.{FinishRead}

-- ---- places

-- the parts do not begin as a hole place does
abbrev pub HasNoHead : Parts → Type 0
HasNoHead ps = (k : Name) (rest : Parts) → ps ≡ codes "hole" ∷ codes "(" ∷ k ∷ codes "," ∷ rest → ⊥

-- the parts begin with no hole place
abbrev pub HasNoPlace : Parts → Type 0
HasNoPlace ps =
    (k : Name) (t : WrittenTerm) (rest : Parts) → IsKindName k → HasTermForm t → ps ≡ place_parts k t ++ rest → ⊥

-- the place of these two
abbrev pub place_of : Name → WrittenTerm → LinePlace
place_of k t = record { kind = k; term = t }

-- the place as it is kept: not where its term is nested too deep
abbrev pub IsPlaceKept : Option LinePlace → Name → WrittenTerm → Type 0
IsPlaceKept kept k t = MatchOption kept (IsShallowTerm t → ⊥) (λ p. (p.kind ≡ k) × (p.term ≡ t) × IsShallowTerm t)

-- the hole place with which the parts begin, as it is kept
pub record IsPlaceFound (ps : Parts) (found : PlaceRead) : Type 0 where
  pub kind : Name
  pub term : WrittenTerm
  pub fits : found.taken ≤ length ps
  pub name : IsKindName kind
  pub form : HasTermForm term
  pub written : ps ≡ place_parts kind term ++ drop found.taken ps
  pub kept : IsPlaceKept found.place kind term

-- ---- the end of a list

-- the parts are the end of a list and then the rest
pub data Ends (ps : Parts) (e : WrittenTree) (rest : Parts) : Type 0 where
  a_plain_end : ps ≡ codes "]" ∷ rest → e ≡ list_end → Ends ps e rest
  a_rest_end : (k : Name) (t : WrittenTerm) → ps ≡ codes "|" ∷ place_parts k t ++ (codes "]" ∷ rest) → IsKindName k
      → HasTermForm t → e ≡ list_rest k t → Ends ps e rest

-- the parts begin with no end of a list
abbrev pub HasNoEnd : Parts → Type 0
HasNoEnd ps = (e : WrittenTree) (rest : Parts) → Ends ps e rest → ⊥

-- no term of its hole places is nested too deep
abbrev pub AreShallow : WrittenTree → Type 0
AreShallow t = AllByRecursion IsShallowTerm (place_terms t)

-- the program's end of a list is this one
abbrev pub ShowsEnd : ListEnd → WrittenTree → Type 0
ShowsEnd end e = (tree_depth e ≡ 1) × MatchBool end.deep (AreShallow e → ⊥) ((ending end.rest ≡ e) × AreShallow e)

-- the end of a list with which the parts begin, as it is kept
pub record IsEndFound (ps : Parts) (found : EndRead) : Type 0 where
  pub end : WrittenTree
  pub fits : found.taken ≤ length ps
  pub ends : Ends ps end (drop found.taken ps)
  pub shown : ShowsEnd found.end end

-- the parts begin with the end of a list, if they are to
abbrev pub CanEnd : Parts → Type 0
CanEnd ps = (first_of ps ≡ codes "]") ⊎ (first_of ps ≡ codes "|")

-- ---- what begins

-- the frame that the program's frame is
abbrev pub frame_of : OpenTree → TreeFrame
frame_of (open_trees.Operator o parts) = in_operator (with_parts (operator o) parts.items)
frame_of (open_trees.List elements) = in_list elements.items

-- the part is no name, number or text
abbrev pub HasNoLiteral : List ℕ → Type 0
HasNoLiteral part = (l : LinePart) → IsLiteral l → part ≡ literal_part l → ⊥

-- the specimen as it is kept: not where a term in it is nested too deep
abbrev pub IsKeptTree : Option WrittenTree → WrittenTree → Type 0
IsKeptTree kept t = MatchOption kept (AreShallow t → ⊥) (λ x. (x ≡ t) × AreShallow t)

-- nothing is in it yet
abbrev pub IsFresh : TreeFrame → Type 0
IsFresh (in_operator f) = (tree_depth f ≡ 1) × AreShallow f
IsFresh (in_list es) = es ≡ []

-- what begins in the program is this
abbrev pub ShowsBegin : TreeBegin → Begin → Type 0
ShowsBegin (begins.Part p) b = (b ≡ a_part p) × IsLiteral p
ShowsBegin (begins.Tree kept) b = (t : WrittenTree) × (b ≡ a_tree t) × (tree_depth t ≡ 1) × IsKeptTree kept t
ShowsBegin (begins.Frame f) b = (b ≡ a_frame (frame_of f)) × IsFresh (frame_of f)

-- nothing of a specimen begins
abbrev pub HasNoBegin : Parts → Type 0
HasNoBegin ps = (b : Begin) (rest : Parts) → Begins ps b rest → ⊥

-- what the first `taken` parts begin
pub record IsBeginRead (ps : Parts) (found : BeginRead) : Type 0 where
  pub begin : Begin
  pub fits : found.taken ≤ length ps
  pub begins : Begins ps begin (drop found.taken ps)
  pub shown : ShowsBegin found.begin begin

-- ---- what ends

-- what follows in the program is this
abbrev pub ShowsFinish : TreeFinish → Finish → Type 0
ShowsFinish finishes.Comma e = e ≡ a_comma
ShowsFinish finishes.Close e = e ≡ a_close
ShowsFinish (finishes.End end) e = (t : WrittenTree) × (e ≡ an_end t) × ShowsEnd end t

-- nothing follows that may follow a part or an element
abbrev pub HasNoFinish : Parts → Type 0
HasNoFinish ps = (e : Finish) (rest : Parts) → Finishes ps e rest → ⊥

-- what the first `taken` parts are after a part or an element
pub record IsFinishRead (ps : Parts) (found : FinishRead) : Type 0 where
  pub finish : Finish
  pub fits : found.taken ≤ length ps
  pub finishes : Finishes ps finish (drop found.taken ps)
  pub shown : ShowsFinish found.finish finish
