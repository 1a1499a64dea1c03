-- A specimen that is read from left to right, part by part.
use Rattle.std.specs.Prelude.{ℕ, ◌≡◌, ◌<◌, ◌^◌, true, false, Option, Some, None, List, [], ◌∷◌, ◌++◌, codes}
use Rattle.psg_terms.specs.Names.{Name}
use Rattle.psg_grammar.specs.Sound.{is_upper, is_name_from, IsKindName, IsOwnName, is_specimen_name}
use Rattle.psg_lexis.specs.Tokens.{value_of}
use Rattle.psg_deflines.specs.WrittenTerms.{WrittenTerm, HasTermForm}
use Rattle.psg_deflines.specs.WrittenTrees.{WrittenTree, operator, with_tree, list_end, list_rest, place, place_parts}
use Rattle.psg_deflines.specs.WrittenTrees.{is_digits, IsQuotable, quoted_part}
use Rattle.psg_deflines.specs.TreeShapes.{with_part, list_of}
use Rattle.psg_deflines.specs.TermWalks.{Parts, IsNotOpened}
use Rattle.psg_deflines.specs.declared.trees.LinePart.{LinePart}
use Rattle.psg_deflines.specs.declared.trees.LinePart.TheVariants as parts

-- an operator with the parts so far, or a list with the elements so far
pub data TreeFrame : Type 0 where
  in_operator : (front : WrittenTree) → TreeFrame
  in_list : (elements : List WrittenTree) → TreeFrame

-- The state of a walk, with what is open from the innermost on: a part, an element or the specimen is to begin, one of
-- them has ended, or the specimen has.
pub data TreeStage : Type 0 where
  expects : (fs : List TreeFrame) → TreeStage
  after : (fs : List TreeFrame) → TreeStage
  done : (tree : WrittenTree) → TreeStage

-- a tree ends
abbrev pub placed : List TreeFrame → WrittenTree → TreeStage
placed [] t = done t
placed (in_operator f ∷ fs) t = after (in_operator (with_tree f t) ∷ fs)
placed (in_list es ∷ fs) t = after (in_list (es ++ t ∷ []) ∷ fs)

-- a name, a number or a text
abbrev pub literal_part : LinePart → List ℕ
literal_part (parts.Tree t) = []
literal_part (parts.Name n) = 36 ∷ n
literal_part (parts.Number d) = d
literal_part (parts.Text w) = quoted_part w

-- a name, a number below 2^128 or a text; no specimen
abbrev pub IsLiteral : LinePart → Type 0
IsLiteral (parts.Tree t) = ⊥
IsLiteral (parts.Name n) = is_specimen_name n ≡ true
IsLiteral (parts.Number d) = (is_digits d ≡ true) × (value_of d < 2 ^ 128)
IsLiteral (parts.Text w) = IsQuotable w

-- what can begin: a literal part, a tree without parts and elements, or an operator or list that goes on
pub data Begin : Type 0 where
  a_part : (part : LinePart) → Begin
  a_tree : (tree : WrittenTree) → Begin
  a_frame : (frame : TreeFrame) → Begin

-- the first part, empty where there is none
abbrev pub first_of : Parts → List ℕ
first_of [] = []
first_of (p ∷ ps) = p

-- the list goes on with an element
pub record GoesOn (ps : Parts) : Type 0 where
  pub close : first_of ps ≡ codes "]" → ⊥
  pub bar : first_of ps ≡ codes "|" → ⊥

-- the parts begin so
pub data Begins (ps : Parts) (b : Begin) (rest : Parts) : Type 0 where
  a_place : (k : Name) (t : WrittenTerm) → ps ≡ place_parts k t ++ rest → IsKindName k → HasTermForm t
      → b ≡ a_tree (place k t) → Begins ps b rest
  an_empty : ps ≡ codes "[" ∷ codes "]" ∷ rest → b ≡ a_tree list_end → Begins ps b rest
  a_rest : (k : Name) (t : WrittenTerm) → ps ≡ codes "[" ∷ codes "|" ∷ place_parts k t ++ (codes "]" ∷ rest)
      → IsKindName k → HasTermForm t → b ≡ a_tree (list_rest k t) → Begins ps b rest
  a_list : ps ≡ codes "[" ∷ rest → GoesOn rest → b ≡ a_frame (in_list []) → Begins ps b rest
  an_operator : (o : Name) → ps ≡ o ∷ codes "(" ∷ rest → IsOwnName o → is_name_from is_upper (first_of rest) ≡ false
      → b ≡ a_frame (in_operator (operator o)) → Begins ps b rest
  a_leaf : (o : Name) → ps ≡ o ∷ rest → IsOwnName o → IsNotOpened rest → b ≡ a_tree (operator o) → Begins ps b rest
  a_literal : (l : LinePart) → ps ≡ literal_part l ∷ rest → IsLiteral l → b ≡ a_part l → Begins ps b rest

-- what may follow a part or an element: a comma, the bracket of an operator, or the end of a list
pub data Finish : Type 0 where
  a_comma : Finish
  a_close : Finish
  an_end : (end : WrittenTree) → Finish

-- the parts are what follows a part or an element, and then the rest
pub data Finishes (ps : Parts) (e : Finish) (rest : Parts) : Type 0 where
  comma : ps ≡ codes "," ∷ rest → e ≡ a_comma → Finishes ps e rest
  close : ps ≡ codes ")" ∷ rest → e ≡ a_close → Finishes ps e rest
  bracket : ps ≡ codes "]" ∷ rest → e ≡ an_end list_end → Finishes ps e rest
  bar : (k : Name) (t : WrittenTerm) → ps ≡ codes "|" ∷ place_parts k t ++ (codes "]" ∷ rest) → IsKindName k
      → HasTermForm t → e ≡ an_end (list_rest k t) → Finishes ps e rest

-- where it leads
abbrev pub begun : List TreeFrame → Begin → Option TreeStage
begun (in_operator f ∷ fs) (a_part l) = Some (after (in_operator (with_part f l) ∷ fs))
begun (in_list es ∷ fs) (a_part l) = None
begun [] (a_part l) = None
begun fs (a_tree t) = Some (placed fs t)
begun fs (a_frame f) = Some (expects (f ∷ fs))

-- the state after what follows a part or an element, if it may follow there
abbrev pub finished : List TreeFrame → Finish → Option TreeStage
finished [] e = None
finished (f ∷ fs) a_comma = Some (expects (f ∷ fs))
finished (in_operator f ∷ fs) a_close = Some (placed fs f)
finished (in_list es ∷ fs) a_close = None
finished (in_operator f ∷ fs) (an_end end) = None
finished (in_list es ∷ fs) (an_end end) = Some (placed fs (list_of end es))

-- one step of the walk, and the parts after it
abbrev pub IsTreeStep : TreeStage → Parts → TreeStage → Parts → Type 0
IsTreeStep (expects fs) ps next rest = (b : Begin) × Begins ps b rest × (begun fs b ≡ Some next)
IsTreeStep (after fs) ps next rest = (e : Finish) × Finishes ps e rest × (finished fs e ≡ Some next)
IsTreeStep (done t) ps next rest = ⊥
