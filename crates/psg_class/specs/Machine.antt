-- The parser with a stack of its own: what is left to do, and what it gives in the end.
use Rattle.std.specs.Prelude.{◌≡◌, ℕ, suc, max, Bool, true, false, List, [], ◌∷◌, Option, Some, slice_get}
use Rattle.psg_grammar.specs.declared.types.Item.{Item}
use Rattle.psg_grammar.specs.declared.types.Item.TheVariants as items
use Rattle.psg_grammar.specs.declared.types.Operator.{Operator}
use Rattle.psg_grammar.specs.declared.types.ListKind.{ListKind}
use Rattle.psg_grammar.specs.declared.types.Definition.{Definition}
use Rattle.psg_grammar.specs.Fragments.{Fragment, ending, cell, with_child, with_name, with_number, with_text}
use Rattle.psg_class.specs.Terminals.{close_bracket, Token, word, numeral, quoted}
use Rattle.psg_class.specs.Terminals.{dots, fixed, terminal_of, next_terminal}
use Rattle.psg_class.specs.Runs.{Task, grow, parts, some_list, Run}

-- what waits for a tree that is being read
pub data Frame : Type 0 where
  -- an operator's tree is finished, and led operators may go on
  then_grow : (p least : ℕ) (level : Option ℕ) → Frame
  -- the child of an operator's tree
  then_parts : (o : Operator) (f : Fragment) (depth : ℕ) (more : List Item) → Frame
  then_close : Frame
  -- an element of a list, after other elements, the last one first
  then_list : (l : ℕ) (before : List Fragment) (depth : ℕ) → Frame

-- the list with these elements in front
abbrev pub behind_all : ℕ → List Fragment → Fragment → Fragment
behind_all l [] r = r
behind_all l (e ∷ before) r = behind_all l before (cell l e r)

-- the tree with the part that the item takes of the token
abbrev pub taken : Item → Token → Fragment → Fragment
taken (items.Refers space) (word x) f = with_name f x
taken (items.Declares space) (word x) f = with_name f x
taken items.Number (numeral x) f = with_number f x
taken items.Text (quoted x) f = with_text f x
taken _ _ f = f

module _ (def : Definition) where
  -- the rest of a list after an element
  pub data Tail (l : ℕ) : List Token → Fragment → ℕ → List Token → Type 0 where
    tail_end : {ts : List Token} (kind : ListKind) → slice_get def.lists l ≡ Some kind
        → (next_terminal def ts ≡ Some (fixed kind.separator) → ⊥) → Tail l ts (ending l false) 0 ts
    tail_more : {ts : List Token} (kind : ListKind) (t : Token) → slice_get def.lists l ≡ Some kind → kind.unfinished
        ≡ true → terminal_of def t ≡ fixed kind.separator → Tail l (t ∷ dots ∷ ts) (ending l true) 0 ts
    tail_next : {r : Fragment} {n : ℕ} {ts s : List Token} (kind : ListKind) (t : Token) → slice_get def.lists l
        ≡ Some kind → terminal_of def t ≡ fixed kind.separator → Run def (some_list l) ts r n s → Tail l (t ∷ ts) r n s

  -- Ends stack f d ts F D: given f, with the nesting d, the stack reads all of ts and gives F, with the nesting D.
  abbrev pub Ends : List Frame → Fragment → ℕ → List Token → Fragment → ℕ → Type 0
  Ends [] f d ts F D = (ts ≡ []) × (F ≡ f) × (D ≡ d)
  Ends (then_grow p m level ∷ st) f d ts F D =
      (g : Fragment) × (e : ℕ) × (s : List Token) × Run def (grow p m f d level) ts g e s × Ends st g e s F D
  Ends (then_parts o f0 d0 more ∷ st) t dt ts F D = (g : Fragment) × (e : ℕ) × (s : List Token)
      × Run def (parts o false (with_child f0 t) (max d0 dt) more) ts g e s × Ends st g e s F D
  Ends (then_close ∷ st) f d ts F D =
      (u : Token) × (s : List Token) × (ts ≡ u ∷ s) × (terminal_of def u ≡ close_bracket) × Ends st f (suc d) s F D
  Ends (then_list l before d0 ∷ st) e d ts F D = (r : Fragment) × (n : ℕ) × (s : List Token) × Tail l ts r n s
      × Ends st (behind_all l before (cell l e r)) (max d0 (max d n)) s F D

  abbrev pub Completes : Task → List Frame → List Token → Fragment → ℕ → Type 0
  Completes task st ts F D = (g : Fragment) × (e : ℕ) × (s : List Token) × Run def task ts g e s × Ends st g e s F D
