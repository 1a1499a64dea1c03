-- What may follow a state of the parser: any tokens with which what is left to do gives a tree, whatever the parser
-- would look at. And that something always may.
use Rattle.std.specs.Prelude.{◌≡◌, ◌≤◌, ℕ, suc, max, true, false, List, [], ◌∷◌, ◌++◌, Option, Some, slice_get}
use Rattle.psg_grammar.specs.declared.types.Kind.TheVariants as kinds
use Rattle.psg_grammar.specs.declared.types.Item.{Item}
use Rattle.psg_grammar.specs.declared.types.Item.TheVariants as items
use Rattle.psg_grammar.specs.declared.types.Operator.{Operator}
use Rattle.psg_grammar.specs.declared.types.Phylum.{Phylum}
use Rattle.psg_grammar.specs.declared.types.ListKind.{ListKind}
use Rattle.psg_grammar.specs.declared.types.Definition.{Definition}
use Rattle.psg_grammar.specs.Declaring.{HasHoles}
use Rattle.psg_grammar.specs.Fragments.{Fragment, ending, cell, operator, with_child}
use Rattle.psg_grammar.specs.Levels.{level_number, first_level}
use Rattle.psg_class.specs.Terminals.{Terminal, Token, dots, fixed, a_name, close_bracket, terminal_of}
use Rattle.psg_class.specs.Places.{solid}
use Rattle.psg_class.specs.Follow.{Led}
use Rattle.psg_class.specs.Yields.{TreeYields, PartsYield, ListYields, SomeYield}
use Rattle.psg_class.specs.Runs.{Reaches, Task, start, grow, parts, list, some_list}
use Rattle.psg_class.specs.Machine.{Frame, then_grow, then_parts, then_close, then_list, behind_all}

-- what is done next: a task to be run, or a finished tree with its nesting that is given to the stack
pub data Aim : Type 0 where
  running : (task : Task) → Aim
  giving : (f : Fragment) (nesting : ℕ) → Aim

module _ (def : Definition) where
  -- With these tokens a tree of the phylum grows to another one by led operators.
  pub data Grows (p m : ℕ) : Fragment → ℕ → Option ℕ → List Token → Fragment → ℕ → Type 0 where
    as_it_is : {f : Fragment} {d : ℕ} {level : Option ℕ} → Grows p m f d level [] f d
    by_led : {f0 f g : Fragment} {d0 d e : ℕ} {level : Option ℕ} {own ts : List Token} (n : ℕ) (terminal : Terminal)
        (l : Led def p n terminal) → m ≤ level_number l.o.level → Reaches (first_level l.o.level) level
        → PartsYield def l.o false (with_child (operator n) f0) (max 0 d0) (l.item ∷ l.more) f d own
        → Grows p m f d (Some (level_number l.o.level)) ts g e → Grows p m f0 d0 level (own ++ ts) g e

  -- the rest of a list after an element
  pub data RestYields (l : ℕ) : List Token → Fragment → ℕ → Type 0 where
    rest_end : (kind : ListKind) → slice_get def.lists l ≡ Some kind → RestYields l [] (ending l false) 0
    rest_more : (kind : ListKind) (t : Token) → slice_get def.lists l ≡ Some kind → kind.unfinished ≡ true
        → terminal_of def t ≡ fixed kind.separator → RestYields l (t ∷ dots ∷ []) (ending l true) 0
    rest_next : {r : Fragment} {n : ℕ} {ts : List Token} (kind : ListKind) (t : Token)
        → slice_get def.lists l ≡ Some kind
        → terminal_of def t ≡ fixed kind.separator → SomeYield def r l n ts → RestYields l (t ∷ ts) r n

  -- the task takes these tokens and gives the tree with the nesting
  abbrev pub TaskYields : Task → List Token → Fragment → ℕ → Type 0
  TaskYields (start p m) own g e = TreeYields def g p m e own
  TaskYields (grow p m f d level) own g e = Grows p m f d level own g e
  TaskYields (parts o first f d more) own g e = PartsYield def o first f d more g e own
  TaskYields (list l) own g e = ListYields def g l e own
  TaskYields (some_list l) own g e = SomeYield def g l e own

  -- given f, with the nesting d, the stack may take all of ts and give F, with the nesting D
  abbrev pub MayGive : List Frame → Fragment → ℕ → List Token → Fragment → ℕ → Type 0
  MayGive [] f d ts F D = (ts ≡ []) × (F ≡ f) × (D ≡ d)
  MayGive (then_grow p m level ∷ st) f d ts F D = (g : Fragment) × (e : ℕ) × (own : List Token) × (s : List Token)
      × (ts ≡ own ++ s) × TaskYields (grow p m f d level) own g e × MayGive st g e s F D
  MayGive (then_parts o f0 d0 more ∷ st) t dt ts F D = (g : Fragment) × (e : ℕ) × (own : List Token) × (s : List Token)
      × (ts ≡ own ++ s) × TaskYields (parts o false (with_child f0 t) (max d0 dt) more) own g e × MayGive st g e s F D
  MayGive (then_close ∷ st) f d ts F D =
      (u : Token) × (s : List Token) × (ts ≡ u ∷ s) × (terminal_of def u ≡ close_bracket) × MayGive st f (suc d) s F D
  MayGive (then_list l before d0 ∷ st) e d ts F D = (r : Fragment) × (n : ℕ) × (own : List Token) × (s : List Token)
      × (ts ≡ own ++ s) × RestYields l own r n × MayGive st (behind_all l before (cell l e r)) (max d0 (max d n)) s F D

  abbrev pub MayLeave : Aim → List Frame → List Token → Fragment → ℕ → Type 0
  MayLeave (running task) st ts F D = (g : Fragment) × (e : ℕ) × (own : List Token) × (s : List Token)
      × (ts ≡ own ++ s) × TaskYields task own g e × MayGive st g e s F D
  MayLeave (giving f n) st ts F D = MayGive st f n ts F D

  -- ---- what can always be ended

  pub record HasTree (p m : ℕ) : Type 0 where
    pub tree : Fragment
    pub nesting : ℕ
    pub own : List Token
    pub yields : TreeYields def tree p m nesting own

  pub record HasList (l : ℕ) : Type 0 where
    pub kind : ListKind
    pub found : slice_get def.lists l ≡ Some kind

  pub record HasHole (p : ℕ) : Type 0 where
    pub phylum : Phylum
    pub found : slice_get def.phyla p ≡ Some phylum
    pub holes : HasHoles def (kinds.Phylum p)

  pub record HasToken (terminal : Terminal) : Type 0 where
    pub token : Token
    pub is : terminal_of def token ≡ terminal

  -- each word is a token, and each slot has a placeholder or can be empty
  abbrev pub CanEndItems : List Item → Type 0
  CanEndItems [] = Unit {0}
  CanEndItems (items.Word w ∷ more) = HasToken (fixed w) × CanEndItems more
  CanEndItems (items.Slot (kinds.Phylum p) ∷ more) = HasHole p × CanEndItems more
  CanEndItems (items.Slot (kinds.List l) ∷ more) = HasList l × CanEndItems more
  CanEndItems (items.Space ∷ more) = ⊥
  CanEndItems (items.Tight ∷ more) = ⊥
  CanEndItems (items.Line ∷ more) = ⊥
  CanEndItems (items.In ∷ more) = ⊥
  CanEndItems (items.Out ∷ more) = ⊥
  CanEndItems (_ ∷ more) = CanEndItems more

  -- what is left to do can be ended
  abbrev pub CanEndTask : Task → Type 0
  CanEndTask (start p m) = HasTree p m
  CanEndTask (grow p m f d level) = Unit {0}
  CanEndTask (parts o first f d more) = CanEndItems more
  CanEndTask (list l) = HasList l
  CanEndTask (some_list l) = ⊥

  abbrev pub CanEndFrame : Frame → Type 0
  CanEndFrame (then_grow p m level) = Unit {0}
  CanEndFrame (then_parts o f d more) = CanEndItems more
  CanEndFrame then_close = Unit {0}
  CanEndFrame (then_list l before d) = HasList l

  abbrev pub CanEndStack : List Frame → Type 0
  CanEndStack [] = Unit {0}
  CanEndStack (frame ∷ st) = CanEndFrame frame × CanEndStack st

  abbrev pub CanEndAim : Aim → Type 0
  CanEndAim (running task) = CanEndTask task
  CanEndAim (giving f n) = Unit {0}

  abbrev pub CanEndState : Aim → List Frame → Type 0
  CanEndState aim st = CanEndAim aim × CanEndStack st

  -- all that the definition has can be ended
  pub record IsEndable : Type 0 where
    pub items : (n : ℕ) (o : Operator) → slice_get def.operators n ≡ Some o → CanEndItems (solid o.items)
    pub trees : (p : ℕ) (phylum : Phylum) → slice_get def.phyla p ≡ Some phylum → HasTree p 0
    pub elements : (l : ℕ) (kind : ListKind) → slice_get def.lists l ≡ Some kind → HasTree kind.element 0
    pub name : HasToken a_name
