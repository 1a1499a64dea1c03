-- What the parser does, as a relation: a task reads the front of a list of tokens and gives a tree, its nesting and the
-- rest.
use Rattle.std.specs.Prelude.{◌≡◌, ℕ, suc, max, ◌≤◌, Bool, true, false, List, [], ◌∷◌, Option, Some, None, slice_get}
use Rattle.psg_grammar.specs.declared.types.Kind.TheVariants as kinds
use Rattle.psg_grammar.specs.declared.types.Item.{Item}
use Rattle.psg_grammar.specs.declared.types.Item.TheVariants as items
use Rattle.psg_grammar.specs.declared.types.Operator.{Operator}
use Rattle.psg_grammar.specs.declared.types.Phylum.{Phylum}
use Rattle.psg_grammar.specs.declared.types.ListKind.{ListKind}
use Rattle.psg_grammar.specs.declared.types.Definition.{Definition}
use Rattle.psg_grammar.specs.Fragments.{Fragment, hole, ending, cell, operator, with_child}
use Rattle.psg_grammar.specs.Fragments.{with_name, with_number, with_text}
use Rattle.psg_class.specs.Terminals.{open_bracket, close_bracket, Token, word, numeral, quoted, placeholder}
use Rattle.psg_class.specs.Terminals.{dots, Terminal, fixed, a_name, terminal_of, next_terminal}
use Rattle.psg_grammar.specs.Levels.{level_number, first_level}
use Rattle.psg_grammar.specs.Declaring.{HasHoles}
use Rattle.psg_class.specs.Places.{slot_level}
use Rattle.psg_class.specs.Follow.{Leads, Led, FirstOfList}

-- the level of a tree that was read: none for a placeholder and for brackets, which fit at any level
abbrev pub Reaches : ℕ → Option ℕ → Type 0
Reaches n None = Unit {0}
Reaches n (Some k) = n ≤ k

pub data Task : Type 0 where
  -- read a tree of the phylum at a level of at least this
  start : (p least : ℕ) → Task
  -- go on after a tree of the phylum, which has a nesting and a level
  grow : (p least : ℕ) (f : Fragment) (depth : ℕ) (level : Option ℕ) → Task
  -- read the items that are left of an operator
  parts : (o : Operator) (first : Bool) (f : Fragment) (depth : ℕ) (more : List Item) → Task
  list : (l : ℕ) → Task
  some_list : (l : ℕ) → Task

-- no led operator of at least this level goes on with the next token
abbrev pub Stops : Definition → ℕ → ℕ → List Token → Type 0
Stops def p least ts = (n : ℕ) (terminal : Terminal) (l : Led def p n terminal) → next_terminal def ts ≡ Some terminal
    → least ≤ level_number l.o.level → ⊥

pub data Run (def : Definition) : Task → List Token → Fragment → ℕ → List Token → Type 0 where
  run_hole : {p m d : ℕ} {g : Fragment} {rest s : List Token} {x : List ℕ} (phylum : Phylum)
      → slice_get def.phyla p ≡ Some phylum → HasHoles def (kinds.Phylum p) → phylum.name ≡ x
      → Run def (grow p m (hole p) 0 None) rest g d s → Run def (start p m) (placeholder x ∷ rest) g d s
  run_bracket : {p m e : ℕ} {g : Fragment} {ts s : List Token} {t : Token} (f : Fragment) (d : ℕ) (rest : List Token)
      (phylum : Phylum) (u : Token) → slice_get def.phyla p ≡ Some phylum → phylum.bracketed ≡ true
      → terminal_of def t ≡ open_bracket → terminal_of def u ≡ close_bracket
      → Run def (start p 0) ts f d (u ∷ rest) → Run def (grow p m f (suc d) None) rest g e s
      → Run def (start p m) (t ∷ ts) g e s
  run_leading : {p m e : ℕ} {g : Fragment} {ts s : List Token} {t : Token} (f : Fragment) (d : ℕ) (rest : List Token)
      (n : ℕ) (l : Leads def p n (terminal_of def t)) → m ≤ level_number l.o.level
      → Run def (parts l.o true (operator n) 0 (l.item ∷ l.more)) (t ∷ ts) f d rest
      → Run def (grow p m f d (Some (level_number l.o.level))) rest g e s → Run def (start p m) (t ∷ ts) g e s
  run_stop : {p m d : ℕ} {f : Fragment} {level : Option ℕ} {ts : List Token} → Stops def p m ts
      → Run def (grow p m f d level) ts f d ts
  run_led : {p m d' e : ℕ} {f' g : Fragment} {level : Option ℕ} {ts s : List Token} {t : Token} (f : Fragment)
      (d : ℕ) (rest : List Token) (n : ℕ) (l : Led def p n (terminal_of def t)) → m ≤ level_number l.o.level
      → Reaches (first_level l.o.level) level
      → Run def (parts l.o false (with_child (operator n) f') (max 0 d') (l.item ∷ l.more)) (t ∷ ts) f d rest
      → Run def (grow p m f d (Some (level_number l.o.level))) rest g e s
      → Run def (grow p m f' d' level) (t ∷ ts) g e s
  run_end : {o : Operator} {first : Bool} {f : Fragment} {d : ℕ} {ts : List Token}
      → Run def (parts o first f d []) ts f d ts
  run_word : {o : Operator} {first : Bool} {f g : Fragment} {d e : ℕ} {more : List Item} {ts s : List Token}
      {w : List ℕ} (t : Token) → terminal_of def t ≡ fixed w
      → Run def (parts o false f d more) ts g e s → Run def (parts o first f d (items.Word w ∷ more)) (t ∷ ts) g e s
  run_refers : {o : Operator} {first : Bool} {f g : Fragment} {d e : ℕ} {more : List Item} {ts s : List Token}
      (space : ℕ) (x : List ℕ) → terminal_of def (word x) ≡ a_name
      → Run def (parts o false (with_name f x) d more) ts g e s
      → Run def (parts o first f d (items.Refers space ∷ more)) (word x ∷ ts) g e s
  run_declares : {o : Operator} {first : Bool} {f g : Fragment} {d e : ℕ} {more : List Item} {ts s : List Token}
      (space : ℕ) (x : List ℕ) → terminal_of def (word x) ≡ a_name
      → Run def (parts o false (with_name f x) d more) ts g e s
      → Run def (parts o first f d (items.Declares space ∷ more)) (word x ∷ ts) g e s
  run_number : {o : Operator} {first : Bool} {f g : Fragment} {d e : ℕ} {more : List Item} {ts s : List Token} (x : ℕ)
      → Run def (parts o false (with_number f x) d more) ts g e s
      → Run def (parts o first f d (items.Number ∷ more)) (numeral x ∷ ts) g e s
  run_text : {o : Operator} {first : Bool} {f g : Fragment} {d e : ℕ} {more : List Item} {ts s : List Token}
      (x : List ℕ)
      → Run def (parts o false (with_text f x) d more) ts g e s
      → Run def (parts o first f d (items.Text ∷ more)) (quoted x ∷ ts) g e s
  run_slot : {o : Operator} {first : Bool} {f g : Fragment} {d e : ℕ} {more : List Item} {p : ℕ} {ts s : List Token}
      (t : Fragment) (depth : ℕ) (mid : List Token)
      → Run def (start p (slot_level o (kinds.Phylum p) first more)) ts t depth mid
      → Run def (parts o false (with_child f t) (max d depth) more) mid g e s
      → Run def (parts o first f d (items.Slot (kinds.Phylum p) ∷ more)) ts g e s
  run_list_slot : {o : Operator} {first : Bool} {f g : Fragment} {d e : ℕ} {more : List Item} {l : ℕ}
      {ts s : List Token} (t : Fragment) (depth : ℕ) (mid : List Token)
      → Run def (list l) ts t depth mid
      → Run def (parts o false (with_child f t) (max d depth) more) mid g e s
      → Run def (parts o first f d (items.Slot (kinds.List l) ∷ more)) ts g e s
  run_none : {l : ℕ} {ts : List Token} (kind : ListKind) → slice_get def.lists l ≡ Some kind
      → ((terminal : Terminal) → next_terminal def ts ≡ Some terminal → FirstOfList def l terminal → ⊥)
      → Run def (list l) ts (ending l false) 0 ts
  run_only_more : {l : ℕ} {ts : List Token} (kind : ListKind) → slice_get def.lists l ≡ Some kind
      → kind.unfinished ≡ true → Run def (list l) (dots ∷ ts) (ending l true) 0 ts
  run_some : {l d : ℕ} {g : Fragment} {ts s : List Token} → Run def (some_list l) ts g d s → Run def (list l) ts g d s
  run_last : {l d : ℕ} {e : Fragment} {ts rest : List Token} (kind : ListKind) → slice_get def.lists l ≡ Some kind
      → Run def (start kind.element 0) ts e d rest
      → (next_terminal def rest ≡ Some (fixed kind.separator) → ⊥)
      → Run def (some_list l) ts (cell l e (ending l false)) d rest
  run_more : {l d : ℕ} {e : Fragment} {ts rest : List Token} (kind : ListKind) (t : Token)
      → slice_get def.lists l ≡ Some kind → kind.unfinished ≡ true → terminal_of def t ≡ fixed kind.separator
      → Run def (start kind.element 0) ts e d (t ∷ dots ∷ rest)
      → Run def (some_list l) ts (cell l e (ending l true)) d rest
  run_next : {l : ℕ} {e r : Fragment} {ts rest : List Token} (m n : ℕ) (mid : List Token) (kind : ListKind) (t : Token)
      → slice_get def.lists l ≡ Some kind → terminal_of def t ≡ fixed kind.separator
      → Run def (start kind.element 0) ts e m (t ∷ mid) → Run def (some_list l) mid r n rest
      → Run def (some_list l) ts (cell l e r) (max m n) rest
