-- Which tokens a tree yields.
use Rattle.std.specs.Prelude.{ℕ, suc, ◌≡◌, ◌≤◌, Bool, true, false, max, List, [], ◌∷◌, ◌++◌, Some, slice_get}
use Rattle.psg_grammar.specs.declared.types.Kind.{Kind}
use Rattle.psg_grammar.specs.declared.types.Kind.TheVariants as kinds
use Rattle.psg_grammar.specs.declared.types.Item.{Item}
use Rattle.psg_grammar.specs.declared.types.Item.TheVariants as items
use Rattle.psg_grammar.specs.declared.types.Operator.{Operator}
use Rattle.psg_grammar.specs.declared.types.Phylum.{Phylum}
use Rattle.psg_grammar.specs.declared.types.ListKind.{ListKind}
use Rattle.psg_grammar.specs.declared.types.Definition.{Definition}
use Rattle.psg_grammar.specs.Fragments.{Fragment, hole, ending, cell, operator, with_child}
use Rattle.psg_grammar.specs.Fragments.{with_name, with_number, with_text}
use Rattle.psg_grammar.specs.Levels.{level_number}
use Rattle.psg_grammar.specs.Declaring.{HasHoles}
use Rattle.psg_class.specs.Terminals.{Token, word, numeral, quoted, placeholder, dots, fixed}
use Rattle.psg_class.specs.Terminals.{a_name, open_bracket, close_bracket, terminal_of}
use Rattle.psg_class.specs.Places.{slot_level, solid}

-- TreeYields f p level depth ts: a tree of the phylum p yields the tokens at a level of at least this, with brackets
-- nested so deep.
-- PartsYield o first f d more g depth ts: these items yield the tokens and make g of the operator's tree f; `first`
-- says that f has no item yet.
-- ListYields f l depth ts: a list of the kind l. SomeYield: the same for a list with an element.
mutual
  pub data TreeYields (def : Definition) : Fragment → ℕ → ℕ → ℕ → List Token → Type 0 where
    of_hole : {p level : ℕ} (phylum : Phylum) → slice_get def.phyla p ≡ Some phylum → HasHoles def (kinds.Phylum p)
        → TreeYields def (hole p) p level 0 (placeholder phylum.name ∷ [])
    of_operator : {f : Fragment} {p level depth : ℕ} {ts : List Token} (n : ℕ) (o : Operator)
        → slice_get def.operators n ≡ Some o → o.phylum ≡ p → level ≤ level_number o.level
        → PartsYield def o true (operator n) 0 (solid o.items) f depth ts → TreeYields def f p level depth ts
    in_brackets : {f : Fragment} {p level depth : ℕ} {ts : List Token} (phylum : Phylum)
        (open_token close_token : Token) → slice_get def.phyla p ≡ Some phylum → phylum.bracketed ≡ true
        → terminal_of def open_token ≡ open_bracket → terminal_of def close_token ≡ close_bracket
        → TreeYields def f p 0 depth ts
        → TreeYields def f p level (suc depth) (open_token ∷ (ts ++ close_token ∷ []))

  pub data PartsYield (def : Definition) : Operator → Bool → Fragment → ℕ → List Item → Fragment → ℕ → List Token
      → Type 0 where
    no_items : {o : Operator} {first : Bool} {f : Fragment} {d : ℕ} → PartsYield def o first f d [] f d []
    of_word : {o : Operator} {first : Bool} {f g : Fragment} {d e : ℕ} {more : List Item} {ts : List Token} {w : List ℕ}
        (t : Token) → terminal_of def t ≡ fixed w
        → PartsYield def o false f d more g e ts → PartsYield def o first f d (items.Word w ∷ more) g e (t ∷ ts)
    of_refers : {o : Operator} {first : Bool} {f g : Fragment} {d e : ℕ} {more : List Item} {ts : List Token} (s : ℕ)
        (x : List ℕ) → terminal_of def (word x) ≡ a_name
        → PartsYield def o false (with_name f x) d more g e ts
        → PartsYield def o first f d (items.Refers s ∷ more) g e (word x ∷ ts)
    of_declares : {o : Operator} {first : Bool} {f g : Fragment} {d e : ℕ} {more : List Item} {ts : List Token} (s : ℕ)
        (x : List ℕ) → terminal_of def (word x) ≡ a_name
        → PartsYield def o false (with_name f x) d more g e ts
        → PartsYield def o first f d (items.Declares s ∷ more) g e (word x ∷ ts)
    of_number : {o : Operator} {first : Bool} {f g : Fragment} {d e : ℕ} {more : List Item} {ts : List Token} (x : ℕ)
        → PartsYield def o false (with_number f x) d more g e ts
        → PartsYield def o first f d (items.Number ∷ more) g e (numeral x ∷ ts)
    of_text : {o : Operator} {first : Bool} {f g : Fragment} {d e : ℕ} {more : List Item} {ts : List Token} (x : List ℕ)
        → PartsYield def o false (with_text f x) d more g e ts
        → PartsYield def o first f d (items.Text ∷ more) g e (quoted x ∷ ts)
    of_slot : {o : Operator} {first : Bool} {f g : Fragment} {d e : ℕ} {more : List Item} {p : ℕ} (t : Fragment)
        (depth : ℕ) (own behind : List Token)
        → TreeYields def t p (slot_level o (kinds.Phylum p) first more) depth own
        → PartsYield def o false (with_child f t) (max d depth) more g e behind
        → PartsYield def o first f d (items.Slot (kinds.Phylum p) ∷ more) g e (own ++ behind)
    of_list_slot : {o : Operator} {first : Bool} {f g : Fragment} {d e : ℕ} {more : List Item} {l : ℕ} (t : Fragment)
        (depth : ℕ) (own behind : List Token)
        → ListYields def t l depth own
        → PartsYield def o false (with_child f t) (max d depth) more g e behind
        → PartsYield def o first f d (items.Slot (kinds.List l) ∷ more) g e (own ++ behind)

  pub data ListYields (def : Definition) : Fragment → ℕ → ℕ → List Token → Type 0 where
    no_elements : {l : ℕ} (kind : ListKind) → slice_get def.lists l ≡ Some kind → ListYields def (ending l false) l 0 []
    only_more : {l : ℕ} (kind : ListKind) → slice_get def.lists l ≡ Some kind → kind.unfinished ≡ true
        → ListYields def (ending l true) l 0 (dots ∷ [])
    elements : {f : Fragment} {l depth : ℕ} {ts : List Token} → SomeYield def f l depth ts → ListYields def f l depth ts

  pub data SomeYield (def : Definition) : Fragment → ℕ → ℕ → List Token → Type 0 where
    last_element : {l depth : ℕ} {e : Fragment} {ts : List Token} (kind : ListKind) → slice_get def.lists l ≡ Some kind
        → TreeYields def e kind.element 0 depth ts
        → SomeYield def (cell l e (ending l false)) l depth ts
    and_more : {l depth : ℕ} {e : Fragment} (ts : List Token) (kind : ListKind) (separator : Token)
        → slice_get def.lists l ≡ Some kind → kind.unfinished ≡ true → terminal_of def separator ≡ fixed kind.separator
        → TreeYields def e kind.element 0 depth ts
        → SomeYield def (cell l e (ending l true)) l depth (ts ++ separator ∷ dots ∷ [])
    and_elements : {l : ℕ} {e r : Fragment} (kind : ListKind) (m n : ℕ) (own behind : List Token) (separator : Token)
        → slice_get def.lists l ≡ Some kind → terminal_of def separator ≡ fixed kind.separator
        → TreeYields def e kind.element 0 m own → SomeYield def r l n behind
        → SomeYield def (cell l e r) l (max m n) (own ++ separator ∷ behind)

-- A tree of the kind yields the tokens, with brackets nested so deep. A list has no level: it is yielded at each.
abbrev pub Yields : Definition → Fragment → Kind → ℕ → ℕ → List Token → Type 0
Yields def f (kinds.Phylum p) level depth ts = TreeYields def f p level depth ts
Yields def f (kinds.List l) level depth ts = ListYields def f l depth ts
