-- What the range of a node says of it.
use Rattle.std.specs.Prelude.{ℕ, zero, suc, ◌≡◌, ◌+◌, List, [], ◌∷◌, ◌++◌, length, map, Option, Some, None, slice_get}
use Rattle.psg_grammar.specs.declared.types.Kind.{Kind}
use Rattle.psg_grammar.specs.declared.types.Definition.{Definition}
use Rattle.psg_grammar.specs.Fragments.{Fragment, hole, ending, cell, operator, with_child, with_name, with_number}
use Rattle.psg_grammar.specs.Fragments.{with_text, anything, observed}
use Rattle.psg_grammar.specs.Paths.{Path, node_at}
use Rattle.psg_lexis.specs.declared.token.Spanned.{Spanned}
use Rattle.psg_class.specs.Terminals.{Token, word}
use Rattle.psg_class.specs.Yields.{ListYields, Yields}
use Rattle.psg_ranges.specs.declared.ranges.Range.{Range}
use Rattle.psg_ranges.specs.Forests.{Core, Forest, at_path, first_range, nodes_of}

-- the tokens are those of the node, without brackets around it
pub data IsNode (def : Definition) : Fragment → List Token → Type 0 where
  a_tree : {f : Fragment} {p : ℕ} {own : List Token} → Core def f p own → IsNode def f own
  a_list : {f : Fragment} {l depth : ℕ} {own : List Token} → ListYields def f l depth own → IsNode def f own

-- the names of the node's operator, in order
abbrev pub own_names : Fragment → List (List ℕ)
own_names (with_child f t) = own_names f
own_names (with_name f x) = own_names f ++ x ∷ []
own_names (with_number f n) = own_names f
own_names (with_text f t) = own_names f
own_names (observed f) = own_names f
own_names (hole p) = []
own_names (ending l u) = []
own_names (cell l e r) = []
own_names (operator o) = []
own_names anything = []

-- the words, each as a token that is there
abbrev pub as_words : List (List ℕ) → List (Option Token)
as_words names = map (λ x. Some (word x)) names

-- the range is that of the node among the tokens
pub record IsRangeOf (def : Definition) (tokens : List Token) (f : Fragment) (r : Range) : Type 0 where
  pub before : List Token
  pub own : List Token
  pub after : List Token
  pub are : tokens ≡ before ++ (own ++ after)
  pub is : IsNode def f own
  pub starts : r.start ≡ length before
  pub ends : r.end ≡ length before + length own
  -- the tokens of these numbers are the names
  pub named : map (slice_get tokens) r.names ≡ as_words (own_names f)

-- a path leads to a node of the tree exactly where it leads to a range, and the range is that of the node
pub record HasRanges (def : Definition) (tokens : List Token) (f : Fragment) (nodes : Forest) : Type 0 where
  pub there : (path : Path) (g : Fragment) → node_at f path ≡ Some g
      → (r : Range) × (first_range (at_path nodes path) ≡ Some r) × IsRangeOf def tokens g r
  pub none : (path : Path) → node_at f path ≡ None → first_range (at_path nodes path) ≡ None

-- so it is for each derivation of a tree
abbrev pub RangesAreOfNodes : Definition → Type 0
RangesAreOfNodes def = (f : Fragment) (kind : Kind) (level depth : ℕ) (ts : List Token)
    (y : Yields def f kind level depth ts) → HasRanges def ts f (nodes_of def f kind level depth ts y)

-- the byte after the token, if it is there
abbrev pub end_of : Option Spanned → ℕ
end_of None = 0
end_of (Some t) = t.end

-- the byte after the last token in front of the one of the number: 0 where there is none
abbrev pub end_before : List Spanned → ℕ → ℕ
end_before tokens zero = 0
end_before tokens (suc n) = end_of (slice_get tokens n)
