-- The node at a byte of a text.
use Rattle.std.specs.Prelude.{ℕ, ◌≡◌, ◌<◌, ◌==◌, ◌&&◌, nat_le, cond, Bool, true, false, List, [], ◌∷◌}
use Rattle.std.specs.Prelude.{Option, Some, None, slice_get}
use Rattle.psg_grammar.specs.declared.types.Definition.{Definition}
use Rattle.psg_grammar.specs.declared.types.Kind.{Kind}
use Rattle.psg_grammar.specs.Fragments.{Fragment}
use Rattle.psg_grammar.specs.Paths.{Path, node_at}
use Rattle.psg_lexis.specs.declared.token.Spanned.{Spanned}
use Rattle.psg_class.specs.Terminals.{Token}
use Rattle.psg_class.specs.Yields.{Yields}
use Rattle.psg_ranges.specs.declared.ranges.Range.{Range}
use Rattle.psg_ranges.specs.Forests.{Forest, at_path, below_first, first_range, from_nth, nodes_of}
use Rattle.psg_ranges.specs.Owns.{IsRangeOf, end_before}

-- ---- the bytes of a node

-- where the token begins, if it is there
abbrev pub start_of : Option Spanned → ℕ
start_of None = 0
start_of (Some t) = t.start

-- where a node begins: one without tokens is where the token before it ends
abbrev pub begin_of : List Spanned → Range → ℕ
begin_of tokens r = cond (r.start == r.end) (end_before tokens r.start) (start_of (slice_get tokens r.start))

-- where it ends
abbrev pub finish_of : List Spanned → Range → ℕ
finish_of tokens r = end_before tokens r.end

-- the byte is one of the node's, or the one after its last one
abbrev pub covers : List Spanned → ℕ → Range → Bool
covers tokens byte r = nat_le (begin_of tokens r) byte && nat_le byte (finish_of tokens r)

abbrev pub covers_by : List Spanned → ℕ → Option Range → Bool
covers_by tokens byte None = false
covers_by tokens byte (Some r) = covers tokens byte r

-- so it is for the first of the nodes
abbrev pub is_on : List Spanned → ℕ → Forest → Bool
is_on tokens byte f = covers_by tokens byte (first_range f)

-- ---- the node at a byte

module _ (tokens : List Spanned) (byte : ℕ) where
  -- of the nodes side by side the one of this number is the last that covers the byte
  pub record IsLastOn (f : Forest) (k : ℕ) : Type 0 where
    pub on : is_on tokens byte (from_nth f k) ≡ true
    pub last : (n : ℕ) → k < n → is_on tokens byte (from_nth f n) ≡ false

  -- The way from the first of the nodes: it goes on to the last child that covers the byte, and ends where none does.
  pub data Leads : Forest → Path → Type 0 where
    ends : {f : Forest} → ((n : ℕ) → is_on tokens byte (from_nth (below_first f) n) ≡ false) → Leads f []
    goes_on : {f : Forest} {path : Path} (k : ℕ) → IsLastOn (below_first f) k → Leads (from_nth (below_first f) k) path
        → Leads f (k ∷ path)

  -- The smallest node that covers the byte, and of two that touch there the later one. There is none where the whole
  -- program does not cover it.
  pub data IsPointed (nodes : Forest) : Option Path → Type 0 where
    nowhere : is_on tokens byte nodes ≡ false → IsPointed nodes None
    pointed : (path : Path) → is_on tokens byte nodes ≡ true → Leads nodes path → IsPointed nodes (Some path)

-- what is at a path: a node of the tree, and its range
pub record IsNodeThere (def : Definition) (ts : List Token) (f : Fragment) (nodes : Forest) (path : Path)
    : Type 0 where
  pub node : Fragment
  pub range : Range
  pub node_is : node_at f path ≡ Some node
  pub range_is : first_range (at_path nodes path) ≡ Some range
  pub is_range : IsRangeOf def ts node range

-- the path that a byte points at leads to a node, whatever derivation of a tree the nodes are of
abbrev pub PointsAtNodes : Definition → Type 0
PointsAtNodes def = (f : Fragment) (kind : Kind) (level depth : ℕ) (ts : List Token)
    (y : Yields def f kind level depth ts) (tokens : List Spanned) (byte : ℕ) (path : Path)
    → IsPointed tokens byte (nodes_of def f kind level depth ts y) (Some path)
    → IsNodeThere def ts f (nodes_of def f kind level depth ts y) path
