-- Where the nodes and the names of a program are in its text.
use Rattle.std.specs.Prelude.{ℕ, zero, suc, ◌≡◌, ◌==◌, cond, List, Option, Some, None, slice_get, get_or}
use Rattle.psg_grammar.specs.Paths.{Path}
use Rattle.psg_grammar.specs.declared.types.Kind.{Kind}
use Rattle.psg_grammar.specs.declared.types.Definition.{Definition}
use Rattle.psg_grammar.specs.Fragments.{Fragment}
use Rattle.psg_lexis.specs.declared.token.Spanned.{Spanned}
use Rattle.psg_class.specs.Texts.{tokens_of}
use Rattle.psg_class.specs.Yields.{Yields}
use Rattle.psg_places.specs.declared.place.Place.{Place}
use Rattle.psg_places.specs.declared.place.Place.TheVariants.{Node, Element, End, Name}
use Rattle.psg_ranges.specs.declared.ranges.Range.{Range}
use Rattle.psg_ranges.specs.Forests.{Forest, at_path, first_range, nodes_of}
use Rattle.psg_ranges.specs.Owns.{end_before}
use Rattle.psg_recover.specs.Grammars.{quiet}
use Rattle.psg_recover.specs.Lost.{path_back}

abbrev pub start_of : Option Spanned → ℕ
start_of None = 0
start_of (Some t) = t.start

-- where the token of the number begins
abbrev pub token_byte : List Spanned → ℕ → ℕ
token_byte tokens number = start_of (slice_get tokens number)

-- where the node of the range begins: one without tokens is after the token before it
abbrev pub begin_of : List Spanned → Option Range → ℕ
begin_of tokens None = 0
begin_of tokens (Some r) = cond (r.start == r.end) (end_before tokens r.start) (token_byte tokens r.start)

-- where it ends
abbrev pub finish_of : List Spanned → Option Range → ℕ
finish_of tokens None = 0
finish_of tokens (Some r) = end_before tokens r.end

abbrev pub one_less : ℕ → ℕ
one_less zero = zero
one_less (suc n) = n

-- where its last token begins
abbrev pub last_of : List Spanned → Option Range → ℕ
last_of tokens None = 0
last_of tokens (Some r) = token_byte tokens (one_less r.end)

abbrev pub byte_or_none : List Spanned → Option ℕ → ℕ
byte_or_none tokens None = 0
byte_or_none tokens (Some number) = token_byte tokens number

-- where its name of the number begins
abbrev pub name_of : List Spanned → Option Range → ℕ → ℕ
name_of tokens None k = 0
name_of tokens (Some r) k = byte_or_none tokens (slice_get r.names k)

-- A program that was read from tokens: what is left of the tree without lost elements, and where its nodes are.
pub record IsRead (def : Definition) (kind : Kind) (tokens : List Spanned) (whole : Fragment) (nodes : Forest)
    : Type 0 where
  pub nesting : ℕ
  pub yields : Yields (quiet def) whole kind 0 nesting (tokens_of tokens)
  pub nodes_are : nodes ≡ nodes_of (quiet def) whole kind 0 nesting (tokens_of tokens) yields

-- what there is of the text of a program: its tokens, the tree that they were read as, and where the nodes of that are
pub record Read : Type 0 where
  pub tokens : List Spanned
  pub whole : Fragment
  pub nodes : Forest

-- the range of the node of the program at the path
abbrev pub range_at : Definition → Read → Path → Option Range
range_at def r path = first_range (at_path r.nodes (path_back def (Some r.whole) path))

module _ (def : Definition) (r : Read) where
  abbrev pub node_byte : Path → ℕ
  node_byte path = begin_of r.tokens (range_at def r path)

  abbrev pub end_byte : Path → ℕ
  end_byte path = finish_of r.tokens (range_at def r path)

  abbrev pub last_byte : Path → ℕ
  last_byte path = last_of r.tokens (range_at def r path)

  abbrev pub name_byte : Path → ℕ → ℕ
  name_byte path k = name_of r.tokens (range_at def r path) k

  abbrev pub first_byte : ℕ
  first_byte = token_byte r.tokens 0

  -- where it is reported that the place is blamed
  abbrev pub place_byte : Place → ℕ
  place_byte (Node path) = node_byte path
  place_byte (Element path) = node_byte path
  place_byte (End path) = end_byte path
  place_byte (Name path k) = name_byte path k
