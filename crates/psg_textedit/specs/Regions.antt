-- A text in which bytes are replaced, and the nodes that this changes.
use Rattle.std.specs.Prelude.{ℕ, ◌≡◌, ◌⊎◌, ◌<◌, ◌≤◌, ◌+◌, List, [], ◌∷◌, ◌++◌, length}
use Rattle.std.specs.Prelude.{take, drop, Option, Some, None, slice_get}
use Rattle.std.specs.List.{AllByRecursion}
use Rattle.std.specs.Str.{IsCharBoundary}
use Rattle.psg_grammar.specs.declared.types.Kind.{Kind}
use Rattle.psg_grammar.specs.declared.types.Definition.{Definition}
use Rattle.psg_grammar.specs.Fragments.{Fragment}
use Rattle.psg_grammar.specs.Kinds.{IsOfKind}
use Rattle.psg_grammar.specs.Paths.{Path, replaced}
use Rattle.psg_grammar.specs.Sizes.{depth_of}
use Rattle.psg_lexis.specs.Tokens.{IsBeside}
use Rattle.psg_lexis.specs.declared.token.Spanned.{Spanned}
use Rattle.psg_class.specs.Texts.{TextTokens, ReadsAs, HasNoTokens}
use Rattle.psg_unparse.specs.Layout.{text_of}
use Rattle.psg_unparse.specs.Nodes.{part_of}
use Rattle.psg_unparse.specs.Spots.{Placed, IsPlacedAt}
use Rattle.psg_unparse.specs.Spans.{span_of, printed_of}
use Rattle.psg_unparse.specs.declared.spans.Span.{Span}

-- the bytes from start up to end are to be replaced by new ones
pub record Typing : Type 0 where
  pub start : ℕ
  pub end : ℕ
  pub new : List ℕ

-- the text with the bytes replaced
abbrev pub edited : Typing → List ℕ → List ℕ
edited e text = take e.start text ++ (e.new ++ drop e.end text)

-- the text has no such bytes
abbrev pub IsOutside : Typing → List ℕ → Type 0
IsOutside e text =
    (e.end < e.start) ⊎ ((length text < e.end) ⊎ ((IsCharBoundary text e.start → ⊥) ⊎ (IsCharBoundary text e.end → ⊥)))

-- the bytes are there, and no character is cut
pub record IsInside (e : Typing) (text : List ℕ) : Type 0 where
  pub ordered : e.start ≤ e.end
  pub within : e.end ≤ length text
  pub start_whole : IsCharBoundary text e.start
  pub end_whole : IsCharBoundary text e.end

-- the bytes that are replaced are all in the span
abbrev pub Encloses : Typing → Span → Type 0
Encloses e s = (s.start ≤ e.start) × (e.end ≤ s.end)

-- The first, in the order of spans, of the deepest nodes that enclose the bytes.
pub record IsInnermost (spans : List Span) (e : Typing) (path : Path) : Type 0 where
  pub number : ℕ
  pub span : Span
  pub found : slice_get spans number ≡ Some span
  pub path_is : span.path ≡ path
  pub encloses : Encloses e span
  pub deepest : (k : ℕ) (other : Span) → slice_get spans k ≡ Some other → Encloses e other
      → length other.path ≤ length path
  pub first : (k : ℕ) (other : Span) → k < number → slice_get spans k ≡ Some other → Encloses e other
      → length other.path < length path

-- the bytes of a span that encloses the replaced ones, with the new ones in their place
abbrev pub region : Typing → Span → List ℕ → List ℕ
region e s text = part_of s.start e.start text ++ (e.new ++ part_of e.end s.end text)

-- how many tokens a text has; one that has none because of a fault counts 0
pub data CountsText (def : Definition) (text : List ℕ) : ℕ → Type 0 where
  has_tokens : (ts : List Spanned) → TextTokens def text ts → CountsText def text (length ts)
  has_none : HasNoTokens def text → CountsText def text 0

module _ (def : Definition) (f : Fragment) (e : Typing) where
  abbrev pub new_text : List ℕ
  new_text = edited e (text_of def f)

  abbrev pub region_of : Placed → List ℕ
  region_of p = region e (span_of def p) (text_of def f)

  -- The whole new text has tokens, none of which is across a border of the node's new region, and this region by itself
  -- reads as a tree of the node's kind at the level that is wanted there. It is not enough that the region reads so:
  -- after `a` the region `b` has the token `b`, and the whole text has `ab`.
  pub record IsClean (p : Placed) (tree : Fragment) (nesting : ℕ) : Type 0 where
    pub all : List Spanned
    pub whole : TextTokens def new_text all
    pub begins : AllByRecursion (IsBeside (span_of def p).start) all
    pub ends : AllByRecursion (IsBeside ((span_of def p).start + length (region_of p))) all
    pub kind : Kind
    pub of_kind : IsOfKind def p.node kind
    pub reads : ReadsAs def kind p.spot.level (region_of p) tree nesting

  abbrev pub IsUnclean : Placed → Type 0
  IsUnclean p = (tree : Fragment) (nesting : ℕ) → IsClean p tree nesting → ⊥

  -- how many tokens the node's new region has
  abbrev pub Counts : Placed → ℕ → Type 0
  Counts p n = CountsText def (region_of p) n

  -- Widens path found n: from the node at the path outward, the first clean one is found, if there is one, and the
  -- regions up to it have n tokens together.
  pub data Widens : Path → Option Path → ℕ → Type 0 where
    stops : {path : Path} {n : ℕ} (p : Placed) (tree : Fragment) (nesting : ℕ) → IsPlacedAt def f path p
        → IsClean p tree nesting → Counts p n → Widens path (Some path) n
    gives_up : {n : ℕ} (p : Placed) → IsPlacedAt def f [] p → IsUnclean p → Counts p n → Widens [] None n
    widens : {path : Path} {found : Option Path} (m n : ℕ) (p : Placed) (parent : Path) (k : ℕ)
        → path ≡ parent ++ k ∷ []
        → IsPlacedAt def f path p → IsUnclean p → Counts p m → Widens parent found n → Widens path found (m + n)

  -- how many tokens are read for the change, and the path of the node that is read
  pub data IsReading : Option Path → ℕ → Type 0 where
    has_no_place : IsOutside e (text_of def f) → IsReading None 0
    reads : {found : Option Path} {n : ℕ} (path : Path) → (IsOutside e (text_of def f) → ⊥)
        → IsInnermost (printed_of def f).spans e path → Widens path found n → IsReading found n

  -- The tree put in place of the node at the path makes the tree of the whole new text, within the limits.
  pub record IsTyped (kind : Kind) (path : Path) (tree : Fragment) : Type 0 where
    pub inside : IsOutside e (text_of def f) → ⊥
    pub nesting : ℕ
    pub reads : ReadsAs def kind 0 new_text (replaced path tree f) nesting
    pub depth : depth_of (replaced path tree f) ≤ 200
    pub brackets : nesting ≤ 400

  -- the whole new text is read as a tree that is past a limit
  pub record HasDeepTree (kind : Kind) : Type 0 where
    pub tree : Fragment
    pub nesting : ℕ
    pub reads : ReadsAs def kind 0 new_text tree nesting
    pub deep : (200 < depth_of tree) ⊎ (400 < nesting)
