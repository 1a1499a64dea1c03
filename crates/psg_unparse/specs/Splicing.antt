-- The text of a tree in which a node is replaced, from the text of the tree before.
use Rattle.std.specs.Prelude.{ℕ, ◌≡◌, ◌<◌, ◌+◌, ◌-◌, ◌^◌, ◌==◌, ◌&&◌, Bool, true, false, cond, List, [], ◌∷◌, ◌++◌}
use Rattle.std.specs.Prelude.{All, length, map, take, drop, Some, None, slice_get}
use Rattle.std.specs.List.{AllByRecursion}
use Rattle.std.specs.Str.{IsCharBoundary}
use Rattle.psg_grammar.specs.declared.types.Kind.{Kind}
use Rattle.psg_grammar.specs.declared.types.Definition.{Definition}
use Rattle.psg_grammar.specs.Fragments.{Fragment}
use Rattle.psg_grammar.specs.Paths.{Path, node_at, replaced}
use Rattle.psg_grammar.specs.WellFormed.{WellFormed}
use Rattle.psg_unparse.specs.Rows.{row}
use Rattle.psg_unparse.specs.Layout.{last_in, text_of}
use Rattle.psg_unparse.specs.Spans.{printed_of}
use Rattle.psg_unparse.specs.Plain.{IsPlain, AreAlike, head_in, level_of}
use Rattle.psg_unparse.specs.declared.spans.Span.{Span}
use Rattle.psg_unparse.specs.declared.spans.Printed.{Printed}

-- the span at the place has the path
pub record IsPlaceOf (spans : List Span) (path : Path) (place : ℕ) : Type 0 where
  pub span : Span
  pub found : slice_get spans place ≡ Some span
  pub path_is : span.path ≡ path

-- both places of the span are below 2^63, as those of each text of this machine are
abbrev pub IsSmall : Span → Type 0
IsSmall s = (s.start < 2 ^ 63) × (s.end < 2 ^ 63)

-- the text has no line feed
abbrev pub IsOneLine : List ℕ → Type 0
IsOneLine text = All (λ b. b ≡ 10 → ⊥) text

-- no span begins or ends inside a character
abbrev pub CutsNone : Printed → Type 0
CutsNone p = (k : ℕ) (s : Span) → slice_get p.spans k ≡ Some s
    → IsCharBoundary p.text s.start × IsCharBoundary p.text s.end

-- the steps are the first ones of the path
abbrev pub leads_along : Path → Path → Bool
leads_along [] path = true
leads_along (k ∷ steps) [] = false
leads_along (k ∷ steps) (m ∷ path) = (k == m) && leads_along steps path

-- a byte after those that are replaced, where there were `old` of them and are `new` ones
abbrev pub moved : ℕ → ℕ → ℕ → ℕ
moved old new place = (place + new) - old

-- a span listed before that of the node at the path: the nodes above the node get longer
abbrev pub stretched : Path → ℕ → ℕ → Span → Span
stretched path old new s = record {
  path = s.path;
  start = s.start;
  end = cond (leads_along s.path path) (moved old new s.end) s.end;
}

-- a span listed after those of the node and of all below it
abbrev pub shifted : ℕ → ℕ → Span → Span
shifted old new s = record { path = s.path; start = moved old new s.start; end = moved old new s.end }

-- a span of the new node's own text, in the whole text where the old node's span was this one
abbrev pub set_in : Span → Span → Span
set_in node s = record { path = node.path ++ s.path; start = node.start + s.start; end = node.start + s.end }

abbrev pub spliced_text : Span → List ℕ → List ℕ → List ℕ
spliced_text node old new = take node.start old ++ (new ++ drop node.end old)

-- the node has the span at the place, and with those below it `count` spans
abbrev pub spliced_spans : ℕ → ℕ → Span → Printed → List Span → List Span
spliced_spans place count node new old =
    map (stretched node.path (node.end - node.start) (length new.text)) (take place old)
    ++ (map (set_in node) new.spans
    ++ map (shifted (node.end - node.start) (length new.text)) (drop (place + count) old))

abbrev pub spliced_in : ℕ → ℕ → Span → Printed → Printed → Printed
spliced_in place count node new old = record {
  text = spliced_text node old.text new.text;
  spans = spliced_spans place count node new old.spans;
}

module _ (def : Definition) where
  -- The text around the old node stays where the new one is put: both are in brackets or neither is, the gaps in front
  -- and after are the same, and none of the new node's spans is in front of its first byte.
  pub record FitsInPlace (old new : Fragment) : Type 0 where
    pub old_plain : IsPlain (row def old)
    pub new_plain : IsPlain (row def new)
    pub levels : level_of def old ≡ level_of def new
    pub heads : AreAlike (head_in (row def old)) (head_in (row def new))
    pub lasts : AreAlike (last_in None (row def old)) (last_in None (row def new))
    pub begun : AllByRecursion (λ (s : Span). 0 < s.end) (printed_of def new).spans

  -- the text with the new node is the old text, in which the node's own text is replaced
  abbrev pub IsSplicedAt : Fragment → Path → Fragment → Fragment → Type 0
  IsSplicedAt f path old new =
      (place : ℕ) (node : Span) → slice_get (printed_of def f).spans place ≡ Some node → node.path ≡ path
      → printed_of def (replaced path new f)
      ≡ spliced_in place (length (printed_of def old).spans) node (printed_of def new) (printed_of def f)

  abbrev pub Splices : Type 0
  Splices =
      (f : Fragment) (kind : Kind) → WellFormed def f kind → (path : Path) (old new : Fragment)
      → node_at f path ≡ Some old → FitsInPlace old new → IsSplicedAt f path old new

  -- this is printed of the new node by itself, which fits in the old one's place, and of the old one that many spans
  pub record IsFitting (old new : Fragment) (count : ℕ) (printed : Printed) : Type 0 where
    pub fits : FitsInPlace old new
    pub count_is : count ≡ length (printed_of def old).spans
    pub printed_is : printed ≡ printed_of def new

  -- There is a node at the path, which is written on one line, and the new one fits in its place.
  pub record IsSpliceable (f : Fragment) (path : Path) (new : Fragment) : Type 0 where
    pub old : Fragment
    pub there : node_at f path ≡ Some old
    pub line : IsOneLine (text_of def old)
    pub fits : FitsInPlace old new

  -- the new node may be put so, and these are the text and the spans of the tree with it
  pub record IsSplicing (f : Fragment) (path : Path) (new : Fragment) (made : Printed) : Type 0 where
    pub may : IsSpliceable f path new
    pub printed_is : made ≡ printed_of def (replaced path new f)
