-- Statements of laws on regions.
use Rattle.std.specs.Prelude.{ℕ, max, ◌≡◌, ◌↔◌, ◌<◌, ◌≤◌, ◌+◌, [], ◌∷◌, ◌++◌, length, Option, Some, IsUtf8}
use Rattle.psg_grammar.specs.declared.types.Kind.{Kind}
use Rattle.psg_grammar.specs.declared.types.Definition.{Definition}
use Rattle.psg_grammar.specs.Fragments.{Fragment}
use Rattle.psg_grammar.specs.Paths.{Path, node_at, replaced}
use Rattle.psg_grammar.specs.Printable.{IsPrintable}
use Rattle.psg_grammar.specs.Sizes.{depth_of}
use Rattle.psg_grammar.specs.WellFormed.{WellFormed}
use Rattle.psg_class.specs.Texts.{ReadsAs}
use Rattle.psg_unparse.specs.Layout.{text_of}
use Rattle.psg_unparse.specs.Spots.{Placed, IsPlacedAt}
use Rattle.psg_unparse.specs.Spans.{span_of}
use Rattle.psg_textedit.specs.Surroundings.{Surrounds}
use Rattle.psg_textedit.specs.Regions.{Typing, Encloses, IsInside, IsClean, IsReading, new_text}

module _ (def : Definition) (f : Fragment) where
  -- A clean node's own tree in its place is the tree of the whole new text. Brackets nest as deep as those around the
  -- node and in it, or less deep than the old tree is.
  pub record IsReplacedIn (e : Typing) (kind : Kind) (path : Path) (p : Placed) (tree : Fragment) (m : ℕ) : Type 0 where
    pub elsewhere : ℕ
    pub shallow : elsewhere < depth_of f
    pub reads : ReadsAs def kind 0 (new_text def f e) (replaced path tree f) (max elsewhere (p.spot.around + m))

  abbrev pub CleanIsTyped : Type 0
  CleanIsTyped =
      (kind : Kind) → IsPrintable f → WellFormed def f kind → (e : Typing) → IsInside e (text_of def f)
      → IsUtf8 e.new → (path : Path) (p : Placed) (tree : Fragment) (m : ℕ) → IsPlacedAt def f path p
      → Encloses e (span_of def p)
      → IsClean def f e p tree m → IsReplacedIn e kind path p tree m

  -- of a change there is one reading
  abbrev pub ReadingIsOne : Type 0
  ReadingIsOne =
      (kind : Kind) → WellFormed def f kind → (e : Typing) (a b : Option Path) (m n : ℕ) → IsReading def f e a m
      → IsReading def f e b n → (a ≡ b) × (m ≡ n)

  -- the change has a reading
  pub record HasReading (e : Typing) : Type 0 where
    pub found : Option Path
    pub read : ℕ
    pub is : IsReading def f e found read

  -- That a change has none is refuted. The logic here is constructive, and says so in place of "there is one": no text
  -- is parsed to tell whether a node is clean. By excluded middle both are the same.
  abbrev pub SomeReading : Type 0
  SomeReading = (kind : Kind) → WellFormed def f kind → (e : Typing) → (HasReading e → ⊥) → ⊥

  -- a tree is as deep as what is in place of a node, or as what is elsewhere
  abbrev pub DepthOfChange : Type 0
  DepthOfChange =
      (limit : ℕ) → depth_of f ≤ limit → (path : Path) (t new : Fragment) → node_at f path ≡ Some t
      → (depth_of (replaced path new f) ≤ limit) ↔ (length path + depth_of new ≤ limit)

  -- what is listed of a node is what the way down to it gives
  abbrev pub IsSurrounded : Type 0
  IsSurrounded =
      (kind : Kind) → WellFormed def f kind → (path : Path) (p : Placed) → IsPlacedAt def f path p
      → Surrounds def f 0 0 path p.node p.spot.level p.spot.around

  -- the span of a node is in that of its parent
  abbrev pub IsNested : Type 0
  IsNested =
      (kind : Kind) → WellFormed def f kind → (path : Path) (k : ℕ) (p : Placed) → IsPlacedAt def f (path ++ k ∷ []) p
      → (q : Placed) × IsPlacedAt def f path q × ((span_of def q).start ≤ (span_of def p).start)
      × ((span_of def p).end ≤ (span_of def q).end)
