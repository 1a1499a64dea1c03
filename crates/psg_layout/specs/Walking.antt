-- What the walk over a tree has made, and what each of its steps makes of it.
use Rattle.std.specs.Prelude.{ℕ, ◌≡◌, ◌≤◌, ◌+◌, ◌-◌, ◌==◌, ◌&&◌, not, nat_le, Bool, true, false, cond, List, [], ◌∷◌}
use Rattle.std.specs.Prelude.{◌++◌, length, map, take, drop, unwrap_or, slice_get, slice_set, slice_index_or}
use Rattle.std.specs.Prelude.{slice_range}
use Rattle.std.specs.Prelude.{Option, Some, None, is_some, decimal}
use Rattle.std.specs.Str.{IsCharBoundary}
use Rattle.std.specs.Option.{option_or}
use Rattle.psg_grammar.specs.declared.types.Item.{Item}
use Rattle.psg_grammar.specs.declared.types.Item.TheVariants as items
use Rattle.psg_grammar.specs.declared.types.Definition.{Definition}
use Rattle.psg_grammar.specs.Fragments.{Fragment, hole, ending, cell, operator, with_child, with_name}
use Rattle.psg_grammar.specs.Fragments.{with_number, with_text, anything, observed, children_of, top_operator}
use Rattle.psg_grammar.specs.Lookups.{operator_at}
use Rattle.psg_tree.specs.declared.tree.Part.{Part}
use Rattle.psg_tree.specs.declared.tree.Part.TheVariants.{Sub, Name, Number, Text}
use Rattle.psg_tree.specs.AbstractText.{quoted}
use Rattle.psg_unparse.specs.Rows.{row, left, behind_first, items_in, opening, closing, between, is_bracketed}
use Rattle.psg_unparse.specs.Layout.{last_in}
use Rattle.psg_unparse.specs.Spaced.{Put, text_in}
use Rattle.psg_unparse.specs.Walking.{is_below}
use Rattle.psg_layout.specs.declared.layout.Layout.{Layout}
use Rattle.psg_unparse.specs.declared.spans.Span.{Span}
use Rattle.psg_layout.specs.declared.gap.Gap.{Gap}
use Rattle.psg_layout.specs.declared.sheet.Begin.{Begin}
use Rattle.psg_layout.specs.declared.sheet.Extent.{Extent}
use Rattle.psg_layout.specs.declared.sheet.Own.{Own}
use Rattle.psg_layout.specs.declared.sheet.Sheet.{Sheet}
use Rattle.psg_layout.specs.declared.nodes.Flat.{Flat}
use Rattle.psg_layout.specs.declared.nodes.Node.{Node}
use Rattle.psg_layout.specs.declared.nodes.Arranger.{Arranger}
use Rattle.psg_layout.specs.declared.rules.Rules.{Rules}
use Rattle.psg_layout.specs.declared.walk.Next.{Next}
use Rattle.psg_layout.specs.declared.deciding.Plan.{Plan}
use Rattle.psg_layout.specs.Laws.{own_text}
use Rattle.psg_layout.specs.Pages.{Page, chars_in, columns, gap_by, has_feed, last_line, spaces_before}
use Rattle.psg_layout.specs.PutSpans.{first_gap}
use Rattle.psg_layout.specs.Sheets.{AreUtf8, after_gap, Copy, extents, feeds_in, gap_bytes, Ink, new_ink, ink_ask}
use Rattle.psg_layout.specs.Sheets.{ink_copy}
use Rattle.psg_layout.specs.Sheets.{ink_mark, ink_row, ink_token, IsInk, IsOwn, marks_of, own_chars}
use Rattle.psg_layout.specs.Arranged.{Mode, is_break, is_flat, is_group, next_number}
use Rattle.psg_layout.specs.Looked.{AreRulesOf}

-- ---- nodes

-- A walk is what is written, the path to the node that is written, the nodes that were listed, and how many nodes are
-- written, whether they were listed or copied.
pub record Walk : Type 0 where
  pub ink : Ink
  pub path : List ℕ
  pub nodes : List Node
  pub place : ℕ

abbrev pub new_walk : Walk
new_walk = record { ink = new_ink; path = []; nodes = []; place = 0 }

-- what a node without tokens is in one line
abbrev pub no_tokens : Flat
no_tokens = record { some = false; lead = record { feed = false; spaces = 0 }; width = Some 0; head = None }

-- what a node is in one line that begins there and ends with the text of these characters
abbrev pub flat_from : Begin → List ℕ → Flat
flat_from b cs = record {
  some = true;
  lead = b.gap;
  width = cond (b.feeds == feeds_in cs) (Some (columns (last_line cs) - b.columns)) None;
  head = b.head;
}

abbrev pub flats_of : List Node → List Flat
flats_of nodes = map (λ (n : Node). n.flat) nodes

abbrev pub flat_in : List Flat → ℕ → Flat
flat_in flats place = unwrap_or (slice_get flats place) no_tokens

-- a node is begun: it is listed, empty, where the text ends, and the first token is forgotten
abbrev pub begun_node : List ℕ → Page → Node
begun_node path p = record {
  span = record { path = path; start = length (text_in p.puts); end = length (text_in p.puts) };
  flat = no_tokens;
  before = length p.puts;
  own = 0;
  after = marks_of p.before;
  count = 0;
}

abbrev pub opened : Walk → Walk
opened w = record {
  ink = record { page = w.ink.page; first = None };
  path = w.path;
  nodes = w.nodes ++ begun_node w.path w.ink.page ∷ [];
  place = w.place + 1;
}

-- a node is ended where the text ends, with its first token if it has one; there are that many nodes in it
abbrev pub ended : Option Begin → Page → ℕ → Node → Node
ended None p count n = record {
  span = record { path = n.span.path; start = n.span.start; end = length (text_in p.puts) };
  flat = n.flat;
  before = n.before;
  own = length p.puts - n.before;
  after = marks_of p.before;
  count = count;
}
ended (Some b) p count n = record {
  span = record { path = n.span.path; start = b.byte; end = length (text_in p.puts) };
  flat = flat_from b (chars_in p.puts);
  before = n.before;
  own = length p.puts - n.before;
  after = marks_of p.before;
  count = count;
}

-- The node that is listed there is ended, which was begun when that many nodes were written. The first token of the
-- node around it is its own one, unless another one is known.
abbrev pub closed : ℕ → ℕ → Option Begin → Walk → Walk
closed listed place outer w = record {
  ink = record { page = w.ink.page; first = option_or outer w.ink.first };
  path = w.path;
  nodes = slice_set w.nodes listed
      (ended w.ink.first w.ink.page (w.place - place) (slice_index_or w.nodes listed (begun_node w.path w.ink.page)));
  place = w.place;
}

abbrev pub with_ink : Walk → Ink → Walk
with_ink w k = record { ink = k; path = w.path; nodes = w.nodes; place = w.place }

abbrev pub with_path : Walk → List ℕ → Walk
with_path w path = record { ink = w.ink; path = path; nodes = w.nodes; place = w.place }

-- the span of the node in a text of these tokens
abbrev pub span_by : List Put → Node → Span
span_by puts n = record {
  path = n.span.path;
  start = length (text_in (take n.before puts)) + length (first_gap (take n.own (drop n.before puts)));
  end = length (text_in (take (n.before + n.own) puts));
}

-- a node is copied
abbrev pub copied : List ℕ → Copy → Walk → Walk
copied lead c w = record { ink = ink_copy lead c w.ink; path = w.path; nodes = w.nodes; place = w.place + c.count }

-- the node of the choice is copied, or the walk over it is the other one
abbrev pub or_copied : Option Copy → List ℕ → Walk → Walk → Walk
or_copied None lead w v = v
or_copied (Some c) lead w v = copied lead c w

abbrev pub chosen : Bool → Option Copy → Option Copy
chosen b None = None
chosen b (Some c) = cond b (Some c) None

-- ---- operators

-- A node is next, in a flat group or not, as the node of this place; or the parts of a node are written in its mode.
pub data Way : Type 0 where
  comes : (flat : Bool) (place : ℕ) → Way
  within : (mode : Mode) → Way

abbrev pub comes_flat : Way → Bool
comes_flat (comes flat place) = flat
comes_flat (within mode) = is_flat mode

-- the line at the next token, where the node with that token is this in one line
abbrev pub line_ahead : Ink → Flat → List ℕ
line_ahead k f =
    last_line (chars_in k.page.puts ++ gap_by (last_in None k.page.before) k.page.broken (gap_bytes f.lead))

abbrev pub fits_in : ℕ → List ℕ → Option ℕ → Bool
fits_in cols line None = false
fits_in cols line (Some width) = nat_le (columns line + width) cols

abbrev pub is_mark : Option ℕ → Bool
is_mark None = false
is_mark (Some c) = not (c == 32)

-- the node is in one line, and begins with a character other than the space
abbrev pub is_own : Flat → Bool
is_own f = is_mark f.head && is_some f.width

module _ (layout : Layout) where
  abbrev pub ink_at : Mode → Option ℕ → ℕ → Ink → Ink
  ink_at mode o k ink = cond (is_break layout o k) (ink_ask mode ink) ink

  abbrev pub ink_words : Mode → Option ℕ → ℕ → List Item → Ink → Ink
  ink_words mode o k [] ink = ink
  ink_words mode o k (items.Word w ∷ rest) ink = ink_words mode o (k + 1) rest (ink_token (ink_at mode o k ink) w)
  ink_words mode o k (items.Slot kind ∷ rest) ink = ink
  ink_words mode o k (items.Refers s ∷ rest) ink = ink
  ink_words mode o k (items.Declares s ∷ rest) ink = ink
  ink_words mode o k (items.Number ∷ rest) ink = ink
  ink_words mode o k (items.Text ∷ rest) ink = ink
  ink_words mode o k (i ∷ rest) ink = ink_words mode o k rest (ink_mark ink i)

  -- a break is asked for before a child, if it is written with a token
  abbrev pub ink_child : Mode → Option ℕ → ℕ → Bool → Flat → Ink → Ink
  ink_child mode o k bracketed f ink = cond bracketed (ink_at mode o k ink) (cond f.some (ink_at mode o k ink) ink)

  module _ (cols : ℕ) where
    abbrev pub decided_by : Bool → Ink → Flat → Option ℕ → Mode
    decided_by flat k f o =
        cond flat None
        (cond (is_group layout o && fits_in cols (line_ahead k f) f.width) None
        (Some (spaces_before (line_ahead k f) + 2)))

    -- a node that is next is copied if it is a group that fits, and not in a flat group
    abbrev pub is_copied : Bool → Ink → Flat → Option ℕ → Bool
    is_copied flat k f o = not flat && (is_own f && (is_group layout o && fits_in cols (line_ahead k f) f.width))

-- Where the nodes need no paths, none is kept.
abbrev pub stepped : Bool → Walk → ℕ → Walk
stepped counts w n = with_path w (cond counts w.path (w.path ++ n ∷ []))

-- ---- the walk

module _ (def : Definition) (layout : Layout) (cols : ℕ) (flats : List Flat) (copies : List Copy) (counts : Bool) where
  abbrev pub mode_at : Way → Walk → Option ℕ → Mode
  mode_at (comes flat place) w o = decided_by layout cols flat w.ink (flat_in flats place) o
  mode_at (within mode) w o = mode

  abbrev pub sub_begun : Mode → Option ℕ → ℕ → Bool → Walk → Walk
  sub_begun mode o k bracketed w =
      with_ink w
      (ink_row (ink_child layout mode o k bracketed (flat_in flats w.place) w.ink) (opening bracketed))

  abbrev pub sub_ended : Bool → Walk → Walk
  sub_ended bracketed w = with_ink w (ink_row w.ink (closing bracketed))

  abbrev pub words_after : Mode → Fragment → Walk → Walk
  words_after mode f w =
      with_ink w
      (ink_words layout mode (top_operator f) (next_number def layout cols f + 1) (behind_first (left def f)) w.ink)

  abbrev pub leaf_put : Mode → Option ℕ → ℕ → List ℕ → Walk → Walk
  leaf_put mode o k t w = with_ink w (ink_token (ink_at layout mode o k w.ink) t)

  -- what is copied of a node of an operator that is next
  abbrev pub copy_of : Bool → Walk → Option ℕ → Option Copy
  copy_of flat w o = chosen (is_copied layout cols flat w.ink (flat_in flats w.place) o) (slice_get copies w.place)

  -- the node that is next is copied, or the walk over it is the other one
  abbrev pub node_or : Bool → Walk → Fragment → Walk → Walk
  node_or flat w t v = or_copied (copy_of flat w (top_operator t)) (gap_bytes (flat_in flats w.place).lead) w v

  -- the walk over what a node is made of; the first element of a list has the number n
  abbrev pub below : Way → ℕ → Walk → Fragment → Walk
  below way n w (hole p) = with_ink w (ink_row w.ink (row def (hole p)))
  below way n w (ending l u) = with_ink w (ink_row w.ink (row def (ending l u)))
  below way n w (cell l e r) =
      let own : Walk = stepped counts w n in
      let node : Walk =
      with_path (node_or (comes_flat way) own e
      (closed (length w.nodes) w.place w.ink.first (below (comes (comes_flat way) w.place) 0 (opened own) e))) w.path in
      below way (n + 1) (with_ink node (ink_row node.ink (between def l r))) r
  below way n w (operator o) =
      with_ink w
      (ink_words layout (mode_at way w (Some o)) (Some o) 0 (items_in (operator_at def o)) w.ink)
  below way n w (with_child f t) =
      let mode : Mode = mode_at way w (top_operator f) in
      let front : Walk = below (within mode) n w f in
      let begun : Walk =
      sub_begun mode (top_operator f) (next_number def layout cols f) (is_bracketed def f t) front in
      let own : Walk = stepped counts begun (length (children_of f)) in
      let node : Walk =
      with_path (node_or (is_flat mode) own t
      (closed (length begun.nodes) begun.place begun.ink.first
      (below (comes (is_flat mode) begun.place) 0 (opened own) t))) begun.path in
      words_after mode f (sub_ended (is_bracketed def f t) node)
  below way n w (with_name f x) =
      let mode : Mode = mode_at way w (top_operator f) in
      words_after mode f
      (leaf_put mode (top_operator f) (next_number def layout cols f) x (below (within mode) n w f))
  below way n w (with_number f x) =
      let mode : Mode = mode_at way w (top_operator f) in
      words_after mode f
      (leaf_put mode (top_operator f) (next_number def layout cols f) (decimal x) (below (within mode) n w f))
  below way n w (with_text f x) =
      let mode : Mode = mode_at way w (top_operator f) in
      words_after mode f
      (leaf_put mode (top_operator f) (next_number def layout cols f) (quoted x) (below (within mode) n w f))
  below way n w anything = w
  below way n w (observed f) = below way n w f

  -- the walk over a node that is not copied, over one that is next, and over the child of a number
  abbrev pub met_walk : Bool → Walk → Fragment → Walk
  met_walk flat w t = closed (length w.nodes) w.place w.ink.first (below (comes flat w.place) 0 (opened w) t)

  abbrev pub node_walk : Bool → Walk → Fragment → Walk
  node_walk flat w t = node_or flat w t (met_walk flat w t)

  abbrev pub child_walk : Bool → ℕ → Walk → Fragment → Walk
  child_walk flat n w t = with_path (node_walk flat (stepped counts w n) t) w.path

  -- the walk over the next part of an operator
  abbrev pub part_walk : Mode → ℕ → Next → Part → Walk → Walk
  part_walk mode o next (Sub t) w =
      let bracketed : Bool = is_below def t next.wanted in
      sub_ended bracketed
      (child_walk (is_flat mode) next.child (sub_begun mode (Some o) next.item bracketed w) t)
  part_walk mode o next (Name x) w = leaf_put mode (Some o) next.item x w
  part_walk mode o next (Number x) w = leaf_put mode (Some o) next.item (decimal x) w
  part_walk mode o next (Text x) w = leaf_put mode (Some o) next.item (quoted x) w

-- ---- the program

-- the arranger has made the walk
pub record IsWalk (a : Arranger) (w : Walk) : Type 0 where
  pub ink : IsInk a.sheet w.ink
  pub path : a.path.items ≡ w.path
  pub nodes : a.nodes.items ≡ w.nodes
  pub place : a.place ≡ w.place

-- what the walk goes by that the program does not have as such: the layout, and the nodes of the plain text
pub record Known : Type 0 where
  pub layout : Layout
  pub copies : List Copy

-- The node is listed for the plain text, where its tokens are these.
pub record IsCopy (text : List ℕ) (tokens : List Extent) (n : Node) (c : Copy) : Type 0 where
  pub in_order : n.span.start ≤ n.span.end
  pub starts : IsCharBoundary text n.span.start
  pub ends : IsCharBoundary text n.span.end
  pub bytes : slice_range text n.span.start n.span.end ≡ own_text c.puts
  pub within : n.before + n.own ≤ length tokens
  pub extents_are : slice_range tokens n.before (n.before + n.own) ≡ extents n.span.start (after_gap [] c.puts)
  pub width : (w : ℕ) → n.flat.width ≡ Some w → (has_feed (own_chars c.puts) ≡ false) × (columns (own_chars c.puts) ≡ w)
  pub head : (h : ℕ) → n.flat.head ≡ Some h → (rest : List ℕ) × (own_chars c.puts ≡ h ∷ rest)
  pub after : n.after ≡ marks_of c.after
  pub count : n.count ≡ c.count
  pub valid : AreUtf8 c.puts

module _ (plan : Plan) where
  abbrev pub flats_by : List Flat
  flats_by = flats_of plan.plain.now

  -- the layout is that of the rules, and the nodes of the plain text are these
  pub record IsKnown (k : Known) : Type 0 where
    pub rules : AreRulesOf k.layout plan.rules.now
    pub none : (i : ℕ) → slice_get plan.plain.now i ≡ None → slice_get k.copies i ≡ None
    pub some : (i : ℕ) (n : Node) → slice_get plan.plain.now i ≡ Some n
        → (c : Copy) × (slice_get k.copies i ≡ Some c) × IsCopy plan.text.now plan.tokens.now n c

  -- these are the tokens of the node at the place in the plain text
  pub record IsOwnAt (place : ℕ) (own : Own) (k : Known) : Type 0 where
    pub copy : Copy
    pub found : slice_get k.copies place ≡ Some copy
    pub own_is : IsOwn own copy
    pub lead_is : own.lead ≡ (flat_in flats_by place).lead
    pub one_line : is_own (flat_in flats_by place) ≡ true

  -- what was found of that node: nothing, only where it is not copied
  abbrev pub FindsOwn : ℕ → Option Own → Type 0
  FindsOwn place None = (k : Known) → IsKnown k → (b : Bool)
      → chosen (is_own (flat_in flats_by place) && b) (slice_get k.copies place) ≡ None
  FindsOwn place (Some own) = (k : Known) → IsKnown k → IsOwnAt place own k

  abbrev pub below_by : Known → Way → ℕ → Walk → Fragment → Walk
  below_by k = below plan.definition.now k.layout plan.cols flats_by k.copies plan.counts

  abbrev pub met_by : Known → Bool → Walk → Fragment → Walk
  met_by k = met_walk plan.definition.now k.layout plan.cols flats_by k.copies plan.counts

  abbrev pub node_by : Known → Bool → Walk → Fragment → Walk
  node_by k = node_walk plan.definition.now k.layout plan.cols flats_by k.copies plan.counts

  abbrev pub child_by : Known → Bool → ℕ → Walk → Fragment → Walk
  child_by k = child_walk plan.definition.now k.layout plan.cols flats_by k.copies plan.counts

  abbrev pub part_by : Known → Mode → ℕ → Next → Part → Walk → Walk
  part_by k = part_walk plan.definition.now k.layout plan.cols flats_by k.copies plan.counts

  abbrev pub copy_by : Known → Bool → Walk → Option ℕ → Option Copy
  copy_by k = copy_of plan.definition.now k.layout plan.cols flats_by k.copies plan.counts

  -- it goes on as the walk does, by whatever is known; no node is lost
  pub record Walks (change : Known → Walk → Walk) (old new : Arranger) : Type 0 where
    pub grown : length old.nodes.items ≤ length new.nodes.items
    pub walk : (k : Known) → IsKnown k → (w : Walk) → IsWalk old w → IsWalk new (change k w)

-- the tokens of the copy were found, after this plain gap
abbrev pub HasOwn : Option Own → Copy → Gap → Type 0
HasOwn None c lead = ⊥
HasOwn (Some own) c lead = IsOwn own c × (own.lead ≡ lead)

-- nothing is copied, or the node of these tokens is
abbrev pub CopiesAs : Option Own → List ℕ → Option Copy → Type 0
CopiesAs None lead copy = copy ≡ None
CopiesAs (Some own) lead copy = (c : Copy) × (copy ≡ Some c) × IsOwn own c × (gap_bytes own.lead ≡ lead)

abbrev pub InksBy : Rules → (Layout → Ink → Ink) → Sheet → Sheet → Type 0
InksBy rules change old new =
    (layout : Layout) → AreRulesOf layout rules → (k : Ink) → IsInk old k → IsInk new (change layout k)
