-- The nodes that a walk lists.
use Rattle.std.proofs.Common.{◌≡◌, ℕ, ◌+◌, ◌-◌, Bool, true, false, cond, List, [], ◌∷◌, ◌++◌, length, map, take, drop, Option, refl, ap, ap₂, sym, ◌∙◌, append-nil, append_assoc, length-append, arith, decimal}
use Rattle.std.specs.Prelude.{slice_set, slice_index_or}
use Rattle.std.proofs.Math.Seq.{set-append_seam, take-append_seam, drop-append_seam}
use Rattle.std.proofs.lemmas.List.{map-append}
use Rattle.psg_grammar.specs.declared.types.Definition.{Definition}
use Rattle.psg_grammar.specs.Fragments.{Fragment, hole, ending, cell, operator, with_child, with_name, with_number, with_text, anything, observed, children_of, top_operator}
use Rattle.psg_tree.specs.AbstractText.{quoted}
use Rattle.psg_unparse.specs.Rows.{token, row, left, behind_first, words_behind, is_bracketed, closing, opening, between}
use Rattle.psg_unparse.specs.Spaced.{Put, text_in}
use Rattle.psg_unparse.specs.Spots.{Spot, Placed, element_spot, rest_spot, child_spot, front_spot, leaf_spot, placed_from, placed_below}
use Rattle.psg_layout.specs.declared.layout.Layout.{Layout}
use Rattle.psg_layout.specs.declared.sheet.Begin.{Begin}
use Rattle.psg_layout.specs.declared.marks.Marks.{Marks}
use Rattle.psg_layout.specs.declared.nodes.Flat.{Flat}
use Rattle.psg_layout.specs.declared.nodes.Node.{Node}
use Rattle.psg_layout.specs.PutSpans.{tokens_in, first_gap, own_puts, span_in}
use Rattle.psg_layout.specs.Pages.{Page, chars_in}
use Rattle.psg_layout.specs.Sheets.{Ink, begin_at, ink_row, marks_of}
use Rattle.psg_layout.specs.Arranged.{Mode, is_flat, next_number}
use Rattle.psg_layout.specs.Walking.{Walk, Way, comes, within, comes_flat, begun_node, no_tokens, flat_from, ended, opened, closed, with_ink, with_path, stepped, flat_in, ink_at, ink_child, mode_at, sub_begun, sub_ended, words_after, leaf_put, below}
use Rattle.psg_layout.proofs.GrowLaws.{tokens-append}
use Rattle.psg_layout.proofs.GoesLaws.{Pieces, first_begin, Goes, goes_then, goes_token, goes_at, goes_words, goes_row, goes_child, goes_closed, goes}
use Rattle.psg_layout.proofs.WayLaws.{below-path}

-- what a node is in one line that has these tokens after the other ones
abbrev pub flat_of_puts : List Put → List Put → Flat
flat_of_puts ps [] = no_tokens
flat_of_puts ps (x ∷ xs) = flat_from (begin_at ps x.gap x.text) (chars_in (ps ++ x ∷ xs))

at_seam : (front : List Node) (s : Node) (back : List Node) (d : Node) → slice_index_or (front ++ s ∷ back) (length front) d ≡ s
at_seam [] s back d = refl
at_seam (x ∷ front) s back d = at_seam front s back d

pub take_at : (xs ys : List Put) (n : ℕ) → n ≡ length xs → take n (xs ++ ys) ≡ xs
take_at xs ys n e = ap (λ k. take k (xs ++ ys)) e ∙ take-append_seam xs ys

pub drop_at : (xs ys : List Put) (n : ℕ) → n ≡ length xs → drop n (xs ++ ys) ≡ ys
drop_at xs ys n e = ap (λ k. drop k (xs ++ ys)) e ∙ drop-append_seam xs ys

module _ (counts : Bool) (top : List ℕ) where
  -- the walk comes to a node after the row, by the path
  pub record IsMet (w : Walk) (before : Pieces) (path : List ℕ) : Type 0 where
    pub before_is : w.ink.page.before ≡ before
    pub count : length w.ink.page.puts ≡ tokens_in before
    pub path_is : w.path ≡ cond counts top path

  pub met_goes : (r : Pieces) (w v : Walk) (before : Pieces) (path : List ℕ) → IsMet w before path → Goes r w.ink v.ink → v.path ≡ w.path → IsMet v (before ++ r) path
  met_goes r w v before path m g p = record {
    before_is = g.before ∙ ap (λ z. z ++ r) m.before_is;
    count =
        let a = ap length g.puts ∙ length-append w.ink.page.puts g.added in
        let b = g.count in let c = m.count in let d = tokens-append before r in
        omega (arith, a, b, c, d);
    path_is = p ∙ m.path_is;
  }

  stepped_path : (c : Bool) (t p w : List ℕ) (k : ℕ) → w ≡ cond c t p → cond {A = List ℕ} c w (w ++ k ∷ []) ≡ cond {A = List ℕ} c t (p ++ k ∷ [])
  stepped_path true t p w k e = e
  stepped_path false t p w k e = ap (λ z. z ++ k ∷ []) e

  pub met_step : (w : Walk) (before : Pieces) (path : List ℕ) (k : ℕ) → IsMet w before path → IsMet (opened (stepped counts w k)) before (path ++ k ∷ [])
  met_step w before path k m = record { before_is = m.before_is; count = m.count; path_is = stepped_path counts top path w.path k m.path_is }

module _ (def : Definition) (counts : Bool) (final : List Put) (top : List ℕ) where
  -- the node as it is listed, where the whole text has these tokens
  abbrev pub node_in : Placed → Node
  node_in p = record {
    span = record { path = cond counts top p.spot.path; start = (span_in def final p).start; end = (span_in def final p).end };
    flat = flat_of_puts (take (tokens_in p.spot.before) final) (own_puts def final p);
    before = tokens_in p.spot.before;
    own = tokens_in (row def p.node);
    after = marks_of (p.spot.before ++ row def p.node);
    count = length (placed_from def p.spot p.node);
  }

  -- the entry of a node that has these tokens
  entry : (p : Placed) (u v : Page) (a more : List Put) (path : List ℕ) (n : ℕ) → v.puts ≡ u.puts ++ a → v.before ≡ p.spot.before ++ row def p.node
      → final ≡ u.puts ++ (a ++ more) → length u.puts ≡ tokens_in p.spot.before → length a ≡ tokens_in (row def p.node)
      → path ≡ cond counts top p.spot.path → n ≡ length (placed_from def p.spot p.node) → ended (first_begin u.puts a) v n (begun_node path u) ≡ node_in p
  entry p u v a more path n ev eb e k m q c =
      let ps : List Put = u.puts in
      let front : take (tokens_in p.spot.before) final ≡ ps = ap (take (tokens_in p.spot.before)) e ∙ take_at ps (a ++ more) (tokens_in p.spot.before) (sym k) in
      let behind : drop (tokens_in p.spot.before) final ≡ a ++ more = ap (drop (tokens_in p.spot.before)) e ∙ drop_at ps (a ++ more) (tokens_in p.spot.before) (sym k) in
      let own : own_puts def final p ≡ a = ap (take (tokens_in (row def p.node))) behind ∙ take_at a more (tokens_in (row def p.node)) (sym m) in
      let long : tokens_in p.spot.before + tokens_in (row def p.node) ≡ length (ps ++ a) = let l = length-append ps a in omega (arith, l, k, m) in
      let upto : take (tokens_in p.spot.before + tokens_in (row def p.node)) final ≡ ps ++ a =
      ap (take (tokens_in p.spot.before + tokens_in (row def p.node))) (e ∙ sym (append_assoc ps a more)) ∙ take_at (ps ++ a) more (tokens_in p.spot.before + tokens_in (row def p.node)) long in
      parts a ev
      ∙ ap (λ z. whole z (length (text_in ps) + length (first_gap a)) (length (text_in (ps ++ a))) (flat_of_puts ps a) (length ps) (length a) (marks_of v.before) n) q
      ∙ ap₂ (λ f o. whole (cond counts top p.spot.path) (length (text_in f) + length (first_gap o)) (length (text_in (ps ++ a))) (flat_of_puts f o) (length ps) (length a) (marks_of v.before) n) (sym front) (sym own)
      ∙ ap (λ z. whole (cond counts top p.spot.path) (span_in def final p).start (length (text_in z)) (flat_of_puts (take (tokens_in p.spot.before) final) (own_puts def final p)) (length ps) (length a) (marks_of v.before) n) (sym upto)
      ∙ ap₂ (λ x y. whole (cond counts top p.spot.path) (span_in def final p).start (span_in def final p).end (flat_of_puts (take (tokens_in p.spot.before) final) (own_puts def final p)) x y (marks_of v.before) n) k m
      ∙ ap₂ (λ x y. whole (cond counts top p.spot.path) (span_in def final p).start (span_in def final p).end (flat_of_puts (take (tokens_in p.spot.before) final) (own_puts def final p)) (tokens_in p.spot.before) (tokens_in (row def p.node)) (marks_of x) y) eb c
    where
      whole : List ℕ → ℕ → ℕ → Flat → ℕ → ℕ → Marks → ℕ → Node
      whole z start end flat before own after count =
          record { span = record { path = z; start = start; end = end }; flat = flat; before = before; own = own; after = after; count = count }

      longer : (b : List Put) → v.puts ≡ u.puts ++ b → length v.puts - length u.puts ≡ length b
      longer b h = let x = ap length h in let y = length-append u.puts b in omega (arith, x, y)

      parts : (b : List Put) → v.puts ≡ u.puts ++ b → ended (first_begin u.puts b) v n (begun_node path u)
          ≡ whole path (length (text_in u.puts) + length (first_gap b)) (length (text_in (u.puts ++ b))) (flat_of_puts u.puts b) (length u.puts) (length b) (marks_of v.before) n
      parts [] h =
          ap₂ (λ z o. whole path (length (text_in u.puts)) (length (text_in z)) no_tokens (length u.puts) o (marks_of v.before) n) h (longer [] h)
          ∙ ap (λ s. whole path s (length (text_in (u.puts ++ []))) no_tokens (length u.puts) 0 (marks_of v.before) n) (let z : length (text_in u.puts) ≡ length (text_in u.puts) + 0 = omega arith in z)
      parts (x ∷ xs) h =
          ap₂ (λ z o. whole path (length (text_in u.puts ++ x.gap)) (length (text_in z)) (flat_from (begin_at u.puts x.gap x.text) (chars_in z)) (length u.puts) o (marks_of v.before) n) h (longer (x ∷ xs) h)
          ∙ ap (λ s. whole path s (length (text_in (u.puts ++ x ∷ xs))) (flat_of_puts u.puts (x ∷ xs)) (length u.puts) (length (x ∷ xs)) (marks_of v.before) n) (length-append (text_in u.puts) x.gap)

  pub from-below : (s : Spot) (t : Fragment) → placed_from def s t ≡ record { spot = s; node = t } ∷ placed_below def s 0 t
  from-below s (hole p) = refl
  from-below s (ending l u) = refl
  from-below s (cell l e r) = refl
  from-below s (operator o) = refl
  from-below s (with_child f t) = refl
  from-below s (with_name f n) = refl
  from-below s (with_number f n) = refl
  from-below s (with_text f n) = refl
  from-below s anything = refl
  from-below s (observed f) = refl

  -- a node is ended
  pub closed_nodes : (own inner : Walk) (outer : Option Begin) (s : Spot) (t : Fragment) (more : List Put) → IsMet counts top (opened own) s.before s.path
      → Goes (row def t) (opened own).ink inner.ink → final ≡ inner.ink.page.puts ++ more
      → inner.place ≡ own.place + 1 + length (placed_below def s 0 t)
      → inner.nodes ≡ (opened own).nodes ++ map node_in (placed_below def s 0 t)
      → (closed (length own.nodes) own.place outer inner).nodes ≡ own.nodes ++ map node_in (placed_from def s t)
  closed_nodes own inner outer s t more m g e pl h =
      let empty : Node = begun_node own.path own.ink.page in
      let back : List Node = map node_in (placed_below def s 0 t) in
      let n : ℕ = inner.place - own.place in
      let whole : inner.nodes ≡ own.nodes ++ empty ∷ back = h ∙ append_assoc own.nodes (empty ∷ []) back in
      let d : Node = begun_node inner.path inner.ink.page in
      let read : slice_index_or inner.nodes (length own.nodes) d ≡ empty = ap (λ xs. slice_index_or xs (length own.nodes) d) whole ∙ at_seam own.nodes empty back d in
      let count : n ≡ length (placed_from def s t) = let l = ap length (from-below s t) in omega (arith, pl, l) in
      let node : ended inner.ink.first inner.ink.page n (slice_index_or inner.nodes (length own.nodes) d) ≡ node_in (record { spot = s; node = t }) =
      ap (ended inner.ink.first inner.ink.page n) read
      ∙ ap (λ f. ended f inner.ink.page n empty) g.first
      ∙ entry (record { spot = s; node = t }) own.ink.page inner.ink.page g.added more own.path n g.puts (g.before ∙ ap (λ z. z ++ row def t) m.before_is)
      (e ∙ ap (λ z. z ++ more) g.puts ∙ append_assoc own.ink.page.puts g.added more) m.count g.count m.path_is count in
      ap₂ (λ xs v. slice_set xs (length own.nodes) v) whole node
      ∙ set-append_seam own.nodes empty back (node_in (record { spot = s; node = t }))
      ∙ ap (λ ps. own.nodes ++ map node_in ps) (sym (from-below s t))

  module _ (layout : Layout) (cols : ℕ) (flats : List Flat) where
    -- how many nodes are written
    pub places : (f : Fragment) (way : Way) (n : ℕ) (w : Walk) (s : Spot) → (below def layout cols flats [] counts way n w f).place ≡ w.place + length (placed_below def s n f)
    places (hole p) way n w s = omega arith
    places (ending l u) way n w s = omega arith
    places (cell l x r) way n w s =
        let own : Walk = stepped counts w n in
        let inner : Walk = below def layout cols flats [] counts (comes (comes_flat way) w.place) 0 (opened own) x in
        let node : Walk = with_path (closed (length w.nodes) w.place w.ink.first inner) w.path in
        let after : Walk = with_ink node (ink_row node.ink (between def l r)) in
        let s1 : Spot = element_spot def s n l r in
        let s2 : Spot = rest_spot def s l x r in
        let a = places x (comes (comes_flat way) w.place) 0 (opened own) s1 in
        let b = places r way (n + 1) after s2 in
        let c = ap length (from-below s1 x) in
        let d = length-append (placed_from def s1 x) (placed_below def s2 (n + 1) r) in
        omega (arith, a, b, c, d)
    places (operator o) way n w s = omega arith
    places (with_child f t) way n w s =
        let mode : Mode = mode_at def layout cols flats [] counts way w (top_operator f) in
        let b : Bool = is_bracketed def f t in
        let front : Walk = below def layout cols flats [] counts (within mode) n w f in
        let begun : Walk = sub_begun def layout cols flats [] counts mode (top_operator f) (next_number def layout cols f) b front in
        let own : Walk = stepped counts begun (length (children_of f)) in
        let s1 : Spot = front_spot def s f t in
        let s2 : Spot = child_spot def s f t in
        let x = places f (within mode) n w s1 in
        let y = places t (comes (is_flat mode) begun.place) 0 (opened own) s2 in
        let c = ap length (from-below s2 t) in
        let d = length-append (placed_below def s1 n f) (placed_from def s2 t) in
        omega (arith, x, y, c, d)
    places (with_name f x) way n w s = places f (within (mode_at def layout cols flats [] counts way w (top_operator f))) n w (leaf_spot def s f x)
    places (with_number f x) way n w s = places f (within (mode_at def layout cols flats [] counts way w (top_operator f))) n w (leaf_spot def s f (decimal x))
    places (with_text f x) way n w s = places f (within (mode_at def layout cols flats [] counts way w (top_operator f))) n w (leaf_spot def s f (quoted x))
    places anything way n w s = omega arith
    places (observed f) way n w s = places f way n w s

    nothing_listed : (w : Walk) → w.nodes ≡ w.nodes ++ []
    nothing_listed w = sym (append-nil w.nodes)

    -- a name or literal is no node
    leaf_nodes : (f : Fragment) (t : List ℕ) (way : Way) (n : ℕ) (w : Walk) (s : Spot) (more : List Put) → IsMet counts top w s.before s.path
        → final ≡ (words_after def layout cols flats [] counts (mode_at def layout cols flats [] counts way w (top_operator f)) f
        (leaf_put def layout cols flats [] counts (mode_at def layout cols flats [] counts way w (top_operator f)) (top_operator f) (next_number def layout cols f) t
        (below def layout cols flats [] counts (within (mode_at def layout cols flats [] counts way w (top_operator f))) n w f))).ink.page.puts ++ more
        → ((later : List Put) → final ≡ (below def layout cols flats [] counts (within (mode_at def layout cols flats [] counts way w (top_operator f))) n w f).ink.page.puts ++ later
        → (below def layout cols flats [] counts (within (mode_at def layout cols flats [] counts way w (top_operator f))) n w f).nodes ≡ w.nodes ++ map node_in (placed_below def (leaf_spot def s f t) n f))
        → (below def layout cols flats [] counts (within (mode_at def layout cols flats [] counts way w (top_operator f))) n w f).nodes ≡ w.nodes ++ map node_in (placed_below def (leaf_spot def s f t) n f)
    leaf_nodes f t way n w s more m e h =
        let mode : Mode = mode_at def layout cols flats [] counts way w (top_operator f) in
        let front : Walk = below def layout cols flats [] counts (within mode) n w f in
        let put : Walk = leaf_put def layout cols flats [] counts mode (top_operator f) (next_number def layout cols f) t front in
        let whole : Walk = words_after def layout cols flats [] counts mode f put in
        let q : Ink = ink_at layout mode (top_operator f) (next_number def layout cols f) front.ink in
        let gt : Goes (token t ∷ []) front.ink put.ink =
        goes_then [] (token t ∷ []) front.ink q put.ink (goes_at layout mode (top_operator f) (next_number def layout cols f) front.ink) (goes_token q t) in
        let gw : Goes (words_behind def f) put.ink whole.ink = goes_words layout mode (top_operator f) (next_number def layout cols f + 1) (behind_first (left def f)) put.ink in
        h (gt.added ++ (gw.added ++ more))
        (e ∙ ap (λ z. z ++ more) gw.puts ∙ append_assoc put.ink.page.puts gw.added more
        ∙ ap (λ z. z ++ (gw.added ++ more)) gt.puts ∙ append_assoc front.ink.page.puts gt.added (gw.added ++ more))

    -- the nodes below the one that is walked over, which is at the spot
    pub nodes_are : (f : Fragment) (way : Way) (n : ℕ) (w : Walk) (s : Spot) (more : List Put) → IsMet counts top w s.before s.path
        → final ≡ (below def layout cols flats [] counts way n w f).ink.page.puts ++ more
        → (below def layout cols flats [] counts way n w f).nodes ≡ w.nodes ++ map node_in (placed_below def s n f)
    nodes_are (hole p) way n w s more m e = nothing_listed w
    nodes_are (ending l u) way n w s more m e = nothing_listed w
    nodes_are (cell l x r) way n w s more m e =
        let own : Walk = stepped counts w n in
        let inner : Walk = below def layout cols flats [] counts (comes (comes_flat way) w.place) 0 (opened own) x in
        let node : Walk = with_path (closed (length w.nodes) w.place w.ink.first inner) w.path in
        let after : Walk = with_ink node (ink_row node.ink (between def l r)) in
        let whole : Walk = below def layout cols flats [] counts way (n + 1) after r in
        let s1 : Spot = element_spot def s n l r in
        let s2 : Spot = rest_spot def s l x r in
        let g1 : Goes (row def x) (opened own).ink inner.ink = goes def layout cols flats counts x (comes (comes_flat way) w.place) 0 (opened own) in
        let gn : Goes (row def x) w.ink node.ink = goes_closed (row def x) w.ink inner.ink g1 in
        let gb : Goes (between def l r) node.ink after.ink = goes_row (between def l r) node.ink in
        let gr : Goes (row def r) after.ink whole.ink = goes def layout cols flats counts r way (n + 1) after in
        let left : final ≡ inner.ink.page.puts ++ (gb.added ++ (gr.added ++ more)) =
        e ∙ ap (λ z. z ++ more) gr.puts ∙ append_assoc after.ink.page.puts gr.added more
        ∙ ap (λ z. z ++ (gr.added ++ more)) gb.puts ∙ append_assoc inner.ink.page.puts gb.added (gr.added ++ more) in
        let m1 : IsMet counts top (opened own) s1.before s1.path = met_step counts top w s.before s.path n m in
        let h1 : node.nodes ≡ w.nodes ++ map node_in (placed_from def s1 x) =
        closed_nodes own inner w.ink.first s1 x (gb.added ++ (gr.added ++ more)) m1 g1 left (places x (comes (comes_flat way) w.place) 0 (opened own) s1)
        (nodes_are x (comes (comes_flat way) w.place) 0 (opened own) s1 (gb.added ++ (gr.added ++ more)) m1 left) in
        let m2 : IsMet counts top after s2.before s2.path =
        met_goes counts top (row def x ++ between def l r) w after s.before s.path m (goes_then (row def x) (between def l r) w.ink node.ink after.ink gn gb) refl in
        nodes_are r way (n + 1) after s2 more m2 e
        ∙ ap (λ z. z ++ map node_in (placed_below def s2 (n + 1) r)) h1
        ∙ append_assoc w.nodes (map node_in (placed_from def s1 x)) (map node_in (placed_below def s2 (n + 1) r))
        ∙ ap (λ z. w.nodes ++ z) (sym (map-append node_in (placed_from def s1 x) (placed_below def s2 (n + 1) r)))
    nodes_are (operator o) way n w s more m e = nothing_listed w
    nodes_are (with_child f t) way n w s more m e =
        let mode : Mode = mode_at def layout cols flats [] counts way w (top_operator f) in
        let b : Bool = is_bracketed def f t in
        let k : ℕ = length (children_of f) in
        let front : Walk = below def layout cols flats [] counts (within mode) n w f in
        let begun : Walk = sub_begun def layout cols flats [] counts mode (top_operator f) (next_number def layout cols f) b front in
        let asked : Ink = ink_child layout mode (top_operator f) (next_number def layout cols f) b (flat_in flats front.place) front.ink in
        let own : Walk = stepped counts begun k in
        let inner : Walk = below def layout cols flats [] counts (comes (is_flat mode) begun.place) 0 (opened own) t in
        let node : Walk = with_path (closed (length begun.nodes) begun.place begun.ink.first inner) begun.path in
        let done : Walk = sub_ended def layout cols flats [] counts b node in
        let whole : Walk = words_after def layout cols flats [] counts mode f done in
        let s1 : Spot = front_spot def s f t in
        let s2 : Spot = child_spot def s f t in
        let gf : Goes (row def f) w.ink front.ink = goes def layout cols flats counts f (within mode) n w in
        let go : Goes (opening b) front.ink begun.ink =
        goes_then [] (opening b) front.ink asked begun.ink (goes_child layout mode (top_operator f) (next_number def layout cols f) b (flat_in flats front.place) front.ink)
        (goes_row (opening b) asked) in
        let g1 : Goes (row def t) (opened own).ink inner.ink = goes def layout cols flats counts t (comes (is_flat mode) begun.place) 0 (opened own) in
        let gc : Goes (closing b) node.ink done.ink = goes_row (closing b) node.ink in
        let gw : Goes (words_behind def f) done.ink whole.ink = goes_words layout mode (top_operator f) (next_number def layout cols f + 1) (behind_first (left def f)) done.ink in
        let left_ : final ≡ inner.ink.page.puts ++ (gc.added ++ (gw.added ++ more)) =
        e ∙ ap (λ z. z ++ more) gw.puts ∙ append_assoc done.ink.page.puts gw.added more
        ∙ ap (λ z. z ++ (gw.added ++ more)) gc.puts ∙ append_assoc inner.ink.page.puts gc.added (gw.added ++ more) in
        let before : final ≡ front.ink.page.puts ++ (go.added ++ (g1.added ++ (gc.added ++ (gw.added ++ more)))) =
        left_ ∙ ap (λ z. z ++ (gc.added ++ (gw.added ++ more))) g1.puts ∙ append_assoc begun.ink.page.puts g1.added (gc.added ++ (gw.added ++ more))
        ∙ ap (λ z. z ++ (g1.added ++ (gc.added ++ (gw.added ++ more)))) go.puts ∙ append_assoc front.ink.page.puts go.added (g1.added ++ (gc.added ++ (gw.added ++ more))) in
        let h0 : front.nodes ≡ w.nodes ++ map node_in (placed_below def s1 n f) =
        nodes_are f (within mode) n w s1 (go.added ++ (g1.added ++ (gc.added ++ (gw.added ++ more)))) m before in
        let mb : IsMet counts top begun s2.before s.path =
        met_goes counts top (row def f ++ opening b) w begun s.before s.path m (goes_then (row def f) (opening b) w.ink front.ink begun.ink gf go) (below-path def layout cols flats [] counts (within mode) n w f) in
        let m1 : IsMet counts top (opened own) s2.before s2.path = met_step counts top begun s2.before s.path k mb in
        let h1 : node.nodes ≡ begun.nodes ++ map node_in (placed_from def s2 t) =
        closed_nodes own inner begun.ink.first s2 t (gc.added ++ (gw.added ++ more)) m1 g1 left_ (places t (comes (is_flat mode) begun.place) 0 (opened own) s2)
        (nodes_are t (comes (is_flat mode) begun.place) 0 (opened own) s2 (gc.added ++ (gw.added ++ more)) m1 left_) in
        h1 ∙ ap (λ z. z ++ map node_in (placed_from def s2 t)) h0
        ∙ append_assoc w.nodes (map node_in (placed_below def s1 n f)) (map node_in (placed_from def s2 t))
        ∙ ap (λ z. w.nodes ++ z) (sym (map-append node_in (placed_below def s1 n f) (placed_from def s2 t)))
    nodes_are (with_name f x) way n w s more m e =
        leaf_nodes f x way n w s more m e (λ later h. nodes_are f (within (mode_at def layout cols flats [] counts way w (top_operator f))) n w (leaf_spot def s f x) later m h)
    nodes_are (with_number f x) way n w s more m e =
        leaf_nodes f (decimal x) way n w s more m e (λ later h. nodes_are f (within (mode_at def layout cols flats [] counts way w (top_operator f))) n w (leaf_spot def s f (decimal x)) later m h)
    nodes_are (with_text f x) way n w s more m e =
        leaf_nodes f (quoted x) way n w s more m e (λ later h. nodes_are f (within (mode_at def layout cols flats [] counts way w (top_operator f))) n w (leaf_spot def s f (quoted x)) later m h)
    nodes_are anything way n w s more m e = nothing_listed w
    nodes_are (observed f) way n w s more m e = nodes_are f way n w s more m e
