-- What a walk adds to what is written, and where the first token of it begins.
use Rattle.std.proofs.Common.{◌≡◌, ℕ, ◌+◌, Bool, true, false, cond, List, [], ◌∷◌, ◌++◌, length, Option, Some, None, refl, ap, ap₂, sym, ◌∙◌, append-nil, append_assoc, length-append, arith, decimal}
use Rattle.std.specs.Option.{option_or}
use Rattle.psg_grammar.specs.declared.types.Definition.{Definition}
use Rattle.psg_grammar.specs.declared.types.Item.{Item}
use Rattle.psg_grammar.specs.declared.types.Item.TheVariants as items
use Rattle.psg_grammar.specs.Fragments.{Fragment, hole, ending, cell, operator, with_child, with_name, with_number, with_text, anything, observed, children_of, top_operator}
use Rattle.psg_grammar.specs.Lookups.{operator_at}
use Rattle.psg_tree.specs.AbstractText.{quoted}
use Rattle.psg_unparse.specs.Rows.{Piece, token, mark, row, words, behind_first, items_in, left, is_bracketed, closing, opening, between, words_behind}
use Rattle.psg_unparse.specs.Spaced.{Put}
use Rattle.psg_layout.specs.declared.layout.Layout.{Layout}
use Rattle.psg_layout.specs.declared.sheet.Begin.{Begin}
use Rattle.psg_layout.specs.declared.nodes.Flat.{Flat}
use Rattle.psg_layout.specs.PutSpans.{tokens_in}
use Rattle.psg_layout.specs.Pages.{gap_on, with_row, with_token}
use Rattle.psg_layout.specs.Sheets.{Ink, begin_at, ink_ask, ink_mark, ink_row, ink_token}
use Rattle.psg_layout.specs.Arranged.{Mode, is_flat, is_break, at_item, next_number, with_words}
use Rattle.psg_layout.specs.Walking.{Walk, Way, comes, within, comes_flat, opened, closed, with_ink, with_path, stepped, flat_in, ink_at, ink_child, ink_words, mode_at, sub_begun, sub_ended, words_after, leaf_put, below}
use Rattle.psg_layout.proofs.GrowLaws.{tokens-append}

abbrev pub Pieces : Type 0
Pieces = List Piece

-- where the first of the added tokens begins
abbrev pub first_begin : List Put → List Put → Option Begin
first_begin puts [] = None
first_begin puts (x ∷ xs) = Some (begin_at puts x.gap x.text)

-- The pieces are added with their tokens, and the first token is kept unless one is known.
pub record Goes (pieces : Pieces) (k l : Ink) : Type 0 where
  pub before : l.page.before ≡ k.page.before ++ pieces
  pub added : List Put
  pub puts : l.page.puts ≡ k.page.puts ++ added
  pub count : length added ≡ tokens_in pieces
  pub first : l.first ≡ option_or k.first (first_begin k.page.puts added)

begins-then : (o : Option Begin) (ps a b : List Put) → option_or (option_or o (first_begin ps a)) (first_begin (ps ++ a) b) ≡ option_or o (first_begin ps (a ++ b))
begins-then (Some x) ps a b = refl
begins-then None ps [] b = ap (λ z. first_begin z b) (append-nil ps)
begins-then None ps (x ∷ a) b = refl

none_last : (o : Option Begin) → o ≡ option_or o None
none_last None = refl
none_last (Some x) = refl

pub goes_nothing : (k : Ink) → Goes [] k k
goes_nothing k = record { before = sym (append-nil k.page.before); added = []; puts = sym (append-nil k.page.puts); count = refl; first = none_last k.first }

pub goes_then : (r s : Pieces) (k l m : Ink) → Goes r k l → Goes s l m → Goes (r ++ s) k m
goes_then r s k l m a b = record {
  before = b.before ∙ ap (λ z. z ++ s) a.before ∙ append_assoc k.page.before r s;
  added = a.added ++ b.added;
  puts = b.puts ∙ ap (λ z. z ++ b.added) a.puts ∙ append_assoc k.page.puts a.added b.added;
  count = let e = length-append a.added b.added in let t = tokens-append r s in let x = a.count in let y = b.count in omega (arith, e, t, x, y);
  first =
      b.first ∙ ap₂ (λ f ps. option_or f (first_begin ps b.added)) a.first a.puts
      ∙ begins-then k.first k.page.puts a.added b.added;
}

pub goes_token : (k : Ink) (t : List ℕ) → Goes (token t ∷ []) k (ink_token k t)
goes_token k t = record { before = refl; added = record { gap = gap_on k.page t; text = t } ∷ []; puts = refl; count = refl; first = refl }

pub goes_mark : (k : Ink) (i : Item) → Goes (mark i ∷ []) k (ink_mark k i)
goes_mark k i = record { before = refl; added = []; puts = sym (append-nil k.page.puts); count = refl; first = none_last k.first }

pub goes_row : (r : Pieces) (k : Ink) → Goes r k (ink_row k r)
goes_row [] k = goes_nothing k
goes_row (token t ∷ r) k = goes_then (token t ∷ []) r k (ink_token k t) (ink_row (ink_token k t) r) (goes_token k t) (goes_row r (ink_token k t))
goes_row (mark i ∷ r) k = goes_then (mark i ∷ []) r k (ink_mark k i) (ink_row (ink_mark k i) r) (goes_mark k i) (goes_row r (ink_mark k i))

goes_ask : (mode : Mode) (k : Ink) → Goes [] k (ink_ask mode k)
goes_ask mode k = record { before = sym (append-nil k.page.before); added = []; puts = sym (append-nil k.page.puts); count = refl; first = none_last k.first }

goes_cond : (b : Bool) (r : Pieces) (k l m : Ink) → Goes r k l → Goes r k m → Goes r k (cond b l m)
goes_cond true r k l m x y = x
goes_cond false r k l m x y = y

module _ (layout : Layout) where
  pub goes_at : (mode : Mode) (o : Option ℕ) (n : ℕ) (k : Ink) → Goes [] k (ink_at layout mode o n k)
  goes_at mode o n k = goes_cond (is_break layout o n) [] k (ink_ask mode k) k (goes_ask mode k) (goes_nothing k)

  goes_marked : (mode : Mode) (o : Option ℕ) (n : ℕ) (i : Item) (xs : List Item) (k : Ink) → Goes (words xs) (ink_mark k i) (ink_words layout mode o n xs (ink_mark k i))
      → Goes (mark i ∷ words xs) k (ink_words layout mode o n xs (ink_mark k i))
  goes_marked mode o n i xs k a = goes_then (mark i ∷ []) (words xs) k (ink_mark k i) (ink_words layout mode o n xs (ink_mark k i)) (goes_mark k i) a

  pub goes_words : (mode : Mode) (o : Option ℕ) (n : ℕ) (xs : List Item) (k : Ink) → Goes (words xs) k (ink_words layout mode o n xs k)
  goes_words mode o n [] k = goes_nothing k
  goes_words mode o n (items.Word w ∷ xs) k =
      let q : Ink = ink_at layout mode o n k in
      let b : Goes (token w ∷ []) k (ink_token q w) = goes_then [] (token w ∷ []) k q (ink_token q w) (goes_at mode o n k) (goes_token q w) in
      goes_then (token w ∷ []) (words xs) k (ink_token q w) (ink_words layout mode o (n + 1) xs (ink_token q w)) b (goes_words mode o (n + 1) xs (ink_token q w))
  goes_words mode o n (items.Slot s ∷ xs) k = goes_nothing k
  goes_words mode o n (items.Refers s ∷ xs) k = goes_nothing k
  goes_words mode o n (items.Declares s ∷ xs) k = goes_nothing k
  goes_words mode o n (items.Number ∷ xs) k = goes_nothing k
  goes_words mode o n (items.Text ∷ xs) k = goes_nothing k
  goes_words mode o n (items.Space ∷ xs) k = goes_marked mode o n items.Space xs k (goes_words mode o n xs (ink_mark k items.Space))
  goes_words mode o n (items.Tight ∷ xs) k = goes_marked mode o n items.Tight xs k (goes_words mode o n xs (ink_mark k items.Tight))
  goes_words mode o n (items.Line ∷ xs) k = goes_marked mode o n items.Line xs k (goes_words mode o n xs (ink_mark k items.Line))
  goes_words mode o n (items.In ∷ xs) k = goes_marked mode o n items.In xs k (goes_words mode o n xs (ink_mark k items.In))
  goes_words mode o n (items.Out ∷ xs) k = goes_marked mode o n items.Out xs k (goes_words mode o n xs (ink_mark k items.Out))

  pub goes_child : (mode : Mode) (o : Option ℕ) (n : ℕ) (b : Bool) (f : Flat) (k : Ink) → Goes [] k (ink_child layout mode o n b f k)
  goes_child mode o n b f k =
      goes_cond b [] k (ink_at layout mode o n k) (cond f.some (ink_at layout mode o n k) k) (goes_at mode o n k)
      (goes_cond f.some [] k (ink_at layout mode o n k) k (goes_at mode o n k) (goes_nothing k))

-- a node is written, of which the first token is forgotten at first
pub goes_closed : (r : Pieces) (k l : Ink) → Goes r (record { page = k.page; first = None }) l → Goes r k (record { page = l.page; first = option_or k.first l.first })
goes_closed r k l a = record { before = a.before; added = a.added; puts = a.puts; count = a.count; first = ap (option_or k.first) a.first }

-- ---- pages

cond_page : (b : Bool) (k l : Ink) → (cond b k l).page ≡ cond b k.page l.page
cond_page true k l = refl
cond_page false k l = refl

pub page_row : (r : Pieces) (k : Ink) → (ink_row k r).page ≡ with_row k.page r
page_row [] k = refl
page_row (token t ∷ r) k = page_row r (ink_token k t)
page_row (mark i ∷ r) k = page_row r (ink_mark k i)

module _ (layout : Layout) where
  pub page_at : (mode : Mode) (o : Option ℕ) (n : ℕ) (k : Ink) → (ink_at layout mode o n k).page ≡ at_item layout mode o n k.page
  page_at mode o n k = cond_page (is_break layout o n) (ink_ask mode k) k

  pub page_words : (mode : Mode) (o : Option ℕ) (n : ℕ) (xs : List Item) (k : Ink) → (ink_words layout mode o n xs k).page ≡ with_words layout mode o n xs k.page
  page_words mode o n [] k = refl
  page_words mode o n (items.Word w ∷ xs) k =
      page_words mode o (n + 1) xs (ink_token (ink_at layout mode o n k) w)
      ∙ ap (λ p. with_words layout mode o (n + 1) xs (with_token p w)) (page_at mode o n k)
  page_words mode o n (items.Slot s ∷ xs) k = refl
  page_words mode o n (items.Refers s ∷ xs) k = refl
  page_words mode o n (items.Declares s ∷ xs) k = refl
  page_words mode o n (items.Number ∷ xs) k = refl
  page_words mode o n (items.Text ∷ xs) k = refl
  page_words mode o n (items.Space ∷ xs) k = page_words mode o n xs (ink_mark k items.Space)
  page_words mode o n (items.Tight ∷ xs) k = page_words mode o n xs (ink_mark k items.Tight)
  page_words mode o n (items.Line ∷ xs) k = page_words mode o n xs (ink_mark k items.Line)
  page_words mode o n (items.In ∷ xs) k = page_words mode o n xs (ink_mark k items.In)
  page_words mode o n (items.Out ∷ xs) k = page_words mode o n xs (ink_mark k items.Out)

-- ---- walks

module _ (def : Definition) (layout : Layout) (cols : ℕ) (flats : List Flat) (counts : Bool) where
  goes_behind : (mode : Mode) (f : Fragment) (w : Walk) → Goes (words_behind def f) w.ink (words_after def layout cols flats [] counts mode f w).ink
  goes_behind mode f w = goes_words layout mode (top_operator f) (next_number def layout cols f + 1) (behind_first (left def f)) w.ink

  goes_leaf : (mode : Mode) (f : Fragment) (t : List ℕ) (k : Ink) (w : Walk) → Goes (row def f) k w.ink
      → Goes (row def f ++ token t ∷ words_behind def f) k
      (words_after def layout cols flats [] counts mode f (leaf_put def layout cols flats [] counts mode (top_operator f) (next_number def layout cols f) t w)).ink
  goes_leaf mode f t k w a =
      let q : Ink = ink_at layout mode (top_operator f) (next_number def layout cols f) w.ink in
      let v : Walk = leaf_put def layout cols flats [] counts mode (top_operator f) (next_number def layout cols f) t w in
      let own : Goes (token t ∷ []) w.ink (ink_token q t) =
      goes_then [] (token t ∷ []) w.ink q (ink_token q t) (goes_at layout mode (top_operator f) (next_number def layout cols f) w.ink) (goes_token q t) in
      goes_then (row def f) (token t ∷ words_behind def f) k w.ink (words_after def layout cols flats [] counts mode f v).ink a
      (goes_then (token t ∷ []) (words_behind def f) w.ink v.ink (words_after def layout cols flats [] counts mode f v).ink own (goes_behind mode f v))

  pub goes : (f : Fragment) (way : Way) (n : ℕ) (w : Walk) → Goes (row def f) w.ink (below def layout cols flats [] counts way n w f).ink
  goes (hole p) way n w = goes_row (row def (hole p)) w.ink
  goes (ending l u) way n w = goes_row (row def (ending l u)) w.ink
  goes (cell l e r) way n w =
      let own : Walk = stepped counts w n in
      let inner : Walk = below def layout cols flats [] counts (comes (comes_flat way) w.place) 0 (opened own) e in
      let node : Walk = with_path (closed (length w.nodes) w.place w.ink.first inner) w.path in
      let after : Walk = with_ink node (ink_row node.ink (between def l r)) in
      let one : Goes (row def e) w.ink node.ink =
      goes_closed (row def e) w.ink inner.ink (goes e (comes (comes_flat way) w.place) 0 (opened own)) in
      goes_then (row def e) (between def l r ++ row def r) w.ink node.ink (below def layout cols flats [] counts way (n + 1) after r).ink one
      (goes_then (between def l r) (row def r) node.ink after.ink (below def layout cols flats [] counts way (n + 1) after r).ink
      (goes_row (between def l r) node.ink) (goes r way (n + 1) after))
  goes (operator o) way n w =
      goes_words layout (mode_at def layout cols flats [] counts way w (Some o)) (Some o) 0 (items_in (operator_at def o)) w.ink
  goes (with_child f t) way n w =
      let mode : Mode = mode_at def layout cols flats [] counts way w (top_operator f) in
      let b : Bool = is_bracketed def f t in
      let front : Walk = below def layout cols flats [] counts (within mode) n w f in
      let asked : Ink = ink_child layout mode (top_operator f) (next_number def layout cols f) b (flat_in flats front.place) front.ink in
      let begun : Walk = sub_begun def layout cols flats [] counts mode (top_operator f) (next_number def layout cols f) b front in
      let own : Walk = stepped counts begun (length (children_of f)) in
      let inner : Walk = below def layout cols flats [] counts (comes (is_flat mode) begun.place) 0 (opened own) t in
      let node : Walk = with_path (closed (length begun.nodes) begun.place begun.ink.first inner) begun.path in
      let done : Walk = sub_ended def layout cols flats [] counts b node in
      let whole : Walk = words_after def layout cols flats [] counts mode f done in
      let one : Goes (opening b) front.ink begun.ink =
      goes_then [] (opening b) front.ink asked begun.ink (goes_child layout mode (top_operator f) (next_number def layout cols f) b (flat_in flats front.place) front.ink)
      (goes_row (opening b) asked) in
      let two : Goes (row def t) begun.ink node.ink =
      goes_closed (row def t) begun.ink inner.ink (goes t (comes (is_flat mode) begun.place) 0 (opened own)) in
      let last : Goes (closing b ++ words_behind def f) node.ink whole.ink =
      goes_then (closing b) (words_behind def f) node.ink done.ink whole.ink (goes_row (closing b) node.ink) (goes_behind mode f done) in
      goes_then (row def f) (opening b ++ (row def t ++ (closing b ++ words_behind def f))) w.ink front.ink whole.ink (goes f (within mode) n w)
      (goes_then (opening b) (row def t ++ (closing b ++ words_behind def f)) front.ink begun.ink whole.ink one
      (goes_then (row def t) (closing b ++ words_behind def f) begun.ink node.ink whole.ink two last))
  goes (with_name f x) way n w =
      let mode : Mode = mode_at def layout cols flats [] counts way w (top_operator f) in
      goes_leaf mode f x w.ink (below def layout cols flats [] counts (within mode) n w f) (goes f (within mode) n w)
  goes (with_number f x) way n w =
      let mode : Mode = mode_at def layout cols flats [] counts way w (top_operator f) in
      goes_leaf mode f (decimal x) w.ink (below def layout cols flats [] counts (within mode) n w f) (goes f (within mode) n w)
  goes (with_text f x) way n w =
      let mode : Mode = mode_at def layout cols flats [] counts way w (top_operator f) in
      goes_leaf mode f (quoted x) w.ink (below def layout cols flats [] counts (within mode) n w f) (goes f (within mode) n w)
  goes anything way n w = goes_nothing w.ink
  goes (observed f) way n w = goes f way n w
