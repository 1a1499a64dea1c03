-- A tree arranged for a number of columns: groups that fit on their line are flat, and all other operators break before
-- their break items.
use Rattle.std.specs.Prelude.{ℕ, ◌+◌, ◌==◌, ◌||◌, ◌&&◌, not, nat_le, Bool, true, false, cond, List, [], ◌∷◌}
use Rattle.std.specs.Prelude.{map, Option, Some, None, decimal}
use Rattle.std.specs.List.{list_any}
use Rattle.std.specs.Option.{option_or}
use Rattle.psg_grammar.specs.declared.types.Item.{Item}
use Rattle.psg_grammar.specs.declared.types.Item.TheVariants as items
use Rattle.psg_grammar.specs.declared.types.Definition.{Definition}
use Rattle.psg_grammar.specs.Fragments.{Fragment, hole, ending, cell, operator, with_child, with_name}
use Rattle.psg_grammar.specs.Fragments.{with_number, with_text, anything, observed, top_operator}
use Rattle.psg_grammar.specs.Lookups.{operator_at}
use Rattle.psg_tree.specs.AbstractText.{quoted}
use Rattle.psg_unparse.specs.Rows.{row, left, behind_first, items_in, opening, closing, between, is_bracketed}
use Rattle.psg_unparse.specs.Spaced.{Put, text_in}
use Rattle.psg_unparse.specs.Spots.{placed_in}
use Rattle.psg_unparse.specs.declared.spans.Printed.{Printed}
use Rattle.psg_layout.specs.declared.layout.Layout.{Layout}
use Rattle.psg_layout.specs.Pages.{columns, has_feed, has_tokens, line_on, plain_chars, spaces_before}
use Rattle.psg_layout.specs.Pages.{Page, new_page, with_break, with_mark, with_row, with_token}
use Rattle.psg_layout.specs.PutSpans.{span_in}

-- ---- items

-- the item is no layout mark
abbrev pub is_counted : Item → Bool
is_counted items.Space = false
is_counted items.Tight = false
is_counted items.Line = false
is_counted items.In = false
is_counted items.Out = false
is_counted _ = true

-- how many words are in front of the first part
abbrev pub words_in : List Item → ℕ
words_in [] = 0
words_in (items.Word w ∷ rest) = words_in rest + 1
words_in (items.Slot k ∷ rest) = 0
words_in (items.Refers s ∷ rest) = 0
words_in (items.Declares s ∷ rest) = 0
words_in (items.Number ∷ rest) = 0
words_in (items.Text ∷ rest) = 0
words_in (i ∷ rest) = words_in rest

-- ---- modes

-- How a node's items are written: `None` as in the plain text, `Some n` with a line feed and n spaces in front of each
-- break item.
abbrev pub Mode : Type 0
Mode = Option ℕ

-- A node is met, inside a flat group or not; or the parts of a node are, in the mode that it has.
pub data How : Type 0 where
  met : (flat : Bool) → How
  inside : (mode : Mode) → How

-- in a flat group everything is flat
abbrev pub is_flat : Mode → Bool
is_flat None = true
is_flat (Some n) = false

-- the elements of a list are met
abbrev pub met_in : How → How
met_in (met flat) = met flat
met_in (inside mode) = met (is_flat mode)

module _ (layout : Layout) where
  abbrev pub is_group : Option ℕ → Bool
  is_group None = false
  is_group (Some o) = list_any (λ g. g == o) layout.groups

  -- the operator breaks before the item of the number
  abbrev pub is_break : Option ℕ → ℕ → Bool
  is_break None k = false
  is_break (Some o) k = list_any (λ (b : ℕ × ℕ). (b.0 == o) && (b.1 == k)) layout.breaks

  -- a break is asked for, where the operator has one before the item
  abbrev pub at_item : Mode → Option ℕ → ℕ → Page → Page
  at_item mode o k p = cond (is_break o k) (with_break p (option_or mode p.broken)) p

  -- the words and marks in front of the next part, of which the first has this number
  abbrev pub with_words : Mode → Option ℕ → ℕ → List Item → Page → Page
  with_words mode o k [] p = p
  with_words mode o k (items.Word w ∷ rest) p = with_words mode o (k + 1) rest (with_token (at_item mode o k p) w)
  with_words mode o k (items.Slot kind ∷ rest) p = p
  with_words mode o k (items.Refers s ∷ rest) p = p
  with_words mode o k (items.Declares s ∷ rest) p = p
  with_words mode o k (items.Number ∷ rest) p = p
  with_words mode o k (items.Text ∷ rest) p = p
  with_words mode o k (i ∷ rest) p = with_words mode o k rest (with_mark p i)

module _ (def : Definition) (layout : Layout) (cols : ℕ) where
  -- the plain text of the node alone fits after what is on the line
  abbrev pub fits : List ℕ → Fragment → Bool
  fits line f =
      not (has_feed (plain_chars [] (row def f)))
      && nat_le (columns line + columns (plain_chars [] (row def f))) cols

  abbrev pub mode_of : Bool → List ℕ → Fragment → Mode
  mode_of flat line f =
      cond (flat || (is_group layout (top_operator f) && fits line f)) None (Some (spaces_before line + 2))

  abbrev pub decided : How → Page → Fragment → Mode
  decided (met flat) p f = mode_of flat (line_on p (row def f)) f
  decided (inside mode) p f = mode

  -- the number of the next part of the operator at the top: of the words and parts in front of it
  abbrev pub next_number : Fragment → ℕ
  next_number (operator o) = words_in (items_in (operator_at def o))
  next_number (with_child f t) = next_number f + 1 + words_in (behind_first (left def f))
  next_number (with_name f n) = next_number f + 1 + words_in (behind_first (left def f))
  next_number (with_number f n) = next_number f + 1 + words_in (behind_first (left def f))
  next_number (with_text f t) = next_number f + 1 + words_in (behind_first (left def f))
  next_number (observed f) = next_number f
  next_number _ = 0

  -- a break is asked for, where there is one before the next part
  abbrev pub at_next : Mode → Fragment → Page → Page
  at_next mode f p = at_item layout mode (top_operator f) (next_number f) p

  -- A break before a child that prints no token breaks nothing.
  abbrev pub at_child : Mode → Fragment → Fragment → Page → Page
  at_child mode f t p = cond (is_bracketed def f t || has_tokens (row def t)) (at_next mode f p) p

  -- the words after the next part, once it is written
  abbrev pub with_words_behind : Mode → Fragment → Page → Page
  with_words_behind mode f p =
      with_words layout mode (top_operator f) (next_number f + 1) (behind_first (left def f)) p

  -- a name or literal is written as the next part
  abbrev pub with_leaf : Mode → Fragment → List ℕ → Page → Page
  with_leaf mode f t p = with_words_behind mode f (with_token (at_next mode f p) t)

  -- What is written once a tree is, from left to right. An operator without its last parts has the words up to the next
  -- part.
  abbrev pub arranged : How → Page → Fragment → Page
  arranged how p (hole h) = with_row p (row def (hole h))
  arranged how p (ending l u) = with_row p (row def (ending l u))
  arranged how p (cell l e r) = arranged how (with_row (arranged (met_in how) p e) (between def l r)) r
  arranged how p (operator o) =
      with_words layout (decided how p (operator o)) (Some o) 0 (items_in (operator_at def o)) p
  arranged how p (with_child f t) =
      let mode : Mode = decided how p (with_child f t) in
      let front : Page = arranged (inside mode) p f in
      let begun : Page = with_row (at_child mode f t front) (opening (is_bracketed def f t)) in
      with_words_behind mode f
      (with_row (arranged (met (is_flat mode)) begun t) (closing (is_bracketed def f t)))
  arranged how p (with_name f n) =
      let mode : Mode = decided how p (with_name f n) in with_leaf mode f n (arranged (inside mode) p f)
  arranged how p (with_number f n) =
      let mode : Mode = decided how p (with_number f n) in with_leaf mode f (decimal n) (arranged (inside mode) p f)
  arranged how p (with_text f t) =
      let mode : Mode = decided how p (with_text f t) in with_leaf mode f (quoted t) (arranged (inside mode) p f)
  arranged how p anything = p
  arranged how p (observed f) = arranged how p f

  -- the tokens of a tree with the gaps of its arranged text
  abbrev pub arranged_puts : Fragment → List Put
  arranged_puts f = (arranged (met false) new_page f).puts

  -- the arranged text, with the bytes of each node
  abbrev pub arranged_in : Fragment → Printed
  arranged_in f = record {
    text = text_in (arranged_puts f);
    spans = map (span_in def (arranged_puts f)) (placed_in def f);
  }
