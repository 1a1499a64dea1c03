-- What is written of a tree in a flat group is its row, and a copied node is written as its row.
use Rattle.std.proofs.Common.{◌≡◌, ℕ, ◌+◌, ◌||◌, Bool, true, false, cond, List, [], ◌∷◌, ◌++◌, length, Option, Some, None, refl, ap, ap₂, sym, ◌∙◌, append-nil, append_assoc, decimal}
use Rattle.std.proofs.lemmas.Bool.{false≢true}
use Rattle.std.specs.Str.{chars}
use Rattle.psg_grammar.specs.declared.types.Definition.{Definition}
use Rattle.psg_grammar.specs.declared.types.Item.{Item}
use Rattle.psg_grammar.specs.declared.types.Item.TheVariants as items
use Rattle.psg_grammar.specs.Fragments.{Fragment, hole, ending, cell, operator, with_child, with_name, with_number, with_text, anything, observed, top_operator}
use Rattle.psg_grammar.specs.Lookups.{operator_at}
use Rattle.psg_tree.specs.AbstractText.{quoted}
use Rattle.psg_unparse.specs.Rows.{Piece, token, mark, row, words, left, behind_first, items_in, is_bracketed, closing, opening, between, words_behind}
use Rattle.psg_unparse.specs.Layout.{gap, last_in, lead}
use Rattle.psg_unparse.specs.Spaced.{Put}
use Rattle.psg_unparse.specs.Spots.{Placed, placed_from}
use Rattle.psg_unparse.proofs.Rows.{last_in-append}
use Rattle.psg_layout.specs.declared.layout.Layout.{Layout}
use Rattle.psg_layout.specs.Pages.{Page, gap_by, gap_on, has_tokens, with_mark, with_row, with_token}
use Rattle.psg_layout.specs.Sheets.{Copy, after_gap, with_copy}
use Rattle.psg_layout.specs.Arranged.{How, met, inside, met_in, Mode, is_flat, is_break, at_item, at_next, at_child, decided, next_number, with_words, with_words_behind, with_leaf, arranged}
use Rattle.psg_layout.proofs.PlainLaws.{plain_gap, plain_puts}

abbrev Pieces : Type 0
Pieces = List Piece

either : (b : Bool) (p : Page) → cond {A = Page} b p p ≡ p
either true p = refl
either false p = refl

row-append : (r s : Pieces) (p : Page) → with_row p (r ++ s) ≡ with_row (with_row p r) s
row-append [] s p = refl
row-append (token t ∷ r) s p = row-append r s (with_token p t)
row-append (mark i ∷ r) s p = row-append r s (with_mark p i)

-- ---- without breaks

module _ (layout : Layout) where
  quiet_item : (o : Option ℕ) (k : ℕ) (p : Page) → at_item layout None o k p ≡ p
  quiet_item o k p = either (is_break layout o k) p

  quiet_words : (o : Option ℕ) (k : ℕ) (xs : List Item) (p : Page) → with_words layout None o k xs p ≡ with_row p (words xs)
  quiet_words o k [] p = refl
  quiet_words o k (items.Word w ∷ xs) p =
      ap (λ q. with_words layout None o (k + 1) xs (with_token q w)) (quiet_item o k p) ∙ quiet_words o (k + 1) xs (with_token p w)
  quiet_words o k (items.Slot kind ∷ xs) p = refl
  quiet_words o k (items.Refers s ∷ xs) p = refl
  quiet_words o k (items.Declares s ∷ xs) p = refl
  quiet_words o k (items.Number ∷ xs) p = refl
  quiet_words o k (items.Text ∷ xs) p = refl
  quiet_words o k (items.Space ∷ xs) p = quiet_words o k xs (with_mark p items.Space)
  quiet_words o k (items.Tight ∷ xs) p = quiet_words o k xs (with_mark p items.Tight)
  quiet_words o k (items.Line ∷ xs) p = quiet_words o k xs (with_mark p items.Line)
  quiet_words o k (items.In ∷ xs) p = quiet_words o k xs (with_mark p items.In)
  quiet_words o k (items.Out ∷ xs) p = quiet_words o k xs (with_mark p items.Out)

module _ (def : Definition) (layout : Layout) (cols : ℕ) where
  -- met in a flat group, or the parts of a node that is flat
  abbrev how_of : Bool → How
  how_of true = met true
  how_of false = inside None

  flat_decided : (b : Bool) (p : Page) (f : Fragment) → decided def layout cols (how_of b) p f ≡ None
  flat_decided true p f = refl
  flat_decided false p f = refl

  flat_met : (b : Bool) → met_in (how_of b) ≡ met true
  flat_met true = refl
  flat_met false = refl

  -- a child and a name or literal as the next part, in a mode
  abbrev child_in : Mode → Fragment → Fragment → Page → Page
  child_in mode f t p =
      with_words_behind def layout cols mode f
      (with_row (arranged def layout cols (met (is_flat mode)) (with_row (at_child def layout cols mode f t (arranged def layout cols (inside mode) p f)) (opening (is_bracketed def f t))) t)
      (closing (is_bracketed def f t)))

  abbrev leaf_in : Mode → Fragment → List ℕ → Page → Page
  leaf_in mode f t p = with_leaf def layout cols mode f t (arranged def layout cols (inside mode) p f)

  quiet_child : (f t : Fragment) (p : Page) → at_child def layout cols None f t p ≡ p
  quiet_child f t p =
      ap (λ q. cond {A = Page} (is_bracketed def f t || has_tokens (row def t)) q p) (quiet_item layout (top_operator f) (next_number def layout cols f) p)
      ∙ either (is_bracketed def f t || has_tokens (row def t)) p

  flat_leaf : (f : Fragment) (t : List ℕ) (p : Page) → arranged def layout cols (inside None) p f ≡ with_row p (row def f)
      → leaf_in None f t p ≡ with_row p (row def f ++ token t ∷ words_behind def f)
  flat_leaf f t p h =
      let made : Page = arranged def layout cols (inside None) p f in
      quiet_words layout (top_operator f) (next_number def layout cols f + 1) (behind_first (left def f)) (with_token (at_next def layout cols None f made) t)
      ∙ ap (λ q. with_row (with_token q t) (words_behind def f)) (quiet_item layout (top_operator f) (next_number def layout cols f) made ∙ h)
      ∙ sym (row-append (row def f) (token t ∷ words_behind def f) p)

  pub flat_row : (f : Fragment) (b : Bool) (p : Page) → arranged def layout cols (how_of b) p f ≡ with_row p (row def f)
  flat_row (hole h) b p = refl
  flat_row (ending l u) b p = refl
  flat_row (cell l e r) b p =
      ap (λ h. arranged def layout cols (how_of b) (with_row (arranged def layout cols h p e) (between def l r)) r) (flat_met b)
      ∙ ap (λ q. arranged def layout cols (how_of b) (with_row q (between def l r)) r) (flat_row e true p)
      ∙ flat_row r b (with_row (with_row p (row def e)) (between def l r))
      ∙ sym (row-append (row def e) (between def l r ++ row def r) p ∙ row-append (between def l r) (row def r) (with_row p (row def e)))
  flat_row (operator o) b p =
      ap (λ m. with_words layout m (Some o) 0 (items_in (operator_at def o)) p) (flat_decided b p (operator o))
      ∙ quiet_words layout (Some o) 0 (items_in (operator_at def o)) p
  flat_row (with_child f t) b p =
      let br : Bool = is_bracketed def f t in
      let front : Page = with_row p (row def f) in
      let begun : Page = with_row front (opening br) in
      let node : Page = with_row begun (row def t) in
      ap (λ m. child_in m f t p) (flat_decided b p (with_child f t))
      ∙ quiet_words layout (top_operator f) (next_number def layout cols f + 1) (behind_first (left def f))
      (with_row (arranged def layout cols (met true) (with_row (at_child def layout cols None f t (arranged def layout cols (inside None) p f)) (opening br)) t) (closing br))
      ∙ ap (λ q. with_row (with_row (arranged def layout cols (met true) (with_row (at_child def layout cols None f t q) (opening br)) t) (closing br)) (words_behind def f)) (flat_row f false p)
      ∙ ap (λ q. with_row (with_row (arranged def layout cols (met true) (with_row q (opening br)) t) (closing br)) (words_behind def f)) (quiet_child f t front)
      ∙ ap (λ q. with_row (with_row q (closing br)) (words_behind def f)) (flat_row t true begun)
      ∙ sym (row-append (row def f) (opening br ++ (row def t ++ (closing br ++ words_behind def f))) p
      ∙ row-append (opening br) (row def t ++ (closing br ++ words_behind def f)) front
      ∙ row-append (row def t) (closing br ++ words_behind def f) begun
      ∙ row-append (closing br) (words_behind def f) node)
  flat_row (with_name f x) b p = ap (λ m. leaf_in m f x p) (flat_decided b p (with_name f x)) ∙ flat_leaf f x p (flat_row f false p)
  flat_row (with_number f x) b p = ap (λ m. leaf_in m f (decimal x) p) (flat_decided b p (with_number f x)) ∙ flat_leaf f (decimal x) p (flat_row f false p)
  flat_row (with_text f x) b p = ap (λ m. leaf_in m f (quoted x) p) (flat_decided b p (with_text f x)) ∙ flat_leaf f (quoted x) p (flat_row f false p)
  flat_row anything b p = refl
  flat_row (observed f) b p = flat_row f b p

  -- a node of an operator that is flat once it is met
  pub met_flat : (t : Fragment) (p : Page) (o : ℕ) → top_operator t ≡ Some o → decided def layout cols (met false) p t ≡ None
      → arranged def layout cols (met false) p t ≡ with_row p (row def t)
  met_flat (hole h) p o e d = refl
  met_flat (ending l u) p o e d = refl
  met_flat (cell l x r) p o e d = absurd (cc)
  met_flat (operator q) p o e d =
      ap (λ m. with_words layout m (Some q) 0 (items_in (operator_at def q)) p) d ∙ quiet_words layout (Some q) 0 (items_in (operator_at def q)) p
  met_flat (with_child f t) p o e d = ap (λ m. child_in m f t p) d ∙ flat_row (with_child f t) false p
  met_flat (with_name f x) p o e d = ap (λ m. leaf_in m f x p) d ∙ flat_row (with_name f x) false p
  met_flat (with_number f x) p o e d = ap (λ m. leaf_in m f (decimal x) p) d ∙ flat_row (with_number f x) false p
  met_flat (with_text f x) p o e d = ap (λ m. leaf_in m f (quoted x) p) d ∙ flat_row (with_text f x) false p
  met_flat anything p o e d = refl
  met_flat (observed f) p o e d = met_flat f p o e d

-- ---- the page of a row

abbrev page_by : Pieces → List Put → Option ℕ → Page
page_by before puts broken = record { before = before; puts = puts; broken = broken }

plain_gap_here : (q : Page) (t : List ℕ) → q.broken ≡ None → gap_on q t ≡ gap q.before t
plain_gap_here q t e =
    ap (λ b. gap_by (last_in None q.before) b (gap q.before t)) e ∙ plain_gap (last_in None q.before) q.before (chars t)

quiet_row : (r : Pieces) (q : Page) → q.broken ≡ None → with_row q r ≡ page_by (q.before ++ r) (q.puts ++ plain_puts q.before r) None
quiet_row [] q e =
    ap (page_by q.before q.puts) e ∙ ap₂ (λ x y. page_by x y None) (sym (append-nil q.before)) (sym (append-nil q.puts))
quiet_row (token t ∷ r) q e =
    let next : Pieces = q.before ++ token t ∷ [] in
    quiet_row r (with_token q t) refl
    ∙ ap₂ (λ x y. page_by x y None) (append_assoc q.before (token t ∷ []) r) (append_assoc q.puts (record { gap = gap_on q t; text = t } ∷ []) (plain_puts next r))
    ∙ ap (λ g. page_by (q.before ++ token t ∷ r) (q.puts ++ record { gap = g; text = t } ∷ plain_puts next r) None) (plain_gap_here q t e)
quiet_row (mark i ∷ r) q e =
    quiet_row r (with_mark q i) e
    ∙ ap (λ x. page_by x (q.puts ++ plain_puts (q.before ++ mark i ∷ []) r) None) (append_assoc q.before (mark i ∷ []) r)

-- the page on which a row with a token is written: a break is in front of its first token
row_page : (r : Pieces) (p : Page) → has_tokens r ≡ true
    → with_row p r ≡ page_by (p.before ++ r) (p.puts ++ after_gap (gap_by (last_in None p.before) p.broken (lead p.before r)) (plain_puts p.before r)) None
row_page [] p h = absurd (false≢true h)
row_page (token t ∷ r) p h =
    quiet_row r (with_token p t) refl
    ∙ ap₂ (λ x y. page_by x y None) (append_assoc p.before (token t ∷ []) r)
    (append_assoc p.puts (record { gap = gap_on p t; text = t } ∷ []) (plain_puts (p.before ++ token t ∷ []) r))
row_page (mark i ∷ r) p h =
    let next : Pieces = p.before ++ mark i ∷ [] in
    row_page r (with_mark p i) h
    ∙ ap₂ (λ x l. page_by x (p.puts ++ after_gap (gap_by l p.broken (lead next r)) (plain_puts next r)) None)
    (append_assoc p.before (mark i ∷ []) r) (last_in-append None p.before (mark i ∷ []))

-- ---- copies

module _ (def : Definition) where
  -- the node is written so in the plain text
  pub record IsRightCopy (c : Copy) (p : Placed) : Type 0 where
    pub puts : c.puts ≡ plain_puts p.spot.before (row def p.node)
    pub after : c.after ≡ p.spot.before ++ row def p.node
    pub count : c.count ≡ length (placed_from def p.spot p.node)

  pub copy_is : (l : List ℕ) (c : Copy) (p : Placed) (q : Page) → q.before ≡ p.spot.before → IsRightCopy c p → l ≡ lead p.spot.before (row def p.node)
      → has_tokens (row def p.node) ≡ true → with_copy l c q ≡ with_row q (row def p.node)
  copy_is l c p q e h k t =
      let own : Pieces = row def p.node in
      ap₂ (λ a x. page_by a (q.puts ++ after_gap (gap_by (last_in None q.before) q.broken l) x) None)
      (h.after ∙ ap (λ b. b ++ own) (sym e)) (h.puts ∙ ap (λ b. plain_puts b own) (sym e))
      ∙ ap (λ g. page_by (q.before ++ own) (q.puts ++ after_gap (gap_by (last_in None q.before) q.broken g) (plain_puts q.before own)) None)
      (k ∙ ap (λ b. lead b own) (sym e))
      ∙ sym (row_page own q t)
