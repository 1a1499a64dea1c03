-- Where nothing breaks, the tokens have the gaps of the plain text.
use Rattle.std.proofs.Common.{◌≡◌, ◌⊎◌, inl, inr, ℕ, ◌+◌, ◌||◌, Bool, true, false, cond, List, [], ◌∷◌, ◌++◌, length, Option, Some, None, sym, ap, ap₂, ◌∙◌, subst, refl, append-nil, append_assoc, decimal, map, take, drop, arith}
use Rattle.std.specs.Str.{chars}
use Rattle.std.specs.List.{AllByRecursion}
use Rattle.std.specs.Option.{option_or}
use Rattle.psg_grammar.specs.declared.types.Item.{Item}
use Rattle.psg_grammar.specs.declared.types.Item.TheVariants as items
use Rattle.psg_grammar.specs.declared.types.Definition.{Definition}
use Rattle.psg_grammar.specs.Fragments.{Fragment, hole, ending, cell, operator, with_child, with_name, with_number, with_text, anything, observed, top_operator}
use Rattle.psg_grammar.specs.Lookups.{operator_at}
use Rattle.psg_tree.specs.AbstractText.{quoted}
use Rattle.psg_unparse.specs.Rows.{Piece, token, mark, row, left, behind_first, items_in, opening, closing, between, is_bracketed}
use Rattle.psg_unparse.specs.Layout.{gap, gap_after, laid, last_in, lead}
use Rattle.psg_unparse.specs.Spaced.{Put, text_in}
use Rattle.psg_unparse.specs.Spans.{span_of, printed_of}
use Rattle.psg_unparse.specs.Spots.{Placed, placed_in}
use Rattle.psg_unparse.proofs.Rows.{cut_in}
use Rattle.psg_layout.specs.declared.layout.Layout.{Layout}
use Rattle.psg_layout.specs.PutSpans.{tokens_in, first_gap, span_in}
use Rattle.psg_layout.specs.Pages.{Page, new_page, gap_by, gap_on, with_mark, with_token, with_row, with_break, has_tokens}
use Rattle.psg_layout.specs.Arranged.{How, met, inside, Mode, is_flat, met_in, at_item, is_break, with_words, decided, next_number, at_next, at_child, with_words_behind, with_leaf, arranged, arranged_puts, arranged_in}
use Rattle.psg_layout.proofs.GrowLaws.{grows, tokens-append}

abbrev Pieces : Type 0
Pieces = List Piece

-- ---- tokens with plain gaps

-- the tokens of a row after another one, with the gaps of the plain text
abbrev pub plain_puts : Pieces → Pieces → List Put
plain_puts before [] = []
plain_puts before (token t ∷ rest) = record { gap = gap before t; text = t } ∷ plain_puts (before ++ token t ∷ []) rest
plain_puts before (mark i ∷ rest) = plain_puts (before ++ mark i ∷ []) rest

pub plain_puts-append : (before a b : Pieces) → plain_puts before (a ++ b) ≡ plain_puts before a ++ plain_puts (before ++ a) b
plain_puts-append before [] b = ap (λ x. plain_puts x b) (sym (append-nil before))
plain_puts-append before (token t ∷ a) b =
    ap (λ z. record { gap = gap before t; text = t } ∷ z)
    (plain_puts-append (before ++ token t ∷ []) a b
    ∙ ap (λ x. plain_puts (before ++ token t ∷ []) a ++ plain_puts x b) (append_assoc before (token t ∷ []) a))
plain_puts-append before (mark i ∷ a) b =
    plain_puts-append (before ++ mark i ∷ []) a b
    ∙ ap (λ x. plain_puts (before ++ mark i ∷ []) a ++ plain_puts x b) (append_assoc before (mark i ∷ []) a)

pub text_plain : (before r : Pieces) → text_in (plain_puts before r) ≡ laid before r
text_plain before [] = refl
text_plain before (token t ∷ r) = ap (λ z. gap before t ++ (t ++ z)) (text_plain (before ++ token t ∷ []) r)
text_plain before (mark i ∷ r) = text_plain (before ++ mark i ∷ []) r

pub count_plain : (before r : Pieces) → length (plain_puts before r) ≡ tokens_in r
count_plain before [] = refl
count_plain before (token t ∷ r) = let h = count_plain (before ++ token t ∷ []) r in omega (arith, h)
count_plain before (mark i ∷ r) = count_plain (before ++ mark i ∷ []) r

pub text-append : (ps qs : List Put) → text_in (ps ++ qs) ≡ text_in ps ++ text_in qs
text-append [] qs = refl
text-append (p ∷ ps) qs =
    ap (λ z. p.gap ++ (p.text ++ z)) (text-append ps qs)
    ∙ ap (λ z. p.gap ++ z) (sym (append_assoc p.text (text_in ps) (text_in qs)))
    ∙ sym (append_assoc p.gap (p.text ++ text_in ps) (text_in qs))

-- the gap in front of the first token of a row that more follows
pub lead_plain : (before r behind : Pieces) → first_gap (take (tokens_in r) (plain_puts before (r ++ behind))) ≡ lead before r
lead_plain before [] behind = refl
lead_plain before (token t ∷ r) behind = refl
lead_plain before (mark i ∷ r) behind = lead_plain (before ++ mark i ∷ []) r behind

-- ---- pages without breaks

-- no break is asked for, and the tokens have plain gaps
pub record IsPlainPage (p : Page) : Type 0 where
  pub broken : p.broken ≡ None
  pub puts : p.puts ≡ plain_puts [] p.before

pub plain_gap : (l : Option ℕ) (before : Pieces) (cs : List ℕ) → gap_by l None (gap_after l before cs) ≡ gap_after l before cs
plain_gap None before cs = refl
plain_gap (Some c) before cs = refl

pub plain_gap_on : (p : Page) (t : List ℕ) → IsPlainPage p → gap_on p t ≡ gap p.before t
plain_gap_on p t a =
    ap (λ z. gap_by (last_in None p.before) z (gap p.before t)) a.broken
    ∙ plain_gap (last_in None p.before) p.before (chars t)

plain_token : (p : Page) (t : List ℕ) → IsPlainPage p → IsPlainPage (with_token p t)
plain_token p t a = record {
  broken = refl;
  puts = ap₂ (λ ps g. ps ++ record { gap = g; text = t } ∷ []) a.puts (plain_gap_on p t a)
      ∙ sym (plain_puts-append [] p.before (token t ∷ []));
}

plain_mark : (p : Page) (i : Item) → IsPlainPage p → IsPlainPage (with_mark p i)
plain_mark p i a = record {
  broken = a.broken;
  puts = a.puts ∙ sym (append-nil (plain_puts [] p.before)) ∙ sym (plain_puts-append [] p.before (mark i ∷ []));
}

plain_row : (r : Pieces) (p : Page) → IsPlainPage p → IsPlainPage (with_row p r)
plain_row [] p a = a
plain_row (token t ∷ r) p a = plain_row r (with_token p t) (plain_token p t a)
plain_row (mark i ∷ r) p a = plain_row r (with_mark p i) (plain_mark p i a)

plain_choice : (b : Bool) (p : Page) (n : Option ℕ) → n ≡ None → IsPlainPage p
    → IsPlainPage (cond b (with_break p n) p)
plain_choice true p n e a = record { broken = e; puts = a.puts }
plain_choice false p n e a = a

plain_asked : (b : Bool) (p q : Page) → IsPlainPage p → IsPlainPage q → IsPlainPage (cond b q p)
plain_asked true p q a z = z
plain_asked false p q a z = a

module _ (layout : Layout) where
  -- there are no breaks, or the mode has none
  abbrev pub IsQuiet : Mode → Type 0
  IsQuiet mode = (layout.breaks ≡ []) ⊎ (mode ≡ None)

  abbrev pub IsQuietHow : How → Type 0
  IsQuietHow (met flat) = (layout.breaks ≡ []) ⊎ (flat ≡ true)
  IsQuietHow (inside mode) = IsQuiet mode

  quiet_child : (mode : Mode) → IsQuiet mode → IsQuietHow (met (is_flat mode))
  quiet_child mode (inl e) = inl e
  quiet_child mode (inr e) = inr (ap is_flat e)

  quiet_met : (how : How) → IsQuietHow how → IsQuietHow (met_in how)
  quiet_met (met flat) h = h
  quiet_met (inside mode) h = quiet_child mode h

  never : (breaks : List (ℕ × ℕ)) (groups : List ℕ) (o : Option ℕ) (k : ℕ) → breaks ≡ [] → is_break (record { groups = groups; breaks = breaks }) o k ≡ false
  never breaks groups None k e = refl
  never breaks groups (Some o) k e = ap (λ bs. is_break (record { groups = groups; breaks = bs }) (Some o) k) e

  plain_item : (mode : Mode) (o : Option ℕ) (k : ℕ) (p : Page) → IsQuiet mode → IsPlainPage p → IsPlainPage (at_item layout mode o k p)
  plain_item mode o k p (inl e) a =
      subst (λ b. IsPlainPage (cond b (with_break p (option_or mode p.broken)) p)) (sym (never layout.breaks layout.groups o k e)) a
  plain_item mode o k p (inr e) a =
      plain_choice (is_break layout o k) p (option_or mode p.broken) (ap (λ m. option_or m p.broken) e ∙ a.broken) a

  plain_words : (mode : Mode) (o : Option ℕ) (k : ℕ) (xs : List Item) (p : Page) → IsQuiet mode → IsPlainPage p
      → IsPlainPage (with_words layout mode o k xs p)
  plain_words mode o k [] p h a = a
  plain_words mode o k (items.Word w ∷ xs) p h a =
      plain_words mode o (k + 1) xs (with_token (at_item layout mode o k p) w) h (plain_token (at_item layout mode o k p) w (plain_item mode o k p h a))
  plain_words mode o k (items.Slot kind ∷ xs) p h a = a
  plain_words mode o k (items.Refers s ∷ xs) p h a = a
  plain_words mode o k (items.Declares s ∷ xs) p h a = a
  plain_words mode o k (items.Number ∷ xs) p h a = a
  plain_words mode o k (items.Text ∷ xs) p h a = a
  plain_words mode o k (items.Space ∷ xs) p h a = plain_words mode o k xs (with_mark p items.Space) h (plain_mark p items.Space a)
  plain_words mode o k (items.Tight ∷ xs) p h a = plain_words mode o k xs (with_mark p items.Tight) h (plain_mark p items.Tight a)
  plain_words mode o k (items.Line ∷ xs) p h a = plain_words mode o k xs (with_mark p items.Line) h (plain_mark p items.Line a)
  plain_words mode o k (items.In ∷ xs) p h a = plain_words mode o k xs (with_mark p items.In) h (plain_mark p items.In a)
  plain_words mode o k (items.Out ∷ xs) p h a = plain_words mode o k xs (with_mark p items.Out) h (plain_mark p items.Out a)

module _ (def : Definition) (layout : Layout) (cols : ℕ) where
  pub quiet_mode : (how : How) (p : Page) (f : Fragment) → IsQuietHow layout how → IsQuiet layout (decided def layout cols how p f)
  quiet_mode (met flat) p f (inl e) = inl e
  quiet_mode (met true) p f (inr e) = inr refl
  quiet_mode (met false) p f (inr e) = absurd (cc)
  quiet_mode (inside mode) p f h = h

  plain_behind : (mode : Mode) (f : Fragment) (p : Page) → IsQuiet layout mode → IsPlainPage p → IsPlainPage (with_words_behind def layout cols mode f p)
  plain_behind mode f p h a = plain_words layout mode (top_operator f) (next_number def layout cols f + 1) (behind_first (left def f)) p h a

  plain_next : (mode : Mode) (f : Fragment) (p : Page) → IsQuiet layout mode → IsPlainPage p → IsPlainPage (at_next def layout cols mode f p)
  plain_next mode f p h a = plain_item layout mode (top_operator f) (next_number def layout cols f) p h a

  plain_leaf : (mode : Mode) (f : Fragment) (t : List ℕ) (p : Page) → IsQuiet layout mode → IsPlainPage p
      → IsPlainPage (with_leaf def layout cols mode f t p)
  plain_leaf mode f t p h a =
      plain_behind mode f (with_token (at_next def layout cols mode f p) t) h (plain_token (at_next def layout cols mode f p) t (plain_next mode f p h a))

  -- once a tree is written, in which nothing breaks
  pub plain_page : (f : Fragment) (how : How) (p : Page) → IsQuietHow layout how → IsPlainPage p → IsPlainPage (arranged def layout cols how p f)
  plain_page (hole h) how p q a = plain_row (row def (hole h)) p a
  plain_page (ending l u) how p q a = plain_row (row def (ending l u)) p a
  plain_page (cell l e r) how p q a =
      plain_page r how (with_row (arranged def layout cols (met_in how) p e) (between def l r)) q
      (plain_row (between def l r) (arranged def layout cols (met_in how) p e) (plain_page e (met_in how) p (quiet_met layout how q) a))
  plain_page (operator o) how p q a =
      plain_words layout (decided def layout cols how p (operator o)) (Some o) 0 (items_in (operator_at def o)) p (quiet_mode how p (operator o) q) a
  plain_page (with_child f t) how p q a =
      let mode : Mode = decided def layout cols how p (with_child f t) in
      let m : IsQuiet layout mode = quiet_mode how p (with_child f t) q in
      let b : Bool = is_bracketed def f t in
      let front : Page = arranged def layout cols (inside mode) p f in
      let asked : Page = at_child def layout cols mode f t front in
      let begun : Page = with_row asked (opening b) in
      let node : Page = arranged def layout cols (met (is_flat mode)) begun t in
      let made : Page = with_row node (closing b) in
      let x : IsPlainPage front = plain_page f (inside mode) p m a in
      let z : IsPlainPage asked = plain_asked (b || has_tokens (row def t)) front (at_next def layout cols mode f front) x (plain_next mode f front m x) in
      plain_behind mode f made m
      (plain_row (closing b) node (plain_page t (met (is_flat mode)) begun (quiet_child layout mode m) (plain_row (opening b) asked z)))
  plain_page (with_name f n) how p q a =
      let mode : Mode = decided def layout cols how p (with_name f n) in
      let m : IsQuiet layout mode = quiet_mode how p (with_name f n) q in
      plain_leaf mode f n (arranged def layout cols (inside mode) p f) m (plain_page f (inside mode) p m a)
  plain_page (with_number f n) how p q a =
      let mode : Mode = decided def layout cols how p (with_number f n) in
      let m : IsQuiet layout mode = quiet_mode how p (with_number f n) q in
      plain_leaf mode f (decimal n) (arranged def layout cols (inside mode) p f) m (plain_page f (inside mode) p m a)
  plain_page (with_text f t) how p q a =
      let mode : Mode = decided def layout cols how p (with_text f t) in
      let m : IsQuiet layout mode = quiet_mode how p (with_text f t) q in
      plain_leaf mode f (quoted t) (arranged def layout cols (inside mode) p f) m (plain_page f (inside mode) p m a)
  plain_page anything how p q a = a
  plain_page (observed f) how p q a = plain_page f how p q a

-- ---- without breaks

take_front : (xs ys : List Put) (n : ℕ) → length xs ≡ n → take n (xs ++ ys) ≡ xs
take_front xs ys n e = subst (λ k. take k (xs ++ ys) ≡ xs) e (own xs)
  where
    own : (zs : List Put) → take (length zs) (zs ++ ys) ≡ zs
    own [] = refl
    own (z ∷ zs) = ap (λ w. z ∷ w) (own zs)

drop_front : (xs ys : List Put) (n : ℕ) → length xs ≡ n → drop n (xs ++ ys) ≡ ys
drop_front xs ys n e = subst (λ k. drop k (xs ++ ys) ≡ ys) e (own xs)
  where
    own : (zs : List Put) → drop (length zs) (zs ++ ys) ≡ ys
    own [] = refl
    own (z ∷ zs) = own zs

module _ (def : Definition) (whole : Pieces) where
  -- the span of a node at which the row is cut
  span_plain : (p : Placed) → p.spot.before ++ (row def p.node ++ p.spot.behind) ≡ whole
      → span_in def (plain_puts [] whole) p ≡ span_of def p
  span_plain p e =
      let before : Pieces = p.spot.before in
      let own : Pieces = row def p.node in
      let rest : Pieces = row def p.node ++ p.spot.behind in
      let split : plain_puts [] whole ≡ plain_puts [] before ++ plain_puts before rest =
      ap (plain_puts []) (sym e) ∙ plain_puts-append [] before rest in
      let further : plain_puts [] whole ≡ plain_puts [] (before ++ own) ++ plain_puts (before ++ own) p.spot.behind =
      ap (plain_puts []) (sym e ∙ sym (append_assoc before own p.spot.behind)) ∙ plain_puts-append [] (before ++ own) p.spot.behind in
      let front : take (tokens_in before) (plain_puts [] whole) ≡ plain_puts [] before =
      ap (take (tokens_in before)) split ∙ take_front (plain_puts [] before) (plain_puts before rest) (tokens_in before) (count_plain [] before) in
      let behind : drop (tokens_in before) (plain_puts [] whole) ≡ plain_puts before rest =
      ap (drop (tokens_in before)) split ∙ drop_front (plain_puts [] before) (plain_puts before rest) (tokens_in before) (count_plain [] before) in
      let upto : take (tokens_in before + tokens_in own) (plain_puts [] whole) ≡ plain_puts [] (before ++ own) =
      ap (take (tokens_in before + tokens_in own)) further
      ∙ take_front (plain_puts [] (before ++ own)) (plain_puts (before ++ own) p.spot.behind) (tokens_in before + tokens_in own)
      (count_plain [] (before ++ own) ∙ tokens-append before own) in
      let start : length (text_in (take (tokens_in before) (plain_puts [] whole))) + length (first_gap (take (tokens_in own) (drop (tokens_in before) (plain_puts [] whole))))
      ≡ length (laid [] before) + length (lead before own) =
      ap₂ (λ ps g. length (text_in ps) + length (first_gap (take (tokens_in own) g))) front behind
      ∙ ap₂ (λ t g. length t + length g) (text_plain [] before) (lead_plain before own p.spot.behind) in
      let end : length (text_in (take (tokens_in before + tokens_in own) (plain_puts [] whole))) ≡ length (laid [] (before ++ own)) =
      ap (λ ps. length (text_in ps)) upto ∙ ap length (text_plain [] (before ++ own)) in
      ap₂ (λ n m. record { path = p.spot.path; start = n; end = m }) start end

  spans_plain : (ps : List Placed) → AllByRecursion (λ (p : Placed). p.spot.before ++ (row def p.node ++ p.spot.behind) ≡ whole) ps
      → map (span_in def (plain_puts [] whole)) ps ≡ map (span_of def) ps
  spans_plain [] a = refl
  spans_plain (p ∷ ps) a = ap₂ (λ s ss. s ∷ ss) (span_plain p a.0) (spans_plain ps a.1)

module _ (def : Definition) (layout : Layout) where
  pub plain_without_breaks : layout.breaks ≡ [] → (cols : ℕ) (f : Fragment) → arranged_in def layout cols f ≡ printed_of def f
  plain_without_breaks e cols f =
      let puts : arranged_puts def layout cols f ≡ plain_puts [] (row def f) =
      (plain_page def layout cols f (met false) new_page (inl e) (record { broken = refl; puts = refl })).puts
      ∙ ap (plain_puts []) (grows def layout cols f (met false) new_page).before in
      ap₂ (λ t s. record { text = t; spans = s })
      (ap text_in puts ∙ text_plain [] (row def f))
      (ap (λ ps. map (span_in def ps) (placed_in def f)) puts ∙ spans_plain def (row def f) (placed_in def f) (cut_in def f))
