-- What a page has more once something is written, and that its tokens are spaced.
use Rattle.std.proofs.Common.{◌≡◌, inl, inr, ℕ, zero, suc, ◌+◌, ◌*◌, ◌||◌, Bool, true, false, cond, ◌&&◌, List, [], ◌∷◌, ◌++◌, length, Option, Some, None, sym, ap, ◌∙◌, subst, refl, append-nil, append_assoc, length-append, arith, replicate, decimal}
use Rattle.std.specs.Prelude.{not}
use Rattle.std.specs.Str.{chars}
use Rattle.std.specs.List.{AllByRecursion, list_any}
use Rattle.std.specs.Option.{option_or}
use Rattle.psg_grammar.specs.declared.types.Item.{Item}
use Rattle.psg_grammar.specs.declared.types.Item.TheVariants as items
use Rattle.psg_grammar.specs.declared.types.Definition.{Definition}
use Rattle.psg_grammar.specs.Fragments.{Fragment, hole, ending, cell, operator, with_child, with_name, with_number, with_text, anything, observed, top_operator}
use Rattle.psg_grammar.specs.Lookups.{operator_at}
use Rattle.psg_tree.specs.AbstractText.{quoted}
use Rattle.psg_unparse.specs.Rows.{Piece, token, mark, row, words, left, behind_first, items_in, opening, closing, between, is_bracketed, words_behind}
use Rattle.psg_unparse.specs.Layout.{is_line, is_tight, is_space, gap_after, glues_first, last_in, last_char, marks_behind, open_behind}
use Rattle.psg_unparse.specs.Spaced.{Put, IsGapByte, IsApart, AreSpaced}
use Rattle.psg_layout.specs.declared.layout.Layout.{Layout}
use Rattle.psg_layout.specs.PutSpans.{tokens_in}
use Rattle.psg_layout.specs.Pages.{Page, new_page, broken_gap, gap_by, gap_on, with_mark, with_token, with_row, with_break, has_tokens}
use Rattle.psg_layout.specs.Arranged.{How, met, inside, Mode, is_flat, met_in, at_item, is_break, with_words, decided, next_number, at_next, at_child, with_words_behind, with_leaf, arranged, arranged_puts}

-- ---- gaps

spaces : (n : ℕ) → AllByRecursion IsGapByte (replicate n 32)
spaces zero = tt
spaces (suc n) = (inl refl, spaces n)

-- a gap of blanks that is empty only where the two do not glue
record IsGap (glued : Bool) (bs : List ℕ) : Type 0 where
  blanks : AllByRecursion IsGapByte bs
  empty : bs ≡ [] → glued ≡ false

gap_flags : (line tight glued : Bool) (n : ℕ)
    → IsGap glued (cond line (10 ∷ replicate n 32) (cond tight (cond glued (32 ∷ []) []) (32 ∷ [])))
gap_flags true tight glued n = record { blanks = (inr refl, spaces n); empty = λ e. absurd (cc) }
gap_flags false true true n = record { blanks = (inl refl, tt); empty = λ e. absurd (cc) }
gap_flags false true false n = record { blanks = tt; empty = λ e. refl }
gap_flags false false glued n = record { blanks = (inl refl, tt); empty = λ e. absurd (cc) }

plain_gap : (c : ℕ) (before : List Piece) (cs : List ℕ) → IsGap (glues_first c cs) (gap_after (Some c) before cs)
plain_gap c before cs = gap_flags (list_any is_line (marks_behind [] before))
    (list_any is_tight (marks_behind [] before) && not (list_any is_space (marks_behind [] before))) (glues_first c cs)
    (2 * open_behind 0 before)

break_or_plain : (glued : Bool) (broken : Option ℕ) (plain : List ℕ) → IsGap glued plain → IsGap glued (broken_gap broken plain)
break_or_plain glued None plain a = a
break_or_plain glued (Some n) plain a = record { blanks = (inr refl, spaces n); empty = λ e. absurd (cc) }

apart : (l : Option ℕ) (broken : Option ℕ) (before : List Piece) (t : List ℕ)
    → IsApart l t (gap_by l broken (gap_after l before (chars t)))
apart None broken before t = record { blanks = tt; apart = λ c e h. absurd (let f : None ≡ Some c = e in cc) }
apart (Some d) broken before t =
    let a : IsGap (glues_first d (chars t)) (broken_gap broken (gap_after (Some d) before (chars t))) =
    break_or_plain (glues_first d (chars t)) broken (gap_after (Some d) before (chars t)) (plain_gap d before (chars t)) in
    record {
      blanks = a.blanks;
      apart = λ c e h. let f : Some d ≡ Some c = e in let same : d ≡ c = cc in
          subst (λ z. glues_first z (chars t) ≡ false) same (a.empty h);
    }

-- ---- rows that are spaced

spaced-append : (c : Option ℕ) (r s : List Piece) (ps qs : List Put) → AreSpaced c r ps → AreSpaced (last_in c r) s qs
    → AreSpaced c (r ++ s) (ps ++ qs)
spaced-append c [] s ps qs a b = subst (λ z. AreSpaced c s (z ++ qs)) (sym a) b
spaced-append c (mark i ∷ r) s ps qs a b = spaced-append c r s ps qs a b
spaced-append c (token t ∷ r) s [] qs a b = absurd a
spaced-append c (token t ∷ r) s (p ∷ ps) qs a b =
    (a.0, a.1, spaced-append (Some (last_char 0 (chars t))) r s ps qs a.2 b)

-- the puts of the page are the tokens of the row before, spaced
abbrev pub IsRight : Page → Type 0
IsRight p = AreSpaced None p.before p.puts

right_token : (p : Page) (t : List ℕ) → IsRight p → IsRight (with_token p t)
right_token p t a =
    spaced-append None p.before (token t ∷ []) p.puts (record { gap = gap_on p t; text = t } ∷ []) a
    (refl, apart (last_in None p.before) p.broken p.before t, refl)

right_mark : (p : Page) (i : Item) → IsRight p → IsRight (with_mark p i)
right_mark p i a =
    subst (AreSpaced None (p.before ++ mark i ∷ [])) (append-nil p.puts)
    (spaced-append None p.before (mark i ∷ []) p.puts [] a refl)

-- The row before has grown by these pieces, and the tokens by theirs.
pub record Grows (pieces : List Piece) (p q : Page) : Type 0 where
  pub right : IsRight p → IsRight q
  pub before : q.before ≡ p.before ++ pieces
  pub added : List Put
  pub puts : q.puts ≡ p.puts ++ added
  pub count : length added ≡ tokens_in pieces

pub tokens-append : (r s : List Piece) → tokens_in (r ++ s) ≡ tokens_in r + tokens_in s
tokens-append [] s = omega arith
tokens-append (token t ∷ r) s = let h = tokens-append r s in omega (arith, h)
tokens-append (mark i ∷ r) s = tokens-append r s

pub same_page : (p : Page) → Grows [] p p
same_page p = record { right = λ a. a; before = sym (append-nil p.before); added = []; puts = sym (append-nil p.puts); count = refl }

pub joined : (r s : List Piece) (p q u : Page) → Grows r p q → Grows s q u → Grows (r ++ s) p u
joined r s p q u a b = record {
  right = λ h. b.right (a.right h);
  before = b.before ∙ ap (λ z. z ++ s) a.before ∙ append_assoc p.before r s;
  added = a.added ++ b.added;
  puts = b.puts ∙ ap (λ z. z ++ b.added) a.puts ∙ append_assoc p.puts a.added b.added;
  count = let e = length-append a.added b.added in let t = tokens-append r s in let x = a.count in let y = b.count in omega (arith, e, t, x, y);
}

pub grows_token : (p : Page) (t : List ℕ) → Grows (token t ∷ []) p (with_token p t)
grows_token p t = record { right = right_token p t; before = refl; added = record { gap = gap_on p t; text = t } ∷ []; puts = refl; count = refl }

pub grows_mark : (p : Page) (i : Item) → Grows (mark i ∷ []) p (with_mark p i)
grows_mark p i = record { right = right_mark p i; before = refl; added = []; puts = sym (append-nil p.puts); count = refl }

pub grows_row : (r : List Piece) (p : Page) → Grows r p (with_row p r)
grows_row [] p = same_page p
grows_row (token t ∷ r) p =
    joined (token t ∷ []) r p (with_token p t) (with_row (with_token p t) r) (grows_token p t) (grows_row r (with_token p t))
grows_row (mark i ∷ r) p =
    joined (mark i ∷ []) r p (with_mark p i) (with_row (with_mark p i) r) (grows_mark p i) (grows_row r (with_mark p i))

-- what is asked for before the next token changes neither
pub grows_choice : (b : Bool) (r : List Piece) (p q : Page) (n : Option ℕ) → Grows r p q
    → Grows r p (cond b (with_break q n) q)
grows_choice true r p q n a = record { right = a.right; before = a.before; added = a.added; puts = a.puts; count = a.count }
grows_choice false r p q n a = a

module _ (layout : Layout) where
  pub grows_item : (mode : Mode) (o : Option ℕ) (k : ℕ) (p : Page) → Grows [] p (at_item layout mode o k p)
  grows_item mode o k p = grows_choice (is_break layout o k) [] p p (option_or mode p.broken) (same_page p)

  grows_marked : (mode : Mode) (o : Option ℕ) (k : ℕ) (i : Item) (xs : List Item) (p : Page)
      → Grows (words xs) (with_mark p i) (with_words layout mode o k xs (with_mark p i))
      → Grows (mark i ∷ words xs) p (with_words layout mode o k xs (with_mark p i))
  grows_marked mode o k i xs p a =
      joined (mark i ∷ []) (words xs) p (with_mark p i) (with_words layout mode o k xs (with_mark p i)) (grows_mark p i) a

  pub grows_words : (mode : Mode) (o : Option ℕ) (k : ℕ) (xs : List Item) (p : Page)
      → Grows (words xs) p (with_words layout mode o k xs p)
  grows_words mode o k [] p = same_page p
  grows_words mode o k (items.Word w ∷ xs) p =
      let q : Page = at_item layout mode o k p in
      let b : Grows (token w ∷ []) p (with_token q w) =
      joined [] (token w ∷ []) p q (with_token q w) (grows_item mode o k p) (grows_token q w) in
      joined (token w ∷ []) (words xs) p (with_token q w) (with_words layout mode o (k + 1) xs (with_token q w)) b
      (grows_words mode o (k + 1) xs (with_token q w))
  grows_words mode o k (items.Slot kind ∷ xs) p = same_page p
  grows_words mode o k (items.Refers s ∷ xs) p = same_page p
  grows_words mode o k (items.Declares s ∷ xs) p = same_page p
  grows_words mode o k (items.Number ∷ xs) p = same_page p
  grows_words mode o k (items.Text ∷ xs) p = same_page p
  grows_words mode o k (items.Space ∷ xs) p = grows_marked mode o k items.Space xs p (grows_words mode o k xs (with_mark p items.Space))
  grows_words mode o k (items.Tight ∷ xs) p = grows_marked mode o k items.Tight xs p (grows_words mode o k xs (with_mark p items.Tight))
  grows_words mode o k (items.Line ∷ xs) p = grows_marked mode o k items.Line xs p (grows_words mode o k xs (with_mark p items.Line))
  grows_words mode o k (items.In ∷ xs) p = grows_marked mode o k items.In xs p (grows_words mode o k xs (with_mark p items.In))
  grows_words mode o k (items.Out ∷ xs) p = grows_marked mode o k items.Out xs p (grows_words mode o k xs (with_mark p items.Out))

module _ (def : Definition) (layout : Layout) (cols : ℕ) where
  pub grows_asked : (b : Bool) (p q : Page) → Grows [] p q → Grows [] p (cond b q p)
  grows_asked true p q a = a
  grows_asked false p q a = same_page p

  -- a child with its brackets
  pub grows_child : (mode : Mode) (f t : Fragment) (front node : Page)
      → Grows (row def t) (with_row (at_child def layout cols mode f t front) (opening (is_bracketed def f t))) node
      → Grows (opening (is_bracketed def f t) ++ (row def t ++ closing (is_bracketed def f t))) front
      (with_row node (closing (is_bracketed def f t)))
  grows_child mode f t front node a =
      let b : Bool = is_bracketed def f t in
      let asked : Page = at_child def layout cols mode f t front in
      let begun : Page = with_row asked (opening b) in
      let made : Page = with_row node (closing b) in
      let one : Grows (opening b) front begun =
      joined [] (opening b) front asked begun
      (grows_asked (b || has_tokens (row def t)) front (at_next def layout cols mode f front)
      (grows_item layout mode (top_operator f) (next_number def layout cols f) front))
      (grows_row (opening b) asked) in
      joined (opening b) (row def t ++ closing b) front begun made one
      (joined (row def t) (closing b) begun node made a (grows_row (closing b) node))

  grows_behind : (mode : Mode) (f : Fragment) (p : Page) → Grows (words_behind def f) p (with_words_behind def layout cols mode f p)
  grows_behind mode f p =
      grows_words layout mode (top_operator f) (next_number def layout cols f + 1) (behind_first (left def f)) p

  -- a name or literal after the parts of f, from the page on which these are written
  grows_leaf : (mode : Mode) (f : Fragment) (t : List ℕ) (p q : Page) → Grows (row def f) p q
      → Grows (row def f ++ token t ∷ words_behind def f) p (with_leaf def layout cols mode f t q)
  grows_leaf mode f t p q a =
      let u : Page = at_next def layout cols mode f q in
      let v : Page = with_token u t in
      let own : Grows (token t ∷ []) q v =
      joined [] (token t ∷ []) q u v (grows_item layout mode (top_operator f) (next_number def layout cols f) q) (grows_token u t) in
      joined (row def f) (token t ∷ words_behind def f) p q (with_words_behind def layout cols mode f v) a
      (joined (token t ∷ []) (words_behind def f) q v (with_words_behind def layout cols mode f v) own (grows_behind mode f v))

  pub grows : (f : Fragment) (how : How) (p : Page) → Grows (row def f) p (arranged def layout cols how p f)
  grows (hole h) how p = grows_row (row def (hole h)) p
  grows (ending l u) how p = grows_row (row def (ending l u)) p
  grows (cell l e r) how p =
      let q : Page = arranged def layout cols (met_in how) p e in
      let u : Page = with_row q (between def l r) in
      joined (row def e) (between def l r ++ row def r) p q (arranged def layout cols how u r) (grows e (met_in how) p)
      (joined (between def l r) (row def r) q u (arranged def layout cols how u r) (grows_row (between def l r) q)
      (grows r how u))
  grows (operator o) how p =
      grows_words layout (decided def layout cols how p (operator o)) (Some o) 0 (items_in (operator_at def o)) p
  grows (with_child f t) how p =
      let mode : Mode = decided def layout cols how p (with_child f t) in
      let b : Bool = is_bracketed def f t in
      let front : Page = arranged def layout cols (inside mode) p f in
      let begun : Page = with_row (at_child def layout cols mode f t front) (opening b) in
      let node : Page = arranged def layout cols (met (is_flat mode)) begun t in
      let done : Page = with_row node (closing b) in
      let whole : Page = with_words_behind def layout cols mode f done in
      let kept : Grows (opening b ++ (row def t ++ closing b)) front done =
      grows_child mode f t front node (grows t (met (is_flat mode)) begun) in
      let rest : Grows ((opening b ++ (row def t ++ closing b)) ++ words_behind def f) front whole =
      joined (opening b ++ (row def t ++ closing b)) (words_behind def f) front done whole kept (grows_behind mode f done) in
      let shape : (opening b ++ (row def t ++ closing b)) ++ words_behind def f
      ≡ opening b ++ (row def t ++ (closing b ++ words_behind def f)) =
      append_assoc (opening b) (row def t ++ closing b) (words_behind def f)
      ∙ ap (λ z. opening b ++ z) (append_assoc (row def t) (closing b) (words_behind def f)) in
      joined (row def f) (opening b ++ (row def t ++ (closing b ++ words_behind def f))) p front whole
      (grows f (inside mode) p) (subst (λ z. Grows z front whole) shape rest)
  grows (with_name f n) how p =
      let mode : Mode = decided def layout cols how p (with_name f n) in
      grows_leaf mode f n p (arranged def layout cols (inside mode) p f) (grows f (inside mode) p)
  grows (with_number f n) how p =
      let mode : Mode = decided def layout cols how p (with_number f n) in
      grows_leaf mode f (decimal n) p (arranged def layout cols (inside mode) p f) (grows f (inside mode) p)
  grows (with_text f t) how p =
      let mode : Mode = decided def layout cols how p (with_text f t) in
      grows_leaf mode f (quoted t) p (arranged def layout cols (inside mode) p f) (grows f (inside mode) p)
  grows anything how p = same_page p
  grows (observed f) how p = grows f how p

  -- the tokens of an arranged tree are those of its row, spaced
  pub arranged_is_spaced : (f : Fragment) → AreSpaced None (row def f) (arranged_puts def layout cols f)
  arranged_is_spaced f =
      let a : Grows (row def f) new_page (arranged def layout cols (met false) new_page f) = grows f (met false) new_page in
      subst (λ r. AreSpaced None r (arranged_puts def layout cols f)) a.before (a.right refl)
