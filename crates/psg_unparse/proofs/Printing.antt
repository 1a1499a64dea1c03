-- How the rows and the spans of a tree are put together while it is written.
use Rattle.std.proofs.Common.{◌≡◌, ℕ, ◌+◌, ◌-◌, ◌≤◌, Bool, false, List, [], ◌∷◌, ◌++◌, length, map, Option, Some, None, get_or, refl, ap, ap₂, sym, subst, ◌∙◌, append_assoc, append-nil, arith, string_bytes, length-append, decimal}
use Rattle.std.specs.Option.{option_or, unwrap_or}
use Rattle.std.proofs.Math.Seq.{set-append_seam}
use Rattle.std.proofs.lemmas.List.{map-append}
use Rattle.std.specs.Prelude.{slice_index_or, slice_set}
use Rattle.psg_grammar.specs.declared.types.Operator.{Operator}
use Rattle.psg_grammar.specs.declared.types.Definition.{Definition}
use Rattle.psg_grammar.specs.declared.types.Item.{Item}
use Rattle.psg_grammar.specs.Fragments.{Fragment, hole, ending, cell, operator, with_child, with_name, with_number, with_text, anything, observed, children_of}
use Rattle.psg_grammar.specs.Levels.{least_level_of}
use Rattle.psg_grammar.specs.Lookups.{operator_at}
use Rattle.psg_grammar.specs.Paths.{Path}
use Rattle.psg_tree.specs.declared.tree.Part.{Part}
use Rattle.psg_tree.specs.declared.tree.Part.TheVariants.{Sub, Name, Number, Text}
use Rattle.psg_tree.specs.Shapes.{with_part, with_parts, list_of, height}
use Rattle.psg_tree.specs.AbstractText.{quoted}
use Rattle.psg_tree.proofs.Texts.{with_parts-push}
use Rattle.psg_unparse.specs.declared.layout.Writer.{Writer}
use Rattle.psg_unparse.specs.declared.nodes.Printer.{Printer}
use Rattle.psg_unparse.specs.declared.spans.Span.{Span}
use Rattle.psg_unparse.specs.Rows.{Piece, token, mark, row, words, words_behind, from_part, behind_first, items_in, left, wanted, wanted_of, is_bracketed, opening, closing, between}
use Rattle.psg_unparse.specs.Layout.{laid, lead}
use Rattle.psg_unparse.specs.Spans.{span_of}
use Rattle.psg_unparse.specs.Spots.{Spot, top_spot, element_spot, rest_spot, child_spot, front_spot, leaf_spot, placed_from, placed_below}
use Rattle.psg_unparse.specs.Writing.{IsWritten, Adds, first_in}
use Rattle.psg_unparse.specs.Walking.{Prints, IsWhole, IsOpened, IsClosed, count_of, level_wanted, ending_row, part_row, part_spans, span_at, spans_below, spans_from}
use Rattle.psg_unparse.proofs.Rows.{laid-append}
use Rattle.psg_unparse.proofs.Items.{operator-parts, short-from, short-behind}
use Rattle.psg_unparse.proofs.Adding.{adds-then}

abbrev Pieces : Type 0
Pieces = List Piece

abbrev Listed : Type 0
Listed = Pieces → List Span

-- ---- steps put together

pub prints-then : {p q : Pieces} {g h : Listed} {a b c : Printer} → Prints p g a b → Prints q h b c → Prints (p ++ q) (λ before. g before ++ h (before ++ p)) a c
prints-then {p} {q} {g} {h} {a} {b} {c} x y = record {
  adds = adds-then x.adds y.adds;
  path = y.path ∙ x.path;
  grown = omega (arith, x.grown, y.grown);
  spans = λ before w.
      y.spans (before ++ p) (x.adds.written before w) ∙ ap (λ z. z ++ h (before ++ p)) (x.spans before w)
      ∙ append_assoc a.spans.items (g before) (h (before ++ p));
}

-- pieces alone have no spans
pub prints-adds : {q : Pieces} (b c : Printer) → Adds q b.writer c.writer → c.path.items ≡ b.path.items → c.spans.items ≡ b.spans.items → Prints q (λ before. []) b c
prints-adds b c x p s = record { adds = x; path = p; grown = omega (arith, ap length s); spans = λ before w. s ∙ sym (append-nil b.spans.items) }

-- the same by other words
pub prints-as : {p q : Pieces} {g h : Listed} {a b : Printer} → Prints p g a b → p ≡ q → ((before : Pieces) → g before ≡ h before) → Prints q h a b
prints-as {p} {q} {g} {h} {a} {b} x e f = record {
  adds = subst (λ y. Adds y a.writer b.writer) e x.adds;
  path = x.path;
  grown = x.grown;
  spans = λ before w. x.spans before w ∙ ap (λ y. a.spans.items ++ y) (f before);
}

-- ---- the spans of the definition

module _ (def : Definition) where
  mutual
    pub map_from : (s : Spot) (f : Fragment) → map (span_of def) (placed_from def s f) ≡ spans_from def s.path f s.before
    map_from s (hole p) = refl
    map_from s (ending l u) = refl
    map_from s (cell l e r) =
        ap (λ z. span_at def s.path s.before (cell l e r) ∷ z)
        (map-append (span_of def) (placed_from def (element_spot def s 0 l r) e) (placed_below def (rest_spot def s l e r) 1 r)
        ∙ ap₂ (λ x y. x ++ y) (map_from (element_spot def s 0 l r) e) (map_below (rest_spot def s l e r) 1 r))
    map_from s (operator o) = refl
    map_from s (with_child f t) =
        ap (λ z. span_at def s.path s.before (with_child f t) ∷ z)
        (map-append (span_of def) (placed_below def (front_spot def s f t) 0 f) (placed_from def (child_spot def s f t) t)
        ∙ ap₂ (λ x y. x ++ y) (map_below (front_spot def s f t) 0 f) (map_from (child_spot def s f t) t))
    map_from s (with_name f n) = ap (λ z. span_at def s.path s.before (with_name f n) ∷ z) (map_below (leaf_spot def s f n) 0 f)
    map_from s (with_number f n) = ap (λ z. span_at def s.path s.before (with_number f n) ∷ z) (map_below (leaf_spot def s f (decimal n)) 0 f)
    map_from s (with_text f n) = ap (λ z. span_at def s.path s.before (with_text f n) ∷ z) (map_below (leaf_spot def s f (quoted n)) 0 f)
    map_from s anything = refl
    map_from s (observed f) = ap (λ z. span_at def s.path s.before (observed f) ∷ z) (map_below s 0 f)

    pub map_below : (s : Spot) (n : ℕ) (f : Fragment) → map (span_of def) (placed_below def s n f) ≡ spans_below def s.path s.before n f
    map_below s n (hole p) = refl
    map_below s n (ending l u) = refl
    map_below s n (cell l e r) =
        map-append (span_of def) (placed_from def (element_spot def s n l r) e) (placed_below def (rest_spot def s l e r) (n + 1) r)
        ∙ ap₂ (λ x y. x ++ y) (map_from (element_spot def s n l r) e) (map_below (rest_spot def s l e r) (n + 1) r)
    map_below s n (operator o) = refl
    map_below s n (with_child f t) =
        map-append (span_of def) (placed_below def (front_spot def s f t) n f) (placed_from def (child_spot def s f t) t)
        ∙ ap₂ (λ x y. x ++ y) (map_below (front_spot def s f t) n f) (map_from (child_spot def s f t) t)
    map_below s n (with_name f x) = map_below (leaf_spot def s f x) n f
    map_below s n (with_number f x) = map_below (leaf_spot def s f (decimal x)) n f
    map_below s n (with_text f x) = map_below (leaf_spot def s f (quoted x)) n f
    map_below s n anything = refl
    map_below s n (observed f) = map_below s n f

  -- ---- a part behind the parts in front of it

  pub left-part : (f : Fragment) (p : Part) → left def (with_part f p) ≡ from_part (behind_first (left def f))
  left-part f (Sub t) = refl
  left-part f (Name n) = refl
  left-part f (Number x) = refl
  left-part f (Text t) = refl

  pub count-part : (f : Fragment) (p : Part) → length (children_of (with_part f p)) ≡ length (children_of f) + count_of p
  count-part f (Sub t) = length-append (children_of f) (t ∷ [])
  count-part f (Name n) = omega arith
  count-part f (Number x) = omega arith
  count-part f (Text t) = omega arith

  -- the level that the next slot wants
  pub wanted-of : (o : Option Operator) (rest : List Item) (place : ℕ) → place ≡ length (items_in o) - length rest → level_wanted o place ≡ wanted_of o rest
  wanted-of None rest place e = refl
  wanted-of (Some o) rest place e = ap (least_level_of o) e

  row-part : (f : Fragment) (p : Part) → row def f ++ (part_row def (wanted def f) p ++ words_behind def f) ≡ row def (with_part f p)
  row-part f (Sub t) =
      ap (λ x. row def f ++ x)
      (append_assoc (opening (is_bracketed def f t)) (row def t ++ closing (is_bracketed def f t)) (words_behind def f)
      ∙ ap (λ x. opening (is_bracketed def f t) ++ x) (append_assoc (row def t) (closing (is_bracketed def f t)) (words_behind def f)))
  row-part f (Name n) = refl
  row-part f (Number x) = refl
  row-part f (Text t) = refl

  spans-part : (path : Path) (before : Pieces) (f : Fragment) (p : Part)
      → spans_below def path before 0 f ++ part_spans def (path ++ length (children_of f) ∷ []) (wanted def f) p (before ++ row def f)
      ≡ spans_below def path before 0 (with_part f p)
  spans-part path before f (Sub t) =
      ap (λ b. spans_below def path before 0 f ++ spans_from def (path ++ length (children_of f) ∷ []) t b) (append_assoc before (row def f) (opening (is_bracketed def f t)))
  spans-part path before f (Name n) = append-nil (spans_below def path before 0 f)
  spans-part path before f (Number x) = append-nil (spans_below def path before 0 f)
  spans-part path before f (Text t) = append-nil (spans_below def path before 0 f)

  -- one more part of an operator is written, and the words behind it
  pub part_printed : (path : Path) (f : Fragment) (p : Part) (number wanted_here : ℕ) (rest : List Item) (a b c d : Printer)
      → Prints (row def f) (λ before. spans_below def path before 0 f) a b → rest ≡ left def f → number ≡ length (children_of f) → wanted_here ≡ wanted def f
      → b.path.items ≡ path → Prints (part_row def wanted_here p) (part_spans def (b.path.items ++ number ∷ []) wanted_here p) b c
      → Adds (words (behind_first rest)) c.writer d.writer → d.path.items ≡ c.path.items → d.spans.items ≡ c.spans.items
      → Prints (row def (with_part f p)) (λ before. spans_below def path before 0 (with_part f p)) a d
  part_printed path f p number wanted_here rest a b c d x l n w e y z dp ds =
      let y' : Prints (part_row def (wanted def f) p) (part_spans def (path ++ length (children_of f) ∷ []) (wanted def f) p) b c =
      prints-as y (ap (λ k. part_row def k p) w) (λ before. ap₂ (λ k m. part_spans def k m p before) (ap₂ (λ k m. k ++ m ∷ []) e n) w) in
      let z' : Prints (words_behind def f) (λ before. []) c d = prints-adds c d (subst (λ k. Adds (words (behind_first k)) c.writer d.writer) l z) dp ds in
      prints-as (prints-then x (prints-then y' z')) (row-part f p)
      (λ before.
      ap (λ k. spans_below def path before 0 f ++ k) (append-nil (part_spans def (path ++ length (children_of f) ∷ []) (wanted def f) p (before ++ row def f)))
      ∙ spans-part path before f p)

  -- The operator with its first parts is written; these items are left, and the next child has the number.
  pub record AreParts (op : ℕ) (parts : List Part) (items more : List Item) (number : ℕ) (start now : Printer) : Type 0 where
    pub printed : Prints (row def (with_parts (operator op) parts)) (λ before. spans_below def start.path.items before 0 (with_parts (operator op) parts)) start now
    pub rest : more ≡ left def (with_parts (operator op) parts)
    pub children : number ≡ length (children_of (with_parts (operator op) parts))
    pub short : length more ≤ length items

  pub parts-init : (op : ℕ) (items more : List Item) (start now : Printer) → items ≡ items_in (operator_at def op) → more ≡ from_part items
      → Adds (words items) start.writer now.writer → now.path.items ≡ start.path.items → now.spans.items ≡ start.spans.items → AreParts op [] items more 0 start now
  parts-init op items more start now e m a p s = record {
    printed = prints-as (prints-adds start now a p s) (ap words e) (λ before. refl);
    rest = m ∙ ap from_part e;
    children = refl;
    short = omega (arith, ap length m, short-from items);
  }

  pub parts-next : (op : ℕ) (parts : List Part) (items more next : List Item) (number wanted_here after : ℕ) (part : Part) (start b c d : Printer)
      → AreParts op parts items more number start b → items ≡ items_in (operator_at def op)
      → wanted_here ≡ level_wanted (operator_at def op) (length items - length more)
      → Prints (part_row def wanted_here part) (part_spans def (b.path.items ++ number ∷ []) wanted_here part) b c
      → Adds (words (behind_first more)) c.writer d.writer → d.path.items ≡ c.path.items → d.spans.items ≡ c.spans.items
      → next ≡ from_part (behind_first more) → after ≡ number + count_of part → AreParts op (parts ++ part ∷ []) items next after start d
  parts-next op parts items more next number wanted_here after part start b c d h e w x a p s n k =
      let f : Fragment = with_parts (operator op) parts in
      let g : with_part (with_parts (operator op) parts) part ≡ with_parts (operator op) (parts ++ part ∷ []) = sym (with_parts-push (operator op) parts part) in
      let v : wanted_here ≡ wanted def (with_parts (operator op) parts) =
      w ∙ wanted-of (operator_at def op) more (length items - length more) (ap (λ z. length z - length more) e)
      ∙ ap₂ wanted_of (sym (operator-parts def op parts)) h.rest in
      let y : Prints (row def (with_part (with_parts (operator op) parts) part)) (λ before. spans_below def start.path.items before 0 (with_part (with_parts (operator op) parts) part)) start d =
      part_printed start.path.items (with_parts (operator op) parts) part number wanted_here more start b c d h.printed h.rest h.children v h.printed.path x a p s in
      record {
        printed = subst (λ z. Prints (row def z) (λ before. spans_below def start.path.items before 0 z) start d) g y;
        rest = n ∙ ap (λ z. from_part (behind_first z)) h.rest ∙ sym (left-part (with_parts (operator op) parts) part) ∙ ap (left def) g;
        children = k ∙ ap (λ z. z + count_of part) h.children ∙ sym (count-part (with_parts (operator op) parts) part) ∙ ap (λ z. length (children_of z)) g;
        short = omega (arith, ap length n, short-from (behind_first more), short-behind more, h.short);
      }

  -- ---- a list, from its elements behind

  pub list_printed : (path : Path) (l number : ℕ) (e rest : Fragment) (b c d new : Printer) → b.path.items ≡ path
      → Prints (row def e) (spans_from def (b.path.items ++ number ∷ []) e) b c
      → Adds (between def l rest) c.writer d.writer → d.path.items ≡ c.path.items → d.spans.items ≡ c.spans.items
      → Prints (row def rest) (λ before. spans_below def path before (number + 1) rest) d new
      → Prints (row def (cell l e rest)) (λ before. spans_below def path before number (cell l e rest)) b new
  list_printed path l number e rest b c d new h x y dp ds z =
      prints-as (prints-then x (prints-then (prints-adds c d y dp ds) z)) refl
      (λ before.
      ap₂ (λ own r. spans_from def own e before ++ spans_below def path r (number + 1) rest) (ap (λ k. k ++ number ∷ []) h) (append_assoc before (row def e) (between def l rest)))

  -- What writes the elements that are left writes the whole list; the next element has the number.
  pub record AreElementsLeft (l : ℕ) (all more : List Fragment) (u : Bool) (number : ℕ) (start now : Printer) : Type 0 where
    pub whole : (new : Printer) → Prints (row def (list_of l more u)) (λ before. spans_below def start.path.items before number (list_of l more u)) now new
        → Prints (row def (list_of l all u)) (λ before. spans_below def start.path.items before 0 (list_of l all u)) start new
    pub path : now.path.items ≡ start.path.items
    pub low : height (list_of 0 more false) ≤ height (list_of 0 all false)

  pub elements-init : (l : ℕ) (all : List Fragment) (u : Bool) (start : Printer) → AreElementsLeft l all all u 0 start start
  elements-init l all u start = record { whole = λ new x. x; path = refl; low = omega arith }

  pub elements-next : (l : ℕ) (all more : List Fragment) (u : Bool) (number next : ℕ) (e : Fragment) (behind : List Fragment) (start b c d : Printer)
      → AreElementsLeft l all more u number start b → more ≡ e ∷ behind
      → Prints (row def e) (spans_from def (b.path.items ++ number ∷ []) e) b c → Adds (between def l (list_of l behind u)) c.writer d.writer
      → d.path.items ≡ c.path.items → d.spans.items ≡ c.spans.items → next ≡ number + 1 → AreElementsLeft l all behind u next start d
  elements-next l all more u number next e behind start b c d h m x y p s n = record {
    whole = λ new z.
        h.whole new
        (subst (λ k. Prints (row def (list_of l k u)) (λ before. spans_below def start.path.items before number (list_of l k u)) b new) (sym m)
        (list_printed start.path.items l number e (list_of l behind u) b c d new h.path x y p s
        (subst (λ k. Prints (row def (list_of l behind u)) (λ before. spans_below def start.path.items before k (list_of l behind u)) d new) n z)));
    path = p ∙ x.path ∙ h.path;
    low = omega (arith, h.low, ap (λ k. height (list_of 0 k false)) m);
  }

  pub elements-end : (l : ℕ) (all more : List Fragment) (u : Bool) (number : ℕ) (start b d : Printer) → AreElementsLeft l all more u number start b → length more ≡ 0
      → Adds (ending_row u) b.writer d.writer → d.path.items ≡ b.path.items → d.spans.items ≡ b.spans.items
      → Prints (row def (list_of l all u)) (λ before. spans_below def start.path.items before 0 (list_of l all u)) start d
  elements-end l all [] u number start b d h e x p s = h.whole d (prints-adds b d x p s)
  elements-end l all (t ∷ more) u number start b d h e x p s = absurd (omega (arith, e))

  -- a whole tree
  pub top_printed : (t : Fragment) (a b : Printer) → a.path.items ≡ [] → a.spans.items ≡ [] → IsWritten a.writer [] → Prints (row def t) (spans_from def a.path.items t) a b
      → IsWhole def t b
  top_printed t a b p s w x = record {
    written = x.adds.written [] w;
    spans = x.spans [] w ∙ ap (λ k. k ++ spans_from def a.path.items t []) s ∙ ap (λ k. spans_from def k t []) p ∙ sym (map_from top_spot t);
  }

  -- ---- a node

  first_start : (before r : Pieces) → unwrap_or (first_in before r) (length (laid [] before)) ≡ length (laid [] before) + length (lead before r)
  first_start before [] = omega arith
  first_start before (token t ∷ r) = refl
  first_start before (mark i ∷ r) =
      ap (λ n. unwrap_or (first_in (before ++ mark i ∷ []) r) n) (sym (same before i)) ∙ first_start (before ++ mark i ∷ []) r
      ∙ ap (λ n. n + length (lead (before ++ mark i ∷ []) r)) (same before i) where
        same : (before : Pieces) (i : Item) → length (laid [] (before ++ mark i ∷ [])) ≡ length (laid [] before)
        same before i = ap length (laid-append [] before (mark i ∷ []) ∙ append-nil (laid [] before))

  written_again : (before : Pieces) (w v : Writer) (first : Option ℕ) → v ≡ record w { first = first } → IsWritten w before → IsWritten v before
  written_again before w v first e h = subst (λ x. IsWritten x before) (sym e) (record { bytes = h.bytes; last = h.last; levels = h.levels; line = h.line; tight = h.tight; space = h.space; plain = h.plain; head = h.head })

  pub node_printed : (t : Fragment) (place : ℕ) (outer : Option ℕ) (a b c d : Printer) → place ≡ length a.spans.items → IsOpened outer a b
      → Prints (row def t) (λ before. spans_below def b.path.items before 0 t) b c → IsClosed place outer c d
      → Prints (row def t) (spans_from def a.path.items t) a d
  node_printed t place outer a b c d p o x k = record {
    adds = record {
      written = λ before h. written_again (before ++ row def t) c.writer d.writer (option_or outer c.writer.first) k.writer (inside before h);
      first = λ before h.
          ap (λ (w : Writer). w.first) k.writer
          ∙ ap₂ option_or o.known (first_inside before h);
    };
    path = k.path ∙ x.path ∙ o.path;
    grown = omega (arith, k.long, x.grown, ap length o.spans, length-append a.spans.items (opened ∷ []));
    spans = λ before h.
        k.spans a.spans.items (spans_below def a.path.items before 0 t) (opened) (listed before h) (sym p)
        ∙ ap (λ s. a.spans.items ++ s ∷ spans_below def a.path.items before 0 t) (own before h);
  } where
    opened : Span
    opened = record { path = a.path.items; start = length (string_bytes a.writer.out); end = length (string_bytes a.writer.out) }

    begun : (before : Pieces) → IsWritten a.writer before → IsWritten b.writer before
    begun before h = written_again before a.writer b.writer None o.writer h

    inside : (before : Pieces) → IsWritten a.writer before → IsWritten c.writer (before ++ row def t)
    inside before h = x.adds.written before (begun before h)

    first_inside : (before : Pieces) → IsWritten a.writer before → c.writer.first ≡ first_in before (row def t)
    first_inside before h = x.adds.first before (begun before h) ∙ ap (λ (w : Writer). option_or w.first (first_in before (row def t))) o.writer

    listed : (before : Pieces) → IsWritten a.writer before → c.spans.items ≡ a.spans.items ++ opened ∷ spans_below def a.path.items before 0 t
    listed before h =
        x.spans before (begun before h)
        ∙ ap₂ (λ s q. s ++ spans_below def q before 0 t) o.spans o.path
        ∙ append_assoc a.spans.items (opened ∷ []) (spans_below def a.path.items before 0 t)

    own : (before : Pieces) → IsWritten a.writer before
        → record { path = a.path.items; start = unwrap_or c.writer.first (length (string_bytes a.writer.out)); end = length (string_bytes c.writer.out) } ≡ span_at def a.path.items before t
    own before h =
        ap₂ (λ n m. record { path = a.path.items; start = n; end = m })
        (ap₂ unwrap_or (first_inside before h) (ap length h.bytes) ∙ first_start before (row def t))
        (ap length (inside before h).bytes)

-- ---- the span of a node is set

at_seam : (front : List Span) (s : Span) (back : List Span) (d : Span) → get_or (front ++ s ∷ back) (length front) d ≡ s
at_seam [] s back d = refl
at_seam (x ∷ front) s back d = at_seam front s back d

pub span_closed : (spans front back : List Span) (s read : Span) (place start end : ℕ) (first : Option ℕ) → read ≡ slice_index_or spans place read → start ≡ unwrap_or first read.start
    → spans ≡ front ++ s ∷ back → length front ≡ place
    → slice_set spans place (record { path = read.path; start = start; end = end }) ≡ front ++ record { path = s.path; start = unwrap_or first s.start; end = end } ∷ back
span_closed spans front back s read place start end first r b e l =
    let same : read ≡ s = r ∙ ap₂ (λ xs n. get_or xs n read) e (sym l) ∙ at_seam front s back read in
    ap₂ (λ xs n. slice_set xs n (record { path = read.path; start = start; end = end })) e (sym l)
    ∙ set-append_seam front s back (record { path = read.path; start = start; end = end })
    ∙ ap₂ (λ (z : Span) n. front ++ record { path = z.path; start = n; end = end } ∷ back) same (b ∙ ap (λ (z : Span). unwrap_or first z.start) same)
