-- A tree is read with the brackets around it; a node is read with its range.
use Rattle.std.proofs.Common.{◌≡◌, ◌⊎◌, inl, inr, ℕ, suc, ◌+◌, ◌-◌, ◌≤◌, cond, Bool, false, List, [], ◌∷◌, ◌++◌, length, drop, slice_get, refl, sym, ap, ◌∙◌, arith, append_assoc, append-nil, length-append}
use Rattle.std.specs.Prelude.{slice_set}
use Rattle.std.proofs.Math.Seq.{drop-append-add, drop-append_seam, set-append_seam}
use Rattle.psg_grammar.specs.declared.types.Definition.{Definition}
use Rattle.psg_grammar.specs.Fragments.{Fragment}
use Rattle.psg_class.specs.Terminals.{Token}
use Rattle.psg_class.specs.Yields.{TreeYields, ListYields, no_elements, only_more, elements}
use Rattle.psg_class.proofs.ClassFacts.{ClassFacts}
use Rattle.psg_ranges.specs.declared.ranges.Range.{Range}
use Rattle.psg_ranges.specs.declared.reading.Reader.{Reader}
use Rattle.psg_ranges.specs.Brackets.{is_bracketed, opening, closing}
use Rattle.psg_ranges.specs.Forests.{Core, Forest, no_nodes, node, of_tree, of_list, ranges_in}
use Rattle.psg_ranges.specs.Walking.{leading, core_names, core_below, list_below, IsBracketed, IsWithin, IsQuiet, IsOpened, IsClosed, Reads, ReadsNode, ReadsShape, ReadsBelow}
use Rattle.psg_ranges.proofs.Rows.{closing_row, closing_none}
use Rattle.psg_ranges.proofs.Peeled.{Peeled, peel}
use Rattle.psg_ranges.proofs.Fronts.{passed}

-- ---- brackets

none_left : (first start : ℕ) (after : List Token) → IsQuiet first start after → (n : ℕ) → n ≡ start - first → closing n after ≡ 0
none_left first start after (inl e) n is = let z : n ≡ 0 = omega (arith, is, e) in ap (λ k. closing k after) z
none_left first start after (inr q) n is = closing_none n after q

zero_closing : (n : ℕ) (ts : List Token) → n ≡ 0 → closing n ts ≡ 0
zero_closing n ts e = ap (λ k. closing k ts) e

-- what comes after a tree's own tokens
after_own : (before own rest tokens : List Token) (at : ℕ) → tokens ≡ before ++ (own ++ rest) → at ≡ length before + length own → drop at tokens ≡ rest
after_own before own rest tokens at t a =
    ap (λ n. drop n tokens) a ∙ ap (drop (length before + length own)) t ∙ drop-append-add before (own ++ rest) (length own) ∙ drop-append_seam own rest

-- the node of a list
pub list_node : {def : Definition} {f : Fragment} {l depth : ℕ} {ts : List Token} (y : ListYields def f l depth ts) (start : ℕ) (beside : Forest)
    → node start (start + length ts) [] (list_below y start) beside ≡ of_list y start beside
list_node (no_elements kind found) start beside = ap (λ e. node start e [] no_nodes beside) (omega arith)
list_node (only_more kind found unfinished) start beside = refl
list_node (elements y) start beside = refl

abbrev core_node : {def : Definition} {f : Fragment} {p : ℕ} {ts : List Token} → Core def f p ts → ℕ → Forest
core_node {ts = ts} y n = node n (n + length ts) (core_names y n) (core_below y n) no_nodes

module _ (def : Definition) (c : ClassFacts def) (tokens : List Token) (bracketed : Bool) (first : ℕ) (t : Fragment) (start outer : ℕ) (a b s d : Reader)
    (opened : b.at ≡ a.at + cond bracketed (opening (drop a.at tokens)) 0) (kept : b.ranges.items ≡ a.ranges.items)
    (shape : ReadsShape def tokens first t start b s)
    (begins : outer ≡ start - closing (start - first) (drop s.at tokens)) (ends : d.at ≡ s.at + closing (start - first) (drop s.at tokens))
    (same : d.ranges.items ≡ s.ranges.items) where
  tree_read : (p level depth : ℕ) (ts : List Token) (y : TreeYields def t p level depth ts) (before after : List Token) (taken : ℕ)
      → bracketed ≡ is_bracketed (slice_get def.phyla p) → tokens ≡ before ++ (ts ++ after) → a.at ≡ length before + taken → taken ≤ leading y
      → IsWithin def p first (length before) → IsQuiet first (length before) after
      → (outer ≡ length before) × Reads (length before + length ts) (of_tree y (length before) no_nodes) a d
  tree_read p level depth ts y before after taken bracket are at most within quiet =
      let r = peel y in
      let begun : b.at ≡ length before + leading y = passed def c y before after tokens taken a.at b.at bracketed bracket are at most opened in
      let len : length (before ++ r.opens) ≡ length before + length r.opens = length-append before r.opens in
      let all : tokens ≡ (before ++ r.opens) ++ (r.own ++ (r.closes ++ after)) =
      are ∙ ap (λ x. before ++ (x ++ after)) r.are
      ∙ ap (λ x. before ++ x) (append_assoc r.opens (r.own ++ r.closes) after ∙ ap (λ x. r.opens ++ x) (append_assoc r.own r.closes after))
      ∙ sym (append_assoc before r.opens (r.own ++ (r.closes ++ after))) in
      let inside : IsWithin def p first (length (before ++ r.opens)) = (omega (arith, within.0, len), choice r within.1) in
      let x = shape.core p r.own r.core (before ++ r.opens) (r.closes ++ after) all (omega (arith, begun, r.leading_is, len)) inside in
      let left : drop s.at tokens ≡ r.closes ++ after = after_own (before ++ r.opens) r.own (r.closes ++ after) tokens s.at all x.1.at in
      let few : length r.closes ≤ start - first = omega (arith, r.same, x.0, len, within.0) in
      let none : closing (start - first - length r.closes) after ≡ 0 =
      none_left first (length before) after quiet (start - first - length r.closes) (omega (arith, x.0, len, r.same, within.0)) in
      let count : closing (start - first) (drop s.at tokens) ≡ length r.closes = ap (closing (start - first)) left ∙ closing_row r.closes after (start - first) r.all_close few none in
      let long : length ts ≡ length r.opens + (length r.own + length r.closes) =
      ap length r.are ∙ length-append r.opens (r.own ++ r.closes) ∙ ap (λ n. length r.opens + n) (length-append r.own r.closes) in (
        omega (arith, begins, count, x.0, len, r.same),
        record {
          at = omega (arith, ends, count, x.1.at, len, long);
          ranges = same ∙ x.1.ranges ∙ ap (λ z. z ++ ranges_in (core_node r.core (length (before ++ r.opens)))) kept
              ∙ ap (λ n. a.ranges.items ++ ranges_in n) (ap (λ k. core_node r.core k) len ∙ sym (r.forest (length before) no_nodes));
        },
      ) where
        choice : (r : Peeled def y) → ((first ≡ length before) ⊎ IsBracketed def p) → ((first ≡ length (before ++ r.opens)) ⊎ IsBracketed def p)
        choice r (inr w) = inr w
        choice r (inl e) = elim r.bracketed [ inl z ↦ inl (omega (arith, e, z, length-append before r.opens)) | inr w ↦ inr w ]

  list_read : (l depth : ℕ) (ts : List Token) (y : ListYields def t l depth ts) (before after : List Token) → bracketed ≡ false → tokens ≡ before ++ (ts ++ after)
      → a.at ≡ length before → first ≡ length before
      → (outer ≡ length before) × Reads (length before + length ts) (of_list y (length before) no_nodes) a d
  list_read l depth ts y before after bare are at one =
      let begun : b.at ≡ a.at + 0 = opened ∙ ap (λ x. a.at + cond x (opening (drop a.at tokens)) 0) bare in
      let x = shape.list l depth ts y before after are (omega (arith, begun, at)) in
      let none : closing (start - first) (drop s.at tokens) ≡ 0 = zero_closing (start - first) (drop s.at tokens) (omega (arith, x.0, one)) in (
        omega (arith, begins, none, x.0),
        record {
          at = omega (arith, ends, none, x.1.at);
          ranges = same ∙ x.1.ranges ∙ ap (λ z. z ++ ranges_in (node (length before) (length before + length ts) [] (list_below y (length before)) no_nodes)) kept
              ∙ ap (λ n. a.ranges.items ++ ranges_in n) (list_node y (length before) no_nodes);
        },
      )

  pub node_read : ReadsNode def tokens bracketed first t outer a d
  node_read = record { tree = tree_read; list = list_read }

-- ---- ranges

abbrev range : ℕ → ℕ → ℕ → List ℕ → Range
range start end nodes names = record { start = start; end = end; nodes = nodes; names = names }

filled : (place start : ℕ) (names0 names more : List ℕ) (a b s d : Reader) (from end : ℕ) (below : Forest) → IsOpened place a b → IsClosed place start names s d
    → Reads end below b s → names0 ≡ [] → names ≡ names0 ++ more → start ≡ from → Reads end (node from end more below no_nodes) a d
filled place start names0 names more a b s d from end below o k r none are is =
    let row : s.ranges.items ≡ a.ranges.items ++ o.kept ∷ ranges_in below =
    r.ranges ∙ ap (λ x. x ++ ranges_in below) o.ranges ∙ append_assoc a.ranges.items (o.kept ∷ []) (ranges_in below) in
    record {
      at = k.at ∙ r.at;
      ranges = k.ranges a.ranges.items (ranges_in below) o.kept row (sym o.place_is)
          ∙ ap (λ x. a.ranges.items ++ x)
          (ap (λ x. x ∷ ranges_in below) (ap (λ x. range x s.at (suc (length (ranges_in below))) names) is ∙ ap (λ x. range from x (suc (length (ranges_in below))) names) r.at
          ∙ ap (λ x. range from end (suc (length (ranges_in below))) x) (are ∙ ap (λ x. x ++ more) none))
          ∙ ap (λ x. range from end (suc (length (ranges_in below))) more ∷ x) (sym (append-nil (ranges_in below))));
    }

pub shape_read : (def : Definition) (tokens : List Token) (first : ℕ) (t : Fragment) (place start : ℕ) (names0 names : List ℕ) (a b s d : Reader) → IsOpened place a b
    → ReadsBelow def tokens first t start b s names0 names → IsClosed place start names s d → names0 ≡ [] → ReadsShape def tokens first t start a d
shape_read def tokens first t place start names0 names a b s d o below k none = record {
  core = λ p ts y before after are at within.
      let x = below.core p ts y before after are (o.at ∙ at) within in
      (x.0, filled place start names0 names (core_names y (length before)) a b s d (length before) (length before + length ts) (core_below y (length before)) o k x.1.reads none x.1.names x.0);
  list = λ l depth ts y before after are at.
      let x = below.list l depth ts y before after are (o.at ∙ at) in
      (x.0, filled place start names0 names [] a b s d (length before) (length before + length ts) (list_below y (length before)) o k x.1.reads none x.1.names x.0);
}

-- a range is filled in
pub range_closed : (all front below : List Range) (kept : Range) (place start end len count : ℕ) (names made : List ℕ) → len ≡ count → count ≡ length all → made ≡ names
    → all ≡ front ++ kept ∷ below → length front ≡ place
    → slice_set all place (record { start = start; end = end; nodes = len - place; names = made })
    ≡ front ++ record { start = start; end = end; nodes = suc (length below); names = names } ∷ below
range_closed all front below kept place start end len count names made l n m row p =
    ap (λ xs. slice_set xs place (range start end (len - place) made)) row ∙ ap (λ k. slice_set (front ++ kept ∷ below) k (range start end (len - place) made)) (sym p)
    ∙ set-append_seam front kept below (range start end (len - place) made)
    ∙ ap (λ k. front ++ range start end k made ∷ below) (omega (arith, l, n, ap length row, length-append front (kept ∷ below), p))
    ∙ ap (λ k. front ++ range start end (suc (length below)) k ∷ below) m
