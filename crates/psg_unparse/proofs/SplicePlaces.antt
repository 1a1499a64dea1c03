-- The place of a node among the spans of its tree, and what is made there.
use Rattle.std.proofs.Common.{◌≡◌, ℕ, ◌+◌, ◌-◌, ◌<◌, ◌≤◌, ◌^◌, Bool, true, false, List, [], ◌++◌, length, take, drop, Some, None, slice_get, get_or, refl, ap, ap₂, sym, subst, ◌∙◌, length-append, append_assoc, arith}
use Rattle.std.specs.Prelude.{All}
use Rattle.std.specs.Str.{IsCharBoundary}
use Rattle.std.specs.Prelude.{not}
use Rattle.std.specs.Bool.{Decides}
use Rattle.std.proofs.lemmas.Bool.{false≢true}
use Rattle.std.proofs.lemmas.List.{drop_all}
use Rattle.std.proofs.lemmas.List.Elements.{All-from_get_or, All-from_recursion, All-get_or, All-map, All-weaker}
use Rattle.std.proofs.lemmas.Option.{get_or_from_slice_get, none-some, same_Some, slice_get_within}
use Rattle.psg_terms.proofs.Lists.{slice_get-map_some, slice_get_item, slice_get_once}
use Rattle.psg_grammar.specs.declared.types.Kind.{Kind}
use Rattle.psg_grammar.specs.declared.types.Definition.{Definition}
use Rattle.psg_grammar.specs.Fragments.{Fragment}
use Rattle.psg_grammar.specs.Paths.{Path, node_at}
use Rattle.psg_grammar.specs.WellFormed.{WellFormed}
use Rattle.psg_unparse.specs.Rows.{row}
use Rattle.psg_unparse.specs.Layout.{laid, lead, text_of}
use Rattle.psg_unparse.specs.Spots.{Placed, placed_in}
use Rattle.psg_unparse.proofs.Rows.{cut_in, laid-append, IsCutAt}
use Rattle.psg_unparse.proofs.Lexing.{bare, lead_and_bare}
use Rattle.psg_unparse.specs.declared.spans.Span.{Span}
use Rattle.psg_unparse.specs.declared.spans.Printed.{Printed}
use Rattle.psg_unparse.specs.Spans.{printed_of, span_of}
use Rattle.psg_unparse.specs.Listing.{AreInOrder, IsEarlier}
use Rattle.psg_unparse.specs.Splicing.{CutsNone, FitsInPlace, IsFitting, IsOneLine, IsPlaceOf, IsSmall, IsSpliceable, IsSplicing, spliced_in, spliced_spans}
use Rattle.psg_unparse.proofs.Listed.{each-as, listing}
use Rattle.psg_unparse.proofs.SpliceLaw.{map_got, own_text, spliced_at}

-- ---- lines

pub line_tells : (text : List ℕ) (r : Bool)
    → (r ≡ true → (k : ℕ) × (k < length text) × (get_or text k 0 ≡ 10)) × ((k : ℕ) → k < length text → get_or text k 0 ≡ 10 → r ≡ true)
    → Decides (not r) (IsOneLine text)
line_tells text true h = (
  λ e. absurd (false≢true e),
  λ one. let (k, lt, got) = h.0 refl in absurd (All-get_or (λ b. b ≡ 10 → ⊥) text k 0 lt one got),
)
line_tells text false h =
    (λ e. All-from_get_or (λ b. b ≡ 10 → ⊥) text 0 (λ i lt got. false≢true (h.1 i lt got)), λ one. refl)

-- ---- the places of a span

abbrev pub IsWithin : List ℕ → Span → Type 0
IsWithin text s = (s.start ≤ s.end) × (s.end ≤ length text)

module _ (def : Definition) (f : Fragment) where
  placed_within : (p : Placed) → IsCutAt def (row def f) p → IsWithin (text_of def f) (span_of def p)
  placed_within p cut =
      let own : List ℕ = laid p.spot.before (row def p.node) in
      let size : length (laid [] (p.spot.before ++ row def p.node)) ≡ length (laid [] p.spot.before) + length own =
      ap length (laid-append [] p.spot.before (row def p.node)) ∙ length-append (laid [] p.spot.before) own in
      let part : length own ≡ length (lead p.spot.before (row def p.node)) + length (bare p.spot.before (row def p.node)) =
      ap length (lead_and_bare p.spot.before (row def p.node))
      ∙ length-append (lead p.spot.before (row def p.node)) (bare p.spot.before (row def p.node)) in
      let behind : List ℕ = laid (p.spot.before ++ row def p.node) p.spot.behind in
      let all : length (text_of def f) ≡ length (laid [] (p.spot.before ++ row def p.node)) + length behind =
      ap (λ r. length (laid [] r)) (sym cut ∙ sym (append_assoc p.spot.before (row def p.node) p.spot.behind))
      ∙ ap length (laid-append [] (p.spot.before ++ row def p.node) p.spot.behind)
      ∙ length-append (laid [] (p.spot.before ++ row def p.node)) behind in
      (omega (arith, size, part), omega (arith, all))

  all_within : All (IsWithin (text_of def f)) (printed_of def f).spans
  all_within =
      All-map (IsWithin (text_of def f)) (span_of def) (placed_in def f)
      (All-from_recursion (λ p. IsWithin (text_of def f) (span_of def p)) (placed_in def f)
      (each-as (IsCutAt def (row def f)) (λ p. IsWithin (text_of def f) (span_of def p)) placed_within (placed_in def f) (cut_in def f)))

small_within : (text : List ℕ) → length text < 2 ^ 63 → (s : Span) → IsWithin text s → IsSmall s
small_within text few s h = (omega (arith, few, h.0, h.1), omega (arith, few, h.1))

-- the spans of a text that the machine has are small
pub small_spans : (def : Definition) (f : Fragment) (p : Printed) → p ≡ printed_of def f → length p.text < 2 ^ 63 → All IsSmall p.spans
small_spans def f p is few =
    subst (λ (z : Printed). All IsSmall z.spans) (sym is)
    (All-weaker (IsWithin (text_of def f)) IsSmall
    (small_within (text_of def f) (subst (λ (z : Printed). length z.text < 2 ^ 63) is few)) (printed_of def f).spans (all_within def f))

pub span_within : (def : Definition) (f : Fragment) (p : Printed) (place : ℕ) (s : Span) → p ≡ printed_of def f → slice_get p.spans place ≡ Some s
    → IsWithin p.text s
span_within def f p place s is got =
    subst (λ (z : Printed). IsWithin z.text s) (sym is)
    (at_place (printed_of def f).spans place s (all_within def f) (ap (λ (z : Printed). slice_get z.spans place) (sym is) ∙ got))
  where
    at_place : (ss : List Span) (k : ℕ) (s : Span) → All (IsWithin (text_of def f)) ss → slice_get ss k ≡ Some s → IsWithin (text_of def f) s
    at_place ss k s all e =
        subst (IsWithin (text_of def f)) (get_or_from_slice_get ss k s s e) (all k s (slice_get_within ss k s e))

pub none_after : (n : ℕ) (ss : List Span) → length ss < n → [] ≡ drop n ss
none_after n ss lt = sym (drop_all n ss (omega (arith, lt)))

-- ---- the place of a node

-- spans are listed in the order of their paths
pub spans_in_order : (def : Definition) (f : Fragment) (kind : Kind) → WellFormed def f kind → (before : Printed) → before ≡ printed_of def f
    → AreInOrder before.spans
spans_in_order def f kind h before is =
    subst (λ (z : Printed). AreInOrder z.spans) (sym is) (λ j k s t lt a b.
    let (p, at_j, same) = map_got (span_of def) (placed_in def f) j s a in
    let (q, at_k, other) = map_got (span_of def) (placed_in def f) k t b in
    subst (λ (x : Span). IsEarlier x.path t.path) same
    (subst (λ (x : Span). IsEarlier p.spot.path x.path) other ((listing def f kind h).order j k p q lt at_j at_k)))

module _ (def : Definition) (f : Fragment) (kind : Kind) (h : WellFormed def f kind) (before : Printed) (is : before ≡ printed_of def f) (path : Path) (u : Fragment) (there : node_at f path ≡ Some u) where
  -- each node has a span
  pub has_place : (place : ℕ) × IsPlaceOf before.spans path place
  has_place =
      let (p, (k, got, same)) = (listing def f kind h).all path u there in (
        k,
        record {
          span = span_of def p;
          found = ap (λ (z : Printed). slice_get z.spans k) is ∙ slice_get-map_some (span_of def) (placed_in def f) k p got;
          path_is = same;
        },
      )

  module _ (place : ℕ) (node : Span) (got : slice_get before.spans place ≡ Some node) (path_is : node.path ≡ path) where
    here : slice_get (printed_of def f).spans place ≡ Some node
    here = ap (λ (z : Printed). slice_get z.spans place) (sym is) ∙ got

    pub own_is : (v : Fragment) → FitsInPlace def u v → (own : List ℕ) → own ≡ take (node.end - node.start) (drop node.start before.text)
        → own ≡ text_of def u
    own_is v fit own e =
        e ∙ ap (λ (z : Printed). take (node.end - node.start) (drop node.start z.text)) is
        ∙ own_text def f kind h path u v there fit place node here path_is

    -- what has a line feed is not put so
    pub is_broken : (v : Fragment) (own : List ℕ) → own ≡ take (node.end - node.start) (drop node.start before.text)
        → (IsOneLine own → ⊥) → IsSpliceable def f path v → ⊥
    is_broken v own e feed may =
        let same : u ≡ may.old = same_Some u may.old (sym there ∙ may.there) in
        let fit : FitsInPlace def u v = subst (λ x. FitsInPlace def x v) (sym same) may.fits in
        feed (subst (IsOneLine) (sym (own_is v fit own e))
        (subst (λ x. IsOneLine (text_of def x)) (sym same) may.line))

    pub is_splicing : (v : Fragment) (own : List ℕ) → own ≡ take (node.end - node.start) (drop node.start before.text)
        → IsOneLine own → (count : ℕ) (q made : Printed) → IsFitting def u v count q
        → made.text ≡ take node.start before.text ++ (q.text ++ drop node.end before.text)
        → made.spans ≡ spliced_spans place count node q before.spans → IsSplicing def f path v made
    is_splicing v own e line count q made fit text spans =
        let record_of : List ℕ → List Span → Printed = λ t s. record { text = t; spans = s } in
        let whole : made ≡ spliced_in place count node q before = ap₂ record_of text spans in
        let law = spliced_at def f kind h path u v there fit.fits place node here path_is in
        record {
          may = record {
            old = u;
            there = there;
            line = subst (IsOneLine) (own_is v fit.fits own e) line;
            fits = fit.fits;
          };
          printed_is =
              whole ∙ ap (λ n. spliced_in place n node q before) fit.count_is
              ∙ ap₂ (λ y z. spliced_in place (length (printed_of def u).spans) node y z) fit.printed_is is ∙ sym law;
        }

-- the new tree does not fit
pub unfitting : (def : Definition) (f : Fragment) (path : Path) (u v : Fragment) → node_at f path ≡ Some u → (FitsInPlace def u v → ⊥)
    → IsSpliceable def f path v → ⊥
unfitting def f path u v there never may =
    never (subst (λ x. FitsInPlace def x v) (sym (same_Some u may.old (sym there ∙ may.there))) may.fits)

pub no_node : (def : Definition) (f : Fragment) (path : Path) (v : Fragment) → node_at f path ≡ None → IsSpliceable def f path v → ⊥
no_node def f path v none may = none-some may.old (sym none ∙ may.there)

-- ---- the call by the values that it has

module _ (def : Definition) (f : Fragment) (kind : Kind) (h : WellFormed def f kind) (before : Printed) (is : before ≡ printed_of def f) (path : Path) (spans : List Span) (same : spans ≡ before.spans) (text : List ℕ) (written : text ≡ before.text) (place : ℕ) (steps : Path) (way : steps ≡ path) (found : IsPlaceOf spans steps place) (node : Span) (read : node ≡ get_or spans place node) where
  pub place_within : place < length spans
  place_within = slice_get_within spans place found.span found.found

  pub node_there : slice_get before.spans place ≡ Some node
  node_there = ap (λ xs. slice_get xs place) (sym same) ∙ slice_get_item spans place node place_within read

  pub node_path : node.path ≡ path
  node_path =
      ap (λ (x : Span). x.path)
      (slice_get_once spans place node found.span (slice_get_item spans place node place_within read) found.found)
      ∙ found.path_is ∙ way

  pub node_cuts : CutsNone before → IsCharBoundary text node.start × IsCharBoundary text node.end
  node_cuts cuts =
      subst (λ t. IsCharBoundary t node.start × IsCharBoundary t node.end) (sym written) (cuts place node node_there)

  pub node_ordered : node.start ≤ node.end
  node_ordered = (span_within def f before place node is node_there).0

  pub old_small : length text < 2 ^ 63 → All IsSmall spans
  old_small few = subst (All IsSmall) (sym same) (small_spans def f before is (subst (λ t. length t < 2 ^ 63) written few))

  pub node_small : length text < 2 ^ 63 → IsSmall node
  node_small few = subst IsSmall (sym read) (old_small few place node place_within)

  module _ (u : Fragment) (there : node_at f path ≡ Some u) (v : Fragment) (own : List ℕ) (cut : own ≡ take (node.end - node.start) (drop node.start text)) where
    own_cut : own ≡ take (node.end - node.start) (drop node.start before.text)
    own_cut = cut ∙ ap (λ t. take (node.end - node.start) (drop node.start t)) written

    pub call_broken : (IsOneLine own → ⊥) → IsSpliceable def f path v → ⊥
    call_broken feed = is_broken def f kind h before is path u there place node node_there node_path v own own_cut feed

    pub call_made : IsOneLine own → (count : ℕ) (q made : Printed) (front back : List ℕ) → IsFitting def u v count q
        → front ≡ take node.start text → back ≡ drop node.end text → made.text ≡ front ++ (q.text ++ back)
        → made.spans ≡ spliced_spans place count node q spans → IsSplicing def f path v made
    call_made line count q made front back fit ahead behind made_text made_spans =
        is_splicing def f kind h before is path u there place node node_there node_path v own own_cut line count q made fit
        (made_text
        ∙ ap₂ (λ x y. x ++ (q.text ++ y)) (ahead ∙ ap (take node.start) written) (behind ∙ ap (drop node.end) written))
        (made_spans ∙ ap (spliced_spans place count node q) same)

pub new_small : (def : Definition) (u v : Fragment) (count : ℕ) (q : Printed) (text : List ℕ) → IsFitting def u v count q → text ≡ q.text
    → length text < 2 ^ 63 → All IsSmall q.spans
new_small def u v count q text fit e few = small_spans def v q fit.printed_is (subst (λ t. length t < 2 ^ 63) e few)
