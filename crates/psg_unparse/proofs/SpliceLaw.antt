-- The text of a tree with another node is the old text, in which the node's own text is replaced.
use Rattle.std.proofs.Common.{◌≡◌, ℕ, zero, suc, ◌+◌, ◌-◌, ◌<◌, true, List, [], ◌∷◌, ◌++◌, length, map, take, drop, Some, None, slice_get, refl, ap, ap₂, sym, subst, ◌∙◌, append_assoc, length-append, arith}
use Rattle.std.proofs.Math.Seq.{take-append_seam, drop-append_seam}
use Rattle.psg_terms.proofs.Lists.{slice_get-middle}
use Rattle.std.specs.List.{AllByRecursion}
use Rattle.psg_grammar.specs.declared.types.Kind.{Kind}
use Rattle.psg_grammar.specs.declared.types.Definition.{Definition}
use Rattle.psg_grammar.specs.Fragments.{Fragment}
use Rattle.psg_grammar.specs.Paths.{Path, node_at, replaced}
use Rattle.psg_grammar.specs.WellFormed.{WellFormed}
use Rattle.psg_unparse.specs.Rows.{row}
use Rattle.psg_unparse.specs.Layout.{laid, lead, text_of}
use Rattle.psg_unparse.specs.Spots.{top_spot, placed_in}
use Rattle.psg_unparse.proofs.Rows.{laid-append}
use Rattle.psg_unparse.specs.declared.spans.Span.{Span}
use Rattle.psg_unparse.specs.declared.spans.Printed.{Printed}
use Rattle.psg_unparse.specs.Plain.{plain_in}
use Rattle.psg_unparse.specs.Splicing.{FitsInPlace, IsSplicedAt, stretched, shifted, set_in, spliced_in, spliced_spans, spliced_text}
use Rattle.psg_unparse.specs.Spans.{span_of, printed_of}
use Rattle.psg_unparse.specs.Walking.{span_at, spans_below, spans_from}
use Rattle.psg_unparse.proofs.Printing.{map_from}
use Rattle.psg_unparse.proofs.Listed.{proper, listing}
use Rattle.psg_unparse.proofs.States.{Pieces, State, state_of, front, laid_is, lead_is, like_lay, plain_lay}
use Rattle.psg_unparse.proofs.Swaps.{same_front, size_of_u, later_node, set_from, count_below, whole_length}
use Rattle.psg_unparse.proofs.Descent.{Cut, down}

-- what is at a place of a list by a function is from what is at that place
pub map_got : {X Y : Type 0} (g : X → Y) (xs : List X) (k : ℕ) (y : Y) → slice_get (map g xs) k ≡ Some y → (x : X) × (slice_get xs k ≡ Some x) × (g x ≡ y)
map_got g [] k y e = absurd (cc)
map_got g (x ∷ xs) zero y e = (x, refl, (let s : Some (g x) ≡ Some y = e in cc))
map_got g (x ∷ xs) (suc k) y e = map_got g xs k y e

-- a text cut at a plain row
cut_text : (pre r post : Pieces) → plain_in None r ≡ true
    → laid [] (pre ++ (r ++ post)) ≡ (laid [] pre ++ front (state_of pre) r) ++ (laid [] r ++ laid (pre ++ r) post)
cut_text pre r post p =
    let s : State = state_of pre in
    laid-append [] pre (r ++ post)
    ∙ ap (λ y. laid [] pre ++ y) (laid-append pre r post
    ∙ ap (λ y. y ++ laid (pre ++ r) post) (laid_is pre r ∙ plain_lay s r p ∙ ap (λ y. front s r ++ y) (sym (laid_is [] r)))
    ∙ append_assoc (front s r) (laid [] r) (laid (pre ++ r) post))
    ∙ sym (append_assoc (laid [] pre) (front s r) (laid [] r ++ laid (pre ++ r) post))

module _ (def : Definition) (f : Fragment) (kind : Kind) (h : WellFormed def f kind) (path : Path) (u v : Fragment) (at : node_at f path ≡ Some u) (fit : FitsInPlace def u v) where
  cut : Cut def u v fit path [] f (replaced path v f) (spans_from def [] f []) (spans_from def [] (replaced path v f) [])
  cut = (down def u v fit path path f [] [] (proper def f [] kind h.0 h.1) at refl).cut

  abbrev spans : List Span
  spans = map (span_of def) (placed_in def f)

  -- the span of the old node
  own : Span
  own = span_at def path cut.pre u

  spans_are : spans ≡ cut.ahead ++ (spans_from def path u cut.pre ++ cut.rear)
  spans_are = map_from def top_spot f ∙ cut.spans_old

  own_at : slice_get spans (length cut.ahead) ≡ Some own
  unfolding own
  own_at = ap (λ z. slice_get z (length cut.ahead)) spans_are ∙ slice_get-middle cut.ahead (span_at def path cut.pre u) (spans_below def path cut.pre 0 u ++ cut.rear)

  place_is : (place : ℕ) (node : Span) → slice_get spans place ≡ Some node → node.path ≡ path → place ≡ length cut.ahead
  unfolding own
  place_is place node got e =
      let x = map_got (span_of def) (placed_in def f) place node got in
      let y = map_got (span_of def) (placed_in def f) (length cut.ahead) own own_at in
      (listing def f kind h).once place (length cut.ahead) x.0 y.0 x.1 y.1
      (ap (λ (s : Span). s.path) x.2 ∙ e ∙ sym (ap (λ (s : Span). s.path) y.2))

  node_is : (place : ℕ) (node : Span) → slice_get spans place ≡ Some node → place ≡ length cut.ahead → node ≡ own
  node_is place node got e =
      let z : Some node ≡ Some own = sym got ∙ ap (slice_get spans) e ∙ own_at in cc

  start_is : own.start ≡ length (laid [] cut.pre ++ front (state_of cut.pre) (row def u))
  unfolding own
  start_is =
      ap (λ z. length (laid [] cut.pre) + length z) (lead_is cut.pre (row def u)) ∙ sym (length-append (laid [] cut.pre) (front (state_of cut.pre) (row def u)))

  size_is : own.end - own.start ≡ length (laid [] (row def u))
  unfolding own
  size_is =
      let s : length (lead cut.pre (row def u)) ≡ length (front (state_of cut.pre) (row def u)) = ap length (lead_is cut.pre (row def u)) in
      omega (arith, whole_length cut.pre (row def u), size_of_u def u v fit (state_of cut.pre), s)

  text_is : text_of def (replaced path v f) ≡ spliced_text own (text_of def f) (text_of def v)
  unfolding own
  text_is =
      let s : State = state_of cut.pre in
      let ahead : List ℕ = laid [] cut.pre ++ front (state_of cut.pre) (row def u) in
      let rest : List ℕ = laid (cut.pre ++ row def u) cut.post in
      let old : text_of def f ≡ (laid [] cut.pre ++ front (state_of cut.pre) (row def u)) ++ (laid [] (row def u) ++ rest) =
      ap (laid []) cut.row_old ∙ cut_text cut.pre (row def u) cut.post fit.old_plain.marks in
      let old2 : text_of def f ≡ laid [] (cut.pre ++ row def u) ++ rest =
      ap (laid []) (cut.row_old ∙ sym (append_assoc cut.pre (row def u) cut.post)) ∙ laid-append [] (cut.pre ++ row def u) cut.post in
      let new : text_of def (replaced path v f) ≡ (laid [] cut.pre ++ front s (row def v)) ++ (laid [] (row def v) ++ laid (cut.pre ++ row def v) cut.post) =
      ap (laid []) cut.row_new ∙ cut_text cut.pre (row def v) cut.post fit.new_plain.marks in
      let same : laid (cut.pre ++ row def v) cut.post ≡ laid (cut.pre ++ row def u) cut.post =
      laid_is (cut.pre ++ row def v) cut.post
      ∙ sym (like_lay (state_of (cut.pre ++ row def u)) (state_of (cut.pre ++ row def v)) cut.post (later_node def u v fit cut.pre).like)
      ∙ sym (laid_is (cut.pre ++ row def u) cut.post) in
      let taken : take own.start (text_of def f) ≡ ahead =
      ap₂ take start_is old ∙ take-append_seam ahead (laid [] (row def u) ++ rest) in
      let dropped : drop own.end (text_of def f) ≡ rest = ap (drop own.end) old2 ∙ drop-append_seam (laid [] (cut.pre ++ row def u)) rest in
      new ∙ ap₂ (λ x y. (laid [] cut.pre ++ x) ++ (laid [] (row def v) ++ y)) (sym (same_front def u v fit s)) same
      ∙ sym (ap₂ (λ x y. x ++ (laid [] (row def v) ++ y)) taken dropped)

  begun : AllByRecursion (λ (s : Span). 0 < s.end) (spans_from def [] v [])
  begun = subst (AllByRecursion (λ (s : Span). 0 < s.end)) (map_from def top_spot v) fit.begun

  count_is : length (printed_of def u).spans ≡ length (spans_from def path u cut.pre)
  count_is = ap length (map_from def top_spot u) ∙ ap suc (count_below def [] path [] cut.pre 0 0 u)

  behind_is : drop (length cut.ahead + length (printed_of def u).spans) spans ≡ cut.rear
  behind_is =
      let front : List Span = cut.ahead ++ spans_from def path u cut.pre in
      ap₂ drop (ap (λ n. length cut.ahead + n) count_is ∙ sym (length-append cut.ahead (spans_from def path u cut.pre)))
      (spans_are ∙ sym (append_assoc cut.ahead (spans_from def path u cut.pre) cut.rear))
      ∙ drop-append_seam front cut.rear

  new_spans : map (span_of def) (placed_in def (replaced path v f)) ≡ spliced_spans (length cut.ahead) (length (printed_of def u).spans) own (printed_of def v) spans
  unfolding own
  new_spans =
      let b : ℕ = length (laid [] (row def v)) in
      let taken : take (length cut.ahead) spans ≡ cut.ahead =
      ap (take (length cut.ahead)) spans_are ∙ take-append_seam cut.ahead (spans_from def path u cut.pre ++ cut.rear) in
      let middle : spans_from def path v cut.pre ≡ map (set_in own) (printed_of def v).spans =
      set_from def u v fit path cut.pre begun ∙ ap (map (set_in own)) (sym (map_from def top_spot v)) in
      map_from def top_spot (replaced path v f) ∙ cut.spans_new
      ∙ ap (λ z. map (stretched path (length (laid [] (row def u))) b) cut.ahead ++ (z ++ map (shifted (length (laid [] (row def u))) b) cut.rear)) middle
      ∙ ap (λ n. map (stretched path n b) cut.ahead ++ (map (set_in own) (printed_of def v).spans ++ map (shifted n b) cut.rear)) (sym size_is)
      ∙ ap₂ (λ x y. map (stretched path (own.end - own.start) b) x ++ (map (set_in own) (printed_of def v).spans ++ map (shifted (own.end - own.start) b) y)) (sym taken) (sym behind_is)

  pub spliced_at : IsSplicedAt def f path u v
  spliced_at place node got e =
      let p : place ≡ length cut.ahead = place_is place node got e in
      let n : node ≡ own = node_is place node got p in
      let made : List ℕ → List Span → Printed = λ t s. record { text = t; spans = s } in
      let all : printed_of def (replaced path v f) ≡ spliced_in (length cut.ahead) (length (printed_of def u).spans) own (printed_of def v) (printed_of def f) =
      ap₂ made text_is new_spans in
      all ∙ ap₂ (λ x y. spliced_in x (length (printed_of def u).spans) y (printed_of def v) (printed_of def f)) (sym p) (sym n)

  -- the bytes of the span are the text of the old node
  pub own_text : (place : ℕ) (node : Span) → slice_get (printed_of def f).spans place ≡ Some node → node.path ≡ path
      → take (node.end - node.start) (drop node.start (text_of def f)) ≡ text_of def u
  own_text place node got e =
      let n : node ≡ own = node_is place node got (place_is place node got e) in
      let ahead : List ℕ = laid [] cut.pre ++ front (state_of cut.pre) (row def u) in
      let rest : List ℕ = laid (cut.pre ++ row def u) cut.post in
      let old : text_of def f ≡ ahead ++ (laid [] (row def u) ++ rest) =
      ap (laid []) cut.row_old ∙ cut_text cut.pre (row def u) cut.post fit.old_plain.marks in
      let dropped : drop own.start (text_of def f) ≡ laid [] (row def u) ++ rest =
      ap₂ drop start_is old ∙ drop-append_seam ahead (laid [] (row def u) ++ rest) in
      let taken : take (own.end - own.start) (drop own.start (text_of def f)) ≡ laid [] (row def u) =
      ap₂ take size_is dropped ∙ take-append_seam (laid [] (row def u)) rest in
      subst (λ (s : Span). take (s.end - s.start) (drop s.start (text_of def f)) ≡ laid [] (row def u)) (sym n) taken
