-- The tree of a clean node, put in its place, is the tree of the whole new text.
use Rattle.std.proofs.Common.{◌≡◌, ℕ, ◌+◌, ◌≤◌, max, List, [], ◌++◌, length, length-append, take, Some, slice_get, refl, ap, sym, ◌∙◌, subst, append_assoc, arith}
use Rattle.std.specs.Str.{chars, IsUtf8, IsCharBoundary}
use Rattle.std.specs.List.{AllByRecursion}
use Rattle.std.proofs.lemmas.Str.{IsUtf8-append, IsUtf8-between, IsCharBoundary-at_seam, IsCharBoundary-from_take}
use Rattle.psg_terms.proofs.Lists.{each_at}
use Rattle.psg_grammar.specs.declared.types.Kind.{Kind}
use Rattle.psg_grammar.specs.declared.types.Kind.TheVariants as kinds
use Rattle.psg_grammar.specs.declared.types.Definition.{Definition}
use Rattle.psg_grammar.specs.declared.types.Operator.{Operator}
use Rattle.psg_grammar.specs.Fragments.{Fragment, hole, ending, cell, operator, with_child, with_name, with_number, with_text, anything, observed}
use Rattle.psg_grammar.specs.Kinds.{IsOfKind}
use Rattle.psg_grammar.specs.Paths.{Path, replaced}
use Rattle.psg_grammar.specs.Printable.{IsPrintable}
use Rattle.psg_grammar.specs.Sound.{IsSound}
use Rattle.psg_grammar.specs.WellFormed.{WellFormed, fixed_words}
use Rattle.psg_lexis.specs.Tokens.{bytes_of, HasTokens, IsBeside, IsFixedWord}
use Rattle.psg_lexis.specs.declared.token.Spanned.{Spanned}
use Rattle.psg_class.specs.Class.{IsClass}
use Rattle.psg_class.specs.Texts.{tokens_of}
use Rattle.psg_class.specs.Yields.{Yields}
use Rattle.psg_class.proofs.ClassFacts.{facts}
use Rattle.psg_unparse.specs.Rows.{row, operator_of}
use Rattle.psg_unparse.specs.Layout.{laid, lead, text_of}
use Rattle.psg_unparse.specs.Nodes.{part_of}
use Rattle.psg_unparse.specs.Spots.{Placed, placed_in, IsPlacedAt}
use Rattle.psg_unparse.proofs.Rows.{laid-append, IsCutAt, cut_in}
use Rattle.psg_unparse.proofs.Lexing.{Lexed, bare, lead_and_bare, laid_tokens}
use Rattle.psg_unparse.proofs.FixedTokens.{has_tokens}
use Rattle.psg_unparse.proofs.SlotSteps.{below_zero}
use Rattle.psg_unparse.proofs.NodesBack.{take_front}
use Rattle.psg_unparse.proofs.Trees.{claim}
use Rattle.psg_unparse.specs.Spans.{printed_of, span_of}
use Rattle.psg_unparse.specs.Splicing.{CutsNone}
use Rattle.psg_unparse.specs.declared.spans.Printed.{Printed}
use Rattle.psg_unparse.specs.declared.spans.Span.{Span}
use Rattle.psg_unparse.proofs.SpliceLaw.{map_got}
use Rattle.psg_textedit.specs.Regions.{Typing, IsInside, Encloses, IsClean, new_text, region_of}
use Rattle.psg_textedit.specs.Laws.{IsReplacedIn, CleanIsTyped}
use Rattle.psg_textedit.proofs.Parts.{old_in}
use Rattle.psg_textedit.proofs.Fills.{Filled, filled}
use Rattle.psg_textedit.proofs.Seams.{seam, lead_blanks, blanks_utf8, laid_utf8}
use Rattle.psg_textedit.proofs.Cuts.{three, gap_after_tokens}

module _ (def : Definition) where
  same_operator : (n : ℕ) (o p : Operator) (k j : Kind) → slice_get def.operators n ≡ Some o
      → slice_get def.operators n ≡ Some p → k ≡ kinds.Phylum o.phylum → j ≡ kinds.Phylum p.phylum → k ≡ j
  same_operator n o p k j e f a b =
      let both : Some o ≡ Some p = sym e ∙ f in
      let same : o ≡ p = cc in
      a ∙ ap (λ (q : Operator). kinds.Phylum q.phylum) same ∙ sym b

  -- a node has one kind
  pub one_kind : (f : Fragment) (k j : Kind) → IsOfKind def f k → IsOfKind def f j → k ≡ j
  one_kind (hole p) k j a b = a ∙ sym b
  one_kind (ending l u) k j a b = a ∙ sym b
  one_kind (cell l e r) k j a b = a ∙ sym b
  one_kind (operator n) k j a b = same_operator n a.0 b.0 k j a.1 b.1 a.2 b.2
  one_kind (with_child f t) k j a b = one_kind f k j a b
  one_kind (with_name f n) k j a b = one_kind f k j a b
  one_kind (with_number f n) k j a b = one_kind f k j a b
  one_kind (with_text f t) k j a b = one_kind f k j a b
  one_kind anything k j a b = absurd a
  one_kind (observed f) k j a b = one_kind f k j a b

  -- the bytes in front of a node, its own, and those after it
  abbrev pub front_of : Placed → List ℕ
  front_of p = laid [] p.spot.before ++ lead p.spot.before (row def p.node)

  abbrev pub own_of : Placed → List ℕ
  own_of p = bare p.spot.before (row def p.node)

  abbrev pub back_of : Placed → List ℕ
  back_of p = laid (p.spot.before ++ row def p.node) p.spot.behind

  pub up_to_node : (p : Placed) → laid [] (p.spot.before ++ row def p.node) ≡ front_of p ++ own_of p
  up_to_node p =
      laid-append [] p.spot.before (row def p.node)
      ∙ ap (λ x. laid [] p.spot.before ++ x) (lead_and_bare p.spot.before (row def p.node))
      ∙ sym (append_assoc (laid [] p.spot.before) (lead p.spot.before (row def p.node)) (own_of p))

  pub whole_text : (f : Fragment) (p : Placed) → IsCutAt def (row def f) p
      → text_of def f ≡ front_of p ++ (own_of p ++ back_of p)
  whole_text f p cut =
      ap (laid []) (sym cut ∙ sym (append_assoc p.spot.before (row def p.node) p.spot.behind))
      ∙ laid-append [] (p.spot.before ++ row def p.node) p.spot.behind
      ∙ ap (λ x. x ++ back_of p) (up_to_node p)
      ∙ append_assoc (front_of p) (own_of p) (back_of p)

  -- The new text is what is in front of a node, its new region and what is after it.
  pub new_seam : (f : Fragment) (e : Typing) (p : Placed) → IsCutAt def (row def f) p → Encloses e (span_of def p)
      → new_text def f e ≡ front_of p ++ (region_of def f e p ++ back_of p)
  new_seam f e p cut around =
      seam e (span_of def p) (text_of def f) (front_of p) (own_of p) (back_of p) (whole_text f p cut)
      (sym (length-append (laid [] p.spot.before) (lead p.spot.before (row def p.node)))) (ap length (up_to_node p)) around

  pub cut_at : (f : Fragment) (path : Path) (p : Placed) → IsPlacedAt def f path p → IsCutAt def (row def f) p
  cut_at f path p h = each_at (IsCutAt def (row def f)) (placed_in def f) (cut_in def f) h.0 p h.1

  -- the span of a node cuts no character
  pub record HasBorders (f : Fragment) (p : Placed) : Type 0 where
    pub low : IsCharBoundary (text_of def f) (span_of def p).start
    pub high : IsCharBoundary (text_of def f) (span_of def p).end

  pub borders : (f : Fragment) (p : Placed) → IsUtf8 (text_of def f) → IsUtf8 (front_of p) → IsUtf8 (back_of p)
      → IsCutAt def (row def f) p → HasBorders f p
  borders f p all front back cut =
      let text : List ℕ = text_of def f in
      let is : text ≡ front_of p ++ (own_of p ++ back_of p) = whole_text f p cut in
      let start : (span_of def p).start ≡ length (front_of p) =
      sym (length-append (laid [] p.spot.before) (lead p.spot.before (row def p.node))) in
      let end : (span_of def p).end ≡ length (front_of p ++ own_of p) = ap length (up_to_node p) in
      let size : length text ≡ length (front_of p) + length (own_of p ++ back_of p) =
      ap length is ∙ length-append (front_of p) (own_of p ++ back_of p) in
      let taken : take (length (front_of p)) text ≡ front_of p =
      ap (take (length (front_of p))) is ∙ take_front (front_of p) (own_of p ++ back_of p) in
      record {
        low = subst (IsCharBoundary text) (sym start)
            (IsCharBoundary-from_take text (length (front_of p)) all (omega (arith, size)) (subst IsUtf8 (sym taken) front));
        high = subst (IsCharBoundary text) (sym end)
            (IsCharBoundary-at_seam text (front_of p ++ own_of p) (back_of p)
            (is ∙ sym (append_assoc (front_of p) (own_of p) (back_of p))) back);
      }

  -- a new region is UTF-8
  pub region_utf8 : (f : Fragment) (e : Typing) (p : Placed) → IsUtf8 (text_of def f) → HasBorders f p
      → Encloses e (span_of def p) → IsInside e (text_of def f) → IsUtf8 e.new → IsUtf8 (region_of def f e p)
  region_utf8 f e p all b around inside new =
      let text : List ℕ = text_of def f in
      IsUtf8-append (part_of (span_of def p).start e.start text) (e.new ++ part_of e.end (span_of def p).end text)
      (IsUtf8-between text (span_of def p).start e.start all around.0 b.low inside.start_whole)
      (IsUtf8-append e.new (part_of e.end (span_of def p).end text) new
      (IsUtf8-between text e.end (span_of def p).end all around.1 inside.end_whole b.high))

  -- how long the new text is: as much longer as the region is
  pub new_length : (f : Fragment) (e : Typing) (p : Placed) → IsCutAt def (row def f) p → Encloses e (span_of def p)
      → (length (new_text def f e) + (span_of def p).end
      ≡ (span_of def p).start + length (region_of def f e p) + length (text_of def f)) × ((span_of def p).end ≤ length (text_of def f))
  new_length f e p cut around =
      let start : (span_of def p).start ≡ length (front_of p) =
      sym (length-append (laid [] p.spot.before) (lead p.spot.before (row def p.node))) in
      let end : (span_of def p).end ≡ length (front_of p) + length (own_of p) =
      ap length (up_to_node p) ∙ length-append (front_of p) (own_of p) in
      let old : length (text_of def f) ≡ length (front_of p) + (length (own_of p) + length (back_of p)) =
      ap length (whole_text f p cut) ∙ length-append (front_of p) (own_of p ++ back_of p)
      ∙ ap (λ n. length (front_of p) + n) (length-append (own_of p) (back_of p)) in
      let new : length (new_text def f e) ≡ length (front_of p) + (length (region_of def f e p) + length (back_of p)) =
      ap length (new_seam f e p cut around) ∙ length-append (front_of p) (region_of def f e p ++ back_of p)
      ∙ ap (λ n. length (front_of p) + n) (length-append (region_of def f e p) (back_of p)) in
      (omega (arith, start, end, old, new), omega (arith, end, old))

module _ (def : Definition) (sound : IsSound def) (words : AllByRecursion IsFixedWord (fixed_words def)) (class : IsClass def) where
  pub all_filled : (f : Fragment) (kind : Kind) → IsPrintable f → WellFormed def f kind
      → AllByRecursion (Filled def sound (facts def class) (has_tokens def words) f kind) (placed_in def f)
  all_filled f kind printable formed =
      filled def sound (facts def class) (has_tokens def words) f kind formed.0 formed.1 printable

  pub text_utf8 : (f : Fragment) (kind : Kind) → IsPrintable f → WellFormed def f kind → IsUtf8 (text_of def f)
  text_utf8 f kind printable formed =
      let o = old_in def f kind 0 (below_zero (operator_of def f))
      ((claim def sound (facts def class) (has_tokens def words) f [] kind formed.0 formed.1 printable).whole refl) in
      laid_utf8 (fixed_words def) [] (row def f) o.tokens o.has

  module _ (f : Fragment) (kind : Kind) (printable : IsPrintable f) (formed : WellFormed def f kind) (path : Path) (p : Placed) (at : IsPlacedAt def f path p) where
    pub filled_at : Filled def sound (facts def class) (has_tokens def words) f kind p
    filled_at = each_at (Filled def sound (facts def class) (has_tokens def words) f kind) (placed_in def f)
        (all_filled f kind printable formed) at.0 p at.1

    front_at : IsUtf8 (front_of def p)
    front_at =
        IsUtf8-append (laid [] p.spot.before) (lead p.spot.before (row def p.node))
        (laid_utf8 (fixed_words def) [] p.spot.before filled_at.hole.front filled_at.hole.has_front)
        (blanks_utf8 (lead p.spot.before (row def p.node)) (lead_blanks p.spot.before (row def p.node)))

    back_at : IsUtf8 (back_of def p)
    back_at =
        laid_utf8 (fixed_words def) (p.spot.before ++ row def p.node) p.spot.behind filled_at.hole.back
        filled_at.hole.has_back

    pub borders_at : HasBorders def f p
    borders_at = borders def f p (text_utf8 f kind printable formed) front_at back_at (cut_at def f path p at)

  -- no node of a printed tree begins or ends inside a character
  pub cuts_none : (f : Fragment) (kind : Kind) → IsPrintable f → WellFormed def f kind → (before : Printed)
      → before ≡ printed_of def f → CutsNone before
  cuts_none f kind printable formed before is =
      subst CutsNone (sym is) (λ k s got.
      let (p, there, same) = map_got (span_of def) (placed_in def f) k s got in
      let b : HasBorders def f p = borders_at f kind printable formed p.spot.path p (k, there, refl) in (
        subst (λ (x : Span). IsCharBoundary (text_of def f) x.start) same b.low,
        subst (λ (x : Span). IsCharBoundary (text_of def f) x.end) same b.high,
      ))

  module _ (f : Fragment) (kind : Kind) (printable : IsPrintable f) (formed : WellFormed def f kind) (e : Typing) (inside : IsInside e (text_of def f)) (new : IsUtf8 e.new) (path : Path) (p : Placed) (at : IsPlacedAt def f path p) (around : Encloses e (span_of def p)) where
    pub here : Filled def sound (facts def class) (has_tokens def words) f kind p
    here = filled_at f kind printable formed path p at

    front_utf8 : IsUtf8 (front_of def p)
    front_utf8 = front_at f kind printable formed path p at

    back_utf8 : IsUtf8 (back_of def p)
    back_utf8 = back_at f kind printable formed path p at

    pub has_borders : HasBorders def f p
    has_borders = borders_at f kind printable formed path p at

    pub is_utf8 : IsUtf8 (region_of def f e p)
    is_utf8 = region_utf8 def f e p (text_utf8 f kind printable formed) has_borders around inside new

    -- the tokens of the whole new text, where none is across a border
    pub all_tokens : (all rs : List Spanned) → HasTokens (fixed_words def) (chars (new_text def f e)) 0 all
        → AllByRecursion (IsBeside (span_of def p).start) all
        → AllByRecursion (IsBeside ((span_of def p).start + length (region_of def f e p))) all
        → HasTokens (fixed_words def) (chars (region_of def f e p)) 0 rs
        → tokens_of all ≡ here.hole.front ++ (tokens_of rs ++ here.hole.back)
    all_tokens all rs whole begins ends has =
        let fixed = fixed_words def in
        let l : Lexed fixed (laid [] p.spot.before) 0 here.hole.front =
        laid_tokens fixed [] p.spot.before here.hole.front here.hole.has_front 0 in
        let after : ℕ = 0 + bytes_of (chars (front_of def p)) + bytes_of (chars (region_of def f e p)) in
        let b : Lexed fixed (back_of def p) after here.hole.back =
        laid_tokens fixed (p.spot.before ++ row def p.node) p.spot.behind here.hole.back here.hole.has_back after in
        let start : (span_of def p).start ≡ length (front_of def p) =
        sym (length-append (laid [] p.spot.before) (lead p.spot.before (row def p.node))) in
        let parts : HasTokens fixed (chars (front_of def p ++ (region_of def f e p ++ back_of def p))) 0 all =
        subst (λ bs. HasTokens fixed (chars bs) 0 all) (new_seam def f e p (cut_at def f path p at) around) whole in
        three fixed (front_of def p) (region_of def f e p) (back_of def p) all l.spans rs b.spans front_utf8 is_utf8 parts
        (subst (λ n. AllByRecursion (IsBeside n) all) start begins)
        (subst (λ n. AllByRecursion (IsBeside (n + length (region_of def f e p))) all) start ends)
        (gap_after_tokens fixed (laid [] p.spot.before) (lead p.spot.before (row def p.node)) l.spans
        (laid_utf8 fixed [] p.spot.before here.hole.front here.hole.has_front)
        (lead_blanks p.spot.before (row def p.node)) l.are)
        has b.are
        ∙ ap (λ us. us ++ (tokens_of rs ++ tokens_of b.spans)) l.tokens
        ∙ ap (λ us. here.hole.front ++ (tokens_of rs ++ us)) b.tokens

    pub replaced_in : (tree : Fragment) (m : ℕ) → IsClean def f e p tree m → IsReplacedIn def f e kind path p tree m
    replaced_in tree m clean =
        let same : clean.kind ≡ here.kind = one_kind def p.node clean.kind here.kind clean.of_kind here.of_kind in
        let own : Yields def tree here.kind p.spot.level m (tokens_of clean.reads.tokens) =
        subst (λ k. Yields def tree k p.spot.level m (tokens_of clean.reads.tokens)) same clean.reads.yields in
        let d : ℕ = max here.hole.elsewhere (p.spot.around + m) in
        let made : Yields def (replaced path tree f) kind 0 d
        (here.hole.front ++ (tokens_of clean.reads.tokens ++ here.hole.back)) =
        subst (λ q. Yields def (replaced q tree f) kind 0 d
        (here.hole.front ++ (tokens_of clean.reads.tokens ++ here.hole.back))) at.2
        (here.hole.fills tree m (tokens_of clean.reads.tokens) own) in
        record {
          elsewhere = here.hole.elsewhere;
          shallow = here.hole.shallow;
          reads = record {
            tokens = clean.all;
            are = clean.whole;
            yields = subst (Yields def (replaced path tree f) kind 0 d)
                (sym (all_tokens clean.all clean.reads.tokens clean.whole clean.begins clean.ends clean.reads.are)) made;
          };
        }

  pub typed : (f : Fragment) → CleanIsTyped def f
  typed f kind printable formed e inside new path p tree m at around clean =
      replaced_in f kind printable formed e inside new path p at around tree m clean
