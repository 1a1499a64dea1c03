-- What the new region of a node is read as, and what the node is by that, clean or not.
use Rattle.std.proofs.Common.{◌≡◌, inl, inr, ℕ, ◌+◌, ◌-◌, ◌≤◌, List, ◌++◌, length, length-append, None, slice_get, ap, sym, ◌∙◌, subst, arith}
use Rattle.std.specs.Str.{chars, IsCharBoundary}
use Rattle.std.specs.Prelude.{Option, IfNone}
use Rattle.std.specs.List.{AllByRecursion}
use Rattle.std.proofs.lemmas.Option.{none-some}
use Rattle.psg_terms.proofs.Lists.{each_at, slice_get-map_some}
use Rattle.psg_grammar.specs.declared.types.Kind.{Kind}
use Rattle.psg_grammar.specs.declared.types.Definition.{Definition}
use Rattle.psg_grammar.specs.declared.limits.TheConstants.{MOST_BRACKETS}
use Rattle.psg_grammar.specs.Fragments.{Fragment}
use Rattle.psg_grammar.specs.Kinds.{IsOfKind}
use Rattle.psg_grammar.specs.Paths.{Path, node_at}
use Rattle.psg_grammar.specs.WellFormed.{fixed_words}
use Rattle.psg_lexis.specs.Tokens.{IsBeside}
use Rattle.psg_lexis.specs.declared.token.Spanned.{Spanned}
use Rattle.psg_lexis.proofs.Laws.{no_fault_with_tokens, only_tokens}
use Rattle.psg_class.specs.Texts.{HasNoTokens, ReadsAs, TextTokens, tokens_of}
use Rattle.psg_class.specs.Yields.{Yields}
use Rattle.psg_class.proofs.ClassFacts.{facts}
use Rattle.psg_parse.specs.declared.fault.Goal.{Goal}
use Rattle.psg_unparse.specs.Layout.{text_of}
use Rattle.psg_unparse.specs.Spots.{Placed, placed_in, IsPlacedAt}
use Rattle.psg_unparse.proofs.FixedTokens.{has_tokens as tokens_known}
use Rattle.psg_unparse.specs.Listing.{AreInOrder}
use Rattle.psg_unparse.specs.Splicing.{IsPlaceOf}
use Rattle.psg_unparse.specs.Spans.{printed_of, span_of}
use Rattle.psg_unparse.specs.declared.spans.Printed.{Printed}
use Rattle.psg_unparse.specs.declared.spans.Span.{Span}
use Rattle.psg_unparse.proofs.SplicePlaces.{spans_in_order}
use Rattle.psg_textedit.specs.Regions.{CountsText, has_tokens, has_none, Encloses, IsInside, new_text, region, region_of}
use Rattle.psg_textedit.specs.Surroundings.{Surrounds}
use Rattle.psg_textedit.proofs.Fills.{Filled}
use Rattle.psg_textedit.proofs.Surrounded.{IsSame, surrounded, surrounded_once}
use Rattle.psg_textedit.proofs.TypedNode.{HasBorders, all_filled, cut_at, has_borders, new_length, one_kind}
use Rattle.psg_textedit.specs.declared.nodes.Job.{Job}
use Rattle.psg_textedit.specs.declared.reading.Reading.{Reading}
use Rattle.psg_textedit.specs.declared.reading.Reading.TheVariants.{Clean, Deep, Unclean}
use Rattle.psg_textedit.specs.Jobs.{IsJob, IsHere, IsPathAnswer, language_of, tree_in, typing_in}
use Rattle.psg_textedit.specs.Lines.{lines_with}
use Rattle.psg_textedit.specs.Typing.{AreApart, HasRead, IsNodeAnswer, IsParsedAs, IsSpanAt, MayRead}
use Rattle.psg_textedit.proofs.JobTokens.{all_tokens, all_are, job_old, job_whole}
use Rattle.psg_textedit.proofs.Roots.{got_mapped}
use Rattle.psg_textedit.proofs.Ways.{way_low}
use Rattle.psg_textedit.proofs.Widening.{listed, one_place}

pub none_in : {X : Type 0} (P : Type 0) (o : Option X) → o ≡ None → IfNone o P → P
none_in P o e h = subst (λ q. IfNone q P) e h

-- ---- a region by itself

module _ (def : Definition) (goal : Goal) (text : List ℕ) where
  pub unread : HasNoTokens def text → (all : List Spanned) (start end : ℕ) → IsNodeAnswer def goal all start end text Unclean
  unread h all start end = λ apart tree d r. no_fault_with_tokens (fixed_words def) (chars text) 0 r.tokens h.0 r.are h.1

  pub across_start : (all : List Spanned) (start end : ℕ) → (AllByRecursion (IsBeside start) all → ⊥)
      → IsNodeAnswer def goal all start end text Unclean
  across_start all start end h = λ apart. absurd (h apart.begins)

  pub across_end : (all : List Spanned) (start end : ℕ) → (AllByRecursion (IsBeside end) all → ⊥)
      → IsNodeAnswer def goal all start end text Unclean
  across_end all start end h = λ apart. absurd (h apart.ends)

  pub answered : (ts us : List Spanned) → TextTokens def text ts → us ≡ ts → (all : List Spanned) (start end : ℕ)
      → AllByRecursion (IsBeside start) all → AllByRecursion (IsBeside end) all → (r : Reading) → IsParsedAs def goal us r
      → IsNodeAnswer def goal all start end text r
  answered ts us are same all start end begins ends (Clean tree) h = (
    record { begins = begins; ends = ends },
    record {
      nesting = h.0.nesting;
      reads = record { tokens = us; are = subst (TextTokens def text) (sym same) are; yields = h.0.reads };
      formed = h.1;
      depth = h.0.depth;
      brackets = h.0.brackets;
    },
  )
  answered ts us are same all start end begins ends Deep h = (
    record { begins = begins; ends = ends },
    record {
      tree = h.tree;
      nesting = h.nesting;
      reads = record { tokens = us; are = subst (TextTokens def text) (sym same) are; yields = h.reads };
      deep = h.deep;
    },
  )
  answered ts us are same all start end begins ends Unclean h = λ apart tree d r.
      let one : r.tokens ≡ us = only_tokens (fixed_words def) (chars text) 0 r.tokens ts r.are are ∙ sym same in
      h tree d (subst (λ xs. Yields def tree goal.kind goal.least d (tokens_of xs)) one r.yields)

  pub counted_none : HasNoTokens def text → (steps : ℕ) → HasRead def text steps steps
  counted_none h steps = (0, has_none h, omega arith)

  pub counted : (ts us : List Spanned) → TextTokens def text ts → us ≡ ts → (from to : ℕ) → to ≤ from + length us
      → HasRead def text from to
  counted ts us are same from to h = (length ts, has_tokens ts are, omega (arith, h, ap length same))

  pub may_stay : (steps : ℕ) → MayRead def text steps steps
  may_stay steps n c = omega arith

  pub may_read : (ts us : List Spanned) → TextTokens def text ts → us ≡ ts → (from to : ℕ) → to ≤ from + length us
      → MayRead def text from to
  may_read ts us are same from to h n c = by n c where
    by : (m : ℕ) → CountsText def text m → to ≤ from + m
    by _ (has_tokens vs b) =
        let one : ts ≡ vs = only_tokens (fixed_words def) (chars text) 0 ts vs are b in
        omega (arith, h, ap length same, ap length one)
    by _ (has_none b) = absurd (no_fault_with_tokens (fixed_words def) (chars text) 0 ts b.0 are b.1)

-- ---- a node

module _ (j : Job) (ok : IsJob j) (path : Path) (here : IsHere j path) where
  -- the span that is found is the node's
  pub span_is : (span : Span) → IsSpanAt (printed_of (language_of j) (tree_in j)).spans path span
      → span ≡ span_of (language_of j) here.0
  span_is span (k, found, at) =
      let (q, got, same) = got_mapped (span_of (language_of j)) (placed_in (language_of j) (tree_in j)) k span found in
      let one : q ≡ here.0 = one_place j ok path q here.0 (k, got, ap (λ (s : Span). s.path) same ∙ at) here.1 in
      sym same ∙ ap (span_of (language_of j)) one

  -- the node has a span, and spans are in order
  module _ (spans : List Span) (s : spans ≡ j.printed.now.spans) where
    pub has_span : (place : ℕ) × IsPlaceOf spans path place
    has_span = (
      here.1.0,
      record {
        span = span_of (language_of j) here.0;
        found =
            ap (λ xs. slice_get xs here.1.0) (s ∙ ap (λ (p : Printed). p.spans) ok.printed)
            ∙ slice_get-map_some (span_of (language_of j)) (placed_in (language_of j) (tree_in j)) here.1.0 here.0 here.1.1;
        path_is = here.1.2;
      },
    )

    pub in_order : AreInOrder spans
    in_order =
        subst AreInOrder (sym s) (spans_in_order (language_of j) (tree_in j) j.kind ok.formed j.printed.now ok.printed)

  pub no_node : node_at (tree_in j) path ≡ None → ⊥
  no_node e = none-some here.0.node (sym e ∙ (listed j ok).nodes path here.0 here.1)

  pub border : HasBorders (language_of j) (tree_in j) here.0
  border =
      has_borders (language_of j) ok.reader.sound ok.reader.tokens ok.reader.class (tree_in j) j.kind ok.printable ok.formed
      (typing_in j) ok.inside ok.new path here.0 here.1 here.2

  pub lengths : (length (new_text (language_of j) (tree_in j) (typing_in j)) + (span_of (language_of j) here.0).end
      ≡ (span_of (language_of j) here.0).start + length (region_of (language_of j) (tree_in j) (typing_in j) here.0)
      + length (text_of (language_of j) (tree_in j)))
      × ((span_of (language_of j) here.0).end ≤ length (text_of (language_of j) (tree_in j)))
  lengths =
      new_length (language_of j) (tree_in j) (typing_in j) here.0 (cut_at (language_of j) (tree_in j) path here.0 here.1) here.2

  -- the place that is found is the node's
  pub place_is : (n : Fragment) (l a : ℕ) → Surrounds (language_of j) (tree_in j) 0 0 path n l a
      → IsSame (language_of j) n here.0.node l here.0.spot.level a here.0.spot.around
  place_is n l a w =
      surrounded_once (language_of j) (tree_in j) 0 0 path n here.0.node l here.0.spot.level a here.0.spot.around w
      (surrounded (language_of j) (tree_in j) j.kind ok.formed path here.0 here.1)

  pub few_around : (n : Fragment) (l a : ℕ) → Surrounds (language_of j) (tree_in j) 0 0 path n l a → a ≤ MOST_BRACKETS
  few_around n l a w =
      let low = way_low (language_of j) (tree_in j) 0 0 path n l a w in
      omega (arith, low, ok.shallow)

  node_kind : (kind : Kind) × IsOfKind (language_of j) here.0.node kind
  node_kind =
      let f = each_at (Filled (language_of j) ok.reader.sound (facts (language_of j) ok.reader.class)
      (tokens_known (language_of j) ok.reader.tokens) (tree_in j) j.kind) (placed_in (language_of j) (tree_in j))
      (all_filled (language_of j) ok.reader.sound ok.reader.tokens ok.reader.class (tree_in j) j.kind ok.printable ok.formed)
      here.1.0 here.0 here.1.1 in
      (f.kind, f.of_kind)

  pub goal_kind : (n : Fragment) (kind : Kind) → n ≡ here.0.node → ((k : Kind) → IsOfKind (language_of j) n k → kind ≡ k)
      → IsOfKind (language_of j) here.0.node kind
  goal_kind n kind same is =
      let (k, of) = node_kind in
      subst (IsOfKind (language_of j) here.0.node) (sym (is k (subst (λ x. IsOfKind (language_of j) x k) (sym same) of))) of

  -- ---- the node's borders among the new lines

  pub lines_long : length j.lines.behind.now ≤ j.bytes
  lines_long = omega (
    arith,
    ok.bytes,
    length-append j.lines.before.now ((typing_in j).new ++ j.lines.behind.now),
    length-append (typing_in j).new j.lines.behind.now,
  )

  abbrev pub own_start : ℕ
  own_start = length j.lines.before.now - ((typing_in j).start - (span_of (language_of j) here.0).start)

  abbrev pub own_end : ℕ
  own_end = length (lines_with (typing_in j) j.lines.before.now j.lines.behind.now)
      - (length j.lines.behind.now - ((span_of (language_of j) here.0).end - (typing_in j).end))

  abbrev new_end : ℕ
  new_end = (span_of (language_of j) here.0).start + length (region_of (language_of j) (tree_in j) (typing_in j) here.0)

  apart_to : (goal : Goal) → AreApart (language_of j) goal j.all.now own_start own_end
      → AreApart (language_of j) goal (all_tokens j ok) (span_of (language_of j) here.0).start new_end
  apart_to goal h = record {
    begins = (job_whole j ok).start_to (span_of (language_of j) here.0).start here.2.0
        ((job_old j ok).start path here.0 here.1) h.begins;
    ends = (job_whole j ok).end_to (span_of (language_of j) here.0).end new_end here.2.1 lengths.1 lengths.0
        ((job_old j ok).end path here.0 here.1) h.ends;
  }

  apart_from : (goal : Goal)
      → AreApart (language_of j) goal (all_tokens j ok) (span_of (language_of j) here.0).start new_end
      → AreApart (language_of j) goal j.all.now own_start own_end
  apart_from goal h = record {
    begins = (job_whole j ok).start_from (span_of (language_of j) here.0).start here.2.0 h.begins;
    ends = (job_whole j ok).end_from (span_of (language_of j) here.0).end new_end here.2.1 lengths.1 lengths.0 h.ends;
  }

  pub whole_answer : (goal : Goal) (text : List ℕ) (r : Reading)
      → IsNodeAnswer (language_of j) goal j.all.now own_start own_end text r
      → IsNodeAnswer (language_of j) goal (all_tokens j ok) (span_of (language_of j) here.0).start new_end text r
  whole_answer goal text (Clean tree) h = (apart_to goal h.0, h.1)
  whole_answer goal text Deep h = (apart_to goal h.0, h.1)
  whole_answer goal text Unclean h = λ apart. h (apart_from goal apart)

  module _ (goal : Goal) (of : IsOfKind (language_of j) here.0.node goal.kind) (least : goal.least ≡ here.0.spot.level) (around : goal.around ≡ here.0.spot.around) where
    pub path_answer : (r : Reading)
        → IsNodeAnswer (language_of j) goal (all_tokens j ok) (span_of (language_of j) here.0).start
        ((span_of (language_of j) here.0).start + length (region_of (language_of j) (tree_in j) (typing_in j) here.0))
        (region_of (language_of j) (tree_in j) (typing_in j) here.0) r
        → IsPathAnswer j path r
    path_answer (Clean tree) h = record {
      p = here.0;
      placed = here.1;
      nesting = h.1.nesting;
      clean = record {
        all = all_tokens j ok;
        whole = all_are j ok;
        begins = h.0.begins;
        ends = h.0.ends;
        kind = goal.kind;
        of_kind = of;
        reads = subst (λ l. ReadsAs (language_of j) goal.kind l (region_of (language_of j) (tree_in j) (typing_in j) here.0)
            tree h.1.nesting) least h.1.reads;
      };
      kind = goal.kind;
      of_kind = of;
      formed = h.1.formed;
      depth = h.1.depth;
      brackets = omega (arith, h.1.brackets, around);
    }
    path_answer Deep h = record {
      p = here.0;
      placed = here.1;
      tree = h.1.tree;
      nesting = h.1.nesting;
      clean = record {
        all = all_tokens j ok;
        whole = all_are j ok;
        begins = h.0.begins;
        ends = h.0.ends;
        kind = goal.kind;
        of_kind = of;
        reads = subst (λ l. ReadsAs (language_of j) goal.kind l (region_of (language_of j) (tree_in j) (typing_in j) here.0)
            h.1.tree h.1.nesting) least h.1.reads;
      };
      deep = elim h.1.deep [ inl d ↦ inl d | inr n ↦ inr (omega (arith, n, around)) ];
    }
    path_answer Unclean h = (
      here.0,
      here.1,
      λ tree d clean.
          let one : clean.all ≡ all_tokens j ok =
          only_tokens (fixed_words (language_of j)) (chars (new_text (language_of j) (tree_in j) (typing_in j))) 0 clean.all
          (all_tokens j ok) clean.whole (all_are j ok) in
          let same : clean.kind ≡ goal.kind = one_kind (language_of j) here.0.node clean.kind goal.kind clean.of_kind of in
          h (record {
            begins = subst (AllByRecursion (IsBeside (span_of (language_of j) here.0).start)) one clean.begins;
            ends = subst (AllByRecursion (IsBeside ((span_of (language_of j) here.0).start
                + length (region_of (language_of j) (tree_in j) (typing_in j) here.0)))) one clean.ends;
          }) tree d
          (subst (λ l. ReadsAs (language_of j) goal.kind l (region_of (language_of j) (tree_in j) (typing_in j) here.0) tree d)
          (sym least)
          (subst (λ k. ReadsAs (language_of j) k here.0.spot.level (region_of (language_of j) (tree_in j) (typing_in j) here.0) tree d)
          same clean.reads)),
    )

  -- ---- the node by the values that the call has

  module _ (spans : List Span) (s : spans ≡ j.printed.now.spans) (text : List ℕ) (t : text ≡ j.printed.now.text) (span : Span) (found : IsSpanAt spans path span) where
    pub the_span : span ≡ span_of (language_of j) here.0
    the_span = span_is span (subst (λ xs. IsSpanAt xs path span) (s ∙ ap (λ (p : Printed). p.spans) ok.printed) found)

    pub the_text : text ≡ text_of (language_of j) (tree_in j)
    the_text = t ∙ ap (λ (p : Printed). p.text) ok.printed

    pub ready_inside : IsInside (typing_in j) text
    ready_inside = subst (IsInside (typing_in j)) (sym the_text) ok.inside

    pub ready_encloses : Encloses (typing_in j) span
    ready_encloses = subst (Encloses (typing_in j)) (sym the_span) here.2

    pub ready_start : IsCharBoundary text span.start
    ready_start =
        subst (λ x. IsCharBoundary x span.start) (sym the_text)
        (subst (λ (x : Span). IsCharBoundary (text_of (language_of j) (tree_in j)) x.start) (sym the_span) border.low)

    pub ready_end : IsCharBoundary text span.end
    ready_end =
        subst (λ x. IsCharBoundary x span.end) (sym the_text)
        (subst (λ (x : Span). IsCharBoundary (text_of (language_of j) (tree_in j)) x.end) (sym the_span) border.high)

    pub ready_behind : span.end ≤ length text
    ready_behind = omega (arith, lengths.1, ap length the_text, ap (λ (x : Span). x.end) the_span)

    pub region_is : (own : List ℕ) → own ≡ region (typing_in j) span text
        → own ≡ region_of (language_of j) (tree_in j) (typing_in j) here.0
    region_is own e = e ∙ ap (λ x. region (typing_in j) x text) the_span
        ∙ ap (region (typing_in j) (span_of (language_of j) here.0)) the_text

    pub node_answer : (goal : Goal) (n : Fragment) (l a : ℕ)
        → Surrounds (language_of j) (tree_in j) 0 0 path n l a
        → ((k : Kind) → IsOfKind (language_of j) n k → goal.kind ≡ k) → goal.least ≡ l → goal.around ≡ a
        → (all : List Spanned) → all ≡ j.all.now
        → (start : ℕ) → start ≡ length j.lines.before.now - ((typing_in j).start - span.start)
        → (end : ℕ) → end ≡ j.bytes - (length j.lines.behind.now - (span.end - (typing_in j).end))
        → (own : List ℕ) → own ≡ region (typing_in j) span text → (r : Reading)
        → IsNodeAnswer (language_of j) goal all start end own r → IsPathAnswer j path r
    node_answer goal n l a w kind least around all is start begins end ends own o r h =
        let same = place_is n l a w in
        path_answer goal (goal_kind n goal.kind same.node kind) (least ∙ same.level) (around ∙ same.around) r
        (subst (λ bs. IsNodeAnswer (language_of j) goal (all_tokens j ok) (span_of (language_of j) here.0).start
        ((span_of (language_of j) here.0).start + length (region_of (language_of j) (tree_in j) (typing_in j) here.0)) bs r)
        (region_is own o)
        (whole_answer goal own r
        (subst (λ ts. IsNodeAnswer (language_of j) goal ts own_start own_end own r) is
        (subst (λ n. IsNodeAnswer (language_of j) goal all n own_end own r)
        (begins ∙ ap (λ (x : Span). length j.lines.before.now - ((typing_in j).start - x.start)) the_span)
        (subst (λ n. IsNodeAnswer (language_of j) goal all start n own r)
        (ends ∙ ap (λ (x : Span). j.bytes - (length j.lines.behind.now - (x.end - (typing_in j).end))) the_span
        ∙ ap (λ n. n - (length j.lines.behind.now - ((span_of (language_of j) here.0).end - (typing_in j).end))) ok.bytes) h)))))

    pub node_counted : (own : List ℕ) → own ≡ region (typing_in j) span text → (from to : ℕ)
        → HasRead (language_of j) own from to → (p : Placed) → IsPlacedAt (language_of j) (tree_in j) path p
        → HasRead (language_of j) (region_of (language_of j) (tree_in j) (typing_in j) p) from to
    node_counted own o from to h p at =
        subst (λ x. HasRead (language_of j) (region_of (language_of j) (tree_in j) (typing_in j) x) from to)
        (one_place j ok path here.0 p here.1 at)
        (subst (λ bs. HasRead (language_of j) bs from to) (region_is own o) h)

    pub node_steps : (own : List ℕ) → own ≡ region (typing_in j) span text → (from to : ℕ)
        → MayRead (language_of j) own from to → (p : Placed) → IsPlacedAt (language_of j) (tree_in j) path p
        → MayRead (language_of j) (region_of (language_of j) (tree_in j) (typing_in j) p) from to
    node_steps own o from to h p at =
        subst (λ x. MayRead (language_of j) (region_of (language_of j) (tree_in j) (typing_in j) x) from to)
        (one_place j ok path here.0 p here.1 at)
        (subst (λ bs. MayRead (language_of j) bs from to) (region_is own o) h)
