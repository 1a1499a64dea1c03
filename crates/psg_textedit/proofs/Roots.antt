-- The whole text is that of the first span; which node is read first; and what follows where none is clean.
use Rattle.std.proofs.Common.{◌≡◌, ℕ, zero, suc, ◌+◌, ◌<◌, ◌≤◌, List, [], ◌∷◌, ◌++◌, length, map, Option, Some, None, slice_get, refl, ap, sym, ◌∙◌, subst, append-nil, arith}
use Rattle.std.specs.Str.{chars}
use Rattle.std.specs.List.{AllByRecursion}
use Rattle.std.proofs.lemmas.Option.{none-some, slice_get_within}
use Rattle.psg_grammar.specs.declared.types.Kind.{Kind}
use Rattle.psg_grammar.specs.declared.types.Definition.{Definition}
use Rattle.psg_grammar.specs.Fragments.{Fragment}
use Rattle.psg_grammar.specs.Paths.{Path}
use Rattle.psg_grammar.specs.WellFormed.{WellFormed, fixed_words}
use Rattle.psg_lexis.specs.Tokens.{bytes_of, HasTokens, IsBeside}
use Rattle.psg_unparse.specs.Layout.{gap_after, last_in, lead, text_of}
use Rattle.psg_unparse.specs.Rows.{Piece, token, mark, row}
use Rattle.psg_unparse.specs.Spots.{Placed, placed_in, IsPlacedAt, top_spot}
use Rattle.psg_unparse.proofs.Borders.{starts_within}
use Rattle.psg_unparse.proofs.Rows.{last_in-append}
use Rattle.psg_unparse.specs.Spans.{printed_of, span_of}
use Rattle.psg_unparse.specs.declared.spans.Span.{Span}
use Rattle.psg_unparse.proofs.Listed.{placed-top, proper}
use Rattle.psg_textedit.specs.Regions.{Typing, Encloses, IsInnermost, IsInside, IsReading, has_no_place, reads, IsUnclean, Widens, new_text, region_of}
use Rattle.psg_textedit.proofs.Readings.{innermost_once}
use Rattle.psg_textedit.proofs.Fills.{fits_kind}
use Rattle.psg_textedit.proofs.Cuts.{size_of}
use Rattle.psg_textedit.proofs.TypedNode.{cut_at, new_seam}
use Rattle.psg_textedit.specs.declared.change.TextFault.TheVariants as faults
use Rattle.psg_textedit.specs.declared.nodes.Job.{Job}
use Rattle.psg_textedit.specs.Jobs.{IsJob, IsHere, language_of, tree_in, typing_in}
use Rattle.psg_textedit.specs.Typing.{IsBest, IsTextFault}
use Rattle.psg_textedit.proofs.Feeds.{beside_end, beside_start, ends_within}
use Rattle.psg_textedit.proofs.JobTokens.{all_tokens, all_are, new_utf8}
use Rattle.psg_textedit.proofs.Widening.{not_outside, one_place}

-- ---- the first node

lead_top : (before r : List Piece) → last_in None before ≡ None → lead before r ≡ []
lead_top before [] e = refl
lead_top before (token t ∷ r) e = ap (λ c. gap_after c before (chars t)) e
lead_top before (mark i ∷ r) e = lead_top (before ++ mark i ∷ []) r (last_in-append None before (mark i ∷ []) ∙ e)

pub got_mapped : (g : Placed → Span) (xs : List Placed) (k : ℕ) (s : Span) → slice_get (map g xs) k ≡ Some s
    → (p : Placed) × (slice_get xs k ≡ Some p) × (g p ≡ s)
got_mapped g [] k s e = absurd (none-some s e)
got_mapped g (x ∷ xs) zero s e = (x, refl, (let f : Some (g x) ≡ Some s = e in cc))
got_mapped g (x ∷ xs) (suc k) s e = got_mapped g xs k s e

mapped_got : (g : Placed → Span) (xs : List Placed) (k : ℕ) (p : Placed) → slice_get xs k ≡ Some p
    → slice_get (map g xs) k ≡ Some (g p)
mapped_got g [] k p e = absurd (none-some p e)
mapped_got g (x ∷ xs) zero p e = let f : Some x ≡ Some p = e in let same : x ≡ p = cc in ap (λ y. Some (g y)) same
mapped_got g (x ∷ xs) (suc k) p e = mapped_got g xs k p e

module _ (def : Definition) (f : Fragment) where
  abbrev pub top_of : Placed
  top_of = record { spot = top_spot; node = f }

  top_first : (kind : Kind) → WellFormed def f kind → slice_get (placed_in def f) 0 ≡ Some top_of
  top_first kind h =
      subst (λ ps. slice_get ps 0 ≡ Some top_of) (placed-top def top_spot f (proper def f [] kind h.0 h.1)) refl

  pub top_placed : (kind : Kind) → WellFormed def f kind → IsPlacedAt def f [] top_of
  top_placed kind h = (0, top_first kind h, refl)

  pub top_start : (span_of def top_of).start ≡ 0
  top_start = ap (λ bs. 0 + length bs) (lead_top [] (row def f) refl)

  pub top_encloses : (e : Typing) → IsInside e (text_of def f) → Encloses e (span_of def top_of)
  top_encloses e i = (omega (arith, top_start), i.within)

  -- its new region is the whole new text
  pub top_region : (kind : Kind) → WellFormed def f kind → (e : Typing) → IsInside e (text_of def f)
      → new_text def f e ≡ region_of def f e top_of
  top_region kind h e i =
      new_seam def f e top_of (cut_at def f [] top_of (top_placed kind h)) (top_encloses e i)
      ∙ ap (λ bs. bs ++ (region_of def f e top_of ++ [])) (lead_top [] (row def f) refl)
      ∙ append-nil (region_of def f e top_of)

  pub first_encloses : (kind : Kind) → WellFormed def f kind → (e : Typing) → IsInside e (text_of def f) → (span : Span)
      → slice_get (printed_of def f).spans 0 ≡ Some span → Encloses e span
  first_encloses kind h e i span got =
      let both : Some (span_of def top_of) ≡ Some span = sym (mapped_got (span_of def) (placed_in def f) 0 top_of (top_first kind h)) ∙ got in
      let same : span_of def top_of ≡ span = cc in
      subst (Encloses e) same (top_encloses e i)

  pub some_spans : (kind : Kind) → WellFormed def f kind → 0 < length (printed_of def f).spans
  some_spans kind h =
      some (printed_of def f).spans (span_of def top_of)
      (mapped_got (span_of def) (placed_in def f) 0 top_of (top_first kind h))
    where
      some : (xs : List Span) (s : Span) → slice_get xs 0 ≡ Some s → 0 < length xs
      some [] s e = absurd (none-some s e)
      some (x ∷ xs) s e = omega arith

  pub best_placed : (e : Typing) (limit best : ℕ) (b : IsBest (printed_of def f).spans e limit best)
      → (p : Placed) × IsPlacedAt def f b.span.path p × (span_of def p ≡ b.span)
  best_placed e limit best b =
      let (p, got, same) = got_mapped (span_of def) (placed_in def f) best b.span b.found in
      (p, (best, got, ap (λ (s : Span). s.path) same), same)

  pub best_innermost : (e : Typing) (best : ℕ)
      → (b : IsBest (printed_of def f).spans e (length (printed_of def f).spans) best)
      → IsInnermost (printed_of def f).spans e b.span.path
  best_innermost e best b = record {
    number = best;
    span = b.span;
    found = b.found;
    path_is = refl;
    encloses = b.encloses;
    deepest = λ k other got around. b.deepest k other (slice_get_within (printed_of def f).spans k other got) got around;
    first = b.first;
  }

-- ---- the reading that begins at the best span

module _ (def : Definition) (f : Fragment) (e : Typing) (i : IsInside e (text_of def f)) (spans : List Span) (same : spans ≡ (printed_of def f).spans) (best : ℕ) (b : IsBest spans e (length spans) best) where
  pub there : IsBest (printed_of def f).spans e (length (printed_of def f).spans) best
  there = subst (λ xs. IsBest xs e (length xs) best) same b

  -- the path of the span that was found
  pub first_path : (span : Span) → slice_get spans best ≡ Some span → (steps : Path) → steps ≡ span.path → steps ≡ there.span.path
  first_path span got steps is =
      let both : Some span ≡ Some there.span = sym got ∙ ap (λ xs. slice_get xs best) same ∙ there.found in
      let one : span ≡ there.span = cc in
      is ∙ ap (λ (x : Span). x.path) one

  pub begins_reading : (path : Path) → path ≡ there.span.path → (found : Option Path) (n : ℕ) → Widens def f e path found n
      → IsReading def f e found n
  begins_reading path is found n w =
      reads there.span.path (not_outside e (text_of def f) i) (best_innermost def f e best there)
      (subst (λ q. Widens def f e q found n) is w)

  pub reading_ticks : (path : Path) → path ≡ there.span.path → (from to : ℕ)
      → ((found : Option Path) (n : ℕ) → Widens def f e path found n → to ≤ from + n)
      → (found : Option Path) (n : ℕ) → IsReading def f e found n → to ≤ from + n
  reading_ticks path is from to h _ _ (has_no_place out) = absurd (not_outside e (text_of def f) i out)
  reading_ticks path is from to h found n (reads q inside first w) =
      let one : q ≡ there.span.path =
      innermost_once (printed_of def f).spans e q there.span.path first (best_innermost def f e best there) in
      h found n (subst (λ x. Widens def f e x found n) (one ∙ sym is) w)

module _ (j : Job) (ok : IsJob j) where
  pub best_here : (best : ℕ) (limit : ℕ)
      → (b : IsBest (printed_of (language_of j) (tree_in j)).spans (typing_in j) limit best) → IsHere j b.span.path
  best_here best limit b =
      let (p, at, same) = best_placed (language_of j) (tree_in j) (typing_in j) limit best b in
      (p, at, subst (Encloses (typing_in j)) (sym same) b.encloses)

  -- where the whole is not clean, no tree has its tokens
  pub no_tree : (p : Placed) × IsPlacedAt (language_of j) (tree_in j) [] p
      × IsUnclean (language_of j) (tree_in j) (typing_in j) p
      → IsTextFault (language_of j) (tree_in j) (typing_in j) j.kind faults.NoTree
  no_tree (p, at, unclean) =
      let same : p ≡ top_of (language_of j) (tree_in j) =
      one_place j ok [] p (top_of (language_of j) (tree_in j)) at (top_placed (language_of j) (tree_in j) j.kind ok.formed) in
      let region : new_text (language_of j) (tree_in j) (typing_in j)
      ≡ region_of (language_of j) (tree_in j) (typing_in j) (top_of (language_of j) (tree_in j)) =
      top_region (language_of j) (tree_in j) j.kind ok.formed (typing_in j) ok.inside in (
        not_outside (typing_in j) (text_of (language_of j) (tree_in j)) ok.inside,
        record {
          tokens = all_tokens j ok;
          are = all_are j ok;
          none = λ tree d y. subst (IsUnclean (language_of j) (tree_in j) (typing_in j)) same unclean tree d (record {
            all = all_tokens j ok;
            whole = all_are j ok;
            begins = beside_start (span_of (language_of j) (top_of (language_of j) (tree_in j))).start 0
                (omega (arith, top_start (language_of j) (tree_in j))) (all_tokens j ok)
                (starts_within (fixed_words (language_of j)) (chars (new_text (language_of j) (tree_in j) (typing_in j))) 0
                (all_tokens j ok) (all_are j ok));
            ends = at_end region;
            kind = j.kind;
            of_kind = fits_kind (language_of j) (tree_in j) [] j.kind ok.formed.0 ok.formed.1;
            reads = record {
              tokens = all_tokens j ok;
              are = subst (λ bs. HasTokens (fixed_words (language_of j)) (chars bs) 0 (all_tokens j ok)) region (all_are j ok);
              yields = y;
            };
          });
        },
      )
    where
      at_end : new_text (language_of j) (tree_in j) (typing_in j)
          ≡ region_of (language_of j) (tree_in j) (typing_in j) (top_of (language_of j) (tree_in j))
          → AllByRecursion (IsBeside ((span_of (language_of j) (top_of (language_of j) (tree_in j))).start
          + length (region_of (language_of j) (tree_in j) (typing_in j) (top_of (language_of j) (tree_in j))))) (all_tokens j ok)
      at_end region =
          beside_end
          ((span_of (language_of j) (top_of (language_of j) (tree_in j))).start
          + length (region_of (language_of j) (tree_in j) (typing_in j) (top_of (language_of j) (tree_in j))))
          (0 + bytes_of (chars (new_text (language_of j) (tree_in j) (typing_in j))))
          (omega (arith, ap length region, size_of (new_text (language_of j) (tree_in j) (typing_in j)) (new_utf8 j ok)))
          (all_tokens j ok)
          (ends_within (fixed_words (language_of j)) (chars (new_text (language_of j) (tree_in j) (typing_in j))) 0 (all_tokens j ok) (all_are j ok))

  pub no_tree_at : (path : Path) → length path ≡ 0 → (p : Placed) × IsPlacedAt (language_of j) (tree_in j) path p
      × IsUnclean (language_of j) (tree_in j) (typing_in j) p
      → IsTextFault (language_of j) (tree_in j) (typing_in j) j.kind faults.NoTree
  no_tree_at [] e h = no_tree h
  no_tree_at (k ∷ path) e h = absurd (omega (arith, e))

  pub job_here : (spans : List Span) (same : spans ≡ (printed_of (language_of j) (tree_in j)).spans) (best : ℕ)
      → (b : IsBest spans (typing_in j) (length spans) best) (path : Path)
      → path ≡ (there (language_of j) (tree_in j) (typing_in j) ok.inside spans same best b).span.path → IsHere j path
  job_here spans same best b path is =
      subst (IsHere j) (sym is)
      (best_here best (length (printed_of (language_of j) (tree_in j)).spans)
      (there (language_of j) (tree_in j) (typing_in j) ok.inside spans same best b))
