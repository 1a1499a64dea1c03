-- The first of the deepest spans so far.
use Rattle.std.proofs.Common.{◌≡◌, ◌⊎◌, inl, inr, ℕ, zero, suc, ◌+◌, ◌<◌, ◌≤◌, List, [], ◌∷◌, length, Some, get_or, slice_get, refl, ap, sym, ◌∙◌, subst, arith}
use Rattle.std.proofs.lemmas.Option.{slice_get_within}
use Rattle.psg_terms.proofs.Lists.{slice_get_item, slice_get_once}
use Rattle.psg_grammar.specs.Paths.{Path}
use Rattle.psg_unparse.specs.Splicing.{IsPlaceOf}
use Rattle.psg_unparse.specs.declared.spans.Span.{Span}
use Rattle.psg_textedit.specs.Regions.{Typing, Encloses}
use Rattle.psg_textedit.specs.Typing.{IsBest, IsSpanAt}

earlier : (k n : ℕ) → k < n + 1 → (k < n) ⊎ (k ≡ n)
earlier zero zero h = inr refl
earlier zero (suc n) h = inl (omega arith)
earlier (suc k) zero h = absurd (omega (arith, h))
earlier (suc k) (suc n) h = elim (earlier k n (omega (arith, h))) [ inl a ↦ inl (omega (arith, a)) | inr e ↦ inr (ap suc e) ]

module _ (spans : List Span) (e : Typing) where
  same_at : (i k : ℕ) (s other : Span) → slice_get spans i ≡ Some s → slice_get spans k ≡ Some other → k ≡ i → s ≡ other
  same_at i k s other a b q =
      let both : Some s ≡ Some other = sym a ∙ ap (slice_get spans) (sym q) ∙ b in cc

  pub best_first : (s : Span) → slice_get spans 0 ≡ Some s → Encloses e s → IsBest spans e 1 0
  best_first s got around = record {
    span = s;
    found = got;
    encloses = around;
    deepest = λ k other lt at in_it.
        let q : k ≡ 0 = omega (arith, lt) in
        let same : s ≡ other = same_at 0 k s other got at q in
        omega (arith, ap (λ (x : Span). length x.path) same);
    first = λ k other lt at in_it. absurd (omega (arith, lt));
  }

  pub best_kept : (i best : ℕ) (s : Span) → (b : IsBest spans e i best) → slice_get spans i ≡ Some s
      → (Encloses e s → length s.path ≤ length b.span.path) → IsBest spans e (i + 1) best
  best_kept i best s b got low = record {
    span = b.span;
    found = b.found;
    encloses = b.encloses;
    deepest = λ k other lt at in_it. elim (earlier k i lt) [
      | inl h ↦ b.deepest k other h at in_it
      | inr q ↦
          let same : s ≡ other = same_at i k s other got at q in
          let l : length s.path ≤ length b.span.path = low (subst (Encloses e) (sym same) in_it) in
          omega (arith, l, ap (λ (x : Span). length x.path) same)
    ];
    first = b.first;
  }

  pub best_new : (i best : ℕ) (s : Span) → (b : IsBest spans e i best) → slice_get spans i ≡ Some s → Encloses e s
      → length b.span.path < length s.path → IsBest spans e (i + 1) i
  best_new i best s b got around high = record {
    span = s;
    found = got;
    encloses = around;
    deepest = λ k other lt at in_it. elim (earlier k i lt) [
      | inl h ↦ let l = b.deepest k other h at in_it in omega (arith, l, high)
      | inr q ↦
          let same : s ≡ other = same_at i k s other got at q in
          omega (arith, ap (λ (x : Span). length x.path) same)
    ];
    first = λ k other lt at in_it. let l = b.deepest k other lt at in_it in omega (arith, l, high);
  }

  -- the span at the best place is the best one
  pub is_best : (i best : ℕ) (s : Span) → (b : IsBest spans e i best) → slice_get spans best ≡ Some s → s ≡ b.span
  is_best i best s b got = let both : Some s ≡ Some b.span = sym got ∙ b.found in cc

pub some_first : (spans : List Span) (e : Typing) → 0 < length spans
    → ((s : Span) → slice_get spans 0 ≡ Some s → Encloses e s) → IsBest spans e 1 0
some_first [] e some around = absurd (omega (arith, some))
some_first (s ∷ spans) e some around = best_first (s ∷ spans) e s refl (around s refl)

-- the span at the place of a path is the path's
pub span_placed : (spans : List Span) (path : Path) (place : ℕ) → IsPlaceOf spans path place → (s : Span)
    → s ≡ get_or spans place s → IsSpanAt spans path s
span_placed spans path place there s is =
    let lt : place < length spans = slice_get_within spans place there.span there.found in
    let got : slice_get spans place ≡ Some s = slice_get_item spans place s lt is in
    let one : s ≡ there.span = slice_get_once spans place s there.span got there.found in
    (place, got, ap (λ (x : Span). x.path) one ∙ there.path_is)
