-- The steps of an operator one after the other, and what is answered at the end.
use Rattle.std.proofs.Common.{◌≡◌, ◌⊎◌, inl, inr, ℕ, ◌+◌, ◌-◌, ◌≤◌, Bool, true, false, cond, List, [], ◌∷◌, ◌++◌, length, Some, refl, sym, ◌∙◌, subst, length-append, arith}
use Rattle.std.specs.List.{slice_get}
use Rattle.std.proofs.lemmas.Bool.{cases_lt}
use Rattle.psg_terms.specs.Terms.{Term}
use Rattle.psg_terms.specs.Sound.{IsSound as IsSoundSignature}
use Rattle.psg_terms.specs.Weight.{PassesLimit}
use Rattle.psg_grammar.specs.declared.types.Kind.{Kind}
use Rattle.psg_grammar.specs.declared.types.Definition.{Definition}
use Rattle.psg_grammar.specs.Fragments.{Fragment, children_of}
use Rattle.psg_grammar.specs.Lookups.{is_scope}
use Rattle.psg_grammar.specs.Steps.{children_count, PassesAt}
use Rattle.psg_scope.specs.Headers.{keys}
use Rattle.psg_scope.specs.declared.header.Header.{Header}
use Rattle.psg_eval.specs.declared.partial.Partial.{Partial}
use Rattle.psg_eval.specs.declared.summary.SummaryParts.{SummaryParts}
use Rattle.psg_eval.specs.Outside.{IsClosed}
use Rattle.psg_eval.specs.Partials.{IsAdded, IsPartial}
use Rattle.psg_eval.specs.Summaries.{IsFirstPassing, IsSummaryOf, StaysWithin}
use Rattle.psg_eval.specs.Stages.{IsInside, IsMade, IsStep}
use Rattle.psg_eval.specs.Trees.{HasParts, seen_in}
use Rattle.psg_grammar.specs.Kinds.{IsOfKind}
use Rattle.psg_eval.proofs.PartialSorts.{key_sorts_many, kind_sorts_many}
use Rattle.psg_eval.proofs.Passing.{close_passes, close_stays}
use Rattle.psg_eval.proofs.RegionSteps.{count_is}
use Rattle.psg_eval.proofs.Stepping.{next_ok, next_twice, step_wide, step_light, whole_inside, open_ok, closed_whole, close_ok}

up_to : (k n : ℕ) → k ≤ n + 1 → (k ≤ n) ⊎ (k ≡ n + 1)
up_to k n le = elim (cases_lt n k) [ inl lt ↦ inr (omega arith) | inr ge ↦ inl ge ]

module _ (def : Definition) (f : Fragment) (sound : IsSoundSignature def.signature) where
  pub made_first : (p : Partial) → IsStep def f 0 p.header p.rel → (PassesLimit p.rel → ⊥) → IsMade def f 0 p
  made_first p step light = record {
    step = step;
    light = λ k le passes.
        let zero_is : k ≡ 0 = omega arith in
        step_light def f sound 0 p.header p.rel (omega arith) step light (subst (PassesAt def f) zero_is passes);
  }

  pub made_more : (n : ℕ) (p q : Partial) → n + 1 ≤ children_count f → IsMade def f n p → IsStep def f (n + 1) q.header q.rel → (PassesLimit q.rel → ⊥) → IsMade def f (n + 1) q
  made_more n p q there made step light = record {
    step = step;
    light = λ k le passes. elim (up_to k n le) [
      | inl lt ↦ made.light k lt passes
      | inr e ↦ step_light def f sound (n + 1) q.header q.rel there step light (subst (PassesAt def f) e passes)
    ];
  }

  pub wide_first : (h : Header) (rows : List (List Term)) → IsStep def f 0 h rows → PassesLimit rows → IsFirstPassing def f 0
  wide_first h rows step passes = record {
    there = omega arith;
    passes = step_wide def f 0 h rows (omega arith) step passes;
    first = λ k lt. absurd (omega arith);
  }

  pub wide_more : (n : ℕ) (p : Partial) (h : Header) (rows : List (List Term)) → n + 1 ≤ children_count f → IsMade def f n p → IsStep def f (n + 1) h rows → PassesLimit rows → IsFirstPassing def f (n + 1)
  wide_more n p h rows there made step passes = record {
    there = last_there (is_scope def f) there;
    passes = step_wide def f (n + 1) h rows there step passes;
    first = λ k lt. made.light k (omega arith);
  }
    where
      last_there : (b : Bool) → n + 1 ≤ children_count f → n + 1 ≤ cond b (children_count f + 1) (children_count f)
      last_there true le = omega arith
      last_there false le = le

module _ (def : Definition) (f : Fragment) (parts : HasParts def f []) where
  module _ (sound : IsSoundSignature def.signature) where
    module _ (n : ℕ) (t : Fragment) (at : slice_get (children_of f) n ≡ Some t) (kind : Kind) (kinds : List Kind) (p : Partial) (s : SummaryParts)
        (many : length (s.kind ∷ kinds) ≡ length (children_of f) - n) (part : IsPartial def kind (s.kind ∷ kinds) p) (summary : IsSummaryOf def t s) (made : IsMade def f n p) where
      -- one child more
      pub added_step : (h : Header) (rows : List (List Term)) → IsAdded def p s h rows → IsStep def f (n + 1) h rows
      added_step h rows is = by (h.twice) refl where
        sorts : List ℕ
        sorts = ((part.sort ∷ part.seen) ++ part.wanted) ++ part.key_sorts

        width : length sorts ≡ 1 + p.seen + (length (children_of f) - n) + length (keys p.header.names)
        width =
            let ks = key_sorts_many def p.header.names part.key_sorts part.keys_sorted in
            let ws = kind_sorts_many def (s.kind ∷ kinds) part.wanted part.wanted_sorts in
            let many_seen = part.reported in
            omega (arith, ks, ws, many, length-append ((part.sort ∷ part.seen) ++ part.wanted) part.key_sorts, length-append (part.sort ∷ part.seen) part.wanted)

        by : (b : Bool) → h.twice ≡ b → IsStep def f (n + 1) h rows
        by true e = subst (IsStep def f (n + 1) h) (sym (is.none e)) (next_twice def f parts t s n at summary p.header h p.rel made.step is.region e)
        by false e =
            let (ss, rel) = is.made e in
            next_ok def f parts t s n at summary p.header h p.rel made.step is.region p.seen sorts ss rows part.sorted width e rel

      there : n + 1 ≤ children_count f
      there = let e = count_is def f [] parts in let m = many in omega arith

      pub made_next : (q : Partial) → IsAdded def p s q.header q.rel → (PassesLimit q.rel → ⊥) → IsMade def f (n + 1) q
      made_next q is light = made_more def f sound n p q there made (added_step q.header q.rel is) light

      pub wide_next : (h : Header) (rows : List (List Term)) → IsAdded def p s h rows → PassesLimit rows → IsFirstPassing def f (n + 1)
      wide_next h rows is passes = wide_more def f sound n p h rows there made (added_step h rows is) passes

    -- ---- the whole, with all children

    module _ (kind : Kind) (p : Partial) (of_kind : IsOfKind def f kind) (seen : p.seen ≡ seen_in f) (made : IsMade def f (children_count f) p) where
      inside : IsInside def f p.header p.rel
      inside = whole_inside def f p.header p.rel parts made.step

      pub open_answer : is_scope def f ≡ false → IsSummaryOf def f (record { kind = kind; header = p.header; seen = p.seen; rel = p.rel }) × StaysWithin def f
      open_answer scope =
          let whole = open_ok def f p.header p.rel scope inside in (
            record { kind = of_kind; header = whole.0; seen = seen; rows = whole.1 },
            λ k le. made.light k (subst (λ b. k ≤ cond b (children_count f + 1) (children_count f)) scope le),
          )

      module _ (scope : is_scope def f ≡ true) where
        pub closed_answer : (q : Partial) → IsClosed def p q.header q.rel → q.seen ≡ p.seen → (PassesLimit q.rel → ⊥)
            → IsSummaryOf def f (record { kind = kind; header = q.header; seen = q.seen; rel = q.rel }) × StaysWithin def f
        closed_answer q is same light =
            let rel = close_ok def f scope p.header q.header p.rel inside is.region is.sorts q.rel is.made in (
              record { kind = of_kind; header = closed_whole def f scope p.header q.header p.rel inside is.region; seen = same ∙ seen; rows = (is.sorts, rel) },
              λ k le passes. elim (up_to k (children_count f) (subst (λ b. k ≤ cond b (children_count f + 1) (children_count f)) scope le)) [
                | inl lt ↦ made.light k lt passes
                | inr e ↦ close_stays def f sound k is.sorts q.rel e rel light passes
              ],
            )

        pub closed_wide : (h : Header) (rows : List (List Term)) → IsClosed def p h rows → PassesLimit rows → IsFirstPassing def f (children_count f + 1)
        closed_wide h rows is passes = record {
          there = subst (λ b. children_count f + 1 ≤ cond b (children_count f + 1) (children_count f)) (sym scope) (omega arith);
          passes = close_passes def f (children_count f + 1) is.sorts rows refl scope (close_ok def f scope p.header h p.rel inside is.region is.sorts rows is.made) passes;
          first = λ k lt. made.light k (omega arith);
        }
