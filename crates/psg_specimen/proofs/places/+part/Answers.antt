use Rattle.std.proofs.Common.{◌≡◌, ◌⊎◌, ◌-◌, ◌^◌, length, refl, sym, ap, ◌∙◌, subst, arith, true≢false}
use Rattle.std.specs.Prelude.{◌↔◌, IsTrue}
use Rattle.psg_terms.specs.Terms.{symbol, applied}
use Rattle.psg_terms.specs.Shapes.{term_of}
use Rattle.psg_terms.specs.Sizes.{size, sizes}
use Rattle.psg_terms.proofs.Nodes.{size-con}
use Rattle.psg_terms.proofs.Weights.{sizes-at}
use Rattle.psg_completions.specs.Places.{IsPart}
use Rattle.psg_specimen.specs.Parts.{IsAmong}
use Rattle.psg_covering.proofs.Firsts.{more, all}
use Rattle.psg_specimen.proofs.PartLaws.{among_at, among_none, part_of_constructor, too_small}
use Rattle.psg_specimen.proofs.places.+part.Goals as goal

pub is_part-is_in_any-requires : goal.is_part-is_in_any-requires
is_part-is_in_any-requires t c =
    let a : c.args.whole.now ≡ applied (symbol c.in-Con.con.0) c.in-Con.args = sym c.node.ensures ∙ ap term_of c.in-Con.is in
    let s = size-con c.args.whole.now c.in-Con.con.0 c.in-Con.args a in
    let d = ap sizes c.as_slice.ensures in
    (omega arith, tt)

pub is_in_any-is_in-requires : goal.is_in_any-is_in-requires
is_in_any-is_in-requires t c =
    let z = sizes-at c.args.terms.now c.loop-number.number c.index-terms-number.result c.loop-number-test.true in
    let r = ap size c.index-terms-number.is in
    (omega arith, tt)

pub is_in-returns-then-symbols : goal.is_in-returns-then-symbols
is_in-returns-then-symbols t c = (
  λ h. absurd (true≢false (sym h)),
  λ h. absurd (too_small c.args.part.now c.args.term.now c.symbols-2.result c.symbols.result (2 ^ 64 - 1) c.symbols-2.ensures c.symbols.ensures c.if-symbols.true h),
)

pub is_part-returns-in-Con : goal.is_part-returns-in-Con
is_part-returns-in-Con t c =
    let a : c.args.whole.now ≡ applied (symbol c.in-Con.con.0) c.in-Con.args = sym c.node.ensures ∙ ap term_of c.in-Con.is in
    let both = part_of_constructor c.args.part.now c.args.whole.now c.in-Con.con.0 c.in-Con.args a in
    let test = subst (λ l. IsTrue c.is_in_any.result ↔ IsAmong c.args.part.now l) c.as_slice.ensures c.is_in_any.ensures in
    (λ h. both.0 (test.0 h), λ h. test.1 (both.1 h))

pub is_in_any-returns-then-is_in : goal.is_in_any-returns-then-is_in
is_in_any-returns-then-is_in t c = (
  λ h. among_at c.args.part.now c.args.terms.now c.loop-number.number c.index-terms-number.result c.loop-number-test.true c.index-terms-number.is (c.is_in.ensures.0 c.if-is_in.true),
  λ h. refl,
)

pub is_in_any-loop-number-preserved : goal.is_in_any-loop-number-preserved
is_in_any-loop-number-preserved t c =
    more c.args.terms.now (λ a. (c.args.part.now ≡ a) ⊎ IsPart c.args.part.now a → ⊥) c.loop-number.number c.index-terms-number.result c.loop-number-test.true c.index-terms-number.is
    (λ h. true≢false (sym (c.is_in.ensures.1 h) ∙ c.if-is_in.false)) c.loop-number.invariant

pub is_in_any-returns : goal.is_in_any-returns
is_in_any-returns t c = (
  λ h. absurd (true≢false (sym h)),
  λ h. absurd (among_none c.args.part.now c.args.terms.now
      (all c.args.terms.now (λ a. (c.args.part.now ≡ a) ⊎ IsPart c.args.part.now a → ⊥) (length c.args.terms.now) refl (λ m lt. c.loop-number.invariant m (omega arith))) h),
)
