use Rattle.std.proofs.Common.{◌≡◌, length, refl, sym, ap, ◌∙◌, subst, arith, true≢false}
use Rattle.std.specs.Prelude.{◌↔◌, IsTrue}
use Rattle.std.specs.List.{AllByRecursion}
use Rattle.psg_terms.specs.Terms.{symbol, applied}
use Rattle.psg_terms.specs.Shapes.{term_of}
use Rattle.psg_terms.specs.Sizes.{size, sizes}
use Rattle.psg_terms.proofs.Nodes.{size-con}
use Rattle.psg_terms.proofs.Weights.{sizes-at}
use Rattle.psg_completions.specs.Elements.{IsAbsent}
use Rattle.psg_covering.proofs.Firsts.{more, all}
use Rattle.psg_specimen.proofs.Firsts.{each}
use Rattle.psg_specimen.proofs.ClearLaws.{absent_constructor, absent_variable, all_in}
use Rattle.psg_specimen.proofs.clear.+absent.Goals as goal

pub is_absent-is_absent_in-requires : goal.is_absent-is_absent_in-requires
is_absent-is_absent_in-requires t c =
    let a : c.args.term.now ≡ applied (symbol c.in-Con.con.0) c.in-Con.args = sym c.node.ensures ∙ ap term_of c.in-Con.is in
    let s = size-con c.args.term.now c.in-Con.con.0 c.in-Con.args a in
    let d = ap sizes c.as_slice.ensures in
    (omega arith, tt)

pub is_absent_in-is_absent-requires : goal.is_absent_in-is_absent-requires
is_absent_in-is_absent-requires t c =
    let z = sizes-at c.args.terms.now c.loop-place.place c.index-terms-place.result c.loop-place-test.true in
    let r = ap size c.index-terms-place.is in
    (omega arith, tt)

pub is_absent-returns-in-Var : goal.is_absent-returns-in-Var
is_absent-returns-in-Var t c =
    absent_variable c.args.sort.0 c.args.number c.in-Var.own.0 c.in-Var.count c.args.term.now c.same_variable.result (sym c.node.ensures ∙ ap term_of c.in-Var.is) c.same_variable.ensures

pub is_absent-returns-in-Con : goal.is_absent-returns-in-Con
is_absent-returns-in-Con t c =
    let both = absent_constructor c.args.sort.0 c.args.number c.in-Con.con.0 c.args.term.now c.in-Con.args (sym c.node.ensures ∙ ap term_of c.in-Con.is) in
    let test = subst (λ l. IsTrue c.is_absent_in.result ↔ AllByRecursion (IsAbsent c.args.sort.0 c.args.number) l) c.as_slice.ensures c.is_absent_in.ensures in
    (λ h. both.0 (test.0 h), λ h. test.1 (both.1 h))

pub is_absent_in-loop-place-preserved : goal.is_absent_in-loop-place-preserved
is_absent_in-loop-place-preserved t c =
    more c.args.terms.now (IsAbsent c.args.sort.0 c.args.number) c.loop-place.place c.index-terms-place.result c.loop-place-test.true c.index-terms-place.is (c.is_absent.ensures.0 c.if-not-is_absent.false) c.loop-place.invariant

pub is_absent_in-returns-then-not-is_absent : goal.is_absent_in-returns-then-not-is_absent
is_absent_in-returns-then-not-is_absent t c = (
  λ h. absurd (true≢false (sym h)),
  λ a. absurd (true≢false (sym (c.is_absent.ensures.1 (each (IsAbsent c.args.sort.0 c.args.number) c.args.terms.now a c.loop-place.place c.index-terms-place.result c.loop-place-test.true c.index-terms-place.is)) ∙ c.if-not-is_absent.true)),
)

pub is_absent_in-returns : goal.is_absent_in-returns
is_absent_in-returns t c = (
  λ h. all_in (IsAbsent c.args.sort.0 c.args.number) c.args.terms.now (all c.args.terms.now (IsAbsent c.args.sort.0 c.args.number) (length c.args.terms.now) refl (λ m lt. c.loop-place.invariant m (omega (arith, lt)))),
  λ a. refl,
)
