use Rattle.std.proofs.Common.{string_bytes, ap, arith}
use Rattle.psg_self.specs.SelfLines.{term_of}
use Rattle.psg_self.specs.Export.{term_text}
use Rattle.psg_self.proofs.Writes.{marked-more, marked-end, on-ok}
use Rattle.psg_self.proofs.Applied.{kind_of, term-nothing, term-left, term-branch, term-lower, element-in, terms-end, term-variable}
use Rattle.psg_self.proofs.terms.+term.Goals as goal

pub write_terms-loop-i-preserved : goal.write_terms-loop-i-preserved
write_terms-loop-i-preserved t c =
    marked-more (λ t. term_text (term_of t)) c.elements_of-terms.result.now c.loop-i.i c.index-terms-i.result _ (string_bytes c.loop-i.out)
    (string_bytes c.write_mark.new.out) (string_bytes c.write_term.new.out) c.loop-i-test.true c.index-terms-i.is
    c.loop-i.invariant c.in_ok-write_mark.ensures c.in_ok-write_term.ensures

pub write_terms-write_term-requires : goal.write_terms-write_term-requires
write_terms-write_term-requires t c =
    let low = element-in c.args.list.now c.elements_of-terms.result.now c.loop-i.i c.index-terms-i.result
    c.elements_of-terms.ensures c.loop-i-test.true c.index-terms-i.is in
    omega arith

pub write_terms-returns : goal.write_terms-returns
write_terms-returns t c =
    on-ok c.write_closing.result c.write_closing.ensures (λ h.
    terms-end c.args.list.now c.elements_of-terms.result.now (λ t. term_text (term_of t)) (string_bytes c.args.out.now)
    (string_bytes c.write_closing.new.out) c.elements_of-terms.ensures
    (marked-end (λ t. term_text (term_of t)) c.elements_of-terms.result.now c.loop-i.i (string_bytes c.args.out.now) (string_bytes c.loop-i.out)
    (string_bytes c.write_closing.new.out) (omega (arith, c.loop-i-test.false)) c.loop-i.invariant h))

pub write_term-returns-in-None : goal.write_term-returns-in-None
write_term-returns-in-None t c =
    term-nothing c.args.term.now c.parts_of-parts.result.now (string_bytes c.args.out.now) c.parts_of-parts.ensures
    c.in-None.ensures.cases

pub write_term-write_terms-requires : goal.write_term-write_terms-requires
write_term-write_terms-requires t c =
    let low = term-lower c.args.term.now c.parts_of-parts.result.now c.in-Some.front.now c.in-Some.last.now c.in-Sub.list
    c.parts_of-parts.ensures c.in-Some.ensures.cases.0 c.in-Sub.is in
    omega arith

pub write_term-returns-in_ok-write_front-in-Sub : goal.write_term-returns-in_ok-write_front-in-Sub
write_term-returns-in_ok-write_front-in-Sub t c =
    on-ok c.write_terms.result c.write_terms.ensures (λ h.
    term-branch c.args.term.now c.parts_of-parts.result.now c.in-Some.front.now c.in-Some.last.now c.in-Sub.list
    (string_bytes c.args.out.now) (string_bytes c.write_front.new.out) (string_bytes c.write_terms.new.out)
    c.parts_of-parts.ensures c.in-Some.ensures.cases.0 c.in-Sub.is c.in_ok-write_front-in-Sub.ensures h)

pub write_term-returns-in-Name : goal.write_term-returns-in-Name
write_term-returns-in-Name t c =
    on-ok c.write_variable.result c.write_variable.ensures (λ h.
    term-variable c.args.term.now c.parts_of-parts.result.now c.in-Some.front.now c.in-Some.last.now (string_bytes c.args.out.now)
    (string_bytes c.write_variable.new.out) c.as_str.result.now c.in-Name.name c.parts_of-parts.ensures c.in-Some.ensures.cases.0 c.in-Name.is
    c.as_str.ensures h)

pub write_term-returns-in-Number : goal.write_term-returns-in-Number
write_term-returns-in-Number t c =
    term-left c.args.term.now c.parts_of-parts.result.now c.in-Some.front.now c.in-Some.last.now (string_bytes c.args.out.now)
    c.parts_of-parts.ensures c.in-Some.ensures.cases.0 (omega (arith, ap kind_of c.in-Number.is))

pub write_term-returns-in-Text : goal.write_term-returns-in-Text
write_term-returns-in-Text t c =
    term-left c.args.term.now c.parts_of-parts.result.now c.in-Some.front.now c.in-Some.last.now (string_bytes c.args.out.now)
    c.parts_of-parts.ensures c.in-Some.ensures.cases.0 (omega (arith, ap kind_of c.in-Text.is))
