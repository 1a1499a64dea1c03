use Rattle.std.proofs.Common.{string_bytes, ap, arith}
use Rattle.psg_self.specs.SelfLines.{specimen_of}
use Rattle.psg_self.specs.Export.{specimen_text}
use Rattle.psg_self.proofs.Writes.{marked-more, marked-end, on-ok}
use Rattle.psg_self.proofs.Applied.{kind_of, specimen-nothing, specimen-left, specimen-branch, specimen-lower, element-in, terms-end}
use Rattle.psg_self.proofs.terms.+specimen.Goals as goal

pub write_specimens-loop-i-preserved : goal.write_specimens-loop-i-preserved
write_specimens-loop-i-preserved t c =
    marked-more (λ t. specimen_text (specimen_of t)) c.elements_of-specimens.result.now c.loop-i.i c.index-specimens-i.result _ (string_bytes c.loop-i.out)
    (string_bytes c.write_mark.new.out) (string_bytes c.write_specimen.new.out) c.loop-i-test.true c.index-specimens-i.is
    c.loop-i.invariant c.in_ok-write_mark.ensures c.in_ok-write_specimen.ensures

pub write_specimens-write_specimen-requires : goal.write_specimens-write_specimen-requires
write_specimens-write_specimen-requires t c =
    let low = element-in c.args.list.now c.elements_of-specimens.result.now c.loop-i.i c.index-specimens-i.result
    c.elements_of-specimens.ensures c.loop-i-test.true c.index-specimens-i.is in
    omega arith

pub write_specimens-returns : goal.write_specimens-returns
write_specimens-returns t c =
    on-ok c.write_closing.result c.write_closing.ensures (λ h.
    terms-end c.args.list.now c.elements_of-specimens.result.now (λ t. specimen_text (specimen_of t)) (string_bytes c.args.out.now)
    (string_bytes c.write_closing.new.out) c.elements_of-specimens.ensures
    (marked-end (λ t. specimen_text (specimen_of t)) c.elements_of-specimens.result.now c.loop-i.i (string_bytes c.args.out.now) (string_bytes c.loop-i.out)
    (string_bytes c.write_closing.new.out) (omega (arith, c.loop-i-test.false)) c.loop-i.invariant h))

pub write_specimen-returns-in-None : goal.write_specimen-returns-in-None
write_specimen-returns-in-None t c =
    specimen-nothing c.args.specimen.now c.parts_of-parts.result.now (string_bytes c.args.out.now) c.parts_of-parts.ensures
    c.in-None.ensures.cases

pub write_specimen-write_specimens-requires : goal.write_specimen-write_specimens-requires
write_specimen-write_specimens-requires t c =
    let low = specimen-lower c.args.specimen.now c.parts_of-parts.result.now c.in-Some.front.now c.in-Some.last.now c.in-Sub.list
    c.parts_of-parts.ensures c.in-Some.ensures.cases.0 c.in-Sub.is in
    omega arith

pub write_specimen-returns-in_ok-write_front-in-Sub : goal.write_specimen-returns-in_ok-write_front-in-Sub
write_specimen-returns-in_ok-write_front-in-Sub t c =
    on-ok c.write_specimens.result c.write_specimens.ensures (λ h.
    specimen-branch c.args.specimen.now c.parts_of-parts.result.now c.in-Some.front.now c.in-Some.last.now c.in-Sub.list
    (string_bytes c.args.out.now) (string_bytes c.write_front.new.out) (string_bytes c.write_specimens.new.out)
    c.parts_of-parts.ensures c.in-Some.ensures.cases.0 c.in-Sub.is c.in_ok-write_front-in-Sub.ensures h)

pub write_specimen-returns-in-Name : goal.write_specimen-returns-in-Name
write_specimen-returns-in-Name t c =
    specimen-left c.args.specimen.now c.parts_of-parts.result.now c.in-Some.front.now c.in-Some.last.now (string_bytes c.args.out.now)
    c.parts_of-parts.ensures c.in-Some.ensures.cases.0 (omega (arith, ap kind_of c.in-Name.is))

pub write_specimen-returns-in-Number : goal.write_specimen-returns-in-Number
write_specimen-returns-in-Number t c =
    specimen-left c.args.specimen.now c.parts_of-parts.result.now c.in-Some.front.now c.in-Some.last.now (string_bytes c.args.out.now)
    c.parts_of-parts.ensures c.in-Some.ensures.cases.0 (omega (arith, ap kind_of c.in-Number.is))

pub write_specimen-returns-in-Text : goal.write_specimen-returns-in-Text
write_specimen-returns-in-Text t c =
    specimen-left c.args.specimen.now c.parts_of-parts.result.now c.in-Some.front.now c.in-Some.last.now (string_bytes c.args.out.now)
    c.parts_of-parts.ensures c.in-Some.ensures.cases.0 (omega (arith, ap kind_of c.in-Text.is))
