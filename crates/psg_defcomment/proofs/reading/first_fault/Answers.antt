use Rattle.std.proofs.Common.{sym, ◌∙◌}
use Rattle.std.proofs.lemmas.Bool.{false≢true}
use Rattle.psg_defcomment.proofs.Firsts.{fault_alone, fault_before, second_before}
use Rattle.psg_defcomment.proofs.reading.first_fault.Goals as goal

pub returns-in_default-second_line : goal.returns-in_default-second_line
returns-in_default-second_line c = λ bytes e r.
    fault_alone bytes c.args.named.now c.in-Def.fault e (rw c.in-Def.is at r) c.in_default-second_line.ensures

pub returns-then-is_later : goal.returns-then-is_later
returns-then-is_later c = λ bytes e r.
    second_before bytes c.args.named.now c.in-Def.fault c.in-Some.line e (rw c.in-Def.is at r) c.in-Some.ensures
    (c.is_later.ensures.0 c.if-is_later.true)

pub returns : goal.returns
returns c = λ bytes e r.
    fault_before bytes c.args.named.now c.in-Def.fault c.in-Some.line e (rw c.in-Def.is at r) c.in-Some.ensures
    (λ l. false≢true (sym c.if-is_later.false ∙ c.is_later.ensures.1 l))
