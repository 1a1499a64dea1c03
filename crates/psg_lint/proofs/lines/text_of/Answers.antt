use Rattle.std.proofs.Common.{ap, arith, sym, subst, take, ◌∙◌}
use Rattle.std.specs.Str.{IsUtf8}
use Rattle.psg_lint.proofs.LineLaws.{same_valid, whole_valid}
use Rattle.psg_lint.proofs.lines.text_of.Goals as goal

pub returns-in-Ok-clause-whole : goal.returns-in-Ok-clause-whole
returns-in-Ok-clause-whole c = λ u. c.in-Ok.ensures.cases.0

pub returns-in-Ok-clause-part : goal.returns-in-Ok-clause-part
returns-in-Ok-clause-part c = λ count valid. absurd (whole_valid c.args.bytes.now count c.in-Ok.ensures.cases.1 valid)

pub front_of-requires-clause-within : goal.front_of-requires-clause-within
front_of-requires-clause-within c =
    let short = c.in-Err.ensures.cases.1.short in let count = c.valid_up_to-count.ensures in omega (arith, short, count)

pub front_of-requires-clause-text : goal.front_of-requires-clause-text
front_of-requires-clause-text c =
    subst (λ n. IsUtf8 (take n c.args.bytes.now)) (sym c.valid_up_to-count.ensures) c.in-Err.ensures.cases.1.front

pub returns-in-Err-clause-whole : goal.returns-in-Err-clause-whole
returns-in-Err-clause-whole c = λ u. absurd (c.in-Err.ensures.cases.0 u)

pub returns-in-Err-clause-part : goal.returns-in-Err-clause-part
returns-in-Err-clause-part c = λ count valid.
    c.front_of.ensures
    ∙ ap (λ n. take n c.args.bytes.now) (c.valid_up_to-count.ensures ∙ same_valid c.args.bytes.now _ count c.in-Err.ensures.cases.1 valid)
