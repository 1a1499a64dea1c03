use Rattle.std.proofs.Common.{cond, ap, subst}
use Rattle.std.proofs.lemmas.List.{nil_from_length}
use Rattle.psg_deflines.specs.Parts.{texts}
use Rattle.psg_deflines.specs.FormReads.{IsForm}
use Rattle.psg_deflines.specs.declared.fault.DefCode.TheVariants.{Nested, Form}
use Rattle.psg_deflines.proofs.TermStepLaws.{texts-first}
use Rattle.psg_deflines.proofs.EntryLaws.{deep-none}
use Rattle.psg_deflines.proofs.entries.deep.Goals as goal

pub returns-in_default : goal.returns-in_default
returns-in_default c = λ line f deep. absurd (deep-none c.args.version (texts c.args.parts.now) line (ap texts (nil_from_length c.args.parts.now c.in_default.ensures.cases)) f)

pub returns-then-deep_is_of : goal.returns-then-deep_is_of
returns-then-deep_is_of c = λ line f deep.
    ap (λ b. cond b Nested Form)
    (c.if-deep_is_of.ensures (texts c.in-Some.field-0-1.now) line
    (subst (λ ps. IsForm ps line) (texts-first c.args.parts.now c.in-Some.field-0-1.now c.in-Some.keyword.now c.in-Some.ensures.cases.0) f) deep)

pub returns-else-deep_is_of : goal.returns-else-deep_is_of
returns-else-deep_is_of c = λ line f deep.
    ap (λ b. cond b Nested Form)
    (c.if-deep_is_of.ensures (texts c.in-Some.field-0-1.now) line
    (subst (λ ps. IsForm ps line) (texts-first c.args.parts.now c.in-Some.field-0-1.now c.in-Some.keyword.now c.in-Some.ensures.cases.0) f) deep)
