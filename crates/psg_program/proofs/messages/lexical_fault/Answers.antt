use Rattle.std.proofs.Common.{chars, subst}
use Rattle.psg_grammar.specs.WellFormed.{fixed_words}
use Rattle.psg_lexis.specs.Faults.{HasFault, OrMemory}
use Rattle.psg_lexis.specs.declared.token.LexFault.TheVariants as faults
use Rattle.psg_program.proofs.Reasons.{lexical}
use Rattle.psg_program.proofs.messages.lexical_fault.Goals as goal

pub returns-in-BadChar : goal.returns-in-BadChar
returns-in-BadChar c def kind h =
    lexical def kind c.args.text.now (faults.BadChar c.in-BadChar.byte) (λ e. cc)
    (subst (OrMemory (HasFault (fixed_words def) (chars c.args.text.now) 0)) c.in-BadChar.is h) _ c.told_at.ensures

pub returns-in-BadRun : goal.returns-in-BadRun
returns-in-BadRun c def kind h =
    lexical def kind c.args.text.now (faults.BadRun c.in-BadRun.byte) (λ e. cc)
    (subst (OrMemory (HasFault (fixed_words def) (chars c.args.text.now) 0)) c.in-BadRun.is h) _ c.told_at-in-BadRun.ensures

pub returns-in-Unended : goal.returns-in-Unended
returns-in-Unended c def kind h =
    lexical def kind c.args.text.now (faults.Unended c.in-Unended.byte) (λ e. cc)
    (subst (OrMemory (HasFault (fixed_words def) (chars c.args.text.now) 0)) c.in-Unended.is h) _ c.told_at-in-Unended.ensures

pub returns-in-TooLarge : goal.returns-in-TooLarge
returns-in-TooLarge c def kind h =
    lexical def kind c.args.text.now (faults.TooLarge c.in-TooLarge.byte) (λ e. cc)
    (subst (OrMemory (HasFault (fixed_words def) (chars c.args.text.now) 0)) c.in-TooLarge.is h) _ c.told_at-in-TooLarge.ensures
