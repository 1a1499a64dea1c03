use Rattle.std.proofs.Common.{subst}
use Rattle.std.specs.Prelude.{chars}
use Rattle.psg_grammar.specs.WellFormed.{fixed_words}
use Rattle.psg_lexis.specs.Faults.{HasFault, OrMemory}
use Rattle.psg_lint.proofs.ReportLaws.{no_tokens_report, real_fault}
use Rattle.psg_lint.proofs.reporting.lint_text.Goals as goal

pub returns-in_ok-made-in-Err : goal.returns-in_ok-made-in-Err
returns-in_ok-made-in-Err g c =
    no_tokens_report c.args.language.now c.args.kind c.args.text.now c.in-Err.fault c.in_ok-made-in-Err.made c.in_ok-made-in-Err.ensures.found
    c.in_ok-made-in-Err.ensures.more
    (real_fault (HasFault (fixed_words c.args.language.now) (chars c.args.text.now) 0) c.in-Err.fault c.in_ok-made-in-Err.ensures.real
    (subst (λ ws. OrMemory (HasFault ws (chars c.args.text.now) 0) c.in-Err.fault) c.lexis.ensures c.in-Err.ensures.err))
