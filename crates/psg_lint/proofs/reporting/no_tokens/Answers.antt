use Rattle.psg_lexis.specs.declared.token.LexFault.TheVariants as faults
use Rattle.psg_lint.proofs.ReportLaws.{told_fault}
use Rattle.psg_lint.proofs.reporting.no_tokens.Goals as goal

pub returns-in_ok-report-in-BadChar-clause-found : goal.returns-in_ok-report-in-BadChar-clause-found
returns-in_ok-report-in-BadChar-clause-found c =
    told_fault c.args.fault (faults.BadChar c.in-BadChar.byte) _ c.in-BadChar.is c.in_ok-report-in-BadChar.ensures.found

pub returns-in_ok-report-in-BadChar-clause-real : goal.returns-in_ok-report-in-BadChar-clause-real
returns-in_ok-report-in-BadChar-clause-real c = λ e. let is = c.in-BadChar.is in cc

pub returns-in_ok-report-in-BadRun-clause-found : goal.returns-in_ok-report-in-BadRun-clause-found
returns-in_ok-report-in-BadRun-clause-found c =
    told_fault c.args.fault (faults.BadRun c.in-BadRun.byte) _ c.in-BadRun.is c.in_ok-report-in-BadRun.ensures.found

pub returns-in_ok-report-in-BadRun-clause-real : goal.returns-in_ok-report-in-BadRun-clause-real
returns-in_ok-report-in-BadRun-clause-real c = λ e. let is = c.in-BadRun.is in cc

pub returns-in_ok-report-in-Unended-clause-found : goal.returns-in_ok-report-in-Unended-clause-found
returns-in_ok-report-in-Unended-clause-found c =
    told_fault c.args.fault (faults.Unended c.in-Unended.byte) _ c.in-Unended.is c.in_ok-report-in-Unended.ensures.found

pub returns-in_ok-report-in-Unended-clause-real : goal.returns-in_ok-report-in-Unended-clause-real
returns-in_ok-report-in-Unended-clause-real c = λ e. let is = c.in-Unended.is in cc

pub returns-in_ok-report-in-TooLarge-clause-found : goal.returns-in_ok-report-in-TooLarge-clause-found
returns-in_ok-report-in-TooLarge-clause-found c =
    told_fault c.args.fault (faults.TooLarge c.in-TooLarge.byte) _ c.in-TooLarge.is c.in_ok-report-in-TooLarge.ensures.found

pub returns-in_ok-report-in-TooLarge-clause-real : goal.returns-in_ok-report-in-TooLarge-clause-real
returns-in_ok-report-in-TooLarge-clause-real c = λ e. let is = c.in-TooLarge.is in cc
