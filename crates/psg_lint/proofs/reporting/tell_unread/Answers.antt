use Rattle.std.proofs.Common.{◌∷◌, []}
use Rattle.psg_recover.specs.Findings.{error_at, has_error}
use Rattle.psg_program.specs.Messages.{deep_message}
use Rattle.psg_lint.proofs.ReportLaws.{some_tree, too_deep}
use Rattle.psg_lint.proofs.reporting.tell_unread.Goals as goal

pub returns-in_ok-add_error-in-Deep : goal.returns-in_ok-add_error-in-Deep
returns-in_ok-add_error-in-Deep c =
    let l = c.args.linting in (
      error_at 0 deep_message ∷ [],
      c.in_ok-add_error-in-Deep.ensures,
      too_deep l.language.now l.reader.kind l.text.now (has_error c.args.found.now.items) c.args.tokens.now c.args.fault c.requires.fault c.in-Deep.is,
    )

pub unreachable-requires : goal.unreachable-requires
unreachable-requires c =
    let l = c.args.linting in
    let (stops, last) = c.requires.last in
    some_tree l.language.now l.reader.kind l.text.now stops c.args.tokens.now c.args.fault last c.requires.fault c.in-NoTree.is
