use Rattle.std.specs.Prelude.{string_bytes}
use Rattle.psg_lint.proofs.ReportLaws.{shown_so}
use Rattle.psg_run.proofs.linting.told_of.Goals as goal

pub returns : goal.returns
returns g c =
    let report = c.in_ok-report.ensures in
    let shown = shown_so c.args.language.now c.args.kind c.args.bytes.now c.args.file.now (string_bytes c.in_ok-text.text) c.in_ok-report.report report
    c.in_ok-text.ensures.whole c.in_ok-text.ensures.part in
    record {
      text = report.text;
      found = c.in_ok-report.report.found.items;
      limited = report.limited;
      more = c.in_ok-report.report.more;
      report = report.is;
      lines = shown.lines;
      are_lines = shown.are;
      told_is = shown.shown_is;
      done_is = c.ending-done.ensures;
    }
