use Rattle.std.proofs.Common.{◌≡◌, List, length, subst, sym, take, ap, arith, ◌∙◌}
use Rattle.std.specs.Prelude.{string_bytes}
use Rattle.psg_recover.specs.declared.finding.Finding.{Finding}
use Rattle.psg_lint.proofs.LineLaws.{AreWritten, all_written, none_written, one_written}
use Rattle.psg_lint.proofs.lines.lines_of.Goals as goal

pub loop-place-init : goal.loop-place-init
loop-place-init c =
    none_written c.args.file.now c.args.text.now c.as_slice-found.result.now (string_bytes c.new-lines.result) c.new-lines.ensures.bytes

pub loop-place-preserved : goal.loop-place-preserved
loop-place-preserved c =
    one_written c.args.file.now c.args.text.now c.as_slice-found.result.now c.loop-place.place c.index-found-place.result
    (string_bytes c.loop-place.lines) (string_bytes c.push_line.new.lines) c.loop-place-test.true c.index-found-place.is c.loop-place.invariant
    c.in_ok-push_line.ensures

pub returns : goal.returns
returns c =
    let file = c.args.file.now in
    let text = c.args.text.now in
    let i = c.loop-place.place in
    let all : length c.as_slice-found.result.now ≡ i = omega arith in
    all_written file text c.args.report.now i (string_bytes c.loop-place.lines) (string_bytes c.push_more.new.lines)
    (ap length (sym c.as_slice-found.ensures.value) ∙ all)
    (subst (λ (fs : List Finding). AreWritten file text (take i fs) (string_bytes c.loop-place.lines)) c.as_slice-found.ensures.value c.loop-place.invariant)
    c.in_ok-push_more.ensures
