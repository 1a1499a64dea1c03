use Rattle.std.proofs.Common.{◌≡◌, ℕ, ◌+◌, take, ap, List, ◌∙◌}
use Rattle.std.proofs.lemmas.Result.{IfOk-weaker, IfErr-weaker}
use Rattle.psg_deflines.specs.Entries.{Entry}
use Rattle.psg_deflines.specs.Refusals.{IsFormFault, line_feeds}
use Rattle.psg_deflines.specs.Reading.{HasEntries, AreLinesOf, HasNoFormFault}
use Rattle.psg_deflines.proofs.FileLaws.{file-lines, file-only, file-faultless, file-fault, file-bytes}
use Rattle.psg_deflines.proofs.reading.read_lines.Goals as goal

pub returns-in-Err-clause-err : goal.returns-in-Err-clause-err
returns-in-Err-clause-err c = file-bytes c.args.bytes.now _ c.not_text.result c.in-Err.ensures.cases.1 (c.not_text.ensures.line ∙ ap (λ n. line_feeds (take n c.args.bytes.now) + 1) c.valid_up_to.ensures) c.not_text.ensures.code

pub returns-clause-ok : goal.returns-clause-ok
returns-clause-ok c =
    IfOk-weaker c.read_text.result _ (λ found. AreLinesOf c.args.bytes.now found.version found.entries.items) (λ found r. file-lines c.args.bytes.now c.in-Ok.text.now c.in-Ok.ensures.cases.0 c.in-Ok.ensures.cases.1 found.version found.entries.items r) c.read_text.ensures.ok

pub returns-clause-only : goal.returns-clause-only
returns-clause-only c =
    IfOk-weaker c.read_text.result _ (λ found. (v : ℕ) (other : List Entry) → HasEntries c.args.bytes.now v other → (v ≡ found.version) × (other ≡ found.entries.items))
    (λ found r. file-only c.args.bytes.now c.in-Ok.text.now c.in-Ok.ensures.cases.0 c.in-Ok.ensures.cases.1 found.version found.entries.items r) c.read_text.ensures.ok

pub returns-clause-faultless : goal.returns-clause-faultless
returns-clause-faultless c =
    IfOk-weaker c.read_text.result _ (λ _. HasNoFormFault c.args.bytes.now) (λ found r. file-faultless c.args.bytes.now c.in-Ok.text.now c.in-Ok.ensures.cases.0 c.in-Ok.ensures.cases.1 found.version found.entries.items r) c.read_text.ensures.ok

pub returns-clause-err : goal.returns-clause-err
returns-clause-err c =
    IfErr-weaker c.read_text.result _ (IsFormFault c.args.bytes.now) (λ e f. file-fault c.args.bytes.now c.in-Ok.text.now c.in-Ok.ensures.cases.0 c.in-Ok.ensures.cases.1 e f) c.read_text.ensures.err
