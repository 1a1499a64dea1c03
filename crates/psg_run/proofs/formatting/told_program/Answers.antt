use Rattle.std.proofs.Common.{subst, sym}
use Rattle.std.specs.Prelude.{string_bytes}
use Rattle.psg_run.specs.declared.status.Status.TheVariants as ends_with
use Rattle.psg_run.specs.Formatting.{IsTold, IsWanted}
use Rattle.psg_run.proofs.Onward.{map_if_ok}
use Rattle.psg_run.proofs.ProgramFiles.{formatted_told}
use Rattle.psg_run.proofs.formatting.told_program.Goals as goal

pub returns-then-checks : goal.returns-then-checks
returns-then-checks c =
    let def = c.args.defined.now.language in
    let comment = c.args.defined.now.comment in
    let tree = c.args.program.now.tree in
    map_if_ok c.told_difference.result
    (λ told h kind own tokens program.
    subst (λ b. IsTold def comment c.args.file.now kind c.args.bytes.now c.args.comments.now own b (string_bytes told.text) told.done) (sym c.if-checks.true)
    (h def comment kind c.args.comments.now own tree program
    (subst (λ w. IsWanted def comment c.args.bytes.now c.args.comments.now own tree w) (sym c.as_str.ensures.value)
    (c.in_ok-text.ensures own tokens))))
    c.told_difference.ensures

pub returns : goal.returns
returns c = λ kind own tokens program.
    let def = c.args.defined.now.language in
    let comment = c.args.defined.now.comment in
    subst (λ b. IsTold def comment c.args.file.now kind c.args.bytes.now c.args.comments.now own b (string_bytes c.in_ok-text.text) ends_with.Done) (sym c.if-checks.false)
    (formatted_told def comment c.args.file.now kind c.args.bytes.now c.args.comments.now own c.args.program.now.tree program (string_bytes c.in_ok-text.text)
    (c.in_ok-text.ensures own tokens))
