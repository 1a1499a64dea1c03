use Rattle.std.proofs.Common.{◌-◌, ◌∙◌}
use Rattle.std.specs.Option.{option_copied}
use Rattle.psg_picture.specs.Marked.{program_rows}
use Rattle.psg_picture.proofs.MarkedLaws.{program-long}
use Rattle.psg_picture.proofs.PictureLaws.{big, small_is, whole_is}
use Rattle.psg_picture.proofs.picture.program_picture.Goals as goal

pub ended-requires : goal.ended-requires
ended-requires c = big c.args.view c.is_small.result c.is_small.ensures c.if-is_small.false

pub returns-then-is_small : goal.returns-then-is_small
returns-then-is_small c =
    c.in_ok-small.ensures
    ∙ small_is c.args.view c.args.around.now (program_rows c.args.view (c.args.view.rows - 5) c.args.text.now c.args.marks.now) (option_copied c.args.line)
    c.is_small.result c.is_small.ensures c.if-is_small.true

pub returns : goal.returns
returns c =
    whole_is c.args.view c.args.around.now (program_rows c.args.view (c.args.view.rows - 5) c.args.text.now c.args.marks.now) (option_copied c.args.line)
    c.in_ok-sketch.sketch c.write_program.new.sketch c.in_ok-picture.picture (big c.args.view c.is_small.result c.is_small.ensures c.if-is_small.false)
    (program-long c.args.view (c.args.view.rows - 5) c.args.text.now c.args.marks.now) c.in_ok-sketch.ensures c.in_ok-write_program.ensures c.in_ok-picture.ensures
