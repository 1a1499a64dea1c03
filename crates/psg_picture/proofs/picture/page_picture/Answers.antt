use Rattle.std.proofs.Common.{◌-◌, ◌∙◌, map, string_bytes}
use Rattle.std.specs.Option.{option_copied}
use Rattle.psg_picture.specs.Marked.{page_rows}
use Rattle.psg_picture.proofs.PictureLaws.{big, page_long, small_is, whole_is}
use Rattle.psg_picture.proofs.picture.page_picture.Goals as goal

pub ended-requires : goal.ended-requires
ended-requires c = big c.args.view c.is_small.result c.is_small.ensures c.if-is_small.false

pub returns-then-is_small : goal.returns-then-is_small
returns-then-is_small c =
    c.in_ok-small.ensures
    ∙ small_is c.args.view c.args.around.now (page_rows c.args.view.cols (map string_bytes c.args.lines.now) c.args.page_top (c.args.view.rows - 5)) (option_copied c.args.line)
    c.is_small.result c.is_small.ensures c.if-is_small.true

pub returns : goal.returns
returns c =
    whole_is c.args.view c.args.around.now (page_rows c.args.view.cols (map string_bytes c.args.lines.now) c.args.page_top (c.args.view.rows - 5)) (option_copied c.args.line)
    c.in_ok-sketch.sketch c.write_page.new.sketch c.in_ok-picture.picture (big c.args.view c.is_small.result c.is_small.ensures c.if-is_small.false)
    (page_long c.args.view.cols c.args.page_top (c.args.view.rows - 5) (map string_bytes c.args.lines.now)) c.in_ok-sketch.ensures c.in_ok-write_page.ensures c.in_ok-picture.ensures
