use Rattle.std.proofs.Common.{ap, ◌∙◌, arith}
use Rattle.std.specs.Option.{option_copied}
use Rattle.psg_canvas.specs.Sketching.{finished}
use Rattle.psg_picture.specs.Pictures.{cursor_at}
use Rattle.psg_picture.proofs.PictureLaws.{big_is}
use Rattle.psg_picture.proofs.picture.ended.Goals as goal

pub write_below-requires : goal.write_below-requires
write_below-requires c = let big = big_is c.args.view c.requires in omega (arith, big.cols)

pub cursor_of-cursor-requires : goal.cursor_of-cursor-requires
cursor_of-cursor-requires c =
    let big = big_is c.args.view c.requires in record { rows = omega (arith, big.rows); cols = omega (arith, big.cols) }

pub returns : goal.returns
returns c =
    c.in_ok-picture.ensures ∙ ap (finished c.write_below.new.sketch) c.cursor_of-cursor.ensures
    ∙ ap (λ s. finished s (cursor_at c.args.view.rows c.args.view.cols (option_copied c.args.line))) c.in_ok-write_below.ensures
