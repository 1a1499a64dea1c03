use Rattle.std.proofs.Common.{ap, ◌∙◌, map, string_bytes}
use Rattle.psg_picture.proofs.PictureLaws.{small_done}
use Rattle.psg_picture.proofs.picture.small_picture.Goals as goal

pub returns : goal.returns
returns c =
    small_done c.args.view _ c.in_ok-sketch.sketch c.write_page.new.sketch c.in_ok-picture.picture
    (ap (map string_bytes) c.as_slice.ensures.value ∙ c.in_ok-lines.ensures) c.in_ok-sketch.ensures c.in_ok-write_page.ensures c.in_ok-picture.ensures
