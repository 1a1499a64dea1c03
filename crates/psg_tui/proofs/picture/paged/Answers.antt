use Rattle.std.proofs.Common.{ap, ◌∙◌}
use Rattle.std.specs.Prelude.{◌-◌, map, string_bytes}
use Rattle.std.specs.Option.{option_copied}
use Rattle.psg_picture.specs.Marked.{page_rows}
use Rattle.psg_picture.specs.Pictures.{picture_of}
use Rattle.psg_tui.proofs.PictureLaws.{paged_so}
use Rattle.psg_tui.proofs.picture.paged.Goals as goal

pub returns : goal.returns
returns c =
    let view = c.view_of-view.result in
    let line = option_copied c.open_line-line.result in
    paged_so c.args.face.now view c.args.around.now line c.in_ok-picture.picture c.view_of-view.ensures
    c.open_line-line.ensures
    (c.in_ok-picture.ensures
    ∙ ap (λ x. picture_of view c.args.around.now
    (page_rows view.cols (map string_bytes x) c.args.face.now.page_top (view.rows - 5)) line) c.as_slice.ensures.value)
