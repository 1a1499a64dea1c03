use Rattle.std.proofs.Common.{refl, [], ◌∷◌, string_bytes}
use Rattle.psg_canvas.specs.Terminal.{Restyle}
use Rattle.psg_canvas.proofs.PenLaws.{restyle_bytes}
use Rattle.psg_canvas.proofs.pen.Pen.restyle.Goals as goal

pub returns-clause-bytes : goal.returns-clause-bytes
returns-clause-bytes c = (
  Restyle c.args.style ∷ [],
  (refl, refl),
  restyle_bytes c.args.self.now.cols c.args.style (string_bytes c.args.self.now.out) (string_bytes c.push_str.new.self)
      (string_bytes c.push_style.new.out) (string_bytes c.push_str-2.new.self) c.in_ok-push_str.ensures.bytes c.in_ok-push_style.ensures
      c.in_ok-push_str-2.ensures.bytes,
)
