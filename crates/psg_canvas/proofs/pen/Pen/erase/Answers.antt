use Rattle.std.proofs.Common.{subst, string_bytes}
use Rattle.psg_canvas.specs.Drawing.{Restyles}
use Rattle.psg_canvas.proofs.PenLaws.{erase_bytes}
use Rattle.psg_canvas.proofs.pen.Pen.erase.Goals as goal

pub returns-clause-bytes : goal.returns-clause-bytes
returns-clause-bytes c =
    let r = c.in_ok-restyle.ensures.bytes in
    (r.0, subst (λ s. Restyles c.args.self.now.style s r.0) c.plain.ensures r.1, erase_bytes c.args.self.now.cols r.0 (string_bytes c.args.self.now.out) (string_bytes c.restyle.new.self.out) (string_bytes c.push_str.new.self) r.2 c.in_ok-push_str.ensures.bytes)
