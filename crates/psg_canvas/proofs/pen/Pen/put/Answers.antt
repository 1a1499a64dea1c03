use Rattle.std.proofs.Common.{ap, subst, refl, ◌∙◌, ◌++◌, ◌∷◌, [], string_bytes, encode_utf8_all}
use Rattle.psg_canvas.specs.Terminal.{Put}
use Rattle.psg_canvas.specs.Drawing.{moves, Restyles}
use Rattle.psg_canvas.proofs.PenLaws.{put_bytes}
use Rattle.psg_canvas.proofs.pen.Pen.put.Goals as goal

pub returns-clause-bytes : goal.returns-clause-bytes
returns-clause-bytes c =
    let r = c.in_ok-restyle.ensures.bytes in (
      moves c.args.self.now.at c.args.place ++ r.0 ++ Put c.args.cell.now.text ∷ [],
      record {
        styles = r.0;
        styled = subst (λ s. Restyles c.args.self.now.style s r.0) c.style.ensures
            (subst (λ s. Restyles s c.style.result r.0) c.go_to.ensures.style r.1);
        whole = refl;
      },
      put_bytes c.args.self.now.cols c.go_to.new.self.cols c.args.place c.args.self.now.at c.args.cell.now r.0
          (string_bytes c.args.self.now.out) (string_bytes c.go_to.new.self.out) (string_bytes c.restyle.new.self.out) (string_bytes c.push_all.new.out)
          c.go_to.ensures.cols c.in_ok-go_to.ensures.bytes r.2
          (c.in_ok-push_all.ensures ∙ ap (λ t. string_bytes c.restyle.new.self.out ++ encode_utf8_all t) c.text.ensures),
    )
