use Rattle.std.proofs.Common.{◌≡◌, ap, sym, take, ◌∙◌}
use Rattle.psg_keys.specs.Lines.{to_left, left_of}
use Rattle.psg_keys.proofs.LineLaws.{typed, typed_left}
use Rattle.psg_keys.proofs.line.Line.go_left.Goals as goal

pub returns : goal.returns
returns c =
    let same : typed c.self.inside.text.items c.self.inside.place ≡ c.args.self.now = c.self.view_is in
    let is : c.left_of-place.result ≡ left_of (take c.self.inside.place c.self.inside.text.items) =
    c.left_of-place.ensures.value ∙ ap left_of c.before-2.ensures ∙ ap (λ t. left_of t.before) (sym same) in
    typed_left c.self.inside.text.items c.self.inside.place c.self.invariant c.left_of-place.result is ∙ ap to_left same
