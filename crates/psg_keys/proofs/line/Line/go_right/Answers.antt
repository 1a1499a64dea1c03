use Rattle.std.proofs.Common.{◌≡◌, ◌+◌, ap, sym, min, length, take, drop, ◌∙◌}
use Rattle.psg_keys.specs.Lines.{to_right, right_of}
use Rattle.psg_keys.proofs.LineLaws.{typed, typed_right_from}
use Rattle.psg_keys.proofs.line.Line.go_right.Goals as goal

pub returns : goal.returns
returns c =
    let text = c.self.inside.text.items in
    let p = c.self.inside.place in
    let same : typed text p ≡ c.args.self.now = c.self.view_is in
    let is : c.right-place.result ≡ length (take p text) + min (right_of (drop p text)) (length (drop p text)) =
    c.right-place.ensures ∙ ap (λ t. length t.before + min (right_of t.after) (length t.after)) (sym same) in
    typed_right_from text p c.self.invariant c.right-place.result is ∙ ap to_right same
