use Rattle.std.proofs.Common.{◌≡◌, ◌+◌, ap, sym, min, length, take, drop, ◌∙◌}
use Rattle.psg_keys.specs.Lines.{without_right, right_of}
use Rattle.psg_keys.proofs.LineLaws.{typed, typed_without_right}
use Rattle.psg_keys.proofs.line.Line.remove_right.Goals as goal

pub returns : goal.returns
returns c =
    let text = c.self.inside.text.items in
    let p = c.self.inside.place in
    let same : typed text p ≡ c.args.self.now = c.self.view_is in
    let is : c.right-to.result ≡ length (take p text) + min (right_of (drop p text)) (length (drop p text)) =
    c.right-to.ensures ∙ ap (λ t. length t.before + min (right_of t.after) (length t.after)) (sym same) in
    typed_without_right text p c.self.invariant c.right-to.result c.remove.new.text.items is c.remove.ensures
    ∙ ap without_right same
