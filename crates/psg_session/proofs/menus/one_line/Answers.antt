use Rattle.std.proofs.Common.{◌≡◌, ◌∷◌, ◌++◌, [], ◌∙◌, List, map, ap}
use Rattle.std.specs.Prelude.{String, string_bytes}
use Rattle.std.specs.declared.alloc.Global.{Global}
use Rattle.psg_session.specs.Replies.{answered}
use Rattle.psg_session.proofs.menus.one_line.Goals as goal

pub returns : goal.returns
returns c =
    let line : String Global = c.in_ok-line.line in
    let lines : c.push.new.self.items ≡ line ∷ [] =
    c.in_ok-push.ensures.items ∙ ap (λ (l : List (String Global)). l ++ line ∷ []) c.new-lines.ensures.items in
    ap answered (ap (map string_bytes) lines ∙ ap (λ t. t ∷ []) c.in_ok-line.ensures)
