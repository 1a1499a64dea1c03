use Rattle.std.proofs.Common.{refl, ◌∙◌, append_assoc}
use Rattle.psg_unparse.proofs.Adding.{token_put}
use Rattle.std.proofs.Common.{Some, ◌∷◌, ◌++◌, [], ap, string_bytes}
use Rattle.psg_unparse.proofs.Tokens.{mark_first, mark_last}
use Rattle.psg_unparse.proofs.layout.Writer.put_hole.Goals as goal

pub returns : goal.returns
unfolding lib.Utf8.encode
returns c =
    token_put (63 ∷ c.args.phylum.now) (Some 63) c.last_char.result c.args.self.now c.begin.new.self (record c.begin.new.self { out = c.push_str.new.self }) c.end.new.self
    c.in_ok-begin.ensures (mark_first c.args.phylum.now)
    (c.in_ok-push_str.ensures.bytes ∙ ap (λ x. x ++ c.args.phylum.now) c.in_ok-push.ensures.bytes ∙ append_assoc (string_bytes c.begin.new.self.out) (63 ∷ []) c.args.phylum.now)
    refl refl refl refl (mark_last c.args.phylum.now c.last_char.result c.last_char.ensures) c.end.ensures
