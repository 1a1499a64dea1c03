use Rattle.std.proofs.Common.{refl}
use Rattle.psg_unparse.proofs.Adding.{token_put}
use Rattle.psg_unparse.proofs.layout.Writer.put_token.Goals as goal

pub returns : goal.returns
returns c =
    token_put c.args.text.now c.first_char.result c.last_char.result c.args.self.now c.begin.new.self (record c.begin.new.self { out = c.push_str.new.self }) c.end.new.self
    c.in_ok-begin.ensures c.first_char.ensures c.in_ok-push_str.ensures.bytes refl refl refl refl c.last_char.ensures c.end.ensures
