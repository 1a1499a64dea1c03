use Rattle.std.proofs.Common.{ap, sym, map-id, ◌∙◌, ◌≡◌, ◌++◌, string_bytes, encode_utf8_all}
use Rattle.std.specs.Prelude.{chars}
use Rattle.std.proofs.lemmas.Iterator.{YieldsList-from_chars}
use Rattle.std.proofs.lemmas.Iterator.Consumers.{YieldsList-end}
use Rattle.psg_lexis.specs.Tokens.{quoted}
use Rattle.psg_self.proofs.Quotes.{quoted-more, quoted-end}
use Rattle.psg_self.proofs.Writes.{on-written}
use Rattle.psg_self.proofs.lines.write_quoted.Goals as goal

pub loop-ch-preserved : goal.loop-ch-preserved
loop-ch-preserved c =
    quoted-more (string_bytes c.push_str.new.self) (string_bytes c.loop-ch.out) (string_bytes c.write_escaped.new.out) c.loop-ch.yielded c.in-Some.ch c.loop-ch.invariant c.in_ok-write_escaped.ensures

pub returns : goal.returns
returns c =
    let end = YieldsList-end (YieldsList-from_chars c.args.contents.now c.utf8.contents cc) c.loop-ch.yielded _ c.loop-ch.yielded_by _ _ c.in-None.is c.next.ensures.steps in
    let e : c.loop-ch.yielded ≡ chars c.args.contents.now = sym (map-id c.loop-ch.yielded) ∙ end.0 in
    on-written c.push_str-2.result (string_bytes c.push_str-2.new.self) _ _ _ c.push_str-2.ensures.bytes (λ h.
    quoted-end (string_bytes c.args.out.now) (string_bytes c.push_str.new.self) (string_bytes c.loop-ch.out) (string_bytes c.push_str-2.new.self) (chars c.args.contents.now)
    c.in_ok-push_str.ensures.bytes (c.loop-ch.invariant ∙ ap (λ ys. string_bytes c.push_str.new.self ++ encode_utf8_all (quoted ys)) e) h)
