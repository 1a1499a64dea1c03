use Rattle.std.proofs.Common.{length, refl, sym, ◌∙◌}
use Rattle.psg_server.proofs.FieldLaws.{last_none, last_some}
use Rattle.psg_server.proofs.fields.last_of.Goals as goal

pub returns-then-is_empty : goal.returns-then-is_empty
returns-then-is_empty c = last_none c.args.items.now (sym c.is_empty.ensures ∙ c.if-is_empty.true)

pub returns : goal.returns
returns c =
    last_some c.args.items.now (length c.args.items.now) c.index-items-items.result
    (sym c.is_empty.ensures ∙ c.if-is_empty.false) refl c.index-items-items.is
