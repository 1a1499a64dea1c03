use Rattle.std.proofs.Common.{◌∙◌}
use Rattle.psg_server.proofs.FieldLaws.{any_is}
use Rattle.psg_server.proofs.fields.has_text.Goals as goal

pub returns : goal.returns
returns c = c.any_text.ensures ∙ any_is c.args.name.now c.args.items.now
