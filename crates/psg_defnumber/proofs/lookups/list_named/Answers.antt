use Rattle.std.proofs.Common.{ap, ◌∙◌, Some}
use Rattle.psg_defcheck.specs.Scopes.{is_list}
use Rattle.psg_defnumber.proofs.lookups.list_named.Goals as goal

pub list-number-requires : goal.list-number-requires
list-number-requires c = ap (is_list c.args.checked.now) c.as_str.ensures ∙ c.requires

pub returns : goal.returns
returns c = c.list-number.ensures ∙ ap Some c.as_str.ensures
