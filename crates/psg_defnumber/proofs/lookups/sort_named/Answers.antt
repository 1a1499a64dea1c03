use Rattle.std.proofs.Common.{ap, ◌∙◌, Some}
use Rattle.psg_terms.specs.Names.{is_among}
use Rattle.psg_defcheck.specs.Scopes.{sort_names}
use Rattle.psg_defnumber.proofs.lookups.sort_named.Goals as goal

pub sort-number-requires : goal.sort-number-requires
sort-number-requires c = ap (is_among (sort_names c.args.checked.now)) c.as_str.ensures ∙ c.requires

pub returns : goal.returns
returns c = c.sort-number.ensures ∙ ap Some c.as_str.ensures
