use Rattle.std.proofs.Common.{ap, ◌∙◌, Some}
use Rattle.psg_defcheck.specs.Scopes.{is_phylum}
use Rattle.psg_defnumber.proofs.lookups.phylum_named.Goals as goal

pub phylum-number-requires : goal.phylum-number-requires
phylum-number-requires c = ap (is_phylum c.args.checked.now) c.as_str.ensures ∙ c.requires

pub returns : goal.returns
returns c = c.phylum-number.ensures ∙ ap Some c.as_str.ensures
