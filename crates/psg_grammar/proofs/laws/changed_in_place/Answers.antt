use Rattle.psg_grammar.proofs.PathLaws.{changes_in_place}
use Rattle.psg_grammar.proofs.laws.changed_in_place.Goals as goal

pub returns : goal.returns
returns c = changes_in_place
