use Rattle.std.proofs.lemmas.Bool.Decides.{Decides-eqb}
use Rattle.std.proofs.lemmas.Slice.Eq.{strip_prefix_is}
use Rattle.psg_windows.proofs.moving.rest_of.Goals as goal

pub returns : goal.returns
returns c = strip_prefix_is Decides-eqb c.args.cursor.now c.args.at.now c.strip_prefix.result c.strip_prefix.ensures.cases
