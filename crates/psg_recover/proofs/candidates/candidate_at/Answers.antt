use Rattle.std.proofs.lemmas.Option.{slice_get-get_or}
use Rattle.psg_recover.proofs.candidates.candidate_at.Goals as goal

pub returns : goal.returns
returns c = slice_get-get_or c.args.candidates.now c.args.place _ c.requires
