use Rattle.std.proofs.lemmas.Bool.Decides.{Decides-eqb}
use Rattle.std.proofs.lemmas.Slice.Eq.{starts_is}
use Rattle.psg_unparse.proofs.SpliceSteps.{leads_by}
use Rattle.psg_face.proofs.listing.leads_along.Goals as goal

pub returns : goal.returns
returns c =
    let s = starts_is Decides-eqb c.args.path.now c.args.above.now c.starts_with.result c.starts_with.ensures.value in
    leads_by c.starts_with.result c.args.above.now c.args.path.now s.0 s.1
