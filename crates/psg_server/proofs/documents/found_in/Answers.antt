use Rattle.std.proofs.Common.{Some, sym, ◌∙◌, ap}
use Rattle.psg_server.proofs.DocumentLaws.{found_at, found_none}
use Rattle.psg_server.proofs.documents.found_in.Goals as goal

pub returns-in-Some : goal.returns-in-Some
returns-in-Some c =
    ap Some c.index-items-place.is
    ∙ found_at c.args.address.now c.args.items.now c.in-Some.place c.index-items-place.result
    (sym c.in-Some.is ∙ c.place_of.ensures.is)

pub returns-in-None : goal.returns-in-None
returns-in-None c = found_none c.args.address.now c.args.items.now (sym c.in-None.is ∙ c.place_of.ensures.is)
