use Rattle.psg_deflines.proofs.EntryLaws.{found-by}
use Rattle.psg_deflines.proofs.entries.found.Goals as goal

pub returns : goal.returns
returns c =
    found-by c.args.line c.args.right c.args.fixed c.are_both-good.result c.mistake-code.result c.kept.result
    c.are_both-good.ensures c.mistake-code.ensures c.kept.ensures
