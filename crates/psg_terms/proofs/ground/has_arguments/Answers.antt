use Rattle.psg_terms.proofs.Soundness.{arguments-there, arguments-past}
use Rattle.psg_terms.proofs.ground.has_arguments.Goals as goal

pub returns-in-Some : goal.returns-in-Some
returns-in-Some c =
    let there = c.in-Some.ensures.lookup in
    arguments-there c.args.declared.now c.args.con.0 c.in-Some.d.now c.as_slice.result.now c.is_empty.result there.3.0 there.1 c.is_empty.ensures c.as_slice.ensures

pub returns-in-None : goal.returns-in-None
returns-in-None c = arguments-past c.args.declared.now c.args.con.0 c.in-None.ensures.lookup.3
