use Rattle.std.proofs.Common.{sym}
use Rattle.psg_eval.proofs.StartLaws.{kept_whole}
use Rattle.psg_eval.proofs.starts.whole_start.Goals as goal

pub node-made-requires-clause-takes : goal.node-made-requires-clause-takes
node-made-requires-clause-takes c = record { names_fit = c.requires.names; kinds_fit = sym c.requires.slots; summaries = tt }

pub returns-in-Some : goal.returns-in-Some
returns-in-Some c =
    kept_whole c.args.definition.now c.args.operator.now c.node-made.result c.in_ok-whole.whole c.in-Some.summary c.in-Some.is c.in_ok-whole.ensures c.requires.names c.requires.slots
    c.node-made.ensures.answer c.node-made.ensures.summary c.node-made.ensures.kind c.node-made.ensures.seen
