use Rattle.std.proofs.Common.{[], refl, inr, arith}
use Rattle.psg_grammar.specs.Fragments.{ending}
use Rattle.psg_class.specs.Machine.{behind_all}
use Rattle.psg_class.specs.Texts.{tokens_of}
use Rattle.psg_parse.specs.States.{giving}
use Rattle.psg_parse.proofs.Leading.{stays}
use Rattle.psg_parse.proofs.lists.finish.Goals as goal

pub returns-clause-leads : goal.returns-clause-leads
returns-clause-leads c st before n h x = record {
  aim = giving (behind_all c.args.list before (ending c.args.list c.args.unfinished)) n;
  st = st;
  stands = record { mode = (behind_all c.args.list before (ending c.args.list c.args.unfinished), n, c.in_ok-tree.ensures before n x, refl); stack = h };
  taken = [];
  are = refl;
  moves = stays c.args.definition.now (giving (behind_all c.args.list before (ending c.args.list c.args.unfinished)) n) st (tokens_of c.args.rest.now);
}

pub returns-clause-falls : goal.returns-clause-falls
returns-clause-falls c = inr (refl, omega arith)
