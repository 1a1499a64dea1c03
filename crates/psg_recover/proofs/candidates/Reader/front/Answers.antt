use Rattle.std.proofs.Common.{subst, sym}
use Rattle.psg_class.specs.Class.{IsClass}
use Rattle.psg_class.specs.Texts.{tokens_of}
use Rattle.psg_recover.specs.Grammars.{quiet}
use Rattle.psg_recover.proofs.ReaderLaws.{front_stop, front_whole}
use Rattle.psg_recover.proofs.candidates.Reader.front.Goals as goal

pub reach-requires : goal.reach-requires
reach-requires c =
    let r = c.requires.reader in
    record { class = subst IsClass (sym r.grammar) r.class; table = r.table }

pub returns-clause-whole : goal.returns-clause-whole
returns-clause-whole c =
    let r = c.requires.reader in
    front_whole c.args.self.grammar.now.definition (quiet c.args.self.known.definition.now) c.whole-goal.result c.args.kind
    (tokens_of c.args.tokens.now) c.in_ok-front.front.whole r.grammar c.whole-goal.ensures.kind c.whole-goal.ensures.least
    c.in_ok-front.ensures.whole

pub returns-clause-stop : goal.returns-clause-stop
returns-clause-stop c =
    let r = c.requires.reader in
    front_stop c.args.self.grammar.now.definition (quiet c.args.self.known.definition.now) c.whole-goal.result c.args.kind
    (tokens_of c.args.tokens.now) c.in_ok-front.front.tokens r.grammar c.whole-goal.ensures.kind c.whole-goal.ensures.least
    r.can_end c.requires.trees c.in_ok-front.ensures.stop
