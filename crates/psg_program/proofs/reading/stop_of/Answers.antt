use Rattle.psg_class.specs.Texts.{tokens_of}
use Rattle.psg_program.proofs.Accepted.{can_end, stop_is}
use Rattle.psg_program.proofs.reading.stop_of.Goals as goal

pub endable-requires : goal.endable-requires
endable-requires c =
    rw c.definition-definition.ensures.same (can_end c.args.language.now c.definition-definition.ensures.sound c.definition-definition.ensures.accepted c.definition-definition.ensures.tokens)

pub trees-requires : goal.trees-requires
trees-requires c =
    rw c.definition-definition.ensures.same (can_end c.args.language.now c.definition-definition.ensures.sound c.definition-definition.ensures.accepted c.definition-definition.ensures.tokens)

pub find_stop-requires-clause-class : goal.find_stop-requires-clause-class
find_stop-requires-clause-class c =
    rw c.definition-definition.ensures.same c.definition-definition.ensures.accepted.of_class

pub returns : goal.returns
returns c =
    stop_is c.args.language.now c.definition-definition.result.now c.args.kind (tokens_of c.args.tokens.now) c.in_ok-stop.stop
    c.whole.result c.definition-definition.ensures.same c.requires.kind c.endable.ensures c.trees.ensures c.whole.ensures
    (record {
      stop = c.in_ok-stop.ensures.stop;
      ends = c.in_ok-stop.ensures.ends;
      wanted = c.in_ok-stop.ensures.wanted;
    })
