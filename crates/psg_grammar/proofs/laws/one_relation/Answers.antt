use Rattle.psg_grammar.proofs.RelationLaws.{rows_are_maximal, same_rows, same_texts, one_list}
use Rattle.psg_grammar.proofs.laws.one_relation.Goals as goal

pub returns : goal.returns
returns c = record {
  maximal = rows_are_maximal c.args.definition.now c.requires;
  rows = same_rows c.args.definition.now c.requires;
  texts = same_texts c.args.definition.now c.requires;
  list = one_list c.args.definition.now c.requires;
}
