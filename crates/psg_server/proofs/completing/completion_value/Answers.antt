use Rattle.std.specs.Prelude.{map}
use Rattle.serde_json.specs.View.{view}
use Rattle.psg_server.proofs.completing.completion_value.Goals as goal

pub returns : goal.returns
returns c = record {
  filter = c.word_of-filter.result.now;
  is_word = c.word_of-filter.ensures;
  items = map view c.in_ok-values.values.items;
  are = c.in_ok-values.ensures;
  is = c.in_ok-list.ensures;
}
