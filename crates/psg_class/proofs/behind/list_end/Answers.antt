use Rattle.std.proofs.Common.{◌+◌, length, subst}
use Rattle.psg_class.specs.Class.{ListEnd}
use Rattle.psg_class.specs.Failing.{ends, IsFirstFailing}
use Rattle.psg_class.proofs.TableLaws.{table_first}
use Rattle.psg_class.proofs.BehindLaws.{list_end_table, separators_length}
use Rattle.psg_class.proofs.behind.list_end.Goals as goal

pub returns : goal.returns
returns c =
    let def = c.args.definition.now in
    let words = c.args.vocabulary.now.words.items in
    let s = c.args.sets.now in
    let width = c.args.vocabulary.now.base + length c.args.vocabulary.now.words.items in
    table_first def words (ListEnd def) (length def.lists) width (ends s.rows s.grid s.separators.items) (list_end_table def words c.requires.vocabulary.words width s c.requires.sets)
    c.args.vocabulary.now.base (length s.separators.items) s.grid.width c.requires.vocabulary.base (separators_length def words c.requires.vocabulary.words width s c.requires.sets) c.requires.sets.table.width_is
    c.first_end.result (subst (λ l. IsFirstFailing c.args.vocabulary.now.base words (length l) s.grid.width (ends s.rows s.grid l) c.first_end.result) c.as_slice.ensures.value c.first_end.ensures)
