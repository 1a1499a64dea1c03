use Rattle.psg_terms.proofs.Lists.{slice_get_some}
use Rattle.psg_menu.proofs.BlankLaws.{new_answer}
use Rattle.psg_eval.proofs.SpaceReads.{list_read}
use Rattle.psg_menu.proofs.blanks.new_list.Goals as goal

pub returns-clause-answer : goal.returns-clause-answer
returns-clause-answer g c =
    let def = c.args.definition.now in
    let (own, found) = slice_get_some def.lists c.args.list c.requires.list in
    let same = list_read def.lists c.as_slice.result.now c.args.list own c.index-as_slice-list.result c.as_slice.ensures found c.index-as_slice-list.is in
    new_answer def c.args.list own c.index-as_slice-list.result c.eval_end.result found same c.eval_end.ensures.answer
