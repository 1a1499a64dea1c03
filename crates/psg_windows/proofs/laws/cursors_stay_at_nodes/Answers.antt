use Rattle.psg_windows.proofs.Keeping.{lifted_there, raised_there, lowered_there, ended_there}
use Rattle.psg_windows.proofs.laws.cursors_stay_at_nodes.Goals as goal

pub returns-clause-after_a_replaced_node : goal.returns-clause-after_a_replaced_node
returns-clause-after_a_replaced_node c = λ at path f old new. lifted_there new at path f old

pub returns-clause-after_a_new_element : goal.returns-clause-after_a_new_element
returns-clause-after_a_new_element c = λ at path k f old new. raised_there new k at path f old

pub returns-clause-after_an_element_went : goal.returns-clause-after_an_element_went
returns-clause-after_an_element_went c = λ at path k f old. lowered_there k at path f old

pub returns-clause-after_another_end : goal.returns-clause-after_another_end
returns-clause-after_another_end c = λ u at path f old. ended_there u at path f old
