use Rattle.std.proofs.Common.{ap, ◌∙◌}
use Rattle.psg_grammar.specs.Lookups as lookups
use Rattle.psg_places.proofs.OpeningLaws.{at_list, at_op}
use Rattle.psg_uses.proofs.PartLaws.{list_is_no_scope, op_scopes}
use Rattle.psg_uses.proofs.regions.is_scope.Goals as goal

pub returns-in-Op : goal.returns-in-Op
returns-in-Op c =
    c.scopes.ensures ∙ op_scopes c.args.definition.now c.in-Op.op c.in-Op.parts
    ∙ ap (lookups.is_scope c.args.definition.now) (at_op _ c.in-Op.op c.in-Op.parts _ c.in-Op.is c.shape.ensures)

pub returns-in-List : goal.returns-in-List
returns-in-List c =
    list_is_no_scope c.args.definition.now c.in-List.list c.in-List.elements c.in-List.unfinished
    ∙ ap (lookups.is_scope c.args.definition.now) (at_list _ c.in-List.list c.in-List.elements c.in-List.unfinished _ c.in-List.is c.shape.ensures)
