use Rattle.psg_menu.proofs.Climbing.{elem_answer, elem_can, op_answer, op_can}
use Rattle.psg_menu.proofs.sharing.over_frame.Goals as goal

pub over_rung-requires-clause-level : goal.over_rung-requires-clause-level
over_rung-requires-clause-level g c =
    let (o, below, done, kind, up, apart, can, is) = c.requires.level in
    (o, below, done, kind, up, apart, op_can c.args.definition.now c.args.frame.now c.in-Op.op c.in-Op.hot c.in-Op.names c.as_slice.result.now c.in-Op.children c.as_slice-in-Op.result.now c.in-Op.is c.as_slice.ensures c.as_slice-in-Op.ensures kind up can, is)

pub over_list-requires-clause-level : goal.over_list-requires-clause-level
over_list-requires-clause-level g c =
    let (o, below, done, kind, up, apart, can, is) = c.requires.level in
    (o, below, done, kind, apart, elem_can c.args.definition.now c.args.frame.now c.in-Elem.list c.in-Elem.before c.as_slice-front.result.now c.in-Elem.rest c.in-Elem.is c.as_slice-front.ensures kind up can is.some, is)

pub returns-in-Op-clause-level : goal.returns-in-Op-clause-level
returns-in-Op-clause-level g c = λ o below done kind up apart can is.
    op_answer c.args.definition.now c.args.frame.now c.in-Op.op c.in-Op.hot c.in-Op.names c.as_slice.result.now c.in-Op.children c.as_slice-in-Op.result.now c.in-Op.is c.as_slice.ensures c.as_slice-in-Op.ensures o below c.args.star.now c.args.candidates.now done up c.over_rung.result
    (c.over_rung.ensures.level o below done kind up apart
    (op_can c.args.definition.now c.args.frame.now c.in-Op.op c.in-Op.hot c.in-Op.names c.as_slice.result.now c.in-Op.children c.as_slice-in-Op.result.now c.in-Op.is c.as_slice.ensures c.as_slice-in-Op.ensures kind up can) is)

pub returns-in-Elem-clause-level : goal.returns-in-Elem-clause-level
returns-in-Elem-clause-level g c = λ o below done kind up apart can is.
    elem_answer c.args.definition.now c.args.frame.now c.in-Elem.list c.in-Elem.before c.as_slice-front.result.now c.in-Elem.rest c.in-Elem.is c.as_slice-front.ensures o below c.args.star.now c.args.candidates.now done kind up c.over_list.result can is.some
    (c.over_list.ensures.level o below done kind apart
    (elem_can c.args.definition.now c.args.frame.now c.in-Elem.list c.in-Elem.before c.as_slice-front.result.now c.in-Elem.rest c.in-Elem.is c.as_slice-front.ensures kind up can is.some) is)
