use Rattle.std.proofs.Common.{ap, subst, sym, ◌∙◌}
use Rattle.psg_eval.specs.OwnRows.{positions}
use Rattle.psg_scope.specs.Headers.{IsOrdered}
use Rattle.psg_explain.specs.Splits.{names_among}
use Rattle.psg_explain.proofs.StagingLaws.{header_here, hole_top, list_top, shape_hole, shape_list, shape_op}
use Rattle.psg_explain.proofs.adding.own_header.Goals as goal

pub returns-in_ok-header-in-Op-clause-header : goal.returns-in_ok-header-in-Op-clause-header
returns-in_ok-header-in-Op-clause-header c =
    header_here c.args.definition.now c.in-Op.op c.in-Op.parts c.args.tree.now c.as_slice-in-Op.result.now c.in_ok-header-in-Op.header (shape_op c.shape.result.now c.in-Op.op c.in-Op.parts c.args.tree.now c.in-Op.is c.shape.ensures)
    (λ op at. c.as_slice-in-Op.ensures.value ∙ c.in_ok-own-in-Op.ensures op at ∙ ap (λ ps. positions op.items (names_among ps)) c.as_slice.ensures) c.in_ok-header-in-Op.ensures.header

pub returns-in_ok-header-in-Hole-clause-header : goal.returns-in_ok-header-in-Hole-clause-header
returns-in_ok-header-in-Hole-clause-header c = λ o op top at.
    absurd (hole_top c.in-Hole.phylum c.args.tree.now o (shape_hole c.shape.result.now c.in-Hole.phylum c.args.tree.now c.in-Hole.is c.shape.ensures) top)

pub returns-in_ok-header-in-Hole-clause-ordered : goal.returns-in_ok-header-in-Hole-clause-ordered
returns-in_ok-header-in-Hole-clause-ordered c = subst IsOrdered (sym c.in_ok-header-in-Hole.ensures) (record { keys_rise = tt; spaces_rise = tt })

pub returns-in_ok-header-in-List-clause-header : goal.returns-in_ok-header-in-List-clause-header
returns-in_ok-header-in-List-clause-header c = λ o op top at.
    absurd (list_top c.in-List.list c.in-List.elements c.in-List.unfinished c.args.tree.now o
    (shape_list c.shape.result.now c.in-List.list c.in-List.elements c.in-List.unfinished c.args.tree.now c.in-List.is c.shape.ensures) top)

pub returns-in_ok-header-in-List-clause-ordered : goal.returns-in_ok-header-in-List-clause-ordered
returns-in_ok-header-in-List-clause-ordered c = subst IsOrdered (sym c.in_ok-header-in-List.ensures) (record { keys_rise = tt; spaces_rise = tt })
