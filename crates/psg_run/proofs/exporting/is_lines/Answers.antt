use Rattle.std.proofs.Common.{◌≡◌, ap, ◌∙◌}
use Rattle.psg_grammar.specs.declared.types.Kind.TheVariants as kinds
use Rattle.psg_run.proofs.WholeDefinitions.{is_zero, list_has_kind, operator_has_not, same_list, zero_is}
use Rattle.psg_run.proofs.exporting.is_lines.Goals as goal

pub returns-in-List : goal.returns-in-List
returns-in-List c = λ def kind formed.
    let is : kind ≡ kinds.List c.in-List.list =
    list_has_kind def c.shape.result.now c.in-List.list c.in-List.elements c.in-List.unfinished c.args.tree.now kind c.in-List.is
    c.shape.ensures formed in (
      λ same. is ∙ ap kinds.List (zero_is c.in-List.list same),
      λ lines. is_zero c.in-List.list (same_list kind c.in-List.list is lines),
    )

pub returns-in-Op : goal.returns-in-Op
returns-in-Op c = λ def kind formed. (
  λ same. cc,
  λ lines. absurd (operator_has_not def c.shape.result.now c.in-Op.op c.in-Op.parts c.args.tree.now kind c.in-Op.is c.shape.ensures
      formed lines),
)
