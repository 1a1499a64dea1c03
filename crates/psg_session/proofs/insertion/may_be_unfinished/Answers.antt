use Rattle.std.proofs.Common.{ap, sym, ◌∙◌}
use Rattle.psg_grammar.specs.declared.types.ListKind.{ListKind}
use Rattle.psg_grammar.specs.Insertion.{may_be_unfinished}
use Rattle.psg_session.proofs.Shapes.{read_at}
use Rattle.psg_session.proofs.insertion.may_be_unfinished.Goals as goal

pub returns : goal.returns
returns c =
    ap (λ (k : ListKind). k.unfinished) (sym c.index-as_slice-list.is)
    ∙ sym (ap may_be_unfinished
    (read_at c.as_slice.result.now c.args.definition.now.lists c.args.list c.index-as_slice-list.result
    c.as_slice.ensures c.requires c.index-as_slice-list.is))
