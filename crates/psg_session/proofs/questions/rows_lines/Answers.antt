use Rattle.std.proofs.Common.{sym, ◌∙◌, subst}
use Rattle.psg_terms.specs.Relations.{IsIn}
use Rattle.psg_terms.specs.Signature.{AreTerms}
use Rattle.psg_relation.proofs.Members.{in-at}
use Rattle.psg_session.proofs.questions.rows_lines.Goals as goal

pub row_line-requires : goal.row_line-requires
row_line-requires c =
    let among = in-at c.row-item.result c.rows-rows.result.now c.loop-row.row-index c.loop-row-test.true
    c.row-item.is in
    subst (AreTerms c.args.definition.now.signature) (sym c.terms.ensures)
    (c.requires c.row-item.result (subst (IsIn c.row-item.result) (c.rows-rows.ensures.rows ∙ c.rel.ensures) among))
