use Rattle.std.proofs.Common.{◌+◌, ◌≤◌, List, length, Some, sym, ◌∙◌, subst, true≢false}
use Rattle.psg_grammar.specs.declared.types.DeclareRow.{DeclareRow}
use Rattle.psg_specimen.specs.Shown.{IsUpTo}
use Rattle.psg_specimen.specs.declared.fault.Site.TheVariants as sites
use Rattle.psg_specimen.proofs.WalkLaws.{all_done, next_declare}
use Rattle.psg_specimen.proofs.unshown.in_declares.Goals as goal

pub loop-number-preserved : goal.loop-number-preserved
loop-number-preserved c =
    let def = c.args.definition.now in
    subst (IsUpTo def (Some (sites.Declare (c.loop-number.number + 1)))) (sym c.noted_site-first.ensures)
    (next_declare def c.as_slice-rows.result.now c.loop-number.number c.index-rows-number.result c.in_declare-site.result c.loop-number.first c.in_ok-flaw.flaw c.as_slice-rows.ensures
    c.loop-number-test.true c.index-rows-number.is c.in_declare-site.ensures c.in_ok-flaw.ensures (λ e. true≢false (sym (c.is_large.ensures.1 e) ∙ c.if-is_large.false)) c.loop-number.invariant)

pub returns : goal.returns
returns c =
    all_done c.args.definition.now c.loop-number.number c.loop-number.first
    (subst (λ (rows : List DeclareRow). length rows ≤ c.loop-number.number) c.as_slice-rows.ensures c.loop-number-test.false) c.loop-number.invariant
