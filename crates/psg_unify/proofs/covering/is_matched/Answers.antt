use Rattle.std.proofs.Common.{◌++◌, ap, ◌∙◌}
use Rattle.psg_unify.specs.Covering.{facings}
use Rattle.psg_unify.proofs.CoverSteps.{matched, first_none, can_begin}
use Rattle.psg_unify.proofs.covering.is_matched.Goals as goal

pub returns : goal.returns
returns c =
    matched c.args.sig.now c.args.pool.now (record { numbers = c.in_ok-new.field-0; first = c.new-2.result; left = c.push_row.new.left }) c.match_all.new.state c.args.general.now c.args.cells.now
    c.in_ok-matched.matched c.if-general-cells.false (c.in_ok-push_row.ensures ∙ ap (λ l. l ++ facings c.args.general.now c.args.cells.now) c.new-3.ensures.items)
    (first_none c.new-2.result c.new-2.ensures.empty) c.in_ok-new.ensures.numbered c.in_ok-matched.ensures.yes c.in_ok-matched.ensures.done c.in_ok-matched.ensures.no

pub match_all-requires-clause-can : goal.match_all-requires-clause-can
match_all-requires-clause-can c =
    can_begin c.args.pool.now (record { numbers = c.in_ok-new.field-0; first = c.new-2.result; left = c.push_row.new.left }) c.args.general.now c.args.cells.now (c.in_ok-new.ensures.count ∙ c.count.ensures)
    (first_none c.new-2.result c.new-2.ensures.empty) (c.in_ok-push_row.ensures ∙ ap (λ l. l ++ facings c.args.general.now c.args.cells.now) c.new-3.ensures.items) c.requires.among
