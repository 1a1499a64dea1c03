use Rattle.std.proofs.Common.{sym, true≢false, ◌∙◌}
use Rattle.std.specs.Prelude.{codes}
use Rattle.std.proofs.lemmas.Slice.Eq.{bytes_eq-Decides}
use Rattle.psg_run.proofs.WordForms.{check_wanted, no_check}
use Rattle.psg_run.proofs.words.of_check.Goals as goal

pub returns-then-eq : goal.returns-then-eq
returns-then-eq c = λ form is.
    check_wanted form c.args.definition.now c.args.kind.now c.args.program.now c.args.last.now is
    ((bytes_eq-Decides c.args.last.now (codes "--check")).0 (sym c.eq.ensures ∙ c.if-eq.true))

pub returns-else-eq : goal.returns-else-eq
returns-else-eq c = λ form is.
    no_check form c.args.definition.now c.args.kind.now c.args.program.now c.args.last.now is
    (λ e. true≢false (sym ((bytes_eq-Decides c.args.last.now (codes "--check")).1 e) ∙ (sym c.eq.ensures ∙ c.if-eq.false)))
