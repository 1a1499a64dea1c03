use Rattle.std.proofs.Common.{sym, true≢false, ◌∙◌}
use Rattle.std.specs.Prelude.{codes}
use Rattle.std.proofs.lemmas.Slice.Eq.{bytes_eq-Decides}
use Rattle.psg_run.proofs.WordForms.{frames_wanted, no_frames}
use Rattle.psg_run.proofs.words.of_framed.Goals as goal

pub returns-then-eq : goal.returns-then-eq
returns-then-eq c = λ form is.
    frames_wanted form c.args.word.now c.args.definition.now is ((bytes_eq-Decides c.args.word.now (codes "--framed")).0 (sym c.eq.ensures ∙ c.if-eq.true))

pub returns-else-eq : goal.returns-else-eq
returns-else-eq c = λ form is.
    no_frames form c.args.word.now c.args.definition.now is
    (λ e. true≢false (sym ((bytes_eq-Decides c.args.word.now (codes "--framed")).1 e) ∙ (sym c.eq.ensures ∙ c.if-eq.false)))
