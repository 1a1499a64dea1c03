use Rattle.std.proofs.Common.{sym, ◌∙◌, true≢false}
use Rattle.psg_session.specs.Reached.{IsFragmentAnswer}
use Rattle.psg_session.specs.Stops.{stop_of_kept}
use Rattle.psg_session.proofs.KeptLaws.{unread}
use Rattle.psg_session.proofs.Stopping.{passed}
use Rattle.psg_session.proofs.kept.read_kept.Goals as goal

pub returns-in_err-saved-clause-fragment : goal.returns-in_err-saved-clause-fragment
returns-in_err-saved-clause-fragment g c =
    let def = c.args.language.now.definition in
    passed (IsFragmentAnswer def c.args.bytes.now) _ (stop_of_kept c.in_err-saved.field-0.0) c.from_residual.ensures.1
    (unread def c.requires.language.sound c.requires.language.accepted.of_class c.args.bytes.now
    c.in_err-saved.field-0.0 c.in_err-saved.ensures.fault)

pub returns-clause-fragment : goal.returns-clause-fragment
returns-clause-fragment g c = (
  c.if-bytes-gt-MOST_KEPT_BYTES.false,
  c.in_ok-saved.ensures.kept,
  (λ big. true≢false (sym (c.is_big.ensures.1 big) ∙ c.if-is_big.false)),
  c.in_ok-saved.ensures.formed,
)
