use Rattle.std.proofs.Common.{◌≡◌, List, length}
use Rattle.psg_class.specs.Machine.{Frame as Plain}
use Rattle.psg_class.specs.Texts.{tokens_of}
use Rattle.psg_parse.specs.States.{Aim, GoesOn, IsState}
use Rattle.psg_parse.specs.Work.{state_work}
use Rattle.psg_parse.proofs.advance.take.Given as goal

abbrev pub invariant-steps : goal.invariant-steps
invariant-steps l = record {
  goes : (aim : Aim) (st : List Plain) → IsState l.fn.state aim st → GoesOn l.definition aim st (tokens_of l.fn.state.rest.now) l.state;
  same : length l.state.rest.now ≡ l.tokens;
  none : length l.state.rest.now ≡ length l.fn.state.rest.now;
}

abbrev pub decreases-steps : goal.decreases-steps
decreases-steps l = state_work l.state
