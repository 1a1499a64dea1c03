use Rattle.std.proofs.Common.{inl, refl, subst}
use Rattle.psg_grammar.specs.Sound.{IsSound}
use Rattle.psg_specimen.specs.Refusal.{IsAccepted}
use Rattle.psg_asking.proofs.program.found.Goals as goal

pub returns-in-Ok-clause-sound : goal.returns-in-Ok-clause-sound
returns-in-Ok-clause-sound g c = subst IsSound c.parts-parts.ensures.definition c.parts-parts.ensures.parts.sound

pub returns-in-Ok-clause-accepted : goal.returns-in-Ok-clause-accepted
returns-in-Ok-clause-accepted g c = subst IsAccepted c.parts-parts.ensures.definition c.parts-parts.ensures.parts.accepted

pub returns-in-Err-Refused-clause-sound : goal.returns-in-Err-Refused-clause-sound
returns-in-Err-Refused-clause-sound g c = subst IsSound c.parts-parts.ensures.definition c.parts-parts.ensures.parts.sound

pub returns-in-Err-Refused-clause-accepted : goal.returns-in-Err-Refused-clause-accepted
returns-in-Err-Refused-clause-accepted g c = subst IsAccepted c.parts-parts.ensures.definition c.parts-parts.ensures.parts.accepted

pub outcome_of-requires-clause-kept : goal.outcome_of-requires-clause-kept
outcome_of-requires-clause-kept g c = inl refl
