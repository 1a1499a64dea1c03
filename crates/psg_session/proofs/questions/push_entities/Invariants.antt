use Rattle.std.proofs.Common.{◌≡◌, ◌++◌, drop}
use Rattle.std.specs.Prelude.{string_bytes}
use Rattle.psg_terms.specs.Signature.{AreTerms}
use Rattle.psg_session.specs.Answers.{entities_text}
use Rattle.psg_session.proofs.questions.push_entities.Given as goal

abbrev pub invariant-loop-name : goal.invariant-loop-name
invariant-loop-name l = record {
  terms : AreTerms l.sig l.rest;
  written : string_bytes l.text ++ entities_text l.sig (drop l.name-index l.names) l.rest
      ≡ string_bytes l.initial.text ++ entities_text l.sig l.names l.entities;
}
