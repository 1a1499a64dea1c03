use Rattle.std.proofs.Common.{rules, ◌≡◌, inl, inr, refl}
use Rattle.psg_specimen.specs.Texts.{refusal_text}
use Rattle.psg_run.specs.Reading.{Defines, Nowhere, is_refused, no_room_for_definition, not_acceptable}
use Rattle.psg_run.specs.Worlds.{seen}
use Rattle.psg_run.proofs.source.end_refused.Goals as goal

pub returns-in-Memory : goal.returns-in-Memory
returns-in-Memory g c = λ bytes files input ticks read only. no_room_for_definition refl

pub returns-in_default-accept_text : goal.returns-in_default-accept_text
returns-in_default-accept_text g c = λ bytes files input ticks read only. no_room_for_definition refl

pub returns : goal.returns
returns g c = λ bytes files input ticks read only.
    let line : c.as_str.result.now ≡ refusal_text c.args.refused.now.definition c.args.refused.now.fault = search rules in
    elim c.requires.refuses [
      | inl memory ↦ absurd {A = Defines bytes (λ _. Nowhere)
          (seen files.held files.entries input ticks (g.O.Sink.written c.args.out.now) (g.O.Sink.faults c.args.out.now))
          (seen files.held files.entries input ticks (g.O.Sink.written c.put_line.new.out) (g.O.Sink.faults c.put_line.new.out))
          c.put_line.result} (c.in_default.not-Memory memory)
      | inr (refusal, of) ↦ is_refused c.as_str.result.now
          (not_acceptable c.args.refused.now.definition c.args.refused.now.fault read only refusal line) (c.put_line.ensures files input ticks)
    ]
