use Rattle.std.proofs.Common.{Err, [], refl, sym, ◌∙◌, ap, subst}
use Rattle.std.specs.Prelude.{string_bytes}
use Rattle.psg_grammar.specs.declared.types.Definition.{Definition}
use Rattle.psg_session.specs.PlainState.{start}
use Rattle.psg_session.specs.Replies.{answered}
use Rattle.psg_session.specs.Sessions.{state_of}
use Rattle.psg_run.specs.Chain.{Runs, no_room_to_begin}
use Rattle.psg_run.specs.Editing.{Editor, IsSilent}
use Rattle.psg_run.specs.Explaining.{Explains, IsSaid, TellsWhy}
use Rattle.psg_run.specs.Playing.{BreaksAmong, last_of, point}
use Rattle.psg_run.specs.Scripts.{script_lines}
use Rattle.psg_run.specs.Worlds.{seen}
use Rattle.psg_run.proofs.Telling.{end_among}
use Rattle.psg_run.proofs.Whys.{end_said, end_said_front, end_unsaid}
use Rattle.psg_run.proofs.explaining.tell.Goals as goal

pub returns-in_default : goal.returns-in_default
returns-in_default g c = λ input. no_room_to_begin refl

pub returns-in-Err : goal.returns-in-Err
returns-in-Err g c = λ input.
    end_among c.args.language (TellsWhy c.args.language) (script_lines c.args.script.now)
    (seen (g.F.Files.holds c.args.files.now) (g.F.Files.faults c.args.files.now) input c.args.steps.now (g.O.Sink.written c.args.out.now) (g.O.Sink.faults c.args.out.now))
    (seen (g.F.Files.holds c.apply_all.new.files) (g.F.Files.faults c.apply_all.new.files) input c.apply_all.new.steps (g.O.Sink.written c.args.out.now) (g.O.Sink.faults c.args.out.now)) refl
    (subst (λ (d : Definition). BreaksAmong d (script_lines c.args.script.now) (seen (g.F.Files.holds c.args.files.now) (g.F.Files.faults c.args.files.now) input c.args.steps.now (g.O.Sink.written c.args.out.now) (g.O.Sink.faults c.args.out.now)) (seen (g.F.Files.holds c.apply_all.new.files) (g.F.Files.faults c.apply_all.new.files) input c.apply_all.new.steps (g.O.Sink.written c.args.out.now) (g.O.Sink.faults c.args.out.now))) c.in-Ok.ensures.language
    (c.in-Err.ensures.err input (g.O.Sink.written c.args.out.now) (g.O.Sink.faults c.args.out.now)))

pub returns-in-Err-opened_text : goal.returns-in-Err-opened_text
returns-in-Err-opened_text g c = λ input.
    end_unsaid c.args.language (script_lines c.args.script.now)
    (seen (g.F.Files.holds c.args.files.now) (g.F.Files.faults c.args.files.now) input c.args.steps.now (g.O.Sink.written c.args.out.now) (g.O.Sink.faults c.args.out.now))
    (seen (g.F.Files.holds c.apply_all.new.files) (g.F.Files.faults c.apply_all.new.files) input c.apply_all.new.steps (g.O.Sink.written c.args.out.now) (g.O.Sink.faults c.args.out.now))
    (state_of c.apply_all.new.session.editor) (last_of c.in_default-apply_all.field-0)
    (subst (λ (d : Definition). Runs Editor (IsSilent d) (point start (answered []) (seen (g.F.Files.holds c.args.files.now) (g.F.Files.faults c.args.files.now) input c.args.steps.now (g.O.Sink.written c.args.out.now) (g.O.Sink.faults c.args.out.now))) (script_lines c.args.script.now) []
    (point (state_of c.apply_all.new.session.editor) (last_of c.in_default-apply_all.field-0) (seen (g.F.Files.holds c.apply_all.new.files) (g.F.Files.faults c.apply_all.new.files) input c.apply_all.new.steps (g.O.Sink.written c.args.out.now) (g.O.Sink.faults c.args.out.now)))) c.in-Ok.ensures.language
    (c.in_default-apply_all.ensures.ok input (g.O.Sink.written c.args.out.now) (g.O.Sink.faults c.args.out.now)))
    (seen (g.F.Files.holds c.apply_all.new.files) (g.F.Files.faults c.apply_all.new.files) input c.opened_text.new.steps (g.O.Sink.written c.args.out.now) (g.O.Sink.faults c.args.out.now)) refl refl c.opened_text.ensures.ticks refl

pub returns-in-Ok-put_all : goal.returns-in-Ok-put_all
returns-in-Ok-put_all g c = λ input.
    end_said c.args.language (script_lines c.args.script.now)
    (seen (g.F.Files.holds c.args.files.now) (g.F.Files.faults c.args.files.now) input c.args.steps.now (g.O.Sink.written c.args.out.now) (g.O.Sink.faults c.args.out.now))
    (seen (g.F.Files.holds c.apply_all.new.files) (g.F.Files.faults c.apply_all.new.files) input c.apply_all.new.steps (g.O.Sink.written c.args.out.now) (g.O.Sink.faults c.args.out.now))
    (state_of c.apply_all.new.session.editor) (last_of c.in_default-apply_all.field-0)
    (subst (λ (d : Definition). Runs Editor (IsSilent d) (point start (answered []) (seen (g.F.Files.holds c.args.files.now) (g.F.Files.faults c.args.files.now) input c.args.steps.now (g.O.Sink.written c.args.out.now) (g.O.Sink.faults c.args.out.now))) (script_lines c.args.script.now) []
    (point (state_of c.apply_all.new.session.editor) (last_of c.in_default-apply_all.field-0) (seen (g.F.Files.holds c.apply_all.new.files) (g.F.Files.faults c.apply_all.new.files) input c.apply_all.new.steps (g.O.Sink.written c.args.out.now) (g.O.Sink.faults c.args.out.now)))) c.in-Ok.ensures.language
    (c.in_default-apply_all.ensures.ok input (g.O.Sink.written c.args.out.now) (g.O.Sink.faults c.args.out.now)))
    (seen (g.F.Files.holds c.apply_all.new.files) (g.F.Files.faults c.apply_all.new.files) input c.opened_text.new.steps (g.O.Sink.written c.put_all.new.out) (g.O.Sink.faults c.put_all.new.out)) refl refl c.opened_text.ensures.ticks (string_bytes c.in-Ok-opened_text.text)
    (subst (λ (d : Definition). IsSaid d (state_of c.apply_all.new.session.editor).opened (string_bytes c.in-Ok-opened_text.text))
    (c.in_default-apply_all.ensures.language ∙ c.in-Ok.ensures.language) c.in-Ok-opened_text.ensures.text)
    c.as_bytes.result.now c.as_bytes.ensures.value c.in-Ok-put_all.ensures.all

pub returns : goal.returns
returns g c = λ input.
    subst (λ s. Explains c.args.language (script_lines c.args.script.now) (seen (g.F.Files.holds c.args.files.now) (g.F.Files.faults c.args.files.now) input c.args.steps.now (g.O.Sink.written c.args.out.now) (g.O.Sink.faults c.args.out.now)) (seen (g.F.Files.holds c.apply_all.new.files) (g.F.Files.faults c.apply_all.new.files) input c.opened_text.new.steps (g.O.Sink.written c.put_all.new.out) (g.O.Sink.faults c.put_all.new.out)) s) (sym c.write_status.ensures)
    (end_said_front c.args.language (script_lines c.args.script.now)
    (seen (g.F.Files.holds c.args.files.now) (g.F.Files.faults c.args.files.now) input c.args.steps.now (g.O.Sink.written c.args.out.now) (g.O.Sink.faults c.args.out.now))
    (seen (g.F.Files.holds c.apply_all.new.files) (g.F.Files.faults c.apply_all.new.files) input c.apply_all.new.steps (g.O.Sink.written c.args.out.now) (g.O.Sink.faults c.args.out.now))
    (state_of c.apply_all.new.session.editor) (last_of c.in_default-apply_all.field-0)
    (subst (λ (d : Definition). Runs Editor (IsSilent d) (point start (answered []) (seen (g.F.Files.holds c.args.files.now) (g.F.Files.faults c.args.files.now) input c.args.steps.now (g.O.Sink.written c.args.out.now) (g.O.Sink.faults c.args.out.now))) (script_lines c.args.script.now) []
    (point (state_of c.apply_all.new.session.editor) (last_of c.in_default-apply_all.field-0) (seen (g.F.Files.holds c.apply_all.new.files) (g.F.Files.faults c.apply_all.new.files) input c.apply_all.new.steps (g.O.Sink.written c.args.out.now) (g.O.Sink.faults c.args.out.now)))) c.in-Ok.ensures.language
    (c.in_default-apply_all.ensures.ok input (g.O.Sink.written c.args.out.now) (g.O.Sink.faults c.args.out.now)))
    (seen (g.F.Files.holds c.apply_all.new.files) (g.F.Files.faults c.apply_all.new.files) input c.opened_text.new.steps (g.O.Sink.written c.put_all.new.out) (g.O.Sink.faults c.put_all.new.out)) refl refl c.opened_text.ensures.ticks (string_bytes c.in-Ok-opened_text.text)
    (subst (λ (d : Definition). IsSaid d (state_of c.apply_all.new.session.editor).opened (string_bytes c.in-Ok-opened_text.text))
    (c.in_default-apply_all.ensures.language ∙ c.in-Ok.ensures.language) c.in-Ok-opened_text.ensures.text)
    c.as_bytes.result.now c.as_bytes.ensures.value c.in-Err-put_all.ensures.front c.in-Err-put_all.stop
    (λ failed. c.in-Err-put_all.ensures.failed (ap Err failed)))
