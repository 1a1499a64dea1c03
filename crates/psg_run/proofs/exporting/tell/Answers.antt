use Rattle.std.proofs.Common.{Err, [], refl, sym, ◌∙◌, ap, subst}
use Rattle.psg_grammar.specs.declared.types.Definition.{Definition}
use Rattle.psg_self.specs.SelfLanguage.{IsSelf}
use Rattle.psg_session.specs.PlainState.{start}
use Rattle.psg_session.specs.Replies.{answered}
use Rattle.psg_session.specs.Sessions.{state_of}
use Rattle.std.specs.Prelude.{string_bytes}
use Rattle.psg_run.specs.declared.status.Status.TheVariants as ends_with
use Rattle.psg_run.specs.Exporting.{Exports, IsExport, TellsExport, no_room_to_export}
use Rattle.psg_run.specs.Chain.{Runs, no_room_to_begin}
use Rattle.psg_run.specs.Editing.{Editor, IsSilent}
use Rattle.psg_run.specs.Playing.{BreaksAmong, last_of, point}
use Rattle.psg_run.specs.Scripts.{script_lines}
use Rattle.psg_run.specs.Worlds.{World, seen}
use Rattle.psg_run.proofs.Exported.{end_exported, end_exported_front}
use Rattle.psg_run.proofs.Onward.{same_seen}
use Rattle.psg_run.proofs.Telling.{end_among, end_untold}
use Rattle.psg_run.proofs.exporting.tell.Goals as goal

pub report-requires : goal.report-requires
report-requires g c =
    record { itself = subst IsSelf (sym (c.in_default-apply_all.ensures.language ∙ c.in-Ok.ensures.language)) c.requires.itself }

pub returns-in_default : goal.returns-in_default
returns-in_default g c = λ input. no_room_to_begin refl

pub returns-in-Err : goal.returns-in-Err
returns-in-Err g c = λ input.
    end_among c.args.language (TellsExport c.args.language c.args.file.now) (script_lines c.args.script.now)
    (seen (g.F.Files.holds c.args.files.now) (g.F.Files.faults c.args.files.now) input c.args.steps.now (g.O.Sink.written c.args.out.now) (g.O.Sink.faults c.args.out.now))
    (seen (g.F.Files.holds c.apply_all.new.files) (g.F.Files.faults c.apply_all.new.files) input c.apply_all.new.steps (g.O.Sink.written c.args.out.now) (g.O.Sink.faults c.args.out.now)) refl
    (subst (λ (d : Definition). BreaksAmong d (script_lines c.args.script.now) (seen (g.F.Files.holds c.args.files.now) (g.F.Files.faults c.args.files.now) input c.args.steps.now (g.O.Sink.written c.args.out.now) (g.O.Sink.faults c.args.out.now)) (seen (g.F.Files.holds c.apply_all.new.files) (g.F.Files.faults c.apply_all.new.files) input c.apply_all.new.steps (g.O.Sink.written c.args.out.now) (g.O.Sink.faults c.args.out.now))) c.in-Ok.ensures.language
    (c.in-Err.ensures.err input (g.O.Sink.written c.args.out.now) (g.O.Sink.faults c.args.out.now)))

pub returns-in-Err-report : goal.returns-in-Err-report
returns-in-Err-report g c = λ input.
    let same = same_seen (g.F.Files.holds c.apply_all.new.files) (g.F.Files.holds c.report.new.files) (g.F.Files.faults c.apply_all.new.files)
    (g.F.Files.faults c.report.new.files) input c.apply_all.new.steps (g.O.Sink.written c.args.out.now) (g.O.Sink.written c.args.out.now)
    (g.O.Sink.faults c.args.out.now) (g.O.Sink.faults c.args.out.now) c.in-Err-report.ensures.holds c.in-Err-report.ensures.entries refl refl in
    subst (λ (w : World). Exports c.args.language c.args.file.now (script_lines c.args.script.now) (seen (g.F.Files.holds c.args.files.now) (g.F.Files.faults c.args.files.now) input c.args.steps.now (g.O.Sink.written c.args.out.now) (g.O.Sink.faults c.args.out.now)) w ends_with.Memory) (sym same)
    (end_untold c.args.language (TellsExport c.args.language c.args.file.now) (script_lines c.args.script.now)
    (seen (g.F.Files.holds c.args.files.now) (g.F.Files.faults c.args.files.now) input c.args.steps.now (g.O.Sink.written c.args.out.now) (g.O.Sink.faults c.args.out.now))
    (seen (g.F.Files.holds c.apply_all.new.files) (g.F.Files.faults c.apply_all.new.files) input c.apply_all.new.steps (g.O.Sink.written c.args.out.now) (g.O.Sink.faults c.args.out.now))
    (state_of c.apply_all.new.session.editor) (last_of c.in_default-apply_all.field-0)
    (subst (λ (d : Definition). Runs Editor (IsSilent d) (point start (answered []) (seen (g.F.Files.holds c.args.files.now) (g.F.Files.faults c.args.files.now) input c.args.steps.now (g.O.Sink.written c.args.out.now) (g.O.Sink.faults c.args.out.now))) (script_lines c.args.script.now) []
    (point (state_of c.apply_all.new.session.editor) (last_of c.in_default-apply_all.field-0) (seen (g.F.Files.holds c.apply_all.new.files) (g.F.Files.faults c.apply_all.new.files) input c.apply_all.new.steps (g.O.Sink.written c.args.out.now) (g.O.Sink.faults c.args.out.now)))) c.in-Ok.ensures.language
    (c.in_default-apply_all.ensures.ok input (g.O.Sink.written c.args.out.now) (g.O.Sink.faults c.args.out.now))) no_room_to_export refl)

pub returns-in-Ok-put_all : goal.returns-in-Ok-put_all
returns-in-Ok-put_all g c = λ input.
    end_exported c.args.language c.args.file.now (script_lines c.args.script.now)
    (seen (g.F.Files.holds c.args.files.now) (g.F.Files.faults c.args.files.now) input c.args.steps.now (g.O.Sink.written c.args.out.now) (g.O.Sink.faults c.args.out.now))
    (seen (g.F.Files.holds c.apply_all.new.files) (g.F.Files.faults c.apply_all.new.files) input c.apply_all.new.steps (g.O.Sink.written c.args.out.now) (g.O.Sink.faults c.args.out.now))
    (state_of c.apply_all.new.session.editor) (last_of c.in_default-apply_all.field-0)
    (subst (λ (d : Definition). Runs Editor (IsSilent d) (point start (answered []) (seen (g.F.Files.holds c.args.files.now) (g.F.Files.faults c.args.files.now) input c.args.steps.now (g.O.Sink.written c.args.out.now) (g.O.Sink.faults c.args.out.now))) (script_lines c.args.script.now) []
    (point (state_of c.apply_all.new.session.editor) (last_of c.in_default-apply_all.field-0) (seen (g.F.Files.holds c.apply_all.new.files) (g.F.Files.faults c.apply_all.new.files) input c.apply_all.new.steps (g.O.Sink.written c.args.out.now) (g.O.Sink.faults c.args.out.now)))) c.in-Ok.ensures.language
    (c.in_default-apply_all.ensures.ok input (g.O.Sink.written c.args.out.now) (g.O.Sink.faults c.args.out.now)))
    (seen (g.F.Files.holds c.report.new.files) (g.F.Files.faults c.report.new.files) input c.apply_all.new.steps (g.O.Sink.written c.put_all.new.out) (g.O.Sink.faults c.put_all.new.out)) refl refl (string_bytes c.in-Ok-report.text)
    (subst (λ (d : Definition). IsExport d c.args.file.now (state_of c.apply_all.new.session.editor).opened (record { held = g.F.Files.holds c.apply_all.new.files; entries = g.F.Files.faults c.apply_all.new.files }) (record { held = g.F.Files.holds c.report.new.files; entries = g.F.Files.faults c.report.new.files }) (string_bytes c.in-Ok-report.text))
    (c.in_default-apply_all.ensures.language ∙ c.in-Ok.ensures.language) c.in-Ok-report.ensures.ok)
    c.as_bytes.result.now c.as_bytes.ensures.value c.in-Ok-put_all.ensures.all

pub returns : goal.returns
returns g c = λ input.
    subst (λ s. Exports c.args.language c.args.file.now (script_lines c.args.script.now) (seen (g.F.Files.holds c.args.files.now) (g.F.Files.faults c.args.files.now) input c.args.steps.now (g.O.Sink.written c.args.out.now) (g.O.Sink.faults c.args.out.now)) (seen (g.F.Files.holds c.report.new.files) (g.F.Files.faults c.report.new.files) input c.apply_all.new.steps (g.O.Sink.written c.put_all.new.out) (g.O.Sink.faults c.put_all.new.out)) s) (sym c.write_status.ensures)
    (end_exported_front c.args.language c.args.file.now (script_lines c.args.script.now)
    (seen (g.F.Files.holds c.args.files.now) (g.F.Files.faults c.args.files.now) input c.args.steps.now (g.O.Sink.written c.args.out.now) (g.O.Sink.faults c.args.out.now))
    (seen (g.F.Files.holds c.apply_all.new.files) (g.F.Files.faults c.apply_all.new.files) input c.apply_all.new.steps (g.O.Sink.written c.args.out.now) (g.O.Sink.faults c.args.out.now))
    (state_of c.apply_all.new.session.editor) (last_of c.in_default-apply_all.field-0)
    (subst (λ (d : Definition). Runs Editor (IsSilent d) (point start (answered []) (seen (g.F.Files.holds c.args.files.now) (g.F.Files.faults c.args.files.now) input c.args.steps.now (g.O.Sink.written c.args.out.now) (g.O.Sink.faults c.args.out.now))) (script_lines c.args.script.now) []
    (point (state_of c.apply_all.new.session.editor) (last_of c.in_default-apply_all.field-0) (seen (g.F.Files.holds c.apply_all.new.files) (g.F.Files.faults c.apply_all.new.files) input c.apply_all.new.steps (g.O.Sink.written c.args.out.now) (g.O.Sink.faults c.args.out.now)))) c.in-Ok.ensures.language
    (c.in_default-apply_all.ensures.ok input (g.O.Sink.written c.args.out.now) (g.O.Sink.faults c.args.out.now)))
    (seen (g.F.Files.holds c.report.new.files) (g.F.Files.faults c.report.new.files) input c.apply_all.new.steps (g.O.Sink.written c.put_all.new.out) (g.O.Sink.faults c.put_all.new.out)) refl refl (string_bytes c.in-Ok-report.text)
    (subst (λ (d : Definition). IsExport d c.args.file.now (state_of c.apply_all.new.session.editor).opened (record { held = g.F.Files.holds c.apply_all.new.files; entries = g.F.Files.faults c.apply_all.new.files }) (record { held = g.F.Files.holds c.report.new.files; entries = g.F.Files.faults c.report.new.files }) (string_bytes c.in-Ok-report.text))
    (c.in_default-apply_all.ensures.language ∙ c.in-Ok.ensures.language) c.in-Ok-report.ensures.ok)
    c.as_bytes.result.now c.as_bytes.ensures.value c.in-Err-put_all.ensures.front c.in-Err-put_all.stop
    (λ failed. c.in-Err-put_all.ensures.failed (ap Err failed)))
