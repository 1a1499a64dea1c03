use Rattle.std.proofs.Common.{Err, [], refl, sym, ◌∙◌, ap, subst}
use Rattle.psg_grammar.specs.Legal.{IsCompletable}
use Rattle.psg_grammar.specs.declared.types.Definition.{Definition}
use Rattle.psg_script.specs.Script.{script_lines as made_lines}
use Rattle.psg_session.specs.PlainState.{start}
use Rattle.psg_session.specs.Replies.{answered}
use Rattle.psg_session.specs.Sessions.{state_of}
use Rattle.psg_run.specs.Chain.{Runs, no_room_to_begin}
use Rattle.psg_run.specs.Editing.{Editor, IsSilent}
use Rattle.psg_run.specs.Generated.{FiveLines, Generates, operators_in}
use Rattle.psg_run.specs.Playing.{BreaksAmong, last_of, point}
use Rattle.psg_run.specs.Worlds.{seen}
use Rattle.psg_run.proofs.Summing.{broke_off, lines_of, told_front, told_runs, told_whole, untold}
use Rattle.psg_run.proofs.generating.tell.Goals as goal

pub returns-in_default : goal.returns-in_default
returns-in_default g c = λ input. no_room_to_begin refl

pub returns-in_default-new : goal.returns-in_default-new
returns-in_default-new g c = λ input. no_room_to_begin refl

pub returns-in-Err : goal.returns-in-Err
returns-in-Err g c = λ input.
    broke_off c.args.language c.args.number (seen (g.F.Files.holds c.args.files.now) (g.F.Files.faults c.args.files.now) input c.args.steps.now (g.O.Sink.written c.args.out.now) (g.O.Sink.faults c.args.out.now)) (seen (g.F.Files.holds c.apply_all.new.files) (g.F.Files.faults c.apply_all.new.files) input c.apply_all.new.steps (g.O.Sink.written c.args.out.now) (g.O.Sink.faults c.args.out.now)) refl
    (subst (λ (d : Definition). BreaksAmong d (made_lines c.args.number) (seen (g.F.Files.holds c.args.files.now) (g.F.Files.faults c.args.files.now) input c.args.steps.now (g.O.Sink.written c.args.out.now) (g.O.Sink.faults c.args.out.now)) (seen (g.F.Files.holds c.apply_all.new.files) (g.F.Files.faults c.apply_all.new.files) input c.apply_all.new.steps (g.O.Sink.written c.args.out.now) (g.O.Sink.faults c.args.out.now))) c.in-Ok-new.ensures.language
    (subst (λ l. BreaksAmong c.in-Ok-new.session.language l (seen (g.F.Files.holds c.args.files.now) (g.F.Files.faults c.args.files.now) input c.args.steps.now (g.O.Sink.written c.args.out.now) (g.O.Sink.faults c.args.out.now)) (seen (g.F.Files.holds c.apply_all.new.files) (g.F.Files.faults c.apply_all.new.files) input c.apply_all.new.steps (g.O.Sink.written c.args.out.now) (g.O.Sink.faults c.args.out.now))) (lines_of c.args.number c.requires.high c.as_slice.result.now c.in-Ok.script.items c.as_slice.ensures.value c.in-Ok.ensures)
    (c.in-Err.ensures.err input (g.O.Sink.written c.args.out.now) (g.O.Sink.faults c.args.out.now))))

pub returns-in_default-summary : goal.returns-in_default-summary
returns-in_default-summary g c = λ input.
    untold c.args.language c.args.number (seen (g.F.Files.holds c.args.files.now) (g.F.Files.faults c.args.files.now) input c.args.steps.now (g.O.Sink.written c.args.out.now) (g.O.Sink.faults c.args.out.now)) (seen (g.F.Files.holds c.apply_all.new.files) (g.F.Files.faults c.apply_all.new.files) input c.apply_all.new.steps (g.O.Sink.written c.args.out.now) (g.O.Sink.faults c.args.out.now)) (state_of c.apply_all.new.session.editor) (last_of c.in-Ok-apply_all.last)
    (subst (λ (d : Definition). Runs Editor (IsSilent d) (point start (answered []) (seen (g.F.Files.holds c.args.files.now) (g.F.Files.faults c.args.files.now) input c.args.steps.now (g.O.Sink.written c.args.out.now) (g.O.Sink.faults c.args.out.now))) (made_lines c.args.number) []
    (point (state_of c.apply_all.new.session.editor) (last_of c.in-Ok-apply_all.last) (seen (g.F.Files.holds c.apply_all.new.files) (g.F.Files.faults c.apply_all.new.files) input c.apply_all.new.steps (g.O.Sink.written c.args.out.now) (g.O.Sink.faults c.args.out.now)))) c.in-Ok-new.ensures.language
    (subst (λ l. Runs Editor (IsSilent c.in-Ok-new.session.language) (point start (answered []) (seen (g.F.Files.holds c.args.files.now) (g.F.Files.faults c.args.files.now) input c.args.steps.now (g.O.Sink.written c.args.out.now) (g.O.Sink.faults c.args.out.now))) l []
    (point (state_of c.apply_all.new.session.editor) (last_of c.in-Ok-apply_all.last) (seen (g.F.Files.holds c.apply_all.new.files) (g.F.Files.faults c.apply_all.new.files) input c.apply_all.new.steps (g.O.Sink.written c.args.out.now) (g.O.Sink.faults c.args.out.now)))) (lines_of c.args.number c.requires.high c.as_slice.result.now c.in-Ok.script.items c.as_slice.ensures.value c.in-Ok.ensures)
    (c.in-Ok-apply_all.ensures.ok input (g.O.Sink.written c.args.out.now) (g.O.Sink.faults c.args.out.now)))) refl

pub returns-in-Ok-put_all : goal.returns-in-Ok-put_all
returns-in-Ok-put_all g c = λ input.
    let (lines, five, is) = c.in-Ok-summary.ensures in
    told_whole c.args.language c.args.number (seen (g.F.Files.holds c.args.files.now) (g.F.Files.faults c.args.files.now) input c.args.steps.now (g.O.Sink.written c.args.out.now) (g.O.Sink.faults c.args.out.now)) (seen (g.F.Files.holds c.apply_all.new.files) (g.F.Files.faults c.apply_all.new.files) input c.apply_all.new.steps (g.O.Sink.written c.put_all.new.out) (g.O.Sink.faults c.put_all.new.out)) (state_of c.apply_all.new.session.editor) (last_of c.in-Ok-apply_all.last)
    (told_runs c.args.language c.args.number (seen (g.F.Files.holds c.args.files.now) (g.F.Files.faults c.args.files.now) input c.args.steps.now (g.O.Sink.written c.args.out.now) (g.O.Sink.faults c.args.out.now)) (seen (g.F.Files.holds c.apply_all.new.files) (g.F.Files.faults c.apply_all.new.files) input c.apply_all.new.steps (g.O.Sink.written c.args.out.now) (g.O.Sink.faults c.args.out.now)) (seen (g.F.Files.holds c.apply_all.new.files) (g.F.Files.faults c.apply_all.new.files) input c.apply_all.new.steps (g.O.Sink.written c.put_all.new.out) (g.O.Sink.faults c.put_all.new.out)) refl refl refl (state_of c.apply_all.new.session.editor) (last_of c.in-Ok-apply_all.last)
    (subst (λ (d : Definition). Runs Editor (IsSilent d) (point start (answered []) (seen (g.F.Files.holds c.args.files.now) (g.F.Files.faults c.args.files.now) input c.args.steps.now (g.O.Sink.written c.args.out.now) (g.O.Sink.faults c.args.out.now))) (made_lines c.args.number) []
    (point (state_of c.apply_all.new.session.editor) (last_of c.in-Ok-apply_all.last) (seen (g.F.Files.holds c.apply_all.new.files) (g.F.Files.faults c.apply_all.new.files) input c.apply_all.new.steps (g.O.Sink.written c.args.out.now) (g.O.Sink.faults c.args.out.now)))) c.in-Ok-new.ensures.language
    (subst (λ l. Runs Editor (IsSilent c.in-Ok-new.session.language) (point start (answered []) (seen (g.F.Files.holds c.args.files.now) (g.F.Files.faults c.args.files.now) input c.args.steps.now (g.O.Sink.written c.args.out.now) (g.O.Sink.faults c.args.out.now))) l []
    (point (state_of c.apply_all.new.session.editor) (last_of c.in-Ok-apply_all.last) (seen (g.F.Files.holds c.apply_all.new.files) (g.F.Files.faults c.apply_all.new.files) input c.apply_all.new.steps (g.O.Sink.written c.args.out.now) (g.O.Sink.faults c.args.out.now)))) (lines_of c.args.number c.requires.high c.as_slice.result.now c.in-Ok.script.items c.as_slice.ensures.value c.in-Ok.ensures)
    (c.in-Ok-apply_all.ensures.ok input (g.O.Sink.written c.args.out.now) (g.O.Sink.faults c.args.out.now)))))
    lines (subst (λ (d : Definition). FiveLines d (IsCompletable d) (state_of c.apply_all.new.session.editor).opened (operators_in (last_of c.in-Ok-apply_all.last)) lines)
    (c.in-Ok-apply_all.ensures.language ∙ c.in-Ok-new.ensures.language) five)
    c.as_bytes.result.now (c.as_bytes.ensures.value ∙ is) c.in-Ok-put_all.ensures.all

pub returns : goal.returns
returns g c = λ input.
    let (lines, five, is) = c.in-Ok-summary.ensures in
    subst (λ s. Generates c.args.language c.args.number (seen (g.F.Files.holds c.args.files.now) (g.F.Files.faults c.args.files.now) input c.args.steps.now (g.O.Sink.written c.args.out.now) (g.O.Sink.faults c.args.out.now)) (seen (g.F.Files.holds c.apply_all.new.files) (g.F.Files.faults c.apply_all.new.files) input c.apply_all.new.steps (g.O.Sink.written c.put_all.new.out) (g.O.Sink.faults c.put_all.new.out)) s) (sym c.write_status.ensures)
    (told_front c.args.language c.args.number (seen (g.F.Files.holds c.args.files.now) (g.F.Files.faults c.args.files.now) input c.args.steps.now (g.O.Sink.written c.args.out.now) (g.O.Sink.faults c.args.out.now)) (seen (g.F.Files.holds c.apply_all.new.files) (g.F.Files.faults c.apply_all.new.files) input c.apply_all.new.steps (g.O.Sink.written c.put_all.new.out) (g.O.Sink.faults c.put_all.new.out)) (state_of c.apply_all.new.session.editor) (last_of c.in-Ok-apply_all.last)
    (told_runs c.args.language c.args.number (seen (g.F.Files.holds c.args.files.now) (g.F.Files.faults c.args.files.now) input c.args.steps.now (g.O.Sink.written c.args.out.now) (g.O.Sink.faults c.args.out.now)) (seen (g.F.Files.holds c.apply_all.new.files) (g.F.Files.faults c.apply_all.new.files) input c.apply_all.new.steps (g.O.Sink.written c.args.out.now) (g.O.Sink.faults c.args.out.now)) (seen (g.F.Files.holds c.apply_all.new.files) (g.F.Files.faults c.apply_all.new.files) input c.apply_all.new.steps (g.O.Sink.written c.put_all.new.out) (g.O.Sink.faults c.put_all.new.out)) refl refl refl (state_of c.apply_all.new.session.editor) (last_of c.in-Ok-apply_all.last)
    (subst (λ (d : Definition). Runs Editor (IsSilent d) (point start (answered []) (seen (g.F.Files.holds c.args.files.now) (g.F.Files.faults c.args.files.now) input c.args.steps.now (g.O.Sink.written c.args.out.now) (g.O.Sink.faults c.args.out.now))) (made_lines c.args.number) []
    (point (state_of c.apply_all.new.session.editor) (last_of c.in-Ok-apply_all.last) (seen (g.F.Files.holds c.apply_all.new.files) (g.F.Files.faults c.apply_all.new.files) input c.apply_all.new.steps (g.O.Sink.written c.args.out.now) (g.O.Sink.faults c.args.out.now)))) c.in-Ok-new.ensures.language
    (subst (λ l. Runs Editor (IsSilent c.in-Ok-new.session.language) (point start (answered []) (seen (g.F.Files.holds c.args.files.now) (g.F.Files.faults c.args.files.now) input c.args.steps.now (g.O.Sink.written c.args.out.now) (g.O.Sink.faults c.args.out.now))) l []
    (point (state_of c.apply_all.new.session.editor) (last_of c.in-Ok-apply_all.last) (seen (g.F.Files.holds c.apply_all.new.files) (g.F.Files.faults c.apply_all.new.files) input c.apply_all.new.steps (g.O.Sink.written c.args.out.now) (g.O.Sink.faults c.args.out.now)))) (lines_of c.args.number c.requires.high c.as_slice.result.now c.in-Ok.script.items c.as_slice.ensures.value c.in-Ok.ensures)
    (c.in-Ok-apply_all.ensures.ok input (g.O.Sink.written c.args.out.now) (g.O.Sink.faults c.args.out.now)))))
    lines (subst (λ (d : Definition). FiveLines d (IsCompletable d) (state_of c.apply_all.new.session.editor).opened (operators_in (last_of c.in-Ok-apply_all.last)) lines)
    (c.in-Ok-apply_all.ensures.language ∙ c.in-Ok-new.ensures.language) five)
    c.as_bytes.result.now (c.as_bytes.ensures.value ∙ is) c.in-Err-put_all.ensures.front c.in-Err-put_all.stop (λ failed. c.in-Err-put_all.ensures.failed (ap Err failed)))
