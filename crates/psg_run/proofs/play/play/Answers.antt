use Rattle.std.proofs.Common.{refl, sym, ◌∙◌, ◌∷◌, [], subst}
use Rattle.std.proofs.Math.Nat.{le_refl, le_trans}
use Rattle.psg_grammar.specs.declared.types.Definition.{Definition}
use Rattle.psg_session.specs.Sessions.{state_of}
use Rattle.psg_session.proofs.Options.{empty_is}
use Rattle.psg_run.specs.Editing.{Edits}
use Rattle.psg_run.specs.Scripts.{kept_lines, script_lines}
use Rattle.psg_run.specs.Worlds.{seen}
use Rattle.psg_run.proofs.Replied.{SoFar, so_begins, so_finished, so_played, so_stopped}
use Rattle.psg_run.proofs.play.play.Goals as goal

pub loop-rest-init : goal.loop-rest-init
loop-rest-init g c = record {
  so_far = λ input. so_begins c.args.session.now.language c.args.script.now (state_of c.args.session.now.editor) (seen (g.F.Files.holds c.args.files.now) (g.F.Files.faults c.args.files.now) input c.args.steps.now (g.O.Sink.written c.args.out.now) (g.O.Sink.faults c.args.out.now)) c.requires.start;
  language = refl;
  never_falls = le_refl _;
}

pub loop-rest-smaller : goal.loop-rest-smaller
loop-rest-smaller g c = c.cut_line-cut.ensures.shorter

pub returns-in-Err : goal.returns-in-Err
returns-in-Err g c = λ input.
    subst (λ (d : Definition). Edits d (script_lines c.args.script.now) (seen (g.F.Files.holds c.args.files.now) (g.F.Files.faults c.args.files.now) input c.args.steps.now (g.O.Sink.written c.args.out.now) (g.O.Sink.faults c.args.out.now)) (seen (g.F.Files.holds c.play_some.new.files) (g.F.Files.faults c.play_some.new.files) input c.play_some.new.steps (g.O.Sink.written c.play_some.new.out) (g.O.Sink.faults c.play_some.new.out)) c.in-Err.status) c.loop-rest.invariant.language
    (so_stopped c.loop-rest.session.language (script_lines c.args.script.now) c.loop-rest.rest.now c.cut_line-cut.result.rest.now
    c.cut_line-cut.result.line.now (state_of c.loop-rest.session.editor) (seen (g.F.Files.holds c.args.files.now) (g.F.Files.faults c.args.files.now) input c.args.steps.now (g.O.Sink.written c.args.out.now) (g.O.Sink.faults c.args.out.now)) (seen (g.F.Files.holds c.loop-rest.files) (g.F.Files.faults c.loop-rest.files) input c.loop-rest.steps (g.O.Sink.written c.loop-rest.out) (g.O.Sink.faults c.loop-rest.out)) c.cut_line-cut.ensures.lines
    (c.loop-rest.invariant.so_far input) (seen (g.F.Files.holds c.play_some.new.files) (g.F.Files.faults c.play_some.new.files) input c.play_some.new.steps (g.O.Sink.written c.play_some.new.out) (g.O.Sink.faults c.play_some.new.out)) c.in-Err.status c.loop-rest.invariant.never_falls
    (c.in-Err.ensures.err input (c.loop-rest.invariant.so_far input).reply (kept_lines (c.cut_line-cut.result.line.now ∷ [])) c.kept-line.ensures))

pub loop-rest-preserved : goal.loop-rest-preserved
loop-rest-preserved g c = record {
  so_far = λ input. subst (λ (d : Definition). SoFar d (script_lines c.args.script.now) c.cut_line-cut.result.rest.now
      (state_of c.play_some.new.session.editor) (seen (g.F.Files.holds c.args.files.now) (g.F.Files.faults c.args.files.now) input c.args.steps.now (g.O.Sink.written c.args.out.now) (g.O.Sink.faults c.args.out.now)) (seen (g.F.Files.holds c.play_some.new.files) (g.F.Files.faults c.play_some.new.files) input c.play_some.new.steps (g.O.Sink.written c.play_some.new.out) (g.O.Sink.faults c.play_some.new.out))) (sym c.in_default.ensures.language)
      (so_played c.loop-rest.session.language (script_lines c.args.script.now) c.loop-rest.rest.now c.cut_line-cut.result.rest.now
      c.cut_line-cut.result.line.now (state_of c.loop-rest.session.editor) (seen (g.F.Files.holds c.args.files.now) (g.F.Files.faults c.args.files.now) input c.args.steps.now (g.O.Sink.written c.args.out.now) (g.O.Sink.faults c.args.out.now)) (seen (g.F.Files.holds c.loop-rest.files) (g.F.Files.faults c.loop-rest.files) input c.loop-rest.steps (g.O.Sink.written c.loop-rest.out) (g.O.Sink.faults c.loop-rest.out)) c.cut_line-cut.ensures.lines
      (c.loop-rest.invariant.so_far input) (state_of c.play_some.new.session.editor) (seen (g.F.Files.holds c.play_some.new.files) (g.F.Files.faults c.play_some.new.files) input c.play_some.new.steps (g.O.Sink.written c.play_some.new.out) (g.O.Sink.faults c.play_some.new.out))
      (c.in_default.ensures.ok input (c.loop-rest.invariant.so_far input).reply (kept_lines (c.cut_line-cut.result.line.now ∷ [])) c.kept-line.ensures));
  language = c.in_default.ensures.language ∙ c.loop-rest.invariant.language;
  never_falls = le_trans c.loop-rest.invariant.never_falls c.in_default.ensures.never_falls;
}

pub returns : goal.returns
returns g c = λ input.
    subst (λ (d : Definition). Edits d (script_lines c.args.script.now) (seen (g.F.Files.holds c.args.files.now) (g.F.Files.faults c.args.files.now) input c.args.steps.now (g.O.Sink.written c.args.out.now) (g.O.Sink.faults c.args.out.now)) (seen (g.F.Files.holds c.loop-rest.files) (g.F.Files.faults c.loop-rest.files) input c.loop-rest.steps (g.O.Sink.written c.loop-rest.out) (g.O.Sink.faults c.loop-rest.out)) _) c.loop-rest.invariant.language
    (so_finished c.loop-rest.session.language (script_lines c.args.script.now) c.loop-rest.rest.now (state_of c.loop-rest.session.editor)
    (seen (g.F.Files.holds c.args.files.now) (g.F.Files.faults c.args.files.now) input c.args.steps.now (g.O.Sink.written c.args.out.now) (g.O.Sink.faults c.args.out.now)) (seen (g.F.Files.holds c.loop-rest.files) (g.F.Files.faults c.loop-rest.files) input c.loop-rest.steps (g.O.Sink.written c.loop-rest.out) (g.O.Sink.faults c.loop-rest.out)) (empty_is c.loop-rest.rest.now (sym c.loop-rest-test.ensures)) (c.loop-rest.invariant.so_far input))
