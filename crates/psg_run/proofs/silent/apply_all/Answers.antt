use Rattle.std.proofs.Common.{refl, sym, ◌∙◌, ◌∷◌, [], subst}
use Rattle.psg_grammar.specs.declared.types.Definition.{Definition}
use Rattle.psg_session.specs.Sessions.{state_of}
use Rattle.psg_session.specs.PlainState.{start}
use Rattle.psg_session.specs.Replies.{answered}
use Rattle.psg_session.proofs.Options.{empty_is}
use Rattle.psg_run.specs.Chain.{Runs}
use Rattle.psg_run.specs.Editing.{Editor, IsSilent}
use Rattle.psg_run.specs.Playing.{BreaksAmong, last_of, point}
use Rattle.psg_run.specs.Scripts.{kept_lines, script_lines}
use Rattle.psg_run.specs.Worlds.{seen}
use Rattle.psg_run.proofs.Onward.{if_err}
use Rattle.psg_run.proofs.Replied.{Silently, silently_begins, silently_broken, silently_finished, silently_played}
use Rattle.psg_run.proofs.silent.apply_all.Goals as goal

pub loop-rest-init : goal.loop-rest-init
loop-rest-init g c = record {
  so_far = λ input written count. silently_begins c.args.session.now.language c.args.script.now (state_of c.args.session.now.editor) (seen (g.F.Files.holds c.args.files.now) (g.F.Files.faults c.args.files.now) input c.args.steps.now written count) c.requires.start;
  language = refl;
}

pub loop-rest-smaller : goal.loop-rest-smaller
loop-rest-smaller g c = c.cut_line-cut.ensures.shorter

pub returns-in_err-last-clause-err : goal.returns-in_err-last-clause-err
returns-in_err-last-clause-err g c = if_err c.from_residual.result (λ _ input written count.
    subst (λ (d : Definition). BreaksAmong d (script_lines c.args.script.now) (seen (g.F.Files.holds c.args.files.now) (g.F.Files.faults c.args.files.now) input c.args.steps.now written count) (seen (g.F.Files.holds c.apply_some.new.files) (g.F.Files.faults c.apply_some.new.files) input c.apply_some.new.steps written count)) c.loop-rest.invariant.language
    (silently_broken c.loop-rest.session.language (script_lines c.args.script.now) c.loop-rest.rest.now c.cut_line-cut.result.rest.now
    c.cut_line-cut.result.line.now (state_of c.loop-rest.session.editor) (last_of c.loop-rest.last) (seen (g.F.Files.holds c.args.files.now) (g.F.Files.faults c.args.files.now) input c.args.steps.now written count) (seen (g.F.Files.holds c.loop-rest.files) (g.F.Files.faults c.loop-rest.files) input c.loop-rest.steps written count) c.cut_line-cut.ensures.lines
    (c.loop-rest.invariant.so_far input written count) (seen (g.F.Files.holds c.apply_some.new.files) (g.F.Files.faults c.apply_some.new.files) input c.apply_some.new.steps written count) refl
    (c.in_err-last.ensures.err input written count (kept_lines (c.cut_line-cut.result.line.now ∷ [])) c.kept.ensures)))

pub loop-rest-preserved : goal.loop-rest-preserved
loop-rest-preserved g c = record {
  so_far = λ input written count. subst (λ (d : Definition). Silently d (script_lines c.args.script.now) c.cut_line-cut.result.rest.now
      (state_of c.apply_some.new.session.editor) (last_of c.in_ok-last.last) (seen (g.F.Files.holds c.args.files.now) (g.F.Files.faults c.args.files.now) input c.args.steps.now written count) (seen (g.F.Files.holds c.apply_some.new.files) (g.F.Files.faults c.apply_some.new.files) input c.apply_some.new.steps written count)) (sym c.in_ok-last.ensures.language)
      (silently_played c.loop-rest.session.language (script_lines c.args.script.now) c.loop-rest.rest.now c.cut_line-cut.result.rest.now
      c.cut_line-cut.result.line.now (state_of c.loop-rest.session.editor) (last_of c.loop-rest.last) (seen (g.F.Files.holds c.args.files.now) (g.F.Files.faults c.args.files.now) input c.args.steps.now written count) (seen (g.F.Files.holds c.loop-rest.files) (g.F.Files.faults c.loop-rest.files) input c.loop-rest.steps written count) c.cut_line-cut.ensures.lines
      (c.loop-rest.invariant.so_far input written count) (seen (g.F.Files.holds c.apply_some.new.files) (g.F.Files.faults c.apply_some.new.files) input c.apply_some.new.steps written count) (state_of c.apply_some.new.session.editor) (last_of c.in_ok-last.last)
      (c.in_ok-last.ensures.ok input written count (kept_lines (c.cut_line-cut.result.line.now ∷ [])) c.kept.ensures));
  language = c.in_ok-last.ensures.language ∙ c.loop-rest.invariant.language;
}

pub returns-clause-ok : goal.returns-clause-ok
returns-clause-ok g c = λ input written count.
    subst (λ (d : Definition). Runs Editor (IsSilent d) (point start (answered []) (seen (g.F.Files.holds c.args.files.now) (g.F.Files.faults c.args.files.now) input c.args.steps.now written count)) (script_lines c.args.script.now) []
    (point (state_of c.loop-rest.session.editor) (last_of c.loop-rest.last) (seen (g.F.Files.holds c.loop-rest.files) (g.F.Files.faults c.loop-rest.files) input c.loop-rest.steps written count))) c.loop-rest.invariant.language
    (silently_finished c.loop-rest.session.language (script_lines c.args.script.now) c.loop-rest.rest.now (state_of c.loop-rest.session.editor)
    (last_of c.loop-rest.last) (seen (g.F.Files.holds c.args.files.now) (g.F.Files.faults c.args.files.now) input c.args.steps.now written count) (seen (g.F.Files.holds c.loop-rest.files) (g.F.Files.faults c.loop-rest.files) input c.loop-rest.steps written count) (empty_is c.loop-rest.rest.now (sym c.loop-rest-test.ensures)) (c.loop-rest.invariant.so_far input written count))
