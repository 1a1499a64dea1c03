use Rattle.std.proofs.Common.{◌≡◌, [], ◌∷◌}
use Rattle.std.specs.Prelude.{codes}
use Rattle.psg_run.specs.Promise.{check, edit, explain, gen, itself, layout, lint, windows}
use Rattle.psg_run.specs.Wanted.{formatting, living}
use Rattle.psg_run.specs.Worlds.{coming, seen, texts_of}
use Rattle.psg_run.proofs.WordForms.{has_form, of_check, of_edit, of_explain, of_format, of_gen, of_itself, of_layout, of_lint, of_live, of_windows}
use Rattle.psg_run.proofs.program.run.Goals as goal

pub returns-in-Some-Check : goal.returns-in-Some-Check
returns-in-Some-Check g c =
    let wanted : texts_of c.args.words.now ≡ codes "check" ∷ c.in-Some-Check.definition.now ∷ [] = rw c.in-Some-Check.field-0-is at c.in-Some-Check.ensures in
    record {
      run = of_check (texts_of c.args.words.now) (seen (g.F.Files.holds c.args.files.now) (g.F.Files.faults c.args.files.now) (coming (g.I.Input.lines c.args.input.now) (g.I.Input.given c.args.input.now) (g.I.Input.missed c.args.input.now)) c.args.steps.now (g.O.Sink.written c.args.out.now) (g.O.Sink.faults c.args.out.now))
          (seen (g.F.Files.holds c.check.new.files) (g.F.Files.faults c.check.new.files) (coming (g.I.Input.lines c.args.input.now) (g.I.Input.given c.args.input.now) (g.I.Input.missed c.args.input.now)) c.args.steps.now (g.O.Sink.written c.check.new.out) (g.O.Sink.faults c.check.new.out))
          c.check.result c.in-Some-Check.definition.now wanted (c.check.ensures (coming (g.I.Input.lines c.args.input.now) (g.I.Input.given c.args.input.now) (g.I.Input.missed c.args.input.now)) c.args.steps.now);
      untouched = λ none. absurd (has_form (texts_of c.args.words.now) (seen (g.F.Files.holds c.args.files.now) (g.F.Files.faults c.args.files.now) (coming (g.I.Input.lines c.args.input.now) (g.I.Input.given c.args.input.now) (g.I.Input.missed c.args.input.now)) c.args.steps.now (g.O.Sink.written c.args.out.now) (g.O.Sink.faults c.args.out.now)) (seen (g.F.Files.holds c.args.files.now) (g.F.Files.faults c.args.files.now) (coming (g.I.Input.lines c.args.input.now) (g.I.Input.given c.args.input.now) (g.I.Input.missed c.args.input.now)) c.args.steps.now (g.O.Sink.written c.args.out.now) (g.O.Sink.faults c.args.out.now)) c.check.result (check c.in-Some-Check.definition.now) wanted none);
    }

pub returns-in-Some-Edit : goal.returns-in-Some-Edit
returns-in-Some-Edit g c =
    let wanted : texts_of c.args.words.now ≡ codes "edit" ∷ c.in-Some-Edit.definition.now ∷ c.in-Some-Edit.script.now ∷ [] = rw c.in-Some-Edit.field-0-is at c.in-Some-Edit.ensures in
    record {
      run = of_edit (texts_of c.args.words.now) (seen (g.F.Files.holds c.args.files.now) (g.F.Files.faults c.args.files.now) (coming (g.I.Input.lines c.args.input.now) (g.I.Input.given c.args.input.now) (g.I.Input.missed c.args.input.now)) c.args.steps.now (g.O.Sink.written c.args.out.now) (g.O.Sink.faults c.args.out.now))
          (seen (g.F.Files.holds c.edit.new.files) (g.F.Files.faults c.edit.new.files) (coming (g.I.Input.lines c.args.input.now) (g.I.Input.given c.args.input.now) (g.I.Input.missed c.args.input.now)) c.edit.new.steps (g.O.Sink.written c.edit.new.out) (g.O.Sink.faults c.edit.new.out))
          c.edit.result c.in-Some-Edit.definition.now c.in-Some-Edit.script.now wanted (c.edit.ensures (coming (g.I.Input.lines c.args.input.now) (g.I.Input.given c.args.input.now) (g.I.Input.missed c.args.input.now)));
      untouched = λ none. absurd (has_form (texts_of c.args.words.now) (seen (g.F.Files.holds c.args.files.now) (g.F.Files.faults c.args.files.now) (coming (g.I.Input.lines c.args.input.now) (g.I.Input.given c.args.input.now) (g.I.Input.missed c.args.input.now)) c.args.steps.now (g.O.Sink.written c.args.out.now) (g.O.Sink.faults c.args.out.now)) (seen (g.F.Files.holds c.args.files.now) (g.F.Files.faults c.args.files.now) (coming (g.I.Input.lines c.args.input.now) (g.I.Input.given c.args.input.now) (g.I.Input.missed c.args.input.now)) c.args.steps.now (g.O.Sink.written c.args.out.now) (g.O.Sink.faults c.args.out.now)) c.edit.result (edit c.in-Some-Edit.definition.now c.in-Some-Edit.script.now) wanted none);
    }

pub returns-in-Some-Windows : goal.returns-in-Some-Windows
returns-in-Some-Windows g c =
    let wanted : texts_of c.args.words.now ≡ codes "windows" ∷ c.in-Some-Windows.definition.now ∷ c.in-Some-Windows.script.now ∷ [] = rw c.in-Some-Windows.field-0-is at c.in-Some-Windows.ensures in
    record {
      run = of_windows (texts_of c.args.words.now) (seen (g.F.Files.holds c.args.files.now) (g.F.Files.faults c.args.files.now) (coming (g.I.Input.lines c.args.input.now) (g.I.Input.given c.args.input.now) (g.I.Input.missed c.args.input.now)) c.args.steps.now (g.O.Sink.written c.args.out.now) (g.O.Sink.faults c.args.out.now))
          (seen (g.F.Files.holds c.windows.new.files) (g.F.Files.faults c.windows.new.files) (coming (g.I.Input.lines c.args.input.now) (g.I.Input.given c.args.input.now) (g.I.Input.missed c.args.input.now)) c.windows.new.steps (g.O.Sink.written c.windows.new.out) (g.O.Sink.faults c.windows.new.out))
          c.windows.result c.in-Some-Windows.definition.now c.in-Some-Windows.script.now wanted (c.windows.ensures (coming (g.I.Input.lines c.args.input.now) (g.I.Input.given c.args.input.now) (g.I.Input.missed c.args.input.now)));
      untouched = λ none. absurd (has_form (texts_of c.args.words.now) (seen (g.F.Files.holds c.args.files.now) (g.F.Files.faults c.args.files.now) (coming (g.I.Input.lines c.args.input.now) (g.I.Input.given c.args.input.now) (g.I.Input.missed c.args.input.now)) c.args.steps.now (g.O.Sink.written c.args.out.now) (g.O.Sink.faults c.args.out.now)) (seen (g.F.Files.holds c.args.files.now) (g.F.Files.faults c.args.files.now) (coming (g.I.Input.lines c.args.input.now) (g.I.Input.given c.args.input.now) (g.I.Input.missed c.args.input.now)) c.args.steps.now (g.O.Sink.written c.args.out.now) (g.O.Sink.faults c.args.out.now)) c.windows.result (windows c.in-Some-Windows.definition.now c.in-Some-Windows.script.now) wanted none);
    }

pub returns-in-Some-Live : goal.returns-in-Some-Live
returns-in-Some-Live g c =
    let wanted = rw c.in-Some-Live.field-0-is at c.in-Some-Live.ensures in
    record {
      run = of_live (texts_of c.args.words.now) (seen (g.F.Files.holds c.args.files.now) (g.F.Files.faults c.args.files.now) (coming (g.I.Input.lines c.args.input.now) (g.I.Input.given c.args.input.now) (g.I.Input.missed c.args.input.now)) c.args.steps.now (g.O.Sink.written c.args.out.now) (g.O.Sink.faults c.args.out.now))
          (seen (g.F.Files.holds c.live.new.files) (g.F.Files.faults c.live.new.files) (coming (g.I.Input.lines c.live.new.input) (g.I.Input.given c.live.new.input) (g.I.Input.missed c.live.new.input)) c.live.new.steps (g.O.Sink.written c.live.new.out) (g.O.Sink.faults c.live.new.out))
          c.live.result c.in-Some-Live.framing c.in-Some-Live.definition.now wanted c.live.ensures;
      untouched = λ none. absurd (has_form (texts_of c.args.words.now) (seen (g.F.Files.holds c.args.files.now) (g.F.Files.faults c.args.files.now) (coming (g.I.Input.lines c.args.input.now) (g.I.Input.given c.args.input.now) (g.I.Input.missed c.args.input.now)) c.args.steps.now (g.O.Sink.written c.args.out.now) (g.O.Sink.faults c.args.out.now)) (seen (g.F.Files.holds c.args.files.now) (g.F.Files.faults c.args.files.now) (coming (g.I.Input.lines c.args.input.now) (g.I.Input.given c.args.input.now) (g.I.Input.missed c.args.input.now)) c.args.steps.now (g.O.Sink.written c.args.out.now) (g.O.Sink.faults c.args.out.now)) c.live.result (living c.in-Some-Live.framing c.in-Some-Live.definition.now) wanted none);
    }

pub generate-requires-clause-low : goal.generate-requires-clause-low
generate-requires-clause-low g c = (rw c.in-Some-Gen.field-0-is at c.in-Some-Gen.ensures).1

pub generate-requires-clause-high : goal.generate-requires-clause-high
generate-requires-clause-high g c = (rw c.in-Some-Gen.field-0-is at c.in-Some-Gen.ensures).2

pub returns-in-Some-Gen : goal.returns-in-Some-Gen
returns-in-Some-Gen g c =
    let wanted = rw c.in-Some-Gen.field-0-is at c.in-Some-Gen.ensures in
    record {
      run = of_gen (texts_of c.args.words.now) (seen (g.F.Files.holds c.args.files.now) (g.F.Files.faults c.args.files.now) (coming (g.I.Input.lines c.args.input.now) (g.I.Input.given c.args.input.now) (g.I.Input.missed c.args.input.now)) c.args.steps.now (g.O.Sink.written c.args.out.now) (g.O.Sink.faults c.args.out.now))
          (seen (g.F.Files.holds c.generate.new.files) (g.F.Files.faults c.generate.new.files) (coming (g.I.Input.lines c.args.input.now) (g.I.Input.given c.args.input.now) (g.I.Input.missed c.args.input.now)) c.generate.new.steps (g.O.Sink.written c.generate.new.out) (g.O.Sink.faults c.generate.new.out))
          c.generate.result c.in-Some-Gen.number wanted (c.generate.ensures (coming (g.I.Input.lines c.args.input.now) (g.I.Input.given c.args.input.now) (g.I.Input.missed c.args.input.now)));
      untouched = λ none. absurd (has_form (texts_of c.args.words.now) (seen (g.F.Files.holds c.args.files.now) (g.F.Files.faults c.args.files.now) (coming (g.I.Input.lines c.args.input.now) (g.I.Input.given c.args.input.now) (g.I.Input.missed c.args.input.now)) c.args.steps.now (g.O.Sink.written c.args.out.now) (g.O.Sink.faults c.args.out.now)) (seen (g.F.Files.holds c.args.files.now) (g.F.Files.faults c.args.files.now) (coming (g.I.Input.lines c.args.input.now) (g.I.Input.given c.args.input.now) (g.I.Input.missed c.args.input.now)) c.args.steps.now (g.O.Sink.written c.args.out.now) (g.O.Sink.faults c.args.out.now)) c.generate.result (gen c.in-Some-Gen.number) wanted none);
    }

pub returns-in-Some-Layout : goal.returns-in-Some-Layout
returns-in-Some-Layout g c =
    let wanted = rw c.in-Some-Layout.field-0-is at c.in-Some-Layout.ensures in
    record {
      run = of_layout (texts_of c.args.words.now) (seen (g.F.Files.holds c.args.files.now) (g.F.Files.faults c.args.files.now) (coming (g.I.Input.lines c.args.input.now) (g.I.Input.given c.args.input.now) (g.I.Input.missed c.args.input.now)) c.args.steps.now (g.O.Sink.written c.args.out.now) (g.O.Sink.faults c.args.out.now))
          (seen (g.F.Files.holds c.layout.new.files) (g.F.Files.faults c.layout.new.files) (coming (g.I.Input.lines c.args.input.now) (g.I.Input.given c.args.input.now) (g.I.Input.missed c.args.input.now)) c.layout.new.steps (g.O.Sink.written c.layout.new.out) (g.O.Sink.faults c.layout.new.out))
          c.layout.result c.in-Some-Layout.definition.now c.in-Some-Layout.script.now c.in-Some-Layout.rules.now c.in-Some-Layout.columns wanted (c.layout.ensures (coming (g.I.Input.lines c.args.input.now) (g.I.Input.given c.args.input.now) (g.I.Input.missed c.args.input.now)));
      untouched = λ none. absurd (has_form (texts_of c.args.words.now) (seen (g.F.Files.holds c.args.files.now) (g.F.Files.faults c.args.files.now) (coming (g.I.Input.lines c.args.input.now) (g.I.Input.given c.args.input.now) (g.I.Input.missed c.args.input.now)) c.args.steps.now (g.O.Sink.written c.args.out.now) (g.O.Sink.faults c.args.out.now)) (seen (g.F.Files.holds c.args.files.now) (g.F.Files.faults c.args.files.now) (coming (g.I.Input.lines c.args.input.now) (g.I.Input.given c.args.input.now) (g.I.Input.missed c.args.input.now)) c.args.steps.now (g.O.Sink.written c.args.out.now) (g.O.Sink.faults c.args.out.now)) c.layout.result (layout c.in-Some-Layout.definition.now c.in-Some-Layout.script.now c.in-Some-Layout.rules.now c.in-Some-Layout.columns) wanted none);
    }

pub returns-in-Some-Itself : goal.returns-in-Some-Itself
returns-in-Some-Itself g c =
    let wanted : texts_of c.args.words.now ≡ codes "self" ∷ c.in-Some-Itself.script.now ∷ c.in-Some-Itself.file.now ∷ [] = rw c.in-Some-Itself.field-0-is at c.in-Some-Itself.ensures in
    record {
      run = of_itself (texts_of c.args.words.now) (seen (g.F.Files.holds c.args.files.now) (g.F.Files.faults c.args.files.now) (coming (g.I.Input.lines c.args.input.now) (g.I.Input.given c.args.input.now) (g.I.Input.missed c.args.input.now)) c.args.steps.now (g.O.Sink.written c.args.out.now) (g.O.Sink.faults c.args.out.now))
          (seen (g.F.Files.holds c.export_self.new.files) (g.F.Files.faults c.export_self.new.files) (coming (g.I.Input.lines c.args.input.now) (g.I.Input.given c.args.input.now) (g.I.Input.missed c.args.input.now)) c.export_self.new.steps (g.O.Sink.written c.export_self.new.out) (g.O.Sink.faults c.export_self.new.out))
          c.export_self.result c.in-Some-Itself.script.now c.in-Some-Itself.file.now wanted (c.export_self.ensures (coming (g.I.Input.lines c.args.input.now) (g.I.Input.given c.args.input.now) (g.I.Input.missed c.args.input.now)));
      untouched = λ none. absurd (has_form (texts_of c.args.words.now) (seen (g.F.Files.holds c.args.files.now) (g.F.Files.faults c.args.files.now) (coming (g.I.Input.lines c.args.input.now) (g.I.Input.given c.args.input.now) (g.I.Input.missed c.args.input.now)) c.args.steps.now (g.O.Sink.written c.args.out.now) (g.O.Sink.faults c.args.out.now)) (seen (g.F.Files.holds c.args.files.now) (g.F.Files.faults c.args.files.now) (coming (g.I.Input.lines c.args.input.now) (g.I.Input.given c.args.input.now) (g.I.Input.missed c.args.input.now)) c.args.steps.now (g.O.Sink.written c.args.out.now) (g.O.Sink.faults c.args.out.now)) c.export_self.result (itself c.in-Some-Itself.script.now c.in-Some-Itself.file.now) wanted none);
    }

pub returns-in-Some-Format : goal.returns-in-Some-Format
returns-in-Some-Format g c =
    let wanted = rw c.in-Some-Format.field-0-is at c.in-Some-Format.ensures in
    record {
      run = of_format (texts_of c.args.words.now) (seen (g.F.Files.holds c.args.files.now) (g.F.Files.faults c.args.files.now) (coming (g.I.Input.lines c.args.input.now) (g.I.Input.given c.args.input.now) (g.I.Input.missed c.args.input.now)) c.args.steps.now (g.O.Sink.written c.args.out.now) (g.O.Sink.faults c.args.out.now))
          (seen (g.F.Files.holds c.format_file.new.files) (g.F.Files.faults c.format_file.new.files) (coming (g.I.Input.lines c.args.input.now) (g.I.Input.given c.args.input.now) (g.I.Input.missed c.args.input.now)) c.format_file.new.steps (g.O.Sink.written c.format_file.new.out) (g.O.Sink.faults c.format_file.new.out))
          c.format_file.result c.in-Some-Format.checks c.in-Some-Format.definition.now c.in-Some-Format.kind.now c.in-Some-Format.program.now wanted (c.format_file.ensures (coming (g.I.Input.lines c.args.input.now) (g.I.Input.given c.args.input.now) (g.I.Input.missed c.args.input.now)));
      untouched = λ none. absurd (has_form (texts_of c.args.words.now) (seen (g.F.Files.holds c.args.files.now) (g.F.Files.faults c.args.files.now) (coming (g.I.Input.lines c.args.input.now) (g.I.Input.given c.args.input.now) (g.I.Input.missed c.args.input.now)) c.args.steps.now (g.O.Sink.written c.args.out.now) (g.O.Sink.faults c.args.out.now)) (seen (g.F.Files.holds c.args.files.now) (g.F.Files.faults c.args.files.now) (coming (g.I.Input.lines c.args.input.now) (g.I.Input.given c.args.input.now) (g.I.Input.missed c.args.input.now)) c.args.steps.now (g.O.Sink.written c.args.out.now) (g.O.Sink.faults c.args.out.now)) c.format_file.result (formatting c.in-Some-Format.checks c.in-Some-Format.definition.now c.in-Some-Format.kind.now c.in-Some-Format.program.now) wanted none);
    }

pub returns-in-Some-Explain : goal.returns-in-Some-Explain
returns-in-Some-Explain g c =
    let wanted : texts_of c.args.words.now ≡ codes "explain" ∷ c.in-Some-Explain.definition.now ∷ c.in-Some-Explain.script.now ∷ [] = rw c.in-Some-Explain.field-0-is at c.in-Some-Explain.ensures in
    record {
      run = of_explain (texts_of c.args.words.now) (seen (g.F.Files.holds c.args.files.now) (g.F.Files.faults c.args.files.now) (coming (g.I.Input.lines c.args.input.now) (g.I.Input.given c.args.input.now) (g.I.Input.missed c.args.input.now)) c.args.steps.now (g.O.Sink.written c.args.out.now) (g.O.Sink.faults c.args.out.now))
          (seen (g.F.Files.holds c.explain_script.new.files) (g.F.Files.faults c.explain_script.new.files) (coming (g.I.Input.lines c.args.input.now) (g.I.Input.given c.args.input.now) (g.I.Input.missed c.args.input.now)) c.explain_script.new.steps (g.O.Sink.written c.explain_script.new.out) (g.O.Sink.faults c.explain_script.new.out))
          c.explain_script.result c.in-Some-Explain.definition.now c.in-Some-Explain.script.now wanted (c.explain_script.ensures (coming (g.I.Input.lines c.args.input.now) (g.I.Input.given c.args.input.now) (g.I.Input.missed c.args.input.now)));
      untouched = λ none. absurd (has_form (texts_of c.args.words.now) (seen (g.F.Files.holds c.args.files.now) (g.F.Files.faults c.args.files.now) (coming (g.I.Input.lines c.args.input.now) (g.I.Input.given c.args.input.now) (g.I.Input.missed c.args.input.now)) c.args.steps.now (g.O.Sink.written c.args.out.now) (g.O.Sink.faults c.args.out.now)) (seen (g.F.Files.holds c.args.files.now) (g.F.Files.faults c.args.files.now) (coming (g.I.Input.lines c.args.input.now) (g.I.Input.given c.args.input.now) (g.I.Input.missed c.args.input.now)) c.args.steps.now (g.O.Sink.written c.args.out.now) (g.O.Sink.faults c.args.out.now)) c.explain_script.result (explain c.in-Some-Explain.definition.now c.in-Some-Explain.script.now) wanted none);
    }

pub returns-in-Some-Lint : goal.returns-in-Some-Lint
returns-in-Some-Lint g c =
    let wanted : texts_of c.args.words.now ≡ codes "lint" ∷ c.in-Some-Lint.definition.now ∷ c.in-Some-Lint.kind.now ∷ c.in-Some-Lint.program.now ∷ [] = rw c.in-Some-Lint.field-0-is at c.in-Some-Lint.ensures in
    record {
      run = of_lint (texts_of c.args.words.now) (seen (g.F.Files.holds c.args.files.now) (g.F.Files.faults c.args.files.now) (coming (g.I.Input.lines c.args.input.now) (g.I.Input.given c.args.input.now) (g.I.Input.missed c.args.input.now)) c.args.steps.now (g.O.Sink.written c.args.out.now) (g.O.Sink.faults c.args.out.now))
          (seen (g.F.Files.holds c.lint_file.new.files) (g.F.Files.faults c.lint_file.new.files) (coming (g.I.Input.lines c.args.input.now) (g.I.Input.given c.args.input.now) (g.I.Input.missed c.args.input.now)) c.lint_file.new.steps (g.O.Sink.written c.lint_file.new.out) (g.O.Sink.faults c.lint_file.new.out))
          c.lint_file.result c.in-Some-Lint.definition.now c.in-Some-Lint.kind.now c.in-Some-Lint.program.now wanted (c.lint_file.ensures (coming (g.I.Input.lines c.args.input.now) (g.I.Input.given c.args.input.now) (g.I.Input.missed c.args.input.now)));
      untouched = λ none. absurd (has_form (texts_of c.args.words.now) (seen (g.F.Files.holds c.args.files.now) (g.F.Files.faults c.args.files.now) (coming (g.I.Input.lines c.args.input.now) (g.I.Input.given c.args.input.now) (g.I.Input.missed c.args.input.now)) c.args.steps.now (g.O.Sink.written c.args.out.now) (g.O.Sink.faults c.args.out.now)) (seen (g.F.Files.holds c.args.files.now) (g.F.Files.faults c.args.files.now) (coming (g.I.Input.lines c.args.input.now) (g.I.Input.given c.args.input.now) (g.I.Input.missed c.args.input.now)) c.args.steps.now (g.O.Sink.written c.args.out.now) (g.O.Sink.faults c.args.out.now)) c.lint_file.result (lint c.in-Some-Lint.definition.now c.in-Some-Lint.kind.now c.in-Some-Lint.program.now) wanted none);
    }
