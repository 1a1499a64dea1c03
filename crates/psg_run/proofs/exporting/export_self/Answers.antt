use Rattle.std.proofs.Common.{◌<◌, ◌^◌, ◌∙◌, length, refl, sym, ap, subst, arith, lit<, true≢false}
use Rattle.std.specs.Prelude.{codes}
use Rattle.psg_langs.specs.declared.named.TheConstants.{SELF}
use Rattle.psg_session.specs.Replies.{feed}
use Rattle.psg_run.specs.declared.status.Status.TheVariants as ends_with
use Rattle.psg_run.specs.Exporting.{Exports, GoesOnAsSelf, is_itself, is_other}
use Rattle.psg_run.specs.Reading.{Defines, IsAccepted, Nowhere, Reads, is_accepted, most_script_bytes}
use Rattle.psg_run.specs.Scripts.{script_lines}
use Rattle.psg_run.specs.Worlds.{Puts, World, seen}
use Rattle.psg_run.proofs.Onward.{defines_on, same_seen}
use Rattle.psg_run.proofs.exporting.export_self.Goals as goal

pub language_of-requires : goal.language_of-requires
language_of-requires g c =
    let few : length SELF.now < 4096 = lit< tt in
    subst (λ l. length l < 2 ^ 32) (sym c.as_bytes.ensures.value) (omega (arith, few))

pub returns-in-Err : goal.returns-in-Err
returns-in-Err g c = λ input.
    defines_on SELF.now (λ def. GoesOnAsSelf def (Reads c.args.script.now most_script_bytes (λ bytes. Exports def c.args.file.now (script_lines bytes)))) (seen (g.F.Files.holds c.args.files.now) (g.F.Files.faults c.args.files.now) input c.args.steps.now (g.O.Sink.written c.args.out.now) (g.O.Sink.faults c.args.out.now)) (seen (g.F.Files.holds c.args.files.now) (g.F.Files.faults c.args.files.now) input c.args.steps.now (g.O.Sink.written c.language_of.new.out) (g.O.Sink.faults c.language_of.new.out)) c.in-Err.status
    (subst (λ b. Defines b (λ _. Nowhere) (seen (g.F.Files.holds c.args.files.now) (g.F.Files.faults c.args.files.now) input c.args.steps.now (g.O.Sink.written c.args.out.now) (g.O.Sink.faults c.args.out.now)) (seen (g.F.Files.holds c.args.files.now) (g.F.Files.faults c.args.files.now) input c.args.steps.now (g.O.Sink.written c.language_of.new.out) (g.O.Sink.faults c.language_of.new.out)) c.in-Err.status) c.as_bytes.ensures.value
    (c.in-Err.ensures.err (record { held = g.F.Files.holds c.args.files.now; entries = g.F.Files.faults c.args.files.now }) input c.args.steps.now))

pub returns-then-not-is_self : goal.returns-then-not-is_self
returns-then-not-is_self g c = λ input.
    let same = same_seen (g.F.Files.holds c.args.files.now) (g.F.Files.holds c.args.files.now) (g.F.Files.faults c.args.files.now)
    (g.F.Files.faults c.args.files.now) input c.args.steps.now (g.O.Sink.written c.args.out.now) (g.O.Sink.written c.language_of.new.out)
    (g.O.Sink.faults c.args.out.now) (g.O.Sink.faults c.language_of.new.out) refl refl (ap g.O.Sink.written c.in-Ok.ensures.quiet) (ap g.O.Sink.faults c.in-Ok.ensures.quiet) in
    is_accepted c.in-Ok.language (subst (λ b. IsAccepted b c.in-Ok.language) c.as_bytes.ensures.value c.in-Ok.ensures.ok)
    (is_other (λ own. true≢false (sym (c.is_self.ensures.1 own) ∙ c.if-not-is_self.true))
    (subst (λ (w : World). Puts (feed (codes "refused Self")) ends_with.DefinitionRefused w (seen (g.F.Files.holds c.args.files.now) (g.F.Files.faults c.args.files.now) input c.args.steps.now (g.O.Sink.written c.put_line.new.out) (g.O.Sink.faults c.put_line.new.out)) c.put_line.result) same
    (c.put_line.ensures (record { held = g.F.Files.holds c.args.files.now; entries = g.F.Files.faults c.args.files.now }) input c.args.steps.now)))

pub returns : goal.returns
returns g c = λ input.
    let same = same_seen (g.F.Files.holds c.args.files.now) (g.F.Files.holds c.args.files.now) (g.F.Files.faults c.args.files.now)
    (g.F.Files.faults c.args.files.now) input c.args.steps.now (g.O.Sink.written c.args.out.now) (g.O.Sink.written c.language_of.new.out)
    (g.O.Sink.faults c.args.out.now) (g.O.Sink.faults c.language_of.new.out) refl refl (ap g.O.Sink.written c.in-Ok.ensures.quiet) (ap g.O.Sink.faults c.in-Ok.ensures.quiet) in
    is_accepted c.in-Ok.language (subst (λ b. IsAccepted b c.in-Ok.language) c.as_bytes.ensures.value c.in-Ok.ensures.ok)
    (is_itself (c.is_self.ensures.0 c.if-not-is_self.false)
    (subst (λ (w : World). Reads c.args.script.now most_script_bytes (λ bytes. Exports c.in-Ok.language c.args.file.now (script_lines bytes)) w (seen (g.F.Files.holds c.export_file.new.files) (g.F.Files.faults c.export_file.new.files) input c.export_file.new.steps (g.O.Sink.written c.export_file.new.out) (g.O.Sink.faults c.export_file.new.out)) c.export_file.result) same (c.export_file.ensures input)))
