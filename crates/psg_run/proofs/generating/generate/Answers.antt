use Rattle.std.proofs.Common.{◌<◌, ◌^◌, length, refl, sym, ap, subst, arith, lit<}
use Rattle.psg_langs.specs.declared.named.TheConstants.{MINI}
use Rattle.psg_run.specs.Generated.{Generates}
use Rattle.psg_run.specs.Reading.{Defines, IsAccepted, Nowhere, is_accepted}
use Rattle.psg_run.specs.Worlds.{World, seen}
use Rattle.psg_run.proofs.Onward.{defines_on, same_seen}
use Rattle.psg_run.proofs.generating.generate.Goals as goal

pub language_of-requires : goal.language_of-requires
language_of-requires g c =
    let few : length MINI.now < 4096 = lit< tt in
    subst (λ l. length l < 2 ^ 32) (sym c.as_bytes.ensures.value) (omega (arith, few))

pub returns-in-Err : goal.returns-in-Err
returns-in-Err g c = λ input.
    defines_on MINI.now (λ def. Generates def c.args.number) (seen (g.F.Files.holds c.args.files.now) (g.F.Files.faults c.args.files.now) input c.args.steps.now (g.O.Sink.written c.args.out.now) (g.O.Sink.faults c.args.out.now)) (seen (g.F.Files.holds c.args.files.now) (g.F.Files.faults c.args.files.now) input c.args.steps.now (g.O.Sink.written c.language_of.new.out) (g.O.Sink.faults c.language_of.new.out)) c.in-Err.status
    (subst (λ b. Defines b (λ _. Nowhere) (seen (g.F.Files.holds c.args.files.now) (g.F.Files.faults c.args.files.now) input c.args.steps.now (g.O.Sink.written c.args.out.now) (g.O.Sink.faults c.args.out.now)) (seen (g.F.Files.holds c.args.files.now) (g.F.Files.faults c.args.files.now) input c.args.steps.now (g.O.Sink.written c.language_of.new.out) (g.O.Sink.faults c.language_of.new.out)) c.in-Err.status) c.as_bytes.ensures.value
    (c.in-Err.ensures.err (record { held = g.F.Files.holds c.args.files.now; entries = g.F.Files.faults c.args.files.now }) input c.args.steps.now))

pub returns : goal.returns
returns g c = λ input.
    let same = same_seen (g.F.Files.holds c.args.files.now) (g.F.Files.holds c.args.files.now) (g.F.Files.faults c.args.files.now)
    (g.F.Files.faults c.args.files.now) input c.args.steps.now (g.O.Sink.written c.args.out.now) (g.O.Sink.written c.language_of.new.out)
    (g.O.Sink.faults c.args.out.now) (g.O.Sink.faults c.language_of.new.out) refl refl (ap g.O.Sink.written c.in-Ok.ensures.quiet) (ap g.O.Sink.faults c.in-Ok.ensures.quiet) in
    is_accepted c.in-Ok.language (subst (λ b. IsAccepted b c.in-Ok.language) c.as_bytes.ensures.value c.in-Ok.ensures.ok)
    (subst (λ (w : World). Generates c.in-Ok.language c.args.number w (seen (g.F.Files.holds c.tell.new.files) (g.F.Files.faults c.tell.new.files) input c.tell.new.steps (g.O.Sink.written c.tell.new.out) (g.O.Sink.faults c.tell.new.out)) c.tell.result) same (c.tell.ensures input))
