use Rattle.std.proofs.Common.{◌<◌, ◌≤◌, length, refl, sym, subst}
use Rattle.psg_run.specs.Reading.{Nowhere, Reads}
use Rattle.psg_run.specs.Worlds.{seen}
use Rattle.psg_run.proofs.Onward.{read_long, read_short, read_stopped, same_seen}
use Rattle.psg_run.proofs.source.read_within.Goals as goal

pub returns-in-Err-clause-err : goal.returns-in-Err-clause-err
returns-in-Err-clause-err g c = λ input ticks written count.
    subst (λ s. Reads c.args.file.now c.args.limit (λ _. Nowhere)
    (seen (g.F.Files.holds c.args.files.now) (g.F.Files.faults c.args.files.now) input ticks written count)
    (seen (g.F.Files.holds c.read.new.self) (g.F.Files.faults c.read.new.self) input ticks written count) s) (sym c.read_status.ensures)
    (read_stopped c.args.file.now c.args.limit (g.F.Files.holds c.args.files.now) (g.F.Files.holds c.read.new.self)
    (g.F.Files.faults c.args.files.now) (g.F.Files.faults c.read.new.self) input ticks written count c.in-Err.stop
    c.in-Err.ensures.keeps c.in-Err.ensures.entries)

pub returns-then-text-limit-clause-err : goal.returns-then-text-limit-clause-err
returns-then-text-limit-clause-err g c = λ input ticks written count.
    read_long c.args.file.now c.args.limit
    (seen (g.F.Files.holds c.args.files.now) (g.F.Files.faults c.args.files.now) input ticks written count)
    (seen (g.F.Files.holds c.read.new.self) (g.F.Files.faults c.read.new.self) input ticks written count)
    c.in-Ok.bytes.items c.in-Ok.ensures.front (subst (λ l. c.args.limit < length l) c.as_slice-text.ensures.value c.if-text-limit.true)
    (same_seen (g.F.Files.holds c.args.files.now) (g.F.Files.holds c.read.new.self) (g.F.Files.faults c.args.files.now)
    (g.F.Files.faults c.read.new.self) input ticks written written count count c.in-Ok.ensures.keeps c.in-Ok.ensures.entries refl refl)

pub returns-clause-bytes : goal.returns-clause-bytes
returns-clause-bytes g c =
    read_short (g.F.Files.holds c.args.files.now) c.args.file.now c.args.limit c.in-Ok.bytes.items c.in-Ok.ensures.front (subst (λ l. length l ≤ c.args.limit) c.as_slice-text.ensures.value c.if-text-limit.false)
