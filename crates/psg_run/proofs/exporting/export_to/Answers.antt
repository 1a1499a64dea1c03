use Rattle.std.proofs.Common.{◌≡◌, Err, refl, sym, ◌∙◌, ap, subst}
use Rattle.std.specs.Prelude.{OnErr}
use Rattle.psg_self.specs.Export.{exported}
use Rattle.psg_world.specs.Files.{entries_after_write}
use Rattle.psg_run.specs.Exporting.{IsCheckLine}
use Rattle.psg_run.proofs.Reports.{lost_said, stored_said, unfinished_said}
use Rattle.psg_run.proofs.exporting.export_to.Goals as goal

pub returns-in-Err-Unfinished-clause-ok : goal.returns-in-Err-Unfinished-clause-ok
returns-in-Err-Unfinished-clause-ok g c =
    unfinished_said c.args.language.now c.args.file.now c.args.tree.now c.in-Err-Unfinished.path _ _
    (rw c.in-Err-Unfinished.field-0-is at c.in-Err-Unfinished.ensures.err) refl c.unfinished_line.result c.unfinished_line.ensures

pub returns-in-Ok-replace-clause-ok : goal.returns-in-Ok-replace-clause-ok
returns-in-Ok-replace-clause-ok g c =
    stored_said c.args.language.now c.args.file.now c.args.tree.now c.in-Ok.ensures.complete c.as_slice.result.now
    (c.as_slice.ensures.value ∙ c.in-Ok.ensures.bytes) _ _ c.as_str.result.now _
    (subst (IsCheckLine (exported c.args.tree.now)) (sym c.as_str.ensures.value) c.in-Ok.ensures.line)
    c.in-Ok-replace.ensures.replaces c.in-Ok-replace.ensures.entries c.in_ok-told.ensures

pub returns-in-Err-Failed-clause-ok : goal.returns-in-Err-Failed-clause-ok
returns-in-Err-Failed-clause-ok g c =
    lost_said c.args.language.now c.args.file.now c.args.tree.now c.in-Ok.ensures.complete c.as_slice.result.now
    (c.as_slice.ensures.value ∙ c.in-Ok.ensures.bytes) _ _ _
    (subst (λ r. OnErr r (g.F.Files.holds c.replace.new.self ≡ g.F.Files.holds c.args.files.now))
    (c.in-Err-Failed.is ∙ ap Err c.in-Err-Failed.field-0-is) c.replace.ensures.keeps)
    (c.replace.ensures.entries
    ∙ ap (entries_after_write (g.F.Files.faults c.args.files.now) c.args.file.now)
    (c.in-Err-Failed.is ∙ ap Err c.in-Err-Failed.field-0-is))
    c.in_ok-lost.ensures.ok
