use Rattle.std.proofs.Common.{◌≡◌, Option, refl, sym, ◌∙◌, ap, subst, true≢false}
use Rattle.std.specs.Prelude.{IfOk, string_bytes}
use Rattle.psg_grammar.specs.declared.types.Definition.{Definition}
use Rattle.psg_grammar.specs.Fragments.{Fragment}
use Rattle.psg_grammar.specs.WellFormed.{WellFormed}
use Rattle.psg_session.specs.declared.editor.OpenedTree.{OpenedTree}
use Rattle.psg_session.specs.Sessions.{opened_of, state_of}
use Rattle.psg_run.proofs.Reports.{IsSaidOf, no_lines_said, none_said, said_of_opened}
use Rattle.psg_run.proofs.exporting.report.Goals as goal

pub returns-in-None-clause-ok : goal.returns-in-None-clause-ok
returns-in-None-clause-ok g c =
    none_said c.args.session.now.language c.args.file.now (state_of c.args.session.now.editor).opened _ _ refl _
    (ap (λ (o : Option OpenedTree). opened_of o) c.in-None.ensures.noted) c.from_str.ensures.ok

pub returns-then-not-is_lines-clause-ok : goal.returns-then-not-is_lines-clause-ok
returns-then-not-is_lines-clause-ok g c =
    let (old, opened, noted) = c.in-Some.ensures.noted in
    let tree : old.tree ≡ c.tree-tree.result.now = sym (c.tree-tree.ensures ∙ noted.tree) in
    let formed = subst (λ (f : Fragment). WellFormed c.args.session.now.language f old.kind) tree
    (c.note.ensures.formed.opened old opened) in
    no_lines_said c.args.session.now.language c.args.file.now (state_of c.args.session.now.editor).opened _ _ refl _ old opened
    (λ lines. true≢false (sym ((c.is_lines.ensures c.args.session.now.language old.kind formed).1 lines) ∙ c.if-not-is_lines.true))
    c.from_str-then-not-is_lines.ensures.ok

pub returns-clause-ok : goal.returns-clause-ok
returns-clause-ok g c =
    let (old, opened, noted) = c.in-Some.ensures.noted in
    let tree : old.tree ≡ c.tree-tree.result.now = sym (c.tree-tree.ensures ∙ noted.tree) in
    let formed = subst (λ (f : Fragment). WellFormed c.args.session.now.language f old.kind) tree
    (c.note.ensures.formed.opened old opened) in
    said_of_opened c.args.session.now.language c.args.file.now (state_of c.args.session.now.editor).opened old c.tree-tree.result.now
    _ _ opened ((c.is_lines.ensures c.args.session.now.language old.kind formed).0 c.if-not-is_lines.false) tree
    c.export_to.result
    (subst (λ (d : Definition). IfOk c.export_to.result (λ t. IsSaidOf d c.args.file.now c.tree-tree.result.now
    (record { held = g.F.Files.holds c.args.files.now; entries = g.F.Files.faults c.args.files.now })
    (record { held = g.F.Files.holds c.export_to.new.files; entries = g.F.Files.faults c.export_to.new.files }) (string_bytes t)))
    c.language.ensures.same c.export_to.ensures.ok)
