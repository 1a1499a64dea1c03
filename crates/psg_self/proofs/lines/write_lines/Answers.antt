use Rattle.std.proofs.Common.{refl, ap, ◌∙◌, string_bytes}
use Rattle.psg_self.specs.declared.form.Form.TheVariants as forms
use Rattle.psg_self.specs.SelfLines.{lines_by}
use Rattle.psg_self.proofs.Writes.{on-ok}
use Rattle.psg_self.proofs.LineWrites.{at-form, one-line, more-lines, no-lines, other-lines}
use Rattle.psg_self.proofs.lines.write_lines.Goals as goal

pub returns-in-None : goal.returns-in-None
returns-in-None c =
    no-lines c.args.line.now c.form_of.result (string_bytes c.args.out.now) c.form_of.ensures (ap (λ o. lines_by o c.args.line.now) c.in-None.is)

pub returns-in-SortLine : goal.returns-in-SortLine
returns-in-SortLine c =
    on-ok c.write_sort.result c.write_sort.ensures (λ h.
    one-line c.args.line.now forms.SortLine (string_bytes c.args.out.now) (string_bytes c.write_sort.new.out) _
    (at-form c.args.line.now c.form_of.result c.in-Some.form forms.SortLine c.form_of.ensures c.in-Some.is c.in-SortLine.is) refl h)

pub returns-in-PhylumLine : goal.returns-in-PhylumLine
returns-in-PhylumLine c =
    on-ok c.write_phylum.result c.write_phylum.ensures (λ h.
    one-line c.args.line.now forms.PhylumLine (string_bytes c.args.out.now) (string_bytes c.write_phylum.new.out) _
    (at-form c.args.line.now c.form_of.result c.in-Some.form forms.PhylumLine c.form_of.ensures c.in-Some.is c.in-PhylumLine.is) refl h)

pub returns-in-BracketedLine : goal.returns-in-BracketedLine
returns-in-BracketedLine c =
    on-ok c.write_bracketed.result c.write_bracketed.ensures (λ h.
    one-line c.args.line.now forms.BracketedLine (string_bytes c.args.out.now) (string_bytes c.write_bracketed.new.out) _
    (at-form c.args.line.now c.form_of.result c.in-Some.form forms.BracketedLine c.form_of.ensures c.in-Some.is c.in-BracketedLine.is) refl h)

pub returns-in-HoleLine : goal.returns-in-HoleLine
returns-in-HoleLine c =
    on-ok c.write_hole.result c.write_hole.ensures (λ h.
    one-line c.args.line.now forms.HoleLine (string_bytes c.args.out.now) (string_bytes c.write_hole.new.out) _
    (at-form c.args.line.now c.form_of.result c.in-Some.form forms.HoleLine c.form_of.ensures c.in-Some.is c.in-HoleLine.is) refl h)

pub returns-in-OperatorLine : goal.returns-in-OperatorLine
returns-in-OperatorLine c =
    on-ok c.write_operator_lines.result c.write_operator_lines.ensures (λ h.
    more-lines c.args.line.now (string_bytes c.args.out.now) (string_bytes c.write_operator_lines.new.out)
    (at-form c.args.line.now c.form_of.result c.in-Some.form forms.OperatorLine c.form_of.ensures c.in-Some.is c.in-OperatorLine.is) h)

pub returns-in_default : goal.returns-in_default
returns-in_default c =
    no-lines c.args.line.now c.form_of.result (string_bytes c.args.out.now) c.form_of.ensures
    (ap (λ o. lines_by o c.args.line.now) c.in-Some.is ∙ other-lines c.in-Some.form c.args.line.now c.in_default.not-SortLine
    c.in_default.not-PhylumLine c.in_default.not-BracketedLine c.in_default.not-OperatorLine c.in_default.not-HoleLine)
