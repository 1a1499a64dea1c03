use Rattle.std.proofs.Common.{sym, ◌∙◌, eqb-true, eq-eqb}
use Rattle.std.proofs.lemmas.Bool.{false≢true}
use Rattle.psg_layout.proofs.LineLaws.{no_chars, narrow_put}
use Rattle.psg_layout.proofs.line_end.LineEnd.put_narrow.Goals as goal

pub returns-then-is_empty : goal.returns-then-is_empty
returns-then-is_empty c = no_chars c.args.text.now c.args.self.now (eqb-true _ 0 (sym c.if-is_empty.ensures))

pub returns : goal.returns
returns c =
    narrow_put c.args.self.now c.in_ok-self.field-0 c.spaces.result c.args.text.now c.requires (λ z. false≢true (c.if-is_empty.ensures ∙ eq-eqb _ 0 z))
    c.in_ok-self.ensures c.spaces.ensures
