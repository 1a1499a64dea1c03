use Rattle.std.proofs.Common.{[], ◌∷◌, sym, subst, ◌∙◌, map-id}
use Rattle.std.proofs.lemmas.Iterator.{YieldsList-from_chars}
use Rattle.std.proofs.lemmas.Iterator.Consumers.{YieldsList-end}
use Rattle.psg_layout.specs.Sheets.{PutsChars}
use Rattle.psg_layout.proofs.LineLaws.{puts-nothing, puts-then}
use Rattle.psg_layout.proofs.line_end.LineEnd.put_chars.Goals as goal

pub loop-c-init : goal.loop-c-init
loop-c-init c = puts-nothing c.args.self.now

pub loop-c-preserved : goal.loop-c-preserved
loop-c-preserved c = puts-then c.loop-c.yielded (c.in-Some.c ∷ []) c.args.self.now c.loop-c.self c.put.new.self c.loop-c.invariant c.in_ok-put.ensures

pub returns : goal.returns
returns c =
    let end = YieldsList-end (YieldsList-from_chars c.args.text.now c.utf8.text cc) c.loop-c.yielded _ c.loop-c.yielded_by _ _ c.in-None.is c.next.ensures.steps in
    subst (λ cs. PutsChars cs c.args.self.now c.loop-c.self) (sym (map-id c.loop-c.yielded) ∙ end.0) c.loop-c.invariant
