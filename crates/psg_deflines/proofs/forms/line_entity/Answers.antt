use Rattle.std.proofs.Common.{◌≡◌, arith, get_or}
use Rattle.std.proofs.lemmas.Option.{MatchOption-at_some}
use Rattle.psg_terms.specs.Names.{Name}
use Rattle.psg_grammar.specs.Sound.{IsKindName}
use Rattle.psg_deflines.proofs.PartReads.{no-slice}
use Rattle.psg_deflines.proofs.FormLaws.{entity-long, entity-only}
use Rattle.psg_deflines.proofs.forms.line_entity.Goals as goal

pub returns-then-parts-ne1 : goal.returns-then-parts-ne1
returns-then-parts-ne1 c = λ line h. omega (arith, entity-long c.args.parts.now line h, c.if-parts-ne1.true)

pub returns : goal.returns
returns c =
    let part = (get_or c.args.parts.now 0 no-slice).now in
    entity-only c.args.parts.now c.in_ok-name.name c.in-Some.sort c.if-parts-ne1.false c.in_ok-name.ensures
    (MatchOption-at_some (IsKindName part → ⊥) (λ (t : Name). (t ≡ part) × IsKindName part) c.in-Some.sort c.in-Some.is c.in_ok-sort.ensures)
