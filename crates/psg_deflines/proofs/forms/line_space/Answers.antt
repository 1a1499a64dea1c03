use Rattle.std.proofs.Common.{◌≡◌, arith, get_or, refl}
use Rattle.std.proofs.lemmas.Bool.{false≢true}
use Rattle.std.proofs.lemmas.Option.{MatchOption-at_some}
use Rattle.psg_terms.specs.Names.{Name}
use Rattle.psg_grammar.specs.Sound.{IsKindName, IsOwnName}
use Rattle.psg_deflines.proofs.PartReads.{no-slice}
use Rattle.psg_deflines.proofs.FormLaws.{space-long, space-only, space-parts}
use Rattle.psg_deflines.proofs.forms.line_space.Goals as goal

pub returns-then-parts-ne3 : goal.returns-then-parts-ne3
returns-then-parts-ne3 c = λ line h. omega (arith, space-long c.args.parts.now line h, c.if-parts-ne3.true)

pub returns-then-not-is : goal.returns-then-not-is
returns-then-not-is c = λ line h. false≢true (c.if-not-is.ensures.1 (space-parts c.args.parts.now line (space-long c.args.parts.now line h) h).p1)

pub returns : goal.returns
returns c =
    let p = λ (n : _). (get_or c.args.parts.now n no-slice).now in
    space-only c.args.parts.now c.in-Some.name c.in-Some-2.sort (omega arith)
    (MatchOption-at_some (IsOwnName (p 0) → ⊥) (λ (t : Name). (t ≡ p 0) × IsOwnName (p 0)) c.in-Some.name c.in-Some.is c.in_ok-name.ensures) (c.if-not-is.ensures.0 refl)
    (MatchOption-at_some (IsKindName (p 2) → ⊥) (λ (t : Name). (t ≡ p 2) × IsKindName (p 2)) c.in-Some-2.sort c.in-Some-2.is c.in_ok-sort.ensures)
