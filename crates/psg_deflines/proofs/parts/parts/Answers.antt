use Rattle.std.proofs.Common.{ℕ, List, ap, ◌∙◌, sym, subst}
use Rattle.std.proofs.lemmas.Bool.{eqb-true}
use Rattle.std.proofs.lemmas.Option.{MatchOption-at_some}
use Rattle.std.specs.Borrow.{Bor}
use Rattle.psg_deflines.specs.Parts.{HasParts, HasNoParts, IsSplit, texts}
use Rattle.psg_deflines.proofs.Stages.{IsReadTo}
use Rattle.psg_deflines.proofs.WrittenLaws.{parts-more, parts-all, texts-append}
use Rattle.psg_deflines.proofs.parts.parts.Goals as goal

pub loop-left-preserved : goal.loop-left-preserved
loop-left-preserved c =
    subst (λ done. IsReadTo HasParts c.args.line.now done c.in-Some.rest.now)
    (sym (ap texts c.in_ok-push.ensures.items ∙ texts-append c.loop-left.parts.items _))
    (parts-more c.args.line.now c.loop-left.left.now c.in-Some.part.now c.in-Some.rest.now (texts c.loop-left.parts.items) c.loop-left.invariant
    (MatchOption-at_some (HasNoParts c.loop-left.left.now) (λ (r : Bor (List ℕ) × Bor (List ℕ)). IsSplit c.loop-left.left.now r.0.now r.1.now) (c.in-Some.part, c.in-Some.rest) c.in-Some.is c.in_ok-part.ensures))

pub returns : goal.returns
returns c = parts-all c.args.line.now c.loop-left.left.now (texts c.loop-left.parts.items) c.loop-left.invariant (eqb-true _ 0 (sym c.loop-left-test.ensures))
