use Rattle.std.proofs.Common.{sym, ◌∙◌, ap, subst, ◌∷◌, ◌≡◌}
use Rattle.std.proofs.lemmas.Option.{MatchOption-at_some}
use Rattle.std.specs.Prelude.{IfOk, MatchOption}
use Rattle.psg_deflines.specs.Parts.{texts}
use Rattle.psg_deflines.specs.TreeWalks.{IsLiteral, literal_part}
use Rattle.psg_deflines.specs.TreePieces.{HasNoBegin, IsBeginRead, HasNoLiteral}
use Rattle.psg_deflines.proofs.TermStepLaws.{texts-first}
use Rattle.psg_deflines.proofs.PieceLaws.{literal-begun}
use Rattle.psg_deflines.proofs.tree_pieces.begins.Goals as goal

pub returns-then-is : goal.returns-then-is
returns-then-is c =
    subst (λ ps. IfOk c.begin_list.result (λ o. MatchOption o (HasNoBegin ps) (IsBeginRead ps)))
    (sym (texts-first c.args.parts.now c.in-Some.rest.now c.in-Some.first.now c.in-Some.ensures.cases.0 ∙ ap (λ p. p ∷ texts c.in-Some.rest.now) (c.is.ensures.0 c.if-is.true))) c.begin_list.ensures

pub returns : goal.returns
returns c =
    let found = MatchOption-at_some (HasNoLiteral c.in-Some.first.now.now) (λ l. IsLiteral l × (c.in-Some.first.now.now ≡ literal_part l)) c.in-Some-2.part c.in-Some-2.is c.in_ok-part.ensures in
    literal-begun (texts c.args.parts.now) (texts c.in-Some.rest.now) c.in-Some.first.now.now c.in-Some-2.part
    (texts-first c.args.parts.now c.in-Some.rest.now c.in-Some.first.now c.in-Some.ensures.cases.0) found.0 found.1
