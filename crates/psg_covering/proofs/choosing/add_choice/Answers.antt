use Rattle.std.proofs.Common.{◌∷◌, sym, subst}
use Rattle.std.specs.Prelude.{IfSome, MatchOption}
use Rattle.psg_covering.specs.Choices.{Fits}
use Rattle.psg_covering.specs.Fronts.{IsChosen, IsNone}
use Rattle.psg_covering.proofs.Adding.{made_none, made_some}
use Rattle.psg_covering.proofs.choosing.add_choice.Goals as goal

pub returns-in_ok-add_row : goal.returns-in_ok-add_row
returns-in_ok-add_row c ks fits =
    let def = c.args.definition.now in
    let kind = c.args.kind in
    let hole = c.args.hole.now in
    made_some def kind ks c.args.next.now.rows.items c.add_row.new.front.rows.items c.args.row.now c.in-Some.made hole
    (subst (λ r. IsChosen def r hole c.in-Some.made) c.terms.ensures
    (subst (λ o. MatchOption o (IsNone def c.terms.result.now hole) (IsChosen def c.terms.result.now hole)) c.in-Some.is c.in_ok-made.ensures.made))
    (c.in_ok-add_row.ensures ks (subst (λ o. IfSome o (Fits def kind ks)) c.in-Some.is (c.in_ok-made.ensures.fits kind ks (subst (Fits def kind (c.args.slot ∷ ks)) (sym c.terms.ensures) fits))))

pub returns-in_default : goal.returns-in_default
returns-in_default c ks fits =
    let def = c.args.definition.now in
    let hole = c.args.hole.now in
    made_none def c.args.kind ks c.args.next.now.rows.items c.args.row.now hole
    (subst (λ r. IsNone def r hole) c.terms.ensures
    (subst (λ o. MatchOption o (IsNone def c.terms.result.now hole) (IsChosen def c.terms.result.now hole)) c.in_default.is c.in_ok-made.ensures.made))
