use Rattle.std.proofs.Common.{rules, ◌≡◌, ◌∷◌, ◌+◌, ◌≤◌, length, drop, ap, sym, ◌∙◌, refl, subst, arith, length-drop}
use Rattle.std.proofs.lemmas.Option.{MatchOption-at_some}
use Rattle.std.specs.Prelude.{codes}
use Rattle.psg_deflines.specs.Parts.{texts}
use Rattle.psg_deflines.specs.TermWalks.{Parts}
use Rattle.psg_deflines.specs.TreePieces.{HasNoPlace, IsPlaceFound}
use Rattle.psg_deflines.proofs.TermFound.{texts-length}
use Rattle.psg_deflines.proofs.PlaceLaws.{no-bracket-end, rest-end, turned}
use Rattle.psg_deflines.proofs.places.list_end.Goals as goal

pub returns-in_default-behind : goal.returns-in_default-behind
returns-in_default-behind c =
    let found : IsPlaceFound (texts c.in-Some.inside.now) c.in-Some-2.read = MatchOption-at_some (HasNoPlace (texts c.in-Some.inside.now)) (IsPlaceFound (texts c.in-Some.inside.now)) c.in-Some-2.read c.in-Some-2.is c.in_ok-read.ensures in
    no-bracket-end (texts c.args.parts.now) (texts c.in-Some.inside.now) c.in-Some.ensures c.in-Some-2.read found
    (subst (λ xs. (rest : Parts) → xs ≡ codes "]" ∷ rest → ⊥) c.rest_behind.ensures c.in_default-behind.ensures)

pub overflow_add-result : goal.overflow_add-result
overflow_add-result c =
    let closed : drop c.in-Some-2.read.taken (texts c.in-Some.inside.now) ≡ codes "]" ∷ texts c.in-Some-behind.field-0.now = sym c.rest_behind.ensures ∙ c.in-Some-behind.ensures in
    let small : c.in-Some-2.read.taken + 2 ≤ length c.args.parts.now =
    omega (arith, ap length c.in-Some.ensures, ap length closed, length-drop c.in-Some-2.read.taken (texts c.in-Some.inside.now), texts-length c.args.parts.now) in
    search (rules, small)

pub returns : goal.returns
returns c =
    let found : IsPlaceFound (texts c.in-Some.inside.now) c.in-Some-2.read = MatchOption-at_some (HasNoPlace (texts c.in-Some.inside.now)) (IsPlaceFound (texts c.in-Some.inside.now)) c.in-Some-2.read c.in-Some-2.is c.in_ok-read.ensures in
    rest-end (texts c.args.parts.now) (texts c.in-Some.inside.now) c.in-Some.ensures c.in-Some-2.read _ (texts c.in-Some-behind.field-0.now) found
    (sym c.rest_behind.ensures ∙ c.in-Some-behind.ensures) refl (turned _ c.is_none-deep.result c.is_none-deep.ensures) refl
