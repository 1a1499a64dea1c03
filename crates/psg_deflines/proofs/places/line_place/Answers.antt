use Rattle.std.proofs.Common.{rules, ◌≡◌, ◌∷◌, ◌+◌, ◌≤◌, length, drop, ap, sym, ◌∙◌, refl, arith, length-drop}
use Rattle.std.proofs.lemmas.Option.{MatchOption-at_some}
use Rattle.std.specs.Prelude.{option_map, codes}
use Rattle.psg_terms.specs.Names.{Name}
use Rattle.psg_grammar.specs.Sound.{IsKindName}
use Rattle.psg_deflines.specs.Parts.{texts}
use Rattle.psg_deflines.specs.TermWalks.{HasNoTerm, IsTermFound}
use Rattle.psg_deflines.specs.TreePieces.{place_of}
use Rattle.psg_deflines.proofs.TermFound.{texts-length}
use Rattle.psg_deflines.proofs.PlaceLaws.{place-found}
use Rattle.psg_deflines.proofs.places.line_place.Goals as goal

pub overflow_add-result : goal.overflow_add-result
overflow_add-result c =
    let found : IsTermFound (texts c.in-Some.inside.now) c.in-Some-3.read = MatchOption-at_some (HasNoTerm (texts c.in-Some.inside.now)) (IsTermFound (texts c.in-Some.inside.now)) c.in-Some-3.read c.in-Some-3.is c.in_ok-read.ensures in
    let closed : drop c.in-Some-3.read.taken (texts c.in-Some.inside.now) ≡ codes ")" ∷ texts c.in-Some-behind.field-0.now = sym c.rest_behind.ensures ∙ c.in-Some-behind.ensures in
    let small : c.in-Some-3.read.taken + 5 ≤ length c.args.parts.now =
    omega (arith, ap length c.in-Some.ensures, ap length closed, length-drop c.in-Some-3.read.taken (texts c.in-Some.inside.now), texts-length c.args.parts.now) in
    search (rules, small)

pub returns : goal.returns
returns c =
    let found : IsTermFound (texts c.in-Some.inside.now) c.in-Some-3.read = MatchOption-at_some (HasNoTerm (texts c.in-Some.inside.now)) (IsTermFound (texts c.in-Some.inside.now)) c.in-Some-3.read c.in-Some-3.is c.in_ok-read.ensures in
    let name = MatchOption-at_some (IsKindName c.in-Some.name.now → ⊥) (λ (t : Name). (t ≡ c.in-Some.name.now) × IsKindName c.in-Some.name.now) c.in-Some-2.kind c.in-Some-2.is c.in_ok-kind.ensures in
    place-found (texts c.args.parts.now) (texts c.in-Some.inside.now) c.in-Some.name.now c.in-Some.ensures c.in-Some-3.read _ (texts c.in-Some-behind.field-0.now) name.1 found
    (sym c.rest_behind.ensures ∙ c.in-Some-behind.ensures) (c.kept_place-place.ensures ∙ ap (λ k. option_map (place_of k) c.in-Some-3.read.term) name.0) refl
