use Rattle.std.proofs.Common.{◌↔◌, Some, None, length, ap, ◌∙◌, ◌+◌, ◌++◌, ◌∷◌, ◌<◌, ◌^◌, [], subst}
use Rattle.std.specs.Prelude.{IfSome, IsTrue}
use Rattle.psg_scope.specs.declared.header.Header.{Header}
use Rattle.psg_completions.specs.General.{it}
use Rattle.psg_eval.specs.Walks.{run}
use Rattle.psg_specimen.specs.Shown.{FindsKey, IsRowShown, value_terms}
use Rattle.psg_specimen.proofs.CaseShown.{keyed_tells, unkeyed_tells}
use Rattle.psg_specimen.proofs.showing.shows_element.Goals as goal

pub shows_entity-requires : goal.shows_entity-requires
shows_entity-requires c = subst (λ o. IfSome o (λ place. place < 2 ^ 63)) c.in-Some.is c.it_place.ensures.few

pub returns-in_ok-shown-in-Some : goal.returns-in_ok-shown-in-Some
returns-in_ok-shown-in-Some c = λ def sound row places p.
    let d = c.args.row.now in
    let s = c.args.pattern.now in
    let k = c.in-Some.place in
    let b = c.in_ok-shown-in-Some.shown in
    let names = c.as_slice-names.ensures ∙ ap (λ (h : Header). h.names) c.header.ensures in
    let found = subst (λ ns. FindsKey (it d.space) ns (Some k)) names (subst (FindsKey (it d.space) c.as_slice-names.result.now) c.in-Some.is c.it_place.ensures.found) in
    let here = subst (λ rel. IsTrue b ↔ IsRowShown rel (run 0 (length c.args.places.now + 1) ++ (length c.args.places.now + 1 + k) ∷ []) (value_terms d.value c.args.places.now ++ d.term ∷ [])) c.rel.ensures c.in_ok-shown-in-Some.ensures in
    keyed_tells def sound d b s row p k found
    (subst (λ ps. IsTrue b ↔ IsRowShown s.rel (run 0 (length ps + 1) ++ (length ps + 1 + k) ∷ []) (value_terms d.value ps ++ d.term ∷ [])) places here)

pub returns-in_ok-shown-in-None : goal.returns-in_ok-shown-in-None
returns-in_ok-shown-in-None c = λ def sound row places p.
    let d = c.args.row.now in
    let s = c.args.pattern.now in
    let b = c.in_ok-shown-in-None.shown in
    let names = c.as_slice-names.ensures ∙ ap (λ (h : Header). h.names) c.header.ensures in
    let none = subst (λ ns. FindsKey (it d.space) ns None) names (subst (FindsKey (it d.space) c.as_slice-names.result.now) c.in-None.is c.it_place.ensures.found) in
    let here = subst (λ rel. IsTrue b ↔ IsRowShown rel (run 0 (length c.args.places.now + 1)) (value_terms d.value c.args.places.now)) c.rel-in-None.ensures c.in_ok-shown-in-None.ensures in
    unkeyed_tells def sound d b s row p none
    (subst (λ ps. IsTrue b ↔ IsRowShown s.rel (run 0 (length ps + 1)) (value_terms d.value ps)) places here)
