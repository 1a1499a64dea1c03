use Rattle.std.proofs.Common.{◌≡◌, ◌∷◌, [], ◌∙◌, false, sym, subst, ap, refl, List, ℕ}
use Rattle.psg_grammar.specs.declared.types.Kind.TheVariants as kinds
use Rattle.psg_scope.specs.declared.header.Header.{Header}
use Rattle.psg_eval.specs.OwnRows.{AreHoleRows}
use Rattle.psg_eval.proofs.LeafAnswers.{hole_sorts, list_there, open_answers, open_summary}
use Rattle.psg_eval.proofs.leaves.open_end.Goals as goal
use Rattle.psg_eval.proofs.leaves.open_end.Goals.{After-as_slice}

are : (c : After-as_slice) → AreHoleRows c.args.definition.now (kinds.List c.args.list) c.as_slice.result.now
are c = subst (AreHoleRows c.args.definition.now (kinds.List c.args.list)) (sym c.as_slice.ensures.value) c.in_ok-rows.ensures

bare : (c : After-as_slice) → c.no_keys-header.result ≡ record { names = []; unfinished = c.args.spaces.now; twice = false }
bare c = c.no_keys-header.ensures ∙ (let made : List ℕ → Header = λ u. record { names = []; unfinished = u; twice = false } in ap made c.in_ok-from_slice.ensures.items)

pub leaf-requires : goal.leaf-requires
leaf-requires c =
    let (k, e) = list_there c.args.definition.now c.args.list c.requires.there in
    (k.sort.0 ∷ [], hole_sorts c.args.definition.now c.requires.sound (kinds.List c.args.list) k.sort.0 c.as_slice.result.now (k, e, refl) (are c))

pub returns-clause-answer : goal.returns-clause-answer
returns-clause-answer c =
    let a = (goal.at.returns-clause-answer c).After-as_slice in
    let (k, e) = list_there c.args.definition.now c.args.list c.requires.there in
    open_answers c.args.definition.now c.requires.sound c.args.list c.no_keys-header.result c.as_slice.result.now c.args.spaces.now c.requires.spaces (are a) (bare a) c.leaf.result k.sort.0
    (c.leaf.ensures (k.sort.0 ∷ []) (hole_sorts c.args.definition.now c.requires.sound (kinds.List c.args.list) k.sort.0 c.as_slice.result.now (k, e, refl) (are a)))

pub returns-clause-summary : goal.returns-clause-summary
returns-clause-summary c =
    let a = (goal.at.returns-clause-summary c).After-as_slice in
    let (k, e) = list_there c.args.definition.now c.args.list c.requires.there in
    open_summary c.args.definition.now c.requires.sound c.args.list c.no_keys-header.result c.as_slice.result.now c.args.spaces.now c.requires.spaces (are a) (bare a) c.leaf.result k.sort.0
    (c.leaf.ensures (k.sort.0 ∷ []) (hole_sorts c.args.definition.now c.requires.sound (kinds.List c.args.list) k.sort.0 c.as_slice.result.now (k, e, refl) (are a))) (k, e, refl)
