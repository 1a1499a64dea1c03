use Rattle.std.proofs.Common.{◌≡◌, ◌∷◌, [], ◌∙◌, false, map, get_or, slice_get, Some, sym, subst, ap, List, ℕ}
use Rattle.psg_terms.proofs.Lists.{slice_get_item}
use Rattle.psg_grammar.specs.declared.types.Kind.TheVariants as kinds
use Rattle.psg_grammar.specs.declared.types.ListKind.{ListKind}
use Rattle.psg_relation.specs.Choices.{AllHaveSorts}
use Rattle.psg_scope.specs.declared.header.Header.{Header}
use Rattle.psg_eval.specs.Leaves.{IsLeafOf}
use Rattle.psg_eval.proofs.LeafAnswers.{closed_answers, closed_summary, nil_sorts}
use Rattle.psg_eval.proofs.leaves.closed_end.Goals as goal
use Rattle.psg_eval.proofs.leaves.closed_end.Goals.{After-as_slice-3}

found : (c : After-as_slice-3) → slice_get c.args.definition.now.lists c.args.list ≡ Some c.index-as_slice-list.result
found c = slice_get_item c.args.definition.now.lists c.args.list c.index-as_slice-list.result c.requires.there
    (subst (λ (ls : List ListKind). c.index-as_slice-list.result ≡ get_or ls c.args.list c.index-as_slice-list.result) c.as_slice.ensures c.index-as_slice-list.is)

made : (c : After-as_slice-3) → c.as_slice-3.result.now ≡ map (λ t. t ∷ []) c.index-as_slice-list.result.nil_rows
made c = c.as_slice-3.ensures.value ∙ c.in_ok-rows.ensures ∙ ap (map (λ t. t ∷ [])) c.as_slice-2.ensures

sorted : (c : After-as_slice-3) → AllHaveSorts c.args.definition.now.signature c.as_slice-3.result.now (c.index-as_slice-list.result.sort.0 ∷ [])
sorted c = subst (λ rows. AllHaveSorts c.args.definition.now.signature rows (c.index-as_slice-list.result.sort.0 ∷ [])) (sym (made c))
    (nil_sorts c.args.definition.now c.requires.sound c.args.list c.index-as_slice-list.result (found c))

bare : (c : After-as_slice-3) → c.no_keys-header.result ≡ record { names = []; unfinished = []; twice = false }
bare c = c.no_keys-header.ensures ∙ (let empty : List ℕ → Header = λ u. record { names = []; unfinished = u; twice = false } in ap empty c.new.ensures.items)

pub leaf-requires : goal.leaf-requires
leaf-requires c = (c.index-as_slice-list.result.sort.0 ∷ [], sorted c)

pub returns-clause-answer : goal.returns-clause-answer
returns-clause-answer c =
    let a = (goal.at.returns-clause-answer c).After-as_slice-3 in
    let list = c.index-as_slice-list.result in
    closed_answers c.args.definition.now c.requires.sound c.args.list list (found a) c.no_keys-header.result (bare a) c.leaf.result
    (subst (λ rows. IsLeafOf c.args.definition.now.signature (kinds.List c.args.list) c.no_keys-header.result rows (list.sort.0 ∷ []) c.leaf.result) (made a) (c.leaf.ensures (list.sort.0 ∷ []) (sorted a)))

pub returns-clause-summary : goal.returns-clause-summary
returns-clause-summary c =
    let a = (goal.at.returns-clause-summary c).After-as_slice-3 in
    let list = c.index-as_slice-list.result in
    closed_summary c.args.definition.now c.requires.sound c.args.list list (found a) c.no_keys-header.result (bare a) c.leaf.result
    (subst (λ rows. IsLeafOf c.args.definition.now.signature (kinds.List c.args.list) c.no_keys-header.result rows (list.sort.0 ∷ []) c.leaf.result) (made a) (c.leaf.ensures (list.sort.0 ∷ []) (sorted a)))
