use Rattle.std.proofs.Common.{◌≡◌, ◌∷◌, [], ◌∙◌, false, sym, subst, ap, List, ℕ}
use Rattle.psg_grammar.specs.declared.types.Kind.TheVariants as kinds
use Rattle.psg_scope.specs.declared.header.Header.{Header}
use Rattle.psg_eval.specs.OwnRows.{AreHoleRows}
use Rattle.psg_eval.proofs.LeafAnswers.{hole_answers, hole_sorts, hole_summary, phylum_sort}
use Rattle.psg_eval.proofs.leaves.placeholder.Goals as goal
use Rattle.psg_eval.proofs.leaves.placeholder.Goals.{After-as_slice}

are : (c : After-as_slice) → AreHoleRows c.args.definition.now (kinds.Phylum c.args.phylum) c.as_slice.result.now
are c = subst (AreHoleRows c.args.definition.now (kinds.Phylum c.args.phylum)) (sym c.as_slice.ensures.value) c.in_ok-rows.ensures

bare : (c : After-as_slice) → c.no_keys-header.result ≡ record { names = []; unfinished = []; twice = false }
bare c = c.no_keys-header.ensures ∙ (let made : List ℕ → Header = λ u. record { names = []; unfinished = u; twice = false } in ap made c.new.ensures.items)

pub leaf-requires : goal.leaf-requires
leaf-requires c =
    let (s, has) = phylum_sort c.args.definition.now c.args.phylum c.requires.phylum in
    (s ∷ [], hole_sorts c.args.definition.now c.requires.sound (kinds.Phylum c.args.phylum) s c.as_slice.result.now has (are c))

pub returns-clause-answer : goal.returns-clause-answer
returns-clause-answer c =
    let a = (goal.at.returns-clause-answer c).After-as_slice in
    let (s, has) = phylum_sort c.args.definition.now c.args.phylum c.requires.phylum in
    hole_answers c.args.definition.now c.requires.sound c.args.phylum c.no_keys-header.result c.as_slice.result.now (are a) (bare a) c.leaf.result s
    (c.leaf.ensures (s ∷ []) (hole_sorts c.args.definition.now c.requires.sound (kinds.Phylum c.args.phylum) s c.as_slice.result.now has (are a)))

pub returns-clause-summary : goal.returns-clause-summary
returns-clause-summary c =
    let a = (goal.at.returns-clause-summary c).After-as_slice in
    let (s, has) = phylum_sort c.args.definition.now c.args.phylum c.requires.phylum in
    hole_summary c.args.definition.now c.requires.sound c.args.phylum c.no_keys-header.result c.as_slice.result.now (are a) (bare a) c.leaf.result s
    (c.leaf.ensures (s ∷ []) (hole_sorts c.args.definition.now c.requires.sound (kinds.Phylum c.args.phylum) s c.as_slice.result.now has (are a))) has
