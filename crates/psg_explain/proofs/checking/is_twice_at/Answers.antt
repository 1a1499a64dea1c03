use Rattle.std.proofs.Common.{◌≡◌, ◌∷◌, List, ℕ, ap, ◌∙◌, subst, sym, true}
use Rattle.psg_grammar.specs.Keys.{Key}
use Rattle.psg_grammar.specs.Paths.{node_at}
use Rattle.psg_grammar.specs.Regions.{declared_inside}
use Rattle.psg_grammar.specs.declared.types.Definition.{Definition}
use Rattle.psg_grammar.specs.Fragments.{Fragment}
use Rattle.psg_cache.specs.Notes.{IsFormed}
use Rattle.psg_scope.specs.Headers.{keys}
use Rattle.psg_scope.specs.declared.header.NameCol.{NameCol}
use Rattle.psg_explain.specs.Refutations.{is_twice_among}
use Rattle.psg_explain.proofs.LastCases.{copied_none, copied_some, formed_node, no_such, twice_iff}
use Rattle.psg_explain.proofs.checking.is_twice_at.Goals as goal

pub returns-in_default : goal.returns-in_default
returns-in_default c =
    no_such (λ (n : Fragment). is_twice_among (declared_inside c.args.lang.now n) (c.args.space ∷ c.args.name.now) ≡ true) (node_at c.args.tree.now c.args.path.now) (copied_none c.at-found.result _ c.at-found.ensures c.in_default.is)

pub declared-requires : goal.declared-requires
declared-requires c =
    let at = copied_some c.at-found.result c.in-Some.node _ c.at-found.ensures c.in-Some.is in
    subst (λ (d : Definition). IsFormed d c.in-Some.node.now) (sym c.definition.ensures.same) (formed_node c.args.lang.now c.args.tree.now c.args.path.now c.in-Some.node.now c.requires at)

pub returns : goal.returns
returns c =
    let at = copied_some c.at-found.result c.in-Some.node _ c.at-found.ensures c.in-Some.is in
    twice_iff (λ (n : Fragment). is_twice_among (declared_inside c.args.lang.now n) (c.args.space ∷ c.args.name.now)) (node_at c.args.tree.now c.args.path.now) c.in-Some.node.now at c.is_twice-twice.result
    (c.is_twice-twice.ensures
    ∙ ap (λ (l : List NameCol). is_twice_among (keys l) (c.args.space ∷ c.as_str.result.now)) c.as_slice.ensures.value
    ∙ ap (λ (l : List Key). is_twice_among l (c.args.space ∷ c.as_str.result.now)) c.in_ok-keys.ensures
    ∙ ap (λ (d : Definition). is_twice_among (declared_inside d c.in-Some.node.now) (c.args.space ∷ c.as_str.result.now)) c.definition.ensures.same
    ∙ ap (λ (l : List ℕ). is_twice_among (declared_inside c.args.lang.now c.in-Some.node.now) (c.args.space ∷ l)) c.as_str.ensures)
