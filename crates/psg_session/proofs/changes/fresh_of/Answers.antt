use Rattle.std.proofs.Common.{◌<◌, inl, inr, List, map, Vec, Global, Some, length, get_or, refl, sym, ap, subst, ◌∙◌}
use Rattle.psg_terms.proofs.Lists.{IfSome_at}
use Rattle.psg_grammar.specs.declared.types.Operator.{Operator}
use Rattle.psg_grammar.specs.Insertion.{Leaf as PlainLeaf, fresh_operator}
use Rattle.psg_session.specs.declared.leaves.Leaf.{Leaf}
use Rattle.psg_session.specs.Views.{plain_leaf}
use Rattle.psg_session.proofs.LeafLaws.{none_in}
use Rattle.psg_session.proofs.ChangeLaws.{operator_there}
use Rattle.psg_session.proofs.StepLaws.{some_once}
use Rattle.psg_session.proofs.Shapes.{read_at}
use Rattle.psg_session.specs.Leaves.{GivesLeaves}
use Rattle.psg_session.proofs.changes.fresh_of.Goals as goal

pub returns-in_default : goal.returns-in_default
returns-in_default c =
    inl (
      refl,
      λ o named. c.in_default.not-Some o
          (c.op_named.ensures.only o (named ∙ ap Some (sym c.as_str.ensures))),
    )

pub bounds-as_slice-op : goal.bounds-as_slice-op
bounds-as_slice-op c =
    subst (λ os. c.in-Some.op < length os) (sym c.as_slice.ensures)
    (operator_there c.args.language.now.definition c.in-Some.op c.as_str.result.now c.in-Some.ensures.found)

pub bounds-as_slice-op-in-Some : goal.bounds-as_slice-op-in-Some
bounds-as_slice-op-in-Some c =
    subst (λ os. c.in-Some.op < length os) (sym c.as_slice.ensures)
    (operator_there c.args.language.now.definition c.in-Some.op c.as_str.result.now c.in-Some.ensures.found)

pub returns-then-as_slice-op : goal.returns-then-as_slice-op
returns-then-as_slice-op c =
    let def = c.args.language.now.definition in
    let at = read_at c.as_slice.result.now def.operators c.in-Some.op c.index-as_slice-op.result c.as_slice.ensures
    (operator_there def c.in-Some.op c.as_str.result.now c.in-Some.ensures.found) c.index-as_slice-op.is
    ∙ ap Some c.index-as_slice-op.is in
    inr (inl (
      refl,
      c.in-Some.op,
      c.in-Some.ensures.found
          ∙ ap Some c.as_str.ensures,
      λ (op, also, of). c.if-as_slice-op.true
          (ap (λ (o : Operator). o.phylum) (some_once _ _ _ at also) ∙ of),
    ))

pub read_leaves-requires-clause-found : goal.read_leaves-requires-clause-found
read_leaves-requires-clause-found c =
    operator_there c.args.language.now.definition c.in-Some.op c.as_str.result.now c.in-Some.ensures.found

pub returns-in_default-2 : goal.returns-in_default-2
returns-in_default-2 c =
    let def = c.args.language.now.definition in
    let at = read_at c.as_slice.result.now def.operators c.in-Some.op c.index-as_slice-op.result c.as_slice.ensures
    (operator_there def c.in-Some.op c.as_str.result.now c.in-Some.ensures.found) c.index-as_slice-op.is
    ∙ ap Some c.index-as_slice-op.is in
    inr (inr (
      refl,
      c.in-Some.op,
      c.in-Some.ensures.found ∙ ap Some c.as_str.ensures,
      (get_or c.as_slice.result.now c.in-Some.op c.index-as_slice-op.result, at, c.if-as_slice-op.false),
      λ leaves gives. none_in ((xs : List PlainLeaf) → GivesLeaves def c.in-Some.op c.as_str-2.result.now xs → ⊥)
          c.in_ok-leaves.field-0 c.in_default-2.is c.in_ok-leaves.ensures.none leaves
          (subst (λ t. GivesLeaves def c.in-Some.op t leaves) (sym c.as_str-2.ensures) gives),
    ))

pub fresh_operator-requires-clause-found : goal.fresh_operator-requires-clause-found
fresh_operator-requires-clause-found c =
    operator_there c.args.language.now.definition c.in-Some.op c.as_str.result.now c.in-Some.ensures.found

pub returns : goal.returns
returns c =
    let def = c.args.language.now.definition in
    let at = read_at c.as_slice.result.now def.operators c.in-Some.op c.index-as_slice-op.result c.as_slice.ensures
    (operator_there def c.in-Some.op c.as_str.result.now c.in-Some.ensures.found) c.index-as_slice-op.is
    ∙ ap Some c.index-as_slice-op.is in
    let leaves = map plain_leaf c.in-Some-2.leaves.items in
    let gives = subst (λ t. GivesLeaves def c.in-Some.op t leaves) c.as_str-2.ensures
    (IfSome_at (λ (v : Vec Leaf Global). GivesLeaves def c.in-Some.op c.as_str-2.result.now (map plain_leaf v.items))
    c.in_ok-leaves.field-0 c.in-Some-2.leaves c.in-Some-2.is c.in_ok-leaves.ensures.some) in (
      c.in-Some.op,
      leaves,
      c.in-Some.ensures.found
          ∙ ap Some c.as_str.ensures,
      (get_or c.as_slice.result.now c.in-Some.op c.index-as_slice-op.result, at, c.if-as_slice-op.false),
      gives,
      c.in_ok-fresh.ensures
          ∙ ap (λ ls. fresh_operator def c.in-Some.op (map plain_leaf ls)) c.as_slice-2.ensures.value,
    )
