use Rattle.std.proofs.Common.{◌∷◌, [], ◌+◌, drop, get_or, refl, sym, subst, arith}
use Rattle.std.proofs.lemmas.List.{drop_all}
use Rattle.psg_explain.specs.declared.stages.Site.TheVariants as sites
use Rattle.psg_explain.specs.Added.{AddsPair, AddsPairs, stage_of}
use Rattle.psg_explain.proofs.StepLaws.{all_stay, child_next, child_there, pair_last, pairs_more}
use Rattle.psg_explain.proofs.adding.add_children.Goals as goal

pub loop-i-init : goal.loop-i-init
loop-i-init c = (c.requires.last, c.requires.children, λ fin h. h)

pub add_child-requires-clause-last : goal.add_child-requires-clause-last
add_child-requires-clause-last c = c.loop-i.invariant.0

pub add_child-requires-clause-child : goal.add_child-requires-clause-child
add_child-requires-clause-child c = child_there c.loop-i.stages.items c.args.children.now c.loop-i.i c.loop-i-test.true c.loop-i.invariant.1

pub loop-i-preserved : goal.loop-i-preserved
loop-i-preserved c =
    let path = c.args.place.path.now in
    let cell = c.args.place.cell in
    let site = sites.Node c.args.tree.now in
    let i = c.loop-i.i in
    let now = c.loop-i.stages.items in
    let new = c.add_child.new.stages.items in
    let children = c.args.children.now in
    let child = get_or children i 0 in
    let pair : AddsPair path cell site (i + 1) now new child = subst (λ s. AddsPair path cell s (i + 1) now new child) c.in_ok-site.ensures c.in_ok-add_child.ensures in
    let (content, is, made) = pair in (
      pair_last path cell site (i + 1) now new child pair,
      all_stay now new (stage_of path cell (i + 1) site content ∷ []) children made c.loop-i.invariant.1,
      λ fin h. c.loop-i.invariant.2 fin (pairs_more path cell site i now new fin child (drop i children) (drop (i + 1) children) (child_next children i c.loop-i-test.true) pair h),
    )

pub returns-clause-pairs : goal.returns-clause-pairs
returns-clause-pairs c =
    let path = c.args.place.path.now in
    let cell = c.args.place.cell in
    let site = sites.Node c.args.tree.now in
    let now = c.loop-i.stages.items in
    c.loop-i.invariant.2 now (subst (AddsPairs path cell site c.loop-i.i now now) (sym (drop_all c.loop-i.i c.args.children.now (omega arith))) refl)

pub returns-clause-last : goal.returns-clause-last
returns-clause-last c = c.loop-i.invariant.0
