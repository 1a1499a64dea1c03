use Rattle.std.proofs.Common.{◌≤◌, ◌+◌, ◌∷◌, [], List, length, subst, sym, take, arith}
use Rattle.std.specs.List.{AllByRecursion}
use Rattle.psg_terms.proofs.Lists.{each_append}
use Rattle.psg_grammar.specs.Fragments.{Fragment, children_of}
use Rattle.psg_cache.specs.Annotated.{tree_in}
use Rattle.psg_eval.specs.Summaries.{AllSummaries, IsSummary}
use Rattle.psg_explain.proofs.PlanBlocks.{node_below}
use Rattle.psg_explain.proofs.RelatingLaws.{all_taken, some_there, summaries_more}
use Rattle.psg_explain.proofs.relating.summaries.Goals as goal

pub summary_at-requires : goal.summary_at-requires
summary_at-requires c =
    let (definition, of, node, there, many) = c.requires in
    let lt = c.loop-i-test.true in
    let (t, at) = some_there (children_of node) c.loop-i.i (omega (arith, lt, many)) in
    (definition, of, t, node_below c.loop-i.i t c.args.path.now (tree_in c.args.note.now) node there at)

pub loop-i-init : goal.loop-i-init
loop-i-init c = λ definition node note there many. (
  subst (AllSummaries definition (take 0 (children_of node))) (sym c.in_ok-found.ensures.items) tt,
  subst (AllByRecursion (IsSummary definition)) (sym c.in_ok-found.ensures.items) tt,
)

pub loop-i-preserved : goal.loop-i-preserved
loop-i-preserved c = λ definition node note there many.
    let lt = c.loop-i-test.true in
    let (t, at) = some_there (children_of node) c.loop-i.i (omega (arith, lt, many)) in
    let (are, each) = c.loop-i.invariant definition node note there many in
    let (of, is) = c.in_ok-one.ensures definition t note (node_below c.loop-i.i t c.args.path.now (tree_in c.args.note.now) node there at) in (
      subst (AllSummaries definition (take (c.loop-i.i + 1) (children_of node))) (sym c.in_ok-push.ensures.items) (summaries_more definition (children_of node) c.loop-i.i t c.in_ok-one.one c.loop-i.found.items at are of),
      subst (AllByRecursion (IsSummary definition)) (sym c.in_ok-push.ensures.items) (each_append (IsSummary definition) c.loop-i.found.items (c.in_ok-one.one ∷ []) each (is, tt)),
    )

pub returns : goal.returns
returns c = λ definition node note there many.
    let (are, each) = c.loop-i.invariant definition node note there many in
    let whole : length (children_of node) ≤ c.loop-i.i = omega (arith, many) in
    (subst (λ (l : List Fragment). AllSummaries definition l c.loop-i.found.items) (all_taken (children_of node) c.loop-i.i whole) are, each)
