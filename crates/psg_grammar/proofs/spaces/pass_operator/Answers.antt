use Rattle.std.proofs.Common.{◌≡◌, ◌<◌, ◌≤◌, length, get_or, subst}
use Rattle.psg_grammar.specs.DeclaringTables.{Adds, HasSpace, IsClosedFor}
use Rattle.psg_grammar.proofs.TableLaws.{Joins, joins_then, joins_else, grows_then}
use Rattle.psg_grammar.proofs.PassLaws.{table_after, closed_more, closed_all}
use Rattle.psg_grammar.proofs.spaces.pass_operator.Goals as goal
use Rattle.psg_grammar.proofs.spaces.pass_operator.Goals.{then-branch, else-branch}

-- how the changes of the items so far and of this one come together
joins : (c : goal.Joined-branch) → Joins c.loop-item.changed c.in_ok-add_item.field-0 c.if-branch.changed
joins c = elim c.if-branch.branch [
  | then-branch w ↦ joins_then c.loop-item.changed c.in_ok-add_item.field-0 c.if-branch.changed w.if-branch.true w.changed-is
  | else-branch w ↦ joins_else c.loop-item.changed c.in_ok-add_item.field-0 c.if-branch.changed w.if-branch.false w.changed-is
]

pub loop-item-preserved : goal.loop-item-preserved
loop-item-preserved c =
    let def = c.args.definition.now in
    let op = c.args.operator.now in
    let t = c.loop-item.found.items in
    let u = c.add_item.new.found.items in
    let i = c.loop-item.item-index in
    let item = c.item-item.result in
    let b = c.in_ok-add_item.field-0 in
    let at : item ≡ get_or op.items i item = subst (λ xs. item ≡ get_or xs i item) c.as_slice-item-items.ensures c.item-item.is in
    let lt : i < length op.items = subst (λ xs. i < length xs) c.as_slice-item-items.ensures c.loop-item-test.true in
    let f : Adds t op.phylum (HasSpace def t item) u b = c.in_ok-add_item.ensures in
    let j = joins c in
    record {
      right = table_after def c.requires.sound op c.requires.part t u i item b c.if-operator.false lt at c.loop-item.invariant.right f;
      grows = grows_then c.args.found.now.items t u c.loop-item.changed b c.if-branch.changed c.loop-item.invariant.grows f.grows j;
      closed = λ e.
          let (before, now) = j.none e in
          closed_more def t u op.phylum i op.items item lt at (subst (λ k. Adds t op.phylum (HasSpace def t item) u k) now f) (c.loop-item.invariant.closed before);
    }

pub returns : goal.returns
returns c =
    let op = c.args.operator.now in
    let le : length op.items ≤ c.loop-item.item-index = subst (λ xs. length xs ≤ c.loop-item.item-index) c.as_slice-item-items.ensures c.loop-item-test.false in
    record {
      right = c.loop-item.invariant.right;
      grows = c.loop-item.invariant.grows;
      closed = λ e plain. closed_all (IsClosedFor c.args.definition.now c.loop-item.found.items op.phylum) op.items c.loop-item.item-index le (c.loop-item.invariant.closed e);
    }
