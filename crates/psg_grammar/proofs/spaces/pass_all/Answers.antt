use Rattle.std.proofs.Common.{◌≡◌, ◌<◌, ◌≤◌, length, get_or, subst}
use Rattle.psg_grammar.specs.DeclaringTables.{IsClosedOperator, PassesOperator}
use Rattle.psg_grammar.proofs.TableLaws.{Joins, joins_then, joins_else, grows_then}
use Rattle.psg_grammar.proofs.PassLaws.{operators_more, closed_all}
use Rattle.psg_grammar.proofs.spaces.pass_all.Goals as goal
use Rattle.psg_grammar.proofs.spaces.pass_all.Goals.{then-branch, else-branch}

-- how the changes of the operators so far and of this one come together
joins : (c : goal.Joined-branch) → Joins c.loop-operator.changed c.in_ok-pass_operator.field-0 c.if-branch.changed
joins c = elim c.if-branch.branch [
  | then-branch w ↦ joins_then c.loop-operator.changed c.in_ok-pass_operator.field-0 c.if-branch.changed w.if-branch.true w.changed-is
  | else-branch w ↦ joins_else c.loop-operator.changed c.in_ok-pass_operator.field-0 c.if-branch.changed w.if-branch.false w.changed-is
]

pub loop-operator-preserved : goal.loop-operator-preserved
loop-operator-preserved c =
    let def = c.args.definition.now in
    let op = c.operator-item.result in
    let t = c.loop-operator.found.items in
    let u = c.pass_operator.new.found.items in
    let i = c.loop-operator.operator-index in
    let b = c.in_ok-pass_operator.field-0 in
    let at : op ≡ get_or def.operators i op = subst (λ xs. op ≡ get_or xs i op) c.as_slice-operator-items.ensures c.operator-item.is in
    let lt : i < length def.operators = subst (λ xs. i < length xs) c.as_slice-operator-items.ensures c.loop-operator-test.true in
    let f : PassesOperator def op t u b = c.in_ok-pass_operator.ensures in
    let j = joins c in
    record {
      right = f.right;
      grows = grows_then c.args.found.now.items t u c.loop-operator.changed b c.if-branch.changed c.loop-operator.invariant.grows f.grows j;
      closed = λ e.
          let (before, now) = j.none e in
          operators_more def t u i def.operators op lt at (f.grows.same now) (f.closed now) (c.loop-operator.invariant.closed before);
    }

pub returns : goal.returns
returns c =
    let def = c.args.definition.now in
    let le : length def.operators ≤ c.loop-operator.operator-index = subst (λ xs. length xs ≤ c.loop-operator.operator-index) c.as_slice-operator-items.ensures c.loop-operator-test.false in
    record {
      right = c.loop-operator.invariant.right;
      grows = c.loop-operator.invariant.grows;
      closed = λ e. closed_all (IsClosedOperator def c.loop-operator.found.items) def.operators c.loop-operator.operator-index le (c.loop-operator.invariant.closed e);
    }
