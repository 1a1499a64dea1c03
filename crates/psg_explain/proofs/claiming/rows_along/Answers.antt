use Rattle.std.proofs.Common.{None, ◌<◌, List, ap, length, length-append, sym, subst, ◌∙◌, arith}
use Rattle.psg_cache.specs.Annotated.{tree_in}
use Rattle.psg_explain.specs.Relations.{HasRows}
use Rattle.psg_explain.proofs.PlanLaws.{Rows}
use Rattle.psg_explain.proofs.Turns.{IsWay, is_ended, not_ended, stage_there, turn_on, turn_over, turn_some, turn_spent, turn_step, way_end, way_spent, way_start}
use Rattle.psg_explain.proofs.claiming.rows_along.Goals as goal

pub nodes-init : goal.nodes-init
nodes-init g c = λ path node rel.
    subst (λ (l : List Rows). IsWay c.args.language.now.definition (tree_in c.args.note.now) path node l None c.args.steps.now c.args.steps.now) (sym c.new-made.ensures.items)
    (way_start c.args.language.now.definition (tree_in c.args.note.now) path node c.args.stages.now rel c.args.steps.now)

pub rows_at-requires-clause-step : goal.rows_at-requires-clause-step
rows_at-requires-clause-step g c =
    let (path, node, rel) = c.requires.related in
    let def = c.args.language.now.definition in
    let root = tree_in c.args.note.now in
    let way = c.nodes.invariant path node rel in
    let lt : length c.nodes.made.items < length c.args.stages.now = omega (arith, c.nodes.made.ok.0, c.nodes-test.true) in
    let at = stage_there c.args.stages.now c.nodes.made.items c.len-place.result c.index-stages-place.result lt (c.len-place.ensures ∙ c.nodes.made.ok.0) c.index-stages-place.is in
    turn_step def root path node c.nodes.made.items c.nodes.rest c.args.steps.now c.nodes.steps way c.args.stages.now rel lt c.index-stages-place.result at

pub nodes-preserved : goal.nodes-preserved
nodes-preserved g c = λ path node rel.
    let def = c.args.language.now.definition in
    let root = tree_in c.args.note.now in
    let way = c.nodes.invariant path node rel in
    let lt : length c.nodes.made.items < length c.args.stages.now = omega (arith, c.nodes.made.ok.0, c.nodes-test.true) in
    let at = stage_there c.args.stages.now c.nodes.made.items c.len-place.result c.index-stages-place.result lt (c.len-place.ensures ∙ c.nodes.made.ok.0) c.index-stages-place.is in
    subst (λ (l : List Rows). IsWay def root path node l c.in_ok-own.own.rest c.args.steps.now c.rows_at.new.steps) (sym c.in_ok-all.ensures)
    (turn_on def root path node c.nodes.made.items c.nodes.rest c.args.steps.now c.nodes.steps way c.args.stages.now rel lt c.index-stages-place.result at c.in_ok-own.own.rows.items c.in_ok-own.ensures.rows
    c.in_ok-own.own.rest c.rows_at.new.steps c.in_ok-own.ensures.whole c.rows_at.ensures.ticks (not_ended c.is_over-over.result c.in_ok-own.own.rows.items c.as_slice.result.now c.as_slice.ensures.value c.is_over-over.ensures c.if-over.false))

pub nodes-smaller : goal.nodes-smaller
nodes-smaller g c =
    let (path, node, rel) = c.requires.related in
    let def = c.args.language.now.definition in
    let root = tree_in c.args.note.now in
    let way = c.nodes.invariant path node rel in
    let lt : length c.nodes.made.items < length c.args.stages.now = omega (arith, c.nodes.made.ok.0, c.nodes-test.true) in
    let at = stage_there c.args.stages.now c.nodes.made.items c.len-place.result c.index-stages-place.result lt (c.len-place.ensures ∙ c.nodes.made.ok.0) c.index-stages-place.is in
    let some = turn_some def root path node c.nodes.made.items c.nodes.rest c.args.steps.now c.nodes.steps way c.args.stages.now rel lt c.index-stages-place.result at c.in_ok-own.own.rows.items c.in_ok-own.ensures.rows in
    let longer = ap length c.in_ok-all.ensures ∙ length-append c.nodes.made.items c.in_ok-own.own.rows.items in
    omega (arith, lt, some, longer)

pub returns-in_err-own-clause-ticks : goal.returns-in_err-own-clause-ticks
returns-in_err-own-clause-ticks g c = λ path node rel.
    let lt : length c.nodes.made.items < length c.args.stages.now = omega (arith, c.nodes.made.ok.0, c.nodes-test.true) in
    turn_spent c.args.language.now.definition (tree_in c.args.note.now) path node c.nodes.made.items c.nodes.rest c.args.steps.now c.nodes.steps (c.nodes.invariant path node rel) c.args.stages.now rel lt c.rows_at.new.steps c.rows_at.ensures.ticks

pub returns-in_err-all-clause-ticks : goal.returns-in_err-all-clause-ticks
returns-in_err-all-clause-ticks g c = λ path node rel.
    let lt : length c.nodes.made.items < length c.args.stages.now = omega (arith, c.nodes.made.ok.0, c.nodes-test.true) in
    turn_spent c.args.language.now.definition (tree_in c.args.note.now) path node c.nodes.made.items c.nodes.rest c.args.steps.now c.nodes.steps (c.nodes.invariant path node rel) c.args.stages.now rel lt c.rows_at.new.steps c.rows_at.ensures.ticks

pub returns-then-over-clause-rows : goal.returns-then-over-clause-rows
returns-then-over-clause-rows g c = λ path node rel.
    let def = c.args.language.now.definition in
    let root = tree_in c.args.note.now in
    let way = c.nodes.invariant path node rel in
    let lt : length c.nodes.made.items < length c.args.stages.now = omega (arith, c.nodes.made.ok.0, c.nodes-test.true) in
    let at = stage_there c.args.stages.now c.nodes.made.items c.len-place.result c.index-stages-place.result lt (c.len-place.ensures ∙ c.nodes.made.ok.0) c.index-stages-place.is in
    subst (HasRows def path node) (sym c.in_ok-all.ensures)
    (turn_over def root path node c.nodes.made.items c.nodes.rest c.args.steps.now c.nodes.steps way c.args.stages.now rel lt c.index-stages-place.result at c.in_ok-own.own.rows.items c.in_ok-own.ensures.rows
    (is_ended c.is_over-over.result c.in_ok-own.own.rows.items c.as_slice.result.now c.as_slice.ensures.value c.is_over-over.ensures c.if-over.true))

pub returns-then-over-clause-ticks : goal.returns-then-over-clause-ticks
returns-then-over-clause-ticks g c = λ path node rel.
    let lt : length c.nodes.made.items < length c.args.stages.now = omega (arith, c.nodes.made.ok.0, c.nodes-test.true) in
    turn_spent c.args.language.now.definition (tree_in c.args.note.now) path node c.nodes.made.items c.nodes.rest c.args.steps.now c.nodes.steps (c.nodes.invariant path node rel) c.args.stages.now rel lt c.rows_at.new.steps c.rows_at.ensures.ticks

pub returns-clause-rows : goal.returns-clause-rows
returns-clause-rows g c = λ path node rel.
    way_end c.args.language.now.definition (tree_in c.args.note.now) path node c.nodes.made.items c.nodes.rest c.args.steps.now c.nodes.steps (c.nodes.invariant path node rel) c.args.stages.now rel
    (omega (arith, c.nodes.made.ok.0, c.nodes-test.false))

pub returns-clause-ticks : goal.returns-clause-ticks
returns-clause-ticks g c = λ path node rel.
    way_spent c.args.language.now.definition (tree_in c.args.note.now) path node c.nodes.made.items c.nodes.rest c.args.steps.now c.nodes.steps (c.nodes.invariant path node rel) c.args.stages.now rel
