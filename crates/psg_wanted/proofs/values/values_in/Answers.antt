use Rattle.psg_cache.specs.Annotated.{tree_in}
use Rattle.psg_wanted.proofs.ValueLaws.{frames_are, is_there, no_frames, own_climbs, own_shown, own_silent, own_usual, within_not}
use Rattle.psg_wanted.proofs.values.values_in.Goals as goal

pub unreachable-requires : goal.unreachable-requires
unreachable-requires g c =
    let (node, there) = c.requires.there in
    is_there c.args.definition.now c.args.note.now c.args.path.now node c.requires.note there c.in_default.ensures.none

pub unreachable-requires-in_default-framed : goal.unreachable-requires-in_default-framed
unreachable-requires-in_default-framed g c =
    let (node, there) = c.requires.there in
    is_there c.args.definition.now c.args.note.now c.args.path.now node c.requires.note there
    (no_frames c.args.note.now c.args.path.now c.in_ok-framed.framed c.in_default-framed.is c.in_ok-framed.ensures)

pub relation_at-answer-requires-clause-own : goal.relation_at-answer-requires-clause-own
relation_at-answer-requires-clause-own g c =
    let (node, there) = c.requires.there in
    own_usual c.args.definition.now c.args.note.now c.requires.note c.args.path.now node there c.in-Some.own.now c.in-Some.ensures.some

pub relation_at-answer-requires-clause-silent : goal.relation_at-answer-requires-clause-silent
relation_at-answer-requires-clause-silent g c =
    let (node, there) = c.requires.there in
    own_silent c.args.definition.now c.args.note.now c.requires.note c.args.path.now node there c.in-Some.own.now c.in-Some.ensures.some

pub relation_at-answer-requires-clause-frames : goal.relation_at-answer-requires-clause-frames
relation_at-answer-requires-clause-frames g c =
    let (node, there) = c.requires.there in
    own_climbs c.args.definition.now c.args.note.now c.requires.note c.args.path.now node there c.in-Some.own.now c.in-Some.ensures.some c.as_slice-around.result.now
    (frames_are c.args.note.now c.args.path.now c.in_ok-framed.framed c.in-Some-framed.frames c.as_slice-around.result.now c.in-Some-framed.is c.as_slice-around.ensures.value c.in_ok-framed.ensures)

pub returns-clause-values : goal.returns-clause-values
returns-clause-values g c =
    let def = c.args.definition.now in
    let (node, there) = c.requires.there in
    c.in_ok-told.ensures.values def (tree_in c.args.note.now) c.args.path.now (within_not def (tree_in c.args.note.now) c.args.note.now c.requires.note)
    (own_shown def c.args.note.now c.requires.note c.args.path.now node there c.in-Some.own.now c.in-Some.ensures.some c.as_slice-around.result.now
    (frames_are c.args.note.now c.args.path.now c.in_ok-framed.framed c.in-Some-framed.frames c.as_slice-around.result.now c.in-Some-framed.is c.as_slice-around.ensures.value c.in_ok-framed.ensures)
    c.relation_at-answer.result c.relation_at-answer.ensures.shown)

pub returns-clause-sorted : goal.returns-clause-sorted
returns-clause-sorted g c = c.in_ok-told.ensures.sorted c.args.definition.now.signature c.relation_at-answer.ensures.sorted
