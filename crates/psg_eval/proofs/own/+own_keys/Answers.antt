use Rattle.std.proofs.Common.{◌++◌, length, sym, ◌∙◌, ap, ap₂, subst, arith}
use Rattle.std.proofs.lemmas.List.{length-map}
use Rattle.psg_scope.specs.Headers.{keys, key_of}
use Rattle.psg_scope.proofs.HeaderLaws.{of_halves}
use Rattle.psg_eval.specs.Walks.{IsWalk}
use Rattle.psg_eval.proofs.Halves.{own_few, own_halves, own_many}
use Rattle.psg_eval.proofs.PlaceLists.{all_places}
use Rattle.psg_eval.proofs.WalkSteps.{places_many}
use Rattle.psg_eval.proofs.own.+own_keys.Goals as goal

pub returns-then-positions-le1-clause-columns : goal.returns-then-positions-le1-clause-columns
returns-then-positions-le1-clause-columns t c =
    let ps = c.args.positions.now in
    own_few (keys ps) c.args.columns.now (keys c.in_ok-header_of.field-0.names) c.in_ok-from_slice.field-0.items c.new.result.items
    (c.requires ∙ sym (length-map ps key_of)) (omega (arith, length-map ps key_of, c.if-positions-le1.true)) c.in_ok-header_of.ensures.header.keys_are c.in_ok-from_slice.ensures.items c.new.ensures.items

pub key_columns-requires-clause-lefts : goal.key_columns-requires-clause-lefts
key_columns-requires-clause-lefts t c =
    let left = c.in_ok-left.left in
    ap length c.as_slice-lefts.ensures.value ∙ own_many c.in_ok-left.ensures.columns
    ∙ sym (places_many (keys c.in_ok-joined.joined.header.names) c.in_ok-joined.joined.left (keys left.header.names) c.in_ok-joined.ensures.left)

pub key_columns-requires-clause-rights : goal.key_columns-requires-clause-rights
key_columns-requires-clause-rights t c =
    let right = c.in_ok-right.right in
    ap length c.as_slice-rights.ensures.value ∙ own_many c.in_ok-right.ensures.columns
    ∙ sym (places_many (keys c.in_ok-joined.joined.header.names) c.in_ok-joined.joined.right (keys right.header.names) c.in_ok-joined.ensures.right)

pub key_columns-requires-clause-all : goal.key_columns-requires-clause-all
key_columns-requires-clause-all t c =
    let joined = c.in_ok-joined.joined in
    let made = c.in_ok-joined.ensures in
    all_places c.in_ok-left.left.header c.in_ok-right.right.header joined.header joined.left joined.right made.ordered made.union made.left made.right
    c.in_ok-left.ensures.ordered c.in_ok-right.ensures.ordered

pub returns-clause-header : goal.returns-clause-header
returns-clause-header t c = of_halves _ _ _ _ c.split_at.ensures.by_index.0 (c.in_ok-joined.ensures.region _ _ _ _ _ _ c.in_ok-left.ensures.header c.in_ok-right.ensures.header)

pub returns-clause-columns : goal.returns-clause-columns
returns-clause-columns t c =
    let left = c.in_ok-left.left in
    let right = c.in_ok-right.right in
    let joined = c.in_ok-joined.joined in
    let placed = c.in_ok-placed.placed in
    let K = keys left.header.names in
    let L = keys right.header.names in
    let M = keys joined.header.names in
    let walk = c.in_ok-placed.ensures K L c.in_ok-joined.ensures.left c.in_ok-joined.ensures.right in
    let pairs = c.in_ok-extend_from_slice-2.ensures.items
    ∙ ap₂ (λ x y. x ++ y) (c.in_ok-extend_from_slice.ensures.items ∙ ap (λ x. left.pairs.items ++ x) c.as_slice.ensures.value) c.as_slice-2.ensures.value in
    own_halves c.args.positions.now c.split_at.result.0.now c.split_at.result.1.now c.args.columns.now c.split_at-2.result.0.now c.split_at-2.result.1.now left.columns.items right.columns.items placed.columns.items
    K L M c.extend_from_slice-2.new.self.items left.pairs.items right.pairs.items placed.pairs.items c.split_at.ensures.by_index.0 c.split_at-2.ensures.by_index.0 pairs
    c.in_ok-left.ensures.columns c.in_ok-right.ensures.columns
    (subst (λ xs. IsWalk 0 xs right.columns.items K L M placed.pairs.items placed.columns.items) c.as_slice-lefts.ensures.value
    (subst (λ ys. IsWalk 0 c.as_slice-lefts.result.now ys K L M placed.pairs.items placed.columns.items) c.as_slice-rights.ensures.value walk))
