use Rattle.std.proofs.Common.{◌≡◌, ◌+◌, ◌-◌, ◌∷◌, ◌++◌, [], length, slice_index_or, refl, sym, ◌∙◌, ap, ap₂, arith}
use Rattle.std.proofs.lemmas.List.{length-map}
use Rattle.psg_scope.specs.Headers.{keys, key_of}
use Rattle.psg_eval.specs.Walks.{run}
use Rattle.psg_eval.proofs.Layouts.{layout_of}
use Rattle.psg_eval.proofs.Walking.{run-length, run_below}
use Rattle.psg_eval.proofs.WalkSteps.{places_many}
use Rattle.psg_eval.proofs.partial.child_layout.Goals as goal

pub key_columns-requires-clause-lefts : goal.key_columns-requires-clause-lefts
key_columns-requires-clause-lefts c =
    let names = c.args.before.now.header.names in
    let h = places_many (keys c.args.joined.now.header.names) c.args.joined.now.left (keys names) c.requires.left in
    ap length (c.as_slice.ensures.value ∙ c.in_ok-left.ensures) ∙ run-length _ _ ∙ ap length c.as_slice-lefts.ensures ∙ sym (length-map names key_of) ∙ sym h

pub key_columns-requires-clause-rights : goal.key_columns-requires-clause-rights
key_columns-requires-clause-rights c =
    let names = c.args.child.now.header.names in
    let h = places_many (keys c.args.joined.now.header.names) c.args.joined.now.right (keys names) c.requires.right in
    ap length (c.as_slice-2.ensures.value ∙ c.in_ok-right.ensures) ∙ run-length _ _ ∙ ap length c.as_slice-rights.ensures ∙ sym (length-map names key_of) ∙ sym h

pub key_columns-requires-clause-room : goal.key_columns-requires-clause-room
key_columns-requires-clause-room c = λ k d l.
    let n = length c.as_slice-rights.result.now in
    let from = 1 + c.args.child.now.seen in
    let e : c.as_slice-2.result.now ≡ run from n = c.as_slice-2.ensures.value ∙ c.in_ok-right.ensures in
    let below = run_below from n (from + n) (omega arith) k d (omega (arith, ap length e)) in
    let value = ap (λ xs. slice_index_or xs k d) e in
    omega arith

pub returns : goal.returns
returns c =
    let before = c.args.before.now in
    let child = c.args.child.now in
    let K = keys before.header.names in
    let L = keys child.header.names in
    let s = before.seen in
    let m = child.seen in
    let a = length c.as_slice-lefts.result.now in
    let b = length c.as_slice-rights.result.now in
    let P = c.in_ok-placed.placed in
    let none = c.in_ok-keep.ensures.items in
    let one = c.in_ok-push_run.ensures ∙ ap (λ x. x ++ run 0 (1 + s)) none in
    let two = c.in_ok-push_run-2.ensures ∙ ap (λ x. x ++ run (1 + s + before.wanted + a + 1) m) one in
    let three = c.in_ok-push_run-3.ensures ∙ ap (λ x. x ++ run (1 + s + 1) (before.wanted - 1)) two in
    let keep : c.extend_from_slice.new.self.items ≡ run 0 (1 + s) ++ run (1 + s + before.wanted + a + 1) m ++ run (1 + s + 1) (before.wanted - 1) ++ P.columns.items =
    c.in_ok-extend_from_slice.ensures.items ∙ ap₂ (λ x y. x ++ y) three c.as_slice-columns.ensures.value in
    let pairs : c.extend_from_slice-2.new.self.items ≡ (1 + s, 0) ∷ P.pairs.items =
    c.in_ok-extend_from_slice-2.ensures.items ∙ ap₂ (λ x y. x ++ y) (c.in_ok-push.ensures.items ∙ ap (λ x. x ++ (1 + s, 0) ∷ []) c.in_ok-pairs.ensures.items) c.as_slice-shared.ensures.value in
    layout_of before.seen before.wanted child.seen K L (keys c.args.joined.now.header.names) s m a b c.as_slice.result.now c.as_slice-2.result.now
    c.extend_from_slice.new.self.items c.in_ok-placed.placed.pairs.items c.extend_from_slice-2.new.self.items c.in_ok-placed.placed.columns.items
    refl refl (ap length c.as_slice-lefts.ensures ∙ sym (length-map before.header.names key_of))
    (ap length c.as_slice-rights.ensures ∙ sym (length-map child.header.names key_of))
    (c.as_slice.ensures.value ∙ c.in_ok-left.ensures) (c.as_slice-2.ensures.value ∙ c.in_ok-right.ensures) (c.in_ok-placed.ensures K L c.requires.left c.requires.right) pairs keep
