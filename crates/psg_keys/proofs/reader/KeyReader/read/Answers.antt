use Rattle.std.proofs.Common.{◌≡◌, ap, subst, ◌∙◌, ◌++◌, List, ℕ}
use Rattle.psg_keys.specs.Reading.{Waiting, HasRead, unread}
use Rattle.psg_keys.proofs.ByteLaws.{IsWaiting, read_bytes, read_waits}
use Rattle.psg_keys.proofs.reader.KeyReader.read.Goals as goal

pub invariant_of-self : goal.invariant_of-self
invariant_of-self c =
    let before : Waiting = record { pasting = c.self.inside.pasting; late = c.self.inside.late; bytes = c.self.inside.kept.items } in
    let after : Waiting = record { pasting = c.in_ok-next.next.pasting; late = c.in_ok-next.next.late; bytes = c.in_ok-next.next.kept.items } in
    let P : List ℕ → Type 0 = λ bytes. HasRead (record before { bytes = bytes }) c.args.piece.now c.in_ok-next.next.strokes.items after in
    let has : HasRead before c.args.piece.now c.in_ok-next.next.strokes.items after = subst P c.as_slice.ensures.value c.in_ok-next.ensures in
    let waiting : IsWaiting before = record { begins = c.self.invariant } in
    (read_waits before c.args.piece.now c.in_ok-next.next.strokes.items after waiting has).begins

pub returns-clause-bytes : goal.returns-clause-bytes
returns-clause-bytes c =
    let before : Waiting = record { pasting = c.self.inside.pasting; late = c.self.inside.late; bytes = c.self.inside.kept.items } in
    let after : Waiting = record { pasting = c.in_ok-next.next.pasting; late = c.in_ok-next.next.late; bytes = c.in_ok-next.next.kept.items } in
    let P : List ℕ → Type 0 = λ bytes. HasRead (record before { bytes = bytes }) c.args.piece.now c.in_ok-next.next.strokes.items after in
    let has : HasRead before c.args.piece.now c.in_ok-next.next.strokes.items after = subst P c.as_slice.ensures.value c.in_ok-next.ensures in
    let waiting : IsWaiting before = record { begins = c.self.invariant } in
    let same : before ≡ c.args.self.now = c.self.view_is in
    read_bytes before c.args.piece.now c.in_ok-next.next.strokes.items after waiting has
    ∙ ap (λ w. unread w ++ c.args.piece.now) same
