use Rattle.std.proofs.Common.{◌≡◌, None, sym}
use Rattle.psg_keys.specs.Sizes.{first_size}
use Rattle.psg_keys.proofs.ByteLaws.{reading_start, reading_step, reading_ends}
use Rattle.psg_keys.proofs.reader.find_keys.Goals as goal

pub keys-init : goal.keys-init
keys-init c = reading_start c.args.pasting c.args.late c.args.text.now c.new-strokes.result.items c.new-strokes.ensures.items

pub keys-preserved : goal.keys-preserved
keys-preserved c =
    reading_step c.args.pasting c.args.late c.args.text.now c.keys.strokes.items c.keys.now c.keys.still c.keys.rest.now
    c.keys.invariant c.in-Some.size (sym c.in-Some.ensures.size) c.split_at.result.0.now c.split_at.result.1.now
    c.split_at.ensures.by_index.0 c.split_at.ensures.front_len c.key_of-key.result c.key_of-key.ensures
    c.in_ok-next.next c.in_ok-next.ensures.key c.in_ok-next.ensures.bytes c.push.new.self.items c.in_ok-push.ensures.items
    c.goes_on-now.result c.goes_on-now.ensures

pub returns : goal.returns
returns c =
    let none : first_size c.keys.now c.keys.rest.now ≡ None = cc c.in_default.ensures.size in
    reading_ends c.args.pasting c.args.late c.args.text.now c.keys.strokes.items c.keys.now c.keys.still c.keys.rest.now
    c.in_ok-kept.kept.items c.keys.invariant none c.in_ok-kept.ensures.items
