use Rattle.std.proofs.Common.{◌≡◌, ◌<◌, ◌∷◌, ◌++◌, [], ℕ, length, slice_index_or}
use Rattle.std.proofs.lemmas.List.Elements.{All-get_or}
use Rattle.std.proofs.lemmas.List.{get_or_default}
use Rattle.psg_terms.proofs.Lists.{slice_get_item}
use Rattle.psg_relation.proofs.Columns.{picked-more}
use Rattle.psg_relation.proofs.projection.kept_columns.Goals as goal

pub loop-i-preserved : goal.loop-i-preserved
loop-i-preserved c =
    let row = c.args.row.now in
    let keep = c.args.keep.now in
    let i = c.loop-i.i in
    let k : ℕ = slice_index_or keep i 0 in
    let within = All-get_or (λ (m : ℕ). m < length row) keep i 0 c.loop-i-test.true c.requires in
    let e : c.push.new.self.items ≡ c.loop-i.terms.items ++ c.index-row-place.result ∷ [] = cc (c.in_ok-push.ensures.items, c.in_ok-share.ensures) in
    picked-more row keep i k c.index-row-place.result c.loop-i.terms.items c.push.new.self.items c.loop-i-test.true (get_or_default keep i 0 k c.loop-i-test.true)
    (slice_get_item row k c.index-row-place.result within c.index-row-place.is) c.loop-i.invariant e
