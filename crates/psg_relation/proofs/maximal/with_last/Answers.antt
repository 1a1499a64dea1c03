use Rattle.std.proofs.Common.{◌≡◌, ◌∙◌, length, subst}
use Rattle.psg_relation.specs.Heads.{places_at, IsNoted}
use Rattle.psg_relation.proofs.Indexing.{indexed_push}
use Rattle.psg_relation.proofs.maximal.with_last.Goals as goal

pub returns-clause-indexed : goal.returns-clause-indexed
returns-clause-indexed c =
    let rows = c.args.kept.rows.items in
    let free = c.args.kept.heads.free.items in
    let at = places_at c.args.kept.heads.places in
    let more = c.note_row.new.heads.free.items in
    let after = places_at c.note_row.new.heads.places in
    let count : c.len-place.result ≡ length rows = c.len-place.ensures ∙ c.args.kept.rows.ok.0 in
    indexed_push rows c.args.row c.push.new.self.items c.args.column free more at after c.requires
    (subst (λ n. IsNoted c.args.row c.args.column n free at more after) count (subst (λ r. IsNoted r c.args.column c.len-place.result free at more after) c.terms.ensures c.in_ok-note_row.ensures))
    c.in_ok-push.ensures.items
