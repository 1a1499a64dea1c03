use Rattle.std.proofs.Common.{◌≡◌, Some, slice_get, sym, ap, ◌∙◌}
use Rattle.psg_terms.proofs.Lists.{got_some}
use Rattle.psg_class.specs.Terminals.{a_hole}
use Rattle.psg_parse.specs.Seen.{terminal_seen}
use Rattle.psg_parse.proofs.Holes.{hole_iff}
use Rattle.psg_parse.proofs.begins.opens_hole.Goals as goal

pub returns : goal.returns
returns c =
    let p = c.args.phylum in
    let is : terminal_seen c.args.seen ≡ a_hole c.in-Hole.name.now = ap terminal_seen c.in-Hole.is in
    let found : slice_get c.args.definition.now.phyla c.args.phylum ≡ Some c.in-Some.kind.now =
    ap (λ xs. slice_get xs c.args.phylum) (sym c.as_slice.ensures) ∙ got_some c.as_slice.result.now p c.get.result c.in-Some.kind c.get.ensures.lookup c.in-Some.is in
    let flag : slice_get c.args.lookup.now.holes.items c.args.phylum ≡ Some c.in-Some-get.holes.now =
    ap (λ xs. slice_get xs c.args.phylum) (sym c.as_slice-2.ensures.value) ∙ got_some c.as_slice-2.result.now p c.get-2.result c.in-Some-get.holes c.get-2.ensures.lookup c.in-Some-get.is in
    hole_iff c.args.definition.now p c.in-Hole.name.now (terminal_seen c.args.seen) c.in-Some.kind.now is found ((c.requires.holes p c.in-Some-get.holes.now flag).0 c.if-not-holes.false)
    c.eq.result c.as_str.result.now c.eq.ensures c.as_str.ensures
