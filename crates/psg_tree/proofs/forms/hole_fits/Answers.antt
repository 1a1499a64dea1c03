use Rattle.std.proofs.Common.{◌<◌, length, ap, arith}
use Rattle.psg_tree.proofs.FormLaws.{hole_of}
use Rattle.psg_tree.proofs.forms.hole_fits.Goals as goal

pub returns : goal.returns
returns c =
    let n = ap length c.as_slice.ensures in
    let small : c.args.phylum < length c.args.definition.now.phyla = omega arith in
    hole_of c.args.definition.now c.requires c.args.phylum c.args.kind c.declares.result c.declares.ensures (c.is_phylum.ensures.0 c.if-not-is_phylum.false) small
