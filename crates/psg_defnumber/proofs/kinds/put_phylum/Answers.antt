use Rattle.std.proofs.Common.{refl}
use Rattle.psg_deflines.specs.declared.lines.Line.TheVariants as lines
use Rattle.psg_defnumber.proofs.NamedLaws.{known-line, sort-is}
use Rattle.psg_defnumber.proofs.LineLaws.{phylum-put}
use Rattle.psg_defnumber.proofs.kinds.put_phylum.Goals as goal

pub sort_named-sort-requires : goal.sort_named-sort-requires
sort_named-sort-requires c = known-line c.args.checked.now c.args.entry.now c.in-Some.line (lines.Phylum c.in-Phylum.name c.in-Phylum.sort c.in-Phylum.bracketed) c.requires c.in-Some.is c.in-Phylum.is

pub returns : goal.returns
returns c = λ def rest h.
    phylum-put def c.args.entry.now c.in-Some.line c.in-Phylum.name c.in-Phylum.sort c.in-Phylum.bracketed rest c.args.made.now.items c.push.new.self.items _ c.in-Some.is c.in-Phylum.is c.in_ok-push.ensures.items c.in_ok-name.ensures
    (sort-is c.args.checked.now c.sort_named-sort.result.0 c.in-Phylum.sort c.sort_named-sort.ensures def h) refl
