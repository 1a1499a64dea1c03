use Rattle.psg_deflines.specs.declared.lines.Line.TheVariants as lines
use Rattle.psg_defnumber.proofs.NamedLaws.{known-line, sort-is}
use Rattle.psg_defnumber.proofs.LineLaws.{space-put}
use Rattle.psg_defnumber.proofs.kinds.put_space.Goals as goal

pub sort_named-sort-requires : goal.sort_named-sort-requires
sort_named-sort-requires c = known-line c.args.checked.now c.args.entry.now c.in-Some.line (lines.Space c.in-Space.name c.in-Space.sort) c.requires c.in-Some.is c.in-Space.is

pub returns : goal.returns
returns c = λ def rest h.
    space-put def c.args.entry.now c.in-Some.line c.in-Space.name c.in-Space.sort rest c.args.made.now.items c.push.new.self.items _ c.in-Some.is c.in-Space.is c.in_ok-push.ensures.items c.in_ok-name.ensures (sort-is c.args.checked.now c.sort_named-sort.result.0 c.in-Space.sort c.sort_named-sort.ensures def h)
