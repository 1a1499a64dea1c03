use Rattle.std.proofs.Common.{rules, ◌≡◌, length, append-nil, ap, sym}
use Rattle.psg_class.specs.Terminals.{a_hole}
use Rattle.psg_stop.specs.Wanted.{hole_terminal, wanted_terminals}
use Rattle.psg_stop.specs.declared.wanted.Wanted.TheVariants as wants
use Rattle.psg_stop.proofs.Rows.{added_next, added_whole}
use Rattle.psg_program.proofs.expected.add_holes.Goals as goal

pub loop-phylum-init : goal.loop-phylum-init
loop-phylum-init c = sym (append-nil (wanted_terminals c.args.all.now.items))

pub loop-phylum-preserved : goal.loop-phylum-preserved
loop-phylum-preserved c =
    added_next hole_terminal (wanted_terminals c.args.all.now.items) c.args.phyla.now c.loop-phylum.all.items c.push.new.self.items c.loop-phylum.phylum-index c.phylum-item.result (wants.Hole c.in_ok-name.name)
    c.loop-phylum-test.true c.phylum-item.is c.loop-phylum.invariant c.in_ok-push.ensures.items (ap a_hole c.in_ok-name.ensures)

pub returns : goal.returns
returns c =
    let end : c.loop-phylum.phylum-index ≡ length c.args.phyla.now = search rules in
    added_whole hole_terminal (wanted_terminals c.args.all.now.items) c.args.phyla.now c.loop-phylum.all.items c.loop-phylum.phylum-index end c.loop-phylum.invariant
