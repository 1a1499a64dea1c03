use Rattle.std.proofs.Common.{◌≡◌, ◌++◌, drop, length, map}
use Rattle.psg_links.specs.Around.{IsOnWay}
use Rattle.psg_links.specs.Links.{link_of, links_of}
use Rattle.psg_links.specs.Names.{names_of}
use Rattle.psg_links.proofs.link.links_of.Given as goal

abbrev pub invariant-loop-named : goal.invariant-loop-named
invariant-loop-named l =
    IsOnWay l.definition l.tree l.regions.items
    × (l.found.items ++ map (link_of l.definition l.tree) (drop (length l.yielded) (names_of l.definition l.tree))
    ≡ links_of l.definition l.tree)
