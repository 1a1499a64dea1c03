use Rattle.std.proofs.Common.{map, length, ap, sym, ◌∙◌}
use Rattle.psg_class.specs.Checks.{has_none}
use Rattle.psg_class.proofs.BehindLaws.{holes_are}
use Rattle.psg_class.proofs.behind.hole_flags.Goals as goal

pub returns : goal.returns
returns c = holes_are c.args.definition.now c.in_ok-found.found.items c.in_ok-flags.flags.items (ap length (sym c.as_slice.ensures.value) ∙ c.as_slice.ensures.len ∙ c.in_ok-found.ensures.one_each) c.in_ok-found.ensures.exact c.in_ok-found.ensures.search (c.in_ok-flags.ensures ∙ ap (map has_none) c.as_slice.ensures.value)
