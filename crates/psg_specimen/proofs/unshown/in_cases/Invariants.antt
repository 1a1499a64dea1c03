use Rattle.std.proofs.Common.{Some}
use Rattle.psg_specimen.specs.Shown.{IsUpTo}
use Rattle.psg_specimen.specs.declared.fault.Site.TheVariants as sites
use Rattle.psg_specimen.proofs.unshown.in_cases.Given as goal

abbrev pub invariant-loop-number : goal.invariant-loop-number
invariant-loop-number l = IsUpTo l.definition (Some (sites.Hole l.row l.number)) l.first
