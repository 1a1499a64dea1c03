use Rattle.std.proofs.Common.{◌<◌, ℕ}
use Rattle.psg_class.specs.Forms.{LacksBracket}
use Rattle.psg_class.specs.Grids.{is_set}
use Rattle.psg_class.proofs.forms.lowest_bare.Given as goal

abbrev pub invariant-loop-phylum : goal.invariant-loop-phylum
invariant-loop-phylum l = (p : ℕ) → p < l.phylum → LacksBracket l.phyla (is_set l.bound) (is_set l.asked) p → ⊥
