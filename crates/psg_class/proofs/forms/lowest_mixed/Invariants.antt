use Rattle.std.proofs.Common.{◌<◌, ℕ}
use Rattle.psg_class.specs.Forms.{MixesAny}
use Rattle.psg_class.specs.Grids.{is_set}
use Rattle.psg_class.proofs.forms.lowest_mixed.Given as goal

abbrev pub invariant-loop-phylum : goal.invariant-loop-phylum
invariant-loop-phylum l = (p : ℕ) → p < l.phylum → MixesAny (is_set l.uses) p → ⊥
