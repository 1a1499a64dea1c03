use Rattle.std.proofs.Common.{◌≡◌, List, map, take}
use Rattle.psg_terms.specs.Instances.{Substitution, substitute}
use Rattle.psg_terms.specs.Canonical.{IsNumberedFrom, Variable, noted_all, variables_of}
use Rattle.psg_terms.specs.Sizes.{size, sizes}
use Rattle.psg_explain.specs.Fitted.{IsValued}
use Rattle.psg_explain.proofs.fitting.+fits.Given as goal

abbrev pub decreases-fit : goal.decreases-fit
decreases-fit l = size l.general.now

abbrev pub decreases-fit_all : goal.decreases-fit_all
decreases-fit_all l = sizes l.general.now

abbrev pub invariant-fit_all-loop-i : goal.invariant-fit_all-loop-i
invariant-fit_all-loop-i l =
    (f : Substitution) (known : List Variable) → IsValued f known l.fn.values.items → IsNumberedFrom 1 (noted_all known (variables_of l.general)) → l.special ≡ map (substitute f) l.general
    → IsValued f (noted_all known (variables_of (take l.i l.general))) l.values.items
