use Rattle.std.proofs.Common.{◌≡◌, ◌++◌, List}
use Rattle.psg_recover.specs.declared.finding.Finding.{Finding}
use Rattle.psg_recover.specs.Spotted.{IsSpotsOf}
use Rattle.psg_recover.specs.TextPlaces.{Read}
use Rattle.psg_lint.specs.Judged.{def_of, fresh_of, tree_in}
use Rattle.psg_lint.proofs.TellLaws.{ToldTo}
use Rattle.psg_lint.proofs.blaming.tell_all.Given as goal

abbrev pub invariant-loop-number : goal.invariant-loop-number
invariant-loop-number g l = (r : Read) → IsSpotsOf l.wrong.judged.spots r → (told : List Finding)
    × (l.found.items ≡ l.fn.found.items ++ told)
    × ToldTo (def_of l.wrong) l.wrong.judged.text.now (tree_in l.wrong) r (fresh_of l.wrong) l.wrong.kept.now l.wrong.places.now l.number told
