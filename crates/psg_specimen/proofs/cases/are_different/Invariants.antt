use Rattle.std.proofs.Common.{◌-◌, length, drop}
use Rattle.psg_terms.specs.Kept.{numbers_of}
use Rattle.psg_completions.specs.Cases.{AreDifferent}
use Rattle.psg_specimen.specs.Variables.{AreMet, has_key}
use Rattle.psg_specimen.proofs.cases.are_different.Given as goal

abbrev pub invariant-loop-done : goal.invariant-loop-done
invariant-loop-done l =
    AreMet (has_key l.met) (drop (length l.terms - l.done) l.terms)
    × AreDifferent l.sig (drop (length l.terms - l.done) l.terms) (drop (length l.terms - l.done) (numbers_of l.sorts))
