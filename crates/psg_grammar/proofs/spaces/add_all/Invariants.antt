use Rattle.psg_grammar.specs.DeclaringTables.{spaces_at}
use Rattle.psg_grammar.proofs.TableLaws.{AddsUpTo}
use Rattle.psg_grammar.proofs.spaces.add_all.Given as goal

abbrev pub invariant-loop-place : goal.invariant-loop-place
invariant-loop-place l = AddsUpTo l.initial.found.items l.phylum (spaces_at l.initial.found.items l.from) l.place l.found.items l.changed
