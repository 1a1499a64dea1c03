use Rattle.std.proofs.Common.{◌≡◌, ◌++◌, take}
use Rattle.psg_terms.specs.Declarations.{with_sort}
use Rattle.psg_terms.specs.Numbered.{places}
use Rattle.psg_terms.proofs.declare.place_all.Given as goal

abbrev pub invariant-loop-decl : goal.invariant-loop-decl
invariant-loop-decl l = places l.placed.items ≡ places l.initial.placed.items ++ with_sort l.sort.0 (take l.decl-index l.decls)
