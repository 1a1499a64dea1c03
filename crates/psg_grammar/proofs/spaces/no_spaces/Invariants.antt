use Rattle.std.proofs.Common.{◌≡◌, ℕ, [], vec_len}
use Rattle.psg_grammar.specs.DeclaringTables.{spaces_at}
use Rattle.psg_grammar.proofs.spaces.no_spaces.Given as goal

abbrev pub invariant-loop : goal.invariant-loop
invariant-loop l = (vec_len l.found ≡ l.counter) × ((p : ℕ) → spaces_at l.found.items p ≡ [])
