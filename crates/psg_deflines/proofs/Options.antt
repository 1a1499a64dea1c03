-- What a match tells of an option whose case is known.
use Rattle.std.specs.Prelude.{Option, Some, None, MatchOption}

-- what follows from there being none
pub or-none : {X : Type 0} {N M : Type 0} (P : X → Type 0) (o : Option X) → (N → M) → MatchOption o N P → MatchOption o M P
or-none P None f h = f h
or-none P (Some x) f h = h
