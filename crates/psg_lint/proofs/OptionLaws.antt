-- What is known of an answer, by what was found.
use Rattle.std.proofs.Common.{◌≡◌, Option, Some, None, subst}
use Rattle.std.specs.Prelude.{MatchOption}

pub option_some : {X : Type 0} (N : Type 0) (P : X → Type 0) (o : Option X) (x : X) → o ≡ Some x → MatchOption o N P → P x
option_some N P o x e h = subst (λ w. MatchOption w N P) e h

pub option_none : {X : Type 0} (N : Type 0) (P : X → Type 0) (o : Option X) → o ≡ None → MatchOption o N P → N
option_none N P o e h = subst (λ w. MatchOption w N P) e h
