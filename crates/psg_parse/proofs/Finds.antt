-- Operators by their numbers.
use Rattle.std.proofs.Common.{◌≡◌, ℕ, ◌<◌, List, Some, slice_get, length, get_or, sym, ap, ◌∙◌, subst}
use Rattle.std.proofs.lemmas.Option.{slice_get_within, get_or_from_slice_get}
use Rattle.psg_grammar.specs.declared.types.Operator.{Operator}

pub operator_here : (all ops : List Operator) → ops ≡ all → (n : ℕ) (o q : Operator) → q ≡ get_or ops n q → slice_get all n ≡ Some o → o ≡ q
operator_here all ops e n o q h found = sym (get_or_from_slice_get all n o q found) ∙ ap (λ x. get_or x n q) (sym e) ∙ sym h

pub within : (all ops : List Operator) → ops ≡ all → (n : ℕ) (o : Operator) → slice_get all n ≡ Some o → n < length ops
within all ops e n o found = subst (λ x. n < length x) (sym e) (slice_get_within all n o found)
