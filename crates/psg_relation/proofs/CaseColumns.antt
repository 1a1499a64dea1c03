-- Columns of rows, and rows that agree, in full.
use Rattle.std.proofs.Common.{◌≡◌, ℕ, List, [], ◌∷◌, codes, refl, ◌∙◌, ap, arith}
use Rattle.psg_terms.specs.Terms.{Term, variable, symbol}
use Rattle.psg_terms.specs.Signature.{Signature, Symbol}
use Rattle.psg_terms.specs.Instances.{Substitution, IsGrounding}
use Rattle.psg_terms.specs.Relations.{first, Pair, IsGlued}
use Rattle.psg_terms.specs.Text.{IsInTextOrder}
use Rattle.psg_relation.specs.Choices.{IsProjected, Agrees, picked}

-- the sort Type with the constants int and bool
abbrev constant : List ℕ → Symbol
constant name = record { name = name; arguments = []; sort = 0 }

abbrev language : Signature
language = record { sorts = codes "Type" ∷ []; symbols = constant (codes "int") ∷ constant (codes "bool") ∷ [] }

abbrev int : Term
int = symbol 0

abbrev bool : Term
bool = symbol 1

-- the columns stand in the order of their numbers, and may stand twice; what is not there is left out
columns : picked (int ∷ bool ∷ []) (1 ∷ 1 ∷ 0 ∷ []) ≡ bool ∷ bool ∷ int ∷ []
columns = refl

no_column : picked (int ∷ []) (3 ∷ 0 ∷ []) ≡ int ∷ []
no_column = refl

all_bool : Substitution
all_bool s n = bool

all_bool_grounds : IsGrounding language all_bool
unfolding all_bool
all_bool_grounds = record {
  variable_free = λ s n l. tt;
  sorted = λ s n l. (constant (codes "bool"), refl, refl, omega arith);
}

-- of the row  ?1 int  the columns 1 and 0 can be  int bool
projected : IsProjected language ((variable 0 1 ∷ int ∷ []) ∷ []) (1 ∷ 0 ∷ []) (variable 0 1 ∷ int ∷ []) (int ∷ bool ∷ [])
unfolding all_bool
projected = (first, (bool ∷ int ∷ [], (all_bool, all_bool_grounds, refl), refl))

-- and not  bool bool
not_projected : IsProjected language ((variable 0 1 ∷ int ∷ []) ∷ []) (1 ∷ 0 ∷ []) (variable 0 1 ∷ int ∷ []) (bool ∷ bool ∷ []) → ⊥
not_projected (h, (full, (f, g, e), d)) =
    let k : bool ∷ bool ∷ [] ≡ int ∷ f 0 1 ∷ [] = d ∙ ap (λ x. picked x (1 ∷ 0 ∷ [])) e in cc

-- int  and  bool int  agree where the left column 0 meets the right column 1; the columns 1 and 0 of both are  bool int
agreeing : Agrees ((0, 1) ∷ []) (1 ∷ 0 ∷ []) (int ∷ []) (bool ∷ int ∷ []) (bool ∷ int ∷ [])
agreeing = ((refl, tt), refl)

-- and they do not agree where it meets the right column 0, nor where it meets both
not_agreeing : Agrees ((0, 0) ∷ []) [] (int ∷ []) (bool ∷ int ∷ []) [] → ⊥
not_agreeing ((e, _), _) = cc

second_pair : Agrees ((0, 1) ∷ (0, 0) ∷ []) [] (int ∷ []) (bool ∷ int ∷ []) [] → ⊥
second_pair ((e, (d, _)), _) = cc

-- ?1  and  ?1 int  have variables of their own: where 0 meets 1, the left one is int and the right one anything
glued : (p : Pair language (Agrees ((0, 1) ∷ []) (0 ∷ 1 ∷ [])) ((variable 0 1 ∷ []) ∷ []) ((variable 0 1 ∷ int ∷ []) ∷ []))
    × IsGlued language (Agrees ((0, 1) ∷ []) (0 ∷ 1 ∷ [])) ((variable 0 1 ∷ []) ∷ []) ((variable 0 1 ∷ int ∷ []) ∷ []) p (int ∷ bool ∷ [])
unfolding all_bool
glued = (
  record { one = variable 0 1 ∷ []; from_left = first; two = variable 0 1 ∷ int ∷ []; from_right = first },
  record { p = int ∷ []; p_is = (λ s n. int, all_int, refl); q = bool ∷ int ∷ []; q_is = (all_bool, all_bool_grounds, refl); glue = ((refl, tt), refl) },
) where
  all_int : IsGrounding language (λ s n. int)
  all_int = record { variable_free = λ s n l. tt; sorted = λ s n l. (constant (codes "int"), refl, refl, omega arith) }

-- byte order: bool before int, and a row may stand twice
in_order : IsInTextOrder language ((bool ∷ []) ∷ (int ∷ []) ∷ (int ∷ []) ∷ [])
in_order = (refl, (refl, tt))

not_in_order : IsInTextOrder language ((int ∷ []) ∷ (bool ∷ []) ∷ []) → ⊥
not_in_order (e, _) = cc
