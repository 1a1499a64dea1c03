-- The test tells equality.
use Rattle.std.proofs.Common.{◌≡◌, inl, inr, ℕ, ◌&&◌, true, List, refl, sym, ◌∙◌, ap}
use Rattle.std.specs.Prelude.{◌==◌, bytes_eq}
use Rattle.std.specs.Bool.{beq}
use Rattle.psg_terms.proofs.DeclareLaws.{bytes_eq-refl}
use Rattle.std.proofs.lemmas.Bool.{and_from, eq-eqb}
use Rattle.psg_terms.proofs.Lists.{beq-refl}
use Rattle.psg_grammar.specs.Fragments.{Fragment, hole, ending, cell, operator, with_child, with_name, with_number, with_text, anything, observed}
use Rattle.psg_grammar.specs.Same.{same_tree}

pub same-refl : (f : Fragment) → same_tree f f ≡ true
same-refl (hole p) = eq-eqb p p refl
same-refl (ending l u) = and_from (l == l) (beq u u) (eq-eqb l l refl) (beq-refl u)
same-refl (cell l e r) = and_from (l == l) (same_tree e e && same_tree r r) (eq-eqb l l refl) (and_from (same_tree e e) (same_tree r r) (same-refl e) (same-refl r))
same-refl (operator o) = eq-eqb o o refl
same-refl (with_child f t) = and_from (same_tree f f) (same_tree t t) (same-refl f) (same-refl t)
same-refl (with_name f n) = and_from (same_tree f f) (bytes_eq n n) (same-refl f) (bytes_eq-refl n)
same-refl (with_number f n) = and_from (same_tree f f) (n == n) (same-refl f) (eq-eqb n n refl)
same-refl (with_text f t) = and_from (same_tree f f) (bytes_eq t t) (same-refl f) (bytes_eq-refl t)
same-refl anything = refl
same-refl (observed f) = same-refl f
