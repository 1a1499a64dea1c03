-- A family of sets has one relation.
use Rattle.std.proofs.Common.{ℕ, List, [], ◌∷◌, subst}
use Rattle.psg_terms.specs.Terms.{Term}
use Rattle.psg_terms.specs.Signature.{Signature}
use Rattle.psg_terms.specs.Sound.{IsSound}
use Rattle.psg_terms.specs.Relations.{first, IsRelation}
use Rattle.psg_terms.specs.Weight.{PassesLimit}
use Rattle.psg_terms.proofs.OneRelation.{sorts_once, same_rows}
use Rattle.psg_relation.specs.Choices.{AllHaveSorts}
use Rattle.psg_relation.proofs.Weights.{some_pass}

module _ (sig : Signature) {C : Type 0} (P : C → List Term → Type 0) where
  pub empty_sorts : (ls rs : List ℕ) → IsRelation sig ls P [] → IsRelation sig rs P []
  empty_sorts ls rs rel = record {
    shapes = λ row h. elim h [ ];
    covers = λ c x p. let (row, h, all) = rel.covers c x p in elim h [ ];
    apart = rel.apart;
    once = rel.once;
    order = rel.order;
  }

  -- the sorts of the rows serve as those of the relation; where there are no rows, any do
  pub with_sorts : (ls rs : List ℕ) (rows : List (List Term)) → IsRelation sig ls P rows → AllHaveSorts sig rows rs → IsRelation sig rs P rows
  with_sorts ls rs [] rel sorted = empty_sorts ls rs rel
  with_sorts ls rs (row ∷ rows) rel sorted = subst (λ ss. IsRelation sig ss P (row ∷ rows)) (sorts_once sig row ls rs (rel.shapes row first).sorted (sorted row first)) rel

  -- one passes the limit where the other does
  pub same_passes : IsSound sig → (ls rs : List ℕ) (rows others : List (List Term)) → IsRelation sig ls P rows → IsRelation sig rs P others → PassesLimit rows → PassesLimit others
  same_passes sound ls rs rows others l r passes = some_pass rows others l.once (same_rows sig sound P ls rs rows others l r) passes
