-- The equations that two rows of cells are solved on, and the rows in the pool.
use Rattle.std.specs.Prelude.{◌≡◌, ◌++◌, List, [], ◌∷◌, slice_get, Some}
use Rattle.psg_terms.specs.Terms.{Term}
use Rattle.psg_terms.specs.Signature.{Signature}
use Rattle.psg_terms.specs.Sound.{IsSound as IsSoundSignature}
use Rattle.psg_pool.specs.declared.cells.CellId.{CellId}
use Rattle.psg_pool.specs.declared.cells.Binding.{Binding}
use Rattle.psg_pool.specs.Cells.{Put}
use Rattle.psg_pool.specs.Bindings.{Kept, IsSound}
use Rattle.psg_unify.specs.Pairs.{Pair, AreJoinable}
use Rattle.psg_unify.specs.Fitting.{Fits}
use Rattle.psg_unify.specs.Valuations.{Equation}
use Rattle.psg_unify.specs.Making.{IsPutRow}

-- for each pair the equation of the cells in its columns
abbrev pub AskFor : List CellId → List CellId → List Pair → List Equation → Type 0
AskFor lefts rights [] [] = Unit {0}
AskFor lefts rights [] (e ∷ equations) = ⊥
AskFor lefts rights (p ∷ pairs) [] = ⊥
AskFor lefts rights (p ∷ pairs) (e ∷ equations) =
    (slice_get lefts p.0 ≡ Some e.0) × (slice_get rights p.1 ≡ Some e.1) × AskFor lefts rights pairs equations

-- two rows were put into a pool, one after the other
pub record ArePut (sig : Signature) (left right : List Term) (pairs : List Pair) (old mid put : Kept)
    (lefts rights : List CellId) : Type 0 where
  pub signature : IsSoundSignature sig
  pub joinable : AreJoinable sig left right pairs
  pub sound : IsSound old
  pub fits : Fits sig old
  pub one : IsPutRow sig old mid left lefts
  pub two : IsPutRow sig mid put right rights

-- Old cells and bindings stay as prefixes.
pub record IsExtended (old new : Kept) : Type 0 where
  pub cells : List Put
  pub cells_are : new.cells ≡ old.cells ++ cells
  pub bindings : List Binding
  pub bindings_are : new.bindings ≡ old.bindings ++ bindings
