-- Rows that are put into a pool: first a free cell for each variable, and then the constructors.
use Rattle.std.specs.Prelude.{◌≡◌, ◌≤◌, ◌++◌, List, [], ◌∷◌, reverse}
use Rattle.psg_terms.specs.Terms.{Term}
use Rattle.psg_terms.specs.Signature.{Signature}
use Rattle.psg_terms.specs.Sizes.{size, sizes}
use Rattle.psg_terms.specs.Canonical.{Variable, variables, variables_of, noted_all}
use Rattle.psg_terms.specs.Renaming.{opens}
use Rattle.psg_pool.specs.Cells.{Put, free}
use Rattle.psg_pool.specs.Bindings.{Kept}

-- a free cell for each variable
abbrev pub frees : List Variable → List Put
frees [] = []
frees (x ∷ xs) = free x.0 ∷ frees xs

-- the pool has more cells at the end, and the same bindings
pub record IsLonger (old new : Kept) : Type 0 where
  pub cells : List Put
  pub cells_are : new.cells ≡ old.cells ++ cells
  pub bindings_are : new.bindings ≡ old.bindings

-- more cells are there, which are free cells for the variables that are known since
pub record PutsKnown (old new : List Put) (known after : List Variable) : Type 0 where
  pub more : List Put
  pub cells_are : new ≡ old ++ more
  pub known_are : frees after ≡ frees known ++ more

-- In place of a term on top of the stack its arguments lie there, and what they have yet to be noted for is what the
-- term has.
pub record WalksOn (sig : Signature) (known after : List Variable) (term : Term) (old new : List Term) : Type 0 where
  pub more : List Term
  pub stack : new ≡ old ++ more
  pub same : noted_all after (opens sig (variables_of (reverse more))) ≡ noted_all known (opens sig (variables term))
  pub less : sizes more ≤ size term
