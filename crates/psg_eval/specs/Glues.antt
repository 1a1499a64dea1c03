-- How rows of a step are made of rows of the step before and of a child's rows.
use Rattle.std.specs.Prelude.{ℕ, ◌≡◌, List, ◌∷◌, ◌++◌, length, map}
use Rattle.psg_terms.specs.Terms.{Term}
use Rattle.psg_terms.specs.Signature.{Signature}
use Rattle.psg_terms.specs.Instances.{IsGroundInstance}
use Rattle.psg_terms.specs.Relations.{IsIn}
use Rattle.psg_grammar.specs.declared.types.Definition.{Definition}
use Rattle.psg_grammar.specs.Fragments.{Fragment}
use Rattle.psg_grammar.specs.Keys.{Key}
use Rattle.psg_grammar.specs.Lookups.{is_scope}
use Rattle.psg_grammar.specs.Regions.{declared_inside, unfinished_inside, names_inside, passing}

-- the keys that a tree gives to the region in which it is
abbrev pub outer_names : Definition → Fragment → List Key
outer_names def t =
    passing (is_scope def t) (λ s. unfinished_inside def s t) (declared_inside def t) (names_inside def t)

-- The row p has the keys K, the row q of a child has the keys L, and x has the keys M. The first wanted value of p,
-- after the values that are seen before it, is the value of q; equal keys have equal entities. In x the values that
-- are seen in the child are in its place.
pub record NextGlue (before : ℕ) (K L M : List Key) (p q x : List Term) : Type 0 where
  pub value : Term
  pub seen : List Term
  pub wanted : Term
  pub others : List Term
  pub more : List Term
  pub entity : Key → Term
  pub place : length seen ≡ before
  pub left_is : p ≡ (value ∷ seen ++ wanted ∷ others) ++ map entity K
  pub right_is : q ≡ (wanted ∷ more) ++ map entity L
  pub made_is : x ≡ (value ∷ seen ++ more ++ others) ++ map entity M

-- the row x has the values of p, and of its keys K the entities of the keys L
pub record CloseGlue (K L : List Key) (p x : List Term) : Type 0 where
  pub value : Term
  pub seen : List Term
  pub entity : Key → Term
  pub full_is : p ≡ (value ∷ seen) ++ map entity K
  pub cut_is : x ≡ (value ∷ seen) ++ map entity L

-- what is made of the ground instances of a row of the list
pub record IsCut (sig : Signature) (Cut : List Term → List Term → Type 0) (rows : List (List Term))
    (row columns : List Term) : Type 0 where
  pub there : IsIn row rows
  pub full : List Term
  pub full_is : IsGroundInstance sig row full
  pub cut : Cut full columns
