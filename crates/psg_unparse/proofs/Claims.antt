-- What is shown of each tree, list and part of a tree: its row has tokens, and they yield it.
use Rattle.std.proofs.Common.{◌≡◌, ℕ, ◌<◌, ◌≤◌, Bool, true, false, List, [], ◌∷◌, Option, Some, None, slice_get, refl, ap, sym, ◌∙◌, subst, append-nil, ltb-false}
use Rattle.psg_grammar.specs.declared.types.Kind.{Kind}
use Rattle.psg_grammar.specs.declared.types.Kind.TheVariants as kinds
use Rattle.psg_grammar.specs.declared.types.Item.{Item}
use Rattle.psg_grammar.specs.declared.types.Operator.{Operator}
use Rattle.psg_grammar.specs.declared.types.ListKind.{ListKind}
use Rattle.psg_grammar.specs.declared.types.Definition.{Definition}
use Rattle.psg_grammar.specs.Fragments.{Fragment, hole, ending, cell, operator, with_child, with_name, with_number, with_text, anything, observed}
use Rattle.psg_grammar.specs.Levels.{level_number}
use Rattle.psg_grammar.specs.Lookups.{part_items}
use Rattle.psg_grammar.specs.Sizes.{depth_of}
use Rattle.psg_grammar.specs.WellFormed.{Fits, fixed_words}
use Rattle.psg_class.specs.Terminals.{Token}
use Rattle.psg_class.specs.Places.{solid}
use Rattle.psg_class.specs.Yields.{TreeYields, of_operator, PartsYield, no_items, ListYields, SomeYield}
use Rattle.psg_unparse.specs.Rows.{row, left, operator_of, is_below_level, from_part}
use Rattle.psg_unparse.proofs.Lexing.{RowTokens}
use Rattle.psg_unparse.proofs.Building.{Front}
use Rattle.psg_unparse.proofs.Passing.{none_left}

-- the tree is an operator with its first parts
abbrev pub IsSpine : Fragment → Type 0
IsSpine (operator o) = Unit {0}
IsSpine (with_child f t) = Unit {0}
IsSpine (with_name f n) = Unit {0}
IsSpine (with_number f n) = Unit {0}
IsSpine (with_text f t) = Unit {0}
IsSpine _ = ⊥

abbrev pub IsCell : Fragment → Type 0
IsCell (cell l e r) = Unit {0}
IsCell _ = ⊥

module _ (def : Definition) where
  -- a list of the kind, whose end may be unfinished only where the kind allows it
  abbrev pub IsListOf : ℕ → Fragment → Type 0
  IsListOf l (ending m u) = (m ≡ l) × ((k : ListKind) → slice_get def.lists l ≡ Some k → u ≡ true → k.unfinished ≡ true)
  IsListOf l (cell m e r) = m ≡ l
  IsListOf l _ = ⊥

  -- a tree of the phylum is yielded at each level up to its own; the operator at its top is one of the phylum
  pub record TreeBack (f : Fragment) (p : ℕ) : Type 0 where
    pub tokens : List Token
    pub nesting : ℕ
    pub has : RowTokens (fixed_words def) (row def f) tokens
    pub shallow : nesting < depth_of f
    pub yields : (m : ℕ) → is_below_level (operator_of def f) m ≡ false → TreeYields def f p m nesting tokens
    pub top : (o : Operator) → operator_of def f ≡ Some o
        → (n : ℕ) × (slice_get def.operators n ≡ Some o) × (o.phylum ≡ p)

  pub record ListBack (f : Fragment) (l : ℕ) : Type 0 where
    pub tokens : List Token
    pub nesting : ℕ
    pub has : RowTokens (fixed_words def) (row def f) tokens
    pub shallow : nesting < depth_of f
    pub yields : ListYields def f l nesting tokens
    pub some : IsCell f → SomeYield def f l nesting tokens
    pub shape : IsListOf l f

  abbrev pub WholeBack : Fragment → Kind → Type 0
  WholeBack f (kinds.Phylum p) = TreeBack f p
  WholeBack f (kinds.List l) = ListBack f l

  -- An operator with its first parts: the items up to its next part are read.
  pub record PartBack (f : Fragment) (more : List Item) (kind : Kind) : Type 0 where
    pub n : ℕ
    pub o : Operator
    pub found : slice_get def.operators n ≡ Some o
    pub top : operator_of def f ≡ Some o
    pub of_phylum : kind ≡ kinds.Phylum o.phylum
    pub behind : List Item
    pub at_part : left def f ≡ from_part behind
    pub parts : more ≡ part_items (left def f)
    pub first : Bool
    pub tokens : List Token
    pub nesting : ℕ
    pub has : RowTokens (fixed_words def) (row def f) tokens
    pub shallow : nesting < depth_of f
    pub front : Front def n o f first (left def f) nesting tokens

  pub record Claim (f : Fragment) (more : List Item) (kind : Kind) : Type 0 where
    pub part : IsSpine f → PartBack f more kind
    pub whole : more ≡ [] → WholeBack f kind

  -- what still has parts to take is an operator with its first parts
  pub spine_of : (f : Fragment) (i : Item) (more : List Item) (kind : Kind) → Fits def f (i ∷ more) kind → IsSpine f
  spine_of (operator o) i more kind h = tt
  spine_of (with_child f t) i more kind h = tt
  spine_of (with_name f n) i more kind h = tt
  spine_of (with_number f n) i more kind h = tt
  spine_of (with_text f t) i more kind h = tt
  spine_of (hole p) i more kind h = let e : i ∷ more ≡ [] = h.0 in absurd (cc)
  spine_of (ending l u) i more kind h = let e : i ∷ more ≡ [] = h.0 in absurd (cc)
  spine_of (cell l e r) i more kind h = let e : i ∷ more ≡ [] = h.0 in absurd (cc)
  spine_of anything i more kind h = absurd h
  spine_of (observed f) i more kind h = let e : i ∷ more ≡ [] = h.0 in absurd (cc)

  -- a list has no operator at its top
  pub list_top : (l : ℕ) (f : Fragment) → IsListOf l f → operator_of def f ≡ None
  list_top l (ending m u) h = refl
  list_top l (cell m e r) h = refl
  list_top l _ h = absurd h

  -- ---- an operator with all its parts

  reaches : (x : Option Operator) (o : Operator) (m : ℕ) → x ≡ Some o → is_below_level x m ≡ false
      → m ≤ level_number o.level
  reaches x o m e h = ltb-false (level_number o.level) m (subst (λ y. is_below_level y m ≡ false) e h)

  same_operator : (x : Option Operator) (n : ℕ) (o p : Operator) → x ≡ Some o → x ≡ Some p
      → slice_get def.operators n ≡ Some o → (k : ℕ) × (slice_get def.operators k ≡ Some p) × (p.phylum ≡ o.phylum)
  same_operator x n o p e f found =
      let both : Some o ≡ Some p = sym e ∙ f in
      let same : o ≡ p = cc in
      (n, found ∙ ap Some same, ap (λ (q : Operator). q.phylum) (sym same))

  tree_of : (f : Fragment) (kind : Kind) (a : PartBack f [] kind) → TreeBack f a.o.phylum
  tree_of f kind a =
      let none : left def f ≡ [] = a.at_part ∙ none_left a.behind (a.parts ∙ ap part_items a.at_part) in
      let q : Front def a.n a.o f a.first [] a.nesting a.tokens =
      subst (λ zs. Front def a.n a.o f a.first zs a.nesting a.tokens) none a.front in
      let parts : PartsYield def a.o true (operator a.n) 0 (solid a.o.items) f a.nesting a.tokens =
      subst (PartsYield def a.o true (operator a.n) 0 (solid a.o.items) f a.nesting) (append-nil a.tokens)
      (q.goes f a.nesting [] no_items) in
      record {
        tokens = a.tokens;
        nesting = a.nesting;
        has = a.has;
        shallow = a.shallow;
        yields = λ m h. of_operator a.n a.o a.found refl (reaches (operator_of def f) a.o m a.top h) parts;
        top = λ o e. same_operator (operator_of def f) a.n a.o o a.top e a.found;
      }

  close : (f : Fragment) (more : List Item) (kind : Kind) → PartBack f more kind → more ≡ [] → WholeBack f kind
  close f more kind a e =
      let b : PartBack f [] kind = subst (λ m. PartBack f m kind) e a in
      subst (WholeBack f) (sym b.of_phylum) (tree_of f kind b)

  pub part_claim : (f : Fragment) (more : List Item) (kind : Kind) → PartBack f more kind → Claim f more kind
  part_claim f more kind a = record { part = λ h. a; whole = close f more kind a }
