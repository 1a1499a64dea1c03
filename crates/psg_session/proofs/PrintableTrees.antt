-- What a change of printable trees gives is printable.
use Rattle.std.proofs.Common.{◌≡◌, ℕ, zero, suc, ◌==◌, Bool, true, false, cond, List, [], ◌∷◌, length, slice_get, Some, chars, subst}
use Rattle.psg_terms.proofs.Lists.{each_push}
use Rattle.std.specs.List.{AllByRecursion}
use Rattle.psg_grammar.specs.declared.types.Kind.{Kind}
use Rattle.psg_grammar.specs.declared.types.Kind.TheVariants as kinds
use Rattle.psg_grammar.specs.declared.types.Item.{Item}
use Rattle.psg_grammar.specs.declared.types.Item.TheVariants as items
use Rattle.psg_grammar.specs.declared.types.Definition.{Definition}
use Rattle.psg_grammar.specs.Fragments.{Fragment, hole, ending, cell, operator, with_child, with_name, with_number, with_text, anything, observed, children_of}
use Rattle.psg_grammar.specs.Insertion.{AreLeaves, Leaf, a_name, a_number, a_text, blank, filled, fresh_operator}
use Rattle.psg_grammar.specs.Lookups.{items_of, operator_at}
use Rattle.psg_grammar.specs.Paths.{Path, node_at, change_child, change_at, replaced, inserted, removed, ended}
use Rattle.psg_grammar.specs.Printable.{IsPrintable}
use Rattle.psg_grammar.proofs.PathLaws.{step}
use Rattle.psg_grammar.specs.WellFormed.{fixed_words}
use Rattle.psg_cache.proofs.Each.{each_got}
use Rattle.psg_session.specs.Leaves.{GivesLeaves}
use Rattle.psg_session.proofs.ShortTokens.{IsShortLeaf, short_leaves, short_tokens}

-- ---- nodes

children_printable : (f : Fragment) → IsPrintable f → AllByRecursion IsPrintable (children_of f)
children_printable (hole p) h = tt
children_printable (ending l u) h = tt
children_printable (cell l e r) h = (h.0, children_printable r h.1)
children_printable (operator o) h = tt
children_printable (with_child f t) h = each_push IsPrintable (children_of f) t (children_printable f h.0) h.1
children_printable (with_name f n) h = children_printable f h.0
children_printable (with_number f n) h = children_printable f h
children_printable (with_text f t) h = children_printable f h.0
children_printable anything h = tt
children_printable (observed f) h = children_printable f h

pub node_printable : (path : Path) (f node : Fragment) → node_at f path ≡ Some node → IsPrintable f → IsPrintable node
node_printable [] f node at h = let same : f ≡ node = cc in subst IsPrintable same h
node_printable (k ∷ path) f node at h =
    let (c, child, below) = step (slice_get (children_of f) k) path node at in
    node_printable path c node below (each_got IsPrintable (children_of f) k c (children_printable f h) child)

-- ---- changes

cond_printable : (b : Bool) (x y : Fragment) → IsPrintable x → IsPrintable y → IsPrintable (cond b x y)
cond_printable true x y hx hy = hx
cond_printable false x y hx hy = hy

module _ (g : Fragment → Fragment) (keeps : (x : Fragment) → IsPrintable x → IsPrintable (g x)) where
  child_printable : (k : ℕ) (f : Fragment) → IsPrintable f → IsPrintable (change_child g k f)
  child_printable k (hole p) h = h
  child_printable k (ending l u) h = h
  child_printable zero (cell l e r) h = (keeps e h.0, h.1)
  child_printable (suc k) (cell l e r) h = (h.0, child_printable k r h.1)
  child_printable k (operator o) h = h
  child_printable k (with_child f t) h =
      cond_printable (length (children_of f) == k) (with_child f (g t)) (with_child (change_child g k f) t)
      (h.0, keeps t h.1) (child_printable k f h.0, h.1)
  child_printable k (with_name f n) h = (child_printable k f h.0, h.1)
  child_printable k (with_number f n) h = child_printable k f h
  child_printable k (with_text f n) h = (child_printable k f h.0, h.1, h.2)
  child_printable k anything h = h
  child_printable k (observed f) h = child_printable k f h

-- a tree in which a node was changed so that it stayed printable
pub changed_printable : (g : Fragment → Fragment) → ((x : Fragment) → IsPrintable x → IsPrintable (g x))
    → (path : Path) (f : Fragment) → IsPrintable f → IsPrintable (change_at g path f)
changed_printable g keeps [] f h = keeps f h
changed_printable g keeps (k ∷ path) f h = child_printable (change_at g path) (changed_printable g keeps path) k f h

pub replaced_printable : (path : Path) (new f : Fragment) → IsPrintable new → IsPrintable f
    → IsPrintable (replaced path new f)
replaced_printable path new f h hf = changed_printable (λ old. new) (λ x old_is. h) path f hf

pub inserted_printable : (k : ℕ) (new f : Fragment) → IsPrintable new → IsPrintable f → IsPrintable (inserted k new f)
inserted_printable zero new (ending l u) h hf = (h, tt)
inserted_printable zero new (cell l e r) h hf = (h, hf)
inserted_printable (suc k) new (cell l e r) h hf = (hf.0, inserted_printable k new r h hf.1)
inserted_printable zero new _ h hf = hf
inserted_printable (suc k) new _ h hf = hf

pub removed_printable : (k : ℕ) (f : Fragment) → IsPrintable f → IsPrintable (removed k f)
removed_printable zero (cell l e r) h = h.1
removed_printable (suc k) (cell l e r) h = (h.0, removed_printable k r h.1)
removed_printable zero _ h = h
removed_printable (suc k) _ h = h

pub ended_printable : (u : Bool) (f : Fragment) → IsPrintable f → IsPrintable (ended u f)
ended_printable u (cell l e r) h = (h.0, ended_printable u r h.1)
ended_printable u (ending l v) h = tt
ended_printable u _ h = h

-- ---- new trees

module _ (def : Definition) where
  pub blank_printable : (kind : Kind) → IsPrintable (blank def kind)
  blank_printable (kinds.Phylum p) = tt
  blank_printable (kinds.List l) = tt

  filled_printable : (f : Fragment) (is : List Item) (leaves : List Leaf) → IsPrintable f
      → AllByRecursion IsShortLeaf leaves → AreLeaves def is leaves → IsPrintable (filled def f is leaves)
  filled_printable f [] leaves h short are = h
  filled_printable f (items.Slot k ∷ is) leaves h short are =
      filled_printable (with_child f (blank def k)) is leaves (h, blank_printable k) short are
  filled_printable f (items.Refers s ∷ is) (a_name n ∷ leaves) h short are =
      filled_printable (with_name f n) is leaves (h, short.0) short.1 are.1
  filled_printable f (items.Declares s ∷ is) (a_name n ∷ leaves) h short are =
      filled_printable (with_name f n) is leaves (h, short.0) short.1 are.1
  filled_printable f (items.Number ∷ is) (a_number n ∷ leaves) h short are =
      filled_printable (with_number f n) is leaves h short.1 are.1
  filled_printable f (items.Text ∷ is) (a_text t ∷ leaves) h short are =
      filled_printable (with_text f t) is leaves (h, short.0.0, short.0.1 are.0) short.1 are.1
  filled_printable f _ _ h short are = absurd are

  -- an operator with the leaves that a text gives
  pub fresh_printable : (o : ℕ) (args : List ℕ) (leaves : List Leaf) → GivesLeaves def o args leaves
      → IsPrintable (fresh_operator def o leaves)
  fresh_printable o args leaves (found, tokens, given_are, are) =
      filled_printable (operator o) (items_of (operator_at def o)) leaves tt
      (short_leaves found leaves (short_tokens (fixed_words def) (chars args) 0 found tokens) given_are) are
