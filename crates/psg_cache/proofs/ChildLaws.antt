-- The children of a tree are trees of a kind, and nested less than the tree.
use Rattle.std.proofs.Common.{◌≡◌, inl, inr, ℕ, ◌+◌, ◌<◌, ◌≤◌, List, [], ◌∷◌, length, get_or, sym, subst, arith}
use Rattle.std.specs.List.{AllByRecursion}
use Rattle.psg_grammar.specs.declared.types.Kind.{Kind}
use Rattle.psg_grammar.specs.declared.types.Kind.TheVariants as kinds
use Rattle.psg_grammar.specs.declared.types.Item.{Item}
use Rattle.psg_grammar.specs.declared.types.Item.TheVariants as items
use Rattle.psg_grammar.specs.declared.types.Definition.{Definition}
use Rattle.psg_grammar.specs.Fragments.{Fragment, hole, ending, cell, operator, with_child, with_name, with_number, with_text, anything, observed, children_of}
use Rattle.psg_grammar.specs.WellFormed.{Fits, IsPlain}
use Rattle.psg_tree.specs.Shapes.{height}
use Rattle.psg_cache.specs.Notes.{IsFormed}
use Rattle.psg_cache.proofs.Each.{each_at, each_push}

pub lower : (g : Fragment) (n : ℕ) → height g ≤ n → AllByRecursion (λ c. height c + 1 ≤ n) (children_of g)
lower (hole p) n h = tt
lower (ending l u) n h = tt
lower (cell l e r) n h = (omega (arith, h), lower r n (omega (arith, h)))
lower (operator o) n h = tt
lower (with_child g t) n h =
    each_push (λ c. height c + 1 ≤ n) (children_of g) t (lower g n (omega (arith, h))) (omega (arith, h))
lower (with_name g m) n h = lower g n h
lower (with_number g m) n h = lower g n h
lower (with_text g m) n h = lower g n h
lower anything n h = tt
lower (observed g) n h = lower g n h

module _ (def : Definition) where
  pub formed_below : (f : Fragment) (more : List Item) (kind : Kind) → Fits def f more kind → IsPlain f
      → AllByRecursion (IsFormed def) (children_of f)
  formed_below (hole p) more kind h plain = tt
  formed_below (ending l u) more kind h plain = tt
  formed_below (cell l e r) more kind (a, b, k, found, fe, fr, z) plain =
      ((kinds.Phylum k.element, (fe, plain.0)), formed_below r [] (kinds.List l) fr plain.1)
  formed_below (operator o) more kind h plain = tt
  formed_below (with_child f t) more kind (k, hf, ht) plain =
      each_push (IsFormed def) (children_of f) t (formed_below f (items.Slot k ∷ more) kind hf plain.0)
      (k, (ht, plain.1))
  formed_below (with_name f n) more kind (inl (s, h), name) plain = formed_below f (items.Refers s ∷ more) kind h plain
  formed_below (with_name f n) more kind (inr (s, h), name) plain =
      formed_below f (items.Declares s ∷ more) kind h plain
  formed_below (with_number f n) more kind (h, small) plain = formed_below f (items.Number ∷ more) kind h plain
  formed_below (with_text f t) more kind (h, text) plain = formed_below f (items.Text ∷ more) kind h plain
  formed_below anything more kind h plain = tt
  formed_below (observed f) more kind h plain = absurd plain

  -- the child that is read is such a tree, and lower
  pub child_formed : (f : Fragment) → IsFormed def f → (children : List Fragment) → children ≡ children_of f
      → (i : ℕ) (child : Fragment) → i < length children → child ≡ get_or children i child
      → IsFormed def child × (height child + 1 ≤ height f)
  child_formed f (kind, (fits, plain)) children are i child small at = (
    each_at (IsFormed def) children i child
        (subst (AllByRecursion (IsFormed def)) (sym are) (formed_below f [] kind fits plain)) small at,
    each_at (λ c. height c + 1 ≤ height f) children i child
        (subst (AllByRecursion (λ c. height c + 1 ≤ height f)) (sym are) (lower f (height f) (omega arith))) small at,
  )
