-- The weights of all relations of a tree add up to a number, whether or not it is within the limit.
use Rattle.std.proofs.Common.{inl, inr, ℕ, ◌+◌, List, [], ◌∷◌}
use Rattle.psg_terms.specs.Weight.{weight_of}
use Rattle.psg_grammar.specs.declared.types.Kind.{Kind}
use Rattle.psg_grammar.specs.declared.types.Kind.TheVariants as kinds
use Rattle.psg_grammar.specs.declared.types.Item.{Item}
use Rattle.psg_grammar.specs.declared.types.Item.TheVariants as items
use Rattle.psg_grammar.specs.declared.types.Definition.{Definition}
use Rattle.psg_grammar.specs.Fragments.{anything, cell, ending, Fragment, hole, observed, operator, with_child, with_name, with_number, with_text}
use Rattle.psg_grammar.specs.Sound.{IsSound}
use Rattle.psg_grammar.specs.Steps.{below_cell, below_child, below_ending, below_hole, below_name, below_number, below_operator, below_text, BelowWeigh, HasWeights, of_node}
use Rattle.psg_grammar.specs.WellFormed.{Fits, IsPlain}
use Rattle.psg_session.specs.Told.{HasTreeWeights}
use Rattle.psg_session.proofs.AllTold.{plain_simple, tree_told}

module _ (def : Definition) (sound : IsSound def) where
  abbrev Below : Fragment → Type 0
  Below f = (more : List Item) (kind : Kind) → Fits def f more kind → (m : ℕ) × BelowWeigh def f m

  record Weighed (f : Fragment) : Type 0 where
    node : (kind : Kind) → Fits def f [] kind → (n : ℕ) × HasWeights def f n
    below : Below f

  with_own : (f : Fragment) → IsPlain f → Below f → Weighed f
  with_own f plain below = record {
    node = λ kind h.
        let (m, b) = below [] kind h in
        let t = tree_told def sound f kind h (plain_simple f plain) in
        (m + weight_of t.known.rel, of_node m t.known.rel b t.of.rows);
    below = below;
  }

  of_cell : (l : ℕ) (e r : Fragment) → Weighed e → Weighed r → Below (cell l e r)
  of_cell l e r one two more kind (none, is, list, found, he, hr, u) =
      let (m, a) = one.node (kinds.Phylum list.element) he in
      let (n, b) = two.node (kinds.List l) hr in (m + n, below_cell m n a b)

  of_child : (f t : Fragment) → Weighed f → Weighed t → Below (with_child f t)
  of_child f t one two more kind (k, hf, ht) =
      let (m, a) = one.below (items.Slot k ∷ more) kind hf in
      let (n, b) = two.node k ht in (m + n, below_child m n a b)

  of_name : (f : Fragment) (x : List ℕ) → Weighed f → Below (with_name f x)
  of_name f x one more kind (inl (s, hf), name) =
      let (m, a) = one.below (items.Refers s ∷ more) kind hf in (m, below_name a)
  of_name f x one more kind (inr (s, hf), name) =
      let (m, a) = one.below (items.Declares s ∷ more) kind hf in (m, below_name a)

  weighed : (f : Fragment) → IsPlain f → Weighed f
  weighed (hole p) plain = with_own (hole p) tt (λ more kind h. (0, below_hole))
  weighed (ending l u) plain = with_own (ending l u) tt (λ more kind h. (0, below_ending))
  weighed (operator o) plain = with_own (operator o) tt (λ more kind h. (0, below_operator))
  weighed (cell l e r) plain =
      let one = weighed e plain.0 in
      let two = weighed r plain.1 in with_own (cell l e r) plain (of_cell l e r one two)
  weighed (with_child f t) plain =
      let one = weighed f plain.0 in
      let two = weighed t plain.1 in with_own (with_child f t) plain (of_child f t one two)
  weighed (with_name f x) plain =
      let one = weighed f plain in with_own (with_name f x) plain (of_name f x one)
  weighed (with_number f x) plain =
      let one = weighed f plain in
      with_own (with_number f x) plain
      (λ more kind h. let (m, a) = one.below (items.Number ∷ more) kind h.0 in (m, below_number a))
  weighed (with_text f x) plain =
      let one = weighed f plain in
      with_own (with_text f x) plain
      (λ more kind h. let (m, a) = one.below (items.Text ∷ more) kind h.0 in (m, below_text a))
  weighed anything plain = with_own anything tt (λ more kind h. absurd h)
  weighed (observed f) plain = absurd plain

  pub tree_weights : HasTreeWeights def
  tree_weights f kind (h, plain) = let w = weighed f plain in w.node kind h
