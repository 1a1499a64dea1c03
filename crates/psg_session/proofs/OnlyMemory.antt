-- Why a call on a tree fails whose place was looked at before: memory was wanting.
use Rattle.std.proofs.Common.{◌≡◌, ◌<◌, ◌≤◌, ℕ, Some, Result, Ok, Err, IfErr, length, refl, ap, sym, ◌∙◌, subst, arith}
use Rattle.std.proofs.lemmas.Option.{none-some}
use Rattle.psg_grammar.specs.Fragments.{Fragment, children_of}
use Rattle.psg_grammar.specs.Paths.{Path, node_at, IsList}
use Rattle.psg_tree.specs.declared.places.TreeFault.{TreeFault}
use Rattle.psg_tree.specs.declared.places.TreeFault.TheVariants as faults
use Rattle.psg_tree.specs.Edits.{IsInsertFault, IsRemoveFault, IsSetFault}
use Rattle.psg_tree.specs.Faults.{IsReplaceFault}
use Rattle.psg_session.proofs.StepLaws.{some_once}

only_memory : {X : Type 0} (P : TreeFault → Type 0) → ((x : TreeFault) → P x → x ≡ faults.Memory) → (r : Result X TreeFault)
    → IfErr r P → (x : TreeFault) → r ≡ Err x → x ≡ faults.Memory
only_memory P only (Ok y) never x e = cc
only_memory P only (Err y) why x e = let same : y ≡ x = cc in sym same ∙ only y why

module _ (f g : Fragment) (same : f ≡ g) (path : Path) (node : Fragment) (there : node_at g path ≡ Some node) where
  at_node : node_at f path ≡ Some node
  at_node = ap (λ t. node_at t path) same ∙ there

  pub replaces : {X : Type 0} (r : Result X TreeFault) → IfErr r (IsReplaceFault f path) → (x : TreeFault) → r ≡ Err x → x ≡ faults.Memory
  replaces r why = only_memory (IsReplaceFault f path) only r why where
    only : (x : TreeFault) → IsReplaceFault f path x → x ≡ faults.Memory
    only faults.NoNode none = absurd (none-some node (sym none ∙ at_node))
    only faults.NotList never = absurd never
    only faults.NoPlace never = absurd never
    only faults.Memory why = refl

  module _ (list : IsList node) where
    no_other : ((other : Fragment) × (node_at f path ≡ Some other) × (IsList other → ⊥)) → ⊥
    no_other (other, at, never) = never (subst IsList (some_once node other (node_at f path) at_node at) list)

    pub ends : {X : Type 0} (r : Result X TreeFault) → IfErr r (IsSetFault f path) → (x : TreeFault) → r ≡ Err x → x ≡ faults.Memory
    ends r why = only_memory (IsSetFault f path) only r why where
      only : (x : TreeFault) → IsSetFault f path x → x ≡ faults.Memory
      only faults.NoNode none = absurd (none-some node (sym none ∙ at_node))
      only faults.NotList other = absurd (no_other other)
      only faults.NoPlace never = absurd never
      only faults.Memory why = refl

    module _ (k : ℕ) where
      counted : (other : Fragment) → node_at f path ≡ Some other → length (children_of node) ≡ length (children_of other)
      counted other at = ap (λ (t : Fragment). length (children_of t)) (some_once node other (node_at f path) at_node at)

      pub inserts : {X : Type 0} → k ≤ length (children_of node) → (r : Result X TreeFault) → IfErr r (IsInsertFault f path k)
          → (x : TreeFault) → r ≡ Err x → x ≡ faults.Memory
      inserts within r why = only_memory (IsInsertFault f path k) only r why where
        only : (x : TreeFault) → IsInsertFault f path k x → x ≡ faults.Memory
        only faults.NoNode none = absurd (none-some node (sym none ∙ at_node))
        only faults.NotList other = absurd (no_other other)
        only faults.NoPlace (other, at, is_list, less) = let same = counted other at in absurd (omega (arith, same, less, within))
        only faults.Memory why = refl

      pub removes : {X : Type 0} → k < length (children_of node) → (r : Result X TreeFault) → IfErr r (IsRemoveFault f path k)
          → (x : TreeFault) → r ≡ Err x → x ≡ faults.Memory
      removes within r why = only_memory (IsRemoveFault f path k) only r why where
        only : (x : TreeFault) → IsRemoveFault f path k x → x ≡ faults.Memory
        only faults.NoNode none = absurd (none-some node (sym none ∙ at_node))
        only faults.NotList other = absurd (no_other other)
        only faults.NoPlace (other, at, is_list, less) = let same = counted other at in absurd (omega (arith, same, less, within))
        only faults.Memory why = refl
