-- What a filled node keeps: its operator, its number of parts and whether it is a scope.
use Rattle.std.proofs.Common.{◌≡◌, ◌⊎◌, inl, inr, ℕ, ◌+◌, List, [], ◌∷◌, slice_get, ap, ap₂, ◌∙◌}
use Rattle.std.specs.Option.{option_and_then}
use Rattle.psg_grammar.specs.declared.types.Kind.{Kind}
use Rattle.psg_grammar.specs.declared.types.Item.{Item}
use Rattle.psg_grammar.specs.declared.types.Definition.{Definition}
use Rattle.psg_grammar.specs.Fragments.{Fragment, hole, ending, cell, operator, with_child, with_name, with_number, with_text, anything, observed, top_operator, parts_count}
use Rattle.psg_grammar.specs.Lookups.{is_scope, scopes, operator_at, next_item, items_of}
use Rattle.psg_grammar.specs.WellFormed.{Fits}
use Rattle.psg_grammar.specs.Fillings.{Fills}
use Rattle.psg_completions.proofs.Tops.{IsNode, node_before}
use Rattle.psg_grammar.specs.declared.types.Kind.TheVariants as kinds
use Rattle.psg_grammar.specs.declared.types.Item.TheVariants as items

module _ (def : Definition) where
  -- a filled node has the same operator and as many parts
  pub same_node : (f t : Fragment) (more : List Item) (kind : Kind) → Fits def f more kind → IsNode def f
      → Fills def f t
      → (top_operator t ≡ top_operator f) × (parts_count t ≡ parts_count f)
  same_node (hole p) t more kind w n h = absurd n
  same_node (ending l u) t more kind w n h = absurd n
  same_node (cell l e r) t more kind w n h = absurd n
  same_node (operator o) t more kind w n h = (ap top_operator h, ap parts_count h)
  same_node (with_child f c) t more kind (k, wf, wc) n (f', c', e, hf, hc) =
      let (a, b) = same_node f f' (items.Slot k ∷ more) kind wf (node_before def f (items.Slot k) more kind wf) hf in
      (ap top_operator e ∙ a, ap parts_count e ∙ ap (λ i. i + 1) b)
  same_node (with_name f x) t more kind (inl (sp, wf), name) n (f', e, hf) =
      let (a, b) =
      same_node f f' (items.Refers sp ∷ more) kind wf (node_before def f (items.Refers sp) more kind wf) hf in
      (ap top_operator e ∙ a, ap parts_count e ∙ ap (λ i. i + 1) b)
  same_node (with_name f x) t more kind (inr (sp, wf), name) n (f', e, hf) =
      let (a, b) =
      same_node f f' (items.Declares sp ∷ more) kind wf (node_before def f (items.Declares sp) more kind wf) hf in
      (ap top_operator e ∙ a, ap parts_count e ∙ ap (λ i. i + 1) b)
  same_node (with_number f x) t more kind (wf, small) n (f', e, hf) =
      let (a, b) = same_node f f' (items.Number ∷ more) kind wf (node_before def f items.Number more kind wf) hf in
      (ap top_operator e ∙ a, ap parts_count e ∙ ap (λ i. i + 1) b)
  same_node (with_text f x) t more kind (wf, text) n (f', e, hf) =
      let (a, b) = same_node f f' (items.Text ∷ more) kind wf (node_before def f items.Text more kind wf) hf in
      (ap top_operator e ∙ a, ap parts_count e ∙ ap (λ i. i + 1) b)
  same_node anything t more kind w n h = absurd n
  same_node (observed f) t more kind w n (f', e, hf) = let (a, b) = same_node f f' [] kind w.1 n hf in
      (ap top_operator e ∙ a, ap parts_count e ∙ b)

  -- whether the scope of a filled tree is the same: but for a placeholder, which may become a scope operator
  pub same_scope : (f t : Fragment) (more : List Item) (kind : Kind) → Fits def f more kind → IsNode def f
      → Fills def f t
      → is_scope def t ≡ is_scope def f
  same_scope f t more kind w n h =
      ap (λ o. scopes (option_and_then (operator_at def) o)) (same_node f t more kind w n h).0

  abbrev pub IsNodeOrList : Fragment → Kind → Type 0
  IsNodeOrList f kind = IsNode def f ⊎ ((l : ℕ) × (kind ≡ kinds.List l))

  pub next_same : (f t : Fragment) (more : List Item) (kind : Kind) → Fits def f more kind → IsNode def f
      → Fills def f t
      → next_item def t ≡ next_item def f
  next_same f t more kind w n h = let (a, b) = same_node f t more kind w n h in
      ap₂ (λ o i. slice_get (items_of (option_and_then (operator_at def) o)) i) a b
