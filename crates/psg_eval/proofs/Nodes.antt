-- What a node is by its parts, and its children by their summaries.
use Rattle.std.proofs.Common.{◌≡◌, inl, inr, ℕ, zero, suc, ◌+◌, cond, List, [], ◌∷◌, length, Option, Some, refl, ap, ap₂, sym, ◌∙◌, subst, arith}
use Rattle.std.specs.List.{slice_get, sum_by}
use Rattle.std.proofs.lemmas.List.Sums.{sum_by-append, sum_by-cons}
use Rattle.std.specs.Option.{option_and_then}
use Rattle.psg_terms.specs.Names.{Name}
use Rattle.psg_grammar.specs.declared.types.Item.{Item}
use Rattle.psg_grammar.specs.declared.types.Item.TheVariants as items
use Rattle.psg_grammar.specs.declared.types.Kind.TheVariants as kinds
use Rattle.psg_grammar.specs.declared.types.Operator.{Operator}
use Rattle.psg_grammar.specs.declared.types.Definition.{Definition}
use Rattle.psg_grammar.specs.Fragments.{Fragment, hole, ending, cell, operator, with_child, with_name, with_number, with_text, anything, observed, top_operator, children_of}
use Rattle.psg_grammar.specs.Lookups.{is_scope, operator_at, scopes}
use Rattle.psg_grammar.specs.Steps.{children_count, last_step}
use Rattle.psg_eval.specs.declared.summary.SummaryParts.{SummaryParts}
use Rattle.psg_eval.specs.Trees.{seen_in, HasParts, IsNode}
use Rattle.psg_grammar.specs.Kinds.{IsOfKind}
use Rattle.psg_eval.specs.Summaries.{IsSummaryOf, AllSummaries}
use Rattle.psg_eval.proofs.RegionSteps.{count_is}

module _ (def : Definition) where
  -- ---- children and their summaries

  pub as_many : (fs : List Fragment) (ss : List SummaryParts) → AllSummaries def fs ss → length fs ≡ length ss
  as_many [] [] h = refl
  as_many [] (s ∷ ss) h = absurd h
  as_many (f ∷ fs) [] h = absurd h
  as_many (f ∷ fs) (s ∷ ss) h = ap suc (as_many fs ss h.1)

  pub child_at : (fs : List Fragment) (ss : List SummaryParts) → AllSummaries def fs ss → (n : ℕ) (s : SummaryParts) → slice_get ss n ≡ Some s → (t : Fragment) × (slice_get fs n ≡ Some t) × IsSummaryOf def t s
  child_at [] [] h n s e = absurd (cc)
  child_at [] (r ∷ ss) h n s e = absurd h
  child_at (f ∷ fs) [] h n s e = absurd h
  child_at (f ∷ fs) (r ∷ ss) h zero s e = (f, refl, let same : r ≡ s = let d : Some r ≡ Some s = e in cc in subst (IsSummaryOf def f) same h.0)
  child_at (f ∷ fs) (r ∷ ss) h (suc n) s e = child_at fs ss h.1 n s e

  pub seen-children : (f : Fragment) (more : List Item) → HasParts def f more → seen_in f ≡ sum_by seen_in (children_of f)
  seen-children (operator o) more h = refl
  seen-children (with_child f t) more (k, h) =
      let one : sum_by seen_in (t ∷ []) ≡ seen_in t = (let z : 0 + seen_in t ≡ seen_in t = omega arith in z) in
      ap₂ (λ m n. m + n) (seen-children f (items.Slot k ∷ more) h) (sym one) ∙ sym (sum_by-append seen_in (children_of f) (t ∷ []))
  seen-children (with_name f n) more (inl (s, h)) = seen-children f (items.Refers s ∷ more) h
  seen-children (with_name f n) more (inr (s, h)) = seen-children f (items.Declares s ∷ more) h
  seen-children (with_number f n) more h = seen-children f (items.Number ∷ more) h
  seen-children (with_text f n) more h = seen-children f (items.Text ∷ more) h
  seen-children (hole p) more h = absurd h
  seen-children (ending l u) more h = absurd h
  seen-children (cell l e r) more h = absurd h
  seen-children anything more h = absurd h
  seen-children (observed f) more h = absurd h

  seen-summaries : (fs : List Fragment) (ss : List SummaryParts) → AllSummaries def fs ss → sum_by seen_in fs ≡ sum_by (λ (s : SummaryParts). s.seen) ss
  seen-summaries [] [] h = refl
  seen-summaries [] (s ∷ ss) h = absurd h
  seen-summaries (f ∷ fs) [] h = absurd h
  seen-summaries (f ∷ fs) (s ∷ ss) (h, hs) =
      sum_by-cons seen_in f fs ∙ ap₂ (λ m n. m + n) (sym h.seen) (seen-summaries fs ss hs) ∙ sym (sum_by-cons (λ (x : SummaryParts). x.seen) s ss)

  -- in a node those values are seen that are seen in its children
  pub node_seen : (f : Fragment) (ss : List SummaryParts) → HasParts def f [] → AllSummaries def (children_of f) ss → sum_by (λ (s : SummaryParts). s.seen) ss ≡ seen_in f
  node_seen f ss h all = sym (seen-children f [] h ∙ seen-summaries (children_of f) ss all)

  -- ---- the operator

  module _ (o : ℕ) (op : Operator) (found : slice_get def.operators o ≡ Some op) where
    kind_by : (f : Fragment) (more : List Item) → top_operator f ≡ Some o → HasParts def f more → IsOfKind def f (kinds.Phylum op.phylum)
    kind_by (operator p) more top h =
        let same : o ≡ p = cc in
        (op, ap (slice_get def.operators) (sym same) ∙ found, refl)
    kind_by (with_child f t) more top (k, h) = kind_by f (items.Slot k ∷ more) top h
    kind_by (with_name f n) more top (inl (s, h)) = kind_by f (items.Refers s ∷ more) top h
    kind_by (with_name f n) more top (inr (s, h)) = kind_by f (items.Declares s ∷ more) top h
    kind_by (with_number f n) more top h = kind_by f (items.Number ∷ more) top h
    kind_by (with_text f n) more top h = kind_by f (items.Text ∷ more) top h
    kind_by (hole p) more top h = absurd h
    kind_by (ending l u) more top h = absurd h
    kind_by (cell l e r) more top h = absurd h
    kind_by anything more top h = absurd h
    kind_by (observed f) more top h = absurd h

    pub node_kind : (names : List Name) (f : Fragment) → IsNode def o names f → IsOfKind def f (kinds.Phylum op.phylum)
    node_kind names f node = kind_by f [] node.top node.parts

    pub node_scope : (names : List Name) (f : Fragment) → IsNode def o names f → is_scope def f ≡ op.scope
    node_scope names f node =
        ap (λ (t : Option ℕ). scopes (option_and_then (operator_at def) t)) node.top ∙ ap (λ (x : Option Operator). scopes x) found

    pub node_count : (names : List Name) (f : Fragment) (ss : List SummaryParts) → IsNode def o names f → AllSummaries def (children_of f) ss → children_count f ≡ length ss
    node_count names f ss node all = count_is def f [] node.parts ∙ as_many (children_of f) ss all

    pub node_last : (names : List Name) (f : Fragment) (ss : List SummaryParts) → IsNode def o names f → AllSummaries def (children_of f) ss → last_step def f ≡ cond op.scope (length ss + 1) (length ss)
    node_last names f ss node all =
        ap (λ b. cond b (children_count f + 1) (children_count f)) (node_scope names f node) ∙ ap (λ n. cond op.scope (n + 1) n) (node_count names f ss node all)
