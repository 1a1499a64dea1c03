-- The value of a complete legal tree is one of a hole row of its kind, where hole rows miss no value.
use Rattle.std.proofs.Common.{◌≡◌, inl, inr, ℕ, true, false, List, [], ◌∷◌, map, Some, ap, sym, ◌∙◌, subst}
use Rattle.psg_terms.specs.Terms.{Term}
use Rattle.psg_terms.specs.Instances.{substitute}
use Rattle.psg_grammar.specs.declared.types.Kind.{Kind}
use Rattle.psg_grammar.specs.declared.types.Item.{Item}
use Rattle.psg_grammar.specs.declared.types.Operator.{Operator}
use Rattle.psg_grammar.specs.declared.types.ListKind.{ListKind}
use Rattle.psg_grammar.specs.declared.types.Definition.{Definition}
use Rattle.psg_grammar.specs.Fragments.{Fragment, hole, ending, cell, operator, with_child, with_name, with_number, with_text, anything, observed}
use Rattle.psg_grammar.specs.Lookups.{part_items, key_at}
use Rattle.psg_grammar.specs.WellFormed.{Fits, IsComplete, IsPlain}
use Rattle.psg_grammar.specs.Legal.{Entities, Legal}
use Rattle.psg_grammar.specs.Open.{IsOfHoleRow}
use Rattle.psg_completions.specs.Covered.{SlotsHold}
use Rattle.psg_completions.specs.Conditions.{HasTrueRows}
use Rattle.psg_grammar.specs.declared.types.Kind.TheVariants as kinds
use Rattle.psg_grammar.specs.declared.types.Item.TheVariants as items

module _ (def : Definition) (rules : HasTrueRows def) where
  abbrev IsTakenBy : Kind → Term → Type 0
  IsTakenBy kind v = (r : ℕ) × IsOfHoleRow def kind r v

  same_kind : (kind k : Kind) (v : Term) → kind ≡ k → IsTakenBy k v → IsTakenBy kind v
  same_kind kind k v e h = subst (λ x. IsTakenBy x v) (sym e) h

  pub covered_tree : (t : Fragment) (more : List Item) (kind : Kind) (g : Entities) (columns : List Term) (v : Term)
      (before after : List Term) (rs : List ℕ)
      → Fits def t more kind → IsComplete t → IsPlain t → Legal def g t columns v before after
      → SlotsHold def more columns rs → (before ≡ after) × IsTakenBy kind v
  covered_tree (hole p) more kind g columns v before after rs w c pl l s = absurd c
  covered_tree (ending k true) more kind g columns v before after rs w c pl l s = absurd l
  covered_tree (ending k false) more kind g columns v before after rs (nomore, iskind, end) c pl
      (none, same, lk, row, i, list, chosen, (f, ground, v_is)) s =
      let (r, rule) = rules.nils k i lk list row chosen in (
        same,
        same_kind kind (kinds.List k) v iskind
            (r, subst (IsOfHoleRow def (kinds.List k) r) (sym v_is) (rule f ground)),
      )
  covered_tree (cell k e rest) more kind g columns v before after rs (nomore, iskind, lk', list', we, wr, free)
      (ce, cr) (pe, pr) (none, lk, row, i, first, others, mid, inner, list, chosen, isrow, ei, within, le, lr) s =
      let same_list : lk' ≡ lk = (let q : Some lk' ≡ Some lk = sym list' ∙ list in cc) in
      let (se, (re, he)) = covered_tree e [] (kinds.Phylum lk'.element) inner [] first before mid [] we ce pe le tt in
      let (sr, (rr, hr)) = covered_tree rest [] (kinds.List k) g [] others mid after [] wr cr pr lr tt in
      let (r, rule) = rules.cells k i lk list row chosen re rr in (
        se ∙ sr,
        same_kind kind (kinds.List k) v iskind (
          r,
          subst (IsOfHoleRow def (kinds.List k) r) (sym isrow.head)
              (rule isrow.terms isrow.grounding first others (sym isrow.rest)
              (subst (λ (x : ListKind). IsOfHoleRow def (kinds.Phylum x.element) re first) same_list he) hr),
        ),
      )
  covered_tree (operator o) more kind g columns v before after rs (op', found', parts, iskind) c pl
      (same, op, row, i, found, chosen, isrow) s =
      let same_op : op' ≡ op = (let q : Some op' ≡ Some op = sym found' ∙ found in cc) in
      let (r, rule) = rules.rows o i op found row chosen rs in
      let held : SlotsHold def (part_items op.items) (map (substitute isrow.terms) row.columns) rs =
      subst (λ m. SlotsHold def m (map (substitute isrow.terms) row.columns) rs)
      (parts ∙ ap (λ (x : Operator). part_items x.items) same_op)
      (subst (λ x. SlotsHold def more x rs) isrow.rest s) in (
        same,
        same_kind kind (kinds.Phylum op.phylum) v (iskind ∙ ap (λ (x : Operator). kinds.Phylum x.phylum) same_op) (
          r,
          subst (IsOfHoleRow def (kinds.Phylum op.phylum) r) (sym isrow.head)
              (rule isrow.terms isrow.grounding held),
        ),
      )
  covered_tree (with_child f t) more kind g columns v before after rs (k, wf, wt) (cf, ct) (pf, pt)
      (u, mid, inner, lf, ei, within, lt) s =
      let (st, (rt, ht)) = covered_tree t [] k inner [] u mid after [] wt ct pt lt tt in
      let (sf, h) =
      covered_tree f (items.Slot k ∷ more) kind g (u ∷ columns) v before mid (rt ∷ rs) wf cf pf lf (ht, s) in
      (sf ∙ st, h)
  covered_tree (with_name f n) more kind g columns v before after rs (inl (sp, wf), name) c pl l s =
      covered_tree f (items.Refers sp ∷ more) kind g (g (key_at def f n) ∷ columns) v before after rs wf c pl l s
  covered_tree (with_name f n) more kind g columns v before after rs (inr (sp, wf), name) c pl l s =
      covered_tree f (items.Declares sp ∷ more) kind g (g (key_at def f n) ∷ columns) v before after rs wf c pl l s
  covered_tree (with_number f n) more kind g columns v before after rs (wf, small) c pl l s =
      covered_tree f (items.Number ∷ more) kind g columns v before after rs wf c pl l s
  covered_tree (with_text f n) more kind g columns v before after rs (wf, text) c pl l s =
      covered_tree f (items.Text ∷ more) kind g columns v before after rs wf c pl l s
  covered_tree anything more kind g columns v before after rs w c pl l s = absurd w
  covered_tree (observed f) more kind g columns v before after rs w c pl l s = absurd pl
