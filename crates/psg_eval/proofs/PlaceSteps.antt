-- A child that is a place with any value changes no step.
use Rattle.std.proofs.Common.{◌≡◌, inl, inr, ℕ, suc, ◌+◌, ◌-◌, ◌<◌, ◌≤◌, true, false, cond, List, [], ◌∷◌, ◌++◌, length, Some, ap, ap₂, sym, ◌∙◌, subst, append_assoc, arith, length-append}
use Rattle.std.specs.Prelude.{nat_lt}
use Rattle.std.specs.List.{slice_get}
use Rattle.std.proofs.lemmas.Bool.{lt-ltb, le-ltb}
use Rattle.std.proofs.lemmas.Option.{slice_get_within}
use Rattle.psg_terms.specs.Sound.{IsSound as IsSoundSignature}
use Rattle.psg_grammar.specs.declared.types.Item.{Item}
use Rattle.psg_grammar.specs.declared.types.Item.TheVariants as items
use Rattle.psg_grammar.specs.declared.types.Kind.{Kind}
use Rattle.psg_grammar.specs.declared.types.Definition.{Definition}
use Rattle.psg_grammar.specs.Fragments.{Fragment, hole, ending, cell, operator, with_child, with_name, with_number, with_text, anything, observed, children_of}
use Rattle.psg_grammar.specs.Steps.{children_count, first_children}
use Rattle.psg_relation.specs.Choices.{AllHaveSorts}
use Rattle.psg_eval.specs.Partials.{IsPartial}
use Rattle.psg_eval.specs.Stages.{IsInside, IsMade, IsStep}
use Rattle.psg_eval.specs.Trees.{HasParts}
use Rattle.psg_eval.specs.declared.partial.Partial.{Partial}
use Rattle.psg_eval.proofs.Assembling.{made_more}
use Rattle.psg_eval.proofs.NextChild.{all_there, get_push}
use Rattle.psg_eval.proofs.Stepping.{step_wide}

module _ (def : Definition) where
  pub place_step : (f : Fragment) (more : List Item) (n : ℕ) → HasParts def f more → slice_get (children_of f) n ≡ Some anything → first_children (suc n) f ≡ first_children n f
  place_step (operator o) more n h e = absurd (cc)
  place_step (with_child f u) more n (k, h) e =
      let size = length-append (children_of f) (u ∷ []) in
      elim (get_push (children_of f) u n anything e) [
        | inl i ↦
            let lt = slice_get_within (children_of f) n anything i in
            let one : nat_lt (length (children_of f)) n ≡ false = le-ltb (length (children_of f)) n (omega arith) in
            let two : nat_lt (length (children_of f)) (suc n) ≡ false = le-ltb (length (children_of f)) (suc n) (omega arith) in
            ap₂ with_child (place_step f (items.Slot k ∷ more) n h i) (ap (λ b. cond b u anything) two ∙ sym (ap (λ b. cond b u anything) one))
        | inr i ↦
            let at = i.0 in
            let one : nat_lt (length (children_of f)) n ≡ false = le-ltb (length (children_of f)) n (omega arith) in
            let two : nat_lt (length (children_of f)) (suc n) ≡ true = lt-ltb (length (children_of f)) (suc n) (omega arith) in
            ap₂ with_child (all_there def (suc n) f (items.Slot k ∷ more) h (omega arith) ∙ sym (all_there def n f (items.Slot k ∷ more) h (omega arith)))
            (ap (λ b. cond b u anything) two ∙ i.1 ∙ sym (ap (λ b. cond b u anything) one))
      ]
  place_step (with_name f m) more n (inl (s, h)) e = ap (λ x. with_name x m) (place_step f (items.Refers s ∷ more) n h e)
  place_step (with_name f m) more n (inr (s, h)) e = ap (λ x. with_name x m) (place_step f (items.Declares s ∷ more) n h e)
  place_step (with_number f m) more n h e = ap (λ x. with_number x m) (place_step f (items.Number ∷ more) n h e)
  place_step (with_text f m) more n h e = ap (λ x. with_text x m) (place_step f (items.Text ∷ more) n h e)
  place_step (hole p) more n h e = absurd h
  place_step (ending l u) more n h e = absurd h
  place_step (cell l u v) more n h e = absurd h
  place_step anything more n h e = absurd h
  place_step (observed f) more n h e = absurd h

module _ (def : Definition) (f : Fragment) (sound : IsSoundSignature def.signature) where
  -- the step of a place is the step before it
  pub place_made : (n : ℕ) (p q : Partial) → n + 1 ≤ children_count f → first_children (n + 1) f ≡ first_children n f → IsMade def f n p → q.header ≡ p.header → q.rel ≡ p.rel
      → IsMade def f (n + 1) q
  place_made n p q there same made eh er =
      let kept : IsStep def f n q.header q.rel = subst (λ h. IsStep def f n h q.rel) (sym eh) (subst (λ rows. IsStep def f n p.header rows) (sym er) made.step) in
      made_more def f sound n p q there made (subst (λ t. IsInside def t q.header q.rel) (sym same) kept)
      (λ passes. made.light n (omega arith) (step_wide def f n q.header q.rel (omega arith) kept passes))

module _ (def : Definition) (kind k : Kind) (kinds : List Kind) (p : Partial) (part : IsPartial def kind (k ∷ kinds) p) where
  -- the first wanted value is the last that is seen
  moved : ((part.sort ∷ part.seen) ++ part.wanted) ++ part.key_sorts ≡ ((part.sort ∷ (part.seen ++ part.wanted_sorts.0 ∷ [])) ++ part.wanted_sorts.1) ++ part.key_sorts
  moved =
      ap (λ l. l ++ part.key_sorts)
      (ap (λ w. (part.sort ∷ part.seen) ++ w) part.wanted_sorts.2 ∙ sym (append_assoc (part.sort ∷ part.seen) (part.wanted_sorts.0 ∷ []) part.wanted_sorts.1))

  pub place_partial : (q : Partial) → q ≡ record { header = p.header; seen = p.seen + 1; wanted = p.wanted - 1; rel = p.rel } → IsPartial def kind kinds q
  place_partial q e = subst (λ x. IsPartial def kind kinds x) (sym e) (record {
    header = part.header;
    sort = part.sort;
    kind_sort = part.kind_sort;
    seen = part.seen ++ part.wanted_sorts.0 ∷ [];
    reported = length-append part.seen (part.wanted_sorts.0 ∷ []) ∙ ap (λ n. n + 1) part.reported;
    wanted = part.wanted_sorts.1;
    wanted_sorts = part.wanted_sorts.4;
    many = let m = part.many in omega arith;
    few = let f = part.few in omega arith;
    key_sorts = part.key_sorts;
    keys_sorted = part.keys_sorted;
    sorted = subst (λ ss. AllHaveSorts def.signature p.rel ss) moved part.sorted;
  })

  pub place_wanted : 0 < p.wanted
  place_wanted = let m = part.many in omega arith
