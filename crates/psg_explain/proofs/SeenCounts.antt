-- How many values are seen in a node with its first children, and where the next child is put.
use Rattle.std.proofs.Common.{◌≡◌, ℕ, zero, suc, ◌+◌, ◌-◌, ◌<◌, ◌≤◌, ◌⊎◌, inl, inr, true, false, cond, List, [], ◌∷◌, length, Some, refl, ap, ◌∙◌, subst, arith, length-append}
use Rattle.std.specs.Prelude.{nat_lt}
use Rattle.std.specs.List.{slice_get}
use Rattle.std.proofs.lemmas.Bool.{cases_lt, le-ltb, lt-ltb}
use Rattle.std.proofs.lemmas.Option.{none-some}
use Rattle.psg_terms.specs.Terms.{Term}
use Rattle.psg_grammar.specs.declared.types.Definition.{Definition}
use Rattle.psg_grammar.specs.Fragments.{Fragment, hole, ending, cell, operator, with_child, with_name, with_number, with_text, anything, observed, children_of}
use Rattle.psg_grammar.specs.Legal.{Entities}
use Rattle.psg_grammar.specs.Open.{Choice, Holds}
use Rattle.psg_grammar.specs.Steps.{first_children}
use Rattle.psg_eval.specs.Trees.{HasParts, seen_in}
use Rattle.psg_eval.proofs.NextChild.{adds}
use Rattle.psg_eval.proofs.Replacing.{Replaces, behind, element, rest}
use Rattle.psg_cache.proofs.RealTrees.{IsReal, IsSpine}
use Rattle.psg_explain.proofs.Refuting.{list_no_scope}
use Rattle.psg_explain.proofs.Walking.{added_children}

pub real_unseen : (f : Fragment) → IsReal f → seen_in f ≡ 0
real_unseen (hole p) real = refl
real_unseen (ending l u) real = refl
real_unseen (cell l e r) (re, rr, list) = let a = real_unseen e re in let b = real_unseen r rr in omega (arith, a, b)
real_unseen (operator o) real = refl
real_unseen (with_child f t) (rf, rt, s) = let a = real_unseen f rf in let b = real_unseen t rt in omega (arith, a, b)
real_unseen (with_name f n) (rf, s) = real_unseen f rf
real_unseen (with_number f n) (rf, s) = real_unseen f rf
real_unseen (with_text f t) (rf, s) = real_unseen f rf
real_unseen anything real = absurd real
real_unseen (observed f) real = absurd real

module _ (def : Definition) where
  pub seen_length : (f : Fragment) (g : Entities) (c : Choice f) (columns : List Term) (v : Term) (before after : List Term)
      → Holds def g f c columns v before after → length before ≡ length after + seen_in f
  seen_length (hole p) g c columns v before after h = let e = ap length h.1 in omega (arith, e)
  seen_length (ending l true) g c columns v before after h = let e = ap length h.1 in omega (arith, e)
  seen_length (ending l false) g c columns v before after h = let e = ap length h.1 in omega (arith, e)
  seen_length (cell l e r) g c columns v before after (z, one, others, mid, inner, row, are, agree, he, hr) =
      let a = seen_length e inner c.1 [] one before mid he in
      let b = seen_length r g c.2 [] others mid after hr in
      omega (arith, a, b)
  seen_length (operator o) g c columns v before after h = let e = ap length h.0 in omega (arith, e)
  seen_length (with_child f t) g c columns v before after (u, mid, inner, hf, are, agree, ht) =
      let a = seen_length f g c.0 (u ∷ columns) v before mid hf in
      let b = seen_length t inner c.1 [] u mid after ht in
      omega (arith, a, b)
  seen_length (with_name f n) g c columns v before after h = seen_length f g c _ v before after h
  seen_length (with_number f n) g c columns v before after h = seen_length f g c columns v before after h
  seen_length (with_text f t) g c columns v before after h = seen_length f g c columns v before after h
  seen_length anything g c columns v before after h = let e = ap length h.1 in omega (arith, e)
  seen_length (observed f) g c columns v before after (mid, e, h) =
      let a = seen_length f g c columns v mid after h in
      let d = ap length e in
      omega (arith, a, d)

lt_cases : (n k : ℕ) → ((nat_lt n k ≡ true) × (n < k)) ⊎ ((nat_lt n k ≡ false) × (k ≤ n))
lt_cases n k = elim (cases_lt n k) [
  | inl h ↦ inl (lt-ltb n k h, h)
  | inr h ↦ inr (le-ltb n k h, h)
]

pub first_seen : (n : ℕ) (f : Fragment) → IsReal f → IsSpine f → seen_in (first_children n f) ≡ length (children_of f) - n
first_seen n (operator o) real s = omega arith
first_seen n (with_child f t) (rf, rt, own) s =
    let a = first_seen n f rf own in
    let d = length-append (children_of f) (t ∷ []) in
    let u = real_unseen t rt in
    elim (lt_cases (length (children_of f)) n) [
      | inl h ↦
          let e : seen_in (cond (nat_lt (length (children_of f)) n) t anything) ≡ 0 = ap (λ b. seen_in (cond b t anything)) h.0 ∙ u in
          let l = h.1 in
          omega (arith, a, d, e, l)
      | inr h ↦
          let e : seen_in (cond (nat_lt (length (children_of f)) n) t anything) ≡ 1 = ap (λ b. seen_in (cond b t anything)) h.0 in
          let l = h.1 in
          omega (arith, a, d, e, l)
    ]
first_seen n (with_name f m) (rf, own) s = first_seen n f rf own
first_seen n (with_number f m) (rf, own) s = first_seen n f rf own
first_seen n (with_text f m) (rf, own) s = first_seen n f rf own
first_seen n (hole p) real s = absurd s
first_seen n (ending l u) real s = absurd s
first_seen n (cell l e r) real s = absurd s
first_seen n anything real s = absurd s
first_seen n (observed f) real s = absurd s

module _ (def : Definition) where
  -- the child of the number takes the place of a free value, and those behind it are seen
  pub record Added (f t : Fragment) (n : ℕ) : Type 0 where
    pub by : Replaces def t (first_children n f) (first_children (suc n) f)
    pub count : seen_in (first_children n f) ≡ 1 + behind def t by

  spine_added : (f t : Fragment) (n : ℕ) → IsReal f → IsSpine f → HasParts def f [] → slice_get (children_of f) n ≡ Some t → Added f t n
  spine_added f t n real s parts at =
      let (by, d) = adds def t f [] n parts at in
      let e = first_seen n f real s in
      record { by = by; count = omega (arith, d, e) }

  some_same : {a b : Fragment} → Some a ≡ Some b → a ≡ b
  some_same e = cc

  cell_added : (l : ℕ) (e r t : Fragment) (n : ℕ) → IsReal (cell l e r) → slice_get (e ∷ r ∷ []) n ≡ Some t → Added (cell l e r) t n
  cell_added l e r t zero real at = subst (λ u. Added (cell l e r) u 0) (some_same at) (record { by = element; count = refl })
  cell_added l e r t (suc zero) (re, rr, list) at =
      subst (λ u. Added (cell l e r) u 1) (some_same at)
      (record { by = rest (list_no_scope def r list); count = ap (λ k. k + 1) (real_unseen e re) })
  cell_added l e r t (suc (suc n)) real at = absurd (none-some t at)

  pub added_at : (f t : Fragment) (n : ℕ) → IsReal f → (IsSpine f → HasParts def f []) → slice_get (added_children f) n ≡ Some t → Added f t n
  added_at (hole p) t n real parts at = absurd (none-some t at)
  added_at (ending l u) t n real parts at = absurd (none-some t at)
  added_at (cell l e r) t n real parts at = cell_added l e r t n real at
  added_at (operator o) t n real parts at = absurd (none-some t at)
  added_at (with_child f u) t n real parts at = spine_added (with_child f u) t n real real.2 (parts real.2) at
  added_at (with_name f m) t n real parts at = spine_added (with_name f m) t n real real.1 (parts real.1) at
  added_at (with_number f m) t n real parts at = spine_added (with_number f m) t n real real.1 (parts real.1) at
  added_at (with_text f m) t n real parts at = spine_added (with_text f m) t n real real.1 (parts real.1) at
  added_at anything t n real parts at = absurd real
  added_at (observed f) t n real parts at = absurd real
