-- All places kept give the tree itself.
use Rattle.std.proofs.Common.{◌≡◌, ℕ, ◌+◌, ◌||◌, ◌&&◌, Bool, true, false, cond, refl, ap, ap₂}
use Rattle.psg_terms.specs.Names.{Name}
use Rattle.psg_grammar.specs.declared.types.Definition.{Definition}
use Rattle.psg_grammar.specs.Fragments.{Fragment, hole, ending, cell, operator, with_child, with_name, with_number}
use Rattle.psg_grammar.specs.Fragments.{with_text, anything, observed}
use Rattle.psg_grammar.specs.Lookups.{next_item, is_declares}
use Rattle.psg_places.specs.Places.{has_no_placeholder, is_hole, may_go_on, declared_count, content_count, element_size}
use Rattle.psg_places.specs.Opened.{opened_child, contents}
use Rattle.psg_places.specs.Blame.{IsWhole}

either : {X : Type 0} {x y z : X} (b : Bool) → x ≡ z → y ≡ z → cond b x y ≡ z
either true p q = p
either false p q = q

ends : (u b : Bool) → (u || (b && false)) ≡ u
ends true b = refl
ends false true = refl
ends false false = refl

module _ (def : Definition) (fresh : ℕ → Name) where
  abbrev now : ℕ → ℕ → Fragment → Fragment
  now d n f = contents def (λ n. true) fresh d n f

  child : (n : ℕ) (t as_fixed as_node : Fragment) → as_fixed ≡ t → as_node ≡ t
      → opened_child def (λ n. true) fresh n t as_fixed as_node ≡ t
  child n t as_fixed as_node p q = either (has_no_placeholder def t) p (either (is_hole t) refl q)

  same : (d n : ℕ) (f : Fragment) → now d n f ≡ f
  same d n (hole p) = refl
  same d n (ending l u) = ap (ending l) (ends u (may_go_on def l))
  same d n (cell l e r) =
      let m = n + element_size def l e (content_count def e) in
      either (may_go_on def l)
      (ap₂ (cell l)
      (either (has_no_placeholder def e) (same (n + 1) (n + 1 + declared_count def e) e)
      (child (n + 1) e (now 0 (n + 1) e) (now (n + 1 + 1) (n + 1 + 1 + declared_count def e) e) (same 0 (n + 1) e)
      (same (n + 1 + 1) (n + 1 + 1 + declared_count def e) e)))
      (same d m r))
      (ap₂ (cell l)
      (child n e (now d n e) (now (n + 1) (n + 1 + declared_count def e) e) (same d n e)
      (same (n + 1) (n + 1 + declared_count def e) e))
      (same (d + cond (has_no_placeholder def e) (declared_count def e) 0) m r))
  same d n (operator o) = refl
  same d n (with_child f t) =
      let a = d + declared_count def f in
      let p = n + content_count def f in
      ap₂ with_child (same d n f)
      (child p t (now a p t) (now (p + 1) (p + 1 + declared_count def t) t) (same a p t)
      (same (p + 1) (p + 1 + declared_count def t) t))
  same d n (with_name f x) = ap₂ with_name (same d n f) (either (is_declares (next_item def f)) refl refl)
  same d n (with_number f x) = ap (λ g. with_number g x) (same d n f)
  same d n (with_text f x) = ap (λ g. with_text g x) (same d n f)
  same d n anything = refl
  same d n (observed f) = refl

pub whole : (def : Definition) → IsWhole def
whole def fresh f =
    child def fresh 0 f (now def fresh 0 (declared_count def f) f) (now def fresh 1 (1 + declared_count def f) f)
    (same def fresh 0 (declared_count def f) f) (same def fresh 1 (1 + declared_count def f) f)
