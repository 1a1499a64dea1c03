-- The names of a tree with places opened are short if those of the tree and the new ones are.
use Rattle.std.proofs.Common.{inl, inr, ℕ, ◌+◌, ◌<◌, ◌≤◌, nat_lt, Bool, true, false, cond, [], length, refl, ap, sym, subst, arith}
use Rattle.std.proofs.lemmas.Bool.{cases_lt, lt-ltb, le-ltb}
use Rattle.psg_terms.specs.Names.{Name}
use Rattle.psg_grammar.specs.declared.types.Definition.{Definition}
use Rattle.psg_grammar.specs.Fragments.{Fragment, hole, ending, cell, operator, with_child, with_name, with_number}
use Rattle.psg_grammar.specs.Fragments.{with_text, anything, observed}
use Rattle.psg_grammar.specs.Lookups.{is_declares, next_item}
use Rattle.psg_grammar.specs.Printable.{IsPrintable}
use Rattle.psg_places.specs.Opened.{contents, opened, opened_child}
use Rattle.psg_places.specs.Places.{content_count, declared_count, element_size, has_no_placeholder, is_hole, may_go_on, phylum_of, place_count}
use Rattle.psg_places.proofs.OfPlacesLaws.{of_places}

by_test : {X : Type 0} (P : X → Type 0) (b : Bool) (x y : X) → P x → P y → P (cond b x y)
by_test P true x y p q = p
by_test P false x y p q = q

module _ (def : Definition) (keep : ℕ → Bool) (fresh : ℕ → Name) (short : (n : ℕ) → length (fresh n) ≤ 255) where
  abbrev now : ℕ → ℕ → Fragment → Fragment
  now d n f = contents def keep fresh d n f

  child_prints : (n : ℕ) (t x y : Fragment) → IsPrintable t → IsPrintable x → IsPrintable y
      → IsPrintable (opened_child def keep fresh n t x y)
  child_prints n t x y p q r =
      by_test IsPrintable (has_no_placeholder def t) x _ q
      (by_test IsPrintable (is_hole t) t _ p (by_test IsPrintable (keep n) y (hole (phylum_of def t)) r tt))

  prints : (d n : ℕ) (f : Fragment) → IsPrintable f → IsPrintable (now d n f)
  prints d n (hole p) h = tt
  prints d n (ending l u) h = tt
  prints d n (cell l e r) h =
      let m = n + element_size def l e (content_count def e) in
      let E = prints (n + 1) (n + 1 + declared_count def e) e h.0 in
      let R = prints d m r h.1 in
      let far = d + cond (has_no_placeholder def e) (declared_count def e) 0 in
      by_test IsPrintable (may_go_on def l) _ _
      (by_test IsPrintable (keep n) _ (now d m r) (
        by_test IsPrintable (has_no_placeholder def e) _ _ E
            (child_prints (n + 1) e _ _ h.0 (prints 0 (n + 1) e h.0) (prints (n + 1 + 1) (n + 1 + 1 + declared_count def e) e h.0)),
        R,
      )
      R)
      (child_prints n e _ _ h.0 (prints d n e h.0) E, prints far m r h.1)
  prints d n (operator o) h = tt
  prints d n (with_child f t) h =
      let a = d + declared_count def f in
      let m = n + content_count def f in (
        prints d n f h.0,
        child_prints m t _ _ h.1 (prints a m t h.1) (prints (m + 1) (m + 1 + declared_count def t) t h.1),
      )
  prints d n (with_name f x) h = (
    prints d n f h.0,
    by_test (λ (y : Name). length y ≤ 255) (is_declares (next_item def f)) _ _
        (by_test (λ (y : Name). length y ≤ 255) (keep (d + declared_count def f)) x _ h.1 (short (d + declared_count def f)))
        (by_test (λ (y : Name). length y ≤ 255) (keep (n + content_count def f)) x _ h.1 (short (n + content_count def f))),
  )
  prints d n (with_number f x) h = prints d n f h
  prints d n (with_text f x) h = (prints d n f h.0, h.1, h.2)
  prints d n anything h = tt
  prints d n (observed f) h = h

  opened_prints : (f : Fragment) → IsPrintable f → IsPrintable (opened def keep fresh f)
  opened_prints f h =
      child_prints 0 f _ _ h (prints 0 (declared_count def f) f h) (prints 1 (1 + declared_count def f) f h)

-- only the names of places are asked for
pub prints_by_places : (def : Definition) (keep : ℕ → Bool) (fresh : ℕ → Name) (f : Fragment)
    → ((n : ℕ) → n < place_count def f → length (fresh n) ≤ 255) → IsPrintable f → IsPrintable (opened def keep fresh f)
prints_by_places def keep fresh f short h =
    let most = place_count def f in
    let total = λ (n : ℕ). cond (nat_lt n most) (fresh n) [] in
    subst IsPrintable
    (sym (of_places def f keep keep fresh total (λ n lt. refl) (λ n lt. ap (λ b. cond b (fresh n) []) (sym (lt-ltb n most lt)))))
    (opened_prints def keep total (λ n. one n) f h) where
      one : (n : ℕ) → length (cond (nat_lt n (place_count def f)) (fresh n) []) ≤ 255
      one n = elim (cases_lt n (place_count def f)) [
        | inl below ↦ subst (λ b. length (cond b (fresh n) []) ≤ 255) (sym (lt-ltb n (place_count def f) below)) (short n below)
        | inr above ↦ subst (λ b. length (cond b (fresh n) []) ≤ 255) (sym (le-ltb n (place_count def f) above)) (omega arith)
      ]
