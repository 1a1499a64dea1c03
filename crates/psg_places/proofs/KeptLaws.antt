-- A tree of which all places are kept is as it was.
use Rattle.std.proofs.Common.{◌≡◌, ℕ, ◌+◌, ◌≤◌, ◌||◌, ◌&&◌, not, Bool, true, false, cond, refl, ap, ap₂, sym, ◌∙◌, arith, true≢false}
use Rattle.psg_terms.specs.Names.{Name}
use Rattle.psg_grammar.specs.declared.types.Definition.{Definition}
use Rattle.psg_grammar.specs.Fragments.{Fragment, hole, ending, cell, operator, with_child, with_name, with_number, with_text, anything, observed}
use Rattle.psg_grammar.specs.Lookups.{next_item, is_declares}
use Rattle.psg_places.specs.declared.opening.Keeping.{Keeping}
use Rattle.psg_places.specs.Blame.{kept_in}
use Rattle.psg_places.specs.NewNames.{new_name}
use Rattle.psg_places.specs.Opened.{contents, name_or_fresh, opened_child, opened_element}
use Rattle.psg_places.specs.Openings.{Keeps, free_at, own_size}
use Rattle.psg_places.specs.Places.{child_size, content_count, declared_count, element_size, has_no_placeholder, is_hole, may_go_on, phylum_of}
use Rattle.psg_places.proofs.FormedLaws.{both_ways}

ends : (u b k : Bool) → (u ≡ false → b ≡ true → k ≡ true) → (u || (b && not k)) ≡ u
ends true b k h = refl
ends false false k h = refl
ends false true k h = ap not (h refl refl)

abbrev one_if : Bool → ℕ
one_if b = cond b 1 0

abbrev none_if : Bool → ℕ
none_if b = cond b 0 1

narrow : (keep : ℕ → Bool) (from to low high : ℕ) → Keeps keep from to → from ≤ low → high ≤ to → Keeps keep low high
narrow keep from to low high h a b m x y = h m (omega (arith, a, x)) (omega (arith, b, y))

module _ (def : Definition) (keep : ℕ → Bool) (fresh : ℕ → Name) where
  abbrev now : ℕ → ℕ → Fragment → Fragment
  now d n f = contents def keep fresh d n f

  -- the tree as it was, if its places are kept
  abbrev Same : Fragment → Type 0
  Same t = (d n : ℕ) → Keeps keep d (d + declared_count def t) → Keeps keep n (n + content_count def t) → now d n t ≡ t

  fixed_size : (t : Fragment) → has_no_placeholder def t ≡ true → child_size def t (content_count def t) ≡ content_count def t
  fixed_size t b =
      let c = content_count def t in
      ap (λ x. cond x c (cond (is_hole t) 0 (1 + (declared_count def t + c)))) b

  node_size : (t : Fragment) → has_no_placeholder def t ≡ false → is_hole t ≡ false
      → child_size def t (content_count def t) ≡ 1 + (declared_count def t + content_count def t)
  node_size t b h =
      let c = content_count def t in
      ap₂ (λ x y. cond x c (cond y 0 (1 + (declared_count def t + c)))) b h

  -- a child at n, whose declared names are at d if it has no placeholder
  kid : (d n : ℕ) (t : Fragment) → Same t → Keeps keep d (d + cond (has_no_placeholder def t) (declared_count def t) 0)
      → Keeps keep n (n + child_size def t (content_count def t))
      → opened_child def keep fresh n t (now d n t) (now (n + 1) (n + 1 + declared_count def t) t) ≡ t
  kid d n t same hd hn =
      let own = declared_count def t in
      let size = child_size def t (content_count def t) in
      let as_node = now (n + 1) (n + 1 + own) t in
      let shut = hole (phylum_of def t) in
      both_ways (λ x. x ≡ t) (has_no_placeholder def t) (now d n t) (cond (is_hole t) t (cond (keep n) as_node shut))
      (λ b.
      let e = ap (λ x. cond x own 0) b in
      let s = fixed_size t b in
      same d n (narrow keep d (d + cond (has_no_placeholder def t) own 0) d (d + own) hd (omega arith) (omega (arith, e)))
      (narrow keep n (n + size) n (n + content_count def t) hn (omega arith) (omega (arith, s))))
      (λ b. both_ways (λ x. x ≡ t) (is_hole t) t (cond (keep n) as_node shut) (λ h. refl)
      (λ h.
      let s = node_size t b h in
      both_ways (λ x. x ≡ t) (keep n) as_node shut
      (λ k. same (n + 1) (n + 1 + own)
      (narrow keep n (n + size) (n + 1) (n + 1 + own) hn (omega arith) (omega (arith, s)))
      (narrow keep n (n + size) (n + 1 + own) (n + 1 + own + content_count def t) hn (omega arith) (omega (arith, s))))
      (λ k. absurd (true≢false (sym (hn n (omega arith) (omega (arith, s))) ∙ k)))))

  -- an element of a list that may go on, whose own place is before n
  element : (n : ℕ) (e : Fragment) → Same e
      → Keeps keep n (n + cond (has_no_placeholder def e) (declared_count def e + content_count def e)
      (child_size def e (content_count def e)))
      → opened_element def keep fresh e (now n (n + declared_count def e) e)
      (opened_child def keep fresh n e (now 0 n e) (now (n + 1) (n + 1 + declared_count def e) e)) ≡ e
  element n e same h =
      let own = declared_count def e in
      let all = content_count def e in
      let size = child_size def e all in
      let most = cond (has_no_placeholder def e) (own + all) size in
      both_ways (λ x. x ≡ e) (has_no_placeholder def e) (now n (n + own) e)
      (opened_child def keep fresh n e (now 0 n e) (now (n + 1) (n + 1 + own) e))
      (λ b.
      let s = ap (λ x. cond x (own + all) size) b in
      same n (n + own) (narrow keep n (n + most) n (n + own) h (omega arith) (omega (arith, s)))
      (narrow keep n (n + most) (n + own) (n + own + all) h (omega arith) (omega (arith, s))))
      (λ b.
      let s = ap (λ x. cond x (own + all) size) b in
      let none = ap (λ x. cond x own 0) b in
      kid 0 n e same (λ m low high. absurd (omega (arith, none, high)))
      (narrow keep n (n + most) n (n + size) h (omega arith) (omega (arith, s))))

  name : (n : ℕ) (x : Name) → keep n ≡ true → name_or_fresh def keep fresh n x ≡ x
  name n x e = ap (λ b. cond b x (fresh n)) e

  same : (f : Fragment) → Same f
  same (hole p) d n hd hn = refl
  same (ending l u) d n hd hn =
      ap (ending l) (ends u (may_go_on def l) (keep n)
      (λ a b. let s : one_if (may_go_on def l && not u) ≡ one_if true = ap₂ (λ x y. one_if (x && not y)) b a in hn n (omega arith) (omega (arith, s))))
  same (cell l e r) d n hd hn =
      let free = may_go_on def l in
      let own = declared_count def e in
      let all = content_count def e in
      let names = cond (has_no_placeholder def e) own 0 in
      let size = element_size def l e all in
      let m = n + size in
      let inside = opened_element def keep fresh e (now (n + 1) (n + 1 + own) e)
      (opened_child def keep fresh (n + 1) e (now 0 (n + 1) e) (now (n + 1 + 1) (n + 1 + 1 + own) e)) in
      let child = opened_child def keep fresh n e (now d n e) (now (n + 1) (n + 1 + own) e) in
      let more = cond (has_no_placeholder def e) (own + all) (child_size def e all) in
      let end = d + (cond free 0 names + declared_count def r) in
      let last = n + (size + content_count def r) in
      let after = narrow keep n last m (m + content_count def r) hn (omega arith) (omega arith) in
      both_ways (λ x. x ≡ cell l e r) free (cond (keep n) (cell l inside (now d m r)) (now d m r))
      (cell l child (now (d + names) m r))
      (λ b.
      let s = ap (λ x. cond x (1 + more) (child_size def e all)) b in
      let t = ap (λ x. cond x 0 names) b in
      both_ways (λ x. x ≡ cell l e r) (keep n) (cell l inside (now d m r)) (now d m r)
      (λ k. ap₂ (cell l)
      (element (n + 1) e (λ i j. same e i j)
      (narrow keep n last (n + 1) (n + 1 + more) hn (omega arith) (omega (arith, s))))
      (same r d m (narrow keep d end d (d + declared_count def r) hd (omega arith) (omega (arith, t))) after))
      (λ k. absurd (true≢false (sym (hn n (omega arith) (omega (arith, s))) ∙ k))))
      (λ b.
      let s = ap (λ x. cond x (1 + more) (child_size def e all)) b in
      let t = ap (λ x. cond x 0 names) b in
      ap₂ (cell l)
      (kid d n e (λ i j. same e i j)
      (narrow keep d end d (d + names) hd (omega arith) (omega (arith, t)))
      (narrow keep n last n (n + child_size def e all) hn (omega arith) (omega (arith, s))))
      (same r (d + names) m
      (narrow keep d end (d + names) (d + names + declared_count def r) hd (omega arith) (omega (arith, t))) after))
  same (operator o) d n hd hn = refl
  same (with_child f t) d n hd hn =
      let names = cond (has_no_placeholder def t) (declared_count def t) 0 in
      let size = child_size def t (content_count def t) in
      let a = d + declared_count def f in
      let p = n + content_count def f in
      let end = d + (declared_count def f + names) in
      let last = n + (content_count def f + size) in
      ap₂ with_child
      (same f d n (narrow keep d end d a hd (omega arith) (omega arith)) (narrow keep n last n p hn (omega arith) (omega arith)))
      (kid a p t (λ i j. same t i j) (narrow keep d end a (a + names) hd (omega arith) (omega arith))
      (narrow keep n last p (p + size) hn (omega arith) (omega arith)))
  same (with_name f x) d n hd hn =
      let own = is_declares (next_item def f) in
      let a = d + declared_count def f in
      let p = n + content_count def f in
      let end = d + (declared_count def f + cond own 1 0) in
      let last = n + (content_count def f + cond own 0 1) in
      ap₂ with_name
      (same f d n (narrow keep d end d a hd (omega arith) (omega arith)) (narrow keep n last n p hn (omega arith) (omega arith)))
      (both_ways (λ y. y ≡ x) own (name_or_fresh def keep fresh a x) (name_or_fresh def keep fresh p x)
      (λ b. let s : one_if own ≡ one_if true = ap one_if b in name a x (hd a (omega arith) (omega (arith, s))))
      (λ b. let s : none_if own ≡ none_if false = ap none_if b in name p x (hn p (omega arith) (omega (arith, s)))))
  same (with_number f x) d n hd hn = ap (λ g. with_number g x) (same f d n hd hn)
  same (with_text f x) d n hd hn = ap (λ g. with_text g x) (same f d n hd hn)
  same anything d n hd hn = refl
  same (observed f) d n hd hn = refl

-- an element of a list that may go on with all its places
pub kept_whole : (k : Keeping) (n : ℕ) (e : Fragment)
    → Keeps (kept_in k.keep.now) n (n + own_size k.definition.now true e) → free_at k n e ≡ e
kept_whole k n e h =
    let def = k.definition.now in
    let keep = kept_in k.keep.now in
    let own = declared_count def e in
    let all = content_count def e in
    let more = cond (has_no_placeholder def e) (own + all) (child_size def e all) in
    element def keep (λ i. new_name k.front.now i) (n + 1) e (λ i j. same def keep (λ i. new_name k.front.now i) e i j)
    (narrow keep n (n + (1 + more)) (n + 1) (n + 1 + more) h (omega arith) (omega arith))
