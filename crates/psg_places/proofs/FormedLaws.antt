-- A tree with places opened is well-formed.
use Rattle.std.proofs.Common.{◌≡◌, inl, inr, ℕ, ◌+◌, ◌||◌, ◌&&◌, not, Bool, true, false, cond, List, [], ◌∷◌, Some, slice_get, refl, ap, sym, ◌∙◌, subst, true≢false}
use Rattle.psg_terms.specs.Names.{Name}
use Rattle.psg_grammar.specs.declared.types.Kind.{Kind}
use Rattle.psg_grammar.specs.declared.types.Kind.TheVariants as kinds
use Rattle.psg_grammar.specs.declared.types.Item.{Item}
use Rattle.psg_grammar.specs.declared.types.Item.TheVariants as items
use Rattle.psg_grammar.specs.declared.types.Operator.{Operator}
use Rattle.psg_grammar.specs.declared.types.Definition.{Definition}
use Rattle.psg_grammar.specs.Declaring.{HasHoles}
use Rattle.psg_grammar.specs.Fragments.{Fragment, hole, ending, cell, operator, with_child, with_name, with_number, with_text, anything, observed}
use Rattle.psg_grammar.specs.Insertion.{may_be_unfinished}
use Rattle.psg_grammar.specs.Lookups.{next_item, is_declares}
use Rattle.psg_grammar.specs.Sound.{IsSound}
use Rattle.psg_grammar.specs.WellFormed.{Fits, IsListEnd, IsName, IsPlain, IsUnobserved, WellFormed}
use Rattle.psg_grammar.proofs.SoundParts.{phylum_in}
use Rattle.psg_places.specs.Places as at
use Rattle.psg_places.specs.Places.{declared_count, content_count, element_size, has_no_placeholder, is_hole, is_list, may_go_on, operator_of, phylum_of}
use Rattle.psg_places.specs.Opened.{contents, name_or_fresh, opened, opened_child, opened_element}
use Rattle.psg_places.proofs.SpaceLaws.{quiet}

pub both_ways : {X : Type 0} (P : X → Type 0) (b : Bool) (x y : X) → (b ≡ true → P x) → (b ≡ false → P y) → P (cond b x y)
both_ways P true x y p q = p refl
both_ways P false x y p q = q refl

cons_nil : {X : Type 0} (x : X) (xs : List X) → x ∷ xs ≡ [] → ⊥
cons_nil x xs e = true≢false (ap is_cons e) where
  is_cons : {X : Type 0} → List X → Bool
  is_cons [] = false
  is_cons (y ∷ ys) = true

parts : (a b : Bool) → (a || b) ≡ false → (a ≡ false) × (b ≡ false)
parts true b e = absurd (true≢false e)
parts false b e = (refl, e)

module _ (def : Definition) where
  -- the operator at the top, and the kind
  pub record HasTop (f : Fragment) (kind : Kind) : Type 0 where
    pub number : ℕ
    pub op : Operator
    pub found : slice_get def.operators number ≡ Some op
    pub top : operator_of def f ≡ Some op
    pub is : kind ≡ kinds.Phylum op.phylum

  abbrev again : (f g : Fragment) (kind : Kind) → operator_of def g ≡ operator_of def f → HasTop f kind → HasTop g kind
  again f g kind e h = record { number = h.number; op = h.op; found = h.found; top = e ∙ h.top; is = h.is }

  -- with parts that still follow
  waiting_top : (f : Fragment) (x : Item) (more : List Item) (kind : Kind) → Fits def f (x ∷ more) kind → HasTop f kind
  waiting_top (hole p) x more kind h = absurd (cons_nil x more h.0)
  waiting_top (ending l u) x more kind h = absurd (cons_nil x more h.0)
  waiting_top (cell l e r) x more kind h = absurd (cons_nil x more h.0)
  waiting_top (operator o) x more kind (op, found, m, is) = record { number = o; op = op; found = found; top = found; is = is }
  waiting_top (with_child f t) x more kind (k, h, c) =
      again f (with_child f t) kind refl (waiting_top f (items.Slot k) (x ∷ more) kind h)
  waiting_top (with_name f n) x more kind (inl (s, h), w) =
      again f (with_name f n) kind refl (waiting_top f (items.Refers s) (x ∷ more) kind h)
  waiting_top (with_name f n) x more kind (inr (s, h), w) =
      again f (with_name f n) kind refl (waiting_top f (items.Declares s) (x ∷ more) kind h)
  waiting_top (with_number f n) x more kind (h, w) =
      again f (with_number f n) kind refl (waiting_top f items.Number (x ∷ more) kind h)
  waiting_top (with_text f n) x more kind (h, w) =
      again f (with_text f n) kind refl (waiting_top f items.Text (x ∷ more) kind h)
  waiting_top anything x more kind h = absurd h
  waiting_top (observed f) x more kind h = absurd (cons_nil x more h.0)

  pub node_top : (f : Fragment) (kind : Kind) → Fits def f [] kind → IsPlain f → is_list f ≡ false → is_hole f ≡ false
      → HasTop f kind
  node_top (hole p) kind h w l e = absurd (true≢false e)
  node_top (ending i u) kind h w l e = absurd (true≢false l)
  node_top (cell i a r) kind h w l e = absurd (true≢false l)
  node_top (operator o) kind (op, found, m, is) w l e = record { number = o; op = op; found = found; top = found; is = is }
  node_top (with_child f t) kind (k, h, c) w l e = again f (with_child f t) kind refl (waiting_top f (items.Slot k) [] kind h)
  node_top (with_name f n) kind (inl (s, h), v) w l e = again f (with_name f n) kind refl (waiting_top f (items.Refers s) [] kind h)
  node_top (with_name f n) kind (inr (s, h), v) w l e = again f (with_name f n) kind refl (waiting_top f (items.Declares s) [] kind h)
  node_top (with_number f n) kind (h, v) w l e = again f (with_number f n) kind refl (waiting_top f items.Number [] kind h)
  node_top (with_text f n) kind (h, v) w l e = again f (with_text f n) kind refl (waiting_top f items.Text [] kind h)
  node_top anything kind h w l e = absurd h
  node_top (observed f) kind h w l e = absurd w

  module _ (sound : IsSound def) (keep : ℕ → Bool) (fresh : ℕ → Name) (names : (n : ℕ) → IsName def (fresh n)) where
    pub opened_hole : (t : Fragment) (kind : Kind) → Fits def t [] kind → IsPlain t → has_no_placeholder def t ≡ false
        → is_hole t ≡ false → Fits def (hole (phylum_of def t)) [] kind
    opened_hole t kind h w fixed e =
        let (l, d) = parts (is_list t) (at.declares_by def (operator_of def t)) fixed in
        let top = node_top t kind h w l e in
        let same : phylum_of def t ≡ top.op.phylum = ap at.phylum_in top.top in
        let no : at.declares def top.op.phylum ≡ false = sym (ap (at.declares_by def) top.top) ∙ d in
        let holes = quiet def sound top.op.phylum no in
        subst (λ p. Fits def (hole p) [] kind) (sym same)
        (refl, top.is, phylum_in def sound top.number top.op top.found, subst (HasHoles def) (sym top.is) holes)

    child_fits : (n : ℕ) (t : Fragment) (kind : Kind) (as_fixed as_node : Fragment) → Fits def t [] kind → IsPlain t
        → Fits def as_fixed [] kind → Fits def as_node [] kind
        → Fits def (opened_child def keep fresh n t as_fixed as_node) [] kind
    child_fits n t kind as_fixed as_node h w a b =
        both_ways (λ f. Fits def f [] kind) (has_no_placeholder def t) as_fixed
        (cond (is_hole t) t (cond (keep n) as_node (hole (phylum_of def t)))) (λ e. a)
        (λ fixed. both_ways (λ f. Fits def f [] kind) (is_hole t) t (cond (keep n) as_node (hole (phylum_of def t)))
        (λ e. h)
        (λ other. both_ways (λ f. Fits def f [] kind) (keep n) as_node (hole (phylum_of def t)) (λ e. b)
        (λ e. opened_hole t kind h w fixed other)))

    pub child_plain : (n : ℕ) (t as_fixed as_node : Fragment) → IsPlain t → IsPlain as_fixed → IsPlain as_node
        → IsPlain (opened_child def keep fresh n t as_fixed as_node)
    child_plain n t as_fixed as_node w a b =
        both_ways IsPlain (has_no_placeholder def t) as_fixed (cond (is_hole t) t (cond (keep n) as_node (hole (phylum_of def t))))
        (λ e. a)
        (λ fixed. both_ways IsPlain (is_hole t) t (cond (keep n) as_node (hole (phylum_of def t))) (λ e. w)
        (λ other. both_ways IsPlain (keep n) as_node (hole (phylum_of def t)) (λ e. b) (λ e. tt)))

    pub plain : (d n : ℕ) (f : Fragment) → IsPlain f → IsPlain (contents def keep fresh d n f)
    plain d n (hole p) w = tt
    plain d n (ending l u) w = tt
    plain d n (cell l e r) w =
        let m = n + element_size def l e (content_count def e) in
        let R = plain d m r w.1 in
        let E = contents def keep fresh (n + 1) (n + 1 + declared_count def e) e in
        let C = opened_child def keep fresh (n + 1) e (contents def keep fresh 0 (n + 1) e)
        (contents def keep fresh (n + 1 + 1) (n + 1 + 1 + declared_count def e) e) in
        let element = opened_element def keep fresh e E C in
        let is : IsPlain element = both_ways IsPlain (has_no_placeholder def e) E C
        (λ b. plain (n + 1) (n + 1 + declared_count def e) e w.0)
        (λ b. child_plain (n + 1) e (contents def keep fresh 0 (n + 1) e)
        (contents def keep fresh (n + 1 + 1) (n + 1 + 1 + declared_count def e) e) w.0 (plain 0 (n + 1) e w.0)
        (plain (n + 1 + 1) (n + 1 + 1 + declared_count def e) e w.0)) in
        let fixed_child = opened_child def keep fresh n e (contents def keep fresh d n e)
        (contents def keep fresh (n + 1) (n + 1 + declared_count def e) e) in
        let rest = contents def keep fresh d m r in
        let far = contents def keep fresh (d + cond (has_no_placeholder def e) (declared_count def e) 0) m r in
        both_ways IsPlain (may_go_on def l) (cond (keep n) (cell l element rest) rest) (cell l fixed_child far)
        (λ b. both_ways IsPlain (keep n) (cell l element rest) rest (λ c. (is, R)) (λ c. R))
        (λ b. (
          child_plain n e (contents def keep fresh d n e)
              (contents def keep fresh (n + 1) (n + 1 + declared_count def e) e) w.0 (plain d n e w.0)
              (plain (n + 1) (n + 1 + declared_count def e) e w.0),
          plain (d + cond (has_no_placeholder def e) (declared_count def e) 0) m r w.1,
        ))
    plain d n (operator o) w = tt
    plain d n (with_child f t) w = (
      plain d n f w.0,
      child_plain (n + content_count def f) t
          (contents def keep fresh (d + declared_count def f) (n + content_count def f) t)
          (contents def keep fresh (n + content_count def f + 1) (n + content_count def f + 1 + declared_count def t) t) w.1
          (plain (d + declared_count def f) (n + content_count def f) t w.1)
          (plain (n + content_count def f + 1) (n + content_count def f + 1 + declared_count def t) t w.1),
    )
    plain d n (with_name f x) w = plain d n f w
    plain d n (with_number f x) w = plain d n f w
    plain d n (with_text f x) w = plain d n f w
    plain d n anything w = tt
    plain d n (observed f) w = w

    unobserved : (f : Fragment) → IsPlain f → IsUnobserved f
    unobserved (hole p) w = tt
    unobserved (ending l u) w = tt
    unobserved (cell l e r) w = tt
    unobserved (operator o) w = tt
    unobserved (with_child f t) w = tt
    unobserved (with_name f x) w = tt
    unobserved (with_number f x) w = tt
    unobserved (with_text f x) w = tt
    unobserved anything w = tt
    unobserved (observed f) w = w

    name_is : (n : ℕ) (x : Name) → IsName def x → IsName def (name_or_fresh def keep fresh n x)
    name_is n x h = both_ways (IsName def) (keep n) x (fresh n) (λ e. h) (λ e. names n)

    from_may : (m c : Bool) → (m && c) ≡ true → m ≡ true
    from_may true c e = refl
    from_may false c e = absurd (true≢false (sym e))

    end_allowed : (l : ℕ) (u b : Bool) → IsListEnd def l u → IsListEnd def l (u || (may_go_on def l && b))
    end_allowed l true b (kind, found, allowed) = (kind, found, λ e. allowed refl)
    end_allowed l false b (kind, found, allowed) =
        (kind, found, λ e. sym (ap may_be_unfinished found) ∙ from_may (may_go_on def l) b e)

    -- a list of the kind, also where more is said of it
    as_list : (g : Fragment) (l : ℕ) (more : List Item) (kind : Kind) → more ≡ [] → kind ≡ kinds.List l
        → Fits def g [] (kinds.List l) → Fits def g more kind
    as_list g l more kind m k h = subst (λ j. Fits def g more j) (sym k) (subst (λ ms. Fits def g ms (kinds.List l)) (sym m) h)

    either_name : (f : Fragment) (x : Name) → IsName def x → (d n : ℕ) → IsName def
        (cond (is_declares (next_item def f)) (name_or_fresh def keep fresh (d + declared_count def f) x)
        (name_or_fresh def keep fresh (n + content_count def f) x))
    either_name f x v d n =
        both_ways (IsName def) (is_declares (next_item def f)) (name_or_fresh def keep fresh (d + declared_count def f) x)
        (name_or_fresh def keep fresh (n + content_count def f) x)
        (λ e. name_is (d + declared_count def f) x v) (λ e. name_is (n + content_count def f) x v)

    pub fits : (f : Fragment) (more : List Item) (kind : Kind) → Fits def f more kind → IsPlain f → (d n : ℕ)
        → Fits def (contents def keep fresh d n f) more kind
    fits (hole p) more kind h w d n = h
    fits (ending l u) more kind (m, k, end) w d n = (m, k, end_allowed l u (not (keep n)) end)
    fits (cell l e r) more kind (m, k, own, found, he, hr, un) w d n =
        let next = n + element_size def l e (content_count def e) in
        let rest = contents def keep fresh d next r in
        let above = d + cond (has_no_placeholder def e) (declared_count def e) 0 in
        let far = contents def keep fresh above next r in
        let phylum = kinds.Phylum own.element in
        let E = contents def keep fresh (n + 1) (n + 1 + declared_count def e) e in
        let N = contents def keep fresh (n + 1 + 1) (n + 1 + 1 + declared_count def e) e in
        let C = opened_child def keep fresh (n + 1) e (contents def keep fresh 0 (n + 1) e) N in
        let element = opened_element def keep fresh e E C in
        let fe = fits e [] phylum he w.0 in
        let element_is : Fits def element [] phylum = both_ways (λ g. Fits def g [] phylum) (has_no_placeholder def e) E C
        (λ b. fe (n + 1) (n + 1 + declared_count def e))
        (λ b. child_fits (n + 1) e phylum (contents def keep fresh 0 (n + 1) e) N he w.0 (fe 0 (n + 1))
        (fe (n + 1 + 1) (n + 1 + 1 + declared_count def e))) in
        let fixed_child = opened_child def keep fresh n e (contents def keep fresh d n e) E in
        let child_is : Fits def fixed_child [] phylum =
        child_fits n e phylum (contents def keep fresh d n e) E he w.0 (fe d n)
        (fe (n + 1) (n + 1 + declared_count def e)) in
        let rest_is : Fits def rest [] (kinds.List l) = fits r [] (kinds.List l) hr w.1 d next in
        let far_is : Fits def far [] (kinds.List l) = fits r [] (kinds.List l) hr w.1 above next in
        both_ways (λ g. Fits def g more kind) (may_go_on def l) (cond (keep n) (cell l element rest) rest)
        (cell l fixed_child far)
        (λ b. both_ways (λ g. Fits def g more kind) (keep n) (cell l element rest) rest
        (λ c. (m, k, own, found, element_is, rest_is, unobserved rest (plain d next r w.1)))
        (λ c. as_list rest l more kind m k rest_is))
        (λ b. (m, k, own, found, child_is, far_is, unobserved far (plain above next r w.1)))
    fits (operator o) more kind h w d n = h
    fits (with_child f t) more kind (k, hf, ht) w d n =
        let a = d + declared_count def f in
        let p = n + content_count def f in (
          k,
          fits f (items.Slot k ∷ more) kind hf w.0 d n,
          child_fits p t k (contents def keep fresh a p t)
              (contents def keep fresh (p + 1) (p + 1 + declared_count def t) t) ht w.1 (fits t [] k ht w.1 a p)
              (fits t [] k ht w.1 (p + 1) (p + 1 + declared_count def t)),
        )
    fits (with_name f x) more kind (inl (s, h), v) w d n =
        (inl (s, fits f (items.Refers s ∷ more) kind h w d n), either_name f x v d n)
    fits (with_name f x) more kind (inr (s, h), v) w d n =
        (inr (s, fits f (items.Declares s ∷ more) kind h w d n), either_name f x v d n)
    fits (with_number f x) more kind (h, v) w d n = (fits f (items.Number ∷ more) kind h w d n, v)
    fits (with_text f x) more kind (h, v) w d n = (fits f (items.Text ∷ more) kind h w d n, v)
    fits anything more kind h w d n = h
    fits (observed f) more kind h w d n = h

    pub formed : (f : Fragment) (kind : Kind) → WellFormed def f kind → WellFormed def (opened def keep fresh f) kind
    formed f kind h =
        let a = contents def keep fresh 0 (declared_count def f) f in
        let b = contents def keep fresh 1 (1 + declared_count def f) f in (
          child_fits 0 f kind a b h.0 h.1 (fits f [] kind h.0 h.1 0 (declared_count def f))
              (fits f [] kind h.0 h.1 1 (1 + declared_count def f)),
          child_plain 0 f a b h.1 (plain 0 (declared_count def f) f h.1) (plain 1 (1 + declared_count def f) f h.1),
        )
