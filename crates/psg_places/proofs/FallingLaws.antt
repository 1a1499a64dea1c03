-- A good tree is still good with its places from some number on opened.
use Rattle.std.proofs.Common.{◌≡◌, inl, inr, ℕ, zero, suc, ◌+◌, ◌<◌, ◌≤◌, ◌||◌, ◌&&◌, Bool, true, false, cond, [], ◌∷◌, ◌++◌, bytes_eq, refl, ap, ap₂, sym, ◌∙◌, subst, arith, true≢false}
use Rattle.std.proofs.lemmas.Bool.{cases_lt, false_from_ne_true, le-ltb, lt-ltb, or_left, or_right}
use Rattle.psg_terms.specs.Names.{Name, is_among}
use Rattle.psg_terms.proofs.DeclareLaws.{bytes_eq-same, bytes_eq-refl}
use Rattle.psg_grammar.specs.declared.types.Kind.{Kind}
use Rattle.psg_grammar.specs.declared.types.Definition.{Definition}
use Rattle.psg_grammar.specs.Fragments.{Fragment, hole, ending, cell, operator, with_child, with_name, with_number, with_text, anything, observed}
use Rattle.psg_grammar.specs.Legal.{IsCompletable}
use Rattle.psg_grammar.specs.Lookups.{is_declares, next_item}
use Rattle.psg_grammar.specs.Open.{IsOpen}
use Rattle.psg_grammar.specs.Sound.{IsSound}
use Rattle.psg_grammar.specs.WellFormed.{IsName, WellFormed}
use Rattle.psg_completions.specs.Conditions.{HasTrueRows}
use Rattle.psg_completions.proofs.Law.{open_or_completable}
use Rattle.psg_completions.proofs.LongNames.{fresh as long_name}
use Rattle.psg_completions.proofs.NameLaws.{none_both, none_left, none_right}
use Rattle.psg_renaming.specs.Occurring.{occurring}
use Rattle.psg_places.specs.Blame.{IsFalling, kept_of_first}
use Rattle.psg_places.specs.NewNames.{AreNew}
use Rattle.psg_places.specs.Opened.{contents, name_or_fresh, opened, opened_child, opened_element}
use Rattle.psg_places.specs.Places.{content_count, declared_count, element_size, has_no_placeholder, is_hole, may_go_on, phylum_of, place_count}
use Rattle.psg_places.proofs.BlameLaws.{bool_cases, passed_at}
use Rattle.psg_places.proofs.ForAllNames.{firsts, formed_new, within, within_is}
use Rattle.psg_places.proofs.FormedLaws.{both_ways, formed}
use Rattle.psg_places.proofs.LooserLaws.{open_looser}
use Rattle.psg_places.proofs.OfPlacesLaws.{of_places}
use Rattle.psg_places.proofs.RenameLaws.{open_renamed}
use Rattle.psg_places.proofs.StepLaws.{Any, Change, less, none, renamed, step}

-- ---- a name that the tree with places opened does not have

module _ (def : Definition) (keep : ℕ → Bool) (fresh : ℕ → Name) (z : Name) (other : (i : ℕ) → keep i ≡ false → bytes_eq (fresh i) z ≡ false) where
  abbrev Lacks : Fragment → Type 0
  Lacks f = is_among (occurring f) z ≡ false

  lacks_name : (n : ℕ) (x : Name) → is_among (x ∷ []) z ≡ false → is_among (name_or_fresh def keep fresh n x ∷ []) z ≡ false
  lacks_name n x h =
      both_ways (λ y. is_among (y ∷ []) z ≡ false) (keep n) x (fresh n) (λ e. h) (λ e. ap (λ b. b || false) (other n e))

  lacks_kid : (n : ℕ) (t as_fixed as_node : Fragment) → Lacks t → Lacks as_fixed → Lacks as_node
      → Lacks (opened_child def keep fresh n t as_fixed as_node)
  lacks_kid n t as_fixed as_node h a b =
      both_ways Lacks (has_no_placeholder def t) as_fixed (cond (is_hole t) t (cond (keep n) as_node (hole (phylum_of def t))))
      (λ e. a)
      (λ fixed. both_ways Lacks (is_hole t) t (cond (keep n) as_node (hole (phylum_of def t))) (λ e. h)
      (λ other. both_ways Lacks (keep n) as_node (hole (phylum_of def t)) (λ e. b) (λ e. refl)))

  lacks : (d n : ℕ) (f : Fragment) → Lacks f → Lacks (contents def keep fresh d n f)
  lacks d n (hole p) h = refl
  lacks d n (ending l u) h = refl
  lacks d n (cell l e r) h =
      let m = n + element_size def l e (content_count def e) in
      let he = none_left (occurring e) (occurring r) z h in
      let hr = none_right (occurring e) (occurring r) z h in
      let E = contents def keep fresh (n + 1) (n + 1 + declared_count def e) e in
      let C = opened_child def keep fresh (n + 1) e (contents def keep fresh 0 (n + 1) e)
      (contents def keep fresh (n + 1 + 1) (n + 1 + 1 + declared_count def e) e) in
      let element = opened_element def keep fresh e E C in
      let is : Lacks element = both_ways Lacks (has_no_placeholder def e) E C
      (λ b. lacks (n + 1) (n + 1 + declared_count def e) e he)
      (λ b. lacks_kid (n + 1) e (contents def keep fresh 0 (n + 1) e)
      (contents def keep fresh (n + 1 + 1) (n + 1 + 1 + declared_count def e) e) he (lacks 0 (n + 1) e he)
      (lacks (n + 1 + 1) (n + 1 + 1 + declared_count def e) e he)) in
      let kid = opened_child def keep fresh n e (contents def keep fresh d n e) E in
      let rest = contents def keep fresh d m r in
      let wide = d + cond (has_no_placeholder def e) (declared_count def e) 0 in
      let far = contents def keep fresh wide m r in
      both_ways Lacks (may_go_on def l) (cond (keep n) (cell l element rest) rest) (cell l kid far)
      (λ b. both_ways Lacks (keep n) (cell l element rest) rest
      (λ c. none_both (occurring element) (occurring rest) z is (lacks d m r hr)) (λ c. lacks d m r hr))
      (λ b. none_both (occurring kid) (occurring far) z
      (lacks_kid n e (contents def keep fresh d n e) E he (lacks d n e he) (lacks (n + 1) (n + 1 + declared_count def e) e he))
      (lacks wide m r hr))
  lacks d n (operator o) h = refl
  lacks d n (with_child f t) h =
      let hf = none_left (occurring f) (occurring t) z h in
      let ht = none_right (occurring f) (occurring t) z h in
      let a = d + declared_count def f in
      let p = n + content_count def f in
      let as_fixed = contents def keep fresh a p t in
      let as_node = contents def keep fresh (p + 1) (p + 1 + declared_count def t) t in
      none_both (occurring (contents def keep fresh d n f)) (occurring (opened_child def keep fresh p t as_fixed as_node)) z
      (lacks d n f hf) (lacks_kid p t as_fixed as_node ht (lacks a p t ht) (lacks (p + 1) (p + 1 + declared_count def t) t ht))
  lacks d n (with_name f x) h =
      let hf = none_left (occurring f) (x ∷ []) z h in
      let hx = none_right (occurring f) (x ∷ []) z h in
      let a = d + declared_count def f in
      let p = n + content_count def f in
      let y = cond (is_declares (next_item def f)) (name_or_fresh def keep fresh a x) (name_or_fresh def keep fresh p x) in
      none_both (occurring (contents def keep fresh d n f)) (y ∷ []) z (lacks d n f hf)
      (both_ways (λ q. is_among (q ∷ []) z ≡ false) (is_declares (next_item def f)) (name_or_fresh def keep fresh a x)
      (name_or_fresh def keep fresh p x) (λ e. lacks_name a x hx) (λ e. lacks_name p x hx))
  lacks d n (with_number f x) h = lacks d n f h
  lacks d n (with_text f x) h = lacks d n f h
  lacks d n anything h = refl
  lacks d n (observed f) h = h

  opened_lacks : (f : Fragment) → Lacks f → Lacks (opened def keep fresh f)
  opened_lacks f h =
      lacks_kid 0 f (contents def keep fresh 0 (declared_count def f) f) (contents def keep fresh 1 (1 + declared_count def f) f) h
      (lacks 0 (declared_count def f) f h) (lacks 1 (1 + declared_count def f) f h)

first_among : (fresh : ℕ → Name) (n most : ℕ) → n < most → is_among (firsts fresh most) (fresh n) ≡ true
first_among fresh n zero lt = absurd (omega (arith, lt))
first_among fresh n (suc most) lt = elim (cases_lt n most) [
  | inl below ↦ or_right (bytes_eq (fresh most) (fresh n)) (is_among (firsts fresh most) (fresh n)) (first_among fresh n most below)
  | inr above ↦
      let same : most ≡ n = omega (arith, lt, above) in
      or_left (bytes_eq (fresh most) (fresh n)) (is_among (firsts fresh most) (fresh n))
      (subst (λ m. bytes_eq (fresh m) (fresh n) ≡ true) (sym same) (bytes_eq-refl (fresh n)))
]

rest_of : (n m : ℕ) → n ≤ m → (i : ℕ) × (n + i ≡ m)
rest_of n zero le = (0, omega (arith, le))
rest_of n (suc m) le = elim (cases_lt n (suc m)) [
  | inl below ↦ let (i, e) = rest_of n m (omega (arith, below)) in (suc i, omega (arith, e))
  | inr above ↦ (0, omega (arith, le, above))
]

-- ---- places kept up to n and up to the next

kept_next : (kept : ℕ → Bool) (n : ℕ) → kept n ≡ true → kept_of_first kept (suc n) n ≡ true
kept_next kept n e = ap₂ (λ b c. b && c) (lt-ltb n (suc n) (omega arith)) e

open_at : (kept : ℕ → Bool) (n m : ℕ) → n ≤ m → kept_of_first kept n m ≡ false
open_at kept n m le = ap (λ b. b && kept m) (le-ltb m n le)

alike_but : (kept : ℕ → Bool) (n i : ℕ) → (i ≡ n → ⊥) → kept_of_first kept (suc n) i ≡ kept_of_first kept n i
alike_but kept n i other = elim (cases_lt i n) [
  | inl below ↦ ap (λ b. b && kept i) (lt-ltb i (suc n) (omega (arith, below)) ∙ sym (lt-ltb i n below))
  | inr above ↦ elim (cases_lt n i) [
    | inl past ↦ open_at kept (suc n) i (omega (arith, past)) ∙ sym (open_at kept n i above)
    | inr most ↦ absurd (other (omega (arith, above, most)))
  ]
]

below_all : (kept : ℕ → Bool) (n i : ℕ) → i < n → kept i ≡ kept_of_first kept n i
below_all kept n i lt = sym (ap (λ b. b && kept i) (lt-ltb i n lt))

module _ (def : Definition) (sound : IsSound def) (rows : HasTrueRows def) (f : Fragment) (kind : Kind) (well : WellFormed def f kind) (fresh : ℕ → Name) (new : AreNew def f fresh) where
  abbrev other : (n : Name) × IsName def n × (is_among (occurring f ++ firsts fresh (place_count def f)) n ≡ false)
  other = long_name def (occurring f ++ firsts fresh (place_count def f))

  -- a new name for each number
  abbrev total : ℕ → Name
  total = within (place_count def f) fresh other.0

  total_name : (i : ℕ) → IsName def (total i)
  total_name i = elim (cases_lt i (place_count def f)) [
    | inl below ↦ subst (λ b. IsName def (cond b (fresh i) other.0)) (sym (lt-ltb i (place_count def f) below)) (new.names i below)
    | inr above ↦ subst (λ b. IsName def (cond b (fresh i) other.0)) (sym (le-ltb i (place_count def f) above)) other.1
  ]

  total_new : (i : ℕ) → is_among (occurring f) (total i) ≡ false
  total_new i = elim (cases_lt i (place_count def f)) [
    | inl below ↦
        subst (λ b. is_among (occurring f) (cond b (fresh i) other.0) ≡ false) (sym (lt-ltb i (place_count def f) below)) (new.new i below)
    | inr above ↦
        subst (λ b. is_among (occurring f) (cond b (fresh i) other.0) ≡ false) (sym (le-ltb i (place_count def f) above))
        (none_left (occurring f) (firsts fresh (place_count def f)) other.0 other.2)
  ]

  total_apart : (i n : ℕ) → n < place_count def f → (i ≡ n → ⊥) → bytes_eq (total i) (total n) ≡ false
  total_apart i n lt apart =
      let here : total n ≡ fresh n = sym (within_is (place_count def f) fresh other.0 n lt) in
      false_from_ne_true (bytes_eq (total i) (total n)) (λ t.
      let same : total i ≡ fresh n = bytes_eq-same (total i) (total n) t ∙ here in
      elim (cases_lt i (place_count def f)) [
        | inl below ↦ apart (new.apart i n below lt (within_is (place_count def f) fresh other.0 i below ∙ same))
        | inr above ↦
            let is : other.0 ≡ fresh n = sym (ap (λ b. cond b (fresh i) other.0) (le-ltb i (place_count def f) above)) ∙ same in
            true≢false (sym (first_among fresh n (place_count def f) lt)
            ∙ subst (λ x. is_among (firsts fresh (place_count def f)) x ≡ false) is
            (none_right (occurring f) (firsts fresh (place_count def f)) other.0 other.2))
      ])

  to_total : (keep : ℕ → Bool) → opened def keep fresh f ≡ opened def keep total f
  to_total keep = of_places def f keep keep fresh total (λ n lt. refl) (λ n lt. within_is (place_count def f) fresh other.0 n lt)

  one_less : (kept : ℕ → Bool) (n : ℕ) → n < place_count def f → kept n ≡ true
      → IsOpen def (opened def (kept_of_first kept (suc n)) total f) → IsOpen def (opened def (kept_of_first kept n) total f)
  one_less kept n lt e o =
      let one = kept_of_first kept (suc n) in
      let two = kept_of_first kept n in
      let wa = formed def sound one total total_name f kind well in
      let wb = formed def sound two total total_name f kind well in
      let absent = opened_lacks def one total (total n)
      (λ i off. total_apart i n lt (λ s. true≢false (sym (subst (λ j. one j ≡ true) (sym s) (kept_next kept n e)) ∙ off))) f (total_new n) in
      by (opened def one total f) (opened def two total f) wa wb absent
      (step def sound total total_name (occurring f) total_new one two n (kept_next kept n e) (open_at kept n n (omega arith))
      (λ i q. alike_but kept n i q) (λ i q. open_at kept n i (omega (arith, q))) f kind well (λ y i. i) lt o.distinct) o where
        by : (a b : Fragment) → WellFormed def a kind → WellFormed def b kind → is_among (occurring a) (total n) ≡ false
            → Change def (total n) (Any def (total n)) a b → IsOpen def a → IsOpen def b
        by a b wa wb absent (none s) open_a = subst (IsOpen def) s open_a
        by a b wa wb absent (less r) open_a = open_looser def r sound rows kind wa wb open_a
        by a b wa wb absent (renamed r c ok) open_a = open_renamed def (total n) r kind wa.0 absent c open_a

  next_less : (kept : ℕ → Bool) (n : ℕ) → n < place_count def f
      → IsOpen def (opened def (kept_of_first kept (suc n)) total f) → IsOpen def (opened def (kept_of_first kept n) total f)
  next_less kept n lt o = elim (bool_cases (kept n)) [
    | inl e ↦ one_less kept n lt e o
    | inr e ↦ subst (λ k. IsOpen def (opened def k total f)) (sym (λ i m. passed_at kept n m e i)) o
  ]

  down : (kept : ℕ → Bool) (i n : ℕ) → n + i ≡ place_count def f
      → IsOpen def (opened def (kept_of_first kept (place_count def f)) total f) → IsOpen def (opened def (kept_of_first kept n) total f)
  down kept zero n e o = let s : place_count def f ≡ n = omega (arith, e) in subst (λ m. IsOpen def (opened def (kept_of_first kept m) total f)) s o
  down kept (suc i) n e o = next_less kept n (omega (arith, e)) (down kept i (suc n) (omega (arith, e)) o)

  pub open_falls : IsFalling (IsOpen def) def f fresh
  open_falls kept n o =
      let most = place_count def f in
      elim (cases_lt n most) [
        | inl below ↦
            let (i, e) = rest_of n most (omega (arith, below)) in
            let all : opened def kept total f ≡ opened def (kept_of_first kept most) total f =
            of_places def f kept (kept_of_first kept most) total total (λ j lt. below_all kept most j lt) (λ j lt. refl) in
            subst (IsOpen def) (sym (to_total (kept_of_first kept n)))
            (down kept i n e (subst (IsOpen def) (to_total kept ∙ all) o))
        | inr above ↦
            subst (IsOpen def)
            (of_places def f kept (kept_of_first kept n) fresh fresh (λ j lt. below_all kept n j (omega (arith, lt, above))) (λ j lt. refl)) o
      ]

  pub completable_falls : IsFalling (IsCompletable def) def f fresh
  completable_falls kept n c =
      let now = λ (keep : ℕ → Bool). open_or_completable def sound rows (opened def keep fresh f) kind (formed_new def f sound kind well fresh new keep) in
      (now (kept_of_first kept n)).0 (open_falls kept n ((now kept).1 c))
