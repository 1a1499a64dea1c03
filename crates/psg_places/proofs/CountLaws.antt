-- As many places are counted as are listed.
use Rattle.std.proofs.Common.{◌≡◌, ℕ, suc, ◌+◌, ◌&&◌, not, Bool, true, false, cond, List, [], ◌++◌, length, refl, ap₂, ◌∙◌, arith, length-append}
use Rattle.psg_grammar.specs.declared.types.Definition.{Definition}
use Rattle.psg_grammar.specs.Fragments.{Fragment, hole, ending, cell, operator, with_child, with_name, with_number}
use Rattle.psg_grammar.specs.Fragments.{with_text, anything, observed, children_of}
use Rattle.psg_grammar.specs.Lookups.{is_declares, next_item}
use Rattle.psg_grammar.specs.Paths.{Path}
use Rattle.psg_places.specs.declared.place.Place.{Place}
use Rattle.psg_places.specs.Places.{AreCounted, below, child_places, child_size, content_count, content_places}
use Rattle.psg_places.specs.Places.{declared_count, declared_places, element_places, element_size, has_no_placeholder, is_hole, may_go_on}

if_length : (b : Bool) (xs ys : List Place) (n m : ℕ) → length xs ≡ n → length ys ≡ m → length (cond b xs ys) ≡ cond b n m
if_length true xs ys n m e f = e
if_length false xs ys n m e f = f

both_length : (xs ys : List Place) (n m : ℕ) → length xs ≡ n → length ys ≡ m → length (xs ++ ys) ≡ n + m
both_length xs ys n m e f = length-append xs ys ∙ ap₂ (λ a b. a + b) e f

module _ (def : Definition) where
  child_length : (path : Path) (t : Fragment) (contents : List Place) (size : ℕ)
      → length (declared_places def path 0 t) ≡ declared_count def t → length contents ≡ size
      → length (child_places def path t contents) ≡ child_size def t size
  child_length path t contents size d c =
      let both = both_length (declared_places def path 0 t) contents (declared_count def t) size d c in
      if_length (has_no_placeholder def t) contents _ size _ c
      (if_length (is_hole t) [] _ 0 _ refl (let e : suc (length (declared_places def path 0 t ++ contents)) ≡ 1 + (declared_count def t + size) = omega (arith, both) in e))

  pub element_length : (l : ℕ) (path : Path) (e : Fragment) (contents : List Place) (size : ℕ)
      → length (declared_places def path 0 e) ≡ declared_count def e → length contents ≡ size
      → length (element_places def l path e contents) ≡ element_size def l e size
  element_length l path e contents size d c =
      let both = both_length (declared_places def path 0 e) contents (declared_count def e) size d c in
      let child = child_length path e contents size d c in
      let inner = if_length (has_no_placeholder def e) (declared_places def path 0 e ++ contents) _ _ _ both child in
      let more = cond (has_no_placeholder def e) (declared_places def path 0 e ++ contents) (child_places def path e contents) in
      let count = cond (has_no_placeholder def e) (declared_count def e + size) (child_size def e size) in
      let here : suc (length more) ≡ 1 + count = omega (arith, inner) in
      if_length (may_go_on def l) _ _ _ _ here child

  pub declared_length : (path : Path) (k : ℕ) (f : Fragment) → length (declared_places def path k f) ≡ declared_count def f
  declared_length path k (hole p) = refl
  declared_length path k (ending l u) = refl
  declared_length path k (cell l e r) =
      both_length _ _ _ _
      (if_length (may_go_on def l) [] _ 0 _ refl
      (if_length (has_no_placeholder def e) _ [] _ 0 (declared_length (below path k) 0 e) refl))
      (declared_length path (suc k) r)
  declared_length path k (operator o) = refl
  declared_length path k (with_child f t) =
      both_length _ _ _ _ (declared_length path k f)
      (if_length (has_no_placeholder def t) _ [] _ 0 (declared_length (below path (length (children_of f))) 0 t) refl)
  declared_length path k (with_name f x) =
      both_length _ _ _ _ (declared_length path k f) (if_length (is_declares (next_item def f)) _ [] 1 0 refl refl)
  declared_length path k (with_number f x) = declared_length path k f
  declared_length path k (with_text f x) = declared_length path k f
  declared_length path k anything = refl
  declared_length path k (observed f) = refl

  pub content_length : (path : Path) (k : ℕ) (f : Fragment) → length (content_places def path k f) ≡ content_count def f
  content_length path k (hole p) = refl
  content_length path k (ending l u) = if_length (may_go_on def l && not u) _ [] 1 0 refl refl
  content_length path k (cell l e r) =
      both_length _ _ _ _
      (element_length l (below path k) e (content_places def (below path k) 0 e) (content_count def e)
      (declared_length (below path k) 0 e) (content_length (below path k) 0 e))
      (content_length path (suc k) r)
  content_length path k (operator o) = refl
  content_length path k (with_child f t) =
      let inner = below path (length (children_of f)) in
      both_length _ _ _ _ (content_length path k f)
      (child_length inner t (content_places def inner 0 t) (content_count def t) (declared_length inner 0 t)
      (content_length inner 0 t))
  content_length path k (with_name f x) =
      both_length _ _ _ _ (content_length path k f) (if_length (is_declares (next_item def f)) [] _ 0 1 refl refl)
  content_length path k (with_number f x) = content_length path k f
  content_length path k (with_text f x) = content_length path k f
  content_length path k anything = refl
  content_length path k (observed f) = refl

pub counted : (def : Definition) → AreCounted def
counted def f =
    if_length (has_no_placeholder def f) _ _ _ _
    (both_length _ _ _ _ (declared_length def [] 0 f) (content_length def [] 0 f))
    (child_length def [] f (content_places def [] 0 f) (content_count def f) (declared_length def [] 0 f)
    (content_length def [] 0 f))
