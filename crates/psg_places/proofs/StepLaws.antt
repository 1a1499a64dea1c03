-- One more place is opened, after which all are open: what becomes of the tree.
use Rattle.std.proofs.Common.{◌≡◌, ◌⊎◌, inl, inr, ℕ, ◌+◌, ◌<◌, ◌≤◌, Bool, true, false, cond, ◌||◌, ◌&&◌, not, List, [], ◌∷◌, ◌++◌, bytes_eq, refl, ap, ap₂, sym, ◌∙◌, subst, arith, true≢false, slice_get, Some}
use Rattle.std.proofs.lemmas.Bool.{cases_Bool, cases_lt, or_left, or_right}
use Rattle.psg_terms.specs.Names.{Name, has_twice, is_among}
use Rattle.psg_terms.proofs.DeclareLaws.{bytes_eq-same}
use Rattle.psg_scope.proofs.HeaderLaws.{outward-among}
use Rattle.psg_grammar.specs.declared.types.Kind.{Kind}
use Rattle.psg_grammar.specs.declared.types.Kind.TheVariants as kinds
use Rattle.psg_grammar.specs.declared.types.Item.{Item}
use Rattle.psg_grammar.specs.declared.types.Item.TheVariants as items
use Rattle.psg_grammar.specs.declared.types.ListKind.{ListKind}
use Rattle.psg_grammar.specs.declared.types.Definition.{Definition}
use Rattle.psg_grammar.specs.Declaring.{HasHoles, by_list, is_declaring}
use Rattle.psg_grammar.specs.Fragments.{Fragment, hole, ending, cell, operator, with_child, with_name, with_number, with_text, anything, observed}
use Rattle.psg_grammar.specs.Keys.{Key, name_in, space_of}
use Rattle.psg_grammar.specs.Lookups.{is_declares, is_scope, key_at, key_of, next_item}
use Rattle.psg_grammar.specs.Regions.{AreDistinct, DistinctBelow, IsDistinct, declared_in, declared_inside, names_inside, passing, unfinished_inside}
use Rattle.psg_grammar.specs.Sound.{IsSound}
use Rattle.psg_grammar.specs.WellFormed.{Fits, IsName, IsPlain, WellFormed}
use Rattle.psg_grammar.proofs.Closed.{closed}
use Rattle.psg_grammar.proofs.DeclaringLaws.{declares_found, found_declares}
use Rattle.psg_grammar.proofs.SoundParts.{elements_in, items_in, phylum_in}
use Rattle.psg_completions.specs.Counts.{count, one_if}
use Rattle.psg_completions.proofs.Counting.{once_of}
use Rattle.psg_completions.proofs.NameLaws.{among_left, among_one, among_parts, among_right}
use Rattle.psg_completions.proofs.Quiet.{quiet as quiet_kind}
use Rattle.psg_completions.proofs.Tops.{next_is}
use Rattle.psg_eval.specs.Glues.{outer_names}
use Rattle.psg_renaming.specs.Occurring.{occurring}
use Rattle.psg_places.specs.Opened.{contents, name_or_fresh, opened, opened_child, opened_element}
use Rattle.psg_places.specs.Places.{child_size, content_count, declared_count, element_size, has_no_placeholder, is_hole, is_list, may_go_on, phylum_of, place_count}
use Rattle.psg_places.proofs.FormedLaws.{fits, node_top, opened_hole, plain}
use Rattle.psg_places.proofs.LooserLaws as looser
use Rattle.psg_places.proofs.LooserLaws.{Loosens, seen_plain}
use Rattle.psg_places.proofs.OfPlacesLaws as of
use Rattle.psg_places.proofs.RenameLaws as turns
use Rattle.psg_places.proofs.RenameLaws.{AreLeft, Closes, IsLeft, Renames, brought, come, both_true, count_in, counts, few, gone, in_count, named, neither, new_is, same_scope}

pub when_true : {X : Type 0} (b : Bool) (x y : X) → b ≡ true → cond b x y ≡ x
when_true true x y e = refl
when_true false x y e = absurd (true≢false (sym e))

pub when_false : {X : Type 0} (b : Bool) (x y : X) → b ≡ false → cond b x y ≡ y
when_false true x y e = absurd (true≢false e)
when_false false x y e = refl

one_of : (x n : Key) → is_among (x ∷ []) n ≡ true → x ≡ n
one_of x n e = elim (cases_Bool (bytes_eq x n)) [
  | inl t ↦ bytes_eq-same x n t
  | inr f ↦ absurd (true≢false (sym e ∙ ap (λ b. b || false) f))
]

no_hole_names : (def : Definition) (t : Fragment) → is_hole t ≡ true → outer_names def t ≡ []
no_hole_names def (hole p) e = refl
no_hole_names def (ending l u) e = absurd (true≢false (sym e))
no_hole_names def (cell l a r) e = absurd (true≢false (sym e))
no_hole_names def (operator o) e = absurd (true≢false (sym e))
no_hole_names def (with_child f t) e = absurd (true≢false (sym e))
no_hole_names def (with_name f x) e = absurd (true≢false (sym e))
no_hole_names def (with_number f x) e = absurd (true≢false (sym e))
no_hole_names def (with_text f x) e = absurd (true≢false (sym e))
no_hole_names def anything e = absurd (true≢false (sym e))
no_hole_names def (observed f) e = absurd (true≢false (sym e))

-- ---- what may become of a tree

module _ (def : Definition) (z : Name) where
  -- Ok says of a key that is no longer declared in the region of the tree what is known of it.
  pub data Change (Ok : Fragment → Key → Type 0) (a b : Fragment) : Type 0 where
    none : a ≡ b → Change Ok a b
    less : Loosens def a b → Change Ok a b
    renamed : (r : Renames def z a b) → Closes def z r → ((k : Key) → is_among (gone def z r) k ≡ true → Ok b k)
        → Change Ok a b

  -- the region is unfinished in the key's space
  abbrev pub Waits : Fragment → Key → Type 0
  Waits b k = unfinished_inside def (space_of k) b ≡ true

  -- or the tree is a scope operator that does not use it
  abbrev pub Passes : Fragment → Key → Type 0
  Passes b k = (unfinished_inside def (space_of k) b ≡ true) ⊎ ((is_scope def b ≡ true) × (is_among (names_inside def b) k ≡ false))

  abbrev pub Any : Fragment → Key → Type 0
  Any b k = Unit {0}

  pub weaker : (P Q : Fragment → Key → Type 0) → ((b : Fragment) (k : Key) → P b k → Q b k) → (a b : Fragment)
      → Change P a b → Change Q a b
  weaker P Q h a b (none e) = none e
  weaker P Q h a b (less r) = less r
  weaker P Q h a b (renamed r c ok) = renamed r c (λ k i. h b k (ok k i))

  pub at_both : (P : Fragment → Key → Type 0) (a a' b b' : Fragment) → a' ≡ a → b' ≡ b → Change P a b → Change P a' b'
  at_both P a a' b b' e d h = subst (λ x. Change P x b') (sym e) (subst (λ x. Change P a x) (sym d) h)

  pub done : (a b : Fragment) → Change Waits a b → Change Passes a b
  done a b h = weaker Waits Passes (λ c k u. inl u) a b h

  closing : {t t' : Fragment} (r : Renames def z t t') → ((k : Key) → is_among (gone def z r) k ≡ true → Passes t' k)
      → AreLeft def z r
  closing r ok k i = elim (ok k i) [ inl u ↦ inl u | inr (s, h) ↦ inr h ]

  -- where the child is no scope operator, the space is unfinished
  waits_on : {t t' : Fragment} (r : Renames def z t t') → ((k : Key) → is_among (gone def z r) k ≡ true → Passes t' k)
      → (k : Key) → is_among (cond (is_scope def t) [] (gone def z r)) k ≡ true
      → (not (is_scope def t') && unfinished_inside def (space_of k) t') ≡ true
  waits_on {t} {t'} r ok k i = elim (cases_Bool (is_scope def t)) [
    | inl e ↦ absurd (true≢false (sym i ∙ ap (λ b. is_among (cond b [] (gone def z r)) k) e))
    | inr e ↦
        let inside : is_among (gone def z r) k ≡ true = sym (ap (λ b. is_among (cond b [] (gone def z r)) k) e) ∙ i in
        let outside : is_scope def t' ≡ false = same_scope def z r ∙ e in
        elim (ok k inside) [
          | inl u ↦ ap₂ (λ b c. not b && c) outside u
          | inr (s, h) ↦ absurd (true≢false (sym s ∙ outside))
        ]
  ]

  pub change_child : (f t t' : Fragment) → Change Passes t t' → Change Waits (with_child f t) (with_child f t')
  change_child f t t' (none e) = none (ap (with_child f) e)
  change_child f t t' (less r) = less (looser.in_child r)
  change_child f t t' (renamed r c ok) = renamed (turns.in_child r) ((λ s. closing r ok), c)
      (λ k i. or_right (unfinished_inside def (space_of k) f) (not (is_scope def t') && unfinished_inside def (space_of k) t')
      (waits_on r ok k i))

  pub change_element : (l : ℕ) (e e' r : Fragment) → Change Passes e e' → Change Waits (cell l e r) (cell l e' r)
  change_element l e e' rest (none h) = none (ap (λ x. cell l x rest) h)
  change_element l e e' rest (less r) = less (looser.in_element r)
  change_element l e e' rest (renamed r c ok) = renamed (turns.in_element r) ((λ s. closing r ok), c)
      (λ k i. or_left (not (is_scope def e') && unfinished_inside def (space_of k) e') (unfinished_inside def (space_of k) rest)
      (waits_on r ok k i))

  pub change_rest : (l : ℕ) (e r r' : Fragment) → Change Waits r r' → Change Waits (cell l e r) (cell l e r')
  change_rest l e rest rest' (none h) = none (ap (cell l e) h)
  change_rest l e rest rest' (less r) = less (looser.in_rest r)
  change_rest l e rest rest' (renamed r c ok) = renamed (turns.in_rest r) c
      (λ k i. or_right (not (is_scope def e) && unfinished_inside def (space_of k) e) (unfinished_inside def (space_of k) rest')
      (ok k i))

  pub change_node : (f f' t : Fragment) → Change Waits f f' → Change Waits (with_child f t) (with_child f' t)
  change_node f f' t (none h) = none (ap (λ x. with_child x t) h)
  change_node f f' t (less r) = less (looser.in_node r)
  change_node f f' t (renamed r c ok) = renamed (turns.in_node r) c
      (λ k i. or_left (unfinished_inside def (space_of k) f') (not (is_scope def t) && unfinished_inside def (space_of k) t)
      (ok k i))

  pub change_name : (f f' : Fragment) (x : Name) → Change Waits f f' → Change Waits (with_name f x) (with_name f' x)
  change_name f f' x (none h) = none (ap (λ y. with_name y x) h)
  change_name f f' x (less r) = less (looser.before_name x r)
  change_name f f' x (renamed r c ok) = renamed (turns.before_name x r) c ok

  pub change_number : (f f' : Fragment) (x : ℕ) → Change Waits f f' → Change Waits (with_number f x) (with_number f' x)
  change_number f f' x (none h) = none (ap (λ y. with_number y x) h)
  change_number f f' x (less r) = less (looser.before_number x r)
  change_number f f' x (renamed r c ok) = renamed (turns.before_number x r) c ok

  pub change_text : (f f' : Fragment) (x : List ℕ) → Change Waits f f' → Change Waits (with_text f x) (with_text f' x)
  change_text f f' x (none h) = none (ap (λ y. with_text y x) h)
  change_text f f' x (less r) = less (looser.before_text x r)
  change_text f f' x (renamed r c ok) = renamed (turns.before_text x r) c ok

  -- a declared name is renamed, which was one of these
  pub record Moves (theirs : List Name) (a b : Fragment) : Type 0 where
    pub change : Renames def z a b
    pub closes : Closes def z change
    pub old : (k : Key) → is_among (gone def z change) k ≡ true → is_among theirs (name_in k) ≡ true

  pub moves_both : (theirs : List Name) (a a' b b' : Fragment) → a' ≡ a → b' ≡ b → Moves theirs a b → Moves theirs a' b'
  moves_both theirs a a' b b' e d h = subst (λ x. Moves theirs x b') (sym e) (subst (λ x. Moves theirs a x) (sym d) h)

  -- the old key was declared, and is so once less
  once_less : (theirs : List Name) (a b : Fragment) (m : Moves theirs a b) (more : List Item) (kind : Kind)
      → Fits def a more kind → is_among theirs z ≡ false → (k : Key) → is_among (gone def z m.change) k ≡ true
      → count k (declared_inside def b) + 1 ≤ count k (declared_inside def a)
  once_less theirs a b m more kind w new k i =
      let all : count k (declared_inside def b) + count k (gone def z m.change)
      ≡ count k (declared_inside def a) + count k (come def z m.change) = counts def z m.change k in
      let most : count k (come def z m.change) ≤ one_if (bytes_eq (brought def z m.change) k) = few def z m.change k in
      let some : 1 ≤ count k (gone def z m.change) = count_in k (gone def z m.change) i in
      let other : one_if (bytes_eq (brought def z m.change) k) ≡ 0 =
      elim (cases_Bool (bytes_eq (brought def z m.change) k)) [
        | inl t ↦
            let is : name_in k ≡ z = ap name_in (sym (bytes_eq-same (brought def z m.change) k t)) ∙ new_is def z m.change more kind w in
            absurd (true≢false (sym (m.old k i) ∙ ap (is_among theirs) is ∙ new))
        | inr f ↦ ap one_if f
      ] in
      omega (arith, all, most, some, other)

module _ (def : Definition) (sound : IsSound def) where
  -- a tree of a phylum with placeholders declares nothing outside
  quiet_tree : (t : Fragment) (kind : Kind) → Fits def t [] kind → (k : Key) → is_declaring def (space_of k) kind ≡ false
      → is_among (declared_in def t) k ≡ false
  quiet_tree t kind w k q =
      quiet_kind def (space_of k) (phylum_in def sound) (closed def (space_of k) (items_in def sound) (elements_in def sound))
      kind t w q k refl

  -- where an element declares, its list does
  list_declares : (l : ℕ) (own : ListKind) (e : Fragment) → slice_get def.lists l ≡ Some own
      → Fits def e [] (kinds.Phylum own.element) → (k : Key) → is_among (declared_in def e) k ≡ true
      → is_declaring def (space_of k) (kinds.List l) ≡ true
  list_declares l own e found w k i = elim (cases_Bool (is_declaring def (space_of k) (kinds.Phylum own.element))) [
    | inl t ↦ declares_found def sound (space_of k) (kinds.List l)
        (by_list own found (found_declares def (space_of k) (kinds.Phylum own.element) t))
    | inr f ↦ absurd (true≢false (sym i ∙ quiet_tree e (kinds.Phylum own.element) w k f))
  ]

  -- ---- one place

  module _ (fresh : ℕ → Name) (names : (i : ℕ) → IsName def (fresh i)) (theirs : List Name) (new : (i : ℕ) → is_among theirs (fresh i) ≡ false) (one two : ℕ → Bool) (n : ℕ) (kept : one n ≡ true) (lost : two n ≡ false) (alike : (i : ℕ) → (i ≡ n → ⊥) → one i ≡ two i) (later : (i : ℕ) → n < i → two i ≡ false) where
    abbrev z : Name
    z = fresh n

    abbrev left : ℕ → ℕ → Fragment → Fragment
    left d m f = contents def one fresh d m f

    abbrev right : ℕ → ℕ → Fragment → Fragment
    right d m f = contents def two fresh d m f

    -- a child whose places begin at p
    abbrev kid_left : ℕ → ℕ → Fragment → Fragment
    kid_left d p t = opened_child def one fresh p t (left d p t) (left (p + 1) (p + 1 + declared_count def t) t)

    abbrev kid_right : ℕ → ℕ → Fragment → Fragment
    kid_right d p t = opened_child def two fresh p t (right d p t) (right (p + 1) (p + 1 + declared_count def t) t)

    abbrev fixed_count : Fragment → ℕ
    fixed_count t = cond (has_no_placeholder def t) (declared_count def t) 0

    abbrev IsTheirs : Fragment → Type 0
    IsTheirs f = (y : Name) → is_among (occurring f) y ≡ true → is_among theirs y ≡ true

    -- ---- where the place is not

    abbrev Avoids : ℕ → ℕ → Type 0
    Avoids d k = (d + k ≤ n) ⊎ (n < d)

    not_there : (d k i : ℕ) → Avoids d k → i < k → d + i ≡ n → ⊥
    not_there d k i (inl le) lt e = absurd (omega (arith, le, lt, e))
    not_there d k i (inr gt) lt e = absurd (omega (arith, gt, e))

    agrees : (d k : ℕ) → Avoids d k → of.Agrees def one two fresh fresh d k
    agrees d k a i lt = (alike (d + i) (not_there d k i a lt), refl)

    same_there : (d m : ℕ) (f : Fragment) → Avoids d (declared_count def f) → Avoids m (content_count def f)
        → left d m f ≡ right d m f
    same_there d m f a b =
        of.same def one two fresh fresh d m f (agrees d (declared_count def f) a) (agrees m (content_count def f) b)

    same_kid : (d p : ℕ) (t : Fragment) → Avoids d (fixed_count t) → Avoids p (child_size def t (content_count def t))
        → kid_left d p t ≡ kid_right d p t
    same_kid d p t a b =
        let k = content_count def t in
        of.same_child def one two fresh fresh (has_no_placeholder def t) (is_hole t) d p (declared_count def t) k t
        (left d p t) (right d p t) (left (p + 1) (p + 1 + declared_count def t) t)
        (right (p + 1) (p + 1 + declared_count def t) t) (hole (phylum_of def t)) (agrees d (fixed_count t) a)
        (agrees p (child_size def t k) b) (λ u v. of.same def one two fresh fresh d p t u v)
        (λ u v. of.same def one two fresh fresh (p + 1) (p + 1 + declared_count def t) t u v)

    -- ---- the trees are well-formed

    left_fits : (f : Fragment) (more : List Item) (kind : Kind) → Fits def f more kind → IsPlain f → (d m : ℕ)
        → Fits def (left d m f) more kind
    left_fits f more kind w pl d m = fits def sound one fresh names f more kind w pl d m

    right_fits : (f : Fragment) (more : List Item) (kind : Kind) → Fits def f more kind → IsPlain f → (d m : ℕ)
        → Fits def (right d m f) more kind
    right_fits f more kind w pl d m = fits def sound two fresh names f more kind w pl d m

    left_plain : (f : Fragment) → IsPlain f → (d m : ℕ) → IsPlain (left d m f)
    left_plain f pl d m = plain def sound one fresh names d m f pl

    -- the item of a name that comes next
    left_item : (f : Fragment) (i : Item) (more : List Item) (kind : Kind) → Fits def f (i ∷ more) kind → IsPlain f → (d m : ℕ)
        → next_item def (left d m f) ≡ next_item def f
    left_item f i more kind w pl d m =
        next_is def (left d m f) i more kind (left_fits f (i ∷ more) kind w pl d m) ∙ sym (next_is def f i more kind w)

    right_item : (f : Fragment) (i : Item) (more : List Item) (kind : Kind) → Fits def f (i ∷ more) kind → IsPlain f → (d m : ℕ)
        → next_item def (right d m f) ≡ next_item def f
    right_item f i more kind w pl d m =
        next_is def (right d m f) i more kind (right_fits f (i ∷ more) kind w pl d m) ∙ sym (next_is def f i more kind w)

    -- ---- where all is open

    no_list : (f : Fragment) (l : ℕ) → Fits def f [] (kinds.List l) → IsPlain f → is_list f ≡ false → is_hole f ≡ false → ⊥
    no_list f l w pl a b = let top = node_top def f (kinds.List l) w pl a b in let e : kinds.List l ≡ kinds.Phylum top.op.phylum = top.is in cc

    -- a list that may go on is its unfinished end
    left_open : (f : Fragment) (l : ℕ) → Fits def f [] (kinds.List l) → IsPlain f → may_go_on def l ≡ true → (d m : ℕ)
        → n < m → right d m f ≡ ending l true
    left_open (hole p) l (a, k, small, holes) pl free d m lt = absurd (let e : kinds.List l ≡ kinds.Phylum p = k in cc)
    left_open (ending j u) l (a, k, end) pl free d m lt =
        let same : l ≡ j = (let e : kinds.List l ≡ kinds.List j = k in cc) in
        let opens : (u || (may_go_on def j && not (two m))) ≡ true =
        or_right u (may_go_on def j && not (two m)) (ap₂ (λ b c. b && not c) (ap (may_go_on def) (sym same) ∙ free) (later m lt)) in
        ap₂ ending (sym same) opens
    left_open (cell j e r) l (a, k, own, found, we, wr, un) (pe, pr) free d m lt =
        let same : l ≡ j = (let e : kinds.List l ≡ kinds.List j = k in cc) in
        let may : may_go_on def j ≡ true = ap (may_go_on def) (sym same) ∙ free in
        let next = m + element_size def j e (content_count def e) in
        let rest = right d next r in
        let one_more = cell j (opened_element def two fresh e (right (m + 1) (m + 1 + declared_count def e) e) (kid_right 0 (m + 1) e)) rest in
        when_true (may_go_on def j) (cond (two m) one_more rest) (cell j (kid_right d m e) (right (d + fixed_count e) next r)) may
        ∙ when_false (two m) one_more rest (later m lt) ∙ left_open r l (subst (λ x. Fits def r [] (kinds.List x)) (sym same) wr) pr free d next (omega (arith, lt))
    left_open (operator o) l w pl free d m lt = absurd (no_list (operator o) l w pl refl refl)
    left_open (with_child f t) l w pl free d m lt = absurd (no_list (with_child f t) l w pl refl refl)
    left_open (with_name f x) l w pl free d m lt = absurd (no_list (with_name f x) l w pl refl refl)
    left_open (with_number f x) l w pl free d m lt = absurd (no_list (with_number f x) l w pl refl refl)
    left_open (with_text f x) l w pl free d m lt = absurd (no_list (with_text f x) l w pl refl refl)
    left_open anything l w pl free d m lt = absurd w
    left_open (observed f) l w pl free d m lt = absurd pl

    -- each name is declared in the region, or a new one
    abbrev IsOwn : List Key → Key → Type 0
    IsOwn declared k = (is_among declared k ≡ true) ⊎ (is_among theirs (name_in k) ≡ false)

    own_left : (xs ys : List Key) (k : Key) → IsOwn xs k → IsOwn (xs ++ ys) k
    own_left xs ys k (inl e) = inl (among_left xs ys k e)
    own_left xs ys k (inr e) = inr e

    own_right : (xs ys : List Key) (k : Key) → IsOwn ys k → IsOwn (xs ++ ys) k
    own_right xs ys k (inl e) = inl (among_right xs ys k e)
    own_right xs ys k (inr e) = inr e

    own_out : (t : Fragment) → ((k : Key) → is_among (names_inside def t) k ≡ true → IsOwn (declared_inside def t) k) → (k : Key)
        → is_among (outer_names def t) k ≡ true → IsOwn (declared_in def t) k
    own_out t h k i = pick (is_scope def t) i where
      pick : (b : Bool) → is_among (passing b (λ s. unfinished_inside def s t) (declared_inside def t) (names_inside def t)) k ≡ true
          → IsOwn (cond b [] (declared_inside def t)) k
      pick false e = h k e
      pick true e =
          let (a, c) = both_true (is_among (names_inside def t) k)
          (not (unfinished_inside def (space_of k) t || is_among (declared_inside def t) k))
          (sym (outward-among k (names_inside def t) (declared_inside def t) (λ s. unfinished_inside def s t)) ∙ e) in
          let (p, q) = neither (unfinished_inside def (space_of k) t) (is_among (declared_inside def t) k) c in
          elim (h k a) [ inl d ↦ absurd (true≢false (sym d ∙ q)) | inr d ↦ inr d ]

    -- of a child, from the same of its contents
    own_kid : (d p : ℕ) (t : Fragment) → n < p
        → ((k : Key) → is_among (names_inside def (right d p t)) k ≡ true → IsOwn (declared_inside def (right d p t)) k)
        → (k : Key) → is_among (outer_names def (kid_right d p t)) k ≡ true → IsOwn (declared_in def (kid_right d p t)) k
    own_kid d p t lt h k i =
        let as_node = right (p + 1) (p + 1 + declared_count def t) t in
        let other = cond (is_hole t) t (cond (two p) as_node (hole (phylum_of def t))) in
        elim (cases_Bool (has_no_placeholder def t)) [
          | inl e ↦
              let is : kid_right d p t ≡ right d p t = when_true (has_no_placeholder def t) (right d p t) other e in
              subst (λ x. IsOwn (declared_in def x) k) (sym is)
              (own_out (right d p t) h k (subst (λ x. is_among (outer_names def x) k ≡ true) is i))
          | inr e ↦
              let is : kid_right d p t ≡ other = when_false (has_no_placeholder def t) (right d p t) other e in
              elim (cases_Bool (is_hole t)) [
                | inl a ↦
                    let was : other ≡ t = when_true (is_hole t) t (cond (two p) as_node (hole (phylum_of def t))) a in
                    let none : outer_names def (kid_right d p t) ≡ [] = ap (outer_names def) (is ∙ was) ∙ no_hole_names def t a in
                    absurd (true≢false (sym i ∙ ap (λ xs. is_among xs k) none))
                | inr a ↦
                    let was : other ≡ hole (phylum_of def t) =
                    when_false (is_hole t) t (cond (two p) as_node (hole (phylum_of def t))) a
                    ∙ when_false (two p) as_node (hole (phylum_of def t)) (later p lt) in
                    absurd (true≢false (sym i ∙ ap (λ x. is_among (outer_names def x) k) (is ∙ was)))
              ]
        ]

    owns : (f : Fragment) (more : List Item) (kind : Kind) → Fits def f more kind → IsPlain f → (d m : ℕ) → n < m → (k : Key)
        → is_among (names_inside def (right d m f)) k ≡ true → IsOwn (declared_inside def (right d m f)) k
    owns (hole p) more kind w pl d m lt k i = absurd (true≢false (sym i))
    owns (ending l u) more kind w pl d m lt k i = absurd (true≢false (sym i))
    owns (cell l e r) more kind (a, b, own, found, we, wr, un) (pe, pr) d m lt k i =
        let next = m + element_size def l e (content_count def e) in
        let rest = right d next r in
        let far = right (d + fixed_count e) next r in
        let kid = kid_right d m e in
        let after : n < next = omega (arith, lt) in
        let free : Fragment = cond (two m) (cell l (opened_element def two fresh e (right (m + 1) (m + 1 + declared_count def e) e)
        (kid_right 0 (m + 1) e)) rest) rest in
        elim (cases_Bool (may_go_on def l)) [
          | inl h ↦
              let is : right d m (cell l e r) ≡ rest =
              when_true (may_go_on def l) free (cell l kid far) h ∙ when_false (two m) (cell l (opened_element def two fresh e (right (m + 1) (m + 1 + declared_count def e) e) (kid_right 0 (m + 1) e)) rest) rest (later m lt) in
              subst (λ x. IsOwn (declared_inside def x) k) (sym is)
              (owns r [] (kinds.List l) wr pr d next after k (subst (λ x. is_among (names_inside def x) k ≡ true) is i))
          | inr h ↦
              let is : right d m (cell l e r) ≡ cell l kid far = when_false (may_go_on def l) free (cell l kid far) h in
              let inside : is_among (outer_names def kid ++ names_inside def far) k ≡ true =
              subst (λ x. is_among (names_inside def x) k ≡ true) is i in
              subst (λ x. IsOwn (declared_inside def x) k) (sym is)
              (elim (among_parts (outer_names def kid) (names_inside def far) k inside) [
                | inl j ↦ own_left (declared_in def kid) (declared_inside def far) k
                    (own_kid d m e lt (λ q g. owns e [] (kinds.Phylum own.element) we pe d m lt q g) k j)
                | inr j ↦ own_right (declared_in def kid) (declared_inside def far) k
                    (owns r [] (kinds.List l) wr pr (d + fixed_count e) next after k j)
              ])
        ]
    owns (operator o) more kind w pl d m lt k i = absurd (true≢false (sym i))
    owns (with_child f t) more kind (j, wf, wt) (pf, pt) d m lt k i =
        let a = d + declared_count def f in
        let p = m + content_count def f in
        let after : n < p = omega (arith, lt) in
        elim (among_parts (names_inside def (right d m f)) (outer_names def (kid_right a p t)) k i) [
          | inl g ↦ own_left (declared_inside def (right d m f)) (declared_in def (kid_right a p t)) k
              (owns f (items.Slot j ∷ more) kind wf pf d m lt k g)
          | inr g ↦ own_right (declared_inside def (right d m f)) (declared_in def (kid_right a p t)) k
              (own_kid a p t after (λ q h. owns t [] j wt pt a p after q h) k g)
        ]
    owns (with_name f x) more kind w pl d m lt k i =
        let it = named def f x more kind w in
        let F = right d m f in
        let b = is_declares (next_item def f) in
        let p = m + content_count def f in
        let y = cond b (name_or_fresh def two fresh (d + declared_count def f) x) (name_or_fresh def two fresh p x) in
        let own = cond (is_declares (next_item def F)) (key_at def F y ∷ []) [] in
        let same : is_declares (next_item def F) ≡ b = ap is_declares (right_item f it.item more kind it.fits pl d m) in
        let key : key_at def F y ≡ it.space ∷ y = ap (λ j. key_of j y) (right_item f it.item more kind it.fits pl d m) ∙ it.key y in
        elim (among_parts (names_inside def F) (key_at def F y ∷ []) k i) [
          | inl g ↦ own_left (declared_inside def F) own k (owns f (it.item ∷ more) kind it.fits pl d m lt k g)
          | inr g ↦ own_right (declared_inside def F) own k
              (elim (cases_Bool b) [
                | inl e ↦ inl (subst (λ c. is_among (cond c (key_at def F y ∷ []) []) k ≡ true) (sym (same ∙ e)) g)
                | inr e ↦
                    let is : y ≡ fresh p =
                    when_false b (name_or_fresh def two fresh (d + declared_count def f) x) (name_or_fresh def two fresh p x) e
                    ∙ when_false (two p) x (fresh p) (later p (omega (arith, lt))) in
                    let at : name_in k ≡ fresh p = ap name_in (sym (one_of (key_at def F y) k g)) ∙ ap name_in key ∙ is in
                    inr (subst (λ q. is_among theirs q ≡ false) (sym at) (new p))
              ])
        ]
    owns (with_number f x) more kind (w, small) pl d m lt k i = owns f (items.Number ∷ more) kind w pl d m lt k i
    owns (with_text f x) more kind (w, text) pl d m lt k i = owns f (items.Text ∷ more) kind w pl d m lt k i
    owns anything more kind w pl d m lt k i = absurd (true≢false (sym i))
    owns (observed f) more kind w pl d m lt k i = absurd pl

    -- a scope operator that no longer declares the key does not use it
    unused : (a b : Fragment) (kind : Kind) (mv : Moves def z theirs a b) → Fits def a [] kind → has_twice (declared_inside def a) ≡ false
        → ((k : Key) → is_among (names_inside def b) k ≡ true → IsOwn (declared_inside def b) k) → (k : Key)
        → is_among (gone def z mv.change) k ≡ true → is_among (names_inside def b) k ≡ false
    unused a b kind mv w once own k i = elim (cases_Bool (is_among (names_inside def b) k)) [
      | inr f ↦ f
      | inl t ↦ elim (own k t) [
        | inl d ↦
            let less : count k (declared_inside def b) + 1 ≤ count k (declared_inside def a) =
            once_less def z theirs a b mv [] kind w (new n) k i in
            let most : count k (declared_inside def a) ≤ 1 = once_of k (declared_inside def a) once in
            let some : 1 ≤ count k (declared_inside def b) = count_in k (declared_inside def b) d in
            absurd (omega (arith, less, most, some))
        | inr d ↦ absurd (true≢false (sym (mv.old k i) ∙ d))
      ]
    ]

    -- ---- a declared name

    -- of a child that no placeholder can take the place of
    moves_in : (a b : Fragment) (kind : Kind) (mv : Moves def z theirs a b) → Fits def a [] kind → AreDistinct (is_scope def a) (declared_inside def a)
        → ((k : Key) → is_among (names_inside def b) k ≡ true → IsOwn (declared_inside def b) k) → is_scope def b ≡ true
        → AreLeft def z mv.change
    moves_in a b kind mv w once own s k i =
        inr (unused a b kind mv w (once (sym (same_scope def z mv.change) ∙ s)) own k i)

    scope_old : (b : Bool) (gone_keys : List Key) → ((k : Key) → is_among gone_keys k ≡ true → is_among theirs (name_in k) ≡ true)
        → (k : Key) → is_among (cond b [] gone_keys) k ≡ true → is_among theirs (name_in k) ≡ true
    scope_old true gone_keys h k i = absurd (true≢false (sym i))
    scope_old false gone_keys h k i = h k i

    moves_child : (f t t' : Fragment) (kind : Kind) → (mv : Moves def z theirs t t') → Fits def t [] kind
        → AreDistinct (is_scope def t) (declared_inside def t)
        → ((k : Key) → is_among (names_inside def t') k ≡ true → IsOwn (declared_inside def t') k)
        → Moves def z theirs (with_child f t) (with_child f t')
    moves_child f t t' kind mv w once own = record {
      change = turns.in_child mv.change;
      closes = (moves_in t t' kind mv w once own, mv.closes);
      old = scope_old (is_scope def t) (gone def z mv.change) mv.old;
    }

    moves_element : (l : ℕ) (e e' r : Fragment) (kind : Kind) → (mv : Moves def z theirs e e') → Fits def e [] kind
        → AreDistinct (is_scope def e) (declared_inside def e)
        → ((k : Key) → is_among (names_inside def e') k ≡ true → IsOwn (declared_inside def e') k)
        → Moves def z theirs (cell l e r) (cell l e' r)
    moves_element l e e' rest kind mv w once own = record {
      change = turns.in_element mv.change;
      closes = (moves_in e e' kind mv w once own, mv.closes);
      old = scope_old (is_scope def e) (gone def z mv.change) mv.old;
    }

    one_left : (x : Name) (f : Fragment) (more : List Item) (kind : Kind) (F : Fragment) (s : ℕ) → key_at def F x ≡ s ∷ x
        → is_among theirs x ≡ true → (b : Bool) → (k : Key) → is_among (cond b (key_at def F x ∷ []) []) k ≡ true
        → is_among theirs (name_in k) ≡ true
    one_left x f more kind F s key h true k i =
        subst (λ y. is_among theirs y ≡ true) (sym (ap name_in key) ∙ ap name_in (one_of (key_at def F x) k i)) h
    one_left x f more kind F s key h false k i = absurd (true≢false (sym i))

    moves : (f : Fragment) (more : List Item) (kind : Kind) → Fits def f more kind → IsPlain f → IsTheirs f → (d m : ℕ)
        → d + declared_count def f ≤ m → d ≤ n → n < d + declared_count def f → DistinctBelow def (left d m f)
        → Moves def z theirs (left d m f) (right d m f)
    moves (hole p) more kind w pl th d m le ge lt dis = absurd (omega (arith, ge, lt))
    moves (ending l u) more kind w pl th d m le ge lt dis = absurd (omega (arith, ge, lt))
    moves (cell l e r) more kind (a, b, own, found, we, wr, un) (pe, pr) th d m le ge lt dis =
        let phylum = kinds.Phylum own.element in
        let next = m + element_size def l e (content_count def e) in
        let wide = d + fixed_count e in
        let above : n < m = omega (arith, le, lt) in
        let after : n < next = omega (arith, above) in
        let free = λ (keep : ℕ → Bool). cond (keep m) (cell l (opened_element def keep fresh e (contents def keep fresh (m + 1) (m + 1 + declared_count def e) e)
        (opened_child def keep fresh (m + 1) e (contents def keep fresh 0 (m + 1) e) (contents def keep fresh (m + 1 + 1) (m + 1 + 1 + declared_count def e) e)))
        (contents def keep fresh d next r)) (contents def keep fresh d next r) in
        let A = cell l (kid_left d m e) (left wide next r) in
        let B = cell l (kid_right d m e) (right wide next r) in
        elim (cases_Bool (may_go_on def l)) [
          | inl h ↦
              let off : one m ≡ false = alike m (λ q. absurd (omega (arith, q, above))) ∙ later m above in
              let is_a : left d m (cell l e r) ≡ left d next r =
              when_true (may_go_on def l) (free one) A h ∙ when_false (one m) _ (left d next r) off in
              let is_b : right d m (cell l e r) ≡ right d next r =
              when_true (may_go_on def l) (free two) B h ∙ when_false (two m) _ (right d next r) (later m above) in
              let zero : cond (may_go_on def l) 0 (fixed_count e) ≡ 0 = when_true {X = ℕ} (may_go_on def l) 0 (fixed_count e) h in
              let few : declared_count def (cell l e r) ≡ declared_count def r = omega (arith, zero) in
              moves_both def z theirs (left d next r) _ (right d next r) _ is_a is_b
              (moves r [] (kinds.List l) wr pr (λ y i. th y (among_right (occurring e) (occurring r) y i)) d next
              (omega (arith, le, few)) ge (omega (arith, lt, few)) (subst (DistinctBelow def) is_a dis))
          | inr h ↦
              let is_a : left d m (cell l e r) ≡ A = when_false (may_go_on def l) (free one) A h in
              let is_b : right d m (cell l e r) ≡ B = when_false (may_go_on def l) (free two) B h in
              let both : declared_count def (cell l e r) ≡ fixed_count e + declared_count def r =
              ap (λ k. k + declared_count def r) (when_false (may_go_on def l) 0 (fixed_count e) h) in
              let (de, se, dr) = subst (DistinctBelow def) is_a dis in
              moves_both def z theirs A _ B _ is_a is_b
              (elim (cases_lt n wide) [
                | inl before ↦
                    let fix : has_no_placeholder def e ≡ true = elim (cases_Bool (has_no_placeholder def e)) [
                      | inl t ↦ t
                      | inr f ↦
                          let zero : fixed_count e ≡ 0 = when_false (has_no_placeholder def e) (declared_count def e) 0 f in
                          absurd (omega (arith, before, ge, zero))
                    ] in
                    let count_is : fixed_count e ≡ declared_count def e = when_true (has_no_placeholder def e) (declared_count def e) 0 fix in
                    let kid_a : kid_left d m e ≡ left d m e = when_true (has_no_placeholder def e) (left d m e) _ fix in
                    let kid_b : kid_right d m e ≡ right d m e = when_true (has_no_placeholder def e) (right d m e) _ fix in
                    let far : left wide next r ≡ right wide next r = same_there wide next r (inr before) (inr after) in
                    let inner = moves e [] phylum we pe (λ y i. th y (among_left (occurring e) (occurring r) y i)) d m
                    (omega (arith, le, both, count_is)) ge (omega (arith, before, count_is)) (subst (DistinctBelow def) kid_a de) in
                    moves_both def z theirs (cell l (left d m e) (left wide next r)) _ (cell l (right d m e) (left wide next r)) _
                    (ap (λ x. cell l x (left wide next r)) kid_a) (ap₂ (cell l) kid_b (sym far))
                    (moves_element l (left d m e) (right d m e) (left wide next r) phylum inner (left_fits e [] phylum we pe d m)
                    (subst (λ x. AreDistinct (is_scope def x) (declared_inside def x)) kid_a se)
                    (λ k i. owns e [] phylum we pe d m above k i))
                | inr past ↦
                    let kid : kid_left d m e ≡ kid_right d m e = same_kid d m e (inl past) (inr above) in
                    let inner = moves r [] (kinds.List l) wr pr (λ y i. th y (among_right (occurring e) (occurring r) y i)) wide next
                    (omega (arith, le, both)) past (omega (arith, lt, both)) dr in
                    moves_both def z theirs A A (cell l (kid_left d m e) (right wide next r)) B refl
                    (ap (λ x. cell l x (right wide next r)) (sym kid))
                    (record { change = turns.in_rest inner.change; closes = inner.closes; old = inner.old })
              ])
        ]
    moves (operator o) more kind w pl th d m le ge lt dis = absurd (omega (arith, ge, lt))
    moves (with_child f t) more kind (j, wf, wt) (pf, pt) th d m le ge lt (df, dt, st) =
        let a = d + declared_count def f in
        let p = m + content_count def f in
        let above : n < m = omega (arith, le, lt) in
        let after : n < p = omega (arith, above) in
        let A = with_child (left d m f) (kid_left a p t) in
        let B = with_child (right d m f) (kid_right a p t) in
        elim (cases_lt n a) [
          | inl before ↦
              let kid : kid_left a p t ≡ kid_right a p t = same_kid a p t (inr before) (inr after) in
              let inner = moves f (items.Slot j ∷ more) kind wf pf (λ y i. th y (among_left (occurring f) (occurring t) y i)) d m
              (omega (arith, le)) ge before df in
              moves_both def z theirs A A (with_child (right d m f) (kid_left a p t)) B refl (ap (with_child (right d m f)) (sym kid))
              (record { change = turns.in_node inner.change; closes = inner.closes; old = inner.old })
          | inr past ↦
              let fix : has_no_placeholder def t ≡ true = elim (cases_Bool (has_no_placeholder def t)) [
                | inl e ↦ e
                | inr e ↦
                    let zero : fixed_count t ≡ 0 = when_false (has_no_placeholder def t) (declared_count def t) 0 e in
                    absurd (omega (arith, past, lt, zero))
              ] in
              let count_is : fixed_count t ≡ declared_count def t = when_true (has_no_placeholder def t) (declared_count def t) 0 fix in
              let kid_a : kid_left a p t ≡ left a p t = when_true (has_no_placeholder def t) (left a p t) _ fix in
              let kid_b : kid_right a p t ≡ right a p t = when_true (has_no_placeholder def t) (right a p t) _ fix in
              let front : left d m f ≡ right d m f = same_there d m f (inl past) (inr above) in
              let inner = moves t [] j wt pt (λ y i. th y (among_right (occurring f) (occurring t) y i)) a p
              (omega (arith, le, count_is)) past (omega (arith, lt, count_is)) (subst (DistinctBelow def) kid_a dt) in
              moves_both def z theirs (with_child (left d m f) (left a p t)) A (with_child (left d m f) (right a p t)) B
              (ap (with_child (left d m f)) kid_a) (ap₂ with_child (sym front) kid_b)
              (moves_child (left d m f) (left a p t) (right a p t) j inner (left_fits t [] j wt pt a p)
              (subst (λ x. AreDistinct (is_scope def x) (declared_inside def x)) kid_a st)
              (λ k i. owns t [] j wt pt a p after k i))
        ]
    moves (with_name f x) more kind w pl th d m le ge lt dis =
        let it = named def f x more kind w in
        let b = is_declares (next_item def f) in
        let a = d + declared_count def f in
        let p = m + content_count def f in
        let above : n < m = omega (arith, le, lt) in
        let after : n < p = omega (arith, above) in
        let name = λ (keep : ℕ → Bool). cond b (name_or_fresh def keep fresh a x) (name_or_fresh def keep fresh p x) in
        let F = left d m f in
        let A = with_name F (name one) in
        let B = with_name (right d m f) (name two) in
        elim (cases_lt n a) [
          | inl before ↦
              let same : name one ≡ name two =
              of.same_name def one two fresh fresh b a p x (agrees a (cond b 1 0) (inr before)) (agrees p (cond b 0 1) (inr after)) in
              let inner = moves f (it.item ∷ more) kind it.fits pl (λ y i. th y (among_left (occurring f) (x ∷ []) y i)) d m
              (omega (arith, le)) ge before dis in
              moves_both def z theirs A A (with_name (right d m f) (name one)) B refl (ap (with_name (right d m f)) (sym same))
              (record { change = turns.before_name (name one) inner.change; closes = inner.closes; old = inner.old })
          | inr past ↦
              let decl : b ≡ true = elim (cases_Bool b) [
                | inl e ↦ e
                | inr e ↦ let zero : cond b 1 0 ≡ 0 = when_false {X = ℕ} b 1 0 e in absurd (omega (arith, past, lt, zero))
              ] in
              let here : a ≡ n = (let few : cond b 1 0 ≡ 1 = when_true {X = ℕ} b 1 0 decl in omega (arith, past, lt, few)) in
              let old : name one ≡ x = when_true b _ (name_or_fresh def one fresh p x) decl ∙ when_true (one a) x (fresh a) (ap one here ∙ kept) in
              let new_is : name two ≡ z = when_true b _ (name_or_fresh def two fresh p x) decl ∙ when_false (two a) x (fresh a) (ap two here ∙ lost)
              ∙ ap fresh here in
              let front : F ≡ right d m f = same_there d m f (inl past) (inr above) in
              let key : key_at def F x ≡ it.space ∷ x = ap (λ i. key_of i x) (left_item f it.item more kind it.fits pl d m) ∙ it.key x in
              moves_both def z theirs (with_name F x) A (with_name F z) B (ap (with_name F) old) (ap₂ with_name (sym front) new_is)
              (record {
                change = turns.here x;
                closes = tt;
                old = one_left x f more kind F it.space key (th x (among_right (occurring f) (x ∷ []) x (among_one x))) (is_declares (next_item def F));
              })
        ]
    moves (with_number f x) more kind (w, small) pl th d m le ge lt dis =
        let inner = moves f (items.Number ∷ more) kind w pl th d m le ge lt dis in
        record { change = turns.before_number x inner.change; closes = inner.closes; old = inner.old }
    moves (with_text f x) more kind (w, text) pl th d m le ge lt dis =
        let inner = moves f (items.Text ∷ more) kind w pl th d m le ge lt dis in
        record { change = turns.before_text x inner.change; closes = inner.closes; old = inner.old }
    moves anything more kind w pl th d m le ge lt dis = absurd (omega (arith, ge, lt))
    moves (observed f) more kind w pl th d m le ge lt dis = absurd (omega (arith, ge, lt))

    -- ---- the other places

    -- of a node whose operator is kept
    node_moves : (a b : Fragment) (kind : Kind) → Moves def z theirs a b → Fits def a [] kind → HasHoles def kind
        → AreDistinct (is_scope def a) (declared_inside def a)
        → ((k : Key) → is_among (names_inside def b) k ≡ true → IsOwn (declared_inside def b) k) → Change def z (Passes def z) a b
    node_moves a b kind mv w holes once own = renamed mv.change mv.closes (λ k i. elim (cases_Bool (is_scope def b)) [
      | inl s ↦ inr (s, unused a b kind mv w (once (sym (same_scope def z mv.change) ∙ s)) own k i)
      | inr s ↦
          let less : count k (declared_inside def b) + 1 ≤ count k (declared_inside def a) =
          once_less def z theirs a b mv [] kind w (new n) k i in
          let there : is_among (declared_inside def a) k ≡ true = in_count k (declared_inside def a) (omega (arith, less)) in
          let outside : is_scope def a ≡ false = sym (same_scope def z mv.change) ∙ s in
          let none : is_among (declared_inside def a) k ≡ false =
          sym (ap (λ c. is_among (cond c [] (declared_inside def a)) k) outside) ∙ quiet_tree a kind w k (holes (space_of k)) in
          absurd (true≢false (sym there ∙ none))
    ])

    -- of an element that declares, of a list that is open after it
    element_moves : (l : ℕ) (own : ListKind) (a b : Fragment) → slice_get def.lists l ≡ Some own → Moves def z theirs a b
        → Fits def a [] (kinds.Phylum own.element) → AreDistinct (is_scope def a) (declared_inside def a)
        → ((k : Key) → is_among (names_inside def b) k ≡ true → IsOwn (declared_inside def b) k)
        → Change def z (Waits def z) (cell l a (ending l true)) (cell l b (ending l true))
    element_moves l own a b found mv w once own_names =
        renamed (turns.in_element mv.change)
        (moves_in a b (kinds.Phylum own.element) mv w once own_names, mv.closes)
        (λ k i. or_right (not (is_scope def b) && unfinished_inside def (space_of k) b) (is_declaring def (space_of k) (kinds.List l))
        (list_declares l own a found w k (there k i (is_scope def a) refl))) where
          there : (k : Key) → is_among (cond (is_scope def a) [] (gone def z mv.change)) k ≡ true → (c : Bool) → is_scope def a ≡ c
              → is_among (cond (is_scope def a) [] (declared_inside def a)) k ≡ true
          there k i true e = absurd (true≢false (sym i ∙ ap (λ c. is_among (cond c [] (gone def z mv.change)) k) e))
          there k i false e =
              let inside : is_among (gone def z mv.change) k ≡ true = sym (ap (λ c. is_among (cond c [] (gone def z mv.change)) k) e) ∙ i in
              let less : count k (declared_inside def b) + 1 ≤ count k (declared_inside def a) =
              once_less def z theirs a b mv [] (kinds.Phylum own.element) w (new n) k inside in
              ap (λ c. is_among (cond c [] (declared_inside def a)) k) e ∙ in_count k (declared_inside def a) (omega (arith, less))

    kid_change : (d p : ℕ) (t : Fragment) (kind : Kind) → Fits def t [] kind → IsPlain t → d + fixed_count t ≤ p → p ≤ n
        → n < p + child_size def t (content_count def t) → DistinctBelow def (kid_left d p t)
        → AreDistinct (is_scope def (kid_left d p t)) (declared_inside def (kid_left d p t))
        → ((d m : ℕ) → d + declared_count def t ≤ m → m ≤ n → n < m + content_count def t → DistinctBelow def (left d m t)
        → Change def z (Waits def z) (left d m t) (right d m t))
        → ((d m : ℕ) → d + declared_count def t ≤ m → d ≤ n → n < d + declared_count def t → DistinctBelow def (left d m t)
        → Moves def z theirs (left d m t) (right d m t))
        → Change def z (Passes def z) (kid_left d p t) (kid_right d p t)
    kid_change d p t kind w pl le ge lt dis once other own =
        let dc = declared_count def t in
        let k = content_count def t in
        let q = hole (phylum_of def t) in
        let node_a = left (p + 1) (p + 1 + dc) t in
        let node_b = right (p + 1) (p + 1 + dc) t in
        let rest_a = cond (is_hole t) t (cond (one p) node_a q) in
        let rest_b = cond (is_hole t) t (cond (two p) node_b q) in
        elim (cases_Bool (has_no_placeholder def t)) [
          | inl e ↦
              let is_a : kid_left d p t ≡ left d p t = when_true (has_no_placeholder def t) (left d p t) rest_a e in
              let is_b : kid_right d p t ≡ right d p t = when_true (has_no_placeholder def t) (right d p t) rest_b e in
              let size : child_size def t k ≡ k = when_true (has_no_placeholder def t) k (cond (is_hole t) 0 (1 + (dc + k))) e in
              let fix : fixed_count t ≡ dc = when_true (has_no_placeholder def t) dc 0 e in
              at_both def z (Passes def z) (left d p t) _ (right d p t) _ is_a is_b
              (done def z (left d p t) (right d p t)
              (other d p (omega (arith, le, fix)) ge (omega (arith, lt, size)) (subst (DistinctBelow def) is_a dis)))
          | inr e ↦
              let is_a : kid_left d p t ≡ rest_a = when_false (has_no_placeholder def t) (left d p t) rest_a e in
              let is_b : kid_right d p t ≡ rest_b = when_false (has_no_placeholder def t) (right d p t) rest_b e in
              let size : child_size def t k ≡ cond (is_hole t) 0 (1 + (dc + k)) =
              when_false (has_no_placeholder def t) k (cond (is_hole t) 0 (1 + (dc + k))) e in
              elim (cases_Bool (is_hole t)) [
                | inl h ↦
                    let zero : cond (is_hole t) 0 (1 + (dc + k)) ≡ 0 = when_true {X = ℕ} (is_hole t) 0 (1 + (dc + k)) h in
                    absurd (omega (arith, ge, lt, size, zero))
                | inr h ↦
                    let more : cond (is_hole t) 0 (1 + (dc + k)) ≡ 1 + (dc + k) = when_false {X = ℕ} (is_hole t) 0 (1 + (dc + k)) h in
                    let at_a : rest_a ≡ cond (one p) node_a q = when_false (is_hole t) t (cond (one p) node_a q) h in
                    let at_b : rest_b ≡ cond (two p) node_b q = when_false (is_hole t) t (cond (two p) node_b q) h in
                    let is_hole_fits = opened_hole def sound one fresh names t kind w pl e h in
                    let node_fits = left_fits t [] kind w pl (p + 1) (p + 1 + dc) in
                    at_both def z (Passes def z) (cond (one p) node_a q) _ (cond (two p) node_b q) _ (is_a ∙ at_a) (is_b ∙ at_b)
                    (elim (cases_lt p n) [
                      | inr last ↦
                          let here : p ≡ n = omega (arith, ge, last) in
                          at_both def z (Passes def z) node_a _ q _ (when_true (one p) node_a q (ap one here ∙ kept))
                          (when_false (two p) node_b q (ap two here ∙ lost))
                          (less (looser.to_hole (phylum_of def t)
                          (subst (λ j. Fits def node_a [] j) is_hole_fits.1 node_fits, left_plain t pl (p + 1) (p + 1 + dc))))
                      | inl before ↦
                          let same : one p ≡ two p = alike p (λ c. absurd (omega (arith, before, c))) in
                          elim (cases_Bool (one p)) [
                            | inr off ↦
                                none (when_false (one p) node_a q off ∙ sym (when_false (two p) node_b q (sym same ∙ off)))
                            | inl on ↦
                                let on_a : cond (one p) node_a q ≡ node_a = when_true (one p) node_a q on in
                                let on_b : cond (two p) node_b q ≡ node_b = when_true (two p) node_b q (sym same ∙ on) in
                                let dis_a : DistinctBelow def node_a = subst (DistinctBelow def) (is_a ∙ at_a ∙ on_a) dis in
                                let once_a : AreDistinct (is_scope def node_a) (declared_inside def node_a) =
                                subst (λ x. AreDistinct (is_scope def x) (declared_inside def x)) (is_a ∙ at_a ∙ on_a) once in
                                at_both def z (Passes def z) node_a _ node_b _ on_a on_b
                                (elim (cases_lt n (p + 1 + dc)) [
                                  | inl declared ↦
                                      node_moves node_a node_b kind
                                      (own (p + 1) (p + 1 + dc) (omega arith) (omega (arith, before)) declared dis_a) node_fits
                                      is_hole_fits.3 once_a (λ j i. owns t [] kind w pl (p + 1) (p + 1 + dc) declared j i)
                                  | inr others ↦
                                      done def z node_a node_b
                                      (other (p + 1) (p + 1 + dc) (omega arith) others (omega (arith, lt, size, more)) dis_a)
                                ])
                          ]
                    ])
              ]
        ]

    changes : (f : Fragment) (more : List Item) (kind : Kind) → Fits def f more kind → IsPlain f → IsTheirs f → (d m : ℕ)
        → d + declared_count def f ≤ m → m ≤ n → n < m + content_count def f → DistinctBelow def (left d m f)
        → Change def z (Waits def z) (left d m f) (right d m f)
    changes (hole p) more kind w pl th d m le ge lt dis = absurd (omega (arith, ge, lt))
    changes (ending l u) more kind w pl th d m le ge lt dis =
        let b = may_go_on def l && not u in
        let yes_open : b ≡ true = elim (cases_Bool b) [
          | inl e ↦ e
          | inr e ↦ let zero : cond b 1 0 ≡ 0 = when_false {X = ℕ} b 1 0 e in absurd (omega (arith, ge, lt, zero))
        ] in
        let here : m ≡ n = (let some : cond b 1 0 ≡ 1 = when_true {X = ℕ} b 1 0 yes_open in omega (arith, ge, lt, some)) in
        let (may, finished) = both_true (may_go_on def l) (not u) yes_open in
        let end : (u || (may_go_on def l && not (two m))) ≡ true =
        or_right u (may_go_on def l && not (two m)) (ap₂ (λ x y. x && not y) may (ap two here ∙ lost)) in
        let is_b : right d m (ending l u) ≡ ending l true = ap (ending l) end in
        at_both def z (Waits def z) (left d m (ending l u)) _ (ending l true) _ refl is_b
        (less (looser.to_end l (
          subst (λ j. Fits def (left d m (ending l u)) [] j) w.1 (subst (λ ms. Fits def (left d m (ending l u)) ms kind) w.0
              (left_fits (ending l u) more kind w pl d m)),
          tt,
        )))
    changes (cell l e r) more kind w pl th d m le ge lt dis =
        let (a, b, own, found, we, wr, un) = w in
        let (pe, pr) = pl in
        let phylum = kinds.Phylum own.element in
        let dc = declared_count def e in
        let k = content_count def e in
        let size = element_size def l e k in
        let next = m + size in
        let wide = d + fixed_count e in
        let in_e = λ (y : Name) (i : is_among (occurring e) y ≡ true). th y (among_left (occurring e) (occurring r) y i) in
        let in_r = λ (y : Name) (i : is_among (occurring r) y ≡ true). th y (among_right (occurring e) (occurring r) y i) in
        let Ea = left (m + 1) (m + 1 + dc) e in
        let Eb = right (m + 1) (m + 1 + dc) e in
        let Xa = cond (has_no_placeholder def e) Ea (kid_left 0 (m + 1) e) in
        let Xb = cond (has_no_placeholder def e) Eb (kid_right 0 (m + 1) e) in
        let Ra = left d next r in
        let Rb = right d next r in
        let free_a = cond (one m) (cell l Xa Ra) Ra in
        let free_b = cond (two m) (cell l Xb Rb) Rb in
        let A = cell l (kid_left d m e) (left wide next r) in
        let B = cell l (kid_right d m e) (right wide next r) in
        let inner = cond (has_no_placeholder def e) (dc + k) (child_size def e k) in
        elim (cases_Bool (may_go_on def l)) [
          | inl h ↦
              let is_a : left d m (cell l e r) ≡ free_a = when_true (may_go_on def l) free_a A h in
              let is_b : right d m (cell l e r) ≡ free_b = when_true (may_go_on def l) free_b B h in
              let size_is : size ≡ 1 + inner = when_true (may_go_on def l) (1 + inner) (child_size def e k) h in
              let zero : cond (may_go_on def l) 0 (fixed_count e) ≡ 0 = when_true {X = ℕ} (may_go_on def l) 0 (fixed_count e) h in
              let few : declared_count def (cell l e r) ≡ declared_count def r = omega (arith, zero) in
              elim (cases_lt m n) [
                | inr last ↦
                    let here : m ≡ n = omega (arith, ge, last) in
                    let after : n < next = omega (arith, here, size_is) in
                    let opens : Rb ≡ ending l true = left_open r l wr pr h d next after in
                    at_both def z (Waits def z) (left d m (cell l e r)) _ (ending l true) _ refl
                    (is_b ∙ when_false (two m) (cell l Xb Rb) Rb (ap two here ∙ lost) ∙ opens)
                    (less (looser.to_end l (
                      subst (λ j. Fits def (left d m (cell l e r)) [] j) b
                          (subst (λ ms. Fits def (left d m (cell l e r)) ms kind) a (left_fits (cell l e r) more kind w pl d m)),
                      left_plain (cell l e r) pl d m,
                    )))
                | inl before ↦
                    let same : one m ≡ two m = alike m (λ c. absurd (omega (arith, before, c))) in
                    elim (cases_lt n next) [
                      | inl inside ↦
                          let rest : Ra ≡ Rb = same_there d next r (inl (omega (arith, le, ge, few))) (inr inside) in
                          let opens : Rb ≡ ending l true = left_open r l wr pr h d next inside in
                          elim (cases_Bool (one m)) [
                            | inr off ↦
                                none (is_a ∙ when_false (one m) (cell l Xa Ra) Ra off ∙ rest
                                ∙ sym (is_b ∙ when_false (two m) (cell l Xb Rb) Rb (sym same ∙ off)))
                            | inl on ↦
                                let on_a : left d m (cell l e r) ≡ cell l Xa Ra = is_a ∙ when_true (one m) (cell l Xa Ra) Ra on in
                                let on_b : right d m (cell l e r) ≡ cell l Xb Rb = is_b ∙ when_true (two m) (cell l Xb Rb) Rb (sym same ∙ on) in
                                let (de, se, dr) = subst (DistinctBelow def) on_a dis in
                                elim (cases_Bool (has_no_placeholder def e)) [
                                  | inl fix ↦
                                      let x_a : Xa ≡ Ea = when_true (has_no_placeholder def e) Ea (kid_left 0 (m + 1) e) fix in
                                      let x_b : Xb ≡ Eb = when_true (has_no_placeholder def e) Eb (kid_right 0 (m + 1) e) fix in
                                      let many : inner ≡ dc + k = when_true (has_no_placeholder def e) (dc + k) (child_size def e k) fix in
                                      let dis_e : DistinctBelow def Ea = subst (DistinctBelow def) x_a de in
                                      let once_e : AreDistinct (is_scope def Ea) (declared_inside def Ea) =
                                      subst (λ x. AreDistinct (is_scope def x) (declared_inside def x)) x_a se in
                                      at_both def z (Waits def z) (cell l Ea (ending l true)) _ (cell l Eb (ending l true)) _
                                      (on_a ∙ ap₂ (cell l) x_a (rest ∙ opens)) (on_b ∙ ap₂ (cell l) x_b opens)
                                      (elim (cases_lt n (m + 1 + dc)) [
                                        | inl declared ↦
                                            element_moves l own Ea Eb found
                                            (moves e [] phylum we pe in_e (m + 1) (m + 1 + dc) (omega arith) (omega (arith, before)) declared dis_e)
                                            (left_fits e [] phylum we pe (m + 1) (m + 1 + dc)) once_e
                                            (λ j i. owns e [] phylum we pe (m + 1) (m + 1 + dc) declared j i)
                                        | inr others ↦
                                            change_element def z l Ea Eb (ending l true) (done def z Ea Eb
                                            (changes e [] phylum we pe in_e (m + 1) (m + 1 + dc) (omega arith) others
                                            (omega (arith, inside, size_is, many)) dis_e))
                                      ])
                                  | inr kid ↦
                                      let x_a : Xa ≡ kid_left 0 (m + 1) e = when_false (has_no_placeholder def e) Ea (kid_left 0 (m + 1) e) kid in
                                      let x_b : Xb ≡ kid_right 0 (m + 1) e = when_false (has_no_placeholder def e) Eb (kid_right 0 (m + 1) e) kid in
                                      let many : inner ≡ child_size def e k = when_false (has_no_placeholder def e) (dc + k) (child_size def e k) kid in
                                      let zero : fixed_count e ≡ 0 = when_false (has_no_placeholder def e) dc 0 kid in
                                      at_both def z (Waits def z) (cell l (kid_left 0 (m + 1) e) Ra) _ (cell l (kid_right 0 (m + 1) e) Ra) _
                                      (on_a ∙ ap (λ x. cell l x Ra) x_a) (on_b ∙ ap₂ (cell l) x_b (sym rest))
                                      (change_element def z l (kid_left 0 (m + 1) e) (kid_right 0 (m + 1) e) Ra
                                      (kid_change 0 (m + 1) e phylum we pe (omega (arith, zero)) (omega (arith, before))
                                      (omega (arith, inside, size_is, many)) (subst (DistinctBelow def) x_a de)
                                      (subst (λ x. AreDistinct (is_scope def x) (declared_inside def x)) x_a se)
                                      (λ i j p q s t. changes e [] phylum we pe in_e i j p q s t)
                                      (λ i j p q s t. moves e [] phylum we pe in_e i j p q s t)))
                                ]
                          ]
                      | inr past ↦
                          let xs : Xa ≡ Xb = elim (cases_Bool (has_no_placeholder def e)) [
                            | inl fix ↦
                                let many : inner ≡ dc + k = when_true (has_no_placeholder def e) (dc + k) (child_size def e k) fix in
                                when_true (has_no_placeholder def e) Ea (kid_left 0 (m + 1) e) fix
                                ∙ same_there (m + 1) (m + 1 + dc) e (inl (omega (arith, past, size_is, many))) (inl (omega (arith, past, size_is, many)))
                                ∙ sym (when_true (has_no_placeholder def e) Eb (kid_right 0 (m + 1) e) fix)
                            | inr kid ↦
                                let many : inner ≡ child_size def e k = when_false (has_no_placeholder def e) (dc + k) (child_size def e k) kid in
                                let zero : fixed_count e ≡ 0 = when_false (has_no_placeholder def e) dc 0 kid in
                                when_false (has_no_placeholder def e) Ea (kid_left 0 (m + 1) e) kid
                                ∙ same_kid 0 (m + 1) e (inl (omega (arith, zero))) (inl (omega (arith, past, size_is, many)))
                                ∙ sym (when_false (has_no_placeholder def e) Eb (kid_right 0 (m + 1) e) kid)
                          ] in
                          elim (cases_Bool (one m)) [
                            | inr off ↦
                                let off_a : left d m (cell l e r) ≡ Ra = is_a ∙ when_false (one m) (cell l Xa Ra) Ra off in
                                let off_b : right d m (cell l e r) ≡ Rb = is_b ∙ when_false (two m) (cell l Xb Rb) Rb (sym same ∙ off) in
                                at_both def z (Waits def z) Ra _ Rb _ off_a off_b
                                (changes r [] (kinds.List l) wr pr in_r d next (omega (arith, le, few)) past (omega (arith, lt))
                                (subst (DistinctBelow def) off_a dis))
                            | inl on ↦
                                let on_a : left d m (cell l e r) ≡ cell l Xa Ra = is_a ∙ when_true (one m) (cell l Xa Ra) Ra on in
                                let on_b : right d m (cell l e r) ≡ cell l Xb Rb = is_b ∙ when_true (two m) (cell l Xb Rb) Rb (sym same ∙ on) in
                                let (de, se, dr) = subst (DistinctBelow def) on_a dis in
                                at_both def z (Waits def z) (cell l Xa Ra) _ (cell l Xa Rb) _ on_a (on_b ∙ ap (λ x. cell l x Rb) (sym xs))
                                (change_rest def z l Xa Ra Rb
                                (changes r [] (kinds.List l) wr pr in_r d next (omega (arith, le, few)) past (omega (arith, lt)) dr))
                          ]
                    ]
              ]
          | inr h ↦
              let is_a : left d m (cell l e r) ≡ A = when_false (may_go_on def l) free_a A h in
              let is_b : right d m (cell l e r) ≡ B = when_false (may_go_on def l) free_b B h in
              let size_is : size ≡ child_size def e k = when_false (may_go_on def l) (1 + inner) (child_size def e k) h in
              let both : declared_count def (cell l e r) ≡ fixed_count e + declared_count def r =
              ap (λ j. j + declared_count def r) (when_false (may_go_on def l) 0 (fixed_count e) h) in
              let (de, se, dr) = subst (DistinctBelow def) is_a dis in
              at_both def z (Waits def z) A _ B _ is_a is_b
              (elim (cases_lt n next) [
                | inl inside ↦
                    let far : left wide next r ≡ right wide next r =
                    same_there wide next r (inl (omega (arith, le, ge, both))) (inr inside) in
                    at_both def z (Waits def z) A A (cell l (kid_right d m e) (left wide next r)) B refl (ap (cell l (kid_right d m e)) (sym far))
                    (change_element def z l (kid_left d m e) (kid_right d m e) (left wide next r)
                    (kid_change d m e phylum we pe (omega (arith, le, both)) ge (omega (arith, inside, size_is)) de se
                    (λ i j p q s t. changes e [] phylum we pe in_e i j p q s t)
                    (λ i j p q s t. moves e [] phylum we pe in_e i j p q s t)))
                | inr past ↦
                    let kid : kid_left d m e ≡ kid_right d m e =
                    same_kid d m e (inl (omega (arith, le, ge, both))) (inl (omega (arith, past, size_is))) in
                    at_both def z (Waits def z) A A (cell l (kid_left d m e) (right wide next r)) B refl
                    (ap (λ x. cell l x (right wide next r)) (sym kid))
                    (change_rest def z l (kid_left d m e) (left wide next r) (right wide next r)
                    (changes r [] (kinds.List l) wr pr in_r wide next (omega (arith, le, both)) past (omega (arith, lt)) dr))
              ])
        ]
    changes (operator o) more kind w pl th d m le ge lt dis = absurd (omega (arith, ge, lt))
    changes (with_child f t) more kind (j, wf, wt) (pf, pt) th d m le ge lt (df, dt, st) =
        let a = d + declared_count def f in
        let p = m + content_count def f in
        let A = with_child (left d m f) (kid_left a p t) in
        let B = with_child (right d m f) (kid_right a p t) in
        let in_t = λ (y : Name) (i : is_among (occurring t) y ≡ true). th y (among_right (occurring f) (occurring t) y i) in
        elim (cases_lt n p) [
          | inl before ↦
              let kid : kid_left a p t ≡ kid_right a p t = same_kid a p t (inl (omega (arith, le, ge))) (inr before) in
              at_both def z (Waits def z) A A (with_child (right d m f) (kid_left a p t)) B refl (ap (with_child (right d m f)) (sym kid))
              (change_node def z (left d m f) (right d m f) (kid_left a p t)
              (changes f (items.Slot j ∷ more) kind wf pf (λ y i. th y (among_left (occurring f) (occurring t) y i)) d m
              (omega (arith, le)) ge before df))
          | inr past ↦
              let front : left d m f ≡ right d m f = same_there d m f (inl (omega (arith, le, ge))) (inl past) in
              at_both def z (Waits def z) A A (with_child (left d m f) (kid_right a p t)) B refl (ap (λ x. with_child x (kid_right a p t)) (sym front))
              (change_child def z (left d m f) (kid_left a p t) (kid_right a p t)
              (kid_change a p t j wt pt (omega (arith, le)) past (omega (arith, lt)) dt st
              (λ i h q s u v. changes t [] j wt pt in_t i h q s u v) (λ i h q s u v. moves t [] j wt pt in_t i h q s u v)))
        ]
    changes (with_name f x) more kind w pl th d m le ge lt dis =
        let it = named def f x more kind w in
        let b = is_declares (next_item def f) in
        let a = d + declared_count def f in
        let p = m + content_count def f in
        let name = λ (keep : ℕ → Bool). cond b (name_or_fresh def keep fresh a x) (name_or_fresh def keep fresh p x) in
        let F = left d m f in
        let A = with_name F (name one) in
        let B = with_name (right d m f) (name two) in
        elim (cases_lt n p) [
          | inl before ↦
              let same : name one ≡ name two =
              of.same_name def one two fresh fresh b a p x (agrees a (cond b 1 0) (inl (omega (arith, le, ge)))) (agrees p (cond b 0 1) (inr before)) in
              at_both def z (Waits def z) A A (with_name (right d m f) (name one)) B refl (ap (with_name (right d m f)) (sym same))
              (change_name def z F (right d m f) (name one)
              (changes f (it.item ∷ more) kind it.fits pl (λ y i. th y (among_left (occurring f) (x ∷ []) y i)) d m (omega (arith, le)) ge before dis))
          | inr past ↦
              let below : d + declared_count def f ≤ n = omega (arith, le, ge) in
              let used : b ≡ false = elim (cases_Bool b) [
                | inr e ↦ e
                | inl e ↦ let zero : cond b 0 1 ≡ 0 = when_true {X = ℕ} b 0 1 e in absurd (omega (arith, past, lt, zero))
              ] in
              let here : p ≡ n = (let some : cond b 0 1 ≡ 1 = when_false {X = ℕ} b 0 1 used in omega (arith, past, lt, some)) in
              let old_is : name one ≡ x = when_false b (name_or_fresh def one fresh a x) _ used ∙ when_true (one p) x (fresh p) (ap one here ∙ kept) in
              let new_is : name two ≡ z = when_false b (name_or_fresh def two fresh a x) _ used ∙ when_false (two p) x (fresh p) (ap two here ∙ lost)
              ∙ ap fresh here in
              let front : F ≡ right d m f = same_there d m f (inl below) (inl past) in
              let not_declared : is_declares (next_item def F) ≡ false = ap is_declares (left_item f it.item more kind it.fits pl d m) ∙ used in
              at_both def z (Waits def z) (with_name F x) A (with_name F z) B (ap (with_name F) old_is) (ap₂ with_name (sym front) new_is)
              (renamed (turns.here x) tt
              (λ k i. absurd (true≢false (sym i ∙ ap (λ c. is_among (cond c (key_at def F x ∷ []) []) k) not_declared))))
        ]
    changes (with_number f x) more kind (w, small) pl th d m le ge lt dis =
        change_number def z (left d m f) (right d m f) x (changes f (items.Number ∷ more) kind w pl th d m le ge lt dis)
    changes (with_text f x) more kind (w, text) pl th d m le ge lt dis =
        change_text def z (left d m f) (right d m f) x (changes f (items.Text ∷ more) kind w pl th d m le ge lt dis)
    changes anything more kind w pl th d m le ge lt dis = absurd (omega (arith, ge, lt))
    changes (observed f) more kind w pl th d m le ge lt dis = absurd pl

    -- ---- the whole tree

    pub step : (f : Fragment) (kind : Kind) → WellFormed def f kind → IsTheirs f → n < place_count def f
        → IsDistinct def (opened def one fresh f) → Change def z (Any def z) (opened def one fresh f) (opened def two fresh f)
    step f kind (w, pl) th lt (once, dis) =
        let dc = declared_count def f in
        let k = content_count def f in
        let A = left 0 dc f in
        let B = right 0 dc f in
        let kid_a = left 1 (1 + dc) f in
        let kid_b = right 1 (1 + dc) f in
        let rest_a = cond (is_hole f) f (cond (one 0) kid_a (hole (phylum_of def f))) in
        let rest_b = cond (is_hole f) f (cond (two 0) kid_b (hole (phylum_of def f))) in
        elim (cases_Bool (has_no_placeholder def f)) [
          | inl e ↦
              let is_a : opened def one fresh f ≡ A = when_true (has_no_placeholder def f) A rest_a e in
              let is_b : opened def two fresh f ≡ B = when_true (has_no_placeholder def f) B rest_b e in
              let many : place_count def f ≡ dc + k = when_true (has_no_placeholder def f) (dc + k) (child_size def f k) e in
              let dis_a : DistinctBelow def A = subst (DistinctBelow def) is_a dis in
              at_both def z (Any def z) A _ B _ is_a is_b
              (elim (cases_lt n dc) [
                | inl declared ↦
                    let mv = moves f [] kind w pl th 0 dc (omega arith) (omega arith) (omega (arith, declared)) dis_a in
                    renamed mv.change mv.closes (λ j i. tt)
                | inr others ↦
                    weaker def z (Waits def z) (Any def z) (λ c j u. tt) A B
                    (changes f [] kind w pl th 0 dc (omega arith) others (omega (arith, lt, many)) dis_a)
              ])
          | inr e ↦
              let is_a : opened def one fresh f ≡ rest_a = when_false (has_no_placeholder def f) A rest_a e in
              let is_b : opened def two fresh f ≡ rest_b = when_false (has_no_placeholder def f) B rest_b e in
              let kid_is_a : kid_left 0 0 f ≡ rest_a = when_false (has_no_placeholder def f) (left 0 0 f) rest_a e in
              let kid_is_b : kid_right 0 0 f ≡ rest_b = when_false (has_no_placeholder def f) (right 0 0 f) rest_b e in
              let many : place_count def f ≡ child_size def f k = when_false (has_no_placeholder def f) (dc + k) (child_size def f k) e in
              let zero : fixed_count f ≡ 0 = when_false (has_no_placeholder def f) dc 0 e in
              let same_a : opened def one fresh f ≡ kid_left 0 0 f = is_a ∙ sym kid_is_a in
              at_both def z (Any def z) (kid_left 0 0 f) _ (kid_right 0 0 f) _ same_a (is_b ∙ sym kid_is_b)
              (weaker def z (Passes def z) (Any def z) (λ c j u. tt) (kid_left 0 0 f) (kid_right 0 0 f)
              (kid_change 0 0 f kind w pl (omega (arith, zero)) (omega arith) (omega (arith, lt, many)) (subst (DistinctBelow def) same_a dis)
              (λ s. subst (λ x. has_twice (declared_inside def x) ≡ false) same_a once)
              (λ i j p q s t. changes f [] kind w pl th i j p q s t) (λ i j p q s t. moves f [] kind w pl th i j p q s t)))
        ]
