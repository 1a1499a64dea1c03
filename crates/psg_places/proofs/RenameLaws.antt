-- A tree with a new name in place of one of its names, what it declares, and what holds of it.
use Rattle.std.proofs.Common.{◌≡◌, ◌⊎◌, inl, inr, ℕ, zero, suc, ◌+◌, ◌≤◌, Bool, true, false, cond, ◌||◌, ◌&&◌, not, List, [], ◌∷◌, ◌++◌, slice_get, bytes_eq, refl, ap, ap₂, sym, ◌∙◌, subst, arith, true≢false}
use Rattle.std.proofs.lemmas.Bool.{cases_Bool}
use Rattle.psg_terms.specs.Terms.{Term}
use Rattle.psg_terms.specs.Signature.{HasSort}
use Rattle.psg_terms.specs.Instances.{IsGround}
use Rattle.psg_terms.specs.Names.{Name, has_twice, is_among}
use Rattle.psg_terms.proofs.DeclareLaws.{bytes_eq-same}
use Rattle.psg_scope.proofs.HeaderLaws.{outward-among}
use Rattle.psg_grammar.specs.declared.types.Kind.{Kind}
use Rattle.psg_grammar.specs.declared.types.Kind.TheVariants as kinds
use Rattle.psg_grammar.specs.declared.types.Item.{Item}
use Rattle.psg_grammar.specs.declared.types.Item.TheVariants as items
use Rattle.psg_grammar.specs.declared.types.Definition.{Definition}
use Rattle.psg_grammar.specs.Fragments.{Fragment, hole, ending, cell, operator, with_child, with_name, with_number}
use Rattle.psg_grammar.specs.Fragments.{with_text, anything, observed, top_operator, parts_count}
use Rattle.psg_grammar.specs.Keys.{Key, space_of, name_in}
use Rattle.psg_grammar.specs.Legal.{AreEntities, Entities, Within}
use Rattle.psg_grammar.specs.Lookups.{is_declares, is_scope, key_at, key_of, next_item}
use Rattle.psg_grammar.specs.Open.{AgreeOpen, Agrees, Choice, Holds, IsOpen}
use Rattle.psg_grammar.specs.Regions.{DistinctBelow, declared_inside, names_inside, passing, unfinished_inside}
use Rattle.psg_grammar.specs.WellFormed.{Fits, IsName}
use Rattle.psg_grammar.proofs.MixedEntities.{mixed, mixed_entities}
use Rattle.psg_completions.specs.Counts.{count, one_if}
use Rattle.psg_completions.proofs.Counting.{among_none, none_among, of_once, once_of, tally_append}
use Rattle.psg_completions.proofs.NameLaws.{among_one, none_both, none_left, none_right}
use Rattle.psg_completions.proofs.Tops.{next_is}
use Rattle.psg_eval.specs.Glues.{outer_names}
use Rattle.psg_eval.proofs.Frames.{holds_frame, moved as moved_in}
use Rattle.psg_renaming.specs.Occurring.{occurring}

pub both_true : (a b : Bool) → (a && b) ≡ true → (a ≡ true) × (b ≡ true)
both_true true b e = (refl, e)
both_true false b e = absurd (true≢false (sym e))

pub neither : (a b : Bool) → not (a || b) ≡ true → (a ≡ false) × (b ≡ false)
neither true b e = absurd (true≢false (sym e))
neither false true e = absurd (true≢false (sym e))
neither false false e = (refl, refl)

pub no_member : (k : Key) (xs : List Key) → is_among xs k ≡ true → is_among xs k ≡ false → ⊥
no_member k xs e h = true≢false (sym e ∙ h)

-- what one count says of another
pub in_count : (k : Key) (xs : List Key) → 1 ≤ count k xs → is_among xs k ≡ true
in_count k xs h = elim (cases_Bool (is_among xs k)) [
  | inl t ↦ t
  | inr f ↦ let z : count k xs ≡ 0 = none_among k xs f in absurd (omega (arith, h, z))
]

pub count_in : (k : Key) (xs : List Key) → is_among xs k ≡ true → 1 ≤ count k xs
count_in k xs h = some (count k xs) refl where
  some : (n : ℕ) → count k xs ≡ n → 1 ≤ n
  some zero e = absurd (true≢false (sym h ∙ among_none k xs e))
  some (suc n) e = omega arith

-- ---- keys of a name that a tree does not have

passing_away : (b : Bool) (u : ℕ → Bool) (d ns : List Key) (k : Key) → is_among ns k ≡ false
    → is_among (passing b u d ns) k ≡ false
passing_away true u d ns k h = outward-among k ns d u ∙ ap (λ b. b && not (u (space_of k) || is_among d k)) h
passing_away false u d ns k h = h

other_key : (k n : Key) (s : ℕ) (x : Name) → k ≡ s ∷ x → is_among (x ∷ []) (name_in n) ≡ false
    → is_among (k ∷ []) n ≡ false
other_key k n s x e h = elim (cases_Bool (bytes_eq k n)) [
  | inl t ↦
      let is : x ≡ name_in n = ap name_in (sym e ∙ bytes_eq-same k n t) in
      absurd (true≢false (sym (subst (λ y. is_among (x ∷ []) y ≡ true) is (among_one x)) ∙ h))
  | inr f ↦ ap (λ b. b || false) f
]

module _ (def : Definition) where
  -- a name part: its item, and the key of any name there
  pub record IsNamed (f : Fragment) (x : Name) (more : List Item) (kind : Kind) : Type 0 where
    pub space : ℕ
    pub item : Item
    pub fits : Fits def f (item ∷ more) kind
    pub key : (y : Name) → key_at def f y ≡ space ∷ y
    pub name : IsName def x

  pub named : (f : Fragment) (x : Name) (more : List Item) (kind : Kind) → Fits def (with_name f x) more kind
      → IsNamed f x more kind
  named f x more kind (inl (s, w), name) = record {
    space = s;
    item = items.Refers s;
    fits = w;
    key = λ y. ap (λ i. key_of i y) (next_is def f (items.Refers s) more kind w);
    name = name;
  }
  named f x more kind (inr (s, w), name) = record {
    space = s;
    item = items.Declares s;
    fits = w;
    key = λ y. ap (λ i. key_of i y) (next_is def f (items.Declares s) more kind w);
    name = name;
  }

  pub away : (f : Fragment) (more : List Item) (kind : Kind) → Fits def f more kind → (k : Key)
      → is_among (occurring f) (name_in k) ≡ false → is_among (names_inside def f) k ≡ false
  away (hole p) more kind w k h = refl
  away (ending l u) more kind w k h = refl
  away (cell l e r) more kind (a, b, own, found, we, wr, free) k h =
      none_both (outer_names def e) (names_inside def r) k
      (passing_away (is_scope def e) (λ s. unfinished_inside def s e) (declared_inside def e) (names_inside def e) k
      (away e [] (kinds.Phylum own.element) we k (none_left (occurring e) (occurring r) (name_in k) h)))
      (away r [] (kinds.List l) wr k (none_right (occurring e) (occurring r) (name_in k) h))
  away (operator o) more kind w k h = refl
  away (with_child f t) more kind (j, wf, wt) k h =
      none_both (names_inside def f) (outer_names def t) k
      (away f (items.Slot j ∷ more) kind wf k (none_left (occurring f) (occurring t) (name_in k) h))
      (passing_away (is_scope def t) (λ s. unfinished_inside def s t) (declared_inside def t) (names_inside def t) k
      (away t [] j wt k (none_right (occurring f) (occurring t) (name_in k) h)))
  away (with_name f x) more kind w k h =
      let n = named f x more kind w in
      none_both (names_inside def f) (key_at def f x ∷ []) k
      (away f (n.item ∷ more) kind n.fits k (none_left (occurring f) (x ∷ []) (name_in k) h))
      (other_key (key_at def f x) k n.space x (n.key x) (none_right (occurring f) (x ∷ []) (name_in k) h))
  away (with_number f x) more kind (w, small) k h = away f (items.Number ∷ more) kind w k h
  away (with_text f x) more kind (w, text) k h = away f (items.Text ∷ more) kind w k h
  away anything more kind w k h = refl
  away (observed f) more kind (none, w) k h = away f [] kind w k h

  -- what is declared is one of the names
  undeclared : (f : Fragment) (k : Key) → is_among (names_inside def f) k ≡ false → is_among (declared_inside def f) k ≡ false
  undeclared (hole p) k h = refl
  undeclared (ending l u) k h = refl
  undeclared (cell l e r) k h =
      none_both (cond (is_scope def e) [] (declared_inside def e)) (declared_inside def r) k
      (undeclared_in e k (none_left (outer_names def e) (names_inside def r) k h) (undeclared e k))
      (undeclared r k (none_right (outer_names def e) (names_inside def r) k h)) where
        undeclared_in : (t : Fragment) (k : Key) → is_among (outer_names def t) k ≡ false
            → (is_among (names_inside def t) k ≡ false → is_among (declared_inside def t) k ≡ false)
            → is_among (cond (is_scope def t) [] (declared_inside def t)) k ≡ false
        undeclared_in t k h inner = pick (is_scope def t) h where
          pick : (b : Bool) → is_among (passing b (λ s. unfinished_inside def s t) (declared_inside def t) (names_inside def t)) k ≡ false
              → is_among (cond b [] (declared_inside def t)) k ≡ false
          pick true e = refl
          pick false e = inner e
  undeclared (operator o) k h = refl
  undeclared (with_child f t) k h =
      none_both (declared_inside def f) (cond (is_scope def t) [] (declared_inside def t)) k
      (undeclared f k (none_left (names_inside def f) (outer_names def t) k h))
      (pick (is_scope def t) (none_right (names_inside def f) (outer_names def t) k h) (undeclared t k)) where
        pick : (b : Bool) → is_among (passing b (λ s. unfinished_inside def s t) (declared_inside def t) (names_inside def t)) k ≡ false
            → (is_among (names_inside def t) k ≡ false → is_among (declared_inside def t) k ≡ false)
            → is_among (cond b [] (declared_inside def t)) k ≡ false
        pick true e inner = refl
        pick false e inner = inner e
  undeclared (with_name f x) k h =
      none_both (declared_inside def f) (cond (is_declares (next_item def f)) (key_at def f x ∷ []) []) k
      (undeclared f k (none_left (names_inside def f) (key_at def f x ∷ []) k h))
      (pick (is_declares (next_item def f)) (none_right (names_inside def f) (key_at def f x ∷ []) k h)) where
        pick : (b : Bool) → is_among (key_at def f x ∷ []) k ≡ false → is_among (cond b (key_at def f x ∷ []) []) k ≡ false
        pick true e = e
        pick false e = refl
  undeclared (with_number f x) k h = undeclared f k h
  undeclared (with_text f x) k h = undeclared f k h
  undeclared anything k h = refl
  undeclared (observed f) k h = undeclared f k h

  within_self : (t : Fragment) (g : Entities) → Agrees def t g g
  within_self t g = pick (is_scope def t) where
    pick : (b : Bool) → Within b (AgreeOpen (λ s. unfinished_inside def s t) (declared_inside def t)) g g
    pick true = λ n u e. refl
    pick false = refl

  module _ (z : Name) where
    -- b is a with the name z in place of one of its names
    pub data Renames : Fragment → Fragment → Type 0 where
      here : {f : Fragment} (x : Name) → Renames (with_name f x) (with_name f z)
      in_element : {l : ℕ} {e e' r : Fragment} → Renames e e' → Renames (cell l e r) (cell l e' r)
      in_rest : {l : ℕ} {e r r' : Fragment} → Renames r r' → Renames (cell l e r) (cell l e r')
      in_node : {f f' t : Fragment} → Renames f f' → Renames (with_child f t) (with_child f' t)
      in_child : {f t t' : Fragment} → Renames t t' → Renames (with_child f t) (with_child f t')
      before_name : {f f' : Fragment} (x : Name) → Renames f f' → Renames (with_name f x) (with_name f' x)
      before_number : {f f' : Fragment} (x : ℕ) → Renames f f' → Renames (with_number f x) (with_number f' x)
      before_text : {f f' : Fragment} (x : List ℕ) → Renames f f' → Renames (with_text f x) (with_text f' x)

    -- the key that the new name has
    abbrev pub brought : {a b : Fragment} → Renames a b → Key
    brought (here {f = f} x) = key_at def f z
    brought (in_element r) = brought r
    brought (in_rest r) = brought r
    brought (in_node r) = brought r
    brought (in_child r) = brought r
    brought (before_name x r) = brought r
    brought (before_number x r) = brought r
    brought (before_text x r) = brought r

    -- the key that is no longer declared in the region, if there is one
    abbrev pub gone : {a b : Fragment} → Renames a b → List Key
    gone (here {f = f} x) = cond (is_declares (next_item def f)) (key_at def f x ∷ []) []
    gone (in_element {e = e} r) = cond (is_scope def e) [] (gone r)
    gone (in_rest r) = gone r
    gone (in_node r) = gone r
    gone (in_child {t = t} r) = cond (is_scope def t) [] (gone r)
    gone (before_name x r) = gone r
    gone (before_number x r) = gone r
    gone (before_text x r) = gone r

    -- the key that is declared in its place
    abbrev pub come : {a b : Fragment} → Renames a b → List Key
    come (here {f = f} x) = cond (is_declares (next_item def f)) (key_at def f z ∷ []) []
    come (in_element {e = e} r) = cond (is_scope def e) [] (come r)
    come (in_rest r) = come r
    come (in_node r) = come r
    come (in_child {t = t} r) = cond (is_scope def t) [] (come r)
    come (before_name x r) = come r
    come (before_number x r) = come r
    come (before_text x r) = come r

    -- In the region of the tree the key is not used, or its space is unfinished, so that it may be declared there.
    abbrev pub IsLeft : Fragment → Key → Type 0
    IsLeft t k = (unfinished_inside def (space_of k) t ≡ true) ⊎ (is_among (names_inside def t) k ≡ false)

    abbrev pub AreLeft : {a b : Fragment} → Renames a b → Type 0
    AreLeft {a} {b} r = (k : Key) → is_among (gone r) k ≡ true → IsLeft b k

    -- so it is of each scope operator below the top with the key that it no longer declares
    abbrev pub Closes : {a b : Fragment} → Renames a b → Type 0
    Closes (here x) = Unit {0}
    Closes (in_element {e' = e'} r) = (is_scope def e' ≡ true → AreLeft r) × Closes r
    Closes (in_rest r) = Closes r
    Closes (in_node r) = Closes r
    Closes (in_child {t' = t'} r) = (is_scope def t' ≡ true → AreLeft r) × Closes r
    Closes (before_name x r) = Closes r
    Closes (before_number x r) = Closes r
    Closes (before_text x r) = Closes r

    -- ---- the node at the top is the same

    same_top : {a b : Fragment} → Renames a b → (top_operator a ≡ top_operator b) × (parts_count a ≡ parts_count b)
    same_top (here x) = (refl, refl)
    same_top (in_element r) = (refl, refl)
    same_top (in_rest r) = (refl, refl)
    same_top (in_node r) = let (e, d) = same_top r in (e, ap (λ n. n + 1) d)
    same_top (in_child r) = (refl, refl)
    same_top (before_name x r) = let (e, d) = same_top r in (e, ap (λ n. n + 1) d)
    same_top (before_number x r) = let (e, d) = same_top r in (e, ap (λ n. n + 1) d)
    same_top (before_text x r) = let (e, d) = same_top r in (e, ap (λ n. n + 1) d)

    pub same_scope : {a b : Fragment} → Renames a b → is_scope def b ≡ is_scope def a
    same_scope {a} {b} r = let (e, d) = same_top r in cc

    same_item : {a b : Fragment} → Renames a b → next_item def b ≡ next_item def a
    same_item {a} {b} r = let (e, d) = same_top r in cc

    same_key : {a b : Fragment} → Renames a b → (x : Name) → key_at def b x ≡ key_at def a x
    same_key {a} {b} r x = let e = same_item r in cc

    pub same_unfinished : {a b : Fragment} → Renames a b → (s : ℕ) → unfinished_inside def s b ≡ unfinished_inside def s a
    same_unfinished (here x) s = refl
    same_unfinished (in_element {r = rest} r) s =
        ap₂ (λ c u. (not c && u) || unfinished_inside def s rest) (same_scope r) (same_unfinished r s)
    same_unfinished (in_rest {e = e} r) s = ap (λ u. (not (is_scope def e) && unfinished_inside def s e) || u) (same_unfinished r s)
    same_unfinished (in_node {t = t} r) s = ap (λ u. u || (not (is_scope def t) && unfinished_inside def s t)) (same_unfinished r s)
    same_unfinished (in_child {f = f} r) s =
        ap₂ (λ c u. unfinished_inside def s f || (not c && u)) (same_scope r) (same_unfinished r s)
    same_unfinished (before_name x r) s = same_unfinished r s
    same_unfinished (before_number x r) s = same_unfinished r s
    same_unfinished (before_text x r) s = same_unfinished r s

    -- ---- what is declared

    count_in_scope : (k : Key) (b c : Bool) (xs ys us vs : List Key) → c ≡ b
        → count k ys + count k us ≡ count k xs + count k vs
        → count k (cond c [] ys) + count k (cond b [] us) ≡ count k (cond b [] xs) + count k (cond b [] vs)
    count_in_scope k b c xs ys us vs e h =
        subst (λ d. count k (cond d [] ys) + count k (cond b [] us) ≡ count k (cond b [] xs) + count k (cond b [] vs)) (sym e)
        (pick b) where
          pick : (b : Bool) → count k (cond b [] ys) + count k (cond b [] us) ≡ count k (cond b [] xs) + count k (cond b [] vs)
          pick true = refl
          pick false = h

    counted : (k : Key) (xs ys : List Key) → count k (xs ++ ys) ≡ count k xs + count k ys
    counted k xs ys = tally_append (λ x. bytes_eq x k) xs ys

    -- more that is the same in front or at the end
    count_more : (k : Key) (xs ys us vs more : List Key) → count k ys + count k us ≡ count k xs + count k vs
        → (count k (ys ++ more) + count k us ≡ count k (xs ++ more) + count k vs)
        × (count k (more ++ ys) + count k us ≡ count k (more ++ xs) + count k vs)
    count_more k xs ys us vs more h =
        let a : count k (ys ++ more) ≡ count k ys + count k more = counted k ys more in
        let b : count k (xs ++ more) ≡ count k xs + count k more = counted k xs more in
        let c : count k (more ++ ys) ≡ count k more + count k ys = counted k more ys in
        let d : count k (more ++ xs) ≡ count k more + count k xs = counted k more xs in
        (omega (arith, h, a, b), omega (arith, h, c, d))

    pub counts : {a b : Fragment} (r : Renames a b) (k : Key)
        → count k (declared_inside def b) + count k (gone r) ≡ count k (declared_inside def a) + count k (come r)
    counts (here {f = f} x) k =
        let old : List Key = cond (is_declares (next_item def f)) (key_at def f x ∷ []) [] in
        let new : List Key = cond (is_declares (next_item def f)) (key_at def f z ∷ []) [] in
        let a : count k (declared_inside def f ++ new) ≡ count k (declared_inside def f) + count k new =
        counted k (declared_inside def f) new in
        let b : count k (declared_inside def f ++ old) ≡ count k (declared_inside def f) + count k old =
        counted k (declared_inside def f) old in
        omega (arith, a, b)
    counts (in_element {e = e} {e' = e'} {r = rest} r) k =
        (count_more k (cond (is_scope def e) [] (declared_inside def e)) (cond (is_scope def e') [] (declared_inside def e'))
        (cond (is_scope def e) [] (gone r)) (cond (is_scope def e) [] (come r)) (declared_inside def rest)
        (count_in_scope k (is_scope def e) (is_scope def e') (declared_inside def e) (declared_inside def e') (gone r) (come r)
        (same_scope r) (counts r k))).0
    counts (in_rest {e = e} {r = rest} {r' = rest'} r) k =
        (count_more k (declared_inside def rest) (declared_inside def rest') (gone r) (come r)
        (cond (is_scope def e) [] (declared_inside def e)) (counts r k)).1
    counts (in_node {f = f} {f' = f'} {t = t} r) k =
        (count_more k (declared_inside def f) (declared_inside def f') (gone r) (come r)
        (cond (is_scope def t) [] (declared_inside def t)) (counts r k)).0
    counts (in_child {f = f} {t = t} {t' = t'} r) k =
        (count_more k (cond (is_scope def t) [] (declared_inside def t)) (cond (is_scope def t') [] (declared_inside def t'))
        (cond (is_scope def t) [] (gone r)) (cond (is_scope def t) [] (come r)) (declared_inside def f)
        (count_in_scope k (is_scope def t) (is_scope def t') (declared_inside def t) (declared_inside def t') (gone r) (come r)
        (same_scope r) (counts r k))).1
    counts (before_name {f = f} {f' = f'} x r) k =
        subst (λ i. count k (declared_inside def f' ++ cond (is_declares i) (key_of i x ∷ []) []) + count k (gone r)
        ≡ count k (declared_inside def f ++ cond (is_declares (next_item def f)) (key_at def f x ∷ []) []) + count k (come r))
        (sym (same_item r))
        (count_more k (declared_inside def f) (declared_inside def f') (gone r) (come r)
        (cond (is_declares (next_item def f)) (key_at def f x ∷ []) []) (counts r k)).0
    counts (before_number x r) k = counts r k
    counts (before_text x r) k = counts r k

    -- what comes is the new key
    pub few : {a b : Fragment} (r : Renames a b) (k : Key) → count k (come r) ≤ one_if (bytes_eq (brought r) k)
    few (here {f = f} x) k = pick (is_declares (next_item def f)) where
      pick : (b : Bool) → count k (cond b (key_at def f z ∷ []) []) ≤ one_if (bytes_eq (key_at def f z) k)
      pick true = omega arith
      pick false = omega arith
    few (in_element {e = e} r) k = few_in (is_scope def e) (few r k) where
      few_in : (b : Bool) → count k (come r) ≤ one_if (bytes_eq (brought r) k)
          → count k (cond b [] (come r)) ≤ one_if (bytes_eq (brought r) k)
      few_in true h = omega arith
      few_in false h = h
    few (in_rest r) k = few r k
    few (in_node r) k = few r k
    few (in_child {t = t} r) k = few_in (is_scope def t) (few r k) where
      few_in : (b : Bool) → count k (come r) ≤ one_if (bytes_eq (brought r) k)
          → count k (cond b [] (come r)) ≤ one_if (bytes_eq (brought r) k)
      few_in true h = omega arith
      few_in false h = h
    few (before_name x r) k = few r k
    few (before_number x r) k = few r k
    few (before_text x r) k = few r k

    -- the new key has the new name
    pub new_is : {a b : Fragment} (r : Renames a b) (more : List Item) (kind : Kind) → Fits def a more kind
        → name_in (brought r) ≡ z
    new_is (here {f = f} x) more kind w = ap name_in ((named f x more kind w).key z)
    new_is (in_element r) more kind (a, b, own, found, we, wr, free) = new_is r [] (kinds.Phylum own.element) we
    new_is (in_rest {l = l} r) more kind (a, b, own, found, we, wr, free) = new_is r [] (kinds.List l) wr
    new_is (in_node r) more kind (j, wf, wt) = new_is r (items.Slot j ∷ more) kind wf
    new_is (in_child r) more kind (j, wf, wt) = new_is r [] j wt
    new_is (before_name {f = f} x r) more kind w = let n = named f x more kind w in new_is r (n.item ∷ more) kind n.fits
    new_is (before_number x r) more kind (w, small) = new_is r (items.Number ∷ more) kind w
    new_is (before_text x r) more kind (w, text) = new_is r (items.Text ∷ more) kind w

    -- the tree has no key of the new name
    away_new : {a b : Fragment} (r : Renames a b) (more : List Item) (kind : Kind) → Fits def a more kind
        → (f : Fragment) (others : List Item) (k : Kind) → Fits def f others k → is_among (occurring f) z ≡ false
        → is_among (names_inside def f) (brought r) ≡ false
    away_new r more kind w f others k wf h =
        away f others k wf (brought r) (subst (λ y. is_among (occurring f) y ≡ false) (sym (new_is r more kind w)) h)

    once_new : {a b : Fragment} (r : Renames a b) (more : List Item) (kind : Kind) → Fits def a more kind
        → is_among (occurring a) z ≡ false → has_twice (declared_inside def a) ≡ false
        → has_twice (declared_inside def b) ≡ false
    once_new {a} {b} r more kind w absent once = of_once (declared_inside def b) at where
      none : count (brought r) (declared_inside def a) ≡ 0
      none = none_among (brought r) (declared_inside def a)
          (undeclared a (brought r) (away_new r more kind w a more kind w absent))

      at : (m : Key) → count m (declared_inside def b) ≤ 1
      at m =
          let all : count m (declared_inside def b) + count m (gone r) ≡ count m (declared_inside def a) + count m (come r) =
          counts r m in
          let most : count m (come r) ≤ one_if (bytes_eq (brought r) m) = few r m in
          elim (cases_Bool (bytes_eq (brought r) m)) [
            | inl t ↦
                let is : count m (declared_inside def a) ≡ 0 =
                subst (λ k. count k (declared_inside def a) ≡ 0) (bytes_eq-same (brought r) m t) none in
                let one : one_if (bytes_eq (brought r) m) ≡ 1 = ap one_if t in
                omega (arith, all, most, is, one)
            | inr f ↦
                let old : count m (declared_inside def a) ≤ 1 = once_of m (declared_inside def a) once in
                let zero : one_if (bytes_eq (brought r) m) ≡ 0 = ap one_if f in
                omega (arith, all, most, old, zero)
          ]

    below_new : {a b : Fragment} (r : Renames a b) (more : List Item) (kind : Kind) → Fits def a more kind
        → is_among (occurring a) z ≡ false → DistinctBelow def a → DistinctBelow def b
    below_new (here x) more kind w absent d = d
    below_new (in_element {e = e} {r = rest} r) more kind (a, b, own, found, we, wr, free) absent (d, s, dr) =
        let absent' = none_left (occurring e) (occurring rest) z absent in
        (below_new r [] (kinds.Phylum own.element) we absent' d, (λ h. once_new r [] (kinds.Phylum own.element) we absent' (s (sym (same_scope r) ∙ h))), dr)
    below_new (in_rest {l = l} {e = e} {r = rest} r) more kind (a, b, own, found, we, wr, free) absent (d, s, dr) =
        (d, s, below_new r [] (kinds.List l) wr (none_right (occurring e) (occurring rest) z absent) dr)
    below_new (in_node {f = f} {t = t} r) more kind (j, wf, wt) absent (df, d, s) =
        (below_new r (items.Slot j ∷ more) kind wf (none_left (occurring f) (occurring t) z absent) df, d, s)
    below_new (in_child {f = f} {t = t} r) more kind (j, wf, wt) absent (df, d, s) =
        let absent' = none_right (occurring f) (occurring t) z absent in
        (df, below_new r [] j wt absent' d, λ h. once_new r [] j wt absent' (s (sym (same_scope r) ∙ h)))
    below_new (before_name {f = f} x r) more kind w absent d =
        let n = named f x more kind w in
        below_new r (n.item ∷ more) kind n.fits (none_left (occurring f) (x ∷ []) z absent) d
    below_new (before_number x r) more kind (w, small) absent d = below_new r (items.Number ∷ more) kind w absent d
    below_new (before_text x r) more kind (w, text) absent d = below_new r (items.Text ∷ more) kind w absent d

    -- ---- what holds

    abbrev choice : {a b : Fragment} → Renames a b → Choice a → Choice b
    choice (here x) c = c
    choice (in_element r) c = (c.0, choice r c.1, c.2)
    choice (in_rest r) c = (c.0, c.1, choice r c.2)
    choice (in_node r) c = (choice r c.0, c.1)
    choice (in_child r) c = (c.0, choice r c.1)
    choice (before_name x r) c = choice r c
    choice (before_number x r) c = choice r c
    choice (before_text x r) c = choice r c

    -- The tree with the new name holds with the same value under entities that are the same for all other keys.
    record IsTurned {a b : Fragment} (r : Renames a b) (c : Choice a) (g : Entities) (columns : List Term) (v : Term) (before after : List Term) : Type 0 where
      new : Entities
      entities : AreEntities def new
      same : (n : Key) → is_among (brought r ∷ []) n ≡ false → g n ≡ new n
      holds : Holds def new b (choice r c) columns v before after

    inside_same : (b b' : Bool) (u u' : ℕ → Bool) (old new names : List Key) (g inner : Entities) → b' ≡ b
        → ((s : ℕ) → u' s ≡ u s) → Within b (AgreeOpen u old) g inner
        → (b' ≡ true → (n : Key) → is_among names n ≡ true → u' (space_of n) ≡ false → is_among new n ≡ false
        → is_among old n ≡ false)
        → (n : Key) → is_among (passing b' u' new names) n ≡ true → inner n ≡ g n
    inside_same false b' u u' old new names g inner e us agr h n i = ap (λ k. k n) agr
    inside_same true false u u' old new names g inner e us agr h n i = absurd (true≢false (sym e))
    inside_same true true u u' old new names g inner e us agr h n i =
        let (a, b) = both_true (is_among names n) (not (u' (space_of n) || is_among new n)) (sym (outward-among n names new u') ∙ i) in
        let (p, q) = neither (u' (space_of n)) (is_among new n) b in
        agr n (sym (us (space_of n)) ∙ p) (h refl n a p q)

    -- a key that passes outward was not declared before
    not_before : {t t' : Fragment} (r : Renames t t') → AreLeft r → (n : Key) → is_among (names_inside def t') n ≡ true
        → unfinished_inside def (space_of n) t' ≡ false → is_among (declared_inside def t') n ≡ false
        → is_among (declared_inside def t) n ≡ false
    not_before {t} {t'} r left n i u d =
        let stays : is_among (gone r) n ≡ false = elim (cases_Bool (is_among (gone r) n)) [
          | inl e ↦ elim (left n e) [ inl p ↦ absurd (true≢false (sym p ∙ u)) | inr p ↦ absurd (true≢false (sym i ∙ p)) ]
          | inr e ↦ e
        ] in
        let all : count n (declared_inside def t') + count n (gone r) ≡ count n (declared_inside def t) + count n (come r) =
        counts r n in
        let one : count n (declared_inside def t') ≡ 0 = none_among n (declared_inside def t') d in
        let two : count n (gone r) ≡ 0 = none_among n (gone r) stays in
        among_none n (declared_inside def t) (omega (arith, all, one, two))

    -- ---- from inside of a child to the outside

    child_same : {t t' : Fragment} (r : Renames t t') → (is_scope def t' ≡ true → AreLeft r) → (g inner new : Entities)
        → Agrees def t g inner → ((n : Key) → is_among (brought r ∷ []) n ≡ false → inner n ≡ new n) → (n : Key)
        → is_among (outer_names def t') n ≡ true → new n ≡ mixed (brought r ∷ []) new g n
    child_same {t} {t'} r left g inner new agr same n i = elim (cases_Bool (is_among (brought r ∷ []) n)) [
      | inl e ↦ sym (ap (λ b. cond b (new n) (g n)) e)
      | inr e ↦ sym (same n e)
          ∙ inside_same (is_scope def t) (is_scope def t') (λ s. unfinished_inside def s t) (λ s. unfinished_inside def s t')
          (declared_inside def t) (declared_inside def t') (names_inside def t') g inner (same_scope r) (same_unfinished r) agr
          (λ b. not_before r (left b)) n i
          ∙ sym (ap (λ b. cond b (new n) (g n)) e)
    ]

    mixed_same : (k : Key) (new g : Entities) (n : Key) → is_among (k ∷ []) n ≡ false → g n ≡ mixed (k ∷ []) new g n
    mixed_same k new g n e = sym (ap (λ b. cond b (new n) (g n)) e)

    not_new : (names : List Key) (k : Key) → is_among names k ≡ false → (n : Key) → is_among names n ≡ true
        → is_among (k ∷ []) n ≡ false
    not_new names k none n i = elim (cases_Bool (bytes_eq k n)) [
      | inl t ↦ absurd (true≢false (sym i ∙ subst (λ m. is_among names m ≡ false) (bytes_eq-same k n t) none))
      | inr f ↦ ap (λ b. b || false) f
    ]

    -- for the names of a tree that does not have the new one
    kept_same : (names : List Key) (k : Key) (new g : Entities) → is_among names k ≡ false → (n : Key)
        → is_among names n ≡ true → g n ≡ mixed (k ∷ []) new g n
    kept_same names k new g none n i = mixed_same k new g n (not_new names k none n i)

    -- a name that is there is none of the new key
    other_name : (k y : Key) (s : ℕ) (x : Name) → y ≡ s ∷ x → name_in k ≡ z → is_among (x ∷ []) z ≡ false
        → is_among (k ∷ []) y ≡ false
    other_name k y s x e is h = elim (cases_Bool (bytes_eq k y)) [
      | inl t ↦
          let same : z ≡ x = sym is ∙ ap name_in (bytes_eq-same k y t ∙ e) in
          absurd (true≢false (sym (subst (λ n. is_among (x ∷ []) n ≡ true) (sym same) (among_one x)) ∙ h))
      | inr f ↦ ap (λ b. b || false) f
    ]

    -- the entities with one more, of a key with the same space as another one
    own_entities : (k old : Key) (g : Entities) → space_of k ≡ space_of old → AreEntities def g
        → AreEntities def (λ n. cond (is_among (k ∷ []) n) (g old) (g n))
    own_entities k old g same eg = record {
      ground = λ n. elim (cases_Bool (is_among (k ∷ []) n)) [
        | inl e ↦ subst (λ b. IsGround (cond b (g old) (g n))) (sym e) (eg.ground old)
        | inr e ↦ subst (λ b. IsGround (cond b (g old) (g n))) (sym e) (eg.ground n)
      ];
      sorted = λ n s at. elim (cases_Bool (bytes_eq k n)) [
        | inl e ↦ subst (λ b. HasSort def.signature (cond (b || false) (g old) (g n)) s.sort.0) (sym e)
            (eg.sorted old s (ap (slice_get def.spaces) (sym same ∙ ap space_of (bytes_eq-same k n e)) ∙ at))
        | inr e ↦ subst (λ b. HasSort def.signature (cond (b || false) (g old) (g n)) s.sort.0) (sym e) (eg.sorted n s at)
      ];
    }

    turn : {a b : Fragment} (r : Renames a b) (more : List Item) (kind : Kind) → Fits def a more kind
        → is_among (occurring a) z ≡ false → Closes r → (c : Choice a) (g : Entities) → AreEntities def g
        → (columns : List Term) (v : Term) (before after : List Term) → Holds def g a c columns v before after
        → IsTurned r c g columns v before after
    turn (here {f = f} x) more kind w absent closes c g eg columns v before after it =
        let n = named f x more kind w in
        let k = key_at def f z in
        let old = key_at def f x in
        let new : Entities = λ m. cond (is_among (k ∷ []) m) (g old) (g m) in
        let en = own_entities k old g (ap space_of (n.key z) ∙ sym (ap space_of (n.key x))) eg in
        let none : is_among (names_inside def f) k ≡ false =
        away f (n.item ∷ more) kind n.fits k (subst (λ y. is_among (occurring f) y ≡ false) (sym (ap name_in (n.key z)))
        (none_left (occurring f) (x ∷ []) z absent)) in
        let is : g old ≡ new k = sym (ap (λ b. cond b (g old) (g k)) (among_one k)) in
        record {
          new = new;
          entities = en;
          same = λ m e. sym (ap (λ b. cond b (g old) (g m)) e);
          holds = subst (λ y. Holds def new f c (y ∷ columns) v before after) is
              (holds_frame def f c g new (g old ∷ columns) v before after en
              (kept_same (names_inside def f) k (λ m. g old) g none) it);
        }
    turn (in_element {l = l} {e = e} {e' = e'} {r = rest} r) more kind (nil, of_list, own, found, we, wr, free) absent (left, closes) c g eg
        columns v before after (none, first, others, mid, inner, row, ei, agr, he, hr) =
        let t = turn r [] (kinds.Phylum own.element) we (none_left (occurring e) (occurring rest) z absent) closes c.1 inner ei
        [] first before mid he in
        let new = mixed (brought r ∷ []) t.new g in
        let en = mixed_entities def (brought r ∷ []) t.new g t.entities eg in
        let m = moved_in def e' t.new new t.new en t.entities (within_self e' t.new) (child_same r left g inner t.new agr t.same) in
        record {
          new = new;
          entities = en;
          same = mixed_same (brought r) t.new g;
          holds = (
            none,
            first,
            others,
            mid,
            m.inside,
            row,
            m.entities,
            m.agrees,
            holds_frame def e' (choice r c.1) t.new m.inside [] first before mid m.entities m.same t.holds,
            holds_frame def rest c.2 g new [] others mid after en
                (kept_same (names_inside def rest) (brought r) t.new g
                (away_new r [] (kinds.Phylum own.element) we rest [] (kinds.List l) wr (none_right (occurring e) (occurring rest) z absent)))
                hr,
          );
        }
    turn (in_rest {l = l} {e = e} {r = rest} r) more kind (nil, of_list, own, found, we, wr, free) absent closes c g eg
        columns v before after (none, first, others, mid, inner, row, ei, agr, he, hr) =
        let t = turn r [] (kinds.List l) wr (none_right (occurring e) (occurring rest) z absent) closes c.2 g eg
        [] others mid after hr in
        let away_e = away_new r [] (kinds.List l) wr e [] (kinds.Phylum own.element) we (none_left (occurring e) (occurring rest) z absent) in
        let m = moved_in def e g t.new inner t.entities ei agr
        (λ n i. t.same n (not_new (outer_names def e) (brought r)
        (passing_away (is_scope def e) (λ s. unfinished_inside def s e) (declared_inside def e) (names_inside def e) (brought r) away_e) n i)) in
        record {
          new = t.new;
          entities = t.entities;
          same = t.same;
          holds = (
            none,
            first,
            others,
            mid,
            m.inside,
            row,
            m.entities,
            m.agrees,
            holds_frame def e c.1 inner m.inside [] first before mid m.entities m.same he,
            t.holds,
          );
        }
    turn (in_node {f = f} {t = u} r) more kind (j, wf, wt) absent closes c g eg columns v before after (value, mid, inner, hf, ei, agr, ht) =
        let t = turn r (items.Slot j ∷ more) kind wf (none_left (occurring f) (occurring u) z absent) closes c.0 g eg
        (value ∷ columns) v before mid hf in
        let away_u = away_new r (items.Slot j ∷ more) kind wf u [] j wt (none_right (occurring f) (occurring u) z absent) in
        let m = moved_in def u g t.new inner t.entities ei agr
        (λ n i. t.same n (not_new (outer_names def u) (brought r)
        (passing_away (is_scope def u) (λ s. unfinished_inside def s u) (declared_inside def u) (names_inside def u) (brought r) away_u) n i)) in
        record {
          new = t.new;
          entities = t.entities;
          same = t.same;
          holds = (
            value,
            mid,
            m.inside,
            t.holds,
            m.entities,
            m.agrees,
            holds_frame def u c.1 inner m.inside [] value mid after m.entities m.same ht,
          );
        }
    turn (in_child {f = f} {t = u} {t' = u'} r) more kind (j, wf, wt) absent (left, closes) c g eg columns v before after
        (value, mid, inner, hf, ei, agr, ht) =
        let t = turn r [] j wt (none_right (occurring f) (occurring u) z absent) closes c.1 inner ei [] value mid after ht in
        let new = mixed (brought r ∷ []) t.new g in
        let en = mixed_entities def (brought r ∷ []) t.new g t.entities eg in
        let m = moved_in def u' t.new new t.new en t.entities (within_self u' t.new) (child_same r left g inner t.new agr t.same) in
        record {
          new = new;
          entities = en;
          same = mixed_same (brought r) t.new g;
          holds = (
            value,
            mid,
            m.inside,
            holds_frame def f c.0 g new (value ∷ columns) v before mid en
                (kept_same (names_inside def f) (brought r) t.new g
                (away_new r [] j wt f (items.Slot j ∷ more) kind wf (none_left (occurring f) (occurring u) z absent)))
                hf,
            m.entities,
            m.agrees,
            holds_frame def u' (choice r c.1) t.new m.inside [] value mid after m.entities m.same t.holds,
          );
        }
    turn (before_name {f = f} {f' = f'} x r) more kind w absent closes c g eg columns v before after it =
        let n = named f x more kind w in
        let t = turn r (n.item ∷ more) kind n.fits (none_left (occurring f) (x ∷ []) z absent) closes c g eg
        (g (key_at def f x) ∷ columns) v before after it in
        let other : is_among (brought r ∷ []) (key_at def f x) ≡ false =
        other_name (brought r) (key_at def f x) n.space x (n.key x) (new_is r (n.item ∷ more) kind n.fits)
        (none_right (occurring f) (x ∷ []) z absent) in
        let is : g (key_at def f x) ≡ t.new (key_at def f' x) = t.same (key_at def f x) other ∙ ap t.new (sym (same_key r x)) in
        record {
          new = t.new;
          entities = t.entities;
          same = t.same;
          holds = subst (λ y. Holds def t.new f' (choice r c) (y ∷ columns) v before after) is t.holds;
        }
    turn (before_number x r) more kind (w, small) absent closes c g eg columns v before after it =
        let t = turn r (items.Number ∷ more) kind w absent closes c g eg columns v before after it in
        record { new = t.new; entities = t.entities; same = t.same; holds = t.holds }
    turn (before_text x r) more kind (w, text) absent closes c g eg columns v before after it =
        let t = turn r (items.Text ∷ more) kind w absent closes c g eg columns v before after it in
        record { new = t.new; entities = t.entities; same = t.same; holds = t.holds }

    -- What is open is still open with the new name.
    pub open_renamed : {a b : Fragment} (r : Renames a b) (kind : Kind) → Fits def a [] kind
        → is_among (occurring a) z ≡ false → Closes r → IsOpen def a → IsOpen def b
    open_renamed {a} {b} r kind w absent closes o =
        let t = turn r [] kind w absent closes o.choice o.judged.inner o.judged.entities [] o.value [] [] o.judged.holds in
        record {
          distinct = (once_new r [] kind w absent o.distinct.0, below_new r [] kind w absent o.distinct.1);
          choice = choice r o.choice;
          outside = t.new;
          entities = t.entities;
          value = o.value;
          judged = record { inner = t.new; entities = t.entities; agree = within_self b t.new; holds = t.holds };
        }
