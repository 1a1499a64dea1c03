-- Names in place of other names, one for one, and those that take one list of names to another.
use Rattle.std.proofs.Common.{◌≡◌, inl, inr, true, false, cond, ◌||◌, List, [], ◌∷◌, map, length, bytes_eq, refl, ap, ap₂, sym, ◌∙◌, subst, suc, arith}
use Rattle.std.proofs.lemmas.Bool.{cases_Bool, or_parts}
use Rattle.std.specs.Cmp.{both_ways}
use Rattle.psg_terms.specs.Names.{Name, is_among, has_twice}
use Rattle.psg_scope.proofs.KeyLists.{key_is, key_refl}

-- a name for each name, and back
pub record Permutation : Type 0 where
  pub to : Name → Name
  pub back : Name → Name
  pub undo : (n : Name) → back (to n) ≡ n
  pub redo : (n : Name) → to (back n) ≡ n

-- ---- lists of names under a function that can be undone

module _ (f back : Name → Name) (undo : (n : Name) → back (f n) ≡ n) where
  pub same_test : (m n : Name) → bytes_eq (f m) (f n) ≡ bytes_eq m n
  same_test m n = both_ways (bytes_eq (f m) (f n)) (bytes_eq m n)
      (λ e. subst (λ k. bytes_eq m k ≡ true) (sym (undo m) ∙ ap back (key_is (f m) (f n) e) ∙ undo n) (key_refl m))
      (λ e. subst (λ k. bytes_eq (f m) (f k) ≡ true) (key_is m n e) (key_refl (f m)))

  pub among_image : (ns : List Name) (n : Name) → is_among (map f ns) (f n) ≡ is_among ns n
  among_image [] n = refl
  among_image (m ∷ ns) n = ap₂ (λ a b. a || b) (same_test m n) (among_image ns n)

  pub twice_image : (ns : List Name) → has_twice (map f ns) ≡ has_twice ns
  twice_image [] = refl
  twice_image (n ∷ ns) = ap₂ (λ a b. a || b) (among_image ns n) (twice_image ns)

-- ---- two names that change places

abbrev pub swap : Name → Name → Name → Name
swap x y n = cond (bytes_eq x n) y (cond (bytes_eq y n) x n)

differs : (x n : Name) → bytes_eq x n ≡ false → bytes_eq n x ≡ false
differs x n e = both_ways (bytes_eq n x) (bytes_eq x n)
    (λ h. subst (λ k. bytes_eq k n ≡ true) (key_is n x h) (key_refl n))
    (λ h. subst (λ k. bytes_eq k x ≡ true) (key_is x n h) (key_refl x)) ∙ e

pub swap_first : (x y : Name) → swap x y x ≡ y
swap_first x y = ap (λ b. cond b y (cond (bytes_eq y x) x x)) (key_refl x)

pub swap_second : (x y : Name) → swap x y y ≡ x
swap_second x y = elim (cases_Bool (bytes_eq x y)) [
  | inl a ↦ ap (λ b. cond b y (cond (bytes_eq y y) x y)) a ∙ sym (key_is x y a)
  | inr a ↦ ap (λ b. cond b y (cond (bytes_eq y y) x y)) a ∙ ap (λ b. cond b x y) (key_refl y)
]

pub swap_other : (x y n : Name) → bytes_eq x n ≡ false → bytes_eq y n ≡ false → swap x y n ≡ n
swap_other x y n a b = ap (λ c. cond c y (cond (bytes_eq y n) x n)) a ∙ ap (λ c. cond c x n) b

pub swap_back : (x y n : Name) → swap x y (swap x y n) ≡ n
swap_back x y n = elim (cases_Bool (bytes_eq x n)) [
  | inl a ↦ subst (λ k. swap x y (swap x y k) ≡ k) (key_is x n a) (ap (swap x y) (swap_first x y) ∙ swap_second x y)
  | inr a ↦ elim (cases_Bool (bytes_eq y n)) [
    | inl b ↦ subst (λ k. swap x y (swap x y k) ≡ k) (key_is y n b) (ap (swap x y) (swap_second x y) ∙ swap_first x y)
    | inr b ↦ ap (swap x y) (swap_other x y n a b) ∙ swap_other x y n a b
  ]
]

-- the two names change places
abbrev pub swapped : Name → Name → Permutation
swapped x y = record { to = swap x y; back = swap x y; undo = swap_back x y; redo = swap_back x y }

-- ---- one list of names to another

-- other names than those of the two lists are kept
pub record Takes (xs ys : List Name) : Type 0 where
  pub names : Permutation
  pub maps : map names.to xs ≡ ys
  pub fixes : (n : Name) → is_among xs n ≡ false → is_among ys n ≡ false → names.to n ≡ n

map_map : (f g : Name → Name) (ns : List Name) → map f (map g ns) ≡ map (λ n. f (g n)) ns
map_map f g [] = refl
map_map f g (n ∷ ns) = ap (λ l. f (g n) ∷ l) (map_map f g ns)

-- first the first names change places, and then the others are taken
module _ (x y : Name) (xs ys : List Name) (once : is_among xs x ≡ false) (other : is_among ys y ≡ false) (t : Takes (map (swap x y) xs) ys) where
  abbrev after : Name → Name
  after n = t.names.to (swap x y n)

  abbrev before : Name → Name
  before n = swap x y (t.names.back n)

  both : Permutation
  both = record {
    to = after;
    back = before;
    undo = λ n. ap (swap x y) (t.names.undo (swap x y n)) ∙ swap_back x y n;
    redo = λ n. ap t.names.to (swap_back x y (t.names.back n)) ∙ t.names.redo n;
  }

  away : (n : Name) → is_among (map (swap x y) xs) (swap x y n) ≡ is_among xs n
  away n = among_image (swap x y) (swap x y) (swap_back x y) xs n

  taken_first : after x ≡ y
  taken_first =
      ap t.names.to (swap_first x y)
      ∙ t.fixes y (ap (is_among (map (swap x y) xs)) (sym (swap_first x y)) ∙ away x ∙ once) other

  kept : (n : Name) → is_among (x ∷ xs) n ≡ false → is_among (y ∷ ys) n ≡ false → after n ≡ n
  kept n a b =
      let (ax, axs) = or_parts (bytes_eq x n) (is_among xs n) a in
      let (by, bys) = or_parts (bytes_eq y n) (is_among ys n) b in
      let same : swap x y n ≡ n = swap_other x y n ax by in
      ap t.names.to same ∙ t.fixes n (ap (is_among (map (swap x y) xs)) (sym same) ∙ away n ∙ axs) bys

  takes_both : Takes (x ∷ xs) (y ∷ ys)
  unfolding both
  takes_both = record {
    names = both;
    maps = ap₂ (λ n ns. n ∷ ns) taken_first (sym (map_map t.names.to (swap x y) xs) ∙ t.maps);
    fixes = kept;
  }

pub takes : (xs ys : List Name) → has_twice xs ≡ false → has_twice ys ≡ false → length xs ≡ length ys → Takes xs ys
takes [] [] h k l = record {
  names = record { to = λ n. n; back = λ n. n; undo = λ n. refl; redo = λ n. refl };
  maps = refl;
  fixes = λ n a b. refl;
}
takes [] (y ∷ ys) h k l = absurd (omega (arith, l))
takes (x ∷ xs) [] h k l = absurd (omega (arith, l))
takes (x ∷ xs) (y ∷ ys) h k l =
    let (hx, hxs) = or_parts (is_among xs x) (has_twice xs) h in
    let (ky, kys) = or_parts (is_among ys y) (has_twice ys) k in
    takes_both x y xs ys hx ky
    (takes (map (swap x y) xs) ys (twice_image (swap x y) (swap x y) (swap_back x y) xs ∙ hxs) kys
    (same_length xs ∙ (omega (arith, l)))) where
      same_length : (ns : List Name) → length (map (swap x y) ns) ≡ length ns
      same_length [] = refl
      same_length (n ∷ ns) = ap suc (same_length ns)
