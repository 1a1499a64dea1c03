-- Two lists of keys made one, key by key.
use Rattle.std.specs.Prelude.{ℕ, ◌≡◌, ◌+◌, ◌≤◌, ◌&&◌, ◌||◌, Bool, false, List, [], ◌∷◌, ◌++◌, length}
use Rattle.std.specs.List.{AllByRecursion}
use Rattle.std.specs.declared.cmp.Ordering.{Ordering}
use Rattle.std.specs.declared.cmp.Ordering.TheVariants.{Less, Equal, Greater}
use Rattle.psg_grammar.specs.Keys.{Key, key_cmp}
use Rattle.psg_scope.specs.Headers.{key_of, keys, both, ArePlaces, AreRising}
use Rattle.psg_scope.specs.declared.header.NameCol.{NameCol}
use Rattle.psg_scope.specs.declared.merging.Merging.{Merging}
use Rattle.psg_scope.specs.declared.merging.First.{First}
use Rattle.psg_scope.specs.declared.merging.First.TheVariants.{Left, Right, Both, End}

-- what the order of two things chooses
abbrev pub by_order : {X : Type 0} → Ordering → X → X → X → X
by_order Less less equal greater = less
by_order Equal less equal greater = equal
by_order Greater less equal greater = greater

-- x and what follows it made one with a list
abbrev pub merge_with : NameCol → (List NameCol → List NameCol) → List NameCol → List NameCol
merge_with x behind [] = x ∷ behind []
merge_with x behind (y ∷ ys) =
    by_order (key_cmp (key_of x) (key_of y)) (x ∷ behind (y ∷ ys)) (both x y ∷ behind ys) (y ∷ merge_with x behind ys)

-- two ascending lists made one: a key of both is there once, and declared where one of them declares it
abbrev pub merge : List NameCol → List NameCol → List NameCol
merge [] ys = ys
merge (x ∷ xs) ys = merge_with x (merge xs) ys

-- whether a key that is declared in both lists is met
abbrev pub clash_with : NameCol → (List NameCol → Bool) → List NameCol → Bool
clash_with x behind [] = false
clash_with x behind (y ∷ ys) =
    by_order (key_cmp (key_of x) (key_of y)) (behind (y ∷ ys)) ((x.declared && y.declared) || behind ys)
    (clash_with x behind ys)

-- whether both lists declare one key; a key that one of them only uses is no clash
abbrev pub clashes : List NameCol → List NameCol → Bool
clashes [] ys = false
clashes (x ∷ xs) ys = clash_with x (clashes xs) ys

-- the next key, and what both lists are after it
abbrev pub IsNext : List NameCol → List NameCol → First → Type 0
IsNext xs ys (Left x rest) = (xs ≡ x.now ∷ rest.now) × (merge xs ys ≡ x.now ∷ merge rest.now ys)
    × (clashes xs ys ≡ clashes rest.now ys)
IsNext xs ys (Right y rest) = (ys ≡ y.now ∷ rest.now) × (merge xs ys ≡ y.now ∷ merge xs rest.now)
    × (clashes xs ys ≡ clashes xs rest.now)
IsNext xs ys (Both x lefts y rights) =
    (xs ≡ x.now ∷ lefts.now) × (ys ≡ y.now ∷ rights.now) × (merge xs ys ≡ both x.now y.now ∷ merge lefts.now rights.now)
    × (clashes xs ys ≡ ((x.now.declared && y.now.declared) || clashes lefts.now rights.now))
    × (key_of x.now ≡ key_of y.now)
IsNext xs ys End = (xs ≡ []) × (ys ≡ [])

-- one more key, and its place for each list that has it
pub record GrowsBy (old new : Merging) (key : NameCol) (left right : List ℕ) : Type 0 where
  pub names : new.names.items ≡ old.names.items ++ key ∷ []
  pub lefts : new.left.items ≡ old.left.items ++ left
  pub rights : new.right.items ≡ old.right.items ++ right
  pub clash : new.clashes ≡ old.clashes

-- the keys of a whole list up to the rest have these places
pub record IsPlacedSoFar (cols : List NameCol) (places : List ℕ) (whole rest : List NameCol) : Type 0 where
  pub done : List Key
  pub at : ArePlaces cols places done
  pub split : done ++ keys rest ≡ keys whole

-- two lists were made one, except for their rests
pub record IsUpTo (left right a b : List NameCol) (all : Merging) : Type 0 where
  pub names : all.names.items ++ merge a b ≡ merge left right
  pub clash : (all.clashes || clashes a b) ≡ clashes left right
  pub lefts : IsPlacedSoFar all.names.items all.left.items left a
  pub rights : IsPlacedSoFar all.names.items all.right.items right b

-- the keys are below the first key of the other list, if it has one
abbrev pub AreBefore : List NameCol → List NameCol → Type 0
AreBefore run [] = Unit {0}
AreBefore run (y ∷ ys) = AllByRecursion (λ (c : NameCol). key_cmp (key_of c) (key_of y) ≡ Less) run

-- the walk went on from both lists to these rests of them
pub record GoesOn (old new : Merging) (left right lefts rights : List NameCol) : Type 0 where
  pub up_to : (whole others : List NameCol) → IsUpTo whole others left right old → IsUpTo whole others lefts rights new
  pub left_rises : AreRising (keys left) → AreRising (keys lefts)
  pub right_rises : AreRising (keys right) → AreRising (keys rights)
  pub shorter : length lefts + length rights ≤ length left + length right
