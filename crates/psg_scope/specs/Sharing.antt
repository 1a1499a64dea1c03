-- A list of keys that has all keys of another one.
use Rattle.std.specs.Prelude.{ℕ, ◌≡◌, false, List, slice_get, Some}
use Rattle.std.specs.List.{AllByRecursion}
use Rattle.psg_scope.specs.Headers.{key_of, keys, ArePlaces}
use Rattle.psg_scope.specs.Merging.{merge, clashes}
use Rattle.psg_scope.specs.declared.header.NameCol.{NameCol}
use Rattle.psg_scope.specs.declared.sharing.Whole.{Whole}

-- the key is only used, and is at this place of the list
pub record IsUsedAt (cols : List NameCol) (key : NameCol) (place : ℕ) : Type 0 where
  pub there : slice_get (keys cols) place ≡ Some (key_of key)
  pub used : key.declared ≡ false

-- none of the keys is declared
abbrev pub AreUses : List NameCol → Type 0
AreUses cols = AllByRecursion (λ (c : NameCol). c.declared ≡ false) cols

-- the keys of a short list are at these places of a long one, and none of them is declared
pub record IsInside (long short : List NameCol) (places : List ℕ) : Type 0 where
  pub at : ArePlaces long places (keys short)
  pub uses : AreUses short

-- the whole has the keys of both lists, and the places of each list's keys
pub record IsWhole (left right : List NameCol) (whole : Whole) : Type 0 where
  pub names : whole.names ≡ merge left right
  pub clash : whole.clashes ≡ clashes left right
  pub lefts : ArePlaces whole.names whole.left.items (keys left)
  pub rights : ArePlaces whole.names whole.right.items (keys right)
