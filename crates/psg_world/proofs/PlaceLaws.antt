-- What a list of files holds, by the place of a name in it.
use Rattle.std.proofs.Common.{ℕ, zero, suc, ◌≡◌, ◌≢◌, ◌<◌, ◌+◌, Bool, true, false, cond, List, [], ◌∷◌, ◌++◌, length, take, get_or, set, Option, Some, None, Vec, refl, sym, ◌∙◌, ap, subst, add-one, arith}
use Rattle.std.proofs.Math.Seq.{take-suc}
use Rattle.std.specs.declared.alloc.Global.{Global}
use Rattle.std.specs.declared.string.String.{String}
use Rattle.std.specs.String.{string_bytes}
use Rattle.std.specs.Cmp.Lexicographic.{slice_cmp, nat_list_cmp_total, texts_ties}
use Rattle.std.specs.Ordering.{nat_cmp, eq_by_cmp}
use Rattle.std.specs.FinMap as map
use Rattle.std.proofs.lemmas.Slice.Eq.{bytes_eq-Decides}
use Rattle.psg_world.specs.Files.{Held, AgreesOutside}
use Rattle.psg_world.specs.Memory.{entries_of, held_of}
use Rattle.psg_world.specs.Places.{IsAbsent, IsPlaceOf}

abbrev File : Type 0
File = String Global × Vec ℕ Global

abbrev is_name : List ℕ → List ℕ → Bool
is_name = eq_by_cmp (slice_cmp nat_cmp)

is_name-same : (a b : List ℕ) → a ≡ b → is_name a b ≡ true
is_name-same a b same = sym (texts_ties a b) ∙ (bytes_eq-Decides a b).1 same

same-is_name : (a b : List ℕ) → is_name a b ≡ true → a ≡ b
same-is_name a b told = (bytes_eq-Decides a b).0 (texts_ties a b ∙ told)

-- a tested list: the first file has the name, or the others are to be asked
one_absent : (test : Bool) (bytes : List ℕ) (others : Option (List ℕ))
    → cond test (Some bytes) others ≡ None → (test ≡ false) × (others ≡ None)
one_absent true bytes others e = absurd cc
one_absent false bytes others e = (refl, e)

find-place : (files : List File) (index : ℕ) (name : List ℕ) (d : File) → index < length files
    → string_bytes (get_or files index d).0 ≡ name → IsAbsent name (take index files)
    → map.find (slice_cmp nat_cmp) name (entries_of files) ≡ Some (get_or files index d).1.items
find-place [] index name d within same first = absurd (omega arith)
find-place (f ∷ fs) zero name d within same first = rw (is_name-same name (string_bytes f.0) (sym same)) refl
find-place (f ∷ fs) (suc i) name d within same first =
    let t = one_absent (is_name name (string_bytes f.0)) f.1.items _ first in
    rw t.0 (find-place fs i name d (omega arith) same t.1)

-- the first file with the name is replaced
shadowed : (a : Bool) (x y : Option (List ℕ)) (z : Option (List ℕ)) → cond a x z ≡ cond a x (cond a y z)
shadowed true x y z = refl
shadowed false x y z = refl

swapped : (a b : Bool) (x y z : Option (List ℕ)) → (a ≡ true → b ≡ true → ⊥)
    → cond a x (cond b y z) ≡ cond b y (cond a x z)
swapped true true x y z apart = absurd (apart refl refl)
swapped true false x y z apart = refl
swapped false b x y z apart = refl

find-set : (files : List File) (index : ℕ) (name : List ℕ) (d new : File) (q : List ℕ) → index < length files
    → string_bytes (get_or files index d).0 ≡ name → IsAbsent name (take index files) → string_bytes new.0 ≡ name
    → map.find (slice_cmp nat_cmp) q (entries_of (set files index new))
    ≡ cond (is_name q name) (Some new.1.items) (map.find (slice_cmp nat_cmp) q (entries_of files))
find-set [] index name d new q within same first named = absurd (omega arith)
find-set (f ∷ fs) zero name d new q within same first named = rw (named, same) (shadowed (is_name q name) _ _ _)
find-set (f ∷ fs) (suc i) name d new q within same first named =
    let t = one_absent (is_name name (string_bytes f.0)) f.1.items _ first in
    let apart : is_name q (string_bytes f.0) ≡ true → is_name q name ≡ true → ⊥ =
    λ a b. let e : name ≡ string_bytes f.0 = sym (same-is_name q name b) ∙ same-is_name q (string_bytes f.0) a in
    let told : is_name name (string_bytes f.0) ≡ true = is_name-same name (string_bytes f.0) e in cc in
    ap (cond (is_name q (string_bytes f.0)) (Some f.1.items)) (find-set fs i name d new q (omega arith) same t.1 named)
    ∙ swapped (is_name q (string_bytes f.0)) (is_name q name) _ _ _ apart

pub get-place : (files : List File) (index : ℕ) (name : List ℕ) (d : File) → IsPlaceOf name files index
    → map.get (held_of files) name ≡ Some (get_or files index d).1.items
get-place files index name d place =
    map.get-from_entries nat_list_cmp_total (entries_of files) name
    ∙ find-place files index name d place.within (place.same d) place.first

pub get-absent : (files : List File) (name : List ℕ) → IsAbsent name files → map.get (held_of files) name ≡ None
get-absent files name absent = map.get-from_entries nat_list_cmp_total (entries_of files) name ∙ absent

pub held-set : (files : List File) (index : ℕ) (name : List ℕ) (new : File)
    → IsPlaceOf name files index → string_bytes new.0 ≡ name
    → held_of (set files index new) ≡ map.insert (held_of files) name new.1.items
held-set files index name new place named =
    map.same_map nat_list_cmp_total (map.slice_cmp-IsAntisymmetric map.nat_cmp-IsAntisymmetric) _ _ (λ q.
    map.get-from_entries nat_list_cmp_total (entries_of (set files index new)) q
    ∙ find-set files index name new new q place.within (place.same new) place.first named
    ∙ sym (map.get-insert nat_list_cmp_total (held_of files) name new.1.items q
    ∙ ap (cond (is_name q name) (Some new.1.items)) (map.get-from_entries nat_list_cmp_total (entries_of files) q)))

-- a new file changes no other name
pub insert-others : (held : Held) (name bytes : List ℕ) → AgreesOutside name held (map.insert held name bytes)
insert-others held name bytes other apart =
    map.get-insert nat_list_cmp_total held name bytes other
    ∙ elim (is_name other name) as (λ t. is_name other name ≡ t
    → cond t (Some bytes) (map.get held other) ≡ map.get held other) [
      | true ↦ λ told. absurd (apart (same-is_name other name told))
      | false ↦ λ told. refl
    ] refl

entries_of-append : (files others : List File) → entries_of (files ++ others) ≡ entries_of files ++ entries_of others
entries_of-append [] others = refl
entries_of-append (f ∷ fs) others = ap (λ es. (string_bytes f.0, f.1.items) ∷ es) (entries_of-append fs others)

pub held-push : (files : List File) (name : List ℕ) (new : File) → IsAbsent name files → string_bytes new.0 ≡ name
    → held_of (files ++ new ∷ []) ≡ map.insert (held_of files) name new.1.items
held-push files name new absent named =
    rw (entries_of-append files (new ∷ []), named)
    (map.from_entries_push nat_list_cmp_total (map.slice_cmp-IsAntisymmetric map.nat_cmp-IsAntisymmetric)
    (entries_of files) name new.1.items absent)

absent-append : (files : List File) (name : List ℕ) (new : File)
    → IsAbsent name files → string_bytes new.0 ≢ name → IsAbsent name (files ++ new ∷ [])
absent-append [] name new absent other =
    elim (is_name name (string_bytes new.0)) as (λ t. is_name name (string_bytes new.0) ≡ t
    → cond t (Some new.1.items) None ≡ None) [
      | true ↦ λ told. absurd (other (sym (same-is_name name (string_bytes new.0) told)))
      | false ↦ λ told. refl
    ] refl
absent-append (f ∷ fs) name new absent other =
    let t = one_absent (is_name name (string_bytes f.0)) f.1.items _ absent in
    rw t.0 (absent-append fs name new t.1 other)

-- the file at the index hasn't the name either
pub absent-take : (files : List File) (index : ℕ) (name : List ℕ) (file : File)
    → index < length files → file ≡ get_or files index file
    → IsAbsent name (take index files) → string_bytes file.0 ≢ name → IsAbsent name (take (index + 1) files)
absent-take files index name file within is absent other =
    let e : take (index + 1) files ≡ take index files ++ file ∷ [] =
    rw (add-one, take-suc files index file) (ap (λ f. take index files ++ f ∷ []) (sym is)) in
    subst (IsAbsent name) (sym e) (absent-append (take index files) name file absent other)
