-- Specimens at places of their own kinds.
use Rattle.std.proofs.Common.{◌≡◌, ◌↔◌, ℕ, ◌+◌, ◌<◌, zero, suc, Bool, true, false, IsTrue, is_some, List, [], ◌∷◌, ◌++◌, take, get_or, length, refl, ap, ap₂, sym, ◌∙◌, subst, Option, Some, None, append-nil, arith}
use Rattle.std.proofs.lemmas.List.{take_all, map_push}
use Rattle.std.proofs.lemmas.Bool.{false≢true}
use Rattle.psg_terms.proofs.Lists.{take_item, get_or_fixed, each_take}
use Rattle.std.specs.List.{AllByRecursion}
use Rattle.std.specs.Borrow.{Bor}
use Rattle.psg_terms.specs.Names.{Name}
use Rattle.psg_deflines.specs.WrittenTerms.{WrittenTerm}
use Rattle.psg_deflines.specs.WrittenTrees.{WrittenTree, operator, with_tree, with_name, with_number, with_text}
use Rattle.psg_deflines.specs.TreeShapes.{with_parts, ending, list_of}
use Rattle.psg_deflines.specs.declared.trees.LinePlace.{LinePlace}
use Rattle.psg_deflines.specs.declared.trees.LinePart.{LinePart}
use Rattle.psg_deflines.specs.declared.trees.LinePart.TheVariants as parts
use Rattle.psg_deflines.specs.declared.lines.LineItem.{LineItem}
use Rattle.psg_deflines.specs.declared.lines.LineItem.TheVariants as items
use Rattle.psg_deflines.specs.declared.lines.Line.{Line}
use Rattle.psg_defcheck.specs.Scopes.{OpDecl, operator_declared, Place, is_list, value_place}
use Rattle.psg_defcheck.specs.Meanings.{KnowsTree, CountsTree, MayStand, ListMayStand, SortsTerm, SortsTree, TakesParts, IsPartCount, part_places, elements_place, has_part, count_of, PartPlace, for_tree, for_name, for_number, for_text}
use Rattle.psg_defcheck.specs.Parts.{KnowsPart, KnowsEnd, CountsPart, CountsEnd}
use Rattle.psg_defcheck.specs.Sorting.{place_told, part_place_told, part_places_told, Agrees, Narrows, PartStands, PartsStand, EndStands}
use Rattle.psg_defcheck.specs.declared.places.PartPlace.{PartPlace as Told}
use Rattle.psg_defcheck.specs.declared.places.PartPlace.TheVariants as places
use Rattle.psg_defcheck.proofs.KnownLaws.{knows-parts, knows-elements}
use Rattle.psg_defcheck.proofs.CountedLaws.{counts-parts, counts-elements}
use Rattle.psg_defcheck.proofs.SortLaws.{take-length}
use Rattle.psg_defcheck.proofs.NarrowLaws.{Sorts, narrows-always, narrows-then, narrows-as}

-- an operator stands at a place where its parts stand at some places
pub sorts-parts : (file : List Line) (s : Name → Name) (behind : List PartPlace) (at : Place) (f : WrittenTree) (ps : List LinePart)
    → SortsTree file s behind at (with_parts f ps) ↔ ((qs : List PartPlace) × PartsStand file s qs ps × SortsTree file s (qs ++ behind) at f)
sorts-parts file s behind at f [] = (λ h. ([], tt, h), λ z. none z.0 z.1 z.2)
  where
    none : (qs : List PartPlace) → PartsStand file s qs [] → SortsTree file s (qs ++ behind) at f → SortsTree file s behind at f
    none [] a h = h
    none (q ∷ qs) a h = absurd a
sorts-parts file s behind at f (parts.Tree t ∷ ps) = let r = sorts-parts file s behind at (with_tree f t) ps in (
  λ h. let z = r.0 h in (for_tree z.2.0 ∷ z.0, (z.2.2, z.1), z.2.1),
  λ z. r.1 (first z.0 z.1 z.2),
)
  where
    first : (qs : List PartPlace) → PartsStand file s qs (parts.Tree t ∷ ps) → SortsTree file s (qs ++ behind) at f → (rest : List PartPlace) × PartsStand file s rest ps × SortsTree file s (rest ++ behind) at (with_tree f t)
    first [] all h = absurd all
    first (for_tree kind ∷ qs) all h = (qs, all.1, (kind, h, all.0))
    first (for_name ∷ qs) all h = absurd all.0
    first (for_number ∷ qs) all h = absurd all.0
    first (for_text ∷ qs) all h = absurd all.0
sorts-parts file s behind at f (parts.Name n ∷ ps) = let r = sorts-parts file s behind at (with_name f n) ps in (
  λ h. let z = r.0 h in (for_name ∷ z.0, (tt, z.1), z.2),
  λ z. r.1 (first z.0 z.1 z.2),
)
  where
    first : (qs : List PartPlace) → PartsStand file s qs (parts.Name n ∷ ps) → SortsTree file s (qs ++ behind) at f → (rest : List PartPlace) × PartsStand file s rest ps × SortsTree file s (rest ++ behind) at (with_name f n)
    first [] all h = absurd all
    first (for_tree kind ∷ qs) all h = absurd all.0
    first (for_name ∷ qs) all h = (qs, all.1, h)
    first (for_number ∷ qs) all h = absurd all.0
    first (for_text ∷ qs) all h = absurd all.0
sorts-parts file s behind at f (parts.Number d ∷ ps) = let r = sorts-parts file s behind at (with_number f d) ps in (
  λ h. let z = r.0 h in (for_number ∷ z.0, (tt, z.1), z.2),
  λ z. r.1 (first z.0 z.1 z.2),
)
  where
    first : (qs : List PartPlace) → PartsStand file s qs (parts.Number d ∷ ps) → SortsTree file s (qs ++ behind) at f → (rest : List PartPlace) × PartsStand file s rest ps × SortsTree file s (rest ++ behind) at (with_number f d)
    first [] all h = absurd all
    first (for_tree kind ∷ qs) all h = absurd all.0
    first (for_name ∷ qs) all h = absurd all.0
    first (for_number ∷ qs) all h = (qs, all.1, h)
    first (for_text ∷ qs) all h = absurd all.0
sorts-parts file s behind at f (parts.Text w ∷ ps) = let r = sorts-parts file s behind at (with_text f w) ps in (
  λ h. let z = r.0 h in (for_text ∷ z.0, (tt, z.1), z.2),
  λ z. r.1 (first z.0 z.1 z.2),
)
  where
    first : (qs : List PartPlace) → PartsStand file s qs (parts.Text w ∷ ps) → SortsTree file s (qs ++ behind) at f → (rest : List PartPlace) × PartsStand file s rest ps × SortsTree file s (rest ++ behind) at (with_text f w)
    first [] all h = absurd all
    first (for_tree kind ∷ qs) all h = absurd all.0
    first (for_name ∷ qs) all h = absurd all.0
    first (for_number ∷ qs) all h = absurd all.0
    first (for_text ∷ qs) all h = (qs, all.1, h)

-- with the operator at hand
pub operator-sorts : (file : List Line) (s : Name → Name) (at : Place) (o : Name) (ps : List LinePart) (d : OpDecl) → operator_declared file o ≡ Some d
    → (MayStand at d.phylum × PartsStand file s (part_places file d.made) ps) ↔ SortsTree file s [] at (with_parts (operator o) ps)
operator-sorts file s at o ps d e = let r = sorts-parts file s [] at (operator o) ps in (
  λ h. r.1 (part_places file d.made, h.1, subst (λ x. TakesParts file s x (part_places file d.made ++ []) at) (sym e) (append-nil (part_places file d.made), h.0)),
  λ k. let z = r.0 k in
      let takes : TakesParts file s (operator_declared file o) (z.0 ++ []) at = z.2 in
      let t : (z.0 ++ [] ≡ part_places file d.made) × MayStand at d.phylum = subst (λ x. TakesParts file s x (z.0 ++ []) at) e takes in
      (t.1, subst (λ qs. PartsStand file s qs ps) (sym (append-nil z.0) ∙ t.0) z.1),
)

-- a list whose rest is known
list-place : (file : List Line) (at : Place) (kind : Name) → IsTrue (is_list file kind) → MayStand at kind → ListMayStand file at
list-place file None kind k h = tt
list-place file (Some w) kind k h = subst (λ n. IsTrue (is_list file n)) h k

pub list-sorts : (file : List Line) (s : Name → Name) (at : Place) (rest : Option LinePlace) (es : List WrittenTree) → KnowsEnd file rest
    → (ListMayStand file at × EndStands file s at rest × AllByRecursion (SortsTree file s [] (elements_place file at)) es) ↔ SortsTree file s [] at (list_of (ending rest) es)
list-sorts file s at None [] k = (λ h. h.0, λ h. (h, tt, tt))
list-sorts file s at (Some p) [] k = (λ h. h.1, λ h. (list-place file at p.kind k.0 h.0, h, tt))
list-sorts file s at rest (e ∷ es) k = let r = list-sorts file s at rest es k in (
  λ h. (h.0, h.2.0, r.0 (h.0, h.1, h.2.1)),
  λ h. let z = r.1 h.2 in (h.0, z.1, (h.1, z.2)),
)

-- what is known of a specimen of an operator
pub known_operator : (file : List Line) (t : WrittenTree) (o : Name) (ps : List LinePart) → with_parts (operator o) ps ≡ t → KnowsTree file t → None ≡ operator_declared file o → ⊥
known_operator file t o ps e k none =
    let h = (knows-parts file (operator o) ps).0 (subst (KnowsTree file) (sym e) k) in
    false≢true (ap is_some none ∙ h.0)

pub known_parts : (file : List Line) (t : WrittenTree) (o : Name) (ps : List LinePart) → with_parts (operator o) ps ≡ t → KnowsTree file t → AllByRecursion (KnowsPart file) ps
known_parts file t o ps e k = ((knows-parts file (operator o) ps).0 (subst (KnowsTree file) (sym e) k)).1

pub counted_parts : (file : List Line) (t : WrittenTree) (o : Name) (ps : List LinePart) → with_parts (operator o) ps ≡ t → CountsTree file 0 t → AllByRecursion (CountsPart file) ps
counted_parts file t o ps e k = ((counts-parts file 0 (length ps) (operator o) ps (omega arith)).0 (subst (CountsTree file 0) (sym e) k)).1

part_places-length : (file : List Line) (made : List LineItem) → length (part_places file made) ≡ count_of has_part made
part_places-length file [] = refl
part_places-length file (items.Slot k ∷ rest) = omega (arith, part_places-length file rest)
part_places-length file (items.Refers spot ∷ rest) = omega (arith, part_places-length file rest)
part_places-length file (items.Declares spot ∷ rest) = omega (arith, part_places-length file rest)
part_places-length file (items.Number ∷ rest) = omega (arith, part_places-length file rest)
part_places-length file (items.Text ∷ rest) = omega (arith, part_places-length file rest)
part_places-length file (_ ∷ rest) = part_places-length file rest

pub told-length : (ps : List Told) → length (part_places_told ps) ≡ length ps
told-length [] = refl
told-length (p ∷ ps) = omega (arith, told-length ps)

pub parts_count : (file : List Line) (t : WrittenTree) (o : Name) (ps : List LinePart) (d : OpDecl) (qs : List Told) → with_parts (operator o) ps ≡ t → CountsTree file 0 t → Some d ≡ operator_declared file o → part_places_told qs ≡ part_places file d.made
    → length qs ≡ length ps
parts_count file t o ps d qs e k at is =
    let h = ((counts-parts file 0 (length ps) (operator o) ps (omega arith)).0 (subst (CountsTree file 0) (sym e) k)).0 in
    let count : count_of has_part d.made ≡ length ps = subst (λ x. IsPartCount x (length ps)) (sym at) h in
    sym (told-length qs) ∙ ap length is ∙ part_places-length file d.made ∙ count

pub known_end : (file : List Line) (t : WrittenTree) (rest : Option LinePlace) (es : List WrittenTree) → list_of (ending rest) es ≡ t → KnowsTree file t → KnowsEnd file rest
known_end file t rest es e k = end rest ((knows-elements file (ending rest) es).0 (subst (KnowsTree file) (sym e) k)).0
  where
    end : (r : Option LinePlace) → KnowsTree file (ending r) → KnowsEnd file r
    end None h = h
    end (Some p) h = h

pub known_elements : (file : List Line) (t : WrittenTree) (rest : Option LinePlace) (es : List WrittenTree) → list_of (ending rest) es ≡ t → KnowsTree file t → AllByRecursion (KnowsTree file) es
known_elements file t rest es e k = ((knows-elements file (ending rest) es).0 (subst (KnowsTree file) (sym e) k)).1

pub counted_end : (file : List Line) (t : WrittenTree) (rest : Option LinePlace) (es : List WrittenTree) → list_of (ending rest) es ≡ t → CountsTree file 0 t → CountsEnd file rest
counted_end file t rest es e k = ((counts-elements file rest es).0 (subst (CountsTree file 0) (sym e) k)).0

pub counted_elements : (file : List Line) (t : WrittenTree) (rest : Option LinePlace) (es : List WrittenTree) → list_of (ending rest) es ≡ t → CountsTree file 0 t → AllByRecursion (CountsTree file 0) es
counted_elements file t rest es e k = ((counts-elements file rest es).0 (subst (CountsTree file 0) (sym e) k)).1

-- answers of the walk
pub operator_not_standing : (file : List Line) (s : Name → Name) (at : Place) (t : WrittenTree) (o : Name) (ps : List LinePart) (d : OpDecl) (b : Bool) → with_parts (operator o) ps ≡ t → Some d ≡ operator_declared file o → b ≡ false → IsTrue b ↔ MayStand at d.phylum → SortsTree file s [] at t → ⊥
operator_not_standing file s at t o ps d b e is f stands h =
    let z = (operator-sorts file s at o ps d (sym is)).1 (subst (SortsTree file s [] at) (sym e) h) in
    false≢true (sym f ∙ stands.1 z.0)

pub operator_standing : (file : List Line) (at : Place) (t : WrittenTree) (o : Name) (ps : List LinePart) (d : OpDecl) (qs : List Told) (a b : Sorts) (r : Bool) → with_parts (operator o) ps ≡ t → Some d ≡ operator_declared file o → MayStand at d.phylum → part_places_told qs ≡ part_places file d.made
    → Narrows (λ s. PartsStand file s (part_places_told qs) ps) a b r → Narrows (λ s. SortsTree file s [] at t) a b r
operator_standing file at t o ps d qs a b r e is stands told h =
    narrows-as (λ s. PartsStand file s (part_places_told qs) ps) (λ s. SortsTree file s [] at t) a b r (λ s. (
      λ all. subst (SortsTree file s [] at) e ((operator-sorts file s at o ps d (sym is)).0 (stands, subst (λ ws. PartsStand file s ws ps) told all)),
      λ h. subst (λ ws. PartsStand file s ws ps) (sym told) ((operator-sorts file s at o ps d (sym is)).1 (subst (SortsTree file s [] at) (sym e) h)).1,
    )) h

pub list_not_standing : (file : List Line) (s : Name → Name) (at : Place) (t : WrittenTree) (rest : Option LinePlace) (es : List WrittenTree) (b : Bool) → list_of (ending rest) es ≡ t → KnowsTree file t → b ≡ false → IsTrue b ↔ ListMayStand file at → SortsTree file s [] at t → ⊥
list_not_standing file s at t rest es b e k f stands h =
    let z = (list-sorts file s at rest es (known_end file t rest es e k)).1 (subst (SortsTree file s [] at) (sym e) h) in
    false≢true (sym f ∙ stands.1 z.0)

pub end_not_standing : (file : List Line) (at : Place) (t : WrittenTree) (rest : Option LinePlace) (es : List WrittenTree) (a b : Sorts) (r : Bool) → list_of (ending rest) es ≡ t → KnowsTree file t → r ≡ false → Narrows (λ s. EndStands file s at rest) a b r → (s : Name → Name) → Agrees a s → SortsTree file s [] at t → ⊥
end_not_standing file at t rest es a b r e k f n s agrees h =
    let z = (list-sorts file s at rest es (known_end file t rest es e k)).1 (subst (SortsTree file s [] at) (sym e) h) in
    (subst (Narrows (λ s. EndStands file s at rest) a b) f n) s agrees z.1

pub list_standing : (file : List Line) (at phylum : Place) (t : WrittenTree) (rest : Option LinePlace) (es : List WrittenTree) (a b c : Sorts) (r q : Bool) → list_of (ending rest) es ≡ t → KnowsTree file t → ListMayStand file at → phylum ≡ elements_place file at
    → r ≡ true → Narrows (λ s. EndStands file s at rest) a b r → Narrows (λ s. AllByRecursion (SortsTree file s [] phylum) es) b c q → Narrows (λ s. SortsTree file s [] at t) a c q
list_standing file at phylum t rest es a b c r q e k stands is f n m =
    let known = known_end file t rest es e k in
    narrows-as (λ s. EndStands file s at rest × AllByRecursion (SortsTree file s [] phylum) es) (λ s. SortsTree file s [] at t) a c q (λ s. (
      λ h. subst (SortsTree file s [] at) e ((list-sorts file s at rest es known).0 (stands, h.0, subst (λ p. AllByRecursion (SortsTree file s [] p) es) is h.1)),
      λ h. let z = (list-sorts file s at rest es known).1 (subst (SortsTree file s [] at) (sym e) h) in (z.1, subst (λ p. AllByRecursion (SortsTree file s [] p) es) (sym is) z.2),
    ))
    (narrows-then (λ s. EndStands file s at rest) (λ s. AllByRecursion (SortsTree file s [] phylum) es) a b c q (subst (Narrows (λ s. EndStands file s at rest) a b) f n) m)

pub place_standing : (file : List Line) (at own : Place) (kind : Name) (t : WrittenTerm) (a b : Sorts) (r : Bool) → MayStand at kind → own ≡ value_place file kind → Narrows (λ s. SortsTerm file s [] own t) a b r → Narrows (λ s. MayStand at kind × SortsTerm file s [] (value_place file kind) t) a b r
place_standing file at own kind t a b r stands is n =
    narrows-then (λ s. MayStand at kind) (λ s. SortsTerm file s [] (value_place file kind) t) a a b r (narrows-always (λ s. MayStand at kind) a (λ s. stands))
    (subst (λ p. Narrows (λ s. SortsTerm file s [] p t) a b r) is n)

pub tree_part : (file : List Line) (q : Told) (kind : Option (Bor (List ℕ))) (p : LinePart) (t : WrittenTree) (a b : Sorts) (r : Bool) → q ≡ places.Tree kind → p ≡ parts.Tree t → Narrows (λ s. SortsTree file s [] (place_told kind) t) a b r → Narrows (λ s. PartStands file s (part_place_told q) p) a b r
tree_part file q kind p t a b r e f n =
    subst (λ x. Narrows (λ s. PartStands file s (part_place_told x) p) a b r) (sym e) (subst (λ y. Narrows (λ s. PartStands file s (for_tree (place_told kind)) y) a b r) (sym f) n)

-- lists of places and parts
all-push : (file : List Line) (s : Name → Name) (qs : List PartPlace) (ps : List LinePart) (q : PartPlace) (p : LinePart) → length qs ≡ length ps → PartsStand file s (qs ++ q ∷ []) (ps ++ p ∷ []) ↔ (PartsStand file s qs ps × PartStands file s q p)
all-push file s [] [] q p l = (λ h. (tt, h.0), λ h. (h.1, tt))
all-push file s [] (u ∷ ps) q p l = absurd (omega arith)
all-push file s (x ∷ qs) [] q p l = absurd (omega arith)
all-push file s (x ∷ qs) (u ∷ ps) q p l = let r = all-push file s qs ps q p (omega arith) in (
  λ h. let z = r.0 h.1 in ((h.0, z.0), z.1),
  λ h. (h.0.0, r.1 (h.0.1, h.1)),
)

all-next : (file : List Line) (s : Name → Name) (qs : List Told) (ps : List LinePart) (i : ℕ) (d : Told) (p : LinePart) → length qs ≡ length ps → i < length ps → p ≡ get_or ps i p
    → (PartsStand file s (part_places_told (take i qs)) (take i ps) × PartStands file s (part_place_told (get_or qs i d)) p) ↔ PartsStand file s (part_places_told (take (i + 1) qs)) (take (i + 1) ps)
all-next file s qs ps i d p l lt at =
    let lq : i < length qs = omega arith in
    let q = get_or qs i d in
    let eq : length (part_places_told (take i qs)) ≡ length (take i ps) = told-length (take i qs) ∙ take-length i qs lq ∙ sym (take-length i ps lt) in
    let r = all-push file s (part_places_told (take i qs)) (take i ps) (part_place_told q) p eq in
    let ep : part_places_told (take (i + 1) qs) ≡ part_places_told (take i qs) ++ part_place_told q ∷ [] = ap part_places_told (take_item qs i q lq (get_or_fixed qs i d lq)) ∙ map_push part_place_told (take i qs) q in
    let et : take (i + 1) ps ≡ take i ps ++ p ∷ [] = take_item ps i p lt at in
    let e : PartsStand file s (part_places_told (take (i + 1) qs)) (take (i + 1) ps) ≡ PartsStand file s (part_places_told (take i qs) ++ part_place_told q ∷ []) (take i ps ++ p ∷ []) = ap₂ (PartsStand file s) ep et in (
      λ h. subst (λ X. X) (sym e) (r.1 h),
      λ h. r.0 (subst (λ X. X) e h),
    )

pub walk_more : (file : List Line) (qs : List Told) (ps : List LinePart) (i : ℕ) (d : Told) (p : LinePart) (a b c : Sorts) (r : Bool) → length qs ≡ length ps → i < length ps → p ≡ get_or ps i p
    → Narrows (λ s. PartsStand file s (part_places_told (take i qs)) (take i ps)) a b true → Narrows (λ s. PartStands file s (part_place_told (get_or qs i d)) p) b c r → Narrows (λ s. PartsStand file s (part_places_told (take (i + 1) qs)) (take (i + 1) ps)) a c r
walk_more file qs ps i d p a b c r l lt at h k =
    narrows-as (λ s. PartsStand file s (part_places_told (take i qs)) (take i ps) × PartStands file s (part_place_told (get_or qs i d)) p) (λ s. PartsStand file s (part_places_told (take (i + 1) qs)) (take (i + 1) ps)) a c r
    (λ s. all-next file s qs ps i d p l lt at)
    (narrows-then (λ s. PartsStand file s (part_places_told (take i qs)) (take i ps)) (λ s. PartStands file s (part_place_told (get_or qs i d)) p) a b c r h k)

all-front : (file : List Line) (s : Name → Name) (qs : List Told) (ps : List LinePart) (i : ℕ) → length qs ≡ length ps → PartsStand file s (part_places_told qs) ps → PartsStand file s (part_places_told (take i qs)) (take i ps)
all-front file s qs ps zero l h = tt
all-front file s [] [] (suc i) l h = tt
all-front file s [] (p ∷ ps) (suc i) l h = absurd h
all-front file s (q ∷ qs) [] (suc i) l h = absurd h
all-front file s (q ∷ qs) (p ∷ ps) (suc i) l h = (h.0, all-front file s qs ps i (omega arith) h.1)

pub walk_stops : (file : List Line) (qs : List Told) (ps : List LinePart) (i : ℕ) (d : Told) (p : LinePart) (a b c : Sorts) (r : Bool) → length qs ≡ length ps → i < length ps → p ≡ get_or ps i p → r ≡ false
    → Narrows (λ s. PartsStand file s (part_places_told (take i qs)) (take i ps)) a b true → Narrows (λ s. PartStands file s (part_place_told (get_or qs i d)) p) b c r → (s : Name → Name) → Agrees a s → PartsStand file s (part_places_told qs) ps → ⊥
walk_stops file qs ps i d p a b c r l lt at f h k s agrees all =
    let w = subst (Narrows (λ s. PartsStand file s (part_places_told (take (i + 1) qs)) (take (i + 1) ps)) a c) f (walk_more file qs ps i d p a b c r l lt at h k) in
    w s agrees (all-front file s qs ps (i + 1) l all)

pub walk_ends : (file : List Line) (qs : List Told) (ps : List LinePart) (i : ℕ) (a b : Sorts) → length qs ≡ length ps → i ≡ length ps → Narrows (λ s. PartsStand file s (part_places_told (take i qs)) (take i ps)) a b true → Narrows (λ s. PartsStand file s (part_places_told qs) ps) a b true
walk_ends file qs ps i a b l e h =
    subst (λ ws. Narrows (λ s. PartsStand file s (part_places_told ws) ps) a b true) (take_all i qs (omega arith))
    (subst (λ us. Narrows (λ s. PartsStand file s (part_places_told (take i qs)) us) a b true) (take_all i ps (omega arith)) h)

-- specimens of one kind
each-push : {X : Type 0} (P : X → Type 0) (xs : List X) (x : X) → (AllByRecursion P xs × P x) ↔ AllByRecursion P (xs ++ x ∷ [])
each-push P [] x = (λ h. (h.1, tt), λ h. (tt, h.0))
each-push P (y ∷ xs) x = let r = each-push P xs x in (λ h. (h.0.0, r.0 (h.0.1, h.1)), λ h. let z = r.1 h.1 in ((h.0, z.0), z.1))

pub each_more : (P : (Name → Name) → WrittenTree → Type 0) (ts : List WrittenTree) (i : ℕ) (t : WrittenTree) (a b c : Sorts) (r : Bool) → i < length ts → t ≡ get_or ts i t
    → Narrows (λ s. AllByRecursion (P s) (take i ts)) a b true → Narrows (λ s. P s t) b c r → Narrows (λ s. AllByRecursion (P s) (take (i + 1) ts)) a c r
each_more P ts i t a b c r lt at h k =
    subst (λ us. Narrows (λ s. AllByRecursion (P s) us) a c r) (sym (take_item ts i t lt at))
    (narrows-as (λ s. AllByRecursion (P s) (take i ts) × P s t) (λ s. AllByRecursion (P s) (take i ts ++ t ∷ [])) a c r (λ s. each-push (P s) (take i ts) t)
    (narrows-then (λ s. AllByRecursion (P s) (take i ts)) (λ s. P s t) a b c r h k))

pub each_stops : (P : (Name → Name) → WrittenTree → Type 0) (ts : List WrittenTree) (i : ℕ) (t : WrittenTree) (a b c : Sorts) (r : Bool) → i < length ts → t ≡ get_or ts i t → r ≡ false
    → Narrows (λ s. AllByRecursion (P s) (take i ts)) a b true → Narrows (λ s. P s t) b c r → (s : Name → Name) → Agrees a s → AllByRecursion (P s) ts → ⊥
each_stops P ts i t a b c r lt at f h k s agrees all =
    let w = subst (Narrows (λ s. AllByRecursion (P s) (take (i + 1) ts)) a c) f (each_more P ts i t a b c r lt at h k) in
    w s agrees (each_take (P s) (i + 1) ts all)

pub each_ends : (P : (Name → Name) → WrittenTree → Type 0) (ts : List WrittenTree) (i : ℕ) (a b : Sorts) → length ts ≡ i → Narrows (λ s. AllByRecursion (P s) (take i ts)) a b true → Narrows (λ s. AllByRecursion (P s) ts) a b true
each_ends P ts i a b e h = subst (λ us. Narrows (λ s. AllByRecursion (P s) us) a b true) (take_all i ts (omega arith)) h
