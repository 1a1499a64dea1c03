-- Places of columns and parts, item by item.
use Rattle.std.proofs.Common.{◌≡◌, ℕ, ◌+◌, ◌<◌, List, [], ◌∷◌, ◌++◌, map, take, get_or, length, refl, ap, sym, ◌∙◌, append-nil}
use Rattle.std.proofs.lemmas.List.{map_push}
use Rattle.psg_terms.proofs.Lists.{take_item}
use Rattle.psg_deflines.specs.declared.lines.LineItem.{LineItem}
use Rattle.psg_deflines.specs.declared.lines.LineItem.TheVariants as items
use Rattle.psg_deflines.specs.declared.lines.Line.{Line}
use Rattle.psg_defcheck.specs.Scopes.{kind_place, value_place, entity_place}
use Rattle.psg_defcheck.specs.Meanings as meanings

pub column_places-append : (file : List Line) (xs ys : List LineItem) → meanings.column_places file (xs ++ ys) ≡ meanings.column_places file xs ++ meanings.column_places file ys
column_places-append file [] ys = refl
column_places-append file (items.Slot k ∷ xs) ys = ap (λ q. value_place file k ∷ q) (column_places-append file xs ys)
column_places-append file (items.Refers spot ∷ xs) ys = ap (λ q. entity_place file spot ∷ q) (column_places-append file xs ys)
column_places-append file (items.Declares spot ∷ xs) ys = ap (λ q. entity_place file spot ∷ q) (column_places-append file xs ys)
column_places-append file (_ ∷ xs) ys = column_places-append file xs ys

pub part_places-append : (file : List Line) (xs ys : List LineItem) → meanings.part_places file (xs ++ ys) ≡ meanings.part_places file xs ++ meanings.part_places file ys
part_places-append file [] ys = refl
part_places-append file (items.Slot k ∷ xs) ys = ap (λ q. meanings.for_tree (kind_place file k) ∷ q) (part_places-append file xs ys)
part_places-append file (items.Refers spot ∷ xs) ys = ap (λ q. meanings.for_name ∷ q) (part_places-append file xs ys)
part_places-append file (items.Declares spot ∷ xs) ys = ap (λ q. meanings.for_name ∷ q) (part_places-append file xs ys)
part_places-append file (items.Number ∷ xs) ys = ap (λ q. meanings.for_number ∷ q) (part_places-append file xs ys)
part_places-append file (items.Text ∷ xs) ys = ap (λ q. meanings.for_text ∷ q) (part_places-append file xs ys)
part_places-append file (_ ∷ xs) ys = part_places-append file xs ys

-- a list that follows the items, with one item more
step : {X Y Z : Type 0} (read : X → Y) (of : List Z → List Y) → ((xs ys : List Z) → of (xs ++ ys) ≡ of xs ++ of ys) → (zs : List Z) (i : ℕ) (z : Z) (old new : List X) → i < length zs → z ≡ get_or zs i z
    → map read old ≡ of (take i zs) → map read new ≡ map read old ++ of (z ∷ []) → map read new ≡ of (take (i + 1) zs)
step read of split zs i z old new lt at e n = n ∙ ap (λ q. q ++ of (z ∷ [])) e ∙ sym (split (take i zs) (z ∷ [])) ∙ ap of (sym (take_item zs i z lt at))

pub step-some : {X Y Z : Type 0} (read : X → Y) (of : List Z → List Y) → ((xs ys : List Z) → of (xs ++ ys) ≡ of xs ++ of ys) → (zs : List Z) (i : ℕ) (z : Z) (old new : List X) (x : X) → i < length zs → z ≡ get_or zs i z
    → map read old ≡ of (take i zs) → new ≡ old ++ x ∷ [] → of (z ∷ []) ≡ read x ∷ [] → map read new ≡ of (take (i + 1) zs)
step-some read of split zs i z old new x lt at e n is =
    step read of split zs i z old new lt at e (ap (map read) n ∙ map_push read old x ∙ ap (λ q. map read old ++ q) (sym is))

pub step-none : {X Y Z : Type 0} (read : X → Y) (of : List Z → List Y) → ((xs ys : List Z) → of (xs ++ ys) ≡ of xs ++ of ys) → (zs : List Z) (i : ℕ) (z : Z) (old new : List X) → i < length zs → z ≡ get_or zs i z
    → map read old ≡ of (take i zs) → new ≡ old → of (z ∷ []) ≡ [] → map read new ≡ of (take (i + 1) zs)
step-none read of split zs i z old new lt at e n is =
    step read of split zs i z old new lt at e (ap (map read) n ∙ sym (append-nil (map read old)) ∙ ap (λ q. map read old ++ q) (sym is))
