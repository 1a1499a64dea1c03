-- Shapes of operators.
use Rattle.std.proofs.Common.{◌≡◌, ℕ, ◌+◌, ◌<◌, List, [], ◌∷◌, ◌++◌, take, map, length, get_or, Option, Some, None, ap, sym, ◌∙◌, append_assoc, append-nil}
use Rattle.std.proofs.lemmas.List.{take_more, map_push}
use Rattle.psg_terms.specs.Names.{Name}
use Rattle.psg_grammar.specs.declared.types.Item.{Item}
use Rattle.psg_class.specs.declared.shape.Part.{Part}
use Rattle.psg_class.specs.Shapes.{part_of, parts_of, listed}

pub parts_front : (base : ℕ) (words : List Name) (xs : List Item) (i : Item) → parts_of base words (xs ++ i ∷ []) ≡ parts_of base words xs ++ listed (part_of base words i)
parts_front base words [] i = append-nil (listed (part_of base words i))
parts_front base words (x ∷ xs) i =
    ap (λ ps. listed (part_of base words x) ++ ps) (parts_front base words xs i) ∙ sym (append_assoc (listed (part_of base words x)) (parts_of base words xs) (listed (part_of base words i)))

pub parts_more : (base : ℕ) (words : List Name) (xs : List Item) (n : ℕ) (i : Item) (o : Option Part) → n < length xs → i ≡ get_or xs n i → o ≡ part_of base words i
    → parts_of base words (take (n + 1) xs) ≡ parts_of base words (take n xs) ++ listed o
parts_more base words xs n i o h e f =
    ap (parts_of base words) (take_more xs n i h ∙ ap (λ x. take n xs ++ x ∷ []) (sym e)) ∙ parts_front base words (take n xs) i ∙ ap (λ p. parts_of base words (take n xs) ++ listed p) (sym f)

pub map_more : {X Y : Type 0} (f : X → Y) (xs : List X) (n : ℕ) (x : X) → n < length xs → x ≡ get_or xs n x → map f (take (n + 1) xs) ≡ map f (take n xs) ++ f x ∷ []
map_more f xs n x h e = ap (map f) (take_more xs n x h ∙ ap (λ y. take n xs ++ y ∷ []) (sym e)) ∙ map_push f (take n xs) x

pub listed_none : (ps : List Part) (o : Option Part) → o ≡ None → ps ++ listed o ≡ ps
listed_none ps o e = ap (λ x. ps ++ listed x) e ∙ append-nil ps

pub listed_some : (ps : List Part) (o : Option Part) (p : Part) → o ≡ Some p → ps ++ listed o ≡ ps ++ p ∷ []
listed_some ps o p e = ap (λ x. ps ++ listed x) e
