-- Operators' items from parts of a line.
use Rattle.std.proofs.Common.{◌≡◌, ℕ, ◌+◌, ◌<◌, ◌≤◌, List, [], ◌∷◌, ◌++◌, drop, get_or, length, map, codes, refl, ap, sym, ◌∙◌, subst, arith}
use Rattle.std.proofs.lemmas.List.{drop_all}
use Rattle.std.specs.Borrow.{Bor}
use Rattle.psg_grammar.specs.declared.types.Level.TheVariants as levels
use Rattle.psg_deflines.specs.Parts.{texts}
use Rattle.psg_deflines.specs.Forms.{item_part}
use Rattle.psg_deflines.specs.TermWalks.{Parts}
use Rattle.psg_deflines.specs.FormReads.{IsItemPart, HasNoItem, AreItemParts, HasNoItems, HasNoLevelRead}
use Rattle.psg_deflines.specs.Only.{IsOnly}
use Rattle.psg_deflines.specs.declared.lines.LineItem.{LineItem}
use Rattle.psg_deflines.proofs.Stages.{IsReadTo, read-more, read-all, read-not}
use Rattle.psg_deflines.proofs.PartReads.{Slices, left-one, first_of, rest_of}
use Rattle.psg_deflines.proofs.TermFound.{texts-length}

items-more : (all : Parts) (done : List LineItem) (part : List ℕ) (rest : Parts) (item : LineItem) → IsReadTo AreItemParts all done (part ∷ rest) → IsOnly (IsItemPart part) item → IsReadTo AreItemParts all (done ++ item ∷ []) rest
items-more all done part rest item h o = read-more AreItemParts all done (part ∷ rest) item rest h sound complete
  where
    sound : (tail : List LineItem) → AreItemParts rest tail → AreItemParts (part ∷ rest) (item ∷ tail)
    sound tail k = record { each = (o.is.form, k.each); written = ap (λ p. p ∷ map item_part tail) o.is.written ∙ ap (λ ps. part ∷ ps) k.written }

    complete : (whole : List LineItem) → AreItemParts (part ∷ rest) whole → (tail : List LineItem) × (whole ≡ item ∷ tail) × AreItemParts rest tail
    complete [] k = absurd (cc (k.written))
    complete (x ∷ tail) k =
        (tail, ap (λ y. y ∷ tail) (o.only x (record { form = k.each.0; written = ap first_of k.written })), record { each = k.each.1; written = ap rest_of k.written })

pub items-next : (ts : Slices) (i : ℕ) (d : Bor (List ℕ)) (done new : List LineItem) (item : LineItem) → i < length ts → IsReadTo AreItemParts (texts ts) done (drop i (texts ts)) → new ≡ done ++ item ∷ []
    → IsOnly (IsItemPart (get_or ts i d).now) item → IsReadTo AreItemParts (texts ts) new (drop (i + 1) (texts ts))
items-next ts i d done new item h r e o =
    subst (λ xs. IsReadTo AreItemParts (texts ts) xs (drop (i + 1) (texts ts))) (sym e)
    (items-more (texts ts) done (get_or ts i d).now (drop (i + 1) (texts ts)) item (subst (IsReadTo AreItemParts (texts ts) done) (left-one ts i d h) r) o)

pub items-not : (ts : Slices) (i : ℕ) (d : Bor (List ℕ)) (done : List LineItem) → i < length ts → IsReadTo AreItemParts (texts ts) done (drop i (texts ts)) → HasNoItem (get_or ts i d).now → HasNoItems (texts ts)
items-not ts i d done h r none = read-not AreItemParts (texts ts) done ((get_or ts i d).now ∷ drop (i + 1) (texts ts)) (subst (IsReadTo AreItemParts (texts ts) done) (left-one ts i d h) r) refused
  where
    refused : (tail : List LineItem) → AreItemParts ((get_or ts i d).now ∷ drop (i + 1) (texts ts)) tail → ⊥
    refused [] k = cc (k.written)
    refused (x ∷ tail) k = none x (record { form = k.each.0; written = ap first_of k.written })

pub items-end : (ts : Slices) (i : ℕ) (done : List LineItem) → length ts ≤ i → IsReadTo AreItemParts (texts ts) done (drop i (texts ts)) → IsOnly (AreItemParts (texts ts)) done
items-end ts i done h r = read-all AreItemParts (texts ts) done [] (subst (IsReadTo AreItemParts (texts ts) done) (drop_all i (texts ts) (omega (arith, texts-length ts))) r) (record { each = tt; written = refl }) nothing
  where
    nothing : (tail : List LineItem) → AreItemParts [] tail → tail ≡ []
    nothing [] k = refl
    nothing (x ∷ tail) k = absurd (cc (k.written))

-- fewer than three parts that do not begin with the sign
pub no-level : (ts : Slices) (d : Bor (List ℕ)) → 1 ≤ length ts → length ts < 3 → ((get_or ts 0 d).now ≡ codes "=" → ⊥) → HasNoLevelRead (texts ts)
no-level [] d long short none l rest form e = absurd (omega arith)
no-level (t ∷ ts) d long short none levels.Plain rest form e = none (ap first_of e)
no-level (t ∷ ts) d long short none (levels.Prefix n) rest form e = omega (arith, ap length e, texts-length ts)
no-level (t ∷ ts) d long short none (levels.Postfix n) rest form e = omega (arith, ap length e, texts-length ts)
no-level (t ∷ ts) d long short none (levels.InfixLeft n) rest form e = omega (arith, ap length e, texts-length ts)
no-level (t ∷ ts) d long short none (levels.InfixRight n) rest form e = omega (arith, ap length e, texts-length ts)
no-level (t ∷ ts) d long short none (levels.InfixNone n) rest form e = omega (arith, ap length e, texts-length ts)
