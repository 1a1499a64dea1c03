-- Which item a part is, by its first byte.
use Rattle.std.proofs.Common.{◌≡◌, ◌==◌, ℕ, true, cond, List, [], ◌∷◌, ◌++◌, length, drop, codes, inl, inr, refl, ap, sym, ◌∙◌, subst, arith}
use Rattle.std.specs.List.{list_all}
use Rattle.std.proofs.lemmas.Bool.{and_parts, cases_Bool, eqb-true, false≢true}
use Rattle.std.specs.Prelude.{◌&&◌, nat_le}
use Rattle.psg_terms.specs.Names.{Name}
use Rattle.psg_grammar.specs.Sound.{is_upper, goes_on_name, IsKindName}
use Rattle.psg_deflines.specs.Quotes.{IsQuoteOf, HasNoQuote}
use Rattle.psg_deflines.specs.Forms.{item_part, HasItemForm, IsSpaceName, tag}
use Rattle.psg_deflines.specs.FormReads.{IsItemPart, HasNoItem, IsWordItem, HasNoWordItem, HasNoNameItem}
use Rattle.psg_deflines.specs.Only.{IsOnly}
use Rattle.psg_deflines.specs.declared.lines.LineItem.{LineItem}
use Rattle.psg_deflines.specs.declared.lines.LineItem.TheVariants as items
use Rattle.psg_deflines.proofs.PartReads.{byte_of}
use Rattle.psg_deflines.proofs.PartLaws.{quote-begins}
use Rattle.psg_deflines.proofs.LineInverses.{untagged}

-- a quoted word, a slot, a name that refers, one that declares, a word of its own
abbrev class : LineItem → ℕ
class (items.Word w) = 0
class (items.Slot k) = 1
class (items.Refers n) = 2
class (items.Declares n) = 3
class _ = 4

abbrev class_by : ℕ → ℕ
class_by c = cond (c == 34) 0 (cond (is_upper c) 1 (cond (c == 114) 2 (cond (c == 100) 3 4)))

class-is : (z : LineItem) → HasItemForm z → class_by (byte_of (item_part z)) ≡ class z
class-is (items.Word w) h = let q = quote-begins w in ap (λ p. class_by (byte_of p)) q.1
class-is (items.Slot k) h = kind k h
  where
    kind : (k : Name) → IsKindName k → class_by (byte_of k) ≡ 1
    kind [] h = absurd (false≢true h)
    kind (c ∷ cs) h =
        let first = and_parts (is_upper c && list_all goes_on_name cs) (nat_le (length cs) 63) h in
        let upper : is_upper c ≡ true = (and_parts (is_upper c) (list_all goes_on_name cs) first.0).0 in
        elim (cases_Bool (c == 34)) [
          | inl e ↦ absurd (false≢true (subst (λ d. is_upper d ≡ true) (eqb-true c 34 e) upper))
          | inr e ↦ ap (λ b. cond b 0 (cond (is_upper c) 1 (cond (c == 114) 2 (cond (c == 100) 3 4)))) e ∙ ap (λ b. cond b 1 (cond (c == 114) 2 (cond (c == 100) 3 4))) upper
        ]
class-is (items.Refers n) h = refl
class-is (items.Declares n) h = refl
class-is items.Number h = refl
class-is items.Text h = refl
class-is items.Space h = refl
class-is items.Tight h = refl
class-is items.Line h = refl
class-is items.In h = refl
class-is items.Out h = refl

-- an item is the only one of a part if it is the only one of its class
only-in_class : (part : List ℕ) (x : LineItem) → IsItemPart part x → ((z : LineItem) → class z ≡ class x → IsItemPart part z → z ≡ x) → IsOnly (IsItemPart part) x
only-in_class part x is one = record {
  is = is;
  only = λ z h. one z (sym (class-is z h.form) ∙ ap (λ p. class_by (byte_of p)) (h.written ∙ sym is.written) ∙ class-is x is.form) h;
}

pub refers-only : (part : List ℕ) (n : Name) → IsSpaceName n → part ≡ codes "refers" ++ tag n → IsOnly (IsItemPart part) (items.Refers n)
refers-only part n named e = only-in_class part (items.Refers n) (record { form = named; written = sym e }) by_item
  where
    by_item : (z : LineItem) → class z ≡ 2 → IsItemPart part z → z ≡ items.Refers n
    by_item (items.Refers m) c h = ap items.Refers (sym (untagged m) ∙ ap (drop 7) (h.written ∙ e) ∙ untagged n)
    by_item _ c h = absurd (omega (arith, c))

pub declares-only : (part : List ℕ) (n : Name) → IsSpaceName n → part ≡ codes "declares" ++ tag n → IsOnly (IsItemPart part) (items.Declares n)
declares-only part n named e = only-in_class part (items.Declares n) (record { form = named; written = sym e }) by_item
  where
    by_item : (z : LineItem) → class z ≡ 3 → IsItemPart part z → z ≡ items.Declares n
    by_item (items.Declares m) c h = ap items.Declares (sym (untagged m) ∙ ap (drop 9) (h.written ∙ e) ∙ untagged n)
    by_item _ c h = absurd (omega (arith, c))

pub slot-only : (part k : Name) → (k ≡ part) × IsKindName part → IsOnly (IsItemPart part) (items.Slot k)
slot-only part k (e, kind) = only-in_class part (items.Slot k) (record { form = subst IsKindName (sym e) kind; written = e }) by_item
  where
    by_item : (z : LineItem) → class z ≡ 1 → IsItemPart part z → z ≡ items.Slot k
    by_item (items.Slot m) c h = ap items.Slot (h.written ∙ sym e)
    by_item _ c h = absurd (omega (arith, c))

pub quote-only : (part w : List ℕ) → IsOnly (IsQuoteOf part) w → IsOnly (IsItemPart part) (items.Word w)
quote-only part w o = only-in_class part (items.Word w) (record { form = o.is.quotable; written = o.is.written }) by_item
  where
    by_item : (z : LineItem) → class z ≡ 0 → IsItemPart part z → z ≡ items.Word w
    by_item (items.Word v) c h = ap items.Word (o.only v (record { quotable = h.form; written = h.written }))
    by_item _ c h = absurd (omega (arith, c))

-- the words of their own are told by their first byte and their length
abbrev word_by : List ℕ → LineItem
word_by p = cond (byte_of p == 110) items.Number (cond (byte_of p == 115) items.Space (cond (byte_of p == 108) items.Line
    (cond (byte_of p == 105) items.In (cond (byte_of p == 111) items.Out (cond (length p == 4) items.Text items.Tight)))))

word-by : (x : LineItem) → class x ≡ 4 → word_by (item_part x) ≡ x
word-by (items.Word w) c = absurd (omega (arith, c))
word-by (items.Slot k) c = absurd (omega (arith, c))
word-by (items.Refers n) c = absurd (omega (arith, c))
word-by (items.Declares n) c = absurd (omega (arith, c))
word-by items.Number c = refl
word-by items.Text c = refl
word-by items.Space c = refl
word-by items.Tight c = refl
word-by items.Line c = refl
word-by items.In c = refl
word-by items.Out c = refl

pub word-only : (part : List ℕ) (x : LineItem) → IsWordItem x × (item_part x ≡ part) → IsOnly (IsItemPart part) x
word-only part x (own, e) = only-in_class part x (record { form = form x own; written = e }) (λ z c h. sym (word-by z (c ∙ four x own)) ∙ ap word_by (h.written ∙ sym e) ∙ word-by x (four x own))
  where
    form : (x : LineItem) → IsWordItem x → HasItemForm x
    form (items.Word w) own = absurd own
    form (items.Slot k) own = absurd own
    form (items.Refers n) own = absurd own
    form (items.Declares n) own = absurd own
    form _ own = tt

    four : (x : LineItem) → IsWordItem x → class x ≡ 4
    four (items.Word w) own = absurd own
    four (items.Slot k) own = absurd own
    four (items.Refers n) own = absurd own
    four (items.Declares n) own = absurd own
    four _ own = refl

pub no-name : (part : List ℕ) → ((n : Name) → IsSpaceName n → part ≡ codes "refers" ++ tag n → ⊥) → ((n : Name) → IsSpaceName n → part ≡ codes "declares" ++ tag n → ⊥) → HasNoNameItem part
no-name part refers declares (items.Refers n) name h = refers n h.form (sym h.written)
no-name part refers declares (items.Declares n) name h = declares n h.form (sym h.written)
no-name part refers declares _ name h = absurd name

pub no-item : (part : List ℕ) → HasNoWordItem part → HasNoNameItem part → (IsKindName part → ⊥) → HasNoQuote part → HasNoItem part
no-item part word name kind quote (items.Word w) h = quote w (record { quotable = h.form; written = h.written })
no-item part word name kind quote (items.Slot k) h = kind (subst IsKindName h.written h.form)
no-item part word name kind quote (items.Refers n) h = name (items.Refers n) tt h
no-item part word name kind quote (items.Declares n) h = name (items.Declares n) tt h
no-item part word name kind quote items.Number h = word items.Number tt h.written
no-item part word name kind quote items.Text h = word items.Text tt h.written
no-item part word name kind quote items.Space h = word items.Space tt h.written
no-item part word name kind quote items.Tight h = word items.Tight tt h.written
no-item part word name kind quote items.Line h = word items.Line tt h.written
no-item part word name kind quote items.In h = word items.In tt h.written
no-item part word name kind quote items.Out h = word items.Out tt h.written
