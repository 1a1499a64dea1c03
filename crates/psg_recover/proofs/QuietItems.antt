-- The items and operators of the grammar in which nothing declares, one by one.
use Rattle.std.proofs.Common.{◌≡◌, ◌≢◌, ℕ, zero, suc, ◌==◌, ◌&&◌, ◌||◌, not, nat_le, Bool, true, false, cond, List, [], ◌∷◌, ◌++◌, map, length, Option, Some, None, slice_get, refl, ap, ap₂, sym, ◌∙◌, subst}
use Rattle.std.specs.Prelude.{is_some}
use Rattle.std.proofs.lemmas.List.{length-map}
use Rattle.std.proofs.lemmas.Option.{none-some, same_Some}
use Rattle.psg_grammar.specs.declared.types.Kind.{Kind}
use Rattle.psg_grammar.specs.declared.types.Kind.TheVariants as kinds
use Rattle.psg_grammar.specs.declared.types.Level.{Level}
use Rattle.psg_grammar.specs.declared.types.Level.TheVariants as levels
use Rattle.psg_grammar.specs.declared.types.Item.{Item}
use Rattle.psg_grammar.specs.declared.types.Item.TheVariants as items
use Rattle.psg_grammar.specs.Levels.{is_mark, is_slot_of}
use Rattle.psg_class.specs.Class.{begins_well, has_form, is_token, own_first, own_last, token_first, token_last}
use Rattle.psg_class.specs.Places.{is_empty, solid}
use Rattle.psg_class.specs.Terminals.{Terminal, item_terminal}
use Rattle.psg_recover.specs.Grammars.{quiet_item}

-- ---- lists

pub map_back : {X Y : Type 0} (f : X → Y) (xs : List X) (n : ℕ) (y : Y) → slice_get (map f xs) n ≡ Some y → (x : X) × (slice_get xs n ≡ Some x) × (y ≡ f x)
map_back f [] n y e = absurd (none-some y e)
map_back f (x ∷ xs) zero y e = (x, refl, sym (same_Some (f x) y e))
map_back f (x ∷ xs) (suc n) y e = map_back f xs n y e

pub map_uncons : {X Y : Type 0} (f : X → Y) (xs : List X) (y : Y) (ys : List Y) → map f xs ≡ y ∷ ys → (x : X) × (rest : List X) × (xs ≡ x ∷ rest) × (f x ≡ y) × (map f rest ≡ ys)
map_uncons f [] y ys e = absurd (cc)
map_uncons f (x ∷ xs) y ys e = let a : f x ≡ y = cc in let b : map f xs ≡ ys = cc in (x, xs, refl, a, b)

pub map_unsplit : {X Y : Type 0} (f : X → Y) (xs : List X) (front : List Y) (y : Y) (behind : List Y) → map f xs ≡ front ++ y ∷ behind
    → (a : List X) × (x : X) × (b : List X) × (xs ≡ a ++ x ∷ b) × (map f a ≡ front) × (f x ≡ y) × (map f b ≡ behind)
map_unsplit {X} f xs [] y behind e = let (x, rest, is, one, more) = map_uncons f xs y behind e in ([], x, rest, is, refl, one, more)
map_unsplit {X} f xs (z ∷ front) y behind e =
    let (x, rest, is, one, more) = map_uncons f xs z (front ++ y ∷ behind) e in
    let (a, w, b, split, fa, fw, fb) = map_unsplit f rest front y behind more in
    (x ∷ a, w, b, is ∙ ap (λ (l : List X). x ∷ l) split, ap₂ (λ u l. u ∷ l) one fa, fw, fb)

pub map_empty : {X Y : Type 0} (f : X → Y) (xs : List X) (ys : List Y) → map f xs ≡ ys → xs ≡ [] → ys ≡ []
map_empty f xs ys e d = sym e ∙ ap (map f) d

-- ---- items

pub terminal_same : (i : Item) → item_terminal (quiet_item i) ≡ item_terminal i
terminal_same (items.Word w) = refl
terminal_same (items.Slot k) = refl
terminal_same (items.Refers s) = refl
terminal_same (items.Declares s) = refl
terminal_same items.Number = refl
terminal_same items.Text = refl
terminal_same items.Space = refl
terminal_same items.Tight = refl
terminal_same items.Line = refl
terminal_same items.In = refl
terminal_same items.Out = refl

pub slot_back : (i : Item) (k : Kind) → quiet_item i ≡ items.Slot k → i ≡ items.Slot k
slot_back (items.Slot j) k e = e
slot_back (items.Word w) k e = absurd (cc)
slot_back (items.Refers s) k e = absurd (cc)
slot_back (items.Declares s) k e = absurd (cc)
slot_back items.Number k e = absurd (cc)
slot_back items.Text k e = absurd (cc)
slot_back items.Space k e = absurd (cc)
slot_back items.Tight k e = absurd (cc)
slot_back items.Line k e = absurd (cc)
slot_back items.In k e = absurd (cc)
slot_back items.Out k e = absurd (cc)

pub slot_same : (p : ℕ) (i : Item) → is_slot_of p (Some (quiet_item i)) ≡ is_slot_of p (Some i)
slot_same p (items.Slot (kinds.Phylum q)) = refl
slot_same p (items.Slot (kinds.List l)) = refl
slot_same p (items.Word w) = refl
slot_same p (items.Refers s) = refl
slot_same p (items.Declares s) = refl
slot_same p items.Number = refl
slot_same p items.Text = refl
slot_same p items.Space = refl
slot_same p items.Tight = refl
slot_same p items.Line = refl
slot_same p items.In = refl
slot_same p items.Out = refl

pub solid_quiet : (is : List Item) → solid (map quiet_item is) ≡ map quiet_item (solid is)
solid_quiet [] = refl
solid_quiet (items.Word w ∷ is) = ap (λ (l : List Item). items.Word w ∷ l) (solid_quiet is)
solid_quiet (items.Slot k ∷ is) = ap (λ (l : List Item). items.Slot k ∷ l) (solid_quiet is)
solid_quiet (items.Refers s ∷ is) = ap (λ (l : List Item). items.Refers s ∷ l) (solid_quiet is)
solid_quiet (items.Declares s ∷ is) = ap (λ (l : List Item). items.Refers s ∷ l) (solid_quiet is)
solid_quiet (items.Number ∷ is) = ap (λ (l : List Item). items.Number ∷ l) (solid_quiet is)
solid_quiet (items.Text ∷ is) = ap (λ (l : List Item). items.Text ∷ l) (solid_quiet is)
solid_quiet (items.Space ∷ is) = solid_quiet is
solid_quiet (items.Tight ∷ is) = solid_quiet is
solid_quiet (items.Line ∷ is) = solid_quiet is
solid_quiet (items.In ∷ is) = solid_quiet is
solid_quiet (items.Out ∷ is) = solid_quiet is

-- ---- forms

token_same : (i : Item) → is_token (quiet_item i) ≡ is_token i
token_same i = ap (λ (t : Option Terminal). is_some t) (terminal_same i)

token_first_same : (is : List Item) → token_first (map quiet_item is) ≡ token_first is
token_first_same [] = refl
token_first_same (i ∷ is) = token_same i

token_last_same : (is : List Item) → token_last (map quiet_item is) ≡ token_last is
token_last_same [] = refl
token_last_same (i ∷ []) = token_same i
token_last_same (i ∷ j ∷ is) = token_last_same (j ∷ is)

own_first_same : (p : ℕ) (is : List Item) → own_first p (map quiet_item is) ≡ own_first p is
own_first_same p [] = refl
own_first_same p (i ∷ is) = slot_same p i

own_last_same : (p : ℕ) (is : List Item) → own_last p (map quiet_item is) ≡ own_last p is
own_last_same p [] = refl
own_last_same p (i ∷ []) = slot_same p i
own_last_same p (i ∷ j ∷ is) = own_last_same p (j ∷ is)

pub begins_same : (p : ℕ) (is : List Item) → begins_well p (map quiet_item is) ≡ begins_well p is
begins_same p [] = refl
begins_same p (i ∷ is) = ap₂ (λ a b. a || b) (token_same i) (ap₂ (λ a b. a && b) (slot_same p i) (token_first_same is))

both_ends : (p : ℕ) (is : List Item) → (own_first p (map quiet_item is) && own_last p (map quiet_item is) && nat_le 3 (length (map quiet_item is))) ≡ (own_first p is && own_last p is && nat_le 3 (length is))
both_ends p is =
    ap₂ (λ a b. a && b && nat_le 3 (length (map quiet_item is))) (own_first_same p is) (own_last_same p is)
    ∙ ap (λ n. own_first p is && own_last p is && nat_le 3 n) (length-map is quiet_item)

pub form_same : (level : Level) (p : ℕ) (is : List Item) → has_form level p (map quiet_item is) ≡ has_form level p is
form_same levels.Plain p is = ap₂ (λ a b. a && not b) (token_first_same is) (own_last_same p is)
form_same (levels.Prefix n) p is = ap₂ (λ a b. a && b) (token_first_same is) (own_last_same p is)
form_same (levels.Postfix n) p is = ap₂ (λ a b. a && b) (own_first_same p is) (token_last_same is)
form_same (levels.InfixLeft n) p is = both_ends p is
form_same (levels.InfixRight n) p is = both_ends p is
form_same (levels.InfixNone n) p is = both_ends p is

pub empty_same : (is : List Item) → is_empty (map quiet_item is) ≡ is_empty is
empty_same [] = refl
empty_same (i ∷ is) = refl
