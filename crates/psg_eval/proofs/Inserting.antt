-- Lists of keys with further keys somewhere inside.
use Rattle.std.proofs.Common.{◌≡◌, Bool, true, false, ◌||◌, List, [], ◌∷◌, ◌++◌, bytes_eq, refl, sym, ap, ap₂, ◌∙◌, subst, append_assoc, append-nil}
use Rattle.std.specs.Cmp.{both_ways}
use Rattle.std.specs.List.{AllByRecursion}
use Rattle.psg_terms.specs.Names.{is_among, has_twice}
use Rattle.psg_terms.proofs.DeclareLaws.{is_among-append}
use Rattle.psg_grammar.specs.Keys.{Key, in_order}
use Rattle.psg_scope.specs.Headers.{IsKey}
use Rattle.psg_scope.proofs.KeyLists.{key_is, key_refl, in_order-rising, in_order-whole, in_order-among, rising-same}
use Rattle.psg_scope.proofs.MergeLaws.{has_twice-append, meets}
use Rattle.psg_scope.proofs.HeaderLaws.{whole-append}

-- ys is xs with the new keys at one place
pub record Inserted (new xs ys : List Key) : Type 0 where
  pub front : List Key
  pub back : List Key
  pub without : xs ≡ front ++ back
  pub with_new : ys ≡ front ++ (new ++ back)

-- more keys behind
pub inserted_front : (new xs ys more : List Key) → Inserted new xs ys → Inserted new (xs ++ more) (ys ++ more)
inserted_front new xs ys more i = record {
  front = i.front;
  back = i.back ++ more;
  without = ap (λ l. l ++ more) i.without ∙ append_assoc i.front i.back more;
  with_new = ap (λ l. l ++ more) i.with_new ∙ append_assoc i.front (new ++ i.back) more ∙ ap (λ l. i.front ++ l) (append_assoc new i.back more);
}

pub inserted_last : (new xs : List Key) → Inserted new (xs ++ []) (xs ++ new)
inserted_last new xs = record { front = xs; back = []; without = refl; with_new = ap (λ l. xs ++ l) (sym (append-nil new)) }

or_last : (a b c : Bool) → (a || (b || c)) ≡ ((a || c) || b)
or_last true b c = refl
or_last false true true = refl
or_last false true false = refl
or_last false false true = refl
or_last false false false = refl

pub inserted-among : (new xs ys : List Key) → Inserted new xs ys → (k : Key) → is_among ys k ≡ (is_among xs k || is_among new k)
inserted-among new xs ys i k =
    ap (λ l. is_among l k) i.with_new ∙ is_among-append i.front (new ++ i.back) k ∙ ap (λ b. is_among i.front k || b) (is_among-append new i.back k)
    ∙ or_last (is_among i.front k) (is_among new k) (is_among i.back k)
    ∙ sym (ap (λ l. is_among l k || is_among new k) i.without ∙ ap (λ b. b || is_among new k) (is_among-append i.front i.back k))

whole_left : (ks ms : List Key) → AllByRecursion IsKey (ks ++ ms) → AllByRecursion IsKey ks
whole_left [] ms w = tt
whole_left (k ∷ ks) ms w = (w.0, whole_left ks ms w.1)

whole_right : (ks ms : List Key) → AllByRecursion IsKey (ks ++ ms) → AllByRecursion IsKey ms
whole_right [] ms w = w
whole_right (k ∷ ks) ms w = whole_right ks ms w.1

pub inserted-whole : (new xs ys : List Key) → Inserted new xs ys → AllByRecursion IsKey xs → AllByRecursion IsKey new → AllByRecursion IsKey ys
inserted-whole new xs ys i w v =
    let parts = subst (AllByRecursion IsKey) i.without w in
    subst (AllByRecursion IsKey) (sym i.with_new)
    (whole-append i.front (new ++ i.back) (whole_left i.front i.back parts) (whole-append new i.back v (whole_right i.front i.back parts)))

-- ---- keys that stand twice

bytes_turned : (k d : Key) → bytes_eq k d ≡ bytes_eq d k
bytes_turned k d = both_ways (bytes_eq k d) (bytes_eq d k) (λ e. subst (λ z. bytes_eq z k ≡ true) (key_is k d e) (key_refl k)) (λ e. subst (λ z. bytes_eq z d ≡ true) (key_is d k e) (key_refl d))

cross : (a b c d : Bool) → ((a || b) || (c || d)) ≡ ((a || c) || (b || d))
cross true b c d = refl
cross false true true d = refl
cross false true false d = refl
cross false false c d = refl

meets-nil : (ks : List Key) → meets ks [] ≡ false
meets-nil [] = refl
meets-nil (k ∷ ks) = meets-nil ks

meets-cons : (ks ds : List Key) (d : Key) → meets ks (d ∷ ds) ≡ (is_among ks d || meets ks ds)
meets-cons [] ds d = refl
meets-cons (k ∷ ks) ds d =
    ap₂ (λ p q. (p || is_among ds k) || q) (bytes_turned d k) (meets-cons ks ds d) ∙ cross (bytes_eq k d) (is_among ds k) (is_among ks d) (meets ks ds)

meets-turned : (ks ds : List Key) → meets ks ds ≡ meets ds ks
meets-turned [] ds = sym (meets-nil ds)
meets-turned (k ∷ ks) ds = ap (λ b. is_among ds k || b) (meets-turned ks ds) ∙ sym (meets-cons ds ks k)

meets-append : (ks ds es : List Key) → meets ks (ds ++ es) ≡ (meets ks ds || meets ks es)
meets-append [] ds es = refl
meets-append (k ∷ ks) ds es =
    ap₂ (λ p q. p || q) (is_among-append ds es k) (meets-append ks ds es) ∙ cross (is_among ds k) (is_among es k) (meets ks ds) (meets ks es)

shuffle : (f n b nb fn fb : Bool) → ((f || ((n || b) || nb)) || (fn || fb)) ≡ ((((f || b) || fb) || n) || (fn || nb))
shuffle true n b nb fn fb = refl
shuffle false true true nb fn fb = refl
shuffle false true false nb fn true = refl
shuffle false true false nb fn false = refl
shuffle false false true nb fn fb = refl
shuffle false false false true fn true = refl
shuffle false false false true true false = refl
shuffle false false false true false false = refl
shuffle false false false false true true = refl
shuffle false false false false true false = refl
shuffle false false false false false true = refl
shuffle false false false false false false = refl

pub inserted-twice : (new xs ys : List Key) → Inserted new xs ys → has_twice ys ≡ has_twice (xs ++ new)
inserted-twice new xs ys i =
    let f = i.front in
    let b = i.back in
    let left : has_twice ys ≡ ((has_twice f || ((has_twice new || has_twice b) || meets new b)) || (meets f new || meets f b)) =
    ap has_twice i.with_new ∙ has_twice-append f (new ++ b) ∙ ap₂ (λ p q. (has_twice f || p) || q) (has_twice-append new b) (meets-append f new b) in
    let turned : meets (f ++ b) new ≡ (meets f new || meets new b) =
    meets-turned (f ++ b) new ∙ meets-append new f b ∙ ap (λ p. p || meets new b) (meets-turned new f) in
    let right : has_twice (xs ++ new) ≡ ((((has_twice f || has_twice b) || meets f b) || has_twice new) || (meets f new || meets new b)) =
    has_twice-append xs new ∙ ap (λ l. (has_twice l || has_twice new) || meets l new) i.without ∙ ap₂ (λ p q. (p || has_twice new) || q) (has_twice-append f b) turned in
    left ∙ shuffle (has_twice f) (has_twice new) (has_twice b) (meets new b) (meets f new) (meets f b) ∙ sym right

-- ---- the order

pub inserted-order : (new xs ys : List Key) → Inserted new xs ys → AllByRecursion IsKey (xs ++ new) → in_order ys ≡ in_order (xs ++ new)
inserted-order new xs ys i w =
    let v = inserted-whole new xs ys i (whole_left xs new w) (whole_right xs new w) in
    rising-same (in_order ys) (in_order (xs ++ new)) (in_order-rising ys v) (in_order-rising (xs ++ new) w) (in_order-whole ys v) (in_order-whole (xs ++ new) w)
    (λ k. in_order-among ys k v ∙ inserted-among new xs ys i k ∙ sym (is_among-append xs new k) ∙ sym (in_order-among (xs ++ new) k w))

pub whole_parts : (xs new : List Key) → AllByRecursion IsKey (xs ++ new) → AllByRecursion IsKey xs × AllByRecursion IsKey new
whole_parts xs new w = (whole_left xs new w, whole_right xs new w)
