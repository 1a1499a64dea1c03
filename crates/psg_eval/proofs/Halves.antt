-- The keys of an operator's own positions, put together from those of both halves.
use Rattle.std.proofs.Common.{◌≡◌, ℕ, ◌≤◌, suc, List, [], ◌∷◌, ◌++◌, length, refl, ap, sym, ◌∙◌, subst, length-append, arith}
use Rattle.psg_grammar.specs.Keys.{Key, in_order}
use Rattle.psg_unify.specs.Pairs.{Pair as Columns}
use Rattle.psg_scope.specs.Headers.{key_of, keys}
use Rattle.psg_scope.specs.declared.header.NameCol.{NameCol}
use Rattle.psg_eval.specs.Own.{IsOwn, own_none, own_one, own_two}
use Rattle.psg_eval.specs.Walks.{IsWalk, walk_none, walk_left, walk_right, walk_both}

pub own_few : (ks : List Key) (cs : List ℕ) (M : List Key) (columns : List ℕ) (pairs : List Columns) → length cs ≡ length ks → length ks ≤ 1 → M ≡ in_order ks → columns ≡ cs → pairs ≡ [] → IsOwn ks cs M columns pairs
own_few [] [] M columns pairs l s m c e = subst (λ ms. IsOwn [] [] ms columns pairs) (sym m) (subst (λ xs. IsOwn [] [] [] xs pairs) (sym c) (subst (IsOwn [] [] [] []) (sym e) own_none))
own_few [] (c ∷ cs) M columns pairs l s m d e = absurd (omega arith)
own_few (k ∷ []) [] M columns pairs l s m d e = absurd (omega arith)
own_few (k ∷ []) (c ∷ []) M columns pairs l s m d e =
    subst (λ ms. IsOwn (k ∷ []) (c ∷ []) ms columns pairs) (sym m) (subst (λ xs. IsOwn (k ∷ []) (c ∷ []) (k ∷ []) xs pairs) (sym d) (subst (IsOwn (k ∷ []) (c ∷ []) (k ∷ []) (c ∷ [])) (sym e) (own_one k c)))
own_few (k ∷ []) (c ∷ d ∷ cs) M columns pairs l s m f e = absurd (omega arith)
own_few (k ∷ n ∷ ks) cs M columns pairs l s m c e = absurd (omega arith)

walk_many : {offset : ℕ} {A B : List ℕ} {K L M : List Key} {pairs : List Columns} {keep : List ℕ} → IsWalk offset A B K L M pairs keep → length keep ≡ length M
walk_many walk_none = refl
walk_many (walk_left a k w) = ap suc (walk_many w)
walk_many (walk_right b k w) = ap suc (walk_many w)
walk_many (walk_both a b k w) = ap suc (walk_many w)

pub own_many : {ks : List Key} {cs : List ℕ} {M : List Key} {columns : List ℕ} {pairs : List Columns} → IsOwn ks cs M columns pairs → length columns ≡ length M
own_many own_none = refl
own_many (own_one k c) = refl
own_many (own_two a b w) = walk_many w

pub own_width : {ks : List Key} {cs : List ℕ} {M : List Key} {columns : List ℕ} {pairs : List Columns} → IsOwn ks cs M columns pairs → length cs ≡ length ks
own_width own_none = refl
own_width (own_one k c) = refl
own_width (own_two {ks = ks} {ls = ls} {cs = cs} {ds = ds} a b w) = omega (arith, length-append cs ds, length-append ks ls, own_width a, own_width b)

keys-append : (xs ys : List NameCol) → keys (xs ++ ys) ≡ keys xs ++ keys ys
keys-append [] ys = refl
keys-append (x ∷ xs) ys = ap (λ l. key_of x ∷ l) (keys-append xs ys)

pub own_halves : (ps front behind : List NameCol) (cs fronts behinds A B columns : List ℕ) (K L M : List Key) (pairs p q r : List Columns) → ps ≡ front ++ behind → cs ≡ fronts ++ behinds → pairs ≡ p ++ q ++ r
    → IsOwn (keys front) fronts K A p → IsOwn (keys behind) behinds L B q → IsWalk 0 A B K L M r columns → IsOwn (keys ps) cs M columns pairs
own_halves ps front behind cs fronts behinds A B columns K L M pairs p q r e d f a b w =
    subst (λ ks. IsOwn ks cs M columns pairs) (sym (ap keys e ∙ keys-append front behind))
    (subst (λ xs. IsOwn (keys front ++ keys behind) xs M columns pairs) (sym d)
    (subst (IsOwn (keys front ++ keys behind) (fronts ++ behinds) M columns) (sym f) (own_two a b w)))
