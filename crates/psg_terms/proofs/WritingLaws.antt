-- The text of a term, written from left to right.
use Rattle.std.proofs.Common.{◌≡◌, ℕ, ◌+◌, ◌<◌, if◌then◌else◌, List, [], ◌∷◌, ◌++◌, take, get_or, length, refl, ap, ap₂, sym, ◌∙◌, slice_get, append_assoc, append-nil, arith}
use Rattle.std.specs.Prelude.{decimal}
use Rattle.psg_terms.specs.Terms.{Term, variable, symbol, apply, applied}
use Rattle.psg_terms.specs.Signature.{Signature}
use Rattle.psg_terms.specs.Text.{term_text, opened, symbol_name, row_text}
use Rattle.psg_terms.specs.Writing.{before, after, between}
use Rattle.psg_terms.proofs.Weights.{applied-push}
use Rattle.std.proofs.lemmas.List.{length-take-le, take_all}
use Rattle.psg_terms.proofs.Lists.{take_item, suc_is_not_zero}

-- the text up to the last argument
abbrev pub begun : Signature → Term → List ℕ
begun sig (variable s n) = 63 ∷ decimal n
begun sig (symbol c) = symbol_name (slice_get sig.symbols c)
begun sig (apply f a) = opened sig f ++ term_text sig a

opened-apply : (sig : Signature) (f a : Term) (xs : List Term) → opened sig (applied (apply f a) xs) ≡ begun sig (applied (apply f a) xs) ++ 44 ∷ []
opened-apply sig f a [] = refl
opened-apply sig f a (x ∷ xs) = opened-apply sig (apply f a) x xs

opened-applied : (sig : Signature) (c : ℕ) (xs : List Term) → opened sig (applied (symbol c) xs) ≡ begun sig (applied (symbol c) xs) ++ before (length xs)
opened-applied sig c [] = refl
opened-applied sig c (x ∷ xs) = opened-apply sig (symbol c) x xs ∙ ap (λ b. begun sig (applied (apply (symbol c) x) xs) ++ (if b then (40 ∷ []) else (44 ∷ []))) (sym (suc_is_not_zero (length xs)))

text-apply : (sig : Signature) (f a : Term) (xs : List Term) → term_text sig (applied (apply f a) xs) ≡ begun sig (applied (apply f a) xs) ++ 41 ∷ []
text-apply sig f a [] = refl
text-apply sig f a (x ∷ xs) = text-apply sig (apply f a) x xs

pub text-applied : (sig : Signature) (c : ℕ) (xs : List Term) → term_text sig (applied (symbol c) xs) ≡ begun sig (applied (symbol c) xs) ++ after (length xs)
text-applied sig c [] = sym (append-nil (symbol_name (slice_get sig.symbols c)))
text-applied sig c (x ∷ xs) = text-apply sig (symbol c) x xs ∙ ap (λ b. begun sig (applied (apply (symbol c) x) xs) ++ (if b then [] else (41 ∷ []))) (sym (suc_is_not_zero (length xs)))

-- one more argument
pub begun-step : (sig : Signature) (c : ℕ) (first now mid new : List ℕ) (xs : List Term) (i : ℕ) (x : Term) → now ≡ first ++ begun sig (applied (symbol c) (take i xs)) → mid ≡ now ++ before i → new ≡ mid ++ term_text sig x → i < length xs → x ≡ get_or xs i x → new ≡ first ++ begun sig (applied (symbol c) (take (i + 1) xs))
begun-step sig c first now mid new xs i x h m n lt at =
    let f = applied (symbol c) (take i xs) in
    let l : i ≡ length (take i xs) = sym (length-take-le i xs (omega arith)) in
    n ∙ ap (λ t. t ++ term_text sig x) (m ∙ ap₂ (λ p q. p ++ before q) h l)
    ∙ ap (λ t. t ++ term_text sig x) (append_assoc first (begun sig f) (before (length (take i xs))) ∙ ap (λ t. first ++ t) (sym (opened-applied sig c (take i xs))))
    ∙ append_assoc first (opened sig f) (term_text sig x)
    ∙ ap (λ u. first ++ begun sig u) (sym (ap (applied (symbol c)) (take_item xs i x lt at) ∙ applied-push (symbol c) (take i xs) x))

pub begun-end : (sig : Signature) (c : ℕ) (first now new : List ℕ) (xs : List Term) (i n : ℕ) (t : Term) → now ≡ first ++ begun sig (applied (symbol c) (take i xs)) → new ≡ now ++ after n → i ≡ length xs → n ≡ length xs → t ≡ applied (symbol c) xs → new ≡ first ++ term_text sig t
begun-end sig c first now new xs i n t h e l k same =
    let all = take_all i xs (omega arith) in
    e ∙ ap₂ (λ p q. p ++ after q) (h ∙ ap (λ ys. first ++ begun sig (applied (symbol c) ys)) all) k
    ∙ append_assoc first (begun sig (applied (symbol c) xs)) (after (length xs)) ∙ ap (λ u. first ++ u) (sym (text-applied sig c xs) ∙ ap (term_text sig) (sym same))

-- rows
row_text-push : (sig : Signature) (xs : List Term) (x : Term) → row_text sig (xs ++ x ∷ []) ≡ (row_text sig xs ++ between (length xs)) ++ term_text sig x
row_text-push sig [] x = refl
row_text-push sig (y ∷ []) x = sym (append_assoc (term_text sig y) (32 ∷ []) (term_text sig x))
row_text-push sig (y ∷ z ∷ xs) x =
    let t = term_text sig y in
    let test : between (length (y ∷ z ∷ xs)) ≡ between (length (z ∷ xs)) = ap (λ b. if b then [] else (32 ∷ [])) (suc_is_not_zero (length (z ∷ xs)) ∙ sym (suc_is_not_zero (length xs))) in
    ap (λ u. t ++ (32 ∷ u)) (row_text-push sig (z ∷ xs) x)
    ∙ sym (append_assoc t (32 ∷ (row_text sig (z ∷ xs) ++ between (length (z ∷ xs)))) (term_text sig x))
    ∙ ap (λ u. u ++ term_text sig x) (sym (append_assoc t (32 ∷ row_text sig (z ∷ xs)) (between (length (z ∷ xs)))) ∙ ap (λ u. (t ++ (32 ∷ row_text sig (z ∷ xs))) ++ u) (sym test))

pub row-step : (sig : Signature) (now mid new : List ℕ) (xs : List Term) (i : ℕ) (x : Term) → now ≡ row_text sig (take i xs) → mid ≡ now ++ between i → new ≡ mid ++ term_text sig x → i < length xs → x ≡ get_or xs i x → new ≡ row_text sig (take (i + 1) xs)
row-step sig now mid new xs i x h m n lt at =
    let l : i ≡ length (take i xs) = sym (length-take-le i xs (omega arith)) in
    n ∙ ap (λ t. t ++ term_text sig x) (m ∙ ap₂ (λ p q. p ++ between q) h l)
    ∙ sym (ap (row_text sig) (take_item xs i x lt at) ∙ row_text-push sig (take i xs) x)
