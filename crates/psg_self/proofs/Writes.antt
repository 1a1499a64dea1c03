-- Texts that are written one piece after the other.
use Rattle.std.proofs.Common.{◌≡◌, ℕ, ◌+◌, ◌<◌, ◌≤◌, ◌==◌, cond, List, [], ◌∷◌, ◌++◌, length, drop, get_or, ap, sym, ◌∙◌, append_assoc, append-nil, codes, if◌then◌else◌, is_ok, OnOk, Result, Ok, Err}
use Rattle.std.specs.List.{flat_map}
use Rattle.std.proofs.lemmas.List.{drop_more, drop_all}
use Rattle.psg_self.specs.Brackets.{marked, bracketed}

-- one more piece
pub piece-more : {X : Type 0} (f : X → List ℕ) (xs : List X) (i : ℕ) (x : X) (whole before after : List ℕ) → i < length xs
    → x ≡ get_or xs i x → before ++ flat_map f (drop i xs) ≡ whole → after ≡ before ++ f x
    → after ++ flat_map f (drop (i + 1) xs) ≡ whole
piece-more f xs i x whole before after h r b a =
    let d : drop i xs ≡ x ∷ drop (i + 1) xs = drop_more xs i x h ∙ ap (λ y. y ∷ drop (i + 1) xs) (sym r) in
    ap (λ t. t ++ flat_map f (drop (i + 1) xs)) a ∙ append_assoc before (f x) (flat_map f (drop (i + 1) xs))
    ∙ ap (λ y. before ++ flat_map f y) (sym d) ∙ b

-- no more pieces
pub piece-end : {X : Type 0} (f : X → List ℕ) (xs : List X) (i : ℕ) (whole before : List ℕ) → length xs ≤ i
    → before ++ flat_map f (drop i xs) ≡ whole → before ≡ whole
piece-end f xs i whole before h b = sym (append-nil before) ∙ ap (λ y. before ++ flat_map f y) (sym (drop_all i xs h)) ∙ b

-- one more element in brackets
pub marked-more : {X : Type 0} (f : X → List ℕ) (xs : List X) (i : ℕ) (x : X) (whole before between after : List ℕ)
    → i < length xs → x ≡ get_or xs i x → before ++ marked f i (drop i xs) ≡ whole
    → between ≡ before ++ cond (i == 0) (codes "(") (codes ",") → after ≡ between ++ f x
    → after ++ marked f (i + 1) (drop (i + 1) xs) ≡ whole
marked-more f xs i x whole before between after h r b m a =
    let rest : List ℕ = marked f (i + 1) (drop (i + 1) xs) in
    let d : drop i xs ≡ x ∷ drop (i + 1) xs = drop_more xs i x h ∙ ap (λ y. y ∷ drop (i + 1) xs) (sym r) in
    ap (λ t. t ++ rest) (a ∙ ap (λ t. t ++ f x) m)
    ∙ append_assoc (before ++ cond (i == 0) (codes "(") (codes ",")) (f x) rest
    ∙ append_assoc before (cond (i == 0) (codes "(") (codes ",")) (f x ++ rest)
    ∙ ap (λ y. before ++ marked f i y) (sym d) ∙ b

-- no more elements in brackets
pub marked-end : {X : Type 0} (f : X → List ℕ) (xs : List X) (i : ℕ) (start before after : List ℕ) → length xs ≤ i
    → before ++ marked f i (drop i xs) ≡ start ++ marked f 0 xs → after ≡ before ++ cond (length xs == 0) [] (codes ")")
    → after ≡ start ++ bracketed f xs
marked-end f xs i start before after h b a =
    let e : before ≡ start ++ marked f 0 xs = sym (append-nil before) ∙ ap (λ y. before ++ marked f i y) (sym (drop_all i xs h)) ∙ b in
    a ∙ ap (λ t. t ++ cond (length xs == 0) [] (codes ")")) e ∙ append_assoc start (marked f 0 xs) (cond (length xs == 0) [] (codes ")"))

-- what a last call leaves
pub on-ok : {E A B : Type 0} (r : Result (Unit {0}) E) → OnOk r A → (A → B) → OnOk r B
on-ok (Ok x) a f = f a
on-ok (Err x) a f = tt

-- what a last write leaves
pub on-written : {E : Type 0} (r : Result (Unit {0}) E) (new more old wanted : List ℕ) → new ≡ (if is_ok r then more else old)
    → (new ≡ more → new ≡ wanted) → OnOk r (new ≡ wanted)
on-written (Ok x) new more old wanted e f = f e
on-written (Err x) new more old wanted e f = tt
