-- Putting a free cell for each variable of a row.
use Rattle.std.proofs.Common.{◌≡◌, ◌≢◌, ◌<◌, ◌+◌, ℕ, inl, inr, if◌then◌else◌, Some, None, List, [], ◌∷◌, ◌++◌, reverse, length, refl, ap, sym, ◌∙◌, subst, append_assoc, append-nil, length-append, arith}
use Rattle.std.proofs.lemmas.List.{reverse-append, reverse-reverse}
use Rattle.std.proofs.lemmas.Bool.{cases_Bool}
use Rattle.psg_terms.specs.Terms.{Term, variable, symbol, applied}
use Rattle.psg_terms.specs.Signature.{Signature, only_constructor}
use Rattle.psg_terms.specs.Sizes.{sizes}
use Rattle.psg_terms.specs.Weight.{above_of}
use Rattle.psg_terms.specs.Canonical.{Variable, variables, variables_of, is_noted, noted, noted_all}
use Rattle.psg_terms.specs.Renaming.{opens, open_first}
use Rattle.psg_terms.proofs.Nodes.{size-con}
use Rattle.psg_terms.proofs.Recognising.{variables-closed}
use Rattle.psg_terms.proofs.RenamingLaws.{noted_all-append, opens-append, variables-applied, variables_of-append}
use Rattle.psg_pool.specs.Cells.{Put, free}
use Rattle.psg_pool.specs.Bindings.{Kept}
use Rattle.psg_unify.specs.Putting.{frees, IsLonger, PutsKnown, WalksOn}

-- the last term goes from the rest to the stack
pub pushed_last : {X : Type 0} (stack front row after : List X) (x : X) → row ≡ front ++ x ∷ [] → after ≡ stack ++ x ∷ [] → after ++ reverse front ≡ stack ++ reverse row
pushed_last stack front row after x e d =
    ap (λ l. l ++ reverse front) d ∙ append_assoc stack (x ∷ []) (reverse front)
    ∙ ap (λ l. stack ++ l) (sym (reverse-append front (x ∷ [])) ∙ ap reverse (sym e))

pub sizes-append : (xs ys : List Term) → sizes (xs ++ ys) ≡ sizes xs + sizes ys
sizes-append [] ys = omega arith
sizes-append (x ∷ xs) ys = omega (arith, sizes-append xs ys)

pub sizes-reverse : (xs : List Term) → sizes (reverse xs) ≡ sizes xs
sizes-reverse [] = refl
sizes-reverse (x ∷ xs) =
    let e : sizes (reverse (x ∷ xs)) ≡ sizes (reverse xs ++ x ∷ []) = ap sizes (reverse-append (x ∷ []) xs) in
    omega (arith, e, sizes-append (reverse xs) (x ∷ []), sizes-reverse xs)

frees-append : (xs ys : List Variable) → frees (xs ++ ys) ≡ frees xs ++ frees ys
frees-append [] ys = refl
frees-append (x ∷ xs) ys = ap (λ l. free x.0 ∷ l) (frees-append xs ys)

pub puts_nothing : (cells : List Put) (known : List Variable) → PutsKnown cells cells known known
puts_nothing cells known = record { more = []; cells_are = sym (append-nil cells); known_are = sym (append-nil (frees known)) }

-- a variable that was known
pub puts_known : (cells : List Put) (known after : List Variable) (x : Variable) → after ≡ noted known x → length after ≡ length known → PutsKnown cells cells known after
puts_known cells known after x e l = elim (cases_Bool (is_noted x known)) [
  | inl t ↦ subst (PutsKnown cells cells known) (sym (e ∙ ap (λ b. if b then known else known ++ x ∷ []) t)) (puts_nothing cells known)
  | inr f ↦
      let longer : after ≡ known ++ x ∷ [] = e ∙ ap (λ b. if b then known else known ++ x ∷ []) f in
      let k = ap (λ (l : List Variable). length l) longer in
      absurd (omega (arith, l, k, length-append known (x ∷ [])))
]

-- a variable that is new
pub puts_new : (old new : List Put) (known after : List Variable) (x : Variable) → after ≡ noted known x → length after ≢ length known → new ≡ old ++ free x.0 ∷ []
    → PutsKnown old new known after
puts_new old new known after x e l d = elim (cases_Bool (is_noted x known)) [
  | inl t ↦ absurd (l (ap (λ (l : List Variable). length l) (e ∙ ap (λ b. if b then known else known ++ x ∷ []) t)))
  | inr f ↦ record {
    more = free x.0 ∷ [];
    cells_are = d;
    known_are = ap frees (e ∙ ap (λ b. if b then known else known ++ x ∷ []) f) ∙ frees-append known (x ∷ []);
  }
]

pub puts_both : (old mid new : List Put) (known more after : List Variable) → PutsKnown old mid known more → PutsKnown mid new more after → PutsKnown old new known after
puts_both old mid new known more after p q = record {
  more = p.more ++ q.more;
  cells_are = q.cells_are ∙ ap (λ l. l ++ q.more) p.cells_are ∙ append_assoc old p.more q.more;
  known_are = q.known_are ∙ ap (λ l. l ++ q.more) p.known_are ∙ append_assoc (frees known) p.more q.more;
}

pub longer_none : (old new : Kept) → new.cells ≡ old.cells → new.bindings ≡ old.bindings → IsLonger old new
longer_none old new c b = record { cells = []; cells_are = c ∙ sym (append-nil old.cells); bindings_are = b }

pub longer_same : (old new : Kept) → new ≡ old → IsLonger old new
longer_same old new e = longer_none old new (ap (λ (k : Kept). k.cells) e) (ap (λ (k : Kept). k.bindings) e)

pub longer_one : (old new : Kept) (p : Put) → new.cells ≡ old.cells ++ p ∷ [] → new.bindings ≡ old.bindings → IsLonger old new
longer_one old new p c b = record { cells = p ∷ []; cells_are = c; bindings_are = b }

pub longer_both : (old mid new : Kept) → IsLonger old mid → IsLonger mid new → IsLonger old new
longer_both old mid new p q = record {
  cells = p.cells ++ q.cells;
  cells_are = q.cells_are ∙ ap (λ l. l ++ q.cells) p.cells_are ∙ append_assoc old.cells p.cells q.cells;
  bindings_are = q.bindings_are ∙ p.bindings_are;
}

-- a variable of a sort that is one constant
pub walks_constant : (sig : Signature) (known : List Variable) (t : Term) (s n c : ℕ) (stack : List Term) → t ≡ variable s n → only_constructor sig s ≡ Some c → WalksOn sig known known t stack stack
walks_constant sig known t s n c stack e o = record {
  more = [];
  stack = sym (append-nil stack);
  same = sym (ap (λ x. noted_all known (opens sig (variables x))) e ∙ ap (λ p. noted_all known (open_first p (s, n) [])) o);
  less = omega arith;
}

-- an open variable
pub walks_open : (sig : Signature) (known after : List Variable) (t : Term) (s n : ℕ) (stack : List Term) → t ≡ variable s n → only_constructor sig s ≡ None → after ≡ noted known (s, n)
    → WalksOn sig known after t stack stack
walks_open sig known after t s n stack e o d = record {
  more = [];
  stack = sym (append-nil stack);
  same = d ∙ sym (ap (λ x. noted_all known (opens sig (variables x))) e ∙ ap (λ p. noted_all known (open_first p (s, n) [])) o);
  less = omega arith;
}

-- a constructor with its arguments
pub walks_con : (sig : Signature) (known : List Variable) (t : Term) (c : ℕ) (args stack after : List Term) → t ≡ applied (symbol c) args → after ≡ stack ++ reverse args → WalksOn sig known known t stack after
walks_con sig known t c args stack after e d = record {
  more = reverse args;
  stack = d;
  same = ap (λ l. noted_all known (opens sig (variables_of l))) (reverse-reverse args)
      ∙ sym (ap (λ x. noted_all known (opens sig (variables x))) e ∙ ap (λ l. noted_all known (opens sig l)) (variables-applied (symbol c) args));
  less = let k = size-con t c args e in omega (arith, k, sizes-reverse args);
}

noted_rows : (sig : Signature) (known : List Variable) (xs ys : List Term)
    → noted_all known (opens sig (variables_of (xs ++ ys))) ≡ noted_all (noted_all known (opens sig (variables_of xs))) (opens sig (variables_of ys))
noted_rows sig known xs ys =
    ap (λ l. noted_all known (opens sig l)) (variables_of-append xs ys)
    ∙ ap (noted_all known) (opens-append sig (variables_of xs) (variables_of ys))
    ∙ noted_all-append known (opens sig (variables_of xs)) (opens sig (variables_of ys))

-- a term was taken from the stack and walked
pub walked : (sig : Signature) (known after : List Variable) (t : Term) (whole rest new : List Term) (final : List Variable) → whole ≡ rest ++ t ∷ [] → WalksOn sig known after t rest new
    → noted_all known (opens sig (variables_of (reverse whole))) ≡ final → noted_all after (opens sig (variables_of (reverse new))) ≡ final
walked sig known after t whole rest new final e w h =
    let o : List Term → List Variable = λ l. opens sig (variables_of l) in
    let split : reverse new ≡ reverse w.more ++ reverse rest = ap reverse w.stack ∙ reverse-append rest w.more in
    let top : reverse whole ≡ t ∷ reverse rest = ap reverse e ∙ reverse-append rest (t ∷ []) in
    ap (λ l. noted_all after (o l)) split
    ∙ noted_rows sig after (reverse w.more) (reverse rest)
    ∙ ap (λ k. noted_all k (o (reverse rest))) w.same
    ∙ sym (ap (noted_all known) (opens-append sig (variables t) (variables_of (reverse rest))) ∙ noted_all-append known (opens sig (variables t)) (o (reverse rest)))
    ∙ sym (ap (λ l. noted_all known (o l)) top) ∙ h

pub walked_less : (sig : Signature) (known after : List Variable) (t : Term) (whole rest new : List Term) → whole ≡ rest ++ t ∷ [] → WalksOn sig known after t rest new
    → sizes new < sizes whole
walked_less sig known after t whole rest new e w =
    let a : sizes whole ≡ sizes (rest ++ t ∷ []) = ap sizes e in
    let b : sizes new ≡ sizes (rest ++ w.more) = ap sizes w.stack in
    let l = w.less in
    omega (arith, a, b, l, sizes-append rest (t ∷ []), sizes-append rest w.more)

-- the stack at first has the whole row
pub walk_begins : (sig : Signature) (known : List Variable) (row stack empty : List Term) → stack ≡ empty ++ reverse row → empty ≡ []
    → noted_all known (opens sig (variables_of (reverse stack))) ≡ noted_all known (opens sig (variables_of row))
walk_begins sig known row stack empty e n =
    ap (λ l. noted_all known (opens sig (variables_of l))) (ap reverse (e ∙ ap (λ l. l ++ reverse row) n) ∙ reverse-reverse row)

-- and at last nothing
pub walk_ends : (sig : Signature) (known final : List Variable) (stack : List Term) → stack ≡ [] → noted_all known (opens sig (variables_of (reverse stack))) ≡ final → known ≡ final
walk_ends sig known final stack e h = sym (ap (λ l. noted_all known (opens sig (variables_of (reverse l)))) e) ∙ h

-- a term without variables
pub walks_closed : (sig : Signature) (known : List Variable) (term : Term) (stack : List Term) → above_of term ≡ 0 → WalksOn sig known known term stack stack
walks_closed sig known term stack e = record {
  more = [];
  stack = sym (append-nil stack);
  same = ap (λ l. noted_all known (opens sig l)) (sym (variables-closed term e));
  less = omega arith;
}
