-- Steps of putting a row into a pool.
use Rattle.std.proofs.Common.{◌≡◌, inl, inr, ℕ, zero, suc, ◌≤◌, ◌+◌, true, Some, None, List, [], ◌∷◌, ◌++◌, reverse, map, length, take, drop, slice_get, All, refl, ap, ap₂, sym, ◌∙◌, subst, arith, length-append, append_assoc}
use Rattle.std.proofs.lemmas.Option.{slice_get_within}
use Rattle.std.proofs.lemmas.List.{reverse-append, reverse-reverse, length-reverse, map-append, length-map}
use Rattle.std.proofs.lemmas.List.Elements.{All-weaker, All-push, All-cons, All-head, All-tail}
use Rattle.psg_terms.specs.Terms.{Term, variable, symbol, applied}
use Rattle.psg_terms.specs.Signature.{Signature, HasSort, HaveSorts, only_constructor}
use Rattle.psg_terms.specs.Instances.{Substitution, substitute}
use Rattle.psg_terms.specs.Canonical.{Variable, is_noted}
use Rattle.psg_terms.specs.Renaming.{place, numbering, written}
use Rattle.psg_terms.specs.declared.sorts.ConId.{ConId}
use Rattle.psg_terms.proofs.Applied.{applied-substitute, applied-sorts}
use Rattle.psg_pool.specs.declared.cells.CellId.{CellId}
use Rattle.psg_pool.specs.Cells.{Put, free, constructor, IsAmong, arguments_of}
use Rattle.psg_pool.specs.Bindings.{Kept, target_of, IsSound}
use Rattle.psg_pool.proofs.Places.{slice_get-append, slice_get-append_last}
use Rattle.psg_pool.proofs.Laws.{new_not_bound}
use Rattle.psg_unify.specs.declared.making.Task.{Task}
use Rattle.psg_unify.specs.declared.making.Task.TheVariants.{Whole, Make}
use Rattle.psg_unify.specs.Reading.{Reading, IsReading}
use Rattle.psg_unify.specs.Fitting.{Fits, IsPutOf}
use Rattle.psg_unify.specs.Putting.{IsLonger}
use Rattle.psg_unify.specs.Making.{makes, IsMade, IsPutting}
use Rattle.psg_unify.proofs.Laws.{with_cells, read_by, has_reading, reading_before}
use Rattle.psg_unify.proofs.MadeCells.{arguments_either, fits_con, put_of_sorted}
use Rattle.psg_unify.proofs.VariablesPut.{longer_both, longer_one}

take_front : {X : Type 0} (n : ℕ) (xs ys : List X) → n ≡ length xs → take n (xs ++ ys) ≡ xs
take_front zero [] ys e = refl
take_front zero (x ∷ xs) ys e = absurd (omega (arith, e))
take_front (suc n) [] ys e = absurd (omega (arith, e))
take_front (suc n) (x ∷ xs) ys e = ap (λ l. x ∷ l) (take_front n xs ys (omega (arith, e)))

drop_front : {X : Type 0} (n : ℕ) (xs ys : List X) → n ≡ length xs → drop n (xs ++ ys) ≡ ys
drop_front zero [] ys e = refl
drop_front zero (x ∷ xs) ys e = absurd (omega (arith, e))
drop_front (suc n) [] ys e = absurd (omega (arith, e))
drop_front (suc n) (x ∷ xs) ys e = drop_front n xs ys (omega (arith, e))

rev_push : {X Y : Type 0} (f : X → Y) (xs after : List X) (x : X) → after ≡ xs ++ x ∷ [] → reverse (map f after) ≡ f x ∷ reverse (map f xs)
rev_push f xs after x e = ap (λ l. reverse (map f l)) e ∙ ap reverse (map-append f xs (x ∷ [])) ∙ reverse-append (map f xs) (f x ∷ [])

rev_both : {X Y : Type 0} (f : X → Y) (xs ys all : List X) → all ≡ xs ++ ys → reverse (map f all) ≡ reverse (map f ys) ++ reverse (map f xs)
rev_both f xs ys all e = ap (λ l. reverse (map f l)) e ∙ ap reverse (map-append f xs ys) ∙ reverse-append (map f xs) (map f ys)

all_parts : {X : Type 0} (P : X → Type 0) (xs ys : List X) → All P (xs ++ ys) → All P xs × All P ys
all_parts P [] ys h = (λ k d l. absurd (omega (arith, l)), h)
all_parts P (x ∷ xs) ys h =
    let rest = all_parts P xs ys (All-tail P x (xs ++ ys) h) in
    (All-cons P x xs (All-head P x (xs ++ ys) h) rest.0, rest.1)

all_front : {X : Type 0} (P : X → Type 0) (all xs ys : List X) → all ≡ xs ++ ys → All P all → All P xs
all_front P all xs ys e h = (all_parts P xs ys (subst (All P) e h)).0

all_back : {X : Type 0} (P : X → Type 0) (all xs ys : List X) → all ≡ xs ++ ys → All P all → All P ys
all_back P all xs ys e h = (all_parts P xs ys (subst (All P) e h)).1

among_more : (now new : Kept) (p : Put) → new.cells ≡ now.cells ++ p ∷ [] → (x : CellId) → IsAmong now.cells x → IsAmong new.cells x
among_more now new p e x l = let k = ap (λ (ps : List Put). length ps) e in omega (arith, k, l, length-append now.cells (p ∷ []))

-- terms that are to be put one behind the other
pub makes_whole : (f : Substitution) (args : List Term) (rest : List Task) (made : List Term)
    → makes f (map (λ (t : Term). Whole t) args ++ rest) made ≡ makes f rest (reverse (map (substitute f) args) ++ made)
makes_whole f [] rest made = refl
makes_whole f (x ∷ xs) rest made =
    let e : reverse (substitute f x ∷ map (substitute f) xs) ≡ reverse (map (substitute f) xs) ++ substitute f x ∷ [] = reverse-append (substitute f x ∷ []) (map (substitute f) xs) in
    makes_whole f xs rest (substitute f x ∷ made)
    ∙ ap (makes f rest) (sym (ap (λ l. l ++ made) e ∙ append_assoc (reverse (map (substitute f) xs)) (substitute f x ∷ []) made))

-- a constructor over what was made last
makes_make : (f : Substitution) (c : ConId) (n : ℕ) (rest : List Task) (args made : List Term) → n ≡ length args → makes f (Make c n ∷ rest) (reverse args ++ made) ≡ makes f rest (applied (symbol c.0) args ∷ made)
makes_make f c n rest args made e =
    let k : n ≡ length (reverse args) = e ∙ sym (length-reverse args) in
    ap₂ (λ t ts. makes f rest (applied (symbol c.0) t ∷ ts)) (ap reverse (take_front n (reverse args) made k) ∙ reverse-reverse args) (drop_front n (reverse args) made k)

-- a term of a constructor is its arguments and then the constructor
pub makes_con : (f : Substitution) (t : Term) (c : ConId) (args : List Term) (n : ℕ) (rest : List Task) (made : List Term) → t ≡ applied (symbol c.0) args → n ≡ length args
    → makes f (map (λ (t : Term). Whole t) args ++ Make c n ∷ rest) made ≡ makes f (Whole t ∷ rest) made
makes_con f t c args n rest made e l =
    makes_whole f args (Make c n ∷ rest) made
    ∙ makes_make f c n rest (map (substitute f) args) made (l ∙ sym (length-map args (substitute f)))
    ∙ ap (λ u. makes f rest (u ∷ made)) (sym (applied-substitute f (symbol c.0) args) ∙ ap (substitute f) (sym e))

-- each of the terms has a sort
abbrev pub AllSorted : Signature → List Term → Type 0
AllSorted sig [] = Unit {0}
AllSorted sig (t ∷ ts) = ((s : ℕ) × HasSort sig t s) × AllSorted sig ts

all_sorted : (sig : Signature) (ts : List Term) (ss : List ℕ) → HaveSorts sig ts ss → AllSorted sig ts
all_sorted sig [] [] h = tt
all_sorted sig [] (s ∷ ss) h = absurd h
all_sorted sig (t ∷ ts) [] h = absurd h
all_sorted sig (t ∷ ts) (s ∷ ss) (h, hs) = ((s, h), all_sorted sig ts ss hs)

sorted_both : (sig : Signature) (xs ys : List Term) → AllSorted sig xs → AllSorted sig ys → AllSorted sig (xs ++ ys)
sorted_both sig [] ys h k = k
sorted_both sig (x ∷ xs) ys (h, hs) k = (h, sorted_both sig xs ys hs k)

sorted_reverse : (sig : Signature) (xs : List Term) → AllSorted sig xs → AllSorted sig (reverse xs)
sorted_reverse sig [] h = tt
sorted_reverse sig (x ∷ xs) (h, hs) = subst (AllSorted sig) (sym (reverse-append (x ∷ []) xs)) (sorted_both sig (reverse xs) (x ∷ []) (sorted_reverse sig xs hs) (h, tt))

sorted_unreverse : (sig : Signature) (xs : List Term) → AllSorted sig (reverse xs) → AllSorted sig xs
sorted_unreverse sig xs h = subst (AllSorted sig) (reverse-reverse xs) (sorted_reverse sig (reverse xs) h)

sorted_take_drop : (sig : Signature) (n : ℕ) (xs : List Term) → AllSorted sig (take n xs) → AllSorted sig (drop n xs) → AllSorted sig xs
sorted_take_drop sig zero xs h k = k
sorted_take_drop sig (suc n) [] h k = tt
sorted_take_drop sig (suc n) (x ∷ xs) (h, hs) k = (h, sorted_take_drop sig n xs hs k)

sorted_arguments : (sig : Signature) (c : ℕ) (args : List Term) (s : ℕ) → HasSort sig (applied (symbol c) args) s → AllSorted sig args
sorted_arguments sig c args s h = let k = applied-sorts sig (symbol c) args [] s h in all_sorted sig args k.0 k.2

-- where what is made has sorts, what was made before has some
pub made_sorted : (sig : Signature) (f : Substitution) (tasks : List Task) (made : List Term) → AllSorted sig (makes f tasks made) → AllSorted sig made
made_sorted sig f [] made h = h
made_sorted sig f (Whole t ∷ rest) made h = (made_sorted sig f rest (substitute f t ∷ made) h).1
made_sorted sig f (Make c n ∷ rest) made h =
    let k = made_sorted sig f rest (applied (symbol c.0) (reverse (take n made)) ∷ drop n made) h in
    sorted_take_drop sig n made (sorted_unreverse sig (take n made) (sorted_arguments sig c.0 (reverse (take n made)) k.0.0 k.0.1)) k.1

module _ (sig : Signature) (old : Kept) (known : List Variable) (row : List Term) where
  abbrev numbers : Substitution
  numbers = numbering sig (length old.cells) known

  -- a variable whose cell is there
  pub put_open : (now : Kept) (rest : List Task) (cells after : List CellId) (t : Term) (s n : ℕ) (id : CellId) → IsSound old → t ≡ variable s n → only_constructor sig s ≡ None
      → is_noted (s, n) known ≡ true → id.0 ≡ length old.cells + place (s, n) known → after ≡ cells ++ id ∷ [] → IsPutting sig old known row now (Whole t ∷ rest) cells → IsPutting sig old known row now rest after
  put_open now rest cells after t s n id sound e o i at d p =
      let here : slice_get now.cells id.0 ≡ Some (free s) = ap (slice_get now.cells) at ∙ p.open_cells (s, n) i in
      let past : length old.cells ≤ id.0 = omega (arith, at) in
      let unbound : target_of now.bindings id ≡ None = ap (λ b. target_of b id) p.longer.bindings_are ∙ new_not_bound old id sound past in
      record {
        fits = p.fits;
        sound = p.sound;
        longer = p.longer;
        among = subst (All (IsAmong now.cells)) (sym d) (All-push (IsAmong now.cells) cells id p.among (slice_get_within now.cells id.0 (free s) here));
        beyond = subst (All (λ (x : CellId). length old.cells ≤ x.0)) (sym d) (All-push (λ (x : CellId). length old.cells ≤ x.0) cells id p.beyond past);
        apart = p.apart;
        open_cells = p.open_cells;
        terms = p.terms;
        made = λ read r.
            let is : read id ≡ substitute numbers t =
            r.open_cell id s here unbound
            ∙ ap (λ k. variable s (k + 1)) at
            ∙ sym (ap (substitute numbers) e ∙ ap (λ q. written q (variable s (length old.cells + place (s, n) known + 1))) o) in
            ap (makes numbers rest) (rev_push read cells after id d ∙ ap (λ u. u ∷ reverse (map read cells)) is) ∙ p.made read r;
      }

  -- the same cells, for tasks that make the same
  other_tasks : (now : Kept) (tasks others : List Task) (cells : List CellId) → ((made : List Term) → makes numbers others made ≡ makes numbers tasks made)
      → IsPutting sig old known row now tasks cells → IsPutting sig old known row now others cells
  other_tasks now tasks others cells h p = record {
    fits = p.fits;
    sound = p.sound;
    longer = p.longer;
    among = p.among;
    beyond = p.beyond;
    apart = p.apart;
    open_cells = p.open_cells;
    terms = p.terms;
    made = λ read r. h (reverse (map read cells)) ∙ p.made read r;
  }

  -- a variable of a sort that is one constant
  pub put_constant : (now : Kept) (rest : List Task) (cells : List CellId) (t : Term) (s n : ℕ) (c : ConId) → t ≡ variable s n → only_constructor sig s ≡ Some c.0
      → IsPutting sig old known row now (Whole t ∷ rest) cells → IsPutting sig old known row now (Make c 0 ∷ rest) cells
  put_constant now rest cells t s n c e o p =
      other_tasks now (Whole t ∷ rest) (Make c 0 ∷ rest) cells
      (λ made. ap (λ u. makes numbers rest (u ∷ made)) (sym (ap (substitute numbers) e ∙ ap (λ q. written q (variable s (length old.cells + place (s, n) known + 1))) o))) p

  -- a constructor with arguments
  pub put_arguments : (now : Kept) (rest : List Task) (cells : List CellId) (t : Term) (c : ConId) (args : List Term) (n : ℕ) → t ≡ applied (symbol c.0) args → n ≡ length args
      → IsPutting sig old known row now (Whole t ∷ rest) cells → IsPutting sig old known row now (map (λ (t : Term). Whole t) args ++ Make c n ∷ rest) cells
  put_arguments now rest cells t c args n e l p =
      other_tasks now (Whole t ∷ rest) (map (λ (t : Term). Whole t) args ++ Make c n ∷ rest) cells (λ made. makes_con numbers t c args n rest made e l) p

  longer_length : (now : Kept) → IsLonger old now → length old.cells ≤ length now.cells
  longer_length now l = let e = ap (λ (ps : List Put). length ps) l.cells_are in omega (arith, e, length-append old.cells l.cells)

  -- the constructor over the cells that were made last fits
  own_put : (now : Kept) (c : ConId) (n : ℕ) (rest : List Task) (cells front args : List CellId) → cells ≡ front ++ args → length args ≡ n → All (IsAmong now.cells) args
      → IsPutting sig old known row now (Make c n ∷ rest) cells → IsPutOf sig now.cells (constructor c.0 args)
  own_put now c n rest cells front args e l among p =
      let read : Reading = read_by now p.fits.height p.fits.falls in
      let r : IsReading now read = has_reading now p.fits.height p.fits.falls p.sound in
      let whole : AllSorted sig (makes numbers (Make c n ∷ rest) (reverse (map read cells))) =
      subst (AllSorted sig) (sym (p.made read r)) (sorted_reverse sig (map (substitute numbers) row) (all_sorted sig (map (substitute numbers) row) p.terms.0 p.terms.1)) in
      let is : makes numbers (Make c n ∷ rest) (reverse (map read cells)) ≡ makes numbers rest (applied (symbol c.0) (map read args) ∷ reverse (map read front)) =
      ap (makes numbers (Make c n ∷ rest)) (rev_both read front args cells e)
      ∙ makes_make numbers c n rest (map read args) (reverse (map read front)) (sym l ∙ sym (length-map args read)) in
      let k = made_sorted sig numbers rest (applied (symbol c.0) (map read args) ∷ reverse (map read front)) (subst (AllSorted sig) is whole) in
      put_of_sorted sig now p.sound p.fits read r c.0 args k.0.0 among k.0.1

  -- a constructor cell over the cells that were made last
  pub put_made : (now new : Kept) (c : ConId) (n : ℕ) (rest : List Task) (cells after : List CellId) → IsSound new → IsMade now new cells after c.0 n
      → IsPutting sig old known row now (Make c n ∷ rest) cells → IsPutting sig old known row new rest after
  put_made now new c n rest cells after sound m p =
      let args_among : All (IsAmong now.cells) m.args = all_back (IsAmong now.cells) cells m.front m.args m.split p.among in
      let front_among : All (IsAmong now.cells) m.front = all_front (IsAmong now.cells) cells m.front m.args m.split p.among in
      let grown : new ≡ with_cells now (now.cells ++ constructor c.0 m.args ∷ []) = ap₂ (λ x y. record { cells = x; bindings = y }) m.cells_are m.bindings_are in
      let past : length old.cells ≤ m.id.0 = let e = m.id_is in let l = longer_length now p.longer in omega (arith, e, l) in
      record {
        fits = subst (Fits sig) (sym grown) (fits_con sig now c.0 m.args p.sound p.fits (own_put now c n rest cells m.front m.args m.split m.count args_among p) args_among);
        sound = sound;
        longer = longer_both old now new p.longer (longer_one now new (constructor c.0 m.args) m.cells_are m.bindings_are);
        among = subst (All (IsAmong new.cells)) (sym m.after_is)
            (All-push (IsAmong new.cells) m.front m.id
            (All-weaker (IsAmong now.cells) (IsAmong new.cells) (λ x l. among_more now new (constructor c.0 m.args) m.cells_are x l) m.front front_among)
            (let k = ap (λ (l : List Put). length l) m.cells_are in let e = m.id_is in omega (arith, k, e, length-append now.cells (constructor c.0 m.args ∷ []))));
        beyond = subst (All (λ (x : CellId). length old.cells ≤ x.0)) (sym m.after_is)
            (All-push (λ (x : CellId). length old.cells ≤ x.0) m.front m.id (all_front (λ (x : CellId). length old.cells ≤ x.0) cells m.front m.args m.split p.beyond) past);
        apart = λ id l. subst (λ ps. All (λ (a : CellId). length old.cells ≤ a.0) (arguments_of ps id)) (sym m.cells_are)
            (elim (arguments_either now.cells (constructor c.0 m.args) id.0) [
              | inl h ↦ subst (All (λ (a : CellId). length old.cells ≤ a.0)) (sym h.1) (all_back (λ (x : CellId). length old.cells ≤ x.0) cells m.front m.args m.split p.beyond)
              | inr h ↦ subst (All (λ (a : CellId). length old.cells ≤ a.0)) (sym h) (p.apart id l)
            ]);
        open_cells = λ x i. ap (λ ps. slice_get ps (length old.cells + place x known)) m.cells_are ∙ slice_get-append now.cells (constructor c.0 m.args ∷ []) (length old.cells + place x known) (free x.0) (p.open_cells x i);
        terms = p.terms;
        made = λ read r.
            let older : IsReading now read = reading_before now (constructor c.0 m.args ∷ []) read (subst (λ k. IsReading k read) grown r) in
            let is : read m.id ≡ applied (symbol c.0) (map read m.args) =
            r.con_cell m.id c.0 m.args (ap (λ ps. slice_get ps m.id.0) m.cells_are ∙ slice_get-append_last now.cells (constructor c.0 m.args) m.id.0 m.id_is) in
            ap (makes numbers rest) (rev_push read m.front after m.id m.after_is ∙ ap (λ u. u ∷ reverse (map read m.front)) is)
            ∙ sym (makes_make numbers c n rest (map read m.args) (reverse (map read m.front)) (sym m.count ∙ sym (length-map m.args read)))
            ∙ ap (makes numbers (Make c n ∷ rest)) (sym (rev_both read m.front m.args cells m.split))
            ∙ p.made read older;
      }
