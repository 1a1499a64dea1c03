-- Steps of numbering cells by what they read as.
use Rattle.std.proofs.Common.{◌≡◌, ◌↔◌, inl, inr, ℕ, ◌≤◌, ◌+◌, ◌==◌, IsTrue, reverse, length, Option, Some, None, List, [], ◌∷◌, ◌++◌, map, take, slice_get, get_or, ap, sym, ◌∙◌, subst, arith}
use Rattle.std.proofs.Math.ListN.{replicate}
use Rattle.std.proofs.lemmas.Bool.{eqb-true}
use Rattle.std.proofs.lemmas.Bool.Decides.{nat_tests}
use Rattle.std.proofs.lemmas.List.{take_all, map-append, length-replicate, get_or-replicate}
use Rattle.std.proofs.lemmas.Option.{slice_get_within, get_or_from_slice_get}
use Rattle.std.proofs.lemmas.List.Elements.{All-cons}
use Rattle.psg_terms.specs.Relations.{first, later}
use Rattle.psg_terms.specs.Terms.{Term, variable, symbol, applied}
use Rattle.psg_terms.specs.Signature.{Signature, only_constructor}
use Rattle.psg_terms.specs.Renaming.{written}
use Rattle.psg_pool.specs.declared.cells.CellId.{CellId}
use Rattle.psg_pool.specs.declared.cells.Cell.TheVariants.{Free, Bound, Con}
use Rattle.psg_pool.specs.Cells.{IsAmong, arguments_of}
use Rattle.psg_pool.specs.Bindings.{Kept, Holds}
use Rattle.psg_unify.specs.declared.walking.Item.{Item}
use Rattle.psg_unify.specs.declared.walking.Item.TheVariants.{Visit}
use Rattle.psg_unify.specs.Filling.{IsFilled, IsFilling}
use Rattle.psg_unify.proofs.ReadWalk.{filling_begins}
use Rattle.psg_unify.specs.declared.forms.Form.{Form}
use Rattle.psg_unify.specs.declared.forms.Numbers.{Numbers}
use Rattle.psg_unify.specs.Reading.{Reading}
use Rattle.psg_unify.specs.Numbering.{IsClearReading, open_form, symbol_form, apply_form, Makes, of_open, of_symbol, of_apply, AreOnce, IsFound, IsNumbered, StaysNumbered}
use Rattle.psg_unify.proofs.Rounds.{same_cell, take_next}
use Rattle.psg_unify.proofs.FormLaws.{IsOneMore, makes_grown, applied-last, one_term, one_number}

-- no cell is numbered yet
pub numbered_none : (forms : List Form) (cells : List (Option ℕ)) (count : ℕ) → forms ≡ [] → cells ≡ replicate count None
    → AreOnce forms × ((read : Reading) (id : CellId) (k : ℕ) → slice_get cells id.0 ≡ Some (Some k) → Makes forms k (read id))
numbered_none forms cells count e d = (
  λ i j form a b. absurd (none_in i form (sym (ap (λ l. slice_get l i) e) ∙ a)),
  λ read id k g. absurd (none_at id.0 k (sym (ap (λ l. slice_get l id.0) d) ∙ g)),
) where
  none_in : (i : ℕ) (form : Form) → slice_get [] i ≡ Some form → ⊥
  none_in i form h = cc

  none_at : (i k : ℕ) → slice_get (replicate {A = Option ℕ} count None) i ≡ Some (Some k) → ⊥
  none_at i k h =
      let within = slice_get_within (replicate {A = Option ℕ} count None) i (Some k) h in
      let is : get_or (replicate {A = Option ℕ} count None) i (Some k) ≡ None = get_or-replicate count i None (Some k) (omega (arith, within, length-replicate {A = Option ℕ} count None)) in
      let there : Some k ≡ None = sym (get_or_from_slice_get (replicate {A = Option ℕ} count None) i (Some k) (Some k) h) ∙ is in
      cc

-- two cells are to be visited
pub two_begin : (kept : Kept) (w : List (Option ℕ)) (a b : CellId) (stack : List Item) → stack ≡ reverse (map (λ (x : CellId). Visit x) (a ∷ b ∷ [])) → length w ≡ length kept.cells → IsAmong kept.cells a → IsAmong kept.cells b
    → IsFilling kept (a ∷ b ∷ []) w (reverse stack)
two_begin kept w a b stack e n p q =
    filling_begins kept (a ∷ b ∷ []) w stack e n (All-cons (IsAmong kept.cells) a (b ∷ []) p (All-cons (IsAmong kept.cells) b [] q (λ k d l. absurd (omega (arith, l)))))

-- and both are numbered
pub two_end : (kept : Kept) (w : List (Option ℕ)) (a b : CellId) → IsFilling kept (a ∷ b ∷ []) w [] → IsFilled w a × IsFilled w b × (length w ≡ length kept.cells)
two_end kept w a b f = (f.due a first, f.due b (later first), f.count)

module _ (sig : Signature) (kept : Kept) where
  pub stays_none : (now : Numbers) → StaysNumbered sig kept now now
  stays_none now read r i = i

  pub stays_both : (old mid new : Numbers) → StaysNumbered sig kept old mid → StaysNumbered sig kept mid new → StaysNumbered sig kept old new
  stays_both old mid new p q read r i = q read r (p read r i)

  -- a cell gets the number of what it reads as
  sets_number : (read : Reading) (old new : Numbers) (id : CellId) (number : ℕ) → AreOnce new.forms.keys → ((k : ℕ) (t : Term) → Makes old.forms.keys k t → Makes new.forms.keys k t)
      → IsOneMore old.cells.items new.cells.items id number → Makes new.forms.keys number (read id) → IsNumbered read old → IsNumbered read new
  sets_number read old new id number once grows more makes i = record {
    once = once;
    right = λ x k g. elim (more x.0 k g) [
      | inl o ↦ grows k (read x) (i.right x k o)
      | inr (e, n) ↦ subst (λ y. Makes new.forms.keys k (read y)) (sym (same_cell x id e)) (subst (λ j. Makes new.forms.keys j (read id)) (sym n) makes)
    ];
  }

  -- a form was found, and a cell got its number
  finds_number : (read : Reading) (old new : Numbers) (form : Form) (id : CellId) (number : ℕ) → IsFound old.forms.keys new.forms.keys form number
      → IsOneMore old.cells.items new.cells.items id number → Makes new.forms.keys number (read id) → IsNumbered read old → IsNumbered read new
  finds_number read old new form id number f more makes i =
      sets_number read old new id number (f.once i.once) (λ k t m. makes_grown old.forms.keys new.forms.keys form number k t f m) more makes i

  -- an open cell of a sort that is one constant
  pub numbers_constant : (old new : Numbers) (id : CellId) (s c number : ℕ) (form : Form) → Holds kept id (Free s) → only_constructor sig s ≡ Some c → form ≡ symbol_form c
      → IsFound old.forms.keys new.forms.keys form number → IsOneMore old.cells.items new.cells.items id number → StaysNumbered sig kept old new
  numbers_constant old new id s c number form h o e f more read r i =
      let is : read id ≡ symbol c = r.open_cell id s h.0 h.1 ∙ ap (λ p. written p (variable s (id.0 + 1))) o in
      finds_number read old new form id number f more
      (subst (Makes new.forms.keys number) (sym is) (of_symbol number c (f.here ∙ ap (λ (x : Form). Some x) e))) i

  -- another open cell
  pub numbers_open : (old new : Numbers) (id : CellId) (s number : ℕ) (form : Form) → Holds kept id (Free s) → only_constructor sig s ≡ None → form ≡ open_form s id.0
      → IsFound old.forms.keys new.forms.keys form number → IsOneMore old.cells.items new.cells.items id number → StaysNumbered sig kept old new
  numbers_open old new id s number form h o e f more read r i =
      let is : read id ≡ variable s (id.0 + 1) = r.open_cell id s h.0 h.1 ∙ ap (λ p. written p (variable s (id.0 + 1))) o in
      finds_number read old new form id number f more
      (subst (Makes new.forms.keys number) (sym is) (of_open number s id.0 (f.here ∙ ap (λ (x : Form). Some x) e))) i

  -- a bound cell has the number of its target
  pub numbers_bound : (old new : Numbers) (id to : CellId) (number : ℕ) → Holds kept id (Bound to) → new.forms ≡ old.forms → slice_get old.cells.items to.0 ≡ Some (Some number)
      → IsOneMore old.cells.items new.cells.items id number → StaysNumbered sig kept old new
  numbers_bound old new id to number h e at more read r i =
      sets_number read old new id number (subst (λ f. AreOnce f.keys) (sym e) i.once) (λ k t m. subst (λ f. Makes f.keys k t) (sym e) m) more
      (subst (λ f. Makes f.keys number (read id)) (sym e) (subst (Makes old.forms.keys number) (sym (r.bound_cell id to h.1)) (i.right to number at))) i

  -- a constructor cell, whose number was made
  pub numbers_made : (old mid new : Numbers) (id : CellId) (number : ℕ) → StaysNumbered sig kept old mid
      → ((read : Reading) → IsClearReading sig kept read → IsNumbered read old → Makes mid.forms.keys number (read id))
      → new.forms ≡ mid.forms → IsOneMore mid.cells.items new.cells.items id number → StaysNumbered sig kept old new
  numbers_made old mid new id number stays makes e more read r i =
      let j = stays read r i in
      sets_number read mid new id number (subst (λ f. AreOnce f.keys) (sym e) j.once) (λ k t m. subst (λ f. Makes f.keys k t) (sym e) m) more
      (subst (λ f. Makes f.keys number (read id)) (sym e) (makes read r i)) j

  -- The numbers are right, and the number is of the constructor over what the first arguments read as.
  abbrev pub IsMadeOf : Numbers → Numbers → CellId → ℕ → ℕ → ℕ → Type 0
  IsMadeOf old new id c k number = (read : Reading) → IsClearReading sig kept read → IsNumbered read old
      → IsNumbered read new × Makes new.forms.keys number (applied (symbol c) (map read (take k (arguments_of kept.cells id))))

  -- forms were found, and cells are as they were
  forms_found : (read : Reading) (old new : Numbers) (form : Form) (number : ℕ) → IsFound old.forms.keys new.forms.keys form number → new.cells ≡ old.cells → IsNumbered read old → IsNumbered read new
  forms_found read old new form number f e i = record {
    once = f.once i.once;
    right = λ id k g. makes_grown old.forms.keys new.forms.keys form number k (read id) f (i.right id k (subst (λ v. slice_get v.items id.0 ≡ Some (Some k)) e g));
  }

  pub made_none : (old new : Numbers) (id : CellId) (c number : ℕ) (form : Form) → form ≡ symbol_form c → IsFound old.forms.keys new.forms.keys form number → new.cells ≡ old.cells → IsMadeOf old new id c 0 number
  made_none old new id c number form e f d read r i = (
    forms_found read old new form number f d i,
    of_symbol number c (f.here ∙ ap (λ (x : Form). Some x) e),
  )

  pub made_next : (old mid new : Numbers) (id : CellId) (c k made argument number : ℕ) (a : CellId) (form : Form) → form ≡ apply_form made argument → IsFound mid.forms.keys new.forms.keys form number → new.cells ≡ mid.cells
      → slice_get (arguments_of kept.cells id) k ≡ Some a → slice_get mid.cells.items a.0 ≡ Some (Some argument) → IsMadeOf old mid id c k made → IsMadeOf old new id c (k + 1) number
  made_next old mid new id c k made argument number a form e f d at n m read r i =
      let (j, q) = m read r i in
      let args : List CellId = arguments_of kept.cells id in
      let terms : map read (take (k + 1) args) ≡ map read (take k args) ++ read a ∷ [] = ap (map read) (take_next args k a at) ∙ map-append read (take k args) (a ∷ []) in (
        forms_found read mid new form number f d j,
        subst (Makes new.forms.keys number) (sym (ap (applied (symbol c)) terms ∙ applied-last (symbol c) (map read (take k args)) (read a)))
            (of_apply number made argument (applied (symbol c) (map read (take k args))) (read a) (f.here ∙ ap (λ (x : Form). Some x) e)
            (makes_grown mid.forms.keys new.forms.keys form number made (applied (symbol c) (map read (take k args))) f q)
            (makes_grown mid.forms.keys new.forms.keys form number argument (read a) f (j.right a argument n))),
      )

  pub made_stays : (old new : Numbers) (id : CellId) (c k number : ℕ) → IsMadeOf old new id c k number → StaysNumbered sig kept old new
  made_stays old new id c k number m read r i = (m read r i).0

  pub made_whole : (old new : Numbers) (id : CellId) (c n k number : ℕ) → Holds kept id (Con c n) → n ≤ k → IsMadeOf old new id c k number
      → (read : Reading) → IsClearReading sig kept read → IsNumbered read old → Makes new.forms.keys number (read id)
  made_whole old new id c n k number h l m read r i =
      let args : List CellId = arguments_of kept.cells id in
      let whole : take k args ≡ args = take_all k args (omega (arith, l, h.1)) in
      subst (Makes new.forms.keys number) (ap (λ xs. applied (symbol c) (map read xs)) whole ∙ sym (r.con_cell id c args h.0)) (m read r i).1

  -- cells with numbers read alike exactly where the numbers are equal
  pub alike : (old new : Numbers) (a b : CellId) (m n : ℕ) → StaysNumbered sig kept old new
      → slice_get new.cells.items a.0 ≡ Some (Some m) → slice_get new.cells.items b.0 ≡ Some (Some n)
      → (read : Reading) → IsClearReading sig kept read → IsNumbered read old → IsTrue (m == n) ↔ (read a ≡ read b)
  alike old new a b m n stays p q read r i =
      let j = stays read r i in
      let x = j.right a m p in
      let y = j.right b n q in (
        λ h. one_term new.forms.keys n (read a) (read b) (subst (λ k. Makes new.forms.keys k (read a)) (eqb-true m n h) x) y,
        λ e. let same : m ≡ n = one_number new.forms.keys j.once (read a) (read b) m n x y e in grind (arith, nat_tests, same),
      )
