-- How a candidate's summary goes on over a rung.
use Rattle.std.proofs.Common.{◌≡◌, ℕ, zero, suc, ◌<◌, Bool, true, false, List, [], ◌∷◌, ◌++◌, get_or, length, Option, Some, slice_get, refl, ap, sym, ◌∙◌, subst, arith}
use Rattle.psg_terms.proofs.Lists.{each_in}
use Rattle.std.specs.List.{AllByRecursion}
use Rattle.std.specs.Prelude.{IfOk, Result, Ok, Err}
use Rattle.psg_terms.specs.Names.{Name}
use Rattle.psg_terms.specs.Relations.{IsIn, first, later}
use Rattle.psg_grammar.specs.declared.types.Kind.{Kind}
use Rattle.psg_grammar.specs.declared.types.Definition.{Definition}
use Rattle.psg_eval.specs.declared.question.FocusFault.{FocusFault}
use Rattle.psg_eval.specs.declared.question.FocusFault.TheVariants as questions
use Rattle.psg_eval.specs.declared.summary.EvalFault.{EvalFault}
use Rattle.psg_eval.specs.declared.summary.EvalFault.TheVariants as faults
use Rattle.psg_eval.specs.declared.summary.SummaryParts.{SummaryParts}
use Rattle.psg_eval.specs.Questions.{IsAsked}
use Rattle.psg_eval.specs.Renamed.{IsRenamed}
use Rattle.psg_menu.specs.declared.entries.Entry.{Entry}
use Rattle.psg_menu.specs.declared.entries.Move.{Move}
use Rattle.psg_scope.specs.declared.header.Header.{Header}
use Rattle.psg_eval.specs.Summaries.{IsSummary}
use Rattle.psg_menu.specs.Sharing.{Rise, CanRise, GoesOn, straight, parting, IsMove, IsPut, IsRaised, IsRaisedFrom, IsUsual, TakesRise, has_key, meets}
use Rattle.psg_menu.proofs.TrialLaws.{asked_if, asked_ok, asked_wide}

pub same_entry : (xs : List Entry) (i : ℕ) (x y : Entry) → slice_get xs i ≡ Some x → y ≡ get_or xs i y → y ≡ x
same_entry [] i x y e d = absurd (cc)
same_entry (z ∷ xs) zero x y e d =
    let a : z ≡ x = cc in
    d ∙ a
same_entry (z ∷ xs) (suc i) x y e d = same_entry xs i x y e d

pub entry_got : (xs : List Entry) (i : ℕ) (y : Entry) → i < length xs → y ≡ get_or xs i y → slice_get xs i ≡ Some y
entry_got [] i y l d = absurd (omega (arith, l))
entry_got (z ∷ xs) zero y l d = ap Some (sym d)
entry_got (z ∷ xs) (suc i) y l d = entry_got xs i y (omega (arith, l)) d

-- an entry of a list in which each is usual
pub entry_at : (P : Entry → Type 0) (xs : List Entry) (i : ℕ) (y : Entry) → AllByRecursion P xs → i < length xs → y ≡ get_or xs i y → P y
entry_at P [] i y h l d = absurd (omega (arith, l))
entry_at P (z ∷ xs) zero y h l d = subst P (sym d) h.0
entry_at P (z ∷ xs) (suc i) y h l d = entry_at P xs i y h.1 (omega (arith, l)) d

-- the move that was read
pub move_got : (moves ms : List Move) (i from : ℕ) (d : Move) → ms ≡ moves → i < length ms → (get_or ms i d).from ≡ from → (m : Move) × IsIn m moves × (m.from ≡ from) × (m.to ≡ (get_or ms i d).to)
move_got moves ms i from d same l e = subst (λ xs. (m : Move) × IsIn m xs × (m.from ≡ from) × (m.to ≡ (get_or ms i d).to)) same (found ms i l e) where
  found : (xs : List Move) (k : ℕ) → k < length xs → (get_or xs k d).from ≡ from → (m : Move) × IsIn m xs × (m.from ≡ from) × (m.to ≡ (get_or xs k d).to)
  found [] k l e = absurd (omega (arith, l))
  found (m ∷ xs) zero l e = (m, first, e, refl)
  found (m ∷ xs) (suc k) l e =
      let (x, there, a, b) = found xs k (omega (arith, l)) e in
      (x, later there, a, b)

-- no key has the name
pub key_free : (h : Header) (own : SummaryParts) (n : Name) (b : Bool) → h ≡ own.header → b ≡ has_key h n → b ≡ false → has_key own.header n ≡ false
key_free h own n b e r f = ap (λ x. has_key x n) (sym e) ∙ sym r ∙ f

-- a summary under another name is as usual as the old one
pub renamed_usual : (def : Definition) (kind : Kind) (star n : Name) (old own : SummaryParts) → IsUsual def kind old → IsRenamed def star n old own → IsSummary def own → IsUsual def kind own
renamed_usual def kind star n old own u r s = record { usual = s; of_kind = r.kind ∙ u.of_kind; silent = r.seen ∙ u.silent }

module _ (def : Definition) (rise : Rise) where
  -- ---- one summary

  pub raised_usual : (kind up : Kind) (own next : SummaryParts) (made : Result SummaryParts EvalFault) → CanRise def rise kind up → IsUsual def kind own → IfOk made (IsSummary def)
      → IfOk made (λ (s : SummaryParts). (above : Kind) → TakesRise def rise own above → s.kind ≡ above) → IfOk made (λ (s : SummaryParts). s.seen ≡ own.seen) → IsAsked made (Ok next) → IsUsual def up next
  raised_usual kind up own next made can u summary kinds seen asked = record {
    usual = asked_if made next (IsSummary def) summary asked;
    of_kind = asked_if made next (λ (s : SummaryParts). (above : Kind) → TakesRise def rise own above → s.kind ≡ above) kinds asked up (can own u.usual u.of_kind);
    silent = asked_if made next (λ (s : SummaryParts). s.seen ≡ own.seen) seen asked ∙ u.silent;
  }

  pub put_ok : (own next : SummaryParts) (shared : Bool) (above : List Entry) (to : ℕ) (made : Result SummaryParts EvalFault) → IsRaised def rise own made → IsAsked made (Ok next)
      → slice_get above to ≡ Some (record { own = next; shared = shared }) → IsPut def rise own shared above (Ok to)
  put_ok own next shared above to made raised asked at =
      (record { own = next; shared = shared }, at, refl, asked_ok made next (λ r. IsRaised def rise own r) raised asked)

  pub put_fault : (own : SummaryParts) (shared : Bool) (above : List Entry) (fault : FocusFault) (made : Result SummaryParts EvalFault) → IsRaised def rise own made → IsAsked made (Err fault)
      → IsPut def rise own shared above (Err fault)
  put_fault own shared above questions.Memory made raised asked = tt
  put_fault own shared above questions.Wide made raised asked = asked_wide made (λ r. IsRaised def rise own r) raised asked

  -- ---- one candidate

  module _ (star n : Name) (old : Entry) where
    pub part_put : (own : SummaryParts) (above : List Entry) (result : Result ℕ FocusFault) → old.shared ≡ true → has_key old.own.header n ≡ false → IsRenamed def star n old.own own
        → IsPut def rise own false above result → IsRaisedFrom def rise star n old above result
    part_put own above (Ok to) shared fresh made (b, at, same, raised) =
        (b, at, subst (λ x. GoesOn def rise star n old x (Ok b.own)) (sym same) (parting own (Ok b.own) shared fresh made raised))
    part_put own above (Err questions.Wide) shared fresh made (step, raised) = (false, step, parting own (Err (faults.Wide step)) shared fresh made raised)
    part_put own above (Err questions.Memory) shared fresh made h = tt

    pub straight_put : (above : List Entry) (result : Result ℕ FocusFault) → (old.shared ≡ true → (meets rise n ≡ false) × (meets rise star ≡ false))
        → IsPut def rise old.own old.shared above result → IsRaisedFrom def rise star n old above result
    straight_put above (Ok to) unmet (b, at, same, raised) =
        (b, at, subst (λ x. GoesOn def rise star n old x (Ok b.own)) (sym same) (straight (Ok b.own) unmet raised))
    straight_put above (Err questions.Wide) unmet (step, raised) = (old.shared, step, straight (Err (faults.Wide step)) unmet raised)
    straight_put above (Err questions.Memory) unmet h = tt

    pub move_put : (below above : List Entry) (moves : List Move) (place to : ℕ) → slice_get below place ≡ Some old → AllByRecursion (IsMove def rise below above) moves
        → (m : Move) × IsIn m moves × (m.from ≡ place) × (m.to ≡ to) → (old.shared ≡ true → (meets rise n ≡ false) × (meets rise star ≡ false))
        → IsRaisedFrom def rise star n old above (Ok to)
    move_put below above moves place to here all (m, i, from, goal) unmet =
        let (a, b, low, high, same, raised) = each_in (IsMove def rise below above) m moves all i in
        let at : slice_get below place ≡ Some a = subst (λ k. slice_get below k ≡ Some a) from low in
        let e : a ≡ old = same_some a old (sym at ∙ here) in
        straight_put above (Ok to) unmet
        (b, subst (λ k. slice_get above k ≡ Some b) goal high, same ∙ ap (λ (x : Entry). x.shared) e, subst (λ (x : Entry). IsRaised def rise x.own (Ok b.own)) e raised) where
          same_some : (x y : Entry) → ◌≡◌ {A = Option Entry} (Some x) (Some y) → x ≡ y
          same_some x y e = cc

  -- ---- the candidate with the entry at the place

  module _ (star n : Name) (below : List Entry) (place : ℕ) (e : Entry) (at : e ≡ get_or below place e) where
    -- what is said of the entry that was read
    at_place : (above : List Entry) (result : Result ℕ FocusFault) → IsRaisedFrom def rise star n e above result → (old : Entry) → slice_get below place ≡ Some old
        → IsRaisedFrom def rise star n old above result
    at_place above result h old here = subst (λ (x : Entry). IsRaisedFrom def rise star n x above result) (same_entry below place old e here at) h

    pub part_at : (own : SummaryParts) (above : List Entry) (result : Result ℕ FocusFault) → e.shared ≡ true → has_key e.own.header n ≡ false → IsRenamed def star n e.own own
        → IsPut def rise own false above result → (old : Entry) → slice_get below place ≡ Some old → IsRaisedFrom def rise star n old above result
    part_at own above result shared fresh made put = at_place above result (part_put star n e own above result shared fresh made put)

    pub straight_at : (above : List Entry) (result : Result ℕ FocusFault) → (e.shared ≡ true → (meets rise n ≡ false) × (meets rise star ≡ false))
        → IsPut def rise e.own e.shared above result → (old : Entry) → slice_get below place ≡ Some old → IsRaisedFrom def rise star n old above result
    straight_at above result unmet put = at_place above result (straight_put star n e above result unmet put)

    pub move_at : (above : List Entry) (moves : List Move) (to : ℕ) → place < length below → AllByRecursion (IsMove def rise below above) moves
        → (m : Move) × IsIn m moves × (m.from ≡ place) × (m.to ≡ to) → (e.shared ≡ true → (meets rise n ≡ false) × (meets rise star ≡ false))
        → (old : Entry) → slice_get below place ≡ Some old → IsRaisedFrom def rise star n old above (Ok to)
    move_at above moves to within all goal unmet = at_place above (Ok to) (move_put star n e below above moves place to (entry_got below place e within at) all goal unmet)

  -- ---- the moves

  pub moves_grow : (below old new : List Entry) (moves : List Move) → ((k : ℕ) (e : Entry) → slice_get old k ≡ Some e → slice_get new k ≡ Some e)
      → AllByRecursion (IsMove def rise below old) moves → AllByRecursion (IsMove def rise below new) moves
  moves_grow below old new [] grows h = tt
  moves_grow below old new (m ∷ moves) grows ((a, b, low, high, same, raised), h) = ((a, b, low, grows m.to b high, same, raised), moves_grow below old new moves grows h)

  pub moves_more : (below above : List Entry) (moves grown : List Move) (m : Move) → AllByRecursion (IsMove def rise below above) moves → grown ≡ moves ++ m ∷ [] → IsMove def rise below above m
      → AllByRecursion (IsMove def rise below above) grown
  moves_more below above moves grown m all e one = subst (AllByRecursion (IsMove def rise below above)) (sym e) (push moves all) where
    push : (ms : List Move) → AllByRecursion (IsMove def rise below above) ms → AllByRecursion (IsMove def rise below above) (ms ++ m ∷ [])
    push [] h = (one, tt)
    push (x ∷ ms) h = (h.0, push ms h.1)

  pub new_move : (below above : List Entry) (place to : ℕ) (old : Entry) → slice_get below place ≡ Some old → IsPut def rise old.own old.shared above (Ok to)
      → IsMove def rise below above (record { from = place; to = to })
  new_move below above place to old here (b, at, same, raised) = (old, b, here, at, same, raised)
