-- The summaries of new trees, one after the other.
use Rattle.std.proofs.Common.{◌≡◌, ℕ, zero, suc, ◌+◌, ◌<◌, List, [], ◌∷◌, ◌++◌, take, get_or, length, Some, slice_get, refl, ap, sym, ◌∙◌, subst, arith}
use Rattle.std.specs.List.{AllByRecursion}
use Rattle.std.proofs.lemmas.Option.{get_or_from_slice_get}
use Rattle.psg_terms.proofs.Lists.{take_item}
use Rattle.std.specs.Prelude.{IfOk, Result, Ok, Err}
use Rattle.psg_relation.proofs.Members.{in-at}
use Rattle.psg_grammar.specs.declared.types.Kind.{Kind}
use Rattle.psg_grammar.specs.declared.types.Item.{Item}
use Rattle.psg_grammar.specs.declared.types.Item.TheVariants as items
use Rattle.psg_grammar.specs.declared.types.ListKind.{ListKind}
use Rattle.psg_grammar.specs.declared.types.Definition.{Definition}
use Rattle.psg_grammar.specs.Fragments.{ending}
use Rattle.psg_grammar.specs.Insertion.{blank, may_be_unfinished}
use Rattle.psg_grammar.specs.Kinds.{HasKind}
use Rattle.psg_grammar.specs.WellFormed.{IsListEnd}
use Rattle.psg_eval.specs.declared.question.FocusFault.{FocusFault}
use Rattle.psg_eval.specs.declared.question.FocusFault.TheVariants as questions
use Rattle.psg_eval.specs.declared.summary.EvalFault.{EvalFault}
use Rattle.psg_eval.specs.declared.summary.SummaryParts.{SummaryParts}
use Rattle.psg_eval.specs.Questions.{IsAsked}
use Rattle.psg_eval.specs.Summaries.{Answers, IsSummary, slot_kinds}
use Rattle.psg_menu.specs.Trials.{AreBlanks, IsBlank, IsBlanksAnswer}
use Rattle.psg_menu.proofs.TrialLaws.{asked_if, asked_ok, asked_wide}

pub fixed : (xs : List ℕ) (i : ℕ) → i < length xs → get_or xs i 0 ≡ get_or xs i (get_or xs i 0)
fixed xs i l = get_or_same xs i 0 (get_or xs i 0) l where
  get_or_same : (ys : List ℕ) (j a b : ℕ) → j < length ys → get_or ys j a ≡ get_or ys j b
  get_or_same [] j a b h = absurd (omega (arith, h))
  get_or_same (y ∷ ys) zero a b h = refl
  get_or_same (y ∷ ys) (suc j) a b h = get_or_same ys j a b (omega (arith, h))

pub read_kind : (all : List Kind) (i : ℕ) (k : Kind) → slice_get all i ≡ Some k → k ≡ get_or all i k
read_kind all i k found = sym (get_or_from_slice_get all i k k found)

module _ (def : Definition) where
  -- ---- the end of a new list

  pub new_end : (l : ℕ) (own kind : ListKind) → slice_get def.lists l ≡ Some own → kind ≡ own → IsListEnd def l kind.unfinished
  new_end l own kind found same = (own, found, λ e. ap (λ (k : ListKind). k.unfinished) (sym same) ∙ e)

  pub new_answer : (l : ℕ) (own kind : ListKind) (made : Result SummaryParts EvalFault) → slice_get def.lists l ≡ Some own → kind ≡ own → Answers def (ending l kind.unfinished) made
      → Answers def (ending l (may_be_unfinished (slice_get def.lists l))) made
  new_answer l own kind made found same h =
      subst (λ u. Answers def (ending l u) made) (ap (λ (k : ListKind). k.unfinished) same ∙ sym (ap may_be_unfinished found)) h

  -- ---- the kinds of slots

  slots_push : (xs : List Item) (x : Item) → slot_kinds def (xs ++ x ∷ []) ≡ slot_kinds def xs ++ slot_kinds def (x ∷ [])
  slots_push [] x = refl
  slots_push (items.Slot k ∷ xs) x = ap (λ ks. k ∷ ks) (slots_push xs x)
  slots_push (items.Refers s ∷ xs) x = slots_push xs x
  slots_push (items.Declares s ∷ xs) x = slots_push xs x
  slots_push (items.Number ∷ xs) x = slots_push xs x
  slots_push (items.Text ∷ xs) x = slots_push xs x
  slots_push (items.Word w ∷ xs) x = slots_push xs x
  slots_push (items.Space ∷ xs) x = slots_push xs x
  slots_push (items.Tight ∷ xs) x = slots_push xs x
  slots_push (items.Line ∷ xs) x = slots_push xs x
  slots_push (items.In ∷ xs) x = slots_push xs x
  slots_push (items.Out ∷ xs) x = slots_push xs x

  pub slots_next : (all : List Item) (i : ℕ) (x : Item) → i < length all → x ≡ get_or all i x
      → slot_kinds def (take (i + 1) all) ≡ slot_kinds def (take i all) ++ slot_kinds def (x ∷ [])
  slots_next all i x l at = ap (slot_kinds def) (take_item all i x l at) ∙ slots_push (take i all) x

  -- ---- one more blank

  pub blank_of : (k : Kind) (s : SummaryParts) (made : Result SummaryParts EvalFault) → Answers def (blank def k) made → IfOk made (IsSummary def) → IsAsked made (Ok s) → IsBlank def k s
  blank_of k s made answer usual asked =
      let (is, stays) = asked_ok made s (Answers def (blank def k)) answer asked in
      record { of = is; within = stays; usual = asked_if made s (IsSummary def) usual asked }

  blanks_push : (ks : List Kind) (k : Kind) (ss : List SummaryParts) (s : SummaryParts) → AreBlanks def ks ss → IsBlank def k s → AreBlanks def (ks ++ k ∷ []) (ss ++ s ∷ [])
  blanks_push [] k [] s h one = (one, tt)
  blanks_push [] k (t ∷ ss) s h one = absurd h
  blanks_push (j ∷ ks) k [] s h one = absurd h
  blanks_push (j ∷ ks) k (t ∷ ss) s (here, more) one = (here, blanks_push ks k ss s more one)

  pub blanks_next : (all : List Kind) (i : ℕ) (k : Kind) (ss new : List SummaryParts) (s : SummaryParts) → i < length all → k ≡ get_or all i k → AreBlanks def (take i all) ss → new ≡ ss ++ s ∷ [] → IsBlank def k s
      → AreBlanks def (take (i + 1) all) new
  blanks_next all i k ss new s l at h grown one =
      subst (λ ks. AreBlanks def ks new) (sym (take_item all i k l at)) (subst (AreBlanks def (take i all ++ k ∷ [])) (sym grown) (blanks_push (take i all) k ss s h one))

  take_all : {X : Type 0} (xs : List X) (i : ℕ) → i ≡ length xs → take i xs ≡ xs
  take_all [] zero e = refl
  take_all [] (suc i) e = absurd (omega (arith, e))
  take_all (x ∷ xs) zero e = absurd (omega (arith, e))
  take_all (x ∷ xs) (suc i) e = ap (λ ys. x ∷ ys) (take_all xs i (omega (arith, e)))

  pub blanks_whole : (all : List Kind) (i : ℕ) (ss : List SummaryParts) → i ≡ length all → AreBlanks def (take i all) ss → AreBlanks def all ss
  blanks_whole all i ss e h = subst (λ ks. AreBlanks def ks ss) (take_all all i e) h

  pub slots_whole : (all : List Item) (i : ℕ) (ks : List Kind) → i ≡ length all → ks ≡ slot_kinds def (take i all) → ks ≡ slot_kinds def all
  slots_whole all i ks e h = h ∙ ap (slot_kinds def) (take_all all i e)

  pub blank_fault : (all : List Kind) (k : Kind) (i : ℕ) (made : Result SummaryParts EvalFault) (fault : FocusFault) → i < length all → k ≡ get_or all i k → Answers def (blank def k) made
      → IsAsked made (Err fault) → IsBlanksAnswer def all (Err fault)
  blank_fault all k i made questions.Memory l at answer asked = tt
  blank_fault all k i made questions.Wide l at answer asked =
      let (step, h) = asked_wide made (Answers def (blank def k)) answer asked in
      (k, in-at k all i l at, step, h)

  pub kind_at : (all : List Kind) (k : Kind) (i : ℕ) → AllByRecursion (HasKind def) all → i < length all → k ≡ get_or all i k → HasKind def k
  kind_at [] k i h l at = absurd (omega (arith, l))
  kind_at (j ∷ all) k zero h l at = subst (HasKind def) (sym at) h.0
  kind_at (j ∷ all) k (suc i) h l at = kind_at all k i h.1 (omega (arith, l)) at
