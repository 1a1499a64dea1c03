-- Laws of the phyla that declare.
use Rattle.std.proofs.Common.{◌≡◌, inl, inr, ℕ, zero, ◌<◌, ◌==◌, Bool, true, List, [], ◌∷◌, length, get_or, Some, slice_get, Vec, Contains, refl, sym, ap, ◌∙◌, subst, arith, eqb-true, true≢false}
use Rattle.std.specs.Prelude.{◌↔◌, IfSome}
use Rattle.std.specs.List.{AllByRecursion}
use Rattle.std.specs.declared.alloc.Global.{Global}
use Rattle.std.proofs.lemmas.Bool.{cases_Bool}
use Rattle.psg_terms.proofs.Lists.{slice_get_item, slice_get_once}
use Rattle.psg_grammar.specs.declared.types.Kind.{Kind}
use Rattle.psg_grammar.specs.declared.types.Kind.TheVariants as kinds
use Rattle.psg_grammar.specs.declared.types.Item.{Item}
use Rattle.psg_grammar.specs.declared.types.Item.TheVariants as items
use Rattle.psg_grammar.specs.declared.types.Operator.{Operator}
use Rattle.psg_grammar.specs.declared.types.Definition.{Definition}
use Rattle.psg_grammar.specs.Declaring.{Declares, is_declaring}
use Rattle.psg_grammar.specs.DeclaringTables.{AreSpacesOf}
use Rattle.psg_grammar.specs.Kinds.{HasSlotKind}
use Rattle.psg_specimen.specs.Conditions.{IsQuiet, IsQuietSlot, slot_kinds}
use Rattle.psg_specimen.specs.Refusal.{IsFirstOfTwo}
use Rattle.psg_specimen.specs.Tables.{AreTables, AreKinds}
use Rattle.psg_specimen.specs.Walks.{Finds}
use Rattle.psg_covering.proofs.Firsts.{At}

pub quiet_by : (def : Definition) (p : ℕ) (xs : List ℕ) → ((s : ℕ) → Contains xs s ↔ (is_declaring def s (kinds.Phylum p) ≡ true))
    → (xs ≡ [] → IsQuiet def (kinds.Phylum p)) × (IsQuiet def (kinds.Phylum p) → xs ≡ [])
quiet_by def p [] exact = (
  λ e s. elim (cases_Bool (is_declaring def s (kinds.Phylum p))) [
    | inl t ↦ absurd (let (k, lt, at) = (exact s).1 t in omega (arith, lt))
    | inr f ↦ f
  ],
  λ q. refl,
)
quiet_by def p (x ∷ xs) exact = (λ e. absurd (cc), λ q. absurd (true≢false (sym ((exact x).0 (zero, omega arith, refl)) ∙ q x)))

pub is_nil : (xs : List ℕ) (b : Bool) → b ≡ (length xs == 0) → (b ≡ true → xs ≡ []) × (xs ≡ [] → b ≡ true)
is_nil [] b e = (λ t. refl, λ t. e)
is_nil (x ∷ xs) b e = (λ t. absurd (let h : length (x ∷ xs) ≡ 0 = eqb-true (length (x ∷ xs)) 0 (sym e ∙ t) in omega (arith, h)), λ t. absurd (cc))

pub tables_of : (def : Definition) (found : List (Vec ℕ Global)) → length found ≡ length def.phyla
    → ((p : ℕ) → IfSome (slice_get found p) (λ spaces. AreSpacesOf def p spaces.items))
    → ((space : ℕ) (kind : Kind) → (is_declaring def space kind ≡ true) ↔ Declares def space kind) → AreTables def found
tables_of def found len exact search = record {
  one_each = len;
  exact = λ p v at s.
      let own = subst (λ o. IfSome o (λ spaces. AreSpacesOf def p spaces.items)) at (exact p) in
      let there = own.exact s in
      let back = search s (kinds.Phylum p) in
      (λ c. back.1 (there.0 c), λ d. there.1 (back.0 d));
}

pub kinds_there : (def : Definition) (xs : List Item) → AllByRecursion (HasSlotKind def) xs → AreKinds def (slot_kinds xs)
kinds_there def [] h = tt
kinds_there def (items.Slot k ∷ xs) h = (h.0, kinds_there def xs h.1)
kinds_there def (items.Word w ∷ xs) h = kinds_there def xs h.1
kinds_there def (items.Refers s ∷ xs) h = kinds_there def xs h.1
kinds_there def (items.Declares s ∷ xs) h = kinds_there def xs h.1
kinds_there def (items.Number ∷ xs) h = kinds_there def xs h.1
kinds_there def (items.Text ∷ xs) h = kinds_there def xs h.1
kinds_there def (items.Space ∷ xs) h = kinds_there def xs h.1
kinds_there def (items.Tight ∷ xs) h = kinds_there def xs h.1
kinds_there def (items.Line ∷ xs) h = kinds_there def xs h.1
kinds_there def (items.In ∷ xs) h = kinds_there def xs h.1
kinds_there def (items.Out ∷ xs) h = kinds_there def xs h.1

module _ (def : Definition) where
  -- all slots of the operator are quiet
  abbrev pub AllQuiet : Operator → Type 0
  AllQuiet op = (k : ℕ) → At (slot_kinds op.items) (IsQuiet def) k

  pub quiet_slots : (ops : List Operator) → ops ≡ def.operators → ((n : ℕ) → At ops AllQuiet n) → (n k : ℕ) → IsQuietSlot def n k
  quiet_slots ops e h n k op at kind there = h n op (ap (λ l. slice_get l n) e ∙ at) k kind there

  pub loud_first : (ops : List Operator) → ops ≡ def.operators → (i : ℕ) (op : Operator) → i < length ops → op ≡ get_or ops i op → (slots : List Kind) → slots ≡ slot_kinds op.items → (slot : ℕ)
      → Finds (At slots (IsQuiet def)) (Some slot) → ((m : ℕ) → m < i → At ops AllQuiet m) → IsFirstOfTwo (IsQuietSlot def) i slot
  loud_first ops e i op lt is slots same slot (loud, before) h =
      let at : slice_get def.operators i ≡ Some op = ap (λ l. slice_get l i) (sym e) ∙ slice_get_item ops i op lt is in (
        λ q. loud (λ kind there. q op at kind (ap (λ l. slice_get l slot) (sym same) ∙ there)),
        λ m j b. elim b [
          | inl less ↦ (λ o there kind k. h m less o (ap (λ l. slice_get l m) e ∙ there) j kind k)
          | inr eq ↦ (λ o there kind k.
              let one : op ≡ o = slice_get_once def.operators i op o at (ap (slice_get def.operators) (sym eq.0) ∙ there) in
              before j eq.1 kind (ap (λ l. slice_get l j) same ∙ ap (λ (q : Operator). slice_get (slot_kinds q.items) j) one ∙ k))
        ],
      )
