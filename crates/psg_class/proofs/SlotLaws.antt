-- What one slot of an operator gives.
use Rattle.std.proofs.lemmas.List.{take_all}
use Rattle.std.proofs.Common.{◌≡◌, ◌≢◌, inl, inr, ℕ, zero, suc, ◌+◌, ◌-◌, ◌<◌, ◌≤◌, ◌&&◌, length-drop, Bool, true, false, List, [], ◌∷◌, length, take, drop, get_or, Some, slice_get, refl, ap, sym, ◌∙◌, subst, arith, true≢false}
use Rattle.std.proofs.lemmas.Option.{slice_get-get_or}
use Rattle.psg_grammar.specs.declared.types.Kind.{Kind}
use Rattle.psg_grammar.specs.declared.types.Kind.TheVariants as kinds
use Rattle.psg_class.specs.Forms.{is_own}
use Rattle.psg_class.specs.declared.shape.Part.{Part}
use Rattle.psg_class.specs.declared.shape.Part.TheVariants as parts
use Rattle.psg_class.specs.declared.shape.Shape.{Shape}
use Rattle.psg_class.specs.declared.sources.Rows.{Rows}
use Rattle.psg_class.specs.declared.sources.Draft.{Draft}
use Rattle.psg_class.specs.Sources.{Adds, NoLink, OneCell, Either, IsSlot, SlotFact, SlotLink, is_end, none_behind, behind, can_end, BeginFact, BeginLink, follow_row, led_row, kind_index}
use Rattle.psg_class.proofs.Drafts.{adds_as, adds_both}

module _ (rows : Rows) (s : Shape) (place : ℕ) (kind : Kind) (later : 1 ≤ place) (at : slice_get s.parts place ≡ Some (parts.Slot kind)) where
  here : IsSlot s place kind
  here = record { later = later; slot = at }

  same_kind : (k : Kind) → IsSlot s place k → k ≡ kind
  same_kind k h = let e : Some (parts.Slot k) ≡ Some (parts.Slot kind) = sym h.slot ∙ at in cc

  abbrev to : ℕ
  to = follow_row rows kind

  fact_there : (r c : ℕ) → BeginFact (follow_row rows kind) (behind s place) r c → SlotFact rows s place r c
  fact_there r c (e, t) = record { kind = kind; slot = here; row_is = e; token = t }

  fact_back : (r c : ℕ) → SlotFact rows s place r c → BeginFact (follow_row rows kind) (behind s place) r c
  fact_back r c f = (f.row_is ∙ ap (follow_row rows) (same_kind f.kind f.slot), f.token)

  link_there : (t f : ℕ) → BeginLink rows (follow_row rows kind) (behind s place) t f → SlotLink rows s place t f
  link_there t f (e, x) = record { kind = kind; slot = here; to_is = e; source = inl x }

  -- where something stands behind, or the slot is an end
  pub inner : (a b : Draft) → ((can_end (behind s place) ≡ true) → is_end s place ≡ true) → Adds (BeginFact (follow_row rows kind) (behind s place)) (BeginLink rows (follow_row rows kind) (behind s place)) a b
      → Adds (SlotFact rows s place) (SlotLink rows s place) a b
  inner a b never h = adds_as (BeginFact (follow_row rows kind) (behind s place)) (BeginLink rows (follow_row rows kind) (behind s place)) (SlotFact rows s place) (SlotLink rows s place) a b fact_there fact_back link_there back h where
    back : (t f : ℕ) → SlotLink rows s place t f → BeginLink rows (follow_row rows kind) (behind s place) t f
    back t f l = elim l.source [
      | inl x ↦ (l.to_is ∙ ap (follow_row rows) (same_kind l.kind l.slot), x)
      | inr (e, n, o) ↦ absurd (true≢false (sym (never e) ∙ n))
    ]

  -- where the operator can end behind it
  pub outer : (a b c d : Draft) → can_end (behind s place) ≡ true → is_end s place ≡ false → Adds (BeginFact (follow_row rows kind) (behind s place)) (BeginLink rows (follow_row rows kind) (behind s place)) a b
      → Adds NoLink (OneCell (follow_row rows kind) (follow_row rows (kinds.Phylum s.phylum))) b c → Adds NoLink (OneCell (follow_row rows kind) (led_row rows s.phylum)) c d → Adds (SlotFact rows s place) (SlotLink rows s place) a d
  outer a b c d e n h i j = adds_as (Either (Either (BeginFact (follow_row rows kind) (behind s place)) NoLink) NoLink)
      (Either (Either (BeginLink rows (follow_row rows kind) (behind s place)) (OneCell (follow_row rows kind) (follow_row rows (kinds.Phylum s.phylum)))) (OneCell (follow_row rows kind) (led_row rows s.phylum))) (SlotFact rows s place) (SlotLink rows s place) a d
      (λ r k f. elim f [ inl x ↦ (elim x [ inl y ↦ fact_there r k y | inr y ↦ absurd y ]) | inr x ↦ absurd x ])
      (λ r k f. inl (inl (fact_back r k f)))
      (λ t f l. elim l [
        | inl x ↦ (elim x [ inl y ↦ link_there t f y | inr (y, z) ↦ record { kind = kind; slot = here; to_is = y; source = inr (e, n, inl z) } ])
        | inr (y, z) ↦ record { kind = kind; slot = here; to_is = y; source = inr (e, n, inr z) }
      ])
      (λ t f l. let t_is : t ≡ follow_row rows kind = l.to_is ∙ ap (follow_row rows) (same_kind l.kind l.slot) in elim l.source [
        | inl x ↦ inl (inl (t_is, x))
        | inr (x, y, o) ↦ (elim o [ inl z ↦ inl (inr (t_is, z)) | inr z ↦ inr (t_is, z) ])
      ])
      (adds_both (Either (BeginFact (follow_row rows kind) (behind s place)) NoLink) (Either (BeginLink rows (follow_row rows kind) (behind s place)) (OneCell (follow_row rows kind) (follow_row rows (kinds.Phylum s.phylum)))) NoLink (OneCell (follow_row rows kind) (led_row rows s.phylum)) a c d
      (adds_both (BeginFact (follow_row rows kind) (behind s place)) (BeginLink rows (follow_row rows kind) (behind s place)) NoLink (OneCell (follow_row rows kind) (follow_row rows (kinds.Phylum s.phylum))) a b c h i) j)

-- at the first place, or at a token, there is nothing
pub nothing : (rows : Rows) (s : Shape) (place : ℕ) (a b : Draft) → ((k : Kind) → IsSlot s place k → ⊥) → Adds NoLink NoLink a b → Adds (SlotFact rows s place) (SlotLink rows s place) a b
nothing rows s place a b none h = adds_as NoLink NoLink (SlotFact rows s place) (SlotLink rows s place) a b (λ r c f. absurd f) (λ r c f. none f.kind f.slot) (λ t f l. absurd l) (λ t f l. none l.kind l.slot) h

get_drop : {X : Type 0} (xs : List X) (k n : ℕ) → slice_get (drop k xs) n ≡ slice_get xs (k + n)
get_drop {X = X} xs zero n = ap (slice_get xs) (zero_plus n) where
  zero_plus : (n : ℕ) → n ≡ 0 + n
  zero_plus n = omega arith
get_drop [] (suc k) n = refl
get_drop (x ∷ xs) (suc k) n = get_drop xs k n ∙ sym (ap (slice_get (x ∷ xs)) (suc_plus k n)) where
  suc_plus : (k n : ℕ) → suc k + n ≡ suc (k + n)
  suc_plus k n = omega arith

-- what is behind a place, as the code takes it
pub rest_of : {X : Type 0} (xs ys : List X) (place : ℕ) → xs ≡ ys → place < length ys → take (length xs - (place + 1)) (drop (place + 1) xs) ≡ drop (place + 1) ys
rest_of {X = X} xs ys place e h =
    take_all (length xs - (place + 1)) (drop (place + 1) xs) (let l = length-drop (place + 1) xs in omega arith) ∙ ap (λ (l : List X). drop (place + 1) l) e

pub rest_parts : {X : Type 0} (P : X → Type 0) (xs : List X) (k : ℕ) → ((n : ℕ) (x : X) → slice_get xs n ≡ Some x → P x) → (n : ℕ) (x : X) → slice_get (drop k xs) n ≡ Some x → P x
rest_parts P xs k h n x e = h (k + n) x (sym (get_drop xs k n) ∙ e)

pub slot_at : (xs ys : List Part) (place : ℕ) (d p : Part) → xs ≡ ys → place < length ys → get_or xs place d ≡ p → slice_get ys place ≡ Some p
slot_at xs ys place d p e h is = slice_get-get_or ys place d h ∙ ap Some (ap (λ l. get_or l place d) (sym e) ∙ is)

pub ends_with : (s : Shape) (place : ℕ) (kind : Kind) (b : Bool) → slice_get s.parts place ≡ Some (parts.Slot kind) → b ≡ is_own s.phylum (Some (parts.Slot kind)) && none_behind (behind s place) → b ≡ is_end s place
ends_with s place kind b at e = e ∙ ap (λ o. is_own s.phylum o && none_behind (behind s place)) (sym at)

pub positive : (n : ℕ) → n ≢ 0 → 1 ≤ n
positive n h = omega arith

pub place_later : (n : ℕ) → (n ≡ 0 → ⊥) → 1 ≤ n
place_later n h = omega arith

-- the same row and the same parts, as the code has them
pub moved : (rows : Rows) (s : Shape) (place : ℕ) (kind : Kind) (row : ℕ) (xs : List Part) (a b : Draft) → row ≡ kind_index rows.phyla kind → xs ≡ behind s place → Adds (BeginFact (rows.kinds + row) xs) (BeginLink rows (rows.kinds + row) xs) a b
    → Adds (BeginFact (follow_row rows kind) (behind s place)) (BeginLink rows (follow_row rows kind) (behind s place)) a b
moved rows s place kind row xs a b e f h =
    subst (λ x. Adds (BeginFact (rows.kinds + x) (behind s place)) (BeginLink rows (rows.kinds + x) (behind s place)) a b) e (subst (λ l. Adds (BeginFact (rows.kinds + row) l) (BeginLink rows (rows.kinds + row) l) a b) f h)

pub moved_link : (rows : Rows) (kind : Kind) (row from : ℕ) (a b : Draft) → row ≡ kind_index rows.phyla kind → Adds NoLink (OneCell (rows.kinds + row) from) a b → Adds NoLink (OneCell (follow_row rows kind) from) a b
moved_link rows kind row from a b e h = subst (λ x. Adds NoLink (OneCell (rows.kinds + x) from) a b) e h
