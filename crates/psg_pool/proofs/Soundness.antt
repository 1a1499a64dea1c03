-- Each change of a pool keeps what is true of every pool.
use Rattle.std.proofs.Common.{◌≡◌, ◌≢◌, ◌==◌, inl, inr, ℕ, zero, suc, ◌<◌, ◌≤◌, min, Option, Some, None, List, [], ◌∷◌, ◌++◌, length, take, slice_get, All, refl, sym, ◌∙◌, subst, arith, length-append, slice_index_or}
use Rattle.std.proofs.lemmas.Option.{slice_get_past, slice_get_within}
use Rattle.std.proofs.lemmas.List.Elements.{All-append, All-take, All-weaker}
use Rattle.std.proofs.lemmas.List.{length-take}
use Rattle.psg_pool.specs.declared.cells.CellId.{CellId}
use Rattle.psg_pool.specs.declared.cells.Binding.{Binding}
use Rattle.psg_pool.specs.Cells.{Put, free, IsAmong, arguments_in, arguments_of}
use Rattle.psg_pool.specs.Bindings.{Kept, IsOver, IsSound, Leads, Ends}
use Rattle.psg_pool.specs.Marks.{Lengths, IsReleasable}
use Rattle.std.proofs.lemmas.Bool.{eqb-true, eqb-false, cases_Bool}
use Rattle.psg_pool.proofs.Places.{some_or_none, slice_get_none, slice_get-append, slice_get-append_last, slice_get-take}
use Rattle.psg_pool.proofs.Following.{ends_take, ends_bound}

-- what holds of one element
pub All-one : {X : Type 0} (P : X → Type 0) (x : X) → P x → All P (x ∷ [])
All-one P x h zero d below = h
All-one P x h (suc k) d below = absurd (omega (arith, below))

-- nothing was put yet
pub sound_empty : IsSound (record { cells = []; bindings = [] })
sound_empty = record {
  arguments = λ id k d below. absurd (omega (arith, below));
  over = λ k d below. absurd (omega (arith, below));
  ends = λ id. Ends.unbound id refl;
}

pub over_grown : (cells more : List Put) (b : Binding) → IsOver cells b → IsOver (cells ++ more) b
over_grown cells more b over =
    ((over.0.0, slice_get-append cells more b.bound.0 (free over.0.0) over.0.1), omega (arith, over.1, length-append cells more))

-- one more cell, over cells that were there
pub sound_put : (kept : Kept) (put : Put) → All (IsAmong kept.cells) (arguments_in (Some put)) → IsSound kept
    → IsSound (record { cells = kept.cells ++ put ∷ []; bindings = kept.bindings })
sound_put kept put among sound = record {
  arguments = before;
  over = All-weaker (IsOver kept.cells) (IsOver (kept.cells ++ put ∷ [])) (over_grown kept.cells (put ∷ [])) kept.bindings sound.over;
  ends = sound.ends;
} where
  before : (id : CellId) → All (λ a. a.0 < id.0) (arguments_of (kept.cells ++ put ∷ []) id)
  before id = elim (some_or_none (slice_get kept.cells id.0)) [
    | inl none ↦ last none
    | inr old ↦
        let e : slice_get (kept.cells ++ put ∷ []) id.0 ≡ slice_get kept.cells id.0 = slice_get-append kept.cells (put ∷ []) id.0 old.0 old.1 ∙ sym old.1 in
        subst (λ (o : Option Put). All (λ (a : CellId). a.0 < id.0) (arguments_in o)) (sym e) (sound.arguments id)
  ] where
    last : slice_get kept.cells id.0 ≡ None → All (λ a. a.0 < id.0) (arguments_of (kept.cells ++ put ∷ []) id)
    last none = elim (cases_Bool (id.0 == length kept.cells)) [
      | inl t ↦
          let here : id.0 ≡ length kept.cells = eqb-true id.0 (length kept.cells) t in
          subst (λ (o : Option Put). All (λ (a : CellId). a.0 < id.0) (arguments_in o)) (sym (slice_get-append_last kept.cells put id.0 here))
          (All-weaker (IsAmong kept.cells) (λ a. a.0 < id.0) (λ a h. omega (arith, h, here)) (arguments_in (Some put)) among)
      | inr f ↦
          let apart : id.0 ≢ length kept.cells = eqb-false id.0 (length kept.cells) f in
          let past : length (kept.cells ++ put ∷ []) ≤ id.0 =
          omega (arith, apart, slice_get_none kept.cells id.0 none, length-append kept.cells (put ∷ [])) in
          subst (λ (o : Option Put). All (λ (a : CellId). a.0 < id.0) (arguments_in o)) (sym (slice_get_past (kept.cells ++ put ∷ []) id.0 past))
          (λ k d below. absurd (omega (arith, below)))
    ]

-- one more binding, that does not lead round in a circle
pub sound_bind : (kept : Kept) (b : Binding) → IsOver kept.cells b → (Leads kept.bindings b.target b.bound → ⊥) → IsSound kept
    → IsSound (record { cells = kept.cells; bindings = kept.bindings ++ b ∷ [] })
sound_bind kept b over apart sound = record {
  arguments = sound.arguments;
  over = All-append (IsOver kept.cells) kept.bindings (b ∷ []) sound.over (All-one (IsOver kept.cells) b over);
  ends = λ id. ends_bound kept.bindings b sound.ends apart id (sound.ends id);
}

-- a binding over the cells that stay
pub over_cut : (cells : List Put) (n : ℕ) (b : Binding) → n ≤ length cells → (b.bound.0 < n) × (b.target.0 < n) → IsOver cells b
    → IsOver (take n cells) b
over_cut cells n b fits stay over =
    let size : length (take n cells) ≡ min n (length cells) = length-take n cells in
    ((over.0.0, slice_get-take cells n b.bound.0 stay.0 ∙ over.0.1), omega (arith, size, stay.1, fits))

-- both lists cut to the lengths of a mark
pub sound_release : (kept : Kept) (mark : Lengths) → IsReleasable kept mark → IsSound kept
    → IsSound (record { cells = take mark.cells kept.cells; bindings = take mark.bindings kept.bindings })
sound_release kept mark can sound = record {
  arguments = before;
  over = λ k d below.
      over_cut kept.cells mark.cells (slice_index_or (take mark.bindings kept.bindings) k d) can.cells (can.stay k d below)
      (All-take (IsOver kept.cells) mark.bindings kept.bindings sound.over k d below);
  ends = λ id. ends_take kept.bindings mark.bindings id (sound.ends id);
} where
  before : (id : CellId) → All (λ a. a.0 < id.0) (arguments_of (take mark.cells kept.cells) id)
  before id = elim (some_or_none (slice_get (take mark.cells kept.cells) id.0)) [
    | inl none ↦ subst (λ (o : Option Put). All (λ (a : CellId). a.0 < id.0) (arguments_in o)) (sym none) (λ k d below. absurd (omega (arith, below)))
    | inr some ↦
        let within : id.0 < length (take mark.cells kept.cells) = slice_get_within (take mark.cells kept.cells) id.0 some.0 some.1 in
        let below : id.0 < mark.cells = omega (arith, within, length-take mark.cells kept.cells) in
        subst (λ (o : Option Put). All (λ (a : CellId). a.0 < id.0) (arguments_in o)) (sym (slice_get-take kept.cells mark.cells id.0 below)) (sound.arguments id)
  ]
