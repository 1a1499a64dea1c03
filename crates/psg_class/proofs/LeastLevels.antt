-- The least level of a slot by its place among all items, and by the solid ones.
use Rattle.std.proofs.Common.{◌≡◌, ℕ, suc, ◌+◌, List, [], ◌∷◌, ◌++◌, length, take, drop, Some, slice_get}
use Rattle.std.proofs.Common.{sym, ap, ◌∙◌, refl, arith}
use Rattle.std.proofs.Math.Seq.{take-append_seam}
use Rattle.psg_terms.proofs.Lists.{slice_get-middle}
use Rattle.std.specs.List.{list_all}
use Rattle.psg_grammar.specs.declared.types.Kind.{Kind}
use Rattle.psg_grammar.specs.declared.types.Kind.TheVariants as kinds
use Rattle.psg_grammar.specs.declared.types.Item.{Item}
use Rattle.psg_grammar.specs.declared.types.Item.TheVariants as items
use Rattle.psg_grammar.specs.declared.types.Operator.{Operator}
use Rattle.psg_grammar.specs.Levels.{is_mark, least_level_of}
use Rattle.psg_class.specs.Places.{solid, is_empty, slot_level, HasSameLevels}

drop_past : {X : Type 0} (front : List X) (x : X) (behind : List X)
    → drop (suc (length front)) (front ++ x ∷ behind) ≡ behind
drop_past [] x behind = refl
drop_past (y ∷ front) x behind = drop_past front x behind

drop_front : {X : Type 0} (front : List X) (x : X) (behind : List X)
    → drop (length front + 1) (front ++ x ∷ behind) ≡ behind
drop_front front x behind = ap (λ n. drop n (front ++ x ∷ behind)) (one_more (length front))
    ∙ drop_past front x behind where
      one_more : (n : ℕ) → n + 1 ≡ suc n
      one_more n = omega arith

pub none_solid : (xs : List Item) → is_empty (solid xs) ≡ list_all is_mark xs
none_solid [] = refl
none_solid (items.Word w ∷ xs) = refl
none_solid (items.Slot k ∷ xs) = refl
none_solid (items.Refers s ∷ xs) = refl
none_solid (items.Declares s ∷ xs) = refl
none_solid (items.Number ∷ xs) = refl
none_solid (items.Text ∷ xs) = refl
none_solid (items.Space ∷ xs) = none_solid xs
none_solid (items.Tight ∷ xs) = none_solid xs
none_solid (items.Line ∷ xs) = none_solid xs
none_solid (items.In ∷ xs) = none_solid xs
none_solid (items.Out ∷ xs) = none_solid xs

pub level_there : (o : Operator) (front : List Item) (kind : Kind) (behind : List Item)
    → o.items ≡ front ++ items.Slot kind ∷ behind
    → least_level_of o (length front) ≡ slot_level o kind (list_all is_mark front) (solid behind)
level_there o front (kinds.Phylum p) behind e =
    rw (
      e,
      slice_get-middle front (items.Slot (kinds.Phylum p)) behind,
      take-append_seam front (items.Slot (kinds.Phylum p) ∷ behind),
      drop_front front (items.Slot (kinds.Phylum p)) behind,
      none_solid behind,
    ) refl
level_there o front (kinds.List l) behind e = rw (e, slice_get-middle front (items.Slot (kinds.List l)) behind) refl

pub same_levels : (o : Operator) → HasSameLevels o
same_levels o front kind behind e =
    level_there o front kind behind e ∙ ap (λ b. slot_level o kind b (solid behind)) (sym (none_solid front))
