-- What the parser of an accepted definition waits for can be ended, so the stop of tokens is exact.
use Rattle.std.proofs.Common.{◌≡◌, ◌↔◌, ℕ, zero, suc, ◌<◌, true, List, [], ◌∷◌, ◌++◌, length, take, Some, slice_get, refl, ap, ◌∙◌, subst, sym, arith}
use Rattle.std.specs.List.{AllByRecursion}
use Rattle.psg_lexis.specs.Tokens.{IsFixedWord}
use Rattle.psg_grammar.specs.declared.types.Definition.{Definition}
use Rattle.psg_grammar.specs.declared.types.Item.{Item}
use Rattle.psg_grammar.specs.declared.types.Item.TheVariants as items
use Rattle.psg_grammar.specs.declared.types.Kind.{Kind}
use Rattle.psg_grammar.specs.declared.types.Kind.TheVariants as kinds
use Rattle.psg_grammar.specs.Kinds.{HasKind}
use Rattle.psg_grammar.specs.Sound.{IsSound}
use Rattle.psg_grammar.specs.WellFormed.{fixed_words}
use Rattle.psg_class.specs.Terminals.{Token}
use Rattle.psg_parse.specs.declared.fault.Goal.{Goal}
use Rattle.psg_parse.specs.Onward.{IsEndable}
use Rattle.psg_parse.specs.Stops.{Begins, IsStop, MayEnd}
use Rattle.psg_specimen.specs.Conditions.{slot_kinds}
use Rattle.psg_specimen.specs.Refusal.{IsAccepted}
use Rattle.psg_specimen.proofs.TrueRows.{quiet_slots}
use Rattle.psg_stop.specs.declared.stopping.Stop.{Stop}
use Rattle.psg_stop.specs.Accepted.{CanEnd, HasTrees}
use Rattle.psg_stop.specs.Wanted.{AreWanted, wanted_terminals}
use Rattle.psg_program.specs.Programs.{IsStopOf, goal_of}

-- a slot among the items has a number
slot_there : (front behind : List Item) (kind : Kind)
    → (k : ℕ) × (slice_get (slot_kinds (front ++ items.Slot kind ∷ behind)) k ≡ Some kind)
slot_there [] behind kind = (0, refl)
slot_there (items.Slot own ∷ front) behind kind = let (k, is) = slot_there front behind kind in (suc k, is)
slot_there (items.Word w ∷ front) behind kind = slot_there front behind kind
slot_there (items.Refers s ∷ front) behind kind = slot_there front behind kind
slot_there (items.Declares s ∷ front) behind kind = slot_there front behind kind
slot_there (items.Number ∷ front) behind kind = slot_there front behind kind
slot_there (items.Text ∷ front) behind kind = slot_there front behind kind
slot_there (items.Space ∷ front) behind kind = slot_there front behind kind
slot_there (items.Tight ∷ front) behind kind = slot_there front behind kind
slot_there (items.Line ∷ front) behind kind = slot_there front behind kind
slot_there (items.In ∷ front) behind kind = slot_there front behind kind
slot_there (items.Out ∷ front) behind kind = slot_there front behind kind

module _ (def : Definition) (sound : IsSound def) (accepted : IsAccepted def)
    (words : AllByRecursion IsFixedWord (fixed_words def)) where
  pub can_end : CanEnd def
  can_end = record {
    sound = sound;
    quiet = λ n o front p behind found are.
        let (k, is) = slot_there front behind (kinds.Phylum p) in
        quiet_slots def accepted.met n k o found (kinds.Phylum p) (ap (λ l. slice_get (slot_kinds l) k) are ∙ is);
    words = words;
  }

there : {X : Type 0} (xs : List X) (k : ℕ) → k < length xs → (x : X) × (slice_get xs k ≡ Some x)
there [] k lt = absurd (omega (arith, lt))
there (x ∷ xs) zero lt = (x, refl)
there (x ∷ xs) (suc k) lt = there xs k (omega (arith, lt))

-- tokens begin a tree of each kind that there is
pub begins_some : (def : Definition) → HasTrees def → (kind : Kind) → HasKind def kind → Begins def kind 0 []
begins_some def trees (kinds.Phylum p) inside =
    let (phylum, found) = there def.phyla p inside in trees.phyla p phylum found
begins_some def trees (kinds.List l) inside =
    let (list, found) = there def.lists l inside in trees.lists l list found 0

-- what is known of the stop of tokens, for the goal
pub record HasStop (def : Definition) (ts : List Token) (s : Stop) (goal : Goal) : Type 0 where
  pub stop : IsEndable def → Begins def goal.kind goal.least [] → IsStop def goal.kind goal.least ts s.tokens
  pub ends : (s.may_end ≡ true) ↔ MayEnd def goal.kind goal.least (take s.tokens ts)
  pub wanted : IsEndable def → Begins def goal.kind goal.least []
      → AreWanted def goal.kind goal.least (take s.tokens ts) (wanted_terminals s.wanted.items)

pub stop_is : (def d : Definition) (kind : Kind) (ts : List Token) (s : Stop) (goal : Goal) → d ≡ def → HasKind def kind
    → IsEndable d → HasTrees d → goal ≡ goal_of kind → HasStop d ts s goal → IsStopOf def kind ts s
stop_is def d kind ts s goal same kind_there endable trees is h =
    let own : HasStop d ts s (goal_of kind) = subst (HasStop d ts s) is h in
    let some = begins_some d trees kind (subst (λ x. HasKind x kind) (sym same) kind_there) in
    subst (λ x. IsStopOf x kind ts s) same (record {
      stop = own.stop endable some;
      ends = own.ends;
      wanted = own.wanted endable some;
    })
