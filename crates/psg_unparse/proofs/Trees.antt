-- The row of each printable tree has tokens, and they yield the tree.
-- One recursion over the tree shows what is claimed of its parts and of the whole; each step is a lemma of its own.
use Rattle.std.proofs.Common.{inl, inr, List, [], ◌∷◌, refl}
use Rattle.psg_grammar.specs.declared.types.Kind.{Kind}
use Rattle.psg_grammar.specs.declared.types.Kind.TheVariants as kinds
use Rattle.psg_grammar.specs.declared.types.Item.{Item}
use Rattle.psg_grammar.specs.declared.types.Item.TheVariants as items
use Rattle.psg_grammar.specs.declared.types.Definition.{Definition}
use Rattle.psg_grammar.specs.Fragments.{Fragment, hole, ending, cell, operator, with_child, with_name, with_number, with_text, anything, observed}
use Rattle.psg_grammar.specs.Printable.{IsPrintable}
use Rattle.psg_grammar.specs.Sound.{IsSound}
use Rattle.psg_grammar.specs.WellFormed.{Fits, IsPlain}
use Rattle.psg_class.proofs.ClassFacts.{ClassFacts}
use Rattle.psg_unparse.proofs.FixedTokens.{HasTokens}
use Rattle.psg_unparse.proofs.Claims.{Claim, part_claim, spine_of}
use Rattle.psg_unparse.proofs.PartSteps.{part_operator, part_refers, part_declares, part_number, part_text}
use Rattle.psg_unparse.proofs.SlotSteps.{part_child}
use Rattle.psg_unparse.proofs.ListSteps.{hole_whole, end_whole, cell_whole}

module _ (def : Definition) (sound : IsSound def) (c : ClassFacts def) (known : HasTokens def) where
  pub claim : (f : Fragment) (more : List Item) (kind : Kind) → Fits def f more kind → IsPlain f → IsPrintable f
      → Claim def f more kind
  claim (hole p) more kind h plain printable =
      record { part = λ no_spine. absurd no_spine; whole = λ none. hole_whole def sound p kind h.1 h.2 h.3 }
  claim (ending l u) more kind h plain printable =
      record { part = λ no_spine. absurd no_spine; whole = λ none. end_whole def l u kind h.1 h.2 }
  claim (cell l e r) more kind h plain printable =
      let a = (claim e [] (kinds.Phylum h.2.element) h.4 plain.0 printable.0).whole refl in
      let b = (claim r [] (kinds.List l) h.5 plain.1 printable.1).whole refl in
      record { part = λ no_spine. absurd no_spine; whole = λ none. cell_whole def known l h.2 h.3 e a r kind h.1 b }
  claim (operator o) more kind h plain printable =
      part_claim def (operator o) more kind (part_operator def known o h.0 more kind h.1 h.2 h.3)
  claim (with_child f t) more kind h plain printable =
      let a = (claim f (items.Slot h.0 ∷ more) kind h.1 plain.0 printable.0).part
      (spine_of def f (items.Slot h.0) more kind h.1) in
      let b = (claim t [] h.0 h.2 plain.1 printable.1).whole refl in
      part_claim def (with_child f t) more kind (part_child def sound c known f t more kind h.0 a b)
  claim (with_name f n) more kind (inl (s, h), name) plain printable =
      let a = (claim f (items.Refers s ∷ more) kind h plain printable.0).part
      (spine_of def f (items.Refers s) more kind h) in
      part_claim def (with_name f n) more kind (part_refers def known f s n more kind a name printable.1)
  claim (with_name f n) more kind (inr (s, h), name) plain printable =
      let a = (claim f (items.Declares s ∷ more) kind h plain printable.0).part
      (spine_of def f (items.Declares s) more kind h) in
      part_claim def (with_name f n) more kind (part_declares def known f s n more kind a name printable.1)
  claim (with_number f n) more kind h plain printable =
      let a = (claim f (items.Number ∷ more) kind h.0 plain printable).part (spine_of def f items.Number more kind h.0)
      in
      part_claim def (with_number f n) more kind (part_number def known f n more kind a h.1)
  claim (with_text f t) more kind h plain printable =
      let a = (claim f (items.Text ∷ more) kind h.0 plain printable.0).part (spine_of def f items.Text more kind h.0) in
      part_claim def (with_text f t) more kind (part_text def known f t more kind a h.1 printable.1 printable.2)
  claim anything more kind h plain printable = absurd h
  claim (observed f) more kind h plain printable = absurd plain
