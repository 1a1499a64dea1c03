use Rattle.std.proofs.Common.{IfSome, ◌∷◌, subst}
use Rattle.std.specs.Prelude.{Option}
use Rattle.psg_grammar.specs.Fragments.{Fragment}
use Rattle.psg_cache.specs.Annotated.{Annotated}
use Rattle.psg_cache.specs.Notes.{IsNoteOf}
use Rattle.psg_wanted.specs.Fronts.{AreKeyValues}
use Rattle.psg_wanted.proofs.KeyLaws.{none_beyond}
use Rattle.psg_wanted.proofs.ValueLaws.{none_sorted, note_is}
use Rattle.psg_wanted.proofs.beside.key_values.Goals as goal

pub key_values_in-requires : goal.key_values_in-requires
key_values_in-requires g c =
    let is = subst (λ (o : Option Annotated). IfSome o (IsNoteOf c.args.definition.now c.args.tree.now)) c.in-Some.is c.in_ok-found.ensures.note in
    note_is c.args.definition.now c.args.tree.now c.in-Some.note is

pub returns-in_ok-told-in-Some-clause-values : goal.returns-in_ok-told-in-Some-clause-values
returns-in_ok-told-in-Some-clause-values g c =
    let is = subst (λ (o : Option Annotated). IfSome o (IsNoteOf c.args.definition.now c.args.tree.now)) c.in-Some.is c.in_ok-found.ensures.note in
    subst (λ (f : Fragment). AreKeyValues c.args.definition.now f (c.args.space ∷ c.args.name.now) c.in_ok-told-in-Some.told.items) is.tree c.in_ok-told-in-Some.ensures.values

pub returns-in-None-clause-values : goal.returns-in-None-clause-values
returns-in-None-clause-values g c =
    none_beyond c.args.definition.now c.args.tree.now (c.args.space ∷ c.args.name.now) c.new.result.items (c.in_ok-found.ensures.none c.in-None.is) c.new.ensures.items

pub returns-in-None-clause-sorted : goal.returns-in-None-clause-sorted
returns-in-None-clause-sorted g c = none_sorted c.args.definition.now.signature c.new.result.items c.new.ensures.items
