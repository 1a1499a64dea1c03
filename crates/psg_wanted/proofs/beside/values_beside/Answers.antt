use Rattle.std.proofs.Common.{IfSome, Some, inl, sym, subst, ◌≡◌}
use Rattle.std.specs.Prelude.{Option}
use Rattle.psg_grammar.specs.Fragments.{Fragment}
use Rattle.psg_grammar.specs.Paths.{node_at}
use Rattle.psg_cache.specs.Annotated.{Annotated}
use Rattle.psg_cache.specs.Notes.{IsNoteOf}
use Rattle.psg_wanted.specs.Fronts.{AreValues, too_many}
use Rattle.psg_wanted.proofs.ValueLaws.{none_sorted, note_is}
use Rattle.psg_wanted.proofs.beside.values_beside.Goals as goal

pub values_in-requires-clause-note : goal.values_in-requires-clause-note
values_in-requires-clause-note g c =
    let is = subst (λ (o : Option Annotated). IfSome o (IsNoteOf c.args.definition.now c.args.tree.now)) c.in-Some.is c.in_ok-found.ensures.note in
    note_is c.args.definition.now c.args.tree.now c.in-Some.note is

pub values_in-requires-clause-there : goal.values_in-requires-clause-there
values_in-requires-clause-there g c =
    let is = subst (λ (o : Option Annotated). IfSome o (IsNoteOf c.args.definition.now c.args.tree.now)) c.in-Some.is c.in_ok-found.ensures.note in
    subst (λ (f : Fragment). (node : Fragment) × (node_at f c.args.path.now ≡ Some node)) (sym is.tree) c.requires.there

pub returns-in_ok-told-in-Some-clause-values : goal.returns-in_ok-told-in-Some-clause-values
returns-in_ok-told-in-Some-clause-values g c =
    let is = subst (λ (o : Option Annotated). IfSome o (IsNoteOf c.args.definition.now c.args.tree.now)) c.in-Some.is c.in_ok-found.ensures.note in
    subst (λ (f : Fragment). AreValues c.args.definition.now f c.args.path.now c.in_ok-told-in-Some.told.items) is.tree c.in_ok-told-in-Some.ensures.values

pub returns-in-None-clause-values : goal.returns-in-None-clause-values
returns-in-None-clause-values g c =
    subst (AreValues c.args.definition.now c.args.tree.now c.args.path.now) (sym c.new.ensures.items) (too_many (inl (c.in_ok-found.ensures.none c.in-None.is)))

pub returns-in-None-clause-sorted : goal.returns-in-None-clause-sorted
returns-in-None-clause-sorted g c = none_sorted c.args.definition.now.signature c.new.result.items c.new.ensures.items
