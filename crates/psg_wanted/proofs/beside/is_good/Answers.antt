use Rattle.std.proofs.Common.{IfSome, subst}
use Rattle.std.specs.Prelude.{Option}
use Rattle.psg_cache.specs.Annotated.{Annotated}
use Rattle.psg_cache.specs.Notes.{IsNoteOf, TellsOpen}
use Rattle.psg_wanted.proofs.ValueLaws.{good_told, not_good}
use Rattle.psg_wanted.proofs.beside.is_good.Goals as goal

pub returns-in-Some-clause-good : goal.returns-in-Some-clause-good
returns-in-Some-clause-good g c =
    let def = c.args.definition.now in
    let tree = c.args.tree.now in
    good_told def tree c.in-Some.note c.is_good-good.result
    (subst (λ (o : Option Annotated). IfSome o (IsNoteOf def tree)) c.in-Some.is c.in_ok-found.ensures.note)
    (subst (λ (o : Option Annotated). IfSome o (TellsOpen def tree)) c.in-Some.is c.in_ok-found.ensures.open)
    c.is_good-good.ensures.rows

pub returns-in-None-clause-good : goal.returns-in-None-clause-good
returns-in-None-clause-good g c = not_good c.args.definition.now c.args.tree.now (c.in_ok-found.ensures.none c.in-None.is)
