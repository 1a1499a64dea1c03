use Rattle.std.proofs.Common.{inl, sym, subst}
use Rattle.psg_cache.specs.Annotated.{tree_in}
use Rattle.psg_session.specs.Edits.{edited}
use Rattle.psg_session.specs.Outcomes.{IsFit, IsVersionOf}
use Rattle.psg_session.specs.Printouts.{IsNextText}
use Rattle.psg_session.proofs.Printouts.{next_text}
use Rattle.psg_session.proofs.printout.put_next.Goals as goal

pub returns-in-Changes : goal.returns-in-Changes
returns-in-Changes c = λ def editor plan fresh planned fit version.
    subst (λ o. IsNextText def editor o c.args.text) (sym c.in-Changes.is)
    (next_text def editor plan c.in-Changes._note c.in-Changes._cursor c.in-Changes._mark c.args.text planned
    (subst (IsFit def editor.opened) c.in-Changes.is fit)
    (λ held made opened makes. subst (IsVersionOf (edited made.edit (tree_in held.note))) c.in-Changes.is
    (version held made opened makes)))

pub returns-in_default : goal.returns-in_default
returns-in_default c = λ def editor plan fresh planned fit version. inl fresh
