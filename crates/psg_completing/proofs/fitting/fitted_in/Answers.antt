use Rattle.std.proofs.Common.{refl}
use Rattle.psg_completing.specs.Fitted.{HasNoPlaceholder, IsPlaceholderIn}
use Rattle.psg_pointing.proofs.Walks.{none_in, some_in}
use Rattle.psg_completing.proofs.fitting.fitted_in.Goals as goal

pub returns-in-Some-clause-some : goal.returns-in-Some-clause-some
returns-in-Some-clause-some c = (
  refl,
  refl,
  some_in (IsPlaceholderIn c.args.language.now c.args.kind c.args.program.tokens.items c.args.program.tree c.args.byte
      c.args.filling.phylum) c.in_ok-found.found c.in-Some.path c.in-Some.is c.in_ok-found.ensures.some,
)

pub returns-in-None-clause-none : goal.returns-in-None-clause-none
returns-in-None-clause-none c =
    none_in (HasNoPlaceholder c.args.language.now c.args.kind c.args.program.tokens.items c.args.program.tree c.args.byte
    c.args.filling.phylum) c.in_ok-found.found c.in-None.is c.in_ok-found.ensures.none
