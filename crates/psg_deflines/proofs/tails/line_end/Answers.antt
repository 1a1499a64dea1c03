use Rattle.std.proofs.Common.{ap, refl, arith, ◌∙◌, ◌∷◌}
use Rattle.std.proofs.lemmas.Option.{MatchOption-at_some, MatchOption-at_none}
use Rattle.psg_deflines.specs.Parts.{texts}
use Rattle.psg_deflines.specs.TreeReads.{HasNoTree, IsTreeFound}
use Rattle.psg_deflines.proofs.TermFound.{texts-length}
use Rattle.psg_deflines.proofs.TermStepLaws.{texts-first}
use Rattle.psg_deflines.proofs.TailLaws.{end-none, end-more, end-found}
use Rattle.psg_deflines.proofs.tails.line_end.Goals as goal

pub returns-in_default-2 : goal.returns-in_default-2
returns-in_default-2 c =
    end-none (texts c.args.parts.now) (texts c.in-Some.rest.now)
    (texts-first c.args.parts.now c.in-Some.rest.now c.in-Some.first.now c.in-Some.ensures.cases.0 ∙ ap (λ n. n ∷ texts c.in-Some.rest.now) (c.if-not-is.ensures.0 refl))
    (MatchOption-at_none (HasNoTree _) (IsTreeFound _) c.in_default-2.is c.in_ok-read.ensures)

pub returns-then-taken-rest : goal.returns-then-taken-rest
returns-then-taken-rest c =
    end-more (texts c.args.parts.now) (texts c.in-Some.rest.now)
    (texts-first c.args.parts.now c.in-Some.rest.now c.in-Some.first.now c.in-Some.ensures.cases.0 ∙ ap (λ n. n ∷ texts c.in-Some.rest.now) (c.if-not-is.ensures.0 refl))
    c.in-Some-2.read (MatchOption-at_some (HasNoTree _) (IsTreeFound _) c.in-Some-2.read c.in-Some-2.is c.in_ok-read.ensures) (omega (arith, texts-length c.in-Some.rest.now, c.if-taken-rest.true))

pub returns : goal.returns
returns c =
    end-found (texts c.args.parts.now) (texts c.in-Some.rest.now)
    (texts-first c.args.parts.now c.in-Some.rest.now c.in-Some.first.now c.in-Some.ensures.cases.0 ∙ ap (λ n. n ∷ texts c.in-Some.rest.now) (c.if-not-is.ensures.0 refl))
    c.in-Some-2.read c.specimen_behind.result (MatchOption-at_some (HasNoTree _) (IsTreeFound _) c.in-Some-2.read c.in-Some-2.is c.in_ok-read.ensures) (omega (arith, texts-length c.in-Some.rest.now, c.if-taken-rest.false))
    c.specimen_behind.ensures
