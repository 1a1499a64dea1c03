use Rattle.std.proofs.Common.{◌<◌, subst}
use Rattle.std.specs.List.{AllByRecursion}
use Rattle.psg_unparse.specs.declared.spans.Span.{Span}
use Rattle.psg_unparse.proofs.SpliceSteps.{fits_when, not_begun, unlike_heads, unlike_lasts, unlike_levels}
use Rattle.psg_unparse.proofs.splicing.fits.Goals as goal

pub returns-then-not-levels-clause-no : goal.returns-then-not-levels-clause-no
returns-then-not-levels-clause-no c = λ e.
    unlike_levels c.args.definition.now c.args.old.now c.args.new.now (c.has_level_of-levels.ensures.no c.if-not-levels.true)

pub returns-then-not-firsts-clause-no : goal.returns-then-not-firsts-clause-no
returns-then-not-firsts-clause-no c = λ e.
    unlike_heads c.args.definition.now c.args.old.now c.args.new.now c.args.from.now.printed c.args.to.now.printed
    c.args.from.now.first c.args.from.now.last c.args.to.now.first c.args.to.now.last c.requires.old c.requires.new
    (c.are_alike-firsts.ensures.no c.if-not-firsts.true)

pub returns-then-not-lasts-clause-no : goal.returns-then-not-lasts-clause-no
returns-then-not-lasts-clause-no c = λ e.
    unlike_lasts c.args.definition.now c.args.old.now c.args.new.now c.args.from.now.printed c.args.to.now.printed
    c.args.from.now.first c.args.from.now.last c.args.to.now.first c.args.to.now.last c.requires.old c.requires.new
    (c.are_alike-lasts.ensures.no c.if-not-lasts.true)

pub returns-clause-yes : goal.returns-clause-yes
returns-clause-yes c = λ t.
    fits_when c.args.definition.now c.args.old.now c.args.new.now c.args.from.now.printed c.args.to.now.printed
    c.args.from.now.first c.args.from.now.last c.args.to.now.first c.args.to.now.last c.requires.old c.requires.new
    (c.has_level_of-levels.ensures.yes c.if-not-levels.false) (c.are_alike-firsts.ensures.yes c.if-not-firsts.false)
    (c.are_alike-lasts.ensures.yes c.if-not-lasts.false)
    (subst (AllByRecursion (λ (s : Span). 0 < s.end)) c.as_slice.ensures (c.are_begun.ensures.yes t))

pub returns-clause-no : goal.returns-clause-no
returns-clause-no c = λ e.
    not_begun c.args.definition.now c.args.old.now c.args.new.now c.args.to.now.printed c.args.to.now.first c.args.to.now.last
    c.as_slice.result.now c.requires.new c.as_slice.ensures (c.are_begun.ensures.no e)
