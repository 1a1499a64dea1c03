use Rattle.std.proofs.Common.{ap, subst, ◌∙◌, ◌≡◌}
use Rattle.psg_cache.specs.Annotated.{tree_in}
use Rattle.psg_completing.specs.Fillings.{filled}
use Rattle.psg_pointing.specs.Judging.{IsKnownOf}
use Rattle.psg_completing.specs.Offering.{AreOffersIn, put_before, put_behind}
use Rattle.psg_completing.proofs.Completions.{completed_much, completed_offers, judged_in, limited_in}
use Rattle.psg_pointing.proofs.Walks.{some_in}
use Rattle.psg_completing.proofs.completing.completed_by.Goals as goal

pub judged_of-requires : goal.judged_of-requires
judged_of-requires g c = c.requires.fitted.read.program.formed

pub offers_in-requires : goal.offers_in-requires
offers_in-requires g c =
    let own = filled c.args.language.now c.args.own.now c.args.target.word c.args.fit.filling in
    let read = c.requires.fitted.read in
    (judged_in c.args.language.now c.args.kind own c.in-Some.judged
    (subst (IsKnownOf c.args.language.now c.args.kind own) c.in-Some.is
    (c.in_ok-found.ensures.known own read.is_text read.program read.read))).known

pub returns-in_ok-behind-in-Some : goal.returns-in_ok-behind-in-Some
returns-in_ok-behind-in-Some g c =
    let language = c.args.language.now in
    let word = c.args.target.word in
    let own = filled language c.args.own.now word c.args.fit.filling in
    let read = c.requires.fitted.read in
    let same = some_in (λ j. (tree_in j.note ≡ c.args.fit.program.tree) × (j.tokens ≡ c.args.fit.program.tokens))
    c.in_ok-found.found c.in-Some.judged c.in-Some.is c.in_ok-found.ensures.same in
    completed_offers language c.args.kind c.args.own.now word c.args.target.from c.args.target.to c.args.fit
    c.requires.fitted c.requires.first c.in-Some.judged
    (judged_in language c.args.kind own c.in-Some.judged
    (subst (IsKnownOf language c.args.kind own) c.in-Some.is
    (c.in_ok-found.ensures.known own read.is_text read.program read.read)))
    same.0 c.in_ok-offers-in-Some.offers
    (subst (λ p. AreOffersIn language c.args.kind (tree_in c.in-Some.judged.note) c.args.fit.path p
    c.in_ok-offers-in-Some.offers) c.prefix_of-prefix.ensures c.in_ok-offers-in-Some.ensures)
    _ _
    (c.in_ok-before-in-Some.ensures
    ∙ ap (λ d. put_before d c.args.own.now word c.args.fit.filling.side) c.definition-definition.ensures.same)
    (c.in_ok-behind-in-Some.ensures
    ∙ ap (λ d. put_behind d c.args.own.now word c.args.fit.filling.side) c.definition-definition.ensures.same)

pub returns-in_ok-empty-in-None : goal.returns-in_ok-empty-in-None
returns-in_ok-empty-in-None g c =
    let language = c.args.language.now in
    let own = filled language c.args.own.now c.args.target.word c.args.fit.filling in
    let read = c.requires.fitted.read in
    completed_much language c.args.kind c.args.own.now c.args.target.word c.args.target.from c.args.target.to
    c.args.fit.filling c.in_ok-empty-in-None.empty c.requires.first
    (limited_in language c.args.kind own
    (subst (IsKnownOf language c.args.kind own) c.in-None.is
    (c.in_ok-found.ensures.known own read.is_text read.program read.read)))
    c.in_ok-empty-in-None.ensures
