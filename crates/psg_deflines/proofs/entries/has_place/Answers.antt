use Rattle.std.proofs.Common.{refl, ap, ◌∙◌, ◌∷◌}
use Rattle.std.proofs.lemmas.Bool.{false≢true}
use Rattle.std.proofs.lemmas.List.{nil_from_length}
use Rattle.psg_deflines.specs.Parts.{texts}
use Rattle.psg_deflines.proofs.TermStepLaws.{texts-first}
use Rattle.psg_deflines.proofs.EntryLaws.{place-row, place-case, place-else, place-none}
use Rattle.psg_deflines.proofs.entries.has_place.Goals as goal

pub returns-in_default : goal.returns-in_default
returns-in_default c = λ above rows cases. place-none above (texts c.args.parts.now) (ap texts (nil_from_length c.args.parts.now c.in_default.ensures.cases))

pub returns-then-is : goal.returns-then-is
returns-then-is c = λ above rows cases.
    place-row above (texts c.args.parts.now) (texts c.in-Some.field-0-1.now) c.args.rows
    (texts-first c.args.parts.now c.in-Some.field-0-1.now c.in-Some.keyword.now c.in-Some.ensures.cases.0 ∙ ap (λ n. n ∷ texts c.in-Some.field-0-1.now) (c.if-is.ensures.0 refl)) rows

pub returns-then-is-2 : goal.returns-then-is-2
returns-then-is-2 c = λ above rows cases.
    place-case above (texts c.args.parts.now) (texts c.in-Some.field-0-1.now) c.args.cases
    (texts-first c.args.parts.now c.in-Some.field-0-1.now c.in-Some.keyword.now c.in-Some.ensures.cases.0 ∙ ap (λ n. n ∷ texts c.in-Some.field-0-1.now) (c.if-is-2.ensures.0 refl)) cases

pub returns-else-is-2 : goal.returns-else-is-2
returns-else-is-2 c = λ above rows cases.
    place-else above (texts c.args.parts.now) (texts c.in-Some.field-0-1.now) c.in-Some.keyword.now.now
    (texts-first c.args.parts.now c.in-Some.field-0-1.now c.in-Some.keyword.now c.in-Some.ensures.cases.0) (λ e. false≢true (c.if-is.ensures.1 e)) (λ e. false≢true (c.if-is-2.ensures.1 e))
