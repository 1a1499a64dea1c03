use Rattle.std.proofs.Common.{refl, ap, ◌∙◌, ◌∷◌}
use Rattle.psg_deflines.specs.Parts.{texts}
use Rattle.psg_deflines.specs.WrittenTerms.{applied, named}
use Rattle.psg_deflines.proofs.TermStepLaws.{texts-first, comma-made, closed-made}
use Rattle.psg_deflines.proofs.term_reading.go_on.Goals as goal

pub returns-then-is : goal.returns-then-is
returns-then-is c = λ fs t h term.
    comma-made c.args.brackets (record { frames = c.pop.new.self; deep = c.args.brackets.deep }) _ c.in-Some-pop.frame c.in_ok-frame.frame fs c.args.term t (texts c.args.parts.now) (texts c.in-Some.field-0-1.now) h term
    c.in-Some-pop.ensures.items refl c.in_ok-frame.ensures c.in_ok-push.ensures.items refl
    (texts-first c.args.parts.now c.in-Some.field-0-1.now c.in-Some.first.now c.in-Some.ensures.cases.0 ∙ ap (λ n. n ∷ texts c.in-Some.field-0-1.now) (c.if-is.ensures.0 refl))

pub returns-then-is-2 : goal.returns-then-is-2
returns-then-is-2 c = λ fs t h term.
    closed-made c.args.brackets _ c.in-Some-pop.frame c.in_ok-frame.frame fs c.args.term t _ (texts c.args.parts.now) (texts c.in-Some.field-0-1.now) h term
    c.in-Some-pop.ensures.items refl c.in_ok-frame.ensures (ap (applied (named c.in_ok-frame.frame.name)) c.of-args.ensures)
    (texts-first c.args.parts.now c.in-Some.field-0-1.now c.in-Some.first.now c.in-Some.ensures.cases.0 ∙ ap (λ n. n ∷ texts c.in-Some.field-0-1.now) (c.if-is-2.ensures.0 refl))
