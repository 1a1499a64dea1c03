use Rattle.std.proofs.Common.{refl, ap, sym, ◌∙◌, ◌∷◌, arith}
use Rattle.psg_deflines.specs.Parts.{texts}
use Rattle.psg_deflines.proofs.TermStepLaws.{texts-first, variable-made, constant-made, opened-made}
use Rattle.psg_deflines.proofs.term_reading.begin.Goals as goal

pub returns-in-Some-variable_name : goal.returns-in-Some-variable_name
returns-in-Some-variable_name c = λ fs h.
    variable-made c.args.brackets _ c.len.result fs (texts c.args.parts.now) (texts c.in-Some.rest.now) c.in-Some-variable_name.name.now c.in_ok-copy_of.field-0 h refl
    (omega (arith, c.len.ensures, c.args.brackets.frames.ok.0)) refl
    (texts-first c.args.parts.now c.in-Some.rest.now c.in-Some.first.now c.in-Some.ensures.cases.0 ∙ ap (λ n. n ∷ texts c.in-Some.rest.now) c.in-Some-variable_name.ensures.0) c.in-Some-variable_name.ensures.1 (c.in_ok-copy_of.ensures ∙ c.ascii.ensures)

pub returns-then-is_opened : goal.returns-then-is_opened
returns-then-is_opened c = λ fs h.
    opened-made c.args.brackets _ c.len.result fs (texts c.args.parts.now) (texts c.in-Some.rest.now) c.in-Some.first.now.now _ h c.in_ok-push.ensures.items
    (omega (arith, c.len.ensures, c.args.brackets.frames.ok.0)) refl
    (texts-first c.args.parts.now c.in-Some.rest.now c.in-Some.first.now c.in-Some.ensures.cases.0) (sym c.if-not-is_own_name.ensures) c.if-is_opened.ensures (c.in_ok-name.ensures ∙ c.ascii-2.ensures) c.new-args.ensures.items

pub returns : goal.returns
returns c = λ fs h.
    constant-made c.args.brackets _ c.len.result fs (texts c.args.parts.now) (texts c.in-Some.rest.now) c.in-Some.first.now.now c.in_ok-name.name c.of-args.result h refl
    (omega (arith, c.len.ensures, c.args.brackets.frames.ok.0)) refl
    (texts-first c.args.parts.now c.in-Some.rest.now c.in-Some.first.now c.in-Some.ensures.cases.0) (sym c.if-not-is_own_name.ensures) c.if-is_opened.ensures (c.in_ok-name.ensures ∙ c.ascii-2.ensures) (c.of-args.ensures ∙ c.new-args.ensures.items)
