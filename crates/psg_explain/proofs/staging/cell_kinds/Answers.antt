use Rattle.std.proofs.Common.{◌++◌, ◌∷◌, [], drop, slice_get, sym, ap, ◌∙◌}
use Rattle.psg_terms.proofs.Lists.{got_none, got_some}
use Rattle.psg_grammar.specs.declared.types.Kind.TheVariants as kinds
use Rattle.psg_explain.proofs.KindLaws.{cell_kinds_are, no_cell, two_dropped}
use Rattle.psg_explain.proofs.staging.cell_kinds.Goals as goal

pub returns-then-step-eq0 : goal.returns-then-step-eq0
returns-then-step-eq0 c = λ e r formed.
    let l = c.args.list in
    let own = c.in-Some.kind.now in
    let there = ap (λ xs. slice_get xs l) (sym c.as_slice.ensures) ∙ got_some c.as_slice.result.now l c.get.result c.in-Some.kind c.get.ensures.lookup c.in-Some.is in
    cell_kinds_are c.args.definition.now l own e r c.args.step c.push-then-step-eq0.new.self.items there
    (c.in_ok-push-in-Some-2.ensures.items ∙ ap (λ x. x ++ kinds.List l ∷ []) (c.in_ok-push-in-Some.ensures.items ∙ ap (λ x. x ++ kinds.Phylum own.element ∷ []) c.in_ok-kinds.ensures)
    ∙ ap (λ n. kinds.List l ∷ drop n (kinds.Phylum own.element ∷ kinds.List l ∷ [])) (sym c.if-step-eq0.true))

pub returns-then-step-eq1 : goal.returns-then-step-eq1
returns-then-step-eq1 c = λ e r formed.
    let l = c.args.list in
    let own = c.in-Some.kind.now in
    let there = ap (λ xs. slice_get xs l) (sym c.as_slice.ensures) ∙ got_some c.as_slice.result.now l c.get.result c.in-Some.kind c.get.ensures.lookup c.in-Some.is in
    cell_kinds_are c.args.definition.now l own e r c.args.step c.push-then-step-eq1.new.self.items there
    (c.in_ok-push-in-Some-3.ensures.items ∙ ap (λ x. x ++ kinds.List l ∷ []) c.in_ok-kinds.ensures
    ∙ ap (λ n. kinds.List l ∷ drop n (kinds.Phylum own.element ∷ kinds.List l ∷ [])) (sym c.if-step-eq1.true))

pub returns-else-step-eq1 : goal.returns-else-step-eq1
returns-else-step-eq1 c = λ e r formed.
    let l = c.args.list in
    let own = c.in-Some.kind.now in
    let there = ap (λ xs. slice_get xs l) (sym c.as_slice.ensures) ∙ got_some c.as_slice.result.now l c.get.result c.in-Some.kind c.get.ensures.lookup c.in-Some.is in
    cell_kinds_are c.args.definition.now l own e r c.args.step c.in_ok-kinds.kinds.items there
    (c.in_ok-kinds.ensures ∙ ap (λ x. kinds.List l ∷ x) (sym (two_dropped c.args.step (kinds.Phylum own.element) (kinds.List l) c.if-step-eq0.false c.if-step-eq1.false)))

pub returns-in-None : goal.returns-in-None
returns-in-None c = λ e r formed.
    let l = c.args.list in
    absurd (no_cell c.args.definition.now l e r (ap (λ xs. slice_get xs l) (sym c.as_slice.ensures) ∙ got_none c.as_slice.result.now l c.get.result c.get.ensures.lookup c.in-None.is) formed)
