use Rattle.std.proofs.Common.{◌++◌, append-nil, ap, sym, ◌∙◌, arith}
use Rattle.std.proofs.lemmas.List.{take_all}
use Rattle.psg_lint.specs.Warnings.{warnings}
use Rattle.psg_recover.specs.Spotted.{read_by}
use Rattle.psg_lint.proofs.WarningLaws.{warned}
use Rattle.psg_lint.proofs.warnings.tell_free.Goals as goal

pub loop-place-init : goal.loop-place-init
loop-place-init c = λ nodes are. sym (append-nil c.args.found.now.items)

pub loop-place-preserved : goal.loop-place-preserved
loop-place-preserved c = λ nodes are.
    warned c.args.spots.known.definition.now (read_by c.args.spots nodes) c.as_slice-names.result.now c.loop-place.place c.index-names-place.result
    c.args.found.now.items c.loop-place.found.items c.push.new.self.items c.in_ok-told.told c.loop-place-test.true c.index-names-place.is
    (c.in_ok-told.ensures nodes are) (c.loop-place.invariant nodes are) c.in_ok-push.ensures.items

pub returns : goal.returns
returns c = λ nodes are.
    let def = c.args.spots.known.definition.now in
    c.loop-place.invariant nodes are
    ∙ ap (λ ws. c.args.found.now.items ++ warnings def (read_by c.args.spots nodes) ws)
    (take_all c.loop-place.place c.as_slice-names.result.now (omega arith) ∙ c.as_slice-names.ensures.value ∙ c.in_ok-free.ensures)
