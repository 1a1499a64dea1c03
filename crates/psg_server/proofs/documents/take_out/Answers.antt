use Rattle.std.proofs.Common.{List, refl, sym, ◌∙◌, ap}
use Rattle.std.specs.List.{position}
use Rattle.psg_server.specs.declared.documents.Document.{Document}
use Rattle.psg_server.specs.Documents.{is_at}
use Rattle.psg_server.proofs.DocumentLaws.{close_end, close_start, close_step, one_less}
use Rattle.psg_server.proofs.documents.take_out.Goals as goal

pub rest-init : goal.rest-init
rest-init c = close_start c.args.address.now c.args.items.now.items c.args.items.now.items refl

pub rest-smaller : goal.rest-smaller
rest-smaller c =
    one_less (is_at c.args.address.now) c.rest.items.items c.as_slice.result.now c.remove-gone.new.self.items
    c.in-Some.place c.remove-gone.result c.as_slice.ensures.value (sym c.in-Some.is ∙ c.place_of.ensures.is)
    c.remove-gone.ensures.items

pub rest-preserved : goal.rest-preserved
rest-preserved c =
    close_step c.args.address.now c.args.items.now.items c.rest.items.items c.remove-gone.new.self.items c.in-Some.place
    c.remove-gone.result c.rest.invariant
    (sym c.in-Some.is ∙ c.place_of.ensures.is
    ∙ ap (λ (xs : List Document). position (is_at c.args.address.now) xs) c.as_slice.ensures.value)
    c.remove-gone.ensures.items

pub returns : goal.returns
returns c =
    close_end c.args.address.now c.args.items.now.items c.rest.items.items c.rest.invariant
    (sym c.in_default.is ∙ c.place_of.ensures.is
    ∙ ap (λ (xs : List Document). position (is_at c.args.address.now) xs) c.as_slice.ensures.value)
