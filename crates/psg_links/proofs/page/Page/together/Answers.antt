use Rattle.std.proofs.Common.{ap, ap₂, sym, ◌∙◌}
use Rattle.psg_links.specs.Spots.{spots_of}
use Rattle.psg_links.proofs.page.Page.together.Goals as goal

pub returns : goal.returns
returns c = λ f h.
    c.in_ok-found.ensures f (h ∙ sym (ap (λ r. r.nodes) c.sheet_of-sheet.ensures.ranges))
    ∙ ap₂ (λ ts ls. spots_of ts f c.args.link.now ls) c.sheet_of-sheet.ensures.tokens c.as_slice-links.ensures.value
