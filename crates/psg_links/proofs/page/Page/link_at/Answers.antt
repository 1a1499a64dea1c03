use Rattle.std.proofs.Common.{ap, sym, ◌∙◌}
use Rattle.std.proofs.lemmas.Option.{MatchOption-at_none, MatchOption-at_some}
use Rattle.psg_links.specs.Spots.{declared_spot}
use Rattle.psg_links.proofs.page.Page.link_at.Goals as goal

pub returns-in_default : goal.returns-in_default
returns-in_default c = λ f h. MatchOption-at_none _ _ c.in_default.is (c.covering.ensures f h)

pub returns : goal.returns
returns c = λ f h.
    let found = MatchOption-at_some _ _ _ c.in-Some.is (c.covering.ensures f h) in (
      c.in-Some.link.now,
      found.link,
      record {
        own = found.spot;
        declaration =
            c.spot_of_declared-declaration.ensures f (h ∙ sym (ap (λ r. r.nodes) c.sheet_of-sheet.ensures.ranges))
            ∙ ap (λ ts. declared_spot ts f c.in-Some.link.now.declaration) c.sheet_of-sheet.ensures.tokens;
        together = c.in_ok-together.ensures f h;
      },
    )
