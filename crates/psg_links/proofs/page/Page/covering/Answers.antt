use Rattle.std.proofs.Common.{◌≡◌, List, None, ap, subst, sym, ◌∙◌}
use Rattle.std.specs.Prelude.{MatchOption}
use Rattle.psg_lexis.specs.declared.token.Spanned.{Spanned}
use Rattle.psg_links.specs.declared.link.Link.{Link}
use Rattle.psg_links.specs.Spots.{IsCovering, link_at}
use Rattle.psg_links.proofs.page.Page.covering.Goals as goal

pub returns : goal.returns
returns c = λ f h.
    subst (λ (ls : List Link). MatchOption c.first_covering.result (link_at c.args.self.now.tokens.items f c.args.byte ls ≡ None)
    (λ found. IsCovering c.args.self.now.tokens.items f c.args.byte ls found.0.now found.1)) c.as_slice-links.ensures.value
    (subst (λ (ts : List Spanned). MatchOption c.first_covering.result (link_at ts f c.args.byte c.as_slice-links.result.now ≡ None)
    (λ found. IsCovering ts f c.args.byte c.as_slice-links.result.now found.0.now found.1)) c.sheet_of-sheet.ensures.tokens
    (c.first_covering.ensures f (h ∙ sym (ap (λ r. r.nodes) c.sheet_of-sheet.ensures.ranges))))
