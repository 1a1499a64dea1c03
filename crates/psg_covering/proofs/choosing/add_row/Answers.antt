use Rattle.std.proofs.Common.{sym, ◌∙◌, true≢false}
use Rattle.psg_covering.proofs.Adding.{drop_covered, fit_terms, put_row}
use Rattle.psg_covering.proofs.choosing.add_row.Goals as goal

pub returns-then-branch : goal.returns-then-branch
returns-then-branch c ks fits =
    drop_covered c.args.definition.now c.args.kind c.requires.sound ks c.args.front.now.rows.items c.args.row fits
    (λ head columns e. (c.in_ok-has_head_cover.ensures head columns (c.terms.ensures ∙ e)).0 c.if-branch.true)

pub put-requires : goal.put-requires
put-requires c = let (ks, fits) = c.requires.fits in fit_terms c.args.definition.now c.args.kind ks c.args.row fits

pub returns : goal.returns
returns c ks fits =
    put_row c.args.definition.now c.args.kind c.requires.sound ks c.args.front.now.rows.items c.put.new.self.rows.items c.args.row fits
    (λ head columns e cover. true≢false (sym ((c.in_ok-has_head_cover.ensures head columns (c.terms.ensures ∙ e)).1 cover) ∙ c.if-branch.false))
    c.in_ok-put.ensures
