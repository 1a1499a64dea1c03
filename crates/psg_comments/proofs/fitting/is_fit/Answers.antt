use Rattle.std.proofs.Common.{sym, ◌∙◌}
use Rattle.psg_comments.proofs.Fits.{fit_by, unfit_by}
use Rattle.psg_comments.proofs.fitting.is_fit.Goals as goal

pub returns-then-not-begins_with : goal.returns-then-not-begins_with
returns-then-not-begins_with c =
    fit_by c.args.words.now c.args.token.now (sym c.begins_symbol.ensures ∙ c.if-not-begins_symbol.false)
    (c.all_symbols.ensures.0 c.if-not-all_symbols.false) (sym c.begins_with.ensures ∙ c.if-not-begins_with.true)
    c.begins_word.result c.begins_word.ensures

pub returns-else-not-begins_with : goal.returns-else-not-begins_with
returns-else-not-begins_with c =
    unfit_by c.args.words.now c.args.token.now c.begins_with.result c.begins_with.ensures c.if-not-begins_with.false
