use Rattle.std.proofs.Common.{IsTrue, sym, ◌∙◌, subst}
use Rattle.psg_terms.specs.Names.{is_among}
use Rattle.psg_parse.proofs.Terminals.{name_by}
use Rattle.psg_parse.proofs.seen.see_word.Goals as goal

pub returns : goal.returns
returns c = name_by c.args.text.now _ c.reserved.result (λ h. c.reserved.ensures.exact.1 (subst (λ ws. IsTrue (is_among ws c.args.text.now)) (sym c.requires) h.0, h.1)) c.if-reserved.false (sym c.is_word.ensures ∙ c.if-not-is_word.false)
