use Rattle.std.proofs.Common.{◌∙◌, sym}
use Rattle.std.proofs.lemmas.List.{append-nil}
use Rattle.psg_terms.specs.Text.{term_text}
use Rattle.psg_session.proofs.relating.term_line.Goals as goal

pub returns : goal.returns
returns c = c.in_ok-text.ensures ∙ sym (append-nil (term_text c.args.sig.now c.args.term.now))
