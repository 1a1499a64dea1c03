use Rattle.psg_cache.specs.Annotated.{tree_in}
use Rattle.psg_cache.specs.Notes.{IsFormed}
use Rattle.psg_grammar.specs.Fragments.{Fragment}
use Rattle.psg_grammar.specs.Paths.{Path}
use Rattle.psg_explain.specs.Explanations.{IsAbout, IsFirstCulprit}
use Rattle.psg_explain.specs.Refutations.{Refutes}
use Rattle.std.proofs.Common.{sym, subst}
use Rattle.psg_run.proofs.Saying.{about_culprit, fine_said, long_said, right_refutation, wrong_said}
use Rattle.psg_run.proofs.explaining.noted_text.Goals as goal

pub returns-in-Fine-clause-text : goal.returns-in-Fine-clause-text
returns-in-Fine-clause-text g c =
    fine_said c.args.language.now (tree_in c.args.note.now) c.in_ok-explained.explained c.in_ok-explained.ensures.explained c.in-Fine.is c.from_str.result c.from_str.ensures.ok

pub returns-in-Long-clause-text : goal.returns-in-Long-clause-text
returns-in-Long-clause-text g c =
    long_said c.args.language.now (tree_in c.args.note.now) c.in_ok-explained.explained c.in_ok-explained.ensures.explained c.in-Long.is c.from_str-in-Long.result c.from_str-in-Long.ensures.ok

pub checked_text-requires-clause-formed : goal.checked_text-requires-clause-formed
checked_text-requires-clause-formed g c =
    subst (λ (f : Fragment). IsFormed c.args.language.now f) (sym c.tree.ensures) c.requires.formed

pub checked_text-requires-clause-right : goal.checked_text-requires-clause-right
checked_text-requires-clause-right g c =
    subst (λ (f : Fragment). Refutes c.args.language.now f c.in-Wrong.refutation) (sym c.tree.ensures)
    (right_refutation c.args.language.now (tree_in c.args.note.now) c.in_ok-explained.explained c.in_ok-explained.ensures.explained c.in-Wrong.refutation c.in-Wrong.is)

pub checked_text-requires-clause-about : goal.checked_text-requires-clause-about
checked_text-requires-clause-about g c =
    subst (λ (f : Fragment). (path : Path) × (node : Fragment) × IsFirstCulprit c.args.language.now f path node × IsAbout c.args.language.now path node c.in-Wrong.refutation) (sym c.tree.ensures)
    (about_culprit c.args.language.now (tree_in c.args.note.now) c.in_ok-explained.explained c.in_ok-explained.ensures.explained c.in-Wrong.refutation c.in-Wrong.is)

pub returns-in-Wrong-clause-text : goal.returns-in-Wrong-clause-text
returns-in-Wrong-clause-text g c =
    wrong_said c.args.language.now (tree_in c.args.note.now) c.in_ok-explained.explained c.in_ok-explained.ensures.explained c.in-Wrong.refutation c.tree.result.now c.in-Wrong.is c.tree.ensures
    c.checked_text.result c.checked_text.ensures
