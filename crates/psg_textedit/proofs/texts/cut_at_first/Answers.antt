use Rattle.std.proofs.Common.{sym, subst, lit<}
use Rattle.std.proofs.lemmas.Str.Pattern.{find_char}
use Rattle.psg_unparse.specs.Splicing.{IsOneLine}
use Rattle.psg_textedit.proofs.LineCuts.{first_line, one_line}
use Rattle.psg_textedit.proofs.texts.cut_at_first.Goals as goal

pub returns-in-Some-clause-one : goal.returns-in-Some-clause-one
returns-in-Some-clause-one c =
    let found = rw c.in-Some.is at (find_char 10 c.args.text.now _ c.find.ensures.cases (lit< tt)) in
    subst IsOneLine (sym c.split_at.ensures.front) (first_line c.args.text.now c.in-Some.first found.2)

pub returns-in-None-clause-one : goal.returns-in-None-clause-one
returns-in-None-clause-one c =
    one_line c.args.text.now (rw c.in-None.is at (find_char 10 c.args.text.now _ c.find.ensures.cases (lit< tt)))
