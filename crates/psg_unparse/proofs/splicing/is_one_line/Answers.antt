use Rattle.std.proofs.Common.{lit<}
use Rattle.std.proofs.lemmas.Str.Pattern.{contains_char}
use Rattle.psg_unparse.proofs.SplicePlaces.{line_tells}
use Rattle.psg_unparse.proofs.splicing.is_one_line.Goals as goal

pub returns : goal.returns
returns c =
    line_tells c.args.text.now c.contains.result (contains_char 10 c.args.text.now c.contains.result c.contains.ensures.cases (lit< tt))
