use Rattle.psg_run.proofs.WordForms.{no_number, number_wanted}
use Rattle.psg_run.proofs.words.of_number.Goals as goal

pub returns-in-Some : goal.returns-in-Some
returns-in-Some c = λ form is. number_wanted form c.args.word.now c.in-Some.number is c.in-Some.ensures

pub returns-in-None : goal.returns-in-None
returns-in-None c = λ form is. no_number form c.args.word.now is c.in-None.ensures
