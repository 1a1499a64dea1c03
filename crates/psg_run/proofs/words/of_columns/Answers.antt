use Rattle.psg_run.proofs.WordForms.{columns_wanted, no_columns}
use Rattle.psg_run.proofs.words.of_columns.Goals as goal

pub returns-in-Some : goal.returns-in-Some
returns-in-Some c = λ form is.
    columns_wanted form c.args.definition.now c.args.script.now c.args.rules.now c.args.columns.now c.in-Some.columns is c.in-Some.ensures

pub returns-in-None : goal.returns-in-None
returns-in-None c = λ form is.
    no_columns form c.args.definition.now c.args.script.now c.args.rules.now c.args.columns.now is c.in-None.ensures
