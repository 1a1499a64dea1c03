use Rattle.psg_wanted.proofs.ValueLaws.{none_shown, none_sorted, shown_of, shown_sorted, values_shown}
use Rattle.psg_wanted.proofs.values.told_values.Goals as goal

pub returns-in-Ok-clause-values : goal.returns-in-Ok-clause-values
returns-in-Ok-clause-values c = λ def f path few shown. values_shown def f path c.args.answer c.in-Ok.terms few c.in-Ok.is shown

pub returns-in-Ok-clause-sorted : goal.returns-in-Ok-clause-sorted
returns-in-Ok-clause-sorted c = λ sig all. shown_sorted sig c.in-Ok.terms.items (shown_of sig c.args.answer c.in-Ok.terms c.in-Ok.is all)

pub returns-in_ok-none-in-Err-clause-values : goal.returns-in_ok-none-in-Err-clause-values
returns-in_ok-none-in-Err-clause-values c = λ def f path few shown.
    none_shown def f path c.args.answer c.in-Err.fault c.in_ok-none-in-Err.none.items c.in-Err.is c.in_ok-none-in-Err.ensures.wide c.in_ok-none-in-Err.ensures.none shown

pub returns-in_ok-none-in-Err-clause-sorted : goal.returns-in_ok-none-in-Err-clause-sorted
returns-in_ok-none-in-Err-clause-sorted c = λ sig all. none_sorted sig c.in_ok-none-in-Err.none.items c.in_ok-none-in-Err.ensures.none
