use Rattle.psg_script.proofs.FormLemmas.{alone_words, alone_read}
use Rattle.psg_script.proofs.forms.place_alone.Goals as goal

pub returns-in-One : goal.returns-in-One
returns-in-One c = alone_read _ _ c.args.behind.now c.in-One.ensures c.read_place.ensures

pub returns-in_default : goal.returns-in_default
returns-in_default c = alone_words _ c.args.behind.now c.words_behind.ensures c.in_default.not-One
