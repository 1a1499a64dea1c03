use Rattle.std.proofs.Common.{◌+◌, ◌&&◌, false, length, drop, ap, sym, ◌∙◌, arith}
use Rattle.std.specs.Str.{chars}
use Rattle.std.proofs.lemmas.Iterator.{YieldsList-from_chars}
use Rattle.std.proofs.lemmas.Iterator.Consumers.{YieldsList-turn, YieldsList-end}
use Rattle.std.proofs.lemmas.List.{at_drop_all, length_push}
use Rattle.psg_tree.specs.WordTests.{is_word_from}
use Rattle.psg_tree.proofs.NameTests.{word_more}
use Rattle.psg_links.proofs.renaming.is_word.Goals as goal

pub returns-then-not-fits_word : goal.returns-then-not-fits_word
returns-then-not-fits_word c =
    let t = YieldsList-turn (YieldsList-from_chars c.args.text.now c.utf8.text cc) c.loop-ch.yielded _ c.loop-ch.yielded_by _ _ c.in-Some.ch c.in-Some.is c.next.ensures.steps in
    ap (λ b. b && is_word_from false (drop (length c.loop-ch.yielded + 1) (chars c.args.text.now))) (sym c.if-not-fits_word.true ∙ c.fits_word.ensures)
    ∙ sym (word_more c.loop-ch.first (chars c.args.text.now) (length c.loop-ch.yielded) c.in-Some.ch t) ∙ c.loop-ch.invariant

pub loop-ch-preserved : goal.loop-ch-preserved
loop-ch-preserved c =
    let t = YieldsList-turn (YieldsList-from_chars c.args.text.now c.utf8.text cc) c.loop-ch.yielded _ c.loop-ch.yielded_by _ _ c.in-Some.ch c.in-Some.is c.next.ensures.steps in
    ap (λ n. is_word_from false (drop n (chars c.args.text.now))) (length_push c.loop-ch.yielded c.in-Some.ch)
    ∙ ap (λ b. b && is_word_from false (drop (length c.loop-ch.yielded + 1) (chars c.args.text.now))) (sym c.if-not-fits_word.false ∙ c.fits_word.ensures)
    ∙ sym (word_more c.loop-ch.first (chars c.args.text.now) (length c.loop-ch.yielded) c.in-Some.ch t) ∙ c.loop-ch.invariant

pub returns : goal.returns
returns c =
    let t = YieldsList-end (YieldsList-from_chars c.args.text.now c.utf8.text cc) c.loop-ch.yielded _ c.loop-ch.yielded_by _ _ c.in-None.is c.next.ensures.steps in
    sym (at_drop_all (is_word_from c.loop-ch.first) (chars c.args.text.now) (length c.loop-ch.yielded) (omega (arith, t.1))) ∙ c.loop-ch.invariant
