use Rattle.std.proofs.Common.{rules, ◌≡◌, length, append-nil, ap, sym}
use Rattle.psg_class.specs.Terminals.{fixed}
use Rattle.psg_stop.specs.Wanted.{word_terminal, wanted_terminals}
use Rattle.psg_stop.specs.declared.wanted.Wanted.TheVariants as wants
use Rattle.psg_stop.proofs.Rows.{added_next, added_whole}
use Rattle.psg_program.proofs.expected.add_words.Goals as goal

pub loop-word-init : goal.loop-word-init
loop-word-init c = sym (append-nil (wanted_terminals c.args.all.now.items))

pub loop-word-preserved : goal.loop-word-preserved
loop-word-preserved c =
    added_next word_terminal (wanted_terminals c.args.all.now.items) c.args.words.now c.loop-word.all.items c.push.new.self.items c.loop-word.word-index c.word-item.result (wants.Fixed c.in_ok-text.text)
    c.loop-word-test.true c.word-item.is c.loop-word.invariant c.in_ok-push.ensures.items (ap fixed c.in_ok-text.ensures)

pub returns : goal.returns
returns c =
    let end : c.loop-word.word-index ≡ length c.args.words.now = search rules in
    added_whole word_terminal (wanted_terminals c.args.all.now.items) c.args.words.now c.loop-word.all.items c.loop-word.word-index end c.loop-word.invariant
