use Rattle.std.proofs.Common.{◌≡◌, ◌↔◌, ◌∙◌, ap, ap₂, arith, map, subst, sym, take, true}
use Rattle.std.specs.Prelude.{string_bytes}
use Rattle.psg_class.specs.Class.{IsClass}
use Rattle.psg_class.specs.Texts.{tokens_of}
use Rattle.psg_parse.specs.Stops.{MayEnd}
use Rattle.psg_program.specs.Messages.{HasSpan, stop_byte, stop_message}
use Rattle.psg_stop.specs.Wanted.{wanted_terminals}
use Rattle.psg_recover.specs.Findings.{error_at}
use Rattle.psg_recover.specs.Grammars.{quiet}
use Rattle.psg_recover.specs.Recovery.{IsStopTold}
use Rattle.psg_recover.proofs.ReaderLaws.{trees_at}
use Rattle.psg_recover.proofs.RowLaws.{spans_behind}
use Rattle.psg_recover.proofs.ToldLaws.{AreFacts, facts_moved, facts_stop, facts_wanted, stop_told}
use Rattle.psg_recover.proofs.recovery.told_stop.Goals as goal

pub find_stop-requires : goal.find_stop-requires
find_stop-requires c =
    let r = c.requires.reader in
    record { class = subst IsClass (sym r.grammar) r.class; table = r.table }

pub stop_message-requires : goal.stop_message-requires
stop_message-requires c =
    let r = c.requires.reader in
    let def = c.args.reader.known.definition.now in
    let kind = c.args.reader.kind in
    let ts = c.args.tokens.now in
    let found = c.in_ok-found.found in
    let f = c.in_ok-found.ensures in
    let facts : AreFacts (quiet def) kind 0 (tokens_of ts) found.tokens found.may_end (wanted_terminals found.wanted.items) =
    facts_moved c.args.reader.grammar.now.definition (quiet def) c.whole-goal.result kind (tokens_of ts) found.tokens found.may_end
    (wanted_terminals found.wanted.items) r.grammar c.whole-goal.ensures.kind c.whole-goal.ensures.least (f.stop, f.ends, f.wanted) in
    let stop = facts_stop (quiet def) kind r.can_end (trees_at def r.can_end kind r.kind) (tokens_of ts) found.tokens found.may_end
    (wanted_terminals found.wanted.items) facts in
    spans_behind def kind c.args.text.now ts c.requires.row found.tokens stop c.in_ok-stop.stop.tokens (omega (arith, c.in_ok-stop.ensures.tokens))

pub returns : goal.returns
returns c =
    let r = c.requires.reader in
    let def = c.args.reader.known.definition.now in
    let kind = c.args.reader.kind in
    let ts = c.args.tokens.now in
    let found = c.in_ok-found.found in
    let f = c.in_ok-found.ensures in
    let own = c.in_ok-stop.stop in
    let s = c.in_ok-stop.ensures in
    let words = map string_bytes c.in_ok-words.words.items in
    let facts : AreFacts (quiet def) kind 0 (tokens_of ts) found.tokens found.may_end (wanted_terminals found.wanted.items) =
    facts_moved c.args.reader.grammar.now.definition (quiet def) c.whole-goal.result kind (tokens_of ts) found.tokens found.may_end
    (wanted_terminals found.wanted.items) r.grammar c.whole-goal.ensures.kind c.whole-goal.ensures.least (f.stop, f.ends, f.wanted) in
    let trees = trees_at def r.can_end kind r.kind in
    let stop = facts_stop (quiet def) kind r.can_end trees (tokens_of ts) found.tokens found.may_end (wanted_terminals found.wanted.items) facts in
    let wanted = facts_wanted (quiet def) kind r.can_end trees (tokens_of ts) found.tokens found.may_end (wanted_terminals found.wanted.items) facts in
    let ends : (own.may_end ≡ true) ↔ MayEnd (quiet def) kind 0 (take found.tokens (tokens_of ts)) =
    subst (λ b. (b ≡ true) ↔ MayEnd (quiet def) kind 0 (take found.tokens (tokens_of ts))) (sym s.ends) facts.1 in
    let told = c.in_ok-finding.ensures
    ∙ ap₂ error_at c.stop_byte-byte.ensures (c.in_ok-message.ensures ∙ ap (λ ws. stop_message c.args.text.now ts own.tokens (map string_bytes ws)) c.as_slice.ensures.value)
    ∙ ap (λ k. error_at (stop_byte ts k) (stop_message c.args.text.now ts k words)) s.tokens in
    subst (λ k. IsStopTold def kind c.args.text.now ts k c.in_ok-finding.finding) (sym s.tokens)
    (stop_told def kind c.args.text.now ts c.requires.stops found.tokens stop found.wanted.items own.wanted.items wanted s.wanted
    own.may_end ends words c.in_ok-words.ensures c.in_ok-finding.finding told)
