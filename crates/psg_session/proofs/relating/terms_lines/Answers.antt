use Rattle.std.proofs.Common.{rules, ◌≡◌, ◌<◌, ◌∷◌, [], ◌∙◌, map, length, sym}
use Rattle.std.specs.Prelude.{codes, string_bytes}
use Rattle.psg_relation.proofs.Members.{in-at}
use Rattle.psg_session.proofs.RelationLaws.{lines_of_all, lines_of_none}
use Rattle.psg_session.proofs.relating.terms_lines.Goals as goal

pub returns-then-is_empty : goal.returns-then-is_empty
returns-then-is_empty c =
    let none : length c.args.terms.now ≡ 0 = search rules in
    let one : map string_bytes c.push.new.self.items ≡ codes "none" ∷ [] = search rules in
    one ∙ sym (lines_of_none c.args.sig.now c.args.terms.now none)

pub term_line-requires : goal.term_line-requires
term_line-requires c =
    c.requires c.term-item.result (in-at c.term-item.result c.args.terms.now c.loop-term.term-index c.loop-term-test.true c.term-item.is)

pub returns : goal.returns
returns c =
    let some : 0 < length c.args.terms.now = search rules in
    let end : c.loop-term.term-index ≡ length c.args.terms.now = search rules in
    lines_of_all c.args.sig.now c.args.terms.now (map string_bytes c.loop-term.lines.items) c.loop-term.term-index end some c.loop-term.invariant
