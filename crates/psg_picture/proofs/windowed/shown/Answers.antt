use Rattle.std.proofs.Common.{◌≡◌, [], ◌∙◌, sym, ap, map-id, rules, arith}
use Rattle.std.proofs.lemmas.Iterator.Adapters.{YieldsList-from_vec}
use Rattle.std.proofs.lemmas.Iterator.Consumers.{YieldsList-end}
use Rattle.psg_picture.specs.Rows.{shown}
use Rattle.psg_picture.proofs.RowLaws.{IsWalked-step}
use Rattle.psg_picture.proofs.windowed.shown.Goals as goal

pub loop-styled-preserved : goal.loop-styled-preserved
loop-styled-preserved c = record {
  walked = IsWalked-step _ _ _ _ _ _ c.loop-styled.invariant.walked _ _ _ c.in_ok-written.ensures.row (grind arith) c.in_ok-written.ensures.written;
  in_range = omega arith;
}

pub returns : goal.returns
returns c =
    let end = YieldsList-end (YieldsList-from_vec {s = c.into_iter-styled-iterator.result} c.args.line.items (search rules) (search rules))
    c.loop-styled.yielded c.loop-styled.styled-iterator c.loop-styled.yielded_by c.next.result c.next.new.self c.in-None.is c.next.ensures.steps in
    let all : c.loop-styled.yielded ≡ c.args.line.items = sym (map-id c.loop-styled.yielded) ∙ end.0 in
    c.loop-styled.invariant.walked.text ∙ ap (λ line. shown c.args.view [] line) all
