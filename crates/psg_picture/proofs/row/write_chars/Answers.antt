use Rattle.std.proofs.Common.{◌≡◌, ◌∷◌, [], ◌∙◌, sym, ap, map-id, rules}
use Rattle.std.proofs.lemmas.Iterator.Adapters.{YieldsList-from_vec}
use Rattle.std.proofs.lemmas.Iterator.Consumers.{YieldsList-end}
use Rattle.psg_canvas.specs.Sketching.{with_char}
use Rattle.psg_picture.specs.Rows.{written}
use Rattle.psg_picture.proofs.SketchSteps.{written-append}
use Rattle.psg_picture.proofs.row.write_chars.Goals as goal

pub loop-styled-preserved : goal.loop-styled-preserved
loop-styled-preserved c =
    c.in_ok-write.ensures.written
    ∙ ap (with_char c.in-Some.styled.c c.in-Some.styled.style) c.loop-styled.invariant
    ∙ sym (written-append c.loop-styled.yielded (c.in-Some.styled ∷ []) c.args.sketch.now)

pub returns : goal.returns
returns c =
    let end = YieldsList-end (YieldsList-from_vec {s = c.into_iter-styled-iterator.result} c.args.chars.items (search rules) (search rules))
    c.loop-styled.yielded c.loop-styled.styled-iterator c.loop-styled.yielded_by c.next.result c.next.new.self c.in-None.is c.next.ensures.steps in
    let all : c.loop-styled.yielded ≡ c.args.chars.items = sym (map-id c.loop-styled.yielded) ∙ end.0 in
    c.loop-styled.invariant ∙ ap (λ cs. written cs c.args.sketch.now) all
