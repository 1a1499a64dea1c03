use Rattle.std.proofs.Common.{◌≡◌, sym, ap, ◌∙◌, subst}
use Rattle.std.proofs.lemmas.Option.{none-some}
use Rattle.psg_library.specs.Heads.{IsHead, first_line, text_in}
use Rattle.psg_library.specs.Keeping.{no_head, no_kind}
use Rattle.psg_library.proofs.reading.begin.Goals as goal

pub returns-in_default-clause-fault : goal.returns-in_default-clause-fault
returns-in_default-clause-fault c = no_head (λ n w h. c.in_default.ensures.cases.0 h.utf8)

pub returns-in_default-read_head-clause-fault : goal.returns-in_default-read_head-clause-fault
returns-in_default-read_head-clause-fault c =
    let line : c.first_line.result.0.now ≡ first_line c.args.bytes.now =
    c.first_line.ensures.line ∙ ap first_line c.in-Ok.ensures.cases.0 in
    no_head (λ n w h. c.in_default-read_head.ensures.none n w (subst (λ l. IsHead l n w) (sym line) h.head))

pub returns-in_default-kind_named-clause-fault : goal.returns-in_default-kind_named-clause-fault
returns-in_default-kind_named-clause-fault c =
    let line : c.first_line.result.0.now ≡ first_line c.args.bytes.now =
    c.first_line.ensures.line ∙ ap first_line c.in-Ok.ensures.cases.0 in
    no_kind c.in-Some.name.now c.in-Some.word.now
    (record {
      utf8 = c.in-Ok.ensures.cases.1;
      head = subst (λ l. IsHead l c.in-Some.name.now c.in-Some.word.now) line c.in-Some.ensures.some;
    })
    (λ kind e. none-some kind (c.in_default-kind_named.ensures.only kind e))

pub returns-clause-head : goal.returns-clause-head
returns-clause-head c =
    let line : c.first_line.result.0.now ≡ first_line c.args.bytes.now =
    c.first_line.ensures.line ∙ ap first_line c.in-Ok.ensures.cases.0 in
    record {
      word = c.in-Some.word.now;
      head = record {
        utf8 = c.in-Ok.ensures.cases.1;
        head = subst (λ l. IsHead l c.in-Some.name.now c.in-Some.word.now) line c.in-Some.ensures.some;
      };
      kind_word = c.in-Some-kind_named.ensures.found;
    }

pub returns-clause-text : goal.returns-clause-text
returns-clause-text c = c.first_line.ensures.rest ∙ ap text_in c.in-Ok.ensures.cases.0
