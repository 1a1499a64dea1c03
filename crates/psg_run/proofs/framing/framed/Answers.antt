use Rattle.std.proofs.Common.{count_by, ◌∷◌, [], ◌++◌, ap, sym, append_assoc, ◌∙◌}
use Rattle.std.specs.Prelude.{decimal}
use Rattle.psg_run.specs.Framed.{lines_in}
use Rattle.psg_run.specs.Scripts.{is_feed}
use Rattle.psg_run.proofs.framing.framed.Goals as goal

pub returns : goal.returns
returns c =
    let text = c.args.text.now in
    c.in_ok-all.ensures.ok ∙ ap (λ n. decimal n ++ (10 ∷ text)) (c.count_feeds-count.ensures ∙ ap (count_by is_feed) c.as_bytes.ensures.value) ∙ sym (append_assoc (decimal (lines_in text)) (10 ∷ []) text)
