use Rattle.psg_server.proofs.edits.text_edits.Goals as goal

pub returns : goal.returns
returns g c = record {
  comments = c.in_ok-own.own.comments.items;
  judged = c.in_ok-own.own.bytes.items;
  is_judged = c.in_ok-own.ensures;
  so = c.in_ok-value.ensures;
}
