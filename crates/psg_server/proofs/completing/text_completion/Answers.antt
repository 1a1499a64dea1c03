use Rattle.psg_server.proofs.completing.text_completion.Goals as goal

pub returns : goal.returns
returns g c = record {
  byte = c.byte_of-byte.result;
  is_byte = c.byte_of-byte.ensures;
  asked = record {
    comments = c.in_ok-own.own.comments.items;
    judged = c.in_ok-own.own.bytes.items;
    is_asked = c.in_ok-own.ensures;
    so = c.in_ok-value.ensures;
  };
}
