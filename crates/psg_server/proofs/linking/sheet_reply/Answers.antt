use Rattle.psg_server.proofs.linking.sheet_reply.Goals as goal

pub returns : goal.returns
returns g c = record { linked = c.in_ok-linked.linked; found = c.in_ok-linked.ensures; is = c.in_ok-value.ensures }
