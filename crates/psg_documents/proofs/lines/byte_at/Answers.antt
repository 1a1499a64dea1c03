use Rattle.std.proofs.lemmas.Str.{IsCharBoundary-start}
use Rattle.psg_documents.proofs.StartLaws.{byte_at_is, feed_is, on_bytes, past_end_is}
use Rattle.psg_documents.proofs.lines.byte_at.Goals as goal

pub returns-then-position-starts : goal.returns-then-position-starts
returns-then-position-starts c =
    past_end_is c.args.encoding c.args.text.now c.as_bytes-bytes.result.now c.args.starts.now c.args.position.line c.args.position.column
    c.as_bytes-bytes.ensures.value c.requires c.if-position-starts.true

pub end_of-end-requires-clause-within : goal.end_of-end-requires-clause-within
end_of-end-requires-clause-within c =
    (feed_is c.as_bytes-bytes.result.now c.args.starts.now c.args.position.line c.feed_of-feed.result
    (on_bytes c.args.text.now c.as_bytes-bytes.result.now c.args.starts.now c.as_bytes-bytes.ensures.value c.requires)
    c.if-position-starts.false c.feed_of-feed.ensures.last c.feed_of-feed.ensures.next).within

pub last_stop-requires : goal.last_stop-requires
last_stop-requires c = IsCharBoundary-start c.as_bytes-bytes.result.now c.as_bytes-bytes.ensures.utf8

pub returns : goal.returns
returns c =
    byte_at_is c.args.encoding c.args.text.now c.as_bytes-bytes.result.now c.args.starts.now c.args.position.line c.args.position.column
    c.feed_of-feed.result c.end_of-end.result c.reached-most.result c.last_stop.result c.as_bytes-bytes.ensures.value
    c.as_bytes-bytes.ensures.utf8 c.requires c.if-position-starts.false c.feed_of-feed.ensures.last c.feed_of-feed.ensures.next
    c.end_of-end.ensures.to c.end_of-end.ensures.last
    (record {
      from = c.reached-most.ensures.from;
      to = c.reached-most.ensures.to;
      few = c.reached-most.ensures.most;
      next = c.reached-most.ensures.next;
    })
    c.last_stop.ensures
