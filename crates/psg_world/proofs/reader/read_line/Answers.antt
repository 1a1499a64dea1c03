use Rattle.std.proofs.Common.{rules, ℕ, List, subst}
use Rattle.psg_world.proofs.InputLaws.{LineSoFar, at_feed, dropped_byte, ended, kept_byte}
use Rattle.psg_world.proofs.reader.read_line.Goals.{then-len-limit+in_ok-push, else-len-limit}
use Rattle.psg_world.proofs.reader.read_line.Goals as goal

pub returns-in_default-clause-gives : goal.returns-in_default-clause-gives
returns-in_default-clause-gives g c =
    ended c.args.limit (g.S.Read.remaining c.args.source.now) (g.S.Read.remaining c.loop.source) (g.S.Read.remaining c.read_byte.new.source) c.loop.line
    c.loop.invariant.read (search rules) (search rules)

pub returns-then-byte-eq10-clause-gives : goal.returns-then-byte-eq10-clause-gives
returns-then-byte-eq10-clause-gives g c =
    at_feed c.args.limit (g.S.Read.remaining c.args.source.now) (g.S.Read.remaining c.loop.source) (g.S.Read.remaining c.read_byte.new.source) c.loop.line
    c.in-Some.byte c.loop.invariant.read (search rules) (search rules)

pub loop-preserved : goal.loop-preserved
loop-preserved g c = elim c.if-len-limit.branch [
  | then-len-limit+in_ok-push w ↦ record {
    within = search rules;
    read = kept_byte c.args.limit (g.S.Read.remaining c.args.source.now) (g.S.Read.remaining c.loop.source) (g.S.Read.remaining c.read_byte.new.source)
        c.loop.line.items c.if-len-limit.line.items c.in-Some.byte c.loop.invariant.read (search rules) (search rules) (search rules) (search rules);
  }
  | else-len-limit w ↦ record {
    within = search rules;
    read = subst (λ (l : List ℕ). LineSoFar c.args.limit (g.S.Read.remaining c.args.source.now) (g.S.Read.remaining c.read_byte.new.source) l) (search rules)
        (dropped_byte c.args.limit (g.S.Read.remaining c.args.source.now) (g.S.Read.remaining c.loop.source) (g.S.Read.remaining c.read_byte.new.source)
        c.loop.line.items c.in-Some.byte c.loop.invariant.read (search rules) (search rules) (search rules));
  }
]
