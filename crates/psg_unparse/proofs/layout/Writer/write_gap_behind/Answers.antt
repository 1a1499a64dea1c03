use Rattle.std.proofs.Common.{◌++◌, sym, ap, ◌∙◌, append-nil, string_bytes}
use Rattle.psg_unparse.proofs.Adding.{gap-none}
use Rattle.psg_unparse.proofs.layout.Writer.write_gap_behind.Goals as goal

pub returns-else-needs_space-clause-bytes : goal.returns-else-needs_space-clause-bytes
returns-else-needs_space-clause-bytes c =
    sym (ap (λ x. string_bytes c.args.self.now.out ++ x) (gap-none c.args.self.now c.args.last c.args.begins c.if-self.false (sym c.needs_space.ensures ∙ c.if-needs_space.false)) ∙ append-nil (string_bytes c.args.self.now.out))
