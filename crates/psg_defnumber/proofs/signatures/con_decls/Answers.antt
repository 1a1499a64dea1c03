use Rattle.std.proofs.Common.{◌∙◌}
use Rattle.psg_defnumber.proofs.SortLineLaws.{copy-next, copy-all, same-con}
use Rattle.psg_defnumber.proofs.signatures.con_decls.Goals as goal

pub loop-decl-preserved : goal.loop-decl-preserved
loop-decl-preserved c =
    copy-next c.args.decls.now c.loop-decl.made.items c.push.new.self.items c.loop-decl.decl-index c.decl-item.result (record { name = c.in_ok-name.name; args = c.of.result }) c.loop-decl-test.true c.decl-item.is c.loop-decl.invariant c.in_ok-push.ensures.items
    (same-con c.decl-item.result c.in_ok-name.name c.of.result c.in_ok-name.ensures (c.of.ensures ∙ c.in_ok-args.ensures ∙ c.as_slice.ensures))

pub returns : goal.returns
returns c = copy-all c.args.decls.now c.loop-decl.made.items c.loop-decl.decl-index c.loop-decl-test.false c.loop-decl.invariant
