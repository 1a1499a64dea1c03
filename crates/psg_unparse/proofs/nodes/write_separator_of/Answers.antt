use Rattle.std.proofs.Common.{[], ◌∷◌, subst, sym, cond}
use Rattle.psg_grammar.specs.declared.types.Item.TheVariants as items
use Rattle.psg_unparse.specs.Rows.{token, mark}
use Rattle.psg_unparse.specs.Writing.{Adds}
use Rattle.psg_unparse.proofs.Adding.{adds-then}
use Rattle.psg_unparse.proofs.nodes.write_separator_of.Goals as goal

pub returns-then-kind : goal.returns-then-kind
returns-then-kind c =
    subst (λ b. Adds (mark items.Tight ∷ token c.args.kind.now.separator ∷ mark (cond b items.Line items.Space) ∷ []) c.args.writer.now c.put_line.new.self) (sym c.if-kind.true)
    (subst (λ t. Adds (mark items.Tight ∷ token t ∷ mark items.Line ∷ []) c.args.writer.now c.put_line.new.self) c.as_str.ensures
    (adds-then c.put_tight.ensures (adds-then c.in_ok-put_token.ensures c.put_line.ensures)))

pub returns-else-kind : goal.returns-else-kind
returns-else-kind c =
    subst (λ b. Adds (mark items.Tight ∷ token c.args.kind.now.separator ∷ mark (cond b items.Line items.Space) ∷ []) c.args.writer.now c.put_space.new.self) (sym c.if-kind.false)
    (subst (λ t. Adds (mark items.Tight ∷ token t ∷ mark items.Space ∷ []) c.args.writer.now c.put_space.new.self) c.as_str.ensures
    (adds-then c.put_tight.ensures (adds-then c.in_ok-put_token.ensures c.put_space.ensures)))
