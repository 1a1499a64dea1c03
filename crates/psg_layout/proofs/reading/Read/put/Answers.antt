use Rattle.std.proofs.Common.{Some, ◌∷◌, ◌++◌, [], refl, ap, sym, subst, ◌∙◌}
use Rattle.psg_layout.specs.Layouts.{op_of}
use Rattle.psg_layout.specs.Looked.{has_group, has_break}
use Rattle.psg_layout.specs.Reading.{IsRead}
use Rattle.psg_layout.specs.Rules.{said}
use Rattle.psg_layout.proofs.ReadLaws.{kept_group, kept_break}
use Rattle.psg_layout.proofs.reading.Read.put.Goals as goal

pub returns-in_ok-put_group-in-Group : goal.returns-in_ok-put_group-in-Group
returns-in_ok-put_group-in-Group c = λ def rules h n.
    subst (λ x. IsRead def (record { groups = c.push.new.self; breaks = c.args.self.now.breaks; rules = c.put_group.new.self }) (rules ++ said x ∷ [])) (sym c.in-Group.is)
    (kept_group def c.args.op c.in-Group.field-0.now rules c.args.self.now (record { groups = c.push.new.self; breaks = c.args.self.now.breaks; rules = c.put_group.new.self })
    (n ∙ ap (λ x. Some (op_of (said x))) c.in-Group.is) h c.in_ok-push-in-Group.ensures.items refl c.in_ok-put_group-in-Group.ensures.groups
    (λ q k. ap (λ b. has_break (record { groups = c.put_group.new.self.groups; breaks = b }) q k) c.put_group.ensures.breaks))

pub returns-in_ok-put_break-in-Break : goal.returns-in_ok-put_break-in-Break
returns-in_ok-put_break-in-Break c = λ def rules h n.
    subst (λ x. IsRead def (record { groups = c.args.self.now.groups; breaks = c.push-in-Break.new.self; rules = c.put_break.new.self }) (rules ++ said x ∷ [])) (sym c.in-Break.is)
    (kept_break def c.args.op c.in-Break.place c.in-Break.field-0.now rules c.args.self.now (record { groups = c.args.self.now.groups; breaks = c.push-in-Break.new.self; rules = c.put_break.new.self })
    (n ∙ ap (λ x. Some (op_of (said x))) c.in-Break.is) h c.in_ok-push-in-Break.ensures.items refl c.in_ok-put_break-in-Break.ensures.breaks
    (λ q. ap (λ g. has_group (record { groups = g; breaks = c.put_break.new.self.breaks }) q) c.put_break.ensures.groups))
