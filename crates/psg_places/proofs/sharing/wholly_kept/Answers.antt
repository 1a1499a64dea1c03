use Rattle.std.proofs.Common.{◌+◌, ◌∙◌, ap, sym, subst}
use Rattle.psg_places.specs.Blame.{kept_in}
use Rattle.psg_places.specs.Openings.{Keeps}
use Rattle.psg_places.proofs.KeptLaws.{kept_whole}
use Rattle.psg_places.proofs.sharing.wholly_kept.Goals as goal

pub returns-then-keeps_all : goal.returns-then-keeps_all
returns-then-keeps_all c =
    let whole = c.in_ok-whole.ensures in
    record {
      tree =
          whole.tree ∙ sym (kept_whole c.args.keeping c.args.place c.args.tree.now
          (subst (Keeps (kept_in c.args.keeping.keep.now) c.args.place)
          (c.in_ok-end.ensures.sum ∙ ap (λ n. c.args.place + n) whole.others) (c.keeps_all.ensures c.if-keeps_all.true)));
      declared = whole.declared;
      others = whole.others;
    }
