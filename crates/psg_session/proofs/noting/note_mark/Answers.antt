use Rattle.std.proofs.Common.{◌≡◌, [], ◌∷◌, List, ap, ◌∙◌, sym, refl, true≢false}
use Rattle.psg_grammar.specs.Marks.{wrong}
use Rattle.psg_grammar.specs.Paths.{Path}
use Rattle.psg_cache.specs.Blames.{culprits_in}
use Rattle.psg_cache.specs.Notes.{mark_by}
use Rattle.psg_session.proofs.noting.note_mark.Goals as goal

some_mark : (paths : List Path) → (paths ≡ [] → ⊥) → wrong paths ≡ mark_by paths
some_mark [] some = absurd (some refl)
some_mark (p ∷ paths) some = refl

pub returns-then-is_good : goal.returns-then-is_good
returns-then-is_good c = sym (ap mark_by (c.is_good.ensures.culprits.0 c.if-is_good.true))

pub returns : goal.returns
returns c =
    ap wrong c.in_ok-culprits.ensures.paths
    ∙ some_mark (culprits_in c.args.note.now)
    (λ none. true≢false (sym (c.is_good.ensures.culprits.1 none) ∙ c.if-is_good.false))
