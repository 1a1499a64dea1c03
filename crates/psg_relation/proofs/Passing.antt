-- Where every relation of rows passes the limit, there is one that does; and no rows are within it.
use Rattle.std.proofs.Common.{ℕ, List, [], refl, arith}
use Rattle.std.specs.Prelude.{Result, IfErr}
use Rattle.psg_terms.specs.Terms.{Term}
use Rattle.psg_terms.specs.Signature.{Signature}
use Rattle.psg_terms.specs.Sound.{IsSound}
use Rattle.psg_terms.specs.Relations.{IsRelation}
use Rattle.psg_terms.specs.Weight.{PassesLimit}
use Rattle.psg_relation.specs.declared.relation.RelFault.{RelFault}
use Rattle.psg_relation.specs.Choices.{AllHaveSorts, IsOfRow, HasWide, MayBeWide}
use Rattle.psg_relation.specs.Sealed.{IsSealed}
use Rattle.psg_relation.proofs.Existing.{relation_exists}
use Rattle.psg_relation.proofs.Making.{err_map}

abbrev AllPass : Signature → List (List Term) → Type 0
AllPass sig rows = (sorts : List ℕ) → AllHaveSorts sig rows sorts → (others : List (List Term)) → IsRelation sig sorts (IsOfRow sig rows) others → PassesLimit others

abbrev OnePasses : Signature → List (List Term) → Type 0
OnePasses sig rows = (sorts : List ℕ) → AllHaveSorts sig rows sorts → HasWide sig sorts (IsOfRow sig rows)

pub one_passes : (sig : Signature) → IsSound sig → (rows : List (List Term)) → AllPass sig rows → OnePasses sig rows
one_passes sig sound rows w sorts all = let (others, rel) = relation_exists sig sound rows sorts all in (others, rel, w sorts all others rel)

pub wide_exists : {X : Type 0} (r : Result X RelFault) (sig : Signature) → IsSound sig → (rows : List (List Term)) → IfErr r (MayBeWide (AllPass sig rows)) → IfErr r (MayBeWide (OnePasses sig rows))
wide_exists r sig sound rows h = err_map r (AllPass sig rows) (OnePasses sig rows) (one_passes sig sound rows) h

pub sealed_none : (sig : Signature) → IsSound sig → IsSealed [] 0 0
sealed_none sig sound = record {
  rows_sealed = record {
    sig = sig;
    sound = sound;
    sorts = [];
    sorted = λ row h. elim h [ ];
    canonical = λ row h. elim h [ ];
    apart = λ row other h. elim h [ ];
    once = tt;
    order = tt;
  };
  weight_is = refl;
  deepest_is = refl;
  light = omega arith;
  shallow = omega arith;
}
