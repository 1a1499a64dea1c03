-- A fault that `?` hands on.
use Rattle.std.proofs.Common.{◌≡◌, sym, subst}
use Rattle.std.specs.Prelude.{Result, IfErr, IsErrAnd}
use Rattle.std.proofs.lemmas.Result.{err_from_is_err_and}
use Rattle.psg_cache.specs.declared.note.NoteFault.{NoteFault}

pub passed : {T : Type 0} (P : NoteFault → Type 0) (r : Result T NoteFault) (fault : NoteFault)
    → IsErrAnd r (λ e. e ≡ fault) → P fault → IfErr r P
passed P r fault h p = let q = err_from_is_err_and r h in rw q.1 (subst P (sym q.2) p)
