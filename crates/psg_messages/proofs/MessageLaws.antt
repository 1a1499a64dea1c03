-- Lists of values.
use Rattle.std.proofs.Common.{◌≡◌, suc, true, false, List, [], ◌∷◌, length, refl, sym, arith}
use Rattle.std.specs.Prelude.{◌==◌}
use Rattle.std.proofs.lemmas.Bool.{false≢true}
use Rattle.std.proofs.lemmas.Bool.Decides.{nat_tests}
use Rattle.serde_json.specs.Data.{array}
use Rattle.serde_json.specs.View.{items_view}
use Rattle.serde_json.specs.declared.value.Value.{Value}
use Rattle.psg_messages.specs.Messages.{given_in, nothing, wrong_params}

pub list_none : (items : List Value) → (length items == 0) ≡ true → nothing ≡ given_in (array (items_view items))
list_none [] none = refl
list_none (x ∷ xs) none = absurd (let e : suc (length xs) ≡ 0 = grind (arith, nat_tests, none) in omega (arith, e))

pub list_some : (items : List Value) → (length items == 0) ≡ false → wrong_params ≡ given_in (array (items_view items))
list_some [] some = absurd (false≢true (sym some))
list_some (x ∷ xs) some = refl
