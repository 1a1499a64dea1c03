-- What a run of a prompt writes.
use Rattle.std.proofs.Common.{◌≡◌, ℕ, ◌+◌, ◌-◌, ◌^◌, ◌<◌, ◌≤◌, false, true, List, [], ◌++◌, Option, Some, None, refl, sym, ap, ◌∙◌, append-nil, append_assoc, subst, length, take, inl, inr}
use Rattle.std.specs.Prelude.{Result, Ok, Err, OnOk, OnErr}
use Rattle.std.specs.declared.alloc.AllocError.{AllocError}
use Rattle.std.specs.Io.KnownBytes.{append_known}
use Rattle.psg_keys.specs.Reading.{HasRead, Spelled, Waiting, at_first}
use Rattle.psg_world.specs.Pieces.{IsPieceOf}
use Rattle.psg_world.specs.Sinks.{TakesFront}
use Rattle.psg_prompt.specs.declared.running.Ending.{Ending}
use Rattle.psg_prompt.specs.declared.running.Ending.TheVariants as endings
use Rattle.psg_prompt.specs.Prompts.{Prompted, after_keys, told_end, IsToldOfFirst}
use Rattle.psg_prompt.specs.Running.{HasRun, IsAnswer, IsCut, IsOfReading, IsOfWriting, IsRead, IsTurn, Runs, Scene, Writes, answer, scene}
use Rattle.psg_prompt.specs.Running.{by_count, by_cut, by_input, by_key, by_read, is_run, no_memory, not_begun, not_written, turn}

twice : (a : Option (List ℕ)) (x y : List ℕ) → append_known (append_known a x) y ≡ append_known a (x ++ y)
twice None x y = refl
twice (Some w) x y = ap Some (append_assoc w x y)

nothing_more : (a : Option (List ℕ)) → append_known a [] ≡ a
nothing_more None = refl
nothing_more (Some w) = ap Some (append-nil w)

then_writes : (a b c : Option (List ℕ)) (x y : List ℕ) → b ≡ append_known a x → c ≡ append_known b y
    → c ≡ append_known a (x ++ y)
then_writes a b c x y e f = f ∙ ap (λ o. append_known o y) e ∙ twice a x y

-- whatever comes after these turns, with them it is a run from the beginning
pub record SoFar (s : Scene) (before now : Option (List ℕ)) (turns : ℕ) (t : Scene) : Type 0 where
  pub bytes : List ℕ
  pub written : now ≡ append_known before bytes
  pub goes : (ending : Ending) (more : List ℕ) → Runs turns t ending more → Runs 0 s ending (bytes ++ more)

pub so_far_none : (p : Prompted) (input : Option (List ℕ)) (r : Waiting) (a : Option (List ℕ)) → r ≡ at_first
    → SoFar (scene p at_first input) a a 0 (scene p r input)
so_far_none p input r a e = record {
  bytes = [];
  written = sym (nothing_more a);
  goes = λ ending more run. subst (λ (x : Waiting). Runs 0 (scene p x input) ending more) e run;
}

module _ (s t : Scene) (before now : Option (List ℕ)) (turns : ℕ) (far : SoFar s before now turns t) where
  so_ends : (next : Option (List ℕ)) (bytes : List ℕ) → next ≡ append_known now bytes → (ending : Ending)
      → Runs turns t ending bytes → Writes before next (Runs 0 s ending)
  so_ends next bytes added ending r = (
    far.bytes ++ bytes,
    far.goes ending bytes r,
    then_writes before now next far.bytes bytes far.written added,
  )

  pub so_stops : (ending : Ending) → IsOfReading ending → Writes before now (Runs 0 s ending)
  so_stops ending reading = so_ends now [] (sym (nothing_more now)) ending (by_read reading)

  pub so_inputs : (rest : Option (List ℕ)) (piece : List ℕ) → IsPieceOf t.input rest piece → piece ≡ []
      → Writes before now (Runs 0 s endings.Done)
  so_inputs rest piece given none =
      so_ends now [] (sym (nothing_more now)) endings.Done
      (by_input rest (subst (λ (x : List ℕ). IsPieceOf t.input rest x) none given))

  pub so_counted : 2 ^ 64 - 1 ≤ turns → Writes before now (Runs 0 s endings.Done)
  so_counted all = so_ends now [] (sym (nothing_more now)) endings.Done (by_count all)

  pub so_cut : (next : Option (List ℕ)) (strokes : List Spelled) (reader : Waiting) (rest : Option (List ℕ))
      → IsRead t strokes reader rest → (ending : Ending) → Writes now next (IsCut t.prompt strokes ending)
      → Writes before next (Runs 0 s ending)
  so_cut next strokes reader rest read ending w = so_ends next w.0 w.2 ending (by_cut read w.1)

  module _ (next : Option (List ℕ)) (strokes : List Spelled) (u : Scene) (read : IsRead t strokes u.reader u.input) (pressed : u.prompt ≡ after_keys t.prompt strokes) (added : next ≡ append_known now (answer t.prompt strokes)) where
    is_turn : IsTurn t (answer t.prompt strokes) u
    is_turn = record { strokes = strokes; read = read; pressed = pressed; told = refl }

    pub so_keyed : u.prompt.ended ≡ true → Writes before next (Runs 0 s endings.Done)
    so_keyed ended = so_ends next (answer t.prompt strokes) added endings.Done (by_key is_turn ended)

    pub so_next : u.prompt.ended ≡ false → SoFar s before next (turns + 1) u
    so_next still = record {
      bytes = far.bytes ++ answer t.prompt strokes;
      written = then_writes before now next far.bytes (answer t.prompt strokes) far.written added;
      goes = λ ending more r.
          subst (λ x. Runs 0 s ending x) (sym (append_assoc far.bytes (answer t.prompt strokes) more))
          (far.goes ending (answer t.prompt strokes ++ more) (turn is_turn still r));
    }

-- a piece that is read, from its parts
pub read_so : (s : Scene) (given piece : List ℕ) (made strokes : List Spelled) (reader : Waiting) (input : Option (List ℕ))
    → IsPieceOf s.input input given → piece ≡ given → (piece ≡ [] → ⊥) → HasRead s.reader piece made reader → strokes ≡ made
    → IsRead s strokes reader input
read_so s given piece made strokes reader input gives looked more reads same = record {
  piece = piece;
  given = subst (λ (x : List ℕ). IsPieceOf s.input input x) (sym looked) gives;
  more = more;
  reads = subst (λ (x : List Spelled). HasRead s.reader piece x reader) (sym same) reads;
}

-- ---- what is written of a piece where that is not all

module _ (p : Prompted) (strokes : List Spelled) (a b : Option (List ℕ)) (text first bytes : List ℕ) (same : text ≡ bytes) (none : first ≡ []) where
  none_first : IsToldOfFirst p strokes first bytes → IsToldOfFirst p strokes [] bytes
  none_first told = subst (λ (x : List ℕ). IsToldOfFirst p strokes x bytes) none told

  pub cut_memory : IsToldOfFirst p strokes first bytes → b ≡ append_known a text
      → Writes a b (IsCut p strokes endings.Memory)
  cut_memory told written = (bytes, no_memory (none_first told), written ∙ ap (append_known a) same)

  cut_writing : (ending : Ending) → IsOfWriting ending → IsAnswer p strokes bytes → TakesFront a text b
      → Writes a b (IsCut p strokes ending)
  cut_writing ending fault whole front = (
    take front.0 bytes,
    not_written fault whole front.0 (subst (λ (x : List ℕ). front.0 < length x) same front.1),
    front.2 ∙ ap (λ (x : List ℕ). append_known a (take front.0 x)) same,
  )

  is_answer : (r : Result (Unit {0}) AllocError) → OnOk r (bytes ≡ first ++ answer p strokes)
      → OnErr r (IsToldOfFirst p strokes first bytes) → IsAnswer p strokes bytes
  is_answer (Ok u) told memory = inl (told ∙ ap (λ x. x ++ answer p strokes) none)
  is_answer (Err e) told memory = inr (none_first memory)

  pub cut_put : (r : Result (Unit {0}) AllocError) → OnOk r (bytes ≡ first ++ answer p strokes)
      → OnErr r (IsToldOfFirst p strokes first bytes) → (ending : Ending) → IsOfWriting ending → TakesFront a text b
      → Writes a b (IsCut p strokes ending)
  cut_put r told memory ending fault front = cut_writing ending fault (is_answer r told memory) front

  pub answer_so : bytes ≡ first ++ answer p strokes → b ≡ append_known a text → b ≡ append_known a (answer p strokes)
  answer_so told written =
      written ∙ ap (append_known a) (same ∙ told ∙ ap (λ x. x ++ answer p strokes) none)

-- ---- a whole run

pub run_so : (s : Scene) (a b c : Option (List ℕ)) (text : List ℕ) (ending : Ending) → text ≡ told_end s.prompt
    → b ≡ append_known a text → Writes b c (Runs 0 s ending) → HasRun s a ending c
run_so s a b c text ending told first ran =
    is_run ran.1 (then_writes a b c (told_end s.prompt) ran.0 (first ∙ ap (append_known a) told) ran.2)

pub run_not_begun : (s : Scene) (a b : Option (List ℕ)) (text : List ℕ) (ending : Ending) → text ≡ told_end s.prompt
    → IsOfWriting ending → TakesFront a text b → HasRun s a ending b
run_not_begun s a b text ending told fault front =
    not_begun fault (subst (λ (x : List ℕ). TakesFront a x b) told front)
