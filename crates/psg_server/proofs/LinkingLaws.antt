-- What is answered of names, name by name, and what is sent of new names.
use Rattle.std.proofs.Common.{◌≡◌, ℕ, Bool, true, false, List, [], ◌∷◌, ◌++◌, length, map, Option, Some, None, refl, ap, sym, ◌∙◌, subst, arith, append_assoc, append-nil}
use Rattle.std.specs.Prelude.{MatchOption, MatchResult, Vec}
use Rattle.std.specs.declared.alloc.Global.{Global}
use Rattle.std.specs.declared.result.Result.{Result}
use Rattle.std.specs.declared.result.Result.TheVariants.{Ok, Err}
use Rattle.serde_json.specs.Data.{Data}
use Rattle.serde_json.specs.View.{view}
use Rattle.serde_json.specs.declared.value.Value.{Value}
use Rattle.psg_documents.specs.declared.encoding.Encoding.{Encoding}
use Rattle.psg_grammar.specs.declared.types.Definition.{Definition}
use Rattle.psg_grammar.specs.declared.types.Kind.{Kind}
use Rattle.psg_class.specs.Texts.{tokens_of}
use Rattle.psg_comments.specs.declared.finding.Comment.{Comment}
use Rattle.psg_documents.specs.declared.lines.Position.{Position}
use Rattle.psg_grammar.specs.Fragments.{Fragment}
use Rattle.psg_grammar.specs.WellFormed.{fixed_words}
use Rattle.psg_links.specs.declared.linked.Linked.{Linked}
use Rattle.psg_links.specs.declared.page.Page.{Page}
use Rattle.psg_links.specs.declared.refusal.Refusal.{Refusal}
use Rattle.psg_links.specs.declared.spot.Spot.{Spot}
use Rattle.psg_links.specs.Renaming.{IsAnswer}
use Rattle.psg_links.specs.Spots.{IsLinkedAt, IsPage}
use Rattle.psg_program.specs.Decoding.{unmarked}
use Rattle.psg_program.specs.Programs.{IsProgram}
use Rattle.psg_ranges.specs.Forests.{Forest, nodes_of, ranges_in}
use Rattle.psg_messages.specs.Answers.{answer_of}
use Rattle.psg_messages.specs.Messages.{Given, request}
use Rattle.psg_server.specs.declared.documents.Document.{Document}
use Rattle.psg_server.specs.declared.judging.Defined.{Defined}
use Rattle.psg_server.specs.declared.renaming.Unnamed.{Unnamed}
use Rattle.psg_server.specs.declared.renaming.Unnamed.TheVariants as reasons
use Rattle.psg_server.specs.declared.methods.Ask.{Ask}
use Rattle.psg_server.specs.declared.methods.Call.TheVariants as calls
use Rattle.psg_server.specs.declared.server.Server.{Server}
use Rattle.psg_server.specs.Answering.{Place, Serves, asks, names, names_not, naming_out, open_in, place_in, sent}
use Rattle.psg_server.specs.Fields.{Renamed, naming_in, wants_declaring}
use Rattle.psg_server.specs.Judging.{IsJudged, OfJudged}
use Rattle.psg_server.specs.Linking.{IsFound, IsNamed, IsThere, IsUnnamed, as_edit, in_program, refuses, workspace_data}
use Rattle.psg_server.specs.Linking.{AreShown, IsNamedOf, IsRepliedOf, IsShown, IsUnnamedOf, Way, is_wanted, left_out, none_left, shown}
use Rattle.psg_server.specs.Methods.{call_of}

pub asked_row : (def : Defined) (kind : Kind) (old : Server) (id : Data) (method : List ℕ) (given : Given) (p : Place)
    (ask : Ask) (all : Bool) (value : Data) → call_of method ≡ Some (calls.Asking ask)
    → place_in given old.documents ≡ Some p → all ≡ wants_declaring given
    → IsRepliedOf def kind old.encoding p.document.address p.document.text ask all p.position value
    → Serves def kind old (request id method given) old.encoding old.documents (sent (answer_of id value))
asked_row def kind old id method given p ask all value is there e so =
    asks id method given p ask value is there
    (subst (λ b. IsRepliedOf def kind old.encoding p.document.address p.document.text ask b p.position value) e so)

pub named_row : (def : Defined) (kind : Kind) (old : Server) (id : Data) (method : List ℕ) (given : Given) (d : Document) (r : Renamed) (named : Result Value Unnamed)
    → call_of method ≡ Some calls.Renaming → open_in given old.documents ≡ Some d → naming_in given ≡ Some r
    → MatchResult named (λ v. IsNamedOf def kind old.encoding d.address d.text r (view v)) (IsUnnamedOf def kind old.encoding d.address d.text r)
    → Serves def kind old (request id method given) old.encoding old.documents (naming_out id named)
named_row def kind old id method given d r (Ok v) is there says so = names id method given d r (view v) is there says so
named_row def kind old id method given d r (Err why) is there says so = names_not id method given d r why is there says so

module _ (encoding : Encoding) (text : List ℕ) (way : Way) (all : Bool) where
  -- what completes the rest completes the whole
  abbrev pub AreSoFar : List Spot → List Spot → List Value → Type 0
  AreSoFar spots rest values = (ds : List Data) → AreShown encoding text way all rest ds
      → AreShown encoding text way all spots (map view values ++ ds)

  pub none_so_far : (spots : List Spot) (values : List Value) → values ≡ [] → AreSoFar spots spots values
  none_so_far spots values e =
      subst (λ (vs : List Value). AreSoFar spots spots vs) (sym e) (λ ds h. h)

  pub more_so_far : (spots rest more : List Spot) (s : Spot) (old new : List Value) (told : List Data) → rest ≡ s ∷ more
      → map view new ≡ map view old ++ told
      → ((ss : List Spot) (ds : List Data) → AreShown encoding text way all ss ds → AreShown encoding text way all (s ∷ ss) (told ++ ds))
      → AreSoFar spots rest old → AreSoFar spots more new
  more_so_far spots rest more s old new told is grown adds h = λ ds so.
      let one : AreShown encoding text way all rest (told ++ ds) =
      subst (λ (ss : List Spot). AreShown encoding text way all ss (told ++ ds)) (sym is) (adds more ds so) in
      subst (λ (xs : List Data). AreShown encoding text way all spots xs)
      (sym (append_assoc (map view old) told ds) ∙ ap (λ xs. xs ++ ds) (sym grown)) (h (told ++ ds) one)

  empty : (spots : List Spot) → length spots ≡ 0 → [] ≡ spots
  empty [] e = refl
  empty (s ∷ spots) e = absurd (omega (arith, e))

  pub all_so_far : (spots rest : List Spot) (values : List Value) → length rest ≡ 0 → AreSoFar spots rest values
      → AreShown encoding text way all spots (map view values)
  all_so_far spots rest values e h =
      subst (λ (xs : List Data). AreShown encoding text way all spots xs) (append-nil (map view values))
      (h [] (subst (λ (ss : List Spot). AreShown encoding text way all ss []) (empty rest e) none_left))

  -- a name that is not wanted adds nothing, and another one its value
  pub adds_none : (s : Spot) → is_wanted all s ≡ false → (ss : List Spot) (ds : List Data)
      → AreShown encoding text way all ss ds → AreShown encoding text way all (s ∷ ss) ([] ++ ds)
  adds_none s e = λ ss ds h. left_out s e h

  pub adds_one : (s : Spot) (d : Data) → is_wanted all s ≡ true → IsShown encoding text way s d → (ss : List Spot) (ds : List Data)
      → AreShown encoding text way all ss ds → AreShown encoding text way all (s ∷ ss) (d ∷ [] ++ ds)
  adds_one s d e is = λ ss ds h. shown s d e is h

-- ---- a reading of the text

pub page_as : (def : Definition) (kind : Kind) (o : Option Page) (bytes text : List ℕ) → bytes ≡ text
    → MatchOption o ((f : Fragment) → IsProgram def kind bytes f → ⊥) (IsPage def kind bytes)
    → MatchOption o ((f : Fragment) → IsProgram def kind text f → ⊥) (IsPage def kind text)
page_as def kind o bytes text e h =
    subst (λ (t : List ℕ). MatchOption o ((f : Fragment) → IsProgram def kind t f → ⊥) (IsPage def kind t)) e h

module _ (def : Definition) (kind : Kind) (encoding : Encoding) (text judged : List ℕ) (p : Page) (byte : ℕ) (page : IsPage def kind judged p) where
  forest : Forest
  forest = nodes_of def p.tree kind 0 page.nesting (tokens_of p.tokens.items) page.yields

  nodes_are : ranges_in forest ≡ p.ranges.nodes
  unfolding forest
  nodes_are = sym page.nodes

  pub found_in : (at : Position) (a : Option Linked) → IsThere encoding text at byte
      → ((f : Forest) → ranges_in f ≡ p.ranges.nodes → IsLinkedAt p.tokens.items f p.links.items byte a)
      → IsFound def kind encoding text judged at a
  found_in at a there h =
      in_program p forest byte a (record { page = page; nodes = nodes_are; place = there }) (h forest nodes_are)

  answer_as : (f : Forest) (bytes new : List ℕ) (one other : Result (Vec Spot Global) Refusal) → bytes ≡ judged → one ≡ other
      → IsAnswer def kind (unmarked bytes) p.tokens.items f p.links.items byte new one
      → IsAnswer def kind (unmarked judged) p.tokens.items f p.links.items byte new other
  answer_as f bytes new one other e is h =
      subst (λ o. IsAnswer def kind (unmarked judged) p.tokens.items f p.links.items byte new o) is
      (subst (λ (t : List ℕ). IsAnswer def kind (unmarked t) p.tokens.items f p.links.items byte new one) e h)

  pub named_is : (address bytes : List ℕ) (r : Renamed) (answer : Result (Vec Spot Global) Refusal) (spots : Vec Spot Global) (row : List Spot) (edits : List Data) (d : Data)
      → IsThere encoding text r.at byte → bytes ≡ judged → answer ≡ Ok spots
      → ((f : Forest) → ranges_in f ≡ p.ranges.nodes → IsAnswer def kind (unmarked bytes) p.tokens.items f p.links.items byte r.name answer)
      → row ≡ spots.items → AreShown encoding text (as_edit r.name) true row edits → d ≡ workspace_data address edits
      → IsNamed def kind encoding address text judged r d
  named_is address bytes r answer spots row edits d there e is h same shows so = record {
    page = p;
    forest = forest;
    byte = byte;
    read = record { page = page; nodes = nodes_are; place = there };
    spots = spots;
    answer = answer_as forest bytes r.name answer (Ok spots) e is (h forest nodes_are);
    edits = edits;
    are = subst (λ (ss : List Spot). AreShown encoding text (as_edit r.name) true ss edits) same shows;
    is = so;
  }

  pub unnamed_is : (address bytes : List ℕ) (r : Renamed) (answer : Result (Vec Spot Global) Refusal) (why : Refusal)
      → IsThere encoding text r.at byte → bytes ≡ judged → answer ≡ Err why
      → ((f : Forest) → ranges_in f ≡ p.ranges.nodes → IsAnswer def kind (unmarked bytes) p.tokens.items f p.links.items byte r.name answer)
      → IsUnnamed def kind encoding address text judged r (reasons.Refused why)
  unnamed_is address bytes r answer why there e is h =
      refuses p forest byte why (record { page = page; nodes = nodes_are; place = there })
      (answer_as forest bytes r.name answer (Err why) e is (h forest nodes_are))

-- where what is judged of the text is this, it is so of the text
pub named_in : (def : Defined) (kind : Kind) (encoding : Encoding) (address text : List ℕ) (comments : List Comment)
    (judged : List ℕ) (r : Renamed) (named : Result Value Unnamed)
    → IsJudged (fixed_words def.language) def.comment text comments judged
    → MatchResult named (λ v. IsNamed def.language kind encoding address text judged r (view v))
    (IsUnnamed def.language kind encoding address text judged r)
    → MatchResult named
    (λ v. OfJudged def text (λ comments judged. IsNamed def.language kind encoding address text judged r (view v)))
    (λ why. OfJudged def text (λ comments judged. IsUnnamed def.language kind encoding address text judged r why))
named_in def kind encoding address text comments judged r (Ok v) is so =
    record { comments = comments; judged = judged; is_judged = is; so = so }
named_in def kind encoding address text comments judged r (Err why) is so =
    record { comments = comments; judged = judged; is_judged = is; so = so }
