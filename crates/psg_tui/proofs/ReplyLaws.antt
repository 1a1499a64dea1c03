-- What is taken of the reply to a command.
use Rattle.std.proofs.Common.{◌≡◌, ℕ, Bool, true, false, Option, Some, None, List, refl, sym, ap, ◌∙◌}
use Rattle.std.proofs.lemmas.Bool.{false≢true}
use Rattle.psg_grammar.specs.declared.types.Definition.{Definition}
use Rattle.psg_grammar.specs.declared.types.Kind.{Kind}
use Rattle.psg_grammar.specs.Fragments.{Fragment}
use Rattle.psg_grammar.specs.Paths.{Path}
use Rattle.psg_keymap.specs.declared.face.Message.{Message as KeptMessage}
use Rattle.psg_keymap.specs.declared.face.Mode.{Mode}
use Rattle.psg_keymap.specs.declared.face.Mode.TheVariants as modes
use Rattle.psg_keymap.specs.declared.table.Due.{Due}
use Rattle.psg_keymap.specs.declared.face.Face.{Face as Kept}
use Rattle.psg_keymap.specs.Faces.{Face, Message}
use Rattle.psg_keymap.specs.Faces as faces
use Rattle.psg_modes.specs.Turning.{saying}
use Rattle.psg_tui.specs.declared.editing.Aim.{Aim}
use Rattle.psg_keymap.specs.OfKeys.{is_of_keys}
use Rattle.psg_keymap.specs.Views.{message_of}
use Rattle.psg_script.specs.declared.command.Command.{Command}
use Rattle.psg_session.specs.PlainState.{Answer, Opened, State}
use Rattle.psg_session.specs.PlainStep.{Steps, refuses, opens, changes, undoes, redoes, saves, keeps, fetches, shows, goes, screens, owns, relates, frees, offers, suggests}
use Rattle.psg_session.specs.Replies.{Reply, refused, answered}
use Rattle.psg_tui.specs.declared.editing.Aim.TheVariants as aims
use Rattle.psg_tui.specs.declared.editing.Editing.{Editing}
use Rattle.psg_tui.specs.Pressing.{Desk, IsOpened, after_line_in, chosen_after, command_face, said_after, versions_after, versions_done, with_face}
use Rattle.psg_tui.specs.Replied.{aim_in, done, heard, number_in}
use Rattle.psg_tui.specs.Views.{desk, desk_of, face_of, settled}

same_some : (x y : Opened) → Some x ≡ Some y → x ≡ y
same_some x y e = cc

-- ---- the face

abbrev put_face : Fragment → Path → Message → Face → Face
put_face tree grown msg f = record f {
  chosen = chosen_after tree f.chosen (Some grown);
  mode = modes.Browsing;
  message = msg;
}

grown_in : (mode : Mode) (f : Face) (tree : Fragment) (grown : Path) (msg : Message)
    → settled tree (aim_in mode) (record f { chosen = grown; mode = modes.Browsing; message = msg })
    ≡ put_face tree grown msg (after_line_in mode f)
grown_in modes.Browsing f tree grown msg = refl
grown_in modes.Typing f tree grown msg = refl
grown_in modes.Choosing f tree grown msg = refl
grown_in modes.Naming f tree grown msg = refl
grown_in modes.Saving f tree grown msg = refl
grown_in modes.Replacing f tree grown msg = refl
grown_in modes.Paging f tree grown msg = refl
grown_in modes.Leaving f tree grown msg = refl

module _ (e : Editing) (tree : Fragment) (command : Command) (m : KeptMessage) (v : ℕ)
    (said : message_of m ≡ said_after command) (counted : v ≡ versions_done command e.versions) where
  pub far_so : record {
    face = record (face_of e.face) { chosen = chosen_after tree e.face.chosen None; mode = modes.Browsing; message = message_of m };
    file = e.file;
    saved = e.written;
    versions = v;
    writes = e.writes;
  } ≡ done tree (record { command = command; grown = None }) (desk e)
  far_so =
      ap (λ (n : ℕ). record {
        face = record (face_of e.face) { chosen = chosen_after tree e.face.chosen None; mode = modes.Browsing; message = message_of m };
        file = e.file;
        saved = e.written;
        versions = n;
        writes = e.writes;
      }) counted
      ∙ ap (λ (msg : Message). record {
        face = record (face_of e.face) { chosen = chosen_after tree e.face.chosen None; mode = modes.Browsing; message = msg };
        file = e.file;
        saved = e.written;
        versions = versions_done command e.versions;
        writes = e.writes;
      }) said

  pub grown_so : (grown : Path) (a : Aim) → a ≡ aim_in e.face.mode → record {
    face = settled tree a (record (face_of e.face) { chosen = grown; mode = modes.Browsing; message = message_of m });
    file = e.file;
    saved = e.written;
    versions = v;
    writes = e.writes;
  } ≡ done tree (record { command = command; grown = Some grown }) (desk e)
  grown_so grown a aim =
      ap (λ (f : Face). record { face = f; file = e.file; saved = e.written; versions = v; writes = e.writes })
      (ap (λ (x : Aim). settled tree x (record (face_of e.face) { chosen = grown; mode = modes.Browsing; message = message_of m })) aim
      ∙ grown_in e.face.mode (face_of e.face) tree grown (message_of m)
      ∙ ap (λ (msg : Message). put_face tree grown msg (after_line_in e.face.mode (face_of e.face))) said)
      ∙ ap (λ (n : ℕ). record {
        face = put_face tree grown (said_after command) (after_line_in e.face.mode (face_of e.face));
        file = e.file;
        saved = e.written;
        versions = n;
        writes = e.writes;
      }) counted

-- a refusal is said
pub refused_so : (e : Editing) (tree : Fragment) (f : Kept) (n : ℕ) → e.aim ≡ aims.Settled
    → face_of f ≡ saying (faces.refused n) (face_of e.face)
    → desk_of tree (record e { face = f }) ≡ with_face (desk e) (saying (faces.refused n) (face_of e.face))
refused_so e tree f n aim said =
    ap (λ (x : Face). record { face = x; file = e.file; saved = e.written; versions = e.versions; writes = e.writes })
    (ap (λ (a : Aim). settled tree a (face_of f)) aim ∙ said)

-- what was heard of the number of a refusal is what the reply makes of the face
pub heard_reply : (tree : Fragment) (reply : Reply) (due : Due) (d : Desk)
    → heard tree (number_in reply) due d
    ≡ record (with_face d (command_face tree d.face due reply)) { versions = versions_after due.command reply d.versions }
heard_reply tree (refused refusal) due d = refl
heard_reply tree (answered lines) due d = refl

-- ---- the program

same_kind : (old : Opened) (kind : Kind) (tree grown : Fragment) (s : State) → s.opened ≡ Some old
    → IsOpened s kind tree
    → ◌≡◌ {A = Option Opened} (Some (record { kind = old.kind; tree = grown })) (Some (record { kind = kind; tree = grown }))
same_kind old kind tree grown s is at =
    ap (λ (o : Opened). Some (record { kind = o.kind; tree = grown })) (same_some _ _ (sym is ∙ at))

module _ (def : Definition) (IsGood : Fragment → Type 0) (s : State) (answer : Answer) (kind : Kind) (tree : Fragment)
    (at : IsOpened s kind tree) where
  -- a key opens no program of another kind
  pub kept_opened : {command : Command} {t : State} {reply : Reply} → Steps def IsGood s answer command t reply
      → is_of_keys command ≡ true → (new : Fragment) × IsOpened t kind new
  kept_opened (refuses is) keys = (tree, at)
  kept_opened (opens k mark taken named is_mark) keys = absurd (false≢true keys)
  kept_opened (changes {tree = grown} {path = path} old mark taken opened makes is_mark) keys =
      (grown, same_kind old kind tree grown s opened at)
  kept_opened (undoes old grown rest mark taken opened is is_mark) keys =
      (grown, same_kind old kind tree grown s opened at)
  kept_opened (redoes old grown rest mark taken opened is is_mark) keys =
      (grown, same_kind old kind tree grown s opened at)
  kept_opened (saves old node k taken opened is of) keys = (tree, at)
  kept_opened (keeps taken is) keys = (tree, at)
  kept_opened (fetches bytes x taken is kept) keys = (tree, at)
  kept_opened (shows old mark taken opened is_mark) keys = (tree, at)
  kept_opened (goes old p k name taken opened written of named) keys = (tree, at)
  kept_opened (screens old taken opened) keys = (tree, at)
  kept_opened (owns old node rows taken opened is rel) keys = (tree, at)
  kept_opened (relates old rows taken opened shown) keys = (tree, at)
  kept_opened (frees old taken opened) keys = (tree, at)
  kept_opened (offers old node p ops names taken opened is wanted menu all) keys = (tree, at)
  kept_opened (suggests old o names taken opened op menu) keys = (tree, at)
