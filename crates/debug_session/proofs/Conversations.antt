-- Conversations of worked examples: what is sent to a session, and what is heard.
use Rattle.std.specs.Prelude.{ℕ, true, not, List, [], ◌∷◌, ◌++◌, ◌≡◌, flat_map, map, filter}
use Rattle.std.specs.Prelude.{codes, slice_get, unwrap_or, ◌==◌}
use Rattle.dos_world.specs.Bytes.{bytes_of}
use Rattle.dos_world.specs.Play.{Answer, posts}
use Rattle.dos_world.specs.declared.Config.{Config}
use Rattle.dos_world.specs.declared.Scheme.TheVariants.{Ownership}
use Rattle.elf_image.specs.Image.{Image}
use Rattle.flat_machine.specs.Opening.{opening}
use Rattle.group_moves.specs.Moments.{first_moment, history}
use Rattle.gdb_packets.specs.Hexadecimal.{bytes_digits}
use Rattle.debug_session.specs.Positions.{at_start}
use Rattle.debug_session.specs.Recordings.{Recording, LogEntry, recorded}
use Rattle.debug_session.specs.Where.{where_lines}
use Rattle.debug_session.specs.Sessions.{Session, opening_session}
use Rattle.debug_session.specs.Resuming.{Reply, packet, console, Answered}
use Rattle.debug_session.specs.Answers.{answer_to}
use Rattle.debug_session.specs.Connections.{session_puts}

-- ---- programs

-- an image of these instruction words at 0x10000, entered at the first
abbrev pub program : List ℕ → Image
program words =
    record {
      entry = 0x10000;
      parts =
          record {
            address = 0x10000;
            bytes = flat_map (bytes_of 4) words;
            zeros = 0;
            write = true;
            exec = true;
            index = 0;
          } ∷ [];
    }

-- process_exit with 7
abbrev pub exits_with_7 : Image
exits_with_7 = program (0x00200893 ∷ 0x00700513 ∷ 0x00000073 ∷ [])

abbrev pub with_quantum : (quantum frames : ℕ) → Config
with_quantum quantum frames = record {
  quantum = quantum;
  rounds = 100000;
  frames = frames;
  scheme = Ownership;
}

abbrev pub with_frames : ℕ → Config
with_frames frames = with_quantum 1000 frames

-- ---- sessions

-- files with these names and these bytes
abbrev pub recording_of : (names files : List (List ℕ)) → Config → List LogEntry → Recording
recording_of names files config entries =
    record { names = names; files = files; limit = config.rounds; entries = entries }

-- at the first moment of the history of these images, of at most so many moves
abbrev pub session_of : (most : ℕ) → List Image → Config → List Answer → Session
session_of most images config answers =
    opening_session (recording_of (map (λ image. codes "a") images) [] config [])
    (at_start (first_moment (opening images config)) (history most images config answers))

-- of files with names and bytes, and the entries of a log
abbrev pub recorded_session : (most : ℕ) → (names files : List (List ℕ)) → List Image → Config
    → List LogEntry → Session
recorded_session most names files images config entries =
    opening_session (recording_of names files config entries)
    (at_start (first_moment (opening images config))
    (recorded most images config entries))

-- two small images in one round
abbrev pub session_of_two : Image → Image → Session
session_of_two first second =
    session_of 40 (first ∷ second ∷ []) (with_frames 34) (posts [] ∷ [])

-- with a client that is told of forks
abbrev pub told_forks : Session → Session
told_forks s = record s { is_told_forks = true }

-- ---- conversations

-- A packet, or a look at a line of `where`, counted from 0.
pub data Said : Type 0 where
  sent : List ℕ → Said
  looked : ℕ → Said

-- what is said, and what is heard then
abbrev pub Exchange : Type 0
Exchange = Said × List (List ℕ)

-- a packet that is answered by one
abbrev pub says : (text heard : List ℕ) → Exchange
says text heard = (sent text, heard ∷ [])

-- a packet that is answered by several
abbrev pub says_more : (text : List ℕ) → List (List ℕ) → Exchange
says_more text heard = (sent text, heard)

-- what a person asks
abbrev pub monitors : (words : List ℕ) → List (List ℕ) → Exchange
monitors words heard = (sent (codes "qRcmd," ++ bytes_digits words), heard)

-- what a person asks, with the lines that are heard
abbrev pub asks_for : (words : List ℕ) → List (List ℕ) → Exchange
asks_for words lines =
    monitors words (map (λ line. codes "\"" ++ line ++ codes "\n\"") lines ++ codes "OK" ∷ [])

-- a line of `where`
abbrev pub looks : (number : ℕ) → (heard : List ℕ) → Exchange
looks number heard = (looked number, heard ∷ [])

-- ---- what is heard

abbrev pub without_ends : List ℕ → List ℕ
without_ends text = filter (λ c. not (c == 10)) text

-- A packet as it is; bytes for the console between quotation marks.
abbrev pub heard_of : Reply → List ℕ
heard_of (packet text) = text
heard_of (console text) = codes "\"" ++ text ++ codes "\""

-- of what follows one thing after another
abbrev pub conversation : Session → List Said → List (List ℕ)
conversation s [] = []
conversation s (looked n ∷ asked) =
    without_ends (unwrap_or (slice_get (where_lines s.recording s.position) n) [])
    ∷ conversation s asked
conversation s (sent text ∷ asked) =
    let said : Answered = answer_to s text in
    map heard_of said.1 ++ conversation said.0 asked

-- The session runs as written.
abbrev pub Runs : Session → List Exchange → Type 0
Runs s script =
    conversation s (map (λ (x : Exchange). x.0) script)
    ≡ flat_map (λ (x : Exchange). x.1) script

-- ---- over a connection

-- These bytes are put where those are read.
abbrev pub Puts : Session → (input put : List ℕ) → Type 0
Puts s input put = flat_map (λ x. x) (session_puts s input) ≡ put
