-- What holds of the session that is shown, and what is said of it. This project's own.
use Rattle.std.proofs.Common.{◌≡◌, ℕ, ◌∙◌, List, [], ◌∷◌, ◌++◌, map, subst, sym, ap, refl}
use Rattle.std.proofs.Common.{Bool, false, Some, codes, length, arith, append_assoc}
use Rattle.std.proofs.lemmas.List.{map-append}
use Rattle.std.specs.Global.{Vec}
use Rattle.kernel_calls.specs.StateWorld.{sent, world_of}
use Rattle.kernel_calls.specs.declared.state.State.{State}
use Rattle.debug_client.specs.Births.{AreBirthsKnown}
use Rattle.debug_client.specs.Clients.{ClientView, answered_so, session_of}
use Rattle.debug_connection.specs.Keeping.{texts_of}
use Rattle.debug_session.specs.Answers.{means, prints}
use Rattle.debug_session.specs.Connections.{reply_text}
use Rattle.debug_session.specs.Goals.{rewound}
use Rattle.debug_session.specs.Halts.{puts_from}
use Rattle.debug_session.specs.Lists.{listed_pairs}
use Rattle.debug_session.specs.Positions.{Position, all_moments, position_after}
use Rattle.debug_session.specs.Recordings.{LogEntry, Recording}
use Rattle.debug_session.specs.Resuming.{Answered, Reply, console, packet, replies_one}
use Rattle.debug_session.specs.Sessions.{Session, is_among, listed}
use Rattle.debug_session.specs.Stops.{console_text}
use Rattle.dos_world.specs.declared.Config.{Config}
use Rattle.elf_image.specs.Image.{Image}
use Rattle.recorded_walk.specs.Laws.{HistoriesStart}
use Rattle.recorded_walk.specs.Playbacks.{IsStart, IsStartOf}
use Rattle.debugger.specs.Standing.{HasAnswered, IsSessionReady, IsSame, IsSameRun, HasSaid}
use Rattle.debugger.specs.Standing.{SessionView}
use Rattle.debugger.specs.Halting.{HasKept, puts_before}
use Rattle.debugger.specs.Standing.{IsAsked, IsSessionOf, here}
use Rattle.debugger.specs.Standing.{recording_of, session_at}
use Rattle.debugger.specs.declared.forwards.Put.{Put}
use Rattle.debugger.proofs.Here.{births_here, world_here}
use Rattle.debugger.proofs.Histories.{moments_after, rewound_after, start_rewound}
use Rattle.debugger.proofs.Imaged.{paired_threads}

-- ---- the session that is shown

-- the session where one stands
pub shown_here : (k : SessionView) → k.failed ≡ false → (start : Position)
    → IsStartOf k.playback start → IsSessionOf k (session_at k (here k start))
shown_here k running start is_start =
    record { running = running; start = start; start_is = is_start; is = refl }

-- What is known of the session that a state and tables show: its position and what was sent by
-- then, and who was born.
pub record Known (v : SessionView) (state : State) (r : Recording) (at : Position)
    (q : ℕ) (output error : List ℕ) : Type 0 where
  pub recording : r ≡ recording_of v
  pub births : AreBirthsKnown v.births (all_moments at)
  pub world : at.moment.world ≡ sent output error (world_of q state)
  pub ready : IsSessionReady v
  pub processes : length state.table.processes ≡ length v.playback.walk.state.table.processes
  pub shows : IsSessionOf v (session_of v.client r at)

module _ {v k : SessionView} (is : v ≡ k) (state : State) (there : state ≡ k.playback.walk.state)
    (keeps : v.failed ≡ false → IsSessionReady v) (running : k.failed ≡ false) where
  running_then : v.failed ≡ false
  running_then = ap (λ (x : SessionView). x.failed) is ∙ running

  known_so : (start : Position) → IsStartOf v.playback start
      → Known v state (recording_of v) (here v start) v.playback.walk.config.quantum
      (here v start).moment.world.output (here v start).moment.world.error
  known_so start is_start =
      let ready : IsSessionReady v = keeps running_then in
      record {
        recording = refl;
        births = subst (AreBirthsKnown v.births) (sym (moments_after v.playback.moves start))
            (births_here v ready start is_start);
        world = world_here v ready start is_start
            ∙ ap (λ (s : State). sent (here v start).moment.world.output
            (here v start).moment.world.error (world_of v.playback.walk.config.quantum s))
            (ap (λ (x : SessionView). x.playback.walk.state) is ∙ sym there);
        ready = ready;
        processes = ap (λ (s : State). length s.table.processes)
            (there ∙ sym (ap (λ (x : SessionView). x.playback.walk.state) is));
        shows = shown_here v running_then start is_start;
      }

  -- what holds of the session where one stands holds of each that is shown
  pub shown_so : (P : Session → Type 0)
      → ((r : Recording) (at : Position) (q : ℕ) (output error : List ℕ)
      → Known v state r at q output error → P (session_of v.client r at))
      → (s : Session) → IsSessionOf k s → P s
  shown_so P holds =
      subst (λ (x : SessionView). (s : Session) → IsSessionOf x s → P s) is
      (λ s shows. subst P (sym shows.is)
      (holds (recording_of v) (here v shows.start) v.playback.walk.config.quantum
      (here v shows.start).moment.world.output (here v shows.start).moment.world.error
      (known_so shows.start shows.start_is)))

  -- what follows from what is known of it, since there is one
  pub some_so : HistoriesStart → (P : Type 0)
      → ((r : Recording) (at : Position) (q : ℕ) (output error : List ℕ)
      → Known v state r at q output error → P)
      → P
  some_so begin P holds =
      let found = begin v.playback.images v.playback.config v.playback.entries in
      holds (recording_of v) (here v found.0) v.playback.walk.config.quantum
      (here v found.0).moment.world.output (here v found.0).moment.world.error
      (known_so found.0 found.1)

  -- With another client it is the session of that client, where it is answered so.
  pub client_with : (client : ClientView) (before after : List (List ℕ))
      (said : Session → Answered) (replies : List Reply)
      → after ≡ before ++ map reply_text replies
      → ((r : Recording) (at : Position) (q : ℕ) (output error : List ℕ)
      → Known v state r at q output error
      → said (session_of v.client r at) ≡ (session_of client r at, replies))
      → HasAnswered k (record v { client = client }) before after said
  client_with client before after said replies put holds =
      let new : SessionView = record v { client = client } in
      subst (λ (x : SessionView). HasAnswered x new before after said) is
      (λ s shows.
      let start : Position = shows.start in
      let told : Answered = (session_of client (recording_of v) (here v start), replies) in
      let asked : said s ≡ told =
      ap said shows.is
      ∙ holds (recording_of v) (here v start) v.playback.walk.config.quantum
      (here v start).moment.world.output (here v start).moment.world.error
      (known_so start shows.start_is) in
      let to : (said s).0 ≡ session_of client (recording_of v) (here v start) =
      ap (λ (a : Answered). a.0) asked in
      let answered : (said s).1 ≡ replies = ap (λ (a : Answered). a.1) asked in (
        record { running = shows.running; start = start; start_is = shows.start_is; is = to },
        put ∙ ap (λ (rs : List Reply). before ++ map reply_text rs) (sym answered),
      ))

  -- the same where this text is answered
  pub client_so : (client : ClientView) (before after : List (List ℕ)) (said : Session → Answered)
      (text : List ℕ) → after ≡ before ++ text ∷ []
      → ((r : Recording) (at : Position) (q : ℕ) (output error : List ℕ)
      → Known v state r at q output error
      → said (session_of v.client r at) ≡ replies_one (session_of client r at) text)
      → HasAnswered k (record v { client = client }) before after said
  client_so client before after said text put holds =
      client_with client before after said (packet text ∷ []) put holds

-- ---- what is said

-- one more text
pub pushed : (old new : List (Vec ℕ)) (text : Vec ℕ) (told : List ℕ) → new ≡ old ++ text ∷ []
    → text.items ≡ told → texts_of new ≡ texts_of old ++ told ∷ []
pushed old new text told is said =
    ap texts_of is ∙ map-append (λ (v : Vec ℕ). v.items) old (text ∷ [])
    ∙ ap (λ (t : List ℕ). texts_of old ++ t ∷ []) said

-- the same of a text that was put behind nothing
pub said_alone : (old new : List (Vec ℕ)) (text : Vec ℕ) (empty said told : List ℕ)
    → new ≡ old ++ text ∷ [] → text.items ≡ empty ++ said → empty ≡ [] → said ≡ told
    → texts_of new ≡ texts_of old ++ told ∷ []
said_alone old new text empty said told is put none same =
    pushed old new text told is (put ∙ ap (λ (t : List ℕ). t ++ said) none ∙ same)

-- The session stays as it is, and this text is its answer.
pub says_answers : (k : SessionView) (before after : List (List ℕ)) (text : Session → List ℕ)
    → HasSaid k before after text → HasAnswered k k before after (λ s. replies_one s (text s))
says_answers k before after text says s shows = (shows, says s shows)

-- the same of a text that is always the same
pub text_answers : (k : SessionView) (before after : List (List ℕ)) (text : List ℕ)
    → after ≡ before ++ text ∷ [] → HasAnswered k k before after (λ s. replies_one s text)
text_answers k before after text is s shows = (shows, is)

-- lines, and that it was done
printed : (lines : List (List ℕ)) (text : List ℕ)
    → map reply_text (map console lines ++ packet text ∷ []) ≡ map console_text lines ++ text ∷ []
printed [] text = refl
printed (line ∷ lines) text =
    ap (λ (ts : List (List ℕ)). console_text line ∷ ts) (printed lines text)

pub prints_answers : (k : SessionView) (before after : List (List ℕ))
    (lines_of : Session → List (List ℕ)) (lines : List (List ℕ))
    → after ≡ before ++ map console_text lines ++ codes "OK" ∷ []
    → ((s : Session) → IsSessionOf k s → lines ≡ lines_of s)
    → HasAnswered k k before after (λ s. prints s (lines_of s))
prints_answers k before after lines_of lines put are s shows = (
  shows,
  put
      ∙ ap (λ (ls : List (List ℕ)). before ++ map console_text ls ++ codes "OK" ∷ [])
      (are s shows)
      ∙ append_assoc before (map console_text (lines_of s)) (codes "OK" ∷ [])
      ∙ ap (λ (ts : List (List ℕ)). before ++ ts) (sym (printed (lines_of s) (codes "OK"))),
)

-- the same of one line that is always the same
pub print_answers : (k : SessionView) (before after : List (List ℕ)) (line : List ℕ)
    → after ≡ before ++ console_text line ∷ codes "OK" ∷ []
    → HasAnswered k k before after (λ s. prints s (line ∷ []))
print_answers k before after line put s shows = (shows, put)

-- What is asked is this.
pub answers_at : {A : Type 0} (a b : SessionView) (before after : List (List ℕ))
    (said : A → Session → Answered) {x y : A} → x ≡ y → HasAnswered a b before after (said y)
    → HasAnswered a b before after (said x)
answers_at {A} a b before after said is answers =
    subst (λ (z : A). HasAnswered a b before after (said z)) (sym is) answers

-- ---- who is listed

pub among_listed : (s : Session) (pairs : List (ℕ × ℕ)) (t : ℕ) (b : Bool)
    → b ≡ is_among t (map (λ (pair : ℕ × ℕ). pair.1) pairs) → pairs ≡ listed_pairs s
    → b ≡ is_among t (listed s)
among_listed s pairs t b is are =
    is ∙ ap (λ (ps : List (ℕ × ℕ)). is_among t (map (λ (pair : ℕ × ℕ). pair.1) ps)) are
    ∙ ap (is_among t) (paired_threads s (listed s))

-- A client that was asked whether a thread is listed means it then.
pub meant : (client new : ClientView) (r : Recording) (at : Position) (pairs : List (ℕ × ℕ))
    (thread : ℕ) (b done : Bool)
    → b ≡ is_among thread (map (λ (pair : ℕ × ℕ). pair.1) pairs)
    → pairs ≡ listed_pairs (session_of client r at)
    → (((t : ℕ) → Some thread ≡ Some t → b ≡ is_among t (listed (session_of client r at)))
    → answered_so (session_of new r at) done ≡ means (session_of client r at) (Some thread))
    → answered_so (session_of new r at) done ≡ means (session_of client r at) (Some thread)
meant client new r at pairs thread b done is are by =
    let s : Session = session_of client r at in
    by (λ t given.
    let same : thread ≡ t = cc in
    among_listed s pairs thread b is are ∙ ap (λ (n : ℕ). is_among n (listed s)) same)

-- ---- another session

pub start_on : (a b : SessionView) → IsSameRun a b → (start : Position) → IsStartOf a.playback start
    → IsStartOf b.playback start
start_on a b same start is =
    subst (λ (x : List LogEntry). IsStart b.playback.images b.playback.config x start)
    (sym same.entries)
    (subst (λ (x : Config). IsStart b.playback.images x a.playback.entries start)
    (sym same.config)
    (subst (λ (x : List Image). IsStart x a.playback.config a.playback.entries start)
    (sym same.images) is))

session_same : (a b : SessionView) → IsSame a b → (at : Position)
    → session_at b at ≡ session_at a at
session_same a b same at =
    let client = same.client in
    let names = same.run.names in
    let files = same.run.files in
    let limit = ap (λ (x : Config). x.rounds) same.run.config in
    let entries = same.run.entries in
    cc

-- One that is the same but for what is known of it shows the same.
pub shows_on : (a b : SessionView) → IsSame a b → b.playback.moves ≡ a.playback.moves
    → b.failed ≡ false → (s : Session) → IsSessionOf a s → IsSessionOf b s
shows_on a b same moves running s shows = record {
  running = running;
  start = shows.start;
  start_is = start_on a b same.run shows.start shows.start_is;
  is = shows.is ∙ sym (session_same a b same (here a shows.start))
      ∙ ap (λ (n : ℕ). session_at b (position_after n shows.start)) (sym moves);
}

-- Lines that are printed once the session has been walked, and stands where it stood.
pub prints_on : (a b : SessionView) (before after : List (List ℕ))
    (lines_of : Session → List (List ℕ)) (lines : List (List ℕ)) → IsSame a b
    → b.playback.moves ≡ a.playback.moves → b.failed ≡ false
    → after ≡ before ++ map console_text lines ++ codes "OK" ∷ []
    → ((s : Session) → IsSessionOf a s → lines ≡ lines_of s)
    → HasAnswered a b before after (λ s. prints s (lines_of s))
prints_on a b before after lines_of lines same moves running put are s shows = (
  shows_on a b same moves running s shows,
  (prints_answers a before after lines_of lines put are s shows).1,
)

-- The session that is shown is asked from its own position.
pub asked_of : (k : SessionView) (s : Session) (shows : IsSessionOf k s)
    → IsAsked k shows.start s × (s.position ≡ here k shows.start)
asked_of k s shows =
    let at : s.position ≡ here k shows.start = ap (λ (x : Session). x.position) shows.is in (
      record {
        is = shows.is ∙ ap (session_at k) (sym at);
        moments = ap all_moments at ∙ moments_after k.playback.moves shows.start;
      },
      at,
    )

-- What it answers then is what is answered.
pub answers_on : (a b new : SessionView) (before after : List (List ℕ)) (said : Session → Answered)
    → IsSame a b → b.playback.moves ≡ a.playback.moves → b.failed ≡ false
    → HasAnswered b new before after said → HasAnswered a new before after said
answers_on a b new before after said same moves running answers s shows =
    answers s (shows_on a b same moves running s shows)

-- The same is answered where the sessions that are shown are asked alike.
pub answers_as : (a b : SessionView) (before after : List (List ℕ))
    (said other : Session → Answered)
    → ((s : Session) → IsSessionOf a s → other s ≡ said s)
    → HasAnswered a b before after other → HasAnswered a b before after said
answers_as a b before after said other alike answers s shows =
    subst (λ (x : Answered). IsSessionOf b x.0 × (after
    ≡ before ++ map reply_text x.1)) (alike s shows)
    (answers s shows)

-- ---- one behind another

pub same_on : (a b c : SessionView) → IsSame a b → IsSame b c → IsSame a c
same_on a b c first second = record {
  run = record {
    images = second.run.images ∙ first.run.images;
    config = second.run.config ∙ first.run.config;
    entries = second.run.entries ∙ first.run.entries;
    names = second.run.names ∙ first.run.names;
    files = second.run.files ∙ first.run.files;
  };
  client = second.client ∙ first.client;
}

pub asked_on : (a b : SessionView) → IsSame a b → (start : Position) (s : Session)
    → IsAsked a start s → IsAsked b start s
asked_on a b same start s asked = record {
  is = asked.is ∙ sym (session_same a b same s.position);
  moments = asked.moments;
}

-- ---- all that was put

pub put_so_far : (k : SessionView) (s : Session) (shows : IsSessionOf k s) (puts : List Put)
    → HasKept shows.start 0 k.playback.moves puts
    → puts_before k.playback.moves puts ≡ puts_from (rewound s.position) s.position
put_so_far k s shows puts kept =
    let start : Position = shows.start in
    let at : s.position ≡ here k start = (asked_of k s shows).1 in
    let back : rewound s.position ≡ start = ap rewound at ∙ here_rewound k start shows.start_is in
    kept.each k.playback.moves (omega arith) (omega arith)
    ∙ ap (λ (x : Position). puts_from x (here k start)) (sym back)
    ∙ ap (puts_from (rewound s.position)) (sym at)
  where
    here_rewound : (k : SessionView) (start : Position) → IsStartOf k.playback start
        → rewound (here k start) ≡ start
    here_rewound k start is_start =
        rewound_after k.playback.moves start ∙ start_rewound k.playback start is_start
