-- What stays of a session's run and client while it is walked.
use Rattle.std.proofs.Common.{◌≡◌, ℕ, Bool, true, false, List, [], ◌∷◌, refl, sym, ap, subst, ◌∙◌}
use Rattle.std.specs.Prelude.{◌&&◌, IfSome, Option, Some, None, Result, Ok, Err, OnOk, IfOk}
use Rattle.elf_image.specs.Image.{Image}
use Rattle.dos_world.specs.declared.Config.{Config}
use Rattle.gdb_packets.specs.declared.ids.ThreadId.TheVariants.{ThreadAlone}
use Rattle.gdb_packets.specs.declared.ids.Which.TheVariants.{Only}
use Rattle.gdb_packets.specs.declared.resumptions.Action.TheVariants.{Continue}
use Rattle.gdb_packets.specs.declared.resumptions.Resumption.{Resumption}
use Rattle.debug_session.specs.Positions.{Position}
use Rattle.debug_session.specs.Recordings.{LogEntry, Recording}
use Rattle.debug_session.specs.Sessions.{Session}
use Rattle.recorded_walk.specs.Playbacks.{IsStart, IsStartOf}
use Rattle.debug_client.specs.Births.{BirthTables, has_home, has_named, knows_named}
use Rattle.debug_client.specs.Clients.{ClientView, session_of}
use Rattle.debug_hits.specs.Kept.{Kept}
use Rattle.debugger.specs.Standing.{IsAsked, IsSessionReady, IsSame, IsSameRun, StillKnows}
use Rattle.debugger.specs.Standing.{KnowsUpTo}
use Rattle.debugger.specs.Standing.{SessionView, recording_of}

-- ---- the start, and a session that was asked

pub start_stays : (old new : SessionView) → IsSameRun old new → (start : Position)
    → IsStartOf old.playback start → IsStartOf new.playback start
start_stays old new same start is =
    subst (λ (images : List Image). IsStart images new.playback.config new.playback.entries start)
    (sym same.images)
    (subst (λ (config : Config). IsStart old.playback.images config new.playback.entries start)
    (sym same.config)
    (subst (λ (entries : List LogEntry). IsStart old.playback.images old.playback.config entries
    start) (sym same.entries) is))

abbrev recording_by : (names files : List (List ℕ)) → ℕ → List LogEntry → Recording
recording_by names files limit entries =
    record { names = names; files = files; limit = limit; entries = entries }

pub recording_stays : (old new : SessionView) → IsSameRun old new
    → recording_of old ≡ recording_of new
recording_stays old new same =
    sym (ap (λ (x : List (List ℕ)). recording_by x new.files new.playback.config.rounds
    new.playback.entries) same.names
    ∙ ap (λ (x : List (List ℕ)). recording_by old.names x new.playback.config.rounds
    new.playback.entries) same.files
    ∙ ap (λ (x : Config). recording_by old.names old.files x.rounds new.playback.entries)
    same.config
    ∙ ap (λ (x : List LogEntry). recording_by old.names old.files old.playback.config.rounds x)
    same.entries)

pub asked_stays : (old new : SessionView) → IsSame old new → (start : Position) (s : Session)
    → IsAsked old start s → IsAsked new start s
asked_stays old new same start s asked = record {
  is = asked.is
      ∙ ap (λ (c : ClientView). session_of c (recording_of old) s.position) (sym same.client)
      ∙ ap (λ (r : Recording). session_of new.client r s.position)
      (recording_stays old new same.run);
  moments = asked.moments;
}

-- ---- one behind another

pub run_on : (a b c : SessionView) → IsSameRun a b → IsSameRun b c → IsSameRun a c
run_on a b c first second = record {
  images = second.images ∙ first.images;
  config = second.config ∙ first.config;
  entries = second.entries ∙ first.entries;
  names = second.names ∙ first.names;
  files = second.files ∙ first.files;
}

pub same_on : (a b c : SessionView) → IsSame a b → IsSame b c → IsSame a c
same_on a b c first second =
    record { run = run_on a b c first.run second.run; client = second.client ∙ first.client }

pub same_back : (a b : SessionView) → IsSame a b → IsSame b a
same_back a b same = record {
  run = record {
    images = sym same.run.images;
    config = sym same.run.config;
    entries = sym same.run.entries;
    names = sym same.run.names;
    files = sym same.run.files;
  };
  client = sym same.client;
}

pub same_itself : (a : SessionView) → IsSame a a
same_itself a = record {
  run = record { images = refl; config = refl; entries = refl; names = refl; files = refl };
  client = refl;
}

-- of one that is the same but for what is watched
pub same_watched : (a b : SessionView) (kept : List Kept) → b ≡ record a { watched = kept }
    → IsSame a b
same_watched a b kept is = subst (IsSame a) (sym is) (record {
  run = record { images = refl; config = refl; entries = refl; names = refl; files = refl };
  client = refl;
})

-- ---- what it keeps

pub ready_watched : (k : SessionView) (kept : List Kept) → IsSessionReady k
    → IsSessionReady (record k { watched = kept })
ready_watched k kept ready = record {
  running = ready.running;
  stands = ready.stands;
  behind = ready.behind;
  reach = ready.reach;
  births = λ start is_start.
      let facts : KnowsUpTo k start = ready.births start is_start in
      record { known = facts.known; few = facts.few; whole = facts.whole };
  there = ready.there;
  told = ready.told;
  images = ready.images;
  names = ready.names;
}

-- a thread whose home is known
pub home_stays : (old new : SessionView) → StillKnows old new → (t : ℕ)
    → has_home old.births t ≡ true → has_home new.births t ≡ true
home_stays old new keeps t known =
    let rs : List Resumption =
    record { threads = ThreadAlone (Only t); action = Continue } ∷ [] in
    and_true (has_home new.births t) (keeps rs (ap (λ (b : Bool). b && true) known))
  where
    and_true : (b : Bool) → (b && true) ≡ true → b ≡ true
    and_true true is = refl
    and_true false is = is

pub named_stays : (old new : SessionView) → StillKnows old new → (o : Option ℕ)
    → has_named old.births o ≡ true → has_named new.births o ≡ true
named_stays old new keeps None known = refl
named_stays old new keeps (Some t) known = home_stays old new keeps t known

pub home_in_stays : (old new : SessionView) → StillKnows old new → (o : Option ℕ)
    → IfSome o (λ t. has_home old.births t ≡ true)
    → IfSome o (λ t. has_home new.births t ≡ true)
home_in_stays old new keeps None known = tt
home_in_stays old new keeps (Some t) known = home_stays old new keeps t known

-- of one with the same births
pub known_same : (old new : SessionView) → new.births ≡ old.births → StillKnows old new
known_same old new is rs known = ap (λ (b : BirthTables). knows_named b rs) is ∙ known

pub known_on : (a b c : SessionView) → StillKnows a b → StillKnows b c → StillKnows a c
known_on a b c first second rs known = second rs (first rs known)

-- ---- what holds of a result

pub ok_map : {A E P Q : Type 0} (r : Result A E) → (P → Q) → OnOk r P → OnOk r Q
ok_map (Ok x) gives is = gives is
ok_map (Err e) gives is = tt

pub ok_each : {A E Q : Type 0} (r : Result A E) (P : (q : ℕ) (o e : List ℕ) → Type 0)
    → (((q : ℕ) (o e : List ℕ) → P q o e) → Q)
    → ((q : ℕ) (o e : List ℕ) → OnOk r (P q o e)) → OnOk r Q
ok_each (Ok x) P gives is = gives is
ok_each (Err e) P gives is = tt

pub if_ok_map : {A E : Type 0} (r : Result A E) (P Q : A → Type 0)
    → ((x : A) → P x → Q x) → IfOk r P → IfOk r Q
if_ok_map (Ok x) P Q gives is = gives x is
if_ok_map (Err e) P Q gives is = tt
