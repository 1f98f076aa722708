-- Which processes a client was told of, behind what it asks. This project's own.
use Rattle.std.proofs.Common.{◌≡◌, ℕ, ◌∙◌, Bool, true, false, List, Option, Some, None, refl, ap}
use Rattle.std.specs.Prelude.{codes, if◌then◌else◌, not, ◌||◌, length, nat_lt}
use Rattle.std.specs.Int.{is_in_range}
use Rattle.gdb_packets.specs.declared.ids.ThreadId.{ThreadId}
use Rattle.gdb_packets.specs.declared.ids.ThreadId.TheVariants.{Both, ProcessAlone, ThreadAlone}
use Rattle.gdb_packets.specs.declared.ids.Which.{Which}
use Rattle.gdb_packets.specs.declared.ids.Which.TheVariants.{All, Any, Only}
use Rattle.gdb_packets.specs.declared.packets.Point.{Point}
use Rattle.gdb_packets.specs.declared.packets.PointKind.{PointKind}
use Rattle.gdb_packets.specs.declared.packets.PointKind.TheVariants.{AccessWatchpoint}
use Rattle.gdb_packets.specs.declared.packets.PointKind.TheVariants.{HardwareBreakpoint}
use Rattle.gdb_packets.specs.declared.packets.PointKind.TheVariants.{ReadWatchpoint}
use Rattle.gdb_packets.specs.declared.packets.PointKind.TheVariants.{SoftwareBreakpoint}
use Rattle.gdb_packets.specs.declared.packets.PointKind.TheVariants.{WriteWatchpoint}
use Rattle.debug_session.specs.Answers.{means}
use Rattle.debug_session.specs.Current.{named_alone, named_both, named_current, named_process}
use Rattle.debug_session.specs.Current.{standing_thread, with_process}
use Rattle.debug_session.specs.Homes.{is_some_number}
use Rattle.debug_session.specs.declared.points.Breakpoint.{Breakpoint}
use Rattle.debug_session.specs.declared.points.WatchKind.{WatchKind}
use Rattle.debug_session.specs.declared.points.Watchpoint.{Watchpoint}
use Rattle.debug_session.specs.Points.{with_breakpoint, with_watchpoint}
use Rattle.debug_session.specs.Resuming.{Answered, replies_one}
use Rattle.debug_session.specs.Sessions.{Session, home_in, is_among, listed}
use Rattle.debug_session.specs.Setting.{breaks_at, inserts, removed_kind, watches, watchpoint_of}
use Rattle.debug_session.specs.declared.points.WatchKind.TheVariants.{Accesses, Changes, Reads}
use Rattle.debug_client.specs.Births.{has_processes}
use Rattle.debug_client.specs.Clients.{ClientView}
use Rattle.debugger.specs.Standing.{IsSessionReady, KnowsUpTo, SessionView}

-- ---- which processes were told of

either_told : (s : Session) (x y : Answered) (b : Bool) → x.0.told ≡ s.told → y.0.told ≡ s.told
    → (if b then x else y).0.told ≡ s.told
either_told s x y true first second = first
either_told s x y false first second = second

pub means_told : (s : Session) (thread : Option ℕ) → (means s thread).0.told ≡ s.told
means_told s None = refl
means_told s (Some t) =
    either_told s (replies_one (record s { meant = t }) (codes "OK"))
    (replies_one s (codes "E01")) (is_among t (listed s)) refl refl

breaks_told : (s : Session) (point : Point) → (breaks_at s point).0.told ≡ s.told
breaks_told s point =
    let more : List Breakpoint = with_breakpoint s.breakpoints s.process point.at.from in
    either_told s (replies_one s (codes "E01"))
    (replies_one (record s { breakpoints = more }) (codes "OK"))
    (nat_lt 256 (length more)) refl refl

watches_told : (s : Session) (kind : WatchKind) (point : Point)
    → (watches s kind point).0.told ≡ s.told
watches_told s kind point =
    let more : List Watchpoint = with_watchpoint s.watchpoints (watchpoint_of s kind point) in
    either_told s (replies_one s (codes "E01"))
    (replies_one (record s { watchpoints = more }) (codes "OK"))
    (nat_lt 16 (length more) || not (is_in_range 1 4096 point.at.length)) refl refl

pub inserts_told : (s : Session) (point : Point) → (inserts s point).0.told ≡ s.told
inserts_told s point = by point.kind
  where
    by : (kind : PointKind)
        → (inserts s (record point { kind = kind })).0.told ≡ s.told
    by SoftwareBreakpoint = breaks_told s point
    by HardwareBreakpoint = breaks_told s point
    by WriteWatchpoint = watches_told s Changes point
    by ReadWatchpoint = watches_told s Reads point
    by AccessWatchpoint = watches_told s Accesses point

pub removed_told : (s : Session) (kind : PointKind) (point : Point)
    → (removed_kind s kind point).told ≡ s.told
removed_told s SoftwareBreakpoint point = refl
removed_told s HardwareBreakpoint point = refl
removed_told s WriteWatchpoint point = refl
removed_told s ReadWatchpoint point = refl
removed_told s AccessWatchpoint point = refl

process_told : (s : Session) (p : ℕ) → (with_process s p).told ≡ s.told
process_told s p = by (is_some_number p (home_in s s.thread))
  where
    by : (b : Bool) → (if b then record s { process = p }
        else record s { process = p; thread = standing_thread s p }).told ≡ s.told
    by true = refl
    by false = refl

alone_told : (s : Session) (thread : Which) → (named_alone s thread).told ≡ s.told
alone_told s All = process_told s s.process
alone_told s Any = process_told s s.process
alone_told s (Only t) = refl

alone_process_told : (s : Session) (process : Which) → (named_process s process).told ≡ s.told
alone_process_told s All = process_told s s.process
alone_process_told s Any = process_told s s.process
alone_process_told s (Only p) = process_told s p

both_told : (s : Session) (process thread : Which)
    → (named_both s process thread).told ≡ s.told
both_told s (Only p) (Only t) = refl
both_told s (Only p) All = process_told s p
both_told s (Only p) Any = process_told s p
both_told s All thread = alone_told s thread
both_told s Any thread = alone_told s thread

pub named_told : (s : Session) (id : ThreadId) → (named_current s id).told ≡ s.told
named_told s (Both process thread) = both_told s process thread
named_told s (ProcessAlone process) = alone_process_told s process
named_told s (ThreadAlone thread) = alone_told s thread

-- ---- what is kept with another client

-- All that was told of is known.
pub ready_with : (k : SessionView) (client : ClientView) → IsSessionReady k
    → has_processes k.births client.told ≡ true → IsSessionReady (record k { client = client })
ready_with k client ready told = record {
  running = ready.running;
  stands = ready.stands;
  behind = ready.behind;
  reach = ready.reach;
  births = λ start is_start.
      let facts : KnowsUpTo k start = ready.births start is_start in
      record { known = facts.known; few = facts.few; whole = facts.whole };
  there = ready.there;
  told = told;
  images = ready.images;
  names = ready.names;
}

-- The same was told of.
pub ready_alike : (k : SessionView) (client : ClientView) → IsSessionReady k
    → client.told ≡ k.client.told → IsSessionReady (record k { client = client })
ready_alike k client ready same =
    ready_with k client ready (ap (has_processes k.births) same ∙ ready.told)
