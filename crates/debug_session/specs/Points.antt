-- Breakpoints and watchpoints as they are set. GDB remote protocol, gdb's manual, appendix E,
-- section "Packets", `Z`; the order of watchpoints is this project's own rule.
use Rattle.std.specs.Prelude.{ℕ, ◌==◌, ◌&&◌, Bool, true, false, not, List, [], ◌∷◌, ◌++◌, filter}
use Rattle.std.specs.List.{list_any}
pub use Rattle.debug_session.specs.declared.points.Breakpoint.{Breakpoint}
pub use Rattle.debug_session.specs.declared.points.WatchKind.{WatchKind}
pub use Rattle.debug_session.specs.declared.points.Watchpoint.{Watchpoint}
use Rattle.debug_session.specs.declared.points.WatchKind.TheVariants.{Changes, Reads, Accesses}

-- ---- breakpoints

abbrev pub is_breakpoint : (p address : ℕ) → Breakpoint → Bool
is_breakpoint p address b = b.process == p && b.address == address

-- one stands there
abbrev pub is_broken_at : List Breakpoint → (p address : ℕ) → Bool
is_broken_at points p address = list_any (is_breakpoint p address) points

abbrev pub without_breakpoint : List Breakpoint → (p address : ℕ) → List Breakpoint
without_breakpoint points p address = filter (λ b. not (is_breakpoint p address b)) points

-- set once
abbrev pub with_breakpoint : List Breakpoint → (p address : ℕ) → List Breakpoint
with_breakpoint points p address =
    record { process = p; address = address } ∷ without_breakpoint points p address

-- ---- watchpoints, in their order

abbrev pub is_same_kind : WatchKind → WatchKind → Bool
is_same_kind Changes Changes = true
is_same_kind Reads Reads = true
is_same_kind Accesses Accesses = true
is_same_kind _ _ = false

abbrev pub is_same_watchpoint : Watchpoint → Watchpoint → Bool
is_same_watchpoint a b =
    a.process == b.process && a.address == b.address && a.length == b.length
    && is_same_kind a.kind b.kind

-- one that doesn't stand may go
abbrev pub without_watchpoint : List Watchpoint → Watchpoint → List Watchpoint
without_watchpoint points point = filter (λ other. not (is_same_watchpoint point other)) points

-- One that stands is set again at the end of the order.
abbrev pub with_watchpoint : List Watchpoint → Watchpoint → List Watchpoint
with_watchpoint points point = without_watchpoint points point ++ point ∷ []
