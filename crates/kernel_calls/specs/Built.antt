-- The services that this kernel has. A new one is a row here, and its name in the list below. This
-- project's own; the definitions are those of dos_world.
use Rattle.std.specs.Prelude.{ℕ, List, [], ◌∷◌, find, Option, Some, None, ◌==◌}
use Rattle.dos_world.specs.Errors.{enosys}
use Rattle.dos_world.specs.Services.{Service as FlatService, refuses, thread_exit, process_exit}
use Rattle.dos_world.specs.Services.{thread_new, fork, wait, pipe, read, write, close, dup}
use Rattle.dos_world.specs.Services.{futex_wait, futex_wake, map_pages, unmap, share, sig_handler}
use Rattle.dos_world.specs.Services.{sig_mask, sig_return, kill, get_pid, get_tid, clock, yield}
use Rattle.dos_world.specs.Services.{round_number}
use Rattle.kernel_calls.specs.declared.naming.Service.{Service}
use Rattle.kernel_calls.specs.declared.naming.Service.TheVariants.{Quiet, Read, Write, Clock}
use Rattle.kernel_calls.specs.declared.naming.QuietService.{QuietService}
use Rattle.kernel_calls.specs.declared.naming.QuietService.TheVariants.{ThreadExit, ProcessExit}
use Rattle.kernel_calls.specs.declared.naming.QuietService.TheVariants.{ThreadNew, Fork, Wait, Pipe}
use Rattle.kernel_calls.specs.declared.naming.QuietService.TheVariants.{Close, Dup, FutexWait}
use Rattle.kernel_calls.specs.declared.naming.QuietService.TheVariants.{FutexWake, MapPages, Unmap}
use Rattle.kernel_calls.specs.declared.naming.QuietService.TheVariants.{Share, SigHandler, SigMask}
use Rattle.kernel_calls.specs.declared.naming.QuietService.TheVariants.{SigReturn, Kill, GetPid}
use Rattle.kernel_calls.specs.declared.naming.QuietService.TheVariants.{GetTid, Yield, RoundNumber}

-- each service that asks nothing and sends nothing, with its number and what it does
abbrev pub quiet_row_of : QuietService → ℕ × FlatService
quiet_row_of ThreadExit = (1, thread_exit)
quiet_row_of ProcessExit = (2, process_exit)
quiet_row_of ThreadNew = (3, thread_new)
quiet_row_of Fork = (4, fork)
quiet_row_of Wait = (5, wait)
quiet_row_of Pipe = (6, pipe)
quiet_row_of Close = (9, close)
quiet_row_of Dup = (10, dup)
quiet_row_of FutexWait = (11, futex_wait)
quiet_row_of FutexWake = (12, futex_wake)
quiet_row_of MapPages = (13, map_pages)
quiet_row_of Unmap = (14, unmap)
quiet_row_of Share = (15, share)
quiet_row_of SigHandler = (16, sig_handler)
quiet_row_of SigMask = (17, sig_mask)
quiet_row_of SigReturn = (18, sig_return)
quiet_row_of Kill = (19, kill)
quiet_row_of GetPid = (20, get_pid)
quiet_row_of GetTid = (21, get_tid)
quiet_row_of Yield = (23, yield)
quiet_row_of RoundNumber = (24, round_number)

-- each service
abbrev pub row_of : Service → ℕ × FlatService
row_of (Quiet service) = quiet_row_of service
row_of Read = (7, read)
row_of Write = (8, write)
row_of Clock = (22, clock)

-- the services, one after another
abbrev pub built_services : List Service
built_services =
    Quiet ThreadExit ∷ Quiet ProcessExit ∷ Quiet ThreadNew ∷ Quiet Fork ∷ Quiet Wait ∷
    Quiet Pipe ∷ Read ∷ Write ∷ Quiet Close ∷ Quiet Dup ∷ Quiet FutexWait ∷ Quiet FutexWake ∷
    Quiet MapPages ∷ Quiet Unmap ∷ Quiet Share ∷ Quiet SigHandler ∷ Quiet SigMask ∷
    Quiet SigReturn ∷ Quiet Kill ∷ Quiet GetPid ∷ Quiet GetTid ∷ Clock ∷ Quiet Yield ∷
    Quiet RoundNumber ∷ []

-- ---- what follows from them

-- the number of a service
abbrev pub service_number : Service → ℕ
service_number service = (row_of service).0

-- what it does
abbrev pub definition_of : Service → FlatService
definition_of service = (row_of service).1

-- what one does that asks nothing and sends nothing
abbrev pub quiet_definition_of : QuietService → FlatService
quiet_definition_of service = (quiet_row_of service).1

-- the service of this number, where there is one
abbrev pub named : ℕ → Option Service
named number = find (λ service. service_number service == number) built_services

-- what is done for a call of it; without one the call is refused
abbrev pub definition_by : Option Service → FlatService
definition_by None = refuses enosys
definition_by (Some service) = definition_of service
