-- What is written is read back.
use Rattle.std.specs.Prelude.{◌≡◌, ◌<◌, ◌^◌, ℕ, List, Option, Some, false, ◌==◌}
use Rattle.std.specs.Prelude.{length}
use Rattle.std.specs.List.{AllByRecursion}
use Rattle.gdb_packets.specs.declared.ids.Which.{Which}
use Rattle.gdb_packets.specs.declared.ids.Which.TheVariants.{Only}
use Rattle.gdb_packets.specs.declared.ids.ThreadId.{ThreadId}
use Rattle.gdb_packets.specs.declared.ids.ThreadId.TheVariants.{Both, ProcessAlone, ThreadAlone}
use Rattle.gdb_packets.specs.declared.resumptions.Action.{Action}
use Rattle.gdb_packets.specs.declared.resumptions.Action.TheVariants.{ContinueSignal, StepSignal}
use Rattle.gdb_packets.specs.declared.resumptions.Action.TheVariants.{Range}
use Rattle.gdb_packets.specs.declared.resumptions.Resumption.{Resumption}

-- of each value that fits, by its text and a reading of texts
abbrev pub AreReadBack : {A : Type 0} → (A → Type 0) → (A → List ℕ) → (List ℕ → Option A) → Type 0
AreReadBack {A} fits text from = (x : A) → fits x → from (text x) ≡ Some x

-- a number of 32 bits
abbrev pub IsNumber : ℕ → Type 0
IsNumber n = n < 2 ^ 32

-- bytes
abbrev pub AreBytes : List ℕ → Type 0
AreBytes bytes = AllByRecursion (λ b. b < 256) bytes

-- 0 stands for any, so no one has that number
abbrev pub IsWhich : Which → Type 0
IsWhich (Only n) = (0 < n) × (n < 2 ^ 32)
IsWhich _ = Unit {0}

abbrev pub IsThreadId : ThreadId → Type 0
IsThreadId (Both process thread) = IsWhich process × IsWhich thread
IsThreadId (ProcessAlone process) = IsWhich process
IsThreadId (ThreadAlone thread) = IsWhich thread

-- bytes without the one that ends a packet
abbrev pub AreBodyBytes : List ℕ → Type 0
AreBodyBytes body = AllByRecursion (λ b. (b == 35) ≡ false) body

-- signals have two digits
abbrev pub IsResumedAction : Action → Type 0
IsResumedAction (ContinueSignal signal) = signal < 256
IsResumedAction (StepSignal signal) = signal < 256
IsResumedAction (Range low high) = IsNumber low × IsNumber high
IsResumedAction _ = Unit {0}

abbrev pub IsResumption : Resumption → Type 0
IsResumption r = IsResumedAction r.action × IsThreadId r.threads

-- one at least
abbrev pub AreResumptions : List Resumption → Type 0
AreResumptions rs = (0 < length rs) × AllByRecursion IsResumption rs
