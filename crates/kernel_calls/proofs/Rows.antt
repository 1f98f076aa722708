-- What a row says of its service, as what the kernel promises of a call.
use Rattle.std.proofs.Common.{◌≡◌, ℕ, sym, ap, ◌∙◌}
use Rattle.dos_world.specs.World.{registers_by}
use Rattle.dos_world.specs.Kernel.{answered}
use Rattle.dos_world.specs.Play.{done}
use Rattle.dos_world.specs.Services.{returns, went}
use Rattle.proc_table.specs.Tables.{thread_by}
use Rattle.kernel_calls.specs.Built.{quiet_definition_of}
use Rattle.kernel_calls.specs.StateWorld.{sent, world_of}
use Rattle.kernel_calls.specs.CallResults.{ActsQuietly, call_in}
use Rattle.kernel_calls.specs.declared.naming.QuietService.{QuietService}
use Rattle.kernel_calls.specs.declared.state.State.{State}
use Rattle.kernel_calls.specs.declared.state.Asked.{Asked}
use Rattle.kernel_calls.specs.declared.state.Served.{Served}
use Rattle.kernel_calls.specs.declared.state.Served.TheVariants.{Went}

-- an answer, of a service that returns one
pub goes_replied : (s new : State) (a : Asked) (value : ℕ)
    → new ≡ record s { table = thread_by (registers_by (answered value)) s.table a.thread }
    → ActsQuietly (returns value) s a Went new
goes_replied s new a value is q o e = ap (λ x. done (went (sent o e (world_of q x)))) (sym is)

-- a row of a service by its name
pub goes_as : (service name : QuietService) → service ≡ name → (s : State) (a : Asked)
    (way : Served) (new : State) → ActsQuietly (quiet_definition_of name) s a way new
    → ActsQuietly (quiet_definition_of service) s a way new
goes_as service name is s a way new goes q o e =
    ap (λ x. quiet_definition_of x (call_in (sent o e (world_of q s)) a)) is ∙ goes q o e
