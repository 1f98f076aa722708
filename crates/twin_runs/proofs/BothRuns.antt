-- What came of both runs, once the notes of the one are those of the other.
use Rattle.std.proofs.Common.{◌≡◌, ℕ, List, [], Option, sym, ap, ◌∙◌}
use Rattle.std.specs.Prelude.{Result}
use Rattle.dos_world.specs.declared.Config.{Config}
use Rattle.dos_world.specs.declared.Ending.{Ending}
use Rattle.dos_io.specs.Given.{Given}
use Rattle.dos_io.specs.Hosts.{Told}
use Rattle.dos_io.specs.declared.exchange.ClockRule.TheVariants.{FromHost}
use Rattle.elf_image.specs.Image.{Image}
use Rattle.group_rounds.specs.Kernels.{Held}
use Rattle.kernel_calls.specs.declared.state.RunStop.{RunStop}
use Rattle.logged_runs.specs.Opened.{IsOpenedWith}
use Rattle.twin_shims.specs.declared.note.Note.{Note}
use Rattle.twin_shims.specs.Notes.{exchanges_in}
use Rattle.twin_runs.specs.Both.{RanBoth}
use Rattle.twin_runs.specs.Twins.{Followed, LeaderCame}
use Rattle.twin_runs.proofs.Alikes.{alike}

pub ran_both : (leader follower : Result Ending RunStop) (sent taken : List Note)
    (host host_after : Option Told) (first first' second second' : Held)
    (o e o1 e1 p q p1 q1 : Option (List ℕ)) (t t1 : ℕ) → taken ≡ sent
    → Given [] FromHost 0 host host_after (exchanges_in sent)
    → ((images : List Image) (config : Config) → IsOpenedWith first images config
    → LeaderCame leader images config (exchanges_in sent) first' o e o1 e1 t t1)
    → ((before after : ℕ) × Followed second second' follower taken p q p1 q1 before after)
    → (images : List Image) (config : Config) → IsOpenedWith first images config
    → IsOpenedWith second images config
    → RanBoth leader follower images config host host_after first' o e o1 e1 p q p1 q1 t t1
ran_both leader follower sent taken host host_after first first' second second' o e o1 e1 p q p1 q1
    t t1 same given led followed images config opened opened' =
    let f = followed.2 in
    let came = f.came images config opened' in
    let front = ap exchanges_in (sym same) ∙ f.front in record {
      told = exchanges_in sent;
      followed = f.told;
      rest = f.rest;
      front = front;
      given = given;
      led = led images config opened;
      came = (second', followed.0, followed.1, came);
      stops = f.stops;
      alike = alike images config (exchanges_in sent) f.told f.rest first' second' o e o1 e1 p q p1
          q1 t t1 followed.0 followed.1 front leader follower (led images config opened) came
          f.stops;
    }
