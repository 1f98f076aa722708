-- What a call leaves that comes to no run: nothing was put by then.
use Rattle.std.proofs.Common.{◌≡◌, ◌≤◌, ◌<◌, inl, refl, ◌∙◌, subst, true, ℕ, List, [], Ok, Err}
use Rattle.std.proofs.Common.{arith}
use Rattle.std.specs.Prelude.{IfSome, nat_lt}
use Rattle.std.proofs.lemmas.Bool.{le-ltb}
use Rattle.std.proofs.lemmas.Bool.Decides.{nat_tests}
use Rattle.dos_io.specs.Outside.{Rose}
use Rattle.dos_io.proofs.OutsideLaws.{grown-nothing}
use Rattle.dos_world.specs.declared.Config.{Config}
use Rattle.elf_image.specs.Image.{Image}
use Rattle.flat_machine.specs.Opening.{needed}
use Rattle.dos_texts.specs.declared.refusal.Refusal.{Refusal}
use Rattle.dos_texts.specs.declared.refusal.Refusal.TheVariants as refusals
use Rattle.dos_words.specs.declared.request.Request.{Request}
use Rattle.dos_cmd.specs.Judging.{OfFiles, judgement, with_room}
use Rattle.dos_cmd.specs.Outside.{Outside, Faults, FilesStay, HostStays, Says, TallyStays}
use Rattle.dos_cmd.specs.ReplayLeaves.{OfReading}
use Rattle.dos_cmd.specs.Results.{Leaves}
use Rattle.dos_cmd.specs.Stops.{IsNotOpened}

-- All stands.
pub says_nothing : (o : Outside) → o.out_after ≡ o.out → o.err_after ≡ o.err → FilesStay o
    → HostStays o → TallyStays o → Says o []
says_nothing o out err files host tally = record {
  out_stays = out;
  err_says = err ∙ grown-nothing o.err;
  files_stay = files;
  host_stays = host;
  tally_stays = tally;
}

-- ---- what was read is refused

pub leaves_reading : (asked : Request) (o : Outside) (f : Faults) (why : Refusal)
    → OfReading why (λ w. IfSome (judgement o.files asked) (λ j. j ≡ Err w))
    → (why ≡ refusals.Files → Rose f.files f.files_after) → Says o [] → Leaves asked o f why []
leaves_reading asked o f (refusals.TooLong image) h k s = record { is = h; says = s }
leaves_reading asked o f (refusals.Image image error) h k s = record { is = h; says = s }
leaves_reading asked o f (refusals.Log why) h k s = record { is = h; says = s }
leaves_reading asked o f refusals.Files h k s = (k refl, inl s)
leaves_reading asked o f refusals.Memory h k s = inl s
leaves_reading asked o f why h k s = absurd h

-- of images alone
pub of_files : (why : Refusal) (P Q : Refusal → Type 0) → ((w : Refusal) → P w → Q w)
    → OfFiles why P → OfReading why Q
of_files (refusals.TooLong image) P Q step h = step (refusals.TooLong image) h
of_files (refusals.Image image error) P Q step h = step (refusals.Image image error) h
of_files refusals.Files P Q step h = tt
of_files refusals.Memory P Q step h = tt
of_files why P Q step h = absurd h

-- ---- room

pub has_room : (frames : ℕ) (images : List Image) → needed images ≤ frames
    → with_room frames (Ok images) ≡ Ok images
has_room frames images fits = rw (le-ltb frames (needed images) fits) refl

pub no_room : (frames : ℕ) (images : List Image) → frames < needed images
    → with_room frames (Ok images) ≡ Err (refusals.NoRoom (needed images) frames)
no_room frames images over =
    let more : nat_lt frames (needed images) ≡ true = grind (arith, nat_tests) in
    rw more refl

pub no_room_so : (n frames needs has : ℕ) → n ≡ needs → frames ≡ has
    → refusals.NoRoom needs has ≡ refusals.NoRoom n frames
no_room_so n frames needs has a b = cc

-- A group isn't opened for want of room, or of memory.
pub not_opened_as : (images : List Image) (config : Config) (why : Refusal)
    (P : Refusal → Type 0) → IsNotOpened images config why
    → (config.frames < needed images → P (refusals.NoRoom (needed images) config.frames))
    → P refusals.Memory → P why
not_opened_as images config (refusals.NoRoom n frames) P h room memory =
    subst P (no_room_so n frames (needed images) config.frames h.0 h.1) (room h.2)
not_opened_as images config refusals.Memory P h room memory = memory
not_opened_as images config why P h room memory = absurd h
