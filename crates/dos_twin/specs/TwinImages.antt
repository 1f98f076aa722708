-- Which images a twin runs. This project's own rules.
use Rattle.std.specs.Prelude.{◌≡◌, ℕ, List, map, Option, option_map, IfSome, Ok, Err, ⊤}
use Rattle.dos_world.specs.declared.Config.{Config}
use Rattle.dos_world.specs.declared.Scheme.TheVariants.{Ownership}
use Rattle.elf_image.specs.Image.{Image}
use Rattle.dos_texts.specs.declared.refusal.Refusal.{Refusal}
use Rattle.dos_texts.specs.declared.refusal.Refusal.TheVariants as refusals
use Rattle.dos_words.specs.Numbers.{Text}
use Rattle.dos_cmd.specs.Judging.{Images, images_from, with_room}
use Rattle.group_rounds.specs.Kernels.{Held}
use Rattle.logged_runs.specs.Opened.{IsOpenedWith}
use Rattle.dos_twin.specs.TwinOutside.{TwinOutside, TwinSays}

-- what both sides run with
abbrev pub twin_config : Config
twin_config = record { quantum = 1000; rounds = 100000; frames = 4096; scheme = Ownership }

-- What the files of these names are taken for; None where that is left open.
abbrev pub twin_images : (Text → Option (List ℕ)) → List Text → Option Images
twin_images contents names =
    option_map (with_room twin_config.frames) (images_from 1 (map contents names))

-- The images that the files are taken for, as far as they tell, and what is then so.
pub record TwinBegun (names : List Text) (o : TwinOutside) (P : List Image → Type 0) : Type 0
  where
    pub images : List Image
    pub is : IfSome (twin_images o.files names) (λ j. j ≡ Ok images)
    pub so : P images

-- The files aren't taken for images, for this reason, as far as they tell; nothing but the last
-- bytes was put.
pub record TwinNotBegun (names : List Text) (o : TwinOutside) (why : Refusal) (last : List ℕ) :
    Type 0 where
  pub is : IfSome (twin_images o.files names) (λ j. j ≡ Err why)
  pub says : TwinSays o last

-- Two kernels were opened with the images that the files are taken for.
pub record AreBothOpened (names : List Text) (contents : Text → Option (List ℕ))
    (first second : Held) : Type 0 where
  pub images : List Image
  pub is : IfSome (twin_images contents names) (λ j. j ≡ Ok images)
  pub opened : IsOpenedWith first images twin_config
  pub second_opened : IsOpenedWith second images twin_config

-- The names' images aren't read, or their groups not opened, for this reason: what the files are
-- taken for, as far as they tell, a fault of theirs, or want of memory.
abbrev pub IsNotRead : List Text → (contents : Text → Option (List ℕ)) → Refusal → Type 0
IsNotRead names contents (refusals.TooLong image) =
    IfSome (twin_images contents names) (λ j. j ≡ Err (refusals.TooLong image))
IsNotRead names contents (refusals.Image image error) =
    IfSome (twin_images contents names) (λ j. j ≡ Err (refusals.Image image error))
IsNotRead names contents (refusals.NoRoom needed frames) =
    IfSome (twin_images contents names) (λ j. j ≡ Err (refusals.NoRoom needed frames))
IsNotRead names contents refusals.Files = ⊤
IsNotRead names contents refusals.Memory = ⊤
IsNotRead names contents _ = ⊥
