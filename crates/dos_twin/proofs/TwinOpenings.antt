-- What the files of a twin's names are taken for.
use Rattle.std.proofs.Common.{◌≡◌, ◌≤◌, ◌<◌, refl, ap, ◌∙◌, sym, subst, true, ℕ, List, map, Option}
use Rattle.std.proofs.Common.{Some, None, Result, Ok, Err, arith, Bool, false, leb, ◌&&◌, length}
use Rattle.std.specs.Prelude.{IfOk, IfSome, nat_lt, option_map, if◌then◌else◌}
use Rattle.std.specs.List.{list_all}
use Rattle.std.proofs.lemmas.Bool.{le-ltb, and_parts, leb-true}
use Rattle.std.proofs.lemmas.Bool.Decides.{nat_tests}
use Rattle.dos_world.specs.declared.Config.{Config}
use Rattle.elf_image.specs.Image.{Image}
use Rattle.flat_machine.specs.Opening.{needed}
use Rattle.dos_texts.specs.declared.refusal.Refusal.{Refusal}
use Rattle.dos_texts.specs.declared.refusal.Refusal.TheVariants as refusals
use Rattle.dos_words.specs.Asked.{images_of}
use Rattle.dos_words.specs.Canonical.{is_plain, names_alone}
use Rattle.dos_words.specs.Numbers.{Text}
use Rattle.dos_words.proofs.RangeLaws.{guard_some}
use Rattle.dos_cmd.specs.Judging.{Images, OfFiles, images_from, with_room}
use Rattle.dos_cmd.specs.Stops.{IsNotOpened}
use Rattle.group_rounds.specs.Kernels.{Held}
use Rattle.logged_runs.specs.Opened.{IsOpenedWith}
use Rattle.dos_twin.specs.TwinImages.{AreBothOpened, IsNotRead, twin_config, twin_images}

-- ---- room

has_room : (images : List Image) → needed images ≤ twin_config.frames
    → with_room twin_config.frames (Ok images) ≡ Ok images
has_room images fits = rw (le-ltb twin_config.frames (needed images) fits) refl

no_room : (images : List Image) → twin_config.frames < needed images
    → with_room twin_config.frames (Ok images)
    ≡ Err (refusals.NoRoom (needed images) twin_config.frames)
no_room images over =
    let more : nat_lt twin_config.frames (needed images) ≡ true = grind (arith, nat_tests) in
    rw more refl

no_room_so : (n frames needs has : ℕ) → n ≡ needs → frames ≡ has
    → refusals.NoRoom needs has ≡ refusals.NoRoom n frames
no_room_so n frames needs has a b = cc

-- ---- what all files are taken for, from what their images are

then_judged : (told : Option Images) (images j : Images) → with_room twin_config.frames images ≡ j
    → IfSome told (λ i. i ≡ images) → IfSome (option_map (with_room twin_config.frames) told)
    (λ k. k ≡ j)
then_judged None images j e h = tt
then_judged (Some i) images j e h = ap (with_room twin_config.frames) h ∙ e

-- the same images under another name
same_images : (told : Option Images) (images others : List Image) → images ≡ others
    → IfSome told (λ i. i ≡ Ok others) → IfSome told (λ i. i ≡ Ok images)
same_images None images others e h = tt
same_images (Some i) images others e h =
    subst (λ (x : List Image). (let whole : Images = Ok x in i ≡ whole)) (sym e) h

pub taken : (contents : Text → Option (List ℕ)) (names : List Text) (images others : List Image)
    → images ≡ others → needed images ≤ twin_config.frames
    → IfSome (images_from 1 (map contents names)) (λ i. i ≡ Ok others)
    → IfSome (twin_images contents names) (λ j. j ≡ Ok images)
taken contents names images others same fits h =
    then_judged (images_from 1 (map contents names)) (Ok images) (Ok images)
    (has_room images fits)
    (same_images (images_from 1 (map contents names)) images others same h)

-- with both groups
pub both_opened : (r : Result (Held × Held) Refusal) (contents : Text → Option (List ℕ))
    (names : List Text) (images others : List Image) → images ≡ others
    → IfSome (images_from 1 (map contents names)) (λ i. i ≡ Ok others)
    → IfOk r (λ k. needed images ≤ twin_config.frames)
    → IfOk r (λ k. IsOpenedWith k.0 images twin_config)
    → IfOk r (λ k. IsOpenedWith k.1 images twin_config)
    → IfOk r (λ k. AreBothOpened names contents k.0 k.1)
both_opened (Ok k) contents names images others same h fits first second = record {
  images = images;
  is = taken contents names images others same fits h;
  opened = first;
  second_opened = second;
}
both_opened (Err why) contents names images others same h fits first second = tt

-- ---- they aren't taken for images, or aren't opened

refused : (contents : Text → Option (List ℕ)) (names : List Text) (why : Refusal)
    → IfSome (images_from 1 (map contents names)) (λ i. i ≡ Err why)
    → IfSome (twin_images contents names) (λ j. j ≡ Err why)
refused contents names why h =
    then_judged (images_from 1 (map contents names)) (Err why) (Err why) refl h

pub not_read : (contents : Text → Option (List ℕ)) (names : List Text) (why : Refusal)
    → OfFiles why (λ w. IfSome (images_from 1 (map contents names)) (λ i. i ≡ Err w))
    → IsNotRead names contents why
not_read contents names (refusals.TooLong image) h =
    refused contents names (refusals.TooLong image) h
not_read contents names (refusals.Image image error) h =
    refused contents names (refusals.Image image error) h
not_read contents names refusals.Files h = tt
not_read contents names refusals.Memory h = tt
not_read contents names why h = absurd h

pub not_opened : (contents : Text → Option (List ℕ)) (names : List Text)
    (images others : List Image) (why : Refusal) → images ≡ others
    → IfSome (images_from 1 (map contents names)) (λ i. i ≡ Ok others)
    → IsNotOpened images twin_config why → IsNotRead names contents why
not_opened contents names images others (refusals.NoRoom n frames) same h over =
    subst (λ (w : Refusal). IfSome (twin_images contents names) (λ j. j ≡ Err w))
    (no_room_so n frames (needed images) twin_config.frames over.0 over.1)
    (then_judged (images_from 1 (map contents names)) (Ok images)
    (Err (refusals.NoRoom (needed images) twin_config.frames)) (no_room images over.2)
    (same_images (images_from 1 (map contents names)) images others same h))
not_opened contents names images others refusals.Memory same h over = tt
not_opened contents names images others why same h over = absurd over

-- ---- names

by_test : (b : Bool) (o : Option (List Text)) (names : List Text)
    → (if b then o else None) ≡ Some names → o ≡ Some names
by_test true o names e = e
by_test false o names e = absurd cc

-- one to eight of them
pub counted : (words names : List Text) → names_alone words ≡ Some names
    → (1 ≤ length names) × (length names ≤ 8)
counted words names e =
    let images = by_test (list_all is_plain words) (images_of words) names e in
    let g = guard_some (leb 1 (length words) && leb (length words) 8) words names images in
    let b = and_parts (leb 1 (length words)) (leb (length words) 8) g.0 in
    subst (λ (x : List Text). (1 ≤ length x) × (length x ≤ 8)) g.1
    (leb-true _ _ b.0, leb-true _ _ b.1)
