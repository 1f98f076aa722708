-- What files are taken for.
use Rattle.std.proofs.Common.{◌≡◌, ◌≢◌, ◌⊎◌, ◌≤◌, ◌<◌, inl, inr, ℕ, suc, ◌+◌, List, [], ◌∷◌, ◌++◌}
use Rattle.std.proofs.Common.{length, map, drop, Option, Some, None, Result, Ok, Err, true, sym, ap}
use Rattle.std.proofs.Common.{◌∙◌, subst, refl, append_assoc, arith}
use Rattle.std.specs.Prelude.{IfSome, IsErrOf, nat_lt, option_map, slice_get}
use Rattle.std.specs.List.{AllByRecursion}
use Rattle.std.proofs.lemmas.List.{append-nil, length-append, map-append}
use Rattle.std.proofs.Math.ListN.{drop_of_length-le}
use Rattle.std.proofs.lemmas.Bool.{le-ltb}
use Rattle.std.proofs.lemmas.Bool.Decides.{nat_tests}
use Rattle.group_rounds.proofs.SignalLaws.{drop_get}
use Rattle.elf_image.specs.declared.error.ImageError.{ImageError}
use Rattle.elf_image.specs.declared.error.ImageError.TheVariants as errors
use Rattle.elf_image.specs.Image.{Image, image}
use Rattle.sha2.specs.Sha256.{sha256}
use Rattle.log_text.specs.Bytes.{AreDigests, FitsDigest}
use Rattle.dos_texts.specs.declared.refusal.Refusal.{Refusal}
use Rattle.dos_texts.specs.declared.refusal.Refusal.TheVariants as refusals
use Rattle.std.specs.Global.{Vec}
use Rattle.debug_connection.specs.Keeping.{texts_of}
use Rattle.dos_cmd.specs.Asking.{IsOfImage}
use Rattle.dos_cmd.specs.Judging.{limit, judged, verdict, Images, with_image, then_images}
use Rattle.dos_cmd.specs.Judging.{contents_of, images_from, digests_of, IsNextContent, OfFiles}

-- ---- one file

-- a file within the limit is judged by its image
verdict_within : (number : ℕ) (file : List ℕ) → length file ≤ limit
    → verdict number file ≡ judged number (image file)
unfolding verdict
verdict_within number file within = rw (le-ltb limit (length file) within) refl

verdict_long : (number : ℕ) (file : List ℕ) → limit < length file
    → verdict number file ≡ Err (refusals.TooLong number)
unfolding verdict
verdict_long number file long =
    let longer : nat_lt limit (length file) ≡ true = grind (arith, nat_tests) in
    rw longer refl

-- what is read of a told file
verdict_of : (number : ℕ) (file bytes : List ℕ) (read : Result Image ImageError) → bytes ≡ file
    → length bytes ≤ limit → image bytes ≡ read → verdict number file ≡ judged number read
verdict_of number file bytes read same within e =
    subst (λ (f : List ℕ). verdict number f ≡ judged number read) same
    (verdict_within number bytes within ∙ ap (judged number) e)

told_verdict : (number : ℕ) (told : Option (List ℕ)) (bytes : List ℕ)
    (read : Result Image ImageError) → IfSome told (λ t. bytes ≡ t) → length bytes ≤ limit
    → image bytes ≡ read → IfSome told (λ file. verdict number file ≡ judged number read)
told_verdict number None bytes read is within e = tt
told_verdict number (Some file) bytes read is within e =
    verdict_of number file bytes read is within e

pub told_long : (number : ℕ) (told : Option (List ℕ)) → IfSome told (λ t. limit < length t)
    → IfSome told (λ file. verdict number file ≡ Err (refusals.TooLong number))
told_long number None h = tt
told_long number (Some file) h = verdict_long number file h

pub told_accepted : (number : ℕ) (told : Option (List ℕ)) (bytes : List ℕ) (parsed : Image)
    → IfSome told (λ t. bytes ≡ t) → length bytes ≤ limit → image bytes ≡ Ok parsed
    → IfSome told (λ file. verdict number file ≡ Ok parsed)
told_accepted number told bytes parsed is within e =
    told_verdict number told bytes (Ok parsed) is within e

pub told_digest : (told : Option (List ℕ)) (bytes read digest : List ℕ)
    → IfSome told (λ t. bytes ≡ t) → read ≡ bytes → digest ≡ sha256 read
    → IfSome told (λ file. digest ≡ sha256 file)
told_digest None bytes read digest is same e = tt
told_digest (Some file) bytes read digest is same e = e ∙ ap sha256 (same ∙ is)

-- a file that isn't read as an image, but for want of memory
abbrev pub NotRead : ℕ → ImageError → Refusal → Type 0
NotRead number error r = ((error ≡ errors.Memory) × (r ≡ refusals.Memory))
    ⊎ ((error ≢ errors.Memory) × (r ≡ refusals.Image number error))

pub told_not_read : (number : ℕ) (told : Option (List ℕ)) (bytes : List ℕ) (error : ImageError)
    (r : Refusal) → NotRead number error r → IfSome told (λ t. bytes ≡ t) → length bytes ≤ limit
    → (error ≢ errors.Memory → image bytes ≡ Err error)
    → OfFiles r (λ why. IfSome told (λ file. verdict number file ≡ Err why))
told_not_read number told bytes error r (inl k) is within e =
    subst (λ (v : Refusal). OfFiles v (λ why. IfSome told (λ file. verdict number file ≡ Err why)))
    (sym k.1) tt
told_not_read number told bytes error r (inr k) is within e =
    subst (λ (v : Refusal). OfFiles v (λ why. IfSome told (λ file. verdict number file ≡ Err why)))
    (sym k.1) (told_verdict number told bytes (Err error) is within (e k.0))

-- which is no fault of the files
pub not_read_no_fault : {T : Type 0} (number : ℕ) (error : ImageError) (r : Refusal)
    → NotRead number error r → IsErrOf {T = T} (Err r) refusals.Files → ⊥
not_read_no_fault number error r (inl k) is =
    let clash : refusals.Memory ≡ refusals.Files = cc in cc
not_read_no_fault number error r (inr k) is =
    let clash : refusals.Image number error ≡ refusals.Files = cc in cc

-- and of the image of its number
pub not_read_numbered : (number : ℕ) (error : ImageError) (r : Refusal) → NotRead number error r
    → OfFiles r (IsOfImage number)
not_read_numbered number error r (inl k) =
    subst (λ (v : Refusal). OfFiles v (IsOfImage number)) (sym k.1) tt
not_read_numbered number error r (inr k) =
    subst (λ (v : Refusal). OfFiles v (IsOfImage number)) (sym k.1) refl

pub long_no_fault : {T : Type 0} (number : ℕ)
    → IsErrOf {T = T} (Err (refusals.TooLong number)) refusals.Files → ⊥
long_no_fault number is = cc

pub memory_no_fault : {T : Type 0} → IsErrOf {T = T} (Err refusals.Memory) refusals.Files → ⊥
memory_no_fault is = cc

-- one fact of a refusal for another
pub of_files_map : (why : Refusal) (P Q : Refusal → Type 0) → ((r : Refusal) → P r → Q r)
    → OfFiles why P → OfFiles why Q
of_files_map (refusals.TooLong number) P Q f h = f (refusals.TooLong number) h
of_files_map (refusals.Image number error) P Q f h = f (refusals.Image number error) h
of_files_map refusals.Files P Q f h = tt
of_files_map refusals.Memory P Q f h = tt
of_files_map why P Q f h = h

-- ---- all files, one after another

-- images in front of what the others are taken for
abbrev pub in_front : List Image → Images → Images
in_front images (Ok others) = Ok (images ++ others)
in_front images (Err why) = Err why

-- so where they are told
abbrev pub behind : List Image → Option Images → Option Images
behind images others = option_map (in_front images) others

behind_none : (others : Option Images) → behind [] others ≡ others
behind_none None = refl
behind_none (Some (Ok images)) = refl
behind_none (Some (Err why)) = refl

behind_with : (images : List Image) (parsed : Image) (others : Option Images)
    → behind images (option_map (with_image parsed) others) ≡ behind (images ++ parsed ∷ []) others
behind_with images parsed None = refl
behind_with images parsed (Some (Ok others)) =
    ap (λ (x : List Image). (let whole : Option Images = Some (Ok x) in whole))
    (sym (append_assoc images (parsed ∷ []) others))
behind_with images parsed (Some (Err why)) = refl

image_more : (told : Option (List ℕ)) (number : ℕ) (rest : List (Option (List ℕ)))
    (images : List Image) (parsed : Image) (j : Images)
    → IfSome told (λ file. verdict number file ≡ Ok parsed)
    → behind images (images_from number (told ∷ rest)) ≡ Some j
    → behind (images ++ parsed ∷ []) (images_from (suc number) rest) ≡ Some j
image_more None number rest images parsed j h e = cc
image_more (Some file) number rest images parsed j h e =
    let here : then_images (verdict number file) (images_from (suc number) rest)
    ≡ option_map (with_image parsed) (images_from (suc number) rest) =
    ap (λ (v : Result Image Refusal). then_images v (images_from (suc number) rest)) h in
    sym (behind_with images parsed (images_from (suc number) rest)) ∙ sym (ap (behind images) here)
    ∙ e

image_not : (told : Option (List ℕ)) (number : ℕ) (rest : List (Option (List ℕ)))
    (images : List Image) (why : Refusal) (j : Images)
    → IfSome told (λ file. verdict number file ≡ Err why)
    → behind images (images_from number (told ∷ rest)) ≡ Some j → j ≡ Err why
image_not None number rest images why j h e = cc
image_not (Some file) number rest images why j h e =
    let here : then_images (verdict number file) (images_from (suc number) rest) ≡ Some (Err why) =
    ap (λ (v : Result Image Refusal). then_images v (images_from (suc number) rest)) h in
    let whole : Option Images = Some (Err why) in let same : whole ≡ Some j =
    sym (ap (behind images) here) ∙ e in
    cc

-- what holds of a value, where it is told
pub if_told : {A : Type 0} (told : Option A) (Q : A → Type 0) → ((x : A) → told ≡ Some x → Q x)
    → IfSome told Q
if_told None Q h = tt
if_told (Some x) Q h = h x refl

-- ---- their digests

-- digests in front of the others, where these are told
abbrev pub digests_behind : List (List ℕ) → Option (List (List ℕ)) → Option (List (List ℕ))
digests_behind digests others = option_map (λ o. digests ++ o) others

digests_none : (others : Option (List (List ℕ))) → digests_behind [] others ≡ others
digests_none None = refl
digests_none (Some digests) = refl

digests_with : (digests : List (List ℕ)) (digest : List ℕ) (others : Option (List (List ℕ)))
    → digests_behind digests (option_map (λ o. digest ∷ o) others)
    ≡ digests_behind (digests ++ digest ∷ []) others
digests_with digests digest None = refl
digests_with digests digest (Some others) =
    ap (λ (x : List (List ℕ)). (let whole : Option (List (List ℕ)) = Some x in whole))
    (sym (append_assoc digests (digest ∷ []) others))

digest_more : (told : Option (List ℕ)) (rest : List (Option (List ℕ)))
    (digests : List (List ℕ)) (digest : List ℕ) (ds : List (List ℕ))
    → IfSome told (λ file. digest ≡ sha256 file)
    → digests_behind digests (digests_of (told ∷ rest)) ≡ Some ds
    → digests_behind (digests ++ digest ∷ []) (digests_of rest) ≡ Some ds
digest_more None rest digests digest ds h e = cc
digest_more (Some file) rest digests digest ds h e =
    sym (digests_with digests digest (digests_of rest))
    ∙ ap (λ (d : List ℕ). digests_behind digests (option_map (λ o. d ∷ o) (digests_of rest))) h ∙ e

-- one more of them
all_more : {A : Type 0} (P : A → Type 0) (xs : List A) (x : A) → AllByRecursion P xs → P x
    → AllByRecursion P (xs ++ x ∷ [])
all_more P [] x all h = (h, tt)
all_more P (y ∷ xs) x all h = (all.0, all_more P xs x all.1 h)

-- ---- what a loop over the names keeps

-- The images so far stand in front of what those that are left are taken for, and so do their
-- digests.
pub record Reads (contents : List ℕ → Option (List ℕ)) (names : List (List ℕ)) (i : ℕ)
    (images : List Image) (digests : List (List ℕ)) : Type 0 where
  pub count : length images ≡ i
  pub digest_count : length digests ≡ i
  pub are_digests : AreDigests digests
  pub left : (j : Images) → images_from 1 (map contents names) ≡ Some j
      → behind images (images_from (suc i) (map contents (drop i names))) ≡ Some j
  pub digests_left : (ds : List (List ℕ)) → digests_of (map contents names) ≡ Some ds
      → digests_behind digests (digests_of (map contents (drop i names))) ≡ Some ds

pub reads_first : (contents : List ℕ → Option (List ℕ)) (names : List (List ℕ))
    (images : List Image) (digests : List (List ℕ)) → images ≡ [] → digests ≡ []
    → Reads contents names 0 images digests
reads_first contents names images digests no_image no_digest = record {
  count = ap length no_image;
  digest_count = ap length no_digest;
  are_digests = subst AreDigests (sym no_digest) tt;
  left = λ j e. ap (λ (x : List Image). behind x (images_from 1 (map contents names))) no_image
      ∙ behind_none (images_from 1 (map contents names)) ∙ e;
  digests_left = λ ds e.
      ap (λ (x : List (List ℕ)). digests_behind x (digests_of (map contents names))) no_digest
      ∙ digests_none (digests_of (map contents names)) ∙ e;
}

-- The next name is the first of those that are left.
left_from : (contents : List ℕ → Option (List ℕ)) (names : List (List ℕ)) (i : ℕ) (name : List ℕ)
    → slice_get names i ≡ Some name
    → map contents (drop i names) ≡ contents name ∷ map contents (drop (i + 1) names)
left_from contents names i name at = ap (map contents) (drop_get names i name at)

-- what a file is found to be, when it is read after others
found_before : (contents now : List ℕ → Option (List ℕ)) (name : List ℕ) (P : List ℕ → Type 0)
    → ((n : List ℕ) → now n ≡ contents n) → IfSome (now name) P → IfSome (contents name) P
found_before contents now name P stays h =
    subst (λ (o : Option (List ℕ)). IfSome o P) (stays name) h

pub reads_more : (contents now : List ℕ → Option (List ℕ)) (names : List (List ℕ)) (i : ℕ)
    (images longer : List Image) (digests more : List (List ℕ)) (name : List ℕ) (parsed : Image)
    (digest : List ℕ) → slice_get names i ≡ Some name → ((n : List ℕ) → now n ≡ contents n)
    → IfSome (now name) (λ file. verdict (i + 1) file ≡ Ok parsed)
    → IfSome (now name) (λ file. digest ≡ sha256 file) → FitsDigest digest
    → longer ≡ images ++ parsed ∷ [] → more ≡ digests ++ digest ∷ []
    → Reads contents names i images digests → Reads contents names (i + 1) longer more
reads_more contents now names i images longer digests more name parsed digest at stays h d fits
    grew grown reads = record {
      count = ap length grew ∙ length-append images (parsed ∷ [])
          ∙ ap (λ (n : ℕ). n + 1) reads.count;
      digest_count = ap length grown ∙ length-append digests (digest ∷ [])
          ∙ ap (λ (n : ℕ). n + 1) reads.digest_count;
      are_digests = subst AreDigests (sym grown)
          (all_more FitsDigest digests digest reads.are_digests fits);
      left = λ j e.
          let told : IfSome (contents name) (λ file. verdict (i + 1) file ≡ Ok parsed) =
          found_before contents now name (λ file. verdict (i + 1) file ≡ Ok parsed) stays h in
          let next : suc i ≡ i + 1 = omega arith in
          let here : behind images
          (images_from (i + 1) (contents name ∷ map contents (drop (i + 1) names))) ≡ Some j =
          sym (ap (λ (n : ℕ). behind images (images_from n (map contents (drop i names)))) next
          ∙ ap (λ (x : List (Option (List ℕ))). behind images (images_from (i + 1) x))
          (left_from contents names i name at)) ∙ reads.left j e in
          ap (λ (x : List Image). behind x
          (images_from (suc (i + 1)) (map contents (drop (i + 1) names)))) grew
          ∙ image_more (contents name) (i + 1) (map contents (drop (i + 1) names)) images parsed j
          told here;
      digests_left = λ ds e.
          let told : IfSome (contents name) (λ file. digest ≡ sha256 file) =
          found_before contents now name (λ file. digest ≡ sha256 file) stays d in
          let here : digests_behind digests
          (digests_of (contents name ∷ map contents (drop (i + 1) names))) ≡ Some ds =
          sym (ap (λ (x : List (Option (List ℕ))). digests_behind digests (digests_of x))
          (left_from contents names i name at)) ∙ reads.digests_left ds e in
          ap (λ (x : List (List ℕ)). digests_behind x
          (digests_of (map contents (drop (i + 1) names)))) grown
          ∙ digest_more (contents name) (map contents (drop (i + 1) names)) digests digest ds told
          here;
    }

reads_not : (contents : List ℕ → Option (List ℕ)) (names : List (List ℕ)) (i : ℕ)
    (images : List Image) (digests : List (List ℕ)) (name : List ℕ) (why : Refusal)
    → slice_get names i ≡ Some name
    → IfSome (contents name) (λ file. verdict (i + 1) file ≡ Err why)
    → Reads contents names i images digests
    → IfSome (images_from 1 (map contents names)) (λ j. j ≡ Err why)
reads_not contents names i images digests name why at told reads =
    if_told (images_from 1 (map contents names)) (λ j. j ≡ Err why) (λ j e.
    let next : suc i ≡ i + 1 = omega arith in
    image_not (contents name) (i + 1) (map contents (drop (i + 1) names)) images why j told
    (sym (ap (λ (n : ℕ). behind images (images_from n (map contents (drop i names)))) next
    ∙ ap (λ (x : List (Option (List ℕ))). behind images (images_from (i + 1) x))
    (left_from contents names i name at)) ∙ reads.left j e))

-- A file that isn't read refuses all of them.
pub none_read : (contents now : List ℕ → Option (List ℕ)) (names : List (List ℕ)) (i : ℕ)
    (images : List Image) (digests : List (List ℕ)) (name : List ℕ) (why : Refusal)
    → slice_get names i ≡ Some name → ((n : List ℕ) → now n ≡ contents n)
    → OfFiles why (λ r. IfSome (now name) (λ file. verdict (i + 1) file ≡ Err r))
    → Reads contents names i images digests
    → OfFiles why (λ r. IfSome (images_from 1 (map contents names)) (λ j. j ≡ Err r))
none_read contents now names i images digests name why at stays h reads =
    of_files_map why (λ r. IfSome (now name) (λ file. verdict (i + 1) file ≡ Err r))
    (λ r. IfSome (images_from 1 (map contents names)) (λ j. j ≡ Err r))
    (λ r told. reads_not contents names i images digests name r at
    (found_before contents now name (λ file. verdict (i + 1) file ≡ Err r) stays told) reads) h

-- all of them
pub reads_all : (contents : List ℕ → Option (List ℕ)) (names : List (List ℕ)) (i : ℕ)
    (images : List Image) (digests : List (List ℕ)) → length names ≤ i
    → Reads contents names i images digests
    → IfSome (images_from 1 (map contents names)) (λ j. j ≡ Ok images)
reads_all contents names i images digests le reads =
    if_told (images_from 1 (map contents names)) (λ j. j ≡ Ok images) (λ j e.
    let over : behind images (images_from (suc i) (map contents (drop i names)))
    ≡ Some (Ok (images ++ [])) =
    ap (λ (x : List (List ℕ)). behind images (images_from (suc i) (map contents x)))
    (drop_of_length-le names le) in
    let all : Option Images = Some (Ok (images ++ [])) in
    let same : all ≡ Some j = sym over ∙ reads.left j e in
    let whole : images ++ [] ≡ images = append-nil images in
    cc)

pub digests_all : (contents : List ℕ → Option (List ℕ)) (names : List (List ℕ)) (i : ℕ)
    (images : List Image) (digests : List (List ℕ)) → length names ≤ i
    → Reads contents names i images digests
    → IfSome (digests_of (map contents names)) (λ ds. digests ≡ ds)
digests_all contents names i images digests le reads =
    if_told (digests_of (map contents names)) (λ ds. digests ≡ ds) (λ ds e.
    let over : digests_behind digests (digests_of (map contents (drop i names)))
    ≡ Some (digests ++ []) =
    ap (λ (x : List (List ℕ)). digests_behind digests (digests_of (map contents x)))
    (drop_of_length-le names le) in
    let all : Option (List (List ℕ)) = Some (digests ++ []) in
    let same : all ≡ Some ds = sym over ∙ reads.digests_left ds e in
    let whole : digests ++ [] ≡ digests = append-nil digests in
    cc)

-- ---- what they hold

-- The bytes so far stand in front of what those that are left hold.
abbrev pub Keeps : (contents : List ℕ → Option (List ℕ)) → (names : List (List ℕ)) → (i : ℕ)
    → (kept : List (List ℕ)) → Type 0
Keeps contents names i kept = (all : List (List ℕ)) → contents_of (map contents names) ≡ Some all
    → digests_behind kept (contents_of (map contents (drop i names))) ≡ Some all

pub keeps_first : (contents : List ℕ → Option (List ℕ)) (names kept : List (List ℕ)) → kept ≡ []
    → Keeps contents names 0 kept
keeps_first contents names kept none = λ all e.
    ap (λ (x : List (List ℕ)). digests_behind x (contents_of (map contents names))) none
    ∙ digests_none (contents_of (map contents names)) ∙ e

content_more : (told : Option (List ℕ)) (rest : List (Option (List ℕ))) (kept : List (List ℕ))
    (bytes : List ℕ) (all : List (List ℕ)) → IfSome told (λ file. bytes ≡ file)
    → digests_behind kept (contents_of (told ∷ rest)) ≡ Some all
    → digests_behind (kept ++ bytes ∷ []) (contents_of rest) ≡ Some all
content_more None rest kept bytes all h e = cc
content_more (Some file) rest kept bytes all h e =
    sym (digests_with kept bytes (contents_of rest))
    ∙ ap (λ (b : List ℕ). digests_behind kept (option_map (λ o. b ∷ o) (contents_of rest))) h ∙ e

pub keeps_more : (contents now : List ℕ → Option (List ℕ)) (names : List (List ℕ)) (i : ℕ)
    (kept more : List (List ℕ)) (name : List ℕ) → slice_get names i ≡ Some name
    → ((n : List ℕ) → now n ≡ contents n) → IsNextContent (now name) kept more
    → Keeps contents names i kept → Keeps contents names (i + 1) more
keeps_more contents now names i kept more name at stays next keeps = λ all e.
    let told : IfSome (contents name) (λ file. next.bytes ≡ file) =
    found_before contents now name (λ file. next.bytes ≡ file) stays next.bytes_are in
    let here : digests_behind kept
    (contents_of (contents name ∷ map contents (drop (i + 1) names))) ≡ Some all =
    sym (ap (λ (x : List (Option (List ℕ))). digests_behind kept (contents_of x))
    (left_from contents names i name at)) ∙ keeps all e in
    ap (λ (x : List (List ℕ)). digests_behind x
    (contents_of (map contents (drop (i + 1) names)))) next.last
    ∙ content_more (contents name) (map contents (drop (i + 1) names)) kept next.bytes all told here

pub keeps_all : (contents : List ℕ → Option (List ℕ)) (names : List (List ℕ)) (i : ℕ)
    (kept : List (List ℕ)) → length names ≤ i → Keeps contents names i kept
    → IfSome (contents_of (map contents names)) (λ all. kept ≡ all)
keeps_all contents names i kept le keeps =
    if_told (contents_of (map contents names)) (λ all. kept ≡ all) (λ all e.
    let over : digests_behind kept (contents_of (map contents (drop i names)))
    ≡ Some (kept ++ []) =
    ap (λ (x : List (List ℕ)). digests_behind kept (contents_of (map contents x)))
    (drop_of_length-le names le) in
    let whole : Option (List (List ℕ)) = Some (kept ++ []) in
    let same : whole ≡ Some all = sym over ∙ keeps all e in
    let end : kept ++ [] ≡ kept = append-nil kept in
    cc)

-- a text more
pub texts_more : (old new : List (Vec ℕ)) (last : Vec ℕ) → new ≡ old ++ last ∷ []
    → texts_of new ≡ texts_of old ++ last.items ∷ []
texts_more old new last is = ap texts_of is ∙ map-append (λ v. v.items) old (last ∷ [])

-- so many are all
pub all_counted : (names : List (List ℕ)) (i end : ℕ) → i ≤ end → end ≤ i → end ≡ length names
    → i ≡ length names
all_counted names i end low high is = omega arith
