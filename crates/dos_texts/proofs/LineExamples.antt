-- Each message line once, with the numbers that it may have.
use Rattle.std.specs.Fmt.{digits}
use Rattle.std.specs.Prelude.{ℕ, List, [], ◌∷◌, ◌++◌, codes, replicate, ◌≡◌, refl}
use Rattle.dos_world.specs.declared.Ending.TheVariants.{Done, Limit, Stalled}
use Rattle.dos_world.specs.declared.Question.TheVariants as question
use Rattle.elf_image.specs.declared.error.ImageError.TheVariants as image
use Rattle.log_text.specs.declared.refusal.LogError.TheVariants as log
use Rattle.dos_texts.specs.Exit.{line}
use Rattle.dos_texts.specs.Lines.{words_refused, image_too_long, image_refused, no_room}
use Rattle.dos_texts.specs.Lines.{log_too_long, log_refused, images_differ, digests_differ, misfit}
use Rattle.dos_texts.specs.Lines.{file_fault, host_fault, out_of_memory, log_full}
use Rattle.dos_texts.specs.Lines.{group_too_long, group_refused, group_unlawful}
use Rattle.dos_texts.specs.Lines.{group_of_another_log}
use Rattle.group_text.specs.declared.refusal.GroupRefusal.TheVariants as group

abbrev ended : List ℕ
ended = 10 ∷ []

-- ---- words and images

of_words : line words_refused ≡ codes "dos: words refused" ++ ended
unfolding digits
of_words = refl

of_a_long_image : line (image_too_long 2) ≡ codes "dos: image 2 too long" ++ ended
unfolding digits
of_a_long_image = refl

of_refusal_1 : line (image_refused 1 image.Short) ≡ codes "dos: image 1 refused 1" ++ ended
unfolding digits
of_refusal_1 = refl

of_refusal_2 : line (image_refused 1 image.NotElf) ≡ codes "dos: image 1 refused 2" ++ ended
unfolding digits
of_refusal_2 = refl

of_refusal_3 : line (image_refused 1 image.Class) ≡ codes "dos: image 1 refused 3" ++ ended
unfolding digits
of_refusal_3 = refl

of_refusal_4 : line (image_refused 1 image.ByteOrder) ≡ codes "dos: image 1 refused 4" ++ ended
unfolding digits
of_refusal_4 = refl

of_refusal_5 : line (image_refused 1 image.Version) ≡ codes "dos: image 1 refused 5" ++ ended
unfolding digits
of_refusal_5 = refl

of_refusal_6 : line (image_refused 1 image.Kind) ≡ codes "dos: image 1 refused 6" ++ ended
unfolding digits
of_refusal_6 = refl

of_refusal_7 : line (image_refused 1 image.Machine) ≡ codes "dos: image 1 refused 7" ++ ended
unfolding digits
of_refusal_7 = refl

of_refusal_8 : line (image_refused 1 image.Flags) ≡ codes "dos: image 1 refused 8" ++ ended
unfolding digits
of_refusal_8 = refl

of_refusal_9 : line (image_refused 1 image.HeaderTable) ≡ codes "dos: image 1 refused 9" ++ ended
unfolding digits
of_refusal_9 = refl

of_refusal_10 : line (image_refused 1 image.Dynamic) ≡ codes "dos: image 1 refused 10" ++ ended
unfolding digits
of_refusal_10 = refl

of_refusal_11 : line (image_refused 1 (image.Segment 0)) ≡ codes "dos: image 1 refused 11 at 0"
    ++ ended
unfolding digits
of_refusal_11 = refl

of_refusal_12 : line (image_refused 1 (image.Overlap 1 2))
    ≡ codes "dos: image 1 refused 12 at 1 and 2" ++ ended
unfolding digits
of_refusal_12 = refl

of_refusal_13 : line (image_refused 1 image.NoLoad) ≡ codes "dos: image 1 refused 13" ++ ended
unfolding digits
of_refusal_13 = refl

of_refusal_14 : line (image_refused 1 image.Entry) ≡ codes "dos: image 1 refused 14" ++ ended
unfolding digits
of_refusal_14 = refl

of_frames : line (no_room 17 16) ≡ codes "dos: needs 17 frames, has 16" ++ ended
unfolding digits
of_frames = refl

-- ---- a log

of_a_long_log : line log_too_long ≡ codes "dos: log too long" ++ ended
unfolding digits
of_a_long_log = refl

of_a_cut_log : line (log_refused (log.Short 58)) ≡ codes "dos: log refused: short at 58" ++ ended
unfolding digits
of_a_cut_log = refl

of_no_log : line (log_refused log.Magic) ≡ codes "dos: log refused: magic" ++ ended
unfolding digits
of_no_log = refl

of_another_version : line (log_refused (log.Version 2)) ≡ codes "dos: log refused: version 2"
    ++ ended
unfolding digits
of_another_version = refl

of_a_header_field : line (log_refused (log.Header 8)) ≡ codes "dos: log refused: header at 8"
    ++ ended
unfolding digits
of_a_header_field = refl

of_an_entry_field : line (log_refused (log.Entry 52)) ≡ codes "dos: log refused: entry at 52"
    ++ ended
unfolding digits
of_an_entry_field = refl

of_a_byte_behind : line (log_refused (log.AfterEnd 64)) ≡ codes "dos: log refused: after end at 64"
    ++ ended
unfolding digits
of_a_byte_behind = refl

of_another_count : line (images_differ 1 2) ≡ codes "dos: log has 1 images, given 2" ++ ended
unfolding digits
of_another_count = refl

of_another_digest : line (digests_differ 1 (0x0A ∷ 0xFF ∷ replicate 30 0x10) (replicate 32 0x9C))
    ≡ codes "dos: image 1 has digest "
    ++ codes "0aff101010101010101010101010101010101010101010101010101010101010"
    ++ codes ", log has 9c9c9c9c9c9c9c9c9c9c9c9c9c9c9c9c9c9c9c9c9c9c9c9c9c9c9c9c9c9c9c9c" ++ ended
unfolding digits
of_another_digest = refl

-- ---- a saved group

of_a_long_group : line group_too_long ≡ codes "dos: group too long" ++ ended
unfolding digits
of_a_long_group = refl

of_a_cut_group : line (group_refused (group.Short 70)) ≡ codes "dos: group refused: short at 70"
    ++ ended
unfolding digits
of_a_cut_group = refl

of_no_group : line (group_refused group.Magic) ≡ codes "dos: group refused: magic" ++ ended
unfolding digits
of_no_group = refl

of_a_later_group : line (group_refused (group.Version 2)) ≡ codes "dos: group refused: version 2"
    ++ ended
unfolding digits
of_a_later_group = refl

of_a_group_field : line (group_refused (group.Field 42)) ≡ codes "dos: group refused: field at 42"
    ++ ended
unfolding digits
of_a_group_field = refl

of_a_longer_group : line (group_refused (group.AfterEnd 70591))
    ≡ codes "dos: group refused: after end at 70591" ++ ended
unfolding digits
of_a_longer_group = refl

of_an_unlawful_group : line group_unlawful ≡ codes "dos: group refused: unlawful" ++ ended
unfolding digits
of_an_unlawful_group = refl

of_a_group_elsewhere : line group_of_another_log ≡ codes "dos: group is of another log" ++ ended
unfolding digits
of_a_group_elsewhere = refl

-- ---- a misfit, with each kind of question

of_a_round : line (misfit 0 (question.Signals 2) (question.Signals 1))
    ≡ codes "dos: log entry 0 is signals round 2, asked signals round 1" ++ ended
unfolding digits
of_a_round = refl

of_an_input : line (misfit 12 (question.Input 3 1 64) (question.Clock 3 2))
    ≡ codes "dos: log entry 12 is input round 3 thread 1 max 64, asked clock round 3 thread 2"
    ++ ended
unfolding digits
of_an_input = refl

of_an_end : line (misfit 1 (question.End Done 1) (question.End Limit 100000))
    ≡ codes "dos: log entry 1 is end done rounds 1, asked end limit rounds 100000" ++ ended
unfolding digits
of_an_end = refl

of_a_stalled_end : line (misfit 1 (question.End Stalled 4294967295) (question.Signals 2))
    ≡ codes "dos: log entry 1 is end stalled rounds 4294967295, asked signals round 2" ++ ended
unfolding digits
of_a_stalled_end = refl

-- ---- the outside

of_files : line file_fault ≡ codes "dos: file fault" ++ ended
unfolding digits
of_files = refl

of_the_host : line host_fault ≡ codes "dos: host fault" ++ ended
unfolding digits
of_the_host = refl

of_memory : line out_of_memory ≡ codes "dos: out of memory" ++ ended
unfolding digits
of_memory = refl

of_a_full_log : line log_full ≡ codes "dos: log full" ++ ended
unfolding digits
of_a_full_log = refl
