use Rattle.std.proofs.Common.{◌≡◌, length}
use Rattle.elf_image.specs.Image.{overlap_refusal}
use Rattle.elf_image.proofs.check.check_overlap.Given as goal

-- what stands before the rest meets nothing
abbrev pub invariant-loop-rest : goal.invariant-loop-rest
invariant-loop-rest l = overlap_refusal l.rest ≡ overlap_refusal l.parts

abbrev pub decreases-loop-rest : goal.decreases-loop-rest
decreases-loop-rest l = length l.rest
