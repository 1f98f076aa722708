use Rattle.std.proofs.Common.{◌≡◌, ◌≤◌, length, vec_capacity}
use Rattle.group_rounds.specs.Handing.{AreSpare, blank_pack}
use Rattle.group_rounds.proofs.packs.spare_packs.Given as goal

abbrev pub invariant-loop-place : goal.invariant-loop-place
invariant-loop-place l = record {
  spare : AreSpare (blank_pack l.fn.scheme l.fn.frames) l.packs.items;
  count : length l.packs.items ≡ l._place;
  room : 64 ≤ vec_capacity l.packs;
}
