-- What a saved group in a lawful world gives those that build frames of it.
use Rattle.std.proofs.Common.{◌≡◌, ◌≢◌, ℕ, zero, suc, ◌+◌, ◌≤◌, Bool, true}
use Rattle.std.proofs.Common.{false}
use Rattle.std.proofs.Common.{cond, List, [], ◌∷◌, ◌++◌, length, map, get_or, replicate, slice_get}
use Rattle.std.proofs.Common.{refl, sym}
use Rattle.std.proofs.Common.{ap, subst, ◌∙◌, arith, min, Option, Some, inl, inr}
use Rattle.std.specs.Prelude.{All, AllPairs, count_by, slice_index, ◌==◌, flat_map}
use Rattle.std.proofs.lemmas.Bool.{and_parts, cases_eq, eq-eqb, ne_eqb}
use Rattle.std.proofs.lemmas.List.{length-map, length-replicate}
use Rattle.std.proofs.lemmas.List.Concat.{flat_map-cons}
use Rattle.std.proofs.lemmas.List.Sums.{sum_by-le}
use Rattle.dos_world.specs.World.{World, Holdings, all_holdings, is_free, page_of}
use Rattle.dos_world.specs.Counts.{uses_of}
use Rattle.dos_world.specs.Kernel.{zero_page}
use Rattle.dos_world.specs.IsLawful.{same_truth}
use Rattle.dos_world.specs.Lawful.{Lawful}
use Rattle.dos_world.specs.Numbered.{map_from}
use Rattle.dos_world.specs.declared.Entry.{Entry}
use Rattle.dos_world.specs.declared.Owner.{Owner}
use Rattle.dos_world.specs.declared.Owner.TheVariants.{Free, Shared, Of}
use Rattle.page_store.specs.Store.{AreParts, is_unused, joined, shown, whole}
use Rattle.page_store.proofs.Pages.{whole-zero_page}
use Rattle.page_store.proofs.Joined.{page_of-joined}
use Rattle.group_text.specs.GroupText as row
use Rattle.group_text.specs.Groups.{world_in, page_in, page_if_used, frame_in}
use Rattle.group_text.specs.Records.{group_of_record, frame_of_record}
use Rattle.group_text.specs.declared.records.FrameRecord.{FrameRecord}
use Rattle.group_text.specs.declared.records.GroupRecord.{GroupRecord}
use Rattle.lawful_groups.specs.Agreeing.{frees_match}
use Rattle.lawful_groups.specs.Counts.{HaveFrames, counted_all, most}
use Rattle.lawful_groups.proofs.CountLaws.{all_at, all_length}
use Rattle.lawful_groups.proofs.FrameLaws.{count-cons, free_no}
use Rattle.lawful_groups.proofs.GroupFacts.{few_frames, have_frames}
use Rattle.group_parts.specs.FrameLists.{framed, kept_by, page_of_record}

-- ---- uses

abbrev entries_of : List (ℕ × Entry) → ℕ → ℕ
entries_of space frame = count_by (λ e. e.1.frame == frame) space

none_of : (space : List (ℕ × Entry)) (frame : ℕ) → All (λ e. e.1.frame ≢ frame) space
    → entries_of space frame ≡ 0
none_of [] frame all = refl
none_of (e ∷ space) frame all =
    omega (
      arith,
      count-cons (λ (x : ℕ × Entry). x.1.frame == frame) e space,
      ap (λ b. cond {A = ℕ} b 1 0) (ne_eqb e.1.frame frame (all 0 e (omega arith))),
      none_of space frame (λ k d lt. all (suc k) d (omega arith)),
    )

-- where no frame stands twice
once : (space : List (ℕ × Entry)) (frame : ℕ) → AllPairs (λ a b. a.1.frame ≢ b.1.frame) space
    → entries_of space frame ≤ 1
once [] frame apart = omega arith
once (e ∷ space) frame apart = elim (cases_eq e.1.frame frame) [
  | inl same ↦ omega (
    arith,
    count-cons (λ (x : ℕ × Entry). x.1.frame == frame) e space,
    ap (λ b. cond {A = ℕ} b 1 0) (eq-eqb e.1.frame frame same),
    none_of space frame
        (λ k d lt also. apart 0 (suc k) d (omega arith) (omega arith) (same ∙ sym also)),
  )
  | inr other ↦ omega (
    arith,
    count-cons (λ (x : ℕ × Entry). x.1.frame == frame) e space,
    ap (λ b. cond {A = ℕ} b 1 0) (ne_eqb e.1.frame frame other),
    once space frame (λ i j d less lt. apart (suc i) (suc j) d (omega arith) (omega arith)),
  )
]

zeros_at : (n f : ℕ) → slice_index (replicate n 0) f ≡ 0
zeros_at zero f = refl
zeros_at (suc n) zero = refl
zeros_at (suc n) (suc f) = zeros_at n f

agree_from : (owners : List Owner) (uses : List ℕ) → length owners ≡ length uses
    → frees_match owners uses ≡ true → map is_free owners ≡ map is_unused uses
agree_from [] [] len e = refl
agree_from [] (u ∷ uses) len e = absurd (omega arith)
agree_from (o ∷ owners) [] len e = absurd (omega arith)
agree_from (o ∷ owners) (u ∷ uses) len e =
    let parts = and_parts (same_truth (is_free o) (u == 0)) (frees_match owners uses) e in
    ap (λ b. b ∷ map is_free owners) (same (is_free o) (u == 0) parts.0)
    ∙ ap (λ bs. (u == 0) ∷ bs) (agree_from owners uses (omega arith) parts.1)
  where
    same : (a b : Bool) → same_truth a b ≡ true → a ≡ b
    same true b e = sym e
    same false true e = cc
    same false false e = refl

pub owners_are : (fs : List FrameRecord)
    → map (λ f. f.owner) fs ≡ map (λ f. f.0) (map frame_of_record fs)
owners_are [] = refl
owners_are (f ∷ fs) = ap (λ (os : List Owner). f.owner ∷ os) (owners_are fs)

module _ (g : GroupRecord) (fits : row.group_row.Fits (group_of_record g))
    (law : Lawful (world_in (group_of_record g))) where
  abbrev w : World
  w = world_in (group_of_record g)

  abbrev n : ℕ
  n = length g.frames.items

  abbrev pub counted_uses : List ℕ
  counted_uses = counted_all (replicate n 0) g.processes.items

  same_owners : w.owners ≡ map (λ f. f.owner) g.frames.items
  same_owners = sym (owners_are g.frames.items)

  uses_length : length counted_uses ≡ n
  uses_length = all_length (replicate n 0) g.processes.items ∙ length-replicate {A = ℕ} n 0

  capped_at : (f : ℕ) → slice_index counted_uses f ≡ min (uses_of w f) most
  capped_at f =
      all_at (replicate n 0) g.processes.items f (omega (arith, zeros_at n f))
      (subst (λ k. All (HaveFrames k) g.processes.items) (sym (length-replicate {A = ℕ} n 0))
      (have_frames g fits))
      ∙ ap (λ k. min (k + uses_of w f) most) (zeros_at n f) ∙ omega arith

  few_uses : (f : ℕ) → uses_of w f ≤ 32
  few_uses f = omega (
    arith,
    sum_by-le (λ (h : Holdings). entries_of h.space f) 1 (all_holdings w.processes)
        (λ k d lt. once (get_or (all_holdings w.processes) k d).space f
        (law.processes.holdings k d lt).apart),
    law.limits.processes,
  )

  -- what is counted of a frame are its uses
  pub uses_at_are : (f : ℕ) → slice_index counted_uses f ≡ uses_of w f
  uses_at_are f = omega (arith, capped_at f, few_uses f)

  owners_length : length w.owners ≡ n
  owners_length =
      ap (λ (os : List Owner). length os) same_owners ∙ length-map g.frames.items (λ f. f.owner)

  pub are_parts : AreParts (map page_of_record g.frames.items) (map (λ f. f.owner) g.frames.items)
      counted_uses
  are_parts = record {
    few = omega (arith, length-map g.frames.items page_of_record, few_frames g fits);
    each = length-map g.frames.items (λ f. f.owner)
        ∙ sym (length-map g.frames.items page_of_record);
    agree = subst (λ (os : List Owner). map is_free os ≡ map is_unused counted_uses) same_owners
        (agree_from w.owners counted_uses (owners_length ∙ sym uses_length)
        (free_no w counted_uses (owners_length ∙ sym uses_length) (λ f lt. capped_at f)
        law.frames.free));
  }

-- ---- bytes

page_kept : (o : Owner) (page : List ℕ)
    → whole (kept_by o page) ≡ page_in (o, page_if_used o (whole page))
unfolding zero_page
page_kept Free page = whole-zero_page
page_kept Shared page = refl
page_kept (Of t) page = refl

-- the bytes of the pages that are kept are those that the saved frames say
pub bytes_kept : (fs : List FrameRecord)
    → joined (map page_of_record fs) ≡ flat_map page_in (map frame_of_record fs)
unfolding joined
bytes_kept [] = refl
bytes_kept (f ∷ fs) =
    ap (λ xs. xs ++ joined (map page_of_record fs)) (page_kept f.owner f.page)
    ∙ ap (λ xs. page_in (frame_of_record f) ++ xs) (bytes_kept fs)
    ∙ sym (flat_map-cons page_in (frame_of_record f) (map frame_of_record fs))

-- ---- frames of a store

framed_from : (bytes : List ℕ) (n : ℕ) (pages : List (Option (List ℕ))) (owners : List Owner)
    → length owners ≡ length pages
    → ((i : ℕ) (p : Option (List ℕ)) → slice_get pages i ≡ Some p
    → page_of bytes (n + i) ≡ shown p)
    → framed pages owners ≡ map_from n (frame_in bytes) owners
framed_from bytes n [] [] len each = refl
framed_from bytes n [] (o ∷ owners) len each = absurd (omega arith)
framed_from bytes n (p ∷ pages) [] len each = absurd (omega arith)
framed_from bytes n (p ∷ pages) (o ∷ owners) len each =
    ap (λ page. (o, page_if_used o page) ∷ framed pages owners)
    (sym (each 0 p refl) ∙ ap (page_of bytes) {x = n + 0} {y = n} (omega arith))
    ∙ ap (λ fs. (o, page_if_used o (page_of bytes n)) ∷ fs)
    (framed_from bytes (suc n) pages owners (omega arith)
    (λ i q e. ap (page_of bytes) {x = suc n + i} {y = n + suc i} (omega arith)
    ∙ each (suc i) q e))

-- each frame of a store is what is saved of it in its world
pub framed_is : (pages : List (Option (List ℕ))) (owners : List Owner)
    → length owners ≡ length pages
    → framed pages owners ≡ map_from 0 (frame_in (joined pages)) owners
framed_is pages owners len = framed_from (joined pages) 0 pages owners len
    (λ i p e. ap (page_of (joined pages)) {x = 0 + i} {y = i} (omega arith)
    ∙ page_of-joined pages i p e)
