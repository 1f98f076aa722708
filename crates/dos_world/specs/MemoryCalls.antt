-- The services of memory: map, unmap, share. This project's own; error numbers are chosen after
-- Linux's.
use Rattle.std.specs.Prelude.{ℕ, ◌+◌, ◌*◌, ◌/◌, ◌%◌, Bool, true, false, not, ◌&&◌, List, [], ◌∷◌}
use Rattle.std.specs.Prelude.{map, filter, Result, Ok, Err, is_some, ◌==◌, nat_lt, nat_le}
use Rattle.std.specs.Prelude.{if◌then◌else◌}
use Rattle.std.specs.List.{list_any, list_all}
use Rattle.dos_world.specs.Errors.{einval, enomem}
use Rattle.dos_world.specs.Numbered.{run_of}
use Rattle.dos_world.specs.World.{World, Holdings, Entry, look, space_of, with_holdings, page_size}
use Rattle.dos_world.specs.Kernel.{tidied, free_frames, lowest_free_frame, with_taken}
use Rattle.dos_world.specs.Kernel.{with_entry}
use Rattle.dos_world.specs.Calls.{Service, Call, replies}

-- ---- the range: a1 pages from a0 on

-- whether a0 begins a page, there is a page, and all of them lie within 0x1000 to 0xEFFFFFFF
abbrev pub is_range : Call → Bool
is_range c =
    (c.a0 % page_size == 0) && nat_lt 0 c.a1
    && nat_le 0x1000 c.a0 && nat_le (c.a0 + page_size * c.a1) 0xF0000000

-- whether they are no range
abbrev pub is_no_range : Call → Bool
is_no_range c = not (is_range c)

-- its page numbers, in rising order
abbrev pub pages_of : Call → List ℕ
pages_of c = run_of (c.a0 / page_size) c.a1

-- whether the caller maps a page
abbrev pub is_page_mapped : Call → ℕ → Bool
is_page_mapped c page = is_some (look (space_of c.world c.process) page)

-- whether a page of the range is mapped
abbrev pub maps_page : Call → Bool
maps_page c = list_any (is_page_mapped c) (pages_of c)

-- whether a page of the range isn't mapped
abbrev pub lacks_page : Call → Bool
lacks_page c = not (list_all (is_page_mapped c) (pages_of c))

-- whether an entry is one of the range
abbrev pub in_pages : Call → (ℕ × Entry) → Bool
in_pages c e = nat_le (c.a0 / page_size) e.0 && nat_lt e.0 (c.a0 / page_size + c.a1)

-- ---- 13: map

-- the rights of a page, added: 1 is X, 2 is W, 4 is R
abbrev pub all_rights : ℕ
all_rights = 7

-- a private entry with these rights
abbrev pub private_entry : ℕ → ℕ → Entry
private_entry frame rights =
    record { frame = frame; write = rights / 2 % 2 == 1; exec = rights % 2 == 1; shared = false }

-- the world in which process p has a page more: a private page of zeros in a fresh frame of t's
abbrev pub page_mapped : ℕ → ℕ → ℕ → World → ℕ → World
page_mapped t p rights w page =
    let entry : Entry = private_entry (lowest_free_frame w) rights in
    with_holdings (with_taken w t) p (with_entry page entry)

-- the same for each of these pages, in this order
abbrev pub mapped_fresh : Call → World → List ℕ → World
mapped_fresh c w [] = w
mapped_fresh c w (page ∷ pages) = mapped_fresh c (page_mapped c.thread c.process c.a2 w page) pages

-- the world, or the refusal: 22 where it is no range, the rights are over 7 or a page is mapped, 12
-- where too few frames are free
abbrev pub mapped : Call → Result World ℕ
mapped c =
    if not (is_range c && nat_le c.a2 all_rights) then Err einval
    else (if maps_page c then Err einval
    else (if nat_lt (free_frames c.world) c.a1 then Err enomem
    else Ok (mapped_fresh c c.world (pages_of c))))

-- 13: a1 new pages from a0 on, with the rights a2; 0
abbrev pub map_pages : Service
map_pages c = replies (mapped c) 0 c

-- ---- 14: unmap

-- this world, or refusal 22 where it is no range or a page of it isn't mapped
abbrev pub where_mapped : Call → World → Result World ℕ
where_mapped c w = if is_no_range c then Err einval else (if lacks_page c then Err einval else Ok w)

-- whether an entry is none of the range
abbrev pub stays_mapped : Call → (ℕ × Entry) → Bool
stays_mapped c e = not (in_pages c e)

-- what a process has, without the pages of the range
abbrev pub without_pages : Call → Holdings → Holdings
without_pages c h = record h { space = filter (stays_mapped c) h.space }

-- the world without the pages, or the refusal
abbrev pub unmapped : Call → Result World ℕ
unmapped c = where_mapped c (tidied (with_holdings c.world c.process (without_pages c)))

-- 14: The pages are unmapped, and each frame has one use less; 0.
abbrev pub unmap : Service
unmap c = replies (unmapped c) 0 c

-- ---- 15: share

-- an entry that is shared where the test says so
abbrev pub share_if : Bool → Entry → Entry
share_if true e = record e { shared = true }
share_if false e = e

-- an entry of a space, shared where it is one of the range
abbrev pub shared_in_pages : Call → (ℕ × Entry) → ℕ × Entry
shared_in_pages c e = (e.0, share_if (in_pages c e) e.1)

-- what a process has, with the pages of the range shared
abbrev pub with_shared : Call → Holdings → Holdings
with_shared c h = record h { space = map (shared_in_pages c) h.space }

-- the world in which the pages are shared, or the refusal
abbrev pub shared : Call → Result World ℕ
shared c = where_mapped c (with_holdings c.world c.process (with_shared c))

-- 15: A fork gives a child the same frames for these pages; 0.
abbrev pub share : Service
share c = replies (shared c) 0 c
