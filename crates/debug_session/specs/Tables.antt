-- Threads, pipes, descriptors and sleepers in lines for a person. This project's own texts; numbers
-- are decimal.
use Rattle.std.specs.Prelude.{ℕ, ◌+◌, ◌==◌, Bool, List, [], ◌∷◌, ◌++◌, length, map}
use Rattle.std.specs.Prelude.{flat_map, Option, Some, None, codes, decimal}
use Rattle.std.specs.Prelude.{count_by, sum_by, unwrap_or, if◌then◌else◌}
use Rattle.dos_world.specs.Numbered.{map_from}
use Rattle.dos_world.specs.World.{World, Holdings, Thread, Sleeper, live_process, all_holdings}
use Rattle.dos_world.specs.Counts.{reads_pipe, writes_pipe}
use Rattle.dos_world.specs.declared.End.{End}
use Rattle.dos_world.specs.declared.End.TheVariants.{Input, Output, Error, PipeRead, PipeWrite}
use Rattle.debug_session.specs.Sessions.{Session, home_in}
use Rattle.debug_session.specs.Waits.{word_digits, what_text}
use Rattle.debug_session.specs.Where.{console_line}

-- ---- threads

abbrev pub word_part : (name : List ℕ) → ℕ → List ℕ
word_part name n = if n == 0 then [] else codes ", " ++ name ++ codes " " ++ word_digits n

abbrev pub saved_part : ℕ → List ℕ
saved_part n = if n == 0 then [] else codes ", " ++ decimal n ++ codes " saved"

-- what it is about, and what isn't empty: signals pending, its mask, saved registers
abbrev pub thread_parts : World → ℕ → Thread → List ℕ
thread_parts w t thread =
    what_text w thread.process t ++ word_part (codes "pending") thread.pending
    ++ word_part (codes "mask") thread.mask ++ saved_part (length thread.saved)

abbrev pub thread_line : World → ℕ → Thread → List ℕ
thread_line w t thread =
    console_line (codes "thread " ++ decimal t ++ codes " of process " ++ decimal thread.process
    ++ codes ": " ++ thread_parts w t thread)

abbrev pub living_row : World → ℕ → Option Thread → List (List ℕ)
living_row w t None = []
living_row w t (Some thread) = thread_line w t thread ∷ []

-- of each thread that lives
abbrev pub thread_lines : World → List (List ℕ)
thread_lines w = flat_map (λ x. x) (map_from 1 (living_row w) w.threads)

-- ---- descriptors

abbrev pub end_text : End → List ℕ
end_text Input = codes "input"
end_text Output = codes "output"
end_text Error = codes "error"
end_text (PipeRead n) = codes "reads pipe " ++ decimal n
end_text (PipeWrite n) = codes "writes pipe " ++ decimal n

abbrev pub descriptor_line : ℕ → Option End → List (List ℕ)
descriptor_line n None = []
descriptor_line n (Some end) =
    console_line (codes "descriptor " ++ decimal n ++ codes ": " ++ end_text end) ∷ []

abbrev pub descriptor_lines : Option Holdings → List (List ℕ)
descriptor_lines None = console_line (codes "no process") ∷ []
descriptor_lines (Some h) = flat_map (λ x. x) (map_from 0 descriptor_line h.descriptors)

-- the process that is named, or else that of the thread that is meant
abbrev pub process_asked : Session → Option ℕ → ℕ
process_asked s (Some p) = p
process_asked s None = unwrap_or (home_in s s.meant) 0

abbrev pub end_lines : Session → Option ℕ → List (List ℕ)
end_lines s p = descriptor_lines (live_process s.position.moment.world (process_asked s p))

-- ---- pipes

-- how many descriptors of live processes pass a test
abbrev pub descriptors_where : World → (Option End → Bool) → ℕ
descriptors_where w test =
    sum_by (λ (h : Holdings). count_by test h.descriptors) (all_holdings w.processes)

abbrev pub counted_line : (n bytes readers writers : ℕ) → List (List ℕ)
counted_line n bytes readers writers =
    if readers + writers == 0 then []
    else console_line (codes "pipe " ++ decimal n ++ codes ": " ++ decimal bytes ++ codes " bytes, "
    ++ decimal readers ++ codes " readers, " ++ decimal writers ++ codes " writers") ∷ []

-- A pipe is open that has an end.
abbrev pub pipe_line : World → ℕ → (held : List ℕ) → List (List ℕ)
pipe_line w n held =
    counted_line n (length held) (descriptors_where w (reads_pipe n))
    (descriptors_where w (writes_pipe n))

abbrev pub lines_or : (other : List ℕ) → List (List ℕ) → List (List ℕ)
lines_or other [] = console_line other ∷ []
lines_or other (first ∷ lines) = first ∷ lines

abbrev pub pipe_lines : World → List (List ℕ)
pipe_lines w =
    lines_or (codes "no pipe is open") (flat_map (λ x. x) (map_from 0 (pipe_line w) w.pipes))

-- ---- sleepers, in their order

abbrev pub sleeper_line : Sleeper → List ℕ
sleeper_line sleeper =
    console_line (codes "thread " ++ decimal sleeper.thread ++ codes " sleeps at frame "
    ++ decimal sleeper.frame ++ codes " offset " ++ decimal sleeper.offset)

abbrev pub sleeper_lines : World → List (List ℕ)
sleeper_lines w = lines_or (codes "nobody sleeps") (map sleeper_line w.sleepers)
