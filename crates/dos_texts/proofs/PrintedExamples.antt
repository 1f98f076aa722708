-- What a run reports, and what `inspect` and `gen` print.
use Rattle.std.specs.Fmt.{digits}
use Rattle.std.specs.Prelude.{ℕ, List, [], ◌∷◌, ◌++◌, codes, replicate, true, false, Some, None}
use Rattle.std.specs.Prelude.{◌≡◌, refl}
use Rattle.dos_world.specs.declared.Ending.TheVariants.{Done, Limit, Stalled}
use Rattle.dos_texts.specs.Report.{report_of}
use Rattle.log_text.specs.declared.version.LogVersion.TheVariants.{One}
use Rattle.dos_texts.specs.Migration.{migrated_lines}
use Rattle.dos_texts.specs.Printed.{entry_line, part_line, inspect_lines, summary_of}

abbrev ended : List ℕ
ended = 10 ∷ []

-- ---- the report: a line for each process number, and how the run ended

one_process : report_of (Some 7 ∷ []) 1 Done ≡ (codes "process 1 status 7" ++ ended)
    ++ codes "rounds 1 done" ++ ended
unfolding digits
one_process = refl

two_processes : report_of (Some 7 ∷ Some 0 ∷ []) 1 Done ≡ (codes "process 1 status 7" ++ ended)
    ++ (codes "process 2 status 0" ++ ended) ++ codes "rounds 1 done" ++ ended
unfolding digits
two_processes = refl

-- at the limit of rounds it lives still
one_live : report_of (None ∷ []) 100000 Limit ≡ (codes "process 1 live" ++ ended)
    ++ codes "rounds 100000 limit" ++ ended
unfolding digits
one_live = refl

one_waits : report_of (None ∷ Some 143 ∷ []) 1 Stalled ≡ (codes "process 1 live" ++ ended)
    ++ (codes "process 2 status 143" ++ ended) ++ codes "rounds 1 stalled" ++ ended
unfolding digits
one_waits = refl

-- ---- inspect, of a file as a linker makes it

linked : inspect_lines (record {
  entry = 0x000100B4;
  parts =
      record {
        address = 0x00010000;
        bytes = replicate 192 0;
        zeros = 0;
        write = false;
        exec = true;
        index = 1;
      }
      ∷ record {
        address = 0x000110C0;
        bytes = replicate 4 0;
        zeros = 60;
        write = true;
        exec =
            false;
        index = 2;
      } ∷ [];
}) ≡ (codes "entry 000100b4" ++ ended)
    ++ (codes "load 00010000 file 192 memory 192 rights r-x" ++ ended)
    ++ codes "load 000110c0 file 4 memory 64 rights rw-" ++ ended
unfolding digits entry_line part_line
linked = refl

-- ---- gen, with the digest of what was printed

generated : summary_of (Some 0 ∷ []) 13 Done 2 (0x0A ∷ replicate 31 0xFF)
    ≡ (codes "rounds 13 done" ++ ended) ++ (codes "process 1 status 0" ++ ended)
    ++ (codes "output 2 bytes" ++ ended)
    ++ codes "sha256 0affffffffffffffffffffffffffffffffffffffffffffffffffffffffffffff" ++ ended
unfolding digits
generated = refl

generated_live : summary_of (None ∷ []) 100000 Limit 0 (replicate 32 0x9C)
    ≡ (codes "rounds 100000 limit" ++ ended) ++ (codes "process 1 live" ++ ended)
    ++ (codes "output 0 bytes" ++ ended)
    ++ codes "sha256 9c9c9c9c9c9c9c9c9c9c9c9c9c9c9c9c9c9c9c9c9c9c9c9c9c9c9c9c9c9c9c9c" ++ ended
unfolding digits
generated_live = refl

-- ---- migrate, of a log of version 1

migrated : migrated_lines One 70 67 ≡ (codes "version 1 bytes 70" ++ ended)
    ++ codes "version 2 bytes 67" ++ ended
unfolding digits
migrated = refl
