-- What canonical words ask for: defaults, all options, and the bounds of each number.
use Rattle.std.specs.Prelude.{ℕ, List, [], ◌∷◌, ◌++◌, flat_map, replicate, Some, None, codes, ◌≡◌}
use Rattle.std.specs.Prelude.{refl}
use Rattle.dos_words.specs.declared.request.Request.TheVariants.{Run, Replay, Inspect, Gen}
use Rattle.dos_words.specs.declared.request.Request.TheVariants.{Debug, Migrate, Trace, Save}
use Rattle.dos_words.specs.declared.request.Request.TheVariants.{Resume}
use Rattle.dos_world.specs.declared.Scheme.TheVariants.{Ownership, Buffered}
use Rattle.dos_words.specs.Request.{request}
use Rattle.dos_world.specs.declared.Post.{Post}
use Rattle.dos_words.specs.Numbers.{posts_from}

-- ---- run

defaults : request (codes "run" ∷ codes "--log" ∷ codes "l" ∷ codes "a" ∷ [])
    ≡ Some (Run 1000 100000 4096 4 Ownership [] None 1 (codes "l") (codes "a" ∷ []))
defaults = refl

all_options : request (codes "run" ∷ codes "--quantum" ∷ codes "16" ∷ codes "--rounds" ∷ codes "1"
    ∷ codes "--frames" ∷ codes "17" ∷ codes "--workers" ∷ codes "2" ∷ codes "--scheme"
    ∷ codes "buffered" ∷ codes "--signals" ∷ codes "1:1:15,2:3:9" ∷ codes "--clock-from"
    ∷ codes "5" ∷ codes "--clock-step" ∷ codes "7" ∷ codes "--log" ∷ codes "l" ∷ codes "a"
    ∷ codes "b" ∷ [])
    ≡ Some (Run 16 1 17 2 Buffered
    ((1, record { pid = 1; signal = 15 }) ∷ (2, record { pid = 3; signal = 9 }) ∷ [])
    (Some 5) 7 (codes "l") (codes "a" ∷ codes "b" ∷ []))
all_options = refl

any_order : request (codes "run" ∷ codes "--workers" ∷ codes "2" ∷ codes "--log" ∷ codes "l"
    ∷ codes "--quantum" ∷ codes "16" ∷ codes "a" ∷ [])
    ≡ Some (Run 16 100000 4096 2 Ownership [] None 1 (codes "l") (codes "a" ∷ []))
any_order = refl

-- the step may be given without a start; the host's clock is read then
step_alone : request (codes "run" ∷ codes "--clock-step" ∷ codes "9" ∷ codes "--log" ∷ codes "l"
    ∷ codes "a" ∷ [])
    ≡ Some (Run 1000 100000 4096 4 Ownership [] None 9 (codes "l") (codes "a" ∷ []))
step_alone = refl

eight_names : request (codes "run" ∷ codes "--log" ∷ codes "l" ∷ codes "a" ∷ codes "b" ∷ codes "c"
    ∷ codes "d" ∷ codes "e" ∷ codes "f" ∷ codes "g" ∷ codes "h" ∷ [])
    ≡ Some (Run 1000 100000 4096 4 Ownership [] None 1 (codes "l")
    (codes "a" ∷ codes "b" ∷ codes "c" ∷ codes "d" ∷ codes "e" ∷ codes "f" ∷ codes "g"
    ∷ codes "h" ∷ []))
eight_names = refl

nine_names : request (codes "run" ∷ codes "--log" ∷ codes "l" ∷ codes "a" ∷ codes "b" ∷ codes "c"
    ∷ codes "d" ∷ codes "e" ∷ codes "f" ∷ codes "g" ∷ codes "h" ∷ codes "i" ∷ []) ≡ None
nine_names = refl

-- ---- replay, inspect and gen

replay_defaults : request (codes "replay" ∷ codes "--log" ∷ codes "l" ∷ codes "a" ∷ [])
    ≡ Some (Replay 4 Ownership (codes "l") (codes "a" ∷ []))
replay_defaults = refl

replay_options : request (codes "replay" ∷ codes "--workers" ∷ codes "32" ∷ codes "--log"
    ∷ codes "l" ∷ codes "a" ∷ codes "b" ∷ [])
    ≡ Some (Replay 32 Ownership (codes "l") (codes "a" ∷ codes "b" ∷ []))
replay_options = refl

inspect_one : request (codes "inspect" ∷ codes "a" ∷ []) ≡ Some (Inspect (codes "a"))
inspect_one = refl

gen_defaults : request (codes "gen" ∷ codes "--number" ∷ codes "1" ∷ codes "--threads" ∷ codes "2"
    ∷ []) ≡ Some (Gen 1 2 4)
gen_defaults = refl

gen_options : request (codes "gen" ∷ codes "--workers" ∷ codes "1" ∷ codes "--threads" ∷ codes "32"
    ∷ codes "--number" ∷ codes "4294967295" ∷ []) ≡ Some (Gen 4294967295 32 1)
gen_options = refl

-- ---- migrate

migrate_one : request (codes "migrate" ∷ codes "--log" ∷ codes "l" ∷ codes "--to" ∷ codes "m" ∷ [])
    ≡ Some (Migrate (codes "l") (codes "m"))
migrate_one = refl

-- the new text may take the old one's place
migrate_over : request (codes "migrate" ∷ codes "--to" ∷ codes "l" ∷ codes "--log" ∷ codes "l"
    ∷ []) ≡ Some (Migrate (codes "l") (codes "l"))
migrate_over = refl

migrate_no_log : request (codes "migrate" ∷ codes "--to" ∷ codes "m" ∷ []) ≡ None
migrate_no_log = refl

migrate_no_to : request (codes "migrate" ∷ codes "--log" ∷ codes "l" ∷ []) ≡ None
migrate_no_to = refl

migrate_name : request (codes "migrate" ∷ codes "--log" ∷ codes "l" ∷ codes "--to" ∷ codes "m"
    ∷ codes "a" ∷ []) ≡ None
migrate_name = refl

-- ---- trace

trace_one : request (codes "trace" ∷ codes "--log" ∷ codes "l" ∷ codes "a" ∷ [])
    ≡ Some (Trace 4 (codes "l") (codes "a" ∷ []))
trace_one = refl

trace_workers : request (codes "trace" ∷ codes "--workers" ∷ codes "32" ∷ codes "--log" ∷ codes "l"
    ∷ codes "a" ∷ codes "b" ∷ []) ≡ Some (Trace 32 (codes "l") (codes "a" ∷ codes "b" ∷ []))
trace_workers = refl

trace_no_workers : request (codes "trace" ∷ codes "--workers" ∷ codes "0" ∷ codes "--log"
    ∷ codes "l" ∷ codes "a" ∷ []) ≡ None
trace_no_workers = refl

trace_no_log : request (codes "trace" ∷ codes "a" ∷ []) ≡ None
trace_no_log = refl

trace_no_image : request (codes "trace" ∷ codes "--log" ∷ codes "l" ∷ []) ≡ None
trace_no_image = refl

-- ---- debug

debug_one : request (codes "debug" ∷ codes "--log" ∷ codes "l" ∷ codes "a" ∷ [])
    ≡ Some (Debug 4 (codes "l") (codes "a" ∷ []))
debug_one = refl

debug_workers : request (codes "debug" ∷ codes "--log" ∷ codes "l" ∷ codes "--workers" ∷ codes "1"
    ∷ codes "a" ∷ codes "b" ∷ []) ≡ Some (Debug 1 (codes "l") (codes "a" ∷ codes "b" ∷ []))
debug_workers = refl

debug_no_log : request (codes "debug" ∷ codes "a" ∷ []) ≡ None
debug_no_log = refl

debug_no_image : request (codes "debug" ∷ codes "--log" ∷ codes "l" ∷ []) ≡ None
debug_no_image = refl

-- ---- schemes

ownership : request (codes "run" ∷ codes "--scheme" ∷ codes "ownership" ∷ codes "--log" ∷ codes "l"
    ∷ codes "a" ∷ []) ≡ Some (Run 1000 100000 4096 4 Ownership [] None 1 (codes "l")
    (codes "a" ∷ []))
ownership = refl

buffered : request (codes "run" ∷ codes "--scheme" ∷ codes "buffered" ∷ codes "--log" ∷ codes "l"
    ∷ codes "a" ∷ []) ≡ Some (Run 1000 100000 4096 4 Buffered [] None 1 (codes "l")
    (codes "a" ∷ []))
buffered = refl

replay_ownership : request (codes "replay" ∷ codes "--scheme" ∷ codes "ownership" ∷ codes "--log"
    ∷ codes "l" ∷ codes "a" ∷ []) ≡ Some (Replay 4 Ownership (codes "l") (codes "a" ∷ []))
replay_ownership = refl

replay_buffered : request (codes "replay" ∷ codes "--log" ∷ codes "l" ∷ codes "--scheme"
    ∷ codes "buffered" ∷ codes "a" ∷ []) ≡ Some (Replay 4 Buffered (codes "l") (codes "a" ∷ []))
replay_buffered = refl

-- the whole name, and no other letters
part_of_scheme : request (codes "run" ∷ codes "--scheme" ∷ codes "buffer" ∷ codes "--log"
    ∷ codes "l" ∷ codes "a" ∷ []) ≡ None
part_of_scheme = refl

more_than_scheme : request (codes "run" ∷ codes "--scheme" ∷ codes "buffered2" ∷ codes "--log"
    ∷ codes "l" ∷ codes "a" ∷ []) ≡ None
more_than_scheme = refl

capital_scheme : request (codes "run" ∷ codes "--scheme" ∷ codes "Ownership" ∷ codes "--log"
    ∷ codes "l" ∷ codes "a" ∷ []) ≡ None
capital_scheme = refl

replay_other_scheme : request (codes "replay" ∷ codes "--scheme" ∷ codes "shared" ∷ codes "--log"
    ∷ codes "l" ∷ codes "a" ∷ []) ≡ None
replay_other_scheme = refl

-- ---- the bounds of each number: the lowest and the highest, and one past them

quantum_below : request (codes "run" ∷ codes "--quantum" ∷ codes "15" ∷ codes "--log" ∷ codes "l"
    ∷ codes "a" ∷ []) ≡ None
quantum_below = refl

quantum_lowest : request (codes "run" ∷ codes "--quantum" ∷ codes "16" ∷ codes "--log" ∷ codes "l"
    ∷ codes "a" ∷ []) ≡ Some (Run 16 100000 4096 4 Ownership [] None 1 (codes "l") (codes "a" ∷ []))
quantum_lowest = refl

quantum_highest : request
    (codes "run" ∷ codes "--quantum" ∷ codes "65536" ∷ codes "--log" ∷ codes "l" ∷ codes "a"
    ∷ []) ≡ Some (Run 65536 100000 4096 4 Ownership [] None 1 (codes "l") (codes "a" ∷ []))
quantum_highest = refl

quantum_above : request (codes "run" ∷ codes "--quantum" ∷ codes "65537" ∷ codes "--log" ∷ codes "l"
    ∷ codes "a" ∷ []) ≡ None
quantum_above = refl

rounds_below : request (codes "run" ∷ codes "--rounds" ∷ codes "0" ∷ codes "--log" ∷ codes "l"
    ∷ codes "a" ∷ []) ≡ None
rounds_below = refl

rounds_lowest : request (codes "run" ∷ codes "--rounds" ∷ codes "1" ∷ codes "--log" ∷ codes "l"
    ∷ codes "a" ∷ []) ≡ Some (Run 1000 1 4096 4 Ownership [] None 1 (codes "l") (codes "a" ∷ []))
rounds_lowest = refl

rounds_highest : request (codes "run" ∷ codes "--rounds" ∷ codes "1000000" ∷ codes "--log"
    ∷ codes "l" ∷ codes "a" ∷ [])
    ≡ Some (Run 1000 1000000 4096 4 Ownership [] None 1 (codes "l") (codes "a" ∷ []))
rounds_highest = refl

rounds_above : request (codes "run" ∷ codes "--rounds" ∷ codes "1000001" ∷ codes "--log" ∷ codes "l"
    ∷ codes "a" ∷ []) ≡ None
rounds_above = refl

frames_below : request (codes "run" ∷ codes "--frames" ∷ codes "15" ∷ codes "--log" ∷ codes "l"
    ∷ codes "a" ∷ []) ≡ None
frames_below = refl

frames_lowest : request (codes "run" ∷ codes "--frames" ∷ codes "16" ∷ codes "--log" ∷ codes "l"
    ∷ codes "a" ∷ []) ≡ Some (Run 1000 100000 16 4 Ownership [] None 1 (codes "l") (codes "a" ∷ []))
frames_lowest = refl

frames_highest : request (codes "run" ∷ codes "--frames" ∷ codes "16384" ∷ codes "--log" ∷ codes "l"
    ∷ codes "a" ∷ [])
    ≡ Some (Run 1000 100000 16384 4 Ownership [] None 1 (codes "l") (codes "a" ∷ []))
frames_highest = refl

frames_above : request (codes "run" ∷ codes "--frames" ∷ codes "16385" ∷ codes "--log" ∷ codes "l"
    ∷ codes "a" ∷ []) ≡ None
frames_above = refl

workers_below : request (codes "run" ∷ codes "--workers" ∷ codes "0" ∷ codes "--log" ∷ codes "l"
    ∷ codes "a" ∷ []) ≡ None
workers_below = refl

workers_lowest : request (codes "run" ∷ codes "--workers" ∷ codes "1" ∷ codes "--log" ∷ codes "l"
    ∷ codes "a" ∷ [])
    ≡ Some (Run 1000 100000 4096 1 Ownership [] None 1 (codes "l") (codes "a" ∷ []))
workers_lowest = refl

workers_highest : request (codes "run" ∷ codes "--workers" ∷ codes "32" ∷ codes "--log" ∷ codes "l"
    ∷ codes "a" ∷ [])
    ≡ Some (Run 1000 100000 4096 32 Ownership [] None 1 (codes "l") (codes "a" ∷ []))
workers_highest = refl

workers_above : request (codes "run" ∷ codes "--workers" ∷ codes "33" ∷ codes "--log" ∷ codes "l"
    ∷ codes "a" ∷ []) ≡ None
workers_above = refl

clock_from_lowest : request
    (codes "run" ∷ codes "--clock-from" ∷ codes "0" ∷ codes "--log" ∷ codes "l" ∷ codes "a"
    ∷ []) ≡ Some (Run 1000 100000 4096 4 Ownership [] (Some 0) 1 (codes "l") (codes "a" ∷ []))
clock_from_lowest = refl

clock_from_highest : request (codes "run" ∷ codes "--clock-from" ∷ codes "18446744073709551615"
    ∷ codes "--log" ∷ codes "l" ∷ codes "a" ∷ [])
    ≡ Some (Run 1000 100000 4096 4 Ownership [] (Some 18446744073709551615) 1
    (codes "l") (codes "a" ∷ []))
clock_from_highest = refl

clock_from_above : request (codes "run" ∷ codes "--clock-from" ∷ codes "18446744073709551616"
    ∷ codes "--log" ∷ codes "l" ∷ codes "a" ∷ []) ≡ None
clock_from_above = refl

clock_step_lowest : request
    (codes "run" ∷ codes "--clock-step" ∷ codes "0" ∷ codes "--log" ∷ codes "l" ∷ codes "a"
    ∷ []) ≡ Some (Run 1000 100000 4096 4 Ownership [] None 0 (codes "l") (codes "a" ∷ []))
clock_step_lowest = refl

clock_step_highest : request (codes "run" ∷ codes "--clock-step" ∷ codes "18446744073709551615"
    ∷ codes "--log" ∷ codes "l" ∷ codes "a" ∷ [])
    ≡ Some (Run 1000 100000 4096 4 Ownership [] None 18446744073709551615
    (codes "l") (codes "a" ∷ []))
clock_step_highest = refl

clock_step_above : request (codes "run" ∷ codes "--clock-step" ∷ codes "18446744073709551616"
    ∷ codes "--log" ∷ codes "l" ∷ codes "a" ∷ []) ≡ None
clock_step_above = refl

number_lowest : request (codes "gen" ∷ codes "--number" ∷ codes "0" ∷ codes "--threads" ∷ codes "1"
    ∷ []) ≡ Some (Gen 0 1 4)
number_lowest = refl

number_above : request (codes "gen" ∷ codes "--number" ∷ codes "4294967296" ∷ codes "--threads"
    ∷ codes "1" ∷ []) ≡ None
number_above = refl

threads_below : request (codes "gen" ∷ codes "--number" ∷ codes "0" ∷ codes "--threads" ∷ codes "0"
    ∷ []) ≡ None
threads_below = refl

threads_above : request (codes "gen" ∷ codes "--number" ∷ codes "0" ∷ codes "--threads" ∷ codes "33"
    ∷ []) ≡ None
threads_above = refl

-- ---- posts

post_lowest : request (codes "run" ∷ codes "--signals" ∷ codes "1:1:1" ∷ codes "--log" ∷ codes "l"
    ∷ codes "a" ∷ [])
    ≡ Some (Run 1000 100000 4096 4 Ownership ((1, record { pid = 1; signal = 1 }) ∷ [])
    None 1 (codes "l") (codes "a" ∷ []))
post_lowest = refl

post_highest : request (codes "run" ∷ codes "--signals" ∷ codes "1000000:65535:31" ∷ codes "--log"
    ∷ codes "l" ∷ codes "a" ∷ [])
    ≡ Some (Run 1000 100000 4096 4 Ownership ((1000000, record { pid = 65535; signal = 31 }) ∷ [])
    None 1 (codes "l") (codes "a" ∷ []))
post_highest = refl

post_round_below : request
    (codes "run" ∷ codes "--signals" ∷ codes "0:1:1" ∷ codes "--log" ∷ codes "l" ∷ codes "a"
    ∷ []) ≡ None
post_round_below = refl

post_round_above : request (codes "run" ∷ codes "--signals" ∷ codes "1000001:1:1" ∷ codes "--log"
    ∷ codes "l" ∷ codes "a" ∷ []) ≡ None
post_round_above = refl

post_process_below : request
    (codes "run" ∷ codes "--signals" ∷ codes "1:0:1" ∷ codes "--log" ∷ codes "l" ∷ codes "a"
    ∷ []) ≡ None
post_process_below = refl

post_process_above : request (codes "run" ∷ codes "--signals" ∷ codes "1:65536:1" ∷ codes "--log"
    ∷ codes "l" ∷ codes "a" ∷ []) ≡ None
post_process_above = refl

post_signal_below : request
    (codes "run" ∷ codes "--signals" ∷ codes "1:1:0" ∷ codes "--log" ∷ codes "l" ∷ codes "a"
    ∷ []) ≡ None
post_signal_below = refl

post_signal_above : request
    (codes "run" ∷ codes "--signals" ∷ codes "1:1:32" ∷ codes "--log" ∷ codes "l" ∷ codes "a"
    ∷ []) ≡ None
post_signal_above = refl

post_of_two : request (codes "run" ∷ codes "--signals" ∷ codes "1:1" ∷ codes "--log" ∷ codes "l"
    ∷ codes "a" ∷ []) ≡ None
post_of_two = refl

post_of_four : request (codes "run" ∷ codes "--signals" ∷ codes "1:1:1:1" ∷ codes "--log"
    ∷ codes "l" ∷ codes "a" ∷ []) ≡ None
post_of_four = refl

last_comma : request (codes "run" ∷ codes "--signals" ∷ codes "1:1:1," ∷ codes "--log" ∷ codes "l"
    ∷ codes "a" ∷ []) ≡ None
last_comma = refl

abbrev one_post : ℕ × Post
one_post = (1, record { pid = 1; signal = 1 })

-- 32 posts are the most
posts_32 : posts_from (flat_map (λ (text : List ℕ). text) (replicate 31 (codes "1:1:1,"))
    ++ codes "1:1:1") ≡ Some (replicate 32 one_post)
posts_32 = refl

posts_33 : posts_from (flat_map (λ (text : List ℕ). text) (replicate 32 (codes "1:1:1,"))
    ++ codes "1:1:1") ≡ None
posts_33 = refl

-- ---- how a number is spelled

zero : request (codes "run" ∷ codes "--clock-step" ∷ codes "0" ∷ codes "--log" ∷ codes "l"
    ∷ codes "a" ∷ [])
    ≡ Some (Run 1000 100000 4096 4 Ownership [] None 0 (codes "l") (codes "a" ∷ []))
zero = refl

leading_zero : request (codes "run" ∷ codes "--clock-step" ∷ codes "01" ∷ codes "--log" ∷ codes "l"
    ∷ codes "a" ∷ []) ≡ None
leading_zero = refl

two_zeros : request (codes "run" ∷ codes "--clock-step" ∷ codes "00" ∷ codes "--log" ∷ codes "l"
    ∷ codes "a" ∷ []) ≡ None
two_zeros = refl

digits_20 : request (codes "run" ∷ codes "--clock-step" ∷ codes "10000000000000000000"
    ∷ codes "--log" ∷ codes "l" ∷ codes "a" ∷ [])
    ≡ Some (Run 1000 100000 4096 4 Ownership [] None 10000000000000000000
    (codes "l") (codes "a" ∷ []))
digits_20 = refl

digits_21 : request (codes "run" ∷ codes "--clock-step" ∷ codes "100000000000000000000"
    ∷ codes "--log" ∷ codes "l" ∷ codes "a" ∷ []) ≡ None
digits_21 = refl

plus : request (codes "run" ∷ codes "--clock-step" ∷ codes "+1" ∷ codes "--log" ∷ codes "l"
    ∷ codes "a" ∷ []) ≡ None
plus = refl

letter : request (codes "run" ∷ codes "--clock-step" ∷ codes "1a" ∷ codes "--log" ∷ codes "l"
    ∷ codes "a" ∷ []) ≡ None
letter = refl

hexadecimal : request (codes "run" ∷ codes "--clock-step" ∷ codes "0x10" ∷ codes "--log" ∷ codes "l"
    ∷ codes "a" ∷ []) ≡ None
hexadecimal = refl

-- ---- canonical words that are refused

no_log : request (codes "run" ∷ codes "a" ∷ []) ≡ None
no_log = refl

no_names : request (codes "run" ∷ codes "--log" ∷ codes "l" ∷ []) ≡ None
no_names = refl

replay_no_log : request (codes "replay" ∷ codes "a" ∷ []) ≡ None
replay_no_log = refl

inspect_two : request (codes "inspect" ∷ codes "a" ∷ codes "b" ∷ []) ≡ None
inspect_two = refl

inspect_none : request (codes "inspect" ∷ []) ≡ None
inspect_none = refl

gen_no_number : request (codes "gen" ∷ codes "--threads" ∷ codes "1" ∷ []) ≡ None
gen_no_number = refl

gen_no_threads : request (codes "gen" ∷ codes "--number" ∷ codes "1" ∷ []) ≡ None
gen_no_threads = refl

gen_name : request (codes "gen" ∷ codes "--number" ∷ codes "1" ∷ codes "--threads" ∷ codes "1"
    ∷ codes "a" ∷ []) ≡ None
gen_name = refl

-- ---- save

save_one : request (codes "save" ∷ codes "--log" ∷ codes "l" ∷ codes "--round" ∷ codes "3"
    ∷ codes "--to" ∷ codes "g" ∷ codes "a" ∷ [])
    ≡ Some (Save 4 (codes "l") 3 (codes "g") (codes "a" ∷ []))
save_one = refl

save_in_any_order : request (codes "save" ∷ codes "--to" ∷ codes "g" ∷ codes "--workers"
    ∷ codes "2" ∷ codes "--round" ∷ codes "1000000" ∷ codes "--log" ∷ codes "l" ∷ codes "a"
    ∷ codes "b" ∷ [])
    ≡ Some (Save 2 (codes "l") 1000000 (codes "g") (codes "a" ∷ codes "b" ∷ []))
save_in_any_order = refl

save_no_round : request (codes "save" ∷ codes "--log" ∷ codes "l" ∷ codes "--to" ∷ codes "g"
    ∷ codes "a" ∷ []) ≡ None
save_no_round = refl

save_round_0 : request (codes "save" ∷ codes "--log" ∷ codes "l" ∷ codes "--round" ∷ codes "0"
    ∷ codes "--to" ∷ codes "g" ∷ codes "a" ∷ []) ≡ None
save_round_0 = refl

save_no_image : request (codes "save" ∷ codes "--log" ∷ codes "l" ∷ codes "--round" ∷ codes "3"
    ∷ codes "--to" ∷ codes "g" ∷ []) ≡ None
save_no_image = refl

-- ---- resume

resume_one : request (codes "resume" ∷ codes "--log" ∷ codes "l" ∷ codes "--from" ∷ codes "g" ∷ [])
    ≡ Some (Resume 4 (codes "l") (codes "g"))
resume_one = refl

resume_workers : request (codes "resume" ∷ codes "--from" ∷ codes "g" ∷ codes "--workers"
    ∷ codes "1" ∷ codes "--log" ∷ codes "l" ∷ []) ≡ Some (Resume 1 (codes "l") (codes "g"))
resume_workers = refl

resume_a_name : request (codes "resume" ∷ codes "--log" ∷ codes "l" ∷ codes "--from" ∷ codes "g"
    ∷ codes "a" ∷ []) ≡ None
resume_a_name = refl
