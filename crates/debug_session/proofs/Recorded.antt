-- Sessions of files with names and logs with entries, computed by the checker. What is heard was
-- worked out by hand.
use Rattle.std.specs.Prelude.{List, [], ◌∷◌, ◌++◌, refl, codes, replicate}
use Rattle.std.specs.Fmt.{digits}
use Rattle.dos_world.specs.Play.{posts}
use Rattle.dos_world.specs.declared.Ending.TheVariants.{Done, Stalled}
use Rattle.dos_world.specs.declared.Question.TheVariants.{Signals, End}
use Rattle.flat_machine.specs.Computing.{computing}
use Rattle.gdb_packets.specs.Hexadecimal.{number_digits, bytes_digits}
use Rattle.debug_session.specs.Recordings.{LogEntry}
use Rattle.debug_session.specs.Sessions.{Session}
use Rattle.debug_session.proofs.Conversations.{Runs, Puts, program, with_frames, exits_with_7}
use Rattle.debug_session.proofs.Conversations.{recorded_session, session_of, says, asks_for}

-- ---- a file and its log

-- a file of eight bytes, of which three must be escaped
abbrev named : List LogEntry → Session
named entries =
    recorded_session 9 (codes "bin/a" ∷ []) (codes "01}2*3#4" ∷ []) (exits_with_7 ∷ [])
    (with_frames 17) entries

abbrev named_whole : Session
named_whole = named ((Signals 1, posts []) ∷ (End Done 1, posts []) ∷ [])

-- how much of the log was used, and what the process and its pages are
who_and_where : Runs named_whole
    (asks_for (codes "where")
    (codes "round 0 move 0, between rounds" ∷ codes "last: none" ∷ codes "next: a round begins"
    ∷ codes "log entry 0 of 2" ∷ [])
    ∷ says (codes "c") (codes "T05thread:p1.1;replaylog:end;")
    ∷ asks_for (codes "where")
    (codes "round 1 move 2, serial phase" ∷ codes "last: thread 1 runs an instruction"
    ∷ codes "next: thread 1 is served" ∷ codes "log entry 1 of 2" ∷ [])
    ∷ asks_for (codes "processes") (codes "process 1 live, parent 0, image bin/a" ∷ [])
    ∷ asks_for (codes "page 0x10004")
    (codes "page 00010000 of process 1: frame 0, owner thread 1, rights rwx, private" ∷ [])
    ∷ asks_for (codes "page 20001 1") (codes "page 00020000 of process 1 isn't mapped" ∷ [])
    ∷ asks_for (codes "page 10000 2") (codes "no process" ∷ [])
    ∷ asks_for (codes "page here") (codes "page ADDRESS [PROCESS]" ∷ [])
    ∷ asks_for (codes "pages")
    (codes "pages 00010000 to 00010000: frames 0 to 0, owner thread 1, rights rwx, private"
    ∷ codes "pages efff0000 to effff000: frames 1 to 16, owner thread 1, rights rw-, private" ∷ [])
    ∷ asks_for (codes "pages 2") (codes "no process" ∷ []) ∷ [])
unfolding computing number_digits digits
who_and_where = refl

-- the file as a client reads it
a_file_is_read : Runs named_whole
    (says (codes "qXfer:exec-file:read:1:0,100") (codes "l/bin/a")
    ∷ says (codes "qXfer:exec-file:read::0,3") (codes "m/bi")
    ∷ says (codes "qXfer:exec-file:read:2:0,100") (codes "E01")
    ∷ says (codes "vFile:setfs:0") (codes "F0")
    ∷ says (codes "vFile:open:" ++ bytes_digits (codes "/bin/a") ++ codes ",0,0") (codes "F0")
    ∷ says (codes "vFile:open:" ++ bytes_digits (codes "bin/a") ++ codes ",0,0") (codes "F-1,2")
    ∷ says (codes "vFile:open:0,0,0") (codes "E01")
    ∷ says (codes "vFile:fstat:0") (codes "F40;" ++ replicate 8 0 ++ 0 ∷ 0 ∷ 0x81 ∷ 0xa4
    ∷ replicate 23 0 ++ 8 ∷ replicate 28 0)
    ∷ says (codes "vFile:fstat:1") (codes "F-1,9")
    ∷ says (codes "vFile:pread:0,3,1") (codes "F3;1}]2")
    ∷ says (codes "vFile:pread:0,1000,4") (codes "F4;}\n3}" ++ 3 ∷ codes "4")
    ∷ says (codes "vFile:pread:0,1000,8") (codes "F0;")
    ∷ says (codes "vFile:pread:1,1,0") (codes "F-1,9")
    ∷ says (codes "vFile:close:0") (codes "F0") ∷ [])
unfolding computing number_digits digits
a_file_is_read = refl

-- A log whose first entry is of another round ends the history where it begins.
a_log_misfits : Runs (named ((Signals 2, posts []) ∷ (End Done 1, posts []) ∷ []))
    (says (codes "c") (codes "T05thread:p1.1;replaylog:end;")
    ∷ asks_for (codes "where")
    (codes "round 0 move 0, between rounds" ∷ codes "last: none"
    ∷ codes "next: none, log entry 0 is signals round 2, asked signals round 1"
    ∷ codes "log entry 0 of 2" ∷ []) ∷ [])
unfolding computing number_digits digits
a_log_misfits = refl

-- futex_wait on a word that is as expected: at the end of the run its end isn't used.
a_log_is_used_up : Runs (recorded_session 20 (codes "a" ∷ []) []
    (program (0x00B00893 ∷ 0x00000517 ∷ 0x00052583 ∷ 0x00000073 ∷ 0x00200893 ∷ 0x00000073 ∷ [])
    ∷ []) (with_frames 17)
    ((Signals 1, posts []) ∷ (Signals 2, posts []) ∷ (End Stalled 1, posts []) ∷ []))
    (says (codes "c") (codes "T05thread:p1.1;replaylog:end;")
    ∷ asks_for (codes "where")
    (codes "round 2 move 0, between rounds" ∷ codes "last: a round begins"
    ∷ codes "next: none, the group is stalled" ∷ codes "log entry 2 of 3" ∷ []) ∷ [])
unfolding computing number_digits digits
a_log_is_used_up = refl

-- ---- bytes

abbrev small : Session
small = session_of 9 (exits_with_7 ∷ []) (with_frames 17) (posts [] ∷ [])

a_packet_is_acknowledged : Puts small (codes "$?#3f") (codes "+$T05thread:p1.1;#a6")
unfolding computing number_digits digits
a_packet_is_acknowledged = refl

another_sum_is_refused : Puts small (codes "$?#00") (codes "-")
unfolding computing number_digits digits
another_sum_is_refused = refl

a_packet_is_sent_again : Puts small (codes "$?#3f-+")
    (codes "+$T05thread:p1.1;#a6$T05thread:p1.1;#a6")
unfolding computing number_digits digits
a_packet_is_sent_again = refl

none_is_acknowledged_any_more : Puts small (codes "$QStartNoAckMode#b0+$?#zz")
    (codes "+$OK#9a$T05thread:p1.1;#a6")
unfolding computing number_digits digits
none_is_acknowledged_any_more = refl

-- an interrupt, other bytes, asking for a packet where none was sent, a packet that doesn't end
others_have_no_effect : Puts small (3 ∷ codes "abc-$?") []
unfolding computing number_digits digits
others_have_no_effect = refl
