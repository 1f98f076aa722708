-- A race in a debugger, computed by the checker. What is heard was worked out by hand.
use Rattle.std.specs.Prelude.{[], ◌∷◌, refl, codes}
use Rattle.std.specs.Fmt.{digits}
use Rattle.dos_world.specs.Play.{posts}
use Rattle.elf_image.specs.Image.{Image}
use Rattle.flat_machine.specs.Computing.{computing}
use Rattle.gdb_packets.specs.Hexadecimal.{number_digits}
use Rattle.debug_session.specs.Sessions.{Session}
use Rattle.debug_session.proofs.Conversations.{Runs, program, with_frames, session_of}
use Rattle.debug_session.proofs.Conversations.{says, says_more, looks}

-- Two threads load one word, at 0x10050, yield, add 1 and store.
abbrev race : Image
race = program
    (0x00300893 ∷ 0x00000517 ∷ 0x01450513 ∷ 0x00000073 ∷ 0x01700893 ∷ 0x00000073
    ∷ 0x00000417 ∷ 0x03842283 ∷ 0x01700893 ∷ 0x00000073 ∷ 0x00128293
    ∷ 0x02542C23 ∷ 0x00000073 ∷ 0x00800893 ∷ 0x00100513 ∷ 0x03840593 ∷ 0x00100613 ∷ 0x00000073
    ∷ 0x00100893 ∷ 0x00000073 ∷ 0x00000030 ∷ [])

abbrev races : Session
races = session_of 60 (race ∷ []) (with_frames 17) (posts [] ∷ posts [] ∷ posts [] ∷ posts [] ∷ [])

-- The last change is found backwards. Thread 2 stores the same number, which changes nothing:
-- that is the lost addition.
who_wrote_it_last : Runs
    (races)
    (says (codes "QStartNoAckMode") (codes "OK") ∷ says (codes "Z2,10050,4") (codes "OK")
    ∷ says (codes "vCont;c:p1.-1") (codes "T05thread:p1.1;watch:10050;")
    ∷ looks 0 (codes "round 3 move 2, serial phase") ∷ says (codes "z2,10050,4") (codes "OK")
    ∷ says (codes "vCont;s:p1.1") (codes "T05thread:p1.1;")
    ∷ says (codes "m10050,4") (codes "31000000") ∷ says (codes "Z2,10050,4") (codes "OK")
    ∷ says_more (codes "vCont;c:p1.-1") (codes "\"1\"" ∷ codes "\"1\""
    ∷ codes "T05thread:p1.2;replaylog:end;" ∷ [])
    ∷ looks 0 (codes "round 4 move 13, serial phase")
    ∷ says (codes "bc") (codes "T05thread:p1.1;watch:10050;")
    ∷ looks 0 (codes "round 3 move 3, serial phase") ∷ says (codes "z2,10050,4") (codes "OK")
    ∷ says (codes "Hcp1.2") (codes "OK") ∷ says (codes "bs") (codes "T05thread:p1.2;")
    ∷ says (codes "m10050,4") (codes "30000000") ∷ [])
unfolding computing number_digits digits
who_wrote_it_last = refl

-- A breakpoint at the store, in the serial phase: each thread comes to it.
who_comes_to_the_store : Runs
    (races)
    (says (codes "QStartNoAckMode") (codes "OK") ∷ says (codes "Z0,1002c,4") (codes "OK")
    ∷ says (codes "vCont;c") (codes "T05thread:p1.1;swbreak:;")
    ∷ looks 0 (codes "round 3 move 2, serial phase")
    ∷ says (codes "vCont;c") (codes "T05thread:p1.2;swbreak:;")
    ∷ looks 0 (codes "round 3 move 4, serial phase")
    ∷ says_more (codes "vCont;c") (codes "\"1\"" ∷ codes "\"1\""
    ∷ codes "T05thread:p1.2;replaylog:end;" ∷ [])
    ∷ says (codes "bc") (codes "T05thread:p1.2;swbreak:;")
    ∷ looks 0 (codes "round 3 move 4, serial phase") ∷ [])
unfolding computing number_digits digits
who_comes_to_the_store = refl

-- A breakpoint at the addition, in the parallel phase: the mover isn't always who stands in front.
who_comes_to_the_addition : Runs
    (races)
    (says (codes "QStartNoAckMode") (codes "OK") ∷ says (codes "Z0,10028,4") (codes "OK")
    ∷ says (codes "vCont;c") (codes "T05thread:p1.1;swbreak:;")
    ∷ looks 0 (codes "round 3 move 0, parallel phase")
    ∷ says (codes "vCont;c") (codes "T05thread:p1.2;swbreak:;")
    ∷ looks 0 (codes "round 3 move 1, parallel phase")
    ∷ says_more (codes "vCont;c") (codes "\"1\"" ∷ codes "\"1\""
    ∷ codes "T05thread:p1.2;replaylog:end;" ∷ [])
    ∷ says (codes "bc") (codes "T05thread:p1.2;swbreak:;")
    ∷ says (codes "bc") (codes "T05thread:p1.1;swbreak:;") ∷ [])
unfolding computing number_digits digits
who_comes_to_the_addition = refl

-- Thread 1, which isn't resumed, changes what is watched: the hit is told behind its move, to
-- thread 2, whose next step is owed and makes no move.
a_hit_by_another_thread : Runs races
    (says (codes "Z2,10050,4") (codes "OK")
    ∷ says (codes "vCont;c:p1.2") (codes "T05thread:p1.2;watch:10050;")
    ∷ looks 0 (codes "round 3 move 3, serial phase")
    ∷ says (codes "vCont;s:p1.2") (codes "T05thread:p1.2;")
    ∷ looks 0 (codes "round 3 move 3, serial phase")
    ∷ says (codes "vCont;s:p1.2") (codes "T05thread:p1.2;")
    ∷ looks 0 (codes "round 3 move 5, serial phase") ∷ [])
unfolding computing number_digits digits
a_hit_by_another_thread = refl

-- Each load is a read, of either thread; a load and a store are accesses.
who_reads_it : Runs races
    (says (codes "Z3,10050,4") (codes "OK")
    ∷ says (codes "vCont;c") (codes "T05thread:p1.1;rwatch:10050;")
    ∷ looks 0 (codes "round 2 move 1, parallel phase")
    ∷ says (codes "z3,10050,4") (codes "OK")
    ∷ says (codes "vCont;s:p1.1") (codes "T05thread:p1.1;")
    ∷ says (codes "Z4,10050,4") (codes "OK")
    ∷ says (codes "vCont;c") (codes "T05thread:p1.2;awatch:10050;")
    ∷ looks 0 (codes "round 2 move 5, serial phase") ∷ [])
unfolding computing number_digits digits
who_reads_it = refl
