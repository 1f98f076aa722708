-- Sessions over one thread, computed by the checker. What is heard was worked out by hand.
use Rattle.std.specs.Prelude.{[], ◌∷◌, ◌++◌, refl, codes}
use Rattle.std.specs.Fmt.{digits}
use Rattle.dos_world.specs.Play.{posts, input}
use Rattle.flat_machine.specs.Computing.{computing}
use Rattle.gdb_packets.specs.Hexadecimal.{number_digits}
use Rattle.debug_session.proofs.Conversations.{Runs, program, with_frames, session_of}
use Rattle.debug_session.proofs.Conversations.{says, says_more, monitors, looks, exits_with_7}

-- process_exit with 7
a_process_exits : Runs
    (session_of 9 (exits_with_7 ∷ []) (with_frames 17) (posts [] ∷ []))
    (says (codes "QStartNoAckMode") (codes "OK") ∷ says (codes "?") (codes "T05thread:p1.1;")
    ∷ says (codes "p2") (codes "f0ffffef")
    ∷ says (codes "vCont;s:p1.1") (codes "T05thread:p1.1;")
    ∷ says (codes "p20") (codes "04000100")
    ∷ says (codes "vCont;s:p1.1") (codes "T05thread:p1.1;")
    ∷ says (codes "pa") (codes "07000000")
    ∷ says (codes "vCont;s:p1.1") (codes "T05thread:p1.1;replaylog:end;")
    ∷ says (codes "p20") (codes "08000100") ∷ says (codes "bs") (codes "T05thread:p1.1;")
    ∷ says (codes "p20") (codes "04000100") ∷ says (codes "bs") (codes "T05thread:p1.1;")
    ∷ says (codes "bs") (codes "T05thread:p1.1;replaylog:begin;")
    ∷ says (codes "bc") (codes "T05thread:p1.1;replaylog:begin;")
    ∷ says (codes "c") (codes "T05thread:p1.1;replaylog:end;")
    ∷ says (codes "m10000,c") (codes "930820001305700073000000")
    ∷ says (codes "m10ffe,8") (codes "0000") ∷ says (codes "mfffc,8") (codes "E0e")
    ∷ says (codes "M10000,1:00") (codes "E.nothing in a recorded run can be changed")
    ∷ says (codes "zz") []
    ∷ says (codes "qXfer:threads:read::0,1000") (codes "l<threads>"
    ++ codes "<thread id=\"p1.1\">ready, 998 left</thread></threads>")
    ∷ looks 0 (codes "round 1 move 2, serial phase") ∷ [])
unfolding computing number_digits digits
a_process_exits = refl

-- a store to no page: the fault is told before it ends the process
a_store_hits_no_page : Runs
    (session_of 9 (program (0x00002023 ∷ []) ∷ []) (with_frames 17) (posts [] ∷ []))
    (says (codes "QStartNoAckMode") (codes "OK") ∷ says (codes "c") (codes "T0bthread:p1.1;")
    ∷ looks 2 (codes "next: thread 1 faults with 11")
    ∷ says (codes "c") (codes "T05thread:p1.1;replaylog:end;")
    ∷ looks 2 (codes "next: thread 1 faults with 11") ∷ [])
unfolding computing number_digits digits
a_store_hits_no_page = refl

-- futex_wait on a word that is as expected: the group stalls
nobody_is_ready : Runs
    (session_of 20 (program (0x00B00893 ∷ 0x00000517 ∷ 0x00052583 ∷ 0x00000073 ∷ 0x00200893
    ∷ 0x00000073 ∷ []) ∷ []) (with_frames 17) (posts [] ∷ posts [] ∷ []))
    (says (codes "QStartNoAckMode") (codes "OK")
    ∷ says (codes "c") (codes "T05thread:p1.1;replaylog:end;")
    ∷ looks 0 (codes "round 2 move 0, between rounds")
    ∷ looks 2 (codes "next: none, the group is stalled")
    ∷ says (codes "bs") (codes "T05thread:p1.1;")
    ∷ looks 0 (codes "round 1 move 3, serial phase")
    ∷ monitors (codes "sleepers") ((codes "\"nobody sleeps" ++ 10 ∷ codes "\"") ∷ codes "OK" ∷ [])
    ∷ says (codes "vCont;s:p1.1") (codes "T05thread:p1.1;")
    ∷ monitors (codes "sleepers")
    ((codes "\"thread 1 sleeps at frame 0 offset 4" ++ 10 ∷ codes "\"") ∷ codes "OK" ∷ [])
    ∷ monitors (codes "pipes") ((codes "\"no pipe is open" ++ 10 ∷ codes "\"") ∷ codes "OK" ∷ [])
    ∷ monitors (codes "threads")
    ((codes "\"thread 1 of process 1: sleeps at 00010004, frame 0 offset 4" ++ 10 ∷ codes "\"")
    ∷ codes "OK" ∷ []) ∷ [])
unfolding computing number_digits digits
nobody_is_ready = refl

-- reads of at most 64 bytes at sp - 64 and writes of what came, until nothing comes: a service
-- changes watched bytes; then a person goes to a moment
input_is_copied : Runs
    (session_of 40 (program (0x00700893 ∷ 0x00000513 ∷ 0xFC010593 ∷ 0x04000613 ∷ 0x00000073
    ∷ 0x00050C63 ∷ 0x00050613 ∷ 0x00800893 ∷ 0x00100513 ∷ 0x00000073 ∷ 0xFD9FF06F ∷ 0x00200893
    ∷ 0x00000073 ∷ []) ∷ []) (with_frames 17) (posts [] ∷ input (codes "0123456789") ∷ input []
    ∷ []))
    (says (codes "QStartNoAckMode") (codes "OK") ∷ says (codes "Z2,efffffb0,4") (codes "OK")
    ∷ says (codes "vCont;c:p1.-1") (codes "T05thread:p1.1;watch:efffffb0;")
    ∷ says (codes "z2,efffffb0,4") (codes "OK")
    ∷ says (codes "vCont;s:p1.1") (codes "T05thread:p1.1;")
    ∷ says (codes "mefffffb0,a") (codes "30313233343536373839")
    ∷ says (codes "Z2,efffffb0,4") (codes "OK")
    ∷ says_more (codes "vCont;c:p1.-1") (codes "\"0123456789\""
    ∷ codes "T05thread:p1.1;replaylog:end;" ∷ [])
    ∷ looks 0 (codes "round 1 move 18, serial phase")
    ∷ says (codes "bc") (codes "T05thread:p1.1;watch:efffffb0;")
    ∷ looks 0 (codes "round 1 move 5, serial phase")
    ∷ monitors (codes "goto 1 2") ((codes "\"the next continue goes to round 1 move 2" ++ 10
    ∷ codes "\"") ∷ codes "OK" ∷ [])
    ∷ says (codes "vCont;c") (codes "T02thread:p1.1;")
    ∷ looks 0 (codes "round 1 move 2, parallel phase") ∷ [])
unfolding computing number_digits digits
input_is_copied = refl

-- what the server can, and the first and last part of what its registers are
the_server_is_described : Runs
    (session_of 0 (exits_with_7 ∷ []) (with_frames 17) [])
    (says (codes "qSupported:multiprocess+;fork-events+")
    (codes "PacketSize=4000;QStartNoAckMode+;multiprocess+;swbreak+;ReverseStep+;"
    ++ codes "ReverseContinue+;vContSupported+;qXfer:features:read+;qXfer:exec-file:read+;"
    ++ codes "qXfer:threads:read+;fork-events+")
    ∷ says (codes "Hgp0.0") (codes "OK") ∷ says (codes "qC") (codes "QCp1.1")
    ∷ says (codes "qXfer:features:read:target.xml:0,20")
    (codes "m<target><architecture>riscv:rv32")
    ∷ says (codes "qXfer:features:read:target.xml:40d,100")
    (codes "lreg name=\"pc\" bitsize=\"32\"/></feature></target>")
    ∷ says (codes "qfThreadInfo") (codes "mp1.1") ∷ says (codes "qsThreadInfo") (codes "l")
    ∷ says (codes "vCont?") (codes "vCont;c;C;s;S;r") ∷ says (codes "Tp1.2") (codes "E01")
    ∷ says (codes "p21") (codes "E01") ∷ [])
unfolding computing number_digits digits
the_server_is_described = refl
