-- Sessions over several processes, computed by the checker. What is heard was worked out by hand.
use Rattle.std.specs.Prelude.{[], ◌∷◌, ◌++◌, refl, codes, replicate}
use Rattle.std.specs.Fmt.{digits}
use Rattle.dos_world.specs.Play.{posts}
use Rattle.flat_machine.specs.Computing.{computing}
use Rattle.gdb_packets.specs.Hexadecimal.{number_digits}
use Rattle.debug_session.specs.Sessions.{Session}
use Rattle.debug_session.proofs.Conversations.{Runs, program, with_frames, session_of}
use Rattle.debug_session.proofs.Conversations.{session_of_two}
use Rattle.debug_session.proofs.Conversations.{says, says_more, looks, asks_for, exits_with_7}
use Rattle.debug_session.proofs.Conversations.{told_forks}

-- fork; the parent waits and exits with the child's status, the child exits with 5
abbrev forks : Session
forks = session_of 40 (program
    (0x00400893 ∷ 0x00000073 ∷ 0x00050E63 ∷ 0x00500893 ∷ 0x00000513 ∷ 0x00000073
    ∷ 0x00058513 ∷ 0x00200893 ∷ 0x00000073 ∷ 0x00500513 ∷ 0x00200893 ∷ 0x00000073 ∷ []) ∷ [])
    (with_frames 34) (posts [] ∷ posts [] ∷ posts [] ∷ [])

-- The child is told of, and stays listed where it has ended.
a_fork_is_told : Runs
    (told_forks forks)
    (says (codes "QStartNoAckMode") (codes "OK")
    ∷ says (codes "vCont;c:p1.-1") (codes "T05thread:p1.1;fork:p2.2;")
    ∷ says (codes "qfThreadInfo") (codes "mp1.1,p2.2") ∷ says (codes "Hgp2.0") (codes "OK")
    ∷ says (codes "Z0,10024,4") (codes "OK")
    ∷ says (codes "vCont;c") (codes "T05thread:p2.2;swbreak:;")
    ∷ looks 0 (codes "round 2 move 1, parallel phase") ∷ says (codes "p20") (codes "24000100")
    ∷ says (codes "vCont;c") (codes "T05thread:p1.1;replaylog:end;")
    ∷ looks 0 (codes "round 3 move 3, serial phase")
    ∷ says (codes "qXfer:threads:read::0,400") (codes "l<threads>"
    ++ codes "<thread id=\"p1.1\">ready, 997 left</thread>"
    ++ codes "<thread id=\"p2.2\">ended, status 5</thread></threads>")
    ∷ says (codes "bc") (codes "T05thread:p2.2;swbreak:;")
    ∷ says (codes "bc") (codes "T05thread:p1.1;replaylog:begin;") ∷ [])
unfolding computing number_digits digits
a_fork_is_told = refl

-- A child has its parent's image, and frames of its own.
a_child_has_its_parents_image : Runs
    (told_forks forks)
    (says (codes "qXfer:exec-file:read:2:0,100") (codes "E01")
    ∷ says (codes "vCont;c:p1.-1") (codes "T05thread:p1.1;fork:p2.2;")
    ∷ asks_for (codes "processes")
    (codes "process 1 live, parent 0, image a" ∷ codes "process 2 live, parent 1, image a" ∷ [])
    ∷ says (codes "qXfer:exec-file:read:2:0,100") (codes "l/a")
    ∷ asks_for (codes "page 10024 2")
    (codes "page 00010000 of process 2: frame 17, owner thread 2, rights rwx, private" ∷ []) ∷ [])
unfolding computing number_digits digits
a_child_has_its_parents_image = refl

-- The status of a child that has ended is told.
a_status_is_told : Runs
    (forks)
    (says (codes "vCont;c:p1.-1") (codes "T05thread:p1.1;replaylog:end;")
    ∷ asks_for (codes "processes")
    (codes "process 1 live, parent 0, image a" ∷ codes "process 2 status 5" ∷ []) ∷ [])
unfolding computing number_digits digits
a_status_is_told = refl

-- A child that is let go isn't shown any more.
a_child_is_let_go : Runs
    (told_forks forks)
    (says (codes "QStartNoAckMode") (codes "OK")
    ∷ says (codes "vCont;c:p1.-1") (codes "T05thread:p1.1;fork:p2.2;")
    ∷ says (codes "D;2") (codes "OK") ∷ says (codes "qfThreadInfo") (codes "mp1.1")
    ∷ says (codes "vCont;c:p1.-1") (codes "T05thread:p1.1;replaylog:end;") ∷ [])
unfolding computing number_digits digits
a_child_is_let_go = refl

-- To a client that isn't told of forks none is told.
forks_are_not_asked_for : Runs
    (forks)
    (says (codes "QStartNoAckMode") (codes "OK")
    ∷ says (codes "vCont;c:p1.-1") (codes "T05thread:p1.1;replaylog:end;") ∷ [])
unfolding computing number_digits digits
forks_are_not_asked_for = refl

-- Two images are two processes, of which the first ends first.
two_processes : Runs
    (told_forks (session_of_two exits_with_7 (program
    (0x00800893 ∷ 0x00100513 ∷ 0x00000597 ∷ 0x01C58593 ∷ 0x00300613 ∷ 0x00000073
    ∷ 0x00200893 ∷ 0x00000513 ∷ 0x00000073 ∷ 0x000A6948 ∷ []))))
    (says (codes "QStartNoAckMode") (codes "OK")
    ∷ says (codes "qfThreadInfo") (codes "mp1.1,p2.2")
    ∷ says (codes "vCont;c:p1.-1") (codes "T05thread:p1.1;replaylog:end;")
    ∷ says_more (codes "vCont;c") (codes "\"Hi\n\"" ∷ codes "T05thread:p2.2;replaylog:end;" ∷ [])
    ∷ says (codes "Hgp1.1") (codes "OK") ∷ says (codes "g") (replicate 264 120)
    ∷ says (codes "m10000,4") (codes "E0e") ∷ says (codes "D;1") (codes "OK")
    ∷ says (codes "qfThreadInfo") (codes "mp2.2") ∷ [])
unfolding computing number_digits digits
two_processes = refl
