-- What a session answers to a packet, by its bytes. GDB remote protocol, gdb's manual, appendix E;
-- which packets are answered is this project's own rule.
use Rattle.std.specs.Prelude.{ℕ, ◌==◌, Bool, not, List, [], ◌∷◌, ◌++◌, map, filter, drop}
use Rattle.std.specs.Prelude.{Option, Some, None, codes, unwrap_or, if◌then◌else◌}
use Rattle.dos_world.specs.World.{World, thread_at}
use Rattle.gdb_packets.specs.Packets.{packet_from}
use Rattle.gdb_packets.specs.Resumptions.{resumptions_from}
use Rattle.gdb_packets.specs.declared.openings.Plain.{Plain}
use Rattle.gdb_packets.specs.declared.openings.Plain.TheVariants as plain
use Rattle.gdb_packets.specs.declared.commands.Command.{Command}
use Rattle.gdb_packets.specs.declared.commands.Command.TheVariants as command
use Rattle.gdb_packets.specs.declared.resumptions.Resumption.{Resumption}
use Rattle.gdb_packets.specs.declared.packets.Stretch.{Stretch}
use Rattle.gdb_packets.specs.declared.packets.Packet.{Packet}
use Rattle.gdb_packets.specs.declared.packets.Packet.TheVariants.{Alone, Supported, Attached, Alive}
use Rattle.gdb_packets.specs.declared.packets.Packet.TheVariants.{GeneralThread, ResumedThread}
use Rattle.gdb_packets.specs.declared.packets.Packet.TheVariants.{Register, Memory, Write, Insert}
use Rattle.gdb_packets.specs.declared.packets.Packet.TheVariants.{Remove, ResumeForms, Resume}
use Rattle.gdb_packets.specs.declared.packets.Packet.TheVariants.{Detach, KillProcess, Threads}
use Rattle.gdb_packets.specs.declared.packets.Packet.TheVariants.{Monitor, Malformed, Unknown}
use Rattle.gdb_packets.specs.declared.packets.Packet.TheVariants.{Description, SetFileSystem}
use Rattle.gdb_packets.specs.declared.packets.Packet.TheVariants.{CloseFile, OpenFile, FileStatus}
use Rattle.gdb_packets.specs.declared.packets.Packet.TheVariants.{ReadFile, ExecFile}
use Rattle.debug_session.specs.Description.{description_text}
use Rattle.debug_session.specs.Actions.{thread_named}
use Rattle.debug_session.specs.Stops.{stop_text, pair_text, trap_signal}
use Rattle.debug_session.specs.Sessions.{Session, is_among, listed}
use Rattle.debug_session.specs.Told.{registers_told, register_told, memory_told}
use Rattle.debug_session.specs.Lists.{threads_told, threads_text, listed_pairs, part_told}
use Rattle.debug_session.specs.Where.{where_lines, goal_line, goal_form, console_line}
use Rattle.debug_session.specs.Goals.{rewound}
use Rattle.debug_session.specs.Halts.{puts_from}
use Rattle.debug_session.specs.Tables.{thread_lines, pipe_lines, end_lines, sleeper_lines}
use Rattle.debug_session.specs.Pages.{process_rows, page_lines, page_form, pages_lines}
use Rattle.debug_session.specs.Files.{exec_file_told, file_opened, file_status_told}
use Rattle.debug_session.specs.Files.{file_piece_told}
use Rattle.debug_session.specs.Current.{named_current}
use Rattle.debug_session.specs.Setting.{inserts, removes}
use Rattle.debug_session.specs.Resuming.{packet, console, Answered, replies_one, resumes}
use Rattle.debug_session.specs.Resuming.{continue_actions, step_actions, continues_back, steps_back}
use Rattle.debug_session.specs.declared.stops.Cause.TheVariants.{Plainly}

-- ---- the current thread

abbrev pub current_told : Session → List ℕ
current_told s =
    stop_text (record { signal = trap_signal; whose = (s.process, s.thread); cause = Plainly })

abbrev pub current_world : Session → World
current_world s = s.position.moment.world

abbrev pub is_current_listed : Session → Bool
is_current_listed s = is_among s.thread (listed s)

-- `g`
abbrev pub all_registers_told : Session → List ℕ
all_registers_told s =
    registers_told (is_current_listed s) (thread_at (current_world s) s.thread)

-- `p`
abbrev pub one_register_told : Session → ℕ → List ℕ
one_register_told s n =
    register_told (is_current_listed s) (thread_at (current_world s) s.thread) n

-- `m`
abbrev pub stretch_told : Session → Stretch → List ℕ
stretch_told s part = memory_told (current_world s) s.process part.length part.from

-- `T`: a listed thread is meant from now on.
abbrev pub means : Session → Option ℕ → Answered
means s None = replies_one s (codes "E01")
means s (Some t) =
    if is_among t (listed s) then replies_one (record s { meant = t }) (codes "OK")
    else replies_one s (codes "E01")

-- ---- processes that are let go

abbrev pub process_let_go : Session → Option ℕ → Session
process_let_go s None = s
process_let_go s (Some p) =
    record s { told = filter (λ k. not (k == p)) s.told; let_go = p ∷ s.let_go }

-- ---- what the server can

abbrev pub features_text : Bool → List ℕ
features_text is_told_forks =
    codes "PacketSize=4000;QStartNoAckMode+;multiprocess+;swbreak+;ReverseStep+;"
    ++ codes "ReverseContinue+;vContSupported+;qXfer:features:read+;qXfer:exec-file:read+;"
    ++ codes "qXfer:threads:read+"
    ++ (if is_told_forks then codes ";fork-events+" else [])

-- ---- packets without anything behind their name

abbrev pub answered_plain : Session → Plain → Answered
answered_plain s plain.NoAcknowledgement = replies_one s (codes "OK")
answered_plain s plain.StopReason = replies_one s (current_told s)
answered_plain s plain.CurrentThread =
    replies_one s (codes "QC" ++ pair_text (s.process, s.thread))
answered_plain s plain.FirstThreads = replies_one s (threads_told s)
answered_plain s plain.NextThreads = replies_one s (codes "l")
answered_plain s plain.Registers = replies_one s (all_registers_told s)
answered_plain s plain.Continue = resumes s (continue_actions s)
answered_plain s plain.Step = resumes s (step_actions s)
answered_plain s plain.BackContinue = continues_back s
answered_plain s plain.BackStep = steps_back s
answered_plain s plain.Kill = (s, [])

-- ---- what a person asks

-- what may be asked
abbrev pub command_forms : List ℕ
command_forms =
    codes "where, goto ROUND [MOVE], threads, processes, page ADDRESS [PROCESS], "
    ++ codes "pages [PROCESS], pipes, ends [PROCESS], sleepers, output"

abbrev pub prints : Session → List (List ℕ) → Answered
prints s lines = (s, map console lines ++ packet (codes "OK") ∷ [])

abbrev pub answered_command : Session → Command → Answered
answered_command s command.Where = prints s (where_lines s.recording s.position)
answered_command s (command.Goto round made) =
    prints (record s { goal = Some (round, made) }) (goal_line round made ∷ [])
answered_command s command.GotoForm = prints s (goal_form ∷ [])
answered_command s command.Threads = prints s (thread_lines (current_world s))
answered_command s command.Processes = prints s (process_rows s)
answered_command s (command.Page address p) = prints s (page_lines s address p)
answered_command s command.PageForm = prints s (page_form ∷ [])
answered_command s (command.Pages p) = prints s (pages_lines s p)
answered_command s command.Pipes = prints s (pipe_lines (current_world s))
answered_command s (command.Ends p) = prints s (end_lines s p)
answered_command s command.Sleepers = prints s (sleeper_lines (current_world s))
answered_command s command.Output =
    prints s (puts_from (rewound s.position) s.position)
answered_command s command.Other = prints s (console_line command_forms ∷ [])

-- ---- all of them

-- the actions that stand behind `vCont`
abbrev pub actions_in : List ℕ → List Resumption
actions_in text = unwrap_or (resumptions_from (drop 5 text)) []

-- by the packet and its text
abbrev pub answered_packet : Session → (text : List ℕ) → Packet → Answered
answered_packet s text (Alone name) = answered_plain s name
answered_packet s text (Supported forks) =
    replies_one (record s { is_told_forks = forks }) (features_text forks)
answered_packet s text (Attached process) = replies_one s (codes "1")
answered_packet s text (Alive id) = means s (thread_named id)
answered_packet s text (GeneralThread id) = replies_one (named_current s id) (codes "OK")
answered_packet s text (ResumedThread id) =
    replies_one (record s { resumed = id }) (codes "OK")
answered_packet s text (Register number) = replies_one s (one_register_told s number)
answered_packet s text (Memory part) = replies_one s (stretch_told s part)
answered_packet s text Write =
    replies_one s (codes "E.nothing in a recorded run can be changed")
answered_packet s text (Insert point) = inserts s point
answered_packet s text (Remove point) = removes s point
answered_packet s text ResumeForms = replies_one s (codes "vCont;c;C;s;S;r")
answered_packet s text Resume = resumes s (actions_in text)
answered_packet s text (Detach process) =
    replies_one (process_let_go s process) (codes "OK")
answered_packet s text (KillProcess process) =
    replies_one (process_let_go s (Some process)) (codes "OK")
answered_packet s text (Description part) =
    replies_one s (part_told description_text part)
answered_packet s text (SetFileSystem number) = replies_one s (codes "F0")
answered_packet s text (CloseFile number) = replies_one s (codes "F0")
answered_packet s text (Threads part) =
    replies_one s (part_told (threads_text (current_world s) (listed_pairs s)) part)
answered_packet s text (Monitor asked) = answered_command s asked
answered_packet s text Malformed = replies_one s (codes "E01")
answered_packet s text Unknown = replies_one s []
answered_packet s text (ExecFile process part) = replies_one s (exec_file_told s process part)
answered_packet s text OpenFile = replies_one s (file_opened s text)
answered_packet s text (FileStatus file) = replies_one s (file_status_told s file)
answered_packet s text (ReadFile file part) = replies_one s (file_piece_told s file part)

abbrev pub answer_to : Session → List ℕ → Answered
answer_to s text = answered_packet s text (packet_from text)
