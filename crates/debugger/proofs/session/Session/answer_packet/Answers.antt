use Rattle.std.proofs.Common.{codes}
use Rattle.std.proofs.lemmas.Result.{on_ok_weaker}
use Rattle.debug_connection.specs.Keeping.{texts_of}
use Rattle.debug_session.specs.Answers.{answered_packet, current_world, one_register_told}
use Rattle.debug_session.specs.Answers.{stretch_told}
use Rattle.debug_session.specs.Description.{description_text}
use Rattle.debug_session.specs.Files.{exec_file_told, file_opened, file_piece_told}
use Rattle.debug_session.specs.Files.{file_status_told}
use Rattle.debug_session.specs.Lists.{listed_pairs, part_told, threads_text}
use Rattle.debugger.proofs.Telling.{answers_at, says_answers, text_answers}
use Rattle.debugger.proofs.session.Session.answer_packet.Goals as goal

pub returns-in-Alone : goal.returns-in-Alone
returns-in-Alone c =
    on_ok_weaker c.answer_plain.result
    (λ answers.
    answers_at c.args.self.now c.answer_plain.new.self (texts_of c.args.replies.now.items)
    (texts_of c.answer_plain.new.replies.items)
    (λ x s. answered_packet s c.args.text.now x) c.in-Alone.is
    answers)
    c.answer_plain.ensures

pub returns-in-Attached : goal.returns-in-Attached
returns-in-Attached c =
    on_ok_weaker c.say.result
    (λ answers.
    answers_at c.args.self.now c.args.self.now (texts_of c.args.replies.now.items)
    (texts_of c.say.new.replies.items)
    (λ x s. answered_packet s c.args.text.now x) c.in-Attached.is
    (text_answers c.args.self.now _ _ (codes "1") answers))
    c.say.ensures

pub returns-in-Alive : goal.returns-in-Alive
returns-in-Alive c =
    on_ok_weaker c.mean.result
    (λ answers.
    answers_at c.args.self.now c.mean.new.self (texts_of c.args.replies.now.items)
    (texts_of c.mean.new.replies.items)
    (λ x s. answered_packet s c.args.text.now x) c.in-Alive.is
    answers)
    c.mean.ensures

pub returns-in-GeneralThread : goal.returns-in-GeneralThread
returns-in-GeneralThread c =
    on_ok_weaker c.name_current.result
    (λ answers.
    answers_at c.args.self.now c.name_current.new.self (texts_of c.args.replies.now.items)
    (texts_of c.name_current.new.replies.items)
    (λ x s. answered_packet s c.args.text.now x) c.in-GeneralThread.is
    answers)
    c.name_current.ensures

pub returns-in-Register : goal.returns-in-Register
returns-in-Register c =
    on_ok_weaker c.say_register.result
    (λ answers.
    answers_at c.args.self.now c.args.self.now (texts_of c.args.replies.now.items)
    (texts_of c.say_register.new.replies.items)
    (λ x s. answered_packet s c.args.text.now x) c.in-Register.is
    (says_answers c.args.self.now _ _ (λ s. one_register_told s c.in-Register.number) answers))
    c.say_register.ensures

pub returns-in-Memory : goal.returns-in-Memory
returns-in-Memory c =
    on_ok_weaker c.say_memory.result
    (λ answers.
    answers_at c.args.self.now c.args.self.now (texts_of c.args.replies.now.items)
    (texts_of c.say_memory.new.replies.items)
    (λ x s. answered_packet s c.args.text.now x) c.in-Memory.is
    (says_answers c.args.self.now _ _ (λ s. stretch_told s c.in-Memory.part) answers))
    c.say_memory.ensures

pub returns-in-Write : goal.returns-in-Write
returns-in-Write c =
    on_ok_weaker c.say-in-Write.result
    (λ answers.
    answers_at c.args.self.now c.args.self.now (texts_of c.args.replies.now.items)
    (texts_of c.say-in-Write.new.replies.items)
    (λ x s. answered_packet s c.args.text.now x) c.in-Write.is
    (text_answers c.args.self.now _ _
    (codes "E.nothing in a recorded run can be changed") answers))
    c.say-in-Write.ensures

pub returns-in-ResumeForms : goal.returns-in-ResumeForms
returns-in-ResumeForms c =
    on_ok_weaker c.say-in-ResumeForms.result
    (λ answers.
    answers_at c.args.self.now c.args.self.now (texts_of c.args.replies.now.items)
    (texts_of c.say-in-ResumeForms.new.replies.items)
    (λ x s. answered_packet s c.args.text.now x) c.in-ResumeForms.is
    (text_answers c.args.self.now _ _ (codes "vCont;c;C;s;S;r") answers))
    c.say-in-ResumeForms.ensures

pub returns-in-Resume : goal.returns-in-Resume
returns-in-Resume c =
    on_ok_weaker c.resume_text.result
    (λ answers.
    answers_at c.args.self.now c.resume_text.new.self (texts_of c.args.replies.now.items)
    (texts_of c.resume_text.new.replies.items)
    (λ x s. answered_packet s c.args.text.now x) c.in-Resume.is
    answers)
    c.resume_text.ensures

pub returns-in-Description : goal.returns-in-Description
returns-in-Description c =
    on_ok_weaker c.say_description.result
    (λ answers.
    answers_at c.args.self.now c.args.self.now (texts_of c.args.replies.now.items)
    (texts_of c.say_description.new.replies.items)
    (λ x s. answered_packet s c.args.text.now x) c.in-Description.is
    (says_answers c.args.self.now _ _
    (λ s. part_told description_text c.in-Description.part) answers))
    c.say_description.ensures

pub returns-in-SetFileSystem : goal.returns-in-SetFileSystem
returns-in-SetFileSystem c =
    on_ok_weaker c.say-in-SetFileSystem.result
    (λ answers.
    answers_at c.args.self.now c.args.self.now (texts_of c.args.replies.now.items)
    (texts_of c.say-in-SetFileSystem.new.replies.items)
    (λ x s. answered_packet s c.args.text.now x) c.in-SetFileSystem.is
    (text_answers c.args.self.now _ _ (codes "F0") answers))
    c.say-in-SetFileSystem.ensures

pub returns-in-CloseFile : goal.returns-in-CloseFile
returns-in-CloseFile c =
    on_ok_weaker c.say-in-CloseFile.result
    (λ answers.
    answers_at c.args.self.now c.args.self.now (texts_of c.args.replies.now.items)
    (texts_of c.say-in-CloseFile.new.replies.items)
    (λ x s. answered_packet s c.args.text.now x) c.in-CloseFile.is
    (text_answers c.args.self.now _ _ (codes "F0") answers))
    c.say-in-CloseFile.ensures

pub returns-in-Threads : goal.returns-in-Threads
returns-in-Threads c =
    on_ok_weaker c.say_thread_list.result
    (λ answers.
    answers_at c.args.self.now c.args.self.now (texts_of c.args.replies.now.items)
    (texts_of c.say_thread_list.new.replies.items)
    (λ x s. answered_packet s c.args.text.now x) c.in-Threads.is
    (says_answers c.args.self.now _ _
    (λ s. part_told (threads_text (current_world s) (listed_pairs s)) c.in-Threads.part)
    answers))
    c.say_thread_list.ensures

pub returns-in-Monitor : goal.returns-in-Monitor
returns-in-Monitor c =
    on_ok_weaker c.answer_command.result
    (λ answers.
    answers_at c.args.self.now c.answer_command.new.self (texts_of c.args.replies.now.items)
    (texts_of c.answer_command.new.replies.items)
    (λ x s. answered_packet s c.args.text.now x) c.in-Monitor.is
    answers)
    c.answer_command.ensures

pub returns-in-Malformed : goal.returns-in-Malformed
returns-in-Malformed c =
    on_ok_weaker c.say-in-Malformed.result
    (λ answers.
    answers_at c.args.self.now c.args.self.now (texts_of c.args.replies.now.items)
    (texts_of c.say-in-Malformed.new.replies.items)
    (λ x s. answered_packet s c.args.text.now x) c.in-Malformed.is
    (text_answers c.args.self.now _ _ (codes "E01") answers))
    c.say-in-Malformed.ensures

pub returns-in-Unknown : goal.returns-in-Unknown
returns-in-Unknown c =
    on_ok_weaker c.say-in-Unknown.result
    (λ answers.
    answers_at c.args.self.now c.args.self.now (texts_of c.args.replies.now.items)
    (texts_of c.say-in-Unknown.new.replies.items)
    (λ x s. answered_packet s c.args.text.now x) c.in-Unknown.is
    (text_answers c.args.self.now _ _ (codes "") answers))
    c.say-in-Unknown.ensures

pub returns-in-ExecFile : goal.returns-in-ExecFile
returns-in-ExecFile c =
    on_ok_weaker c.say_name.result
    (λ answers.
    answers_at c.args.self.now c.args.self.now (texts_of c.args.replies.now.items)
    (texts_of c.say_name.new.replies.items)
    (λ x s. answered_packet s c.args.text.now x) c.in-ExecFile.is
    (says_answers c.args.self.now _ _
    (λ s. exec_file_told s c.in-ExecFile.process c.in-ExecFile.part) answers))
    c.say_name.ensures

pub returns-in-OpenFile : goal.returns-in-OpenFile
returns-in-OpenFile c =
    on_ok_weaker c.open_file.result
    (λ answers.
    answers_at c.args.self.now c.args.self.now (texts_of c.args.replies.now.items)
    (texts_of c.open_file.new.replies.items)
    (λ x s. answered_packet s c.args.text.now x) c.in-OpenFile.is
    (says_answers c.args.self.now _ _ (λ s. file_opened s c.args.text.now) answers))
    c.open_file.ensures

pub returns-in-FileStatus : goal.returns-in-FileStatus
returns-in-FileStatus c =
    on_ok_weaker c.say_file_status.result
    (λ answers.
    answers_at c.args.self.now c.args.self.now (texts_of c.args.replies.now.items)
    (texts_of c.say_file_status.new.replies.items)
    (λ x s. answered_packet s c.args.text.now x) c.in-FileStatus.is
    (says_answers c.args.self.now _ _ (λ s. file_status_told s c.in-FileStatus.file) answers))
    c.say_file_status.ensures

pub returns-in-ReadFile : goal.returns-in-ReadFile
returns-in-ReadFile c =
    on_ok_weaker c.say_file_piece.result
    (λ answers.
    answers_at c.args.self.now c.args.self.now (texts_of c.args.replies.now.items)
    (texts_of c.say_file_piece.new.replies.items)
    (λ x s. answered_packet s c.args.text.now x) c.in-ReadFile.is
    (says_answers c.args.self.now _ _
    (λ s. file_piece_told s c.in-ReadFile.file c.in-ReadFile.part) answers))
    c.say_file_piece.ensures

pub returns-in-Supported : goal.returns-in-Supported
returns-in-Supported c =
    on_ok_weaker c.tell_forks.result
    (λ answers.
    answers_at c.args.self.now c.tell_forks.new.self (texts_of c.args.replies.now.items)
    (texts_of c.tell_forks.new.replies.items)
    (λ x s. answered_packet s c.args.text.now x) c.in-Supported.is
    answers)
    c.tell_forks.ensures

pub returns-in-ResumedThread : goal.returns-in-ResumedThread
returns-in-ResumedThread c =
    on_ok_weaker c.name_resumed.result
    (λ answers.
    answers_at c.args.self.now c.name_resumed.new.self (texts_of c.args.replies.now.items)
    (texts_of c.name_resumed.new.replies.items)
    (λ x s. answered_packet s c.args.text.now x) c.in-ResumedThread.is
    answers)
    c.name_resumed.ensures

pub returns-in-Insert : goal.returns-in-Insert
returns-in-Insert c =
    on_ok_weaker c.insert.result
    (λ answers.
    answers_at c.args.self.now c.insert.new.self (texts_of c.args.replies.now.items)
    (texts_of c.insert.new.replies.items)
    (λ x s. answered_packet s c.args.text.now x) c.in-Insert.is
    answers)
    c.insert.ensures

pub returns-in-Remove : goal.returns-in-Remove
returns-in-Remove c =
    on_ok_weaker c.remove.result
    (λ answers.
    answers_at c.args.self.now c.remove.new.self (texts_of c.args.replies.now.items)
    (texts_of c.remove.new.replies.items)
    (λ x s. answered_packet s c.args.text.now x) c.in-Remove.is
    answers)
    c.remove.ensures

pub returns-in-Detach : goal.returns-in-Detach
returns-in-Detach c =
    on_ok_weaker c.let_go.result
    (λ answers.
    answers_at c.args.self.now c.let_go.new.self (texts_of c.args.replies.now.items)
    (texts_of c.let_go.new.replies.items)
    (λ x s. answered_packet s c.args.text.now x) c.in-Detach.is
    answers)
    c.let_go.ensures

pub returns-in-KillProcess : goal.returns-in-KillProcess
returns-in-KillProcess c =
    on_ok_weaker c.let_go-in-KillProcess.result
    (λ answers.
    answers_at c.args.self.now c.let_go-in-KillProcess.new.self (texts_of c.args.replies.now.items)
    (texts_of c.let_go-in-KillProcess.new.replies.items)
    (λ x s. answered_packet s c.args.text.now x) c.in-KillProcess.is
    answers)
    c.let_go-in-KillProcess.ensures
