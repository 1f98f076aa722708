use Rattle.kernel_calls.specs.declared.naming.QuietService.TheVariants.{ThreadExit, ProcessExit}
use Rattle.kernel_calls.specs.declared.naming.QuietService.TheVariants.{ThreadNew, Fork, Wait, Pipe}
use Rattle.kernel_calls.specs.declared.naming.QuietService.TheVariants.{Close, Dup, FutexWait}
use Rattle.kernel_calls.specs.declared.naming.QuietService.TheVariants.{FutexWake, MapPages, Unmap}
use Rattle.kernel_calls.specs.declared.naming.QuietService.TheVariants.{Share, SigHandler, SigMask}
use Rattle.kernel_calls.specs.declared.naming.QuietService.TheVariants.{SigReturn, Kill}
use Rattle.kernel_calls.specs.declared.naming.QuietService.TheVariants.{RoundNumber}
use Rattle.kernel_calls.specs.declared.state.Served.TheVariants.{Gone, Went}
use Rattle.kernel_calls.proofs.Rows.{goes_as}
use Rattle.kernel_calls.proofs.services.perform_quietly.Goals as goal

pub thread_exit-requires : goal.thread_exit-requires
thread_exit-requires c = record { sound = c.requires.sound; asked = c.requires.asked }

pub returns-in-ThreadExit : goal.returns-in-ThreadExit
returns-in-ThreadExit c = record {
  goes_on =
      goes_as c.args.service ThreadExit c.in-ThreadExit.is c.args.state.now c.args.asked.now Gone
      c.thread_exit.new.state c.thread_exit.ensures.goes_on;
  counted = c.thread_exit.ensures.counted;
  round = c.thread_exit.ensures.round;
}

pub process_exit-requires : goal.process_exit-requires
process_exit-requires c = record { sound = c.requires.sound; asked = c.requires.asked }

pub returns-in-ProcessExit : goal.returns-in-ProcessExit
returns-in-ProcessExit c = record {
  goes_on =
      goes_as c.args.service ProcessExit c.in-ProcessExit.is c.args.state.now c.args.asked.now Gone
      c.process_exit.new.state c.process_exit.ensures.goes_on;
  counted = c.process_exit.ensures.counted;
  round = c.process_exit.ensures.round;
}

pub thread_new-requires : goal.thread_new-requires
thread_new-requires c = record { sound = c.requires.sound; asked = c.requires.asked }

pub returns-in-ThreadNew : goal.returns-in-ThreadNew
returns-in-ThreadNew c = record {
  goes_on =
      goes_as c.args.service ThreadNew c.in-ThreadNew.is c.args.state.now c.args.asked.now Went
      c.thread_new.new.state c.thread_new.ensures.goes_on;
  counted = c.thread_new.ensures.counted;
  round = c.thread_new.ensures.round;
}

pub fork-requires : goal.fork-requires
fork-requires c = record { sound = c.requires.sound; asked = c.requires.asked }

pub returns-in-Fork : goal.returns-in-Fork
returns-in-Fork c = record {
  goes_on =
      goes_as c.args.service Fork c.in-Fork.is c.args.state.now c.args.asked.now Went
      c.fork.new.state c.fork.ensures.goes_on;
  counted = c.fork.ensures.counted;
  round = c.fork.ensures.round;
}

pub wait-requires : goal.wait-requires
wait-requires c = record { sound = c.requires.sound; asked = c.requires.asked }

pub returns-in-Wait : goal.returns-in-Wait
returns-in-Wait c = record {
  goes_on =
      goes_as c.args.service Wait c.in-Wait.is c.args.state.now c.args.asked.now c.wait.result
      c.wait.new.state c.wait.ensures.goes_on;
  counted = c.wait.ensures.counted;
  round = c.wait.ensures.round;
}

pub pipe-requires : goal.pipe-requires
pipe-requires c = record { sound = c.requires.sound; asked = c.requires.asked }

pub returns-in-Pipe : goal.returns-in-Pipe
returns-in-Pipe c = record {
  goes_on =
      goes_as c.args.service Pipe c.in-Pipe.is c.args.state.now c.args.asked.now Went
      c.pipe.new.state c.pipe.ensures.goes_on;
  counted = c.pipe.ensures.counted;
  round = c.pipe.ensures.round;
}

pub close-requires : goal.close-requires
close-requires c = record { sound = c.requires.sound; asked = c.requires.asked }

pub returns-in-Close : goal.returns-in-Close
returns-in-Close c = record {
  goes_on =
      goes_as c.args.service Close c.in-Close.is c.args.state.now c.args.asked.now Went
      c.close.new.state c.close.ensures.goes_on;
  counted = c.close.ensures.counted;
  round = c.close.ensures.round;
}

pub dup-requires : goal.dup-requires
dup-requires c = record { sound = c.requires.sound; asked = c.requires.asked }

pub returns-in-Dup : goal.returns-in-Dup
returns-in-Dup c = record {
  goes_on =
      goes_as c.args.service Dup c.in-Dup.is c.args.state.now c.args.asked.now Went
      c.dup.new.state c.dup.ensures.goes_on;
  counted = c.dup.ensures.counted;
  round = c.dup.ensures.round;
}

pub futex_wait-requires : goal.futex_wait-requires
futex_wait-requires c = record { sound = c.requires.sound; asked = c.requires.asked }

pub returns-in-FutexWait : goal.returns-in-FutexWait
returns-in-FutexWait c = record {
  goes_on =
      goes_as c.args.service FutexWait c.in-FutexWait.is c.args.state.now c.args.asked.now
      c.futex_wait.result
      c.futex_wait.new.state c.futex_wait.ensures.goes_on;
  counted = c.futex_wait.ensures.counted;
  round = c.futex_wait.ensures.round;
}

pub futex_wake-requires : goal.futex_wake-requires
futex_wake-requires c = record { sound = c.requires.sound; asked = c.requires.asked }

pub returns-in-FutexWake : goal.returns-in-FutexWake
returns-in-FutexWake c = record {
  goes_on =
      goes_as c.args.service FutexWake c.in-FutexWake.is c.args.state.now c.args.asked.now Went
      c.futex_wake.new.state c.futex_wake.ensures.goes_on;
  counted = c.futex_wake.ensures.counted;
  round = c.futex_wake.ensures.round;
}

pub map-requires : goal.map-requires
map-requires c = record { sound = c.requires.sound; asked = c.requires.asked }

pub returns-in-MapPages : goal.returns-in-MapPages
returns-in-MapPages c = record {
  goes_on =
      goes_as c.args.service MapPages c.in-MapPages.is c.args.state.now c.args.asked.now Went
      c.map.new.state c.map.ensures.goes_on;
  counted = c.map.ensures.counted;
  round = c.map.ensures.round;
}

pub unmap-requires : goal.unmap-requires
unmap-requires c = record { sound = c.requires.sound; asked = c.requires.asked }

pub returns-in-Unmap : goal.returns-in-Unmap
returns-in-Unmap c = record {
  goes_on =
      goes_as c.args.service Unmap c.in-Unmap.is c.args.state.now c.args.asked.now Went
      c.unmap.new.state c.unmap.ensures.goes_on;
  counted = c.unmap.ensures.counted;
  round = c.unmap.ensures.round;
}

pub share-requires : goal.share-requires
share-requires c = record { sound = c.requires.sound; asked = c.requires.asked }

pub returns-in-Share : goal.returns-in-Share
returns-in-Share c = record {
  goes_on =
      goes_as c.args.service Share c.in-Share.is c.args.state.now c.args.asked.now Went
      c.share.new.state c.share.ensures.goes_on;
  counted = c.share.ensures.counted;
  round = c.share.ensures.round;
}

pub sig_handler-requires : goal.sig_handler-requires
sig_handler-requires c = record { sound = c.requires.sound; asked = c.requires.asked }

pub returns-in-SigHandler : goal.returns-in-SigHandler
returns-in-SigHandler c = record {
  goes_on =
      goes_as c.args.service SigHandler c.in-SigHandler.is c.args.state.now c.args.asked.now Went
      c.sig_handler.new.state c.sig_handler.ensures.goes_on;
  counted = c.sig_handler.ensures.counted;
  round = c.sig_handler.ensures.round;
}

pub sig_mask-requires : goal.sig_mask-requires
sig_mask-requires c = record { sound = c.requires.sound; asked = c.requires.asked }

pub returns-in-SigMask : goal.returns-in-SigMask
returns-in-SigMask c = record {
  goes_on =
      goes_as c.args.service SigMask c.in-SigMask.is c.args.state.now c.args.asked.now Went
      c.sig_mask.new.state c.sig_mask.ensures.goes_on;
  counted = c.sig_mask.ensures.counted;
  round = c.sig_mask.ensures.round;
}

pub sig_return-requires : goal.sig_return-requires
sig_return-requires c = record { sound = c.requires.sound; asked = c.requires.asked }

pub returns-in-SigReturn : goal.returns-in-SigReturn
returns-in-SigReturn c = record {
  goes_on =
      goes_as c.args.service SigReturn c.in-SigReturn.is c.args.state.now c.args.asked.now Went
      c.sig_return.new.state c.sig_return.ensures.goes_on;
  counted = c.sig_return.ensures.counted;
  round = c.sig_return.ensures.round;
}

pub kill-requires : goal.kill-requires
kill-requires c = record { sound = c.requires.sound; asked = c.requires.asked }

pub returns-in-Kill : goal.returns-in-Kill
returns-in-Kill c = record {
  goes_on =
      goes_as c.args.service Kill c.in-Kill.is c.args.state.now c.args.asked.now Went
      c.kill.new.state c.kill.ensures.goes_on;
  counted = c.kill.ensures.counted;
  round = c.kill.ensures.round;
}

pub round_number-requires : goal.round_number-requires
round_number-requires c = record { sound = c.requires.sound; asked = c.requires.asked }

pub returns-in-RoundNumber : goal.returns-in-RoundNumber
returns-in-RoundNumber c = record {
  goes_on =
      goes_as c.args.service RoundNumber c.in-RoundNumber.is c.args.state.now c.args.asked.now Went
      c.round_number.new.state c.round_number.ensures.goes_on;
  counted = c.round_number.ensures.counted;
  round = c.round_number.ensures.round;
}
