use Rattle.std.proofs.Common.{length}
use Rattle.worker_pool.proofs.crew.run_each.Given as goal

abbrev pub ghosts-work_all : goal.ghosts-work_all
ghosts-work_all g a = record { bound = length a.board.now.opened }
