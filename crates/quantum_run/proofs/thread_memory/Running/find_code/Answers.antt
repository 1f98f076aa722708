use Rattle.quantum_run.proofs.Comparing.{keeps-same}
use Rattle.quantum_run.proofs.thread_memory.Running.find_code.Goals as goal

pub returns-in-Some-clause-right : goal.returns-in-Some-clause-right
returns-in-Some-clause-right g c = λ known are.
    let m = c.args.self.now in
    let n = c.find.new.self in
    c.show.ensures.right known
    (keeps-same g.P.Pages.pages m.pages n.pages m.compared n.compared
    c.find.ensures.same.1 c.find.ensures.pages
    known are)
