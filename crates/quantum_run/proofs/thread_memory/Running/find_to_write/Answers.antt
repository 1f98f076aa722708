use Rattle.quantum_run.proofs.Comparing.{keeps-same}
use Rattle.quantum_run.proofs.thread_memory.Running.find_to_write.Goals as goal

pub returns-in_default-clause-right : goal.returns-in_default-clause-right
returns-in_default-clause-right g c =
    let m = c.args.self.now in
    let n = c.find.new.self in
    keeps-same g.P.Pages.pages m.pages n.pages m.compared n.compared
    c.find.ensures.same.1 c.find.ensures.pages

pub returns-clause-right : goal.returns-clause-right
returns-clause-right g c = λ known are.
    let m = c.args.self.now in
    let n = c.find.new.self in
    let s = c.store_again.new.self in
    let l = c.load_too.new.self in
    keeps-same g.P.Pages.pages s.pages l.pages s.compared l.compared c.load_too.ensures.same.1
    c.load_too.ensures.pages known
    (c.store_again.ensures.right known
    (keeps-same g.P.Pages.pages m.pages n.pages m.compared n.compared
    c.find.ensures.same.1 c.find.ensures.pages
    known are))
