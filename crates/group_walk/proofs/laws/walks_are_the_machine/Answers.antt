use Rattle.std.proofs.Common.{◌+◌, sym, ap, ◌∙◌}
use Rattle.dos_world.specs.Play.{questions}
use Rattle.flat_machine.specs.Machine.{result_of, run_from}
use Rattle.group_moves.specs.Laws.{finish_by}
use Rattle.group_moves.specs.Moments.{first_moment}
use Rattle.group_walk.proofs.Walking.{walked_over}
use Rattle.group_walk.proofs.laws.walks_are_the_machine.Goals as goal

pub returns : goal.returns
returns c = λ w config answers owned.
    let ends = c.runs_are_their_moves.ensures w config answers owned in
    record {
      moves = ends.moves;
      work = ends.work;
      is = λ more. ends.is more
          ∙ ap (λ x. result_of (questions answers (run_from w config)) (finish_by ends.work x))
          (sym (walked_over (ends.moves + more) config.rounds answers (first_moment w)));
    }
