use Rattle.std.proofs.Common.{[], ◌∷◌, refl, le_refl}
use Rattle.std.proofs.lemmas.Result.{err_from_is_err_and}
use Rattle.generated_group.specs.Generated.{generated}
use Rattle.dos_cmd.specs.Judging.{gen_config}
use Rattle.dos_cmd.proofs.GenRuns.{gen_cut, gen_did, leaves_memory, leaves_stopped}
use Rattle.dos_cmd.proofs.GenRuns.{never_without_room, one_image, opened_with}
use Rattle.dos_cmd.specs.Printing.{RanQuietly}
use Rattle.dos_cmd.proofs.generate.generate.Given.{Over}
use Rattle.dos_cmd.proofs.generate.generate.Goals.{In-Ok-run_quietly}
use Rattle.dos_cmd.proofs.generate.generate.Goals as goal

pub returns-in_err-kernel : goal.returns-in_err-kernel
returns-in_err-kernel g c =
    let p = err_from_is_err_and c.from_residual.result c.from_residual.ensures.1 in
    rw (p.1, p.2) (record {
      did = λ n tells f h e. tt;
      leaves = λ n tells f h e k l m. leaves_memory c.args.number c.args.threads n tells f h _ e
          _ _ _ (never_without_room c.args.number c.args.threads c.from_ref.result.now _ _
          (one_image c.args.number c.args.threads c.from_ref.result.now c.in-Ok.image
          c.from_ref.ensures.value c.in-Ok.ensures) refl c.requires.few
          c.in_err-kernel.ensures.refused);
      out_later = le_refl _;
      out_steady = λ _. refl;
      fixed = refl;
    })

pub returns-in-Err : goal.returns-in-Err
returns-in-Err g c = record {
  did = λ n tells f h e. tt;
  leaves = λ n tells f h e k l m.
      leaves_stopped c.args.number c.args.threads n tells f h _ e _ _ _ _ c.in-Err.ensures.refused
      (c.in-Err.ensures.halted (generated c.args.number c.args.threads ∷ []) gen_config
      (opened_with c.args.number c.args.threads c.in_ok-kernel.kernel
      c.from_ref.result.now (one_image c.args.number c.args.threads c.from_ref.result.now
      c.in-Ok.image c.from_ref.ensures.value c.in-Ok.ensures) c.in_ok-kernel.ensures.opened));
  out_later = le_refl _;
  out_steady = λ _. refl;
  fixed = c.run_quietly.ensures.fixed;
}

-- it has run the image that is generated
ran : (g : Over) (c : In-Ok-run_quietly g)
    → RanQuietly (generated c.args.number c.args.threads ∷ []) gen_config c.run_quietly.new.kernel
    c.in-Ok-run_quietly.ran.ending c.in-Ok-run_quietly.ran.count c.in-Ok-run_quietly.ran.digest
    (g.W.Workers.tally c.args.workers.now) (g.W.Workers.tally c.run_quietly.new.workers)
ran g c =
    c.in-Ok-run_quietly.ensures.ran (generated c.args.number c.args.threads ∷ []) gen_config
    (opened_with c.args.number c.args.threads c.in_ok-kernel.kernel
    c.from_ref.result.now (one_image c.args.number c.args.threads c.from_ref.result.now
    c.in-Ok.image c.from_ref.ensures.value c.in-Ok.ensures) c.in_ok-kernel.ensures.opened)

pub returns-in-Ok-put : goal.returns-in-Ok-put
returns-in-Ok-put g c = record {
  did = gen_did c.args.number c.args.threads c.run_quietly.new.kernel
      c.in-Ok-run_quietly.ran.ending c.in-Ok-run_quietly.ran.count c.in-Ok-run_quietly.ran.digest
      _ _ _ _ (ran g (goal.at.returns-in-Ok-put g c).In-Ok-run_quietly) c.in-Ok-put.ensures.told;
  leaves = λ n tells f h e k l m. tt;
  out_later = c.in-Ok-put.ensures.cause.later;
  out_steady = λ _. c.in-Ok-put.ensures.steady;
  fixed = c.run_quietly.ensures.fixed;
}

pub returns-in-Err-put : goal.returns-in-Err-put
returns-in-Err-put g c = record {
  did = λ n tells f h e. tt;
  leaves = gen_cut c.args.number c.args.threads c.run_quietly.new.kernel
      c.in-Ok-run_quietly.ran.ending c.in-Ok-run_quietly.ran.count c.in-Ok-run_quietly.ran.digest
      _ _ _ _ (ran g (goal.at.returns-in-Err-put g c).In-Ok-run_quietly) _ _
      c.in-Err-put.ensures.cause.failed c.in-Err-put.ensures.front;
  out_later = c.in-Err-put.ensures.cause.later;
  out_steady = λ other. absurd (other refl);
  fixed = c.run_quietly.ensures.fixed;
}
