-- What the clauses of every host say of one that tells nothing, from the clauses of this one.
use Rattle.std.proofs.Common.{Result, Ok, Err, OnOk, OnErr, refl}
use Rattle.twin_tests.proofs.beside.HoldingHost.TheImpl.Goals as goal

on_ok : {T E P : Type 0} (r : Result T E) → P → OnOk r P
on_ok (Ok v) p = p
on_ok (Err e) p = tt

on_err : {T E P : Type 0} (r : Result T E) → P → OnErr r P
on_err (Ok v) p = tt
on_err (Err e) p = p

pub input-tells : goal.input-tells
input-tells g c = record {
  short = c.ensures.short;
  bytes = on_ok c.result tt;
  rest = c.ensures.rest;
  told_ok = on_ok c.result refl;
  told_err = on_err c.result refl;
  asked = c.ensures.asked;
  cause = c.ensures.cause;
  steady = c.ensures.steady;
}
