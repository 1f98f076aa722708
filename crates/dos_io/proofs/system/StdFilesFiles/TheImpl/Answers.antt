-- What the clauses of all files say of files that tell nothing, from the clauses of these files.
use Rattle.std.proofs.Common.{◌≡◌, List, ℕ, Option, Some, None, Result, Ok, Err, IfOk, IsTrue}
use Rattle.std.proofs.Common.{false, refl, arith}
use Rattle.std.proofs.lemmas.Result.{IfErr-at_err}
use Rattle.dos_io.specs.Outside.{counted_to_limit}
use Rattle.dos_io.specs.declared.files.FileError.TheVariants.{TooLong, Fault}
use Rattle.dos_io.proofs.system.StdFilesFiles.TheImpl.Goals as goal

nothing_told : {T E : Type 0} (r : Result T E) → IfOk r (λ _. Unit {0})
nothing_told (Ok v) = tt
nothing_told (Err e) = tt

never_told : {T E : Type 0} (r : Result T E) (P : T → Type 0) → IfOk r (λ v. IsTrue false → P v)
never_told (Ok v) P = λ told. absurd (cc)
never_told (Err e) P = tt

pub get-tells : goal.get-tells
get-tells g c = record {
  bytes = nothing_told c.result;
  held = never_told c.result (λ v. let untold : Option (List ℕ) = None in untold ≡ Some v.items);
  within = c.ensures.within;
  too_long = λ _. tt;
  fault = λ is. omega (arith, c.ensures.counted is);
  asked = c.ensures.asked;
  stays = λ _. refl;
  tells = refl;
  later = c.ensures.later;
}

pub set-tells : goal.set-tells
set-tells g c = record {
  content = nothing_told c.result;
  holds = never_told c.result (λ _. let untold : Option (List ℕ) =
      None in untold ≡ Some c.args.bytes.now);
  memory = λ _. refl;
  never = λ is. let other : TooLong ≡ Fault =
      IfErr-at_err (λ e. e ≡ Fault) is c.ensures.fault in cc;
  fault = λ is. let rose : c.new.self.now.faults ≡ counted_to_limit c.args.self.now.faults =
      IfErr-at_err _ is c.ensures.counted in omega arith;
  asked = c.ensures.asked;
  others = λ _ _. refl;
  tells = refl;
  later = c.ensures.later;
}
