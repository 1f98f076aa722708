use Rattle.std.proofs.Common.{ap, Err}
use Rattle.group_files.proofs.GroupVerdicts.{group_no_fault, long_refused, memory_no_fault}
use Rattle.group_files.proofs.GroupVerdicts.{nothing_said}
use Rattle.group_files.proofs.loading.load_group.Goals as goal

pub returns-in-Ok-clause-later : goal.returns-in-Ok-clause-later
returns-in-Ok-clause-later g c = c.get.ensures.later

pub returns-in-Ok-clause-stays : goal.returns-in-Ok-clause-stays
returns-in-Ok-clause-stays g c = c.get.ensures.stays

pub returns-in-Ok-clause-tells : goal.returns-in-Ok-clause-tells
returns-in-Ok-clause-tells g c = c.get.ensures.tells

pub returns-in-Ok-clause-fault : goal.returns-in-Ok-clause-fault
returns-in-Ok-clause-fault g c = λ is. absurd (c.read_file.ensures.fault is)

pub returns-in-Err-TooLong : goal.returns-in-Err-TooLong
returns-in-Err-TooLong g c =
    let get = c.in-Err-TooLong.ensures in
    record {
      accepted = tt;
      fits = tt;
      lawful = tt;
      refused = long_refused (g.F.Files.content c.args.files.now c.args.name.now)
          (get.too_long (ap (λ e. Err e) c.in-Err-TooLong.field-0-is));
      fault = λ is. absurd (group_no_fault _ is);
      of_file = tt;
      asked = get.asked;
      later = get.later;
      stays = get.stays;
      tells = get.tells;
    }

pub returns-in-Err-Fault : goal.returns-in-Err-Fault
returns-in-Err-Fault g c =
    let get = c.in-Err-Fault.ensures in
    record {
      accepted = tt;
      fits = tt;
      lawful = tt;
      refused = nothing_said (g.F.Files.content c.args.files.now c.args.name.now);
      fault = λ is. get.fault (ap (λ e. Err e) c.in-Err-Fault.field-0-is);
      of_file = tt;
      asked = get.asked;
      later = get.later;
      stays = get.stays;
      tells = get.tells;
    }

pub returns-in-Err-Memory : goal.returns-in-Err-Memory
returns-in-Err-Memory g c =
    let get = c.in-Err-Memory.ensures in
    record {
      accepted = tt;
      fits = tt;
      lawful = tt;
      refused = nothing_said (g.F.Files.content c.args.files.now c.args.name.now);
      fault = λ is. absurd (memory_no_fault is);
      of_file = tt;
      asked = get.asked;
      later = get.later;
      stays = get.stays;
      tells = get.tells;
    }
