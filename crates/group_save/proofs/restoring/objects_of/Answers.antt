use Rattle.std.proofs.Common.{◌≤◌, length, sym, subst}
use Rattle.group_parts.proofs.Facts.{few_waiting}
use Rattle.group_save.proofs.restoring.objects_of.Goals as goal

pub restore_sleepers-requires : goal.restore_sleepers-requires
restore_sleepers-requires c = subst (λ ss. length ss ≤ 64) (sym c.deref.ensures.value)
    (few_waiting c.args.group.now c.requires.fits c.requires.lawful)
