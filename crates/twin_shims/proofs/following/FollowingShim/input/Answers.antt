use Rattle.std.proofs.Common.{ℕ, ◌≤◌, List, length, sym, subst}
use Rattle.twin_shims.proofs.Readers.{fits_room}
use Rattle.twin_shims.proofs.following.FollowingShim.input.Goals as goal

pub put_bytes-requires : goal.put_bytes-requires
put_bytes-requires g c =
    subst (λ (x : List ℕ). length x ≤ length c.args.buf.now) (sym c.bytes-bytes.ensures)
    (fits_room c.in_ok-bytes.field-0 _ _ _ _ _ _ _ c.in-Input.is c.in_ok-bytes.ensures.fits
    c.in_ok-bytes.ensures.question)
