-- A quiet shim follows itself, and following goes on.
use Rattle.std.proofs.Common.{List, [], ◌∷◌, ◌++◌, sym, ap, ◌∙◌, append_assoc}
use Rattle.std.proofs.lemmas.List.{append-nil}
use Rattle.dos_io.specs.declared.exchange.Exchange.{Exchange}
use Rattle.dos_io.specs.Shims.{ShimState}
use Rattle.dos_io.specs.Quiet.{AreQuiet, FollowsQuietly}

quiet_then : (es fs : List Exchange) → AreQuiet es → AreQuiet fs → AreQuiet (es ++ fs)
quiet_then [] fs p q = q
quiet_then (e ∷ es) fs p q = (p.0, quiet_then es fs p.1 q)

pub follows_itself : (s : ShimState) → FollowsQuietly s s
follows_itself s = record { more = []; told = sym (append-nil s.told); quiet = tt }

pub follows_on : (s t u : ShimState) → FollowsQuietly s t → FollowsQuietly t u → FollowsQuietly s u
follows_on s t u p q = record {
  more = p.more ++ q.more;
  told = q.told ∙ ap (λ (x : List Exchange). x ++ q.more) p.told
      ∙ append_assoc s.told p.more q.more;
  quiet = quiet_then p.more q.more p.quiet q.quiet;
}
