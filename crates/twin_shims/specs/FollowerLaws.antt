-- A follower follows itself, and following goes on.
use Rattle.std.proofs.Common.{List, [], ◌++◌, refl, sym, ap, ◌∙◌, append_assoc}
use Rattle.std.proofs.lemmas.List.{append-nil}
use Rattle.twin_shims.specs.declared.note.Note.{Note}
use Rattle.twin_shims.specs.Follower.{ReaderState, FollowsReader}

pub reads_itself : (s : ReaderState) → FollowsReader s s
reads_itself s = record { line_same = refl; more = []; taken_is = sym (append-nil s.taken) }

pub reads_on : (s t u : ReaderState) → FollowsReader s t → FollowsReader t u → FollowsReader s u
reads_on s t u p q = record {
  line_same = q.line_same ∙ p.line_same;
  more = p.more ++ q.more;
  taken_is = q.taken_is ∙ ap (λ (x : List Note). x ++ q.more) p.taken_is
      ∙ append_assoc s.taken p.more q.more;
}
