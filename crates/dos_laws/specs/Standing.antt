-- Lawfulness as an invariant of the machine, and the shim's answers that fit. This project's own.
use Rattle.std.specs.Prelude.{ℕ, ◌≤◌, ◌≡◌, ◌≢◌, List, [], ◌∷◌, length, All, IfSome, ⊤}
use Rattle.dos_world.specs.World.{World, thread_at}
use Rattle.dos_world.specs.Lawful.{Lawful, IsByte}
use Rattle.dos_world.specs.Play.{Answer, posts_of, input_of}
use Rattle.dos_world.specs.declared.Post.{Post}
use Rattle.dos_world.specs.declared.ThreadState.TheVariants.{Ready}
use Rattle.round_core.specs.Protocol.{Protocol}

-- ---- who may have a serial part

-- The thread neither waits nor sleeps, or is gone.
abbrev pub IsAwake : World → ℕ → Type 0
IsAwake w t = IfSome (thread_at w t) (λ thread. thread.state ≡ Ready)

-- So are all of these.
abbrev pub AreAwake : World → List ℕ → Type 0
AreAwake w [] = ⊤
AreAwake w (t ∷ ts) = IsAwake w t × AreAwake w ts

-- The thread is none of these.
abbrev pub IsNoneOf : ℕ → List ℕ → Type 0
IsNoneOf t [] = ⊤
IsNoneOf t (s ∷ ts) = (s ≢ t) × IsNoneOf t ts

-- Each of these stands here once.
abbrev pub AreApart : List ℕ → Type 0
AreApart [] = ⊤
AreApart (t ∷ ts) = IsNoneOf t ts × AreApart ts

-- The world is lawful, and these threads may have their serial parts, one after another. Who sleeps
-- mustn't: it would stand in the queue of sleepers twice.
pub record LawfulWith (ts : List ℕ) (w : World) : Type 0 where
  pub lawful : Lawful w
  pub awake : AreAwake w ts
  pub apart : AreApart ts

-- ---- answers that fit

-- a signal from 1 to 31
abbrev pub IsPost : Post → Type 0
IsPost post = (1 ≤ post.signal) × (post.signal ≤ 31)

-- signals from 1 to 31, and at most 4096 bytes of input
pub record IsFit (answer : Answer) : Type 0 where
  pub posts : All IsPost (posts_of answer)
  pub bytes : All IsByte (input_of answer)
  pub count : length (input_of answer) ≤ 4096

-- any question, and any answer that fits
abbrev pub fit_protocol : Protocol
fit_protocol = record {
  may = λ question output error. ⊤;
  answers = IsFit;
  posts = IsPost;
  brings = λ answer is. is.posts;
}
