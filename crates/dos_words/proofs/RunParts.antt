-- What `run` asks for is what its parts ask for.
use Rattle.std.proofs.Common.{◌≡◌, refl, ℕ, List, Option, Some, None, codes}
use Rattle.dos_world.specs.declared.Post.{Post}
use Rattle.dos_words.specs.declared.read.Limits.{Limits}
use Rattle.dos_words.specs.declared.request.Request.{Request}
use Rattle.dos_world.specs.declared.Scheme.{Scheme}
use Rattle.dos_words.specs.declared.request.Request.TheVariants.{Run}
use Rattle.dos_words.specs.Numbers.{Text, ◌>>=◌}
use Rattle.dos_words.specs.Asked.{Values, number_or, number_if_given, workers_of, images_of}
use Rattle.dos_words.specs.Asked.{most_u64, posts_or_none, run_asked, scheme_of}
use Rattle.dos_words.specs.RunParts.{limits_asked, clock_asked, files_asked}

-- a run of its parts
abbrev pub run_of : Limits → Scheme → Option ℕ × ℕ → List (ℕ × Post) → Text × List Text → Request
run_of l s c p f = Run l.quantum l.rounds l.frames l.workers s p c.0 c.1 f.0 f.1

-- a run of its parts, where each is asked for
abbrev pub run_by : Option Limits → Option Scheme → Option (Option ℕ × ℕ)
    → Option (List (ℕ × Post)) → Option (Text × List Text) → Option Request
run_by limits scheme clock posts files = do
  l ← limits
  s ← scheme
  c ← clock
  p ← posts
  f ← files
  Some (run_of l s c p f)

-- the posts may be asked for behind the clock
parts : (q r f w : Option ℕ) (s : Option Scheme) (p : Option (List (ℕ × Post)))
    (from : Option (Option ℕ)) (step : Option ℕ) (log : Option Text) (images : Option (List Text))
    → (q >>= λ q. r >>= λ r. f >>= λ f. w >>= λ w. s >>= λ s. p >>= λ p. from >>= λ from.
    step >>= λ step. log >>= λ log. images >>= λ images.
    Some (Run q r f w s p from step log images))
    ≡ run_by
    (q >>= λ q. r >>= λ r. f >>= λ f. w >>= λ w.
    Some (record { quantum = q; rounds = r; frames = f; workers = w })) s
    (from >>= λ from. step >>= λ step. Some (from, step)) p
    (log >>= λ log. images >>= λ images. Some (log, images))
parts None r f w s p from step log images = refl
parts (Some q) None f w s p from step log images = refl
parts (Some q) (Some r) None w s p from step log images = refl
parts (Some q) (Some r) (Some f) None s p from step log images = refl
parts (Some q) (Some r) (Some f) (Some w) None p from step log images = refl
parts (Some q) (Some r) (Some f) (Some w) (Some s) None None step log images = refl
parts (Some q) (Some r) (Some f) (Some w) (Some s) None (Some from) None log images = refl
parts (Some q) (Some r) (Some f) (Some w) (Some s) None (Some from) (Some step) log images = refl
parts (Some q) (Some r) (Some f) (Some w) (Some s) (Some p) None step log images = refl
parts (Some q) (Some r) (Some f) (Some w) (Some s) (Some p) (Some from) None log images = refl
parts (Some q) (Some r) (Some f) (Some w) (Some s) (Some p) (Some from) (Some step) None images =
    refl
parts (Some q) (Some r) (Some f) (Some w) (Some s) (Some p) (Some from) (Some step)
    (Some log) None = refl
parts (Some q) (Some r) (Some f) (Some w) (Some s) (Some p) (Some from) (Some step)
    (Some log) (Some i) = refl

-- `run`'s own rule
pub run_in_parts : (value : Values) (names : List Text)
    → run_asked value names
    ≡ run_by (limits_asked value) (scheme_of value) (clock_asked value)
    (posts_or_none (value (codes "signals"))) (files_asked value names)
run_in_parts value names =
    parts (number_or (value (codes "quantum")) 16 65536 1000)
    (number_or (value (codes "rounds")) 1 1000000 100000)
    (number_or (value (codes "frames")) 16 16384 4096) (workers_of value)
    (scheme_of value) (posts_or_none (value (codes "signals")))
    (number_if_given (value (codes "clock-from")) 0 most_u64)
    (number_or (value (codes "clock-step")) 0 most_u64 1) (value (codes "log")) (images_of names)
