-- Each request that is given has its numbers in range.
use Rattle.std.proofs.Common.{◌≡◌, ◌∙◌, ◌≤◌, ℕ, suc, Bool, cond, true, false, leb, ◌&&◌, List, []}
use Rattle.std.proofs.Common.{◌∷◌, length, Option, Some, None, find, refl, ap, subst, arith}
use Rattle.std.specs.Prelude.{option_and_then, bytes_eq, codes, IfSome}
use Rattle.std.specs.List.{AllByRecursion}
use Rattle.std.specs.Int.{IsInRange}
use Rattle.std.proofs.lemmas.Bool.{and_parts, leb-true}
use Rattle.dos_world.specs.declared.Post.{Post}
use Rattle.clap.specs.Words.{Row, fault_of, subcommand_of}
use Rattle.clap.specs.Kinds.{Kinds}
use Rattle.dos_words.specs.declared.request.Request.{Request}
use Rattle.dos_words.specs.declared.request.Request.TheVariants.{Run, Replay, Inspect, Gen}
use Rattle.dos_words.specs.declared.request.Request.TheVariants.{Debug, Migrate, Trace, Save}
use Rattle.dos_words.specs.declared.request.Request.TheVariants.{Resume}
use Rattle.dos_words.specs.Numbers.{Text, number, where_within, number_within, parts_by, post_in}
use Rattle.dos_words.specs.Numbers.{posts_in_all, colon, comma}
use Rattle.dos_words.specs.Asked.{Values, number_or, posts_or_none, number_if_given, most_u64}
use Rattle.dos_words.specs.Asked.{workers_of, images_of, run_asked, replay_asked, inspect_asked}
use Rattle.dos_words.specs.Asked.{gen_asked, migrate_asked, resume_asked, save_asked}
use Rattle.dos_words.specs.Asked.{debug_asked, trace_asked, scheme_of}
use Rattle.dos_words.specs.Commands.{Command, commands, command_named}
use Rattle.dos_words.specs.Canonical.{pairs_and_names, are_allowed, canonical, values_in}
use Rattle.dos_words.specs.Clap.{words_app, asked_by, where_taken, values_among, names_among}
use Rattle.dos_words.specs.Clap.{clap_request}
use Rattle.dos_words.specs.Request.{request_by, request}
use Rattle.dos_words.specs.Ranges.{FitsAskedPost, FitsRequest}

-- ---- what some value came of

abbrev pub some : {A : Type 0} → A → Option A
some x = Some x

pub some_is : {A : Type 0} (x y : A) → some x ≡ some y → x ≡ y
some_is x y e = cc

pub bind_some : {A B : Type 0} (o : Option A) (f : A → Option B) (y : B)
    → option_and_then f o ≡ Some y → (x : A) × (o ≡ Some x) × (f x ≡ Some y)
bind_some (Some x) f y e = (x, refl, e)
bind_some None f y e = absurd cc

pub guard_some : {A : Type 0} (b : Bool) (x y : A) → cond b (Some x) None ≡ Some y
    → (b ≡ true) × (x ≡ y)
guard_some true x y e = (refl, some_is x y e)
guard_some false x y e = absurd cc

-- ---- numbers

is_within : (low high n m : ℕ) → where_within low high n ≡ Some m → IsInRange low high m
is_within low high n m e =
    let g = guard_some (leb low n && leb n high) n m e in
    let b = and_parts (leb low n) (leb n high) g.0 in
    subst (IsInRange low high) g.1 (leb-true _ _ b.0, leb-true _ _ b.1)

number_fits : (low high : ℕ) (text : Text) (n : ℕ) → number_within low high text ≡ Some n
    → IsInRange low high n
number_fits low high text n e = let b = bind_some (number text) (where_within low high) n e in
    is_within low high b.0 n b.2

number_or_fits : (low high default : ℕ) (given : Option Text) (n : ℕ) → IsInRange low high default
    → number_or given low high default ≡ Some n → IsInRange low high n
number_or_fits low high default None n fits e =
    subst (IsInRange low high) (some_is default n e) fits
number_or_fits low high default (Some text) n fits e = number_fits low high text n e

if_given_fits : (high : ℕ) (given : Option Text) (o : Option ℕ)
    → number_if_given given 0 high ≡ Some o → IfSome o (λ n. n ≤ high)
if_given_fits high None o e =
    subst (λ (x : Option ℕ). IfSome x (λ n. n ≤ high)) (some_is None o e) tt
if_given_fits high (Some text) o e =
    let b = bind_some (number_within 0 high text) (λ n. Some (Some n)) o e in
    subst (λ (x : Option ℕ). IfSome x (λ n. n ≤ high)) (some_is (Some b.0) o b.2)
    (number_fits 0 high text b.0 b.1).1

workers_fit : (value : Values) (n : ℕ) → workers_of value ≡ Some n → IsInRange 1 32 n
workers_fit value n e = number_or_fits 1 32 4 (value (codes "workers")) n
    (omega arith, omega arith) e

images_fit : (names images : List Text) → images_of names ≡ Some images
    → IsInRange 1 8 (length images)
images_fit names images e =
    let g = guard_some (leb 1 (length names) && leb (length names) 8) names images e in
    let b = and_parts (leb 1 (length names)) (leb (length names) 8) g.0 in
    subst (λ (x : List Text). IsInRange 1 8 (length x)) g.1 (leb-true _ _ b.0, leb-true _ _ b.1)

-- ---- posts

post_fits : (parts : List Text) (post : ℕ × Post) → post_in parts ≡ Some post → FitsAskedPost post
post_fits (round ∷ pid ∷ signal ∷ []) post e =
    let r = bind_some (number_within 1 1000000 round) _ post e in
    let p = bind_some (number_within 1 65535 pid) _ post r.2 in
    let s = bind_some (number_within 1 31 signal) _ post p.2 in
    subst FitsAskedPost (some_is (r.0, record { pid = p.0; signal = s.0 }) post s.2)
    (record {
      round = number_fits 1 1000000 round r.0 r.1;
      process =
          number_fits 1 65535 pid p.0 p.1;
      signal = number_fits 1 31 signal s.0 s.1;
    })
post_fits [] post e = absurd cc
post_fits (a ∷ []) post e = absurd cc
post_fits (a ∷ b ∷ []) post e = absurd cc
post_fits (a ∷ b ∷ c ∷ d ∷ parts) post e = absurd cc

record FitPosts (items : List Text) (posts : List (ℕ × Post)) : Type 0 where
  fit : AllByRecursion FitsAskedPost posts
  count : length posts ≡ length items

posts_fit : (items : List Text) (posts : List (ℕ × Post)) → posts_in_all items ≡ Some posts
    → FitPosts items posts
posts_fit [] posts e = subst (FitPosts []) (some_is [] posts e) (record { fit = tt; count = refl })
posts_fit (item ∷ items) posts e =
    let p = bind_some (post_in (parts_by colon item)) _ posts e in
    let q = bind_some (posts_in_all items) _ posts p.2 in
    let more = posts_fit items q.0 q.1 in
    subst (FitPosts (item ∷ items)) (some_is (p.0 ∷ q.0) posts q.2)
    (record {
      fit = (post_fits (parts_by colon item) p.0 p.1, more.fit);
      count =
          ap (λ (n : ℕ). suc n) more.count;
    })

record FewPosts (posts : List (ℕ × Post)) : Type 0 where
  fit : AllByRecursion FitsAskedPost posts
  few : length posts ≤ 32

posts_or_none_fit : (given : Option Text) (posts : List (ℕ × Post))
    → posts_or_none given ≡ Some posts → FewPosts posts
posts_or_none_fit None posts e =
    subst FewPosts (some_is [] posts e) (record { fit = tt; few = omega arith })
posts_or_none_fit (Some text) posts e = go (leb (length (parts_by comma text)) 32) refl e
  where
    go : (b : Bool) → leb (length (parts_by comma text)) 32 ≡ b
        → cond b (posts_in_all (parts_by comma text)) None ≡ Some posts → FewPosts posts
    go true is e = let all = posts_fit (parts_by comma text) posts e in
        record { fit = all.fit; few = omega (arith, all.count, leb-true _ _ is) }
    go false is e = absurd cc

-- ---- the commands

abbrev AsksInRange : (Values → List Text → Option Request) → Type 0
AsksInRange asked = (value : Values) (names : List Text) (r : Request) → asked value names ≡ Some r
    → FitsRequest r

run_fits : AsksInRange run_asked
run_fits value names r e =
    let quantum = bind_some (number_or (value (codes "quantum")) 16 65536 1000) _ r e in
    let rounds = bind_some (number_or (value (codes "rounds")) 1 1000000 100000) _ r quantum.2 in
    let frames = bind_some (number_or (value (codes "frames")) 16 16384 4096) _ r rounds.2 in
    let workers = bind_some (workers_of value) _ r frames.2 in
    let scheme = bind_some (scheme_of value) _ r workers.2 in
    let posts = bind_some (posts_or_none (value (codes "signals"))) _ r scheme.2 in
    let start = bind_some (number_if_given (value (codes "clock-from")) 0 most_u64) _ r posts.2 in
    let step = bind_some (number_or (value (codes "clock-step")) 0 most_u64 1) _ r start.2 in
    let log = bind_some (value (codes "log")) _ r step.2 in
    let images = bind_some (images_of names) _ r log.2 in
    let few = posts_or_none_fit (value (codes "signals")) posts.0 posts.1 in
    subst FitsRequest (some_is
    (Run quantum.0 rounds.0 frames.0 workers.0 scheme.0 posts.0 start.0 step.0 log.0 images.0) r
    images.2)
    (record {
      quantum_fits = number_or_fits 16 65536 1000 (value (codes "quantum")) quantum.0
          (omega arith, omega arith) quantum.1;
      rounds_fit = number_or_fits 1 1000000 100000 (value (codes "rounds")) rounds.0
          (omega arith, omega arith) rounds.1;
      frames_fit = number_or_fits 16 16384 4096 (value (codes "frames")) frames.0
          (omega arith, omega arith) frames.1;
      workers_fit = workers_fit value workers.0 workers.1;
      posts_fit = few.fit;
      few_posts = few.few;
      clock_from_fits = if_given_fits most_u64 (value (codes "clock-from")) start.0 start.1;
      clock_step_fits = (number_or_fits 0 most_u64 1 (value (codes "clock-step")) step.0
          (omega arith, omega arith) step.1).1;
      names_fit = images_fit names images.0 images.1;
    })

replay_fits : AsksInRange replay_asked
replay_fits value names r e =
    let workers = bind_some (workers_of value) _ r e in
    let scheme = bind_some (scheme_of value) _ r workers.2 in
    let log = bind_some (value (codes "log")) _ r scheme.2 in
    let images = bind_some (images_of names) _ r log.2 in
    subst FitsRequest (some_is (Replay workers.0 scheme.0 log.0 images.0) r images.2)
    (workers_fit value workers.0 workers.1, images_fit names images.0 images.1)

trace_fits : AsksInRange trace_asked
trace_fits value names r e =
    let workers = bind_some (workers_of value) _ r e in
    let log = bind_some (value (codes "log")) _ r workers.2 in
    let images = bind_some (images_of names) _ r log.2 in
    subst FitsRequest (some_is (Trace workers.0 log.0 images.0) r images.2)
    (workers_fit value workers.0 workers.1, images_fit names images.0 images.1)

debug_fits : AsksInRange debug_asked
debug_fits value names r e =
    let workers = bind_some (workers_of value) _ r e in
    let log = bind_some (value (codes "log")) _ r workers.2 in
    let images = bind_some (images_of names) _ r log.2 in
    subst FitsRequest (some_is (Debug workers.0 log.0 images.0) r images.2)
    (workers_fit value workers.0 workers.1, images_fit names images.0 images.1)

save_fits : AsksInRange save_asked
save_fits value names r e =
    let workers = bind_some (workers_of value) _ r e in
    let log = bind_some (value (codes "log")) _ r workers.2 in
    let text = bind_some (value (codes "round")) _ r log.2 in
    let round = bind_some (number_within 1 1000000 text.0) _ r text.2 in
    let to = bind_some (value (codes "to")) _ r round.2 in
    let images = bind_some (images_of names) _ r to.2 in
    subst FitsRequest (some_is (Save workers.0 log.0 round.0 to.0 images.0) r images.2) (
      workers_fit value workers.0 workers.1,
      number_fits 1 1000000 text.0 round.0 round.1,
      images_fit names images.0 images.1,
    )

resume_fits : AsksInRange resume_asked
resume_fits value (name ∷ names) r e = absurd cc
resume_fits value [] r e =
    let workers = bind_some (workers_of value) _ r e in
    let log = bind_some (value (codes "log")) _ r workers.2 in
    let from = bind_some (value (codes "from")) _ r log.2 in
    subst FitsRequest (some_is (Resume workers.0 log.0 from.0) r from.2)
    (workers_fit value workers.0 workers.1)

inspect_fits : AsksInRange inspect_asked
inspect_fits value [] r e = absurd cc
inspect_fits value (name ∷ []) r e = subst FitsRequest (some_is (Inspect name) r e) tt
inspect_fits value (name ∷ other ∷ names) r e = absurd cc

gen_fits : AsksInRange gen_asked
gen_fits value (name ∷ names) r e = absurd cc
gen_fits value [] r e =
    let text = bind_some (value (codes "number")) _ r e in
    let n = bind_some (number_within 0 4294967295 text.0) _ r text.2 in
    let count = bind_some (value (codes "threads")) _ r n.2 in
    let threads = bind_some (number_within 1 32 count.0) _ r count.2 in
    let workers = bind_some (workers_of value) _ r threads.2 in
    subst FitsRequest (some_is (Gen n.0 threads.0 workers.0) r workers.2) (
      (number_fits 0 4294967295 text.0 n.0 n.1).1,
      number_fits 1 32 count.0 threads.0 threads.1,
      workers_fit value workers.0 workers.1,
    )

migrate_fits : AsksInRange migrate_asked
migrate_fits value (name ∷ names) r e = absurd cc
migrate_fits value [] r e =
    let log = bind_some (value (codes "log")) _ r e in
    let to = bind_some (value (codes "to")) _ r log.2 in
    subst FitsRequest (some_is (Migrate log.0 to.0) r to.2) tt

-- What holds of each of these holds of the one that has the name.
pub named_in : (P : Command → Type 0) (name : Text) (all : List Command) (command : Command)
    → AllByRecursion P all → find (λ c. bytes_eq name c.name) all ≡ Some command
    → P command × (bytes_eq name command.name ≡ true)
named_in P name [] command each e = absurd cc
named_in P name (first ∷ all) command each e =
    by_test (bytes_eq name first.name) refl e (named_in P name all command each.1)
  where
    by_test : (b : Bool) → bytes_eq name first.name ≡ b
        → cond b (some first) (find (λ c. bytes_eq name c.name) all) ≡ Some command
        → (find (λ c. bytes_eq name c.name) all ≡ Some command
        → P command × (bytes_eq name command.name ≡ true))
        → P command × (bytes_eq name command.name ≡ true)
    by_test true is e later =
        subst (λ (c : Command). P c × (bytes_eq name c.name ≡ true)) (some_is first command e)
        (each.0, is)
    by_test false is e later = later e

named_fits : (name : Text) (command : Command) → command_named name ≡ Some command
    → AsksInRange command.asked
named_fits name command e =
    (named_in (λ (c : Command). AsksInRange c.asked) name commands command (
      run_fits,
      (
        replay_fits,
        (
          inspect_fits,
          (
            gen_fits,
            (migrate_fits, (trace_fits, (save_fits, (resume_fits, (debug_fits, tt))))),
          ),
        ),
      ),
    ) e).0

-- ---- both readings

canonical_fits : (words : List Text) (asked : Option Request) (r : Request)
    → canonical words ≡ Some asked → asked ≡ Some r → FitsRequest r
canonical_fits [] asked r is e = absurd cc
canonical_fits (name ∷ words) asked r is e =
    let command = bind_some (command_named name) _ asked is in
    let parts = bind_some (pairs_and_names words) _ asked command.2 in
    let g = guard_some (are_allowed command.0.options parts.0.0)
    (command.0.asked (values_in parts.0.0) parts.0.1) asked parts.2 in
    named_fits name command.0 command.1 (values_in parts.0.0) parts.0.1 r (g.1 ∙ e)

asked_by_fits : (found : Text × List Row) (r : Request) → asked_by found ≡ Some r → FitsRequest r
asked_by_fits found r e =
    let command = bind_some (command_named found.0) _ r e in
    named_fits found.0 command.0 command.1 (values_among found.1) (names_among found.1) r command.2

taken_is : (kinds : Kinds) (asked : Option Request) (r : Request) → where_taken kinds asked ≡ Some r
    → asked ≡ Some r
taken_is [] asked r e = e
taken_is (kind ∷ kinds) asked r e = absurd cc

clap_fits : (words : List Text) (r : Request) → clap_request words ≡ Some r → FitsRequest r
clap_fits words r e =
    let asked : Option Request = option_and_then asked_by (subcommand_of words_app words) in
    let found = bind_some (subcommand_of words_app words) asked_by r
    (taken_is (fault_of words_app words) asked r e) in
    asked_by_fits found.0 r found.2

either_fits : (c : Option (Option Request)) (words : List Text) (r : Request) → canonical words ≡ c
    → request_by c words ≡ Some r → FitsRequest r
either_fits None words r is e = clap_fits words r e
either_fits (Some asked) words r is e = canonical_fits words asked r is e

pub request_fits : (words : List Text) (r : Request) → request words ≡ Some r → FitsRequest r
request_fits words r e = either_fits (canonical words) words r refl e
