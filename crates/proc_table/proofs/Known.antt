-- A change of a thread that is known.
use Rattle.std.proofs.Common.{◌≡◌, ℕ, zero, suc, List, [], ◌∷◌, Option, Some, None, option_map}
use Rattle.std.proofs.Common.{IfSome, refl, sym, ap, subst, ◌∙◌}
use Rattle.std.specs.Prelude.{slice_get}
use Rattle.dos_world.specs.Numbered.{changed, changed_at}
use Rattle.dos_world.specs.World.{Process, Thread, Registers, flat}
use Rattle.dos_world.specs.SignalCalls.{restored}
use Rattle.proc_table.specs.Tables.{Tables, restored_in, thread_in, thread_by}

known_at : (f : Thread → Thread) (ts : List (Option Thread)) (i : ℕ) (x y : Thread)
    → flat (slice_get ts i) ≡ Some x → y ≡ f x
    → changed_at (option_map (λ _. y)) ts i ≡ changed_at (option_map f) ts i
known_at f [] i x y is made = refl
known_at f (None ∷ ts) zero x y is made = refl
known_at f (Some t ∷ ts) zero x y is made = let same : t ≡ x = cc in
    ap (λ z. Some z ∷ ts) (made ∙ ap f (let back : x ≡ t = cc in back))
known_at f (t ∷ ts) (suc i) x y is made = ap (λ zs. t ∷ zs) (known_at f ts i x y is made)

-- what f makes of a thread, in its place
pub known : (f : Thread → Thread) (ts : List (Option Thread)) (t : ℕ) (x y : Thread)
    → thread_in ts t ≡ Some x → y ≡ f x
    → changed (option_map (λ _. y)) ts t ≡ changed (option_map f) ts t
known f ts zero x y is made = refl
known f ts (suc i) x y is made = known_at f ts i x y is made

module _ {ps : List Process} {ts : List (Option Thread)} {room : ℕ} {now : Tables}
    (shows : ◌≡◌ {A = Tables} (record { processes = ps; threads = ts; room = room }) now) where
  -- the same in a table, by its parts
  pub known_in : (f : Thread → Thread) (t : ℕ) {x y : Thread} → thread_in ts t ≡ Some x → y ≡ f x
      → ◌≡◌ {A = Tables} (record {
        processes = ps;
        threads = changed (option_map (λ _. y)) ts t;
        room = room;
      }) (thread_by f now t)
  known_in f t {x} {y} is made =
      ap (λ us. let table : Tables = record { processes = ps; threads = us; room = room } in table)
      (known f ts t x y is made)
      ∙ ap (λ (table : Tables). thread_by f table t) shows

  -- what was saved last comes back
  pub known_restored : (t : ℕ) {x y : Thread} {last : Registers × ℕ} {others : List (Registers × ℕ)}
      → thread_in ts t ≡ Some x → x.saved ≡ last ∷ others → y ≡ restored last others x
      → IfSome (thread_in now.threads t)
      (λ thread. ◌≡◌ {A = Tables} (record {
        processes = ps;
        threads = changed (option_map (λ _. y)) ts t;
        room = room;
      }) (restored_in thread.saved now t))
  known_restored t {x} {y} {last} {others} is saved made =
      let here : thread_in now.threads t ≡ Some x =
      ap (λ (table : Tables). thread_in table.threads t) (sym shows) ∙ is in
      subst (λ (o : Option Thread). IfSome o
      (λ thread. ◌≡◌ {A = Tables} (record {
        processes = ps;
        threads = changed (option_map (λ _. y)) ts t;
        room = room;
      }) (restored_in thread.saved now t))) (sym here)
      (known_in (restored last others) t is made
      ∙ ap (λ (saved : List (Registers × ℕ)). restored_in saved now t) (sym saved))
