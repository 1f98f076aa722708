-- What a process has, with entries behind its others.
use Rattle.std.proofs.Common.{ℕ, zero, suc, ◌+◌, ◌<◌, ◌≤◌, ◌≡◌, refl, sym, ap, ◌∙◌, subst, List, []}
use Rattle.std.proofs.Common.{◌∷◌, ◌++◌, length, All, arith}
use Rattle.std.specs.Prelude.{Option, Some, None, IfSome, option_and_then, option_map, find}
use Rattle.std.specs.Prelude.{slice_get, nat_lt, ◌==◌}
use Rattle.std.proofs.lemmas.Bool.{le-ltb, ne_eqb, cond-false}
use Rattle.std.proofs.lemmas.List.{append-nil, append_assoc, length-append}
use Rattle.std.proofs.lemmas.List.Elements.{All-head, All-tail, All-append, All-weaker}
use Rattle.dos_world.specs.Numbered.{changed_at}
use Rattle.dos_world.specs.declared.Entry.{Entry}
use Rattle.dos_world.specs.World.{Holdings, Life, Process, holdings_of, live, ended, live_changed}
use Rattle.dos_world.specs.World.{look, on_holdings}
use Rattle.dos_world.specs.Kernel.{put, with_entry}
use Rattle.proc_table.specs.Tables.{Tables, held_by, held_in}
use Rattle.group_open.specs.Filling.{HasPlace, with_entries_more}

-- ---- one life, one process, one of a list

life_here : (f g : Holdings → Holdings) (p : Process) → IfSome (holdings_of p) (λ h. f h ≡ g h)
    → on_holdings f p ≡ on_holdings g p
life_here f g p same = ap (λ l. record p { life = l }) (go p.life same)
  where
    go : (l : Life) → IfSome (holdings_of (record p { life = l })) (λ h. f h ≡ g h)
        → live_changed f l ≡ live_changed g l
    go (live h) e = ap live e
    go (ended status collected) e = refl

changed_here : (f g : Holdings → Holdings) (ps : List Process) (i : ℕ)
    → IfSome (option_and_then holdings_of (slice_get ps i)) (λ h. f h ≡ g h)
    → changed_at (on_holdings f) ps i ≡ changed_at (on_holdings g) ps i
changed_here f g [] i same = refl
changed_here f g (p ∷ ps) zero same = ap (λ q. q ∷ ps) (life_here f g p same)
changed_here f g (p ∷ ps) (suc i) same = ap (λ qs. p ∷ qs) (changed_here f g ps i same)

twice_here : (f g : Holdings → Holdings) (ps : List Process) (i : ℕ)
    → changed_at (on_holdings f) (changed_at (on_holdings g) ps i) i
    ≡ changed_at (on_holdings (λ h. f (g h))) ps i
twice_here f g [] i = refl
twice_here f g (p ∷ ps) zero = ap (λ l. record p { life = l } ∷ ps) (go p.life)
  where
    go : (l : Life) → live_changed f (live_changed g l) ≡ live_changed (λ h. f (g h)) l
    go (live h) = refl
    go (ended status collected) = refl
twice_here f g (p ∷ ps) (suc i) = ap (λ qs. p ∷ qs) (twice_here f g ps i)

same_here : (ps : List Process) (i : ℕ) → changed_at (on_holdings (λ h. h)) ps i ≡ ps
same_here [] i = refl
same_here (p ∷ ps) zero = ap (λ l. record p { life = l } ∷ ps) (go p.life)
  where
    go : (l : Life) → live_changed (λ h. h) l ≡ l
    go (live h) = refl
    go (ended status collected) = refl
same_here (p ∷ ps) (suc i) = ap (λ qs. p ∷ qs) (same_here ps i)

held_here : (f : Holdings → Holdings) (ps : List Process) (i : ℕ) (h : Holdings)
    → option_and_then holdings_of (slice_get ps i) ≡ Some h
    → option_and_then holdings_of (slice_get (changed_at (on_holdings f) ps i) i) ≡ Some (f h)
held_here f [] i h e = absurd cc
held_here f (p ∷ ps) zero h e = go p.life e
  where
    go : (l : Life) → holdings_of (record p { life = l }) ≡ Some h
        → holdings_of (record p { life = live_changed f l }) ≡ Some (f h)
    go (live k) is = ap (λ o. option_map f o) is
    go (ended status collected) is = absurd cc
held_here f (p ∷ ps) (suc i) h e = held_here f ps i h e

-- ---- the table

pub held_same : (f g : Holdings → Holdings) (t : Tables) (p : ℕ)
    → IfSome (held_in t.processes p) (λ h. f h ≡ g h) → held_by f t p ≡ held_by g t p
held_same f g t zero same = refl
held_same f g t (suc i) same =
    ap (λ ps. record t { processes = ps }) (changed_here f g t.processes i same)

pub held_twice : (f g : Holdings → Holdings) (t : Tables) (p : ℕ)
    → held_by f (held_by g t p) p ≡ held_by (λ h. f (g h)) t p
held_twice f g t zero = refl
held_twice f g t (suc i) = ap (λ ps. record t { processes = ps }) (twice_here f g t.processes i)

pub held_none : (t : Tables) (p : ℕ) → held_by (λ h. h) t p ≡ t
held_none t zero = refl
held_none t (suc i) = ap (λ ps. record t { processes = ps }) (same_here t.processes i)

pub held_after : (f : Holdings → Holdings) (t : Tables) (p : ℕ) (h : Holdings)
    → held_in t.processes p ≡ Some h → held_in (held_by f t p).processes p ≡ Some (f h)
held_after f t zero h e = absurd cc
held_after f t (suc i) h e = held_here f t.processes i h e

-- what holds of what a process has, where that is known
pub held_if : (P : Holdings → Type 0) (t : Tables) (p : ℕ) (h : Holdings)
    → held_in t.processes p ≡ Some h → P h → IfSome (held_in t.processes p) P
held_if P t p h e holds = subst (λ (o : Option Holdings). IfSome o P) (sym e) holds

-- the same for all that a process may have
held_all : (P : Holdings → Type 0) (o : Option Holdings) → ((h : Holdings) → P h) → IfSome o P
held_all P None all = tt
held_all P (Some h) all = all h

-- ---- entries behind others

more_none : (h : Holdings) → with_entries_more [] h ≡ h
more_none h = ap (λ es. record h { space = es }) (append-nil h.space)

pub opens_nothing : (t : Tables) (p : ℕ) → t ≡ held_by (with_entries_more []) t p
opens_nothing t p = sym (held_same (with_entries_more []) (λ h. h) t p
    (held_all (λ h. with_entries_more [] h ≡ h) (held_in t.processes p) more_none) ∙ held_none t p)

pub more_twice : (first second : List (ℕ × Entry)) (t : Tables) (p : ℕ)
    → held_by (with_entries_more second) (held_by (with_entries_more first) t p) p
    ≡ held_by (with_entries_more (first ++ second)) t p
more_twice first second t p =
    held_twice (with_entries_more second) (with_entries_more first) t p
    ∙ held_same (λ h. with_entries_more second (with_entries_more first h))
    (with_entries_more (first ++ second)) t p
    (held_all (λ h. with_entries_more second (with_entries_more first h)
    ≡ with_entries_more (first ++ second) h)
    (held_in t.processes p)
    (λ h. ap (λ es. record h { space = es }) (append_assoc h.space first second)))

-- a page above the others comes last
put_last : (page : ℕ) (entry : Entry) (space : List (ℕ × Entry)) → All (λ e. e.0 < page) space
    → put page entry space ≡ space ++ (page, entry) ∷ []
put_last page entry [] below = refl
put_last page entry (e ∷ space) below =
    let first : e.0 < page = All-head (λ e. e.0 < page) e space below in
    cond-false (nat_lt page e.0) ((page, entry) ∷ e ∷ space) (e ∷ put page entry space)
    (le-ltb page e.0 (omega arith))
    ∙ ap (λ es. e ∷ es) (put_last page entry space (All-tail (λ e. e.0 < page) e space below))

unmapped_above : (page : ℕ) (space : List (ℕ × Entry)) → All (λ e. e.0 < page) space
    → look space page ≡ None
unmapped_above page [] below = refl
unmapped_above page (e ∷ space) below =
    let first : e.0 < page = All-head (λ e. e.0 < page) e space below in
    ap (option_map (λ k. k.1))
    (cond-false (e.0 == page) (Some e) (find (λ k. k.0 == page) space)
    (ne_eqb e.0 page (λ same. omega arith)))
    ∙ unmapped_above page space (All-tail (λ e. e.0 < page) e space below)

-- ---- a place for pages

pub entry_is_more : (t : Tables) (p page : ℕ) (entry : Entry) (more : ℕ) → HasPlace t p page more
    → held_by (with_entry page entry) t p ≡ held_by (with_entries_more ((page, entry) ∷ [])) t p
entry_is_more t p page entry more h =
    held_same (with_entry page entry) (with_entries_more ((page, entry) ∷ [])) t p
    (held_if (λ k. with_entry page entry k ≡ with_entries_more ((page, entry) ∷ []) k) t p h.held
    h.is
    (ap (λ es. record h.held { space = es })
    (put_last page entry h.held.space h.below)))

pub place_unmapped : (t : Tables) (p page more : ℕ) → HasPlace t p page more
    → IfSome (held_in t.processes p) (λ h. look h.space page ≡ None)
place_unmapped t p page more h =
    held_if (λ k. look k.space page ≡ None) t p h.held h.is
    (unmapped_above page h.held.space h.below)

-- the place that is left behind these entries
pub place_after : (t u : Tables) (p page above more left : ℕ) (entries : List (ℕ × Entry))
    → HasPlace t p page more → u ≡ held_by (with_entries_more entries) t p
    → All (λ e. e.0 < above) entries
    → page ≤ above → length entries + left ≤ more → HasPlace u p above left
place_after t u p page above more left entries h e below le fits =
    let room = h.room in
    subst (λ (v : Tables). HasPlace v p above left) (sym e) (record {
      held = with_entries_more entries h.held;
      is = held_after (with_entries_more entries) t p h.held h.is;
      below = All-append (λ e. e.0 < above) h.held.space entries
          (All-weaker (λ e. e.0 < page) (λ e. e.0 < above)
          (λ e lt. omega arith) h.held.space h.below) below;
      room = omega (arith, length-append h.held.space entries);
    })

pub less_place : (t : Tables) (p page more less : ℕ) → HasPlace t p page more → less ≤ more
    → HasPlace t p page less
less_place t p page more less h fits = let room = h.room in
    record { held = h.held; is = h.is; below = h.below; room = omega arith }
