-- The two ways along the links, on to the next child and back to the one before: what is read of a
-- link that is written, and what stays.
use Rattle.std.proofs.Common.{◌≡◌, ◌≢◌, ℕ, ◌-◌, ◌<◌, ◌≤◌, Bool, true, false, cond, List, length}
use Rattle.std.proofs.Common.{get_or}
use Rattle.std.proofs.Common.{Option, Some, None, option_map, IsSome, inl, inr, refl, sym, ap, ◌∙◌}
use Rattle.std.proofs.Common.{subst, arith}
use Rattle.std.specs.Prelude.{◌==◌}
use Rattle.std.proofs.lemmas.Bool.{cases_eq, cases_order}
use Rattle.std.proofs.lemmas.Bool.Decides.{nat_tests}
use Rattle.dos_world.specs.Numbered.{numbered, changed}
use Rattle.proc_table.specs.declared.record.Links.{Links}
use Rattle.proc_table.specs.Links.{first_to, last_to, links_at, next_in, next_to, no_links}
use Rattle.proc_table.specs.Links.{previous_in, previous_to}
use Rattle.proc_table.proofs.Lengths.{changed_length}
use Rattle.proc_table.proofs.Linked.{IsMoved}
use Rattle.proc_table.proofs.Moved.{beyond, elsewhere, here, number_read, there}

-- ---- the links of one number

pub is_at : (n m : ℕ) → n ≡ m → (n == m) ≡ true
is_at n m e = grind (arith, nat_tests)

pub not_at : (n m : ℕ) → n ≢ m → (n == m) ≡ false
not_at n m apart = grind (arith, nat_tests)

abbrev pub links_of : Option Links → Links
links_of o = elim o [ None ↦ no_links | Some l ↦ l ]

pub links_read : (L : List Links) (n : ℕ) (x : Links) → 0 < n → n ≤ length L
    → x ≡ get_or L (n - 1) x → links_at L n ≡ x
links_read L n x some within read = ap links_of (number_read L n x some within read)

pub links_here : (f : Links → Links) (L : List Links) (n : ℕ) → 0 < n → n ≤ length L
    → links_at (changed f L n) n ≡ f (links_at L n)
links_here f L n a b = ap links_of (here f L n) ∙ by (numbered L n) (there L n a b)
  where
    by : (o : Option Links) → IsSome o → links_of (option_map f o) ≡ f (links_of o)
    by None h = cc
    by (Some l) h = refl

pub links_elsewhere : (f : Links → Links) (L : List Links) (n m : ℕ) → m ≢ n
    → links_at (changed f L n) m ≡ links_at L m
links_elsewhere f L n m apart = ap links_of (elsewhere f L n m apart)

-- what a change leaves alone
pub field_stays : (field : Links → ℕ) (f : Links → Links) → ((l : Links) → field (f l) ≡ field l)
    → (L : List Links) (n m : ℕ) → field (links_at (changed f L n) m) ≡ field (links_at L m)
field_stays field f same L n m = elim (cases_eq m n) [
  | inl e ↦ elim (cases_order 0 n) [
    | inl z ↦ ap (λ k. field (links_at (changed f L k) m)) (sym z)
    | inr (inl some) ↦ elim (cases_order n (length L)) [
      | inl last ↦ within e some (omega arith)
      | inr (inl below) ↦ within e some (omega arith)
      | inr (inr above) ↦ outside e above
    ]
    | inr (inr never) ↦ absurd (omega arith)
  ]
  | inr apart ↦ ap field (links_elsewhere f L n m apart)
]
  where
    within : m ≡ n → 0 < n → n ≤ length L
        → field (links_at (changed f L n) m) ≡ field (links_at L m)
    within e some low = ap (λ k. field (links_at (changed f L n) k)) e
        ∙ ap field (links_here f L n some low) ∙ same (links_at L n)
        ∙ ap (λ k. field (links_at L k)) (sym e)

    outside : m ≡ n → length L < n → field (links_at (changed f L n) m) ≡ field (links_at L m)
    outside e above =
        ap (λ o. field (links_of o))
        (beyond (changed f L n) m (omega (arith, changed_length f L n)))
        ∙ sym (ap (λ o. field (links_of o)) (beyond L m (omega arith)))

-- ---- one way

-- From the edge of a way the parent's own links lead to a child, and from there the child's.
pub record Way : Type 0 where
  pub edge : ℕ
  pub head : Links → ℕ
  pub link : Links → ℕ
  pub head_to : ℕ → Links → Links
  pub link_to : ℕ → Links → Links
  pub head_written : (n : ℕ) (l : Links) → head (head_to n l) ≡ n
  pub link_written : (n : ℕ) (l : Links) → link (link_to n l) ≡ n
  pub head_stays : (n : ℕ) (l : Links) → head (link_to n l) ≡ head l
  pub link_stays : (n : ℕ) (l : Links) → link (head_to n l) ≡ link l

abbrev pub on : Way
on = record {
  edge = 0;
  head = λ l. l.first;
  link = λ l. l.next;
  head_to = first_to;
  link_to = next_to;
  head_written = λ n l. refl;
  link_written = λ n l. refl;
  head_stays = λ n l. refl;
  link_stays = λ n l. refl;
}

abbrev pub back : Way
back = record {
  edge = 65536;
  head = λ l. l.last;
  link = λ l. l.previous;
  head_to = last_to;
  link_to = previous_to;
  head_written = λ n l. refl;
  link_written = λ n l. refl;
  head_stays = λ n l. refl;
  link_stays = λ n l. refl;
}

-- where the way leads, of this parent's children
abbrev pub along : Way → List Links → ℕ → ℕ → ℕ
along w L q n = cond (n == w.edge) (w.head (links_at L q)) (w.link (links_at L n))

-- with b after a on the way
abbrev pub leading : Way → List Links → ℕ → ℕ → ℕ → List Links
leading w L p a b = cond (a == w.edge) (changed (w.head_to b) L p) (changed (w.link_to b) L a)

module _ (w : Way) where
  from_edge : (L : List Links) (q n : ℕ) → n ≡ w.edge → along w L q n ≡ w.head (links_at L q)
  from_edge L q n e =
      ap (λ b. cond b (w.head (links_at L q)) (w.link (links_at L n))) (is_at n w.edge e)

  pub from_child : (L : List Links) (q n : ℕ) → n ≢ w.edge
      → along w L q n ≡ w.link (links_at L n)
  from_child L q n apart =
      ap (λ b. cond b (w.head (links_at L q)) (w.link (links_at L n))) (not_at n w.edge apart)

  -- two lists of links with the same fields for this way
  pub alike : (L M : List Links) (q n : ℕ) → w.head (links_at M q) ≡ w.head (links_at L q)
      → w.link (links_at M n) ≡ w.link (links_at L n) → along w M q n ≡ along w L q n
  alike L M q n head link = elim (n == w.edge) as (λ b.
      cond b (w.head (links_at M q)) (w.link (links_at M n))
      ≡ cond b (w.head (links_at L q)) (w.link (links_at L n))) [ true ↦ head | false ↦ link ]

  module _ (L : List Links) (p a b : ℕ) where
    abbrev chosen : Bool → List Links
    chosen t = cond t (changed (w.head_to b) L p) (changed (w.link_to b) L a)

    -- which link is written
    pub head_is : a ≡ w.edge → changed (w.head_to b) L p ≡ leading w L p a b
    head_is e = sym (ap chosen (is_at a w.edge e))

    pub link_is : a ≢ w.edge → changed (w.link_to b) L a ≡ leading w L p a b
    link_is apart = sym (ap chosen (not_at a w.edge apart))

    either : (P : List Links → Type 0) → (a ≡ w.edge → P (changed (w.head_to b) L p))
        → (a ≢ w.edge → P (changed (w.link_to b) L a)) → P (leading w L p a b)
    either P head link = elim (cases_eq a w.edge) [
      | inl e ↦ subst P (head_is e) (head e)
      | inr apart ↦ subst P (link_is apart) (link apart)
    ]

    pub leading_length : length (leading w L p a b) ≡ length L
    leading_length = either (λ M. length M ≡ length L) (λ e. changed_length (w.head_to b) L p)
        (λ e. changed_length (w.link_to b) L a)

    -- what is of the other way
    pub others_stay : (field : Links → ℕ) → ((l : Links) → field (w.head_to b l) ≡ field l)
        → ((l : Links) → field (w.link_to b l) ≡ field l) → (n : ℕ)
        → field (links_at (leading w L p a b) n) ≡ field (links_at L n)
    others_stay field head link n = either (λ M. field (links_at M n) ≡ field (links_at L n))
        (λ e. field_stays field (w.head_to b) head L p n)
        (λ e. field_stays field (w.link_to b) link L a n)

    pub moved : 0 < p → p ≤ length L → (a ≢ w.edge → (0 < a) × (a ≤ length L))
        → IsMoved w.edge p a b (along w L) (along w (leading w L p a b))
    moved some low child = either (λ M. IsMoved w.edge p a b (along w L) (along w M))
        (λ e. record {
          here = λ _. from_edge (changed (w.head_to b) L p) p a e
              ∙ ap w.head (links_here (w.head_to b) L p some low)
              ∙ w.head_written b (links_at L p);
          heads = λ q other. alike L (changed (w.head_to b) L p) q w.edge
              (ap w.head (links_elsewhere (w.head_to b) L p q other))
              (field_stays w.link (w.head_to b) (w.link_stays b) L p w.edge);
          others = λ q n apart.
              from_child (changed (w.head_to b) L p) q n (λ z. apart (z ∙ sym e))
              ∙ field_stays w.link (w.head_to b) (w.link_stays b) L p n
              ∙ sym (from_child L q n (λ z. apart (z ∙ sym e)));
        })
        (λ other. record {
          here = λ _. from_child (changed (w.link_to b) L a) p a other
              ∙ ap w.link (links_here (w.link_to b) L a (child other).0 (child other).1)
              ∙ w.link_written b (links_at L a);
          heads = λ q apart. alike L (changed (w.link_to b) L a) q w.edge
              (field_stays w.head (w.link_to b) (w.head_stays b) L a q)
              (ap w.link (links_elsewhere (w.link_to b) L a w.edge (λ e. other (sym e))));
          others = λ q n apart. alike L (changed (w.link_to b) L a) q n
              (field_stays w.head (w.link_to b) (w.head_stays b) L a q)
              (ap w.link (links_elsewhere (w.link_to b) L a n apart));
        })

-- what is read of a child's own links
pub own_read : (L : List Links) (p : ℕ) {c : ℕ} {x : Links}
    → (0 < c) × (c ≤ length L) × (c < 65536) → x ≡ get_or L (c - 1) x
    → (x.previous ≡ previous_in L p c) × (x.next ≡ next_in L p c)
own_read L p {c} {x} given read =
    let is : links_at L c ≡ x = links_read L c x given.0 given.1 read in (
      sym (from_child back L p c (λ e. omega (arith, given.2, e))
          ∙ ap (λ (l : Links). l.previous) is),
      sym (from_child on L p c (λ e. omega (arith, given.0, e)) ∙ ap (λ (l : Links). l.next) is),
    )
