-- A new child of a process, with the next number: the links lead to it as the last.
use Rattle.std.proofs.Common.{◌≡◌, ◌≢◌, ◌⊎◌, ℕ, ◌+◌, ◌<◌, ◌≤◌, Bool, true, false, inl, inr, refl}
use Rattle.std.proofs.Common.{sym, ap, ◌∙◌, subst, arith}
use Rattle.std.proofs.lemmas.Bool.{cases_eq, cases_order}
use Rattle.proc_table.specs.Links.{IsNext, AreLinkedBy}
use Rattle.proc_table.proofs.Linked.{IsFamily, IsMoved, true_false, no_next, next_is, next_same}
use Rattle.proc_table.proofs.Linked.{next_apart, led, head_first, head_last, stays}

module _ (count : ℕ) (child : ℕ → ℕ → Bool) (family : IsFamily count child)
    (next previous : ℕ → ℕ → ℕ) (linked : AreLinkedBy count child next previous)
    (child2 : ℕ → ℕ → Bool) (next1 next3 next2 previous1 previous3 previous2 : ℕ → ℕ → ℕ)
    (p c : ℕ) (number : c ≡ count + 1) (last : c < 65536) (within : p ≤ count)
    (rest : (q n : ℕ) → n ≢ c → child2 q n ≡ child q n)
    (own : child2 p c ≡ true)
    (foreign : (q : ℕ) → q ≢ p → child2 q c ≡ false)
    (fresh_next : (q n : ℕ) → q ≢ c → n ≢ c → next1 q n ≡ next q n)
    (fresh_first : next1 c 0 ≡ 65536)
    (fresh_previous : (q n : ℕ) → q ≢ c → n ≢ c → previous1 q n ≡ previous q n)
    (fresh_last : previous1 c 65536 ≡ 0)
    (none_last : p ≡ 0 → previous p 65536 ≡ 0)
    (nexts : IsMoved 0 p (previous p 65536) c next1 next3)
    (previouses : IsMoved 65536 p c (previous p 65536) previous1 previous3)
    (nexts_end : IsMoved 0 p c 65536 next3 next2)
    (previouses_end : IsMoved 65536 p 65536 c previous3 previous2) where
  last_is : 0 < p → ((previous p 65536 ≡ 0) ⊎ (child p (previous p 65536) ≡ true))
      × (next p (previous p 65536) ≡ 65536)
  last_is some = linked.before p 65536 some within (inl refl)

  last_at : (previous p 65536 ≡ 0) ⊎ (child p (previous p 65536) ≡ true)
  last_at = elim (cases_order p 0) [
    | inl e ↦ inl (none_last e)
    | inr (inl below) ↦ absurd (omega arith)
    | inr (inr above) ↦ (last_is above).0
  ]

  -- who was a child isn't the new one
  old_child : (q n : ℕ) → child q n ≡ true → n ≢ c
  old_child q n t e = omega (arith, family.within q n t)

  old_start : (q n : ℕ) → (n ≡ 0) ⊎ (child q n ≡ true) → n ≢ c
  old_start q n at = elim at [ inl z ↦ λ e. omega arith | inr t ↦ old_child q n t ]

  old_end : (q n : ℕ) → (n ≡ 65536) ⊎ (child q n ≡ true) → n ≢ c
  old_end q n at = elim at [ inl z ↦ λ e. omega arith | inr t ↦ old_child q n t ]

  no_child : (q n : ℕ) → count < n → child q n ≡ false
  no_child q n above = elim (child q n) as (λ b. child q n ≡ b → b ≡ false) [
    | true ↦ λ t. absurd (omega (arith, family.within q n t))
    | false ↦ λ f. refl
  ] refl

  next_stays : (q n : ℕ) → q ≢ c → (n ≡ 0) ⊎ (child q n ≡ true)
      → (q ≡ p → n ≢ previous p 65536) → next2 q n ≡ next q n
  next_stays q n apart at other = nexts_end.others q n (old_start q n at)
      ∙ stays count child family 0 p (previous p 65536) c next1 next3
      (head_first count child family) nexts last_at q n at other
      ∙ fresh_next q n apart (old_start q n at)

  previous_stays : (q n : ℕ) → q ≢ c → (n ≡ 65536) ⊎ (child q n ≡ true)
      → (q ≡ p → n ≢ 65536) → previous2 q n ≡ previous q n
  previous_stays q n apart at other =
      stays count child family 65536 p 65536 c previous3 previous2
      (head_last count child family) previouses_end (inl refl) q n at other
      ∙ previouses.others q n (old_end q n at) ∙ fresh_previous q n apart (old_end q n at)

  still : (q n : ℕ) → (n ≡ 0) ⊎ (child q n ≡ true) → (n ≡ 0) ⊎ (child2 q n ≡ true)
  still q n at =
      elim at [ inl e ↦ inl e | inr t ↦ inr (rest q n (old_child q n t) ∙ t) ]

  -- the new number itself has no child
  none_of_new : (n : ℕ) → child2 c n ≡ false
  none_of_new n = elim (cases_eq n c) [
    | inl e ↦ ap (child2 c) e ∙ foreign c (λ e. omega arith)
    | inr other ↦ rest c n other ∙ linked.given c n (omega arith)
  ]

  new_first : next2 c 0 ≡ 65536
  new_first = nexts_end.others c 0 (λ e. omega arith) ∙ nexts.heads c (λ e. omega arith)
      ∙ fresh_first

  new_last : previous2 c 65536 ≡ 0
  new_last = previouses_end.heads c (λ e. omega arith)
      ∙ previouses.others c 65536 (λ e. omega arith) ∙ fresh_last

  after_new : (n : ℕ) → (n ≡ 0) ⊎ (child2 c n ≡ true) → IsNext (child2 c) n (next2 c n)
  after_new n at = elim at [
    | inl z ↦ subst (λ k. IsNext (child2 c) k (next2 c k)) (sym z)
        (subst (λ j. IsNext (child2 c) 0 j) (sym new_first)
        (no_next (child2 c) 0 (omega arith) (λ k a. none_of_new k)))
    | inr t ↦ absurd (true_false t (none_of_new n))
  ]

  after_last : 0 < p → IsNext (child2 p) c (next2 p c)
  after_last some = subst (λ j. IsNext (child2 p) c j) (sym (nexts_end.here some))
      (no_next (child2 p) c last
      (λ k above. rest p k (λ e. omega arith) ∙ no_child p k (omega arith)))

  after_own : (n : ℕ) → 0 < p → (n ≡ 0) ⊎ (child p n ≡ true) → IsNext (child2 p) n (next2 p n)
  after_own n some at = elim (cases_eq n (previous p 65536)) [
    | inl e ↦
        let h : IsNext (child p) n 65536 = subst (λ j. IsNext (child p) n j)
        (ap (next p) e ∙ (last_is some).1) (linked.after p n some within at) in
        subst (λ j. IsNext (child2 p) n j)
        (sym (nexts_end.others p n (old_start p n at)
        ∙ ap (next3 p) e ∙ nexts.here some))
        (record {
          above = below_new n at;
          low = omega arith;
          is = λ l. own;
          none = λ k a b. rest p k (λ e. omega arith) ∙ no_more n k h a b;
        })
    | inr other ↦ subst (λ j. IsNext (child2 p) n j)
        (sym (next_stays p n (λ e. omega arith) at (λ _. other)))
        (next_same (child p) (child2 p) n (next p n)
        (λ k a b. rest p k (λ e. before_end n at other k b e))
        (linked.after p n some within at))
  ]
    where
      below_new : (n : ℕ) → (n ≡ 0) ⊎ (child p n ≡ true) → n < c
      below_new n at = elim at [
        | inl z ↦ omega arith
        | inr t ↦ omega (arith, family.within p n t)
      ]

      no_more : (n k : ℕ) → IsNext (child p) n 65536 → n < k → k < c → child p k ≡ false
      no_more n k h a b = h.none k a (omega arith)

      before_end : (n : ℕ) → (n ≡ 0) ⊎ (child p n ≡ true) → n ≢ previous p 65536 → (k : ℕ)
          → k ≤ next p n → k ≡ c → ⊥
      before_end n at other k b e =
          let h = linked.after p n some within at in
          elim (next_is (child p) n (next p n) h) [
            | inl z ↦ other (next_apart (child p) n (previous p 65536) 65536 at (last_is some).0
                (subst (λ j. IsNext (child p) n j) z h)
                (subst (λ j. IsNext (child p) (previous p 65536) j) (last_is some).1
                (linked.after p (previous p 65536) some within (last_is some).0)))
            | inr t ↦ omega (arith, family.within p (next p n) t)
          ]

  after_other : (q n : ℕ) → 0 < q → q ≤ count → q ≢ p → (n ≡ 0) ⊎ (child q n ≡ true)
      → IsNext (child2 q) n (next2 q n)
  after_other q n from low other at =
      subst (λ j. IsNext (child2 q) n j)
      (sym (next_stays q n (λ e. omega arith) at (λ same. absurd (other same))))
      (next_same (child q) (child2 q) n (next q n)
      (λ k a b. elim (cases_eq k c) [
        | inl e ↦ ap (child2 q) e ∙ foreign q other
            ∙ sym (ap (child q) e ∙ no_child q c (omega arith))
        | inr apart ↦ rest q k apart
      ]) (linked.after q n from low at))

  before_new : (n : ℕ) → (n ≡ 65536) ⊎ (child2 c n ≡ true)
      → ((previous2 c n ≡ 0) ⊎ (child2 c (previous2 c n) ≡ true))
      × (next2 c (previous2 c n) ≡ n)
  before_new n at = elim at [
    | inl z ↦ led child2 next2 previous2 c n 0 (ap (previous2 c) z ∙ new_last) (inl refl)
        (new_first ∙ sym z)
    | inr t ↦ absurd (true_false t (none_of_new n))
  ]

  before_last : 0 < p → (n : ℕ) → n ≡ c
      → ((previous2 p n ≡ 0) ⊎ (child2 p (previous2 p n) ≡ true))
      × (next2 p (previous2 p n) ≡ n)
  before_last some n e = led child2 next2 previous2 p n (previous p 65536)
      (ap (previous2 p) e ∙ previouses_end.others p c (λ same. omega arith)
      ∙ previouses.here some) (still p (previous p 65536) last_at)
      (nexts_end.others p (previous p 65536) (old_start p (previous p 65536) last_at)
      ∙ nexts.here some ∙ sym e)

  before_own : (n : ℕ) → 0 < p → (n ≡ 65536) ⊎ (child p n ≡ true)
      → ((previous2 p n ≡ 0) ⊎ (child2 p (previous2 p n) ≡ true))
      × (next2 p (previous2 p n) ≡ n)
  before_own n some at = elim at [
    | inl z ↦ led child2 next2 previous2 p n c (ap (previous2 p) z ∙ previouses_end.here some)
        (inr own) (nexts_end.here some ∙ sym z)
    | inr t ↦
        let old = linked.before p n some within (inr t) in
        let low : n < 65536 = omega (arith, family.within p n t, family.few) in
        led child2 next2 previous2 p n (previous p n)
        (previous_stays p n (λ e. omega arith) (inr t) (λ _ e. omega arith))
        (still p (previous p n) old.0)
        (next_stays p (previous p n) (λ e. omega arith) old.0
        (λ _ e. not_last n low (sym old.1 ∙ ap (next p) e ∙ (last_is some).1)) ∙ old.1)
  ]
    where
      not_last : (n : ℕ) → n < 65536 → n ≡ 65536 → ⊥
      not_last n low e = omega arith

  before_other : (q n : ℕ) → 0 < q → q ≤ count → q ≢ p → (n ≡ 65536) ⊎ (child q n ≡ true)
      → ((previous2 q n ≡ 0) ⊎ (child2 q (previous2 q n) ≡ true))
      × (next2 q (previous2 q n) ≡ n)
  before_other q n from low other at =
      let old = linked.before q n from low at in
      led child2 next2 previous2 q n (previous q n)
      (previous_stays q n (λ e. omega arith) at (λ same. absurd (other same)))
      (still q (previous q n) old.0)
      (next_stays q (previous q n) (λ e. omega arith) old.0 (λ same. absurd (other same))
      ∙ old.1)

  -- whether a child is the new one, whose parent is p
  new_or_old : (q n : ℕ) → child2 q n ≡ true → ((n ≡ c) × (q ≡ p)) ⊎ (child q n ≡ true)
  new_or_old q n t = elim (cases_eq n c) [
    | inl e ↦ elim (cases_eq q p) [
      | inl same ↦ inl (e, same)
      | inr other ↦ absurd
          (true_false (subst (λ k. child2 q k ≡ true) e t) (foreign q other))
    ]
    | inr apart ↦ inr (sym (rest q n apart) ∙ t)
  ]

  after_any : (q n : ℕ) → 0 < q → q ≤ count → (n ≡ 0) ⊎ (child q n ≡ true)
      → IsNext (child2 q) n (next2 q n)
  after_any q n from low at = elim (cases_eq q p) [
    | inl same ↦ subst (λ m. IsNext (child2 m) n (next2 m n)) (sym same)
        (after_own n (omega arith) (subst (λ m. (n ≡ 0) ⊎ (child m n ≡ true)) same at))
    | inr other ↦ after_other q n from low other at
  ]

  before_any : (q n : ℕ) → 0 < q → q ≤ count → (n ≡ 65536) ⊎ (child q n ≡ true)
      → ((previous2 q n ≡ 0) ⊎ (child2 q (previous2 q n) ≡ true))
      × (next2 q (previous2 q n) ≡ n)
  before_any q n from low at = elim (cases_eq q p) [
    | inl same ↦ subst (λ m. ((previous2 m n ≡ 0) ⊎ (child2 m (previous2 m n) ≡ true))
        × (next2 m (previous2 m n) ≡ n)) (sym same)
        (before_own n (omega arith) (subst (λ m. (n ≡ 65536) ⊎ (child m n ≡ true)) same at))
    | inr other ↦ before_other q n from low other at
  ]

  pub grown : AreLinkedBy c child2 next2 previous2
  grown = record {
    given = λ q n above. elim (cases_eq n c) [
      | inl e ↦ ap (child2 q) e ∙ foreign q (λ e. omega arith)
      | inr other ↦ rest q n other ∙ linked.given q n (omega arith)
    ];
    after = λ q n from low at. elim (cases_eq q c) [
      | inl e ↦ subst (λ m. IsNext (child2 m) n (next2 m n)) (sym e)
          (after_new n (subst (λ m. (n ≡ 0) ⊎ (child2 m n ≡ true)) e at))
      | inr other ↦ elim at [
        | inl z ↦ after_any q n from (omega arith) (inl z)
        | inr t ↦ elim (new_or_old q n t) [
          | inl h ↦ subst (λ m. IsNext (child2 m) n (next2 m n)) (sym h.1)
              (subst (λ k. IsNext (child2 p) k (next2 p k)) (sym h.0)
              (after_last (omega (arith, h.1))))
          | inr u ↦ after_any q n from (omega arith) (inr u)
        ]
      ]
    ];
    before = λ q n from low at. elim (cases_eq q c) [
      | inl e ↦ subst (λ m. ((previous2 m n ≡ 0) ⊎ (child2 m (previous2 m n) ≡ true))
          × (next2 m (previous2 m n) ≡ n)) (sym e)
          (before_new n (subst (λ m. (n ≡ 65536) ⊎ (child2 m n ≡ true)) e at))
      | inr other ↦ elim at [
        | inl z ↦ before_any q n from (omega arith) (inl z)
        | inr t ↦ elim (new_or_old q n t) [
          | inl h ↦ subst (λ m. ((previous2 m n ≡ 0) ⊎ (child2 m (previous2 m n) ≡ true))
              × (next2 m (previous2 m n) ≡ n)) (sym h.1)
              (before_last (omega (arith, h.1)) n h.0)
          | inr u ↦ before_any q n from (omega arith) (inr u)
        ]
      ]
    ];
  }
