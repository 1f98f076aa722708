-- Children that are linked in rising number: what a new child, a collected one and the end of a
-- parent do to the links.
use Rattle.std.proofs.Common.{◌≡◌, ◌≢◌, ◌⊎◌, ℕ, ◌<◌, ◌≤◌, Bool, true, false, inl, inr, refl, sym}
use Rattle.std.proofs.Common.{ap, ◌∙◌, subst, arith}
use Rattle.std.proofs.lemmas.Bool.{cases_eq, cases_order}
use Rattle.proc_table.specs.Links.{IsNext, AreLinkedBy}

-- ---- one step

pub true_false : {b : Bool} → b ≡ true → b ≡ false → ⊥
true_false t f = let never : true ≡ false = sym t ∙ f in cc

-- the children after a number are the same up to the next one
pub next_same : (c d : ℕ → Bool) (i j : ℕ) → ((k : ℕ) → i < k → k ≤ j → d k ≡ c k) → IsNext c i j
    → IsNext d i j
next_same c d i j same h = record {
  above = h.above;
  low = h.low;
  is = λ l. same j h.above (omega arith) ∙ h.is l;
  none = λ k a b. same k a (omega arith) ∙ h.none k a b;
}

-- a child that is gone was between two others
pub next_joined : (c d : ℕ → Bool) (i m j : ℕ) → ((k : ℕ) → k ≢ m → d k ≡ c k) → d m ≡ false
    → IsNext c i m → IsNext c m j → IsNext d i j
next_joined c d i m j same gone h g = record {
  above = omega (arith, h.above, g.above);
  low = g.low;
  is = λ l. same j (λ e. omega (arith, g.above)) ∙ g.is l;
  none = λ k a b. elim (cases_order k m) [
    | inl e ↦ ap d e ∙ gone
    | inr (inl below) ↦ same k (λ e. omega arith) ∙ h.none k a below
    | inr (inr above) ↦ same k (λ e. omega arith) ∙ g.none k above b
  ];
}

-- two numbers have no child in common as the next
pub next_apart : (c : ℕ → Bool) (i m j : ℕ) → (i ≡ 0) ⊎ (c i ≡ true) → (m ≡ 0) ⊎ (c m ≡ true)
    → IsNext c i j → IsNext c m j → i ≡ m
next_apart c i m j is ms h g = elim (cases_order i m) [
  | inl e ↦ e
  | inr (inl below) ↦ elim ms [
    | inl e ↦ absurd (omega arith)
    | inr t ↦ absurd (true_false t (h.none m below g.above))
  ]
  | inr (inr above) ↦ elim is [
    | inl e ↦ absurd (omega arith)
    | inr t ↦ absurd (true_false t (g.none i above h.above))
  ]
]

-- no child above a number
pub no_next : (c : ℕ → Bool) (i : ℕ) → i < 65536 → ((k : ℕ) → i < k → c k ≡ false)
    → IsNext c i 65536
no_next c i low none = record {
  above = low;
  low = omega arith;
  is = λ l. absurd (omega arith);
  none = λ k a b. none k a;
}

-- what is next is a child, or the end
pub next_is : (c : ℕ → Bool) (i j : ℕ) → IsNext c i j → (j ≡ 65536) ⊎ (c j ≡ true)
next_is c i j h = elim (cases_order j 65536) [
  | inl e ↦ inl e
  | inr (inl below) ↦ inr (h.is below)
  | inr (inr above) ↦ absurd (omega (arith, h.low))
]

-- where a link back leads
pub led : (child : ℕ → ℕ → Bool) (next previous : ℕ → ℕ → ℕ) (q n m : ℕ) → previous q n ≡ m
    → (m ≡ 0) ⊎ (child q m ≡ true) → next q m ≡ n
    → ((previous q n ≡ 0) ⊎ (child q (previous q n) ≡ true)) × (next q (previous q n) ≡ n)
led child next previous q n m e at to =
    subst (λ k. ((k ≡ 0) ⊎ (child q k ≡ true)) × (next q k ≡ n)) (sym e) (at, to)

-- ---- links that were moved

-- the link of one child of p, or of p itself at the head, leads to b; the others stand
pub record IsMoved (head p a b : ℕ) (f g : ℕ → ℕ → ℕ) : Type 0 where
  pub here : 0 < p → g p a ≡ b
  pub heads : (q : ℕ) → q ≢ p → g q head ≡ f q head
  pub others : (q n : ℕ) → n ≢ a → g q n ≡ f q n

-- each child has one parent, and a number
pub record IsFamily (count : ℕ) (child : ℕ → ℕ → Bool) : Type 0 where
  pub unique : (p q n : ℕ) → child p n ≡ true → child q n ≡ true → p ≡ q
  pub from : (p n : ℕ) → child p n ≡ true → 0 < n
  pub within : (p n : ℕ) → child p n ≡ true → n ≤ count
  pub few : count < 65536

module _ (count : ℕ) (child : ℕ → ℕ → Bool) (family : IsFamily count child) where
  pub head_first : (q : ℕ) → child q 0 ≡ true → ⊥
  head_first q t = omega (arith, family.from q 0 t)

  pub head_last : (q : ℕ) → child q 65536 ≡ true → ⊥
  head_last q t = omega (arith, family.within q 65536 t, family.few)

  -- a link that was not moved
  pub stays : (head p a b : ℕ) (f g : ℕ → ℕ → ℕ) → ((q : ℕ) → child q head ≡ true → ⊥)
      → IsMoved head p a b f g → (a ≡ head) ⊎ (child p a ≡ true) → (q n : ℕ)
      → (n ≡ head) ⊎ (child q n ≡ true) → (q ≡ p → n ≢ a) → g q n ≡ f q n
  stays head p a b f g never moved at q n is apart = elim (cases_eq q p) [
    | inl same ↦ moved.others q n (apart same)
    | inr other ↦ elim is [
      | inl e ↦ ap (g q) e ∙ moved.heads q other ∙ ap (f q) (sym e)
      | inr t ↦ moved.others q n (λ e. elim at [
        | inl h ↦ never q (subst (λ k. child q k ≡ true) (e ∙ h) t)
        | inr u ↦ other (family.unique q p n t (subst (λ k. child p k ≡ true) (sym e) u))
      ])
    ]
  ]

  module _ (next previous : ℕ → ℕ → ℕ) (linked : AreLinkedBy count child next previous) where
    -- ---- the same children of each process

    pub linked_same : (child2 : ℕ → ℕ → Bool) (next2 previous2 : ℕ → ℕ → ℕ)
        → ((q n : ℕ) → 0 < q → child2 q n ≡ child q n)
        → ((q n : ℕ) → 0 < q → next2 q n ≡ next q n)
        → ((q n : ℕ) → 0 < q → previous2 q n ≡ previous q n)
        → AreLinkedBy count child2 next2 previous2
    linked_same child2 next2 previous2 same nexts previouses = record {
      given = λ q n above. same q n (omega arith) ∙ linked.given q n above;
      after = λ q n from low at.
          subst (λ j. IsNext (child2 q) n j) (sym (nexts q n from))
          (next_same (child q) (child2 q) n (next q n) (λ k a b. same q k from)
          (linked.after q n from low
          (elim at [ inl e ↦ inl e | inr t ↦ inr (sym (same q n from) ∙ t) ])));
      before = λ q n from low at.
          let old = linked.before q n from low
          (elim at [ inl e ↦ inl e | inr t ↦ inr (sym (same q n from) ∙ t) ]) in
          led child2 next2 previous2 q n (previous q n) (previouses q n from)
          (elim old.0 [ inl e ↦ inl e | inr t ↦ inr (same q (previous q n) from ∙ t) ])
          (nexts q (previous q n) from ∙ old.1);
    }

    -- ---- a child is collected

    module _ (child2 : ℕ → ℕ → Bool) (next2 previous2 : ℕ → ℕ → ℕ) (p c : ℕ)
        (some : 0 < p) (is : child p c ≡ true)
        (gone : (q : ℕ) → child2 q c ≡ false)
        (rest : (q n : ℕ) → n ≢ c → child2 q n ≡ child q n)
        (nexts : IsMoved 0 p (previous p c) (next p c) next next2)
        (previouses : IsMoved 65536 p (next p c) (previous p c) previous previous2) where
      within : p ≤ count
      within = elim (cases_order p count) [
        | inl e ↦ omega arith
        | inr (inl below) ↦ omega arith
        | inr (inr above) ↦ absurd (true_false is (linked.given p c above))
      ]

      before_is : ((previous p c ≡ 0) ⊎ (child p (previous p c) ≡ true))
          × (next p (previous p c) ≡ c)
      before_is = linked.before p c some within (inr is)

      to_c : IsNext (child p) (previous p c) c
      to_c = subst (λ k. IsNext (child p) (previous p c) k) before_is.1
          (linked.after p (previous p c) some within before_is.0)

      from_c : IsNext (child p) c (next p c)
      from_c = linked.after p c some within (inr is)

      after_is : (next p c ≡ 65536) ⊎ (child p (next p c) ≡ true)
      after_is = next_is (child p) c (next p c) from_c

      not_c : (q n : ℕ) → child2 q n ≡ true → n ≢ c
      not_c q n t e = true_false (subst (λ k. child2 q k ≡ true) e t) (gone q)

      started : (q n : ℕ) → (n ≡ 0) ⊎ (child2 q n ≡ true) → (n ≡ 0) ⊎ (child q n ≡ true)
      started q n at =
          elim at [ inl e ↦ inl e | inr t ↦ inr (sym (rest q n (not_c q n t)) ∙ t) ]

      ended : (q n : ℕ) → (n ≡ 65536) ⊎ (child2 q n ≡ true) → (n ≡ 65536) ⊎ (child q n ≡ true)
      ended q n at =
          elim at [ inl e ↦ inl e | inr t ↦ inr (sym (rest q n (not_c q n t)) ∙ t) ]

      -- who was a child of another number is one still
      still : (q n : ℕ) → n ≢ c → (n ≡ 0) ⊎ (child q n ≡ true) → (n ≡ 0) ⊎ (child2 q n ≡ true)
      still q n apart at = elim at [ inl e ↦ inl e | inr t ↦ inr (rest q n apart ∙ t) ]

      -- a next child other than the one that is gone
      step : (q n j : ℕ) → j ≢ c → IsNext (child q) n j → IsNext (child2 q) n j
      step q n j apart h = next_same (child q) (child2 q) n j
          (λ k low high. elim (cases_eq k c) [
            | inl e ↦ ap (child2 q) e ∙ gone q ∙ sym (h.none k low (apart_from k e high))
            | inr other ↦ rest q k other
          ]) h
        where
          apart_from : (k : ℕ) → k ≡ c → k ≤ j → k < j
          apart_from k e high = elim (cases_eq k j) [
            | inl same ↦ absurd (apart (sym same ∙ e))
            | inr other ↦ omega arith
          ]

      after_own : (n : ℕ) → (n ≡ 0) ⊎ (child p n ≡ true) → n ≢ c
          → IsNext (child2 p) n (next2 p n)
      after_own n at apart = elim (cases_eq n (previous p c)) [
        | inl e ↦ subst (λ j. IsNext (child2 p) n j) (sym (ap (next2 p) e ∙ nexts.here some))
            (next_joined (child p) (child2 p) n c (next p c) (rest p) (gone p)
            (subst (λ k. IsNext (child p) k c) (sym e) to_c) from_c)
        | inr other ↦ subst (λ j. IsNext (child2 p) n j)
            (sym (stays 0 p (previous p c) (next p c) next next2 head_first nexts before_is.0 p n at
            (λ _. other)))
            (step p n (next p n)
            (λ e. other (next_apart (child p) n (previous p c) c at before_is.0
            (subst (λ j. IsNext (child p) n j) e (linked.after p n some within at)) to_c))
            (linked.after p n some within at))
      ]

      after_other : (q n : ℕ) → 0 < q → q ≤ count → q ≢ p → (n ≡ 0) ⊎ (child q n ≡ true)
          → IsNext (child2 q) n (next2 q n)
      after_other q n from low other at =
          let old : IsNext (child q) n (next q n) = linked.after q n from low at in
          subst (λ j. IsNext (child2 q) n j)
          (sym (stays 0 p (previous p c) (next p c) next next2 head_first nexts before_is.0 q n at
          (λ same. absurd (other same))))
          (step q n (next q n)
          (λ e. other (family.unique q p c
          (subst (λ j. child q j ≡ true) e
          (old.is (omega (arith, family.within p c is, family.few)))) is)) old)

      before_own : (n : ℕ) → (n ≡ 65536) ⊎ (child p n ≡ true) → n ≢ c
          → ((previous2 p n ≡ 0) ⊎ (child2 p (previous2 p n) ≡ true))
          × (next2 p (previous2 p n) ≡ n)
      before_own n at apart = elim (cases_eq n (next p c)) [
        | inl e ↦ led child2 next2 previous2 p n (previous p c)
            (ap (previous2 p) e ∙ previouses.here some)
            (still p (previous p c) (λ same. omega (arith, to_c.above)) before_is.0)
            (nexts.here some ∙ sym e)
        | inr other ↦
            let old = linked.before p n some within at in
            led child2 next2 previous2 p n (previous p n)
            (stays 65536 p (next p c) (previous p c) previous previous2 head_last previouses
            after_is p n at (λ _. other))
            (still p (previous p n) (λ e. other (sym old.1 ∙ ap (next p) e)) old.0)
            (stays 0 p (previous p c) (next p c) next next2 head_first nexts before_is.0 p
            (previous p n) old.0
            (λ _ e. apart (sym old.1 ∙ ap (next p) e ∙ before_is.1)) ∙ old.1)
      ]

      before_other : (q n : ℕ) → 0 < q → q ≤ count → q ≢ p → (n ≡ 65536) ⊎ (child q n ≡ true)
          → ((previous2 q n ≡ 0) ⊎ (child2 q (previous2 q n) ≡ true))
          × (next2 q (previous2 q n) ≡ n)
      before_other q n from low other at =
          let old = linked.before q n from low at in
          led child2 next2 previous2 q n (previous q n)
          (stays 65536 p (next p c) (previous p c) previous previous2 head_last previouses after_is
          q n at (λ same. absurd (other same)))
          (still q (previous q n) (λ e. gone_other q n other e old.0) old.0)
          (stays 0 p (previous p c) (next p c) next next2 head_first nexts before_is.0 q
          (previous q n) old.0 (λ same. absurd (other same)) ∙ old.1)
        where
          gone_other : (q n : ℕ) → q ≢ p → previous q n ≡ c
              → (previous q n ≡ 0) ⊎ (child q (previous q n) ≡ true) → ⊥
          gone_other q n other e at = elim at [
            | inl z ↦ omega (arith, family.from p c is)
            | inr t ↦ other (family.unique q p c (subst (λ k. child q k ≡ true) e t) is)
          ]

      pub unlinked : AreLinkedBy count child2 next2 previous2
      unlinked = record {
        given = λ q n above. elim (cases_eq n c) [
          | inl e ↦ ap (child2 q) e ∙ gone q
          | inr other ↦ rest q n other ∙ linked.given q n above
        ];
        after = λ q n from low at. elim (cases_eq q p) [
          | inl same ↦ subst (λ m. IsNext (child2 m) n (next2 m n)) (sym same)
              (after_own n
              (subst (λ m. (n ≡ 0) ⊎ (child m n ≡ true)) same (started q n at))
              (elim at [
                | inl z ↦ λ e. omega (arith, family.from p c is)
                | inr t ↦ not_c q n t
              ]))
          | inr other ↦ after_other q n from low other (started q n at)
        ];
        before = λ q n from low at. elim (cases_eq q p) [
          | inl same ↦ subst (λ m. ((previous2 m n ≡ 0) ⊎ (child2 m (previous2 m n) ≡ true))
              × (next2 m (previous2 m n) ≡ n)) (sym same)
              (before_own n
              (subst (λ m. (n ≡ 65536) ⊎ (child m n ≡ true)) same (ended q n at))
              (elim at [
                | inl z ↦ λ e. omega (arith, family.within p c is, family.few)
                | inr t ↦ not_c q n t
              ]))
          | inr other ↦ before_other q n from low other (ended q n at)
        ];
      }

    -- ---- a parent that has no child any more

    pub childless_linked : (child2 : ℕ → ℕ → Bool) (next2 previous2 : ℕ → ℕ → ℕ) (p : ℕ)
        → ((n : ℕ) → child2 p n ≡ false)
        → ((q n : ℕ) → 0 < q → q ≢ p → child2 q n ≡ child q n)
        → next2 p 0 ≡ 65536 → previous2 p 65536 ≡ 0
        → ((q n : ℕ) → q ≢ p → (n ≡ 0) ⊎ (child q n ≡ true) → next2 q n ≡ next q n)
        → ((q n : ℕ) → q ≢ p → (n ≡ 65536) ⊎ (child q n ≡ true) → previous2 q n ≡ previous q n)
        → AreLinkedBy count child2 next2 previous2
    childless_linked child2 next2 previous2 p none rest first last nexts previouses = record {
      given = λ q n above. elim (cases_eq q p) [
        | inl e ↦ ap (λ m. child2 m n) e ∙ none n
        | inr other ↦ rest q n (omega arith) other ∙ linked.given q n above
      ];
      after = λ q n from low at. elim (cases_eq q p) [
        | inl same ↦ subst (λ m. IsNext (child2 m) n (next2 m n)) (sym same)
            (after_none n (subst (λ m. (n ≡ 0) ⊎ (child2 m n ≡ true)) same at))
        | inr other ↦
            let old : (n ≡ 0) ⊎ (child q n ≡ true) =
            elim at [ inl e ↦ inl e | inr t ↦ inr (sym (rest q n from other) ∙ t) ] in
            subst (λ j. IsNext (child2 q) n j) (sym (nexts q n other old))
            (next_same (child q) (child2 q) n (next q n) (λ k a b. rest q k from other)
            (linked.after q n from low old))
      ];
      before = λ q n from low at. elim (cases_eq q p) [
        | inl same ↦ elim at [
          | inl z ↦ led child2 next2 previous2 q n 0
              (ap (λ m. previous2 m n) same ∙ ap (previous2 p) z ∙ last) (inl refl)
              (ap (λ m. next2 m 0) same ∙ first ∙ sym z)
          | inr t ↦ absurd (true_false (subst (λ m. child2 m n ≡ true) same t) (none n))
        ]
        | inr other ↦
            let old = linked.before q n from low
            (elim at [ inl e ↦ inl e | inr t ↦ inr (sym (rest q n from other) ∙ t) ]) in
            led child2 next2 previous2 q n (previous q n)
            (previouses q n other
            (elim at [ inl e ↦ inl e | inr t ↦ inr (sym (rest q n from other) ∙ t) ]))
            (elim old.0 [ inl e ↦ inl e | inr t ↦ inr (rest q (previous q n) from other ∙ t) ])
            (nexts q (previous q n) other old.0 ∙ old.1)
      ];
    }
      where
        after_none : (n : ℕ) → (n ≡ 0) ⊎ (child2 p n ≡ true) → IsNext (child2 p) n (next2 p n)
        after_none n at = elim at [
          | inl z ↦ subst (λ k. IsNext (child2 p) k (next2 p k)) (sym z)
              (subst (λ j. IsNext (child2 p) 0 j) (sym first)
              (no_next (child2 p) 0 (omega arith) (λ k a. none k)))
          | inr t ↦ absurd (true_false t (none n))
        ]
