-- Rows of bits: paths through them, and their closure.
use Rattle.std.proofs.Common.{◌≡◌, ◌↔◌, ◌⊎◌, inl, inr, ℕ, zero, suc, ◌+◌, ◌<◌, ◌≤◌, Bool, true, false, ◌||◌, ◌&&◌, List, [], ◌∷◌, ◌++◌, length, length-append, get_or, set, refl, ap, ap₂, sym, subst, ◌∙◌, arith}
use Rattle.std.proofs.lemmas.Bool.{cases_eq, cases_lt, true≢false}
use Rattle.std.proofs.lemmas.List.{get_or_past, get_or-set_other, get_or-set_same}
use Rattle.bit_sets.specs.Blocks.{HasBitsOfBoth, has_bit}
use Rattle.chart_links.specs.Rows.{AreEmpty, AreGathered, IsClosure, IsGathered, IsIdentity, IsPassed, IsPath, RowHas, at_once, by_way, row_has}
use Rattle.chart_links.proofs.BitFacts.{had_either, none_had, or_true_is}

-- behind the last row there is nothing
pub no_row : (rows : List (List ℕ)) (u v : ℕ) → length rows ≤ u → RowHas rows u v → ⊥
no_row rows u v high h = true≢false (sym h ∙ ap (λ (l : List ℕ). has_bit l v) (get_or_past rows u [] high) ∙ none_had v)

pub row_below : (rows : List (List ℕ)) (u v : ℕ) → RowHas rows u v → u < length rows
row_below rows u v h = elim (cases_lt u (length rows)) [ inl lt ↦ lt | inr high ↦ absurd (no_row rows u v high h) ]

and_true_is : (a b : Bool) → ((a && b) ≡ true) ↔ ((a ≡ true) × (b ≡ true))
and_true_is true b = (λ h. (refl, h), λ p. p.1)
and_true_is false b = (λ h. absurd (true≢false (sym h)), λ p. absurd (true≢false (sym p.0)))

-- what a pass adds
pub passed_is : (middle : ℕ) (through : List ℕ) (old new : List (List ℕ)) → IsPassed middle through old new → (u v : ℕ)
    → RowHas new u v ↔ (RowHas old u v ⊎ (RowHas old u middle × (has_bit through v ≡ true)))
passed_is middle through old new h u v = (
  λ n. elim ((or_true_is (row_has old u v) (row_has old u middle && has_bit through v)).0 (sym (h.has u v) ∙ n)) [
    | inl o ↦ inl o
    | inr b ↦ inr ((and_true_is (row_has old u middle) (has_bit through v)).0 b)
  ],
  λ s. h.has u v ∙ (or_true_is (row_has old u v) (row_has old u middle && has_bit through v)).1 (elim s [
    | inl o ↦ inl o
    | inr b ↦ inr ((and_true_is (row_has old u middle) (has_bit through v)).1 b)
  ]),
)

-- two paths in a row
pub joined : {rows : List (List ℕ)} {u v w : ℕ} → IsPath rows u v → IsPath rows v w → IsPath rows u w
joined (at_once h) q = by_way h q
joined (by_way h p) q = by_way h (joined p q)

-- the rows are those of paths, have the old ones, and are closed at each number below that one
pub record IsClosing (old : List (List ℕ)) (below : ℕ) (rows : List (List ℕ)) : Type 0 where
  pub len : length rows ≡ length old
  pub sound : (u v : ℕ) → RowHas rows u v → IsPath old u v
  pub kept : (u v : ℕ) → RowHas old u v → RowHas rows u v
  pub closed : (m : ℕ) → m < below → (u v : ℕ) → RowHas rows u m → RowHas rows m v → RowHas rows u v

pub closing_start : (old : List (List ℕ)) → IsClosing old 0 old
closing_start old = record { len = refl; sound = λ u v h. at_once h; kept = λ u v h. h; closed = λ m lt. absurd (omega arith) }

module _ (old rows new : List (List ℕ)) (k : ℕ) (k_is : IsClosing old k rows) (passed : IsPassed k (get_or rows k []) rows new) where
  is : (u v : ℕ) → RowHas new u v ↔ (RowHas rows u v ⊎ (RowHas rows u k × RowHas rows k v))
  is u v = passed_is k (get_or rows k []) rows new passed u v

  closed_at : (m : ℕ) → m < k → (u v : ℕ) → RowHas rows u m ⊎ (RowHas rows u k × RowHas rows k m) → RowHas rows m v ⊎ (RowHas rows m k × RowHas rows k v) → RowHas rows u v ⊎ (RowHas rows u k × RowHas rows k v)
  closed_at m lt u v (inl a) (inl b) = inl (k_is.closed m lt u v a b)
  closed_at m lt u v (inl a) (inr b) = inr (k_is.closed m lt u k a b.0, b.1)
  closed_at m lt u v (inr a) (inl b) = inr (a.0, k_is.closed m lt k v a.1 b)
  closed_at m lt u v (inr a) (inr b) = inr (a.0, b.1)

  closed_here : (u v : ℕ) → RowHas rows u k ⊎ (RowHas rows u k × RowHas rows k k) → RowHas rows k v ⊎ (RowHas rows k k × RowHas rows k v) → RowHas rows u v ⊎ (RowHas rows u k × RowHas rows k v)
  closed_here u v (inl a) (inl b) = inr (a, b)
  closed_here u v (inl a) (inr b) = inr (a, b.1)
  closed_here u v (inr a) (inl b) = inr (a.0, b)
  closed_here u v (inr a) (inr b) = inr (a.0, b.1)

  closed_new : (m : ℕ) → m < k + 1 → (u v : ℕ) → RowHas new u m → RowHas new m v → RowHas new u v
  closed_new m lt u v a b = elim (cases_eq m k) [
    | inl e ↦ (is u v).1 (by e ((is u m).0 a) ((is m v).0 b))
    | inr ne ↦ (is u v).1 (closed_at m (omega arith) u v ((is u m).0 a) ((is m v).0 b))
  ]
    where
      by : m ≡ k → RowHas rows u m ⊎ (RowHas rows u k × RowHas rows k m) → RowHas rows m v ⊎ (RowHas rows m k × RowHas rows k v) → RowHas rows u v ⊎ (RowHas rows u k × RowHas rows k v)
      by e p q =
          let at : RowHas rows u k ⊎ (RowHas rows u k × RowHas rows k k) = subst (λ (z : ℕ). RowHas rows u z ⊎ (RowHas rows u k × RowHas rows k z)) e p in
          let from : RowHas rows k v ⊎ (RowHas rows k k × RowHas rows k v) = subst (λ (z : ℕ). RowHas rows z v ⊎ (RowHas rows z k × RowHas rows k v)) e q in
          closed_here u v at from

  pub closing_step : IsClosing old (k + 1) new
  closing_step = record {
    len = passed.len ∙ k_is.len;
    sound = λ u v h. elim ((is u v).0 h) [ inl a ↦ k_is.sound u v a | inr b ↦ joined (k_is.sound u k b.0) (k_is.sound k v b.1) ];
    kept = λ u v h. (is u v).1 (inl (k_is.kept u v h));
    closed = closed_new;
  }

pub closing_end : (old rows : List (List ℕ)) (k : ℕ) → length old ≤ k → IsClosing old k rows → IsClosure old rows
closing_end old rows k all h = record { len = h.len; has = λ u v. (h.sound u v, whole u v) }
  where
    at : (m u v : ℕ) → RowHas rows u m → RowHas rows m v → RowHas rows u v
    at m u v a b = let low : m < length rows = row_below rows m v b in h.closed m (omega (arith, low, all, h.len)) u v a b

    whole : (u v : ℕ) → IsPath old u v → RowHas rows u v
    whole u v (at_once a) = h.kept u v a
    whole u w (by_way {v = m} a p) = at m u w (h.kept u m a) (whole m w p)

-- ---- sets gathered

-- one of the first sets has the number
pub record IsGatheredBelow (below : ℕ) (first : List ℕ) (sets : List (List ℕ)) (n : ℕ) : Type 0 where
  pub middle : ℕ
  pub low : middle < below
  pub leads : has_bit first middle ≡ true
  pub has : RowHas sets middle n

module _ (first : List ℕ) (sets : List (List ℕ)) (k : ℕ) (row : List ℕ) (so_far : (n : ℕ) → (has_bit row n ≡ true) ↔ IsGatheredBelow k first sets n) where
  pub gather_more : (new : List ℕ) → HasBitsOfBoth row (get_or sets k []) new → has_bit first k ≡ true → (n : ℕ) → (has_bit new n ≡ true) ↔ IsGatheredBelow (k + 1) first sets n
  gather_more new united leads n = (to, from)
    where
      to : has_bit new n ≡ true → IsGatheredBelow (k + 1) first sets n
      to h = elim ((or_true_is (has_bit row n) (row_has sets k n)).0 (sym (had_either row (get_or sets k []) new united n) ∙ h)) [
        | inl old ↦ let g = (so_far n).0 old in record { middle = g.middle; low = omega (arith, g.low); leads = g.leads; has = g.has }
        | inr here ↦ record { middle = k; low = omega arith; leads = leads; has = here }
      ]

      from : IsGatheredBelow (k + 1) first sets n → has_bit new n ≡ true
      from g = had_either row (get_or sets k []) new united n ∙ (or_true_is (has_bit row n) (row_has sets k n)).1 (elim (cases_eq g.middle k) [
        | inl e ↦ inr (subst (λ (z : ℕ). RowHas sets z n) e g.has)
        | inr ne ↦ inl ((so_far n).1 (record { middle = g.middle; low = omega (arith, g.low, ne); leads = g.leads; has = g.has }))
      ])

  pub gather_not : has_bit first k ≡ false → (n : ℕ) → (has_bit row n ≡ true) ↔ IsGatheredBelow (k + 1) first sets n
  gather_not lacks n = (
    λ h. let g = (so_far n).0 h in record { middle = g.middle; low = omega (arith, g.low); leads = g.leads; has = g.has },
    λ g. elim (cases_eq g.middle k) [
      | inl e ↦ absurd (true≢false (sym g.leads ∙ ap (has_bit first) e ∙ lacks))
      | inr ne ↦ (so_far n).1 (record { middle = g.middle; low = omega (arith, g.low, ne); leads = g.leads; has = g.has })
    ],
  )

pub gathered_start : (first : List ℕ) (sets : List (List ℕ)) (row : List ℕ) → row ≡ [] → (n : ℕ) → (has_bit row n ≡ true) ↔ IsGatheredBelow 0 first sets n
gathered_start first sets row e n = (λ h. absurd (true≢false (sym h ∙ ap (λ (l : List ℕ). has_bit l n) e ∙ none_had n)), λ g. absurd (omega (arith, g.low)))

pub gathered_end : (first : List ℕ) (sets : List (List ℕ)) (k : ℕ) (row : List ℕ) → length sets ≤ k → ((n : ℕ) → (has_bit row n ≡ true) ↔ IsGatheredBelow k first sets n) → (n : ℕ) → (has_bit row n ≡ true) ↔ IsGathered first sets n
gathered_end first sets k row all h n = (
  λ b. let g = (h n).0 b in record { middle = g.middle; leads = g.leads; has = g.has },
  λ g. (h n).1 (let low : g.middle < length sets = row_below sets g.middle n g.has in record { middle = g.middle; low = omega (arith, low, all); leads = g.leads; has = g.has }),
)

-- ---- one row more

pub row_snoc : (rows : List (List ℕ)) (row : List ℕ) (u v : ℕ) → RowHas (rows ++ row ∷ []) u v ↔ (RowHas rows u v ⊎ ((u ≡ length rows) × (has_bit row v ≡ true)))
row_snoc [] row zero v = (λ h. inr (refl, h), λ s. elim s [ inl h ↦ absurd (no_row [] 0 v (omega arith) h) | inr p ↦ p.1 ])
row_snoc [] row (suc u) v = (
  λ h. absurd (no_row (row ∷ []) (suc u) v (omega arith) h),
  λ s. elim s [ inl h ↦ absurd (no_row [] (suc u) v (omega arith) h) | inr p ↦ absurd (omega (arith, p.0)) ],
)
row_snoc (r ∷ rs) row zero v = (λ h. inl h, λ s. elim s [ inl h ↦ h | inr p ↦ absurd (omega (arith, p.0)) ])
row_snoc (r ∷ rs) row (suc u) v =
    let back = row_snoc rs row u v in (
      λ h. elim (back.0 h) [ inl there ↦ inl there | inr p ↦ inr (omega (arith, p.0), p.1) ],
      λ s. back.1 (elim s [ inl there ↦ inl there | inr p ↦ inr (omega (arith, p.0), p.1) ]),
    )

pub identity_start : (rows : List (List ℕ)) → rows ≡ [] → IsIdentity 0 rows
identity_start rows e = record { len = ap length e; has = λ u v. (λ h. absurd (no_row rows u v (omega (arith, ap length e)) h), λ p. absurd (omega (arith, p.0))) }

pub identity_more : (k : ℕ) (rows new : List (List ℕ)) (row : List ℕ) → new ≡ rows ++ row ∷ [] → ((n : ℕ) → (has_bit row n ≡ true) ↔ (n ≡ k)) → IsIdentity k rows → IsIdentity (k + 1) new
identity_more k rows new row made only h = record {
  len = omega (arith, ap length made, length-append rows (row ∷ []), h.len);
  has = λ u v. (to u v, from u v);
}
  where
    to : (u v : ℕ) → RowHas new u v → (u < k + 1) × (v ≡ u)
    to u v b = elim ((row_snoc rows row u v).0 (subst (λ (l : List (List ℕ)). RowHas l u v) made b)) [
      | inl there ↦ let p = (h.has u v).0 there in (omega (arith, p.0), p.1)
      | inr here ↦ (omega (arith, here.0, h.len), omega (arith, (only v).0 here.1, here.0, h.len))
    ]

    from : (u v : ℕ) → (u < k + 1) × (v ≡ u) → RowHas new u v
    from u v p = subst (λ (l : List (List ℕ)). RowHas l u v) (sym made) ((row_snoc rows row u v).1 (elim (cases_eq u k) [
      | inl e ↦ inr (omega (arith, e, h.len), (only v).1 (omega (arith, p.1, e)))
      | inr ne ↦ inl ((h.has u v).1 (omega (arith, p.0, ne), p.1))
    ]))

pub gathered_all : (over sets rows : List (List ℕ)) (k : ℕ) → length over ≤ k → length rows ≡ k → k ≤ length over → ((u n : ℕ) → u < k → RowHas rows u n ↔ IsGathered (get_or over u []) sets n) → AreGathered over sets rows
gathered_all over sets rows k all len few h = record {
  len = omega (arith, all, len, few);
  has = λ u n. elim (cases_lt u k) [
    | inl lt ↦ h u n lt
    | inr high ↦ (
      λ b. absurd (no_row rows u n (omega (arith, high, len)) b),
      λ g. absurd (true≢false (sym g.leads ∙ ap (λ (l : List ℕ). has_bit l g.middle) (get_or_past over u [] (omega (arith, high, all))) ∙ none_had g.middle)),
    )
  ];
}

pub passed_all : (middle k : ℕ) (through : List ℕ) (old rows : List (List ℕ)) → length old ≤ k → length rows ≡ length old
    → ((u v : ℕ) → u < k → row_has rows u v ≡ (row_has old u v || (row_has old u middle && has_bit through v))) → IsPassed middle through old rows
passed_all middle k through old rows all len h = record {
  len = len;
  has = λ u v. elim (cases_lt u k) [
    | inl lt ↦ h u v lt
    | inr high ↦
        let new_lacks : row_has rows u v ≡ false = lacks rows u v (omega (arith, high, all, len)) in
        let old_lacks : row_has old u v ≡ false = lacks old u v (omega (arith, high, all)) in
        let mid_lacks : row_has old u middle ≡ false = lacks old u middle (omega (arith, high, all)) in
        new_lacks ∙ sym (ap₂ (λ (a b : Bool). a || (b && has_bit through v)) old_lacks mid_lacks)
  ];
}
  where
    lacks : (l : List (List ℕ)) (u v : ℕ) → length l ≤ u → row_has l u v ≡ false
    lacks l u v high = ap (λ (r : List ℕ). has_bit r v) (get_or_past l u [] high) ∙ none_had v

pub empty_start : (rows : List (List ℕ)) → rows ≡ [] → AreEmpty 0 rows
empty_start rows e = record { len = ap length e; none = λ u v h. no_row rows u v (omega (arith, ap length e)) h }

pub empty_more : (k : ℕ) (rows new : List (List ℕ)) (row : List ℕ) → new ≡ rows ++ row ∷ [] → row ≡ [] → AreEmpty k rows → AreEmpty (k + 1) new
empty_more k rows new row made e h = record {
  len = omega (arith, ap length made, length-append rows (row ∷ []), h.len);
  none = λ u v b. elim ((row_snoc rows row u v).0 (subst (λ (l : List (List ℕ)). RowHas l u v) made b)) [
    | inl there ↦ h.none u v there
    | inr here ↦ true≢false (sym here.1 ∙ ap (λ (l : List ℕ). has_bit l v) e ∙ none_had v)
  ];
}

-- ---- one row united with a set

pub row_united : (rows : List (List ℕ)) (k : ℕ) (row more new : List ℕ) → k < length rows → row ≡ get_or rows k [] → HasBitsOfBoth row more new → (u n : ℕ)
    → RowHas (set rows k new) u n ↔ (RowHas rows u n ⊎ ((u ≡ k) × (has_bit more n ≡ true)))
row_united rows k row more new low is united u n = elim (cases_eq u k) [
  | inl e ↦
      let here : get_or (set rows k new) u [] ≡ new = ap (λ (z : ℕ). get_or (set rows k new) z []) e ∙ get_or-set_same rows k new [] low in
      let old : get_or rows u [] ≡ row = ap (λ (z : ℕ). get_or rows z []) e ∙ sym is in
      let both : row_has (set rows k new) u n ≡ (row_has rows u n || has_bit more n) =
      ap (λ (l : List ℕ). has_bit l n) here ∙ had_either row more new united n ∙ ap (λ (l : List ℕ). has_bit l n || has_bit more n) (sym old) in
      let cases = or_true_is (row_has rows u n) (has_bit more n) in (
        λ h. elim (cases.0 (sym both ∙ h)) [ inl a ↦ inl a | inr b ↦ inr (e, b) ],
        λ s. both ∙ cases.1 (elim s [ inl a ↦ inl a | inr p ↦ inr p.1 ]),
      )
  | inr ne ↦
      let same : row_has (set rows k new) u n ≡ row_has rows u n = ap (λ (l : List ℕ). has_bit l n) (get_or-set_other rows k u new [] ne) in
      (λ h. inl (sym same ∙ h), λ s. elim s [ inl a ↦ same ∙ a | inr p ↦ absurd (ne p.0) ])
]
