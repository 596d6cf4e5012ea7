-- What is drawn, sorted: an order of all gives ranks, and where the sorting is stuck each event that remains comes behind one.
use Rattle.std.proofs.Common.{◌≡◌, ◌<◌, ◌≤◌, ◌+◌, ◌-◌, ◌⊎◌, inl, inr, ℕ, zero, suc, List, [], ◌∷◌, ◌++◌, get_or, length, take, All, refl, sym, subst, arith}
use Rattle.std.proofs.lemmas.Bool.{cases_eq, cases_lt}
use Rattle.std.proofs.lemmas.List.{take_more}
use Rattle.column_order.specs.Counts.{Inside, EdgeLeads}
use Rattle.column_order.specs.Orders.{IsStuckAt, IsWhole}
use Rattle.column_order.specs.declared.edge.Edge.{Edge}
use Rattle.column_order.proofs.Arranged.{IsOrder, whole_order}
use Rattle.column_order.proofs.Columns.{all_leads_inside}
use Rattle.column_order.proofs.Counting.{free, free_less, has_false}
use Rattle.column_order.proofs.Exchange.{has_either}
use Rattle.column_order.proofs.Ranks.{has_or_not}
use Rattle.msc_base.specs.Lists.{IsAmong}
use Rattle.expansion_tree.specs.Numbered.{Expansion}
use Rattle.expansion_order.specs.Precedence.{ComesBefore, HasRank, HasRound, Precedes, next, further}
use Rattle.expansion_order.specs.Webs.{AreAdded, AreBelow, AreDrawn, AreEdges, IsDrawn, IsTidy, Rises}
use Rattle.expansion_order.specs.declared.web.Web.{Web}
use Rattle.expansion_order.proofs.Drawn.{leads_last, leads_left, leads_snoc}

-- ---- edges one by one

pub leads_at : (es : List Edge) (i : ℕ) (d : Edge) → i < length es → EdgeLeads es (get_or es i d).from (get_or es i d).to
leads_at [] i d lt = absurd (omega arith)
leads_at (e ∷ es) zero d lt = inl (refl, refl)
leads_at (e ∷ es) (suc i) d lt = inr (leads_at es i d (omega arith))

pub below_step : (es : List Edge) (i : ℕ) (d : Edge) (End : ℕ → ℕ → Type 0) → i < length es → ((y x : ℕ) → EdgeLeads (take i es) y x → End y x) → End (get_or es i d).from (get_or es i d).to → (y x : ℕ) → EdgeLeads (take (i + 1) es) y x → End y x
below_step es i d End low h last y x l = elim (leads_snoc (take i es) (get_or es i d) y x (subst (λ (k : List Edge). EdgeLeads k y x) (take_more es i d low) l)) [
  | inl o ↦ h y x o
  | inr e ↦ subst (λ (k : ℕ). End k x) e.0 (subst (λ (k : ℕ). End (get_or es i d).from k) e.1 last)
]

pub added_step : (es : List Edge) (f t i : ℕ) (d : Edge) (old now new : List Edge) → i < length es → AreAdded (take i es) f t old now → new ≡ now ++ record { from = (get_or es i d).from + f; to = (get_or es i d).to + t } ∷ [] → AreAdded (take (i + 1) es) f t old new
added_step es f t i d old now new low h is = record {
  kept = λ y x l. kept y x (h.kept y x l);
  moved = λ u v l. elim (leads_snoc (take i es) (get_or es i d) u v (subst (λ (k : List Edge). EdgeLeads k u v) (take_more es i d low) l)) [
    | inl o ↦ kept (u + f) (v + t) (h.moved u v o)
    | inr e ↦ subst (λ (k : ℕ). EdgeLeads new (k + f) (v + t)) e.0 (subst (λ (k : ℕ). EdgeLeads new ((get_or es i d).from + f) (k + t)) e.1 (subst (λ (k : List Edge). EdgeLeads k edge.from edge.to) (sym is) (leads_last now edge)))
  ];
  only = λ y x l. elim (leads_snoc now edge y x (subst (λ (k : List Edge). EdgeLeads k y x) is l)) [
    | inl o ↦ elim (h.only y x o) [
      | inl p ↦ inl p
      | inr m ↦ inr (record { first = m.first; second = m.second; leads = subst (λ (k : List Edge). EdgeLeads k m.first m.second) (sym (take_more es i d low)) (leads_left (take i es) (get_or es i d ∷ []) m.first m.second m.leads); from_is = m.from_is; to_is = m.to_is })
    ]
    | inr e ↦ inr (record { first = (get_or es i d).from; second = (get_or es i d).to; leads = subst (λ (k : List Edge). EdgeLeads k (get_or es i d).from (get_or es i d).to) (sym (take_more es i d low)) (leads_last (take i es) (get_or es i d)); from_is = e.0; to_is = e.1 })
  ];
}
  where
    edge : Edge
    edge = record { from = (get_or es i d).from + f; to = (get_or es i d).to + t }

    kept : (y x : ℕ) → EdgeLeads now y x → EdgeLeads new y x
    kept y x l = subst (λ (k : List Edge). EdgeLeads k y x) (sym is) (leads_left now (edge ∷ []) y x l)

-- ---- all edges

pub record HasRanks (w : Web) : Type 0 where
  pub rank : ℕ → ℕ
  pub bar : ℕ → ℕ
  pub rises : Rises rank bar w

-- all that lead to it are in the list, or one isn't
all_or_one : (es : List Edge) (prefix : List ℕ) (x : ℕ) → ((y : ℕ) → EdgeLeads es y x → IsAmong prefix y) ⊎ ((y : ℕ) × EdgeLeads es y x × (IsAmong prefix y → ⊥))
all_or_one [] prefix x = inl (λ y h. absurd h)
all_or_one (e ∷ es) prefix x = elim (all_or_one es prefix x) [
  | inr one ↦ inr (one.0, inr one.1, one.2)
  | inl all ↦ elim (cases_eq e.to x) [
    | inr ne ↦ inl (λ y h. elim h [ inl i ↦ absurd (ne i.1) | inr r ↦ all y r ])
    | inl same ↦ elim (has_or_not prefix e.from) [
      | inl h ↦ inl (λ y l. elim l [ inl i ↦ subst (IsAmong prefix) i.0 h | inr r ↦ all y r ])
      | inr lacks ↦ inr (e.from, inl (refl, same), lacks)
    ]
  ]
]

module _ (w : Web) (m n : ℕ) (edges : List Edge) (tidy : IsTidy w) (below : AreBelow m w) (are : AreEdges w m edges) (all : n ≡ m + w.bars) where
  within : (y x : ℕ) → EdgeLeads edges y x → (y < n) × (x < n)
  within y x l = elim (are.only y x l) [
    | inl p ↦ let a = below.first y x p in let b = below.second y x p in (omega (arith, a, all), omega (arith, b, all))
    | inr q ↦ elim q [
      | inl r ↦
          let a = below.before r.first r.second r.leads in
          let b = tidy.before r.first r.second r.leads in
          let e = r.from_is in
          let f = r.to_is in
          (omega (arith, a, e, all), omega (arith, b, f, all))
      | inr r ↦
          let a = below.behind r.first r.second r.leads in
          let b = tidy.behind r.first r.second r.leads in
          let e = r.from_is in
          let f = r.to_is in
          (omega (arith, b, e, all), omega (arith, a, f, all))
    ]
  ]

  pub edges_inside : All (Inside n) edges
  edges_inside = all_leads_inside n edges within

  -- an order of all gives ranks
  module _ (order : List ℕ) (whole : IsWhole n (EdgeLeads edges) order) where
    arranged : IsOrder n (EdgeLeads edges) order
    arranged = whole_order n (EdgeLeads edges) within order whole

    pick : (y : ℕ) → (y < n) ⊎ (n ≤ y) → ℕ
    pick y (inl lt) = (arranged.every y lt).0
    pick y (inr ge) = 0

    abbrev place : ℕ → ℕ
    place y = pick y (cases_lt y n)

    along : (y x : ℕ) → EdgeLeads edges y x → place y < place x
    unfolding pick arranged
    along y x l = go (cases_lt y n) (cases_lt x n)
      where
        go : (a : (y < n) ⊎ (n ≤ y)) (b : (x < n) ⊎ (n ≤ x)) → pick y a < pick x b
        go (inl a) (inl b) = arranged.kept (arranged.every y a).0 (arranged.every x b).0 y x (arranged.every y a).1 (arranged.every x b).1 l
        go (inr a) b = absurd (let i = (within y x l).0 in omega (arith, i, a))
        go (inl a) (inr b) = absurd (let i = (within y x l).1 in omega (arith, i, b))

    pub order_ranks : HasRanks w
    order_ranks = record {
      rank = place;
      bar = λ b. place (b + m);
      rises = record { pairs = λ u v l. along u v (are.pairs u v l); before = λ u b l. along u (b + m) (are.before u b l); behind = λ b v l. along (b + m) v (are.behind b v l) };
    }

  -- where the sorting is stuck, each event that remains comes behind one that does
  module _ (x : ℕ) (stuck : IsStuckAt n (EdgeLeads edges) x) where
    -- what remains waits for something that does
    waits : (y : ℕ) → y < n → (IsAmong stuck.prefix y → ⊥) → (z : ℕ) × EdgeLeads edges z y × (IsAmong stuck.prefix z → ⊥)
    waits y low out = elim (all_or_one edges stuck.prefix y) [ inl all ↦ absurd (stuck.stuck y (record { inside = low; remains = out; ready = all })) | inr one ↦ one ]

    -- what a bar waits for is an event before it
    bar_waits : (b : ℕ) → b < w.bars → (IsAmong stuck.prefix (b + m) → ⊥) → (u : ℕ) × (u < m) × EdgeLeads w.before u b × (IsAmong stuck.prefix u → ⊥)
    bar_waits b low out =
        let z = waits (b + m) (omega (arith, low, all)) out in
        elim (are.only z.0 (b + m) z.1) [
          | inl p ↦ let l = below.second z.0 (b + m) p in absurd (omega (arith, l))
          | inr q ↦ elim q [
            | inl r ↦
                let e : r.first ≡ z.0 = let h = r.from_is in omega (arith, h) in
                let f : r.second ≡ b = let h = r.to_is in omega (arith, h) in
                let leads : EdgeLeads w.before z.0 b = subst (λ (k : ℕ). EdgeLeads w.before k b) e (subst (λ (k : ℕ). EdgeLeads w.before r.first k) f r.leads) in
                (z.0, below.before z.0 b leads, leads, z.2)
            | inr r ↦ let l = below.behind r.first r.second r.leads in let h = r.to_is in absurd (omega (arith, l, h))
          ]
        ]

    -- what an event waits for, past a bar where there is one, is an event
    pub event_waits : (v : ℕ) → v < m → (IsAmong stuck.prefix v → ⊥) → (u : ℕ) × (u < m) × (IsAmong stuck.prefix u → ⊥) × IsDrawn w u v
    event_waits v low out =
        let z = waits v (omega (arith, low, all)) out in
        elim (are.only z.0 v z.1) [
          | inl p ↦ (z.0, below.first z.0 v p, z.2, inl p)
          | inr q ↦ elim q [
            | inl r ↦ let h = r.to_is in absurd (omega (arith, low, h))
            | inr r ↦
                let e : r.first + m ≡ z.0 = r.from_is in
                let f : r.second ≡ v = let h = r.to_is in omega (arith, h) in
                let behind : EdgeLeads w.behind r.first v = subst (λ (k : ℕ). EdgeLeads w.behind r.first k) f r.leads in
                let u = bar_waits r.first (tidy.behind r.first v behind) (λ h. z.2 (subst (IsAmong stuck.prefix) e h)) in
                (u.0, u.1, u.3, inr (record { bar = r.first; before = u.2; behind = behind }))
          ]
        ]

    pub some_waits : (v : ℕ) × (v < m) × (IsAmong stuck.prefix v → ⊥)
    some_waits = elim (cases_lt x m) [
      | inl lt ↦ (x, lt, stuck.remains)
      | inr ge ↦
          let inside = stuck.inside in
          let is : (x - m) + m ≡ x = omega (arith, ge) in
          let u = bar_waits (x - m) (omega (arith, ge, inside, all)) (λ h. stuck.remains (subst (IsAmong stuck.prefix) is h)) in
          (u.0, u.1, u.3)
    ]

-- ---- the order of an expansion

-- going back from one event to another that comes before it, below m, one comes round: all that one has passed lies ahead
module _ (b : Expansion) (m : ℕ) (Left : ℕ → Type 0) (back : (v : ℕ) → v < m → Left v → (u : ℕ) × (u < m) × Left u × Precedes b u v) where
  ahead : (passed : List ℕ) (u v : ℕ) → Precedes b u v → ((w : ℕ) → IsAmong passed w → (v ≡ w) ⊎ ComesBefore b v w) → (w : ℕ) → IsAmong passed w → ComesBefore b u w
  ahead passed u v p h w a = elim (h w a) [ inl e ↦ subst (ComesBefore b u) e (next u v p) | inr c ↦ further u v w p c ]

  round_from : (k : ℕ) (passed : List ℕ) (v : ℕ) → free m passed < k → v < m → Left v → ((w : ℕ) → IsAmong passed w → (v ≡ w) ⊎ ComesBefore b v w) → HasRound b
  round_from zero passed v few low left h = absurd (omega arith)
  round_from (suc k) passed v few low left h =
      let u = back v low left in
      elim (has_or_not passed u.0) [
        | inl a ↦ record { number = u.0; round = ahead passed u.0 v u.3 h u.0 a }
        | inr lacks ↦
            let fewer = free_less m passed u.0 u.1 (has_false passed u.0 lacks) in
            round_from k (passed ++ u.0 ∷ []) u.0 (omega (arith, few, fewer)) u.1 u.2
            (λ w a. elim (has_either passed (u.0 ∷ []) w a) [ inl i ↦ inr (ahead passed u.0 v u.3 h w i) | inr last ↦ elim last [ inl e ↦ inl (sym e) | inr n ↦ absurd n ] ])
      ]

  comes_round : (v : ℕ) → v < m → Left v → HasRound b
  comes_round v low left = round_from (suc (free m [])) [] v (omega arith) low left (λ w a. absurd a)

module _ (b : Expansion) (old w : Web) (drawn : AreDrawn (Precedes b) old w) where
  pub drawn_rank : HasRanks w → HasRank b
  drawn_rank r = record { rank = r.rank; rises = drawn.rises r.rank r.bar r.rises }

  module _ (none : (u v : ℕ) → IsDrawn old u v → ⊥) (m n : ℕ) (edges : List Edge) (below : AreBelow m w) (are : AreEdges w m edges) (all : n ≡ m + w.bars) where
    pub drawn_round : (x : ℕ) → IsStuckAt n (EdgeLeads edges) x → HasRound b
    drawn_round x stuck =
        let some = some_waits w m n edges drawn.tidy below are all x stuck in
        comes_round b m (λ v. IsAmong stuck.prefix v → ⊥)
        (λ v low left.
        let u = event_waits w m n edges drawn.tidy below are all x stuck v low left in
        (u.0, u.1, u.2, elim (drawn.asked u.0 v u.3) [ inl o ↦ absurd (none u.0 v o) | inr p ↦ p ]))
        some.0 some.1 some.2

-- nothing is drawn where there are no edges
pub none_drawn : (w : Web) → w.pairs ≡ [] → w.before ≡ [] → (u v : ℕ) → IsDrawn w u v → ⊥
none_drawn w p q u v (inl h) = let k : EdgeLeads [] u v = subst (λ (l : List Edge). EdgeLeads l u v) p h in k
none_drawn w p q u v (inr h) = let k : EdgeLeads [] u h.bar = subst (λ (l : List Edge). EdgeLeads l u h.bar) q h.before in k
