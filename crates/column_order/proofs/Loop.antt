-- What the sorting keeps from one item to the next.
use Rattle.std.proofs.Common.{◌≡◌, ℕ, ◌<◌, ◌≤◌, ◌+◌, Bool, true, false, List, [], ◌∷◌, ◌++◌, ◌⊎◌, inl, inr, ◌↔◌, nat_eq, if◌then◌else◌, All, length, get_or, refl, sym, ◌∙◌, subst, arith}
use Rattle.std.proofs.lemmas.Bool.{cases_lt, cases_eq}
use Rattle.std.proofs.lemmas.Bool.Decides.{nat_tests}
use Rattle.std.proofs.lemmas.List.{get_or_past}
use Rattle.msc_base.specs.Lists.{IsAmong}
use Rattle.column_order.specs.Orders.{IsDue, IsNext, IsWhole, IsStuckAt}
use Rattle.column_order.specs.Counts.{EdgeLeads, Inside, has, times, waiting, targets}
use Rattle.column_order.specs.declared.edge.Edge.{Edge}
use Rattle.column_order.proofs.Agree.{Follows, follows_snoc, from_follows}
use Rattle.column_order.proofs.Counting.{has_true, true_has, false_has, has_false, has_snoc, eq_true, eq_false, waiting_release, no_waiting, all_waiting, inside_targets, times_outside}

snoc_false : (xs : List ℕ) (u y : ℕ) → has (xs ++ u ∷ []) y ≡ false → (has xs y ≡ false) × (u ≡ y → ⊥)
snoc_false xs u y h = go (has xs y) refl (sym (has_snoc xs u y) ∙ h)
  where
    go : (b : Bool) → has xs y ≡ b → (if b then true else nat_eq u y) ≡ false → (has xs y ≡ false) × (u ≡ y → ⊥)
    go true e g = cc
    go false e g = (e, λ is. let t : nat_eq u y ≡ true = eq_true u y is in let bad : true ≡ false = sym t ∙ g in cc)

false_snoc : (xs : List ℕ) (u y : ℕ) → has xs y ≡ false → (u ≡ y → ⊥) → has (xs ++ u ∷ []) y ≡ false
false_snoc xs u y f ne = has_snoc xs u y ∙ rw (f, eq_false u y ne) refl

snoc_true : (xs : List ℕ) (u y : ℕ) → has (xs ++ u ∷ []) y ≡ true → (has xs y ≡ true) ⊎ (u ≡ y)
snoc_true xs u y h = elim (cases_eq u y) [ inl e ↦ inr e | inr ne ↦ inl (go ne (has xs y) refl (sym (has_snoc xs u y) ∙ h)) ]
  where
    go : (u ≡ y → ⊥) → (b : Bool) → has xs y ≡ b → (if b then true else nat_eq u y) ≡ true → has xs y ≡ true
    go ne true e g = e
    go ne false e g = absurd (ne (grind (arith, nat_tests)))

pub record Keeps (n : ℕ) (es : List Edge) (counts : List ℕ) (Ready : ℕ → Type 0) (order : List ℕ) : Type 0 where
  pub follows : Follows n (EdgeLeads es) [] order
  pub waits : (x : ℕ) → x < n → get_or counts x 0 ≡ waiting es order x
  pub ready : (x : ℕ) → Ready x ↔ ((x < n) × (has order x ≡ false) × (get_or counts x 0 ≡ 0))
  pub done : (x : ℕ) → has order x ≡ true → get_or counts x 0 ≡ 0

module _ (n : ℕ) (es : List Edge) (counts : List ℕ) (Ready : ℕ → Type 0) (order : List ℕ) (k : Keeps n es counts Ready order) where
  due_ready : (y : ℕ) → IsDue n (EdgeLeads es) order y → Ready y
  due_ready y d = (k.ready y).1 (d.inside, has_false order y d.remains, k.waits y d.inside ∙ all_waiting es order y d.ready)

  ready_due : (y : ℕ) → Ready y → IsDue n (EdgeLeads es) order y
  ready_due y r = let t = (k.ready y).0 r in record {
    inside = t.0;
    remains = false_has order y t.1;
    ready = no_waiting es order y (sym (k.waits y t.0) ∙ t.2);
  }

  pub next : (x : ℕ) → Ready x → ((y : ℕ) → Ready y → x ≤ y) → IsNext n (EdgeLeads es) order x
  next x r least = record { due = ready_due x r; earliest = λ y d. least y (due_ready y d) }

  pub enough : (x : ℕ) → length counts ≡ n → All (Inside n) es → Ready x → (y : ℕ) → times y (targets es x) ≤ get_or counts y 0
  enough x len all r y = let t = (k.ready x).0 r in elim (cases_lt y n) [
    | inl lt ↦ omega (arith, k.waits y lt, waiting_release es order x y t.1)
    | inr ge ↦ omega (arith, times_outside n y (targets es x) (inside_targets n es x all) ge)
  ]

  pub after : (x : ℕ) (counts' : List ℕ) (Mid Ready' : ℕ → Type 0) → length counts ≡ n → Ready x → ((y : ℕ) → Ready y → x ≤ y)
      → ((y : ℕ) → Mid y ↔ (Ready y × (x ≡ y → ⊥)))
      → ((y : ℕ) → get_or counts' y 0 + times y (targets es x) ≡ get_or counts y 0)
      → ((y : ℕ) → Ready' y ↔ (Mid y ⊎ ((0 < get_or counts y 0) × (get_or counts' y 0 ≡ 0))))
      → Keeps n es counts' Ready' (order ++ x ∷ [])
  after x counts' Mid Ready' len r least mid less ready' =
      let t = (k.ready x).0 r in
      let before : (y : ℕ) → has (order ++ x ∷ []) y ≡ true → get_or counts y 0 ≡ 0 = λ y h. elim (snoc_true order x y h) [ inl e ↦ k.done y e | inr e ↦ subst (λ (z : ℕ). get_or counts z 0 ≡ 0) e t.2 ] in
      record {
        follows = follows_snoc n (EdgeLeads es) [] order x k.follows (next x r least);
        waits = λ y lt. omega (arith, less y, k.waits y lt, waiting_release es order x y t.1);
        done = λ y h. omega (arith, less y, before y h);
        ready = λ y. (
          λ w. elim ((ready' y).0 w) [
            | inl m ↦ let p = (mid y).0 m in let q = (k.ready y).0 p.0 in (q.0, false_snoc order x y q.1 p.1, omega (arith, less y, q.2))
            | inr p ↦ (
              elim (cases_lt y n) [ inl lt ↦ lt | inr ge ↦ absurd (omega (arith, p.0, get_or_past counts y 0 (omega arith))) ],
              has_false (order ++ x ∷ []) y (λ h. omega (arith, p.0, before y (has_true (order ++ x ∷ []) y h))),
              p.1,
            )
          ],
          λ w. let f = snoc_false order x y w.1 in (ready' y).1 (elim (cases_lt 0 (get_or counts y 0)) [
            | inl some ↦ inr (some, w.2)
            | inr none ↦ inl ((mid y).1 ((k.ready y).1 (w.0, f.0, omega arith), f.1))
          ]),
        );
      }

  pub is_stuck : ((y : ℕ) → Ready y → ⊥) → (x : ℕ) → x < n → 0 < get_or counts x 0 → ((y : ℕ) → y < n → 0 < get_or counts y 0 → x ≤ y) → IsStuckAt n (EdgeLeads es) x
  is_stuck none x lt some first = record {
    prefix = order;
    earliest = from_follows n (EdgeLeads es) [] order k.follows;
    stuck = λ y d. none y (due_ready y d);
    inside = lt;
    remains = λ h. omega (arith, some, k.done x (has_true order x h));
    first = λ y l lacks. elim (cases_lt 0 (get_or counts y 0)) [ inl s ↦ first y l s | inr z ↦ absurd (none y ((k.ready y).1 (l, has_false order y lacks, omega arith))) ];
  }

  pub is_whole : ((y : ℕ) → Ready y → ⊥) → ((y : ℕ) → get_or counts y 0 ≡ 0) → IsWhole n (EdgeLeads es) order
  is_whole none zeros = record {
    every = λ y l. go y l (has order y) refl;
    earliest = from_follows n (EdgeLeads es) [] order k.follows;
  }
    where
      go : (y : ℕ) → y < n → (b : Bool) → has order y ≡ b → IsAmong order y
      go y l true e = true_has order y e
      go y l false e = absurd (none y ((k.ready y).1 (l, e, zeros y)))
