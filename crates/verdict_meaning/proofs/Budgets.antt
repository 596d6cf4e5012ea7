-- The budget of an unambiguous term is never passed.
use Rattle.std.specs.Prelude.{ℕ, suc, ◌+◌, ◌*◌, ◌≤◌, ◌<◌, Bool, true, false, List, [], ◌∷◌, ◌++◌, ◌≡◌, length}
use Rattle.std.proofs.Common.{ap, sym, ◌∙◌, refl, subst, arith, inl, inr}
use Rattle.std.proofs.Math.Nat.{mul-le-mul_right}
use Rattle.msc_base.specs.declared.label.Label.{Label}
use Rattle.line_events.specs.declared.event.LineEvent.{LineEvent}
use Rattle.chart_term.specs.Equality.{same_tree, SameTreeIsExact}
use Rattle.term_tables.specs.NetValues.{NetsValue}
use Rattle.chart_term.specs.Terms.{Tree, weight}
use Rattle.term_laws.specs.Listing.{set_weight}
use Rattle.term_laws.specs.OneResidual.{IsUnambiguous, OneResidual}
use Rattle.term_laws.specs.Permission.{permits_of}
use Rattle.term_laws.specs.Residuals.{IsResidual}
use Rattle.trace_judge.specs.Logs.{labels_of, AreNumbers, IsLeft, AreResiduals}
use Rattle.trace_judge.specs.Verdicts.{PassesAt}
use Rattle.verdict_meaning.specs.Budgets.{BudgetSuffices}
use Rattle.sound_terms.proofs.Places.{some_is}

-- labels have one list of numbers, as long as they are
numbers_same : (table : List Label) (l : List Label) (m n : List ℕ) → AreNumbers table l m → AreNumbers table l n → m ≡ n
numbers_same table [] [] [] h k = refl
numbers_same table [] [] (n ∷ ns) h k = absurd k
numbers_same table [] (m ∷ ms) n h k = absurd h
numbers_same table (a ∷ l) [] n h k = absurd h
numbers_same table (a ∷ l) (m ∷ ms) [] h k = absurd k
numbers_same table (a ∷ l) (m ∷ ms) (n ∷ ns) (h, i) (k, j) = ap (λ x. x ∷ ms) (some_is m n (sym h ∙ k)) ∙ ap (λ xs. n ∷ xs) (numbers_same table l ms ns i j)

numbers_length : (table : List Label) (l : List Label) (m : List ℕ) → AreNumbers table l m → length m ≡ length l
numbers_length table [] [] h = refl
numbers_length table [] (m ∷ ms) h = absurd h
numbers_length table (a ∷ l) [] h = absurd h
numbers_length table (a ∷ l) (m ∷ ms) (h, k) = ap suc (numbers_length table l ms k)

labels_length : (events : List LineEvent) → length (labels_of events) ≡ length events
labels_length [] = refl
labels_length (e ∷ events) = ap suc (labels_length events)

app_length : (a b : List LineEvent) → length (a ++ b) ≡ length a + length b
app_length [] b = omega arith
app_length (x ∷ a) b = omega (arith, app_length a b)

module _ (law : OneResidual) (equal : SameTreeIsExact) (v : NetsValue) (x : Tree) (h : IsUnambiguous x) (l : List Label) where
  left_same : (y z : Tree) → IsLeft v x l y → IsLeft v x l z → y ≡ z
  left_same y z a b = law.same v.tables x y z b.numbers h (subst (λ (n : List ℕ). IsResidual (permits_of v.tables) x n y) (numbers_same v.labels l a.numbers b.numbers a.are b.are) a.left) b.left

  left_weighs : (y : Tree) → IsLeft v x l y → weight y ≤ 2 * (length l + 1) * weight x
  left_weighs y a = subst (λ n. weight y ≤ 2 * (n + 1) * weight x) (numbers_length v.labels l a.numbers a.are) (law.weighs v.tables x y a.numbers h a.left)

  clash : (b : Bool) → b ≡ true → b ≡ false → ⊥
  clash b e f = cc

  pub set_weighs : (set : List Tree) → AreResiduals v x l set → set_weight set ≤ 2 * (length l + 1) * weight x
  set_weighs [] r = none (2 * (length l + 1) * weight x)
    where
      none : (n : ℕ) → 0 ≤ n
      none n = omega arith
  set_weighs (y ∷ []) r = one (weight y) (2 * (length l + 1) * weight x) (left_weighs y ((r.exact y).to (inl refl)))
    where
      one : (m n : ℕ) → m ≤ n → m + 0 ≤ n
      one m n k = omega (arith, k)
  set_weighs (y ∷ z ∷ zs) r = absurd (clash (same_tree y z) (equal.whole y z (left_same y z ((r.exact y).to (inl refl)) ((r.exact z).to (inr (inl refl))))) r.different.0.0)

  grows : (k n w : ℕ) → k ≤ n → 2 * (k + 1) * w ≤ 2 * (n + 1) * w
  grows k n w le = mul-le-mul_right w (omega (arith, le))

pub budget_suffices : OneResidual → SameTreeIsExact → BudgetSuffices
budget_suffices law equal = record { never = never }
  where
    never : (v : NetsValue) (x : Tree) (budget : ℕ) (events : List LineEvent) (number : ℕ) → IsUnambiguous x → 2 * (length events + 1) * weight x ≤ budget → PassesAt v x budget events number → ⊥
    never v x budget events number h b p =
        let a = set_weighs law equal v x h (labels_of p.prefix) p.above.set p.above.are in
        let k = app_length p.prefix p.back in
        let e = ap length p.are in
        let g = grows law equal v x h (labels_of p.prefix) (length (labels_of p.prefix)) (length events) (weight x) (omega (arith, labels_length p.prefix, k, e)) in
        small (set_weight p.above.set) (2 * (length (labels_of p.prefix) + 1) * weight x) (2 * (length events + 1) * weight x) budget a g b p.above.above
      where
        small : (m n o q : ℕ) → m ≤ n → n ≤ o → o ≤ q → q < m → ⊥
        small m n o q a b c d = omega (arith, a, b, c, d)
