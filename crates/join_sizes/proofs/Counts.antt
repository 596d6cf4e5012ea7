-- Counts that are cut at a number above all limits are exact below it.
use Rattle.std.proofs.Common.{◌≡◌, ◌≤◌, ◌<◌, ◌||◌, ℕ, ◌+◌, ◌*◌, min, Bool, true, false, inl, inr, List, [], ◌∷◌, Option, length, refl, sym, ap, ap₂, ◌∙◌, arith}
use Rattle.std.proofs.lemmas.Bool.{cases_lt}
use Rattle.std.proofs.lemmas.Nat.{mul-le}
use Rattle.chart_forms.specs.TiedTexts.{tie_gates, ties_gate}
use Rattle.gate_ends.specs.FoundEnds.{GateEvents, event_count, listed}
use Rattle.gate_ends.specs.JoinCounts.{join_count, joins_count, levels_count, references_count}
use Rattle.gate_tables.specs.GateFacts.{facts_by, facts_of, most_counted}
use Rattle.join_sizes.specs.Counted.{any_tied, capped, counted}
use Rattle.join_sizes.specs.JoinSizes.{table_joins}
use Rattle.msc_meaning.specs.Bodies.{WovenItems}
use Rattle.msc_meaning.specs.BodyLevels.{BodyLevel}
use Rattle.msc_meaning.specs.InnerEvents.{InnerEvent}
use Rattle.msc_meaning.specs.Tables.{Table}
use Rattle.msc_tree.specs.Expressions.{Expression}
use Rattle.msc_tree.specs.Statements.{Reference}
use Rattle.msc_tree.specs.declared.reference.Join.{Join}
use Rattle.msc_tree.specs.declared.reference.JoinEnd.{JoinEnd}
use Rattle.msc_tree.specs.declared.reference.JoinEnd.TheVariants as join_end

-- ---- facts

by_listed : (a : GateEvents) (es : List InnerEvent) → counted (facts_by a es) ≡ capped (length es)
by_listed a [] = refl
by_listed a (e ∷ es) = refl

pub facts_counted : (a : GateEvents) → counted (facts_of a) ≡ capped (event_count a)
facts_counted a = by_listed a (listed a)

-- ---- sums and products

-- a sum with one more, and what is behind it
pub sum_step : (sum more next new all : ℕ) → new ≡ capped (sum + capped more) → capped (sum + (more + next)) ≡ capped all → capped (new + next) ≡ capped all
sum_step sum more next new all made is = omega (arith, made, is)

at_least : (m a b : ℕ) → m ≤ a → 1 ≤ b → m ≤ a * b
at_least m a b low one = omega (arith, mul-le m 1 a b low one)

none_right : (a b : ℕ) → b ≡ 0 → a * b ≡ 0
none_right a b is = ap (λ (n : ℕ). a * n) is ∙ omega arith

cut : (m n : ℕ) → m ≤ n → min n m ≡ m
cut m n low = omega (arith, low)

uncut : (m n : ℕ) → n < m → min n m ≡ n
uncut m n low = omega (arith, low)

product_left : (m a b : ℕ) → m ≤ a → 1 ≤ b → min (m * b) m ≡ min (a * b) m
product_left m a b low one = cut m (m * b) (at_least m m b (omega arith) one) ∙ sym (cut m (a * b) (at_least m a b low one))

right_least : (m a b : ℕ) → 1 ≤ a → m ≤ b → m ≤ a * b
right_least m a b one low = omega (arith, mul-le 1 m a b one low)

none_left : (a b : ℕ) → a ≡ 0 → a * b ≡ 0
none_left a b is = ap (λ (n : ℕ). n * b) is ∙ omega arith

product_cut : (m a b : ℕ) → 1 ≤ m → min (min a m * min b m) m ≡ min (a * b) m
product_cut m a b one = elim (cases_lt a 1) [
  | inl no_a ↦
      let cut_a : min a m ≡ 0 = omega (arith, no_a) in
      let none : a ≡ 0 = omega (arith, no_a) in
      ap (λ (n : ℕ). min n m) (none_left (min a m) (min b m) cut_a ∙ sym (none_left a b none))
  | inr some_a ↦ elim (cases_lt b 1) [
    | inl no_b ↦
        let cut_b : min b m ≡ 0 = omega (arith, no_b) in
        let none : b ≡ 0 = omega (arith, no_b) in
        ap (λ (n : ℕ). min n m) (none_right (min a m) (min b m) cut_b ∙ sym (none_right a b none))
    | inr some_b ↦ elim (cases_lt a m) [
      | inr high_a ↦
          let here : m ≤ min a m = omega (arith, high_a) in
          let there : 1 ≤ min b m = omega (arith, some_b, one) in
          cut m (min a m * min b m) (at_least m (min a m) (min b m) here there) ∙ sym (cut m (a * b) (at_least m a b high_a some_b))
      | inl low_a ↦ elim (cases_lt b m) [
        | inr high_b ↦
            let here : 1 ≤ min a m = omega (arith, some_a, one) in
            let there : m ≤ min b m = omega (arith, high_b) in
            cut m (min a m * min b m) (right_least m (min a m) (min b m) here there) ∙ sym (cut m (a * b) (right_least m a b some_a high_b))
        | inl low_b ↦ ap (λ (n : ℕ). min n m) (ap₂ (λ (x y : ℕ). x * y) (uncut m a low_a) (uncut m b low_b))
      ]
    ]
  ]
]

pub product_capped : (a b near far told : ℕ) → near ≡ capped a → far ≡ capped b → told ≡ capped (near * far) → told ≡ capped (a * b)
product_capped a b near far told is_near is_far is = is ∙ ap₂ (λ (x y : ℕ). capped (x * y)) is_near is_far ∙ product_cut most_counted a b (omega arith)

-- ---- references that tie nothing

neither : (a b : Bool) → (a || b) ≡ false → (a ≡ false) × (b ≡ false)
neither true b h = cc
neither false b h = (refl, h)

module _ (inner : List ℕ → List ℕ → GateEvents) (held : WovenItems) where
  join_nothing : (own : Option (List ℕ)) (e : Expression) (g : List ℕ) (to : JoinEnd) → ties_gate to ≡ false → join_count inner held own e g to ≡ 0
  join_nothing own e g (join_end.Env to) h = refl
  join_nothing own e g (join_end.Reference name to) h = cc

  joins_nothing : (own : Option (List ℕ)) (e : Expression) (js : List Join) → tie_gates js ≡ false → joins_count inner held own e js ≡ 0
  joins_nothing own e [] h = refl
  joins_nothing own e (j ∷ js) h =
      let both = neither (ties_gate j.to) (tie_gates js) h in
      omega (arith, join_nothing own e j.gate j.to both.0, joins_nothing own e js both.1)

  pub references_nothing : (rs : List Reference) → any_tied rs ≡ false → references_count inner held rs ≡ 0
  references_nothing [] h = refl
  references_nothing (r ∷ rs) h =
      let both = neither (tie_gates r.joins) (any_tied rs) h in
      omega (arith, joins_nothing r.name r.expression r.joins both.0, references_nothing rs both.1)

-- ---- levels

module _ (inner : List ℕ → List ℕ → GateEvents) where
  pub none_listed : (ls : List BodyLevel) → levels_count inner ls [] ≡ 0
  none_listed [] = refl
  none_listed (l ∷ ls) = refl

  pub none_added : (table : Table) → table_joins inner table [] ≡ []
  none_added [] = refl
  none_added (c ∷ table) = refl
