-- From a derivation of an unfolding to its drawing, to runs, and to logs that no run begins with.
use Rattle.std.proofs.Common.{◌≡◌, ◌⊎◌, ℕ, zero, suc, Bool, true, false, not, ◌&&◌, ◌||◌, List, [], ◌∷◌, ◌++◌, Some, refl, sym, ◌∙◌, ap, ap₂, subst, inl, inr, nat_eq}
use Rattle.std.proofs.lemmas.Bool.Decides.{Decides-eqb}
use Rattle.std.proofs.lemmas.Option.{same_Some}
use Rattle.msc_base.specs.declared.label.Label.{Label}
use Rattle.msc_base.specs.Lists.{IsAmong}
use Rattle.msc_base.specs.Patterns.{Position}
use Rattle.msc_unfolding.specs.Runs.{IsRun, IsRunOf, labels_at}
use Rattle.msc_unfolding.specs.Unfoldings.{Unfolding, plain}
use Rattle.msc_meaning.specs.Bodies.{Body}
use Rattle.msc_meaning.specs.ChartUnfoldings.{OfWoven}
use Rattle.msc_meaning.specs.FarEnds.{GateMap, no_gates}
use Rattle.msc_meaning.specs.Meanings.{Finished, Open, Conforms, Begins}
use Rattle.msc_meaning.specs.ShownUnfoldings.{number, positions, Shown, IsShown, AreShown}
use Rattle.msc_meaning.specs.Tables.{Table, ChartEntry, chart_at, Woven, Basic, HighLevel, refinements}
use Rattle.msc_meaning.proofs.Beginnings.{both_so, may_go, never, may_finish, no_run}
use Rattle.msc_meaning.proofs.Deciding.{and_left, and_right, or_left, or_right, either_so, not_so, is_before, before_so, so_before, all_positions, each_position, is_linear, linear_so}

-- ---- drawings

abbrev pub is_listed : List (ℕ × ℕ) → ℕ → ℕ → Bool
is_listed [] m n = false
is_listed (x ∷ xs) m n = (nat_eq m x.0 && nat_eq n x.1) || is_listed xs m n

listed_so : (xs : List (ℕ × ℕ)) (m n : ℕ) → is_listed xs m n ≡ true → IsAmong xs (m, n)
listed_so [] m n h = not_so h
listed_so (x ∷ xs) m n h = go (listed_so xs m n) (either_so (nat_eq m x.0 && nat_eq n x.1) _ h)
  where
    go : (is_listed xs m n ≡ true → IsAmong xs (m, n)) → ((nat_eq m x.0 && nat_eq n x.1) ≡ true) ⊎ (is_listed xs m n ≡ true) → ((m, n) ≡ x) ⊎ IsAmong xs (m, n)
    go f (inl k) = inl (ap₂ (λ (a b : ℕ). let r : ℕ × ℕ = (a, b) in r) ((Decides-eqb m x.0).0 (and_left (nat_eq m x.0) _ k)) ((Decides-eqb n x.1).0 (and_right (nat_eq m x.0) _ k)))
    go f (inr k) = inr (f k)

so_listed : (xs : List (ℕ × ℕ)) (m n : ℕ) → IsAmong xs (m, n) → is_listed xs m n ≡ true
so_listed [] m n h = absurd h
so_listed (x ∷ xs) m n (inl e) = or_left (nat_eq m x.0 && nat_eq n x.1) _ (both_so (nat_eq m x.0) _ ((Decides-eqb m x.0).1 (ap (λ (r : ℕ × ℕ). r.0) e)) ((Decides-eqb n x.1).1 (ap (λ (r : ℕ × ℕ). r.1) e)))
so_listed (x ∷ xs) m n (inr k) = or_right (nat_eq m x.0 && nat_eq n x.1) _ (so_listed xs m n k)

abbrev pub is_alike : Bool → Bool → Bool
is_alike true b = b
is_alike false b = not b

alike_so : (a b : Bool) → is_alike a b ≡ true → a ≡ b
alike_so true b h = sym h
alike_so false true h = h
alike_so false false h = refl

-- whether exactly these pairs are in order
abbrev pub are_before : (u : Unfolding) → List (ℕ × ℕ) → Bool
are_before u before = all_positions u (λ p. all_positions u (λ q. is_alike (is_before plain u p q) (is_listed before (number u p) (number u q))))

pub drawn : (s : Shown) (u : Unfolding) → labels_at u (positions u) ≡ s.labels → are_before u s.before ≡ true → IsShown s u
drawn s u l h = record { labels_are = l; before_is = λ p q. (λ b. listed_so s.before _ _ (sym (same p q) ∙ before_so plain u p q b), λ k. so_before plain u p q (same p q ∙ so_listed s.before _ _ k)) }
  where
    same : (p q : Position u) → is_before plain u p q ≡ is_listed s.before (number u p) (number u q)
    same p q = alike_so (is_before plain u p q) _ (each_position u (λ r. is_alike (is_before plain u p r) (is_listed s.before (number u p) (number u r)))
        (each_position u (λ o. all_positions u (λ r. is_alike (is_before plain u o r) (is_listed s.before (number u o) (number u r)))) h p) q)

-- ---- sets of known unfoldings

-- an unfolding of the set
pub record Derived (set : Unfolding → Type 0) : Type 0 where
  pub of : Unfolding
  pub is : set of

pub only_one : {set : Unfolding → Type 0} (s : Shown) (x : Derived set) → ((u : Unfolding) → set u → u ≡ x.of) → IsShown s x.of → AreShown set (s ∷ [])
only_one {set} s x only is = record { each = λ t k. each t k; every = λ u h. (s, (inl refl, let P : Unfolding → Type 0 = λ v. IsShown s v in subst P (sym (only u h)) is)) }
  where
    each : (t : Shown) → (t ≡ s) ⊎ ⊥ → (u : Unfolding) × (set u × IsShown t u)
    each t (inl e) = (x.of, (x.is, let P : Shown → Type 0 = λ r. IsShown r x.of in subst P (sym e) is))
    each t (inr k) = absurd k

pub only_two : {set : Unfolding → Type 0} (s t : Shown) (x y : Derived set) → ((u : Unfolding) → set u → (u ≡ x.of) ⊎ (u ≡ y.of)) → IsShown s x.of → IsShown t y.of → AreShown set (s ∷ t ∷ [])
only_two {set} s t x y only is are = record { each = λ r k. each r k; every = λ u h. every u (only u h) }
  where
    each : (r : Shown) → (r ≡ s) ⊎ ((r ≡ t) ⊎ ⊥) → (u : Unfolding) × (set u × IsShown r u)
    each r (inl e) = (x.of, (x.is, let P : Shown → Type 0 = λ o. IsShown o x.of in subst P (sym e) is))
    each r (inr (inl e)) = (y.of, (y.is, let P : Shown → Type 0 = λ o. IsShown o y.of in subst P (sym e) are))
    each r (inr (inr k)) = absurd k

    every : (u : Unfolding) → (u ≡ x.of) ⊎ (u ≡ y.of) → (r : Shown) × (IsAmong (s ∷ t ∷ []) r × IsShown r u)
    every u (inl e) = (s, (inl refl, let P : Unfolding → Type 0 = λ v. IsShown s v in subst P (sym e) is))
    every u (inr e) = (t, (inr (inl refl), let P : Unfolding → Type 0 = λ v. IsShown t v in subst P (sym e) are))

pub none_at_all : {set : Unfolding → Type 0} → ((u : Unfolding) → set u → ⊥) → AreShown set []
none_at_all no_one = record { each = λ t k. absurd k; every = λ u h. absurd (no_one u h) }

-- ---- runs

-- the positions of these numbers
abbrev pub nth : {A : Type 0} → List A → ℕ → List A
nth [] n = []
nth (x ∷ xs) zero = x ∷ []
nth (x ∷ xs) (suc n) = nth xs n

abbrev pub positions_at : (u : Unfolding) → List ℕ → List (Position u)
positions_at u [] = []
positions_at u (n ∷ ns) = nth (positions u) n ++ positions_at u ns

-- labels in an order that the test lets pass are a run
pub run_of : (set : Unfolding → Type 0) (u : Unfolding) (order : List ℕ) (labels : List Label)
    → set u → is_linear plain u (positions_at u order) ≡ true → labels_at u (positions_at u order) ≡ labels → IsRunOf set labels
run_of set u order labels h linear are = record { of = u; is = h; run = record { order = positions_at u order; linear = linear_so plain u (positions_at u order) linear; are = are } }

-- of an unfolding that was derived
pub run : {set : Unfolding → Type 0} {labels : List Label} (x : Derived set) (order : List ℕ)
    → is_linear plain x.of (positions_at x.of order) ≡ true → labels_at x.of (positions_at x.of order) ≡ labels → IsRunOf set labels
run {set} {labels} x order linear are = run_of set x.of order labels x.is linear are

-- ---- what a chart begins

pub begins_with : {table : Table} {name : List ℕ} (labels rest : List Label) → Conforms table name (labels ++ rest) → Begins table name labels
begins_with labels rest h = record { rest = rest; runs = record { of = h.of; is = inl h.is; run = h.run } }

-- the chart of the name is this one
pub at_entry : (table : Table) (name : List ℕ) (E : ChartEntry) (g : GateMap) → chart_at table name ≡ Some E → (c : ChartEntry) (u : Unfolding) → chart_at table name ≡ Some c
    → OfWoven table g (refinements c.decls) c.content u → OfWoven table g (refinements E.decls) E.content u
at_entry table name E g h c u k w = let P : ChartEntry → Type 0 = λ x. OfWoven table g (refinements x.decls) x.content u in subst P (sym (same_Some E c (sym h ∙ k))) w

pub in_finished : (table : Table) (name : List ℕ) (E : ChartEntry) → chart_at table name ≡ Some E → (u : Unfolding) → Finished table name u
    → OfWoven table no_gates (refinements E.decls) E.content u
in_finished table name E h u f = at_entry table name E no_gates h f.chart u f.is f.unfolds

is_graph : Woven → Bool
is_graph (Basic body) = false
is_graph (HighLevel held) = true

-- a basic chart is never under way
pub not_open : (table : Table) (name : List ℕ) (E : ChartEntry) (body : Body) → chart_at table name ≡ Some E → E.content ≡ Basic body → (u : Unfolding) → Open table name u → ⊥
unfolding is_graph
not_open table name E body h k u o = clash (ap is_graph (sym k ∙ (ap (λ x. x.content) (same_Some E o.chart (sym h ∙ o.is)) ∙ o.drawn)))
  where
    clash : false ≡ true → ⊥
    clash e = cc

-- where the test fails at each unfolding, no run begins with the labels
pub refused : (table : Table) (name : List ℕ) (E : ChartEntry) (body : Body) (labels : List Label) → chart_at table name ≡ Some E → E.content ≡ Basic body
    → ((u : Unfolding) → Finished table name u → may_go u [] labels ≡ false) → Begins table name labels → ⊥
refused table name E body labels h k f b = go b.runs.of b.runs.is b.runs.run
  where
    go : (u : Unfolding) → Finished table name u ⊎ Open table name u → IsRun u (labels ++ b.rest) → ⊥
    go u (inl x) r = never u labels b.rest (f u x) r
    go u (inr x) r = absurd (not_open table name E body h k u x)

by_same : (u v : Unfolding) (labels : List Label) → u ≡ v → may_go v [] labels ≡ false → may_go u [] labels ≡ false
by_same u v labels e h = let P : Unfolding → Type 0 = λ x. may_go x [] labels ≡ false in subst P (sym e) h

pub by_one : {set : Unfolding → Type 0} (labels : List Label) (x : Derived set) → ((u : Unfolding) → set u → u ≡ x.of) → may_go x.of [] labels ≡ false
    → (u : Unfolding) → set u → may_go u [] labels ≡ false
by_one labels x only h u f = by_same u x.of labels (only u f) h

pub by_two : {set : Unfolding → Type 0} (labels : List Label) (x y : Derived set) → ((u : Unfolding) → set u → (u ≡ x.of) ⊎ (u ≡ y.of))
    → may_go x.of [] labels ≡ false → may_go y.of [] labels ≡ false → (u : Unfolding) → set u → may_go u [] labels ≡ false
by_two {set} labels x y only h k u f = go (only u f)
  where
    go : (u ≡ x.of) ⊎ (u ≡ y.of) → may_go u [] labels ≡ false
    go (inl e) = by_same u x.of labels e h
    go (inr e) = by_same u y.of labels e k

-- where the test of whole runs fails at the one unfolding, the labels are no run
pub unfinished_by_one : {table : Table} {name : List ℕ} (labels : List Label) (x : Derived (Finished table name)) → ((u : Unfolding) → Finished table name u → u ≡ x.of)
    → may_finish x.of [] labels ≡ false → Conforms table name labels → ⊥
unfinished_by_one labels x only h c = no_run x.of labels h (let P : Unfolding → Type 0 = λ u. IsRun u labels in subst P (only c.of c.is) c.run)
