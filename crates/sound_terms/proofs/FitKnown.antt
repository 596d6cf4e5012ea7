-- The test of the numbers of a term is exact.
use Rattle.std.specs.Prelude.{ℕ, suc, ◌+◌, ◌<◌, ◌≤◌, ◌==◌, ◌&&◌, nat_lt, Bool, true, false, List, [], ◌∷◌, ◌≡◌, length}
use Rattle.std.proofs.Common.{inl, inr, refl, arith, ap}
use Rattle.std.proofs.lemmas.Bool.Decides.{Decides-ltb}
use Rattle.std.proofs.lemmas.Bool.{and_parts, and_from}
use Rattle.hmsc_graph.specs.Graphs.{Spot, Start, At, Goal, To, End, Any}
use Rattle.msc_base.specs.Lists.{IsIn}
use Rattle.term_tables.specs.Fitting.{spot_fits, goal_fits, fits, fits_all, fits_row}
use Rattle.term_tables.specs.NetValues.{NetsValue}
use Rattle.chart_term.specs.Tables.{Tables, net_count, nodes_of, count_from, choose}
use Rattle.chart_term.specs.Terms.{Tree, Nil, Event, Join, Choice, Tied, Loop, Walk, Trees, none, more, Row, ends, gap, turn}
use Rattle.term_laws.specs.FullSoundness.{IsSpotOf, IsGoalOf, AreNumbersKnown, EveryPartOf, EveryRowPart}
use Rattle.term_laws.specs.Soundness.{IsKnown}
use Rattle.sound_terms.specs.FormLaws.{FitsIsKnown}
use Rattle.sound_terms.proofs.SoundTables.{is_counted}

counted_within : (i m : ℕ) (xs : List Tree) → IsIn m (count_from i xs) → (i ≤ m) × (m < i + length xs)
counted_within i m [] h = absurd h
counted_within i m (x ∷ xs) (inl e) = (omega (arith, e), omega (arith, e))
counted_within i m (x ∷ xs) (inr h) = let (a, b) = counted_within (i + 1) m xs h in (omega (arith, a), omega (arith, b))

count_length : (i : ℕ) (xs : List Tree) → length (count_from i xs) ≡ length xs
count_length i [] = refl
count_length i (x ∷ xs) = ap suc (count_length (i + 1) xs)

-- the nodes of a net are the numbers below how many there are
node_in : (w : Tables) (n m : ℕ) → m < length (nodes_of w n) → IsIn m (nodes_of w n)
node_in [] n m h = absurd (omega (arith, h))
node_in (e ∷ w) n m h = by (n == net_count w) (λ k. node_in w n m k) h
  where
    by : (b : Bool) → (m < length (nodes_of w n) → IsIn m (nodes_of w n)) → m < length (choose b (count_from 0 e.nodes) (nodes_of w n)) → IsIn m (choose b (count_from 0 e.nodes) (nodes_of w n))
    by true f k = is_counted 0 m e.nodes (omega arith) (omega (arith, k, count_length 0 e.nodes))
    by false f k = f k

in_node : (w : Tables) (n m : ℕ) → IsIn m (nodes_of w n) → m < length (nodes_of w n)
in_node [] n m h = absurd h
in_node (e ∷ w) n m h = by (n == net_count w) (λ k. in_node w n m k) h
  where
    by : (b : Bool) → (IsIn m (nodes_of w n) → m < length (nodes_of w n)) → IsIn m (choose b (count_from 0 e.nodes) (nodes_of w n)) → m < length (choose b (count_from 0 e.nodes) (nodes_of w n))
    by true f k = let (a, b) = counted_within 0 m e.nodes k in omega (arith, b, count_length 0 e.nodes)
    by false f k = f k

spot_to : (w : Tables) (n : ℕ) (f : Spot) → spot_fits (length (nodes_of w n)) f ≡ true → IsSpotOf w n f
spot_to w n Start h = tt
spot_to w n (At m) h = node_in w n m ((Decides-ltb m (length (nodes_of w n))).0 h)

spot_from : (w : Tables) (n : ℕ) (f : Spot) → IsSpotOf w n f → spot_fits (length (nodes_of w n)) f ≡ true
spot_from w n Start h = refl
spot_from w n (At m) h = (Decides-ltb m (length (nodes_of w n))).1 (in_node w n m h)

goal_to : (w : Tables) (n : ℕ) (t : Goal) → goal_fits (length (nodes_of w n)) t ≡ true → IsGoalOf w n t
goal_to w n (To m) h = node_in w n m ((Decides-ltb m (length (nodes_of w n))).0 h)
goal_to w n End h = tt
goal_to w n Any h = tt

goal_from : (w : Tables) (n : ℕ) (t : Goal) → IsGoalOf w n t → goal_fits (length (nodes_of w n)) t ≡ true
goal_from w n (To m) h = (Decides-ltb m (length (nodes_of w n))).1 (in_node w n m h)
goal_from w n End h = refl
goal_from w n Any h = refl

module _ (v : NetsValue) where
  abbrev IsKnownWalk : ℕ → Spot → Goal → Type 0
  IsKnownWalk n f t = IsKnown v.tables n × IsSpotOf v.tables n f × IsGoalOf v.tables n t

  abbrev AllKnown : Trees → Type 0
  AllKnown xs = EveryPartOf (λ e. e.label < length v.labels) (λ y q. Unit {0}) (λ y. Unit {0}) IsKnownWalk xs

  abbrev RowKnown : Row → Type 0
  RowKnown r = EveryRowPart (λ e. e.label < length v.labels) (λ y q. Unit {0}) (λ y. Unit {0}) IsKnownWalk r

  mutual
    to : (x : Tree) → fits v x ≡ true → AreNumbersKnown (length v.labels) v.tables x
    to Nil h = tt
    to (Event e) h = (Decides-ltb e.label (length v.labels)).0 h
    to (Join m xs) h = to_all xs h
    to (Choice xs) h = to_all xs h
    to (Tied x q) h = (to x h, tt)
    to (Loop x lo hi r) h = let (a, b) = and_parts (fits v x) (fits_row v r) h in (to x a, tt, to_row r b)
    to (Walk n s t c) h =
        let (a, b) = and_parts (nat_lt n (net_count v.tables)) (spot_fits (length (nodes_of v.tables n)) s && goal_fits (length (nodes_of v.tables n)) t) h in
        let (d, e) = and_parts (spot_fits (length (nodes_of v.tables n)) s) (goal_fits (length (nodes_of v.tables n)) t) b in
        ((Decides-ltb n (net_count v.tables)).0 a, spot_to v.tables n s d, goal_to v.tables n t e)

    to_all : (xs : Trees) → fits_all v xs ≡ true → AllKnown xs
    to_all none h = tt
    to_all (more x xs) h = let (a, b) = and_parts (fits v x) (fits_all v xs) h in (to x a, to_all xs b)

    to_row : (r : Row) → fits_row v r ≡ true → RowKnown r
    to_row ends h = tt
    to_row (gap c r) h = to_row r h
    to_row (turn x r) h = let (a, b) = and_parts (fits v x) (fits_row v r) h in (to x a, to_row r b)

  mutual
    from : (x : Tree) → AreNumbersKnown (length v.labels) v.tables x → fits v x ≡ true
    from Nil h = refl
    from (Event e) h = (Decides-ltb e.label (length v.labels)).1 h
    from (Join m xs) h = from_all xs h
    from (Choice xs) h = from_all xs h
    from (Tied x q) h = from x h.0
    from (Loop x lo hi r) h = and_from (fits v x) (fits_row v r) (from x h.0) (from_row r h.2)
    from (Walk n s t c) h =
        and_from (nat_lt n (net_count v.tables)) (spot_fits (length (nodes_of v.tables n)) s && goal_fits (length (nodes_of v.tables n)) t) ((Decides-ltb n (net_count v.tables)).1 h.0) (and_from (spot_fits (length (nodes_of v.tables n)) s) (goal_fits (length (nodes_of v.tables n)) t) (spot_from v.tables n s h.1) (goal_from v.tables n t h.2))

    from_all : (xs : Trees) → AllKnown xs → fits_all v xs ≡ true
    from_all none h = refl
    from_all (more x xs) h = and_from (fits v x) (fits_all v xs) (from x h.0) (from_all xs h.1)

    from_row : (r : Row) → RowKnown r → fits_row v r ≡ true
    from_row ends h = refl
    from_row (gap c r) h = from_row r h
    from_row (turn x r) h = and_from (fits v x) (fits_row v r) (from x h.0) (from_row r h.1)

pub fits_is_known : FitsIsKnown
fits_is_known = record { exact = λ v x. record { to = to v x; from = from v x } }
