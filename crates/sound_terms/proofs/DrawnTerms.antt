-- Terms that a placed region draws have patterns with linear orders.
use Rattle.std.specs.List.{slice_get}
use Rattle.std.specs.Prelude.{ℕ, zero, suc, ◌<◌, ◌≤◌, ◌==◌, Bool, true, false, List, [], ◌∷◌, Some, ◌≡◌, ◌⊎◌}
use Rattle.std.proofs.Common.{inl, inr, refl, sym, subst, arith}
use Rattle.std.proofs.lemmas.Bool.{cases_lt}
use Rattle.std.proofs.lemmas.Bool.Decides.{Decides-eqb}
use Rattle.msc_base.specs.Orders.{Kept}
use Rattle.msc_base.specs.Patterns.{Before}
use Rattle.chart_term.specs.Properties.{IsBelow}
use Rattle.chart_term.specs.Tables.{Tables, net_count, nth_tree, node_of, terms_over, choose}
use Rattle.chart_term.specs.TermMeanings.{has_nil}
use Rattle.chart_term.specs.TermPatterns.{Shape, numbered}
use Rattle.chart_term.specs.TermRuns.{run_end}
use Rattle.chart_term.specs.Terms.{Tree, Nil}
use Rattle.chart_term.proofs.Arranging.{runs_linear}
use Rattle.term_laws.specs.FullSoundness.{AreSoundNets, HasOrders, IsSoundNode}
use Rattle.term_laws.specs.Sound.{HasOrder}
use Rattle.term_laws.specs.Soundness.{AreTidyTables}
use Rattle.term_laws.proofs.FullSound.{tidy_tables, orders_up}
use Rattle.term_laws.proofs.TidyTables.{picked, each_nth, each_map, node_below}
use Rattle.sound_terms.specs.DrawnOrders.{NetHolds, DrawnAreOrdered}
use Rattle.sound_terms.specs.Regions.{Region, Placed, Draws}
use Rattle.sound_terms.proofs.KeyedRuns.{Keyed}
use Rattle.sound_terms.proofs.Places.{place_among, among_place}
use Rattle.sound_terms.proofs.RankedTerms.{ranked_run}
use Rattle.sound_terms.proofs.RegionRanks.{ranks_of}

-- in an order that is kept the first of a pair stands first
kept_at : {P : Type 0} (B : P → P → Type 0) (l : List P) → Kept B l → (i j : ℕ) (x y : P) → slice_get l i ≡ Some x → slice_get l j ≡ Some y → B x y → i < j
kept_at B [] k i j x y h g b = cc
kept_at B (z ∷ l) k i zero x y h g b = let e : y ≡ z = cc in absurd (k.0 x (place_among (z ∷ l) i x h) (subst (λ w. B x w) e b))
kept_at B (z ∷ l) k zero (suc j) x y h g b = omega arith
kept_at B (z ∷ l) k (suc i) (suc j) x y h g b = omega (arith, kept_at B l k.1 i j x y h g b)

-- the places in a linear order are keys
order_keys : (s : Shape) → HasOrder s → Keyed (λ n. 0) s
order_keys s h = record {
  tail = λ p. (among_place h.is.order p (h.is.linear.every p)).0 ∷ [];
  rises = λ p q b.
      let (i, e) = among_place h.is.order p (h.is.linear.every p) in
      let (j, g) = among_place h.is.order q (h.is.linear.every q) in
      inr (refl, inl (kept_at (Before numbered s) h.is.order h.is.linear.kept i j p q e g b));
}

nil_orders : (w : Tables) → HasOrders w Nil
nil_orders w s has_nil = record { run = []; is = runs_linear (run_end tt) }

no_node : (w : Tables) (n m : ℕ) → net_count w ≤ n → node_of w n m ≡ Nil
no_node [] n m h = refl
no_node (e ∷ w) n m h = by (n == net_count w) refl (no_node w n m (omega (arith, h)))
  where
    by : (b : Bool) → (n == net_count w) ≡ b → node_of w n m ≡ Nil → choose b (nth_tree e.nodes m) (node_of w n m) ≡ Nil
    by true p k = absurd (omega (arith, h, (Decides-eqb n (net_count w)).0 p))
    by false p k = k

-- each pattern of a node's term has a linear order; what is no node is empty
node_orders : (labels : ℕ) (w : Tables) → AreSoundNets labels w → (n m : ℕ) → HasOrders w (node_of w n m)
node_orders labels [] h n m = nil_orders []
node_orders labels (e ∷ es) h n m =
    picked (HasOrders (e ∷ es)) (n == net_count es) (nth_tree e.nodes m) (node_of es n m)
    (λ p. orders_up e es t (nth_tree e.nodes m) (each_nth (IsBelow (net_count es)) e.nodes tt h.2 m) (each_nth (HasOrders es) e.nodes (nil_orders es) (each_map (IsSoundNode labels es) (HasOrders es) (λ x i. i.sound.ordered) e.nodes h.1) m))
    (λ p. older (cases_lt n (net_count es)) (node_orders labels es h.0 n m))
  where
    t : AreTidyTables es
    t = tidy_tables labels es h.0

    older : (n < net_count es) ⊎ (net_count es ≤ n) → HasOrders es (node_of es n m) → HasOrders (e ∷ es) (node_of es n m)
    older (inl l) k = orders_up e es t (node_of es n m) (node_below true es t n l m) k
    older (inr l) k = subst (HasOrders (e ∷ es)) (sym (no_node es n m l)) (nil_orders (e ∷ es))

drawn : (labels : ℕ) (w : Tables) (v f : ℕ → ℕ) (x : Tree) (g : Region) → AreSoundNets labels w → Draws (NetHolds w) v f x g → Placed f g → HasOrders w x
drawn labels w v f x g h d p s k =
    let (l, r) = ranked_run (terms_over w) true (NetHolds w)
    (λ n m t a i. record { node = m; pattern = t; has = a; position = i; is = refl })
    (λ n m t a. ((λ k. 0), order_keys t (node_orders labels w h n m t a)))
    (λ n. f (v n)) (ranks_of (NetHolds w) v f d p) k in
    record { run = l; is = runs_linear r }

pub drawn_are_ordered : DrawnAreOrdered
drawn_are_ordered = record { ordered = drawn }
