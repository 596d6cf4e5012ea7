-- Numbers beyond an interval are in no net and no term whose numbers lie in it.
use Rattle.std.specs.Prelude.{ℕ, ◌≤◌, ◌<◌, ◌==◌, ◌≢◌, Bool, true, false, [], ◌∷◌, ◌⊎◌}
use Rattle.std.proofs.Common.{inl, inr, arith}
use Rattle.chart_term.specs.Properties.{Each, Every, EveryOf, EveryRow}
use Rattle.chart_term.specs.Tables.{Tables, net_count}
use Rattle.chart_term.specs.Terms.{TermEvent, Tree, Nil, Event, Join, Choice, Tied, Loop, Walk, Trees, none, more, Row, ends, gap, turn}
use Rattle.term_laws.specs.Soundness.{PickType, NetLacks, Lacks, IsOutside, AreOutside}
use Rattle.term_laws.proofs.TidyTables.{each_map}
use Rattle.sound_terms.specs.NetRanges.{IsNetWithin, IsTermWithin, RangesLack}
use Rattle.sound_terms.specs.Intervals.{IsInside, IsBeyond}

module _ (E F : TermEvent → Type 0) (N M : ℕ → Type 0) (event : (e : TermEvent) → E e → F e) (net : (n : ℕ) → N n → M n) where
  mutual
    every_map : (x : Tree) → Every E N x → Every F M x
    every_map Nil h = tt
    every_map (Event e) h = event e h
    every_map (Join m xs) h = all_map xs h
    every_map (Choice xs) h = all_map xs h
    every_map (Tied x q) h = every_map x h
    every_map (Loop x lo hi r) h = (every_map x h.0, row_map r h.1)
    every_map (Walk n f t c) h = net n h

    all_map : (xs : Trees) → EveryOf E N xs → EveryOf F M xs
    all_map none h = tt
    all_map (more x xs) h = (every_map x h.0, all_map xs h.1)

    row_map : (r : Row) → EveryRow E N r → EveryRow F M r
    row_map ends h = tt
    row_map (gap c r) h = row_map r h
    row_map (turn x r) h = (every_map x h.0, row_map r h.1)

pick_map : (b : Bool) (A B C D : Type 0) → (A → C) → (B → D) → PickType b A B → PickType b C D
pick_map true A B C D f g h = f h
pick_map false A B C D f g h = g h

module _ (lo hi j : ℕ) (beyond : IsBeyond lo hi j) where
  other : (n : ℕ) → IsInside lo hi n → n ≢ j
  other n (a, b) e = by beyond
    where
      by : (j < lo) ⊎ (hi ≤ j) → ⊥
      by (inl l) = omega (arith, a, b, e, l)
      by (inr l) = omega (arith, a, b, e, l)

  net_lacks : (w : Tables) (n : ℕ) → IsNetWithin lo hi w n → NetLacks w j n
  net_lacks [] n h = h
  net_lacks (e ∷ es) n h =
      pick_map (n == net_count es) (Each (Every (λ f. IsInside lo hi f.number) (IsNetWithin lo hi es)) e.nodes) (IsNetWithin lo hi es n) (Each (Every (λ f. f.number ≢ j) (NetLacks es j)) e.nodes) (NetLacks es j n)
      (each_map (Every (λ f. IsInside lo hi f.number) (IsNetWithin lo hi es)) (Every (λ f. f.number ≢ j) (NetLacks es j))
      (λ x i. every_map (λ f. IsInside lo hi f.number) (λ f. f.number ≢ j) (IsNetWithin lo hi es) (NetLacks es j) (λ f k. other f.number k) (λ m k. net_lacks es m k) x i) e.nodes)
      (λ k. net_lacks es n k) h

  term_lacks : (w : Tables) (x : Tree) → IsTermWithin lo hi w x → Lacks (NetLacks w) j x
  term_lacks w x h = every_map (λ f. IsInside lo hi f.number) (λ f. f.number ≢ j) (IsNetWithin lo hi w) (NetLacks w j) (λ f k. other f.number k) (λ m k. net_lacks w m k) x h

-- what a term lacks is outside its loops and nets
module _ (NL : ℕ → ℕ → Type 0) (j : ℕ) where
  mutual
    pub lacks_outside : (x : Tree) → Lacks NL j x → IsOutside NL j x
    lacks_outside Nil h = tt
    lacks_outside (Event e) h = tt
    lacks_outside (Join m xs) h = all_outside xs h
    lacks_outside (Choice xs) h = all_outside xs h
    lacks_outside (Tied x q) h = lacks_outside x h
    lacks_outside (Loop x lo hi r) h = h
    lacks_outside (Walk n f t c) h = h

    all_outside : (xs : Trees) → EveryOf (λ e. e.number ≢ j) (NL j) xs → AreOutside NL j xs
    all_outside none h = tt
    all_outside (more x xs) h = (lacks_outside x h.0, all_outside xs h.1)

pub ranges_lack : RangesLack
ranges_lack = record {
  net = λ lo hi w n j h b. net_lacks lo hi j b w n h;
  term = λ lo hi w x j h b. term_lacks lo hi j b w x h;
  outside = λ lo hi w x j h b. lacks_outside (NetLacks w) j x (term_lacks lo hi j b w x h);
}
