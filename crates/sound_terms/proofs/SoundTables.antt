-- Soundness in full where tables grow.
use Rattle.std.specs.Prelude.{ℕ, ◌+◌, ◌<◌, ◌≤◌, ◌==◌, true, false, List, [], ◌∷◌, ◌≡◌, length}
use Rattle.std.proofs.Common.{inl, inr, arith}
use Rattle.std.proofs.lemmas.Bool.{cases_lt}
use Rattle.hmsc_graph.specs.Graphs.{Spot, Start, At, Goal, To, End, Any}
use Rattle.msc_base.specs.Lists.{IsIn}
use Rattle.hmsc_graph.specs.Nets.{IsNet, size_of}
use Rattle.chart_term.specs.Properties.{Each, IsBelow}
use Rattle.chart_term.specs.Tables.{NetEntry, Tables, net_count, count_from, terms_over}
use Rattle.chart_term.specs.TermMeanings.{HasPattern}
use Rattle.chart_term.specs.TermPatterns.{Shape, InPairs}
use Rattle.chart_term.specs.Terms.{Tree, Nil, Event, Join, Choice, Tied, Loop, Walk, Trees, none, more, Row, ends, gap, turn}
use Rattle.term_laws.specs.FullSoundness.{times, EveryPartOf, EveryRowPart, IsSpotOf, IsGoalOf, AreNumbersKnown, AreTiesOnce, HasOrders, HaveOperandsOrders, AreEndsNil, IsSoundOver, IsSoundNode, AreSoundNets}
use Rattle.term_laws.specs.Soundness.{IsKnown, AreTidyTables, LeadsWithin}
use Rattle.term_laws.proofs.EveryPart.{part_map}
use Rattle.term_laws.proofs.FullSound.{tidy_tables, tidy_of, orders_up}
use Rattle.term_laws.proofs.Later.{later_tables_agree, tidy_below}
use Rattle.term_laws.proofs.SoundParts.{outside_of}
use Rattle.term_laws.proofs.TidyTables.{not_same, each_map, down}
use Rattle.sound_terms.specs.TableLaws.{TablesStaySound}

abbrev IsKnownWalk : Tables → ℕ → Spot → Goal → Type 0
IsKnownWalk w n f t = IsKnown w n × IsSpotOf w n f × IsGoalOf w n t

-- more labels
module _ (labels many : ℕ) (l : labels ≤ many) where
  mutual
    more_known : (w : Tables) (x : Tree) → AreNumbersKnown labels w x → AreNumbersKnown many w x
    more_known w Nil h = tt
    more_known w (Event e) h = omega (arith, l, h)
    more_known w (Join m xs) h = all_known w xs h
    more_known w (Choice xs) h = all_known w xs h
    more_known w (Tied x q) h = (more_known w x h.0, tt)
    more_known w (Loop x lo hi r) h = (more_known w x h.0, tt, row_known w r h.2)
    more_known w (Walk n f t c) h = h

    all_known : (w : Tables) (xs : Trees) → EveryPartOf (λ e. e.label < labels) (λ y q. Unit {0}) (λ y. Unit {0}) (IsKnownWalk w) xs → EveryPartOf (λ e. e.label < many) (λ y q. Unit {0}) (λ y. Unit {0}) (IsKnownWalk w) xs
    all_known w none h = tt
    all_known w (more x xs) h = (more_known w x h.0, all_known w xs h.1)

    row_known : (w : Tables) (r : Row) → EveryRowPart (λ e. e.label < labels) (λ y q. Unit {0}) (λ y. Unit {0}) (IsKnownWalk w) r → EveryRowPart (λ e. e.label < many) (λ y q. Unit {0}) (λ y. Unit {0}) (IsKnownWalk w) r
    row_known w ends h = tt
    row_known w (gap c r) h = row_known w r h
    row_known w (turn x r) h = (more_known w x h.0, row_known w r h.1)

  more_over : (w : Tables) (x : Tree) → IsSoundOver labels w x → IsSoundOver many w x
  more_over w x h = record {
    normal = h.normal;
    known = more_known w x h.known;
    once = h.once;
    outside = h.outside;
    falling = h.falling;
    counts = h.counts;
    last = h.last;
    ordered = h.ordered;
    operands = h.operands;
  }

  more_node : (w : Tables) (x : Tree) → IsSoundNode labels w x → IsSoundNode many w x
  more_node w x h = record { sound = more_over w x h.sound; closed = h.closed }

  more_nets : (w : Tables) → AreSoundNets labels w → AreSoundNets many w
  more_nets [] h = tt
  more_nets (e ∷ es) h = (more_nets es h.0, each_map (IsSoundNode labels es) (IsSoundNode many es) (λ x i. more_node es x i) e.nodes h.1, h.2, h.3, h.4, h.5)

-- one net more
spot_later : (e : NetEntry) (w : Tables) (n : ℕ) (f : Spot) → n < net_count w → IsSpotOf w n f → IsSpotOf (e ∷ w) n f
spot_later e w n Start l h = tt
spot_later e w n (At m) l h = let p : (n == net_count w) ≡ false = not_same n (net_count w) l in rw p h

goal_later : (e : NetEntry) (w : Tables) (n : ℕ) (t : Goal) → n < net_count w → IsGoalOf w n t → IsGoalOf (e ∷ w) n t
goal_later e w n (To m) l h = let p : (n == net_count w) ≡ false = not_same n (net_count w) l in rw p h
goal_later e w n End l h = tt
goal_later e w n Any l h = tt

known_later : (labels : ℕ) (e : NetEntry) (w : Tables) (x : Tree) → IsBelow (net_count w) x → AreNumbersKnown labels w x → AreNumbersKnown labels (e ∷ w) x
known_later labels e w =
    part_map (λ e. e.label < labels) (λ e. e.label < labels) (λ y q. Unit {0}) (λ y q. Unit {0}) (λ y. Unit {0}) (λ y. Unit {0}) (IsKnownWalk w) (IsKnownWalk (e ∷ w)) (net_count w)
    (λ e h. h) (λ x q b h. h) (λ x b h. h) (λ n f t l h. (omega (arith, l), spot_later e w n f l h.1, goal_later e w n t l h.2))

once_later : (e : NetEntry) (w : Tables) → AreTidyTables w → (x : Tree) → IsBelow (net_count w) x → AreTiesOnce w x → AreTiesOnce (e ∷ w) x
once_later e w h =
    part_map (λ e. Unit {0}) (λ e. Unit {0}) (λ y q. (j : ℕ) → InPairs j q → (s : Shape) → HasPattern (terms_over w) true y s → times j s ≤ 1) (λ y q. (j : ℕ) → InPairs j q → (s : Shape) → HasPattern (terms_over (e ∷ w)) true y s → times j s ≤ 1)
    (λ y. Unit {0}) (λ y. Unit {0}) (λ n f t. Unit {0}) (λ n f t. Unit {0}) (net_count w) (λ e i. i) (λ y q b f j p s a. f j p s (down true e w h y b s a)) (λ y b i. i) (λ n f t l i. i)

operands_later : (e : NetEntry) (w : Tables) → AreTidyTables w → (x : Tree) → IsBelow (net_count w) x → HaveOperandsOrders w x → HaveOperandsOrders (e ∷ w) x
operands_later e w t =
    part_map (λ e. Unit {0}) (λ e. Unit {0}) (λ y q. Unit {0}) (λ y q. Unit {0}) (HasOrders w) (HasOrders (e ∷ w)) (λ n f t. Unit {0}) (λ n f t. Unit {0}) (net_count w)
    (λ e h. h) (λ x q b h. h) (λ x b h. orders_up e w t x b h) (λ n f t l h. h)

later_node : (labels : ℕ) (w : Tables) (e : NetEntry) (x : Tree) → AreSoundNets labels w → IsSoundNode labels w x → IsSoundNode labels (e ∷ w) x
later_node labels w e x h i =
    let t = tidy_tables labels w h in
    let g = tidy_of labels w x h i.sound in
    let b = tidy_below w x g in
    record {
      sound = record {
        normal = later_tables_agree.normal w e x g i.sound.normal;
        known = known_later labels e w x b i.sound.known;
        once = once_later e w t x b i.sound.once;
        outside = outside_of (e ∷ w) x (later_tables_agree.tidy w e x t g);
        falling = i.sound.falling;
        counts = i.sound.counts;
        last = i.sound.last;
        ordered = orders_up e w t x b i.sound.ordered;
        operands = operands_later e w t x b i.sound.operands;
      };
      closed = i.closed;
    }

-- the numbers of the nodes
pub is_counted : (i m : ℕ) (xs : List Tree) → i ≤ m → m < i + length xs → IsIn m (count_from i xs)
is_counted i m [] l h = absurd (omega (arith, l, h))
is_counted i m (x ∷ xs) l h = elim (cases_lt i m) [
  | inl lt ↦ inr (is_counted (i + 1) m xs (omega (arith, lt)) (omega (arith, h)))
  | inr le ↦ inl (omega (arith, l, le))
]

leads_within : (e : NetEntry) → IsNet e.net → size_of e.net ≡ length e.nodes → LeadsWithin e
leads_within e n s Start m i = let b = n.starts_below m i in is_counted 0 m e.nodes (omega arith) (omega (arith, s, b))
leads_within e n s (At k) m i = let b = n.next_below k m i in is_counted 0 m e.nodes (omega arith) (omega (arith, s, b))

one_net : (labels : ℕ) (w : Tables) (e : NetEntry) → AreSoundNets labels w → Each (IsSoundNode labels w) e.nodes → IsNet e.net → size_of e.net ≡ length e.nodes → AreEndsNil e → AreSoundNets labels (e ∷ w)
one_net labels w e h i n s a = (h, i, each_map (IsSoundNode labels w) (IsBelow (net_count w)) (λ x j. tidy_below w x (tidy_of labels w x h j.sound)) e.nodes i, leads_within e n s, a, s)

pub tables_stay_sound : TablesStaySound
tables_stay_sound = record {
  more_labels = λ labels many w l h. more_nets labels many l w h;
  more_labels_node = λ labels many w x l h. more_node labels many l w x h;
  more_labels_term = λ labels many w x l h. record { nets = more_nets labels many l w h.nets; term = more_over labels many l w x h.term };
  later_node = λ labels w e x h i. later_node labels w e x h i;
  one_net_more = λ labels w e h i n s a. one_net labels w e h i n s a;
}
