-- Permission and taking keep terms sound in full.
use Rattle.std.specs.Prelude.{ℕ, ◌<◌, ◌==◌, true, false, List, [], ◌∷◌, ◌≡◌, Some}
use Rattle.std.proofs.Common.{arith, inl, inr}
use Rattle.hmsc_graph.specs.Graphs.{Spot, Start, At, Goal, To, End, Any}
use Rattle.chart_term.specs.NormalForms.{only, kept_pairs, numbers}
use Rattle.chart_term.specs.Properties.{EveryOf, IsBelow, MayHave}
use Rattle.chart_term.specs.Tables.{NetEntry, Tables, net_count}
use Rattle.chart_term.specs.TermPatterns.{InPairs}
use Rattle.chart_term.specs.Terms.{TermEvent, Block, Tree, Nil, Event, Join, Choice, Tied, Loop, Walk, Trees, none, more}
use Rattle.chart_term.proofs.Binding.{kept_in}
use Rattle.term_laws.specs.FullSoundness.{IsSpotOf, IsGoalOf, AreNumbersKnown, HasOrders, HaveOperandsOrders, HasNoOpenWalk, IsOpenWalkLast, IsSoundOver, IsSoundNode, AreSoundNets, IsFullySound, FullSoundnessIsKept}
use Rattle.term_laws.specs.Laws.{Fits}
use Rattle.term_laws.specs.Normality.{AreNormalTables, IsNormalOver}
use Rattle.term_laws.specs.Permission.{permit, permits_of}
use Rattle.term_laws.specs.Sound.{IsSound}
use Rattle.term_laws.specs.Soundness.{AreTidyTables, IsTidyOver, NetLacks, IsKnown}
use Rattle.term_laws.specs.Taking.{IsAfter}
use Rattle.term_laws.proofs.EveryPart.{permit_part, after_part, part_map, NodesHave, kept_has_it}
use Rattle.term_laws.proofs.Keeping.{Begins, Aims, as_before, at_node, to_node, at_some}
use Rattle.term_laws.proofs.Once.{Once, OnceAll, OnceEach, permit_once, after_once}
use Rattle.term_laws.proofs.OpenWalks.{permit_closed, permit_last, after_last}
use Rattle.term_laws.proofs.SoundLaws.{soundness_is_kept}
use Rattle.term_laws.proofs.SoundParts.{sound_even, sound_tidy, outside_of, falling_of, counts_of}
use Rattle.term_laws.proofs.TidyTables.{not_same, each_map, down, lacks_tree, lacks_all, lacks_row, lacks_up, nets_good}
use Rattle.term_laws.proofs.Times.{TiesOnce, ties_to, ties_from}

-- What the laws ask of tables

pub normal_tables : (labels : ℕ) (w : Tables) → AreSoundNets labels w → AreNormalTables w
normal_tables labels [] h = tt
normal_tables labels (e ∷ es) h = (normal_tables labels es h.0, each_map (IsSoundNode labels es) (IsNormalOver es) (λ x i. i.sound.normal) e.nodes h.1)

pub tidy_tables : (labels : ℕ) (w : Tables) → AreSoundNets labels w → AreTidyTables w
tidy_tables labels [] h = tt
tidy_tables labels (e ∷ es) h = let t = tidy_tables labels es h.0 in (t, each_map (IsSoundNode labels es) (IsTidyOver es) (λ x i. sound_tidy labels es t (normal_tables labels es h.0) x i.sound) e.nodes h.1, h.2, h.3)

pub tidy_of : (labels : ℕ) (w : Tables) (x : Tree) → AreSoundNets labels w → IsSoundOver labels w x → IsTidyOver w x
tidy_of labels w x h i = sound_tidy labels w (tidy_tables labels w h) (normal_tables labels w h) x i

pub is_sound : (labels : ℕ) (w : Tables) (x : Tree) → IsFullySound labels w x → IsSound w x
is_sound labels w x h = record {
  tables = record { tidy = tidy_tables labels w h.nets; normal = normal_tables labels w h.nets };
  tidy = tidy_of labels w x h.nets h.term;
  normal = h.term.normal;
  ordered = h.term.ordered;
}

-- Walks without aim to any node

closed_kept : (labels : ℕ) (w : Tables) → AreSoundNets labels w → (n m : ℕ) (d : List ℕ) (x : Tree) → (permits_of w).kept n m d ≡ Some x → HasNoOpenWalk x
closed_kept labels w h = kept_has_it (λ es x. HasNoOpenWalk x) (λ e es t x b i. i) (λ es t c x i. permit_closed (permits_of es) (only c) x i) w (tidy_tables labels w h) (nodes w h)
  where
    nodes : (w : Tables) → AreSoundNets labels w → NodesHave (λ es x. HasNoOpenWalk x) w
    nodes [] h = tt
    nodes (e ∷ es) h = (nodes es h.0, each_map (IsSoundNode labels es) HasNoOpenWalk (λ x i. i.closed) e.nodes h.1)

-- Numbers in the tables

spot_up : (e : NetEntry) (es : Tables) (n : ℕ) (f : Spot) → n < net_count es → IsSpotOf es n f → IsSpotOf (e ∷ es) n f
spot_up e es n Start l h = tt
spot_up e es n (At m) l h = let p : (n == net_count es) ≡ false = not_same n (net_count es) l in rw p h

goal_up : (e : NetEntry) (es : Tables) (n : ℕ) (t : Goal) → n < net_count es → IsGoalOf es n t → IsGoalOf (e ∷ es) n t
goal_up e es n (To m) l h = let p : (n == net_count es) ≡ false = not_same n (net_count es) l in rw p h
goal_up e es n End l h = tt
goal_up e es n Any l h = tt

module _ (labels : ℕ) where
  abbrev pub walk_known : Tables → ℕ → Spot → Goal → Type 0
  walk_known w n f t = IsKnown w n × IsSpotOf w n f × IsGoalOf w n t

  known_up : (e : NetEntry) (es : Tables) (x : Tree) → IsBelow (net_count es) x → AreNumbersKnown labels es x → AreNumbersKnown labels (e ∷ es) x
  known_up e es =
      part_map (λ e. e.label < labels) (λ e. e.label < labels) (λ y q. Unit {0}) (λ y q. Unit {0}) (λ y. Unit {0}) (λ y. Unit {0}) (walk_known es) (walk_known (e ∷ es)) (net_count es)
      (λ e h. h) (λ x q b h. h) (λ x b h. h) (λ n f t l h. (omega arith, spot_up e es n f l h.1, goal_up e es n t l h.2))

  pub known_left : (w : Tables) → AreTidyTables w → (n : ℕ) (f g : Spot) (t u : Goal) → walk_known w n f t → Begins (permits_of w) n f g → Aims (permits_of w) n t u → walk_known w n g u
  known_left w h n f g t u i s a = (i.0, spot g i.1 s, goal u i.2 a)
    where
      spot : (g : Spot) → IsSpotOf w n f → Begins (permits_of w) n f g → IsSpotOf w n g
      spot g j as_before = j
      spot g j (at_node m d x e) = (nets_good true w h).known n m d x e

      goal : (u : Goal) → IsGoalOf w n t → Aims (permits_of w) n t u → IsGoalOf w n u
      goal u j as_before = j
      goal u j (to_node m d x e) = (nets_good true w h).known n m d x e

  permit_known : (w : Tables) → AreTidyTables w → (b : Block) (x : Tree) → AreNumbersKnown labels w x → MayHave (AreNumbersKnown labels w) (permit (permits_of w) b x)
  permit_known w h = permit_part (λ e. e.label < labels) (λ y q. Unit {0}) (λ y. Unit {0}) (walk_known w) (permits_of w) (known_left w h) (λ x q h. tt) (λ b x z e q h. tt) (λ x y z b e a p q h. tt)

  known_kept : (w : Tables) → AreSoundNets labels w → (n m : ℕ) (d : List ℕ) (x : Tree) → (permits_of w).kept n m d ≡ Some x → AreNumbersKnown labels w x
  known_kept w h = kept_has_it (AreNumbersKnown labels) (λ e es t x b i. known_up e es x b i) (λ es t c x i. permit_known es t (only c) x i) w (tidy_tables labels w h) (nodes w h)
    where
      nodes : (w : Tables) → AreSoundNets labels w → NodesHave (AreNumbersKnown labels) w
      nodes [] h = tt
      nodes (e ∷ es) h = (nodes es h.0, each_map (IsSoundNode labels es) (AreNumbersKnown labels es) (λ x i. i.sound.known) e.nodes h.1)

  after_known : (w : Tables) → AreSoundNets labels w → {x y : Tree} {e : TermEvent} → IsAfter (permits_of w) x e y → AreNumbersKnown labels w x → AreNumbersKnown labels w y
  after_known w h =
      after_part (λ e. e.label < labels) (λ y q. Unit {0}) (λ y. Unit {0}) (walk_known w) (permits_of w) (known_left w (tidy_tables labels w h)) (λ x q h. tt) (λ b x z e q h. tt) (λ x y z b e a p q h. tt) (known_kept w h)

-- Loop operands

pub orders_up : (e : NetEntry) (es : Tables) → AreTidyTables es → (x : Tree) → IsBelow (net_count es) x → HasOrders es x → HasOrders (e ∷ es) x
orders_up e es t x b h s a = h s (down true e es t x b s a)

operands_up : (e : NetEntry) (es : Tables) → AreTidyTables es → (x : Tree) → IsBelow (net_count es) x → HaveOperandsOrders es x → HaveOperandsOrders (e ∷ es) x
operands_up e es t =
    part_map (λ e. Unit {0}) (λ e. Unit {0}) (λ y q. Unit {0}) (λ y q. Unit {0}) (HasOrders es) (HasOrders (e ∷ es)) (λ n f t. Unit {0}) (λ n f t. Unit {0}) (net_count es)
    (λ e h. h) (λ x q b h. h) (λ x b h. orders_up e es t x b h) (λ n f t l h. h)

permit_operands : (w : Tables) (b : Block) (x : Tree) → HaveOperandsOrders w x → MayHave (HaveOperandsOrders w) (permit (permits_of w) b x)
permit_operands w =
    permit_part (λ e. Unit {0}) (λ y q. Unit {0}) (HasOrders w) (λ n f t. Unit {0}) (permits_of w) (λ n f g t u h s a. tt) (λ x q h. tt) (λ b x z e q h. tt) (λ x y z b e a p q h. tt)

operands_kept : (labels : ℕ) (w : Tables) → AreSoundNets labels w → (n m : ℕ) (d : List ℕ) (x : Tree) → (permits_of w).kept n m d ≡ Some x → HaveOperandsOrders w x
operands_kept labels w h = kept_has_it HaveOperandsOrders (λ e es t x b i. operands_up e es t x b i) (λ es t c x i. permit_operands es (only c) x i) w (tidy_tables labels w h) (nodes w h)
  where
    nodes : (w : Tables) → AreSoundNets labels w → NodesHave HaveOperandsOrders w
    nodes [] h = tt
    nodes (e ∷ es) h = (nodes es h.0, each_map (IsSoundNode labels es) (HaveOperandsOrders es) (λ x i. i.sound.operands) e.nodes h.1)

after_operands : (labels : ℕ) (w : Tables) → AreSoundNets labels w → {x y : Tree} {e : TermEvent} → IsAfter (permits_of w) x e y → HaveOperandsOrders w x → HaveOperandsOrders w y
after_operands labels w h =
    after_part (λ e. Unit {0}) (λ y q. Unit {0}) (HasOrders w) (λ n f t. Unit {0}) (permits_of w) (λ n f g t u h s a. tt) (λ x q h. tt) (λ b x z e q h. tt) (λ x y z b e a p q h. tt) (operands_kept labels w h)

-- Ties

module _ (e : NetEntry) (es : Tables) (t : AreTidyTables es) (j : ℕ) where
  mutual
    once_up : (x : Tree) → IsBelow (net_count es) x → Once (NetLacks es) j x → Once (NetLacks (e ∷ es)) j x
    once_up Nil b h = tt
    once_up (Event f) b h = tt
    once_up (Join m xs) b h = once_all_up xs b h
    once_up (Choice xs) b h = once_each_up xs b h
    once_up (Tied x q) b h = once_up x b h
    once_up (Loop x lo hi r) b h = (lacks_tree true e es t j x b.0 h.0, lacks_row true e es t j r b.1 h.1)
    once_up (Walk n f u c) b h = lacks_up true e es t j n b h

    once_all_up : (xs : Trees) → EveryOf (λ e. Unit {0}) (λ m. m < net_count es) xs → OnceAll (NetLacks es) j xs → OnceAll (NetLacks (e ∷ es)) j xs
    once_all_up none b h = tt
    once_all_up (more x xs) b (inl h) = inl (lacks_tree true e es t j x b.0 h.0, once_all_up xs b.1 h.1)
    once_all_up (more x xs) b (inr h) = inr (once_up x b.0 h.0, lacks_all true e es t j xs b.1 h.1)

    once_each_up : (xs : Trees) → EveryOf (λ e. Unit {0}) (λ m. m < net_count es) xs → OnceEach (NetLacks es) j xs → OnceEach (NetLacks (e ∷ es)) j xs
    once_each_up none b h = tt
    once_each_up (more x xs) b h = (once_up x b.0 h.0, once_each_up xs b.1 h.1)

abbrev pub OnceTie : Tables → Tree → List (ℕ × ℕ) → Type 0
OnceTie w y q = (j : ℕ) → InPairs j q → Once (NetLacks w) j y

ties_up : (e : NetEntry) (es : Tables) → AreTidyTables es → (x : Tree) → IsBelow (net_count es) x → TiesOnce (NetLacks es) x → TiesOnce (NetLacks (e ∷ es)) x
ties_up e es t =
    part_map (λ e. Unit {0}) (λ e. Unit {0}) (OnceTie es) (OnceTie (e ∷ es)) (λ y. Unit {0}) (λ y. Unit {0}) (λ n f t. Unit {0}) (λ n f t. Unit {0}) (net_count es)
    (λ e h. h) (λ x q b h j p. once_up e es t j x b (h j p)) (λ x b h. h) (λ n f t l h. h)

module _ (w : Tables) (t : AreTidyTables w) where
  pub tie_fewer : (x : Tree) (q : List (ℕ × ℕ)) → OnceTie w x q → OnceTie w x (kept_pairs (numbers x) q)
  tie_fewer x q h j p = h j (kept_in j (numbers x) q p)

  pub tie_permit : (b : Block) (x z : Tree) → permit (permits_of w) b x ≡ Some z → (q : List (ℕ × ℕ)) → OnceTie w x q → OnceTie w z q
  tie_permit b x z e q h j p = at_some (Once (NetLacks w) j) (permit (permits_of w) b x) z e (permit_once (NetLacks w) j (permits_of w) b x (h j p))

  pub tie_taken : (x y z : Tree) (b : Block) (e : TermEvent) → IsAfter (permits_of w) x e y → permit (permits_of w) b y ≡ Some z → (q : List (ℕ × ℕ)) → OnceTie w x q → OnceTie w z q
  tie_taken x y z b e a p q h j i =
      at_some (Once (NetLacks w) j) (permit (permits_of w) b y) z p (permit_once (NetLacks w) j (permits_of w) b y (after_once (NetLacks w) j (permits_of w) ((nets_good true w t).lacks j) a (h j i)))

permit_ties : (w : Tables) → AreTidyTables w → (b : Block) (x : Tree) → TiesOnce (NetLacks w) x → MayHave (TiesOnce (NetLacks w)) (permit (permits_of w) b x)
permit_ties w t = permit_part (λ e. Unit {0}) (OnceTie w) (λ y. Unit {0}) (λ n f t. Unit {0}) (permits_of w) (λ n f g t u h s a. tt) (tie_fewer w t) (tie_permit w t) (tie_taken w t)

ties_kept : (labels : ℕ) (w : Tables) → AreSoundNets labels w → (n m : ℕ) (d : List ℕ) (x : Tree) → (permits_of w).kept n m d ≡ Some x → TiesOnce (NetLacks w) x
ties_kept labels w h = kept_has_it (λ es. TiesOnce (NetLacks es)) (λ e es t x b i. ties_up e es t x b i) (λ es t c x i. permit_ties es t (only c) x i) w (tidy_tables labels w h) (nodes w h)
  where
    nodes : (w : Tables) → AreSoundNets labels w → NodesHave (λ es. TiesOnce (NetLacks es)) w
    nodes [] h = tt
    nodes (e ∷ es) h =
        (nodes es h.0, each_map (IsSoundNode labels es) (TiesOnce (NetLacks es)) (λ x i. ties_to es (tidy_tables labels es h.0) (normal_tables labels es h.0) x (sound_even labels es x i.sound) i.sound.normal i.sound.once) e.nodes h.1)

after_ties : (labels : ℕ) (w : Tables) → AreSoundNets labels w → {x y : Tree} {e : TermEvent} → IsAfter (permits_of w) x e y → TiesOnce (NetLacks w) x → TiesOnce (NetLacks w) y
after_ties labels w h =
    let t = tidy_tables labels w h in
    after_part (λ e. Unit {0}) (OnceTie w) (λ y. Unit {0}) (λ n f t. Unit {0}) (permits_of w) (λ n f g t u h s a. tt) (tie_fewer w t) (tie_permit w t) (tie_taken w t) (ties_kept labels w h)

-- All of it

permit_full : (labels : ℕ) (w : Tables) (x y : Tree) (b : Block) → IsFullySound labels w x → Fits w b x → permit (permits_of w) b x ≡ Some y → IsFullySound labels w y
permit_full labels w x y b h f e =
    let s = soundness_is_kept.permit_keeps w x y b (is_sound labels w x h) f e in
    let t = tidy_tables labels w h.nets in
    let g = normal_tables labels w h.nets in
    record {
      nets = h.nets;
      term = record {
        normal = s.normal;
        known = at_some (AreNumbersKnown labels w) (permit (permits_of w) b x) y e (permit_known labels w t b x h.term.known);
        once = ties_from w t y s.tidy (at_some (TiesOnce (NetLacks w)) (permit (permits_of w) b x) y e (permit_ties w t b x (ties_to w t g x (sound_even labels w x h.term) h.term.normal h.term.once)));
        outside = outside_of w y s.tidy;
        falling = falling_of w y s.tidy;
        counts = counts_of w y s.tidy;
        last = at_some IsOpenWalkLast (permit (permits_of w) b x) y e (permit_last (permits_of w) b x h.term.last);
        ordered = s.ordered;
        operands = at_some (HaveOperandsOrders w) (permit (permits_of w) b x) y e (permit_operands w b x h.term.operands);
      };
    }

after_full : (labels : ℕ) (w : Tables) (x y : Tree) (e : TermEvent) → IsFullySound labels w x → IsAfter (permits_of w) x e y → IsFullySound labels w y
after_full labels w x y e h a =
    let s = soundness_is_kept.after_keeps w x y e (is_sound labels w x h) a in
    let t = tidy_tables labels w h.nets in
    let g = normal_tables labels w h.nets in
    record {
      nets = h.nets;
      term = record {
        normal = s.normal;
        known = after_known labels w h.nets a h.term.known;
        once = ties_from w t y s.tidy (after_ties labels w h.nets {x = x} {y = y} a (ties_to w t g x (sound_even labels w x h.term) h.term.normal h.term.once));
        outside = outside_of w y s.tidy;
        falling = falling_of w y s.tidy;
        counts = counts_of w y s.tidy;
        last = after_last (permits_of w) (closed_kept labels w h.nets) x y e a h.term.last;
        ordered = s.ordered;
        operands = after_operands labels w h.nets {x = x} {y = y} a h.term.operands;
      };
    }

pub full_soundness_is_kept : FullSoundnessIsKept
full_soundness_is_kept = record { suffices = is_sound; permit_keeps = permit_full; after_keeps = after_full }
