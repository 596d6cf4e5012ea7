-- Permission keeps a term within the tables, and so do the normalising constructors.
use Rattle.std.specs.Prelude.{ℕ, zero, suc, ◌<◌, ◌==◌, ◌⊎◌, Bool, true, false, List, [], ◌∷◌, ◌≡◌, Option, Some, None, length}
use Rattle.std.proofs.Common.{sym, subst, arith, inl, inr}
use Rattle.msc_base.specs.Patterns.{Mode}
use Rattle.hmsc_graph.specs.Graphs.{Spot, Start, Goal}
use Rattle.hmsc_graph.specs.Spots.{goal_of, IsGoalBelow}
use Rattle.hmsc_graph.specs.declared.spot.Goal.{Goal as GoalShown}
use Rattle.hmsc_graph.specs.declared.spot.Goal.TheVariants.{Node as NodeGoal, End as EndGoal, Any as AnyGoal}
use Rattle.chart_term.specs.NormalForms.{only, join_all, choice_of, tie_of, loop_of, walk_of}
use Rattle.chart_term.specs.Properties.{Each, EachTurn, MayHave}
use Rattle.chart_term.specs.Spreads.{touch}
use Rattle.chart_term.specs.Tables.{Tables, choose, count_from, net_count, nodes_of}
use Rattle.chart_term.specs.TermMeanings.{UpTo}
use Rattle.chart_term.specs.Terms.{Block, Tree, Part, Gap}
use Rattle.chart_term.proofs.Lists.{count_length}
use Rattle.term_laws.specs.Normality.{IsNormalOver}
use Rattle.term_laws.specs.Permission.{kept_of, permit, permit_nth, permits_of}
use Rattle.term_laws.proofs.EveryPart.{join_part, choice_part, bound_part, fresh_part, walk_part, permit_part}
use Rattle.term_laws.proofs.Keeping.{Begins, Aims, as_before, at_node, to_node}
use Rattle.term_laws.proofs.Normalising.{permit_normal, turns_normal, trail_normal}
use Rattle.term_permission.specs.Fresh.{IsFreshLoop}
use Rattle.term_permission.specs.Ready.{IsReady, IsWithin, IsWalkWithin, IsSpotWithin, IsGoalWithin}

-- a node whose term permission leaves is one of the net
nth_within : (w : Tables) (b : Block) (xs : List Tree) (m : ℕ) (y : Tree) → permit_nth (permits_of w) b xs m ≡ Some y → m < length xs
nth_within w b [] m y h = cc
nth_within w b (x ∷ xs) zero y h = omega arith
nth_within w b (x ∷ xs) (suc m) y h = omega (arith, nth_within w b xs m y h)

pub kept_within : (w : Tables) (n m : ℕ) (c : List ℕ) (y : Tree) → kept_of w n m c ≡ Some y → m < length (nodes_of w n)
kept_within [] n m c y h = cc
kept_within (e ∷ es) n m c y h = go (n == net_count es) h (kept_within es n m c y)
  where
    go : (t : Bool) → choose t (permit_nth (permits_of es) (only c) e.nodes m) (kept_of es n m c) ≡ Some y → (kept_of es n m c ≡ Some y → m < length (nodes_of es n)) → m < length (choose t (count_from 0 e.nodes) (nodes_of es n))
    go true p f = omega (arith, nth_within es (only c) e.nodes m y p, count_length 0 e.nodes)
    go false p f = f p

module _ (w : Tables) where
  walk_left : (n : ℕ) (f g : Spot) (t u : Goal) → IsWalkWithin w n f t → Begins (permits_of w) n f g → Aims (permits_of w) n t u → IsWalkWithin w n g u
  walk_left n f g t u h s a = (h.0, spot g h.1 s, goal u h.2 a)
    where
      spot : (g : Spot) → IsSpotWithin (length (nodes_of w n)) f → Begins (permits_of w) n f g → IsSpotWithin (length (nodes_of w n)) g
      spot g j as_before = j
      spot g j (at_node m d x e) = kept_within w n m d x e

      goal : (u : Goal) → IsGoalWithin (length (nodes_of w n)) t → Aims (permits_of w) n t u → IsGoalWithin (length (nodes_of w n)) u
      goal u j as_before = j
      goal u j (to_node m d x e) = kept_within w n m d x e

  pub join_in : (m : Mode) (xs : List Tree) → Each (IsWithin w) xs → IsWithin w (join_all m xs)
  join_in = join_part (λ e. Unit {0}) (λ y q. Unit {0}) (λ y. Unit {0}) (IsWalkWithin w) (permits_of w) walk_left (λ x q h. tt) (λ b x z e q h. tt) (λ x y z b e a p q h. tt)

  pub choice_in : (xs : List Tree) → Each (IsWithin w) xs → MayHave (IsWithin w) (choice_of xs)
  choice_in = choice_part (λ e. Unit {0}) (λ y q. Unit {0}) (λ y. Unit {0}) (IsWalkWithin w) (permits_of w) walk_left (λ x q h. tt) (λ b x z e q h. tt) (λ x y z b e a p q h. tt)

  pub bound_in : (x : Tree) (q : List (ℕ × ℕ)) → IsWithin w x → IsWithin w (tie_of x q)
  bound_in x q h = bound_part (λ e. Unit {0}) (λ y q. Unit {0}) (λ y. Unit {0}) (IsWalkWithin w) (permits_of w) walk_left (λ x q h. tt) (λ b x z e q h. tt) (λ x y z b e a p q h. tt) x q (h, tt)

  pub turns_within : (x : Tree) (lo : ℕ) (hi : Option ℕ) (ps : List Part) → IsWithin w x → EachTurn (IsWithin w) ps → MayHave (IsWithin w) (loop_of (λ c. permit (permits_of w) (only c) x) (touch (permits_of w).spread x) x lo hi ps)
  turns_within x lo hi ps h d = fresh_part (λ e. Unit {0}) (λ y q. Unit {0}) (λ y. Unit {0}) (IsWalkWithin w) (permits_of w) walk_left (λ x q h. tt) (λ b x z e q h. tt) (λ x y z b e a p q h. tt) x lo hi ps h tt d

  pub walk_in : (n : ℕ) (f : Spot) (t : Goal) (d : List ℕ) → IsWalkWithin w n f t → MayHave (IsWithin w) (walk_of (permits_of w) n f t d)
  walk_in n f t d h = walk_part (λ e. Unit {0}) (λ y q. Unit {0}) (λ y. Unit {0}) (IsWalkWithin w) (permits_of w) walk_left (λ x q h. tt) (λ b x z e q h. tt) (λ x y z b e a p q h. tt) n f f t t d d h as_before as_before

  permit_in : (b : Block) (x : Tree) → IsWithin w x → MayHave (IsWithin w) (permit (permits_of w) b x)
  permit_in = permit_part (λ e. Unit {0}) (λ y q. Unit {0}) (λ y. Unit {0}) (IsWalkWithin w) (permits_of w) walk_left (λ x q h. tt) (λ b x z e q h. tt) (λ x y z b e a p q h. tt)

-- permission makes ready terms of ready terms
pub may_both : (w : Tables) (o : Option Tree) → MayHave (IsWithin w) o → MayHave (IsNormalOver w) o → MayHave (IsReady w) o
may_both w None h g = tt
may_both w (Some x) h g = record { within = h; normal = g }

pub permit-ready : (w : Tables) (b : Block) (x : Tree) (o : Option Tree) → IsReady w x → o ≡ permit (permits_of w) b x → MayHave (IsReady w) o
permit-ready w b x o h e = subst (λ (p : Option Tree). MayHave (IsReady w) p) (sym e) (may_both w (permit (permits_of w) b x) (permit_in w b x h.within) (permit_normal (permits_of w) b x h.normal))

-- so does the loop before its first turn
fresh_some : (w : Tables) (x : Tree) (lo : ℕ) (hi : Option ℕ) (y : Tree) → IsReady w x → loop_of (λ c. permit (permits_of w) (only c) x) (touch (permits_of w).spread x) x lo hi (Gap [] ∷ []) ≡ Some y → IsReady w y
fresh_some w x lo hi y h e =
    let p : List ℕ → Option Tree = λ c. permit (permits_of w) (only c) x in
    let r : MayHave (IsReady w) (loop_of p (touch (permits_of w).spread x) x lo hi (Gap [] ∷ [])) =
    may_both w (loop_of p (touch (permits_of w).spread x) x lo hi (Gap [] ∷ [])) (turns_within w x lo hi (Gap [] ∷ []) h.within tt) (turns_normal (permits_of w) x lo hi (Gap [] ∷ []) h.normal tt (tt, tt)) in
    subst (λ (o : Option Tree). MayHave (IsReady w) o) e r

up_to : (lo : ℕ) (hi : Option ℕ) → UpTo hi lo ⊎ (UpTo hi lo → ⊥)
up_to lo None = inl tt
up_to lo (Some n) = grind arith

pub fresh-ready : (w : Tables) (x : Tree) (lo : ℕ) (hi : Option ℕ) (y : Tree) → IsReady w x → IsFreshLoop w x lo hi y → IsReady w y
fresh-ready w x lo hi y h f = elim (up_to lo hi) [
  | inl u ↦ fresh_some w x lo hi y h (f.loop u)
  | inr n ↦ subst (λ (z : Tree). IsReady w z) (sym (f.crossed n)) (record { within = tt; normal = tt })
]

-- and so does the walk from the start
pub trail-ready : (w : Tables) (n : ℕ) (t : Goal) (o : Option Tree) → n < net_count w → IsGoalWithin (length (nodes_of w n)) t → o ≡ walk_of (permits_of w) n Start t [] → MayHave (IsReady w) o
trail-ready w n t o l g e =
    subst (λ (p : Option Tree). MayHave (IsReady w) p) (sym e)
    (may_both w (walk_of (permits_of w) n Start t []) (walk_in w n Start t [] (l, tt, g)) (trail_normal (permits_of w) n Start t [] tt))

pub shown-goal : (a b : ℕ) (t : GoalShown) → a ≡ b → IsGoalBelow a t → IsGoalWithin b (goal_of t)
shown-goal a b (NodeGoal m) e h = omega arith
shown-goal a b EndGoal e h = tt
shown-goal a b AnyGoal e h = tt
