-- A code for terms, by which proofs tell their values apart.
use Rattle.std.specs.Prelude.{ℕ, List, ◌≡◌, ◌≢◌, Option, ◌⊎◌, refl}
use Rattle.std.specs.Coded.{Coded, coded_ℕ, coded_list, coded_option, code_by, coded×, coded⊎}
use Rattle.std.proofs.Common.{ap, arith, inl, inr}
use base.Stored.{Gv, gnil, gnum, gcons}
use Rattle.msc_base.specs.Patterns.{Mode, seq, par}
use Rattle.hmsc_graph.specs.Graphs.{Spot, Start, At, Goal, To, End, Any}
use Rattle.chart_term.specs.Terms.{TermEvent, Tree, Nil, Event, Join, Choice, Tied, Loop, Walk, Trees, none, more, Row, ends, gap, turn, Part, Gap, Turn}

-- an event is stored as the tuple of its fields
abbrev coded_event : Coded TermEvent
coded_event =
    code_by (ℕ × (ℕ × (Option ℕ × ℕ))) (coded× coded_ℕ (coded× coded_ℕ (coded× (coded_option coded_ℕ) coded_ℕ)))
    (λ e. (e.number, (e.at, (e.also, e.label))))
    (λ p. record { number = p.0; at = p.1.0; also = p.1.1.0; label = p.1.1.1 })
    (λ _. refl)

-- the first part of a pair
abbrev first_of : Gv → Gv
first_of gnil = gnil
first_of (gnum n) = gnil
first_of (gcons a b) = a

-- the second part of a pair
abbrev second_of : Gv → Gv
second_of gnil = gnil
second_of (gnum n) = gnil
second_of (gcons a b) = b

-- two codes with different numbers in front are different
apart : (m n : ℕ) {a b : Gv} → gcons (gnum m) a ≡ gcons (gnum n) b → m ≢ n → ⊥
apart m n p other = other (cc)

abbrev pub mode_code : Mode → Gv
mode_code seq = gcons (gnum 0) gnil
mode_code par = gcons (gnum 1) gnil

pub mode_inj : (x y : Mode) → mode_code x ≡ mode_code y → x ≡ y
mode_inj seq seq p = refl
mode_inj seq par p = absurd (apart 0 1 p (omega arith))
mode_inj par seq p = absurd (apart 1 0 p (omega arith))
mode_inj par par p = refl

abbrev pub spot_code : Spot → Gv
spot_code Start = gcons (gnum 0) gnil
spot_code (At a0) = gcons (gnum 1) (gcons (coded_ℕ.code a0) gnil)

pub spot_inj : (x y : Spot) → spot_code x ≡ spot_code y → x ≡ y
spot_inj Start Start p = refl
spot_inj Start (At b0) p = absurd (apart 0 1 p (omega arith))
spot_inj (At a0) Start p = absurd (apart 1 0 p (omega arith))
spot_inj (At a0) (At b0) p = λ i. At (coded_ℕ.inj a0 b0 (ap (λ g. first_of (second_of g)) p) i)

abbrev pub goal_code : Goal → Gv
goal_code (To a0) = gcons (gnum 0) (gcons (coded_ℕ.code a0) gnil)
goal_code End = gcons (gnum 1) gnil
goal_code Any = gcons (gnum 2) gnil

pub goal_inj : (x y : Goal) → goal_code x ≡ goal_code y → x ≡ y
goal_inj (To a0) (To b0) p = λ i. To (coded_ℕ.inj a0 b0 (ap (λ g. first_of (second_of g)) p) i)
goal_inj (To a0) End p = absurd (apart 0 1 p (omega arith))
goal_inj (To a0) Any p = absurd (apart 0 2 p (omega arith))
goal_inj End (To b0) p = absurd (apart 1 0 p (omega arith))
goal_inj End End p = refl
goal_inj End Any p = absurd (apart 1 2 p (omega arith))
goal_inj Any (To b0) p = absurd (apart 2 0 p (omega arith))
goal_inj Any End p = absurd (apart 2 1 p (omega arith))
goal_inj Any Any p = refl

abbrev mutual
  pub tree_code : Tree → Gv
  tree_code Nil = gcons (gnum 0) gnil
  tree_code (Event a0) = gcons (gnum 1) (gcons (coded_event.code a0) gnil)
  tree_code (Join a0 a1) = gcons (gnum 2) (gcons (mode_code a0) (gcons (trees_code a1) gnil))
  tree_code (Choice a0) = gcons (gnum 3) (gcons (trees_code a0) gnil)
  tree_code (Tied a0 a1) = gcons (gnum 4) (gcons (tree_code a0) (gcons ((coded_list (coded× coded_ℕ coded_ℕ)).code a1) gnil))
  tree_code (Loop a0 a1 a2 a3) = gcons (gnum 5) (gcons (tree_code a0) (gcons (coded_ℕ.code a1) (gcons ((coded_option coded_ℕ).code a2) (gcons (row_code a3) gnil))))
  tree_code (Walk a0 a1 a2 a3) = gcons (gnum 6) (gcons (coded_ℕ.code a0) (gcons (spot_code a1) (gcons (goal_code a2) (gcons ((coded_list coded_ℕ).code a3) gnil))))

  pub trees_code : Trees → Gv
  trees_code none = gcons (gnum 0) gnil
  trees_code (more a0 a1) = gcons (gnum 1) (gcons (tree_code a0) (gcons (trees_code a1) gnil))

  pub row_code : Row → Gv
  row_code ends = gcons (gnum 0) gnil
  row_code (gap a0 a1) = gcons (gnum 1) (gcons ((coded_list coded_ℕ).code a0) (gcons (row_code a1) gnil))
  row_code (turn a0 a1) = gcons (gnum 2) (gcons (tree_code a0) (gcons (row_code a1) gnil))

mutual
  pub tree_inj : (x y : Tree) → tree_code x ≡ tree_code y → x ≡ y
  tree_inj Nil Nil p = refl
  tree_inj Nil (Event b0) p = absurd (apart 0 1 p (omega arith))
  tree_inj Nil (Join b0 b1) p = absurd (apart 0 2 p (omega arith))
  tree_inj Nil (Choice b0) p = absurd (apart 0 3 p (omega arith))
  tree_inj Nil (Tied b0 b1) p = absurd (apart 0 4 p (omega arith))
  tree_inj Nil (Loop b0 b1 b2 b3) p = absurd (apart 0 5 p (omega arith))
  tree_inj Nil (Walk b0 b1 b2 b3) p = absurd (apart 0 6 p (omega arith))
  tree_inj (Event a0) Nil p = absurd (apart 1 0 p (omega arith))
  tree_inj (Event a0) (Event b0) p = λ i. Event (coded_event.inj a0 b0 (ap (λ g. first_of (second_of g)) p) i)
  tree_inj (Event a0) (Join b0 b1) p = absurd (apart 1 2 p (omega arith))
  tree_inj (Event a0) (Choice b0) p = absurd (apart 1 3 p (omega arith))
  tree_inj (Event a0) (Tied b0 b1) p = absurd (apart 1 4 p (omega arith))
  tree_inj (Event a0) (Loop b0 b1 b2 b3) p = absurd (apart 1 5 p (omega arith))
  tree_inj (Event a0) (Walk b0 b1 b2 b3) p = absurd (apart 1 6 p (omega arith))
  tree_inj (Join a0 a1) Nil p = absurd (apart 2 0 p (omega arith))
  tree_inj (Join a0 a1) (Event b0) p = absurd (apart 2 1 p (omega arith))
  tree_inj (Join a0 a1) (Join b0 b1) p = λ i. Join (mode_inj a0 b0 (ap (λ g. first_of (second_of g)) p) i) (trees_inj a1 b1 (ap (λ g. first_of (second_of (second_of g))) p) i)
  tree_inj (Join a0 a1) (Choice b0) p = absurd (apart 2 3 p (omega arith))
  tree_inj (Join a0 a1) (Tied b0 b1) p = absurd (apart 2 4 p (omega arith))
  tree_inj (Join a0 a1) (Loop b0 b1 b2 b3) p = absurd (apart 2 5 p (omega arith))
  tree_inj (Join a0 a1) (Walk b0 b1 b2 b3) p = absurd (apart 2 6 p (omega arith))
  tree_inj (Choice a0) Nil p = absurd (apart 3 0 p (omega arith))
  tree_inj (Choice a0) (Event b0) p = absurd (apart 3 1 p (omega arith))
  tree_inj (Choice a0) (Join b0 b1) p = absurd (apart 3 2 p (omega arith))
  tree_inj (Choice a0) (Choice b0) p = λ i. Choice (trees_inj a0 b0 (ap (λ g. first_of (second_of g)) p) i)
  tree_inj (Choice a0) (Tied b0 b1) p = absurd (apart 3 4 p (omega arith))
  tree_inj (Choice a0) (Loop b0 b1 b2 b3) p = absurd (apart 3 5 p (omega arith))
  tree_inj (Choice a0) (Walk b0 b1 b2 b3) p = absurd (apart 3 6 p (omega arith))
  tree_inj (Tied a0 a1) Nil p = absurd (apart 4 0 p (omega arith))
  tree_inj (Tied a0 a1) (Event b0) p = absurd (apart 4 1 p (omega arith))
  tree_inj (Tied a0 a1) (Join b0 b1) p = absurd (apart 4 2 p (omega arith))
  tree_inj (Tied a0 a1) (Choice b0) p = absurd (apart 4 3 p (omega arith))
  tree_inj (Tied a0 a1) (Tied b0 b1) p = λ i. Tied (tree_inj a0 b0 (ap (λ g. first_of (second_of g)) p) i) ((coded_list (coded× coded_ℕ coded_ℕ)).inj a1 b1 (ap (λ g. first_of (second_of (second_of g))) p) i)
  tree_inj (Tied a0 a1) (Loop b0 b1 b2 b3) p = absurd (apart 4 5 p (omega arith))
  tree_inj (Tied a0 a1) (Walk b0 b1 b2 b3) p = absurd (apart 4 6 p (omega arith))
  tree_inj (Loop a0 a1 a2 a3) Nil p = absurd (apart 5 0 p (omega arith))
  tree_inj (Loop a0 a1 a2 a3) (Event b0) p = absurd (apart 5 1 p (omega arith))
  tree_inj (Loop a0 a1 a2 a3) (Join b0 b1) p = absurd (apart 5 2 p (omega arith))
  tree_inj (Loop a0 a1 a2 a3) (Choice b0) p = absurd (apart 5 3 p (omega arith))
  tree_inj (Loop a0 a1 a2 a3) (Tied b0 b1) p = absurd (apart 5 4 p (omega arith))
  tree_inj (Loop a0 a1 a2 a3) (Loop b0 b1 b2 b3) p = λ i. Loop (tree_inj a0 b0 (ap (λ g. first_of (second_of g)) p) i) (coded_ℕ.inj a1 b1 (ap (λ g. first_of (second_of (second_of g))) p) i) ((coded_option coded_ℕ).inj a2 b2 (ap (λ g. first_of (second_of (second_of (second_of g)))) p) i) (row_inj a3 b3 (ap (λ g. first_of (second_of (second_of (second_of (second_of g))))) p) i)
  tree_inj (Loop a0 a1 a2 a3) (Walk b0 b1 b2 b3) p = absurd (apart 5 6 p (omega arith))
  tree_inj (Walk a0 a1 a2 a3) Nil p = absurd (apart 6 0 p (omega arith))
  tree_inj (Walk a0 a1 a2 a3) (Event b0) p = absurd (apart 6 1 p (omega arith))
  tree_inj (Walk a0 a1 a2 a3) (Join b0 b1) p = absurd (apart 6 2 p (omega arith))
  tree_inj (Walk a0 a1 a2 a3) (Choice b0) p = absurd (apart 6 3 p (omega arith))
  tree_inj (Walk a0 a1 a2 a3) (Tied b0 b1) p = absurd (apart 6 4 p (omega arith))
  tree_inj (Walk a0 a1 a2 a3) (Loop b0 b1 b2 b3) p = absurd (apart 6 5 p (omega arith))
  tree_inj (Walk a0 a1 a2 a3) (Walk b0 b1 b2 b3) p = λ i. Walk (coded_ℕ.inj a0 b0 (ap (λ g. first_of (second_of g)) p) i) (spot_inj a1 b1 (ap (λ g. first_of (second_of (second_of g))) p) i) (goal_inj a2 b2 (ap (λ g. first_of (second_of (second_of (second_of g)))) p) i) ((coded_list coded_ℕ).inj a3 b3 (ap (λ g. first_of (second_of (second_of (second_of (second_of g))))) p) i)

  pub trees_inj : (x y : Trees) → trees_code x ≡ trees_code y → x ≡ y
  trees_inj none none p = refl
  trees_inj none (more b0 b1) p = absurd (apart 0 1 p (omega arith))
  trees_inj (more a0 a1) none p = absurd (apart 1 0 p (omega arith))
  trees_inj (more a0 a1) (more b0 b1) p = λ i. more (tree_inj a0 b0 (ap (λ g. first_of (second_of g)) p) i) (trees_inj a1 b1 (ap (λ g. first_of (second_of (second_of g))) p) i)

  pub row_inj : (x y : Row) → row_code x ≡ row_code y → x ≡ y
  row_inj ends ends p = refl
  row_inj ends (gap b0 b1) p = absurd (apart 0 1 p (omega arith))
  row_inj ends (turn b0 b1) p = absurd (apart 0 2 p (omega arith))
  row_inj (gap a0 a1) ends p = absurd (apart 1 0 p (omega arith))
  row_inj (gap a0 a1) (gap b0 b1) p = λ i. gap ((coded_list coded_ℕ).inj a0 b0 (ap (λ g. first_of (second_of g)) p) i) (row_inj a1 b1 (ap (λ g. first_of (second_of (second_of g))) p) i)
  row_inj (gap a0 a1) (turn b0 b1) p = absurd (apart 1 2 p (omega arith))
  row_inj (turn a0 a1) ends p = absurd (apart 2 0 p (omega arith))
  row_inj (turn a0 a1) (gap b0 b1) p = absurd (apart 2 1 p (omega arith))
  row_inj (turn a0 a1) (turn b0 b1) p = λ i. turn (tree_inj a0 b0 (ap (λ g. first_of (second_of g)) p) i) (row_inj a1 b1 (ap (λ g. first_of (second_of (second_of g))) p) i)

abbrev pub coded_tree : Coded Tree
coded_tree = record { code = tree_code; inj = tree_inj }

-- a part of a row as a block or a term
abbrev part_split : Part → List ℕ ⊎ Tree
part_split (Gap c) = inl c
part_split (Turn x) = inr x

-- a part of a row from a block or a term
abbrev part_join : List ℕ ⊎ Tree → Part
part_join (inl c) = Gap c
part_join (inr x) = Turn x

pub part_back : (p : Part) → part_join (part_split p) ≡ p
part_back (Gap c) = refl
part_back (Turn x) = refl

abbrev pub coded_part : Coded Part
coded_part = code_by (List ℕ ⊎ Tree) (coded⊎ (coded_list coded_ℕ) coded_tree) part_split part_join part_back
