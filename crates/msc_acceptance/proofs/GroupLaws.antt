-- The first fault of each group of rules.
use Rattle.std.proofs.Common.{List, [], ◌∷◌, Option}
use Rattle.msc_base.specs.Places.{IsLeast}
use Rattle.msc_base.specs.declared.place.Place.{Place}
use Rattle.msc_tree.specs.Charts.{Chart}
use Rattle.msc_rules.specs.FirstFaults.{IsBest, fault_of, earlier_of}
use Rattle.msc_rules.specs.Rules.{number_of}
use Rattle.msc_rules.specs.declared.rule.Rule.{Rule}
use Rattle.msc_rules.proofs.Joining.{best_of_one, best_with}
use Rattle.msc_acceptance.specs.Acceptance.{BreaksOf}

pub one_best : (charts : List Chart) (r : Rule) (a : Option Place) → IsLeast (BreaksOf charts r) a → IsBest number_of (BreaksOf charts) (r ∷ []) (fault_of r a)
one_best charts r a h = best_of_one number_of (BreaksOf charts) r a h

pub two_best : (charts : List Chart) (r s : Rule) (a b : Option Place) → IsLeast (BreaksOf charts r) a → IsLeast (BreaksOf charts s) b
    → IsBest number_of (BreaksOf charts) (r ∷ s ∷ []) (earlier_of number_of (fault_of r a) (fault_of s b))
two_best charts r s a b h k = best_with number_of (BreaksOf charts) (r ∷ []) s (fault_of r a) b (one_best charts r a h) k

pub three_best : (charts : List Chart) (r s t : Rule) (a b c : Option Place) → IsLeast (BreaksOf charts r) a → IsLeast (BreaksOf charts s) b → IsLeast (BreaksOf charts t) c
    → IsBest number_of (BreaksOf charts) (r ∷ s ∷ t ∷ []) (earlier_of number_of (earlier_of number_of (fault_of r a) (fault_of s b)) (fault_of t c))
three_best charts r s t a b c h k l = best_with number_of (BreaksOf charts) (r ∷ s ∷ []) t (earlier_of number_of (fault_of r a) (fault_of s b)) c (two_best charts r s a b h k) l

pub four_best : (charts : List Chart) (r s t u : Rule) (a b c d : Option Place) → IsLeast (BreaksOf charts r) a → IsLeast (BreaksOf charts s) b → IsLeast (BreaksOf charts t) c → IsLeast (BreaksOf charts u) d
    → IsBest number_of (BreaksOf charts) (r ∷ s ∷ t ∷ u ∷ []) (earlier_of number_of (earlier_of number_of (earlier_of number_of (fault_of r a) (fault_of s b)) (fault_of t c)) (fault_of u d))
four_best charts r s t u a b c d h k l m = best_with number_of (BreaksOf charts) (r ∷ s ∷ t ∷ []) u (earlier_of number_of (earlier_of number_of (fault_of r a) (fault_of s b)) (fault_of t c)) d (three_best charts r s t a b c h k l) m

pub five_best : (charts : List Chart) (r s t u v : Rule) (a b c d e : Option Place) → IsLeast (BreaksOf charts r) a → IsLeast (BreaksOf charts s) b → IsLeast (BreaksOf charts t) c → IsLeast (BreaksOf charts u) d → IsLeast (BreaksOf charts v) e
    → IsBest number_of (BreaksOf charts) (r ∷ s ∷ t ∷ u ∷ v ∷ [])
    (earlier_of number_of (earlier_of number_of (earlier_of number_of (earlier_of number_of (fault_of r a) (fault_of s b)) (fault_of t c)) (fault_of u d)) (fault_of v e))
five_best charts r s t u v a b c d e h k l m n =
    let four = earlier_of number_of (earlier_of number_of (earlier_of number_of (fault_of r a) (fault_of s b)) (fault_of t c)) (fault_of u d) in
    best_with number_of (BreaksOf charts) (r ∷ s ∷ t ∷ u ∷ []) v four e (four_best charts r s t u a b c d h k l m) n
