-- The constructors of terms of charts keep terms unbegun.
use Rattle.std.specs.Prelude.{ℕ, ◌≤◌, Bool, true, false, not, ◌&&◌, List, [], ◌∷◌, ◌≡◌, Option, Some, None, nat_le, nat_lt, refl}
use Rattle.std.proofs.Common.{arith}
use Rattle.std.proofs.lemmas.Bool.{and_parts}
use Rattle.std.proofs.lemmas.Bool.Decides.{nat_tests}
use Rattle.msc_base.specs.Patterns.{Mode}
use Rattle.hmsc_graph.specs.Graphs.{Start, Goal, To, End, Any, reach}
use Rattle.chart_term.specs.NormalForms.{NetPermits, flat, join_of, join_all, open_choices, distinct, choice_form, choice_of, bound_form, kept_pairs, numbers, tie_of, is_nil, walk_form, walk_of, allowed, are_nil}
use Rattle.chart_term.specs.Properties.{Each, MayHave}
use Rattle.chart_term.specs.TermMeanings.{UpTo, aim}
use Rattle.chart_term.specs.Terms.{Tree, Walk, trees}
use Rattle.term_laws.proofs.Opening.{each_flat, each_choices, each_distinct}
use Rattle.certificates.specs.CertificateLaws.{IsUnbegun, AreUnbegun}
use Rattle.certificates.proofs.Unbegun.{each_unbegun}
use Rattle.expansion_terms.specs.Constructors.{leave_turn, turns_if, turns_of}
use Rattle.expansion_terms.proofs.Kept.{IsKept, there}

unbegun_each : (xs : List Tree) → Each IsUnbegun xs → AreUnbegun (trees xs)
unbegun_each [] h = tt
unbegun_each (x ∷ xs) h = (h.0, unbegun_each xs h.1)

join_form : (m : Mode) (xs : List Tree) → Each IsUnbegun xs → IsUnbegun (join_of m xs)
join_form m [] h = tt
join_form m (x ∷ []) h = h.0
join_form m (x ∷ y ∷ ys) h = unbegun_each (x ∷ y ∷ ys) h

join_kept : (m : Mode) (xs : List Tree) → Each IsUnbegun xs → IsUnbegun (join_all m xs)
join_kept m xs h = join_form m (flat m xs) (each_flat IsUnbegun m each_unbegun xs h)

some_form : (xs : List Tree) → Each IsUnbegun xs → MayHave IsUnbegun (choice_form xs)
some_form [] h = tt
some_form (x ∷ []) h = h.0
some_form (x ∷ y ∷ ys) h = unbegun_each (x ∷ y ∷ ys) h

choice_kept : (xs : List Tree) → Each IsUnbegun xs → MayHave IsUnbegun (choice_of xs)
choice_kept xs h = some_form (distinct (open_choices xs)) (each_distinct IsUnbegun (open_choices xs) (each_choices IsUnbegun each_unbegun xs h))

tie_kept : (x : Tree) (q : List (ℕ × ℕ)) → IsUnbegun x → IsUnbegun (tie_of x q)
tie_kept x q h = go (kept_pairs (numbers x) q)
  where
    go : (r : List (ℕ × ℕ)) → IsUnbegun (bound_form x r)
    go [] = h
    go (p ∷ r) = h

-- the bounds of a loop that has a turn are in order
in_order : (lower : ℕ) (upper : Option ℕ) → leave_turn lower upper ≡ true → UpTo upper lower
in_order lower None e = tt
in_order lower (Some upper) e = at_most (and_parts (nat_lt 0 upper) (nat_le lower upper) e).1
  where
    at_most : nat_le lower upper ≡ true → lower ≤ upper
    at_most h = grind (arith, nat_tests)

turns_kept : (lower : ℕ) (upper : Option ℕ) (x : Tree) → IsUnbegun x → IsUnbegun (turns_of lower upper x)
turns_kept lower upper x h = by (leave_turn lower upper && not (is_nil (Some x))) refl
  where
    by : (b : Bool) → (leave_turn lower upper && not (is_nil (Some x))) ≡ b → IsUnbegun (turns_if b lower upper x)
    by true e = (h, refl, in_order lower upper (and_parts (leave_turn lower upper) (not (is_nil (Some x))) e).0)
    by false e = tt

pub unbegun_kept : IsKept IsUnbegun
unbegun_kept = record {
  nothing = tt;
  both = λ m x y h i. join_kept m (x ∷ y ∷ []) (h, (i, tt));
  some = λ xs h. there IsUnbegun (choice_of xs) tt (choice_kept xs h);
  tied = tie_kept;
  turns = turns_kept;
}

-- walks from the start to an end
walk_form_kept : (a b : Bool) (x : Tree) → IsUnbegun x → MayHave IsUnbegun (walk_form a b x)
walk_form_kept false b x h = tt
walk_form_kept true true x h = tt
walk_form_kept true false x h = h

pub walk_unbegun : (k : NetPermits) (n : ℕ) (goal : Goal) → aim goal ≡ End → MayHave IsUnbegun (walk_of k n Start goal [])
walk_unbegun k n Any e = (refl, refl, refl)
walk_unbegun k n End e = walk_form_kept (reach (k.net n) (allowed k n []) Start End) (are_nil k n Start End [] (allowed k n [])) (Walk n Start End []) (refl, refl, refl)
walk_unbegun k n (To m) e = absurd cc
