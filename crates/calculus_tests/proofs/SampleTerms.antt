-- Sample terms are made of sample terms, as the code of the tests makes them, and what is left of them after an event is one.
use Rattle.std.specs.Prelude.{ℕ, ◌<◌, ◌==◌, ◌⊎◌, Bool, true, false, List, [], ◌∷◌, ◌++◌, ◌≡◌, Option, Some, None, MatchOption, length}
use Rattle.std.specs.Option.{option_to_list}
use Rattle.std.proofs.Common.{◌∙◌, ap, refl, sym, subst, arith, inl, inr}
use Rattle.msc_base.specs.Lists.{IsAmong}
use Rattle.msc_base.specs.Patterns.{Mode, seq, par}
use Rattle.msc_base.specs.declared.label.Label.{Label}
use Rattle.hmsc_graph.specs.Graphs.{Spot, Start, Goal}
use Rattle.hmsc_graph.specs.Nets.{size_of}
use Rattle.term_tables.specs.NetValues.{NetsValue, label_number}
use Rattle.chart_term.specs.NormalForms.{only, join_all, choice_of, tie_of, loop_of, walk_of}
use Rattle.chart_term.specs.Properties.{Each, MayHave}
use Rattle.chart_term.specs.Spreads.{touch}
use Rattle.chart_term.specs.Tables.{Tables, NetEntry, net_count, nodes_of, choose}
use Rattle.chart_term.specs.TermMeanings.{UpTo}
use Rattle.chart_term.specs.Terms.{TermEvent, Tree, Event, Nil, Gap}
use Rattle.term_laws.specs.Permission.{kept_of, permit, permit_nth, permits_of}
use Rattle.term_laws.specs.Placing.{AreEventsPlaced, AreNetsPlaced, HaveOnePlace, IsPlaced}
use Rattle.term_laws.specs.Taking.{IsAfter}
use Rattle.term_laws.proofs.EveryPart.{after_part, fresh_part, walk_part}
use Rattle.term_laws.proofs.Keeping.{Begins, Aims, as_before, at_node, to_node, at_some}
use Rattle.term_laws.proofs.Normalising.{after_normal}
use Rattle.term_laws.proofs.Placed.{after-placed, choice-placed, join-placed, kept-placed, tie-placed}
use Rattle.term_laws.proofs.TidyTables.{each_map, nth_has}
use Rattle.term_permission.specs.Fresh.{IsFreshLoop}
use Rattle.term_permission.specs.Ready.{AreReadyTables, IsGoalWithin, IsReady, IsSpotWithin, IsWalkWithin, IsWithin}
use Rattle.term_permission.proofs.ReadyTerms.{ready_is_kept}
use Rattle.term_permission.proofs.Within.{kept_within, permit-ready}
use Rattle.term_step.specs.AllAfter.{AreAllLeft, AreTooMany}
use Rattle.calculus_tests.specs.Samples.{AreSampleTables, IsSample, places}

-- what is left of a ready term after an event is ready
chosen : (P : Tree → Type 0) (t : Bool) (a b : Option Tree) (x : Tree) → (a ≡ Some x → P x) → (b ≡ Some x → P x) → choose t a b ≡ Some x → P x
chosen P true a b x f g q = f q
chosen P false a b x f g q = g q

kept_ready : (w : Tables) → AreReadyTables w → (n m : ℕ) (d : List ℕ) (x : Tree) → kept_of w n m d ≡ Some x → IsReady w x
kept_ready [] h n m d x q = cc
kept_ready (e ∷ es) h n m d x q =
    ready_is_kept.later es e x (chosen (IsReady es) (n == net_count es) (permit_nth (permits_of es) (only d) e.nodes m) (kept_of es n m d) x
    (λ r. at_some (IsReady es) (permit_nth (permits_of es) (only d) e.nodes m) x r (nth_has (IsReady es) (permits_of es) (only d) e.nodes (λ y i. permit-ready es (only d) y (permit (permits_of es) (only d) y) i refl) h.1 m))
    (λ r. kept_ready es h.0 n m d x r) q)

walk_left : (w : Tables) (n : ℕ) (f g : Spot) (t u : Goal) → IsWalkWithin w n f t → Begins (permits_of w) n f g → Aims (permits_of w) n t u → IsWalkWithin w n g u
walk_left w n f g t u h s a = (h.0, spot g h.1 s, goal u h.2 a)
  where
    spot : (g : Spot) → IsSpotWithin (length (nodes_of w n)) f → Begins (permits_of w) n f g → IsSpotWithin (length (nodes_of w n)) g
    spot g j as_before = j
    spot g j (at_node m d x e) = kept_within w n m d x e

    goal : (u : Goal) → IsGoalWithin (length (nodes_of w n)) t → Aims (permits_of w) n t u → IsGoalWithin (length (nodes_of w n)) u
    goal u j as_before = j
    goal u j (to_node m d x e) = kept_within w n m d x e

ready_after : (w : Tables) (x y : Tree) (e : TermEvent) → AreReadyTables w → IsReady w x → IsAfter (permits_of w) x e y → IsReady w y
ready_after w x y e tables h a = record {
  within =
      after_part (λ e. Unit {0}) (λ y q. Unit {0}) (λ y. Unit {0}) (IsWalkWithin w) (permits_of w) (walk_left w) (λ x q h. tt) (λ b x z e q h. tt) (λ x y z b e a p q h. tt)
      (λ n m d z q. (kept_ready w tables n m d z q).within) a h.within;
  normal = after_normal (permits_of w) (λ n m d z q. (kept_ready w tables n m d z q).normal) a h.normal;
}

-- the constructors

pub sample-event : (x : Tree) (e : TermEvent) → x ≡ Event e → IsPlaced places e → IsSample [] x
sample-event x e q p = subst (IsSample []) (sym q) (record { ready = ready_is_kept.event [] e; placed = p })

pub sample-nil : (x : Tree) → x ≡ Nil → IsSample [] x
sample-nil x q = subst (IsSample []) (sym q) (record { ready = record { within = tt; normal = tt }; placed = tt })

joined : (m : Mode) (x : Tree) (xs : List Tree) → x ≡ join_all m xs → Each (IsSample []) xs → IsSample [] x
joined m x xs q h = subst (IsSample []) (sym q) (record {
  ready = ready_is_kept.join [] m xs (each_map (IsSample []) (IsReady []) (λ y i. i.ready) xs h);
  placed = join-placed places (permits_of []) m xs (each_map (IsSample []) (AreEventsPlaced places) (λ y i. i.placed) xs h);
})

pub sample_row : (x : Tree) (xs : List Tree) → x ≡ join_all seq xs → Each (IsSample []) xs → IsSample [] x
sample_row x xs q h = joined seq x xs q h

pub sample_aside : (x : Tree) (xs : List Tree) → x ≡ join_all par xs → Each (IsSample []) xs → IsSample [] x
sample_aside x xs q h = joined par x xs q h

pub sample_tied : (x y : Tree) (q : List (ℕ × ℕ)) → x ≡ tie_of y q → IsSample [] y → IsSample [] x
sample_tied x y q p h = subst (IsSample []) (sym p) (record {
  ready = ready_is_kept.tied [] y q h.ready;
  placed = tie-placed places (permits_of []) y q h.placed;
})

pub sample_choice : (x : Tree) (xs : List Tree) → choice_of xs ≡ Some x → Each (IsSample []) xs → IsSample [] x
sample_choice x xs q h = record {
  ready = at_some (IsReady []) (choice_of xs) x q (ready_is_kept.choice [] xs (each_map (IsSample []) (IsReady []) (λ y i. i.ready) xs h));
  placed = at_some (AreEventsPlaced places) (choice_of xs) x q (choice-placed places (permits_of []) xs (each_map (IsSample []) (AreEventsPlaced places) (λ y i. i.placed) xs h));
}

up_to : (lo : ℕ) (hi : Option ℕ) → UpTo hi lo ⊎ (UpTo hi lo → ⊥)
up_to lo None = inl tt
up_to lo (Some n) = grind arith

loop_placed : (x : Tree) (lo : ℕ) (hi : Option ℕ) (y : Tree) → AreEventsPlaced places x → IsFreshLoop [] x lo hi y → AreEventsPlaced places y
loop_placed x lo hi y h f = elim (up_to lo hi) [
  | inl u ↦ at_some (AreEventsPlaced places) (loop_of (λ c. permit (permits_of []) (only c) x) (touch (permits_of []).spread x) x lo hi (Gap [] ∷ [])) y (f.loop u)
      (fresh_part (IsPlaced places) (λ y q. Unit {0}) (λ y. Unit {0}) (λ n f t. Unit {0}) (permits_of []) (λ n f g t u h s a. tt) (λ x q h. tt) (λ b x z e q h. tt) (λ x y z b e a p q h. tt) x lo hi (Gap [] ∷ []) h tt tt)
  | inr n ↦ subst (AreEventsPlaced places) (sym (f.crossed n)) tt
]

pub sample_loop : (o : NetsValue) (x : Tree) (lo : ℕ) (hi : Option ℕ) (y : Tree) → o ≡ record { labels = []; tables = [] } → IsSample [] x → IsFreshLoop o.tables x lo hi y → IsReady o.tables y → IsSample [] y
sample_loop o x lo hi y q h f r = record {
  ready = subst (λ (v : NetsValue). IsReady v.tables y) q r;
  placed = loop_placed x lo hi y h.placed (subst (λ (v : NetsValue). IsFreshLoop v.tables x lo hi y) q f);
}

walk_placed : (w : Tables) (n : ℕ) (t : Goal) → MayHave (AreEventsPlaced places) (walk_of (permits_of w) n Start t [])
walk_placed w n t = walk_part (IsPlaced places) (λ y q. Unit {0}) (λ y. Unit {0}) (λ n f t. Unit {0}) (permits_of w) (λ n f g t u h s a. tt) (λ x q h. tt) (λ b x z e q h. tt) (λ x y z b e a p q h. tt) n Start Start t t [] [] tt as_before as_before

may_sample : (w : Tables) (o : Option Tree) → MayHave (IsReady w) o → MayHave (AreEventsPlaced places) o → MayHave (IsSample w) o
may_sample w None h g = tt
may_sample w (Some x) h g = record { ready = h; placed = g }

pub sample_walk : (w : Tables) (n : ℕ) (t : Goal) (o : Option Tree) → o ≡ walk_of (permits_of w) n Start t [] → MayHave (IsReady w) o → MayHave (IsSample w) o
sample_walk w n t o q h = may_sample w o h (subst (λ (p : Option Tree). MayHave (AreEventsPlaced places) p) (sym q) (walk_placed w n t))

-- lists and tables

pub two_samples : (xs : List Tree) (x y : Tree) → xs ≡ x ∷ y ∷ [] → IsSample [] x → IsSample [] y → Each (IsSample []) xs
two_samples xs x y e h g = subst (Each (IsSample [])) (sym e) (h, (g, tt))

pub sample_one : (w : Tables) (xs ys : List Tree) (x : Tree) → xs ≡ [] → ys ≡ xs ++ x ∷ [] → IsSample w x → Each (IsSample w) ys
sample_one w xs ys x e p h = subst (Each (IsSample w)) (sym (p ∙ ap (λ l. l ++ x ∷ []) e)) (h, tt)

pub sample_ring : (o n : NetsValue) (e : NetEntry) → o ≡ record { labels = []; tables = [] } → n ≡ record o { tables = e ∷ o.tables } → Each (IsSample []) e.nodes → size_of e.net ≡ length e.nodes → AreSampleTables n.tables
sample_ring o n e p q h g =
    subst (λ (v : NetsValue). AreSampleTables v.tables) (sym (q ∙ ap (λ (v : NetsValue). record v { tables = e ∷ v.tables }) p))
    (record {
      ready = (tt, each_map (IsSample []) (IsReady []) (λ y i. i.ready) e.nodes h, g);
      placed = (tt, each_map (IsSample []) (AreEventsPlaced places) (λ y i. i.placed) e.nodes h);
    })

pub one_net : (o n : NetsValue) (e : NetEntry) → o ≡ record { labels = []; tables = [] } → n ≡ record o { tables = e ∷ o.tables } → net_count n.tables ≡ 1
one_net o n e p q = ap (λ (v : NetsValue). net_count v.tables) (q ∙ ap (λ (v : NetsValue). record v { tables = e ∷ v.tables }) p)

pub no_nets : (w : Tables) → w ≡ [] → AreSampleTables w
no_nets w q = subst AreSampleTables (sym q) (record { ready = tt; placed = tt })

pub over_none : (w : Tables) (x : Tree) → w ≡ [] → IsSample [] x → IsSample w x
over_none w x q h = subst (λ (v : Tables). IsSample v x) (sym q) h

-- stacks of terms

each_both : (xs ys : List Tree) → Each (IsSample []) xs → Each (IsSample []) ys → Each (IsSample []) (xs ++ ys)
each_both [] ys h g = g
each_both (x ∷ xs) ys h g = (h.0, each_both xs ys h.1 g)

each_parts : (xs ys : List Tree) → Each (IsSample []) (xs ++ ys) → Each (IsSample []) xs × Each (IsSample []) ys
each_parts [] ys h = (tt, h)
each_parts (x ∷ xs) ys h = let rest = each_parts xs ys h.1 in ((h.0, rest.0), rest.1)

pub none_stacked : (xs : List Tree) → xs ≡ [] → Each (IsSample []) xs
none_stacked xs q = subst (Each (IsSample [])) (sym q) tt

pub one_more : (xs ys : List Tree) (x : Tree) → ys ≡ xs ++ x ∷ [] → Each (IsSample []) xs → IsSample [] x → Each (IsSample []) ys
one_more xs ys x q h g = subst (Each (IsSample [])) (sym q) (each_both xs (x ∷ []) h (g, tt))

pub others_stacked : (xs ys : List Tree) (o : Option Tree) → xs ≡ ys ++ option_to_list o → Each (IsSample []) xs → Each (IsSample []) ys
others_stacked xs ys o q h = (each_parts ys (option_to_list o) (subst (Each (IsSample [])) q h)).0

pub last_stacked : (xs ys : List Tree) (o : Option Tree) (x : Tree) → xs ≡ ys ++ option_to_list o → o ≡ Some x → Each (IsSample []) xs → IsSample [] x
last_stacked xs ys o x q e h =
    let last : Each (IsSample []) (option_to_list o) = (each_parts ys (option_to_list o) (subst (Each (IsSample [])) q h)).1 in
    (subst (λ (p : Option Tree). Each (IsSample []) (option_to_list p)) e last).0

-- a step

pub all_ready : (w : Tables) (xs : List Tree) → Each (IsSample w) xs → Each (IsReady w) xs
all_ready w xs h = each_map (IsSample w) (IsReady w) (λ y i. i.ready) xs h

pub all_placed : (w : Tables) (xs : List Tree) → AreSampleTables w → Each (IsSample w) xs → Each (HaveOnePlace w) xs
all_placed w xs t h = each_map (IsSample w) (HaveOnePlace w) (λ y i. record { places = places; nets = t.placed; term = i.placed }) xs h

each_at : (P : Tree → Type 0) (xs : List Tree) (y : Tree) → Each P xs → IsAmong xs y → P y
each_at P [] y h i = absurd i
each_at P (x ∷ xs) y h (inl e) = subst P (sym e) h.0
each_at P (x ∷ xs) y h (inr i) = each_at P xs y h.1 i

each_from : (P : Tree → Type 0) (xs : List Tree) → ((y : Tree) → IsAmong xs y → P y) → Each P xs
each_from P [] f = tt
each_from P (x ∷ xs) f = (f x (inl refl), each_from P xs (λ y i. f y (inr i)))

left_samples : (v : NetsValue) (label : Label) (terms : List Tree) (most : ℕ) (found : List Tree) → AreSampleTables v.tables → Each (IsSample v.tables) terms → AreAllLeft v label terms most found → Each (IsSample v.tables) found
left_samples v label terms most found t h left = each_from (IsSample v.tables) found (λ y i.
    let of = (left.exact y).to i in
    let x : IsSample v.tables of.term = each_at (IsSample v.tables) terms of.term h of.held in
    record {
      ready = ready_after v.tables of.term y of.left.event t.ready x.ready of.left.after;
      placed = after-placed places (permits_of v.tables) (kept-placed places v.tables t.placed) of.left.after x.placed;
    })

pub left_list : (v : NetsValue) (label : Label) (terms : List Tree) (most : ℕ) (o : Option (List Tree)) (found next : List Tree) → AreSampleTables v.tables → Each (IsSample v.tables) terms
    → MatchOption o (AreTooMany v label terms most) (AreAllLeft v label terms most) → o ≡ Some found → next ≡ found → Each (IsSample v.tables) next
left_list v label terms most o found next t h left is e =
    subst (Each (IsSample v.tables)) (sym e) (left_samples v label terms most found t h (subst (λ (p : Option (List Tree)). MatchOption p (AreTooMany v label terms most) (AreAllLeft v label terms most)) is left))

pub new_ready : (o : NetsValue) → o ≡ record { labels = []; tables = [] } → AreReadyTables o.tables
new_ready o q = subst (λ (p : NetsValue). AreReadyTables p.tables) (sym q) tt

pub ready_over : (o : NetsValue) (x : Tree) → o ≡ record { labels = []; tables = [] } → IsSample [] x → IsReady o.tables x
ready_over o x q h = subst (λ (p : NetsValue). IsReady p.tables x) (sym q) h.ready

pub tables_ready : (w : Tables) → AreSampleTables w → AreReadyTables w
tables_ready w h = h.ready

pub no_samples : (w : Tables) (xs : List Tree) → xs ≡ [] → Each (IsSample w) xs
no_samples w xs q = subst (Each (IsSample w)) (sym q) tt

pub ruleset stepped = (tables_ready, all_ready, all_placed, no_samples)

pub ruleset walking = (tables_ready, sample_walk)

pub ruleset alone = (no_nets, over_none, sample_one, tables_ready, all_ready, all_placed)

pub ruleset over_no_nets = (new_ready, ready_over)

pub ruleset samples = (sample-event, sample-nil)

pub ruleset stacks = (none_stacked, one_more, others_stacked, last_stacked)

pub ruleset ring = (sample_ring, one_net, sample_one)
