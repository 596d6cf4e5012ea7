-- The normalising constructors make tidy terms in normal form, and fail exactly where there is no pattern.
use Rattle.std.specs.Prelude.{ℕ, Bool, true, false, List, [], ◌∷◌, ◌≡◌, Option, Some, None, refl}
use Rattle.std.proofs.lemmas.Option.{none-some}
use Rattle.std.proofs.Common.{sym}
use Rattle.msc_base.specs.Patterns.{Mode}
use Rattle.hmsc_graph.specs.Graphs.{Spot, Goal, To, End, Any, reach}
use Rattle.chart_term.specs.NormalForms.{only, cut, join_all, choice_of, tie_of, loop_of, walk_form, walk_of, walk_cut, allowed, are_nil}
use Rattle.chart_term.specs.Properties.{Each, EachTurn, MayHave}
use Rattle.chart_term.specs.Tables.{Tables, node_of, terms_over}
use Rattle.chart_term.specs.TermMeanings.{HasPattern, PatternsOf, UpTo, HasChoice}
use Rattle.chart_term.specs.TermPatterns.{Shape, Both}
use Rattle.chart_term.specs.Terms.{Tree, Tied, Loop, Walk, Part, Gap, Turn, row_of}
use Rattle.term_laws.specs.ConstructorLaws.{IsFormed, IsFormedRow, HaveSame, ConstructorsKeepForm}
use Rattle.term_laws.specs.Normality.{IsSet, IsNormalOver}
use Rattle.chart_term.specs.Spreads.{touch}
use Rattle.term_laws.specs.Permission.{permit, permits_of}
use Rattle.term_laws.specs.Sound.{AreSoundTables}
use Rattle.term_laws.specs.Soundness.{AreTidyTables, IsTidyOver, NetLacks, IsKnown}
use Rattle.term_laws.proofs.ConstructorProofs.{normal_forms_keep_patterns}
use Rattle.term_laws.proofs.Keeping.{join_keeps, choice_keeps, tied_keeps, turns_keep}
use Rattle.term_laws.proofs.NormalTables.{some_pattern}
use Rattle.term_laws.proofs.Normalising.{join_normal, choice_normal, bound_normal, turns_normal, trail_normal}
use Rattle.term_laws.proofs.TidyKept.{TidyLoop, Replaces, good_kind}
use Rattle.term_laws.proofs.TidyTables.{nets_good}

all_tidy : (w : Tables) (xs : List Tree) → Each (IsFormed w) xs → Each (IsTidyOver w) xs
all_tidy w [] h = tt
all_tidy w (x ∷ xs) h = (h.0.tidy, all_tidy w xs h.1)

all_normal : (w : Tables) (xs : List Tree) → Each (IsFormed w) xs → Each (IsNormalOver w) xs
all_normal w [] h = tt
all_normal w (x ∷ xs) h = (h.0.normal, all_normal w xs h.1)

turns_tidy : (w : Tables) (ps : List Part) → EachTurn (IsFormed w) ps → EachTurn (IsTidyOver w) ps
turns_tidy w [] h = tt
turns_tidy w (Gap c ∷ ps) h = turns_tidy w ps h
turns_tidy w (Turn x ∷ ps) h = (h.0.tidy, turns_tidy w ps h.1)

turns_all_normal : (w : Tables) (ps : List Part) → EachTurn (IsFormed w) ps → EachTurn (IsNormalOver w) ps
turns_all_normal w [] h = tt
turns_all_normal w (Gap c ∷ ps) h = turns_all_normal w ps h
turns_all_normal w (Turn x ∷ ps) h = (h.0.normal, turns_all_normal w ps h.1)

formed : (w : Tables) (r : Option Tree) → MayHave (IsTidyOver w) r → MayHave (IsNormalOver w) r → MayHave (IsFormed w) r
formed w None t n = tt
formed w (Some y) t n = record { tidy = t; normal = n }

module _ (w : Tables) (h : AreTidyTables w) where
  join_formed : (m : Mode) (xs : List Tree) → Each (IsFormed w) xs → IsFormed w (join_all m xs)
  join_formed m xs f = record {
    tidy = join_keeps (permits_of w) (IsTidyOver w) (IsTidyOver w) (TidyLoop (permits_of w) (node_of w) true (NetLacks w) (IsKnown w) (nets_good true w h)) (Replaces (permits_of w) (node_of w) true (NetLacks w) (IsKnown w) (nets_good true w h)) (good_kind (permits_of w) (node_of w) true (NetLacks w) (IsKnown w) (nets_good true w h)) m xs (all_tidy w xs f);
    normal = join_normal (permits_of w) m xs (all_normal w xs f);
  }

  choice_formed : (xs : List Tree) → Each (IsFormed w) xs → MayHave (IsFormed w) (choice_of xs)
  choice_formed xs f =
      formed w (choice_of xs)
      (choice_keeps (permits_of w) (IsTidyOver w) (IsTidyOver w) (TidyLoop (permits_of w) (node_of w) true (NetLacks w) (IsKnown w) (nets_good true w h)) (Replaces (permits_of w) (node_of w) true (NetLacks w) (IsKnown w) (nets_good true w h)) (good_kind (permits_of w) (node_of w) true (NetLacks w) (IsKnown w) (nets_good true w h)) xs (all_tidy w xs f))
      (choice_normal (permits_of w) xs (all_normal w xs f))

  bound_formed : (x : Tree) (q : List (ℕ × ℕ)) → IsTidyOver w (Tied x q) → IsNormalOver w x → IsFormed w (tie_of x q)
  bound_formed x q t n = record {
    tidy = tied_keeps (permits_of w) (IsTidyOver w) (IsTidyOver w) (TidyLoop (permits_of w) (node_of w) true (NetLacks w) (IsKnown w) (nets_good true w h)) (Replaces (permits_of w) (node_of w) true (NetLacks w) (IsKnown w) (nets_good true w h)) (good_kind (permits_of w) (node_of w) true (NetLacks w) (IsKnown w) (nets_good true w h)) x q t;
    normal = bound_normal (permits_of w) x q n;
  }

  turns_formed : (x : Tree) (lo : ℕ) (hi : Option ℕ) (ps : List Part) → IsFormed w x → UpTo hi lo → IsFormedRow w ps → MayHave (IsFormed w) (loop_of (λ c. permit (permits_of w) (only c) x) (touch (permits_of w).spread x) x lo hi ps)
  turns_formed x lo hi ps f u r =
      formed w (loop_of (λ c. permit (permits_of w) (only c) x) (touch (permits_of w).spread x) x lo hi ps)
      (turns_keep (permits_of w) (IsTidyOver w) (IsTidyOver w) (TidyLoop (permits_of w) (node_of w) true (NetLacks w) (IsKnown w) (nets_good true w h)) (Replaces (permits_of w) (node_of w) true (NetLacks w) (IsKnown w) (nets_good true w h)) (good_kind (permits_of w) (node_of w) true (NetLacks w) (IsKnown w) (nets_good true w h)) x lo hi ps (f.tidy, u, r.falls) (turns_tidy w ps r.turns))
      (turns_normal (permits_of w) x lo hi ps f.normal (turns_all_normal w ps r.turns) r.sets)

module _ (w : Tables) where
  walk_tidy : (a b : Bool) (n : ℕ) (f : Spot) (t : Goal) (c : List ℕ) → IsKnown w n → MayHave (IsTidyOver w) (walk_form a b (Walk n f t c))
  walk_tidy false b n f t c l = tt
  walk_tidy true true n f t c l = tt
  walk_tidy true false n f t c l = l

  cut_tidy : (n : ℕ) (f : Spot) (t : Goal) (c : List ℕ) → IsKnown w n → MayHave (IsTidyOver w) (walk_cut (permits_of w) n f t c)
  cut_tidy n f Any c l = l
  cut_tidy n f (To m) c l = walk_tidy (reach ((permits_of w).net n) (allowed (permits_of w) n c) f (To m)) (are_nil (permits_of w) n f (To m) c (allowed (permits_of w) n c)) n f (To m) c l
  cut_tidy n f End c l = walk_tidy (reach ((permits_of w).net n) (allowed (permits_of w) n c) f End) (are_nil (permits_of w) n f End c (allowed (permits_of w) n c)) n f End c l

  trail_formed : (n : ℕ) (f : Spot) (t : Goal) (c : List ℕ) → IsKnown w n → IsSet c → MayHave (IsFormed w) (walk_of (permits_of w) n f t c)
  trail_formed n f t c l s = formed w (walk_of (permits_of w) n f t c) (cut_tidy n f t (cut ((permits_of w).spread n) c) l) (trail_normal (permits_of w) n f t c s)

fails_exactly : (w : Tables) → AreSoundTables w → (p : Shape → Type 0) (r : Option Tree) → MayHave (IsFormed w) r → HaveSame (PatternsOf (terms_over w) true r) p → Both (r ≡ None) ((s : Shape) → p s → ⊥)
fails_exactly w h p None f e = record { to = λ q s a. (e.from s a).1; from = λ n. refl }
fails_exactly w h p (Some y) f e = record {
  to = λ q. absurd (none-some y (sym q));
  from = λ n. let i = some_pattern w h.tidy h.normal y f.tidy f.normal in let j = e.to i.0 i.1 in absurd (n j.0 j.1);
}

pub constructors_keep_form : ConstructorsKeepForm
constructors_keep_form = record {
  join = join_formed_at;
  choice = choice_formed_at;
  choice_fails = λ w xs h f. fails_exactly w h (HasChoice (terms_over w) true xs) (choice_of xs) (choice_formed w h.tidy xs f) (normal_forms_keep_patterns.choice true w xs);
  tied = bound_formed_at;
  turns = turns_formed_at;
  turns_fail = λ w x lo hi ps h f u r. fails_exactly w h (HasPattern (terms_over w) true (Loop x lo hi (row_of ps))) (loop_of (λ c. permit (permits_of w) (only c) x) (touch (permits_of w).spread x) x lo hi ps) (turns_formed w h.tidy x lo hi ps f u r) (normal_forms_keep_patterns.turns true w x lo hi ps h.tidy f.tidy r.falls u);
  trail = λ w n f t c l s. trail_formed w n f t c l s;
  trail_fails = λ w n f t c h l s. fails_exactly w h (HasPattern (terms_over w) true (Walk n f t c)) (walk_of (permits_of w) n f t c) (trail_formed w n f t c l s) (normal_forms_keep_patterns.trail true w n f t c h.tidy l);
}
  where
    join_formed_at : (w : Tables) (m : Mode) (xs : List Tree) → AreTidyTables w → Each (IsFormed w) xs → IsFormed w (join_all m xs)
    join_formed_at w m xs h f = join_formed w h m xs f

    choice_formed_at : (w : Tables) (xs : List Tree) → AreTidyTables w → Each (IsFormed w) xs → MayHave (IsFormed w) (choice_of xs)
    choice_formed_at w xs h f = choice_formed w h xs f

    bound_formed_at : (w : Tables) (x : Tree) (q : List (ℕ × ℕ)) → AreTidyTables w → IsTidyOver w (Tied x q) → IsNormalOver w x → IsFormed w (tie_of x q)
    bound_formed_at w x q h t n = bound_formed w h x q t n

    turns_formed_at : (w : Tables) (x : Tree) (lo : ℕ) (hi : Option ℕ) (ps : List Part) → AreTidyTables w → IsFormed w x → UpTo hi lo → IsFormedRow w ps → MayHave (IsFormed w) (loop_of (λ c. permit (permits_of w) (only c) x) (touch (permits_of w).spread x) x lo hi ps)
    turns_formed_at w x lo hi ps h f u r = turns_formed w h x lo hi ps f u r
