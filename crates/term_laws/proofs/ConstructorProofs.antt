-- Proofs of the laws of permission's measure, of permission by nothing, and of the normalising constructors.
use Rattle.std.specs.Prelude.{ℕ, ◌≢◌, Bool, List, Option}
use Rattle.hmsc_graph.specs.Graphs.{Spot, Goal}
use Rattle.chart_term.specs.NormalForms.{only, cut, loop_of, walk_of}
use Rattle.chart_term.specs.Tables.{Tables, node_of, terms_over}
use Rattle.chart_term.specs.TermMeanings.{HasPattern, HasRow, holds_loop, holds_walk, PatternsOf, UpTo, ◌⊑◌}
use Rattle.chart_term.specs.TermPatterns.{Shape, same}
use Rattle.chart_term.specs.Terms.{Tree, Loop, Walk, Part, parts, row_of}
use Rattle.chart_term.proofs.Binding.{bound_to, bound_from}
use Rattle.chart_term.proofs.Joining.{join_to, join_from, choice_to, choice_from}
use Rattle.chart_term.proofs.Lists.{parts-row_of}
use Rattle.chart_term.proofs.Looping.{Eases, turns_to, turns_from}
use Rattle.chart_term.proofs.Walking.{trail_to, trail_from}
use Rattle.term_laws.specs.ConstructorLaws.{NamesNot, PermitOnlyFalls, PermitOfNothing, NormalFormsKeepPatterns}
use Rattle.chart_term.specs.Spreads.{touch}
use Rattle.term_laws.specs.Permission.{permit, permits_of}
use Rattle.term_laws.specs.Soundness.{AreTidyTables, IsTidyOver, NeverGrows, NetLacks, IsKnown}
use Rattle.term_laws.proofs.Everywhere.{permit_every}
use Rattle.term_laws.proofs.Identity.{permit_same}
use Rattle.term_laws.proofs.Permitting.{IsRegular, touched, permit_law, only_fits}
use Rattle.term_laws.proofs.Ranking.{permit_weight}
use Rattle.term_laws.proofs.TidyKept.{good_ok, falls_of, shows_of}
use Rattle.term_laws.proofs.TidyTables.{nets_good}
use Rattle.term_laws.proofs.Keeping.{at_some}

pub permit_only_falls : PermitOnlyFalls
permit_only_falls = record {
  weight_falls = λ w b x y e. permit_weight (permits_of w) b x y e;
  nets_fall = λ w b x y n e h. at_some (NamesNot n) (permit (permits_of w) b x) y e (permit_every (λ e. Unit {0}) (λ m. m ≢ n) (permits_of w) b x h);
}

pub permit_of_nothing : PermitOfNothing
permit_of_nothing = record { same = λ w x h. permit_same (permits_of w) x h }

module _ (o : Bool) (w : Tables) (h : AreTidyTables w) where
  regular : (x : Tree) → IsTidyOver w x → IsRegular (permits_of w) (node_of w) o x
  regular x g = good_ok (permits_of w) (node_of w) o (NetLacks w) (IsKnown w) (nets_good o w h) x g

  module _ (x : Tree) (g : IsTidyOver w x) where
    ease : (c : List ℕ) → Eases (terms_over w) o x (cut (touch (permits_of w).spread x) c) c
    ease c s a = (touched (permits_of w) (node_of w) o x (regular x g) c s a).to

    hard : (c : List ℕ) → Eases (terms_over w) o x c (cut (touch (permits_of w).spread x) c)
    hard c s a = (touched (permits_of w) (node_of w) o x (regular x g) c s a).from

    Normalised : ℕ → Option ℕ → List Part → Shape → Type 0
    Normalised lo hi ps s = PatternsOf (terms_over w) o (loop_of (λ c. permit (permits_of w) (only c) x) (touch (permits_of w).spread x) x lo hi ps) s

    as_row : (ps : List Part) (n : ℕ) (s : Shape) → HasRow (terms_over w) o x ps n s → HasRow (terms_over w) o x (parts (row_of ps)) n s
    as_row ps n s a = rw (parts-row_of ps) a

    of_row : (ps : List Part) (n : ℕ) (s : Shape) → HasRow (terms_over w) o x (parts (row_of ps)) n s → HasRow (terms_over w) o x ps n s
    of_row ps n s a = rw (parts-row_of ps) at a

    loop_to : (lo : ℕ) (hi : Option ℕ) (ps : List Part) → UpTo hi lo → PatternsOf (terms_over w) o (loop_of (λ c. permit (permits_of w) (only c) x) (touch (permits_of w).spread x) x lo hi ps) ⊑ HasPattern (terms_over w) o (Loop x lo hi (row_of ps))
    loop_to lo hi ps u s a =
        let i = turns_to (terms_over w) o x (λ c. permit (permits_of w) (only c) x) (λ c. permit_law (permits_of w) (node_of w) o x (regular x g) (only c) (only_fits (permits_of w) (node_of w) o c x)) (touch (permits_of w).spread x) ease hard lo hi ps u s a in
        (i.0, holds_loop i.1.0 (as_row ps i.1.0 i.0 i.1.1) i.1.2 i.1.3, i.2)

    loop_from : (lo : ℕ) (hi : Option ℕ) (ps : List Part) → NeverGrows ps → HasPattern (terms_over w) o (Loop x lo hi (row_of ps)) ⊑ PatternsOf (terms_over w) o (loop_of (λ c. permit (permits_of w) (only c) x) (touch (permits_of w).spread x) x lo hi ps)
    loop_from lo hi ps d s (holds_loop n a l u) =
        turns_from (terms_over w) o x (λ c. permit (permits_of w) (only c) x) (λ c. permit_law (permits_of w) (node_of w) o x (regular x g) (only c) (only_fits (permits_of w) (node_of w) o c x)) (touch (permits_of w).spread x) ease hard lo hi ps (falls_of (terms_over w) o x ps d) s (n, of_row ps n s a, l, u)

  walk_to : (n : ℕ) (f : Spot) (t : Goal) (c : List ℕ) → IsKnown w n → PatternsOf (terms_over w) o (walk_of (permits_of w) n f t c) ⊑ HasPattern (terms_over w) o (Walk n f t c)
  walk_to n f t c l s a = let i = trail_to (permits_of w) (node_of w) o n ((nets_good o w h).fine n l) f t c s a in (i.0, holds_walk i.1, i.2)

  walk_from : (n : ℕ) (f : Spot) (t : Goal) (c : List ℕ) → IsKnown w n → HasPattern (terms_over w) o (Walk n f t c) ⊑ PatternsOf (terms_over w) o (walk_of (permits_of w) n f t c)
  walk_from n f t c l s (holds_walk a) = trail_from (permits_of w) (node_of w) o n ((nets_good o w h).fine n l) f t c s a

pub normal_forms_keep_patterns : NormalFormsKeepPatterns
normal_forms_keep_patterns = record {
  join = λ o w m xs. record { to = join_to (terms_over w) o m xs; from = join_from (terms_over w) o m xs };
  choice = λ o w xs. record { to = λ s a. (s, choice_to (terms_over w) o xs s a, same); from = λ s a. (s, choice_from (terms_over w) o xs s a, same) };
  tied = λ o w x q h f. record {
    to = bound_to (terms_over w) o x q (λ j p s a i. shows_of (permits_of w) (node_of w) o (NetLacks w) (IsKnown w) (nets_good o w h) j a (f j p) i);
    from = bound_from (terms_over w) o x q (λ j p s a i. shows_of (permits_of w) (node_of w) o (NetLacks w) (IsKnown w) (nets_good o w h) j a (f j p) i);
  };
  turns = λ o w x lo hi ps h g d u. record { to = loop_to o w h x g lo hi ps u; from = loop_from o w h x g lo hi ps d };
  trail = λ o w n f t c h l. record { to = walk_to o w h n f t c l; from = walk_from o w h n f t c l };
}
