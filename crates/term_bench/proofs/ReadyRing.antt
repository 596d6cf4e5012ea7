-- The tables of the ring and what is left of its walk are ready.
use Rattle.std.specs.Prelude.{ℕ, List, [], ◌∷◌, ◌++◌, ◌≡◌, length, Some, None, slice_get}
use Rattle.std.proofs.Common.{◌∙◌, ap, sym, subst}
use Rattle.msc_base.specs.declared.label.Label.{Label}
use Rattle.list_facts.proofs.Members.{at_among}
use Rattle.hmsc_graph.specs.Nets.{size_of}
use Rattle.term_tables.specs.NetValues.{NetsValue}
use Rattle.chart_term.specs.Properties.{Each}
use Rattle.chart_term.specs.Tables.{Tables, NetEntry, net_count}
use Rattle.chart_term.specs.Terms.{TermEvent, Tree, Nil, Event, Walk}
use Rattle.term_permission.specs.Ready.{AreReadyTables, IsReady}
use Rattle.term_step.specs.AllAfter.{AreAllLeft}
use Rattle.hmsc_graph.specs.Graphs.{Spot, Goal}
use Rattle.chart_term.specs.TermPatterns.{some_list}
use Rattle.term_laws.specs.Placing.{HaveOnePlace}
use Rattle.term_laws.proofs.Placed.{one_place_is_kept}
use Rattle.term_successors.proofs.TermSets.{each_at, each_from}
use Rattle.term_bench.specs.Homes.{AreHome, first_alone, IsHome}
use Rattle.term_permission.proofs.Permits.{ready-at}
use Rattle.term_permission.proofs.ReadyTerms.{ready_is_kept}

pub ready-nil : (w : Tables) (x : Tree) → x ≡ Nil → IsReady w x
ready-nil w x q = subst (IsReady w) (sym q) (record { within = tt; normal = tt })

pub ready-event : (w : Tables) (x : Tree) (e : TermEvent) → x ≡ Event e → IsReady w x
ready-event w x e q = subst (IsReady w) (sym q) (ready_is_kept.event w e)

each_both : (w : Tables) (xs ys : List Tree) → Each (IsReady w) xs → Each (IsReady w) ys → Each (IsReady w) (xs ++ ys)
each_both w [] ys h g = g
each_both w (x ∷ xs) ys h g = (h.0, each_both w xs ys h.1 g)

pub ready-more : (w : Tables) (xs ys : List Tree) (x : Tree) → ys ≡ xs ++ x ∷ [] → Each (IsReady w) xs → IsReady w x → Each (IsReady w) ys
ready-more w xs ys x q h g = subst (Each (IsReady w)) (sym q) (each_both w xs (x ∷ []) h (g, tt))

pub ready-net : (o n : NetsValue) (e : NetEntry) → o.tables ≡ [] → n ≡ record o { tables = e ∷ o.tables } → Each (IsReady []) e.nodes → size_of e.net ≡ length e.nodes → AreReadyTables n.tables
ready-net o n e p q h g = subst AreReadyTables (sym (ap (λ (v : NetsValue). v.tables) q ∙ ap (λ l. e ∷ l) p)) (tt, h, g)

pub one-net : (o n : NetsValue) (e : NetEntry) → o.tables ≡ [] → n ≡ record o { tables = e ∷ o.tables } → net_count n.tables ≡ 1
one-net o n e p q = ap net_count (ap (λ (v : NetsValue). v.tables) q ∙ ap (λ l. e ∷ l) p)

-- ---- events at the first instance

pub home-nil : (x : Tree) → x ≡ Nil → IsHome x
home-nil x q = subst IsHome (sym q) tt

pub home-event : (x : Tree) (e : TermEvent) → x ≡ Event e → e.at ≡ 0 → e.also ≡ None → IsHome x
home-event x e q at also = subst IsHome (sym q) (λ i. sym at i ∷ some_list (sym also i))

pub home-walk : (x : Tree) (n : ℕ) (f : Spot) (t : Goal) (c : List ℕ) → x ≡ Walk n f t c → IsHome x
home-walk x n f t c q = subst IsHome (sym q) tt

pub home-more : (xs ys : List Tree) (x : Tree) → ys ≡ xs ++ x ∷ [] → Each IsHome xs → IsHome x → Each IsHome ys
home-more xs ys x q h g = subst (Each IsHome) (sym q) (both xs h)
  where
    both : (zs : List Tree) → Each IsHome zs → Each IsHome (zs ++ x ∷ [])
    both [] k = (g, tt)
    both (z ∷ zs) k = (k.0, both zs k.1)

pub home-net : (o n : NetsValue) (e : NetEntry) → o.tables ≡ [] → n ≡ record o { tables = e ∷ o.tables } → Each IsHome e.nodes → AreHome n.tables
home-net o n e p q h = subst AreHome (sym (ap (λ (v : NetsValue). v.tables) q ∙ ap (λ l. e ∷ l) p)) (tt, h)

pub home-placed : (w : Tables) (x : Tree) → AreHome w → IsHome x → HaveOnePlace w x
home-placed w x h g = record { places = first_alone; nets = h; term = g }

-- ---- what is left

pub one-placed : (w : Tables) (xs : List Tree) (x : Tree) → xs ≡ [] ++ x ∷ [] → HaveOnePlace w x → Each (HaveOnePlace w) xs
one-placed w xs x q h = subst (Each (HaveOnePlace w)) (sym q) (h, tt)

pub left-placed : (v : NetsValue) (label : Label) (most : ℕ) (terms found : List Tree) → Each (HaveOnePlace v.tables) terms → AreAllLeft v label terms most found → Each (HaveOnePlace v.tables) found
left-placed v label most terms found h f =
    each_from (HaveOnePlace v.tables) found
    (λ y i. let l = (f.exact y).to i in one_place_is_kept.after_keeps v.tables l.term y l.left.event (each_at (HaveOnePlace v.tables) terms l.term h l.held) l.left.after)

pub placed-at : (w : Tables) (xs : List Tree) (i : ℕ) (x : Tree) → slice_get xs i ≡ Some x → Each (HaveOnePlace w) xs → HaveOnePlace w x
placed-at w xs i x e h = each_at (HaveOnePlace w) xs x h (at_among xs i x e)

pub ruleset ready = (ready-nil, ready-event, ready-more, ready-net, one-net, home-nil, home-event, home-more, home-net)

pub ruleset found = (ready-at, home-walk, home-placed, one-placed, left-placed, placed-at)
