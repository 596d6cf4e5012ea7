-- The terms that are made of an expansion are unbegun, and so are the terms of all nodes of its nets.
use Rattle.std.specs.Prelude.{ℕ, ◌==◌, Bool, true, false, List, [], ◌∷◌, ◌≡◌, refl}
use Rattle.msc_base.specs.Patterns.{seq, par}
use Rattle.hmsc_graph.specs.declared.shape.Shape.{Shape}
use Rattle.hmsc_graph.specs.Graphs.{Goal, End, Any}
use Rattle.chart_term.specs.Properties.{Each}
use Rattle.chart_term.specs.TermMeanings.{aim}
use Rattle.chart_term.specs.Tables.{NetEntry, Tables, net_count, nth_tree, node_of}
use Rattle.chart_term.specs.Terms.{Tree}
use Rattle.chart_term.specs.Views.{pairs_of}
use Rattle.term_laws.specs.FullSoundness.{fresh_walk}
use Rattle.term_laws.specs.Permission.{permits_of}
use Rattle.term_laws.proofs.TidyTables.{each_nth, picked}
use Rattle.certificates.specs.CertificateLaws.{IsUnbegun}
use Rattle.expansion_tree.specs.Expansions.{Event, InRow, Aside, OneOf, Exception, Turns, Tied, Walk, no_parts, part_and, is_exception}
use Rattle.expansion_tree.specs.Numbered.{Expansion, Expansions}
use Rattle.expansion_terms.specs.Constructors.{placed}
use Rattle.expansion_terms.specs.MadeTerms.{in_row, judged, made, made_all, net_of_shape, newest_walk, side_by_side, walked}
use Rattle.expansion_terms.proofs.Kept.{there}
use Rattle.unbegun_terms.proofs.Kept.{unbegun_kept, walk_unbegun}

-- each node's term
abbrev pub AreUnbegunTables : Tables → Type 0
AreUnbegunTables [] = Unit {0}
AreUnbegunTables (e ∷ es) = AreUnbegunTables es × Each IsUnbegun e.nodes

pub node_unbegun : (es : Tables) → AreUnbegunTables es → (n m : ℕ) → IsUnbegun (node_of es n m)
node_unbegun [] h n m = tt
node_unbegun (e ∷ es) h n m = picked IsUnbegun (n == net_count es) (nth_tree e.nodes m) (node_of es n m) (λ q. each_nth IsUnbegun e.nodes tt h.1 m) (λ q. node_unbegun es h.0 n m)

placed_kept : (b : Bool) (x y : Tree) → IsUnbegun x → IsUnbegun y → IsUnbegun (placed b x y)
placed_kept true x y h i = unbegun_kept.some (x ∷ y ∷ []) (h, (i, tt))
placed_kept false x y h i = unbegun_kept.both seq x y h i

row_kept : (xs : Expansions) (ys : List Tree) → Each IsUnbegun ys → IsUnbegun (in_row xs ys)
row_kept no_parts ys h = tt
row_kept (part_and x xs) [] h = tt
row_kept (part_and x xs) (y ∷ ys) h = placed_kept (is_exception x) y (in_row xs ys) h.0 (row_kept xs ys h.1)

side_kept : (ys : List Tree) → Each IsUnbegun ys → IsUnbegun (side_by_side ys)
side_kept [] h = tt
side_kept (y ∷ ys) h = unbegun_kept.both par y (side_by_side ys) h.0 (side_kept ys h.1)

newest_unbegun : (goal : Goal) (e : NetEntry) (es : Tables) → aim goal ≡ End → IsUnbegun (newest_walk goal (e ∷ es))
newest_unbegun goal e es a = there IsUnbegun (fresh_walk (e ∷ es) (net_count es) goal) tt (walk_unbegun (permits_of (e ∷ es)) (net_count es) goal a)

walked_unbegun : (goal : Goal) (n : ℕ) (g : Shape) (xs : Expansions) (t : Tables) → aim goal ≡ End → AreUnbegunTables (made_all t xs).tables × Each IsUnbegun (made_all t xs).terms
    → AreUnbegunTables (walked goal n g (made_all t xs)).tables × IsUnbegun (walked goal n g (made_all t xs)).term
walked_unbegun goal n g xs t a l = (l, newest_unbegun goal (record { net = net_of_shape g; nodes = (made_all t xs).terms }) (made_all t xs).tables a)

mutual
  made_unbegun : (t : Tables) (x : Expansion) → AreUnbegunTables t → AreUnbegunTables (made t x).tables × IsUnbegun (made t x).term
  made_unbegun t (Event e) h = (h, tt)
  made_unbegun t (InRow xs) h = let l = all_unbegun t xs h in (l.0, row_kept xs (made_all t xs).terms l.1)
  made_unbegun t (Aside xs) h = let l = all_unbegun t xs h in (l.0, side_kept (made_all t xs).terms l.1)
  made_unbegun t (OneOf xs) h = let l = all_unbegun t xs h in (l.0, unbegun_kept.some (made_all t xs).terms l.1)
  made_unbegun t (Exception x) h = made_unbegun t x h
  made_unbegun t (Turns n lower upper x) h = let m = made_unbegun t x h in (m.0, unbegun_kept.turns lower upper (made t x).term m.1)
  made_unbegun t (Tied x ps) h = let m = made_unbegun t x h in (m.0, unbegun_kept.tied (made t x).term (pairs_of ps) m.1)
  made_unbegun t (Walk n g xs) h = walked_unbegun End n g xs t refl (all_unbegun t xs h)

  all_unbegun : (t : Tables) (xs : Expansions) → AreUnbegunTables t → AreUnbegunTables (made_all t xs).tables × Each IsUnbegun (made_all t xs).terms
  all_unbegun t no_parts h = (h, tt)
  all_unbegun t (part_and x xs) h =
      let m = made_unbegun t x h in
      let l = all_unbegun (made t x).tables xs m.0 in
      (l.0, (m.1, l.1))

pub judged_unbegun : (t : Tables) (x : Expansion) → AreUnbegunTables t → AreUnbegunTables (judged t x).tables × IsUnbegun (judged t x).term
judged_unbegun t (Walk n g xs) h = walked_unbegun Any n g xs t refl (all_unbegun t xs h)
judged_unbegun t (Event e) h = made_unbegun t (Event e) h
judged_unbegun t (InRow xs) h = made_unbegun t (InRow xs) h
judged_unbegun t (Aside xs) h = made_unbegun t (Aside xs) h
judged_unbegun t (OneOf xs) h = made_unbegun t (OneOf xs) h
judged_unbegun t (Exception x) h = made_unbegun t (Exception x) h
judged_unbegun t (Turns n lower upper x) h = made_unbegun t (Turns n lower upper x) h
judged_unbegun t (Tied x ps) h = made_unbegun t (Tied x ps) h
