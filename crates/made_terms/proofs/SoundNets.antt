-- The nets that are made over sound tables are sound, and so is the term of the judged expansion.
use Rattle.std.specs.Option.{unwrap_or}
use Rattle.std.specs.Prelude.{ℕ, zero, suc, ◌+◌, ◌<◌, false, true, List, [], ◌∷◌, ◌++◌, Option, Some, None, length, map}
use Rattle.std.proofs.Common.{◌≡◌, ◌∙◌, refl, sym, ap, subst, arith, get_or}
use Rattle.std.proofs.lemmas.List.{length-map}
use Rattle.msc_base.specs.Orders.{Among, first, later}
use Rattle.hmsc_graph.specs.declared.shape.Shape.{Shape}
use Rattle.hmsc_graph.specs.declared.shape.ShapeLine.{ShapeLine}
use Rattle.hmsc_graph.specs.Graphs.{Any}
use Rattle.hmsc_graph.specs.Nets.{size_of}
use Rattle.chart_term.specs.Properties.{Each, MayHave}
use Rattle.chart_term.specs.Tables.{NetEntry, Tables, net_count, nth_tree}
use Rattle.chart_term.specs.Terms.{Tree, Nil}
use Rattle.term_laws.specs.FullSoundness.{AreEndsNil, AreSoundNets, FreshTermsAreSound, IsFullySound, IsSoundNode, MustHave, fresh_walk}
use Rattle.sound_terms.specs.TableLaws.{TablesStaySound}
use Rattle.sound_terms.proofs.Ordering.{among_left, among_right}
use Rattle.expansion_tree.specs.Expansions.{Event, InRow, Aside, OneOf, Exception, Turns, Tied, Walk, no_parts, part_and, events_in, all_events_in}
use Rattle.expansion_tree.specs.Numbered.{Expansion, Expansions}
use Rattle.expansion_tree.specs.Walks.{EachWalk, EachWalkIn}
use Rattle.expansion_tree.specs.declared.tree.ExpandedEvent.{ExpandedEvent}
use Rattle.expansion_order.specs.Ranks.{CanBeRanked}
use Rattle.expansion_terms.specs.ExpansionTerms.{event_term, numbered_term, part_terms}
use Rattle.expansion_terms.specs.MadeTerms.{AreWalksMade, IsWalkOf, MadeTermsAgree, judged, made, made_all, net_behind, net_of_shape, newest_walk, parts_count, walk_at}
use Rattle.expanded_terms.specs.ExpansionNumbers.{CountFrom}
use Rattle.expanded_terms.specs.RankedTerms.{EachTie, EachTies, IsOwn, RankedExpansionsAreSound}
use Rattle.node_ranks.specs.NodeRanks.{EachPart}
use Rattle.made_terms.specs.MadeTerms.{AreEndsEmpty, CanBeMade, IsSoundGraph, MadeTermsAreSound}
use Rattle.made_terms.proofs.WalkNumbers.{all_nums, all_walks_once, count_left, count_right, nums, walks_once}

module _ (agree : MadeTermsAgree) (ranked : RankedExpansionsAreSound) (stay : TablesStaySound) (labels : ℕ) (walk : ℕ → Tree) where
  abbrev IsWalkIn : Tables → ℕ → Shape → Expansions → Type 0
  IsWalkIn w n g xs = IsWalkOf w g (part_terms event_term walk xs) (walk n)

  abbrev AreLabelled : List ExpandedEvent → Type 0
  AreLabelled es = (e : ExpandedEvent) → Among e es → e.label < labels

  abbrev AreSoundGraphs : Expansions → Type 0
  AreSoundGraphs xs = EachWalkIn (λ m g ys. IsSoundGraph g ys) xs

  -- ---- the terms of parts

  parts_sound : (w : Tables) (n : ℕ) (xs : Expansions) → AreSoundNets labels w → CountFrom n (all_nums xs) → AreLabelled (all_events_in xs) → EachTies IsOwn xs → EachPart CanBeRanked xs → EachWalkIn (IsWalkIn w) xs
      → Each (IsSoundNode labels w) (part_terms event_term walk xs)
  parts_sound w n no_parts nets c l t r v = tt
  parts_sound w n (part_and x xs) nets c l t r v = (
    ranked.sound labels w n x walk nets (count_left n (nums x) (all_nums xs) c) (λ e i. l e (among_left (events_in x) (all_events_in xs) e i)) t.0 r.0 v.0,
    parts_sound w (n + length (nums x)) xs nets (count_right n (nums x) (all_nums xs) c) (λ e i. l e (among_right (events_in x) (all_events_in xs) e i)) t.1 r.1 v.1,
  )

  -- as many as parts
  terms_counted : (xs : Expansions) → length (part_terms event_term walk xs) ≡ parts_count xs
  terms_counted no_parts = refl
  terms_counted (part_and x xs) = let rest = terms_counted xs in omega (arith, rest)

  -- the term of an end is Nil
  ends_nil : (lines : List ShapeLine) (xs : Expansions) → AreEndsEmpty lines xs → (m : ℕ) → get_or (map (λ (line : ShapeLine). line.ends) lines) m false ≡ true → nth_tree (part_terms event_term walk xs) m ≡ Nil
  ends_nil [] xs h m e = absurd cc
  ends_nil (line ∷ lines) no_parts h m e = refl
  ends_nil (line ∷ lines) (part_and x xs) h zero e = ap (λ (y : Expansion). numbered_term walk y) (h.0 e)
  ends_nil (line ∷ lines) (part_and x xs) h (suc m) e = ends_nil lines xs h.1 m e

  -- ---- the nets

  one_net : (n : ℕ) (g : Shape) (t : Tables) (xs : Expansions) → IsSoundGraph g xs → AreSoundNets labels (made_all t xs).tables → CountFrom n (all_nums xs) → AreLabelled (all_events_in xs) → EachTies IsOwn xs → AreWalksMade walk (made_all t xs).walks
      → AreSoundNets labels (net_behind g (made_all t xs))
  one_net n g t xs graph nets c l ties h =
      let w = (made_all t xs).tables in
      let nodes = part_terms event_term walk xs in
      subst (λ (ys : List Tree). AreSoundNets labels (record { net = net_of_shape g; nodes = ys } ∷ w)) (sym (agree.terms t xs walk h))
      (stay.one_net_more labels w (record { net = net_of_shape g; nodes = nodes }) nets
      (parts_sound w n xs nets c l ties graph.ranked (agree.walks t (InRow xs) walk h)) graph.net
      (length-map g.lines (λ (line : ShapeLine). line.ends) ∙ (sym graph.each ∙ sym (terms_counted xs))) (ends_nil g.lines xs graph.ends))

  mutual
    made_sound : (t : Tables) (n : ℕ) (x : Expansion) → AreSoundNets labels t → CountFrom n (nums x) → AreLabelled (events_in x) → EachTie IsOwn x → EachWalk (λ m g xs. IsSoundGraph g xs) x → AreWalksMade walk (made t x).walks
        → AreSoundNets labels (made t x).tables
    made_sound t n (Event e) nets c l ties g h = nets
    made_sound t n (InRow xs) nets c l ties g h = all_sound t n xs nets c l ties g h
    made_sound t n (Aside xs) nets c l ties g h = all_sound t n xs nets c l ties g h
    made_sound t n (OneOf xs) nets c l ties g h = all_sound t n xs nets c l ties g h
    made_sound t n (Exception x) nets c l ties g h = made_sound t n x nets c l ties g h
    made_sound t n (Turns m lower upper x) nets c l ties g h = made_sound t n x nets c l ties g h
    made_sound t n (Tied x ps) nets c l ties g h = made_sound t n x nets c l ties.1 g h
    made_sound t n (Walk m s xs) nets c l ties g h = one_net (suc n) s t xs g.0 (all_sound t (suc n) xs nets c.1 l ties g.1 (λ p i. h p (later i))) c.1 l ties (λ p i. h p (later i))

    all_sound : (t : Tables) (n : ℕ) (xs : Expansions) → AreSoundNets labels t → CountFrom n (all_nums xs) → AreLabelled (all_events_in xs) → EachTies IsOwn xs → AreSoundGraphs xs → AreWalksMade walk (made_all t xs).walks
        → AreSoundNets labels (made_all t xs).tables
    all_sound t n no_parts nets c l ties g h = nets
    all_sound t n (part_and x xs) nets c l ties g h =
        let m = made t x in
        all_sound m.tables (n + length (nums x)) xs
        (made_sound t n x nets (count_left n (nums x) (all_nums xs) c) (λ e i. l e (among_left (events_in x) (all_events_in xs) e i)) ties.0 g.0 (λ p i. h p (among_left m.walks (made_all m.tables xs).walks p i)))
        (count_right n (nums x) (all_nums xs) c) (λ e i. l e (among_right (events_in x) (all_events_in xs) e i)) ties.1 g.1 (λ p i. h p (among_right m.walks (made_all m.tables xs).walks p i))

-- ---- the laws

module _ (agree : MadeTermsAgree) (ranked : RankedExpansionsAreSound) (stay : TablesStaySound) (fresh : FreshTermsAreSound) where
  nets_sound : (labels n : ℕ) (t : Tables) (x : Expansion) → AreSoundNets labels t → CanBeMade labels n x → AreSoundNets labels (made t x).tables
  nets_sound labels n t x nets h =
      let ws = (made t x).walks in
      made_sound agree ranked stay labels (walk_at ws) t n x nets h.counted h.labelled h.tied h.graphs (agree.found ws (walks_once t n x h.counted))

  -- the term of an expansion that can be ranked
  term_sound : (labels n : ℕ) (x : Expansion) → CanBeMade labels n x → CanBeRanked x → IsFullySound labels (made [] x).tables (made [] x).term
  term_sound labels n x h can =
      let ws = (made [] x).walks in
      let w = (made [] x).tables in
      let are = agree.found ws (walks_once [] n x h.counted) in
      let nets = nets_sound labels n [] x tt h in
      record {
        nets = nets;
        term = (subst (λ (y : Tree). IsSoundNode labels w y) (sym (agree.term [] x (walk_at ws) are)) (ranked.sound labels w n x (walk_at ws) nets h.counted h.labelled h.tied can (agree.walks [] x (walk_at ws) are))).sound;
      }

  -- the walk to anywhere through the newest net
  walk_sound : (labels : ℕ) (e : NetEntry) (es : Tables) → AreSoundNets labels (e ∷ es) → IsFullySound labels (e ∷ es) (newest_walk Any (e ∷ es))
  walk_sound labels e es nets = by (fresh_walk (e ∷ es) (net_count es) Any) (fresh.open_walk (e ∷ es) (net_count es)) (fresh.walk labels (e ∷ es) (net_count es) Any nets (omega arith) tt)
    where
      by : (o : Option Tree) → MustHave (λ x. Unit {0}) o → MayHave (IsFullySound labels (e ∷ es)) o → IsFullySound labels (e ∷ es) (unwrap_or o Nil)
      by None a b = absurd a
      by (Some x) a b = b

  judged_sound : (labels n : ℕ) (x : Expansion) → CanBeMade labels n x → CanBeRanked x → IsFullySound labels (judged [] x).tables (judged [] x).term
  judged_sound labels n (Walk m g xs) h can = walk_sound labels (record { net = net_of_shape g; nodes = (made_all [] xs).terms }) (made_all [] xs).tables (nets_sound labels n [] (Walk m g xs) tt h)
  judged_sound labels n (Event e) h can = term_sound labels n (Event e) h can
  judged_sound labels n (InRow xs) h can = term_sound labels n (InRow xs) h can
  judged_sound labels n (Aside xs) h can = term_sound labels n (Aside xs) h can
  judged_sound labels n (OneOf xs) h can = term_sound labels n (OneOf xs) h can
  judged_sound labels n (Exception x) h can = term_sound labels n (Exception x) h can
  judged_sound labels n (Turns m lower upper x) h can = term_sound labels n (Turns m lower upper x) h can
  judged_sound labels n (Tied x ps) h can = term_sound labels n (Tied x ps) h can

  pub made_terms_are_sound : MadeTermsAreSound
  made_terms_are_sound = record { nets = nets_sound; judged = judged_sound }
