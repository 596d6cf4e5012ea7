-- Pairs of the ends are pairs of the events, and an event has one partner.
use Rattle.std.proofs.Common.{◌≡◌, ℕ, ◌<◌, ◌+◌, List, Option, Some, None, slice_get, take, arith, refl, sym, ap, ap₂, ◌∙◌, subst, All, ◌↔◌, Result, Ok, Err, IfOk, Vec, Global}
use Rattle.std.specs.List.{count_by, position}
use Rattle.column_order.specs.declared.edge.Edge.{Edge}
use Rattle.column_order.specs.Counts.{EdgeLeads}
use Rattle.column_order.specs.Pairing.{count, IsPair}
use Rattle.msc_meaning.specs.Bodies.{EventNode}
use Rattle.level_weaving.specs.declared.matching.Mark.{Mark}
use Rattle.msc_tree.specs.declared.event.Direction.{Direction}
use Rattle.msc_tree.specs.declared.event.Direction.TheVariants.{Out, In}
use Rattle.msc_meaning.specs.Pairing.{Key}
use Rattle.level_weaving.specs.Messages.{way, key_of, is_key, IsPaired}
use Rattle.level_weaving.specs.Marks.{IsMark, AreMarks, AreMarked, is_end, edges_from, LeadsPairs}
use Rattle.level_weaving.proofs.EdgeLaws.{edge_at, at_edge, edges_low}
use Rattle.level_weaving.proofs.Keys.{one_key}
use Rattle.level_weaving.proofs.MarkLaws.{mark_at, event_at, counted, class_low}

-- a pair of ends is a pair of events
pair_up : (events : List EventNode) (marks : List (Option Mark)) (classes p q : ℕ) → AreMarked events marks classes → IsPair (edges_from Out 0 marks) (edges_from In 0 marks) p q → IsPaired events p q
pair_up events marks classes p q h pair =
    let o = edge_at Out 0 marks pair.output.i pair.class p pair.output.at in
    let i = edge_at In 0 marks pair.input.i pair.class q pair.input.at in
    let out = event_at h.keys events marks o.place (Some o.mark) h.are o.at in
    let into = event_at h.keys events marks i.place (Some i.mark) h.are i.at in
    let p_is : o.place ≡ p = omega (arith, o.number) in
    let q_is : i.place ≡ q = omega (arith, i.number) in
    let out_class : position (is_key (key_of out.0)) h.keys ≡ Some pair.class = out.2.1 ∙ ap (λ (c : ℕ). Some c) o.class in
    let into_class : position (is_key (key_of into.0)) h.keys ≡ Some pair.class = into.2.1 ∙ ap (λ (c : ℕ). Some c) i.class in
    record {
      output = out.0;
      input = into.0;
      output_at = subst (λ (n : ℕ). slice_get events n ≡ Some out.0) p_is out.1;
      input_at = subst (λ (n : ℕ). slice_get events n ≡ Some into.0) q_is into.1;
      puts = out.2.0 ∙ ap (λ (b : Direction). Some b) o.way;
      takes = into.2.0 ∙ ap (λ (b : Direction). Some b) i.way;
      same = one_key h.keys (key_of out.0) (key_of into.0) pair.class pair.class out_class into_class refl;
      ranked = counted h.keys Out (key_of out.0) pair.class p events marks out_class h.are
          ∙ ap (λ (n : ℕ). count_by (is_end pair.class Out) (take n marks)) (sym p_is) ∙ sym o.rank ∙ pair.output.before ∙ sym pair.input.before ∙ i.rank
          ∙ ap (λ (n : ℕ). count_by (is_end pair.class In) (take n marks)) q_is
          ∙ sym (counted h.keys In (key_of into.0) pair.class q events marks into_class h.are);
    }

-- the mark of an event that goes one way
pub record HasMark (keys : List Key) (marks : List (Option Mark)) (e : EventNode) (p : ℕ) (direction : Direction) : Type 0 where
  pub mark : Mark
  pub at : slice_get marks p ≡ Some (Some mark)
  pub way : mark.direction ≡ direction
  pub class : position (is_key (key_of e)) keys ≡ Some mark.class

has_mark : (keys : List Key) (events : List EventNode) (marks : List (Option Mark)) (p : ℕ) (e : EventNode) (direction : Direction) → AreMarks keys events marks → slice_get events p ≡ Some e → way e ≡ Some direction
    → HasMark keys marks e p direction
has_mark keys events marks p e direction h at goes_so = let t = mark_at keys events marks p e h at in by t.0 t.1 t.2
  where
    by : (m : Option Mark) → slice_get marks p ≡ Some m → IsMark keys e m → HasMark keys marks e p direction
    by None there is = let bad : None ≡ Some direction = sym is ∙ goes_so in cc
    by (Some m) there is = let both : Some m.direction ≡ Some direction = sym is.0 ∙ goes_so in record { mark = m; at = there; way = cc; class = is.1 }

-- a pair of events is a pair of ends
pair_down : (events : List EventNode) (marks : List (Option Mark)) (classes p q : ℕ) → AreMarked events marks classes → IsPaired events p q → IsPair (edges_from Out 0 marks) (edges_from In 0 marks) p q
pair_down events marks classes p q h pair =
    let out = has_mark h.keys events marks p pair.output Out h.are pair.output_at pair.puts in
    let into = has_mark h.keys events marks q pair.input In h.are pair.input_at pair.takes in
    let o = at_edge Out 0 marks p out.mark out.at out.way in
    let i = at_edge In 0 marks q into.mark into.at into.way in
    let p_is : 0 + p ≡ p = omega arith in
    let q_is : 0 + q ≡ q = omega arith in
    let moved : position (is_key (key_of pair.input)) h.keys ≡ Some out.mark.class = subst (λ (k : Key). position (is_key k) h.keys ≡ Some out.mark.class) pair.same out.class in
    let both : Some into.mark.class ≡ Some out.mark.class = sym into.class ∙ moved in
    let class : into.mark.class ≡ out.mark.class = cc in
    let c : ℕ = out.mark.class in
    let in_at : slice_get (edges_from In 0 marks) i.i ≡ Some (record { from = c; to = q }) =
    i.at ∙ ap₂ (λ (x y : ℕ). let r : Edge = record { from = x; to = y } in Some r) class q_is in
    let out_at : slice_get (edges_from Out 0 marks) o.i ≡ Some (record { from = c; to = p }) =
    o.at ∙ ap (λ (y : ℕ). let r : Edge = record { from = c; to = y } in Some r) p_is in
    let in_rank : count c (take i.i (edges_from In 0 marks)) ≡ count_by (is_end c In) (take q marks) =
    subst (λ (x : ℕ). count x (take i.i (edges_from In 0 marks)) ≡ count_by (is_end x In) (take q marks)) class i.rank in
    record {
      class = c;
      k = count_by (is_end c Out) (take p marks);
      output = record { i = o.i; at = out_at; before = o.rank };
      input = record {
        i = i.i;
        at = in_at;
        before = in_rank ∙ sym (counted h.keys In (key_of pair.input) c q events marks moved h.are) ∙ sym pair.ranked ∙ counted h.keys Out (key_of pair.output) c p events marks out.class h.are;
      };
    }

pub leads_pairs : (events : List EventNode) (marks : List (Option Mark)) (classes : ℕ) (pairs : List Edge) → AreMarked events marks classes
    → ((p q : ℕ) → (EdgeLeads pairs p q → IsPair (edges_from Out 0 marks) (edges_from In 0 marks) p q) × (IsPair (edges_from Out 0 marks) (edges_from In 0 marks) p q → EdgeLeads pairs p q))
    → LeadsPairs events pairs
leads_pairs events marks classes pairs h exact = λ p q. (λ l. pair_up events marks classes p q h ((exact p q).0 l), λ i. (exact p q).1 (pair_down events marks classes p q h i))

-- the pairs that were found of the ends lead from each output to its input
pub pairs_found : {E : Type 0} (events : List EventNode) (marks : List (Option Mark)) (classes : ℕ) (outs ins : List Edge) (result : Result (Vec Edge Global) E) → AreMarked events marks classes
    → outs ≡ edges_from Out 0 marks → ins ≡ edges_from In 0 marks → IfOk result (λ pairs. (p q : ℕ) → EdgeLeads pairs.items p q ↔ IsPair outs ins p q) → IfOk result (λ pairs. LeadsPairs events pairs.items)
pairs_found events marks classes outs ins (Err e) h o i found = found
pairs_found events marks classes outs ins (Ok pairs) h o i found = leads_pairs events marks classes pairs.items h (λ p q. rw (sym o, sym i) (found p q))

-- each class is one of those counted
pub classes_low : (events : List EventNode) (marks : List (Option Mark)) (classes : ℕ) (direction : Direction) → AreMarked events marks classes → All (λ (e : Edge). e.from < classes) (edges_from direction 0 marks)
classes_low events marks classes direction h = edges_low direction marks classes (λ i m at. subst (λ (n : ℕ). m.class < n) h.count (class_low h.keys events marks i m h.are at))
