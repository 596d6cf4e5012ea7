-- The edges of one direction are the marks of that direction, with their ranks.
use Rattle.std.proofs.Common.{◌≡◌, ℕ, ◌<◌, ◌≤◌, ◌+◌, List, [], ◌∷◌, ◌++◌, Option, Some, None, slice_get, take, drop, Bool, true, false, zero, suc, arith, refl, sym, ap, ◌∙◌, subst, nat_eq, if◌then◌else◌, ◌&&◌, All, get_or}
use Rattle.std.specs.List.{count_by}
use Rattle.std.proofs.lemmas.Option.{slice_get-get_or}
use Rattle.std.proofs.lemmas.List.{append_assoc}
use Rattle.list_facts.proofs.Reading.{drop_get}
use Rattle.column_order.specs.declared.edge.Edge.{Edge}
use Rattle.column_order.specs.Pairing.{count, RiseTo}
use Rattle.level_weaving.specs.declared.matching.Mark.{Mark}
use Rattle.msc_tree.specs.declared.event.Direction.{Direction}
use Rattle.msc_tree.specs.declared.event.Direction.TheVariants.{Out, In}
use Rattle.msc_tree.specs.Directions.{is_direction}
use Rattle.level_weaving.specs.Marks.{is_end, end_edges, edges_from}
use Rattle.level_weaving.proofs.Counts.{count_cons}

-- two directions are one where the test says so
same_way : (a b : Direction) → is_direction a b ≡ true → b ≡ a
same_way Out Out e = refl
same_way Out In e = cc
same_way In Out e = cc
same_way In In e = refl

way_same : (a b : Direction) → b ≡ a → is_direction a b ≡ true
way_same Out Out e = refl
way_same Out In e = cc
way_same In Out e = cc
way_same In In e = refl

-- an edge's mark, and its rank among the marks
pub record IsEdge (direction : Direction) (n : ℕ) (marks : List (Option Mark)) (edges : List Edge) (i c p : ℕ) : Type 0 where
  pub place : ℕ
  pub mark : Mark
  pub number : p ≡ n + place
  pub at : slice_get marks place ≡ Some (Some mark)
  pub way : mark.direction ≡ direction
  pub class : mark.class ≡ c
  pub rank : count c (take i edges) ≡ count_by (is_end c direction) (take place marks)

-- an edge of the later marks, where the edges count the first mark as it counts
later_edge : (direction : Direction) (n : ℕ) (m : Option Mark) (marks : List (Option Mark)) (edges more : List Edge) (i j c p : ℕ)
    → count c (take j more) ≡ (if is_end c direction m then 1 else 0) + count c (take i edges) → IsEdge direction (suc n) marks edges i c p → IsEdge direction n (m ∷ marks) more j c p
later_edge direction n m marks edges more i j c p counts r = record {
  place = suc r.place;
  mark = r.mark;
  number = omega (arith, r.number);
  at = r.at;
  way = r.way;
  class = r.class;
  rank = omega (arith, counts, r.rank, count_cons (is_end c direction) m (take r.place marks));
}

-- a mark of the other direction, or none, counts nothing
passed : (direction : Direction) (n : ℕ) (m : Option Mark) (marks : List (Option Mark)) (edges : List Edge) (i c p : ℕ) → is_end c direction m ≡ false → IsEdge direction (suc n) marks edges i c p → IsEdge direction n (m ∷ marks) edges i c p
passed direction n m marks edges i c p f r =
    let none : ◌≡◌ {A = ℕ} (if is_end c direction m then 1 else 0) 0 = ap (λ (t : Bool). if t then 1 else 0) f in
    later_edge direction n m marks edges edges i i c p (omega (arith, none)) r

pub edge_at : (direction : Direction) (n : ℕ) (marks : List (Option Mark)) (i c p : ℕ) → slice_get (edges_from direction n marks) i ≡ Some (record { from = c; to = p })
    → IsEdge direction n marks (edges_from direction n marks) i c p
edge_at direction n [] i c p h = cc
edge_at direction n (None ∷ marks) i c p h = passed direction n None marks (edges_from direction (suc n) marks) i c p refl (edge_at direction (suc n) marks i c p h)
edge_at direction n (Some m ∷ marks) i c p h = by (is_direction direction m.direction) refl (λ j g. edge_at direction (suc n) marks j c p g) i h
  where
    by : (b : Bool) → is_direction direction m.direction ≡ b → ((j : ℕ) → slice_get (edges_from direction (suc n) marks) j ≡ Some (record { from = c; to = p }) → IsEdge direction (suc n) marks (edges_from direction (suc n) marks) j c p)
        → (i : ℕ) → slice_get ((if b then (record { from = m.class; to = n }) ∷ [] else []) ++ edges_from direction (suc n) marks) i ≡ Some (record { from = c; to = p })
        → IsEdge direction n (Some m ∷ marks) ((if b then (record { from = m.class; to = n }) ∷ [] else []) ++ edges_from direction (suc n) marks) i c p
    by true e rest zero h =
        let edge : Edge = record { from = m.class; to = n } in
        let other : Edge = record { from = c; to = p } in
        let same : edge ≡ other = cc in
        record {
          place = zero;
          mark = m;
          number = omega (arith, ap (λ (x : Edge). x.to) same);
          at = refl;
          way = same_way direction m.direction e;
          class = ap (λ (x : Edge). x.from) same;
          rank = refl;
        }
    by true e rest (suc i) h =
        let edges = edges_from direction (suc n) marks in
        let edge : Edge = record { from = m.class; to = n } in
        let test : is_end c direction (Some m) ≡ nat_eq m.class c = ap (λ (t : Bool). t && nat_eq m.class c) e in
        let one : ◌≡◌ {A = ℕ} (if is_end c direction (Some m) then 1 else 0) (if nat_eq m.class c then 1 else 0) = ap (λ (t : Bool). if t then 1 else 0) test in
        let counts : count c (take (suc i) (edge ∷ edges)) ≡ (if is_end c direction (Some m) then 1 else 0) + count c (take i edges) = omega (arith, one) in
        later_edge direction n (Some m) marks edges (edge ∷ edges) i (suc i) c p counts (rest i h)
    by false e rest i h =
        let test : is_end c direction (Some m) ≡ false = ap (λ (t : Bool). t && nat_eq m.class c) e in
        passed direction n (Some m) marks (edges_from direction (suc n) marks) i c p test (rest i h)

-- a mark's edge
pub record HasEdge (direction : Direction) (marks : List (Option Mark)) (edges : List Edge) (place c p : ℕ) : Type 0 where
  pub i : ℕ
  pub at : slice_get edges i ≡ Some (record { from = c; to = p })
  pub rank : count c (take i edges) ≡ count_by (is_end c direction) (take place marks)

skipped : (direction : Direction) (m : Option Mark) (marks : List (Option Mark)) (edges : List Edge) (place c p : ℕ) → is_end c direction m ≡ false → HasEdge direction marks edges place c p → HasEdge direction (m ∷ marks) edges (suc place) c p
skipped direction m marks edges place c p f r =
    let none : ◌≡◌ {A = ℕ} (if is_end c direction m then 1 else 0) 0 = ap (λ (t : Bool). if t then 1 else 0) f in
    record { i = r.i; at = r.at; rank = omega (arith, none, r.rank, count_cons (is_end c direction) m (take place marks)) }

moved : (direction : Direction) (marks : List (Option Mark)) (edges : List Edge) (place c p q : ℕ) → p ≡ q → HasEdge direction marks edges place c p → HasEdge direction marks edges place c q
moved direction marks edges place c p q e r = subst (λ (x : ℕ). HasEdge direction marks edges place c x) e r

pub at_edge : (direction : Direction) (n : ℕ) (marks : List (Option Mark)) (place : ℕ) (m : Mark) → slice_get marks place ≡ Some (Some m) → m.direction ≡ direction
    → HasEdge direction marks (edges_from direction n marks) place m.class (n + place)
at_edge direction n [] place m h w = cc
at_edge direction n (None ∷ marks) zero m h w = cc
at_edge direction n (None ∷ marks) (suc place) m h w =
    skipped direction None marks (edges_from direction (suc n) marks) place m.class (n + suc place) refl
    (moved direction marks (edges_from direction (suc n) marks) place m.class (suc n + place) (n + suc place) (omega arith) (at_edge direction (suc n) marks place m h w))
at_edge direction n (Some k ∷ marks) zero m h w = by (is_direction direction k.direction) refl
  where
    by : (b : Bool) → is_direction direction k.direction ≡ b → HasEdge direction (Some k ∷ marks) ((if b then (record { from = k.class; to = n }) ∷ [] else []) ++ edges_from direction (suc n) marks) zero m.class (n + zero)
    by true e =
        let one : k ≡ m = cc in
        let edge : Edge = record { from = k.class; to = n } in
        let other : Edge = record { from = m.class; to = n + zero } in
        let to : n ≡ n + zero = omega arith in
        let same : edge ≡ other = ap (λ (x : Mark). let r : Edge = record { from = x.class; to = n } in r) one ∙ ap (λ (x : ℕ). let r : Edge = record { from = m.class; to = x } in r) to in
        record { i = zero; at = ap (λ (x : Edge). Some x) same; rank = refl }
    by false e =
        let one : k ≡ m = cc in
        let bad : is_direction direction k.direction ≡ true = way_same direction k.direction (ap (λ (x : Mark). x.direction) one ∙ w) in
        let no_way : false ≡ true = sym e ∙ bad in cc
at_edge direction n (Some k ∷ marks) (suc place) m h w =
    by (is_direction direction k.direction) refl (moved direction marks (edges_from direction (suc n) marks) place m.class (suc n + place) (n + suc place) (omega arith) (at_edge direction (suc n) marks place m h w))
  where
    by : (b : Bool) → is_direction direction k.direction ≡ b → HasEdge direction marks (edges_from direction (suc n) marks) place m.class (n + suc place) → HasEdge direction (Some k ∷ marks) ((if b then (record { from = k.class; to = n }) ∷ [] else []) ++ edges_from direction (suc n) marks) (suc place) m.class (n + suc place)
    by true e rest =
        let test : is_end m.class direction (Some k) ≡ nat_eq k.class m.class = ap (λ (t : Bool). t && nat_eq k.class m.class) e in
        let one : ◌≡◌ {A = ℕ} (if is_end m.class direction (Some k) then 1 else 0) (if nat_eq k.class m.class then 1 else 0) = ap (λ (t : Bool). if t then 1 else 0) test in
        record { i = suc rest.i; at = rest.at; rank = omega (arith, one, rest.rank, count_cons (is_end m.class direction) (Some k) (take place marks)) }
    by false e rest =
        let test : is_end m.class direction (Some k) ≡ false = ap (λ (t : Bool). t && nat_eq k.class m.class) e in
        skipped direction (Some k) marks (edges_from direction (suc n) marks) place m.class (n + suc place) test rest

-- each edge's class is low where each mark's is
pub edges_low : (direction : Direction) (marks : List (Option Mark)) (classes : ℕ) → ((i : ℕ) (m : Mark) → slice_get marks i ≡ Some (Some m) → m.class < classes)
    → All (λ (e : Edge). e.from < classes) (edges_from direction 0 marks)
edges_low direction marks classes low = λ k d lt.
    let r = edge_at direction 0 marks k (get_or (edges_from direction 0 marks) k d).from (get_or (edges_from direction 0 marks) k d).to (slice_get-get_or (edges_from direction 0 marks) k d lt) in
    subst (λ (x : ℕ). x < classes) r.class (low r.place r.mark r.at)

-- one mark more
pub edges_step : (direction : Direction) (marks : List (Option Mark)) (k : ℕ) (m : Option Mark) (held longer : List Edge) → slice_get marks k ≡ Some m → longer ≡ held ++ end_edges direction k m
    → longer ++ edges_from direction (k + 1) (drop (k + 1) marks) ≡ held ++ edges_from direction k (drop k marks)
edges_step direction marks k m held longer is e =
    let n : k + 1 ≡ suc k = omega arith in
    ap (λ l. l ++ edges_from direction (k + 1) (drop (k + 1) marks)) e ∙ append_assoc held (end_edges direction k m) (edges_from direction (k + 1) (drop (k + 1) marks))
    ∙ ap (λ (j : ℕ). held ++ (end_edges direction k m ++ edges_from direction j (drop (k + 1) marks))) n
    ∙ ap (λ ms. held ++ edges_from direction k ms) (sym (drop_get marks k m is))

rises_later : (n m : ℕ) (edges : List Edge) → n ≤ m → RiseTo m edges → RiseTo n edges
rises_later n m [] le h = tt
rises_later n m (e ∷ edges) le h = (omega (arith, le, h.0), h.1)

edge_rises : (direction : Direction) (n : ℕ) (mark : Option Mark) (edges : List Edge) → RiseTo (suc n) edges → RiseTo n (end_edges direction n mark ++ edges)
edge_rises direction n None edges h = rises_later n (suc n) edges (omega arith) h
edge_rises direction n (Some m) edges h = go (is_direction direction m.direction)
  where
    go : (b : Bool) → RiseTo n ((if b then (record { from = m.class; to = n }) ∷ [] else []) ++ edges)
    go true = (omega arith, h)
    go false = rises_later n (suc n) edges (omega arith) h

-- the ends of one direction rise
pub ends_rise : (direction : Direction) (n : ℕ) (marks : List (Option Mark)) → RiseTo n (edges_from direction n marks)
ends_rise direction n [] = tt
ends_rise direction n (m ∷ ms) = edge_rises direction n m (edges_from direction (suc n) ms) (ends_rise direction (suc n) ms)
