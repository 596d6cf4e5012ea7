-- The stops of a walk, by what the code tells of a net and a node.
use Rattle.std.specs.Prelude.{ℕ, zero, suc, ◌+◌, ◌-◌, ◌<◌, ◌≤◌, ◌≡◌, ◌==◌, Bool, true, false, List, [], ◌∷◌, Some, None, refl, length, slice_get, ◌||◌, ◌↔◌, IsTrue}
use Rattle.std.specs.List.{list_any}
use Rattle.std.proofs.lemmas.Bool.Decides.{nat_tests}
use Rattle.std.proofs.Common.{get_or, ap, sym, subst, ◌∙◌, arith, inl, inr}
use Rattle.std.proofs.lemmas.Option.{slice_get_within}
use Rattle.msc_base.specs.Lists.{IsIn}
use Rattle.hmsc_graph.specs.Graphs.{Spot, Start, At, End, Net, behind, arrives}
use Rattle.hmsc_graph.specs.Nets.{IsNet, size_of}
use Rattle.hmsc_graph.specs.Spots.{spot_of, IsSpotBelow}
use Rattle.hmsc_graph.specs.declared.spot.Spot.{Spot as SpotValue}
use Rattle.hmsc_graph.specs.declared.spot.Spot.TheVariants as spot
use Rattle.chart_term.specs.Tables.{NetEntry, Tables, choose, net_count, net_of, node_of, terms_over}
use Rattle.chart_term.specs.Terms.{Tree}
use Rattle.term_laws.proofs.TidyTables.{same_is}
use Rattle.certificates.specs.Lines.{Line, NodeLine}
use Rattle.empty_terms.specs.Outlines.{IsAt, IsNetAt, IsOutline}
use Rattle.empty_terms.specs.declared.outline.Outline.{Outline}
use Rattle.certificate_checking.specs.Tasks.{IsStepBy}
use Rattle.certificate_checking.specs.declared.step.Task.TheVariants as task
use Rattle.certificate_checking.proofs.Going.{last_stop, inner_stop, no_stop}
use Rattle.certificate_checking.proofs.Stepping.{to, both}

-- ---- the nodes that come next

same_node_number : (m n : ℕ) → (m == n) ≡ true → m ≡ n
same_node_number m n e = grind (arith, nat_tests)

abbrev met : ℕ → List ℕ → Bool
met node xs = list_any (λ m. m == node) xs

any_by : (node x : ℕ) (xs : List ℕ) (b : Bool) → (x == node) ≡ b → (met node xs ≡ true → IsIn node xs) → met node (x ∷ xs) ≡ true → IsIn node (x ∷ xs)
any_by node x xs true q h e = inl (sym (same_node_number x node q))
any_by node x xs false q h e = inr (h (sym (ap (λ b. b || met node xs) q) ∙ e))

any_in : (node : ℕ) (xs : List ℕ) → met node xs ≡ true → IsIn node xs
any_in node [] e = cc
any_in node (x ∷ xs) e = any_by node x xs (x == node) refl (any_in node xs) e

in_by : (node x : ℕ) (xs : List ℕ) (b : Bool) → (x == node) ≡ b → met node xs ≡ true → met node (x ∷ xs) ≡ true
in_by node x xs true q h = ap (λ b. b || met node xs) q
in_by node x xs false q h = ap (λ b. b || met node xs) q ∙ h

in_any : (node : ℕ) (xs : List ℕ) → IsIn node xs → met node xs ≡ true
in_any node [] h = absurd h
in_any node (x ∷ xs) (inl e) = let q : (x == node) ≡ true = grind (arith, nat_tests) in ap (λ b. b || met node xs) q
in_any node (x ∷ xs) (inr h) = in_by node x xs (x == node) refl (in_any node xs h)

-- a node is one of these exactly where the test says so
pub any_is_in : (node : ℕ) (xs : List ℕ) (b : Bool) → b ≡ list_any (λ m. m == node) xs → IsTrue b ↔ IsIn node xs
any_is_in node xs b e = (λ t. any_in node xs (sym e ∙ t), λ h. e ∙ in_any node xs h)

-- there is no net of such a number
net_by : (e : NetEntry) (es : Tables) (n : ℕ) (f : Spot) (m : ℕ) (b : Bool) → (n == net_count es) ≡ b → (IsIn m (behind (net_of es n) f) → n < net_count es) → IsIn m (behind (net_of (e ∷ es) n) f) → n < suc (net_count es)
net_by e es n f m true q h i = same_is n (net_count es) q
net_by e es n f m false q h i = let r = h (subst (λ (c : Bool). IsIn m (behind (choose c e.net (net_of es n)) f)) q i) in omega (arith, r)

no_net : (w : Tables) (n : ℕ) (f : Spot) (m : ℕ) → IsIn m (behind (net_of w n) f) → n < net_count w
no_net [] n Start m h = absurd h
no_net [] n (At k) m h = absurd h
no_net (e ∷ es) n f m h = net_by e es n f m (n == net_count es) refl (no_net es n f m) h

-- a spot that is no node of the net
no_spot : (w : Tables) (n m : ℕ) (f : SpotValue) → IsNet (net_of w n) → IsIn m (behind (net_of w n) (spot_of f)) → IsSpotBelow (size_of (net_of w n)) f
no_spot w n m spot.Start g h = tt
no_spot w n m (spot.Node k) g h = below (net_of w n).next k (size_of (net_of w n)) g.each h
  where
    below : (ls : List (List ℕ)) (k size : ℕ) → length ls ≡ size → IsIn m (get_or ls k []) → k < size
    below [] k size e i = absurd i
    below (l ∷ ls) zero size e i = omega arith
    below (l ∷ ls) (suc k) zero e i = absurd (omega arith)
    below (l ∷ ls) (suc k) (suc size) e i = let r = below ls k size (omega arith) i in omega arith

-- a node behind a spot of a net
pub behind_net : (w : Tables) (n m : ℕ) (f : SpotValue) → IsIn m (behind (net_of w n) (spot_of f)) → n < net_count w
behind_net w n m f h = no_net w n (spot_of f) m h

pub behind_spot : (w : Tables) (n m : ℕ) (f : SpotValue) → IsNet (net_of w n) → IsIn m (behind (net_of w n) (spot_of f)) → IsSpotBelow (size_of (net_of w n)) f
behind_spot = no_spot

pub below_net : (g : Net) (m : ℕ) (f : SpotValue) → IsNet g → IsIn m (behind g (spot_of f)) → m < size_of g
below_net g m spot.Start net h = net.starts_below m h
below_net g m (spot.Node k) net h = net.next_below k m h

pub no_net_there : (w : Tables) (n m : ℕ) (f : SpotValue) → net_count w ≤ n → IsTrue false ↔ IsIn m (behind (net_of w n) (spot_of f))
no_net_there w n m f l = (λ t. false-true t, λ h. absurd (let r = behind_net w n m f h in omega arith))
  where
    false-true : {A : Type 0} → false ≡ true → A
    false-true e = cc

-- ---- the stops

-- the term of a node of an outline
pub node_there : (w : Tables) (x : Tree) (o : Outline) → IsOutline w x o → (n m r : ℕ) → n < net_count w → slice_get o.roots.items (length o.roots.items - suc n) ≡ Some r → m < size_of (net_of w n)
    → IsAt o.terms (r + m) (node_of w n m)
node_there w x o h n m r below at within =
    let same : net_count w - suc (length o.roots.items - suc n) ≡ n = let e = h.each in omega arith in
    (subst (λ (k : ℕ). IsNetAt w o.terms k r) same (h.outlined.nets (length o.roots.items - suc n) r at)).nodes m within

pub node_within : (w : Tables) (x : Tree) (o : Outline) → IsOutline w x o → (n m r : ℕ) → n < net_count w → slice_get o.roots.items (length o.roots.items - suc n) ≡ Some r → m < size_of (net_of w n)
    → r + m < length o.terms
node_within w x o h n m r below at within = slice_get_within o.terms (r + m) (node_of w n m) (node_there w x o h n m r below at within)

module _ (w : Tables) (ts : List Tree) (net c : ℕ) (f : SpotValue) where
  pub inner_at : (m j : ℕ) → 1 < c → IsIn m (behind (net_of w net) (spot_of f)) → IsAt ts j (node_of w net m)
      → IsStepBy (terms_over w) ts (task.Stops net f c) (NodeLine m) (Some (both (task.Term j) (task.Stops net (spot.Node m) (c - 1))))
  inner_at m j l i at =
      let is : c ≡ suc (suc (c - 2)) = omega arith in
      let one : c - 1 ≡ suc (c - 2) = omega arith in
      subst (λ (n : ℕ). IsStepBy (terms_over w) ts (task.Stops net f n) (NodeLine m) (Some (both (task.Term j) (task.Stops net (spot.Node m) (c - 1))))) (sym is)
      (subst (λ (n : ℕ). IsStepBy (terms_over w) ts (task.Stops net f (suc (suc (c - 2)))) (NodeLine m) (Some (both (task.Term j) (task.Stops net (spot.Node m) n)))) (sym one)
      (inner_stop (terms_over w) ts net m j (c - 2) f (spot.Node m) refl i at))

  pub last_at : (m j : ℕ) → c ≡ 1 → IsIn m (behind (net_of w net) (spot_of f)) → arrives (net_of w net) End m ≡ true → IsAt ts j (node_of w net m)
      → IsStepBy (terms_over w) ts (task.Stops net f c) (NodeLine m) (Some (to (task.Term j)))
  last_at m j e i a at = subst (λ (n : ℕ). IsStepBy (terms_over w) ts (task.Stops net f n) (NodeLine m) (Some (to (task.Term j)))) (sym e) (last_stop (terms_over w) ts net m j f i a at)

  same_node : (m k : ℕ) → NodeLine m ≡ NodeLine k → m ≡ k
  same_node m k e = cc

  pub no_end : (m : ℕ) → c ≡ 1 → arrives (net_of w net) End m ≡ false → IsStepBy (terms_over w) ts (task.Stops net f c) (NodeLine m) None
  no_end m e a = no_stop (terms_over w) ts net c f (NodeLine m) (λ k s i h l. false-true (sym (ap (λ (z : ℕ). arrives (net_of w net) End z) (sym (same_node m k s)) ∙ a) ∙ h e))
    where
      false-true : false ≡ true → ⊥
      false-true q = cc

  pub no_count : (l : Line) → c ≡ 0 → IsStepBy (terms_over w) ts (task.Stops net f c) l None
  no_count l e = no_stop (terms_over w) ts net c f l (λ k s i h p. absurd (omega arith))

  pub none_behind : (m : ℕ) → (IsIn m (behind (net_of w net) (spot_of f)) → ⊥) → IsStepBy (terms_over w) ts (task.Stops net f c) (NodeLine m) None
  none_behind m n = no_stop (terms_over w) ts net c f (NodeLine m) (λ k s i h p. n (subst (λ (z : ℕ). IsIn z (behind (net_of w net) (spot_of f))) (sym (same_node m k s)) i))

  pub no_node : (l : Line) → ((m : ℕ) → l ≡ NodeLine m → ⊥) → IsStepBy (terms_over w) ts (task.Stops net f c) l None
  no_node l n = no_stop (terms_over w) ts net c f l (λ k s i h p. n k s)

pub ruleset stops = (any_is_in, behind_net, behind_spot, below_net)
