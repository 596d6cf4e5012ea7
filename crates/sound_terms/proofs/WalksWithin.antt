-- Walks stay within the nodes of their graph.
use Rattle.std.specs.Prelude.{ℕ, ◌<◌, Bool, true, false, List, [], ◌≡◌, None}
use Rattle.std.proofs.Common.{refl}
use Rattle.hmsc_graph.specs.Graphs.{Net, Spot, Start, At, Goal, End, behind, arrives, WalkThrough, last, step}
use Rattle.msc_base.specs.Lists.{IsIn}
use Rattle.hmsc_graph.specs.Nets.{IsNet, size_of}
use Rattle.hmsc_graph.specs.Walks.{IsFirstEndless}
use Rattle.std.proofs.lemmas.Bool.Decides.{Decides-eqb}
use Rattle.sound_terms.specs.FormLaws.{WalksStayWithin}

module _ (g : Net) (all : List ℕ) (net : IsNet g) (has : (m : ℕ) → m < size_of g → IsIn m all) where
  next_in : (f : Spot) (m : ℕ) → IsIn m (behind g f) → IsIn m all
  next_in Start m i = has m (net.starts_below m i)
  next_in (At k) m i = has m (net.next_below k m i)

  pub walk_within : {passed : List ℕ} {f : Spot} {t : Goal} → WalkThrough g passed f t → WalkThrough g all f t
  walk_within (last m i e) = last m i e
  walk_within {f = f} (step m i j w) = step m i (next_in f m i) (walk_within w)

  -- where no node is endless a first node leads to an end
  end_walk : (m : ℕ) → IsFirstEndless g None → IsIn m g.starts → WalkThrough g all Start End
  end_walk m h i = by (arrives g End m) refl
    where
      by : (b : Bool) → arrives g End m ≡ b → WalkThrough g all Start End
      by true e = last m i e
      by false e = let (passed, w) = h m ([], last m i ((Decides-eqb m m).1 refl)) e in step m i (next_in Start m i) (walk_within w)

pub walks_stay_within : WalksStayWithin
walks_stay_within = record {
  within = λ g passed all f t n h w. walk_within g all n h w;
  ends = λ g all m n h e i. end_walk g all n h m e i;
}
