-- The laws of permission and taking, for every tidy term.
use Rattle.std.specs.Prelude.{ℕ, ◌≤◌, Bool, List, ◌≡◌, Some}
use Rattle.chart_term.specs.NormalForms.{NetPermits}
use Rattle.chart_term.specs.TermMeanings.{NetTerms, HasPattern, Taking, ◌⊑◌, Leaves, terms_of}
use Rattle.chart_term.specs.TermPatterns.{Shape, Takes}
use Rattle.chart_term.specs.Terms.{TermEvent, Block, has, Tree}
use Rattle.term_laws.specs.Permission.{permit}
use Rattle.term_laws.specs.Taking.{IsAfter}
use Rattle.term_laws.proofs.Permitting.{permit_law}
use Rattle.term_laws.proofs.Ranking.{rank, permit_rank}
use Rattle.term_laws.proofs.TakingSound.{after_sound}
use Rattle.term_laws.proofs.TakingWhole.{after_whole, Left}
use Rattle.term_laws.proofs.TidyKept.{AreExactNets, closed, good_ok, outs_fit}
use Rattle.term_laws.specs.Soundness.{IsFitting, IsTidy}

module _ (k : NetPermits) (node : ℕ → ℕ → Tree) (o : Bool) (NL : ℕ → ℕ → Type 0) (NG : ℕ → Type 0) (nets : AreExactNets k node o NL NG) (nr : ℕ → ℕ)
    (kept_rank : (n m : ℕ) (c : List ℕ) (x : Tree) → k.kept n m c ≡ Some x → rank nr x ≤ nr n) where
  abbrev w : NetTerms
  w = terms_of k node

  -- what permission leaves are exactly the patterns that avoid the block
  pub permission : (x : Tree) → IsTidy NL NG x → (b : Block) → ((j : ℕ) → has b.numbers j ≡ Bool.true → IsFitting NL j x) → Leaves w o b x (permit k b x)
  permission x g b h = permit_law k node o x (good_ok k node o NL NG nets x g) b (outs_fit k node o NL NG nets b x h)

  -- what is left after an event are exactly the patterns from which it was taken
  pub taking_sound : {x y : Tree} {e : TermEvent} → IsAfter k x e y → IsTidy NL NG x → HasPattern w o y ⊑ Taking e (HasPattern w o x)
  taking_sound = after_sound k node o (IsTidy NL NG) (closed k node o NL NG nets)

  pub taking_whole : (x : Tree) → IsTidy NL NG x → (s : Shape) (e : TermEvent) (t : Shape) → HasPattern w o x s → Takes s e t → Left k node o x e t
  taking_whole = after_whole k node o (IsTidy NL NG) (closed k node o NL NG nets) nr (permit_rank k nr) kept_rank
