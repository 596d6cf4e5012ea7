-- Patterns without events, and turns without events up to the lower count of a loop.
use Rattle.std.specs.Prelude.{ℕ, zero, suc, ◌+◌, ◌-◌, ◌≤◌, false, List, [], ◌∷◌, ◌⊎◌, Option, Some, None}
use Rattle.std.proofs.Common.{zero-add, suc-add, arith, inl, inr}
use Rattle.msc_base.specs.Patterns.{seq, empty, one, join, bind}
use Rattle.chart_term.specs.NormalForms.{only}
use Rattle.chart_term.specs.TermMeanings.{NetTerms, HasPattern, holds_loop, HasRow, gaps_turn, gaps_more, UpTo}
use Rattle.chart_term.specs.TermPatterns.{Shape, Avoids, HasNoEvent, ◌≈◌, same, on, in_join, left, bind_none, bind_as, Occurs}
use Rattle.chart_term.specs.Terms.{Block, Tree, Loop, Row, parts, Part, Gap, Turn}
use Rattle.term_laws.specs.Taking.{HasGap}
use Rattle.certificates.specs.Certificates.{HasEmpty}

no_occurs : (s : Shape) (n : ℕ) → HasNoEvent s → Occurs n s → ⊥
no_occurs empty n h i = i
no_occurs (one e) n h i = h
no_occurs (join m x y) n h (inl i) = no_occurs x n h.0 i
no_occurs (join m x y) n h (inr i) = no_occurs y n h.1 i
no_occurs (bind x q) n h i = no_occurs x n h i

-- a pattern without events is the empty one
pub none_is_empty : (s : Shape) → HasNoEvent s → s ≈ empty
none_is_empty empty h = same
none_is_empty (one e) h = absurd h
none_is_empty (join m x y) h = on (in_join (none_is_empty x h.0) (none_is_empty y h.1)) left
none_is_empty (bind x q) h = on (bind_as (λ m n i j. absurd (no_occurs x m h i))) (on bind_none (none_is_empty x h))

no_event_avoids : (b : Block) (s : Shape) → HasNoEvent s → Avoids b s
no_event_avoids b empty h = tt
no_event_avoids b (one e) h = absurd h
no_event_avoids b (join m x y) h = (no_event_avoids b x h.0, no_event_avoids b y h.1)
no_event_avoids b (bind x q) h = no_event_avoids b x h

module _ (w : NetTerms) (x : Tree) (h : HasEmpty w x) where
  -- a turn without events, in some gap
  one_more : (ps : List Part) → HasGap ps → (n : ℕ) (u : Shape) → HasRow w false x ps n u → (t : Shape) × HasRow w false x ps (suc n) t × (t ≈ u)
  one_more [] g n u r = absurd g
  one_more (Gap c ∷ ps) g n u r = (join seq h.pattern u, gaps_more h.has (no_event_avoids (only c) h.pattern h.none) r, on (in_join (none_is_empty h.pattern h.none) same) left)
  one_more (Turn y ∷ ps) g n _ (gaps_turn {s = s} a r) = let (t, i, e) = one_more ps g n _ r in (join seq s t, gaps_turn a i, in_join same e)

  padded : (ps : List Part) → HasGap ps → (n k : ℕ) (u : Shape) → HasRow w false x ps n u → (t : Shape) × HasRow w false x ps (k + n) t × (t ≈ u)
  padded ps g n zero u r = (u, rw zero-add r, same)
  padded ps g n (suc k) u r = let (t, i, e) = padded ps g n k u r in let (v, j, f) = one_more ps g (k + n) t i in (v, rw suc-add j, on f e)

up_by : (hi : Option ℕ) (lo n : ℕ) → UpTo hi lo → UpTo hi n → UpTo hi ((lo - n) + n)
up_by None lo n h g = tt
up_by (Some m) lo n h g = omega arith

-- a row of fewer turns than the lower count is a pattern of the loop, where turns without events may stand in it
pub padded_loop : (w : NetTerms) (x : Tree) (lo : ℕ) (hi : Option ℕ) (r : Row) → UpTo hi lo → (n : ℕ) (u : Shape) → HasRow w false x (parts r) n u → UpTo hi n → (lo ≤ n) ⊎ (HasGap (parts r) × HasEmpty w x)
    → (t : Shape) × HasPattern w false (Loop x lo hi r) t × (t ≈ u)
padded_loop w x lo hi r c n u a g (inl l) = (u, holds_loop n a l g, same)
padded_loop w x lo hi r c n u a g (inr l) = let (t, i, e) = padded w x l.1 (parts r) l.0 n (lo - n) u a in (t, holds_loop ((lo - n) + n) i (omega arith) (up_by hi lo n c g), e)
