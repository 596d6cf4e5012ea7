-- The normal form of a row is made part by part from its end.
use Rattle.std.specs.Prelude.{ℕ, zero, suc, Bool, true, false, List, [], ◌∷◌, ◌≡◌, ◌||◌, Option, Some, None, refl}
use Rattle.std.proofs.Common.{ap, ◌∙◌}
use Rattle.chart_term.specs.NormalForms.{cut, cut_gaps, put_turn, drop_nil, at_zero, live, live_gap, is_nil, has_free, free_gap, drop_free, thin, loop_of}
use Rattle.chart_term.specs.Terms.{Tree, Nil, Event, Join, Choice, Tied, Loop, Walk, Part, Gap, Turn}
use Rattle.term_permission.specs.RowRests.{RowRest, no_rest, turn_before, gap_before, tried_before, open_before, rest_of, rest_end}

module _ (p : List ℕ → Option Tree) where
  -- the steps behind the dropping of dead gaps
  abbrev after_live : List Part → RowRest
  after_live qs = record { parts = thin (drop_free p qs); free = has_free p qs }

  abbrev after_zero : Option ℕ → List Part → RowRest
  after_zero hi qs = after_live (live p (at_zero hi qs))

  live_step : (c : List ℕ) (qs : List Part) (o : Option Tree) → p c ≡ o → after_live (live_gap o c (live p qs)) ≡ tried_before o c (after_live (live p qs))
  live_step c qs None e = refl
  live_step c qs (Some x) e = at (live p qs) (is_nil (Some x)) (ap is_nil e)
    where
      at : (rs : List Part) (t : Bool) → is_nil (p c) ≡ t → after_live (Gap c ∷ rs) ≡ gap_before t c (after_live rs)
      at rs true q = λ i. record { parts = thin (free_gap (q i) c (drop_free p rs)); free = q i || has_free p rs }
      at rs false q = λ i. record { parts = thin (free_gap (q i) c (drop_free p rs)); free = q i || has_free p rs }

  gap_step : (hi : Option ℕ) (c : List ℕ) (qs : List Part) → after_zero hi (Gap c ∷ qs) ≡ open_before hi (p c) c (after_zero hi qs)
  gap_step None c qs = live_step c qs (p c) refl
  gap_step (Some zero) c qs = refl
  gap_step (Some (suc n)) c qs = live_step c qs (p c) refl

  turn_step : (hi : Option ℕ) (x : Tree) (qs : List Part) → after_zero hi (put_turn x qs) ≡ turn_before x (after_zero hi qs)
  turn_step None Nil qs = refl
  turn_step None (Event e) qs = refl
  turn_step None (Join m xs) qs = refl
  turn_step None (Choice xs) qs = refl
  turn_step None (Tied x q) qs = refl
  turn_step None (Loop x lo h r) qs = refl
  turn_step None (Walk n s t c) qs = refl
  turn_step (Some zero) Nil qs = refl
  turn_step (Some zero) (Event e) qs = refl
  turn_step (Some zero) (Join m xs) qs = refl
  turn_step (Some zero) (Choice xs) qs = refl
  turn_step (Some zero) (Tied x q) qs = refl
  turn_step (Some zero) (Loop x lo h r) qs = refl
  turn_step (Some zero) (Walk n s t c) qs = refl
  turn_step (Some (suc n)) Nil qs = refl
  turn_step (Some (suc n)) (Event e) qs = refl
  turn_step (Some (suc n)) (Join m xs) qs = refl
  turn_step (Some (suc n)) (Choice xs) qs = refl
  turn_step (Some (suc n)) (Tied x q) qs = refl
  turn_step (Some (suc n)) (Loop x lo h r) qs = refl
  turn_step (Some (suc n)) (Walk k s t c) qs = refl

  none_step : (hi : Option ℕ) → after_zero hi [] ≡ no_rest
  none_step None = refl
  none_step (Some zero) = refl
  none_step (Some (suc n)) = refl

  rest_is : (all : List ℕ) (hi : Option ℕ) (ps : List Part) → after_zero hi (drop_nil (cut_gaps all ps)) ≡ rest_of p all hi ps
  rest_is all hi [] = none_step hi
  rest_is all hi (Gap c ∷ ps) = gap_step hi (cut all c) (drop_nil (cut_gaps all ps)) ∙ ap (open_before hi (p (cut all c)) (cut all c)) (rest_is all hi ps)
  rest_is all hi (Turn x ∷ ps) = turn_step hi x (drop_nil (cut_gaps all ps)) ∙ ap (turn_before x) (rest_is all hi ps)

  pub turns-rest : (all : List ℕ) (x : Tree) (lo : ℕ) (hi : Option ℕ) (ps : List Part) → loop_of p all x lo hi ps ≡ rest_end x lo hi (rest_of p all hi ps)
  turns-rest all x lo hi ps = ap (rest_end x lo hi) (rest_is all hi ps)
